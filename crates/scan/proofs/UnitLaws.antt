-- From a block that was found to a unit that fits. Assumes nothing.
use Prim.Native.Nat.{ℕ, ◌≤◌}
use mathlib.Core.Bool.{Bool, true}
use mathlib.Core.List.{List}
use mathlib.Core.Path.{◌≡◌, refl, sym, ◌∙◌}
use native.Mathlib.Omega.{arith}
use lib.Dec.{eqb}
use lib.ListN.{length, get_or}
use borrow.Author.Tests.{eq-eqb, eqb-true}
use Rattle.std.specs.Prelude.{Option, None, Some, IfSome}
use Rattle.std.specs.Option.{option_eq}
use Rattle.definitions.specs.Answer.{ok, bind}
use Rattle.definitions.specs.Tree.{Stmt, block_of}
use Rattle.definitions.specs.Read.{◌>>=◌, run, ended, parse_stmt, front_good, parse_unit, depth_limit}
use Rattle.definitions.specs.Lower.{outside}
use Rattle.laws.proofs.Inversion.{impossible}
use Rattle.ir.proofs.UnitLaws.{front_room}
use Rattle.scan.specs.Scanned.{Allows, BlockAt, Fits}
use Rattle.scan.specs.declared.fields.Left.{Left}
use Rattle.scan.proofs.TameLaws.{tame_more}

-- 1. The front

-- a front that is not refused
pub front_is_good : (s : List ℕ) (b : Bool) → b ≡ front_good s → b ≡ true → front_good s ≡ true
front_is_good s b e h = sym e ∙ h

pub front_six : (s : List ℕ) → front_good s ≡ true → 6 ≤ length s
front_six s g = front_room s (front_good s) refl g

-- 2. The unit

-- no break and no continue stands outside of every block
outside_allows : (r : ℕ) → Allows (outside r) r 0
outside_allows r = record { same = refl; breaks = λ l. absurd (omega (arith, l)); continues = λ l. absurd (omega (arith, l)) }

-- a block that ends with the unit
unit_reads : (s : List ℕ) (b : List Stmt) → front_good s ≡ true → run s (length s) (parse_stmt depth_limit s) 6 ≡ ok b (length s) → parse_unit s ≡ ok (record { returns = get_or s 5 0; body = block_of b }) (length s)
unfolding parse_unit ◌>>=◌ bind ended
unit_reads s b g e = rw (parse_unit, g, ◌>>=◌, e, bind, ended, eq-eqb (length s) (length s) refl)

-- the block at 6, with what the unit's return byte asks, found up to the unit's end
block_fits : (s : List ℕ) {u u' : Left} → front_good s ≡ true → BlockAt depth_limit s (length s) 6 (length s) (get_or s 5 0) 0 u u' → Fits s u.records u.labels
block_fits s g x =
    record {
      tree = record { returns = get_or s 5 0; body = block_of x.trees };
      next = length s;
      reads = unit_reads s x.trees g x.reads;
      tame = tame_more (x.tame (outside (get_or s 5 0)) (outside_allows (get_or s 5 0))) (omega (arith, x.paid.0)) (omega (arith, x.paid.1));
    }

-- and as the code asks for it
pub unit_fits : (s : List ℕ) (o : Option ℕ) (b : Bool) (v : ℕ) (u' : Left) {u : Left} → front_good s ≡ true → v ≡ get_or s 5 0 → IfSome o (λ r. BlockAt depth_limit s (length s) 6 r v 0 u u') → b ≡ option_eq eqb o (Some (length s)) → b ≡ true → Fits s u.records u.labels
unit_fits s None b v u' g e x q h = impossible (cc)
unit_fits s (Some r) b v u' g e x q h = block_fits s g (rw (e, eqb-true r (length s) (sym q ∙ h)) at x)
