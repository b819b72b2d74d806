-- A unit that is read: where its block is. Assumes nothing.
use Prim.Native.Nat.{ℕ, ◌+◌}
use mathlib.Core.Path.{◌≡◌, refl, sym, ◌∙◌}
use mathlib.Core.List.{List}
use mathlib.Core.Bool.{Bool, true, false, ◌&&◌}
use lib.Dec.{leb, ltb, eqb}
use lib.ListN.{length, get_or}
use borrow.Author.Tests.{leb-true, ltb-true}
use Rattle.definitions.specs.Answer.{ok}
use Rattle.definitions.specs.Bytes.{number}
use Rattle.definitions.specs.Tree.{Script, block_of}
use Rattle.definitions.specs.Read.{front_good, parse_stmt, parse_unit, unit_limit, depth_limit}
use Rattle.ir.specs.Places.{end_of, UnitAt}
use Rattle.laws.proofs.Inversion.{impossible}
use Rattle.ir.proofs.Inversion.{when_ok, run_ok, ended_ok}

all_five : (a b c d e : Bool) → a && b && c && d && e ≡ true → (b ≡ true) × (e ≡ true)
all_five true true true true true h = (refl, refl)
all_five true true true true false h = impossible (cc)
all_five true true true false e h = impossible (cc)
all_five true true false d e h = impossible (cc)
all_five true false c d e h = impossible (cc)
all_five false b c d e h = impossible (cc)

pub unit_at : (s : List ℕ) (u : Script) (n : ℕ) → parse_unit s ≡ ok u n → UnitAt s u n
unfolding parse_unit front_good
unit_at s u n e =
    let h = when_ok (front_good s) _ 1 0 0 e in
    let f = all_five (leb 6 (length s)) (leb (length s) unit_limit) (eqb (get_or s 0 0) 1) (eqb (5 + number 4 s 1) (length s)) (ltb (get_or s 5 0) 2) h.0 in
    let l = run_ok s (length s) (parse_stmt depth_limit s) _ 6 h.1 in
    let d = ended_ok 6 (length s) (record { returns = get_or s 5 0; body = block_of l.0 }) (end_of s 6) l.2 in
    record {
      body = l.0;
      short = leb-true (length s) unit_limit f.0;
      mark = ltb-true (get_or s 5 0) 2 f.1;
      run = rw d.0 at l.1;
      ends = sym d.2 ∙ d.0;
      tree = sym d.1;
    }
