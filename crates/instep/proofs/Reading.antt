-- What is known of bytes t as a unit s is read beside them, and what that is before each part of a node. Assumes nothing.
use Prim.Native.Nat.{ℕ, zero, suc, ◌-◌, ◌≤◌}
use mathlib.Core.Path.{◌≡◌}
use mathlib.Core.Bool.{true, false, cond}
use mathlib.Core.List.{List, [], ◌∷◌}
use mathlib.Core.Option.{Option, none, some}
use lib.Dec.{leb, ltb, eqb}
use Rattle.definitions.specs.Read.{unsigned, span, as_const}
use Rattle.definitions.specs.Strip.{Part, free, kept, small, constant, params, value, values, arguments, block, arms, value_if, block_if, expr_parts, stmt_parts, parts_of}
use Rattle.instep.specs.Moves.{Moves, moved_expr}
use Rattle.instep.proofs.InStep.{InStep}

-- 1. A reading of t beside s, where places, free fields and constants are changed as m says. A `Rest` says how t goes on: `After C n`, that t goes on as C says
-- when s has been read up to n. But for `stop`, a rest is made of what stands first and of the rest behind it, and the laws say that what stands first is read
-- in step

pub record Reading (s t : List ℕ) (m : Moves) : Type 1 where
  pub Rest : Type 0
  pub After : Rest → ℕ → Type 0
  -- no node that is read ends beyond it
  pub most : ℕ
  -- reading stops here, and nothing is said of what follows
  pub stop : Rest
  -- a field of w bytes that may not differ; one that may; a const byte and its payload
  pub keep : (end w : ℕ) → (ℕ → Rest) → Rest
  pub blank : (end w : ℕ) → (ℕ → Rest) → Rest
  pub payload : (end : ℕ) → Rest → Rest
  -- a length, and where what it counts ends
  pub measure : (end : ℕ) → (ℕ → Rest) → Rest
  -- reading has come to `end`; where it has not, it stops
  pub close : (end : ℕ) → Rest → Rest
  -- before `end`, `more`; at `end`, `last`
  pub choose : (end : ℕ) → (more last : Rest) → Rest
  -- a rest that depends on where reading has come to
  pub here : (ℕ → Rest) → Rest
  -- their laws, in the same order, in a node at `nd` that ends at `end`
  pub kept : {next : ℕ → Rest} {at : ℕ} (nd end w : ℕ) → end ≤ most → at ≤ end → After (keep end w next) at
      → InStep m.place at (λ v. v) (λ v n. After (next v) n) (unsigned s nd end w) (unsigned t (m.place nd) (m.place end) w)
  pub blanked : {next : ℕ → Rest} {at : ℕ} (nd end w : ℕ) → end ≤ most → at ≤ end → After (blank end w next) at
      → InStep m.place at m.free (λ v n. After (next v) n) (unsigned s nd end w) (unsigned t (m.place nd) (m.place end) w)
  pub constants : {C : Rest} {at : ℕ} (nd end : ℕ) → end ≤ most → at ≤ end → After (payload end C) at
      → InStep m.place at (moved_expr m) (λ e n. After C n) (as_const s nd end) (as_const t (m.place nd) (m.place end))
  pub measured : {next : ℕ → Rest} {at : ℕ} (end : ℕ) → end ≤ most → at ≤ end → After (measure end next) at
      → InStep m.place at m.place (λ to n. After (next to) n) (span s end) (span t (m.place end))
  pub closed : {C : Rest} {at : ℕ} (end : ℕ) → end ≤ most → at ≤ end → After (close end C) at
      → (eqb (m.place at) (m.place end) ≡ eqb at end) × (eqb at end ≡ true → After C at)
  pub chosen : {C D : Rest} {at : ℕ} (end : ℕ) → end ≤ most → at ≤ end → After (choose end C D) at
      → (ltb (m.place at) (m.place end) ≡ ltb at end) × (ltb at end ≡ true → After C at) × (ltb at end ≡ false → After D end)
  pub there : {next : ℕ → Rest} {at : ℕ} → After (here next) at → After (next at) at

-- reading has come to n, which is not beyond `end`
abbrev pub AfterWithin : {s t : List ℕ} {m : Moves} (P : Reading s t m) (end : ℕ) → P.Rest → ℕ → Type 0
AfterWithin P end C n = P.After C n × (n ≤ end)

-- 2. What is said of t before each part of a node, and before a node: part by part as stripping goes (definitions/specs/Strip), with C for what stands behind

module _ {s t : List ℕ} {m : Moves} (P : Reading s t m) where
  -- a byte below a bound; n marks
  abbrev pub below : (end bound : ℕ) → (ℕ → P.Rest) → P.Rest
  below end bound next = P.keep end 1 λ v. cond (ltb v bound) (next v) P.stop

  unfoldable pub marks_rest : (end n : ℕ) → P.Rest → P.Rest
  marks_rest end zero C = C
  marks_rest end (suc n) C = below end 2 λ v. marks_rest end n C

  -- items up to `end`, of which n have been read; a run of them
  unfoldable pub items_rest : (item : P.Rest → P.Rest) → (fuel end n : ℕ) → (ℕ → P.Rest) → P.Rest
  items_rest item zero end n next = P.stop
  items_rest item (suc fuel) end n next = P.choose end (item (items_rest item fuel end (suc n) next)) (next n)

  abbrev pub run_rest : (end : ℕ) → (item : ℕ → P.Rest → P.Rest) → (ℕ → P.Rest) → P.Rest
  run_rest end item next = P.measure end λ to. P.here λ at. items_rest (item to) (suc (to - at)) to 0 next

  -- the parts of a node that ends at `end`, with `v` for the expressions in it and `c` for the statements; n is the mark or count that was read last
  unfoldable pub parts_rest : (v c : ℕ → P.Rest → P.Rest) → (end : ℕ) → List Part → (n : ℕ) → P.Rest → P.Rest
  parts_rest v c end [] n C = P.close end C
  parts_rest v c end (free w ∷ ps) n C = P.blank end w λ x. parts_rest v c end ps n C
  parts_rest v c end (kept w ∷ ps) n C = P.keep end w λ x. parts_rest v c end ps n C
  parts_rest v c end (small bound ∷ ps) n C = below end bound λ x. parts_rest v c end ps x C
  parts_rest v c end (constant ∷ ps) n C = P.payload end (parts_rest v c end ps n C)
  parts_rest v c end (params ∷ ps) n C = P.keep end 1 λ k. marks_rest end k (parts_rest v c end ps k C)
  parts_rest v c end (value ∷ ps) n C = v end (parts_rest v c end ps n C)
  parts_rest v c end (values ∷ ps) n C = run_rest end v λ k. parts_rest v c end ps n C
  parts_rest v c end (arguments ∷ ps) n C = run_rest end v λ k. P.close end (cond (leb k n) (parts_rest v c end ps n C) P.stop)
  parts_rest v c end (block ∷ ps) n C = run_rest end c λ k. parts_rest v c end ps n C
  parts_rest v c end (arms ∷ ps) n C = run_rest end (λ to D. v to (run_rest to c (λ k. D))) λ k. parts_rest v c end ps n C
  parts_rest v c end (value_if ∷ ps) zero C = parts_rest v c end ps zero C
  parts_rest v c end (value_if ∷ ps) (suc n) C = v end (parts_rest v c end ps (suc n) C)
  parts_rest v c end (block_if ∷ ps) zero C = parts_rest v c end ps zero C
  parts_rest v c end (block_if ∷ ps) (suc n) C = run_rest end c λ k. parts_rest v c end ps (suc n) C

  -- a kind, a node, and an expression and a statement with at most `depth` nodes one in another
  unfoldable pub kind_rest : (v c : ℕ → P.Rest → P.Rest) → (end : ℕ) → Option (List Part) → P.Rest → P.Rest
  kind_rest v c end none C = P.stop
  kind_rest v c end (some ps) C = parts_rest v c end ps 0 C

  unfoldable pub node_rest : (holder : ℕ) → List (List Part) → (v c : ℕ → P.Rest → P.Rest) → P.Rest → P.Rest
  node_rest holder all v c C = P.measure holder λ end. P.keep end 1 λ kind. kind_rest v c end (parts_of all kind) C

  unfoldable pub expr_rest : (depth : ℕ) → (holder : ℕ) → P.Rest → P.Rest
  expr_rest zero holder C = P.stop
  expr_rest (suc d) holder C = node_rest holder expr_parts (expr_rest d) (λ end D. P.stop) C

  unfoldable pub stmt_rest : (depth : ℕ) → (holder : ℕ) → P.Rest → P.Rest
  stmt_rest zero holder C = P.stop
  stmt_rest (suc d) holder C = node_rest holder stmt_parts (expr_rest d) (stmt_rest d) C
