-- What the functions for fields ask of their parsers. Assumes nothing.
use Rattle.std.proofs.Common.{◌≡◌, ℕ, zero, suc, ◌+◌, ◌-◌, ◌<◌, List, [], ◌∷◌, length, ap, ◌∙◌, sym, arith}
use Rattle.definitions.specs.Answer.{Answer, ok, refused, bind}
use Rattle.definitions.specs.Read.{byte_below, mark_bytes, give, ◌>>=◌}
use Rattle.ir.specs.Verdict.{no_value}
use Rattle.laws.proofs.Inversion.{bind_ok}
-- a step and what follows it, by a name that an attribute can open
pub use Rattle.definitions.specs.Read.{◌>>=◌ as and_then}

-- one of the marks that are left
pub more_marks : (s : List ℕ) (node end n i at next : ℕ) → i < n → ok tt next ≡ no_value (byte_below s node end 2 at) → no_value (mark_bytes s node end (n - i) at) ≡ no_value (mark_bytes s node end (n - (i + 1)) next)
unfolding mark_bytes ◌>>=◌ give bind
more_marks s node end n i at next l e =
    let z : n - i ≡ suc (n - (i + 1)) = omega arith in
    rw z (after (byte_below s node end 2 at) e)
  where
    after : (x : Answer ℕ) → ok tt next ≡ no_value x
        → no_value (bind x (λ m at. bind (mark_bytes s node end (n - (i + 1)) at) (λ ms at. ok (m ∷ ms) at))) ≡ no_value (mark_bytes s node end (n - (i + 1)) next)
    after x e = grind arith

-- what n marks give
pub marks_length : (s : List ℕ) (node end n at : ℕ) (ms : List ℕ) (m : ℕ) → mark_bytes s node end n at ≡ ok ms m → length ms ≡ n
unfolding mark_bytes ◌>>=◌ give
marks_length s node end zero at ms m e = let h : [] ≡ ms = cc in ap length (sym h)
marks_length s node end (suc n) at ms m e =
    let h = bind_ok (byte_below s node end 2 at) _ e in
    let k = bind_ok (mark_bytes s node end n h.1) _ h.3 in
    let j : h.0 ∷ k.0 ≡ ms = cc k.3 in
    ap length (sym j) ∙ ap suc (marks_length s node end n h.1 k.0 k.1 k.2)

-- the last step, whose value the node keeps
pub last : {A B : Type 0} (x : Answer A) (h : A → B) (y : Answer (Unit {0})) → y ≡ no_value x → y ≡ no_value (bind x (λ a. give (h a)))
unfolding bind give
last (ok a n) h y e = e
last (refused n p x) h y e = e
