-- What a loop over a run knows: the items before the next one, whatever follows. Assumes nothing.
use Prim.Native.Nat.{ℕ, ◌≤◌, ◌<◌}
use mathlib.Core.List.{List, [], ◌∷◌, ◌++◌, append-nil, append_assoc}
use mathlib.Core.Path.{◌≡◌, ap, sym, ◌∙◌}
use Rattle.definitions.specs.Answer.{ok}
use Rattle.definitions.specs.Read.{Parser, filling}
use Rattle.ir.proofs.Inversion.{fill_nil, fill_cons}

-- where the rest of a run reads from `next` on, the run reads from `first` on, with xs before it
pub record Before {A : Type 0} (p : ℕ → Parser A) (stop first next : ℕ) (xs : List A) : Type 0 where
  pub more : (ys : List A) (n : ℕ) → filling p stop next ≡ ok ys n → filling p stop first ≡ ok (xs ++ ys) n

pub before_none : {A : Type 0} (p : ℕ → Parser A) (stop first : ℕ) → Before p stop first first []
before_none p stop first = record { more = λ ys n e. e }

module _ {A : Type 0} (p : ℕ → Parser A) (stop : ℕ) (moves : (at : ℕ) (x : A) (n : ℕ) → p stop at ≡ ok x n → at < n) where
  -- one item more
  pub before_one : {first next : ℕ} {xs : List A} {x : A} {n : ℕ} → Before p stop first next xs → next < stop → p stop next ≡ ok x n → Before p stop first n (xs ++ (x ∷ []))
  before_one {next = next} {xs} {x} b l e = record { more = λ ys m i. b.more (x ∷ ys) m (fill_cons p stop moves next l e i) ∙ ap (λ zs. ok zs m) (sym (append_assoc xs (x ∷ []) ys)) }

  -- all
  pub before_all : {first next : ℕ} {xs : List A} → Before p stop first next xs → stop ≤ next → filling p stop first ≡ ok xs stop
  before_all {next = next} {xs} b l = b.more [] stop (fill_nil p stop moves next l) ∙ ap (λ zs. ok zs stop) (append-nil xs)
