-- In step: two parsers, one at a place and one where that place has moved to, read the same but for what a map changes, or stop alike. Assumes nothing.
use Prim.Native.Nat.{ℕ}
use mathlib.Core.Path.{◌≡◌, refl, ap, sym, ◌∙◌}
use mathlib.Core.Bool.{Bool, true, false}
use Rattle.definitions.specs.Answer.{Answer, ok, refused, bind}
use Rattle.ir.proofs.Inversion.{refused_not_ok}
use Rattle.definitions.specs.Read.{Parser, ◌>>=◌, give, unknown_kind}

-- 1. In step from `at` on, where `place` says where each place has moved to: both pass, the second gives f of what the first gives and ends where the first's
-- end has moved to, and Q holds of what the first gives and of its end; or both stop, with the same number and extra, at a place and where it has moved to

pub data InStep {A : Type 0} (place : ℕ → ℕ) (at : ℕ) (f : A → A) (Q : A → ℕ → Type 0) (p p' : Parser A) : Type 0 where
  passes : (a : A) (n : ℕ) → Q a n → p at ≡ ok a n → p' (place at) ≡ ok (f a) (place n) → InStep place at f Q p p'
  stops : (number spot extra : ℕ) → p at ≡ refused number spot extra → p' (place at) ≡ refused number (place spot) extra → InStep place at f Q p p'

-- 2. Parsers put together

module _ {A : Type 0} {place : ℕ → ℕ} {at : ℕ} {f : A → A} {Q : A → ℕ → Type 0} where
  -- two that read here as others in step read at n
  pub also : {p p' q q' : Parser A} {n : ℕ} → InStep place n f Q p p' → q at ≡ p n → q' (place at) ≡ p' (place n) → InStep place at f Q q q'
  also (passes a n l e e') h h' = passes a n l (h ∙ e) (h' ∙ e')
  also (stops c o x e e') h h' = stops c o x (h ∙ e) (h' ∙ e')

  pub gives : (a a' : A) → Q a at → a' ≡ f a → InStep place at f Q (give a) (give a')
  unfolding give
  gives a a' l e = passes a at l refl (ap (λ (x : A). ok x (place at)) e)

  -- a check that both make
  pub tested : {p p' : Parser A} (b b' : Bool) (c o x : ℕ) → b' ≡ b → (b ≡ true → InStep place at f Q p p')
      → InStep place at f Q (λ n. elim b [ true ↦ p n | false ↦ refused c o x ]) (λ n. elim b' [ true ↦ p' n | false ↦ refused c (place o) x ])
  tested {p} {p'} b b' c o x e i = rw e (go b i)
    where
      go : (b : Bool) → (b ≡ true → InStep place at f Q p p')
          → InStep place at f Q (λ n. elim b [ true ↦ p n | false ↦ refused c o x ]) (λ n. elim b [ true ↦ p' n | false ↦ refused c (place o) x ])
      go true i = also (i refl) refl refl
      go false i = stops c o x refl refl

  -- what the second gives where the first passes
  pub read_on : {p p' : Parser A} → InStep place at f Q p p' → (a : A) (n : ℕ) → p at ≡ ok a n → p' (place at) ≡ ok (f a) (place n)
  read_on (passes b m l e e') a n h =
      let i : ok a n ≡ ok b m = sym h ∙ e in
      let c : a ≡ b = cc in
      let d : n ≡ m = cc in
      rw (c, d) e'
  read_on (stops c o x e e') a n h = refused_not_ok (sym e ∙ h)

-- another claim on what is given and where it ends
pub widen : {A : Type 0} {place : ℕ → ℕ} {at : ℕ} {f : A → A} {Q R : A → ℕ → Type 0} {p p' : Parser A}
    → ((a : A) (n : ℕ) → p at ≡ ok a n → Q a n → R a n) → InStep place at f Q p p' → InStep place at f R p p'
widen i (passes a n l e e') = passes a n (i a n e l) e e'
widen i (stops c o x e e') = stops c o x e e'

module _ {A B : Type 0} {place : ℕ → ℕ} {at : ℕ} {g : B → B} {Q : A → ℕ → Type 0} {R : B → ℕ → Type 0} {p p' : Parser A} {q q' : A → Parser B} where
  -- one after the other
  pub next : {f : A → A} → InStep place at f Q p p'
      → ((a a' : A) → a' ≡ f a → (n : ℕ) → Q a n → p at ≡ ok a n → InStep place n g R (q a) (q' a')) → InStep place at g R (p >>= q) (p' >>= q')
  unfolding ◌>>=◌ bind
  next (passes a n l e e') i = also (i a _ refl n l e) (ap (λ (x : Answer _). bind x q) e) (ap (λ (x : Answer _). bind x q') e')
  next (stops c o x e e') i = stops c o x (ap (λ (y : Answer _). bind y q) e) (ap (λ (y : Answer _). bind y q') e')

  -- the same where the second gives what the first gives
  pub onto : InStep place at (λ x. x) Q p p'
      → ((a : A) (n : ℕ) → Q a n → p at ≡ ok a n → InStep place n g R (q a) (q' a)) → InStep place at g R (p >>= q) (p' >>= q')
  unfolding ◌>>=◌ bind
  onto (passes a n l e e') i = also (i a n l e) (ap (λ (x : Answer _). bind x q) e) (ap (λ (x : Answer _). bind x q') e')
  onto (stops c o x e e') i = stops c o x (ap (λ (y : Answer _). bind y q) e) (ap (λ (y : Answer _). bind y q') e')

-- a byte that is no kind
pub unknown : {A : Type 0} {place : ℕ → ℕ} {at : ℕ} {f : A → A} {Q : A → ℕ → Type 0} (nd : ℕ) → InStep place at f Q (unknown_kind nd) (unknown_kind (place nd))
unfolding unknown_kind
unknown nd = stops 2 nd 0 refl refl
