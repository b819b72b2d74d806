-- The parts of a kind, and one part after another: what the code does is what the definition's list of parts says. Assumes nothing.
use Prim.Native.Nat.{ℕ, zero, suc, ◌-◌, ◌≤◌, ◌<◌}
use mathlib.Core.Path.{◌≡◌, refl, sym, ap, subst, ◌∙◌}
use mathlib.Core.Bool.{Bool, true, false, ◌&&◌}
use Rattle.std.specs.Prelude.{Option, Some}
use mathlib.Core.List.{List, [], ◌∷◌, ◌++◌}
use mathlib.Core.Logic.{inl, inr}
use mathlib.Core.Option.{none}
use native.Mathlib.Omega.{arith}
use lib.Dec.{leb, eqb}
use lib.ListN.{length, get_or, get_elem?, take, drop, drop_of_length-le}
use lib.Seq.{drop-cons}
use borrow.Author.Tests.{eqb-true}
use Rattle.ir.specs.Kinds.{IsUnlisted}
use Rattle.laws.proofs.Inversion.{impossible}
use Rattle.definitions.specs.Strip as definition
use Rattle.definitions.specs.Strip.{Strip, only, nothing, ◌and◌, keep, keep_below, strip_run, strip_parts, strip_expr, strip_stmt, parts_of, expr_parts, stmt_parts}
use Rattle.strip.specs.Parts.{part_is, listed, item_of, of_class}
use Rattle.strip.specs.declared.fields.Passed.{Passed}
use Rattle.strip.specs.Passing.{passed, fitting, pass_if, below_of, handed, closed_args, put_if, whole, Copied, Did, Within, Parted, parts_in, KeptBy, params_step, constant_step}
use Rattle.ir.specs.declared.Class.{Class}
use Rattle.ir.specs.declared.Class.TheVariants.{Statement, Expression}
use Rattle.ir.specs.declared.Item.{Item}
use Rattle.ir.specs.declared.Item.TheVariants.{Node, Arm}
use Rattle.strip.specs.declared.Part.{Part}
use Rattle.strip.specs.declared.Part.TheVariants.{Free, Kept, Small, Constant, Params, Value, Run, Arguments, ValueIf, BlockIf}
use Rattle.strip.proofs.Laws.{standing, guards, keeps, keeps_below, blanks, checking}

-- 1. Kinds

past_all : {A : Type 0} (all : List A) (k : ℕ) → length all ≤ k → get_elem? all k ≡ none
past_all [] k h = refl
past_all (x ∷ all) zero h = impossible (omega arith)
past_all (x ∷ all) (suc k) h = past_all all k (omega arith)

-- what is no kind has no parts
unlisted : (all : List (List definition.Part)) (kind : ℕ) → IsUnlisted (length all) kind → none ≡ parts_of all kind
unfolding parts_of
unlisted all zero h = refl
unlisted all (suc k) (inl h) = impossible (omega arith)
unlisted all (suc k) (inr h) = sym (past_all all k (omega arith))

pub no_expr : (class : Class) (kind : ℕ) → class ≡ Expression → IsUnlisted 16 kind → none ≡ parts_of (of_class class) kind
unfolding expr_parts
no_expr Statement kind e h = impossible (cc)
no_expr Expression kind e h = unlisted expr_parts kind h

pub no_stmt : (class : Class) (kind : ℕ) → class ≡ Statement → IsUnlisted 10 kind → none ≡ parts_of (of_class class) kind
unfolding stmt_parts
no_stmt Statement kind e h = unlisted stmt_parts kind h
no_stmt Expression kind e h = impossible (cc)

-- 2. Parts

module _ (depth blocks : ℕ) (s : List ℕ) (end : ℕ) (part : Part) (at n : ℕ) (o : List ℕ) (r : Option Passed) (o' : List ℕ) where
  -- a step that is the part's
  abbrev Is : (step : (ℕ → Strip) → Strip) → Part → Type 0
  Is step p = (ps : List definition.Part) (rest : ℕ → List ℕ) → step (parts_in depth blocks s end ps) rest at ≡ parts_in depth blocks s end (part_is p ++ ps) n rest at

  abbrev Does : Type 0
  Does = Parted depth blocks s end part at n o r o'

  parted : (step : (ℕ → Strip) → Strip) (p : Part) → part ≡ p → Is step p → Did s at o step r o' → Does
  parted step p e h d = subst (λ (part : Part). Parted depth blocks s end part at n o r o') (sym e)
      (record { same = λ ps rest. d.same (parts_in depth blocks s end ps) rest ∙ ap (λ (x : List ℕ). take at o ++ x) (h ps rest); left = d.left })

  pub a_free : (w : ℕ) → part ≡ Free w → end ≤ length s → Copied s at o → r ≡ fitting at w end n → o' ≡ put_if at w end 0 o → Does
  unfolding strip_parts
  a_free w e l c f k = parted _ (Free w) e (λ ps rest. refl) (blanks s o o' at n end w 0 (λ x. 0) r refl l c f k)

  pub a_kept : (w : ℕ) → part ≡ Kept w → o' ≡ o → Copied s at o → r ≡ fitting at w end n → Does
  unfolding strip_parts
  a_kept w e k c f = parted _ (Kept w) e (λ ps rest. refl) (subst (λ (o' : List ℕ). Did s at o (λ next. keep s end w (λ x. next n)) r o') (sym k) (keeps s o at n end w r c f))

  pub a_small : (bound : ℕ) → part ≡ Small bound → o' ≡ o → Copied s at o → r ≡ below_of bound (fitting at 1 end (get_or s at 0)) → Does
  unfolding strip_parts
  a_small bound e k c g = parted (keep_below s end bound) (Small bound) e (λ ps rest. refl) (subst (λ (o' : List ℕ). Did s at o (keep_below s end bound) r o') (sym k) (keeps_below s o at end bound r c g))

  pub a_constant : part ≡ Constant → Did s at o (constant_step s end n) r o' → Does
  unfolding strip_parts
  a_constant e d = parted _ Constant e (λ ps rest. refl) d

  pub a_params : part ≡ Params → o' ≡ o → Copied s at o → KeptBy s at (params_step s end) r → Does
  unfolding strip_parts
  a_params e k c h = parted (params_step s end) Params e (λ ps rest. refl) (subst (λ (o' : List ℕ). Did s at o (params_step s end) r o') (sym k) (h o c))

  pub a_value : part ≡ Value → Did s at o (λ next. strip_expr depth s end and next n) r o' → Does
  unfolding strip_parts
  a_value e d = parted _ Value e (λ ps rest. refl) d

  run_is : (item : Item) → Is (λ next. strip_run s end (item_of item depth blocks s) (λ k. next n)) (Run item)
  unfolding strip_parts
  run_is (Node Statement) ps rest = refl
  run_is (Node Expression) ps rest = refl
  run_is Arm ps rest = refl

  pub a_run : (item : Item) (r₀ : Option Passed) → part ≡ Run item → Did s at o (strip_run s end (item_of item depth blocks s)) r₀ o' → r ≡ handed n r₀ → Does
  a_run item r₀ e d h = parted _ (Run item) e (run_is item) (guards s o o' at (λ a k. true) (λ k. n) (strip_run s end (item_of item depth blocks s)) r₀ r d h)

  pub an_arguments : (r₀ : Option Passed) → part ≡ Arguments → Did s at o (strip_run s end (strip_expr depth s)) r₀ o' → r ≡ closed_args end n r₀ → Does
  unfolding strip_parts
  an_arguments r₀ e d h =
      parted _ Arguments e (λ ps rest. refl) (guards s o o' at (λ a k. eqb a end && leb k n) (λ k. n) (strip_run s end (strip_expr depth s)) r₀ r d h)

  -- nothing is there
  stands : o' ≡ o → r ≡ Some (passed at n) → Copied s at o → Did s at o (λ next. next n) r o'
  stands k h c = subst (λ (o' : List ℕ). Did s at o (λ next. next n) r o') (sym k) (subst (λ (r : Option Passed). Did s at o (λ next. next n) r o) (sym h) (standing s o at n c))

  nothing_is : n ≡ 0 → Is (λ next. next n) ValueIf × Is (λ next. next n) BlockIf
  unfolding strip_parts
  nothing_is h = rw h ((λ ps rest. refl), (λ ps rest. refl))

  value_is : (m : ℕ) → n ≡ suc m → Is (λ next. strip_expr depth s end and next n) ValueIf
  unfolding strip_parts
  value_is m h = rw h (λ ps rest. refl)

  block_is : (m : ℕ) → n ≡ suc m → Is (λ next. strip_run s end (strip_stmt blocks s) (λ k. next n)) BlockIf
  unfolding strip_parts
  block_is m h = rw h (λ ps rest. refl)

  pub no_value : part ≡ ValueIf → n ≡ 0 → o' ≡ o → r ≡ Some (passed at n) → Copied s at o → Does
  no_value e z k h c = parted (λ next. next n) ValueIf e (nothing_is z).0 (stands k h c)

  pub some_value : part ≡ ValueIf → (n ≡ 0 → ⊥) → Did s at o (λ next. strip_expr depth s end and next n) r o' → Does
  some_value e z d = parted _ ValueIf e (value_is (n - 1) (omega arith)) d

  pub no_block : part ≡ BlockIf → n ≡ 0 → o' ≡ o → r ≡ Some (passed at n) → Copied s at o → Does
  no_block e z k h c = parted (λ next. next n) BlockIf e (nothing_is z).1 (stands k h c)

  pub some_block : (r₀ : Option Passed) → part ≡ BlockIf → (n ≡ 0 → ⊥) → Did s at o (strip_run s end (strip_stmt blocks s)) r₀ o' → r ≡ handed n r₀ → Does
  some_block r₀ e z d h = parted _ BlockIf e (block_is (n - 1) (omega arith)) (guards s o o' at (λ a k. true) (λ k. n) (strip_run s end (strip_stmt blocks s)) r₀ r d h)

-- 3. One part after another

-- the parts from number i on are left, from `next` on, with `last` for what was passed last
pub record Through (depth blocks : ℕ) (s : List ℕ) (end : ℕ) (parts : List Part) (at : ℕ) (o : List ℕ) (out : List ℕ) (next last i : ℕ) : Type 0 where
  pub copied : Copied s next out
  pub same : (rest : ℕ → List ℕ) → take next out ++ parts_in depth blocks s end (listed (drop i parts)) last rest next ≡ take at o ++ parts_in depth blocks s end (listed parts) 0 rest at

module _ (depth blocks : ℕ) (s : List ℕ) (end : ℕ) (parts : List Part) (at n : ℕ) (o : List ℕ) where
  abbrev ThroughTo : (out : List ℕ) (next last i : ℕ) → Type 0
  ThroughTo = Through depth blocks s end parts at o

  abbrev parts_step : (ℕ → Strip) → Strip
  parts_step next = parts_in depth blocks s end (listed parts) 0 and next n

  turn : (out : List ℕ) (next last i : ℕ) (d₀ p : Part) (r : Option Passed) (out' : List ℕ) → i < length parts → p ≡ get_or parts i d₀ → ThroughTo out next last i → Parted depth blocks s end p next last out r out'
      → (rest : ℕ → List ℕ) → whole r out' (λ m. parts_in depth blocks s end (listed (drop (suc i) parts)) m rest) ≡ take at o ++ parts_in depth blocks s end (listed parts) 0 rest at
  turn out next last i d₀ p r out' l e h d rest =
      let j : drop i parts ≡ p ∷ drop (suc i) parts = rw e (drop-cons parts i d₀ l) in
      d.same (listed (drop (suc i) parts)) rest
      ∙ ap (λ (ps : List Part). take next out ++ parts_in depth blocks s end (listed ps) last rest next) (sym j) ∙ h.same rest

  ended : (out : List ℕ) (next last i : ℕ) → length parts ≤ i → ThroughTo out next last i → (rest : ℕ → List ℕ) → take next out ++ only s (eqb next end) nothing rest next ≡ take at o ++ parts_in depth blocks s end (listed parts) 0 rest at
  unfolding strip_parts
  ended out next last i l h rest =
      let j : drop i parts ≡ [] = drop_of_length-le parts l in
      ap (λ (ps : List Part). take next out ++ parts_in depth blocks s end (listed ps) last rest next) (sym j) ∙ h.same rest

  end_within : (next : ℕ) (b : Bool) → eqb next end ≡ b → Within end end (pass_if b (Some (passed next n)))
  end_within next true h = let e = eqb-true next end h in (omega (arith, e), omega (arith, e))
  end_within next false h = tt

  pub through_end : (out : List ℕ) (next last i : ℕ) (r : Option Passed) → length parts ≤ i → ThroughTo out next last i → r ≡ pass_if (eqb next end) (Some (passed next n)) → Did s at o parts_step r out × Within end end r
  through_end out next last i r l h e =
      let d = checking s out next n (eqb next end) r (λ q rest. only s (eqb next end) (q n) rest) h.copied e (λ q rest. refl) in (
        record { same = λ q rest. d.same q rest ∙ ap (λ (x : List ℕ). take next out ++ x) (only_nothing (eqb next end) (q n) rest) ∙ ended out next last i l h (q n rest); left = d.left },
        subst (λ (r : Option Passed). Within end end r) (sym e) (end_within next (eqb next end) refl),
      )
    where
      only_nothing : (b : Bool) (p : Strip) (rest : ℕ → List ℕ) → only s b p rest next ≡ only s b nothing (p rest) next
      only_nothing true p rest = refl
      only_nothing false p rest = refl
