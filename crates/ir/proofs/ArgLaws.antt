-- What the head of an argument says of the expression that is read there. Assumes nothing.
use Prim.Native.Nat.{ℕ, zero, suc, ◌+◌, ◌-◌, ◌≤◌, ◌<◌}
use mathlib.Core.Path.{◌≡◌, refl, sym, ap, ◌∙◌}
use mathlib.Core.List.{List, [], ◌∷◌}
use mathlib.Core.Bool.{Bool, true, false, not, ◌&&◌, ◌||◌}
use native.Mathlib.Omega.{arith}
use native.Mathlib.Decide.{dec_lt}
use native.Mathlib.Nat.{zero-add, add-zero}
use lib.Dec.{leb, ltb, eqb}
use lib.ListN.{length, get_or, get_or-eq_default}
use borrow.Author.Tests.{ltb-true, ltb-false, leb-true, leb-false, eqb-true, eqb-false}
use Rattle.definitions.specs.Answer.{ok}
use Rattle.definitions.specs.Tree.{Expr, intrinsic, exprs_of, place_of}
use Rattle.definitions.specs.Lower.{is_prvalue, one_prvalue, is_flagged}
use Rattle.definitions.specs.Read.{Parser, ◌>>=◌, give, unknown_kind, pick, filling, as_nop, as_const, as_null, as_new_instance, as_construct, as_assign, as_field, as_index, as_conditional, as_dyn_cast, as_local, as_intrinsic, as_free_call, as_static_call, as_instance_call, as_closure_call, expr_kinds, expr_body, parse_expr}
use Rattle.ir.specs.Places.{end_of}
use Rattle.ir.specs.Args.{intrinsic_at, place_kind, arg_at, not_place, prvalue_at, flagged_head, flagged_at}
use Rattle.ir.specs.declared.Arg.{Arg}
use Rattle.ir.specs.declared.Arg.TheVariants.{AsRef, Place, Value}
use Rattle.ir.proofs.Inversion.{impossible, refused_not_ok, bind_ok, give_ok, expr_ok, expr_at, expr_moves, fill_some, fill_none}
use Rattle.ir.proofs.ExprPlaces.{field_at, index_at, local_at, intrinsic_at_law}

-- 1. Every kind: its place is where it is read, and the head of most says nothing

-- every value that a parser gives
abbrev Always : {A : Type 0} → (A → Type 0) → Parser A → Type 0
Always {A} P p = (m : ℕ) (a : A) (n : ℕ) → p m ≡ ok a n → P a

after_step : {A B : Type 0} (P : B → Type 0) (p : Parser A) (f : A → Parser B) → ((a : A) → Always P (f a)) → Always P (p >>= f)
unfolding ◌>>=◌
after_step P p f h m b n e = let k = bind_ok (p m) f e in h k.0 k.1 b n k.3

at_last : {A : Type 0} (P : A → Type 0) (a : A) → P a → Always P (give a)
at_last P a x m b n e = let g = give_ok a m e in rw g.0 x

abbrev Each : (ℕ → Expr → Type 0) → List (Parser Expr) → ℕ → Type 0
Each P [] b = Unit {0}
Each P (p ∷ ps) b = Always (P b) p × Each P ps (suc b)

pick_each : (P : ℕ → Expr → Type 0) (ps : List (Parser Expr)) (b at k m : ℕ) (e : Expr) (n : ℕ) → Each P ps b → pick ps at k m ≡ ok e n → P (b + k) e
unfolding pick unknown_kind
pick_each P [] b at k m e n h r = refused_not_ok r
pick_each P (p ∷ ps) b at zero m e n h r = rw (add-zero b) (h.0 m e n r)
pick_each P (p ∷ ps) b at (suc k) m e n h r =
    let s : suc b + k ≡ b + suc k = omega arith in
    rw s at (pick_each P ps (suc b) at k m e n h.1 r)

-- neither a place nor flagged
abbrev Plain : Expr → Type 0
Plain e = (is_prvalue e ≡ true) × (is_flagged e ≡ false)

-- of what kind k gives at `at`
abbrev Says : (at k : ℕ) → Expr → Type 0
Says at k e = (place_of e ≡ at) × ((k ≡ 7 → ⊥) → (k ≡ 8 → ⊥) → (k ≡ 11 → ⊥) → (k ≡ 12 → ⊥) → Plain e)

each_kind : (s : List ℕ) (child : ℕ → Parser Expr) (at end : ℕ) → Each (Says at) (expr_kinds s child at end) 0
unfolding expr_kinds unknown_kind as_nop as_const as_null as_new_instance as_construct as_assign as_field as_index as_conditional as_dyn_cast as_local as_intrinsic as_free_call as_static_call as_instance_call as_closure_call is_prvalue is_flagged place_of
each_kind s child at end = (
  λ m a n e. refused_not_ok e,
  (
    at_last (Says at 1) _ (refl, λ _ _ _ _. (refl, refl)),
    (
      after_step (Says at 2) _ _ (λ _. after_step (Says at 2) _ _ (λ _. at_last (Says at 2) _ (refl, λ _ _ _ _. (refl, refl)))),
      (
        after_step (Says at 3) _ _ (λ _. at_last (Says at 3) _ (refl, λ _ _ _ _. (refl, refl))),
        (
          after_step (Says at 4) _ _ (λ _. at_last (Says at 4) _ (refl, λ _ _ _ _. (refl, refl))),
          (
            after_step (Says at 5) _ _ (λ _. after_step (Says at 5) _ _ (λ _. at_last (Says at 5) _ (refl, λ _ _ _ _. (refl, refl)))),
            (
              after_step (Says at 6) _ _ (λ _. after_step (Says at 6) _ _ (λ _. at_last (Says at 6) _ (refl, λ _ _ _ _. (refl, refl)))),
              (
                after_step (Says at 7) _ _ (λ _. after_step (Says at 7) _ _ (λ _. after_step (Says at 7) _ _ (λ _. at_last (Says at 7) _ (refl, λ z _ _ _. absurd (z refl))))),
                (
                  after_step (Says at 8) _ _ (λ _. after_step (Says at 8) _ _ (λ _. after_step (Says at 8) _ _ (λ _. after_step (Says at 8) _ _ (λ _. at_last (Says at 8) _ (refl, λ _ z _ _. absurd (z refl)))))),
                  (
                    after_step (Says at 9) _ _ (λ _. after_step (Says at 9) _ _ (λ _. after_step (Says at 9) _ _ (λ _. at_last (Says at 9) _ (refl, λ _ _ _ _. (refl, refl))))),
                    (
                      after_step (Says at 10) _ _ (λ _. after_step (Says at 10) _ _ (λ _. after_step (Says at 10) _ _ (λ _. at_last (Says at 10) _ (refl, λ _ _ _ _. (refl, refl))))),
                      (
                        after_step (Says at 11) _ _ (λ _. after_step (Says at 11) _ _ (λ _. at_last (Says at 11) _ (refl, λ _ _ z _. absurd (z refl)))),
                        (
                          after_step (Says at 12) _ _ (λ _. after_step (Says at 12) _ _ (λ _. after_step (Says at 12) _ _ (λ _. after_step (Says at 12) _ _ (λ _. after_step (Says at 12) _ _ (λ _. at_last (Says at 12) _ (refl, λ _ _ _ z. absurd (z refl))))))),
                          (
                            after_step (Says at 13) _ _ (λ _. after_step (Says at 13) _ _ (λ _. at_last (Says at 13) _ (refl, λ _ _ _ _. (refl, refl)))),
                            (
                              after_step (Says at 14) _ _ (λ _. after_step (Says at 14) _ _ (λ _. at_last (Says at 14) _ (refl, λ _ _ _ _. (refl, refl)))),
                              (
                                after_step (Says at 15) _ _ (λ _. after_step (Says at 15) _ _ (λ _. after_step (Says at 15) _ _ (λ _. after_step (Says at 15) _ _ (λ _. at_last (Says at 15) _ (refl, λ _ _ _ _. (refl, refl)))))),
                                (
                                  after_step (Says at 16) _ _ (λ _. after_step (Says at 16) _ _ (λ _. after_step (Says at 16) _ _ (λ _. after_step (Says at 16) _ _ (λ _. at_last (Says at 16) _ (refl, λ _ _ _ _. (refl, refl)))))),
                                  tt,
                                ),
                              ),
                            ),
                          ),
                        ),
                      ),
                    ),
                  ),
                ),
              ),
            ),
          ),
        ),
      ),
    ),
  ),
)

-- 2. An expression that is read, by its head

abbrev is_as_ref : Arg → Bool
is_as_ref (AsRef first stop) = true
is_as_ref Place = false
is_as_ref Value = false

same_run : (p : ℕ → Parser Expr) (xs : List Expr) (n t g f : ℕ) → n ≡ t → g ≡ f → filling p n g ≡ ok xs n → filling p t f ≡ ok xs t
same_run p xs n t g f h j e = rw (h, j) at e

-- an AsRef call's arguments, from `first` up to `stop`
record AsRefOf (d : ℕ) (s : List ℕ) (holder : ℕ) (e : Expr) (first stop : ℕ) : Type 0 where
  args : List Expr
  flagged : is_flagged e ≡ one_prvalue (exprs_of args)
  reads : filling (parse_expr d s) stop first ≡ ok args stop
  tail : stop ≤ holder

module _ (s : List ℕ) (at : ℕ) where
  as_ref_code : (f t : ℕ) (a b : Bool) → a ≡ eqb (get_or s (at + 5) 0) 28 → AsRef f t ≡ (elim a as (λ _. Arg) [ true ↦ AsRef (at + 16) (end_of s (at + 12)) | false ↦ elim b as (λ _. Arg) [ true ↦ Place | false ↦ Value ] ])
      → (get_or s (at + 5) 0 ≡ 28) × (f ≡ at + 16) × (t ≡ end_of s (at + 12))
  as_ref_code f t true b ea h = (eqb-true (get_or s (at + 5) 0) 28 (sym ea), cc, cc)
  as_ref_code f t false true ea h = impossible (cc)
  as_ref_code f t false false ea h = impossible (cc)

  as_ref_kind : (f t : ℕ) (a b : Bool) → a ≡ eqb (get_or s (at + 4) 0) 12 → AsRef f t ≡ (elim a as (λ _. Arg) [ true ↦ intrinsic_at s at | false ↦ elim b as (λ _. Arg) [ true ↦ Place | false ↦ Value ] ])
      → (get_or s (at + 4) 0 ≡ 12) × (get_or s (at + 5) 0 ≡ 28) × (f ≡ at + 16) × (t ≡ end_of s (at + 12))
  unfolding intrinsic_at
  as_ref_kind f t true b ea h = let i = as_ref_code f t (eqb (get_or s (at + 5) 0) 28) (eqb (get_or s (at + 5) 0) 29) refl h in (eqb-true (get_or s (at + 4) 0) 12 (sym ea), i.0, i.1, i.2)
  as_ref_kind f t false true ea h = impossible (cc)
  as_ref_kind f t false false ea h = impossible (cc)

  -- a call with an AsRef head begins within the unit, since past the end stand zeros
  as_ref_in : (f t : ℕ) → AsRef f t ≡ arg_at s at → f < length s + 16
  unfolding arg_at
  as_ref_in f t h = elim (dec_lt at (length s)) [
    | yes l ↦ omega (arith, kind.2)
    | no l ↦ let z : get_or s (at + 4) 0 ≡ 0 = get_or-eq_default s 0 (omega arith) in absurd (omega (arith, kind.0))
  ]
    where
      kind : (get_or s (at + 4) 0 ≡ 12) × (get_or s (at + 5) 0 ≡ 28) × (f ≡ at + 16) × (t ≡ end_of s (at + 12))
      kind = as_ref_kind f t (eqb (get_or s (at + 4) 0) 12) (place_kind (get_or s (at + 4) 0)) refl h

module _ (s : List ℕ) (at depth holder next : ℕ) (e : Expr) (r : parse_expr depth s holder at ≡ ok e next) where
  says : Says at (get_or s (at + 4) 0) e
  unfolding expr_body
  says =
      let i = expr_ok depth s holder at r in
      rw (zero-add (get_or s (at + 4) 0)) at (pick_each (Says at) (expr_kinds s (parse_expr (depth - 1) s) at (end_of s at)) 0 at (get_or s (at + 4) 0) (at + 5) e (end_of s at) (each_kind s (parse_expr (depth - 1) s) at (end_of s at)) i.1.reads)

  pub place_is : place_of e ≡ at
  place_is = says.0

  is_12 : get_or s (at + 4) 0 ≡ 12 → (is_prvalue e ≡ not (eqb (get_or s (at + 5) 0) 29)) × ((eqb (get_or s (at + 5) 0) 28 ≡ false) → is_flagged e ≡ false)
  unfolding is_prvalue is_flagged
  is_12 k = let i = intrinsic_at_law depth s holder at e next r k in (rw i.tree, λ h. rw (i.tree, h))

  is_place : place_kind (get_or s (at + 4) 0) ≡ true → (is_prvalue e ≡ false) × (is_flagged e ≡ false)
  unfolding place_kind is_prvalue is_flagged
  is_place h = go (eqb (get_or s (at + 4) 0) 7) (eqb (get_or s (at + 4) 0) 8) (eqb (get_or s (at + 4) 0) 11) refl refl refl h
    where
      go : (a b c : Bool) → a ≡ eqb (get_or s (at + 4) 0) 7 → b ≡ eqb (get_or s (at + 4) 0) 8 → c ≡ eqb (get_or s (at + 4) 0) 11 → a || b || c ≡ true → (is_prvalue e ≡ false) × (is_flagged e ≡ false)
      go true b c ea eb ec h = let i = field_at depth s holder at e next r (eqb-true (get_or s (at + 4) 0) 7 (sym ea)) in (rw i.tree, rw i.tree)
      go false true c ea eb ec h = let i = index_at depth s holder at e next r (eqb-true (get_or s (at + 4) 0) 8 (sym eb)) in (rw i.tree, rw i.tree)
      go false false true ea eb ec h = let i = local_at depth s holder at e next r (eqb-true (get_or s (at + 4) 0) 11 (sym ec)) in (rw i.tree, rw i.tree)
      go false false false ea eb ec h = impossible (cc)

  not_place_law : place_kind (get_or s (at + 4) 0) ≡ false → (get_or s (at + 4) 0 ≡ 12 → ⊥) → Plain e
  unfolding place_kind
  not_place_law h = go (eqb (get_or s (at + 4) 0) 7) (eqb (get_or s (at + 4) 0) 8) (eqb (get_or s (at + 4) 0) 11) refl refl refl h
    where
      go : (a b c : Bool) → a ≡ eqb (get_or s (at + 4) 0) 7 → b ≡ eqb (get_or s (at + 4) 0) 8 → c ≡ eqb (get_or s (at + 4) 0) 11 → a || b || c ≡ false → (get_or s (at + 4) 0 ≡ 12 → ⊥) → Plain e
      go true b c ea eb ec h z = impossible (cc)
      go false true c ea eb ec h z = impossible (cc)
      go false false true ea eb ec h z = impossible (cc)
      go false false false ea eb ec h z =
          says.1 (eqb-false (get_or s (at + 4) 0) 7 (sym ea)) (eqb-false (get_or s (at + 4) 0) 8 (sym eb)) (eqb-false (get_or s (at + 4) 0) 11 (sym ec)) z

  -- the head says whether it is a prvalue, and that it is not flagged unless it is an AsRef call
  by_code : (a b : Bool) → a ≡ eqb (get_or s (at + 5) 0) 28 → b ≡ eqb (get_or s (at + 5) 0) 29
      → not_place (elim a as (λ _. Arg) [ true ↦ AsRef (at + 16) (end_of s (at + 12)) | false ↦ elim b as (λ _. Arg) [ true ↦ Place | false ↦ Value ] ]) ≡ not (eqb (get_or s (at + 5) 0) 29)
  unfolding not_place
  by_code true b ea eb = let h : get_or s (at + 5) 0 ≡ 28 = eqb-true (get_or s (at + 5) 0) 28 (sym ea) in rw h
  by_code false true ea eb = rw (← eb)
  by_code false false ea eb = rw (← eb)

  by_kind : (a b : Bool) → a ≡ eqb (get_or s (at + 4) 0) 12 → b ≡ place_kind (get_or s (at + 4) 0)
      → not_place (elim a as (λ _. Arg) [ true ↦ intrinsic_at s at | false ↦ elim b as (λ _. Arg) [ true ↦ Place | false ↦ Value ] ]) ≡ is_prvalue e
  unfolding not_place intrinsic_at
  by_kind true b ea eb = by_code _ _ refl refl ∙ sym (is_12 (eqb-true (get_or s (at + 4) 0) 12 (sym ea))).0
  by_kind false true ea eb = sym (is_place (sym eb)).0
  by_kind false false ea eb = sym (not_place_law (sym eb) (eqb-false (get_or s (at + 4) 0) 12 (sym ea))).0

  pub prvalue_by : not_place (arg_at s at) ≡ is_prvalue e
  unfolding arg_at
  prvalue_by = by_kind _ _ refl refl

  flag_code : (a b : Bool) → a ≡ eqb (get_or s (at + 5) 0) 28 → get_or s (at + 4) 0 ≡ 12
      → is_as_ref (elim a as (λ _. Arg) [ true ↦ AsRef (at + 16) (end_of s (at + 12)) | false ↦ elim b as (λ _. Arg) [ true ↦ Place | false ↦ Value ] ]) ≡ false → is_flagged e ≡ false
  flag_code true b ea k h = impossible (cc)
  flag_code false b ea k h = (is_12 k).1 (sym ea)

  flag_kind : (a b : Bool) → a ≡ eqb (get_or s (at + 4) 0) 12 → b ≡ place_kind (get_or s (at + 4) 0)
      → is_as_ref (elim a as (λ _. Arg) [ true ↦ intrinsic_at s at | false ↦ elim b as (λ _. Arg) [ true ↦ Place | false ↦ Value ] ]) ≡ false → is_flagged e ≡ false
  unfolding intrinsic_at
  flag_kind true b ea eb h = flag_code (eqb (get_or s (at + 5) 0) 28) (eqb (get_or s (at + 5) 0) 29) refl (eqb-true (get_or s (at + 4) 0) 12 (sym ea)) h
  flag_kind false true ea eb h = (is_place (sym eb)).1
  flag_kind false false ea eb h = (not_place_law (sym eb) (eqb-false (get_or s (at + 4) 0) 12 (sym ea))).1

  unflagged_by : is_as_ref (arg_at s at) ≡ false → is_flagged e ≡ false
  unfolding arg_at
  unflagged_by h = flag_kind _ _ refl refl h

  flags_as : (k m y i : ℕ) (es : List Expr) → k ≡ 28 → e ≡ intrinsic at k m y i (exprs_of es) → is_flagged e ≡ one_prvalue (exprs_of es)
  unfolding is_flagged
  flags_as k m y i es h j = rw (j, h)

  as_ref_of : (f t : ℕ) → AsRef f t ≡ arg_at s at → AsRefOf (depth - 1) s holder e f t
  unfolding arg_at
  as_ref_of f t h =
      let k = as_ref_kind s at f t (eqb (get_or s (at + 4) 0) 12) (place_kind (get_or s (at + 4) 0)) refl h in
      let i = intrinsic_at_law depth s holder at e next r k.0 in
      let j = expr_at depth s holder at r in
      let n : next ≡ t = i.run.ends ∙ sym k.3 in
      let g : at + 12 + 4 ≡ f = omega (arith, k.2) in
      record {
        args = i.args;
        flagged = flags_as _ _ _ _ i.args k.1 i.tree;
        reads = same_run (parse_expr (depth - 1) s) i.args next t (at + 12 + 4) f n g i.run.reads;
        tail = omega (arith, j.tail);
      }

-- 3. What bytes and tree say is the same

two : (xs : List Expr) (x : Expr) (ys : List Expr) (y : Expr) (zs : List Expr) → xs ≡ x ∷ ys → ys ≡ y ∷ zs → one_prvalue (exprs_of xs) ≡ false
unfolding one_prvalue exprs_of
two xs x ys y zs h j = rw (h, j)

module _ (d : ℕ) (s : List ℕ) (holder : ℕ) (e : Expr) (first stop : ℕ) (i : AsRefOf d s holder e first stop) where
  none_flagged : stop ≤ first → is_flagged e ≡ false
  unfolding one_prvalue exprs_of
  none_flagged l =
      let x = fill_none (parse_expr d s) stop (expr_moves d s stop) first l i.reads in
      i.flagged ∙ ap (λ (xs : List Expr). one_prvalue (exprs_of xs)) x.0

  -- the first argument ends where its length says
  many_flagged : first < stop → end_of s first < stop → is_flagged e ≡ false
  many_flagged l m =
      let x = fill_some (parse_expr d s) stop (expr_moves d s stop) first l i.reads in
      let j = expr_at d s stop first x.3 in
      let k : x.1 < stop = omega (arith, j.ends) in
      let y = fill_some (parse_expr d s) stop (expr_moves d s stop) x.1 k x.5 in
      i.flagged ∙ two i.args x.0 x.2 y.0 y.2 x.4 y.4

  one_flagged : first < stop → stop ≤ end_of s first → is_flagged e ≡ prvalue_at s first
  unfolding one_prvalue exprs_of prvalue_at
  one_flagged l m =
      let x = fill_some (parse_expr d s) stop (expr_moves d s stop) first l i.reads in
      let j = expr_at d s stop first x.3 in
      let k : stop ≤ x.1 = omega (arith, j.ends) in
      let y = fill_none (parse_expr d s) stop (expr_moves d s stop) x.1 k x.5 in
      i.flagged ∙ ap (λ (xs : List Expr). one_prvalue (exprs_of xs)) (x.4 ∙ ap (λ (ys : List Expr). x.0 ∷ ys) y.0) ∙ sym (prvalue_by s first d stop x.1 x.0 x.3)

  head_flagged : flagged_head s (AsRef first stop) ≡ is_flagged e
  unfolding flagged_head
  head_flagged = go (ltb first stop) (leb stop (end_of s first)) refl refl
    where
      go : (a b : Bool) → ltb first stop ≡ a → leb stop (end_of s first) ≡ b → a && (b && prvalue_at s first) ≡ is_flagged e
      go true true ea eb = sym (one_flagged (ltb-true first stop ea) (leb-true stop (end_of s first) eb))
      go true false ea eb = sym (many_flagged (ltb-true first stop ea) (leb-false stop (end_of s first) eb))
      go false b ea eb = sym (none_flagged (ltb-false first stop ea))

-- of an expression that is read
module _ (s : List ℕ) (at depth holder next : ℕ) (e : Expr) (r : parse_expr depth s holder at ≡ ok e next) where
  pub prvalue_read : prvalue_at s at ≡ is_prvalue e
  unfolding prvalue_at
  prvalue_read = prvalue_by s at depth holder next e r

  pub flagged_read : flagged_at s at ≡ is_flagged e
  unfolding flagged_head
  flagged_read = go (arg_at s at) refl
    where
      go : (a : Arg) → a ≡ arg_at s at → flagged_head s a ≡ is_flagged e
      go (AsRef first stop) h = head_flagged (depth - 1) s holder e first stop (as_ref_of s at depth holder next e r first stop h)
      go Place h = sym (unflagged_by s at depth holder next e r (sym (ap is_as_ref h)))
      go Value h = sym (unflagged_by s at depth holder next e r (sym (ap is_as_ref h)))

-- 4. What the functions ask

-- a call's arguments begin at most 16 bytes past the end
pub first_in : (s : List ℕ) (at : ℕ) (a : Arg) (first stop : ℕ) → a ≡ AsRef first stop → a ≡ arg_at s at → first < length s + 16
first_in s at a first stop q h = as_ref_in s at first stop (sym q ∙ h)

-- past the end stand zeros
pub past_value : (s : List ℕ) (at : ℕ) → length s ≤ at → Value ≡ arg_at s at
unfolding arg_at place_kind
past_value s at h = let z : get_or s (at + 4) 0 ≡ 0 = get_or-eq_default s 0 (omega arith) in grind (arith, z)
