-- Where bytes go on as stripping leaves a unit, what stands first is read in step: a law for each step of stripping. Assumes nothing.
use Prim.Native.Nat.{ℕ, ◌+◌, ◌^◌, ◌≤◌, ◌<◌}
use mathlib.Core.Path.{◌≡◌, refl, ap, sym, ◌∙◌}
use mathlib.Core.Bool.{Bool, true, false, cond}
use mathlib.Core.List.{List, [], ◌++◌}
use native.Mathlib.Omega.{arith}
use lib.Dec.{leb, ltb, eqb}
use lib.ListN.{length, get_or, take, drop, length-drop}
use lib.Seq.{length-take-le, get_or-take}
use borrow.Author.Tests.{leb-true, ltb-false}
use Rattle.definitions.specs.Answer.{ok}
use Rattle.definitions.specs.Bytes.{number, bytes}
use Rattle.definitions.specs.Tag.{const_widths}
use Rattle.definitions.specs.Read.{give, unsigned, room, span, as_const}
use Rattle.definitions.specs.Strip.{least}
use Rattle.instr.proofs.NumberLaws.{length_bytes, read_back}
use Rattle.alike.proofs.Fields.{number_from, number_of, number_taken, behind, small_least, taken_least, taken, below_is, payload_is, read_fits, read_not}
use Rattle.instep.specs.Moves.{Moves, moved_expr}
use Rattle.instep.proofs.InStep.{InStep, passes, stops, also, gives, tested, next, onto}

-- places stay, free fields become 0, and constants the least of their class
abbrev pub blanking : Moves
blanking = record { place = λ p. p; free = λ v. 0; byte = λ at b v. b; value = λ at b v. least b v }

-- what stands from a place on
abbrev pub Rest : Type 0
Rest = ℕ → List ℕ

-- 1. What a step of stripping makes of what is to follow

-- before `end`, C; there, D
unfoldable pub choose_rest : (end : ℕ) → (C D : Rest) → Rest
choose_rest end C D = λ at. elim (ltb at end) [ true ↦ C at | false ↦ D end ]

module _ (s : List ℕ) where
  unfoldable pub stop_rest : Rest
  stop_rest = λ at. drop at s

  unfoldable pub keep_rest : (end w : ℕ) → (ℕ → Rest) → Rest
  keep_rest end w next = λ at. elim (leb (at + w) end) [ true ↦ take w (drop at s) ++ next (number w s at) (at + w) | false ↦ drop at s ]

  unfoldable pub blank_rest : (end w : ℕ) → (to : ℕ → ℕ) → (ℕ → Rest) → Rest
  blank_rest end w to next = λ at. elim (leb (at + w) end) [ true ↦ bytes w (to (number w s at)) ++ next (number w s at) (at + w) | false ↦ drop at s ]

  unfoldable pub length_rest : (end : ℕ) → (ℕ → Rest) → Rest
  length_rest end next = keep_rest end 4 λ n at. cond (leb (at + n) end) (next (at + n) at) (drop at s)

  unfoldable pub payload_rest : (end : ℕ) → Rest → Rest
  payload_rest end C =
      keep_rest end 1 λ b. cond (ltb b 16) (blank_rest end (get_or const_widths b 0) (least b) λ v. cond (taken b v) C stop_rest) stop_rest

  unfoldable pub close_rest : (end : ℕ) → Rest → Rest
  close_rest end C = λ at. cond (eqb at end) (C at) (drop at s)

-- 2. Where t goes on as stripping leaves s, what stands first is read in step

module _ (s t : List ℕ) where
  abbrev pub After : Rest → ℕ → Type 0
  After C n = drop n t ≡ C n

  -- a field that is left, and one that is set
  pub kept : {next : ℕ → Rest} {at : ℕ} (nd end w : ℕ) → end ≤ length s → After (keep_rest s end w next) at
      → InStep (λ p. p) at (λ v. v) (λ v n. After (next v) n) (unsigned s nd end w) (unsigned t nd end w)
  unfolding keep_rest
  kept {next = rest} {at} nd end w near h = go (leb (at + w) end) refl
    where
      go : (b : Bool) → leb (at + w) end ≡ b → InStep (λ p. p) at (λ v. v) (λ v n. After (rest v) n) (unsigned s nd end w) (unsigned t nd end w)
      go true e =
          let m = leb-true (at + w) end e in
          let v = number w s at in
          let b = take w (drop at s) in
          let l : length b ≡ w = length-take-le w (drop at s) (rw length-drop (omega arith)) in
          let d : drop at t ≡ b ++ rest v (at + w) =
          h ∙ ap (λ (b : Bool). elim b as (λ _. List ℕ) [ true ↦ take w (drop at s) ++ rest (number w s at) (at + w) | false ↦ drop at s ]) e in
          let u : number w t at ≡ v =
          number_of w b t (rest v (at + w)) at l d ∙ number_taken w b (drop at s) (λ j y. get_or-take w (drop at s) j 0 y) ∙ sym (number_from w s at) in
          passes v (at + w) (behind b (rest v (at + w)) t at w l d) (read_fits s nd end w at e) (read_fits t nd end w at e ∙ ap (λ (x : ℕ). ok x (at + w)) u)
      go false e = stops 3 nd 0 (read_not s nd end w at e) (read_not t nd end w at e)

  pub set : {next : ℕ → Rest} {at : ℕ} (nd end w : ℕ) (to : ℕ → ℕ) → ((v : ℕ) → to v < 256 ^ w) → end ≤ length s → After (blank_rest s end w to next) at
      → InStep (λ p. p) at to (λ v n. After (next v) n) (unsigned s nd end w) (unsigned t nd end w)
  unfolding blank_rest
  set {next = rest} {at} nd end w to fits near h = go (leb (at + w) end) refl
    where
      go : (b : Bool) → leb (at + w) end ≡ b → InStep (λ p. p) at to (λ v n. After (rest v) n) (unsigned s nd end w) (unsigned t nd end w)
      go true e =
          let v = number w s at in
          let o = to v in
          let b = bytes w o in
          let l : length b ≡ w = length_bytes w o in
          let d : drop at t ≡ b ++ rest v (at + w) =
          h ∙ ap (λ (b : Bool). elim b as (λ _. List ℕ) [ true ↦ bytes w (to (number w s at)) ++ rest (number w s at) (at + w) | false ↦ drop at s ]) e in
          let u : number w t at ≡ o = number_from w t at ∙ ap (λ (x : List ℕ). number w x 0) d ∙ read_back w o [] (rest v (at + w)) (fits v) in
          passes v (at + w) (behind b (rest v (at + w)) t at w l d) (read_fits s nd end w at e) (read_fits t nd end w at e ∙ ap (λ (x : ℕ). ok x (at + w)) u)
      go false e = stops 3 nd 0 (read_not s nd end w at e) (read_not t nd end w at e)

  pub constants : {C : Rest} {at : ℕ} (nd end : ℕ) → end ≤ length s → After (payload_rest s end C) at
      → InStep (λ p. p) at (moved_expr blanking) (λ e n. After C n) (as_const s nd end) (as_const t nd end)
  unfolding payload_rest as_const moved_expr
  constants {C} {at} nd end near h =
      also (onto (kept nd end 1 near h) (λ b n i e.
      tested (ltb b 16) (ltb b 16) 2 nd 0 refl (λ j.
      let i' : After (cond true (blank_rest s end (get_or const_widths b 0) (least b) λ v. cond (taken b v) C (stop_rest s)) (stop_rest s)) n = rw j at i in
      also (next (set nd end (get_or const_widths b 0) (least b) (small_least b) near i') (λ v v' d o k r.
      let w : taken b v' ≡ taken b v = ap (λ (x : ℕ). taken b x) d ∙ taken_least b v in
      tested (taken b v) (taken b v') 2 nd 0 w (λ y.
      let k' : After (cond true C (stop_rest s)) o = rw y at k in
      gives _ _ k' (cc d))))
      (payload_is s nd end b _ n) (payload_is t nd end b _ n))))
      (below_is s nd end 16 _ at) (below_is t nd end 16 _ at)

  pub measured : {next : ℕ → Rest} {at : ℕ} (end : ℕ) → end ≤ length s → After (length_rest s end next) at
      → InStep (λ p. p) at (λ p. p) (λ to n. After (next to) n) (span s end) (span t end)
  unfolding length_rest span room give
  measured {next = rest} {at} end near h =
      also (onto (kept at end 4 near h) (λ n o i e. also (tested (leb (o + n) end) (leb (o + n) end) 3 at 0 refl (λ j.
      let i' : After (rest (o + n)) o = i ∙ ap (λ (b : Bool). cond b (rest (o + n) o) (drop o s)) j in
      gives (o + n) (o + n) i' refl)) refl refl)) refl refl

  pub closed : (C : Rest) {at : ℕ} (end : ℕ) → After (close_rest s end C) at → eqb at end ≡ true → After C at
  unfolding close_rest
  closed C {at} end h e = h ∙ ap (λ (b : Bool). cond b (C at) (drop at s)) e

  pub chosen : (C D : Rest) {at : ℕ} (end : ℕ) → at ≤ end → After (choose_rest end C D) at
      → (ltb at end ≡ true → After C at) × (ltb at end ≡ false → After D end)
  unfolding choose_rest
  chosen C D {at} end l h = (
    λ e. h ∙ ap (λ (b : Bool). elim b as (λ _. List ℕ) [ true ↦ C at | false ↦ D end ]) e,
    λ e.
        let i = ltb-false at end e in
        let z : at ≡ end = omega arith in
        ap (λ (x : ℕ). drop x t) (sym z) ∙ h ∙ ap (λ (b : Bool). elim b as (λ _. List ℕ) [ true ↦ C at | false ↦ D end ]) e,
  )
