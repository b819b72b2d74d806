-- One pass over a field: what is in the buffer then is what the step of the definition says. Assumes nothing.
use Prim.Native.Nat.{ℕ, ◌+◌, ◌≤◌}
use mathlib.Core.Path.{◌≡◌, refl, sym, ap, subst, ◌∙◌}
use mathlib.Core.Bool.{Bool, true, false}
use Rattle.std.specs.Prelude.{Option, Some, None}
use mathlib.Core.List.{List, ◌++◌, append_assoc}
use native.Mathlib.Omega.{arith}
use lib.Dec.{leb, ltb}
use lib.ListN.{length, get_or, take, drop, length-append, take-append-drop}
use lib.Seq.{length-take-le, take_at, drop_at, drop-drop, take-add}
use borrow.Author.Tests.{leb-true}
use Rattle.definitions.specs.Bytes.{number, bytes}
use Rattle.definitions.specs.Strip.{Strip, only, keep, blank, keep_below}
use Rattle.instr.specs.Values.{stored}
use Rattle.instr.proofs.NumberLaws.{length_bytes, one_byte}
use Rattle.strip.specs.declared.fields.Passed.{Passed}
use Rattle.strip.specs.Passing.{passed, fitting, pass_if, guarded, below_of, put_if, Copied, Did, Within}

-- 1. The buffer

abbrev place_of : Option Passed → Passed
place_of (Some p) = p
place_of None = passed 0 0

pub same_end : {a m b n : ℕ} → Some (passed a m) ≡ Some (passed b n) → (a ≡ b) × (m ≡ n)
same_end e = (ap (λ (r : Option Passed). (place_of r).at) e, ap (λ (r : Option Passed). (place_of r).last) e)

-- where stripping stops, it stays
pub stays : (s o : List ℕ) (at : ℕ) → Copied s at o → take at o ++ drop at s ≡ o
stays s o at c = ap (λ (x : List ℕ). take at o ++ x) (sym c.same) ∙ take-append-drop at o

-- w bytes further
pub further : (s o : List ℕ) (at w : ℕ) → Copied s at o → Copied s (at + w) o
further s o at w c = record { long = c.long; same = sym (drop-drop w at o) ∙ ap (λ (x : List ℕ). drop w x) c.same ∙ drop-drop w at s }

kept_bytes : (s o : List ℕ) (at w : ℕ) → Copied s at o → take (at + w) o ≡ take at o ++ take w (drop at s)
kept_bytes s o at w c = take-add at w o ∙ ap (λ (x : List ℕ). take at o ++ take w x) c.same

-- a number in w bytes
abbrev front : (o : List ℕ) (at w v : ℕ) → List ℕ
front o at w v = take at o ++ bytes w v

front_length_law : (o : List ℕ) (at w v : ℕ) → at + w ≤ length o → length (front o at w v) ≡ at + w
front_length_law o at w v h =
    let l : at ≤ length o = omega arith in
    length-append (take at o) (bytes w v) ∙ rw (length-take-le at o l, length_bytes w v)

stored_is : (o : List ℕ) (at w v : ℕ) → stored at w v o ≡ front o at w v ++ drop (at + w) o
stored_is o at w v = sym (append_assoc (take at o) (bytes w v) (drop (at + w) o))

stored_take : (o : List ℕ) (at w v : ℕ) → at + w ≤ length o → take (at + w) (stored at w v o) ≡ front o at w v
stored_take o at w v h = ap (λ (x : List ℕ). take (at + w) x) (stored_is o at w v) ∙ take_at (front o at w v) (drop (at + w) o) (at + w) (front_length_law o at w v h)

stored_drop : (o : List ℕ) (at w v : ℕ) → at + w ≤ length o → drop (at + w) (stored at w v o) ≡ drop (at + w) o
stored_drop o at w v h = ap (λ (x : List ℕ). drop (at + w) x) (stored_is o at w v) ∙ drop_at (front o at w v) (drop (at + w) o) (at + w) (front_length_law o at w v h)

stored_length : (o : List ℕ) (at w v : ℕ) → at + w ≤ length o → length (stored at w v o) ≡ length o
stored_length o at w v h =
    let e = front_length_law o at w v h in
    ap length (stored_is o at w v) ∙ length-append (front o at w v) (drop (at + w) o) ∙ rw e
    (ap (λ (n : ℕ). n + length (drop (at + w) o)) (sym (length-take-le (at + w) o h)) ∙ sym (length-append (take (at + w) o) (drop (at + w) o)) ∙ ap length (take-append-drop (at + w) o))

stored_copied : (s o : List ℕ) (at w v : ℕ) → at + w ≤ length s → Copied s at o → Copied s (at + w) (stored at w v o)
stored_copied s o at w v h c =
    let e = c.long in
    let l : at + w ≤ length o = omega (arith, e) in
    record { long = stored_length o at w v l ∙ e; same = stored_drop o at w v l ∙ (further s o at w c).same }

-- 2. Stops, and what goes on

pub stopping : (s o : List ℕ) (at : ℕ) (step : (ℕ → Strip) → Strip) → Copied s at o → ((next : ℕ → Strip) (rest : ℕ → List ℕ) → step next rest at ≡ drop at s) → Did s at o step None o
stopping s o at step c h = record { same = λ next rest. sym (ap (λ (x : List ℕ). take at o ++ x) (h next rest) ∙ stays s o at c); left = c.long }

pub standing : (s o : List ℕ) (at n : ℕ) → Copied s at o → Did s at o (λ next. next n) (Some (passed at n)) o
standing s o at n c = record { same = λ next rest. refl; left = c }

-- where a pass is stopped, what would follow does not matter
pub stopped : (s o o' : List ℕ) (at : ℕ) (step : (ℕ → Strip) → Strip) (f : (ℕ → Strip) → ℕ → Strip) → Did s at o step None o' → Did s at o (λ next. step (f next)) None o'
stopped s o o' at step f d = record { same = λ next rest. d.same (f next) rest; left = d.left }

-- a pass and another
pub both : (s o o₁ o₂ : List ℕ) (at a m : ℕ) (step : (ℕ → Strip) → Strip) (f : (ℕ → Strip) → ℕ → Strip) (r : Option Passed)
    → Did s at o step (Some (passed a m)) o₁ → Did s a o₁ (λ next. f next m) r o₂ → Did s at o (λ next. step (f next)) r o₂
both s o o₁ o₂ at a m step f r d e = record { same = λ next rest. e.same next rest ∙ d.same (f next) rest; left = e.left }

-- a check where a pass stands
pub checking : (s o : List ℕ) (a m : ℕ) (b : Bool) (r : Option Passed) (f : (ℕ → Strip) → Strip) → Copied s a o → r ≡ pass_if b (Some (passed a m))
    → ((next : ℕ → Strip) (rest : ℕ → List ℕ) → f next rest a ≡ only s b (next m) rest a) → Did s a o f r o
checking s o a m true r f c e h = subst (λ (r : Option Passed). Did s a o f r o) (sym e) (record { same = λ next rest. ap (λ (x : List ℕ). take a o ++ x) (sym (h next rest)); left = c })
checking s o a m false r f c e h = subst (λ (r : Option Passed). Did s a o f r o) (sym e) (stopping s o a f c h)

-- 3. Fields

fits_of : (s o : List ℕ) (at w n : ℕ) (b : Bool) (step : (ℕ → Strip) → Strip) (r : Option Passed) → Copied s at o → r ≡ elim b [ true ↦ Some (passed (at + w) n) | false ↦ None ]
    → ((next : ℕ → Strip) (rest : ℕ → List ℕ) → step next rest at ≡ elim b [ true ↦ take w (drop at s) ++ next n rest (at + w) | false ↦ drop at s ]) → Did s at o step r o
fits_of s o at w n true step r c e h = subst (λ (r : Option Passed). Did s at o step r o) (sym e) (record {
  same = λ next rest. ap (λ (x : List ℕ). x ++ next n rest (at + w)) (kept_bytes s o at w c) ∙ append_assoc (take at o) (take w (drop at s)) (next n rest (at + w))
      ∙ ap (λ (x : List ℕ). take at o ++ x) (sym (h next rest));
  left = further s o at w c;
})
fits_of s o at w n false step r c e h = subst (λ (r : Option Passed). Did s at o step r o) (sym e) (stopping s o at step c h)

-- w bytes stay, and n is handed on
pub keeps : (s o : List ℕ) (at n end w : ℕ) (r : Option Passed) → Copied s at o → r ≡ fitting at w end n → Did s at o (λ next. keep s end w (λ x. next n)) r o
unfolding fitting keep
keeps s o at n end w r c e = fits_of s o at w n (leb (at + w) end) (λ next. keep s end w (λ x. next n)) r c e (λ next rest. refl)

-- w bytes stay, and their value is handed on
pub keeps_number : (s o : List ℕ) (at end w : ℕ) (r : Option Passed) → Copied s at o → r ≡ fitting at w end (number w s at) → Did s at o (keep s end w) r o
unfolding fitting keep
keeps_number s o at end w r c e = fits_of s o at w (number w s at) (leb (at + w) end) (keep s end w) r c e (λ next rest. refl)

pub keeps_byte : (s o : List ℕ) (at end : ℕ) (r : Option Passed) → Copied s at o → r ≡ fitting at 1 end (get_or s at 0) → Did s at o (keep s end 1) r o
keeps_byte s o at end r c e = let v : get_or s at 0 ≡ number 1 s at = one_byte s at refl in keeps_number s o at end 1 r c (rw v at e)

blanks_of : (s o o' : List ℕ) (at w n v end : ℕ) (b : Bool) (step : (ℕ → Strip) → Strip) (r : Option Passed) → leb (at + w) end ≡ b → end ≤ length s → Copied s at o → r ≡ elim b [ true ↦ Some (passed (at + w) n) | false ↦ None ]
    → o' ≡ elim b [ true ↦ stored at w v o | false ↦ o ]
    → ((next : ℕ → Strip) (rest : ℕ → List ℕ) → step next rest at ≡ elim b [ true ↦ bytes w v ++ next n rest (at + w) | false ↦ drop at s ]) → Did s at o step r o'
blanks_of s o o' at w n v end true step r b l c e k h =
    let f : at + w ≤ end = leb-true (at + w) end b in
    let l' : at + w ≤ length s = omega arith in
    let j = c.long in
    let l'' : at + w ≤ length o = omega (arith, j) in
    subst (λ (o' : List ℕ). Did s at o step r o') (sym k) (subst (λ (r : Option Passed). Did s at o step r (stored at w v o)) (sym e) (record {
      same = λ next rest. ap (λ (x : List ℕ). x ++ next n rest (at + w)) (stored_take o at w v l'') ∙ append_assoc (take at o) (bytes w v) (next n rest (at + w))
          ∙ ap (λ (x : List ℕ). take at o ++ x) (sym (h next rest));
      left = stored_copied s o at w v l' c;
    }))
blanks_of s o o' at w n v end false step r b l c e k h =
    subst (λ (o' : List ℕ). Did s at o step r o') (sym k) (subst (λ (r : Option Passed). Did s at o step r o) (sym e) (stopping s o at step c h))

-- w bytes have a number in their place, and n is handed on
pub blanks : (s o o' : List ℕ) (at n end w v : ℕ) (to : ℕ → ℕ) (r : Option Passed) → v ≡ to (number w s at) → end ≤ length s → Copied s at o → r ≡ fitting at w end n → o' ≡ put_if at w end v o
    → Did s at o (λ next. blank s end w to (λ x. next n)) r o'
unfolding fitting put_if blank
blanks s o o' at n end w v to r d l c e k =
    blanks_of s o o' at w n (to (number w s at)) end (leb (at + w) end) (λ next. blank s end w to (λ x. next n)) r refl l c e (rw d at k) (λ next rest. refl)

-- the same with the number that was there
pub blanks_value : (s o o' : List ℕ) (at end w v : ℕ) (to : ℕ → ℕ) → v ≡ to (number w s at) → end ≤ length s → Copied s at o → o' ≡ put_if at w end v o
    → Did s at o (blank s end w to) (fitting at w end (number w s at)) o'
unfolding fitting put_if blank
blanks_value s o o' at end w v to d l c k =
    blanks_of s o o' at w (number w s at) (to (number w s at)) end (leb (at + w) end) (blank s end w to) (fitting at w end (number w s at)) refl l c refl (rw d at k) (λ next rest. refl)

-- a pass and a check
pub guards : (s o o' : List ℕ) (at : ℕ) (good : ℕ → ℕ → Bool) (to : ℕ → ℕ) (step : (ℕ → Strip) → Strip) (r₀ r : Option Passed) → Did s at o step r₀ o' → r ≡ guarded good to r₀
    → Did s at o (λ next. step (λ v rest at. only s (good at v) (next (to v)) rest at)) r o'
unfolding guarded
guards s o o' at good to step (Some p) r d e =
    both s o o' o' at p.at p.last step (λ next v rest at. only s (good at v) (next (to v)) rest at) r d
    (checking s o' p.at (to p.last) (good p.at p.last) r (λ next rest at. only s (good at p.last) (next (to p.last)) rest at) d.left e (λ next rest. refl))
guards s o o' at good to step None r d e =
    subst (λ (r : Option Passed). Did s at o (λ next. step (λ v rest at. only s (good at v) (next (to v)) rest at)) r o') (sym e)
    (stopped s o o' at step (λ next v rest at. only s (good at v) (next (to v)) rest at) d)

pub guarded_within : (low high : ℕ) (good : ℕ → ℕ → Bool) (to : ℕ → ℕ) (r₀ r : Option Passed) → Within low high r₀ → r ≡ guarded good to r₀ → Within low high r
unfolding guarded
guarded_within low high good to (Some p) r h e = subst (λ (r : Option Passed). Within low high r) (sym e) (go (good p.at p.last))
  where
    go : (b : Bool) → Within low high (pass_if b (Some (passed p.at (to p.last))))
    go true = h
    go false = tt
guarded_within low high good to None r h e = subst (λ (r : Option Passed). Within low high r) (sym e) tt

-- a byte that is below a bound
pub keeps_below : (s o : List ℕ) (at end bound : ℕ) (r : Option Passed) → Copied s at o → r ≡ below_of bound (fitting at 1 end (get_or s at 0)) → Did s at o (keep_below s end bound) r o
keeps_below s o at end bound r c k = guards s o o at (λ a v. ltb v bound) (λ v. v) (keep s end 1) (fitting at 1 end (get_or s at 0)) r (keeps_byte s o at end _ c refl) k

pub wider : (low high low' high' : ℕ) (r : Option Passed) → low' ≤ low → high ≤ high' → Within low high r → Within low' high' r
wider low high low' high' (Some p) h k w = (omega (arith, w.0), omega (arith, w.1))
wider low high low' high' None h k w = tt
