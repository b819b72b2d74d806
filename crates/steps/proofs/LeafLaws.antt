-- Tables and single records. Assumes nothing.
use Rattle.std.proofs.Common.{◌≡◌, ℕ, zero, suc, ◌+◌, ◌-◌, ◌<◌, ◌≤◌, Bool, true, false, cond, not, ◌&&◌, ◌||◌, eqb, ltb, List, [], ◌∷◌, length, get_or, sym, refl, ap, ◌∙◌, arith, le-ltb, lt-ltb, eq-eqb, ne_eqb, eqb-true}
use lib.ListN.{get_or-eq_default}
use Rattle.std.specs.Prelude as std
use Rattle.definitions.specs.Bytes.{number}
use Rattle.definitions.specs.Tag.{Nop, Assign, Local, Construct, Null, ArrayClear, I32ToEnum, I8Const, ObjectField, I32Zero, I32One, I32Const, FalseConst, TrueConst, const_tag, const_tags, const_widths, intrinsics, intrinsic_of, default_tags}
use Rattle.definitions.specs.Instr.{plain}
use Rattle.definitions.specs.Code.{new, emit, act, emits, done, many}
use Rattle.definitions.specs.Lower.{instr, primitive_default, default_instrs}
use Rattle.definitions.specs.Answer.{onward}
use Rattle.steps.specs.Running.{Sinks, run, noted}
use Rattle.std.proofs.Math.Option.{none, some}
use Rattle.std.specs.Bool.{then_some}
use mir.Val.{bool_byte}
use Rattle.steps.specs.Walked.{target_of, const_code, same_as, ran, EmittedFrom, LabelledFrom, Walk}
use native.Mathlib.Decide.{dec_lt}
use Rattle.laws.proofs.Inversion.{impossible}
use Rattle.std.specs.Prelude.{Option, Some, None}
use Rattle.std.proofs.Common.{Bor, map}
use Rattle.std.specs.Option.{option_map, option_copied}
use Rattle.std.specs.Prelude.{unwrap_or}
use Rattle.std.specs.Slice.{IsItemAt}
use Rattle.std.proofs.lemmas.Option.{unwrap_or-slice_get}
use lib.Dec.{T, ltb→lt}
use lib.ListN.{get_or-map}
use Rattle.laws.proofs.Tables.{every}
use Rattle.laws.proofs.Tables.{at as at-entry}
use Rattle.instr.proofs.TableLaws.{copied_get}
use Rattle.instr.specs.declared.tag.Tag.TheVariants as tag
use Rattle.instr.specs.declared.refusals.Refusal.{Refusal}
use Rattle.definitions.specs.Tag as definitions
use Rattle.steps.specs.declared.tags.Intrinsic.{Intrinsic}
use Rattle.steps.specs.declared.tags.TheConstants.{INTRINSICS}
use Rattle.std.specs.List.{slice_get}
use Rattle.std.proofs.lemmas.Option.{slice_get_past, slice_get-get_or}
use Rattle.instr.specs.declared.tag.Tag.{Tag}
use Rattle.instr.specs.Tags.{byte_of}
use Rattle.laws.proofs.Results.{onward_assoc, onward_made}
use Rattle.steps.proofs.StepLaws.{emitted_both, none_emitted}

-- 1. Tables

pub const_i32 : (b v r : ℕ) → b ≡ 9 → r ≡ get_or (I32Zero ∷ I32One ∷ []) v I32Const → r ≡ const_tag b v
unfolding const_tag
const_i32 b v r e q = rw (const_tag, eq-eqb b 9 e) q

pub const_bool : (b v r : ℕ) → b ≡ 15 → r ≡ get_or (FalseConst ∷ []) v TrueConst → r ≡ const_tag b v
unfolding const_tag
const_bool b v r e q = rw (const_tag, ne_eqb b 9 (λ h. omega (arith, e, h)), eq-eqb b 15 e) q

pub const_other : (b v : ℕ) → (b ≡ 9 → ⊥) → (b ≡ 15 → ⊥) → get_or const_tags b Nop ≡ const_tag b v
unfolding const_tag
const_other b v h g = rw (const_tag, ne_eqb b 9 h, ne_eqb b 15 g)

-- 1b. A constant's value, by its byte

-- w is the width of byte b
pub by_width : (b w k : ℕ) {v : ℕ} (s : List ℕ) (at : ℕ) → w ≡ get_or const_widths b 0 → w ≡ k → v ≡ number k s at → v ≡ number (get_or const_widths b 0) s at
by_width b w k s at e f h = h ∙ ap (λ n. number n s at) (sym f ∙ e)

abbrev listed : ℕ → Bool
listed w = eqb w 0 || eqb w 1 || eqb w 2 || eqb w 4 || eqb w 8

one_of_five : (w : ℕ) → T (listed w) → (w ≡ 1 → ⊥) → (w ≡ 2 → ⊥) → (w ≡ 4 → ⊥) → (w ≡ 8 → ⊥) → w ≡ 0
one_of_five w h a b c d = go (eqb w 0) refl (rw (ne_eqb w 1 a, ne_eqb w 2 b, ne_eqb w 4 c, ne_eqb w 8 d) at h)
  where
    go : (z : Bool) → eqb w 0 ≡ z → T (z || false || false || false || false) → w ≡ 0
    go true e t = eqb-true w 0 e
    go false e t = absurd t

pub no_width : (b w : ℕ) (s : List ℕ) (at : ℕ) → w ≡ get_or const_widths b 0 → (w ≡ 1 → ⊥) → (w ≡ 2 → ⊥) → (w ≡ 4 → ⊥) → (w ≡ 8 → ⊥) → 0 ≡ number (get_or const_widths b 0) s at
unfolding const_widths every number
no_width b w s at e i j k l =
    let z : w ≡ 0 = one_of_five w (rw e (at-entry listed const_widths 0 tt tt b)) i j k l in
    ap (λ n. number n s at) (sym z ∙ e)

-- past no end the default does not count
get_or_any : {A : Type 0} (xs : List A) (k : ℕ) (d e : A) → k < length xs → get_or xs k d ≡ get_or xs k e
get_or_any [] k d e h = absurd (omega arith)
get_or_any (x ∷ xs) zero d e h = refl
get_or_any (x ∷ xs) (suc k) d e h = get_or_any xs k d e (omega arith)

-- an entry of a table of tags, by what `get` gives of it
pub entry_or : (xs : List Tag) (ns : List ℕ) (k : ℕ) (r : Option (Bor Tag)) (d : Tag) → map byte_of xs ≡ ns → IsItemAt xs k r → byte_of (unwrap_or (option_copied r) d) ≡ get_or ns k (byte_of d)
entry_or xs ns k r d e h = rw (copied_get xs k r h, unwrap_or-slice_get xs k d, ← e) (sym (get_or-map byte_of xs k d))

-- the intrinsics as the code has them
abbrev coded : Intrinsic → definitions.Intrinsic
coded i = record { tag = byte_of i.0; small = i.1; types = i.2 }

abbrev pub no_intrinsic : Intrinsic
no_intrinsic = record { 0 = tag.Nop; 1 = 0; 2 = 0 }

intrinsics_are : map coded INTRINSICS ≡ intrinsics
unfolding intrinsics
intrinsics_are = refl

pub intrinsic_at : (k : ℕ) → coded (get_or INTRINSICS k no_intrinsic) ≡ intrinsic_of k
unfolding intrinsic_of
intrinsic_at k = rw (← intrinsics_are) (sym (get_or-map coded INTRINSICS k no_intrinsic))

pub small_at : (k : ℕ) → (get_or INTRINSICS k no_intrinsic).1 < 256
unfolding every
small_at k =
    let e = get_or-map (λ (i : Intrinsic). i.1) INTRINSICS k no_intrinsic in
    rw (← e) (ltb→lt (get_or (map (λ (i : Intrinsic). i.1) INTRINSICS) k 0) 256 (at-entry (λ x. ltb x 256) (map (λ (i : Intrinsic). i.1) INTRINSICS) 0 tt tt k))

-- by what `get` gives
pub intrinsic_some : (k : ℕ) (r : Option (Bor Intrinsic)) (x : Bor Intrinsic) → r ≡ Some x → IsItemAt INTRINSICS k r → byte_of x.now.0 ≡ (intrinsic_of k).tag
intrinsic_some k r x e h =
    let q = rw e at h in
    ap (λ (i : Intrinsic). byte_of i.0) (q.1 ∙ get_or_any INTRINSICS k x.now no_intrinsic q.3.0) ∙ ap (λ i. i.tag) (intrinsic_at k)

pub intrinsic_none : (k : ℕ) (r : Option (Bor Intrinsic)) → r ≡ None → IsItemAt INTRINSICS k r → Nop ≡ (intrinsic_of k).tag
unfolding intrinsic_of intrinsics
intrinsic_none k r e h = let q = rw e at h in sym (ap (λ x. x.tag) (get_or-eq_default intrinsics _ q.3))

pub typed_is : (short types k n : ℕ) → short ≡ 0 → n ≡ (intrinsic_of k).types → eqb types n ≡ (eqb short 0 && eqb types (intrinsic_of k).types)
typed_is short types k n e f = rw (e, f)

-- 2. Records

pub const_did : {S : Type 0} {K : Sinks S} {w r : Walk} {o o' : S} (s : List ℕ) (at b v t : ℕ) → b ≡ get_or s (at + 5) 0 → v ≡ number (get_or const_widths b 0) s (at + 6) → t ≡ const_tag b v → EmittedFrom K (instr at t v) w o r o' → EmittedFrom K (const_code s at) w o r o'
unfolding const_code
const_did s at b v t e f g d = rw (const_code, ← e, ← f, ← g) d

-- the k-th of a table of tags, by what the code answers
entry_is : (ts : List ℕ) (k t : ℕ) → Some t ≡ slice_get ts k → (k < length ts) × (t ≡ get_or ts k 0)
entry_is ts k t e = elim (dec_lt k (length ts)) [
  | yes h ↦ let q : Some t ≡ Some (get_or ts k 0) = e ∙ slice_get-get_or ts k 0 h in (h, cc)
  | no h ↦ let q : Some t ≡ None = e ∙ slice_get_past ts k (omega arith) in impossible (cc)
]

entry_none : (ts : List ℕ) (k : ℕ) → None ≡ slice_get ts k → length ts ≤ k
entry_none ts k e = elim (dec_lt k (length ts)) [
  | yes h ↦ let q : None ≡ Some (get_or ts k 0) = e ∙ slice_get-get_or ts k 0 h in impossible (cc)
  | no h ↦ omega arith
]

pub primitive_is : {S : Type 0} {K : Sinks S} {w r : Walk} {o o' : S} (at k i v : ℕ) (t : Tag) (z : Option Tag) → z ≡ Some t → option_map byte_of z ≡ slice_get default_tags k → v ≡ cond (ltb k 4) i 0 → EmittedFrom K (instr at (byte_of t) v) w o r o' → EmittedFrom K (emits (primitive_default at k i)) w o r o'
unfolding primitive_default emits default_tags
primitive_is at k i v t z d e f g = let q = entry_is default_tags k (byte_of t) (rw d at e) in rw (primitive_default, lt-ltb k 17 q.0, ← q.1, ← f) (emitted_both g none_emitted)

pub primitive_none : {S : Type 0} {K : Sinks S} {w : Walk} {o : S} (at k i : ℕ) (z : Option Tag) → z ≡ None → option_map byte_of z ≡ slice_get default_tags k → EmittedFrom K (emits (primitive_default at k i)) w o w o
unfolding primitive_default emits default_tags
primitive_none at k i z d e = rw (primitive_default, le-ltb k 17 (entry_none default_tags k (rw d at e))) none_emitted

pub default_read : {S : Type 0} {K : Sinks S} {w r : Walk} {o o' : S} (at l b i : ℕ) {l' b' i' : ℕ} → l ≡ l' → b ≡ b' → i ≡ i' → EmittedFrom K (emits (default_instrs at l b i)) w o r o' → EmittedFrom K (emits (default_instrs at l' b' i')) w o r o'
default_read at l b i e f g d = rw (← e, ← f, ← g) d

pub default_variant : {S : Type 0} {K : Sinks S} {w : Walk} {o : S} (at l b i : ℕ) → b ≡ 0 → EmittedFrom K (emits (default_instrs at l b i)) w o w o
unfolding default_instrs emits
default_variant at l b i e = rw e none_emitted

pub default_array : {S : Type 0} {K : Sinks S} {w v r : Walk} {o o₁ o' : S} (at l b i : ℕ) → b ≡ 1 → EmittedFrom K (instr at ArrayClear i) w o v o₁ → EmittedFrom K (instr at Local l) v o₁ r o' → EmittedFrom K (emits (default_instrs at l b i)) w o r o'
unfolding default_instrs emits
default_array at l b i e x y = rw e (emitted_both x (emitted_both y none_emitted))

module _ {S : Type 0} {K : Sinks S} {w v u : Walk} {o o₁ o₂ : S} (at l b i : ℕ) (x : EmittedFrom K (instr at Assign 0) w o v o₁) (y : EmittedFrom K (instr at Local l) v o₁ u o₂) where
  pub default_struct : {r : Walk} {o' : S} → b ≡ 2 → EmittedFrom K (instr at Construct i) u o₂ r o' → EmittedFrom K (emits (default_instrs at l b i)) w o r o'
  unfolding default_instrs emits
  default_struct e z = rw e (emitted_both x (emitted_both y (emitted_both z none_emitted)))

  pub default_other : {r : Walk} {o' : S} → b ≡ 3 → EmittedFrom K (instr at Null 0) u o₂ r o' → EmittedFrom K (emits (default_instrs at l b i)) w o r o'
  unfolding default_instrs emits
  default_other e z = rw e (emitted_both x (emitted_both y (emitted_both z none_emitted)))

  pub default_enum : {t r : Walk} {o₃ o' : S} → b ≡ 4 → EmittedFrom K (act (emit (plain at I32ToEnum 1 i))) u o₂ t o₃ → EmittedFrom K (instr at I8Const 0) t o₃ r o' → EmittedFrom K (emits (default_instrs at l b i)) w o r o'
  unfolding default_instrs emits
  default_enum e z a = rw e (emitted_both x (emitted_both y (emitted_both z (emitted_both a none_emitted))))

  pub default_primitive : {r : Walk} {o' : S} → 5 ≤ b → EmittedFrom K (emits (primitive_default at (b - 5) i)) u o₂ r o' → EmittedFrom K (emits (default_instrs at l b i)) w o r o'
  unfolding default_instrs emits
  default_primitive h z = go b h z
    where
      go : (b : ℕ) → 5 ≤ b → {r : Walk} {o' : S} → EmittedFrom K (emits (primitive_default at (b - 5) i)) u o₂ r o' → EmittedFrom K (emits (default_instrs at l b i)) w o r o'
      go (suc (suc (suc (suc (suc n))))) h z = emitted_both x (emitted_both y z)
      go zero h z = absurd (omega arith)
      go (suc zero) h z = absurd (omega arith)
      go (suc (suc zero)) h z = absurd (omega arith)
      go (suc (suc (suc zero))) h z = absurd (omega arith)
      go (suc (suc (suc (suc zero)))) h z = absurd (omega arith)

-- 3. Labels

-- `left` of n labels are left
pub record NewRest (at n : ℕ) (w : Walk) (m : List ℕ) (left : ℕ) (v : Walk) (m' : List ℕ) : Type 0 where
  pub goes : onward (ran v [] m') (run noted (many at left done)) ≡ onward (ran w [] m) (run noted (many at n done))
  pub marked : length m' ≡ length m

new_on : (at left : ℕ) (v z : Walk) (m m' : List ℕ) → 0 < left → LabelledFrom (act (new at)) v m z m' →
    onward (ran z [] m') (run noted (many at (left - 1) done)) ≡ onward (ran v [] m) (run noted (many at left done))
unfolding many run
new_on at zero v z m m' h d = absurd (omega arith)
new_on at (suc n) v z m m' h d =
    let e : suc n - 1 ≡ n = omega arith in
    rw e (ap (λ x. onward x (run noted (many at n done))) d.did.same ∙ onward_assoc (ran v [] m) (run noted (act (new at))) (run noted (many at n done)))

pub new_next : {at n : ℕ} {w : Walk} {m : List ℕ} {left : ℕ} {v z : Walk} {m₁ m₂ : List ℕ} → NewRest at n w m left v m₁ → 0 < left → LabelledFrom (act (new at)) v m₁ z m₂ → NewRest at n w m (left - 1) z m₂
new_next {at} {left = left} {v = v} {z = z} {m₁ = m₁} {m₂ = m₂} r h d = record { goes = new_on at left v z m₁ m₂ h d ∙ r.goes; marked = d.did.marked ∙ r.marked }

no_many : (at k : ℕ) → k ≡ 0 → many at k done ≡ done
unfolding many
no_many at k e = rw e

pub new_stop : {at n : ℕ} {w : Walk} {m : List ℕ} {left : ℕ} {e : Refusal} {m₁ : List ℕ} → NewRest at n w m left (std.Err e) m₁ → LabelledFrom (many at n done) w m (std.Err e) m₁
unfolding ran onward
new_stop r = record { did = record { same = r.goes; marked = r.marked } }

pub new_end : {at n : ℕ} {w : Walk} {m : List ℕ} {left : ℕ} {v : Walk} {m₁ : List ℕ} → NewRest at n w m left v m₁ → left ≤ 0 → LabelledFrom (many at n done) w m v m₁
unfolding run
new_end {at} {left = left} {v = v} {m₁ = m₁} r h = record {
  did =
      let z : many at left done ≡ done = no_many at left (omega (arith, h)) in
      let y : onward (ran v [] m₁) (run noted done) ≡ onward _ (run noted (many at _ done)) = ap (λ c. onward (ran v [] m₁) (run noted c)) (sym z) ∙ r.goes in
      record { same = sym (onward_made (ran v [] m₁)) ∙ y; marked = r.marked };
}

-- the body label of a group that may have ended
pub group_closed : (ends : Bool) (body : ℕ) (r : Option ℕ) → r ≡ then_some (not ends) body → target_of r ≡ cond ends none (some body)
unfolding target_of
group_closed true body r e = rw e
group_closed false body r e = rw e

pub same_number : (k index : ℕ) → bool_byte (eqb k index) ≡ same_as k index
unfolding same_as
same_number k index = go (eqb k index)
  where
    go : (b : Bool) → bool_byte b ≡ cond b 1 0
    go true = refl
    go false = refl
