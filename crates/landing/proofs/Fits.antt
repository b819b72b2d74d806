-- Code that emits only records that a listing may hold, with fields that fit their bytes: what is to be shown, and the rules.
use Prim.Native.Nat.{ℕ, zero, suc, ◌+◌, ◌*◌, ◌^◌, ◌<◌, ◌≤◌}
use mathlib.Core.Path.{◌≡◌, refl, sym}
use mathlib.Core.List.{List, [], ◌∷◌, ◌++◌}
use mathlib.Core.Logic.{◌⊎◌, inl, inr}
use mathlib.Core.Bool.{Bool, true, false, cond, not, ◌&&◌, ◌||◌, true≢false}
use native.Mathlib.Omega.{arith}
use native.Mathlib.Nat.{add-zero, pow-suc, pow-le-pow_right}
use native.Mathlib.Numerals.{add-one}
use lib.Dec.{ltb, lit<}
use borrow.Author.Tests.{ltb-true}
use Rattle.definitions.specs.Tag.{row_of, tag_size}
use Rattle.definitions.specs.Tree.{Exprs, enil, econs, place_of}
use Rattle.definitions.specs.Instr.{Instr, plain, unused0, good_record}
use Rattle.definitions.specs.Code.{Action, new, mark, emit, refuse, Code, done, act, ◌then◌, label, many, emits, label_limit}
use Rattle.definitions.specs.Lower.{require, is_flagged, flags_of, require_flags}
use Rattle.laws.proofs.Sizes.{emitted_is, tag_fits}
use Rattle.laws.proofs.Widths.{Within}
use Rattle.landing.specs.Landed.{Each}
use Rattle.landing.specs.Walk.{news, actions}

-- 1. Records

abbrev pub Fits : Instr → Type 0
Fits i = Within i × (good_record i ≡ true)

-- what its tag does not use is 0
abbrev pub unused_are0 : Instr → Bool
unused_are0 i =
    unused0 (row_of i.tag).small i.small && unused0 (row_of i.tag).first i.first && unused0 (row_of i.tag).second i.second
    && unused0 (row_of i.tag).line i.line && unused0 (row_of i.tag).flags i.flags && unused0 (row_of i.tag).value i.value

-- its tag has a size, and its other fields have their widths
abbrev pub Widths : Instr → Type 0
Widths i = (0 < tag_size i.tag) × (i.small < 256) × (i.first < 65536) × (i.second < 65536) × (i.line < 65536) × (i.flags < 65536) × (i.value < 256 ^ 8) × (i.node < 256 ^ 4)

fits : {i : Instr} → unused_are0 i ≡ true → Widths i → Fits i
unfolding good_record
fits {i} e w = (
  record { tag = tag_fits i.tag w.0; small = w.1; first = w.2; second = w.3; line = w.4; flags = w.5; value = w.6; node = w.7 },
  rw (emitted_is i.tag w.0) e,
)

masked : (used : Bool) (n : ℕ) → unused0 used (cond used n 0) ≡ true
unfolding unused0
masked true n = refl
masked false n = refl

zero_unused : (used : Bool) → unused0 used 0 ≡ true
unfolding unused0
zero_unused true = refl
zero_unused false = refl

pub masked_below : (used : Bool) (n w : ℕ) → n < w → cond used n 0 < w
masked_below true n w h = h
masked_below false n w h = omega arith

pub plain_fits : (at t m v : ℕ) → (0 < tag_size t) × (m < 256) × (v < 256 ^ 8) × (at < 256 ^ 4) → Fits (plain at t m v)
plain_fits at t m v w =
    let r = row_of t in
    fits (rw (masked r.small m, zero_unused r.first, zero_unused r.second, zero_unused r.line, zero_unused r.flags, masked r.value v))
    (w.0, masked_below r.small m 256 w.1, omega arith, omega arith, omega arith, omega arith, masked_below r.value v (256 ^ 8) w.2, w.3)

-- 2. The judgement

-- none of the actions refuses
unfoldable Passes : List Action → Type 0
Passes [] = Unit {0}
Passes (new at ∷ acts) = Passes acts
Passes (mark l ∷ acts) = Passes acts
Passes (emit i ∷ acts) = Passes acts
Passes (refuse n p x ∷ acts) = ⊥

-- with n labels before them, each record fits that the actions emit before they refuse
unfoldable pub AllFit : ℕ → List Action → Type 0
AllFit n [] = Unit {0}
AllFit n (new at ∷ acts) = n < label_limit → AllFit (n + 1) acts
AllFit n (mark l ∷ acts) = AllFit n acts
AllFit n (emit i ∷ acts) = Fits i × AllFit n acts
AllFit n (refuse a p x ∷ acts) = Unit {0}

passes_append : (a b : List Action) → Passes (a ++ b) → Passes a × Passes b
unfolding Passes
passes_append [] b h = (tt, h)
passes_append (new at ∷ a) b h = passes_append a b h
passes_append (mark l ∷ a) b h = passes_append a b h
passes_append (emit i ∷ a) b h = passes_append a b h
passes_append (refuse n p x ∷ a) b h = absurd h

fit_append : (n : ℕ) (a b : List Action) → AllFit n a → (Passes a → AllFit (n + news a) b) → AllFit n (a ++ b)
unfolding AllFit Passes news
fit_append n [] b f g = rw add-zero at (g tt)
fit_append n (new at ∷ a) b f g = λ l. fit_append (n + 1) a b (f l) (let e : n + suc (news a) ≡ n + 1 + news a = omega arith in λ h. rw e at (g h))
fit_append n (mark l ∷ a) b f g = fit_append n a b f g
fit_append n (emit i ∷ a) b f g = (f.0, fit_append n a b f.1 g)
fit_append n (refuse c p x ∷ a) b f g = tt

-- the code emits only records that fit, whatever labels there are before it
pub record Fine (p : Code) : Type 0 where
  pub holds : (n : ℕ) → AllFit n (actions p n)

-- 3. The rules

pub nothing : Fine done
unfolding actions AllFit
nothing = record { holds = λ n. tt }

one : {i : Instr} → Fits i → Fine (act (emit i))
unfolding actions AllFit
one h = record { holds = λ n. (h, tt) }

pub marks : {l : ℕ} → Fine (act (mark l))
unfolding actions AllFit
marks = record { holds = λ n. tt }

pub refuses : {c p x : ℕ} → Fine (act (refuse c p x))
unfolding actions AllFit
refuses = record { holds = λ n. tt }

-- the second part may take it that the first does not refuse
after : {p q : Code} → Fine p → ((n : ℕ) → Passes (actions p n) → Fine q) → Fine (p then q)
unfolding actions
after {p} f g = record { holds = λ n. let a = actions p n in fit_append n a _ (f.holds n) (λ h. (g n h).holds (n + news a)) }

pub seq : {p q : Code} → Fine p → Fine q → Fine (p then q)
seq f g = after f (λ n h. g)

pub labels : {at : ℕ} {k : ℕ → Code} → ((l : ℕ) → l < label_limit → Fine (k l)) → Fine (label at k)
unfolding actions AllFit
labels f = record { holds = λ n h. (f n h).holds (n + 1) }

-- a label and k more, which follow it
many_fit : (at k : ℕ) {p : Code} (n : ℕ) → n ≤ label_limit → (n + k ≤ label_limit → Fine p) → AllFit n (actions (many at k p) n)
unfolding many actions AllFit
many_fit at zero n h f = (f (omega arith)).holds n
many_fit at (suc k) n h f = λ l. many_fit at k (n + 1) (omega arith) (λ m. f (omega arith))

pub many_labels : {at : ℕ} (k : ℕ) {f : ℕ → Code} → ((l : ℕ) → l + k < label_limit → Fine (f l)) → Fine (label at λ l. many at k (f l))
unfolding actions AllFit
many_labels {at} k f = record { holds = λ n h. many_fit at k (n + 1) (omega arith) (λ m. f n (omega arith)) }

pub either : (b : Bool) {p q : Code} → Fine p → Fine q → Fine (cond b p q)
either true f g = f
either false f g = g

requires : (b : Bool) (c p x : ℕ) → Fine (require b c p x)
unfolding require
requires true c p x = nothing
requires false c p x = refuses

passed_require : (b : Bool) (c p x n : ℕ) → Passes (actions (require b c p x) n) → b ≡ true
unfolding require actions Passes
passed_require true c p x n h = refl
passed_require false c p x n h = absurd h

-- a check, and what follows if it is passed
pub required : (b : Bool) (c p x : ℕ) {q : Code} → (b ≡ true → Fine q) → Fine (require b c p x then q)
required b c p x f = after (requires b c p x) (λ n h. f (passed_require b c p x n h))

pub straight : (is : List Instr) → Each Fits is → Fine (emits is)
unfolding emits
straight [] h = nothing
straight (i ∷ is) h = seq (one h.0) (straight is h.1)

-- with no label
pub bare : (at t m v : ℕ) → (0 < tag_size t) × (m < 256) × (v < 256 ^ 8) × (at < 256 ^ 4) → Fine (act (emit (plain at t m v)))
bare at t m v w = one (plain_fits at t m v w)

-- with labels
pub carry : {i : Instr} → unused_are0 i ≡ true → Widths i → Fine (act (emit i))
carry e w = one (fits e w)

-- 4. Flags: "flagged argument at index 16 or later" is refused before the call's record

-- the flags of arguments from the bit `bit` on are none, or end before bit 16
abbrev Few : (bit flags : ℕ) → Type 0
Few bit f = (f ≡ 0) ⊎ (f + bit ≤ 65536)

few_more : (flagged : Bool) (bit f : ℕ) → (flagged ≡ true → 2 * bit ≤ 65536) → Few (2 * bit) f → Few bit (cond flagged bit 0 + f)
few_more true bit f h (inl z) = inr (omega (arith, h refl))
few_more true bit f h (inr l) = inr (omega arith)
few_more false bit f h (inl z) = inl (omega arith)
few_more false bit f h (inr l) = inr (omega arith)

index_below : (flagged : Bool) (i : ℕ) → (not flagged || ltb i 16) ≡ true → flagged ≡ true → i < 16
index_below true i e f = ltb-true i 16 e
index_below false i e f = absurd (true≢false (sym f))

few : (es : Exprs) (i n : ℕ) → Passes (actions (require_flags es i) n) → Few (2 ^ i) (flags_of es (2 ^ i))
unfolding require_flags flags_of actions
few enil i n h = inl refl
few (econs e es) i n h =
    let test = not (is_flagged e) || ltb i 16 in
    let k = passes_append (actions (require test 13 (place_of e) (i + 1)) n) _ h in
    let below = index_below (is_flagged e) i (passed_require test 13 (place_of e) (i + 1) n k.0) in
    let twice : 2 ^ (i + 1) ≡ 2 * 2 ^ i = rw (add-one i, pow-suc 2 i) (omega arith) in
    few_more (is_flagged e) (2 ^ i) _ (λ f. omega (arith, twice, pow-le-pow_right {n = 2} (lit< tt) {i = i + 1} {j = 16} (omega (arith, below f))))
    (rw twice at (few es (i + 1) _ k.1))

require_flags_fine : (es : Exprs) (i : ℕ) → Fine (require_flags es i)
unfolding require_flags
require_flags_fine enil i = nothing
require_flags_fine (econs e es) i = seq (requires _ 13 _ (i + 1)) (require_flags_fine es (i + 1))

pub flagged : (es : Exprs) {q : Code} → (flags_of es 1 < 65536 → Fine q) → Fine (require_flags es 0 then q)
flagged es f = after (require_flags_fine es 0) (λ n h. f (enough (few es 0 n h)))
  where
    enough : Few 1 (flags_of es 1) → flags_of es 1 < 65536
    enough (inl z) = omega arith
    enough (inr l) = omega arith
