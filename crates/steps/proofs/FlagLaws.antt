-- The flags of a call's arguments. Assumes nothing.
use Rattle.std.proofs.Common.{◌≡◌, ℕ, zero, suc, ◌+◌, ◌*◌, ◌%◌, ◌^◌, ◌<◌, ◌≤◌, Bool, true, false, cond, not, ◌||◌, eqb, ne_eqb, ltb, List, [], ◌∷◌, get_or, sym, refl, ap, ◌∙◌, arith}
use Rattle.std.specs.Prelude as std
use Rattle.definitions.specs.Answer.{ok}
use Rattle.definitions.specs.Bytes.{number}
use Rattle.definitions.specs.Tree.{Expr, Exprs, enil, econs, exprs_of, place_of}
use Rattle.definitions.specs.Read.{parse_expr}
use Rattle.definitions.specs.Code.{Code, ◌then◌}
use Rattle.definitions.specs.Tag.{InvokeStatic, InvokeVirtual}
use Rattle.definitions.specs.Lower.{is_flagged, flags_of, require_flags, require, invoke, emit_invoke}
use Rattle.instr.specs.declared.refusals.Refusal.{Refusal}
use Rattle.ir.specs.Places.{end_of}
use Rattle.ir.specs.Args.{flagged_at}
use Rattle.ir.proofs.ArgLaws.{flagged_read, place_is}
use Rattle.ir.proofs.Inversion.{expr_at, expr_moves, fill_none}
use Rattle.steps.specs.Running.{Sinks, noted}
use Rattle.steps.specs.Walked.{Accepted, list_of, exprs_from, callee_at, EmittedFrom, LeftFrom, Walk}
use Rattle.steps.proofs.StepLaws.{recode, emit_alike}
use Rattle.steps.proofs.RunLaws.{Goes, goes_on, goes_end, goes_stops, one_step, renamed, Turn, turn, listed}

-- 1. The check

-- at i, of the argument number k: what is left to check
pub record FlagsRest (d : ℕ) (s : List ℕ) (end : ℕ) (code : Code) (w : Walk) (i k : ℕ) (v : Walk) : Type 0 where
  pub acc : Accepted (exprs_from d s end i)
  pub to : i ≤ end
  pub few : k ≤ i
  pub goes : (m : List ℕ) → Goes noted code w [] m (require_flags (exprs_of (list_of (exprs_from d s end i))) k) v [] m

pub arg_turn : (d : ℕ) (s : List ℕ) (end i : ℕ) (a : Accepted (exprs_from d s end i)) → i < end → Turn (parse_expr d s) end i a.0 a.1
arg_turn d s end i a h = turn (parse_expr d s) end i (expr_moves d s end) h a.2

others_are : (d : ℕ) (s : List ℕ) (end i next : ℕ) (a : Accepted (exprs_from d s end i)) (h : i < end) → next ≡ end_of s i →
    (Accepted (exprs_from d s end next)) × (next ≤ end) × (i < next) × (list_of (exprs_from d s end i) ≡ (arg_turn d s end i a h).item ∷ list_of (exprs_from d s end next))
others_are d s end i next a h e =
    let k = arg_turn d s end i a h in
    let z = expr_at d s end i k.reads in
    let q : k.next ≡ next = z.ends ∙ sym e in
    let r : exprs_from d s end next ≡ ok k.others a.1 = rw q at k.after in
    ((k.others, a.1, r), omega (arith, z.tail, q), omega (arith, z.head, q), listed _ _ _ a.2 ∙ k.whole ∙ ap (λ xs. k.item ∷ xs) (sym (listed _ _ _ r)))

-- no argument is left
none_left : (d : ℕ) (s : List ℕ) (end i : ℕ) → Accepted (exprs_from d s end i) → end ≤ i → list_of (exprs_from d s end i) ≡ []
none_left d s end i a h = listed _ _ _ a.2 ∙ (fill_none (parse_expr d s) end (expr_moves d s end) i h a.2).0

no_bits : (bit : ℕ) → flags_of (exprs_of []) bit ≡ 0
unfolding flags_of exprs_of
no_bits bit = refl

flags_cons : (x : Expr) (xs : List Expr) (k : ℕ) → require_flags (exprs_of (x ∷ xs)) k ≡ require (not (is_flagged x) || ltb k 16) 13 (place_of x) (k + 1) then require_flags (exprs_of xs) (k + 1)
unfolding require_flags exprs_of
flags_cons x xs k = refl

pub flags_next : {d : ℕ} {s : List ℕ} {end : ℕ} {code : Code} {w : Walk} {i k : ℕ} {v : Walk} → FlagsRest d s end code w i k v → i < end → (flagged fits : Bool) (next : ℕ) (v₂ : Walk) →
    flagged ≡ flagged_at s i → fits ≡ (not flagged || ltb k 16) → LeftFrom (require fits 13 i (k + 1)) v v₂ → next ≡ end_of s i → FlagsRest d s end code w next (k + 1) v₂
flags_next {d} {s} {end} {i = i} {k = k} {v = v} r h flagged fits next v₂ tells f l e =
    let t = arg_turn d s end i r.acc h in
    let b = others_are d s end i next r.acc h e in
    let g : flagged ≡ is_flagged t.item = tells ∙ flagged_read s i d end t.next t.item t.reads in
    let p : place_of t.item ≡ i = place_is s i d end t.next t.item t.reads in
    let c : require (not (is_flagged t.item) || ltb k 16) 13 (place_of t.item) (k + 1) ≡ require fits 13 i (k + 1) = rw (← g, p, f) in
    record {
      acc = b.0;
      to = b.1;
      few = omega (arith, r.few, b.2);
      goes = λ m. goes_on (r.goes m) (goes_on (renamed v [] m (ap (λ xs. require_flags (exprs_of xs) k) b.3 ∙ flags_cons t.item _ k)) (one_step _ (recode c (l.did m))));
    }

pub flags_end : {d : ℕ} {s : List ℕ} {end : ℕ} {code : Code} {w : Walk} {i k : ℕ} {v : Walk} → FlagsRest d s end code w i k v → end ≤ i → LeftFrom code w v
unfolding require_flags exprs_of list_of
flags_end {d} {s} {end} {i = i} {k = k} {v = v} r h = record { did = λ m. goes_end (goes_on (r.goes m) (renamed v [] m (ap (λ xs. require_flags (exprs_of xs) k) (none_left d s end i r.acc h)))) }

pub flags_stop : {d : ℕ} {s : List ℕ} {end : ℕ} {code : Code} {w : Walk} {i k : ℕ} {e : Refusal} → FlagsRest d s end code w i k (std.Err e) → LeftFrom code w (std.Err e)
flags_stop r = record { did = λ m. goes_stops (r.goes m) }

-- 2. The bits

abbrev pub cut : ℕ → ℕ
cut n = n % 2 ^ 16

flags_mod : (es : Exprs) (b c : ℕ) → cut b ≡ cut c → cut (flags_of es b) ≡ cut (flags_of es c)
unfolding flags_of
flags_mod enil b c h = refl
flags_mod (econs e es) b c h = go (is_flagged e) (flags_mod es (2 * b) (2 * c) (omega arith))
  where
    go : (f : Bool) → cut (flags_of es (2 * b)) ≡ cut (flags_of es (2 * c)) → cut (cond f b 0 + flags_of es (2 * b)) ≡ cut (cond f c 0 + flags_of es (2 * c))
    go true k = omega arith
    go false k = omega arith

pub record BitsRest (d : ℕ) (s : List ℕ) (end all i bit flags : ℕ) : Type 0 where
  pub acc : Accepted (exprs_from d s end i)
  pub to : i ≤ end
  pub small : flags < 2 ^ 16
  pub same : cut (flags + flags_of (exprs_of (list_of (exprs_from d s end i))) bit) ≡ cut all

pub bits_start : (d : ℕ) (s : List ℕ) (end at : ℕ) → Accepted (exprs_from d s end at) → at ≤ end → BitsRest d s end (flags_of (exprs_of (list_of (exprs_from d s end at))) 1) at 1 0
bits_start d s end at a h = record { acc = a; to = h; small = omega arith; same = omega arith }

bits_cons : (x : Expr) (xs : List Expr) (bit : ℕ) → flags_of (exprs_of (x ∷ xs)) bit ≡ cond (is_flagged x) bit 0 + flags_of (exprs_of xs) (2 * bit)
unfolding flags_of exprs_of
bits_cons x xs bit = refl

mod_add : (a b c d : ℕ) → cut a ≡ cut b → cut c ≡ cut d → cut (a + c) ≡ cut (b + d)
mod_add a b c d h k = omega arith

mod_mod : (a b : ℕ) → a ≡ b % 2 ^ 16 → cut a ≡ cut b
mod_mod a b h = omega arith

bits_sum : (flags one rest rest₂ flags₂ whole bit all : ℕ) → whole ≡ one + rest → cut rest₂ ≡ cut rest → flags₂ ≡ (flags + one) % 2 ^ 16 → cut (flags + whole) ≡ cut all → cut (flags₂ + rest₂) ≡ cut all
bits_sum flags one rest rest₂ flags₂ whole bit all x y f h =
    let e : flags + one + rest ≡ flags + whole = omega (arith, x) in
    mod_add flags₂ (flags + one) rest₂ rest (mod_mod flags₂ (flags + one) f) y ∙ ap cut e ∙ h

pub bits_next : {d : ℕ} {s : List ℕ} {end all i bit flags : ℕ} → BitsRest d s end all i bit flags → i < end → (flagged : Bool) (one flags₂ bit₂ next : ℕ) →
    flagged ≡ flagged_at s i → one ≡ cond flagged bit 0 → flags₂ ≡ (flags + one) % 2 ^ 16 → bit₂ ≡ (bit + bit) % 2 ^ 16 → next ≡ end_of s i → BitsRest d s end all next bit₂ flags₂
bits_next {d} {s} {end} {all} {i} {bit} {flags} r h flagged one flags₂ bit₂ next tells o f b e =
    let t = arg_turn d s end i r.acc h in
    let z = others_are d s end i next r.acc h e in
    let g : flagged ≡ is_flagged t.item = tells ∙ flagged_read s i d end t.next t.item t.reads in
    let x : flags_of (exprs_of (list_of (exprs_from d s end i))) bit ≡ one + flags_of (exprs_of (list_of (exprs_from d s end next))) (2 * bit) = ap (λ xs. flags_of (exprs_of xs) bit) z.3 ∙ bits_cons t.item _ bit ∙ ap (λ y. cond y bit 0 + flags_of (exprs_of (list_of (exprs_from d s end next))) (2 * bit)) (sym g) ∙ ap (λ y. y + flags_of (exprs_of (list_of (exprs_from d s end next))) (2 * bit)) (sym o) in
    let y : cut (flags_of (exprs_of (list_of (exprs_from d s end next))) bit₂) ≡ cut (flags_of (exprs_of (list_of (exprs_from d s end next))) (2 * bit)) = flags_mod (exprs_of (list_of (exprs_from d s end next))) bit₂ (2 * bit) (omega (arith, b)) in
    record { acc = z.0; to = z.1; small = rw f (omega arith); same = bits_sum flags one _ _ flags₂ _ bit all x y f r.same }

pub bits_end : {d : ℕ} {s : List ℕ} {end all i bit flags : ℕ} → BitsRest d s end all i bit flags → end ≤ i → flags ≡ all % 2 ^ 16
bits_end {d} {s} {end} {all} {i} {bit} r h =
    let x : flags_of (exprs_of (list_of (exprs_from d s end i))) bit ≡ 0 = ap (λ xs. flags_of (exprs_of xs) bit) (none_left d s end i r.acc h) ∙ no_bits bit in
    omega (arith, r.same, r.small, x)

-- 3. The invoke, whose flags are sixteen bits

invoke_cut : {S : Type 0} {K : Sinks S} (at t l n f v : ℕ) {g : ℕ} {w r : Walk} {o o' : S} → g ≡ f % 2 ^ 16 → EmittedFrom K (invoke at t l n g v) w o r o' → EmittedFrom K (invoke at t l n f v) w o r o'
invoke_cut at t l n f v {g = g} e d = let z : g % 2 ^ 16 ≡ f % 2 ^ 16 = omega (arith, e) in emit_alike (rw z) refl d

module _ {S : Type 0} {K : Sinks S} (s : List ℕ) (at site exit line flags : ℕ) {g : ℕ} {w r : Walk} {o o' : S} (e : g ≡ flags % 2 ^ 16) (n : line ≡ number 2 s (at + 8)) where
  pub invoke_law : (tag value : ℕ) → tag ≡ cond (eqb (get_or s (at + 10) 0) 0) InvokeVirtual InvokeStatic → value ≡ cond (eqb (get_or s (at + 10) 0) 0) (number 4 s (at + 4)) (number 4 s at) → EmittedFrom K (invoke site tag exit line g value) w o r o' →
      EmittedFrom K (emit_invoke site (callee_at s at).flags exit (callee_at s at).line flags (callee_at s at).function (callee_at s at).name) w o r o'
  unfolding emit_invoke callee_at
  invoke_law tag value f h d = rw (← n) (go (get_or s (at + 10) 0) f h)
    where
      go : (b : ℕ) → tag ≡ cond (eqb b 0) InvokeVirtual InvokeStatic → value ≡ cond (eqb b 0) (number 4 s (at + 4)) (number 4 s at) → EmittedFrom K (emit_invoke site b exit line flags (number 4 s at) (number 4 s (at + 4))) w o r o'
      go zero f h = invoke_cut site InvokeVirtual exit line flags (number 4 s (at + 4)) e (rw (f, h) at d)
      go (suc b) f h = let z : eqb (suc b) 0 ≡ false = ne_eqb (suc b) 0 (λ y. omega (arith, y)) in invoke_cut site InvokeStatic exit line flags (number 4 s at) e (rw (rw z at f, rw z at h) at d)
