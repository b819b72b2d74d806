-- What is answered: a text that fits, one that does not, and no listing.
use Prim.Native.Nat.{ℕ, ◌≤◌, ◌<◌}
use mathlib.Core.Path.{◌≡◌, refl, ap, sym, ◌∙◌}
use mathlib.Core.Bool.{true}
use mathlib.Core.List.{List}
use native.Mathlib.Omega.{arith}
use native.Mathlib.Nat.{zero-add}
use lib.ListN.{length, drop, length-append}
use lib.IntN.{ℤ}
use lib.Seq.{sets, sets-eq}
use borrow.Author.Tests.{le-leb, lt-leb}
use Rattle.std.specs.Prelude as std
use Rattle.std.specs.Prelude.{Ok, Err}
use Rattle.definitions.specs.Answer.{Result, made, refusal, onward, checked}
use Rattle.definitions.specs.Instr.{Instr}
use Rattle.definitions.specs.Listing.{front_length, record_limit, records_from, all_good, read_listing, listing_bytes}
use Rattle.definitions.specs.Stage.{over, Printed, code, lines_from, total_size, printed}
use Rattle.definitions.specs.Text.{text, text_into, code_into, over_if}
use Rattle.laws.proofs.Inversion.{refusal_not_made}
use Rattle.laws.proofs.Results.{made_is}
use Rattle.laws.proofs.Widths.{AllWithin}
use Rattle.instr.specs.Refusals.{answer}
use Rattle.instr.specs.Values.{counted}
use Rattle.instr.specs.declared.refusals.Reason.TheVariants.{Room}
use Rattle.instr.specs.declared.refusals.Refusal.{Refusal}
use Rattle.instr.proofs.ListingLaws.{length_records}
use Rattle.instr.proofs.WholeLaws.{accepted, written_is_read}
use Rattle.print.specs.declared.Form.TheVariants.{Distances}
use Rattle.print.specs.Values.{sign_of, measured, Answers}
use Rattle.print.specs.Writing.{Filled}

-- 1. A text, by its length and by its bytes

-- from its start on a text stands over what a buffer held
over_start : (t s : List ℕ) → length t ≤ length s → sets s 0 t ≡ over t s
unfolding over
over_start t s h = rw (← zero-add (length t)) (sets-eq t s 0 (omega arith))

-- so a buffer holds what was written
pub over_holds : (w b : List ℕ) → length w ≤ length (over w b)
unfolding over
over_holds w b = omega (arith, length-append w (drop (length w) b))

-- a text that was written stands within the buffer
pub done_within : (t : Result (List ℕ)) {n : ℕ} {r : std.Result ℕ Refusal} {b a : List ℕ} → r ≡ Ok n → Answers t r b a → n ≤ length a
unfolding answer measured over_if
done_within (made x) {n} {b = b} d h =
    let k : n ≡ length x = made_is (rw d at h.number) in
    rw h.bytes (omega (arith, k, over_holds x b))
done_within (refusal c p x) d h = refusal_not_made (sym (rw d at h.number))

module _ (p : Printed) {r : ℕ} {o v : List ℕ} (dry : Filled (text p) r o v) (s : List ℕ) where
  pub short_text : {q : Refusal} → length s < r → q ≡ record { reason = Room; place = 0; extra = 0 } → Answers (text_into p (length s)) (Err q) s s
  unfolding text_into checked measured answer over_if
  short_text h e =
      let f = lt-leb (length (text p)) (length s) (omega (arith, dry.length)) in
      record { number = rw (e, f); bytes = rw f }

  pub whole_text : {n : ℕ} {u : List ℕ} → r ≤ length s → Filled (text p) n s u → Answers (text_into p (length s)) (Ok r) s u
  unfolding text_into checked measured answer over_if
  whole_text h w =
      let f : length (text p) ≤ length s = omega (arith, dry.length) in
      let e = le-leb (length (text p)) (length s) f in
      record { number = rw e (ap made dry.length); bytes = rw e (w.bytes ∙ over_start (text p) s f) }

-- 2. A listing

-- a refusal is the answer whatever would follow
refused_too : (l : Result (List Instr)) (f : List Instr → Result (List ℕ)) (q : Refusal) (o : List ℕ) → answer (Err q) ≡ counted l → Answers (onward l f) (Err q) o o
unfolding onward counted measured answer over_if
refused_too (made is) f q o e = refusal_not_made e
refused_too (refusal n p x) f q o e = record { number = e; bytes = refl }

pub bad_listing : (sign : ℕ → ℤ) (s : List ℕ) (q : Refusal) (o : List ℕ) → answer (Err q) ≡ counted (read_listing s) → Answers (code_into sign s (length o)) (Err q) o o
unfolding code_into
bad_listing sign s q o e = refused_too (read_listing s) _ q o e

-- what is printed of so many records
abbrev pub shown : (sign : ℕ → ℤ) (s : List ℕ) (n total : ℕ) → Printed
shown sign s n total = code n total (lines_from sign 0 (records_from n s front_length))

module _ (s : List ℕ) (n : ℕ) (e : answer (Ok n) ≡ counted (read_listing s)) where
  pub few_records : n ≤ record_limit
  few_records = (accepted s n e).few

  pub code_is : (sign : ℕ → ℤ) (total space : ℕ) → total ≡ total_size (records_from n s front_length) → code_into sign s space ≡ text_into (shown sign s n total) space
  unfolding code_into onward
  code_is sign total space t =
      let a = accepted s n e in
      rw (a.reads, t, a.count, length_records _ s front_length)

-- 3. The listing of resolved records, as it is written, has the text of what the stage prints
pub written_is_printed : (is : List Instr) → AllWithin is → all_good is ≡ true → length is ≤ record_limit → (space : ℕ) → code_into (sign_of Distances) (listing_bytes is) space ≡ text_into (printed (made is)) space
unfolding code_into onward printed sign_of
written_is_printed is h g m space = rw (written_is_read is h g m)
