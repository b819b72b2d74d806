-- From an answer of an entry point to its numbers. Assumes nothing.
use Prim.Native.Nat.{ℕ, ◌+◌, ◌≤◌}
use mathlib.Core.Path.{◌≡◌, refl, ap, sym, ◌∙◌}
use mathlib.Core.Bool.{true, false}
use mathlib.Core.List.{List}
use lib.ListN.{length}
use Rattle.std.specs.Prelude as std
use Rattle.std.specs.Prelude.{Ok, Err}
use Rattle.definitions.specs.Answer.{Result, made, refusal}
use Rattle.definitions.specs.Instr.{Instr, record_length}
use Rattle.definitions.specs.Listing.{listing_length, read_listing, view}
use Rattle.definitions.specs.Stage.{Lowering, Resolving}
use Rattle.definitions.specs.Strip.{Stripping}
use Rattle.laws.proofs.Inversion.{refusal_not_made}
use Rattle.laws.proofs.Results.{made_is}
use Rattle.instr.specs.Values.{counted, viewed_is}
use Rattle.instr.proofs.ListingLaws.{seen_inside}
use Rattle.instr.specs.Refusals as code
use Rattle.instr.specs.Refusals.{number_of}
use Rattle.instr.specs.declared.refusals.Refusal.{Refusal}
use Rattle.steps.specs.declared.counters.Counters.{Counters}
use Rattle.assemble.specs.Whole.{answer, measuring}
use Rattle.resolve.specs.Values.{resolving}
use Rattle.strip.specs.Values.{stripping}
use Rattle.exports.specs.Numbers.{Numbers, numbers, measured, lowered, out_of, marks_of, records_of, resolved, code_of, checked, viewed, stripped, stripped_of}

-- totals and refusal of lowering are those of measuring
answered : (r : std.Result Counters Refusal) (o m : List ℕ) → (measured (measuring r) ≡ lowered (answer r o m)) × (o ≡ out_of (answer r o m)) × (m ≡ marks_of (answer r o m))
unfolding answer measuring measured lowered out_of marks_of
answered (Ok c) o m = (refl, refl, refl)
answered (Err q) o m = (refl, refl, refl)

pub lowered_as : (r : std.Result Counters Refusal) (o m : List ℕ) (x : Lowering) → answer r o m ≡ x → (measured (measuring r) ≡ lowered x) × (o ≡ out_of x) × (m ≡ marks_of x)
lowered_as r o m x e =
    let a = answered r o m in
    (a.0 ∙ ap lowered e, a.1 ∙ ap out_of e, a.2 ∙ ap marks_of e)

-- what resolving, storing or the way back answers and leaves
resolved_same : (r : std.Result ℕ Refusal) (o : List ℕ) → (records_of r ≡ resolved (resolving r o)) × (o ≡ code_of (resolving r o))
unfolding resolving records_of resolved code_of
resolved_same (Ok n) o = (refl, refl)
resolved_same (Err q) o = (refl, refl)

pub resolved_as : (r : std.Result ℕ Refusal) (o : List ℕ) (x : Resolving) → resolving r o ≡ x → (records_of r ≡ resolved x) × (o ≡ code_of x)
resolved_as r o x e =
    let a = resolved_same r o in
    (a.0 ∙ ap resolved e, a.1 ∙ ap code_of e)

-- and stripping
stripped_same : (r : std.Result ℕ Refusal) (o : List ℕ) → (records_of r ≡ stripped (stripping r o)) × (o ≡ stripped_of (stripping r o))
unfolding stripping records_of stripped stripped_of
stripped_same (Ok n) o = (refl, refl)
stripped_same (Err q) o = (refl, refl)

pub stripped_as : (r : std.Result ℕ Refusal) (o : List ℕ) (x : Stripping) → stripping r o ≡ x → (records_of r ≡ stripped x) × (o ≡ stripped_of x)
stripped_as r o x e =
    let a = stripped_same r o in
    (a.0 ∙ ap stripped e, a.1 ∙ ap stripped_of e)

-- whether a slice is a listing
checked_of : (r : std.Result ℕ Refusal) (x : Result (List Instr)) → code.answer r ≡ counted x → records_of r ≡ checked x
unfolding code.answer counted checked records_of
checked_of (Ok n) (made is) e = let k : n ≡ length is = made_is e in rw k
checked_of (Ok n) (refusal m p x) e = refusal_not_made (sym e)
checked_of (Err q) (made is) e = refusal_not_made e
checked_of (Err q) (refusal m p x) e = cc

pub checked_as : (s : List ℕ) (r : std.Result ℕ Refusal) → code.answer r ≡ counted (read_listing s) → records_of r ≡ checked (read_listing s)
checked_as s r e = checked_of r (read_listing s) e

-- a look at record n
pub viewed_made : (s : List ℕ) (n : ℕ) (u : Unit {0}) → viewed_is (Ok u) s n ≡ view s n → numbers true (listing_length n) record_length 0 ≡ viewed n (view s n)
unfolding viewed_is viewed
viewed_made s n u e = ap (viewed n) e

pub viewed_refused : (s : List ℕ) (n : ℕ) (q : Refusal) → viewed_is (Err q) s n ≡ view s n → numbers false (number_of q.reason) q.place q.extra ≡ viewed n (view s n)
unfolding viewed_is viewed
viewed_refused s n q e = ap (viewed n) e

pub viewed_fits : (s : List ℕ) (n : ℕ) (u : Unit {0}) → viewed_is (Ok u) s n ≡ view s n → listing_length n + record_length ≤ length s
viewed_fits s n u e = seen_inside s n (Ok u) refl e
