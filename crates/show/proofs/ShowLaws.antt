-- From what lowering and resolving answer to the text of the stage. Assumes nothing.
use Prim.Native.Nat.{ℕ, ◌≤◌, ◌<◌}
use mathlib.Core.Path.{◌≡◌, refl, ap, sym, ◌∙◌}
use mathlib.Core.List.{List}
use native.Mathlib.Omega.{arith}
use lib.Dec.{leb}
use lib.ListN.{length, take}
use borrow.Author.Tests.{le-leb, lt-leb}
use Rattle.definitions.specs.Answer.{Result, made, refusal, onward, checked}
use Rattle.definitions.specs.Instr.{Instr}
use Rattle.definitions.specs.Code.{State, label_limit}
use Rattle.definitions.specs.Read.{parse_unit}
use Rattle.definitions.specs.Listing.{listing_length, listing_bytes, record_limit}
use Rattle.definitions.specs.Resolve.{fitting, resolve}
use Rattle.definitions.specs.Stage.{labelled, lower_into, over, lower_to, listed, turned, coded, unresolved, resolve_to, stage, refused_with, printed, input_limit, shown}
use Rattle.definitions.specs.Text.{text_into, code_into}
use Rattle.laws.proofs.Inversion.{impossible}
use Rattle.laws.proofs.Results.{onward_is}
use Rattle.instr.proofs.WholeLaws.{length_listing}
use Rattle.std.specs.Prelude as std
use Rattle.std.specs.Prelude.{Ok, Err}
use Rattle.instr.specs.declared.refusals.Refusal.{Refusal}
use Rattle.instr.specs.Refusals.{number_of}
use Rattle.landing.specs.Walk.{Bytes}
use Rattle.landing.proofs.Theorem.{bounded}
use Rattle.resolve.specs.Values.{resolving}
use Rattle.resolve.proofs.Listed.{resolved_length, resolved_listing}
use Rattle.resolve.proofs.Delivered.{labelled_is, listing_front_law, delivers_stage}
use Rattle.assemble.specs.Whole.{answer}
use Rattle.steps.specs.declared.counters.Counters.{Counters}
use Rattle.print.specs.Values.{sign_of, Answers}
use Rattle.print.specs.declared.Form.TheVariants.{Distances}
use Rattle.print.proofs.AnswerLaws.{over_holds, written_is_printed}

-- an answer, with its text by another name
pub answers_as : {t u : Result (List ℕ)} {r : std.Result ℕ Refusal} {b a : List ℕ} → t ≡ u → Answers t r b a → Answers u r b a
answers_as e x = rw e at x

-- 1. A listing that was resolved

-- what resolving made, and where it stands
pub record Coded (x : Result (List Instr)) (n : ℕ) (code : List ℕ) : Type 0 where
  pub records : List Instr
  pub is : x ≡ made records
  pub count : length records ≡ n
  pub fits : listing_length n ≤ length code
  pub stands : take (listing_length n) code ≡ listing_bytes records

coded_as : (x : Result (List Instr)) (n : ℕ) (o code : List ℕ) → coded n code ≡ resolve_to x o → Coded x n code
unfolding resolve_to
coded_as (made rs) n o code e =
    let k : length rs ≡ n = cc in
    let c : code ≡ over (listing_bytes rs) o = cc in
    record { records = rs; is = refl; count = k; fits = rw c (omega (arith, k, length_listing rs, over_holds (listing_bytes rs) o)); stands = ap (take (listing_length n)) c ∙ listing_front_law rs o n k }
coded_as (refusal a p x) n o code e = impossible (cc)

refused_as : (x : Result (List Instr)) (n p z : ℕ) (o code : List ℕ) → unresolved n p z code ≡ resolve_to x o → printed x ≡ refused_with n p z
unfolding resolve_to printed
refused_as (made rs) n p z o code e = impossible (cc)
refused_as (refusal a b c) n p z o code e = cc

module _ (s w o code : List ℕ) where
  pub unresolved_text : (q : Refusal) → resolving (Err q) code ≡ resolve_to (resolve s w (length o)) o → printed (resolve s w (length o)) ≡ refused_with (number_of q.reason) q.place q.extra
  unfolding resolving
  unresolved_text q e = refused_as (resolve s w (length o)) _ _ _ o code e

  module _ (n : ℕ) (e : resolving (Ok n) code ≡ resolve_to (resolve s w (length o)) o) where
    pub coded_is : Coded (resolve s w (length o)) n code
    unfolding resolving
    coded_is = coded_as (resolve s w (length o)) n o code e

    pub coded_few : Bytes s → n ≤ record_limit
    coded_few b = let c = coded_is in omega (arith, c.count, (resolved_listing s w (length o) c.records b c.is).few)

    -- the text of the listing is that of the records
    pub coded_text : Bytes s → (space : ℕ) → code_into (sign_of Distances) (take (listing_length n) code) space ≡ text_into (printed (resolve s w (length o))) space
    coded_text b space =
        let c = coded_is in
        let l = resolved_listing s w (length o) c.records b c.is in
        ap (λ y. code_into (sign_of Distances) y space) c.stands ∙ written_is_printed c.records l.within l.good l.few space ∙ ap (λ y. text_into (printed y) space) (sym c.is)

-- 2. A unit that is not too long

module _ (s : List ℕ) (short : length s ≤ input_limit) where
  few : (t : State) → labelled s ≡ made t → (length t.instrs ≤ input_limit) × (length t.marks ≤ label_limit)
  unfolding label_limit
  few t e =
      let x = labelled_is (parse_unit s) t e in
      let b = bounded s x.0 x.1 x.2 t x.3 in
      (omega (arith, b.records), b.labels)

  -- its listing and its label table fit
  enough : (bytes words : ℕ) → listing_length input_limit ≤ bytes → label_limit ≤ words → lower_into s bytes words ≡ labelled s
  unfolding lower_into onward checked
  enough bytes words h l = go (labelled s) refl
    where
      go : (x : Result State) → labelled s ≡ x →
          onward x (λ t. checked (leb (listing_length (length t.instrs)) bytes) 20 0 0 (checked (leb (length t.marks) words) 21 0 0 (made t))) ≡ x
      go (made t) e = let f = few t e in rw (le-leb (listing_length (length t.instrs)) bytes (omega (arith, f.0)), le-leb (length t.marks) words (omega (arith, f.1)))
      go (refusal n p x) e = refl

  stage_few : (rs : List Instr) → stage s ≡ made rs → length rs ≤ input_limit
  unfolding stage
  stage_few rs e =
      let a = onward_is (labelled s) _ e in
      omega (arith, (few a.0 a.1).0, resolved_length a.0.marks 0 0 a.0.instrs rs a.2)

  stage_fits : (space : ℕ) → listing_length input_limit ≤ space → onward (stage s) (fitting space) ≡ stage s
  unfolding onward checked
  stage_fits space h = go (stage s) refl
    where
      go : (x : Result (List Instr)) → stage s ≡ x → onward x (fitting space) ≡ x
      go (made rs) e = let f = stage_few rs e in rw (le-leb (listing_length (length rs)) space (omega arith))
      go (refusal n p x) e = refl

  stage_refused : (n p x : ℕ) → labelled s ≡ refusal n p x → printed (stage s) ≡ refused_with n p x
  unfolding stage onward printed
  stage_refused n p x e = rw (e, onward, printed)

  turned_as : (r : Result State) (n p x : ℕ) (o m o' m' : List ℕ) → turned n p x o' m' ≡ lower_to r o m → r ≡ refusal n p x
  unfolding lower_to
  turned_as (made t) n p x o m o' m' e = impossible (cc)
  turned_as (refusal a b c) n p x o m o' m' e = cc

  module _ (o m : List ℕ) (room : listing_length input_limit ≤ length o) (words : label_limit ≤ length m) (o' m' : List ℕ) where
    pub turned_text : (q : Refusal) → answer (Err q) o' m' ≡ lower_to (lower_into s (length o) (length m)) o m → printed (stage s) ≡ refused_with (number_of q.reason) q.place q.extra
    unfolding answer
    turned_text q e = stage_refused _ _ _ (sym (enough (length o) (length m) room words) ∙ turned_as (lower_into s (length o) (length m)) _ _ _ o m o' m' e)

    -- the first bytes are the listing
    listing_fits : (x : Result State) (a k n : ℕ) → lower_to x o m ≡ listed a k n o' m' → listing_length n ≤ length o'
    unfolding lower_to
    listing_fits (made t) a k n h =
        let i : o' ≡ over (listing_bytes t.instrs) o = cc in
        let l : length t.instrs ≡ n = cc in
        rw i (omega (arith, l, length_listing t.instrs, over_holds (listing_bytes t.instrs) o))
    listing_fits (refusal b p x) a k n h = impossible (cc)

    module _ (c : Counters) (e : answer (Ok c) o' m' ≡ lower_to (lower_into s (length o) (length m)) o m) where
      listed_here : lower_to (lower_into s (length o) (length m)) o m ≡ listed c.offset c.labels c.count o' m'
      unfolding answer
      listed_here = sym e

      pub listed_fits : listing_length c.count ≤ length o'
      listed_fits = listing_fits _ _ _ _ listed_here

      -- and resolving them is the stage
      pub listed_text : Bytes s → (space : ℕ) → listing_length input_limit ≤ space → resolve (take (listing_length c.count) o') m' space ≡ stage s
      listed_text b space h = delivers_stage s o m b _ _ _ o' m' listed_here m' space refl ∙ stage_fits space h

-- 3. The input

pub shown_long : (s : List ℕ) → input_limit < length s → shown s ≡ refused_with 1 0 0
unfolding shown
shown_long s h = rw (lt-leb (length s) input_limit h, shown)

pub shown_short : (s : List ℕ) → length s ≤ input_limit → shown s ≡ printed (stage s)
unfolding shown
shown_short s h = rw (le-leb (length s) input_limit h, shown)
