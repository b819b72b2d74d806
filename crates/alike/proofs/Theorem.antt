-- THE THEOREM ON STRIPPED UNITS: units that strip to the same bytes lower and resolve alike. Nothing else is assumed of them.
use Prim.Native.Nat.{ℕ, suc, ◌+◌}
use mathlib.Core.Path.{◌≡◌, refl, sym, ap, ◌∙◌}
use mathlib.Core.List.{List, [], ◌∷◌}
use lib.Dec.{leb}
use lib.ListN.{length}
use Rattle.definitions.specs.Answer.{Answer, ok, refused, Result, made, refusal, onward}
use Rattle.definitions.specs.Tag.{row_of}
use Rattle.definitions.specs.Tree.{Script}
use Rattle.definitions.specs.Read.{parse_unit}
use Rattle.definitions.specs.Instr.{Instr, size}
use Rattle.definitions.specs.Code.{State}
use Rattle.definitions.specs.Listing.{listing_length}
use Rattle.definitions.specs.Resolve.{resolve_field, resolve_record, resolve_records, fitting}
use Rattle.definitions.specs.Stage.{Measured, lowered, labelled, measure, lower_into, stage}
use Rattle.definitions.specs.Strip.{strip}
use Rattle.resolve.specs.Values.{relabelled}
use Rattle.resolve.proofs.Delivered.{delivers_stage}
use Rattle.alike.specs.Outline.{outlines_from, lowering, resolving}
use Rattle.alike.specs.Alike.{Alike}
use Rattle.alike.proofs.Units.{blank_answer, stripped}
use Rattle.alike.proofs.Records.{Same, Sames, AlikeStates, Agree, onward_agree, checked_agree, lower_agree}

-- 1. A unit and its stripped copy: the labelled listings

answers : (a : Answer Script) → Agree AlikeStates (lowered a) (lowered (blank_answer a))
unfolding Agree lowered blank_answer Sames
answers (ok u n) = lower_agree u
answers (refused n p x) = (refl, refl, refl)

labelled_agree : (s : List ℕ) → Agree AlikeStates (labelled s) (labelled (strip s))
labelled_agree s = rw (stripped s).reads (answers (parse_unit s))

same_length : (is js : List Instr) → Sames is js → length is ≡ length js
unfolding Sames
same_length [] [] h = refl
same_length [] (j ∷ js) h = absurd h
same_length (i ∷ is) [] h = absurd h
same_length (i ∷ is) (j ∷ js) h = ap suc (same_length is js h.1)

into_agree : (s : List ℕ) (bytes words : ℕ) → Agree AlikeStates (lower_into s bytes words) (lower_into (strip s) bytes words)
unfolding lower_into Agree
into_agree s bytes words =
    onward_agree AlikeStates AlikeStates (labelled s) (labelled (strip s)) _ _ (labelled_agree s) (λ t u h.
    let l : length t.marks ≡ length u.marks = ap (λ (m : List ℕ). length m) h.marks_are in
    rw (same_length t.instrs u.instrs h.records, l)
    (checked_agree AlikeStates (leb (listing_length (length u.instrs)) bytes) 20 0 0 _ _ (checked_agree AlikeStates (leb (length u.marks) words) 21 0 0 _ _ h)))

-- 2. And the resolved ones

relabelled_agree : (i j : Instr) → Same i j → (r q : Result ℕ)
    → Agree Same (onward r (λ f. onward q (λ g. made (relabelled i f g)))) (onward r (λ f. onward q (λ g. made (relabelled j f g))))
unfolding Agree onward size
relabelled_agree i j e (made f) (made g) =
    record { size_is = e.size_is; first_is = refl; second_is = refl; node_is = e.node_is; carries_first = e.carries_first; carries_second = e.carries_second }
relabelled_agree i j e (made f) (refusal n p x) = (refl, refl, refl)
relabelled_agree i j e (refusal n p x) q = (refl, refl, refl)

record_agree : (marks : List ℕ) (o n : ℕ) (i j : Instr) → Same i j → Agree Same (resolve_record marks o n i) (resolve_record marks o n j)
unfolding resolve_record
record_agree marks o n i j e =
    let a : resolve_field (row_of i.tag).first marks o n 0 i.first ≡ resolve_field (row_of j.tag).first marks o n 0 j.first =
    rw (e.carries_first, e.first_is) in
    let b : resolve_field (row_of i.tag).second marks o n 1 i.second ≡ resolve_field (row_of j.tag).second marks o n 1 j.second =
    rw (e.carries_second, e.second_is) in
    rw (a, b) (relabelled_agree i j e (resolve_field (row_of j.tag).first marks o n 0 j.first) (resolve_field (row_of j.tag).second marks o n 1 j.second))

records_agree : (marks : List ℕ) (o n : ℕ) (is js : List Instr) → Sames is js → Agree Sames (resolve_records marks o n is) (resolve_records marks o n js)
unfolding resolve_records Sames Agree
records_agree marks o n [] [] h = tt
records_agree marks o n [] (j ∷ js) h = absurd h
records_agree marks o n (i ∷ is) [] h = absurd h
records_agree marks o n (i ∷ is) (j ∷ js) h =
    onward_agree Same Sames (resolve_record marks o n i) (resolve_record marks o n j) _ _ (record_agree marks o n i j h.0) (λ r r' e.
    rw h.0.size_is (onward_agree Sames Sames (resolve_records marks (o + size j) (suc n) is) (resolve_records marks (o + size j) (suc n) js) _ _
    (records_agree marks (o + size j) (suc n) is js h.1) (λ rs rs' f. (e, f))))

stage_agree : (s : List ℕ) → Agree Sames (stage s) (stage (strip s))
unfolding stage
stage_agree s =
    onward_agree AlikeStates Sames (labelled s) (labelled (strip s)) _ _ (labelled_agree s) (λ t u h.
    rw h.marks_are (records_agree u.marks 0 0 t.instrs u.instrs h.records))

fitting_agree : (s : List ℕ) (space : ℕ) → Agree Sames (onward (stage s) (fitting space)) (onward (stage (strip s)) (fitting space))
unfolding Agree
fitting_agree s space =
    onward_agree Sames Sames (stage s) (stage (strip s)) (fitting space) (fitting space) (stage_agree s) (λ is js h.
    rw (same_length is js h) (checked_agree Sames (leb (listing_length (length js)) space) 20 0 0 (made is) (made js) h))

-- 3. In outline

same_outlines : (o : ℕ) (is js : List Instr) → Sames is js → outlines_from o is ≡ outlines_from o js
unfolding Sames outlines_from
same_outlines o [] [] h = refl
same_outlines o [] (j ∷ js) h = absurd h
same_outlines o (i ∷ is) [] h = absurd h
same_outlines o (i ∷ is) (j ∷ js) h =
    let e = h.0.size_is in
    let f = h.0.first_is in
    let g = h.0.second_is in
    let n = h.0.node_is in
    let r = same_outlines (o + size i) is js h.1 in
    cc (e, f, g, n, r)

lowering_same : (r q : Result State) → Agree AlikeStates r q → lowering r ≡ lowering q
unfolding Agree lowering
lowering_same (made t) (made u) h = rw (h.offset_is, h.marks_are, same_outlines 0 t.instrs u.instrs h.records)
lowering_same (made t) (refusal n p x) h = absurd h
lowering_same (refusal n p x) (made u) h = absurd h
lowering_same (refusal n p x) (refusal m q y) h = rw (h.0, h.1, h.2)

resolving_same : (r q : Result (List Instr)) → Agree Sames r q → resolving r ≡ resolving q
unfolding Agree resolving
resolving_same (made is) (made js) h = rw (same_outlines 0 is js h)
resolving_same (made is) (refusal n p x) h = absurd h
resolving_same (refusal n p x) (made js) h = absurd h
resolving_same (refusal n p x) (refusal m q y) h = rw (h.0, h.1, h.2)

measured_same : (r q : Result State) → Agree AlikeStates r q
    → onward r (λ l. made (record { offset = l.offset; labels = length l.marks; count = length l.instrs }))
    ≡ onward {B = Measured} q (λ l. made (record { offset = l.offset; labels = length l.marks; count = length l.instrs }))
unfolding Agree onward
measured_same (made t) (made u) h = rw (h.offset_is, h.marks_are, same_length t.instrs u.instrs h.records)
measured_same (made t) (refusal n p x) h = absurd h
measured_same (refusal n p x) (made u) h = absurd h
measured_same (refusal n p x) (refusal m q y) h = rw (h.0, h.1, h.2)

-- 4. The theorem

-- what is the same for every unit and its stripped copy is the same for units that strip alike
through : {A : Type 0} (f : List ℕ → A) → ((s : List ℕ) → f s ≡ f (strip s)) → (s t : List ℕ) → strip s ≡ strip t → f s ≡ f t
through f h s t e = h s ∙ ap f e ∙ sym (h t)

pub alike : (s t : List ℕ) → strip s ≡ strip t → Alike s t
unfolding measure
alike s t e =
    record {
      measures = through measure (λ s. measured_same (labelled s) (labelled (strip s)) (labelled_agree s)) s t e;
      lowers = λ b w. through (λ s. lowering (lower_into s b w)) (λ s. lowering_same (lower_into s b w) (lower_into (strip s) b w) (into_agree s b w)) s t e;
      resolves = λ x y o m o' m' total k n total' k' n' out marks out' marks' d d' w w' h h' space.
          ap resolving (delivers_stage s o m x total k n out marks d w space h)
          ∙ through (λ s. resolving (onward (stage s) (fitting space))) (λ s. resolving_same _ _ (fitting_agree s space)) s t e
          ∙ sym (ap resolving (delivers_stage t o' m' y total' k' n' out' marks' d' w' space h'));
      stages = through (λ s. resolving (stage s)) (λ s. resolving_same (stage s) (stage (strip s)) (stage_agree s)) s t e;
    }
