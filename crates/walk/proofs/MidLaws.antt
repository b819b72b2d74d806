-- Counting cases; a switch whose default stands among its cases. Assumes nothing.
use Rattle.std.specs.Prelude as std
use Prim.Native.Nat.{ℕ, zero, suc, ◌+◌, ◌-◌, ◌≤◌, ◌<◌}
use mathlib.Core.Path.{◌≡◌, refl, sym, ap, ◌∙◌}
use mathlib.Core.Bool.{Bool, true, false, cond, not, ◌&&◌}
use mathlib.Core.List.{List, [], ◌∷◌}
use mathlib.Core.Option.{none}
use native.Mathlib.Omega.{arith}
use lib.Dec.{eqb, ltb, leb}
use lib.ListN.{length, get_or}
use borrow.Author.Tests.{le-leb, ltb-true, ltb-false, eqb-true, eqb-false}
use Rattle.definitions.specs.Answer.{Answer, ok, refused, onward}
use Rattle.definitions.specs.Bytes.{number}
use Rattle.definitions.specs.Tag.{SwitchDefault, Jump}
use Rattle.definitions.specs.Tree.{Expr, Block, Default, absent, present, block_of, cases_of, length_cases, is_present}
use Rattle.definitions.specs.Read.{block_if, give}
use Rattle.definitions.specs.Code.{Code, new, mark, act, done, label, many, ◌then◌}
use Rattle.definitions.specs.Lower.{BlockSpan, instr, jump, lower_stmt, lower_block, lower_matchers, lower_bodies, lower_cases, lower_default, lower_last, mid_default}
use Rattle.ir.specs.Places.{end_of}
use Rattle.ir.specs.declared.Class.TheVariants.{Statement}
use Rattle.ir.proofs.Inversion.{fill_none}
use Rattle.ir.proofs.StmtPlaces.{arm_moves}
use Rattle.instr.specs.declared.refusals.Refusal.{Refusal}
use Rattle.steps.specs.Running.{Sinks, run, move, noted}
use Rattle.steps.specs.Walked.{Accepted, DefaultHere, Cased, arms_from, cases_from, list_of, code_of, labels_of, default_from, default_of, default_answer, mid_code, inside_code, fill_code, mark_if, same_as, Ran, EmittedFrom, LabelledFrom, Walk}
use Rattle.laws.proofs.Results.{onward_assoc, onward_same}
use Rattle.laws.proofs.Trees.{length_cases_law}
use Rattle.steps.proofs.StepLaws.{fresh, labelled, emit_stays, emitted, recode, rerun, both, nothing, stays, SameRun}
use Rattle.steps.proofs.RunLaws.{Goes, goes_on, one_step, renamed, goes_end, Rest, rest_next, rest_end, Turn, turn, listed}
use Rattle.walk.proofs.StmtCode.{ArmHere, arm_here, no_default_code, some_default, default_some, block_code}
use Rattle.walk.proofs.CaseLaws.{skip_step, arm_of, arm_ends, arm_code_is, bodies_from, bodies_below, bodies_at, bodies_above}

-- 1. Counting

pub record ArmsCount (d : ℕ) (s : List ℕ) (end at i n : ℕ) : Type 0 where
  pub acc : Accepted (arms_from d s end i)
  pub to : i ≤ end
  pub few : n ≤ i
  pub same : n + length (list_of (arms_from d s end i)) ≡ length (list_of (arms_from d s end at))

module _ {d : ℕ} {s : List ℕ} {end at i n : ℕ} (r : ArmsCount d s end at i n) (h : i < end) where
  arms_count_turn : Turn (arm_of d s) end i r.acc.0 r.acc.1
  arms_count_turn = turn (arm_of d s) end i (arm_moves d s end) h r.acc.2

  pub arms_count_arm : (second third : ℕ) → second ≡ end_of s i → third ≡ end_of s second → ArmHere d s end i second third
  arms_count_arm second third e f = let k = arms_count_turn in arm_here d s end i (k.item, k.next, k.reads) second third e f

  pub arms_count_next : (second third : ℕ) → second ≡ end_of s i → third ≡ end_of s second → ArmsCount d s end at third (n + 1)
  arms_count_next second third e f =
      let k = arms_count_turn in
      let a = arms_count_arm second third e f in
      let q : k.next ≡ third = arm_ends d s end i k.reads ∙ ap (end_of s) (sym e) ∙ sym f in
      let j : arms_from d s end third ≡ ok k.others r.acc.1 = rw q at k.after in
      record {
        acc = (k.others, r.acc.1, j);
        to = a.tail;
        few = omega (arith, r.few, a.one.head, a.fits);
        same = omega (arith, r.same, ap length (listed _ _ _ r.acc.2), ap length k.whole, ap length (listed _ _ _ j));
      }

pub arms_count_end : {d : ℕ} {s : List ℕ} {end at i n : ℕ} → ArmsCount d s end at i n → end ≤ i → n ≡ length (list_of (arms_from d s end at))
arms_count_end {d} {s} {end} {at} {i} r h = let z = (fill_none (arm_of d s) end (arm_moves d s end) i h r.acc.2).0 in omega (arith, r.same, ap length (listed _ _ _ r.acc.2), ap length z)

-- no more cases than bytes
few_none : (d : ℕ) (s : List ℕ) (end i : ℕ) → end ≤ i → i ≤ end → (a : Accepted (arms_from d s end i)) → length a.0 + i ≤ end
few_none d s end i h l a = let z = (fill_none (arm_of d s) end (arm_moves d s end) i h a.2).0 in omega (arith, ap length z, l)

few_go : (n d : ℕ) (s : List ℕ) (end i : ℕ) → end - i ≤ suc n → i ≤ end → (a : Accepted (arms_from d s end i)) →
    ((j : ℕ) → end - j ≤ n → j ≤ end → (b : Accepted (arms_from d s end j)) → length b.0 + j ≤ end) → (b : Bool) → ltb i end ≡ b → length a.0 + i ≤ end
few_go n d s end i h l a rec true q =
    let k = turn (arm_of d s) end i (arm_moves d s end) (ltb-true i end q) a.2 in
    let x = arm_here d s end i (k.item, k.next, k.reads) (end_of s i) (end_of s (end_of s i)) refl refl in
    let e : k.next ≡ end_of s (end_of s i) = arm_ends d s end i k.reads in
    let z = rec k.next (omega (arith, h, e, x.one.head, x.fits)) (omega (arith, e, x.tail)) (k.others, a.1, k.after) in
    omega (arith, z, e, x.one.head, x.fits, ap length k.whole)
few_go n d s end i h l a rec false q = few_none d s end i (ltb-false i end q) l a

few : (n d : ℕ) (s : List ℕ) (end i : ℕ) → end - i ≤ n → i ≤ end → (a : Accepted (arms_from d s end i)) → length a.0 + i ≤ end
few zero d s end i h l a = few_none d s end i (omega (arith, h)) l a
few (suc n) d s end i h l a = few_go n d s end i h l a (λ j x y z. few n d s end j x y z) (ltb i end) refl

pub few_arms : (d : ℕ) (s : List ℕ) (end i n : ℕ) → i ≤ end → Accepted (arms_from d s end i) → n ≡ length (list_of (arms_from d s end i)) → n + i ≤ end
few_arms d s end i n l a e = omega (arith, few (end - i) d s end i (omega arith) l a, e, ap length (listed _ _ _ a.2))

-- 2. The blocks

mark_1 : (here l : ℕ) → here ≡ 1 → act (mark l) ≡ mark_if here l
unfolding mark_if
mark_1 here l e = rw e

mark_0 : (here l : ℕ) → here ≡ 0 → done ≡ mark_if here l
unfolding mark_if
mark_0 here l e = rw e

same_1 : (k index here : ℕ) → here ≡ same_as k index → eqb k index ≡ true → here ≡ 1
unfolding same_as
same_1 k index here e q = rw (q) at e

same_0 : (k index here : ℕ) → here ≡ same_as k index → eqb k index ≡ false → here ≡ 0
unfolding same_as
same_0 k index here e q = rw (q) at e

-- the default's block, whatever was read
default_answer_law : (x : Answer Default) (sc : BlockSpan) → code_of (λ d. lower_default d sc) x ≡ lower_default (default_answer x) sc
unfolding code_of default_answer lower_stmt
default_answer_law (ok d n) sc = refl
default_answer_law (refused n p x) sc = refl

-- the default before case k, where k is its index
module _ (k index base dflt d : ℕ) (s : List ℕ) (stop end : ℕ) (sc : BlockSpan) (x : Expr × Block) (xs : List (Expr × Block)) where
  abbrev the_default : Code
  the_default = lower_default (default_of 1 d s stop end) sc

  abbrev the_rest : Code
  the_rest = act (mark (base + k)) then (lower_block x.1 sc then bodies_from (k + 1) index base dflt the_default sc xs)

  bodies_not : eqb k index ≡ false → bodies_from k index base dflt the_default sc (x ∷ xs) ≡ the_rest
  bodies_not q = go (ltb k index) refl
    where
      go : (b : Bool) → ltb k index ≡ b → bodies_from k index base dflt the_default sc (x ∷ xs) ≡ the_rest
      go true e = bodies_below k index base dflt the_default sc x xs (ltb-true k index e)
      go false e = bodies_above k index base dflt the_default sc x xs (let z = ltb-false k index e in omega (arith, z, eqb-false k index q))

  default_turn : {S : Type 0} {K : Sinks S} (here : ℕ) {v v₁ v₂ : Walk} {o₁ : S} {m₁ m₂ : List ℕ} {o₃ : S} {m₃ : List ℕ} → here ≡ same_as k index → LabelledFrom (mark_if here dflt) v m₁ v₁ m₂ →
      Ran K (code_of (λ z. lower_default z sc) (default_from here d s stop end)) v₁ o₁ m₂ v₂ o₃ m₃ → Goes K (bodies_from k index base dflt the_default sc (x ∷ xs)) v o₁ m₁ the_rest v₂ o₃ m₃
  default_turn {K = K} here {v = v} {v₂ = v₂} {o₁ = o₁} {m₁ = m₁} {o₃ = o₃} {m₃ = m₃} e mk df = go (eqb k index) refl
    where
      go : (b : Bool) → eqb k index ≡ b → Goes K (bodies_from k index base dflt the_default sc (x ∷ xs)) v o₁ m₁ the_rest v₂ o₃ m₃
      go true q =
          let h = same_1 k index here e q in
          let z : the_default ≡ code_of (λ z. lower_default z sc) (default_from here d s stop end) =
          sym (default_answer_law (default_from 1 d s stop end) sc) ∙ ap (λ n. code_of (λ z. lower_default z sc) (default_from n d s stop end)) (sym h) in
          goes_on (renamed v o₁ m₁ (bodies_at k index base dflt the_default sc x xs (eqb-true k index q)))
          (goes_on (one_step _ (recode (mark_1 here dflt h) (labelled mk))) (one_step _ (recode z df)))
      go false q =
          let h = same_0 k index here e q in
          goes_on (renamed v o₁ m₁ (bodies_not q))
          (goes_on (skip_step the_rest (recode (mark_0 here dflt h) (labelled mk))) (skip_step the_rest (recode (sym (no_default_code here d s stop end sc h)) df)))

pub record BodiesRest {S : Type 0} (K : Sinks S) (d : ℕ) (s : List ℕ) (end stop index base dflt : ℕ) (sc : BlockSpan) (code : Code) (w : Walk) (o : S) (m : List ℕ) (k i : ℕ) (v : Walk) (o' : S) (m' : List ℕ) : Type 0 where
  pub rest : Rest K (arm_of d s) (bodies_from k index base dflt (lower_default (default_of 1 d s stop end) sc) sc) code end w o m i v o' m'
  pub few : k ≤ i

bodies_zero : (index base dflt : ℕ) (p : Code) (sc : BlockSpan) (xs : List (Expr × Block)) → lower_bodies (cases_of xs) index base dflt p sc ≡ bodies_from 0 index base dflt p sc xs
unfolding bodies_from
bodies_zero index base dflt p sc xs =
    let a : index - 0 ≡ index = omega arith in
    let b : base + 0 ≡ base = omega arith in
    rw (bodies_from, le-leb 0 index (omega arith), a, b)

pub bodies_start : {S : Type 0} {K : Sinks S} (d : ℕ) (s : List ℕ) (end at stop index base dflt : ℕ) (sc : BlockSpan) (w : Walk) (o : S) (m : List ℕ) → at ≤ end → Accepted (arms_from d s end at) →
    BodiesRest K d s end stop index base dflt sc (code_of (λ cs. lower_bodies (cases_of cs) index base dflt (lower_default (default_of 1 d s stop end) sc) sc) (arms_from d s end at)) w o m 0 at w o m
unfolding code_of
bodies_start d s end at stop index base dflt sc w o m h acc = record {
  few = omega arith;
  rest = record {
    list = acc.0;
    last = acc.1;
    reads = acc.2;
    to = h;
    goes = renamed w o m (ap {B = Code} (code_of (λ cs. lower_bodies (cases_of cs) index base dflt (lower_default (default_of 1 d s stop end) sc) sc)) acc.2 ∙ bodies_zero index base dflt (lower_default (default_of 1 d s stop end) sc) sc acc.0);
  };
}

module _ {S : Type 0} {K : Sinks S} {d : ℕ} {s : List ℕ} {end stop index base dflt : ℕ} {sc : BlockSpan} {code : Code} {w : Walk} {o : S} {m : List ℕ} {k i : ℕ} {v : Walk} {o₁ : S} {m₁ : List ℕ}
    (r : BodiesRest K d s end stop index base dflt sc code w o m k i v o₁ m₁) (h : i < end) where
  bodies_turn : Turn (arm_of d s) end i r.rest.list r.rest.last
  bodies_turn = turn (arm_of d s) end i (arm_moves d s end) h r.rest.reads

  pub bodies_arm : (second third : ℕ) → second ≡ end_of s i → third ≡ end_of s second → ArmHere d s end i second third
  bodies_arm second third e f = let t = bodies_turn in arm_here d s end i (t.item, t.next, t.reads) second third e f

  pub bodies_next : (second third here : ℕ) (v₁ : Walk) (m₂ : List ℕ) (v₂ : Walk) (o₃ : S) (m₃ : List ℕ) (v₃ : Walk) (m₄ : List ℕ) (v₄ : Walk) (o₅ : S) (m₅ : List ℕ) → second ≡ end_of s i → third ≡ end_of s second → here ≡ same_as k index →
      LabelledFrom (mark_if here dflt) v m₁ v₁ m₂ → Ran K (code_of (λ z. lower_default z sc) (default_from here d s stop end)) v₁ o₁ m₂ v₂ o₃ m₃ → LabelledFrom (act (mark (base + k))) v₂ m₃ v₃ m₄ →
      Ran K (fill_code Statement d s third (second + 4) sc) v₃ o₃ m₄ v₄ o₅ m₅ → BodiesRest K d s end stop index base dflt sc code w o m (k + 1) third v₄ o₅ m₅
  bodies_next second third here v₁ m₂ v₂ o₃ m₃ v₃ m₄ v₄ o₅ m₅ e f g mk df ml did =
      let t = bodies_turn in
      let a = bodies_arm second third e f in
      let q : t.next ≡ third = arm_ends d s end i t.reads ∙ ap (end_of s) (sym e) ∙ sym f in
      let b : lower_block t.item.1 sc ≡ fill_code Statement d s third (second + 4) sc = sym (arm_code_is (λ c y. lower_block y sc) d s end i t.item t.next t.reads) ∙ a.code (λ c y. y) sc in
      record {
        rest = rest_next _ _ _ _ _ _ _ _ _ _ _ _ _ _ _ _ r.rest t q a.tail
            (goes_on (default_turn k index base dflt d s stop end sc t.item t.others here g mk df)
            (goes_on (one_step _ (labelled ml)) (one_step _ (recode b did))));
        few = omega (arith, r.few, a.one.head, a.fits);
      }

bodies_none : (k index base dflt : ℕ) (p : Code) (sc : BlockSpan) → bodies_from k index base dflt p sc [] ≡ done
unfolding bodies_from lower_stmt cases_of
bodies_none k index base dflt p sc = go (leb k index) refl
  where
    go : (b : Bool) → leb k index ≡ b → bodies_from k index base dflt p sc [] ≡ done
    go true e = rw (bodies_from, e)
    go false e = rw (bodies_from, e)

pub bodies_end : {S : Type 0} {K : Sinks S} {d : ℕ} {s : List ℕ} {end stop index base dflt : ℕ} {sc : BlockSpan} {code : Code} {w : Walk} {o : S} {m : List ℕ} {k i : ℕ} {v : Walk} {o₁ : S} {m₁ : List ℕ} →
    BodiesRest K d s end stop index base dflt sc code w o m k i v o₁ m₁ → end ≤ i → Ran K code w o m v o₁ m₁
bodies_end {d = d} {s = s} {end = end} {stop = stop} {index = index} {base = base} {dflt = dflt} {sc = sc} {k = k} r h =
    goes_end (goes_on (rest_end _ _ _ _ _ _ _ _ _ _ _ (arm_moves d s end) h r.rest) (renamed _ _ _ (bodies_none k index base dflt (lower_default (default_of 1 d s stop end) sc) sc)))

-- 3. Many labels

many_back : (at k : ℕ) (p : Code) → SameRun (many at k done then p) (many at k p)
unfolding many run onward
many_back at zero p = record { alike = λ s. refl }
many_back at (suc k) p = record {
  alike = λ s.
      onward_assoc (move noted (new at) s) (run noted (many at k done)) (run noted p) ∙ onward_same (move noted (new at) s) (run noted (many at k done then p)) (run noted (many at k p)) (λ c _. (many_back at k p).alike c);
}

-- 4. The whole

pub code_is : {A : Type 0} (f : A → Code) (x : Answer A) (a : A) (n : ℕ) → x ≡ ok a n → code_of f x ≡ f a
unfolding code_of
code_is f x a n e = ap {B = Code} (code_of f) e

first_true : (a b : Bool) → (a && b) ≡ true → a ≡ true
first_true true b e = refl
first_true false b e = e

pub is_there : (there index n : ℕ) (b : Bool) → b ≡ (not (eqb there 0) && ltb index n) → b ≡ true → there ≡ 0 → ⊥
is_there there index n b e t z =
    let y : ◌≡◌ {A = Bool} false true = sym (rw z) ∙ first_true (not (eqb there 0)) (ltb index n) (sym e ∙ t) in
    let q : ◌≡◌ {A = ℕ} 0 1 = ap (λ c. cond c 1 0) y in absurd (omega (arith, q))

-- a default's mark is 0 or as good as 1
pub default_one : (there d : ℕ) (s : List ℕ) (stop end : ℕ) → DefaultHere there d s stop end → (there ≡ 0 → ⊥) → DefaultHere 1 d s stop end
default_one there d s stop end here h u = let k = here h in (k.0, sym (some_default there d s stop end h) ∙ k.1)

pub default_any : (there d : ℕ) (s : List ℕ) (stop end : ℕ) → DefaultHere 1 d s stop end → DefaultHere there d s stop end
default_any there d s stop end x h = let k = x (λ z. absurd (omega (arith, z))) in (k.0, some_default there d s stop end h ∙ k.1)

-- the code inside a switch, where its fields are given
abbrev inside_for : (there index d : ℕ) (s : List ℕ) (end at stop site first : ℕ) → BlockSpan → Code
inside_for there index d s end at stop site first sc =
    code_of (λ cs. cond (mid_default (default_of there d s stop end) index (cases_of cs)) (mid_code cs site first index (default_of there d s stop end) sc)
    (lower_cases (cases_of cs) site first none sc then lower_last (default_of there d s stop end) site sc)) (arms_from d s end at)

module _ (d : ℕ) (s : List ℕ) (end at stop site first index n : ℕ) (sc : BlockSpan) (acc : Accepted (arms_from d s end at)) (count : n ≡ length (list_of (arms_from d s end at))) where
  cases_long : n ≡ length_cases (cases_of acc.0)
  cases_long = count ∙ ap length (listed _ _ _ acc.2) ∙ sym (length_cases_law acc.0)

  pub mid_did : {S : Type 0} {K : Sinks S} (body : ℕ) {w w₀ w₁ w₂ w₃ w₄ r : Walk} {o : S} {m m₀ m₁ : List ℕ} {o₂ : S} {m₂ : List ℕ} {o₃ o₄ o₅ : S} {m₅ : List ℕ} → body ≡ labels_of w → LabelledFrom (act (new site)) w m w₀ m₀ → LabelledFrom (many site n done) w₀ m₀ w₁ m₁ →
      Ran K (code_of (λ cs. lower_matchers (cases_of cs) site first body) (arms_from d s end at)) w₁ o m₁ w₂ o₂ m₂ →
      EmittedFrom K (instr site SwitchDefault 0) w₂ o₂ w₃ o₃ → EmittedFrom K (jump site Jump (body + n)) w₃ o₃ w₄ o₄ →
      Ran K (code_of (λ cs. lower_bodies (cases_of cs) index body (body + n) (lower_default (default_of 1 d s stop end) sc) sc) (arms_from d s end at)) w₄ o₄ m₂ r o₅ m₅ →
      Ran K (code_of (λ cs. mid_code cs site first index (default_of 1 d s stop end) sc) (arms_from d s end at)) w o m r o₅ m₅
  unfolding mid_code
  mid_did body e one mk h p j b =
      let cs = acc.0 in
      let D = default_of 1 d s stop end in
      let f : ℕ → Code = λ c. lower_matchers (cases_of cs) site first c then instr site SwitchDefault 0 then jump site Jump (c + n) then lower_bodies (cases_of cs) index c (c + n) (lower_default D sc) sc in
      let z : code_of (λ cs. mid_code cs site first index D sc) (arms_from d s end at) ≡ label site (λ c. many site n (f c)) =
      code_is (λ cs. mid_code cs site first index D sc) (arms_from d s end at) cs acc.1 acc.2 ∙ rw (mid_code, ← cases_long) in
      recode z (fresh site (λ c. many site n (f c)) e (labelled one) (rerun (many_back site n (f body)) (both (labelled mk)
      (both (recode (sym (code_is (λ cs. lower_matchers (cases_of cs) site first body) (arms_from d s end at) cs acc.1 acc.2)) h)
      (both (emitted p) (both (emitted j)
      (recode (sym (code_is (λ cs. lower_bodies (cases_of cs) index body (body + n) (lower_default D sc) sc) (arms_from d s end at) cs acc.1 acc.2)) b)))))))

  module _ (there : ℕ) (here : DefaultHere there d s stop end) where
    none_is : there ≡ 0 → default_of there d s stop end ≡ absent
    unfolding default_answer block_if give
    none_is e = rw e

    some_is : (h : there ≡ 0 → ⊥) → default_of there d s stop end ≡ present (block_of (default_some there d s stop end h (here h)).1.0)
    unfolding default_answer
    some_is h = let k = here h in ap {B = Default} default_answer k.1 ∙ (default_some there d s stop end h k).1.2

    present_is : is_present (default_of there d s stop end) ≡ not (eqb there 0)
    unfolding is_present
    present_is = go (eqb there 0) refl
      where
        go : (b : Bool) → eqb there 0 ≡ b → is_present (default_of there d s stop end) ≡ not (eqb there 0)
        go true e = rw (e, none_is (eqb-true there 0 e))
        go false e = rw (e, some_is (eqb-false there 0 e))

    mid_test : mid_default (default_of there d s stop end) index (cases_of acc.0) ≡ (not (eqb there 0) && ltb index n)
    unfolding mid_default
    mid_test = rw (mid_default, present_is, ← cases_long)

    abbrev inside_of : Bool → Code
    inside_of b = cond b (mid_code acc.0 site first index (default_of there d s stop end) sc) (lower_cases (cases_of acc.0) site first none sc then lower_last (default_of there d s stop end) site sc)

    inside_is : (b : Bool) → b ≡ (not (eqb there 0) && ltb index n) → inside_for there index d s end at stop site first sc ≡ inside_of b
    inside_is b e = code_is _ (arms_from d s end at) acc.0 acc.1 acc.2 ∙ ap inside_of (mid_test ∙ sym e)

    pub inside_mid : {S : Type 0} {K : Sinks S} (b : Bool) {w r : Walk} {o : S} {m : List ℕ} {o' : S} {m' : List ℕ} → b ≡ (not (eqb there 0) && ltb index n) → b ≡ true →
        Ran K (code_of (λ cs. mid_code cs site first index (default_of 1 d s stop end) sc) (arms_from d s end at)) w o m r o' m' → Ran K (inside_for there index d s end at stop site first sc) w o m r o' m'
    inside_mid b e t x =
        let z : default_of there d s stop end ≡ default_of 1 d s stop end = ap default_answer (some_default there d s stop end (is_there there index n b e t)) in
        recode (inside_is b e ∙ ap inside_of t ∙ ap (λ D. mid_code acc.0 site first index D sc) z ∙ sym (code_is (λ cs. mid_code cs site first index (default_of 1 d s stop end) sc) (arms_from d s end at) acc.0 acc.1 acc.2)) x

    module _ {S : Type 0} {K : Sinks S} (b : Bool) (e : b ≡ (not (eqb there 0) && ltb index n)) (t : b ≡ false) {w v : Walk} {o : S} {m : List ℕ} {o₁ : S} {m₁ : List ℕ}
        (x : Ran K (code_of (λ cs. lower_cases (cases_of cs) site first none sc) (arms_from d s end at)) w o m v o₁ m₁) where
      the_cases : Ran K (lower_cases (cases_of acc.0) site first none sc) w o m v o₁ m₁
      the_cases = recode (sym (code_is (λ cs. lower_cases (cases_of cs) site first none sc) (arms_from d s end at) acc.0 acc.1 acc.2)) x

      pub inside_none : there ≡ 0 → Ran K (inside_for there index d s end at stop site first sc) w o m v o₁ m₁
      unfolding lower_stmt
      inside_none z = recode (inside_is b e ∙ ap inside_of t ∙ ap (λ D. lower_cases (cases_of acc.0) site first none sc then lower_last D site sc) (none_is z)) (both the_cases nothing)

      pub inside_last : {u r : Walk} {o₂ o₃ : S} {m₃ : List ℕ} → (there ≡ 0 → ⊥) → EmittedFrom K (instr site SwitchDefault 0) v o₁ u o₂ → Ran K (fill_code Statement d s stop (end + 4) sc) u o₂ m₁ r o₃ m₃ →
          Ran K (inside_for there index d s end at stop site first sc) w o m r o₃ m₃
      unfolding lower_stmt
      inside_last z p y =
          let k = default_some there d s stop end z (here z) in
          recode (inside_is b e ∙ ap inside_of t ∙ ap (λ D. lower_cases (cases_of acc.0) site first none sc then lower_last D site sc) (some_is z))
          (both the_cases (both (emitted p) (recode (sym (block_code d s stop (end + 4) sc k.1.0 stop k.1.1)) y)))

      -- it was refused
      pub inside_refused : {q : Refusal} → v ≡ std.Err q → Ran K (inside_for there index d s end at stop site first sc) w o m v o₁ m₁
      inside_refused {q} f = go (eqb there 0) refl
        where
          go : (z : Bool) → eqb there 0 ≡ z → Ran K (inside_for there index d s end at stop site first sc) w o m v o₁ m₁
          go true z = inside_none (eqb-true there 0 z)
          go false z = inside_last (eqb-false there 0 z) (emit_stays (instr site SwitchDefault 0) v o₁ q f) (stays (fill_code Statement d s stop (end + 4) sc) v o₁ m₁ q f)

-- the places and fields that the code computes
module _ (d : ℕ) (s : List ℕ) (stop p there index list : ℕ) (e : list ≡ end_of s (p + 5)) (f : there ≡ get_or s (p + 4) 0) (g : index ≡ number 4 s p) where
  pub cased_at : Cased (get_or s (p + 4) 0) d s stop p → Accepted (arms_from d s list (p + 9)) × DefaultHere there d s stop list × (p + 9 ≤ list) × (list ≤ stop)
  cased_at k = rw (e, f) (k.cases, k.default, k.head, k.tail)

  pub as_inside : {S : Type 0} {K : Sinks S} (site first : ℕ) (sc : BlockSpan) {w r : Walk} {o : S} {m : List ℕ} {o' : S} {m' : List ℕ} → Ran K (inside_for there index d s list (p + 9) stop site first sc) w o m r o' m' → Ran K (inside_code d s stop p site first sc) w o m r o' m'
  unfolding inside_code
  as_inside site first sc x = rw (e, f, g) at x

-- the same of a default before a case
module _ (d : ℕ) (s : List ℕ) (stop p index list : ℕ) (e : list ≡ end_of s (p + 5)) (g : index ≡ number 4 s p) where
  abbrev Middle : {S : Type 0} (K : Sinks S) (index list site first : ℕ) (sc : BlockSpan) (w : Walk) (o : S) (m : List ℕ) (r : Walk) (o' : S) (m' : List ℕ) → Type 0
  Middle K i l site first sc w o m r o' m' = Ran K (code_of (λ cs. mid_code cs site first i (default_of 1 d s stop l) sc) (arms_from d s l (p + 9))) w o m r o' m'

  pub mid_cased : (n : ℕ) → n ≡ length (list_of (cases_from d s p)) → Cased 1 d s stop p → Accepted (arms_from d s list (p + 9)) × DefaultHere 1 d s stop list × (p + 9 ≤ list) × (list ≤ stop) × (n ≡ length (list_of (arms_from d s list (p + 9))))
  mid_cased n h k = rw e (k.cases, k.default, k.head, k.tail, h)

  pub mid_there : {S : Type 0} {K : Sinks S} (site first : ℕ) (sc : BlockSpan) {w r : Walk} {o : S} {m : List ℕ} {o' : S} {m' : List ℕ} → Middle K index list site first sc w o m r o' m' → Middle K (number 4 s p) (end_of s (p + 5)) site first sc w o m r o' m'
  mid_there site first sc x = rw (e, g) at x

  pub mid_here : {S : Type 0} {K : Sinks S} (site first : ℕ) (sc : BlockSpan) {w r : Walk} {o : S} {m : List ℕ} {o' : S} {m' : List ℕ} → Middle K (number 4 s p) (end_of s (p + 5)) site first sc w o m r o' m' → Middle K index list site first sc w o m r o' m'
  mid_here site first sc x = rw (e, g) x

-- a default that there is, as one of mark 1
pub cased_one : (there d : ℕ) (s : List ℕ) (stop p : ℕ) → (there ≡ 0 → ⊥) → Cased there d s stop p → Cased 1 d s stop p
cased_one there d s stop p h k = record { cases = k.cases; default = default_one there d s stop _ k.default h; head = k.head; tail = k.tail }

pub counted_at : (d : ℕ) (s : List ℕ) (p list n : ℕ) → list ≡ end_of s (p + 5) → n ≡ length (list_of (arms_from d s list (p + 9))) → n ≡ length (list_of (cases_from d s p))
counted_at d s p list n e h = rw e at h
