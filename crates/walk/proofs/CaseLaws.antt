-- Groups of cases. Assumes nothing.
use Prim.Native.Nat.{ℕ, suc, ◌+◌, ◌-◌, ◌^◌, ◌≤◌, ◌<◌}
use mathlib.Core.Path.{◌≡◌, refl, sym, ap, ◌∙◌}
use mathlib.Core.Bool.{Bool, true, false, cond, ◌||◌}
use mathlib.Core.List.{List, [], ◌∷◌}
use mathlib.Core.Option.{Option, none, some}
use native.Mathlib.Omega.{arith}
use lib.Dec.{ltb, leb}
use borrow.Author.Tests.{ltb-true, ltb-false, leb-true, leb-false, le-leb, lt-leb}
use Rattle.std.specs.Prelude as std
use Rattle.definitions.specs.Answer.{ok, onward}
use Rattle.definitions.specs.Tag.{SwitchLabel, Jump, JumpIfFalse}
use Rattle.definitions.specs.Tree.{Expr, Stmt, Block, block_of, cases_of, branches_of, exprs_of}
use Rattle.definitions.specs.Read.{Parser, filling, arm, parse_expr, parse_stmt}
use Rattle.definitions.specs.Code.{Code, new, mark, act, done, label, ◌then◌}
use Rattle.definitions.specs.Lower.{BlockSpan, jump, jumps, lower_branches, lower_matchers, lower_bodies, lower_blocks, lower_elements, in_group, ends_group, lower_expr, lower_stmt, lower_block, lower_cases}
use Rattle.ir.specs.Places.{end_of}
use Rattle.ir.proofs.Inversion.{fill_some, fill_none, stmt_moves, expr_moves, expr_at}
use Rattle.ir.proofs.StmtPlaces.{arm_at, arm_moves}
use Rattle.steps.specs.Running.{Sinks, run}
use Rattle.steps.specs.Walked.{expr_code, exprs_from, element_code, EmittedFrom, Accepted, arms_from, ran, labels_of, target_of, code_of, arm_code, ending, group_label, open_code, LabelledFrom, Ran, Walk}
use Rattle.laws.proofs.Results.{onward_made}
use Rattle.steps.proofs.StepLaws.{labelled, emitted, recode, SameRun, same_assoc, same_right, same_on, same_done}
use Rattle.steps.proofs.RunLaws.{Goes, goes_same, goes_on, one_step, fresh_step, renamed, goes_last, goes_end, Rest, rest_start, rest_next, rest_end, Turn, turn}
use Rattle.walk.proofs.StmtCode.{ArmHere, arm_here}
use Rattle.walk.proofs.ExprCode.{child}

-- 1. Steps

-- nothing was done
pub skip_step : {S : Type 0} {K : Sinks S} (p : Code) {w v : Walk} {o : S} {m : List ℕ} {o' : S} {m' : List ℕ} → Ran K done w o m v o' m' → Goes K p w o m p v o' m'
unfolding run
skip_step {K = K} p {w = w} {o = o} {m = m} d = record { same = ap (λ x. onward x (run K p)) (d.same ∙ onward_made (ran w o m)); marked = d.marked }

-- 2. A case's end

pub ends_true : (b : Bool) (body : ℕ) (p : Code) → b ≡ true → ending b body p ≡ act (mark body) then p
unfolding ending
ends_true b body p e = rw e

pub ends_false : (b : Bool) (body : ℕ) (p : Code) → b ≡ false → ending b body p ≡ done
unfolding ending
ends_false b body p e = rw e

case_tail : {S : Type 0} {K : Sinks S} (ends : Bool) (j x b r₁ r₂ : Code) (body : ℕ) {w v : Walk} {o : S} {m : List ℕ} {o' : S} {m' : List ℕ} → Ran K (j then (x then ending ends body b)) w o m v o' m' →
    Goes K (j then (x then cond ends (act (mark body) then (b then r₁)) r₂)) w o m (cond ends r₁ r₂) v o' m'
unfolding ending
case_tail true j x b r₁ r₂ body {w = w} {o = o} {m = m} d =
    goes_on (goes_same w o m (same_on (same_right j (same_on (same_right x (same_assoc (act (mark body)) b r₁)) (same_assoc x (act (mark body) then b) r₁))) (same_assoc j (x then (act (mark body) then b)) r₁))) (one_step r₁ d)
case_tail false j x b r₁ r₂ body {w = w} {o = o} {m = m} d =
    goes_on (goes_same w o m (same_on (same_right j (same_on (same_right x (same_done r₂)) (same_assoc x done r₂))) (same_assoc j (x then done) r₂))) (one_step r₂ d)

-- the group's body label: that of the group that is open, or a new one
group_step : {S : Type 0} {K : Sinks S} (group : (std.Option ℕ)) (site : ℕ) (k : ℕ → Code) (body : ℕ) {v v₁ : Walk} {o : S} {m m₁ : List ℕ} → body ≡ group_label group v → LabelledFrom (open_code group site) v m v₁ m₁ →
    Goes K (in_group (target_of group) site k) v o m (k body) v₁ o m₁
unfolding in_group target_of group_label open_code
group_step std.None site k body e l = fresh_step site k body e (labelled l)
group_step (std.Some n) site k body e l = rw e (skip_step (k n) (labelled l))

abbrev Some : {A : Type 0} → List A → Type 0
Some {A} xs = (x : A) × (ys : List A) × (xs ≡ x ∷ ys)

ends_is : (first stop end : ℕ) (body : List Stmt) (others : List (Expr × Block)) → (first < stop → Some body) → (stop ≤ first → body ≡ []) → (stop < end → Some others) → (end ≤ stop → others ≡ []) →
    (ltb first stop || leb end stop) ≡ ends_group (block_of body) (cases_of others)
unfolding ends_group block_of cases_of
ends_is first stop end body others a b c d = go (ltb first stop) (leb end stop) refl refl
  where
    go : (x y : Bool) → ltb first stop ≡ x → leb end stop ≡ y → (x || y) ≡ ends_group (block_of body) (cases_of others)
    go true y e f = let k = a (ltb-true first stop e) in rw k.2
    go false true e f = let z = b (ltb-false first stop e) in let u = d (leb-true end stop f) in rw (z, u)
    go false false e f = let z = b (ltb-false first stop e) in let u = c (leb-false end stop f) in rw (z, u.2)

-- 3. The loop

abbrev pub arm_of : (d : ℕ) (s : List ℕ) → ℕ → Parser (Expr × Block)
arm_of d s = arm s (parse_expr d s) (parse_stmt d s)

case_cons : (site next : ℕ) (group : Option ℕ) (sc : BlockSpan) (x : Expr × Block) (xs : List (Expr × Block)) → lower_cases (cases_of (x ∷ xs)) site next group sc ≡
    in_group group site (λ body. act (mark next) then label site (λ next'. jumps site SwitchLabel next' body then lower_expr x.0 then
    cond (ends_group x.1 (cases_of xs)) (act (mark body) then lower_block x.1 sc then lower_cases (cases_of xs) site next' none sc) (lower_cases (cases_of xs) site next' (some body) sc)))
unfolding lower_stmt cases_of
case_cons site next group sc x xs = refl

cases_rest : (ends : Bool) (xs : List (Expr × Block)) (site next body : ℕ) (sc : BlockSpan) (group : Option ℕ) → group ≡ cond ends none (some body) →
    cond ends (lower_cases (cases_of xs) site next none sc) (lower_cases (cases_of xs) site next (some body) sc) ≡ lower_cases (cases_of xs) site next group sc
cases_rest true xs site next body sc group e = rw e
cases_rest false xs site next body sc group e = rw e

pub arm_code_is : (g : Expr → Block → Code) (d : ℕ) (s : List ℕ) (end at : ℕ) (x : Expr × Block) (n : ℕ) → arm_of d s end at ≡ ok x n → arm_code g d s end at ≡ g x.0 x.1
unfolding code_of
arm_code_is g d s end at x n e = ap {B = Code} (code_of (λ x. g x.0 x.1)) e

pub arm_ends : (d : ℕ) (s : List ℕ) (end at : ℕ) {x : Expr × Block} {n : ℕ} → arm_of d s end at ≡ ok x n → n ≡ end_of s (end_of s at)
arm_ends d s end at e = let k = arm_at d s end at e in k.run.ends ∙ ap (end_of s) k.one.ends

-- whether a case ends its group, by its bytes and by the tree
group_ends : (d : ℕ) (s : List ℕ) (end i second third : ℕ) (x : Expr × Block) (n : ℕ) (others : List (Expr × Block)) (last : ℕ) → arm_of d s end i ≡ ok x n → second ≡ end_of s i → third ≡ n →
    filling (arm_of d s) end n ≡ ok others last → (ltb (second + 4) third || leb end third) ≡ ends_group x.1 (cases_of others)
group_ends d s end i second third x n others last r e f q =
    let k = arm_at d s end i r in
    let a : k.second ≡ second = k.one.ends ∙ sym e in
    let u : filling (parse_stmt d s) n (second + 4) ≡ ok k.body n = rw a at k.run.reads in
    rw (f, k.block_is) (ends_is (second + 4) n end k.body others
    (λ h. let z = fill_some (parse_stmt d s) n (stmt_moves d s n) (second + 4) h u in (z.0, z.2, z.4))
    (λ h. (fill_none (parse_stmt d s) n (stmt_moves d s n) (second + 4) h u).0)
    (λ h. let z = fill_some (arm_of d s) end (arm_moves d s end) n h q in (z.0, z.2, z.4))
    (λ h. (fill_none (arm_of d s) end (arm_moves d s end) n h q).0))

-- at i, where the label `next` is to be marked and a group may be open
pub record CasesRest {S : Type 0} (K : Sinks S) (d : ℕ) (s : List ℕ) (end site : ℕ) (sc : BlockSpan) (code : Code) (w : Walk) (o : S) (m : List ℕ) (next : ℕ) (group : (std.Option ℕ)) (i : ℕ) (v : Walk) (o' : S) (m' : List ℕ) : Type 0 where
  pub rest : Rest K (arm_of d s) (λ xs. lower_cases (cases_of xs) site next (target_of group) sc) code end w o m i v o' m'

pub cases_start : {S : Type 0} {K : Sinks S} (d : ℕ) (s : List ℕ) (end at site first : ℕ) (sc : BlockSpan) (group : (std.Option ℕ)) (w : Walk) (o : S) (m : List ℕ) → target_of group ≡ none → at ≤ end → Accepted (arms_from d s end at) →
    CasesRest K d s end site sc (code_of (λ xs. lower_cases (cases_of xs) site first none sc) (arms_from d s end at)) w o m first group at w o m
cases_start d s end at site first sc group w o m e h acc =
    record { rest = rw e (rest_start (arm_of d s) (λ xs. lower_cases (cases_of xs) site first none sc) end at w o m h acc) }

module _ {S : Type 0} {K : Sinks S} {d : ℕ} {s : List ℕ} {end site : ℕ} {sc : BlockSpan} {code : Code} {w : Walk} {o : S} {m : List ℕ} {next : ℕ} {group : (std.Option ℕ)} {i : ℕ} {v : Walk} {o₁ : S} {m₁ : List ℕ}
    (r : CasesRest K d s end site sc code w o m next group i v o₁ m₁) (h : i < end) where
  pub cases_turn : Turn (arm_of d s) end i r.rest.list r.rest.last
  cases_turn = turn (arm_of d s) end i (arm_moves d s end) h r.rest.reads

  pub cases_arm : (second third : ℕ) → second ≡ end_of s i → third ≡ end_of s second → ArmHere d s end i second third
  cases_arm second third e f = let k = cases_turn in arm_here d s end i (k.item, k.next, k.reads) second third e f

  pub cases_next : (second third body next' : ℕ) (ends : Bool) (group' : (std.Option ℕ)) (v₁ : Walk) (m₂ : List ℕ) (v₂ : Walk) (m₃ : List ℕ) (v₃ : Walk) (m₄ : List ℕ) (v₄ : Walk) (o₅ : S) (m₅ : List ℕ) →
      second ≡ end_of s i → third ≡ end_of s second → ends ≡ (ltb (second + 4) third || leb end third) → body ≡ group_label group v →
      LabelledFrom (open_code group site) v m₁ v₁ m₂ → LabelledFrom (act (mark next)) v₁ m₂ v₂ m₃ → next' ≡ labels_of v₂ → LabelledFrom (act (new site)) v₂ m₃ v₃ m₄ →
      Ran K (arm_code (λ c b. jumps site SwitchLabel next' body then lower_expr c then ending ends body (lower_block b sc)) d s end i) v₃ o₁ m₄ v₄ o₅ m₅ →
      target_of group' ≡ cond ends none (some body) →
      CasesRest K d s end site sc code w o m next' group' third v₄ o₅ m₅
  cases_next second third body next' ends group' v₁ m₂ v₂ m₃ v₃ m₄ v₄ o₅ m₅ e f g b op mk q nw did gr =
      let k = cases_turn in
      let a = cases_arm second third e f in
      let t : third ≡ k.next = f ∙ ap (end_of s) e ∙ sym (arm_ends d s end i k.reads) in
      let n : ends ≡ ends_group k.item.1 (cases_of k.others) = g ∙ group_ends d s end i second third k.item k.next k.others r.rest.last k.reads e t k.after in
      record {
        rest = rest_next _ _ _ _ _ _ _ _ _ _ _ _ _ _ _ _ r.rest k (sym t) a.tail
            (goes_on (renamed _ _ _ (case_cons site next (target_of group) sc k.item k.others))
            (goes_on (group_step group site _ body b op)
            (goes_on (one_step _ (labelled mk))
            (goes_on (fresh_step site _ next' q (labelled nw))
            (goes_on (renamed _ _ _ (ap (λ z. jumps site SwitchLabel next' body then lower_expr k.item.0 then
            cond z (act (mark body) then lower_block k.item.1 sc then lower_cases (cases_of k.others) site next' none sc) (lower_cases (cases_of k.others) site next' (some body) sc)) (sym n)))
            (goes_on (case_tail ends _ _ _ _ _ body (recode (sym (arm_code_is _ d s end i k.item k.next k.reads)) did))
            (renamed _ _ _ (cases_rest ends k.others site next' body sc (target_of group') gr))))))));
      }

pub cases_end : {S : Type 0} {K : Sinks S} {d : ℕ} {s : List ℕ} {end site : ℕ} {sc : BlockSpan} {code : Code} {w : Walk} {o : S} {m : List ℕ} {next : ℕ} {group : (std.Option ℕ)} {i : ℕ} {v : Walk} {o₁ : S} {m₁ : List ℕ} {z : Walk} {m₂ : List ℕ} →
    CasesRest K d s end site sc code w o m next group i v o₁ m₁ → end ≤ i → LabelledFrom (act (mark next)) v m₁ z m₂ → Ran K code w o m z o₁ m₂
unfolding lower_stmt cases_of
cases_end {d = d} {s = s} {end = end} r h k = goes_last (rest_end _ _ _ _ _ _ _ _ _ _ _ (arm_moves d s end) h r.rest) (labelled k)

-- 4. Branches

branch_cons : (site next exit : ℕ) (sc : BlockSpan) (x : Expr × Block) (xs : List (Expr × Block)) → lower_branches (branches_of (x ∷ xs)) site next exit sc ≡
    jump site JumpIfFalse next then (lower_expr x.0 then (lower_block x.1 sc then (jump site Jump exit then (act (mark next) then label site (λ next'. lower_branches (branches_of xs) site next' exit sc)))))
unfolding lower_stmt branches_of
branch_cons site next exit sc x xs = refl

assoc5 : (a b c d e r : Code) → SameRun (a then (b then (c then (d then (e then r))))) ((a then (b then (c then (d then e)))) then r)
assoc5 a b c d e r =
    same_on (same_right a (same_on (same_right b (same_on (same_right c (same_assoc d e r)) (same_assoc c (d then e) r))) (same_assoc b (c then (d then e)) r))) (same_assoc a (b then (c then (d then e))) r)

pub record ArmsRest {S : Type 0} (K : Sinks S) (d : ℕ) (s : List ℕ) (end site exit : ℕ) (sc : BlockSpan) (code : Code) (w : Walk) (o : S) (m : List ℕ) (next : ℕ) (i : ℕ) (v : Walk) (o' : S) (m' : List ℕ) : Type 0 where
  pub rest : Rest K (arm_of d s) (λ xs. lower_branches (branches_of xs) site next exit sc) code end w o m i v o' m'

pub arms_start : {S : Type 0} {K : Sinks S} (d : ℕ) (s : List ℕ) (end at site first exit : ℕ) (sc : BlockSpan) (w : Walk) (o : S) (m : List ℕ) → at ≤ end → Accepted (arms_from d s end at) →
    ArmsRest K d s end site exit sc (code_of (λ xs. lower_branches (branches_of xs) site first exit sc) (arms_from d s end at)) w o m first at w o m
arms_start d s end at site first exit sc w o m h acc = record { rest = rest_start (arm_of d s) (λ xs. lower_branches (branches_of xs) site first exit sc) end at w o m h acc }

module _ {S : Type 0} {K : Sinks S} {d : ℕ} {s : List ℕ} {end site exit : ℕ} {sc : BlockSpan} {code : Code} {w : Walk} {o : S} {m : List ℕ} {next i : ℕ} {v : Walk} {o₁ : S} {m₁ : List ℕ}
    (r : ArmsRest K d s end site exit sc code w o m next i v o₁ m₁) (h : i < end) where
  pub arms_turn : Turn (arm_of d s) end i r.rest.list r.rest.last
  arms_turn = turn (arm_of d s) end i (arm_moves d s end) h r.rest.reads

  pub arms_arm : (second third : ℕ) → second ≡ end_of s i → third ≡ end_of s second → ArmHere d s end i second third
  arms_arm second third e f = let k = arms_turn in arm_here d s end i (k.item, k.next, k.reads) second third e f

  pub arms_next : (second third next' : ℕ) (v₁ : Walk) (o₂ : S) (m₂ : List ℕ) (v₂ : Walk) (m₃ : List ℕ) → second ≡ end_of s i → third ≡ end_of s second →
      Ran K (arm_code (λ c b. jump site JumpIfFalse next then lower_expr c then lower_block b sc then jump site Jump exit then act (mark next)) d s end i) v o₁ m₁ v₁ o₂ m₂ →
      next' ≡ labels_of v₁ → LabelledFrom (act (new site)) v₁ m₂ v₂ m₃ → ArmsRest K d s end site exit sc code w o m next' third v₂ o₂ m₃
  arms_next second third next' v₁ o₂ m₂ v₂ m₃ e f did q nw =
      let k = arms_turn in
      let a = arms_arm second third e f in
      let t : third ≡ k.next = f ∙ ap (end_of s) e ∙ sym (arm_ends d s end i k.reads) in
      record {
        rest = rest_next _ _ _ _ _ _ _ _ _ _ _ _ _ _ _ _ r.rest k (sym t) a.tail
            (goes_on (renamed _ _ _ (branch_cons site next exit sc k.item k.others))
            (goes_on (goes_same _ _ _ (assoc5 _ _ _ _ _ _))
            (goes_on (one_step _ (recode (sym (arm_code_is _ d s end i k.item k.next k.reads)) did))
            (fresh_step site _ next' q (labelled nw)))));
      }

pub arms_end : {S : Type 0} {K : Sinks S} {d : ℕ} {s : List ℕ} {end site exit : ℕ} {sc : BlockSpan} {code : Code} {w : Walk} {o : S} {m : List ℕ} {next i : ℕ} {v : Walk} {o₁ : S} {m₁ : List ℕ} →
    ArmsRest K d s end site exit sc code w o m next i v o₁ m₁ → end ≤ i → Ran K code w o m v o₁ m₁
unfolding lower_stmt branches_of
arms_end {d = d} {s = s} {end = end} r h = goes_end (rest_end _ _ _ _ _ _ _ _ _ _ _ (arm_moves d s end) h r.rest)

-- 5. The matchers of a switch with a mid default

matcher_cons : (site next body : ℕ) (x : Expr × Block) (xs : List (Expr × Block)) → lower_matchers (cases_of (x ∷ xs)) site next body ≡
    act (mark next) then label site (λ next'. jumps site SwitchLabel next' body then lower_expr x.0 then lower_matchers (cases_of xs) site next' (body + 1))
unfolding lower_stmt cases_of
matcher_cons site next body x xs = refl

pub record HeadsRest {S : Type 0} (K : Sinks S) (d : ℕ) (s : List ℕ) (end site : ℕ) (code : Code) (w : Walk) (o : S) (m : List ℕ) (next body i : ℕ) (v : Walk) (o' : S) (m' : List ℕ) : Type 0 where
  pub rest : Rest K (arm_of d s) (λ xs. lower_matchers (cases_of xs) site next body) code end w o m i v o' m'
  pub few : body ≤ 2 ^ 32 + i

pub heads_start : {S : Type 0} {K : Sinks S} (d : ℕ) (s : List ℕ) (end at site first body : ℕ) (w : Walk) (o : S) (m : List ℕ) → at ≤ end → body < 2 ^ 32 → Accepted (arms_from d s end at) →
    HeadsRest K d s end site (code_of (λ cs. lower_matchers (cases_of cs) site first body) (arms_from d s end at)) w o m first body at w o m
heads_start d s end at site first body w o m h l acc = record { rest = rest_start (arm_of d s) (λ xs. lower_matchers (cases_of xs) site first body) end at w o m h acc; few = omega arith }

module _ {S : Type 0} {K : Sinks S} {d : ℕ} {s : List ℕ} {end site : ℕ} {code : Code} {w : Walk} {o : S} {m : List ℕ} {next body i : ℕ} {v : Walk} {o₁ : S} {m₁ : List ℕ}
    (r : HeadsRest K d s end site code w o m next body i v o₁ m₁) (h : i < end) where
  pub heads_turn : Turn (arm_of d s) end i r.rest.list r.rest.last
  heads_turn = turn (arm_of d s) end i (arm_moves d s end) h r.rest.reads

  pub heads_arm : (second third : ℕ) → second ≡ end_of s i → third ≡ end_of s second → ArmHere d s end i second third
  heads_arm second third e f = let k = heads_turn in arm_here d s end i (k.item, k.next, k.reads) second third e f

  pub heads_next : (second third next' : ℕ) (v₁ : Walk) (m₂ : List ℕ) (v₂ : Walk) (m₃ : List ℕ) (v₃ : Walk) (o₃ : S) (v₄ : Walk) (o₄ : S) (m₄ : List ℕ) → second ≡ end_of s i → third ≡ end_of s second →
      LabelledFrom (act (mark next)) v m₁ v₁ m₂ → next' ≡ labels_of v₁ → LabelledFrom (act (new site)) v₁ m₂ v₂ m₃ → EmittedFrom K (jumps site SwitchLabel next' body) v₂ o₁ v₃ o₃ → Ran K (expr_code d s end i) v₃ o₃ m₃ v₄ o₄ m₄ →
      HeadsRest K d s end site code w o m next' (body + 1) third v₄ o₄ m₄
  heads_next second third next' v₁ m₂ v₂ m₃ v₃ o₃ v₄ o₄ m₄ e f mk q nw j did =
      let k = heads_turn in
      let a = heads_arm second third e f in
      let x = arm_at d s end i k.reads in
      let t : third ≡ k.next = f ∙ ap (end_of s) e ∙ sym (arm_ends d s end i k.reads) in
      record {
        rest = rest_next _ _ _ _ _ _ _ _ _ _ _ _ _ _ _ _ r.rest k (sym t) a.tail
            (goes_on (renamed _ _ _ (matcher_cons site next body k.item k.others))
            (goes_on (one_step _ (labelled mk))
            (goes_on (fresh_step site _ next' q (labelled nw))
            (goes_on (one_step _ (emitted j)) (one_step _ (recode (child x.one) did))))));
        few = omega (arith, r.few, a.one.head, a.fits);
      }

pub heads_end : {S : Type 0} {K : Sinks S} {d : ℕ} {s : List ℕ} {end site : ℕ} {code : Code} {w : Walk} {o : S} {m : List ℕ} {next body i : ℕ} {v : Walk} {o₁ : S} {m₁ : List ℕ} {z : Walk} {m₂ : List ℕ} →
    HeadsRest K d s end site code w o m next body i v o₁ m₁ → end ≤ i → LabelledFrom (act (mark next)) v m₁ z m₂ → Ran K code w o m z o₁ m₂
unfolding lower_stmt cases_of
heads_end {d = d} {s = s} {end = end} r h k = goes_last (rest_end _ _ _ _ _ _ _ _ _ _ _ (arm_moves d s end) h r.rest) (labelled k)

-- 6. The elements of an InitArray

element_cons : (site local type k : ℕ) (x : Expr) (xs : List Expr) → lower_elements (exprs_of (x ∷ xs)) site local type k ≡ element_code site local type k then (lower_expr x then lower_elements (exprs_of xs) site local type (k + 1))
unfolding lower_elements exprs_of element_code
element_cons site local type k x xs = refl

pub record ElemsRest {S : Type 0} (K : Sinks S) (d : ℕ) (s : List ℕ) (end site local type : ℕ) (code : Code) (w : Walk) (o : S) (m : List ℕ) (k i : ℕ) (v : Walk) (o' : S) (m' : List ℕ) : Type 0 where
  pub rest : Rest K (parse_expr d s) (λ xs. lower_elements (exprs_of xs) site local type k) code end w o m i v o' m'
  pub few : k ≤ i

pub elems_start : {S : Type 0} {K : Sinks S} (d : ℕ) (s : List ℕ) (end at site local type : ℕ) (w : Walk) (o : S) (m : List ℕ) → at ≤ end → Accepted (exprs_from d s end at) →
    ElemsRest K d s end site local type (code_of (λ xs. lower_elements (exprs_of xs) site local type 0) (exprs_from d s end at)) w o m 0 at w o m
elems_start d s end at site local type w o m h acc = record { rest = rest_start (parse_expr d s) (λ xs. lower_elements (exprs_of xs) site local type 0) end at w o m h acc; few = omega arith }

module _ {S : Type 0} {K : Sinks S} {d : ℕ} {s : List ℕ} {end site local type : ℕ} {code : Code} {w : Walk} {o : S} {m : List ℕ} {k i : ℕ} {v : Walk} {o₁ : S} {m₁ : List ℕ} (r : ElemsRest K d s end site local type code w o m k i v o₁ m₁) (h : i < end) where
  pub elems_turn : Turn (parse_expr d s) end i r.rest.list r.rest.last
  elems_turn = turn (parse_expr d s) end i (expr_moves d s end) h r.rest.reads

  pub elems_next : (next : ℕ) (v₁ : Walk) (o₂ : S) (v₂ : Walk) (o₃ : S) (m₃ : List ℕ) → next ≡ end_of s i → EmittedFrom K (element_code site local type k) v o₁ v₁ o₂ → Ran K (expr_code d s end i) v₁ o₂ m₁ v₂ o₃ m₃ →
      ElemsRest K d s end site local type code w o m (k + 1) next v₂ o₃ m₃
  elems_next next v₁ o₂ v₂ o₃ m₃ f em did =
      let t = elems_turn in
      let z = expr_at d s end i t.reads in
      let q : t.next ≡ next = z.ends ∙ sym f in
      record {
        rest = rest_next _ _ _ _ _ _ _ _ _ _ _ _ _ _ _ _ r.rest t q (omega (arith, z.tail, q)) (goes_on (renamed _ _ _ (element_cons site local type k t.item t.others)) (goes_on (one_step _ (emitted em)) (one_step _ (recode (child z) did))));
        few = omega (arith, r.few, z.head, q);
      }

pub elems_end : {S : Type 0} {K : Sinks S} {d : ℕ} {s : List ℕ} {end site local type : ℕ} {code : Code} {w : Walk} {o : S} {m : List ℕ} {k i : ℕ} {v : Walk} {o₁ : S} {m₁ : List ℕ} → ElemsRest K d s end site local type code w o m k i v o₁ m₁ → end ≤ i → Ran K code w o m v o₁ m₁
unfolding lower_elements exprs_of
elems_end {d = d} {s = s} {end = end} r h = goes_end (rest_end _ _ _ _ _ _ _ _ _ _ _ (expr_moves d s end) h r.rest)

-- 7. The blocks of a switch with a mid default, from case k on: before the default and after it

unfoldable pub bodies_from : (k index base dflt : ℕ) (default : Code) (sc : BlockSpan) → List (Expr × Block) → Code
bodies_from k index base dflt default sc xs = cond (leb k index) (lower_bodies (cases_of xs) (index - k) (base + k) dflt default sc) (lower_blocks (cases_of xs) (base + k) sc)

module _ (k index base dflt : ℕ) (default : Code) (sc : BlockSpan) (x : Expr × Block) (xs : List (Expr × Block)) where
  pub bodies_below : k < index → bodies_from k index base dflt default sc (x ∷ xs) ≡ act (mark (base + k)) then (lower_block x.1 sc then bodies_from (k + 1) index base dflt default sc xs)
  unfolding bodies_from lower_stmt cases_of
  bodies_below h =
      let a : index - k ≡ suc (index - (k + 1)) = omega arith in
      let b : base + (k + 1) ≡ base + k + 1 = omega arith in
      rw (bodies_from, le-leb k index (omega arith), le-leb (k + 1) index (omega arith), a, b)

  pub bodies_at : k ≡ index → bodies_from k index base dflt default sc (x ∷ xs) ≡ act (mark dflt) then (default then (act (mark (base + k)) then (lower_block x.1 sc then bodies_from (k + 1) index base dflt default sc xs)))
  unfolding bodies_from lower_stmt cases_of
  bodies_at h =
      let a : index - k ≡ 0 = omega (arith, h) in
      let b : base + (k + 1) ≡ base + k + 1 = omega arith in
      rw (bodies_from, le-leb k index (omega (arith, h)), lt-leb (k + 1) index (omega (arith, h)), a, b)

  pub bodies_above : index < k → bodies_from k index base dflt default sc (x ∷ xs) ≡ act (mark (base + k)) then (lower_block x.1 sc then bodies_from (k + 1) index base dflt default sc xs)
  unfolding bodies_from lower_stmt cases_of
  bodies_above h =
      let b : base + (k + 1) ≡ base + k + 1 = omega arith in
      rw (bodies_from, lt-leb k index h, lt-leb (k + 1) index (omega arith), b)
