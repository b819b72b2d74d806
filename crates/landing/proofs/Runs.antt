-- What running a unit's code leaves.
use Prim.Native.Nat.{ℕ, ◌+◌, ◌<◌, ◌≤◌}
use mathlib.Core.Path.{◌≡◌, refl, sym, ◌∙◌, ap}
use mathlib.Core.List.{List, [], ◌∷◌, ◌++◌, append_assoc, append-nil}
use mathlib.Core.Bool.{Bool, true, false}
use native.Mathlib.Omega.{arith}
use native.Mathlib.Decide.{dec_lt}
use lib.Dec.{ltb}
use lib.ListN.{length, get_or, length-set, length-append, get_or-append}
use lib.Seq.{get_or-set_same, get_or-set_other}
use borrow.Author.Tests.{ltb-true}
use Rattle.definitions.specs.Answer.{made, onward, checked}
use Rattle.definitions.specs.Tree.{Script}
use Rattle.definitions.specs.Code.{Action, new, mark, emit, refuse, Code, done, act, ◌then◌, label, State, new_label, mark_label, emit_record, step, execute, start, unmarked, label_limit}
use Rattle.definitions.specs.Lower.{outside, code_of, lower}
use Rattle.laws.proofs.Inversion.{refusal_not_made}
use Rattle.laws.proofs.Results.{onward_made, onward_assoc, onward_same}
use Rattle.landing.specs.Distance.{size_of, distances_of}
use Rattle.landing.specs.Walk.{news, actions, actions_of, exec}
use Rattle.landing.proofs.Pieces.{records, total, dists, Agrees, Scoped, hit, count, below, Piece, hit_yes, below_yes, below_no}
use Rattle.landing.proofs.Counts.{count_block}
use Rattle.landing.proofs.Stmts.{land_block}

-- 1. A list of actions, run one after another

-- a label was made, so there was room for it, and the rest was run after it
had_room : (acts : List Action) (b : Bool) (t s' : State) (at : ℕ) → onward (checked b 15 at 0 (made t)) (exec acts) ≡ made s' → (exec acts t ≡ made s') × (b ≡ true)
unfolding onward checked
had_room acts true t s' at e = (e, refl)
had_room acts false t s' at e = refusal_not_made e

pub exec_new : (acts : List Action) (s s' : State) (at : ℕ) → exec (new at ∷ acts) s ≡ made s' → (exec acts (new_label s) ≡ made s') × (length s.marks < label_limit)
unfolding exec step
exec_new acts s s' at e =
    let r = had_room acts (ltb (length s.marks) label_limit) (new_label s) s' at e in
    (r.0, ltb-true (length s.marks) label_limit r.1)

-- one label more
pub longer : (s : State) → length (new_label s).marks ≡ length s.marks + 1
longer s = length-append s.marks (unmarked ∷ [])

pub exec_labels : (acts : List Action) (s s' : State) → exec acts s ≡ made s' → length s'.marks ≡ length s.marks + news acts
unfolding exec step onward news
exec_labels [] s s' e = let h : s'.marks ≡ s.marks = cc in rw h (omega arith)
exec_labels (new at ∷ acts) s s' e = omega (arith, exec_labels acts (new_label s) s' (exec_new acts s s' at e).0, longer s)
exec_labels (mark l ∷ acts) s s' e = omega (arith, exec_labels acts (mark_label l s) s' e, length-set s.marks l s.offset)
exec_labels (emit i ∷ acts) s s' e = exec_labels acts (emit_record i s) s' e
exec_labels (refuse n p x ∷ acts) s s' e = refusal_not_made e

-- the labels stay within their limit
pub exec_limit : (acts : List Action) (s s' : State) → exec acts s ≡ made s' → length s.marks ≤ label_limit → length s'.marks ≤ label_limit
unfolding exec step onward
exec_limit [] s s' e h = let m : s'.marks ≡ s.marks = cc in rw m h
exec_limit (new at ∷ acts) s s' e h = let r = exec_new acts s s' at e in exec_limit acts (new_label s) s' r.0 (omega (arith, r.1, longer s))
exec_limit (mark l ∷ acts) s s' e h = exec_limit acts (mark_label l s) s' e (omega (arith, length-set s.marks l s.offset))
exec_limit (emit i ∷ acts) s s' e h = exec_limit acts (emit_record i s) s' e h
exec_limit (refuse n p x ∷ acts) s s' e h = refusal_not_made e

-- the records and their size are those of the actions
pub exec_records : (acts : List Action) (s s' : State) → exec acts s ≡ made s' → s'.instrs ≡ s.instrs ++ records acts
unfolding exec step onward records
exec_records [] s s' e = let h : s'.instrs ≡ s.instrs = cc in h ∙ sym (append-nil s.instrs)
exec_records (new at ∷ acts) s s' e = exec_records acts (new_label s) s' (exec_new acts s s' at e).0
exec_records (mark l ∷ acts) s s' e = exec_records acts (mark_label l s) s' e
exec_records (emit i ∷ acts) s s' e = exec_records acts (emit_record i s) s' e ∙ append_assoc s.instrs (i ∷ []) (records acts)
exec_records (refuse n p x ∷ acts) s s' e = refusal_not_made e

pub exec_offset : (acts : List Action) (s s' : State) → exec acts s ≡ made s' → s'.offset ≡ s.offset + total acts
unfolding exec step onward total
exec_offset [] s s' e = let h : s'.offset ≡ s.offset = cc in rw h (omega arith)
exec_offset (new at ∷ acts) s s' e = exec_offset acts (new_label s) s' (exec_new acts s s' at e).0
exec_offset (mark l ∷ acts) s s' e = exec_offset acts (mark_label l s) s' e
exec_offset (emit i ∷ acts) s s' e = omega (arith, exec_offset acts (emit_record i s) s' e)
exec_offset (refuse n p x ∷ acts) s s' e = refusal_not_made e

-- a label that is there already and is not marked keeps its mark
keeps : (l d : ℕ) (acts : List Action) (s s' : State) → exec acts s ≡ made s' → l < length s.marks → count l acts ≡ 0 → get_or s'.marks l d ≡ get_or s.marks l d
unfolding exec step onward count
keeps l d [] s s' e h c = let m : s'.marks ≡ s.marks = cc in rw m
keeps l d (new at ∷ acts) s s' e h c =
    keeps l d acts (new_label s) s' (exec_new acts s s' at e).0 (omega (arith, longer s)) c ∙ get_or-append s.marks (unmarked ∷ []) d l h
keeps l d (mark k ∷ acts) s s' e h c =
    keeps l d acts (mark_label k s) s' e (omega (arith, length-set s.marks k s.offset)) (omega arith)
    ∙ get_or-set_other s.marks k l s.offset d (λ q. absurd (let z : hit k l ≡ 1 = rw q (hit_yes k) in omega arith))
keeps l d (emit i ∷ acts) s s' e h c = keeps l d acts (emit_record i s) s' e h c
keeps l d (refuse n p x ∷ acts) s s' e h c = refusal_not_made e

-- the final marks hold what each mark sets
pub exec_agrees : (d : ℕ) (acts : List Action) (s s' : State) → exec acts s ≡ made s' → ((l : ℕ) → count l acts ≤ 1) → Scoped (length s.marks) acts →
    Agrees (λ l. get_or s'.marks l d) s.offset acts
unfolding exec step onward count Scoped Agrees
exec_agrees d [] s s' e once sc = tt
exec_agrees d (new at ∷ acts) s s' e once sc = exec_agrees d acts (new_label s) s' (exec_new acts s s' at e).0 once (rw (longer s) sc)
exec_agrees d (mark l ∷ acts) s s' e once sc =
    let same = length-set s.marks l s.offset in (
      keeps l d acts (mark_label l s) s' e (omega (arith, same, sc.0)) (omega (arith, once l, hit_yes l)) ∙ get_or-set_same s.marks l s.offset d sc.0,
      exec_agrees d acts (mark_label l s) s' e (λ k. omega (arith, once k)) (rw same sc.1),
    )
exec_agrees d (emit i ∷ acts) s s' e once sc = exec_agrees d acts (emit_record i s) s' e once sc
exec_agrees d (refuse n p x ∷ acts) s s' e once sc = refusal_not_made e

-- 2. Running a piece is running its actions

exec_append : (a b : List Action) (s : State) → exec (a ++ b) s ≡ onward (exec a s) (exec b)
unfolding exec onward
exec_append [] b s = refl
exec_append (x ∷ a) b s = onward_same (step x s) _ _ (λ t e. exec_append a b t) ∙ sym (onward_assoc (step x s) (exec a) (exec b))

made_one : (at : ℕ) (s t : State) → step (new at) s ≡ made t → length t.marks ≡ length s.marks + 1
unfolding exec news
made_one at s t e = exec_labels (new at ∷ []) s t (onward_made (step (new at) s) ∙ e)

pub execute_actions : (p : Code) (s : State) → execute p s ≡ exec (actions p (length s.marks)) s
unfolding execute exec actions
execute_actions done s = refl
execute_actions (act a) s = sym (onward_made (step a s))
execute_actions (p then q) s =
    let P = actions p (length s.marks) in
    rw (exec_append P (actions q (length s.marks + news P)) s, ← execute_actions p s)
    (onward_same (execute p s) _ _ (λ t e. execute_actions q t ∙ ap (λ n. exec (actions q n) t) (exec_labels P s t (sym (execute_actions p s) ∙ e))))
execute_actions (label at k) s =
    onward_same (step (new at) s) _ _ (λ t e. execute_actions (k (length s.marks)) t ∙ ap (λ n. exec (actions (k (length s.marks)) n) t) (made_one at s t e))

-- 3. A unit

pub below_small : (n l : ℕ) → below n l ≤ 1
below_small n l = elim (dec_lt l n) [ yes h ↦ omega (arith, below_yes n l h) | no h ↦ omega (arith, below_no n l (omega arith)) ]

-- its block, in no loop
pub whole : (M : ℕ → ℕ) (u : Script) →
    Piece M 0 0 (code_of u) (size_of u) (count_block u.body u.returns) [] [] Unit ((0 + size_of u + 0 ≡ 0 + size_of u + 0) × (◌≡◌ {A = ℕ} (0 + 0) 0)) Unit (0 + size_of u ≤ size_of u) (distances_of u)
whole M u = land_block u.body (outside u.returns) (0 + size_of u + 0) 0 (size_of u) 0 0 (record { break_target = tt; continue_target = tt; limit = tt })

-- the mark of each label
abbrev pub mark_of : State → ℕ → ℕ
mark_of t l = get_or t.marks l unmarked

module _ (u : Script) (t : State) (e : lower u ≡ made t) where
  pub ran : exec (actions_of u) start ≡ made t
  ran = sym (execute_actions (code_of u) start) ∙ e

  pub labels_made : length t.marks ≡ 0 + news (actions_of u)
  labels_made = exec_labels (actions_of u) start t ran

  pub labels_limit : length t.marks ≤ label_limit
  unfolding label_limit
  labels_limit = exec_limit (actions_of u) start t ran (omega arith)

  pub listing : t.instrs ≡ records (actions_of u)
  listing = exec_records (actions_of u) start t ran

  pub offset : t.offset ≡ 0 + total (actions_of u)
  offset = exec_offset (actions_of u) start t ran

  pub agrees : Agrees (mark_of t) 0 (actions_of u)
  agrees =
      let w = whole (mark_of t) u in
      exec_agrees unmarked (actions_of u) start t ran (λ l. omega (arith, w.once l, below_small (0 + news (actions_of u)) l)) (w.scoped tt)

-- its distances are the tree's
pub lands_as : (M : ℕ → ℕ) (u : Script) → Agrees M 0 (actions_of u) → dists M 0 (actions_of u) ≡ distances_of u
lands_as M u a = (whole M u).lands a (refl, refl)
