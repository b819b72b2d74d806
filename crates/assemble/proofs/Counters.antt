-- No counter of the walk wraps: after every action of a unit that is read, each is the definition's sum. Assumes nothing.
use Prim.Native.Nat.{ℕ, ◌+◌}
use mathlib.Core.Path.{◌≡◌, refl, sym, ap, ◌∙◌}
use mathlib.Core.Bool.{Bool, true, false}
use mathlib.Core.List.{List, [], ◌∷◌, ◌++◌}
use native.Mathlib.Omega.{arith}
use lib.Dec.{ltb}
use lib.ListN.{length, take}
use Rattle.definitions.specs.Answer.{Result, made, onward, checked, ok}
use Rattle.definitions.specs.Tree.{Script}
use Rattle.definitions.specs.Read.{parse_unit}
use Rattle.definitions.specs.Code.{Action, new, mark, emit, refuse, Code, done, act, ◌then◌, label, State, label_limit, start, step}
use Rattle.landing.specs.Walk.{news, actions, actions_of, exec}
use Rattle.landing.proofs.Sums.{sums}
use Rattle.laws.proofs.Inversion.{impossible, refusal_not_made}
use Rattle.laws.proofs.Results.{made_is, onward_made, onward_assoc, onward_same, onward_is}
use Rattle.steps.specs.Running.{Sinks, Cells, move, run}
use Rattle.assemble.specs.Whole.{zeros}
use Rattle.assemble.specs.Moves.{moves, Unwrapped}
use Rattle.assemble.proofs.WholeLaws.{Agrees, both_go, both_stop, Counts, step_agrees, then_agrees, small_mod, zero_counts}

-- 1. Running a piece is running its actions

move_labels : {S : Type 0} (K : Sinks S) (a : Action) (c d : Cells S) → move K a c ≡ made d → d.labels ≡ c.labels + news (a ∷ [])
unfolding move checked news
move_labels K (new at) c d e = go (ltb c.labels label_limit) refl
  where
    go : (b : Bool) → ltb c.labels label_limit ≡ b → d.labels ≡ c.labels + 1
    go true f = rw (← (made_is (rw (move, f, checked) at e)))
    go false f = refusal_not_made (rw (move, f, checked) at e)
move_labels K (mark l) c d e = rw (← (made_is e)) (omega arith)
move_labels K (emit i) c d e = rw (← (made_is e)) (omega arith)
move_labels K (refuse n p x) c d e = refusal_not_made e

news_first : (a : Action) (acts : List Action) → news (a ∷ acts) ≡ news (a ∷ []) + news acts
unfolding news
news_first (new at) acts = omega arith
news_first (mark l) acts = omega arith
news_first (emit i) acts = omega arith
news_first (refuse n p x) acts = omega arith

moves_labels : {S : Type 0} (K : Sinks S) (acts : List Action) (c d : Cells S) → moves K acts c ≡ made d → d.labels ≡ c.labels + news acts
unfolding moves news
moves_labels K [] c d e = rw (← (made_is e)) (omega arith)
moves_labels K (a ∷ acts) c d e = let k = onward_is (move K a c) (moves K acts) e in omega (arith, move_labels K a c k.0 k.1, moves_labels K acts k.0 d k.2, news_first a acts)

moves_append : {S : Type 0} (K : Sinks S) (a b : List Action) (c : Cells S) → moves K (a ++ b) c ≡ onward (moves K a c) (moves K b)
unfolding moves onward
moves_append K [] b c = refl
moves_append K (x ∷ a) b c = onward_same (move K x c) _ _ (λ d e. moves_append K a b d) ∙ sym (onward_assoc (move K x c) (moves K a) (moves K b))

pub run_moves : {S : Type 0} (K : Sinks S) (p : Code) (c : Cells S) → run K p c ≡ moves K (actions p c.labels) c
unfolding run moves actions news
run_moves K done c = refl
run_moves K (act a) c = sym (onward_made (move K a c))
run_moves K (p then q) c =
    let P = actions p c.labels in
    rw (moves_append K P (actions q (c.labels + news P)) c, ← run_moves K p c)
    (onward_same (run K p c) _ _ (λ d e. run_moves K q d ∙ ap (λ n. moves K (actions q n) d) (moves_labels K P c d (sym (run_moves K p c) ∙ e))))
run_moves K (label at k) c =
    onward_same (move K (new at) c) _ _ (λ d e. run_moves K (k c.labels) d ∙ ap (λ n. moves K (actions (k c.labels) n) d) (move_labels K (new at) c d e))

-- 2. Every action of a unit

moves_agree : {S : Type 0} (K : Sinks S) (acts : List Action) (c : Cells S) (t : State) → Counts c t → Agrees (moves K acts c) (exec acts t)
unfolding moves exec
moves_agree K [] c t k = both_go c t k
moves_agree K (a ∷ acts) c t k = then_agrees (move K a c) (step a t) (moves K acts) (exec acts) (step_agrees K a c t k) (λ d u j. moves_agree K acts d u j)

-- AFTER EVERY ACTION, ON ANY BUFFERS: the counters are the definition's sums, of which none reaches 2 ^ 32
pub unwrapped : {S : Type 0} (K : Sinks S) (s : List ℕ) (u : Script) (next : ℕ) → parse_unit s ≡ ok u next → (o : S) (m : List ℕ) (k : ℕ) (c : Cells S) →
    moves K (take k (actions_of u)) (zeros o m) ≡ made c → Unwrapped s u (take k (actions_of u)) c
unwrapped {S} K s u next read o m k c e = go (moves K acts (zeros o m)) (exec acts start) refl (moves_agree K acts (zeros o m) start (zero_counts o m)) e
  where
    acts : List Action
    acts = take k (actions_of u)

    go : (x : Result (Cells S)) (y : Result State) → exec acts start ≡ y → Agrees x y → x ≡ made c → Unwrapped s u acts c
    go x y q (both_stop n p z) f = impossible (cc)
    go x y q (both_go d t j) f =
        let b = sums s u next read k t q in
        rw (← (made_is f)) (record {
          state = t;
          walks_to = q;
          sums = b;
          offset = small_mod d.offset t.offset j.offset b.no_wrap.0;
          count = small_mod d.count (length t.instrs) j.count b.no_wrap.1;
          labels = j.labels;
        })
