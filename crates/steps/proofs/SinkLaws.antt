-- Sinks: what code does to one is what it does to another that it is carried to, and so to any what it does to one that notes. Assumes nothing.
use Rattle.std.proofs.Common.{◌≡◌, ℕ, ◌+◌, Bool, true, false, ltb, List, [], ◌∷◌, set, sym, refl, ap, ◌∙◌}
use Rattle.std.specs.Prelude as std
use Rattle.definitions.specs.Instr.{Instr}
use Rattle.definitions.specs.Code.{Code, done, ◌then◌, label, Action, mark, new, emit, refuse, act, unmarked, label_limit}
use Rattle.definitions.specs.Answer.{Result, made as value, onward, checked}
use Rattle.laws.proofs.Results.{onward_assoc, onward_same}
use Rattle.steps.specs.Running.{Sinks, Cells, cut, move, run, Note, noted}
use Rattle.steps.specs.Walked.{ran, Ran, Walk}

-- cells with another sink
abbrev pub map_cells : {S T : Type 0} → (S → T) → Cells S → Cells T
map_cells h c = record { offset = c.offset; labels = c.labels; count = c.count; sink = h c.sink; marks = c.marks }

abbrev pub carried : {S T : Type 0} → (S → T) → Cells S → Result (Cells T)
carried h c = value (map_cells h c)

-- h carries what K makes of a sink to what L makes of it
abbrev pub Carries : {S T : Type 0} → (K : Sinks S) (L : Sinks T) (h : S → T) → Type 0
Carries {S} K L h = (s : S) (x n : ℕ) (i : Instr) → h (K s x n i) ≡ L (h s) x n i

module _ {S T : Type 0} (K : Sinks S) (L : Sinks T) (h : S → T) (e : Carries K L h) where
  natural_new : (at : ℕ) (c : Cells S) → move L (new at) (map_cells h c) ≡ onward (move K (new at) c) (carried h)
  unfolding move checked onward
  natural_new at c = go (ltb c.labels label_limit)
    where
      go : (b : Bool) → checked b 15 at 0 (value (map_cells h (record { offset = c.offset; labels = c.labels + 1; count = c.count; sink = c.sink; marks = set c.marks c.labels unmarked }))) ≡
          onward (checked b 15 at 0 (value (record { offset = c.offset; labels = c.labels + 1; count = c.count; sink = c.sink; marks = set c.marks c.labels unmarked }))) (carried h)
      go true = refl
      go false = refl

  natural_move : (a : Action) (c : Cells S) → move L a (map_cells h c) ≡ onward (move K a c) (carried h)
  unfolding move onward
  natural_move (new at) c = natural_new at c
  natural_move (mark l) c = refl
  natural_move (emit i) c = rw (e c.sink c.offset c.count (cut i))
  natural_move (refuse n p x) c = refl

  onward_natural : {x : Result (Cells T)} (y : Result (Cells S)) (f : Cells T → Result (Cells T)) (g : Cells S → Result (Cells S)) → x ≡ onward y (carried h) → ((c : Cells S) → f (map_cells h c) ≡ onward (g c) (carried h)) →
      onward x f ≡ onward (onward y g) (carried h)
  unfolding onward
  onward_natural y f g z k = ap (λ r. onward r f) z ∙ onward_assoc y (carried h) f ∙ onward_same y (λ c. f (map_cells h c)) (λ c. onward (g c) (carried h)) (λ c _. k c) ∙ sym (onward_assoc y g (carried h))

  pub natural : (p : Code) (c : Cells S) → run L p (map_cells h c) ≡ onward (run K p c) (carried h)
  unfolding run onward
  natural done c = refl
  natural (act a) c = natural_move a c
  natural (p then q) c = onward_natural (run K p c) (run L q) (run K q) (natural p c) (λ d. natural q d)
  natural (label at k) c = onward_natural (move K (new at) c) (run L (k c.labels)) (run K (k c.labels)) (natural_move (new at) c) (λ d. natural (k c.labels) d)

-- a sink that is given all these
unfoldable pub pour : {S : Type 0} → Sinks S → S → List Note → S
pour K s [] = s
pour K s (x ∷ xs) = pour K (K s x.offset x.number x.instr) xs

pub pour_noted : {S : Type 0} (K : Sinks S) (s : S) → Carries noted K (pour K s)
unfolding noted pour
pour_noted K s [] x n i = refl
pour_noted K s (y ∷ t) x n i = pour_noted K (K s y.offset y.number y.instr) t x n i

pub from_notes : {S : Type 0} (K : Sinks S) (s : S) (p : Code) (c : Cells (List Note)) → run K p (map_cells (pour K s) c) ≡ onward (run noted p c) (carried (pour K s))
from_notes K s p c = natural noted K (pour K s) (pour_noted K s) p c

ran_carried : {S T : Type 0} (h : S → T) (w : Walk) (o : S) (m : List ℕ) → ran w (h o) m ≡ onward (ran w o m) (carried h)
unfolding ran onward
ran_carried h (std.Ok c) o m = refl
ran_carried h (std.Err q) o m = refl

-- CODE THAT MAKES NO RECORD for a sink that notes makes none for any
pub anywhere : {S : Type 0} {K : Sinks S} {code : Code} {w r : Walk} {o : S} {m m' : List ℕ} → Ran noted code w [] m r [] m' → Ran K code w o m r o m'
unfolding pour
anywhere {K = K} {code = code} {w = w} {r = r} {o = o} {m = m} {m' = m'} d =
    let h : List Note → _ = pour K o in
    record {
      same = ran_carried h r [] m' ∙ ap (λ x. onward x (carried h)) d.same
          ∙ sym (onward_natural noted K h (pour_noted K o) (ran w [] m) (run K code) (run noted code) (ran_carried h w [] m) (from_notes K o code));
      marked = d.marked;
    }
