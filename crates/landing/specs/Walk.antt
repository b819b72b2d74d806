-- What holds along the walk of a unit that is read: after any number of its actions, as long as none has refused.
use Rattle.std.specs.Prelude.{ℕ, suc, ◌+◌, ◌*◌, ◌^◌, ◌≤◌, ◌<◌, List, [], ◌∷◌, ◌++◌, length, get_or}
use Rattle.definitions.specs.Answer.{Result, made, onward}
use Rattle.definitions.specs.Tree.{Script}
use Rattle.definitions.specs.Code.{Action, new, mark, emit, refuse, Code, done, act, ◌then◌, label, State, label_limit, step}
use Rattle.definitions.specs.Lower.{code_of}
use Rattle.definitions.specs.Listing.{record_limit}
use Rattle.landing.specs.Distance.{size_of}

-- 1. Code as a list of actions

-- how many labels a list of actions makes
unfoldable pub news : List Action → ℕ
news [] = 0
news (new at ∷ acts) = suc (news acts)
news (mark l ∷ acts) = news acts
news (emit i ∷ acts) = news acts
news (refuse n p x ∷ acts) = news acts

-- the actions of a piece, given how many labels there are before it
unfoldable pub actions : Code → (labels : ℕ) → List Action
actions done n = []
actions (act a) n = a ∷ []
actions (p then q) n = let acts = actions p n in acts ++ actions q (n + news acts)
actions (label at k) n = new at ∷ actions (k n) (n + 1)

abbrev pub actions_of : Script → List Action
actions_of u = actions (code_of u) 0

-- run one after another
unfoldable pub exec : List Action → State → Result State
exec [] s = made s
exec (a ∷ acts) s = onward (step a s) (exec acts)

-- 2. What has been emitted and made, of the unit `s` that was read as `u`
pub record Sums (s : List ℕ) (u : Script) (t : State) : Type 0 where
  -- no more than the tree has
  pub offset : t.offset ≤ size_of u
  pub bytes : t.offset ≤ 8 * length s
  pub count : length t.instrs ≤ length s
  -- no more than a listing may hold, and a label table
  pub records : length t.instrs ≤ record_limit
  pub labels : length t.marks ≤ label_limit
  -- so that no counter of 32 bits wraps
  pub no_wrap : (t.offset < 2 ^ 32) × (length t.instrs < 2 ^ 32)

-- 3. A list of bytes
abbrev pub Bytes : List ℕ → Type 0
Bytes s = (k : ℕ) → get_or s k 0 < 256
