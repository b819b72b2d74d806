-- NO SUM OF A WALK PASSES THE TREE'S, whatever it refuses later: counters of 32 bits never wrap. Assumes nothing.
use Prim.Native.Nat.{ℕ, ◌≤◌}
use mathlib.Core.Path.{◌≡◌, ap}
use mathlib.Core.List.{List}
use native.Mathlib.Omega.{arith}
use lib.ListN.{length, take, drop, take-append-drop}
use Rattle.definitions.specs.Answer.{ok, made}
use Rattle.definitions.specs.Tree.{Script}
use Rattle.definitions.specs.Read.{parse_unit}
use Rattle.definitions.specs.Code.{Action, State, start, label_limit}
use Rattle.landing.specs.Walk.{actions_of, exec, Sums}
use Rattle.landing.proofs.Pieces.{records, total, total_append, records_append}
use Rattle.landing.proofs.Runs.{exec_limit, exec_records, exec_offset, whole}
use Rattle.landing.proofs.Paid.{unit_paid}

-- the first actions emit no more than all
first_actions : (k : ℕ) (acts : List Action) → (total (take k acts) ≤ total acts) × (length (records (take k acts)) ≤ length (records acts))
first_actions k acts =
    let a = take k acts in
    let b = drop k acts in
    let e = take-append-drop k acts in
    omega (arith, total_append a b, ap total e, records_append a b, ap (λ c. length (records c)) e)

-- of every unit that is read: after any number of its actions, as long as none has refused
pub sums : (s : List ℕ) (u : Script) (next : ℕ) → parse_unit s ≡ ok u next → (k : ℕ) (t : State) → exec (take k (actions_of u)) start ≡ made t → Sums s u t
unfolding label_limit
sums s u next read k t e =
    let acts = take k (actions_of u) in
    let first = first_actions k (actions_of u) in
    let most = (whole (λ l. l) u).most in
    let paid = unit_paid s u next read in
    let offset = exec_offset acts start t e in
    let count = ap length (exec_records acts start t e) in
    record {
      offset = omega arith;
      bytes = omega arith;
      count = omega arith;
      records = omega arith;
      labels = exec_limit acts start t e (omega arith);
      no_wrap = omega arith;
    }
