-- What the contracts of the walk cite: the code of what the bytes hold, and what a walk's value, its sink and its marks say together.
use Rattle.std.specs.Prelude.{◌≡◌, ℕ, zero, suc, ◌+◌, ◌≤◌, ◌<◌, ◌%◌, ◌^◌, Bool, true, false, cond, ◌&&◌, ◌||◌, List, [], ◌∷◌, length, get_or, ◌==◌, ◌≢◌, nat_lt, slice_index, slice_index_or}
use Rattle.std.proofs.Math.Option.{Option, none, some}
use Rattle.definitions.specs.Answer.{Answer, ok, refused, Result, made, refusal, onward}
use Rattle.definitions.specs.Bytes.{number}
use Rattle.definitions.specs.Tree.{Callee, Expr, Block, Default, absent, exprs_of, block_of, cases_of, length_cases}
use Rattle.definitions.specs.Read.{parse_expr, parse_stmt, arm, filling, block_if}
use Rattle.definitions.specs.Read as read
use Rattle.definitions.specs.Instr.{Instr, plain}
use Rattle.definitions.specs.Code.{Code, new, mark, emit, act, emits, ◌then◌, done, label, many}
use Rattle.definitions.specs.Tag.{Nop, New, Construct, DynamicCast, SwitchDefault, Jump, Assign, ArrayElement, Local, U64Const, const_tag, const_widths, intrinsic_of}
use Rattle.definitions.specs.Lower.{BlockSpan, lower_expr, lower_exprs, lower_args, lower_stmt, lower_block, lower_default, lower_last, lower_cases, lower_matchers, lower_bodies, emit_call, mid_default, require, instr, jump, nops, null_tag, element_tag, local_tag}
use Rattle.instr.specs.Refusals.{number_of}
use Rattle.ir.specs.Class.{TreeOf, node_of}
use Rattle.ir.specs.Places.{end_of}
use Rattle.ir.specs.declared.Class.{Class}
use Rattle.ir.specs.declared.Class.TheVariants.{Statement, Expression}
use Rattle.steps.specs.Running.{Sinks, Cells, cut, run, noted}
use Rattle.std.specs.Prelude as std
use Rattle.instr.specs.declared.records.Record.{Record}
use Rattle.instr.specs.declared.refusals.Refusal.{Refusal}
use Rattle.instr.specs.Values as Values
use Rattle.steps.specs.declared
use Rattle.steps.specs.declared.counters.Counters.{Counters}

-- 1. The code of what the bytes hold

-- the answer is a value
abbrev pub Accepted : {A : Type 0} → Answer A → Type 0
Accepted {A} x = (a : A) × (n : ℕ) × (x ≡ ok a n)

-- the answer is a value, which ends there
abbrev pub Ended : {A : Type 0} → Answer A → (end : ℕ) → Type 0
Ended {A} x end = (a : A) × (x ≡ ok a end)

-- the code of what was read, and none of a refusal
unfoldable pub code_of : {A : Type 0} → (A → Code) → Answer A → Code
code_of f (ok a n) = f a
code_of f (refused n p x) = done

-- the list that was read
unfoldable pub list_of : {A : Type 0} → Answer (List A) → List A
list_of (ok a n) = a
list_of (refused n p x) = []

abbrev pub expr_code : (depth : ℕ) (s : List ℕ) (end at : ℕ) → Code
expr_code d s end at = code_of lower_expr (parse_expr d s end at)

abbrev pub stmt_code : (depth : ℕ) (s : List ℕ) (end at : ℕ) (span : BlockSpan) → Code
stmt_code d s end at span = code_of (λ t. lower_stmt t span) (parse_stmt d s end at)

-- a node of a class
abbrev pub lower_of : (class : Class) → BlockSpan → TreeOf class → Code
lower_of Statement span t = lower_stmt t span
lower_of Expression span e = lower_expr e

abbrev pub node_code : (class : Class) (depth : ℕ) (s : List ℕ) (end at : ℕ) (span : BlockSpan) → Code
node_code class d s end at span = code_of (lower_of class span) (node_of class d s end at)

-- nodes of a class, one after the other
abbrev pub lower_all : (class : Class) → BlockSpan → List (TreeOf class) → Code
lower_all Statement span xs = lower_block (block_of xs) span
lower_all Expression span xs = lower_exprs (exprs_of xs)

abbrev pub fill_code : (class : Class) (depth : ℕ) (s : List ℕ) (end at : ℕ) (span : BlockSpan) → Code
fill_code class d s end at span = code_of (lower_all class span) (filling (node_of class d s) end at)

abbrev pub exprs_from : (depth : ℕ) (s : List ℕ) (end at : ℕ) → Answer (List Expr)
exprs_from d s end at = filling (parse_expr d s) end at

abbrev pub arms_from : (depth : ℕ) (s : List ℕ) (end at : ℕ) → Answer (List (Expr × Block))
arms_from d s end at = filling (arm s (parse_expr d s) (parse_stmt d s)) end at

abbrev pub arm_code : (Expr → Block → Code) → (depth : ℕ) (s : List ℕ) (end at : ℕ) → Code
arm_code f d s end at = code_of (λ x. f x.0 x.1) (arm s (parse_expr d s) (parse_stmt d s) end at)

-- the default that a mark says is there
abbrev pub default_from : (there depth : ℕ) (s : List ℕ) (end at : ℕ) → Answer Default
default_from there d s end at = block_if there (read.run s end (parse_stmt d s)) at

-- where there is one, it ends the node
abbrev pub DefaultHere : (there depth : ℕ) (s : List ℕ) (end at : ℕ) → Type 0
DefaultHere there d s end at = (there ≢ 0) → Ended (default_from there d s end at) end

-- 2. Calls

-- n marks, one a byte
unfoldable pub marks_from : (s : List ℕ) (at n : ℕ) → List ℕ
marks_from s at zero = []
marks_from s at (suc n) = slice_index s at ∷ marks_from s (at + 1) n

-- a function, whose fields begin at p
unfoldable pub callee_at : (s : List ℕ) (p : ℕ) → Callee
callee_at s p = record {
  function = number 4 s p;
  name = number 4 s (p + 4);
  line = number 2 s (p + 8);
  flags = slice_index s (p + 10);
  params = marks_from s (p + 12) (slice_index s (p + 11));
}

-- where its arguments begin
abbrev pub args_at : (s : List ℕ) (p : ℕ) → ℕ
args_at s p = p + 16 + slice_index s (p + 11)

-- its arguments are read
pub record Called (d : ℕ) (s : List ℕ) (stop p : ℕ) : Type 0 where
  pub args : List Expr
  pub reads : exprs_from d s stop (args_at s p) ≡ ok args stop
  pub fits : args_at s p ≤ stop
  pub enough : length args ≤ slice_index s (p + 11)

abbrev pub args_code : (depth : ℕ) (s : List ℕ) (end at node : ℕ) (params : List ℕ) → Code
args_code d s end at node ps = code_of (λ xs. lower_args (exprs_of xs) node ps) (exprs_from d s end at)

abbrev pub call_code : (depth : ℕ) (s : List ℕ) (end p node : ℕ) → Code
call_code d s end p node =
    code_of (λ xs. emit_call node (callee_at s p) (exprs_of xs) (lower_args (exprs_of xs) node (callee_at s p).params)) (exprs_from d s end (args_at s p))

-- 3. What the declared types stand for

unfoldable pub target_of : std.Option ℕ → Option ℕ
target_of std.None = none
target_of (std.Some l) = some l

unfoldable pub span_of : declared.spans.BlockSpan.BlockSpan → BlockSpan
span_of u = record { break_target = target_of u.break_target; continue_target = target_of u.continue_target; returns = u.returns }

abbrev pub instr_of : declared.records.Op.Op → Instr
instr_of o = record { tag = o.tag; small = o.small; first = o.first; second = o.second; line = o.line; flags = o.flags; value = o.value; node = o.node }

-- the record with each field cut to its width
abbrev pub Cuts : declared.records.Op.Op → Record → Type 0
Cuts o r = Values.instr_of r ≡ cut (instr_of o)

-- where the walk stands: at its counters, or stopped by a refusal, which stays
abbrev pub Walk : Type 0
Walk = std.Result Counters Refusal

-- where it stands after a step that answers r and leaves the counters c
abbrev pub after : {A : Type 0} → std.Result A Refusal → Counters → Walk
after (std.Ok a) c = std.Ok c
after (std.Err q) c = std.Err q

unfoldable pub ran : {S : Type 0} → Walk → (sink : S) (marks : List ℕ) → Result (Cells S)
ran (std.Ok c) o m = made (record { offset = c.offset; labels = c.labels; count = c.count; sink = o; marks = m })
ran (std.Err q) o m = refusal (number_of q.reason) q.place q.extra

-- the labels of a walk; none of one that stopped
unfoldable pub labels_of : Walk → ℕ
labels_of (std.Ok c) = c.labels
labels_of (std.Err q) = 0

-- 4. What a step did

-- the code, run from w, the sink o and the marks m, gives r, the sink o' and the marks m'; a sink is what K makes of it
pub record Ran {S : Type 0} (K : Sinks S) (code : Code) (w : Walk) (o : S) (m : List ℕ) (r : Walk) (o' : S) (m' : List ℕ) : Type 0 where
  pub same : ran r o' m' ≡ onward (ran w o m) (run K code)
  pub marked : length m' ≡ length m

-- from the counters c, it answers r and leaves the counters c', the sink and the marks
abbrev pub Did : {S A : Type 0} → (K : Sinks S) (code : Code) (c : Counters) (o : S) (m : List ℕ) (r : std.Result A Refusal) (c' : Counters) (o' : S) (m' : List ℕ) → Type 0
Did K code c o m r c' o' m' = Ran K code (std.Ok c) o m (after r c') o' m'

-- whatever the marks: it leaves the counters and the sink, and is never refused; or it may be
pub record EmittedFrom {S : Type 0} (K : Sinks S) (code : Code) (w : Walk) (o : S) (r : Walk) (o' : S) : Type 0 where
  pub did : (m : List ℕ) → Ran K code w o m r o' m

abbrev pub Emitted : {S : Type 0} → (K : Sinks S) (code : Code) (c : Counters) (o : S) (c' : Counters) (o' : S) → Type 0
Emitted K code c o c' o' = EmittedFrom K code (std.Ok c) o (std.Ok c') o'

abbrev pub Emits : {S A : Type 0} → (K : Sinks S) (code : Code) (c : Counters) (o : S) (r : std.Result A Refusal) (c' : Counters) (o' : S) → Type 0
Emits K code c o r c' o' = EmittedFrom K code (std.Ok c) o (after r c') o'

-- no record: the marks
pub record LabelledFrom (code : Code) (w : Walk) (m : List ℕ) (r : Walk) (m' : List ℕ) : Type 0 where
  pub did : Ran noted code w [] m r [] m'

abbrev pub Labelled : {A : Type 0} → (code : Code) (c : Counters) (m : List ℕ) (r : std.Result A Refusal) (c' : Counters) (m' : List ℕ) → Type 0
Labelled code c m r c' m' = LabelledFrom code (std.Ok c) m (after r c') m'

-- a new label, by its number, which is below the limit
pub record Made (at : ℕ) (c : Counters) (m : List ℕ) (r : std.Result ℕ Refusal) (c' : Counters) (m' : List ℕ) : Type 0 where
  pub did : Labelled (act (new at)) c m r c' m'
  pub number : std.IfOk r (λ l. l ≡ c.labels)
  pub few : std.IfOk r (λ l. l < 65536)

-- no record, and whatever the marks: nothing
pub record LeftFrom (code : Code) (w r : Walk) : Type 0 where
  pub did : (m : List ℕ) → Ran noted code w [] m r [] m

abbrev pub Left : {A : Type 0} → (code : Code) (r : std.Result A Refusal) → Type 0
Left code r = (c : Counters) → LeftFrom code (std.Ok c) (after r c)

-- what a check answers: nothing, or the refusal
unfoldable pub checked_as : {E : Type 0} → Bool → E → std.Result (Unit {0}) E
checked_as true q = std.Ok tt
checked_as false q = std.Err q

-- a jump of the node at `at` to a target; where there is none, the refusal, and nothing else
unfoldable pub JumpsTo : {S E : Type 0} (K : Sinks S) (at : ℕ) (target : std.Option ℕ) (q : E) (c : Counters) (o : S) (r : std.Result (Unit {0}) E) (c' : Counters) (o' : S) → Type 0
JumpsTo K at std.None q c o r c' o' = (r ≡ std.Err q) × (c' ≡ c) × (o' ≡ o)
JumpsTo K at (std.Some l) q c o r c' o' = (r ≡ std.Ok tt) × Emitted K (jump at Jump l) c o c' o'

-- 5. Switches

-- a case's block, where it ends its group
unfoldable pub ending : (ends : Bool) (body : ℕ) → Code → Code
ending ends body block_of = cond ends (act (mark body) then block_of) done

-- the default that is there
unfoldable pub default_answer : Answer Default → Default
default_answer (ok d n) = d
default_answer (refused n p x) = absent

abbrev pub default_of : (there depth : ℕ) (s : List ℕ) (end at : ℕ) → Default
default_of there d s end at = default_answer (default_from there d s end at)

-- a switch whose default stands before case `index`
unfoldable pub mid_code : List (Expr × Block) → (at first index : ℕ) → Default → BlockSpan → Code
mid_code cs at first index d span =
    label at λ body. many at (length_cases (cases_of cs))
    (lower_matchers (cases_of cs) at first body then instr at SwitchDefault 0 then jump at Jump (body + length_cases (cases_of cs)) then
    lower_bodies (cases_of cs) index body (body + length_cases (cases_of cs)) (lower_default d span) span)

-- the cases of a switch, where what follows its value stands at p
abbrev pub cases_from : (depth : ℕ) (s : List ℕ) (p : ℕ) → Answer (List (Expr × Block))
cases_from d s p = arms_from d s (end_of s (p + 5)) (p + 9)

-- they are read, and the default where there is one, which ends the node
pub record Cased (there d : ℕ) (s : List ℕ) (stop p : ℕ) : Type 0 where
  pub cases : Accepted (cases_from d s p)
  pub default : DefaultHere there d s stop (end_of s (p + 5))
  pub head : p + 9 ≤ end_of s (p + 5)
  pub tail : end_of s (p + 5) ≤ stop

-- the cases and the default
unfoldable pub inside_code : (depth : ℕ) (s : List ℕ) (stop p site first : ℕ) → BlockSpan → Code
inside_code d s stop p site first span =
    let default = default_of (slice_index s (p + 4)) d s stop (end_of s (p + 5)) in
    code_of (λ cs. cond (mid_default default (number 4 s p) (cases_of cs)) (mid_code cs site first (number 4 s p) default span)
    (lower_cases (cases_of cs) site first none span then lower_last default site span)) (cases_from d s p)

-- the body label of the group that is open, or the next
unfoldable pub group_label : std.Option ℕ → Walk → ℕ
group_label std.None w = labels_of w
group_label (std.Some l) w = l

unfoldable pub open_code : std.Option ℕ → (at : ℕ) → Code
open_code std.None at = act (new at)
open_code (std.Some l) at = done

-- it is made where no group is open
pub record Opened (group : std.Option ℕ) (at : ℕ) (c : Counters) (m : List ℕ) (r : std.Result ℕ Refusal) (c' : Counters) (m' : List ℕ) : Type 0 where
  pub did : Labelled (open_code group at) c m r c' m'
  pub number : std.IfOk r (λ l. l ≡ group_label group (std.Ok c))

-- 6. Leaves

unfoldable pub const_code : (s : List ℕ) (at : ℕ) → Code
const_code s at =
    let b = get_or s (at + 5) 0 in
    let v = number (slice_index const_widths b) s (at + 6) in
    instr at (const_tag b v) v

unfoldable pub element_code : (at local type i : ℕ) → Code
element_code at l t i = emits (plain at Assign 0 0 ∷ plain at ArrayElement 0 t ∷ plain at Local 0 l ∷ plain at U64Const 0 i ∷ [])

-- a Nop for each of n parameters, whatever their marks
abbrev pub NopsFrom : {S : Type 0} → (K : Sinks S) (at n : ℕ) (w : Walk) (o : S) (r : Walk) (o' : S) → Type 0
NopsFrom K at n w o r o' = (ps : List ℕ) → length ps ≡ n → EmittedFrom K (nops at ps) w o r o'

abbrev pub Nops : {S : Type 0} → (K : Sinks S) (at n : ℕ) (c : Counters) (o : S) (c' : Counters) (o' : S) → Type 0
Nops K at n c o c' o' = NopsFrom K at n (std.Ok c) o (std.Ok c') o'

-- a mark, where it is to be made
unfoldable pub mark_if : (here l : ℕ) → Code
mark_if zero l = done
mark_if (suc h) l = act (mark l)

abbrev pub MarksIf : (here l : ℕ) (c : Counters) (m m' : List ℕ) → Type 0
MarksIf here l c m m' = LabelledFrom (mark_if here l) (std.Ok c) m (std.Ok c) m'

unfoldable pub same_as : (k index : ℕ) → ℕ
same_as k index = cond (k == index) 1 0

-- 7. Expressions that are one record and then their parts in order, by their kind

-- the record, after its check where it has one
unfoldable pub construct_code : (d : ℕ) (s : List ℕ) (stop at : ℕ) → Code
construct_code d s stop at =
    let n = length (list_of (exprs_from d s stop (at + 13))) in
    require (nat_lt n 256) 12 at n then act (emit (plain at Construct n (number 4 s (at + 5))))

unfoldable pub intrinsic_code : (s : List ℕ) (at : ℕ) → Code
intrinsic_code s at =
    let i = intrinsic_of (slice_index s (at + 5)) in
    require (slice_index s (at + 6) == 0 && slice_index s (at + 7) == i.types) 14 at 0 then act (emit (plain at i.tag i.small (number 4 s (at + 8))))

unfoldable pub heads : (d : ℕ) (s : List ℕ) (stop at : ℕ) → List Code
heads d s stop at =
    done
    ∷ instr at Nop 0
    ∷ const_code s at
    ∷ instr at (null_tag (slice_index s (at + 5))) 0
    ∷ instr at New (number 4 s (at + 5))
    ∷ construct_code d s stop at
    ∷ instr at Assign 0
    ∷ done
    ∷ instr at (element_tag (slice_index s (at + 5))) (number 4 s (at + 6))
    ∷ done
    ∷ act (emit (plain at DynamicCast (slice_index s (at + 9)) (number 4 s (at + 5))))
    ∷ instr at (local_tag (slice_index s (at + 5))) (number 4 s (at + 6))
    ∷ intrinsic_code s at
    ∷ []

unfoldable pub head_of : (d : ℕ) (s : List ℕ) (stop at kind : ℕ) → Code
head_of d s stop at kind = slice_index_or (heads d s stop at) kind done

abbrev pub head_code : (d : ℕ) (s : List ℕ) (stop at : ℕ) → Code
head_code d s stop at = head_of d s stop at (slice_index s (at + 4))

-- the kinds of expression whose rules make labels; every other kind is one record and then its parts in order
unfoldable pub makes_labels : (kind : ℕ) → Bool
makes_labels k = k == 7 || k == 9 || (nat_lt 12 k && nat_lt k 17)

-- how far into a node its parts begin; 0 where it has none
unfoldable pub parts_from : (kind : ℕ) → ℕ
parts_from kind = slice_index (0 ∷ 0 ∷ 0 ∷ 0 ∷ 0 ∷ 13 ∷ 5 ∷ 0 ∷ 10 ∷ 0 ∷ 10 ∷ 0 ∷ 16 ∷ []) kind

-- where they begin; at the node's end where there are none
unfoldable pub parts_at : (s : List ℕ) (stop at : ℕ) → ℕ
parts_at s stop at = let n = parts_from (slice_index s (at + 4)) in cond (n == 0) stop (at + n)
