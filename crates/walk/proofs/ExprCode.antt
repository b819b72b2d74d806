-- For each kind of expression that is read: where its parts are, at the places that the code computes, and its code in terms of theirs. Assumes nothing.
use Prim.Native.Nat.{ℕ, zero, suc, ◌+◌, ◌-◌, ◌≤◌, ◌<◌}
use mathlib.Core.Path.{◌≡◌, refl, sym, ap, ◌∙◌}
use mathlib.Core.List.{List, [], ◌∷◌}
use native.Mathlib.Omega.{arith}
use lib.ListN.{length, get_or}
use Rattle.definitions.specs.Answer.{ok}
use Rattle.definitions.specs.Bytes.{number}
use Rattle.definitions.specs.Tag.{ParamEnd, Skip, StructField, Context, ObjectField, Conditional, InvokeVirtual}
use Rattle.definitions.specs.Tree.{Callee, Expr, exprs_of}
use Rattle.definitions.specs.Read.{parse_expr}
use Rattle.definitions.specs.Code.{Code, mark, act, label, ◌then◌}
use Rattle.definitions.specs.Lower.{BlockSpan, invoke, instr, jump, jumps, weak_to_ref, lower_field, lower_expr, lower_args, lower_arg, emit_call, emit_invoke, require_flags, flags_of}
use Rattle.ir.specs.Places.{end_of, ExprAt, RunAt, CallAt}
use Rattle.ir.specs.declared.Class.TheVariants.{Expression}
use Rattle.ir.proofs.Inversion.{expr_at}
use Rattle.ir.proofs.ExprPlaces.{instance_call_at, closure_call_at, field_at, conditional_at, free_call_at, static_call_at}
use Rattle.ir.specs.Kinds.{IsUnlisted}
use Rattle.ir.specs.Kinds as codes
use Rattle.ir.specs.declared.expr.ExprKind.{ExprKind}
use Rattle.ir.specs.declared.expr.ExprKind.TheVariants as kinds
use mathlib.Core.Bool.{true, true≢false}
use mathlib.Core.Logic.{inl, inr}
use Rattle.steps.proofs.HeadLaws.{no_labels}
use Rattle.steps.proofs.RunLaws.{expr_placed, listed}
use Rattle.steps.specs.Walked.{Accepted, code_of, list_of, expr_code, fill_code, exprs_from, args_at, args_code, callee_at, marks_from, call_code, Called, makes_labels}

-- the holder of depth d, which ends at `stop` in u, is the node at `at` in a holder of depth `depth` in s
abbrev pub Within : (depth : ℕ) (s : List ℕ) (at d : ℕ) (u : List ℕ) (stop : ℕ) → Type 0
Within depth s at d u stop = (u ≡ s) × (stop ≡ end_of s at) × (d ≡ depth - 1)

-- an expression that is read, as a holder
pub inner_fits : (d : ℕ) (s : List ℕ) (end at : ℕ) → Accepted (parse_expr d s end at) → end ≤ length s → (0 < d) × (at + 4 ≤ length s) × (end_of s at ≤ length s)
inner_fits d s end at acc h = let z = expr_placed d s end at acc.2 in (omega (arith, z.0), omega (arith, z.0, h), omega (arith, z.0, h))

-- a child that is read, within its holder
pub record Here (d : ℕ) (s : List ℕ) (holder at next : ℕ) : Type 0 where
  pub reads : Accepted (parse_expr d s holder at)
  pub head : at + 5 ≤ next
  pub tail : next ≤ holder

pub here : {d : ℕ} {s : List ℕ} {holder at : ℕ} {e : Expr} {next : ℕ} → ExprAt d s holder at e next → Here d s holder at next
here {e = e} {next = next} k = record { reads = (e, next, k.reads); head = k.head; tail = k.tail }

pub code_of_law : (d : ℕ) (s : List ℕ) (holder at : ℕ) (e : Expr) (next : ℕ) → parse_expr d s holder at ≡ ok e next → expr_code d s holder at ≡ lower_expr e
unfolding code_of
code_of_law d s holder at e next r = ap {B = Code} (code_of lower_expr) r

pub child : {d : ℕ} {s : List ℕ} {holder at : ℕ} {e : Expr} {next : ℕ} → ExprAt d s holder at e next → lower_expr e ≡ expr_code d s holder at
child {d} {s} {holder} {at} {e} {next} k = sym (code_of_law d s holder at e next k.reads)

-- arguments

pub run_at : (d : ℕ) {s : List ℕ} {stop : ℕ} {args : List Expr} (at first : ℕ) → at + 4 ≡ first → RunAt s stop (parse_expr d s) at args stop → (first ≤ stop) × Accepted (exprs_from d s stop first)
run_at d {stop = stop} {args = args} at first e k = rw (← e) (k.head, (args, stop, k.reads))

-- a call, by its bytes

marks_are : (s ps : List ℕ) (at n : ℕ) → length ps ≡ n → ((i : ℕ) → i < n → get_or ps i 0 ≡ get_or s (at + i) 0) → ps ≡ marks_from s at n
unfolding marks_from
marks_are s [] at zero l h = refl
marks_are s [] at (suc n) l h = absurd (omega (arith, l))
marks_are s (p ∷ ps) at zero l h = absurd (omega (arith, l))
marks_are s (p ∷ ps) at (suc n) l h =
    let z : at + 0 ≡ at = omega arith in
    let first : p ≡ get_or s at 0 = rw z at (h 0 (omega arith)) in
    let later : (i : ℕ) → i < n → get_or ps i 0 ≡ get_or s (at + 1 + i) 0 = (λ i g. let y : at + suc i ≡ at + 1 + i = omega arith in rw y at (h (suc i) (omega arith))) in
    let others : ps ≡ marks_from s (at + 1) n = marks_are s ps (at + 1) n (omega (arith, l)) later in
    rw (first, others)

callee_eq : (c : Callee) (f n l b : ℕ) (ps : List ℕ) → c.function ≡ f → c.name ≡ n → c.line ≡ l → c.flags ≡ b → c.params ≡ ps →
    c ≡ record { function = f; name = n; line = l; flags = b; params = ps }
callee_eq c f n l b ps e1 e2 e3 e4 e5 = rw (← e1, ← e2, ← e3, ← e4, ← e5)

callee_is : {d : ℕ} {s : List ℕ} {stop p : ℕ} {c : Callee} {args : List Expr} {list : ℕ} → CallAt d s stop p c args list → c ≡ callee_at s p
unfolding callee_at
callee_is {s = s} {p = p} {c = c} k =
    callee_eq c _ _ _ _ _ k.function_is k.name_is k.line_is k.flags_is (marks_are s c.params (p + 12) (get_or s (p + 11) 0) (sym k.count) (λ i h. k.marks i (omega (arith, k.count))))

args_read : {d : ℕ} {s : List ℕ} {stop p : ℕ} {c : Callee} {args : List Expr} {list : ℕ} → CallAt d s stop p c args list → exprs_from d s stop (args_at s p) ≡ ok args stop
args_read {s = s} {p = p} {list = list} k = let e : list + 4 ≡ args_at s p = omega (arith, k.list_is, k.count) in rw e at k.run.reads

called : {d : ℕ} {s : List ℕ} {stop p : ℕ} {c : Callee} {args : List Expr} {list : ℕ} → CallAt d s stop p c args list → Called d s stop p
called {args = args} k = record { args = args; reads = args_read k; fits = omega (arith, k.run.head, k.list_is, k.count); enough = omega (arith, k.enough, k.count) }

call_code_law : (site : ℕ) {d : ℕ} {s : List ℕ} {stop p : ℕ} {c : Callee} {args : List Expr} {list : ℕ} → CallAt d s stop p c args list →
    call_code d s stop p site ≡ emit_call site c (exprs_of args) (lower_args (exprs_of args) site c.params)
unfolding code_of
call_code_law site {s = s} {p = p} {args = args} k =
    ap {B = Code} (code_of _) (args_read k) ∙ ap (λ c. emit_call site c (exprs_of args) (lower_args (exprs_of args) site c.params)) (sym (callee_is k))

module _ (depth : ℕ) (s : List ℕ) (end at : ℕ) (acc : Accepted (parse_expr depth s end at)) where
  whole : expr_code depth s end at ≡ lower_expr acc.0
  whole = code_of_law depth s end at acc.0 acc.1 acc.2

  module _ (d : ℕ) (u : List ℕ) (stop : ℕ) where
    reads : Within depth s at d u stop → parse_expr depth s end at ≡ ok acc.0 stop
    reads e = let k = expr_at depth s end at acc.2 in acc.2 ∙ ap (ok acc.0) (k.ends ∙ sym e.1)

    -- a field: its form, its name and the object or struct
    pub record FieldHere (form name : ℕ) : Type 0 where
      pub one : Here d u stop (at + 10) stop
      pub code : expr_code depth s end at ≡ lower_field at form name (expr_code d u stop (at + 10))

    pub field_here : Within depth s at d u stop → (form name : ℕ) → form ≡ get_or s (at + 5) 0 → name ≡ number 4 s (at + 6) → get_or s (at + 4) 0 ≡ 7 → FieldHere form name
    unfolding lower_expr
    field_here e form name f n kind =
        let k = field_at depth s end at acc.0 stop (reads e) kind in
        rw (e.0, e.2, f, n) (record { one = here k.one; code = whole ∙ ap lower_expr k.tree ∙ ap (lower_field at (get_or s (at + 5) 0) (number 4 s (at + 6))) (child k.one) })

    -- an instance call: its receiver, then the function at `second`
    pub record InstanceHere (weak second : ℕ) : Type 0 where
      pub one : Here d u stop (at + 6) second
      pub call : Called d u stop second
      pub code : expr_code depth s end at ≡
          (label at λ exit. jump at Context exit then weak_to_ref at weak then expr_code d u stop (at + 6) then call_code d u stop second at then act (mark exit))

    pub instance_here : Within depth s at d u stop → (weak second : ℕ) → weak ≡ get_or s (at + 5) 0 → second ≡ end_of s (at + 6) → get_or s (at + 4) 0 ≡ 15 → InstanceHere weak second
    unfolding lower_expr
    instance_here e weak second f e2 kind =
        let k = instance_call_at depth s end at acc.0 stop (reads e) kind in
        let a : k.second ≡ second = k.one.ends ∙ sym e2 in
        rw (e.0, e.2, ← a, f) (record {
          one = here k.one;
          call = called k.call;
          code = whole ∙ ap lower_expr k.tree ∙ ap (λ c. label at λ exit. jump at Context exit then weak_to_ref at (get_or s (at + 5) 0) then lower_expr k.receiver then c then act (mark exit)) (sym (call_code_law at k.call)) ∙ rw (child k.one);
        })

    -- a closure call: the closure, its name and line at `second`, its arguments
    pub record ClosureHere (span : BlockSpan) (second name line : ℕ) : Type 0 where
      pub one : Here d u stop (at + 5) second
      pub fits : second + 10 ≤ stop
      pub run : Accepted (exprs_from d u stop (second + 10))
      pub code : expr_code depth s end at ≡
          (label at λ context. jump at Context context then expr_code d u stop (at + 5) then act (mark context) then
          label at λ exit. invoke at InvokeVirtual exit line 0 name then fill_code Expression d u stop (second + 10) span then instr at ParamEnd 0 then act (mark exit))

    pub closure_here : Within depth s at d u stop → (span : BlockSpan) (second name line : ℕ) → second ≡ end_of s (at + 5) → name ≡ number 4 s second → line ≡ number 2 s (second + 4) → get_or s (at + 4) 0 ≡ 16 → ClosureHere span second name line
    unfolding lower_expr code_of
    closure_here e span second name line e2 f g kind =
        let k = closure_call_at depth s end at acc.0 stop (reads e) kind in
        let a : k.second ≡ second = k.one.ends ∙ sym e2 in
        let r = run_at (depth - 1) (k.second + 6) (k.second + 10) (omega arith) k.run in
        let q : exprs_from (depth - 1) s stop (k.second + 10) ≡ ok k.args stop = let z : k.second + 6 + 4 ≡ k.second + 10 = omega arith in rw z at k.run.reads in
        rw (e.0, e.2, f, g, ← a) (record { one = here k.one; fits = r.0; run = r.1; code = whole ∙ ap lower_expr k.tree ∙ rw (child k.one, q) })

    -- a function and its arguments
    pub free_call_here : Within depth s at d u stop → get_or s (at + 4) 0 ≡ 13 → Called d u stop (at + 5) × (expr_code depth s end at ≡ call_code d u stop (at + 5) at)
    unfolding lower_expr
    free_call_here e kind =
        let k = free_call_at depth s end at acc.0 stop (reads e) kind in
        rw (e.0, e.2) (called k.call, whole ∙ ap lower_expr k.tree ∙ sym (call_code_law at k.call))

    pub static_call_here : Within depth s at d u stop → get_or s (at + 4) 0 ≡ 14 → Called d u stop (at + 5) × (expr_code depth s end at ≡ (label at λ exit. call_code d u stop (at + 5) at then act (mark exit)))
    unfolding lower_expr
    static_call_here e kind =
        let k = static_call_at depth s end at acc.0 stop (reads e) kind in
        rw (e.0, e.2) (called k.call, whole ∙ ap lower_expr k.tree ∙ ap (λ c. label at λ exit. c then act (mark exit)) (sym (call_code_law at k.call)))

    -- three expressions
    pub record ConditionalHere (second third : ℕ) : Type 0 where
      pub one : Here d u stop (at + 5) second
      pub two : Here d u stop second third
      pub three : Here d u stop third stop
      pub code : expr_code depth s end at ≡
          (label at λ else. label at λ exit.
          jumps at Conditional else exit then expr_code d u stop (at + 5) then expr_code d u stop second then
          act (mark else) then expr_code d u stop third then act (mark exit))

    pub conditional_here : Within depth s at d u stop → (second third : ℕ) → second ≡ end_of s (at + 5) → third ≡ end_of s second → get_or s (at + 4) 0 ≡ 9 → ConditionalHere second third
    unfolding lower_expr
    conditional_here e second third e2 e3 kind =
        let k = conditional_at depth s end at acc.0 stop (reads e) kind in
        let a : k.second ≡ second = k.one.ends ∙ sym e2 in
        let b : k.third ≡ third = k.two.ends ∙ ap (end_of s) a ∙ sym e3 in
        rw (e.0, e.2, ← a, ← b) (record { one = here k.one; two = here k.two; three = here k.three; code = whole ∙ ap lower_expr k.tree ∙ rw (child k.one, child k.two, child k.three) })

-- the kinds whose rules make labels

pub no_kind : (k : ℕ) → makes_labels k ≡ true → IsUnlisted 16 k → ⊥
no_kind k m (inl z) = true≢false (sym m ∙ no_labels k ((((((tt, λ q. omega (arith, q, z)), λ q. omega (arith, q, z)), λ q. omega (arith, q, z)), λ q. omega (arith, q, z)), λ q. omega (arith, q, z)), λ q. omega (arith, q, z)))
no_kind k m (inr l) = true≢false (sym m ∙ no_labels k ((((((tt, λ q. omega (arith, q, l)), λ q. omega (arith, q, l)), λ q. omega (arith, q, l)), λ q. omega (arith, q, l)), λ q. omega (arith, q, l)), λ q. omega (arith, q, l)))

no_other : (kind : ExprKind) → makes_labels (codes.expr_code kind) ≡ true → (kind ≡ kinds.Field → ⊥) → (kind ≡ kinds.Conditional → ⊥) → (kind ≡ kinds.FreeCall → ⊥) → (kind ≡ kinds.StaticCall → ⊥) →
    (kind ≡ kinds.InstanceCall → ⊥) → (kind ≡ kinds.ClosureCall → ⊥) → ⊥
unfolding makes_labels
no_other kinds.Nop m _ _ _ _ _ _ = true≢false (sym m)
no_other kinds.Const m _ _ _ _ _ _ = true≢false (sym m)
no_other kinds.Null m _ _ _ _ _ _ = true≢false (sym m)
no_other kinds.NewInstance m _ _ _ _ _ _ = true≢false (sym m)
no_other kinds.Construct m _ _ _ _ _ _ = true≢false (sym m)
no_other kinds.Assign m _ _ _ _ _ _ = true≢false (sym m)
no_other kinds.Field m a _ _ _ _ _ = a refl
no_other kinds.Index m _ _ _ _ _ _ = true≢false (sym m)
no_other kinds.Conditional m _ a _ _ _ _ = a refl
no_other kinds.DynCast m _ _ _ _ _ _ = true≢false (sym m)
no_other kinds.Local m _ _ _ _ _ _ = true≢false (sym m)
no_other kinds.IntrinsicCall m _ _ _ _ _ _ = true≢false (sym m)
no_other kinds.FreeCall m _ _ a _ _ _ = a refl
no_other kinds.StaticCall m _ _ _ a _ _ = a refl
no_other kinds.InstanceCall m _ _ _ _ a _ = a refl
no_other kinds.ClosureCall m _ _ _ _ _ a = a refl

pub other_kind : (kind : ExprKind) (k : ℕ) → codes.expr_code kind ≡ k → makes_labels k ≡ true → (kind ≡ kinds.Field → ⊥) → (kind ≡ kinds.Conditional → ⊥) → (kind ≡ kinds.FreeCall → ⊥) → (kind ≡ kinds.StaticCall → ⊥) →
    (kind ≡ kinds.InstanceCall → ⊥) → (kind ≡ kinds.ClosureCall → ⊥) → ⊥
other_kind kind k e m = no_other kind (ap makes_labels e ∙ m)

-- the two forms of a field

pub struct_field_law : {p : Code} (at form name : ℕ) → form ≡ 0 → lower_field at form name p ≡ instr at StructField name then p
unfolding lower_field
struct_field_law at form name e = rw e

pub object_field_law : {p : Code} (at form name : ℕ) → (form ≡ 0 → ⊥) →
    lower_field at form name p ≡ (label at λ exit. jump at Context exit then weak_to_ref at (form - 1) then p then instr at ObjectField name then act (mark exit))
unfolding lower_field
object_field_law at zero name h = absurd (h refl)
object_field_law at (suc f) name h = let z : suc f - 1 ≡ f = omega arith in rw z

-- the parts of a call

pub call_parts : (d : ℕ) (s : List ℕ) (end p site n first : ℕ) → n ≡ get_or s (p + 11) 0 → first ≡ p + 16 + n → Called d s end p →
    call_code d s end p site ≡
    (label site λ exit. require_flags (exprs_of (list_of (exprs_from d s end first))) 0 then
    emit_invoke site (callee_at s p).flags exit (callee_at s p).line (flags_of (exprs_of (list_of (exprs_from d s end (args_at s p)))) 1) (callee_at s p).function (callee_at s p).name then
    args_code d s end first site (marks_from s (p + 12) n) then instr site ParamEnd 0 then act (mark exit))
unfolding code_of list_of emit_call callee_at
call_parts d s end p site n first e f k = rw (f, e, k.reads)

-- what a call asks of its arguments
pub call_fits : (d : ℕ) (s : List ℕ) (end p n : ℕ) → n ≡ get_or s (p + 11) 0 → Called d s end p →
    Accepted (exprs_from d s end (p + 16 + n)) × ((p + 16 + n ≤ end) × (p + 12 + n ≤ p + 16 + n) × (length (list_of (exprs_from d s end (p + 16 + n))) ≤ n))
call_fits d s end p n e k = rw e ((k.args, end, k.reads), (k.fits, omega arith, omega (arith, k.enough, ap length (listed _ _ _ k.reads))))

-- an argument

pub plain_arg : (site short : ℕ) (p : Code) → short ≡ 0 → lower_arg site short p ≡ p
unfolding lower_arg
plain_arg site short p e = rw e

pub short_arg : (site short : ℕ) (p : Code) → (short ≡ 0 → ⊥) → lower_arg site short p ≡ (label site λ skip. jump site Skip skip then p then act (mark skip))
unfolding lower_arg
short_arg site zero p h = absurd (h refl)
short_arg site (suc n) p h = refl
