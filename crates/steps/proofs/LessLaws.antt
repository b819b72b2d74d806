-- Tags by one subtraction: that of a Bool, and that of an invoke. Assumes nothing.
use Rattle.std.proofs.Common.{◌≡◌, ℕ, zero, suc, ◌+◌, ◌-◌, ◌/◌, ◌<◌, ◌≤◌, min, true, cond, eqb, [], ◌∷◌, get_or, ne_eqb, refl, ap, ◌∙◌, arith}
use Rattle.std.proofs.Math.Path.{fun_ext}
use Rattle.definitions.specs.Tag.{FalseConst, TrueConst, InvokeVirtual, InvokeStatic, Context, ParamEnd, const_tag, emitted}
use Rattle.definitions.specs.Tree.{Callee, Expr, Exprs, free_call, static_call, instance_call, closure_call}
use Rattle.definitions.specs.Code.{Code, mark, act, ◌then◌, label}
use Rattle.definitions.specs.Lower.{instr, jump, invoke, weak_to_ref, require_flags, flags_of, emit_invoke, emit_call, lower_expr, lower_exprs, lower_args}

-- a tag may lose 1 where the one right before it is emitted too
pub fits : (tag n : ℕ) → 1 ≤ tag → emitted (tag - 0) ≡ true → emitted (tag - 1) ≡ true → n ≤ 1 → (n ≤ tag) × (emitted (tag - n) ≡ true)
fits tag zero p a b h = (omega arith, a)
fits tag (suc zero) p a b h = (p, b)
fits tag (suc (suc n)) p a b h = absurd (omega (arith, h))

-- 1. Bool: TrueConst stands right before FalseConst

pub bool_less : (mark : ℕ) → mark < 2 → FalseConst - mark ≡ const_tag 15 mark
unfolding const_tag
bool_less zero h = refl
bool_less (suc zero) h = refl
bool_less (suc (suc n)) h = absurd (omega (arith, h))

pub bool_is : (n m b : ℕ) → m ≡ min n 1 → b ≡ FalseConst - m → b ≡ get_or (FalseConst ∷ []) n TrueConst
bool_is zero m b e f = let z : m ≡ 0 = omega (arith, e) in f ∙ ap (λ x. FalseConst - x) z
bool_is (suc n) m b e f = let z : m ≡ 1 = omega (arith, e) in f ∙ ap (λ x. FalseConst - x) z

-- 2. Invokes: InvokeStatic stands right before InvokeVirtual

pub invoke_is : (flags m b : ℕ) → m ≡ min flags 15 → b ≡ InvokeVirtual - (m + 15) / 16 → b ≡ cond (eqb flags 0) InvokeVirtual InvokeStatic
invoke_is zero m b e f = let z : (m + 15) / 16 ≡ 0 = omega (arith, e) in f ∙ ap (λ x. InvokeVirtual - x) z
invoke_is (suc n) m b e f = let z : (m + 15) / 16 ≡ 1 = omega (arith, e) in rw (ne_eqb (suc n) 0 (λ y. omega (arith, y))) (f ∙ ap (λ x. InvokeVirtual - x) z)

-- the invoke of a call with this flag byte, by the subtraction
abbrev less_invoke : (at flagByte exit line flags function name : ℕ) → Code
less_invoke at b exit line flags function name = invoke at (InvokeVirtual - (b + 15) / 16) exit line flags (cond (eqb b 0) name function)

pub invoke_less : (at b exit line flags function name : ℕ) → b < 16 → emit_invoke at b exit line flags function name ≡ less_invoke at b exit line flags function name
unfolding emit_invoke
invoke_less at zero exit line flags function name h = refl
invoke_less at (suc b) exit line flags function name h = let z : (suc b + 15) / 16 ≡ 1 = omega (arith, h) in rw (z, ne_eqb (suc b) 0 (λ y. omega (arith, y))) refl

-- the code of a call of a function, its invoke by the subtraction
abbrev less_call : (at : ℕ) → Callee → Exprs → (arguments : Code) → Code
less_call at c args arguments =
    label at λ exit. require_flags args 0 then less_invoke at c.flags exit c.line (flags_of args 1) c.function c.name then
    arguments then instr at ParamEnd 0 then act (mark exit)

call_less : (at : ℕ) (c : Callee) (args : Exprs) (arguments : Code) → c.flags < 16 → emit_call at c args arguments ≡ less_call at c args arguments
unfolding emit_call
call_less at c args arguments h = ap (label at) (fun_ext λ exit. ap (λ p. require_flags args 0 then p then arguments then instr at ParamEnd 0 then act (mark exit)) (invoke_less at c.flags exit c.line (flags_of args 1) c.function c.name h))

-- kinds 13 to 15, and 16, which has no flag byte: 0 is taken off
pub free_less : (at : ℕ) (c : Callee) (args : Exprs) → c.flags < 16 → lower_expr (free_call at c args) ≡ less_call at c args (lower_args args at c.params)
unfolding lower_expr
free_less at c args h = call_less at c args (lower_args args at c.params) h

pub static_less : (at : ℕ) (c : Callee) (args : Exprs) → c.flags < 16 → lower_expr (static_call at c args) ≡ (label at λ exit. less_call at c args (lower_args args at c.params) then act (mark exit))
unfolding lower_expr
static_less at c args h = ap (label at) (fun_ext λ exit. ap (λ p. p then act (mark exit)) (call_less at c args (lower_args args at c.params) h))

pub instance_less : (at weak : ℕ) (e : Expr) (c : Callee) (args : Exprs) → c.flags < 16 → lower_expr (instance_call at weak e c args) ≡
    (label at λ exit. jump at Context exit then weak_to_ref at weak then lower_expr e then less_call at c args (lower_args args at c.params) then act (mark exit))
unfolding lower_expr
instance_less at weak e c args h = ap (label at) (fun_ext λ exit. ap (λ p. jump at Context exit then weak_to_ref at weak then lower_expr e then p then act (mark exit)) (call_less at c args (lower_args args at c.params) h))

pub closure_less : (at : ℕ) (e : Expr) (name line : ℕ) (args : Exprs) → lower_expr (closure_call at e name line args) ≡
    (label at λ context. jump at Context context then lower_expr e then act (mark context) then
    label at λ exit. invoke at (InvokeVirtual - 0) exit line 0 name then lower_exprs args then instr at ParamEnd 0 then act (mark exit))
unfolding lower_expr
closure_less at e name line args = refl
