-- Expressions that are one record and then their parts in order. Assumes nothing.
use Rattle.std.proofs.Common.{◌≡◌, ℕ, ◌+◌, ◌-◌, ◌<◌, ◌≤◌, Bool, true, false, cond, ◌&&◌, eqb, ltb, List, [], ◌∷◌, length, get_or, sym, refl, ap, ◌∙◌, arith, ltb-false, ltb-true, lt-ltb, ne_eqb}
use mathlib.Core.Logic.{◌⊎◌, inl, inr}
use lib.ListN.{get_or-eq_default}
use borrow.Author.Tests.{eqb-false}
use Rattle.std.specs.Prelude as std
use Rattle.definitions.specs.Answer.{ok}
use Rattle.definitions.specs.Bytes.{number}
use Rattle.definitions.specs.Tag.{Nop, New, Assign, Construct, DynamicCast, intrinsic_of}
use Rattle.definitions.specs.Tree.{Expr, exprs_of, length_exprs}
use Rattle.definitions.specs.Instr.{plain}
use Rattle.definitions.specs.Read.{parse_expr}
use Rattle.definitions.specs.Code.{Code, done, ◌then◌, act, emit}
use Rattle.definitions.specs.Lower.{BlockSpan, instr, require, null_tag, element_tag, local_tag, lower_expr, lower_exprs}
use Rattle.laws.proofs.Arms.{None, those, others, none_pass, one_of}
use Rattle.laws.proofs.Trees.{length_exprs_law}
use Rattle.instr.specs.declared.refusals.Refusal.{Refusal}
use Rattle.ir.specs.Kinds.{IsUnlisted}
use Rattle.ir.specs.Kinds as kinds
use Rattle.ir.specs.declared.expr.ExprKind.{ExprKind}
use Rattle.ir.specs.declared.expr.ExprKind.TheVariants.{Field, Conditional, FreeCall, StaticCall, InstanceCall, ClosureCall}
use Rattle.ir.proofs.KindLaws.{expr_is}
use Rattle.ir.specs.Places.{end_of, ExprAt, RunAt}
use Rattle.ir.specs.declared.Class.TheVariants.{Expression}
use Rattle.ir.proofs.Inversion.{expr_at, expr_moves, fill_nil, fill_cons}
use Rattle.ir.proofs.ExprPlaces.{nop_at, const_at, null_at, new_instance_at, construct_at, assign_at, index_at, dyn_cast_at, local_at, intrinsic_at_law, no_other}
use Rattle.steps.specs.Running.{Sinks}
use Rattle.steps.specs.Walked.{Accepted, code_of, list_of, expr_code, fill_code, exprs_from, const_code, construct_code, intrinsic_code, heads, head_of, head_code, makes_labels, parts_from, parts_at, EmittedFrom, LeftFrom, Walk}
use Rattle.steps.proofs.StepLaws.{left, none_emitted, halt, both, SameRun, same_assoc, same_right, same_on, same_back, same_code, same_end}
use Rattle.steps.proofs.RunLaws.{listed}

-- 1. The record

-- its fields by other names
as_plain : {S : Type 0} {K : Sinks S} {at t t' n n' v v' : ℕ} {w r : Walk} {o o' : S} → t ≡ t' → n ≡ n' → v ≡ v' → EmittedFrom K (act (emit (plain at t n v))) w o r o' → EmittedFrom K (act (emit (plain at t' n' v'))) w o r o'
as_plain e f g d = rw (← e, ← f, ← g) d

-- an arm of a kind
module _ {S : Type 0} {K : Sinks S} (d : ℕ) (s : List ℕ) (stop at : ℕ) {w r : Walk} {o o' : S} where
  of_kind : (k : ℕ) → get_or s (at + 4) 0 ≡ k → EmittedFrom K (head_of d s stop at k) w o r o' → EmittedFrom K (head_code d s stop at) w o r o'
  of_kind k e x = rw e x

  pub nop_head : get_or s (at + 4) 0 ≡ 1 → EmittedFrom K (instr at Nop 0) w o r o' → EmittedFrom K (head_code d s stop at) w o r o'
  unfolding heads head_of
  nop_head e x = of_kind 1 e x

  pub const_head : get_or s (at + 4) 0 ≡ 2 → EmittedFrom K (const_code s at) w o r o' → EmittedFrom K (head_code d s stop at) w o r o'
  unfolding heads head_of
  const_head e x = of_kind 2 e x

  pub null_head : (t b : ℕ) → get_or s (at + 4) 0 ≡ 3 → t ≡ null_tag b → b ≡ get_or s (at + 5) 0 → EmittedFrom K (instr at t 0) w o r o' → EmittedFrom K (head_code d s stop at) w o r o'
  unfolding heads head_of
  null_head t b e f g x = of_kind 3 e (as_plain (f ∙ ap null_tag g) refl refl x)

  pub new_head : (class : ℕ) → get_or s (at + 4) 0 ≡ 4 → class ≡ number 4 s (at + 5) → EmittedFrom K (instr at New class) w o r o' → EmittedFrom K (head_code d s stop at) w o r o'
  unfolding heads head_of
  new_head class e f x = of_kind 4 e (as_plain refl refl f x)

  pub construct_head : (end : ℕ) → get_or s (at + 4) 0 ≡ 5 → end ≡ stop → EmittedFrom K (construct_code d s end at) w o r o' → EmittedFrom K (head_code d s stop at) w o r o'
  unfolding heads head_of
  construct_head end e f x = of_kind 5 e (rw (← f) x)

  pub assign_head : get_or s (at + 4) 0 ≡ 6 → EmittedFrom K (instr at Assign 0) w o r o' → EmittedFrom K (head_code d s stop at) w o r o'
  unfolding heads head_of
  assign_head e x = of_kind 6 e x

  pub index_head : (t b type : ℕ) → get_or s (at + 4) 0 ≡ 8 → t ≡ element_tag b → b ≡ get_or s (at + 5) 0 → type ≡ number 4 s (at + 6) → EmittedFrom K (instr at t type) w o r o' → EmittedFrom K (head_code d s stop at) w o r o'
  unfolding heads head_of
  index_head t b type e f g h x = of_kind 8 e (as_plain (f ∙ ap element_tag g) refl h x)

  pub cast_head : (weak b class : ℕ) → get_or s (at + 4) 0 ≡ 10 → weak ≡ b → b ≡ get_or s (at + 9) 0 → class ≡ number 4 s (at + 5) → EmittedFrom K (act (emit (plain at DynamicCast weak class))) w o r o' → EmittedFrom K (head_code d s stop at) w o r o'
  unfolding heads head_of
  cast_head weak b class e f g h x = of_kind 10 e (as_plain refl (f ∙ g) h x)

  pub local_head : (t b i : ℕ) → get_or s (at + 4) 0 ≡ 11 → t ≡ local_tag b → b ≡ get_or s (at + 5) 0 → i ≡ number 4 s (at + 6) → EmittedFrom K (instr at t i) w o r o' → EmittedFrom K (head_code d s stop at) w o r o'
  unfolding heads head_of
  local_head t b i e f g h x = of_kind 11 e (as_plain (f ∙ ap local_tag g) refl h x)

  pub intrinsic_head : get_or s (at + 4) 0 ≡ 12 → EmittedFrom K (intrinsic_code s at) w o r o' → EmittedFrom K (head_code d s stop at) w o r o'
  unfolding heads head_of
  intrinsic_head e x = of_kind 12 e x

-- no record: the kinds whose rules make labels, and a byte that is the number of no kind
other_head : {S : Type 0} {K : Sinks S} (d : ℕ) (s : List ℕ) (stop at k : ℕ) {o : S} {w : Walk} → get_or s (at + 4) 0 ≡ k → head_of d s stop at k ≡ done → EmittedFrom K (head_code d s stop at) w o w o
other_head d s stop at k e h = rw (e, h) none_emitted

pub label_head : {S : Type 0} {K : Sinks S} (d : ℕ) (s : List ℕ) (stop at : ℕ) {kind : ExprKind} {o : S} {w : Walk} → kinds.expr_code kind ≡ get_or s (at + 4) 0 →
    (kind ≡ Field) ⊎ ((kind ≡ Conditional) ⊎ ((kind ≡ FreeCall) ⊎ ((kind ≡ StaticCall) ⊎ ((kind ≡ InstanceCall) ⊎ (kind ≡ ClosureCall))))) → EmittedFrom K (head_code d s stop at) w o w o
unfolding heads head_of
label_head d s stop at e (inl h) = other_head d s stop at 7 (expr_is e h) refl
label_head d s stop at e (inr (inl h)) = other_head d s stop at 9 (expr_is e h) refl
label_head d s stop at e (inr (inr (inl h))) = other_head d s stop at 13 (expr_is e h) refl
label_head d s stop at e (inr (inr (inr (inl h)))) = other_head d s stop at 14 (expr_is e h) refl
label_head d s stop at e (inr (inr (inr (inr (inl h))))) = other_head d s stop at 15 (expr_is e h) refl
label_head d s stop at e (inr (inr (inr (inr (inr h))))) = other_head d s stop at 16 (expr_is e h) refl

pub no_head : {S : Type 0} {K : Sinks S} (d : ℕ) (s : List ℕ) (stop at : ℕ) {o : S} {w : Walk} → IsUnlisted 16 (get_or s (at + 4) 0) → EmittedFrom K (head_code d s stop at) w o w o
unfolding heads head_of
no_head d s stop at (inl e) = other_head d s stop at 0 e refl
no_head d s stop at (inr l) = other_head d s stop at (get_or s (at + 4) 0) refl (get_or-eq_default (heads d s stop at) done {n = get_or s (at + 4) 0} (omega (arith, l)))

-- of a Construct and of an intrinsic call: the check, then the record
pub constructed : {S : Type 0} {K : Sinks S} (d : ℕ) (s : List ℕ) (stop at n class : ℕ) {w v r : Walk} {o o' : S} → n ≡ length (list_of (exprs_from d s stop (at + 13))) → class ≡ number 4 s (at + 5) →
    LeftFrom (require (ltb n 256) 12 at n) w v → EmittedFrom K (act (emit (plain at Construct n class))) v o r o' → EmittedFrom K (construct_code d s stop at) w o r o'
unfolding construct_code
constructed d s stop at n class {o = o} e f a b = rw (← e, ← f) (record { did = λ m. both (left a) (b.did m) })

pub construct_refused : {S : Type 0} {K : Sinks S} (d : ℕ) (s : List ℕ) (stop at n : ℕ) {w : Walk} {e : Refusal} {o : S} → n ≡ length (list_of (exprs_from d s stop (at + 13))) →
    LeftFrom (require (ltb n 256) 12 at n) w (std.Err e) → EmittedFrom K (construct_code d s stop at) w o (std.Err e) o
unfolding construct_code
construct_refused d s stop at n {o = o} e a = rw (← e) (record { did = λ m. halt (left a) _ })

pub intrinsic_refused : {S : Type 0} {K : Sinks S} (s : List ℕ) (at code short types : ℕ) (fits : Bool) {w : Walk} {e : Refusal} {o : S} →
    code ≡ get_or s (at + 5) 0 → short ≡ get_or s (at + 6) 0 → types ≡ get_or s (at + 7) 0 → fits ≡ (eqb short 0 && eqb types (intrinsic_of code).types) →
    LeftFrom (require fits 14 at 0) w (std.Err e) → EmittedFrom K (intrinsic_code s at) w o (std.Err e) o
unfolding intrinsic_code
intrinsic_refused s at code short types fits {o = o} e f g h a = rw (← e, ← f, ← g, ← h) (record { did = λ m. halt (left a) _ })

pub intrinsic_did : {S : Type 0} {K : Sinks S} (s : List ℕ) (at code short types : ℕ) (fits : Bool) (tag small i : ℕ) {w v r : Walk} {o o' : S} →
    code ≡ get_or s (at + 5) 0 → short ≡ get_or s (at + 6) 0 → types ≡ get_or s (at + 7) 0 → fits ≡ (eqb short 0 && eqb types (intrinsic_of code).types) →
    tag ≡ (intrinsic_of code).tag → small ≡ (intrinsic_of code).small → i ≡ number 4 s (at + 8) →
    LeftFrom (require fits 14 at 0) w v → EmittedFrom K (act (emit (plain at tag small i))) v o r o' → EmittedFrom K (intrinsic_code s at) w o r o'
unfolding intrinsic_code
intrinsic_did s at code short types fits tag small i {o = o} e f g h p q j a b =
    rw (← e, ← f, ← g, ← j, ← p, ← q, ← h) (record { did = λ m. both (left a) (b.did m) })

-- 2. Where the parts begin

pub no_labels : (k : ℕ) → None k (16 ∷ 15 ∷ 14 ∷ 13 ∷ 9 ∷ 7 ∷ []) → makes_labels k ≡ false
unfolding those makes_labels
no_labels k r = go (ltb k 17) refl
  where
    go : (b : Bool) → ltb k 17 ≡ b → makes_labels k ≡ false
    go true e = others makes_labels 17 k (ltb-true k 17 e) r
    go false e = let h = ltb-false k 17 e in rw (ne_eqb k 7 (omega arith), ne_eqb k 9 (omega arith), lt-ltb 12 k (omega arith), e)

-- the kinds that are one record and then their parts
pub flat_kind : (k : ℕ) → makes_labels k ≡ false → None k (16 ∷ 15 ∷ 14 ∷ 13 ∷ 9 ∷ 7 ∷ [])
unfolding those makes_labels
flat_kind k h = none_pass makes_labels 17 k h

pub parts_after : (s : List ℕ) (stop at first : ℕ) → first ≡ parts_at s stop at → at < stop → at < first
unfolding parts_at
parts_after s stop at first f h = rw f (go (eqb (parts_from (get_or s (at + 4) 0)) 0) refl)
  where
    go : (b : Bool) → eqb (parts_from (get_or s (at + 4) 0)) 0 ≡ b → at < cond b stop (at + parts_from (get_or s (at + 4) 0))
    go true e = h
    go false e = let d = eqb-false (parts_from (get_or s (at + 4) 0)) 0 e in omega arith

pub parts_none : (s : List ℕ) (stop at n : ℕ) → n ≡ parts_from (get_or s (at + 4) 0) → n ≡ 0 → stop ≡ parts_at s stop at
unfolding parts_at
parts_none s stop at n e z = let q : parts_from (get_or s (at + 4) 0) ≡ 0 = sym e ∙ z in rw (parts_at, q)

pub parts_some : (s : List ℕ) (stop at n : ℕ) → n ≡ parts_from (get_or s (at + 4) 0) → (n ≡ 0 → ⊥) → at + n ≡ parts_at s stop at
unfolding parts_at
parts_some s stop at n e z = rw (parts_at, ← e, ne_eqb n 0 z)

-- 3. The record, then the parts

abbrev all : List Expr → Code
all xs = lower_exprs (exprs_of xs)

-- no part, one, two
none_after : (p : Code) → SameRun (p then all []) p
unfolding lower_expr exprs_of
none_after p = same_end p

one_after : (p : Code) (a : Expr) → SameRun (p then all (a ∷ [])) (p then lower_expr a)
unfolding lower_expr exprs_of
one_after p a = same_right p (same_end (lower_expr a))

two_after : (p : Code) (a b : Expr) → SameRun (p then all (a ∷ b ∷ [])) (p then lower_expr a then lower_expr b)
unfolding lower_expr exprs_of
two_after p a b = same_right p (same_right (lower_expr a) (same_end (lower_expr b)))

module _ (depth : ℕ) (s : List ℕ) (end at : ℕ) (acc : Accepted (parse_expr depth s end at)) where
  abbrev stop : ℕ
  stop = end_of s at

  abbrev kind : ℕ
  kind = get_or s (at + 4) 0

  abbrev below : ℕ
  below = depth - 1

  reads : parse_expr depth s end at ≡ ok acc.0 stop
  reads = acc.2 ∙ ap (ok acc.0) (expr_at depth s end at acc.2).ends

  -- what the records of some kinds are read from
  pub const_here : kind ≡ 2 → (at + 6 ≤ stop) × (get_or s (at + 5) 0 < 16)
  const_here k = let c = const_at depth s end at acc.0 stop reads k in (omega (arith, c.byte.fits), c.byte.small)

  pub null_here : kind ≡ 3 → at + 6 ≤ stop
  null_here k = let c = null_at depth s end at acc.0 stop reads k in omega (arith, c.weak.fits)

  pub new_here : kind ≡ 4 → at + 9 ≤ stop
  new_here k = let c = new_instance_at depth s end at acc.0 stop reads k in omega (arith, c.ends)

  pub index_here : kind ≡ 8 → at + 10 ≤ stop
  index_here k = let c = index_at depth s end at acc.0 stop reads k in omega (arith, c.one.head, c.one.tail)

  pub cast_here : kind ≡ 10 → at + 10 ≤ stop
  cast_here k = let c = dyn_cast_at depth s end at acc.0 stop reads k in omega (arith, c.one.head, c.one.tail)

  pub local_here : kind ≡ 11 → at + 10 ≤ stop
  local_here k = let c = local_at depth s end at acc.0 stop reads k in omega (arith, c.ends)

  pub construct_here : kind ≡ 5 → (at + 13 ≤ stop) × Accepted (exprs_from below s stop (at + 13))
  construct_here k =
      let c = construct_at depth s end at acc.0 stop reads k in
      let z : at + 9 + 4 ≡ at + 13 = omega arith in
      rw (← z) (c.run.head, (c.args, stop, c.run.reads))

  pub intrinsic_here : kind ≡ 12 → (at + 16 ≤ stop) × (get_or s (at + 5) 0 < 34)
  intrinsic_here k = let c = intrinsic_at_law depth s end at acc.0 stop reads k in (omega (arith, c.run.head), c.code.small)

  -- the parts are read, and the record and they are the node
  pub record PartsHere (first : ℕ) : Type 0 where
    pub list : List Expr
    pub reads : exprs_from below s stop first ≡ ok list stop
    pub from : first ≤ stop
    pub same : SameRun (head_code below s stop at then all list) (lower_expr acc.0)

  abbrev Parts : Type 0
  Parts = PartsHere (parts_at s stop at)

  parted : (k n : ℕ) (xs : List Expr) → kind ≡ k → parts_from k ≡ n → (n ≡ 0 → ⊥) → exprs_from below s stop (at + n) ≡ ok xs stop → at + n ≤ stop →
      SameRun (head_of below s stop at k then all xs) (lower_expr acc.0) → Parts
  parted k n xs e f z r l a =
      let q : at + n ≡ parts_at s stop at = parts_some s stop at n (sym f ∙ ap parts_from (sym e)) z in
      rw (← q) (record { list = xs; reads = r; from = l; same = rw e a })

  -- no parts
  leaf : (k : ℕ) → kind ≡ k → parts_from k ≡ 0 → lower_expr acc.0 ≡ head_of below s stop at k → Parts
  leaf k e f t =
      let q : stop ≡ parts_at s stop at = parts_none s stop at 0 (sym f ∙ ap parts_from (sym e)) refl in
      let a : SameRun (head_of below s stop at k then all []) (lower_expr acc.0) = same_on (none_after (head_of below s stop at k)) (same_code (sym t)) in
      rw (← q) (record { list = []; reads = fill_nil (parse_expr below s) stop (expr_moves below s stop) stop (omega arith); from = omega arith; same = rw e a })

  nop_parts : kind ≡ 1 → Parts
  unfolding heads head_of parts_from lower_expr
  nop_parts k = leaf 1 k refl (ap lower_expr (nop_at depth s end at acc.0 stop reads k).tree)

  const_parts : kind ≡ 2 → Parts
  unfolding heads head_of parts_from lower_expr const_code
  const_parts k = leaf 2 k refl (ap lower_expr (const_at depth s end at acc.0 stop reads k).tree)

  null_parts : kind ≡ 3 → Parts
  unfolding heads head_of parts_from lower_expr
  null_parts k = leaf 3 k refl (ap lower_expr (null_at depth s end at acc.0 stop reads k).tree)

  new_parts : kind ≡ 4 → Parts
  unfolding heads head_of parts_from lower_expr
  new_parts k = leaf 4 k refl (ap lower_expr (new_instance_at depth s end at acc.0 stop reads k).tree)

  local_parts : kind ≡ 11 → Parts
  unfolding heads head_of parts_from lower_expr
  local_parts k = leaf 11 k refl (ap lower_expr (local_at depth s end at acc.0 stop reads k).tree)

  -- a part alone, and one before another
  fills_one : (first : ℕ) (a : Expr) → ExprAt below s stop first a stop → exprs_from below s stop first ≡ ok (a ∷ []) stop
  fills_one first a k = let m = expr_moves below s stop in fill_cons (parse_expr below s) stop m first (omega (arith, k.head)) k.reads (fill_nil (parse_expr below s) stop m stop (omega arith))

  fills_two : (first second : ℕ) (a b : Expr) → ExprAt below s stop first a second → ExprAt below s stop second b stop → exprs_from below s stop first ≡ ok (a ∷ b ∷ []) stop
  fills_two first second a b k l = fill_cons (parse_expr below s) stop (expr_moves below s stop) first (omega (arith, k.head, l.head)) k.reads (fills_one second b l)

  cast_parts : kind ≡ 10 → Parts
  unfolding heads head_of parts_from lower_expr
  cast_parts k =
      let c = dyn_cast_at depth s end at acc.0 stop reads k in
      parted 10 10 (c.value ∷ []) k refl (λ z. omega (arith, z)) (fills_one (at + 10) c.value c.one) (omega (arith, c.one.head))
      (same_on (one_after _ c.value) (same_code (ap lower_expr (sym c.tree))))

  assign_parts : kind ≡ 6 → Parts
  unfolding heads head_of parts_from lower_expr
  assign_parts k =
      let c = assign_at depth s end at acc.0 stop reads k in
      parted 6 5 (c.place ∷ c.value ∷ []) k refl (λ z. omega (arith, z)) (fills_two (at + 5) c.second c.place c.value c.one c.two) (omega (arith, c.one.head, c.two.head))
      (same_on (two_after _ c.place c.value) (same_code (ap lower_expr (sym c.tree))))

  index_parts : kind ≡ 8 → Parts
  unfolding heads head_of parts_from lower_expr
  index_parts k =
      let c = index_at depth s end at acc.0 stop reads k in
      parted 8 10 (c.array ∷ c.subscript ∷ []) k refl (λ z. omega (arith, z)) (fills_two (at + 10) c.second c.array c.subscript c.one c.two) (omega (arith, c.one.head, c.two.head))
      (same_on (two_after _ c.array c.subscript) (same_code (ap lower_expr (sym c.tree))))

  -- a run of parts
  run_at : (p first : ℕ) {args : List Expr} → p + 4 ≡ first → RunAt s stop (parse_expr below s) p args stop → (first ≤ stop) × (exprs_from below s stop first ≡ ok args stop)
  run_at p first e k = rw (← e) (k.head, k.reads)

  construct_parts : kind ≡ 5 → Parts
  unfolding heads head_of parts_from lower_expr construct_code
  construct_parts k =
      let c = construct_at depth s end at acc.0 stop reads k in
      let r = run_at (at + 9) (at + 13) (omega arith) c.run in
      let n : length (list_of (exprs_from below s stop (at + 13))) ≡ length_exprs (exprs_of c.args) = ap length (listed _ _ _ r.1) ∙ sym (length_exprs_law c.args) in
      parted 5 13 c.args k refl (λ z. omega (arith, z)) r.1 r.0
      (same_on (same_code (ap (λ m. (require (ltb m 256) 12 at m then act (emit (plain at Construct m (number 4 s (at + 5))))) then all c.args) n)) (same_on (same_back (same_assoc _ _ _)) (same_code (ap lower_expr (sym c.tree)))))

  intrinsic_parts : kind ≡ 12 → Parts
  unfolding heads head_of parts_from lower_expr intrinsic_code
  intrinsic_parts k =
      let c = intrinsic_at_law depth s end at acc.0 stop reads k in
      let r = run_at (at + 12) (at + 16) (omega arith) c.run in
      parted 12 16 c.args k refl (λ z. omega (arith, z)) r.1 r.0
      (same_on (same_back (same_assoc _ _ _)) (same_code (ap lower_expr (sym c.tree))))

  -- a kind that has no label and no function
  parts : None kind (16 ∷ 15 ∷ 14 ∷ 13 ∷ 9 ∷ 7 ∷ []) → Parts
  parts h = one_of 0 12 kind (
    (
      (
        (
          ((((((((tt, nop_parts), const_parts), null_parts), new_parts), construct_parts), assign_parts), λ e. absurd (h.0.0.0.0.0.1 e)), index_parts),
          λ e. absurd (h.0.0.0.0.1 e),
        ),
        cast_parts,
      ),
      local_parts,
    ),
    intrinsic_parts,
  )
      (λ n. no_other depth s end at acc.0 stop reads ((((n, h.0.0.0.1), h.0.0.1), h.0.1), h.1))

  -- the same at the places that the code computes
  pub record HeadHere (span : BlockSpan) (last first : ℕ) : Type 0 where
    pub reads : Accepted (exprs_from below s last first)
    pub from : first ≤ last
    pub same : SameRun (head_code below s stop at then fill_code Expression below s last first span) (expr_code depth s end at)

  pub head_here : (span : BlockSpan) (last first : ℕ) → last ≡ stop → first ≡ parts_at s last at → None kind (16 ∷ 15 ∷ 14 ∷ 13 ∷ 9 ∷ 7 ∷ []) → HeadHere span last first
  unfolding code_of
  head_here span last first e f h =
      let k = parts h in
      let g : first ≡ parts_at s stop at = f ∙ ap (λ x. parts_at s x at) e in
      let p : fill_code Expression below s stop (parts_at s stop at) span ≡ all k.list = ap {B = Code} (code_of all) k.reads in
      let q : expr_code depth s end at ≡ lower_expr acc.0 = ap {B = Code} (code_of lower_expr) acc.2 in
      rw (g, e) (record { reads = (k.list, stop, k.reads); from = k.from; same = same_on (same_code (ap (λ x. head_code below s stop at then x) p)) (same_on k.same (same_code (sym q))) })
