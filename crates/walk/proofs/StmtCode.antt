-- For each kind of statement that is read, and for an item of Branches or Switch: the same. Assumes nothing.
use Prim.Native.Nat.{ℕ, zero, suc, ◌+◌, ◌-◌, ◌≤◌, ◌<◌}
use mathlib.Core.Path.{◌≡◌, refl, sym, ap, ◌∙◌}
use mathlib.Core.List.{List, [], ◌∷◌}
use native.Mathlib.Omega.{arith}
use lib.Dec.{leb}
use mathlib.Core.Bool.{true}
use borrow.Author.Tests.{le-leb}
use Rattle.definitions.specs.Bytes.{number}
use lib.ListN.{length, get_or}
use Rattle.definitions.specs.Answer.{ok, bind}
use Rattle.definitions.specs.Tag.{Jump, JumpIfFalse, Return, ArrayResize, Local, U64Const}
use Rattle.definitions.specs.Instr.{plain}
use Rattle.definitions.specs.Tree.{Expr, Stmt, Block, Default, absent, present, block_of, branches_of, exprs_of}
use Rattle.definitions.specs.Read.{parse_expr, parse_stmt, filling, arm, block_if, give, run, span, unsigned, room, ◌>>=◌}
use Rattle.definitions.specs.Code.{Code, done, emit, emits, mark, act, label, ◌then◌}
use Rattle.definitions.specs.Lower.{BlockSpan, default_instrs, lower_array, lower_elements, emit_switch, in_switch, instr, jump, jump_to, in_loop, lower_expr, lower_stmt, lower_block, lower_branches, lower_default, lower_return, lower_return_nothing}
use Rattle.ir.specs.Places.{end_of, RunAt, DefaultAt, none, some, ReturnAt, nothing, value}
use Rattle.ir.specs.declared.Class.TheVariants.{Statement, Expression}
use Rattle.ir.proofs.Inversion.{stmt_at, run_ok, give_ok}
use Rattle.ir.proofs.StmtPlaces.{eval_at, block_at, while_at, break_at, continue_at, branches_at, switch_at, init_array_at, init_default_at, returned_at, arm_at, no_other}
use Rattle.steps.specs.Walked.{Accepted, Ended, DefaultHere, Cased, inside_code, mid_code, default_answer, exprs_from, list_of, default_from, arms_from, cases_from, code_of, expr_code, stmt_code, fill_code, arm_code}
use Rattle.walk.proofs.ExprCode.{Within, Here, here, child, run_at}
use Rattle.laws.proofs.Trees.{length_exprs_law}
use Rattle.steps.proofs.StepLaws.{SameRun, same_on, same_code}
use Rattle.steps.proofs.RunLaws.{single_run, single_code, stmt_placed}
use Rattle.ir.specs.Kinds.{IsUnlisted}
use mathlib.Core.Logic.{inl, inr}

pub block_code : (d : ℕ) (s : List ℕ) (end at : ℕ) (span : BlockSpan) (xs : List Stmt) (n : ℕ) → filling (parse_stmt d s) end at ≡ ok xs n → fill_code Statement d s end at span ≡ lower_block (block_of xs) span
unfolding code_of
block_code d s end at span xs n r = ap {B = Code} (code_of (λ xs. lower_block (block_of xs) span)) r

-- what an array of n elements at `at` emits
pub array_code : (at n local type : ℕ) → Code → Code
array_code at zero local type elements = done
array_code at (suc n) local type elements = emits (plain at ArrayResize 0 type ∷ plain at Local 0 local ∷ plain at U64Const 0 (suc n) ∷ []) then elements

array_is : (xs : List Expr) (at local type : ℕ) → lower_array (exprs_of xs) at local type ≡ array_code at (length xs) local type (lower_elements (exprs_of xs) at local type 0)
unfolding lower_array array_code exprs_of
array_is [] at local type = refl
array_is (x ∷ xs) at local type = rw (length_exprs_law xs)

pub no_array : (at n local type : ℕ) (p : Code) → n ≡ 0 → array_code at n local type p ≡ done
unfolding array_code
no_array at n local type p e = rw e

pub an_array : (at n local type : ℕ) (p : Code) → 0 < n → array_code at n local type p ≡ (act (emit (plain at ArrayResize 0 type)) then act (emit (plain at Local 0 local)) then act (emit (plain at U64Const 0 n)) then done) then p
unfolding array_code emits
an_array at zero local type p h = absurd (omega arith)
an_array at (suc n) local type p h = refl

run_back : (d : ℕ) (s : List ℕ) (stop at : ℕ) (body : List Stmt) → RunAt s stop (parse_stmt d s) at body stop → run s stop (parse_stmt d s) at ≡ ok body stop
unfolding run span unsigned room ◌>>=◌ bind
run_back d s stop at body k =
    let a : leb (at + 4) stop ≡ true = le-leb (at + 4) stop k.head in
    let b : leb (at + 4 + number 4 s at) stop ≡ true = le-leb (at + 4 + number 4 s at) stop (omega (arith, k.ends)) in
    let r : filling (parse_stmt d s) (at + 4 + number 4 s at) (at + 4) ≡ ok body stop = ap (λ x. filling (parse_stmt d s) x (at + 4)) (sym k.ends) ∙ k.reads in
    rw (run, span, unsigned, a, room, b) r

default_is : (d : ℕ) (s : List ℕ) (stop at m : ℕ) (x : Default) → DefaultAt d s stop at m x → default_from m d s stop at ≡ ok x stop
unfolding block_if give ◌>>=◌ bind
default_is d s stop at m x (none h) = ap (ok absent) h
default_is d s stop at m x (some body k) = rw (run_back d s stop at body k)

nothing_code : (d : ℕ) (s : List ℕ) (at stop m : ℕ) (t : Stmt) (span : BlockSpan) → m ≡ 0 → ReturnAt d s at stop m t → lower_stmt t span ≡ lower_return_nothing at
unfolding lower_stmt
nothing_code d s at stop m t span e (nothing h) = refl
nothing_code d s at stop m t span e (value x k) = absurd (omega (arith, e))

value_code : (d : ℕ) (s : List ℕ) (at stop m : ℕ) (t : Stmt) (span : BlockSpan) → (m ≡ 0 → ⊥) → ReturnAt d s at stop m t → Here d s stop (at + 6) stop × (lower_stmt t span ≡ lower_return at span.returns (expr_code d s stop (at + 6)))
unfolding lower_stmt
value_code d s at stop m t span h (nothing e) = absurd (h refl)
value_code d s at stop m t span h (value x k) = (here k, ap (lower_return at span.returns) (child k))

pub return_after : (at r : ℕ) (p : Code) → r ≡ 0 → lower_return at r p ≡ p then lower_return_nothing at
unfolding lower_return lower_return_nothing
return_after at r p e = rw e

pub return_before : (at r : ℕ) (p : Code) → (r ≡ 0 → ⊥) → lower_return at r p ≡ instr at Return 0 then p
unfolding lower_return
return_before at zero p h = absurd (h refl)
return_before at (suc r) p h = refl

module _ (depth : ℕ) (s : List ℕ) (end at : ℕ) (span : BlockSpan) (acc : Accepted (parse_stmt depth s end at)) where
  whole : stmt_code depth s end at span ≡ lower_stmt acc.0 span
  unfolding code_of
  whole = ap {B = Code} (code_of (λ t. lower_stmt t span)) acc.2

  pub break_code : get_or s (at + 4) 0 ≡ 8 → stmt_code depth s end at span ≡ jump_to 10 at span.break_target
  unfolding lower_stmt
  break_code kind = whole ∙ ap (λ t. lower_stmt t span) (break_at depth s end at acc.0 acc.1 acc.2 kind).tree

  pub continue_code : get_or s (at + 4) 0 ≡ 9 → stmt_code depth s end at span ≡ jump_to 11 at span.continue_target
  unfolding lower_stmt
  continue_code kind = whole ∙ ap (λ t. lower_stmt t span) (continue_at depth s end at acc.0 acc.1 acc.2 kind).tree

  pub init_here : get_or s (at + 4) 0 ≡ 7 → (at + 14 ≤ end_of s at) × (get_or s (at + 9) 0 < 23) × (stmt_code depth s end at span ≡ emits (default_instrs at (number 4 s (at + 5)) (get_or s (at + 9) 0) (number 4 s (at + 10))))
  unfolding lower_stmt
  init_here kind =
      let k = init_default_at depth s end at acc.0 acc.1 acc.2 kind in
      let z = stmt_placed depth s end at acc.2 in
      (omega (arith, k.ends, z.1), k.byte.small, whole ∙ ap (λ t. lower_stmt t span) k.tree)

  -- Return, by its mark
  pub return_fits : get_or s (at + 4) 0 ≡ 10 → at + 6 ≤ end_of s at
  return_fits kind = let k = returned_at depth s end at acc.0 acc.1 acc.2 kind in omega (arith, k.0.fits, (stmt_placed depth s end at acc.2).1)

  pub return_nothing_law : get_or s (at + 4) 0 ≡ 10 → get_or s (at + 5) 0 ≡ 0 → stmt_code depth s end at span ≡ lower_return_nothing at
  return_nothing_law kind z = whole ∙ nothing_code (depth - 1) s at acc.1 (get_or s (at + 5) 0) acc.0 span z (returned_at depth s end at acc.0 acc.1 acc.2 kind).1

  -- the holder u, d, stop is the node at `at`
  module _ (d : ℕ) (u : List ℕ) (stop : ℕ) where
    reads : Within depth s at d u stop → parse_stmt depth s end at ≡ ok acc.0 stop
    reads e = let k = stmt_at depth s end at acc.2 in acc.2 ∙ ap (ok acc.0) (k.ends ∙ sym e.1)

    pub eval_here : Within depth s at d u stop → get_or s (at + 4) 0 ≡ 1 → (at + 5 ≤ stop) × Accepted (exprs_from d u stop (at + 5)) × SameRun (fill_code Expression d u stop (at + 5) span) (stmt_code depth s end at span)
    unfolding lower_stmt
    eval_here e kind =
        let k = eval_at depth s end at acc.0 stop (reads e) kind in
        let one : Accepted (parse_expr (depth - 1) s stop (at + 5)) = (k.value, stop, k.one.reads) in
        let code = whole ∙ ap (λ t. lower_stmt t span) k.tree ∙ child k.one in
        rw (e.0, e.2) (omega (arith, k.one), single_run _ _ _ _ _ k.one.ends one, same_on (single_code _ _ _ _ _ k.one.ends one span) (same_code (sym code)))

    -- a condition and a block
    pub record WhileHere (second : ℕ) : Type 0 where
      pub one : Here d u stop (at + 5) second
      pub fits : second + 4 ≤ stop
      pub block : Accepted (filling (parse_stmt d u) stop (second + 4))
      pub code : stmt_code depth s end at span ≡
          (label at λ start. label at λ finish.
          act (mark start) then jump at JumpIfFalse finish then expr_code d u stop (at + 5) then
          fill_code Statement d u stop (second + 4) (in_loop start finish span) then jump at Jump start then act (mark finish))

    pub while_here : Within depth s at d u stop → (second : ℕ) → second ≡ end_of s (at + 5) → get_or s (at + 4) 0 ≡ 3 → WhileHere second
    unfolding lower_stmt code_of
    while_here e second e2 kind =
        let k = while_at depth s end at acc.0 stop (reads e) kind in
        let a : k.second ≡ second = k.one.ends ∙ sym e2 in
        rw (e.0, e.2, ← a) (record {
          one = here k.one;
          fits = k.run.head;
          block = (k.body, stop, k.run.reads);
          code = whole ∙ ap (λ t. lower_stmt t span) k.tree ∙ rw (child k.one, k.run.reads);
        })

    -- branches up to `list`, a mark there and a default block
    pub record BranchesHere (list there : ℕ) : Type 0 where
      pub fits : at + 9 ≤ list
      pub inner : list + 1 ≤ stop
      pub arms : Accepted (arms_from d u list (at + 9))
      pub default : DefaultHere there d u stop (list + 1)
      pub code : stmt_code depth s end at span ≡
          (label at λ next. label at λ exit.
          code_of (λ xs. lower_branches (branches_of xs) at next exit span) (arms_from d u list (at + 9)) then
          code_of (λ d. lower_default d span) (default_from there d u stop (list + 1)) then act (mark exit))

    pub branches_here : Within depth s at d u stop → (list there : ℕ) → list ≡ end_of s (at + 5) → there ≡ get_or s list 0 → get_or s (at + 4) 0 ≡ 4 → BranchesHere list there
    unfolding lower_stmt code_of
    branches_here e list there e2 f kind =
        let k = branches_at depth s end at acc.0 stop (reads e) kind in
        let a : k.list ≡ list = k.run.ends ∙ sym e2 in
        let b : there ≡ get_or s k.list 0 = f ∙ ap (λ x. get_or s x 0) (sym a) in
        let nine : at + 5 + 4 ≡ at + 9 = omega arith in
        let r : arms_from (depth - 1) s k.list (at + 9) ≡ ok k.arms k.list = rw nine at k.run.reads in
        let d = default_is (depth - 1) s stop (k.list + 1) (get_or s k.list 0) k.default k.last in
        rw (e.0, e.2, b, ← a) (record {
          fits = omega (arith, k.run.head);
          inner = k.mark.fits;
          arms = (k.arms, k.list, r);
          default = λ z. (k.default, d);
          code = whole ∙ ap (λ t. lower_stmt t span) k.tree ∙ rw (r, d);
        })

    -- a switch: what it is on, then at `second` its default's index and mark, its cases and its default
    pub record SwitchHere (type second : ℕ) : Type 0 where
      pub one : Here d u stop (at + 9) second
      pub cased : Cased (get_or u (second + 4) 0) d u stop second
      pub code : stmt_code depth s end at span ≡
          (label at λ finish. label at λ first. emit_switch at type first then expr_code d u stop (at + 9) then
          inside_code d u stop second at first (in_switch finish span) then act (mark finish))

    pub switch_here : Within depth s at d u stop → (type second : ℕ) → type ≡ number 4 s (at + 5) → second ≡ end_of s (at + 9) → get_or s (at + 4) 0 ≡ 5 → SwitchHere type second
    unfolding lower_stmt code_of inside_code mid_code default_answer
    switch_here e type second f e2 kind =
        let k = switch_at depth s end at acc.0 stop (reads e) kind in
        let a : k.second ≡ second = k.one.ends ∙ sym e2 in
        let nine : k.second + 5 + 4 ≡ k.second + 9 = omega arith in
        let r : cases_from (depth - 1) s k.second ≡ ok k.cases k.list = ap (λ l. arms_from (depth - 1) s l (k.second + 9)) (sym k.run.ends) ∙ rw nine at k.run.reads in
        let d : default_from (get_or s (k.second + 4) 0) (depth - 1) s stop (end_of s (k.second + 5)) ≡ ok k.default stop =
        rw k.run.ends at (default_is (depth - 1) s stop k.list (get_or s (k.second + 4) 0) k.default k.last) in
        rw (e.0, e.2, f, ← a) (record {
          one = here k.one;
          cased = record { cases = (k.cases, k.list, r); default = λ z. (k.default, d); head = omega (arith, k.run.head, k.run.ends); tail = omega (arith, k.run.tail, k.run.ends) };
          code = whole ∙ ap (λ t. lower_stmt t span) k.tree ∙ rw (child k.one, r, d);
        })

    -- InitArray
    pub array_run : Within depth s at d u stop → get_or s (at + 4) 0 ≡ 6 → (at + 17 ≤ stop) × Accepted (exprs_from d u stop (at + 17))
    array_run e kind = let k = init_array_at depth s end at acc.0 stop (reads e) kind in rw (e.0, e.2) (run_at (depth - 1) (at + 13) (at + 17) (omega arith) k.run)

    pub array_here : Within depth s at d u stop → (n local type : ℕ) → n ≡ length (list_of (exprs_from d u stop (at + 17))) → local ≡ number 4 s (at + 5) → type ≡ number 4 s (at + 9) → get_or s (at + 4) 0 ≡ 6 →
        stmt_code depth s end at span ≡ array_code at n local type (code_of (λ xs. lower_elements (exprs_of xs) at local type 0) (exprs_from d u stop (at + 17)))
    unfolding lower_stmt code_of list_of
    array_here e n local type q f g kind =
        let k = init_array_at depth s end at acc.0 stop (reads e) kind in
        let r : exprs_from (depth - 1) s stop (at + 17) ≡ ok k.elements stop = let z : at + 13 + 4 ≡ at + 17 = omega arith in rw z at k.run.reads in
        rw (e.0, e.2, (rw (e.0, e.2) at q), f, g, r) (whole ∙ ap (λ t. lower_stmt t span) k.tree ∙ array_is k.elements at (number 4 s (at + 5)) (number 4 s (at + 9)))

    -- Return
    pub return_value : Within depth s at d u stop → get_or s (at + 4) 0 ≡ 10 → (get_or s (at + 5) 0 ≡ 0 → ⊥) → Here d u stop (at + 6) stop × (stmt_code depth s end at span ≡ lower_return at span.returns (expr_code d u stop (at + 6)))
    return_value e kind z = let k = value_code (depth - 1) s at stop (get_or s (at + 5) 0) acc.0 span z (returned_at depth s end at acc.0 stop (reads e) kind).1 in rw (e.0, e.2) (k.0, whole ∙ k.1)

  pub nest_here : (stop : ℕ) → stop ≡ end_of s at → get_or s (at + 4) 0 ≡ 2 → (at + 9 ≤ stop) × Accepted (filling (parse_stmt (depth - 1) s) stop (at + 9)) × (stmt_code depth s end at span ≡ fill_code Statement (depth - 1) s stop (at + 9) span)
  unfolding lower_stmt
  nest_here stop e kind =
      let k = block_at depth s end at acc.0 stop (reads (depth - 1) s stop (refl, e, refl)) kind in
      let nine : at + 5 + 4 ≡ at + 9 = omega arith in
      let r : filling (parse_stmt (depth - 1) s) stop (at + 9) ≡ ok k.body stop = rw nine at k.run.reads in
      (omega (arith, k.run.head), (k.body, stop, r), whole ∙ ap (λ t. lower_stmt t span) k.tree ∙ sym (block_code (depth - 1) s stop (at + 9) span k.body stop r))

arm_code_law : (g : Code → Code → Code) (span : BlockSpan) (c : Expr) (b : Block) (xs : List Stmt) (p q : Code) → lower_expr c ≡ p → b ≡ block_of xs → q ≡ lower_block (block_of xs) span → g (lower_expr c) (lower_block b span) ≡ g p q
arm_code_law g span c b xs p q e f h = rw (e, f, h)

-- an item of Branches or Switch: an expression and at `second` a block, which ends at `third`
pub record ArmHere (d : ℕ) (s : List ℕ) (end at second third : ℕ) : Type 0 where
  pub one : Here d s end at second
  pub fits : second + 4 ≤ third
  pub tail : third ≤ end
  pub block : Accepted (filling (parse_stmt d s) third (second + 4))
  pub code : (g : Code → Code → Code) (span : BlockSpan) → arm_code (λ c b. g (lower_expr c) (lower_block b span)) d s end at ≡ g (expr_code d s end at) (fill_code Statement d s third (second + 4) span)

pub arm_here : (d : ℕ) (s : List ℕ) (end at : ℕ) → Accepted (arm s (parse_expr d s) (parse_stmt d s) end at) → (second third : ℕ) → second ≡ end_of s at → third ≡ end_of s second → ArmHere d s end at second third
unfolding code_of
arm_here d s end at acc second third e2 e3 =
    let k = arm_at d s end at acc.2 in
    let a : k.second ≡ second = k.one.ends ∙ sym e2 in
    let b : acc.1 ≡ third = k.run.ends ∙ ap (end_of s) a ∙ sym e3 in
    rw (← a, ← b) (record {
      one = here k.one;
      fits = k.run.head;
      tail = k.run.tail;
      block = (k.body, acc.1, k.run.reads);
      code = λ g span. ap {B = Code} (code_of (λ x. g (lower_expr x.0) (lower_block x.1 span))) acc.2 ∙ arm_code_law g span _ _ k.body _ _ (child k.one) k.block_is (block_code d s acc.1 (k.second + 4) span k.body acc.1 k.run.reads);
    })

-- a statement that is read, as a holder
pub stmt_fits : (d : ℕ) (s : List ℕ) (end at : ℕ) → Accepted (parse_stmt d s end at) → end ≤ length s → (0 < d) × (at + 4 ≤ length s) × (end_of s at ≤ length s)
stmt_fits d s end at acc h = let z = stmt_placed d s end at acc.2 in (omega (arith, z.0), omega (arith, z.0, h), omega (arith, z.0, h))

-- no other kind is read
unlisted : (k j : ℕ) → IsUnlisted 10 k → 1 ≤ j → j ≤ 10 → k ≡ j → ⊥
unlisted k j (inl z) a b q = omega (arith, z, a, q)
unlisted k j (inr l) a b q = omega (arith, l, b, q)

pub no_stmt : {X : Type 0} (depth : ℕ) (s : List ℕ) (end at : ℕ) → Accepted (parse_stmt depth s end at) → IsUnlisted 10 (get_or s (at + 4) 0) → X
no_stmt depth s end at acc h =
    let k = get_or s (at + 4) 0 in
    let n : (j : ℕ) → (1 ≤ j) → (j ≤ 10) → k ≡ j → ⊥ = (λ j a b q. unlisted k j h a b q) in
    no_other depth s end at acc.0 acc.1 acc.2 ((((((((((tt, n 1 (omega arith) (omega arith)), n 2 (omega arith) (omega arith)), n 3 (omega arith) (omega arith)), n 4 (omega arith) (omega arith)), n 5 (omega arith) (omega arith)), n 6 (omega arith) (omega arith)), n 7 (omega arith) (omega arith)), n 8 (omega arith) (omega arith)), n 9 (omega arith) (omega arith)), n 10 (omega arith) (omega arith))

-- the default block

pub no_default : (there d : ℕ) (s : List ℕ) (end at : ℕ) (f : Default → Code) → there ≡ 0 → code_of f (default_from there d s end at) ≡ f absent
unfolding block_if give code_of
no_default there d s end at f e = rw e

pub default_some : (there d : ℕ) (s : List ℕ) (end at : ℕ) → (there ≡ 0 → ⊥) → (x : Ended (default_from there d s end at) end) →
    (at + 4 ≤ end) × ((xs : List Stmt) × (filling (parse_stmt d s) end (at + 4) ≡ ok xs end) × (x.0 ≡ present (block_of xs)))
unfolding block_if
default_some zero d s end at h x = absurd (h refl)
default_some (suc m) d s end at h x =
    let l = run_ok s end (parse_stmt d s) _ at x.1 in
    let g = give_ok (present (block_of l.0)) (end_of s at) l.2 in
    let r : RunAt s end (parse_stmt d s) at l.0 end = rw g.1 at l.1 in
    (r.head, (l.0, r.reads, g.0))

pub a_default : (there d : ℕ) (s : List ℕ) (end at : ℕ) → (there ≡ 0 → ⊥) → Ended (default_from there d s end at) end → (at + 4 ≤ end) × Accepted (filling (parse_stmt d s) end (at + 4))
a_default there d s end at h x = let k = default_some there d s end at h x in (k.0, (k.1.0, end, k.1.1))

pub default_code : (there d : ℕ) (s : List ℕ) (end at : ℕ) (sc : BlockSpan) → (there ≡ 0 → ⊥) → Ended (default_from there d s end at) end →
    code_of (λ x. lower_default x sc) (default_from there d s end at) ≡ fill_code Statement d s end (at + 4) sc
unfolding code_of lower_stmt
default_code there d s end at sc h x =
    let k = default_some there d s end at h x in
    ap {B = Code} (code_of (λ x. lower_default x sc)) x.1 ∙ ap (λ y. lower_default y sc) k.1.2 ∙ sym (block_code d s end (at + 4) sc k.1.0 end k.1.1)

pub no_default_code : (there d : ℕ) (s : List ℕ) (end at : ℕ) (sc : BlockSpan) → there ≡ 0 → code_of (λ x. lower_default x sc) (default_from there d s end at) ≡ done
unfolding lower_stmt
no_default_code there d s end at sc e = no_default there d s end at (λ x. lower_default x sc) e

-- a default that stands among the cases: whatever its mark, it is that of mark 1
pub some_default : (there d : ℕ) (s : List ℕ) (end at : ℕ) → (there ≡ 0 → ⊥) → default_from there d s end at ≡ default_from 1 d s end at
unfolding block_if
some_default zero d s end at h = absurd (h refl)
some_default (suc m) d s end at h = refl
