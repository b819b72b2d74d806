-- EVERY RECORD'S NODE IS THE PLACE OF A NODE OF THE TREE, so that a viewer that steps from an instruction to the script always finds one. Assumes nothing.
use Prim.Native.Nat.{ℕ, zero, suc, ◌+◌}
use mathlib.Core.Path.{◌≡◌, refl, sym, ◌∙◌}
use mathlib.Core.Bool.{Bool, true, false, cond}
use mathlib.Core.List.{List, [], ◌∷◌, ◌++◌}
use mathlib.Core.Logic.{inl, inr}
use mathlib.Core.Option.{Option, none, some}
use lib.Dec.{ltb}
use lib.IntN.{ℤ}
use lib.ListN.{get_or}
use Rattle.definitions.specs.Answer.{ok, made}
use Rattle.definitions.specs.Tag
use Rattle.definitions.specs.Tag.{default_tags}
use Rattle.definitions.specs.Tree.{Callee, Expr, Exprs, Stmt, Block, Branches, Cases, Default, Script, nop, const, null, new_instance, construct, assign, field, index, conditional, dyn_cast, local, intrinsic, free_call, static_call, instance_call, closure_call, enil, econs, expr, block, while, branches, switch, init_array, init_default, break, continue, return, return_nothing, bnil, bcons, brnil, brcons, cnil, ccons, absent, present, length_cases}
use Rattle.definitions.specs.Read.{parse_unit}
use Rattle.definitions.specs.Instr.{Instr}
use Rattle.definitions.specs.Code.{Action, new, mark, emit, refuse, Code, done, act, ◌then◌, label, many, emits, State}
use Rattle.definitions.specs.Lower.{require, require_flags, weak_to_ref, lower_field, lower_arg, nops, emit_invoke, emit_call, lower_expr, lower_exprs, lower_args, lower_elements, lower_array, primitive_default, default_instrs, lower_return, lower_return_nothing, BlockSpan, in_loop, in_switch, outside, jump_to, mid_default, ends_group, in_group, lower_stmt, lower_matchers, lower_bodies, lower_blocks, lower_cases, lower_last, lower_branches, lower_default, lower_block, code_of, lower}
use Rattle.definitions.specs.Stage.{stage}
use Rattle.laws.proofs.Results.{made_is}
use Rattle.laws.proofs.Inversion.{refusal_not_made}
use Rattle.landing.specs.Distance.{distances_of}
use Rattle.landing.specs.Landed.{Each, Far, filled, first_far, unless_far, with_distances}
use Rattle.landing.specs.Nodes.{nodes_expr, nodes_exprs, nodes_stmt, nodes_block, nodes_branches, nodes_cases, nodes_default, nodes_of, Among, EmittedBy}
use Rattle.landing.specs.Walk.{news, actions}
use Rattle.landing.proofs.Pieces.{records}
use Rattle.landing.proofs.Runs.{listing}
use Rattle.landing.proofs.Bytes.{◌&◌}
use Rattle.landing.proofs.Theorem.{staged}

-- 1. Lists

each_split : {A : Type 0} (P : A → Type 0) (a b : List A) → Each P (a ++ b) → Each P a × Each P b
each_split P [] b h = (tt, h)
each_split P (x ∷ a) b h = let r = each_split P a b h.1 in ((h.0, r.0), r.1)

-- a list's own entries are among it
each_among : (P : ℕ → Type 0) (ps : List ℕ) → ((p : ℕ) → Among p ps → P p) → Each P ps
unfolding Among
each_among P [] f = tt
each_among P (p ∷ ps) f = (f p (inl refl), each_among P ps (λ q h. f q (inr h)))

-- 2. Code whose records are all emitted by places with N

module _ (N : ℕ → Type 0) where
  abbrev By : List Instr → Type 0
  By is = Each (λ i. N i.node) is

  unfoldable All : Code → Type 0
  All done = Unit {0}
  All (act (new at)) = Unit {0}
  All (act (mark l)) = Unit {0}
  All (act (emit i)) = N i.node
  All (act (refuse n p x)) = Unit {0}
  All (p then q) = All p × All q
  All (label at k) = (l : ℕ) → All (k l)

  by_append : (a b : List Action) → By (records a) → By (records b) → By (records (a ++ b))
  unfolding records
  by_append [] b f g = g
  by_append (new at ∷ a) b f g = by_append a b f g
  by_append (mark l ∷ a) b f g = by_append a b f g
  by_append (emit i ∷ a) b f g = (f.0, by_append a b f.1 g)
  by_append (refuse n p x ∷ a) b f g = by_append a b f g

  -- so are the records of its actions
  all_records : (p : Code) (n : ℕ) → All p → By (records (actions p n))
  unfolding All actions records
  all_records done n h = tt
  all_records (act (new at)) n h = tt
  all_records (act (mark l)) n h = tt
  all_records (act (emit i)) n h = (h, tt)
  all_records (act (refuse c p x)) n h = tt
  all_records (p then q) n h =
      let a = actions p n in
      by_append a (actions q (n + news a)) (all_records p n h.0) (all_records q (n + news a) h.1)
  all_records (label at k) n h = all_records (k n) (n + 1) (h n)

  -- 3. Parts

  in_order : (is : List Instr) → By is → All (emits is)
  unfolding All emits
  in_order [] h = tt
  in_order (i ∷ is) h = (h.0, in_order is h.1)

  all_many : (at k : ℕ) (p : Code) → All p → All (many at k p)
  unfolding All many
  all_many at zero p h = h
  all_many at (suc k) p h = λ l. all_many at k p h

  all_cond : (b : Bool) (p q : Code) → All p → All q → All (cond b p q)
  all_cond true p q f g = f
  all_cond false p q f g = g

  all_require : (b : Bool) (c p x : ℕ) → All (require b c p x)
  unfolding All require
  all_require true c p x = tt
  all_require false c p x = tt

  all_flags : (es : Exprs) (i : ℕ) → All (require_flags es i)
  unfolding All require_flags
  all_flags enil i = tt
  all_flags (econs e es) i = (all_require _ 13 _ (i + 1), all_flags es (i + 1))

  -- of the node at `at`
  module _ (at : ℕ) (own : N at) where
    by_weak : (weak : ℕ) → All (weak_to_ref at weak)
    unfolding All weak_to_ref
    by_weak zero = tt
    by_weak (suc w) = own

    by_field : (form name : ℕ) (p : Code) → All p → All (lower_field at form name p)
    unfolding All lower_field
    by_field zero name p h = (own, h)
    by_field (suc weak) name p h = λ l. own & by_weak weak & h & own & tt

    by_arg : (short : ℕ) (p : Code) → All p → All (lower_arg at short p)
    unfolding All lower_arg
    by_arg zero p h = h
    by_arg (suc s) p h = λ l. own & h & tt

    by_nops : (ps : List ℕ) → All (nops at ps)
    unfolding All nops
    by_nops [] = tt
    by_nops (p ∷ ps) = (own, by_nops ps)

    by_invoke : (b exit line flags function name : ℕ) → All (emit_invoke at b exit line flags function name)
    unfolding All emit_invoke
    by_invoke zero exit line flags function name = own
    by_invoke (suc b) exit line flags function name = own

    by_call : (c : Callee) (es : Exprs) (p : Code) → All p → All (emit_call at c es p)
    unfolding All emit_call
    by_call c es p h = λ l. all_flags es 0 & by_invoke c.flags _ _ _ _ _ & h & own & tt

    by_value : (k i : ℕ) → By (primitive_default at k i)
    unfolding primitive_default
    by_value k i = go (ltb k 17) (cond (ltb k 4) i 0)
      where
        go : (b : Bool) (v : ℕ) → By (cond b (Rattle.definitions.specs.Instr.plain at (get_or default_tags k Tag.Nop) 0 v ∷ []) [])
        go true v = (own, tt)
        go false v = tt

    by_default : (l b i : ℕ) → By (default_instrs at l b i)
    unfolding default_instrs
    by_default l zero i = tt
    by_default l (suc zero) i = (own, (own, tt))
    by_default l (suc (suc zero)) i = (own, (own, (own, tt)))
    by_default l (suc (suc (suc zero))) i = (own, (own, (own, tt)))
    by_default l (suc (suc (suc (suc zero)))) i = (own, (own, (own, (own, tt))))
    by_default l (suc (suc (suc (suc (suc b))))) i = (own, (own, by_value _ i))

    by_return : (returns : ℕ) (p : Code) → All p → All (lower_return at returns p)
    unfolding All lower_return
    by_return zero p h = h & own & own
    by_return (suc r) p h = (own, h)

    by_jump : (number : ℕ) (l : Option ℕ) → All (jump_to number at l)
    unfolding All jump_to
    by_jump number none = tt
    by_jump number (some l) = own

    by_group : (g : Option ℕ) (k : ℕ → Code) → ((l : ℕ) → All (k l)) → All (in_group g at k)
    unfolding All in_group
    by_group none k h = h
    by_group (some l) k h = h l

  -- 4. Expressions, whose own node and all that it holds have N

  mutual
    unfolding All lower_expr nodes_expr

    by_expr : (e : Expr) → Each N (nodes_expr e) → All (lower_expr e)
    by_expr (nop at) h = h.0
    by_expr (const at b v) h = h.0
    by_expr (null at w) h = h.0
    by_expr (new_instance at c) h = h.0
    by_expr (construct at c es) h = all_require _ 12 at _ & h.0 & by_exprs es h.1
    by_expr (assign at p e) h = let r = each_split N (nodes_expr p) _ h.1 in h.0 & by_expr p r.0 & by_expr e r.1
    by_expr (field at f n e) h = by_field at h.0 f n _ (by_expr e h.1)
    by_expr (index at d t a i) h = let r = each_split N (nodes_expr a) _ h.1 in h.0 & by_expr a r.0 & by_expr i r.1
    by_expr (conditional at c t e) h =
        let r = each_split N (nodes_expr c) _ h.1 in
        let q = each_split N (nodes_expr t) _ r.1 in
        λ l m. h.0 & by_expr c r.0 & by_expr t q.0 & tt & by_expr e q.1 & tt
    by_expr (dyn_cast at c w e) h = (h.0, by_expr e h.1)
    by_expr (local at f i) h = h.0
    by_expr (intrinsic at k s t i es) h = all_require _ 14 at 0 & h.0 & by_exprs es h.1
    by_expr (free_call at c es) h = by_call at h.0 c es _ (by_args es at h.0 c.params h.1)
    by_expr (static_call at c es) h = λ l. (by_call at h.0 c es _ (by_args es at h.0 c.params h.1), tt)
    by_expr (instance_call at w e c es) h =
        let r = each_split N (nodes_expr e) _ h.1 in
        λ l. h.0 & by_weak at h.0 w & by_expr e r.0 & by_call at h.0 c es _ (by_args es at h.0 c.params r.1) & tt
    by_expr (closure_call at e n line es) h =
        let r = each_split N (nodes_expr e) _ h.1 in
        λ l. h.0 & by_expr e r.0 & tt & (λ m. h.0 & by_exprs es r.1 & h.0 & tt)

    by_exprs : (es : Exprs) → Each N (nodes_exprs es) → All (lower_exprs es)
    by_exprs enil h = tt
    by_exprs (econs e es) h = let r = each_split N (nodes_expr e) _ h in (by_expr e r.0, by_exprs es r.1)

    by_args : (es : Exprs) (at : ℕ) → N at → (params : List ℕ) → Each N (nodes_exprs es) → All (lower_args es at params)
    by_args enil at own ps h = by_nops at own ps
    by_args (econs e es) at own [] h = let r = each_split N (nodes_expr e) _ h in (by_expr e r.0, by_args es at own [] r.1)
    by_args (econs e es) at own (p ∷ ps) h = let r = each_split N (nodes_expr e) _ h in (by_arg at own p _ (by_expr e r.0), by_args es at own ps r.1)

  by_elements : (es : Exprs) (at : ℕ) → N at → (l t i : ℕ) → Each N (nodes_exprs es) → All (lower_elements es at l t i)
  unfolding All lower_elements emits nodes_expr
  by_elements enil at own l t i h = tt
  by_elements (econs e es) at own l t i h = let r = each_split N (nodes_expr e) _ h in (own & own & own & own & tt) & by_expr e r.0 & by_elements es at own l t (i + 1) r.1

  by_array : (es : Exprs) (at : ℕ) → N at → (l t : ℕ) → Each N (nodes_exprs es) → All (lower_array es at l t)
  unfolding All lower_array emits nodes_expr
  by_array enil at own l t h = tt
  by_array (econs e es) at own l t h = (own & own & own & tt) & by_elements (econs e es) at own l t 0 h

  -- 5. Statements

  mutual
    unfolding All lower_stmt nodes_stmt lower_return_nothing

    by_stmt : (x : Stmt) (span : BlockSpan) → Each N (nodes_stmt x) → All (lower_stmt x span)
    by_stmt (expr at e) span h = by_expr e h.1
    by_stmt (block at b) span h = by_block b span h.1
    by_stmt (while at c b) span h =
        let r = each_split N (nodes_expr c) _ h.1 in
        λ start end. tt & h.0 & by_expr c r.0 & by_block b (in_loop start end span) r.1 & h.0 & tt
    by_stmt (branches at bs d) span h =
        let r = each_split N (nodes_branches bs) _ h.1 in
        λ next exit. by_branches bs at h.0 next exit span r.0 & by_else d span r.1 & tt
    by_stmt (switch at t e i cs d) span h =
        let r = each_split N (nodes_expr e) _ h.1 in
        let q = each_split N (nodes_cases cs) _ r.1 in
        λ end first. h.0 & by_expr e r.0 & all_cond (mid_default d i cs) _ _
        (λ body. all_many at (length_cases cs) _ (by_matchers cs at h.0 first body q.0 & h.0 & h.0 & by_bodies cs i body (body + length_cases cs) _ (by_else d (in_switch end span) q.1) (in_switch end span) q.0))
        (by_cases cs at h.0 first none (in_switch end span) q.0 & by_last d at h.0 (in_switch end span) q.1) & tt
    by_stmt (init_array at l t es) span h = by_array es at h.0 l t h.1
    by_stmt (init_default at l b i) span h = in_order (default_instrs at l b i) (by_default at h.0 l b i)
    by_stmt (break at) span h = by_jump at h.0 10 span.break_target
    by_stmt (continue at) span h = by_jump at h.0 11 span.continue_target
    by_stmt (return at e) span h = by_return at h.0 span.returns _ (by_expr e h.1)
    by_stmt (return_nothing at) span h = (h.0, h.0)

    by_matchers : (cs : Cases) (at : ℕ) → N at → (next body : ℕ) → Each N (nodes_cases cs) → All (lower_matchers cs at next body)
    by_matchers cnil at own next body h = tt
    by_matchers (ccons m b cs) at own next body h =
        let r = each_split N (nodes_expr m) _ h in
        let q = each_split N (nodes_block b) _ r.1 in
        tt & (λ l. own & by_expr m r.0 & by_matchers cs at own l (body + 1) q.1)

    by_bodies : (cs : Cases) (defaultIndex body dflt : ℕ) (default : Code) → All default → (span : BlockSpan) → Each N (nodes_cases cs) → All (lower_bodies cs defaultIndex body dflt default span)
    by_bodies cnil i body dflt default f span h = tt
    by_bodies (ccons m b cs) zero body dflt default f span h =
        let r = each_split N (nodes_expr m) _ h in
        let q = each_split N (nodes_block b) _ r.1 in
        tt & f & tt & by_block b span q.0 & by_blocks cs (body + 1) span q.1
    by_bodies (ccons m b cs) (suc i) body dflt default f span h =
        let r = each_split N (nodes_expr m) _ h in
        let q = each_split N (nodes_block b) _ r.1 in
        tt & by_block b span q.0 & by_bodies cs i (body + 1) dflt default f span q.1

    by_blocks : (cs : Cases) (body : ℕ) (span : BlockSpan) → Each N (nodes_cases cs) → All (lower_blocks cs body span)
    by_blocks cnil body span h = tt
    by_blocks (ccons m b cs) body span h =
        let r = each_split N (nodes_expr m) _ h in
        let q = each_split N (nodes_block b) _ r.1 in
        tt & by_block b span q.0 & by_blocks cs (body + 1) span q.1

    by_cases : (cs : Cases) (at : ℕ) → N at → (next : ℕ) (group : Option ℕ) (span : BlockSpan) → Each N (nodes_cases cs) → All (lower_cases cs at next group span)
    by_cases cnil at own next group span h = tt
    by_cases (ccons m b cs) at own next group span h =
        let r = each_split N (nodes_expr m) _ h in
        let q = each_split N (nodes_block b) _ r.1 in
        by_group at own group _ λ body. tt & (λ l. own & by_expr m r.0 & all_cond (ends_group b cs) _ _ (tt & by_block b span q.0 & by_cases cs at own l none span q.1) (by_cases cs at own l (some body) span q.1))

    by_last : (d : Default) (at : ℕ) → N at → (span : BlockSpan) → Each N (nodes_default d) → All (lower_last d at span)
    by_last absent at own span h = tt
    by_last (present b) at own span h = (own, by_block b span h)

    by_branches : (bs : Branches) (at : ℕ) → N at → (next exit : ℕ) (span : BlockSpan) → Each N (nodes_branches bs) → All (lower_branches bs at next exit span)
    by_branches brnil at own next exit span h = tt
    by_branches (brcons c b bs) at own next exit span h =
        let r = each_split N (nodes_expr c) _ h in
        let q = each_split N (nodes_block b) _ r.1 in
        own & by_expr c r.0 & by_block b span q.0 & own & tt & (λ l. by_branches bs at own l exit span q.1)

    by_else : (d : Default) (span : BlockSpan) → Each N (nodes_default d) → All (lower_default d span)
    by_else absent span h = tt
    by_else (present b) span h = by_block b span h

    by_block : (b : Block) (span : BlockSpan) → Each N (nodes_block b) → All (lower_block b span)
    by_block bnil span h = tt
    by_block (bcons x b) span h = let r = each_split N (nodes_stmt x) _ h in (by_stmt x span r.0, by_block b span r.1)

-- 6. The theorem

-- of every tree whose walk does not refuse
pub emitting_nodes : (u : Script) (t : State) → lower u ≡ made t → EmittedBy u t.instrs
emitting_nodes u t e =
    let N : ℕ → Type 0 = λ p. Among p (nodes_of u) in
    rw (listing u t e) (all_records N (code_of u) 0 (by_block N u.body (outside u.returns) (each_among N (nodes_of u) (λ p h. h))))

-- distances in place of labels leave the nodes
pub filled_nodes : (u : Script) (is : List Instr) (ds : List ℤ) → EmittedBy u is → EmittedBy u (filled is ds)
unfolding filled
filled_nodes u [] ds h = tt
filled_nodes u (i ∷ is) ds h = (h.0, filled_nodes u is _ h.1)

unless_is : (far : Far) (is js : List Instr) → unless_far far is ≡ made js → is ≡ js
unfolding unless_far
unless_is none is js e = made_is e
unless_is (some p) is js e = refusal_not_made e

-- so the resolved listing of every unit has them too
pub resolved_nodes : (s : List ℕ) (u : Script) (next : ℕ) → parse_unit s ≡ ok u next → (t : State) → lower u ≡ made t → (is : List Instr) → stage s ≡ made is → EmittedBy u is
unfolding with_distances
resolved_nodes s u next read t e is resolved =
    let same = unless_is (first_far 0 t.instrs (distances_of u)) (filled t.instrs (distances_of u)) is (sym (staged s u next read t e) ∙ resolved) in
    rw (← same) (filled_nodes u t.instrs (distances_of u) (emitting_nodes u t e))
