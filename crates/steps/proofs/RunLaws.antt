-- A run that a loop goes through, item by item. Assumes nothing.
use Rattle.std.proofs.Common.{◌≡◌, ℕ, zero, suc, ◌+◌, ◌-◌, ◌<◌, ◌≤◌, List, [], ◌∷◌, ◌++◌, length, get_or, sym, refl, ap, ◌∙◌, arith}
use mathlib.Core.Option.{none}
use Rattle.std.specs.Prelude as std
use Rattle.definitions.specs.Answer.{Answer, ok, onward}
use Rattle.definitions.specs.Tree.{Expr, Stmt, exprs_of, block_of}
use Rattle.definitions.specs.Read.{Parser, filling, parse_expr, parse_stmt}
use Rattle.definitions.specs.Code.{Code, done, act, new, label, ◌then◌}
use Rattle.definitions.specs.Lower.{BlockSpan, lower_expr, lower_args, lower_arg, lower_stmt}
use Rattle.instr.specs.declared.refusals.Refusal.{Refusal}
use Rattle.ir.specs.Class.{TreeOf, node_of}
use Rattle.ir.specs.Places.{end_of}
use Rattle.ir.specs.declared.Class.{Class}
use Rattle.ir.specs.declared.Class.TheVariants.{Statement, Expression}
use Rattle.ir.proofs.Wider.{expr_wider, node_wider, fill_on}
use Rattle.ir.proofs.Inversion.{fill_some, fill_none, fill_nil, fill_cons, expr_at, stmt_at, expr_moves, stmt_moves}
use Rattle.steps.specs.Running.{Sinks, run}
use Rattle.steps.specs.Walked.{Accepted, code_of, ran, labels_of, lower_of, lower_all, node_code, fill_code, expr_code, exprs_from, args_code, list_of, marks_from, Called, NopsFrom, Ran, Walk}
use Rattle.laws.proofs.Results.{onward_assoc, onward_made, onward_same}
use Rattle.steps.proofs.StepLaws.{fresh_same, recode, SameRun, same_any, same_assoc, same_right, same_left, same_on, same_back, same_code, same_done, same_end}

-- 1. What is left

-- running q from v is what running p from w would be
pub record Goes {S : Type 0} (K : Sinks S) (p : Code) (w : Walk) (o : S) (m : List ℕ) (q : Code) (v : Walk) (o' : S) (m' : List ℕ) : Type 0 where
  pub same : onward (ran v o' m') (run K q) ≡ onward (ran w o m) (run K p)
  pub marked : length m' ≡ length m

pub goes_on : {S : Type 0} {K : Sinks S} {p q r : Code} {w v z : Walk} {o : S} {m : List ℕ} {o₁ : S} {m₁ : List ℕ} {o₂ : S} {m₂ : List ℕ} → Goes K p w o m q v o₁ m₁ → Goes K q v o₁ m₁ r z o₂ m₂ → Goes K p w o m r z o₂ m₂
goes_on a b = record { same = b.same ∙ a.same; marked = b.marked ∙ a.marked }

-- the first of two pieces is done
pub one_step : {S : Type 0} {K : Sinks S} {p : Code} (q : Code) {w v : Walk} {o : S} {m : List ℕ} {o' : S} {m' : List ℕ} → Ran K p w o m v o' m' → Goes K (p then q) w o m q v o' m'
unfolding run
one_step {K = K} {p = p} q {w = w} {o = o} {m = m} d = record { same = ap (λ x. onward x (run K q)) d.same ∙ onward_assoc (ran w o m) (run K p) (run K q); marked = d.marked }

-- a fresh label is made
pub fresh_step : {S : Type 0} {K : Sinks S} (at : ℕ) (k : ℕ → Code) (l : ℕ) {w v : Walk} {o : S} {m : List ℕ} {o' : S} {m' : List ℕ} → l ≡ labels_of w → Ran K (act (new at)) w o m v o' m' → Goes K (label at k) w o m (k l) v o' m'
fresh_step {K = K} at k l {w = w} {o = o} {m = m} e d = record { same = ap (λ x. onward x (run K (k l))) d.same ∙ fresh_same K at k w o m l e; marked = d.marked }

-- the same code by another name
pub renamed : {S : Type 0} {K : Sinks S} {p p' : Code} (w : Walk) (o : S) (m : List ℕ) → p ≡ p' → Goes K p w o m p' w o m
renamed {K = K} w o m e = record { same = ap (λ c. onward (ran w o m) (run K c)) (sym e); marked = refl }

-- a code that runs alike
pub goes_same : {S : Type 0} {K : Sinks S} {p q : Code} (w : Walk) (o : S) (m : List ℕ) → SameRun p q → Goes K p w o m q w o m
goes_same {K = K} {p = p} {q = q} w o m h = record { same = onward_same (ran w o m) (run K q) (run K p) (λ c _. sym (same_any K h c)); marked = refl }

-- nothing is left
pub goes_end : {S : Type 0} {K : Sinks S} {p : Code} {w v : Walk} {o : S} {m : List ℕ} {o' : S} {m' : List ℕ} → Goes K p w o m done v o' m' → Ran K p w o m v o' m'
unfolding run
goes_end {v = v} {o' = o'} {m' = m'} g = record { same = sym (onward_made (ran v o' m')) ∙ g.same; marked = g.marked }

-- the last piece is done
pub goes_last : {S : Type 0} {K : Sinks S} {p q : Code} {w v z : Walk} {o : S} {m : List ℕ} {o₁ : S} {m₁ : List ℕ} {o₂ : S} {m₂ : List ℕ} → Goes K p w o m q v o₁ m₁ → Ran K q v o₁ m₁ z o₂ m₂ → Ran K p w o m z o₂ m₂
goes_last g d = record { same = d.same ∙ g.same; marked = d.marked ∙ g.marked }

-- it was refused
pub goes_stops : {S : Type 0} {K : Sinks S} {p : Code} {q : Code} {w : Walk} {e : Refusal} {o : S} {m : List ℕ} {o' : S} {m' : List ℕ} → Goes K p w o m q (std.Err e) o' m' → Ran K p w o m (std.Err e) o' m'
unfolding ran onward
goes_stops g = record { same = g.same; marked = g.marked }

-- 2. The loop

-- at i: items that are read from there, whose code is left
pub record Rest {S : Type 0} (K : Sinks S) {A : Type 0} (p : ℕ → Parser A) (rest : List A → Code) (code : Code) (end : ℕ) (w : Walk) (o : S) (m : List ℕ) (i : ℕ) (v : Walk) (o' : S) (m' : List ℕ) : Type 0 where
  pub list : List A
  pub last : ℕ
  pub reads : filling p end i ≡ ok list last
  pub to : i ≤ end
  pub goes : Goes K code w o m (rest list) v o' m'

pub rest_start : {S : Type 0} {K : Sinks S} {A : Type 0} (p : ℕ → Parser A) (rest : List A → Code) (end at : ℕ) (w : Walk) (o : S) (m : List ℕ) → at ≤ end →
    Accepted (filling p end at) → Rest K p rest (code_of rest (filling p end at)) end w o m at w o m
unfolding code_of
rest_start p rest end at w o m h acc = record {
  list = acc.0;
  last = acc.1;
  reads = acc.2;
  to = h;
  goes = renamed w o m (ap {B = Code} (code_of rest) acc.2);
}

-- the item at i, and those after it
pub record Turn {A : Type 0} (p : ℕ → Parser A) (end i : ℕ) (list : List A) (last : ℕ) : Type 0 where
  pub item : A
  pub next : ℕ
  pub others : List A
  pub reads : p end i ≡ ok item next
  pub after : filling p end next ≡ ok others last
  pub whole : list ≡ item ∷ others

pub turn : {A : Type 0} (p : ℕ → Parser A) (end i : ℕ) → ((at : ℕ) (x : A) (n : ℕ) → p end at ≡ ok x n → at < n) → {list : List A} {last : ℕ} → i < end → filling p end i ≡ ok list last → Turn p end i list last
turn p end i moves h r = let f = fill_some p end moves i h r in record { item = f.0; next = f.1; others = f.2; reads = f.3; whole = f.4; after = f.5 }

module _ {S : Type 0} {K : Sinks S} {A : Type 0} (p : ℕ → Parser A) (rest rest' : List A → Code) (code : Code) (end : ℕ) (w : Walk) (o : S) (m : List ℕ) (i : ℕ) (v : Walk) (o₁ : S) (m₁ : List ℕ) (next : ℕ) (v₂ : Walk) (o₂ : S) (m₂ : List ℕ) where
  -- a turn: what the walk did for the item leaves the others
  pub rest_next : (l : Rest K p rest code end w o m i v o₁ m₁) (k : Turn p end i l.list l.last) → k.next ≡ next → next ≤ end →
      Goes K (rest (k.item ∷ k.others)) v o₁ m₁ (rest' k.others) v₂ o₂ m₂ → Rest K p rest' code end w o m next v₂ o₂ m₂
  rest_next l k e h g = record {
    list = k.others;
    last = l.last;
    reads = rw e at k.after;
    to = h;
    goes = goes_on l.goes (goes_on (renamed v o₁ m₁ (ap rest k.whole)) g);
  }

-- the end: no item is left
pub rest_end : {S : Type 0} {K : Sinks S} {A : Type 0} (p : ℕ → Parser A) (rest : List A → Code) (code : Code) (end : ℕ) (w : Walk) (o : S) (m : List ℕ) (i : ℕ) (v : Walk) (o₁ : S) (m₁ : List ℕ) →
    ((at : ℕ) (x : A) (n : ℕ) → p end at ≡ ok x n → at < n) → end ≤ i → Rest K p rest code end w o m i v o₁ m₁ → Goes K code w o m (rest []) v o₁ m₁
rest_end p rest code end w o m i v o₁ m₁ moves h l = goes_on l.goes (renamed v o₁ m₁ (ap rest (fill_none p end moves i h l.reads).0))

-- 3. Nodes of a class

-- where a node is that was read
pub record Placed (depth : ℕ) (s : List ℕ) (end at : ℕ) : Type 0 where
  pub deep : 0 < depth
  pub head : at + 5 ≤ end_of s at
  pub tail : end_of s at ≤ end

pub expr_placed : (d : ℕ) (s : List ℕ) (end at : ℕ) {e : Expr} {n : ℕ} → parse_expr d s end at ≡ ok e n → Placed d s end at × (n ≡ end_of s at)
expr_placed d s end at r = let k = expr_at d s end at r in (record { deep = k.deep; head = omega (arith, k.head, k.ends); tail = omega (arith, k.tail, k.ends) }, k.ends)

pub stmt_placed : (d : ℕ) (s : List ℕ) (end at : ℕ) {e : Stmt} {n : ℕ} → parse_stmt d s end at ≡ ok e n → Placed d s end at × (n ≡ end_of s at)
stmt_placed d s end at r = let k = stmt_at d s end at r in (record { deep = k.deep; head = omega (arith, k.head, k.ends); tail = omega (arith, k.tail, k.ends) }, k.ends)

pub placed : (class : Class) (d : ℕ) (s : List ℕ) (end at : ℕ) {e : TreeOf class} {n : ℕ} → node_of class d s end at ≡ ok e n → Placed d s end at × (n ≡ end_of s at)
placed Statement d s end at r = stmt_placed d s end at r
placed Expression d s end at r = expr_placed d s end at r

pub moves : (class : Class) (d : ℕ) (s : List ℕ) (end : ℕ) (at : ℕ) (x : TreeOf class) (n : ℕ) → node_of class d s end at ≡ ok x n → at < n
moves Statement d s end at x n r = stmt_moves d s end at x n r
moves Expression d s end at x n r = expr_moves d s end at x n r

pub node_code_law : (class : Class) (d : ℕ) (s : List ℕ) (end at : ℕ) (span : BlockSpan) {e : TreeOf class} {n : ℕ} → node_of class d s end at ≡ ok e n → node_code class d s end at span ≡ lower_of class span e
unfolding code_of
node_code_law class d s end at span r = ap {B = Code} (code_of (lower_of class span)) r

pub all_cons : (class : Class) (span : BlockSpan) (x : TreeOf class) (xs : List (TreeOf class)) → lower_all class span (x ∷ xs) ≡ lower_of class span x then lower_all class span xs
unfolding lower_expr lower_stmt exprs_of block_of
all_cons Statement span x xs = refl
all_cons Expression span x xs = refl

pub all_nil : (class : Class) (span : BlockSpan) → lower_all class span [] ≡ done
unfolding lower_expr lower_stmt exprs_of block_of
all_nil Statement span = refl
all_nil Expression span = refl

-- 4. Nodes that are a record, or none, and then their parts: the parts stand where the run goes on

all_append : (class : Class) (span : BlockSpan) (xs ys : List (TreeOf class)) → SameRun (lower_all class span xs then lower_all class span ys) (lower_all class span (xs ++ ys))
all_append class span [] ys = same_on (same_code (ap (λ p. p then lower_all class span ys) (all_nil class span))) (same_back (same_done _))
all_append class span (x ∷ xs) ys =
    same_on (same_code (ap (λ p. p then lower_all class span ys) (all_cons class span x xs)))
    (same_on (same_back (same_assoc _ _ _)) (same_on (same_right _ (all_append class span xs ys)) (same_code (sym (all_cons class span x (xs ++ ys))))))

module _ {S : Type 0} {K : Sinks S} (class : Class) (d : ℕ) (s : List ℕ) (span : BlockSpan) (code : Code) (end : ℕ) (w : Walk) (o : S) (m : List ℕ) (i : ℕ) (v : Walk) (o₁ : S) (m₁ : List ℕ) (v₂ : Walk) (o₂ : S) (m₂ : List ℕ) where
  -- the node at i, of which the walk did all that comes before its parts, which begin at `first`
  pub rest_flat : (l : Rest K (node_of class d s) (lower_all class span) code end w o m i v o₁ m₁) → i < end → (below stop first : ℕ) (head : Code) → below ≤ d →
      stop ≡ end_of s i → first ≤ stop → Accepted (filling (node_of class below s) stop first) → SameRun (head then fill_code class below s stop first span) (node_code class d s end i span) → Ran K head v o₁ m₁ v₂ o₂ m₂ → Rest K (node_of class d s) (lower_all class span) code end w o m first v₂ o₂ m₂
  unfolding code_of
  rest_flat l h below stop first head b e f parts same did =
      let k = turn (node_of class d s) end i (moves class d s end) h l.reads in
      let z = placed class d s end i k.reads in
      let others : filling (node_of class d s) end stop ≡ ok k.others l.last = rw (z.1 ∙ sym e) at k.after in
      let p : fill_code class below s stop first span ≡ lower_all class span parts.0 = ap {B = Code} (code_of (lower_all class span)) parts.2 in
      let q : SameRun (lower_all class span (k.item ∷ k.others)) (head then lower_all class span (parts.0 ++ k.others)) =
      same_on (same_code (all_cons class span k.item k.others ∙ ap (λ c. c then lower_all class span k.others) (sym (node_code_law class d s end i span k.reads))))
      (same_on (same_left (same_back same) _) (same_on (same_back (same_assoc _ _ _)) (same_right head (same_on (same_code (ap (λ c. c then lower_all class span k.others) p)) (all_append class span parts.0 k.others))))) in
      record {
        list = parts.0 ++ k.others;
        last = l.last;
        reads = fill_on (node_of class below s) (node_of class d s) stop end (omega (arith, e, z.0)) (node_wider class below d s stop end b (omega (arith, e, z.0))) (λ at x n r. let y = placed class below s stop at r in (moves class below s stop at x n r, omega (arith, y.0, y.1))) (moves class d s end) parts.0 k.others first parts.1 l.last f parts.2 others;
        to = omega (arith, e, f, z.0);
        goes = goes_on l.goes (goes_on (renamed v o₁ m₁ (ap (lower_all class span) k.whole)) (goes_on (goes_same v o₁ m₁ q) (one_step _ did)));
      }

-- 5. One expression as a run of its own

module _ (d : ℕ) (s : List ℕ) (end at stop : ℕ) (e : stop ≡ end_of s at) (acc : Accepted (parse_expr d s end at)) where
  single : exprs_from d s stop at ≡ ok (acc.0 ∷ []) stop
  single =
      let z = expr_placed d s end at acc.2 in
      let r : parse_expr d s stop at ≡ ok acc.0 acc.1 = expr_wider d d s end stop at (omega arith) (λ _. omega (arith, e)) acc.0 acc.1 acc.2 in
      fill_cons (parse_expr d s) stop (expr_moves d s stop) at (omega (arith, z.0, e)) r (fill_nil (parse_expr d s) stop (expr_moves d s stop) acc.1 (omega (arith, z.1, e)))

  pub single_run : Accepted (exprs_from d s stop at)
  single_run = (acc.0 ∷ [], stop, single)

  pub single_code : (span : BlockSpan) → SameRun (fill_code Expression d s stop at span) (expr_code d s end at)
  unfolding code_of
  single_code span =
      let p : fill_code Expression d s stop at span ≡ lower_all Expression span (acc.0 ∷ []) = ap {B = Code} (code_of (lower_all Expression span)) single in
      let q : expr_code d s end at ≡ lower_expr acc.0 = ap {B = Code} (code_of lower_expr) acc.2 in
      same_on (same_code (p ∙ all_cons Expression span acc.0 [])) (same_on (same_right (lower_expr acc.0) (same_code (all_nil Expression span))) (same_on (same_end _) (same_code (sym q))))

-- 6. Arguments

-- at i, where the mark of the next parameter is at p, and `left` are left
pub record ArgsRest {S : Type 0} (K : Sinks S) (d : ℕ) (s : List ℕ) (end site : ℕ) (code : Code) (w : Walk) (o : S) (m : List ℕ) (p left i : ℕ) (v : Walk) (o' : S) (m' : List ℕ) : Type 0 where
  pub rest : Rest K (parse_expr d s) (λ xs. lower_args (exprs_of xs) site (marks_from s p left)) code end w o m i v o' m'
  pub room : p + left ≤ i
  pub enough : length (list_of (exprs_from d s end i)) ≤ left

pub marks_long : (s : List ℕ) (p n : ℕ) → length (marks_from s p n) ≡ n
unfolding marks_from
marks_long s p zero = refl
marks_long s p (suc n) = ap suc (marks_long s (p + 1) n)

args_cons : (s : List ℕ) (site p left : ℕ) (x : Expr) (xs : List Expr) → 0 < left →
    lower_args (exprs_of (x ∷ xs)) site (marks_from s p left) ≡ lower_arg site (get_or s p 0) (lower_expr x) then lower_args (exprs_of xs) site (marks_from s (p + 1) (left - 1))
unfolding lower_expr exprs_of marks_from
args_cons s site p zero x xs h = absurd (omega arith)
args_cons s site p (suc n) x xs h = let z : suc n - 1 ≡ n = omega arith in rw z

pub args_start : {S : Type 0} {K : Sinks S} (d : ℕ) (s : List ℕ) (end at site params n : ℕ) (w : Walk) (o : S) (m : List ℕ) → at ≤ end → params + n ≤ at → length (list_of (exprs_from d s end at)) ≤ n →
    Accepted (exprs_from d s end at) → ArgsRest K d s end site (args_code d s end at site (marks_from s params n)) w o m params n at w o m
args_start d s end at site params n w o m h r l acc = record { rest = rest_start _ _ _ _ _ _ _ h acc; room = r; enough = l }

pub listed : {A : Type 0} (x : Answer (List A)) (xs : List A) (n : ℕ) → x ≡ ok xs n → list_of x ≡ xs
unfolding list_of
listed x xs n e = ap {B = List _} list_of e

module _ {S : Type 0} {K : Sinks S} {d : ℕ} {s : List ℕ} {end site : ℕ} {code : Code} {w : Walk} {o : S} {m : List ℕ} {p left i : ℕ} {v : Walk} {o₁ : S} {m₁ : List ℕ} (a : ArgsRest K d s end site code w o m p left i v o₁ m₁) (h : i < end) where
  pub args_turn : Turn (parse_expr d s) end i a.rest.list a.rest.last
  args_turn = turn (parse_expr d s) end i (expr_moves d s end) h a.rest.reads

  pub args_some : 0 < left
  args_some = let k = args_turn in omega (arith, a.enough, ap length (listed _ _ _ a.rest.reads), ap length k.whole)

  pub args_next : (short next : ℕ) (v₂ : Walk) (o₂ : S) (m₂ : List ℕ) → short ≡ get_or s p 0 → next ≡ end_of s i → Ran K (lower_arg site short (expr_code d s end i)) v o₁ m₁ v₂ o₂ m₂ →
      ArgsRest K d s end site code w o m (p + 1) (left - 1) next v₂ o₂ m₂
  args_next short next v₂ o₂ m₂ e f g =
      let k = args_turn in
      let z = expr_placed d s end i k.reads in
      let c : lower_arg site (get_or s p 0) (lower_expr k.item) ≡ lower_arg site short (expr_code d s end i) = rw e (ap (lower_arg site (get_or s p 0)) (sym (node_code_law Expression d s end i (record { break_target = none; continue_target = none; returns = 0 }) k.reads))) in
      record {
        rest = rest_next _ _ _ _ _ _ _ _ _ _ _ _ _ _ _ _ a.rest k (z.1 ∙ sym f) (omega (arith, z.0, f)) (goes_on (renamed _ _ _ (args_cons s site p left k.item k.others args_some)) (one_step _ (recode c g)));
        room = omega (arith, a.room, z.0, f, args_some);
        enough = let j : exprs_from d s end next ≡ ok k.others a.rest.last = rw (z.1 ∙ sym f) at k.after in omega (arith, a.enough, ap length (listed _ _ _ a.rest.reads), ap length k.whole, ap length (listed _ _ _ j), args_some);
      }

pub args_end : {S : Type 0} {K : Sinks S} {d : ℕ} {s : List ℕ} {end site : ℕ} {code : Code} {w : Walk} {o : S} {m : List ℕ} {p left i : ℕ} {v : Walk} {o₁ : S} {m₁ : List ℕ} {z : Walk} {o₂ : S} → ArgsRest K d s end site code w o m p left i v o₁ m₁ → end ≤ i →
    NopsFrom K site left v o₁ z o₂ → Ran K code w o m z o₂ m₁
unfolding lower_expr exprs_of
args_end {d = d} {s = s} {end = end} {p = p} {left = left} {m₁ = m₁} a h n = goes_last (rest_end _ _ _ _ _ _ _ _ _ _ _ (expr_moves d s end) h a.rest) ((n (marks_from s p left) (marks_long s p left)).did m₁)

-- what a call asks of its arguments

pub called_at : (d : ℕ) (s : List ℕ) (end p n : ℕ) → n ≡ get_or s (p + 11) 0 → Called d s end p → Accepted (exprs_from d s end (p + 16 + n)) × (p + 16 + n ≤ end)
called_at d s end p n e k = rw e ((k.args, end, k.reads), k.fits)

-- counting

pub record CountRest (d : ℕ) (s : List ℕ) (end at i n : ℕ) : Type 0 where
  pub acc : Accepted (exprs_from d s end i)
  pub to : i ≤ end
  pub few : n ≤ i
  pub same : n + length (list_of (exprs_from d s end i)) ≡ length (list_of (exprs_from d s end at))

pub count_start : (d : ℕ) (s : List ℕ) (end at : ℕ) → Accepted (exprs_from d s end at) → at ≤ end → CountRest d s end at at 0
count_start d s end at a h = record { acc = a; to = h; few = omega arith; same = omega arith }

module _ {d : ℕ} {s : List ℕ} {end at i n : ℕ} (r : CountRest d s end at i n) (h : i < end) where
  pub count_turn : Turn (parse_expr d s) end i r.acc.0 r.acc.1
  count_turn = turn (parse_expr d s) end i (expr_moves d s end) h r.acc.2

  pub count_next : (next : ℕ) → next ≡ end_of s i → CountRest d s end at next (n + 1)
  count_next next e =
      let k = count_turn in
      let z = expr_placed d s end i k.reads in
      let q : k.next ≡ next = z.1 ∙ sym e in
      let j : exprs_from d s end next ≡ ok k.others r.acc.1 = rw q at k.after in
      record {
        acc = (k.others, r.acc.1, j);
        to = omega (arith, z.0, e);
        few = omega (arith, r.few, z.0, e);
        same = omega (arith, r.same, ap length (listed _ _ _ r.acc.2), ap length k.whole, ap length (listed _ _ _ j));
      }

pub count_end : {d : ℕ} {s : List ℕ} {end at i n : ℕ} → CountRest d s end at i n → end ≤ i → n ≡ length (list_of (exprs_from d s end at))
count_end {d} {s} {end} {at} {i} r h = let z = (fill_none (parse_expr d s) end (expr_moves d s end) i h r.acc.2).0 in omega (arith, r.same, ap length (listed _ _ _ r.acc.2), ap length z)

pub run_some : (d : ℕ) (s : List ℕ) (end i n : ℕ) → Accepted (exprs_from d s end i) → i < end → n ≡ length (list_of (exprs_from d s end i)) → 0 < n
run_some d s end i n a h e = let k = turn (parse_expr d s) end i (expr_moves d s end) h a.2 in omega (arith, e, ap length (listed _ _ _ a.2), ap length k.whole)

pub run_none : (d : ℕ) (s : List ℕ) (end i : ℕ) → Accepted (exprs_from d s end i) → end ≤ i → length (list_of (exprs_from d s end i)) ≡ 0
run_none d s end i a h = ap length (listed _ _ _ a.2 ∙ (fill_none (parse_expr d s) end (expr_moves d s end) i h a.2).0)
