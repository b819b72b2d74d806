-- What a class says of the parser of a node and of an item, and a run as far as it is read. Assumes nothing.
use native.Mathlib.Numerals.{sub-one}
use Rattle.std.proofs.Common.{◌≡◌, ℕ, zero, suc, ◌+◌, ◌-◌, ◌≤◌, ◌<◌, List, ◌∷◌, length, refl, sym, ap, ◌∙◌, arith}
use Rattle.definitions.specs.Answer.{Answer, ok, refused, bind}
use Rattle.definitions.specs.Read.{Parser, ◌>>=◌, give, unsigned, span, filling, head, node, ended, arm, parse_expr, parse_stmt}
use Rattle.ir.specs.Class.{node_of, kind_of, ItemTree, item_of}
use Rattle.ir.specs.Verdict.{map_value, no_value}
use Rattle.ir.specs.declared.Class.{Class}
use Rattle.ir.specs.declared.Class.TheVariants.{Statement, Expression}
use Rattle.ir.specs.declared.Item.{Item}
use Rattle.ir.specs.declared.Item.TheVariants.{Node, Arm}
use Rattle.laws.proofs.Inversion.{impossible}
use Rattle.ir.proofs.Inversion.{expr_moves, stmt_moves, fill_step, fill_nil}
use Rattle.ir.proofs.StmtPlaces.{arm_moves}

-- 1. A node of a class, and what its kind asks

node_ends : {A : Type 0} (s : List ℕ) (holder at : ℕ) (body : (code at end : ℕ) → Parser A)
    → no_value (node s holder body at) ≡ bind (span s holder at) (λ stop start. bind (unsigned s at stop 1 start) (λ code fields. bind (no_value (body code at stop fields)) (λ _ last. ended at stop tt last)))
unfolding node head ◌>>=◌ give bind ended
node_ends s holder at body = grind arith

module _ (class : Class) (s : List ℕ) where
  pub deep : (depth holder at : ℕ) → depth ≡ 0 → no_value (node_of class depth s holder at) ≡ refused 4 at 0
  unfolding parse_expr parse_stmt
  deep depth holder at z = go class
    where
      go : (class : Class) → no_value (node_of class depth s holder at) ≡ refused 4 at 0
      go Statement = rw z
      go Expression = rw z

  pub node_steps : (depth holder at : ℕ) → (depth ≡ 0 → ⊥)
      → no_value (node_of class depth s holder at)
      ≡ bind (span s holder at) (λ stop start. bind (unsigned s at stop 1 start) (λ code fields. bind (no_value (kind_of class (depth - 1) s code at stop fields)) (λ _ last. ended at stop tt last)))
  unfolding parse_expr parse_stmt
  node_steps depth holder at z = go class depth z
    where
      go : (class : Class) (depth : ℕ) → (depth ≡ 0 → ⊥)
          → no_value (node_of class depth s holder at)
          ≡ bind (span s holder at) (λ stop start. bind (unsigned s at stop 1 start) (λ code fields. bind (no_value (kind_of class (depth - 1) s code at stop fields)) (λ _ last. ended at stop tt last)))
      go class zero z = absurd (z refl)
      go Statement (suc depth) z = rw sub-one (node_ends s holder at _)
      go Expression (suc depth) z = rw sub-one (node_ends s holder at _)

  pub statement : (depth code at end p : ℕ) → class ≡ Statement → no_value (kind_of class depth s code at end p) ≡ no_value (kind_of Statement depth s code at end p)
  statement depth code at end p h = rw h

  pub expression : (depth code at end p : ℕ) → class ≡ Expression → no_value (kind_of class depth s code at end p) ≡ no_value (kind_of Expression depth s code at end p)
  expression depth code at end p h = rw h

-- 2. An item of a run

pub node_item : (item : Item) (class : Class) (depth : ℕ) (s : List ℕ) (end at : ℕ) (y : Answer (Unit {0})) → item ≡ Node class → y ≡ no_value (node_of class depth s end at) → y ≡ no_value (item_of item depth s end at)
node_item item class depth s end at y h e = rw h e

pub arm_item : (item : Item) (depth : ℕ) (s : List ℕ) (end at : ℕ) → item ≡ Arm → no_value (item_of item depth s end at) ≡ no_value (arm s (parse_expr depth s) (parse_stmt depth s) end at)
arm_item item depth s end at h = rw h

-- where an item stands among those of one depth: an arm has a run of nodes in it
abbrev pub rank : Item → ℕ
rank (Node class) = 0
rank Arm = 1

-- 3. A run, with the number of its items

-- k items before those that are counted
abbrev plus : ℕ → Answer ℕ → Answer ℕ
plus k x = map_value (λ n. k + n) x

plus_zero : (x : Answer ℕ) → x ≡ plus 0 x
plus_zero (ok n at) = ap (λ (n : ℕ). ok n at) (omega arith)
plus_zero (refused n p x) = refl

plus_one : (k : ℕ) (x : Answer ℕ) → plus k (plus 1 x) ≡ plus (k + 1) x
plus_one k (ok n at) = ap (λ (n : ℕ). ok n at) (omega arith)
plus_one k (refused n p x) = refl

one_before : {A : Type 0} (a : A) (x : Answer (List A)) → map_value length (bind x (λ xs. ok (a ∷ xs))) ≡ plus 1 (map_value length x)
unfolding bind
one_before a (ok xs at) = ap (λ (n : ℕ). ok n at) (omega arith)
one_before a (refused n p x) = refl

-- the items from `next` on, and `count` before them are the items from `first` on
pub record Filling {A : Type 0} (p : ℕ → Parser A) (stop first next count : ℕ) : Type 0 where
  pub fits : count ≤ next
  pub same : map_value length (filling p stop first) ≡ plus count (map_value length (filling p stop next))

module _ (item : Item) (depth : ℕ) (s : List ℕ) (stop first : ℕ) where
  moves : (at : ℕ) (x : ItemTree item) (n : ℕ) → item_of item depth s stop at ≡ ok x n → at < n
  moves = go item
    where
      go : (item : Item) (at : ℕ) (x : ItemTree item) (n : ℕ) → item_of item depth s stop at ≡ ok x n → at < n
      go (Node Statement) at x n e = stmt_moves depth s stop at x n e
      go (Node Expression) at x n e = expr_moves depth s stop at x n e
      go Arm at x n e = arm_moves depth s stop at x n e

  pub item_moves : (at n : ℕ) → ok tt n ≡ no_value (item_of item depth s stop at) → at < n
  item_moves at n e = go (item_of item depth s stop at) refl e
    where
      go : (x : Answer (ItemTree item)) → item_of item depth s stop at ≡ x → ok tt n ≡ no_value x → at < n
      go (ok v k) i e = let z : k ≡ n = cc in omega (arith, moves at v k i)
      go (refused a b c) i e = impossible (cc)

  abbrev pub FilledTo : (next count : ℕ) → Type 0
  FilledTo next count = Filling (item_of item depth s) stop first next count

  pub fill_none : FilledTo first 0
  fill_none = record { fits = omega arith; same = plus_zero _ }

  -- the first of those that are left, and the rest
  one_more : (next n : ℕ) → next < stop → ok tt n ≡ no_value (item_of item depth s stop next)
      → map_value length (filling (item_of item depth s) stop next) ≡ plus 1 (map_value length (filling (item_of item depth s) stop n))
  unfolding bind
  one_more next n l e = ap (map_value length) (fill_step (item_of item depth s) stop moves next l) ∙ go (item_of item depth s stop next) e
    where
      go : (x : Answer (ItemTree item)) → ok tt n ≡ no_value x
          → map_value length (bind x (λ a k. bind (filling (item_of item depth s) stop k) (λ xs. ok (a ∷ xs)))) ≡ plus 1 (map_value length (filling (item_of item depth s) stop n))
      go (ok a k) i = let z : k ≡ n = cc in rw z (one_before a (filling (item_of item depth s) stop n))
      go (refused a b c) i = impossible (cc)

  no_more : (next a b x : ℕ) → next < stop → refused a b x ≡ no_value (item_of item depth s stop next) → refused a b x ≡ map_value length (filling (item_of item depth s) stop next)
  unfolding bind
  no_more next a b x l e = go (item_of item depth s stop next) e ∙ sym (ap (map_value length) (fill_step (item_of item depth s) stop moves next l))
    where
      go : (y : Answer (ItemTree item)) → refused a b x ≡ no_value y → refused a b x ≡ map_value length (bind y (λ a k. bind (filling (item_of item depth s) stop k) (λ xs. ok (a ∷ xs))))
      go (ok v k) i = impossible (cc)
      go (refused n p q) i = cc

  pub fill_more : (next n count : ℕ) → FilledTo next count → next < stop → ok tt n ≡ no_value (item_of item depth s stop next) → FilledTo n (count + 1)
  fill_more next n count f l e = record { fits = omega (arith, f.fits, item_moves next n e); same = f.same ∙ ap (plus count) (one_more next n l e) ∙ plus_one count _ }

  pub fill_no : (next count a b x : ℕ) → FilledTo next count → next < stop → refused a b x ≡ no_value (item_of item depth s stop next) → refused a b x ≡ map_value length (filling (item_of item depth s) stop first)
  fill_no next count a b x f l e = ap (plus count) (no_more next a b x l e) ∙ sym f.same

  pub fill_end : (next count : ℕ) → FilledTo next count → stop ≤ next → ok count stop ≡ map_value length (filling (item_of item depth s) stop first)
  fill_end next count f l =
      let z : count ≡ count + 0 = omega arith in
      ap (λ (n : ℕ). ok n stop) z ∙ sym (f.same ∙ ap (λ (x : Answer (List (ItemTree item))). plus count (map_value length x)) (fill_nil (item_of item depth s) stop moves next l))
