-- Fields, runs and nodes in step, whatever the reading. Assumes nothing.
use Prim.Native.Nat.{ℕ, zero, suc, ◌+◌, ◌-◌, ◌≤◌, ◌<◌}
use mathlib.Core.Path.{◌≡◌, refl, ap, ◌∙◌}
use mathlib.Core.Bool.{Bool, true, false, cond}
use mathlib.Core.List.{List, [], ◌∷◌, map}
use native.Mathlib.Omega.{arith}
use native.Mathlib.Nat.{add-zero, zero-add}
use lib.Dec.{ltb, eqb}
use lib.ListN.{length, get_or, get_elem?}
use borrow.Author.Tests.{ltb-true, ltb-false, le-ltb}
use Rattle.definitions.specs.Answer.{ok, bind}
use Rattle.definitions.specs.Tree.{Expr}
use Rattle.definitions.specs.Strip.{Part, parts_of}
use Rattle.definitions.specs.Read.{Parser, ◌>>=◌, give, unsigned, byte_below, mark_bytes, as_const, filling, run, head, ended, node, pick}
use Rattle.ir.proofs.Inversion.{unsigned_is, byte_below_ok, payload_ok, give_ok, items_stop, span_is, head_is, fill_step, fill_nil}
use Rattle.instep.specs.Moves.{Moves, moved_expr}
use Rattle.instep.proofs.InStep.{InStep, passes, also, widen, gives, tested, next, onto, unknown}
use Rattle.instep.proofs.Reading.{Reading, AfterWithin, below, marks_rest, items_rest, run_rest, kind_rest, node_rest, parts_rest}

-- each item is a byte at least; and ends where its holder does, or before
abbrev pub Advances : {A : Type 0} → (ℕ → Parser A) → Type 0
Advances {A} p = (to at : ℕ) (x : A) (n : ℕ) → p to at ≡ ok x n → at < n

abbrev pub AdvancesWithin : {A : Type 0} → (ℕ → Parser A) → Type 0
AdvancesWithin {A} p = (to at : ℕ) (x : A) (n : ℕ) → p to at ≡ ok x n → (at < n) × (n ≤ to)

module _ {s t : List ℕ} {m : Moves} (P : Reading s t m) where
  -- 1. Fields

  -- a field that may not differ, one that may, and a constant, in a node that ends at `end`
  pub field : {next : ℕ → P.Rest} {at : ℕ} (nd end w : ℕ) → end ≤ P.most → AfterWithin P end (P.keep end w next) at
      → InStep m.place at (λ v. v) (λ v n. AfterWithin P end (next v) n) (unsigned s nd end w) (unsigned t (m.place nd) (m.place end) w)
  field {at = at} nd end w near h = widen (λ v n e i. let u = unsigned_is s nd end w at e in (i, omega arith)) (P.kept nd end w near h.1 h.0)

  pub blank : {next : ℕ → P.Rest} {at : ℕ} (nd end w : ℕ) → end ≤ P.most → AfterWithin P end (P.blank end w next) at
      → InStep m.place at m.free (λ v n. AfterWithin P end (next v) n) (unsigned s nd end w) (unsigned t (m.place nd) (m.place end) w)
  blank {at = at} nd end w near h = widen (λ v n e i. let u = unsigned_is s nd end w at e in (i, omega arith)) (P.blanked nd end w near h.1 h.0)

  const_ends : (nd end at : ℕ) (x : Expr) (n : ℕ) → as_const s nd end at ≡ ok x n → n ≤ end
  unfolding as_const
  const_ends nd end at x n e =
      let b = byte_below_ok s nd end 16 _ at e in
      let v = payload_ok s nd end (get_or s at 0) _ (at + 1) b.1 in
      let g = give_ok _ _ v.1 in
      omega (arith, v.0, g.1)

  pub constant : {C : P.Rest} {at : ℕ} (nd end : ℕ) → end ≤ P.most → AfterWithin P end (P.payload end C) at
      → InStep m.place at (moved_expr m) (λ e n. AfterWithin P end C n) (as_const s nd end) (as_const t (m.place nd) (m.place end))
  constant {at = at} nd end near h = widen (λ x n e i. (i, const_ends nd end at x n e)) (P.constants nd end near h.1 h.0)

  -- a byte below a bound, and n of them
  pub small : {next : ℕ → P.Rest} {at : ℕ} (nd end bound : ℕ) → end ≤ P.most → AfterWithin P end (below P end bound next) at
      → InStep m.place at (λ v. v) (λ v n. AfterWithin P end (next v) n) (byte_below s nd end bound) (byte_below t (m.place nd) (m.place end) bound)
  unfolding byte_below ◌>>=◌ give
  small {next = k} nd end bound near h =
      also (onto (field nd end 1 near h) (λ v n i e. tested (ltb v bound) (ltb v bound) 2 nd 0 refl (λ j.
      let i' : AfterWithin P end (cond true (k v) P.stop) n = rw j at i in gives v v i' refl))) refl refl

  pub marks : {C : P.Rest} {at : ℕ} (nd end n : ℕ) → end ≤ P.most → AfterWithin P end (marks_rest P end n C) at
      → InStep m.place at (λ v. v) (λ v o. (length v ≡ n) × AfterWithin P end C o) (mark_bytes s nd end n) (mark_bytes t (m.place nd) (m.place end) n)
  unfolding mark_bytes marks_rest
  marks nd end zero near h = gives [] [] (refl, h) refl
  marks nd end (suc n) near h =
      onto (small nd end 2 near h) (λ v o i e. onto (marks nd end n near i) (λ vs o i e. gives (v ∷ vs) (v ∷ vs) (ap suc i.0, i.1) refl))

  -- nothing is left
  pub closes : {A : Type 0} {f : A → A} {C : P.Rest} {at : ℕ} (nd end : ℕ) (a a' : A) → end ≤ P.most → AfterWithin P end (P.close end C) at → a' ≡ f a
      → InStep m.place at f (λ a n. AfterWithin P end C n) (ended nd end a) (ended (m.place nd) (m.place end) a')
  unfolding ended give
  closes {at} nd end a a' near h e =
      let c = P.closed end near h.1 h.0 in
      also (tested (eqb at end) (eqb (m.place at) (m.place end)) 3 nd 0 c.0 (λ i. gives a a' (c.1 i, h.1) e)) refl refl

  -- 2. Runs

  -- items of holders that end at most at `bound`, in step where `item` says what stands before each
  abbrev pub Items : {A : Type 0} (g : A → A) → (item : ℕ → P.Rest → P.Rest) → (bound : ℕ) → (p p' : ℕ → Parser A) → Type 0
  Items g item bound p p' =
      (to : ℕ) → to ≤ bound → (C : P.Rest) (at : ℕ) → at ≤ to → P.After (item to C) at → InStep m.place at g (λ x n. P.After C n) (p to) (p' (m.place to))

  -- items up to `end`
  module _ {A : Type 0} {g : A → A} (p p' : ℕ → Parser A) (item : P.Rest → P.Rest) (end : ℕ) (rest : ℕ → P.Rest) (near : end ≤ P.most)
      (goes : (at : ℕ) (x : A) (n : ℕ) → p end at ≡ ok x n → (at < n) × (n ≤ end)) (goes' : (at : ℕ) (x : A) (n : ℕ) → p' (m.place end) at ≡ ok x n → at < n)
      (each : (C : P.Rest) (at : ℕ) → at ≤ end → P.After (item C) at → InStep m.place at g (λ x n. P.After C n) (p end) (p' (m.place end))) where
    -- from `at` on, where c items have been read
    abbrev pub Fill : (c at : ℕ) → Type 0
    Fill c at = InStep m.place at (map g) (λ xs n. P.After (rest (c + length xs)) n) (filling p end) (filling p' (m.place end))

    -- no item is left
    last : (C : P.Rest) (c at : ℕ) → at ≤ end → ltb at end ≡ false → P.After (P.choose end C (rest c)) at → Fill c at
    last C c at i e h =
        let o = P.chosen end near i h in
        let l = ltb-false at end e in
        let l' = ltb-false (m.place at) (m.place end) (o.0 ∙ e) in
        let z : P.After (rest (c + 0)) end = rw (add-zero c) (o.2 e) in
        passes [] end z (fill_nil p end (λ a x n r. (goes a x n r).0) at l) (fill_nil p' (m.place end) goes' (m.place at) l')

    pub fills : (fuel c at : ℕ) → at ≤ end → end ≤ at + fuel → P.After (items_rest P item (suc fuel) end c rest) at → Fill c at
    unfolding items_rest ◌>>=◌ give bind
    fills zero c at i l h = last _ c at i (le-ltb at end (omega arith)) h
    fills (suc fuel) c at y l h = go (ltb at end) refl (λ n i z j. fills fuel (suc c) n i z j)
      where
        go : (b : Bool) → ltb at end ≡ b
            → ((n : ℕ) → n ≤ end → end ≤ n + fuel → P.After (items_rest P item (suc fuel) end (suc c) rest) n → Fill (suc c) n) → Fill c at
        go true e more =
            let o = P.chosen end near y h in
            let i = ltb-true at end e in
            let i' = ltb-true (m.place at) (m.place end) (o.0 ∙ e) in
            also (next (each _ at y (o.1 e)) (λ x x' d n j r.
            let k = goes at x n r in
            next (more n k.1 (omega (arith, k.0)) j) (λ xs xs' b n j r.
            let z : suc c + length xs ≡ c + suc (length xs) = omega arith in
            let y : P.After (rest (c + suc (length xs))) n = rw z at j in
            gives (x ∷ xs) (x' ∷ xs') y (cc (d, b)))))
            (fill_step p end (λ a x n r. (goes a x n r).0) at i) (fill_step p' (m.place end) goes' (m.place at) i')
        go false e more = last _ c at y e h

  pub runs : {A : Type 0} {g : A → A} {at : ℕ} (rest : ℕ → P.Rest) (p p' : ℕ → Parser A) (item : ℕ → P.Rest → P.Rest) (end : ℕ) → end ≤ P.most
      → AdvancesWithin p → Advances p' → Items g item end p p' → AfterWithin P end (run_rest P end item rest) at
      → InStep m.place at (map g) (λ xs n. AfterWithin P end (rest (length xs)) n) (run s end p) (run t (m.place end) p')
  unfolding run filling
  runs {at} rest p p' item end near goes goes' each h =
      next (P.measured end near h.1 h.0) (λ to to' d n i e.
      let z = span_is s end at e in
      rw d (widen (λ xs o q j.
      let stop = items_stop (p to) (suc (to - n)) to n q in
      let j' : P.After (rest (length xs)) o = rw (zero-add (length xs)) at j in
      (j', omega arith))
      (fills p p' (item to) to rest (omega arith) (goes to) (goes' (m.place to)) (each to (omega arith)) (to - n) 0 n (omega arith) (omega arith) (P.there i))))

  -- 3. Nodes

  -- the kind and where the node ends
  heads : {at : ℕ} (C : P.Rest) (holder : ℕ) (all : List (List Part)) (v c : ℕ → P.Rest → P.Rest) → holder ≤ P.most
      → AfterWithin P holder (node_rest P holder all v c C) at → InStep m.place at (λ x. (x.0, m.place x.1))
      (λ x n. AfterWithin P x.1 (kind_rest P v c x.1 (parts_of all x.0) C) n) (head s holder) (head t (m.place holder))
  unfolding head node_rest
  heads {at} C holder all v c near h =
      also (next (P.measured holder near h.1 h.0) (λ end end' d n i e.
      let z = span_is s holder at e in
      rw d (onto (field at end 1 (omega arith) (i, omega arith)) (λ kind o j r. gives (kind, end) (kind, m.place end) j refl)))) refl refl

  -- a node, with what its kind holds in step
  pub nodes : {A : Type 0} {at : ℕ} {f : A → A} (C : P.Rest) (body body' : (kind at end : ℕ) → Parser A) (holder : ℕ) (all : List (List Part))
      (v c : ℕ → P.Rest → P.Rest) → holder ≤ P.most
      → ((kind end n : ℕ) → end ≤ holder → AfterWithin P end (kind_rest P v c end (parts_of all kind) C) n
      → InStep m.place n f (λ a n. AfterWithin P end (P.close end C) n) (body kind at end) (body' kind (m.place at) (m.place end)))
      → AfterWithin P holder (node_rest P holder all v c C) at → InStep m.place at f (λ a n. P.After C n) (node s holder body) (node t (m.place holder) body')
  unfolding node
  nodes {at} C body body' holder all v c near each h =
      also (next (heads C holder all v c near h) (λ x x' d n i e.
      let z = head_is s holder at e in
      let b : x.1 ≤ holder = rw (← z.2) z.1 in
      rw d (next (each x.0 x.1 n b i) (λ a a' o n j r. widen (λ a n e i. i.0) (closes at x.1 a a' (omega arith) j o))))) refl refl

  -- 4. Kinds

  module _ {A : Type 0} (f : A → A) (v c : ℕ → P.Rest → P.Rest) (at end : ℕ) where
    -- a kind of these parts, read by p and by p' in the node at `at` that ends at `end`
    abbrev pub Kind : (n : ℕ) → (p p' : Parser A) → List Part → Type 0
    Kind n p p' ps =
        (C : P.Rest) → AfterWithin P end (parts_rest P v c end ps 0 C) n → InStep m.place n f (λ a n. AfterWithin P end (P.close end C) n) p p'

    -- the kinds of three tables, one by one
    unfoldable pub Each : (n : ℕ) → (ps ps' : List (Parser A)) → List (List Part) → Type 0
    Each n [] [] [] = Unit {0}
    Each n [] [] (qs ∷ all) = ⊥
    Each n [] (p' ∷ ps') all = ⊥
    Each n (p ∷ ps) [] all = ⊥
    Each n (p ∷ ps) (p' ∷ ps') [] = ⊥
    Each n (p ∷ ps) (p' ∷ ps') (qs ∷ all) = Kind n p p' qs × Each n ps ps' all

    pub picked : (n : ℕ) (ps ps' : List (Parser A)) (all : List (List Part)) → Each n ps ps' all → (k : ℕ) (C : P.Rest)
        → AfterWithin P end (kind_rest P v c end (get_elem? all k) C) n
        → InStep m.place n f (λ a n. AfterWithin P end (P.close end C) n) (pick ps at k) (pick ps' (m.place at) k)
    unfolding Each pick kind_rest
    picked n [] [] [] h k C i = unknown at
    picked n [] [] (q ∷ all) h k C i = absurd h
    picked n [] (p' ∷ ps') all h k C i = absurd h
    picked n (p ∷ ps) [] all h k C i = absurd h
    picked n (p ∷ ps) (p' ∷ ps') [] h k C i = absurd h
    picked n (p ∷ ps) (p' ∷ ps') (qs ∷ all) h zero C i = h.0 C i
    picked n (p ∷ ps) (p' ∷ ps') (qs ∷ all) h (suc k) C i = picked n ps ps' all h.1 k C i
