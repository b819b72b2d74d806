-- From 'the parser reads this' to where its parts are and what they hold. Assumes nothing.
use Prim.Native.Nat.{ℕ, zero, suc, ◌+◌, ◌-◌, ◌≤◌, ◌<◌}
use mathlib.Core.Path.{◌≡◌, refl, sym, ap, ◌∙◌}
use mathlib.Core.List.{List, [], ◌∷◌}
use mathlib.Core.Bool.{Bool, true, false}
use native.Mathlib.Omega.{arith}
use native.Mathlib.Nat.{zero-mul, zero-add, add-zero}
use lib.Dec.{ltb, leb, eqb}
use lib.ListN.{length, get_or}
use borrow.Author.Tests.{leb-true, ltb-true, ltb-false, eqb-true, lt-ltb, le-ltb}
use Rattle.definitions.specs.Answer.{Answer, ok, refused, bind}
use Rattle.definitions.specs.Bytes.{number}
use Rattle.definitions.specs.Tag.{const_widths}
use Rattle.definitions.specs.Tree.{Callee, Expr, Exprs, Stmt, exprs_of}
use Rattle.definitions.specs.Read.{Parser, ◌>>=◌, give, unsigned, byte_below, mark_bytes, payload, callee, arguments, span, items, filling, run, ended, head, node, expr_body, stmt_body, parse_expr, parse_stmt}
pub use Rattle.laws.proofs.Inversion.{impossible, refused_not_ok, bind_ok, when_ok, give_ok, unsigned_is, unsigned_ok, span_is}
use Rattle.ir.specs.Places.{end_of, ExprAt, StmtAt, RunAt, ByteAt, CallAt}

-- 1. Fields, each with what follows it

pub one_byte : (s : List ℕ) (at : ℕ) → number 1 s at ≡ get_or s at 0
unfolding number
one_byte s at = simp (zero-mul, zero-add, add-zero)

byte_below_is : (s : List ℕ) (nd end bound at : ℕ) {v n : ℕ} → byte_below s nd end bound at ≡ ok v n → (at + 1 ≤ end) × (get_or s at 0 < bound) × (get_or s at 0 ≡ v) × (at + 1 ≡ n)
unfolding byte_below ◌>>=◌
byte_below_is s nd end bound at {v} e =
    let g = unsigned_ok s nd end 1 (λ v at. elim (ltb v bound) [ true ↦ ok v at | false ↦ refused 2 nd 0 ]) at e in
    let w = when_ok (ltb (number 1 s at) bound) _ 2 nd 0 g.1 in
    let l : number 1 s at < bound = ltb-true (number 1 s at) bound w.0 in
    let q : number 1 s at ≡ v = cc w.1 in
    (g.0, rw (one_byte s at) at l, sym (one_byte s at) ∙ q, cc w.1)

-- a byte below a bound
pub byte_below_ok : {B : Type 0} (s : List ℕ) (nd end bound : ℕ) (f : ℕ → Parser B) (at : ℕ) {b : B} {n : ℕ} → (byte_below s nd end bound >>= f) at ≡ ok b n → ByteAt s end bound at × (f (get_or s at 0) (at + 1) ≡ ok b n)
unfolding ◌>>=◌
byte_below_ok s nd end bound f at e =
    let h = bind_ok (byte_below s nd end bound at) f e in
    let i = byte_below_is s nd end bound at h.2 in
    (record { fits = i.0; small = i.1 }, rw (← i.2, ← i.3) at h.3)

-- n marks: as many as bytes, and the same
pub record MarksAt (s : List ℕ) (end n at : ℕ) (ms : List ℕ) (next : ℕ) : Type 0 where
  pub long : length ms ≡ n
  pub next_is : next ≡ at + n
  pub fits : at + n ≤ end
  pub same : (i : ℕ) → i < n → get_or ms i 0 ≡ get_or s (at + i) 0

marks_more : (s : List ℕ) (end n at : ℕ) (ms : List ℕ) (next m : ℕ) → m ≡ get_or s at 0 → MarksAt s end n (at + 1) ms next → MarksAt s end (suc n) at (m ∷ ms) next
marks_more s end n at ms next m h r = record { long = omega (arith, r.long); next_is = omega (arith, r.next_is); fits = omega (arith, r.fits); same = go }
  where
    go : (i : ℕ) → i < suc n → get_or (m ∷ ms) i 0 ≡ get_or s (at + i) 0
    go zero l = h ∙ ap (λ (k : ℕ). get_or s k 0) (sym (add-zero at))
    go (suc i) l = let k : at + 1 + i ≡ at + suc i = omega arith in r.same i (omega arith) ∙ ap (λ (k : ℕ). get_or s k 0) k

marks_is : (s : List ℕ) (nd end n at : ℕ) {ms : List ℕ} {next : ℕ} → at ≤ end → mark_bytes s nd end n at ≡ ok ms next → MarksAt s end n at ms next
unfolding mark_bytes ◌>>=◌
marks_is s nd end zero at {ms} {next} l e =
    let g = give_ok [] at e in
    rw g.0 (record { long = refl; next_is = omega (arith, g.1); fits = omega arith; same = λ i h. absurd (omega arith) })
marks_is s nd end (suc n) at {ms} {next} l e =
    let v = byte_below_ok s nd end 2 _ at e in
    let h = bind_ok (mark_bytes s nd end n (at + 1)) _ v.1 in
    let g = give_ok (get_or s at 0 ∷ h.0) h.1 h.3 in
    rw g.0 (marks_more s end n at h.0 next (get_or s at 0) refl (rw g.1 at (marks_is s nd end n (at + 1) v.0.fits h.2)))

pub marks_ok : {B : Type 0} (s : List ℕ) (nd end k : ℕ) (f : List ℕ → Parser B) (at : ℕ) {b : B} {n : ℕ} → at ≤ end → (mark_bytes s nd end k >>= f) at ≡ ok b n
    → (ms : List ℕ) × MarksAt s end k at ms (at + k) × (f ms (at + k) ≡ ok b n)
unfolding ◌>>=◌
marks_ok s nd end k f at l e =
    let h = bind_ok (mark_bytes s nd end k at) f e in
    let m = marks_is s nd end k at l h.2 in
    (h.0, rw m.next_is at m, rw m.next_is at h.3)

pub bool_width : (byte : ℕ) → byte ≡ 15 → get_or const_widths byte 0 ≡ 1
unfolding const_widths
bool_width byte h = rw h

-- the payload of a const byte
pub payload_ok : {B : Type 0} (s : List ℕ) (nd end byte : ℕ) (f : ℕ → Parser B) (at : ℕ) {b : B} {n : ℕ} → (payload s nd end byte >>= f) at ≡ ok b n
    → (at + get_or const_widths byte 0 ≤ end) × (f (number (get_or const_widths byte 0) s at) (at + get_or const_widths byte 0) ≡ ok b n)
unfolding payload
payload_ok {B} s nd end byte f at {b} {n} e = go (eqb byte 15) refl e
  where
    go : (t : Bool) → t ≡ eqb byte 15 → ((elim t as (λ _. Parser ℕ) [ true ↦ byte_below s nd end 2 | false ↦ unsigned s nd end (get_or const_widths byte 0) ]) >>= f) at ≡ ok b n
        → (at + get_or const_widths byte 0 ≤ end) × (f (number (get_or const_widths byte 0) s at) (at + get_or const_widths byte 0) ≡ ok b n)
    go true h e =
        let w : get_or const_widths byte 0 ≡ 1 = bool_width byte (eqb-true byte 15 (sym h)) in
        let i = byte_below_ok s nd end 2 f at e in
        (rw w i.0.fits, rw (w, one_byte s at) i.1)
    go false h e = unsigned_ok s nd end (get_or const_widths byte 0) f at e

-- a length
span_ok : {B : Type 0} (s : List ℕ) (end : ℕ) (f : ℕ → Parser B) (at : ℕ) {b : B} {n : ℕ} → (span s end >>= f) at ≡ ok b n → (at + 4 ≤ end_of s at) × (end_of s at ≤ end) × (f (end_of s at) (at + 4) ≡ ok b n)
unfolding ◌>>=◌
span_ok s end f at e =
    let h = bind_ok (span s end at) f e in
    let i = span_is s end at h.2 in
    (i.0, i.1, rw (← i.2, ← i.3) at h.3)

-- 2. Runs

pub items_stop : {A : Type 0} (p : Parser A) (fuel end at : ℕ) {xs : List A} {n : ℕ} → items p fuel end at ≡ ok xs n → end ≡ n
unfolding items
items_stop p zero end at e = refused_not_ok e
items_stop {A} p (suc fuel) end at {xs} {n} e = go (ltb at end) (λ m ys k h. items_stop p fuel end m {xs = ys} {n = k} h) e
  where
    go : (b : Bool) → ((m : ℕ) (ys : List A) (k : ℕ) → items p fuel end m ≡ ok ys k → end ≡ k)
        → (elim b as (λ _. Answer (List A)) [ true ↦ bind (p at) (λ x next. bind (items p fuel end next) (λ xs. ok (x ∷ xs))) | false ↦ ok [] end ]) ≡ ok xs n → end ≡ n
    go true rest e =
        let a = bind_ok (p at) _ e in
        let b = bind_ok (items p fuel end a.1) _ a.3 in
        let q : b.1 ≡ n = cc b.3 in rest a.1 b.0 b.1 b.2 ∙ q
    go false rest e = cc

-- a run and what follows it
pub run_ok : {A B : Type 0} (s : List ℕ) (end : ℕ) (p : ℕ → Parser A) (f : List A → Parser B) (at : ℕ) {b : B} {n : ℕ} → (run s end p >>= f) at ≡ ok b n
    → (xs : List A) × RunAt s end p at xs (end_of s at) × (f xs (end_of s at) ≡ ok b n)
unfolding ◌>>=◌ run filling
run_ok s end p f at e =
    let h = bind_ok (run s end p at) f e in
    let g = span_ok s end (filling p) at h.2 in
    let q = items_stop (p (end_of s at)) (suc (end_of s at - (at + 4))) (end_of s at) (at + 4) g.2 in
    (h.0, record { reads = rw (← q) at g.2; head = g.0; tail = g.1; ends = refl }, rw (← q) at h.3)

-- 3. Nodes

-- the length and the kind are there, the body is read from the sixth byte on and ends where the length says
pub record NodeAt {A : Type 0} (s : List ℕ) (holder : ℕ) (body : (kind at end : ℕ) → Parser A) (at : ℕ) (a : A) (n : ℕ) : Type 0 where
  pub head : at + 5 ≤ end_of s at
  pub tail : end_of s at ≤ holder
  pub next : n ≡ end_of s at
  pub reads : body (get_or s (at + 4) 0) at (end_of s at) (at + 5) ≡ ok a (end_of s at)

pub ended_ok : {A : Type 0} (nd end : ℕ) (a : A) (at : ℕ) {b : A} {n : ℕ} → ended nd end a at ≡ ok b n → (at ≡ end) × (a ≡ b) × (at ≡ n)
unfolding ended
ended_ok nd end a at e = let h = when_ok (eqb at end) _ 3 nd 0 e in (eqb-true _ _ h.0, cc h.1, cc h.1)

pub head_is : (s : List ℕ) (holder at : ℕ) {h : ℕ × ℕ} {n : ℕ} → head s holder at ≡ ok h n → (at + 5 ≤ end_of s at) × (end_of s at ≤ holder) × ((get_or s (at + 4) 0, end_of s at) ≡ h) × (at + 5 ≡ n)
unfolding head
head_is s holder at e =
    let g = span_ok s holder _ at e in
    let k = unsigned_ok s at (end_of s at) 1 _ (at + 4) g.2 in
    let d = give_ok (number 1 s (at + 4), end_of s at) (at + 4 + 1) k.1 in
    (omega (arith, k.0), g.1, ap (λ x. (x, end_of s at)) (sym (one_byte s (at + 4))) ∙ sym d.0, omega (arith, d.1))

pub node_ok : {A : Type 0} (s : List ℕ) (holder : ℕ) (body : (kind at end : ℕ) → Parser A) (at : ℕ) {a : A} {n : ℕ} → node s holder body at ≡ ok a n → NodeAt s holder body at a n
unfolding node ◌>>=◌
node_ok s holder body at {a} e =
    let h = bind_ok (head s holder at) _ e in
    let i = head_is s holder at h.2 in
    let b = bind_ok (body h.0.0 at h.0.1 h.1) _ h.3 in
    let d = ended_ok at h.0.1 b.0 b.1 b.3 in
    let q : end_of s at ≡ h.0.1 = ap (λ x. x.1) i.2 in
    let k : get_or s (at + 4) 0 ≡ h.0.0 = ap (λ x. x.0) i.2 in
    record {
      head = i.0;
      tail = i.1;
      next = sym d.2 ∙ d.0 ∙ sym q;
      reads = ap (λ x. body x at (end_of s at) (at + 5)) k ∙ ap (λ x. body h.0.0 at x (at + 5)) q ∙ ap (body h.0.0 at h.0.1) i.3 ∙ b.2 ∙ ap (λ x. ok x b.1) d.1 ∙ ap (ok a) (d.0 ∙ sym q);
    }

pub expr_ok : (depth : ℕ) (s : List ℕ) (holder at : ℕ) {a : Expr} {n : ℕ} → parse_expr depth s holder at ≡ ok a n → (0 < depth) × NodeAt s holder (expr_body s (parse_expr (depth - 1) s)) at a n
unfolding parse_expr
expr_ok zero s holder at e = refused_not_ok e
expr_ok (suc d) s holder at e =
    let p : suc d - 1 ≡ d = omega arith in
    (omega arith, rw p (node_ok s holder (expr_body s (parse_expr d s)) at e))

pub stmt_ok : (depth : ℕ) (s : List ℕ) (holder at : ℕ) {a : Stmt} {n : ℕ} → parse_stmt depth s holder at ≡ ok a n → (0 < depth) × NodeAt s holder (stmt_body s (parse_expr (depth - 1) s) (parse_stmt (depth - 1) s)) at a n
unfolding parse_stmt
stmt_ok zero s holder at e = refused_not_ok e
stmt_ok (suc d) s holder at e =
    let p : suc d - 1 ≡ d = omega arith in
    (omega arith, rw p (node_ok s holder (stmt_body s (parse_expr d s) (parse_stmt d s)) at e))

-- a node, in its holder
pub expr_at : (d : ℕ) (s : List ℕ) (holder at : ℕ) {e : Expr} {n : ℕ} → parse_expr d s holder at ≡ ok e n → ExprAt d s holder at e n
expr_at d s holder at e =
    let i = expr_ok d s holder at e in
    record { reads = e; deep = i.0; head = omega (arith, i.1.head, i.1.next); tail = omega (arith, i.1.tail, i.1.next); ends = i.1.next }

pub stmt_at : (d : ℕ) (s : List ℕ) (holder at : ℕ) {t : Stmt} {n : ℕ} → parse_stmt d s holder at ≡ ok t n → StmtAt d s holder at t n
stmt_at d s holder at e =
    let i = stmt_ok d s holder at e in
    record { reads = e; deep = i.0; head = omega (arith, i.1.head, i.1.next); tail = omega (arith, i.1.tail, i.1.next); ends = i.1.next }

-- an expression and what follows it
pub child_ok : {B : Type 0} (d : ℕ) (s : List ℕ) (end : ℕ) (f : Expr → Parser B) (at : ℕ) {b : B} {n : ℕ} → (parse_expr d s end >>= f) at ≡ ok b n
    → (e : Expr) × (k : ℕ) × ExprAt d s end at e k × (f e k ≡ ok b n)
unfolding ◌>>=◌
child_ok d s end f at e = let h = bind_ok (parse_expr d s end at) f e in (h.0, h.1, expr_at d s end at h.2, h.3)

-- 4. Items

abbrev pub items_of : {A : Type 0} → Parser A → (fuel stop : ℕ) → A → Parser (List A)
items_of p fuel stop x next = bind (items p fuel stop next) (λ xs. ok (x ∷ xs))

pub items_on : {A : Type 0} (p : Parser A) (fuel stop at : ℕ) → at < stop → items p (suc fuel) stop at ≡ bind (p at) (items_of p fuel stop)
unfolding items
items_on p fuel stop at h = simp (lt-ltb at stop h, items)

pub items_end : {A : Type 0} (p : Parser A) (fuel stop at : ℕ) → stop ≤ at → items p (suc fuel) stop at ≡ ok [] stop
unfolding items
items_end p fuel stop at h = simp (le-ltb at stop h, items)

-- a run's items one after the other, where each is a byte at least
module _ {A : Type 0} (p : ℕ → Parser A) (stop : ℕ) (moves : (at : ℕ) (x : A) (n : ℕ) → p stop at ≡ ok x n → at < n) where
  -- more fuel reads the same
  fuel_same : (fuel more at : ℕ) → stop ≤ at + fuel → stop ≤ at + more → items (p stop) (suc fuel) stop at ≡ items (p stop) (suc more) stop at
  unfolding bind
  fuel_same zero more at h l = items_end (p stop) zero stop at (omega arith) ∙ sym (items_end (p stop) more stop at (omega arith))
  fuel_same (suc f) zero at h l = items_end (p stop) (suc f) stop at (omega arith) ∙ sym (items_end (p stop) zero stop at (omega arith))
  fuel_same (suc f) (suc m) at h l = go (ltb at stop) refl (λ n i j. fuel_same f m n i j)
    where
      step : (x : Answer A) → p stop at ≡ x → at < stop → ((n : ℕ) → stop ≤ n + f → stop ≤ n + m → items (p stop) (suc f) stop n ≡ items (p stop) (suc m) stop n)
          → bind x (items_of (p stop) (suc f) stop) ≡ bind x (items_of (p stop) (suc m) stop)
      step (ok a n) e i rest =
          let z : at < n = moves at a n e in
          ap (λ (y : Answer (List A)). bind y (λ xs. ok (a ∷ xs))) (rest n (omega arith) (omega arith))
      step (refused n q x) e i rest = refl

      go : (b : Bool) → b ≡ ltb at stop → ((n : ℕ) → stop ≤ n + f → stop ≤ n + m → items (p stop) (suc f) stop n ≡ items (p stop) (suc m) stop n)
          → items (p stop) (suc (suc f)) stop at ≡ items (p stop) (suc (suc m)) stop at
      go true e rest =
          let i : at < stop = ltb-true at stop (sym e) in
          items_on (p stop) (suc f) stop at i ∙ step (p stop at) refl i rest ∙ sym (items_on (p stop) (suc m) stop at i)
      go false e rest =
          let i : stop ≤ at = ltb-false at stop (sym e) in
          items_end (p stop) (suc f) stop at i ∙ sym (items_end (p stop) (suc m) stop at i)

  rest_of : (at k : ℕ) (ys : List A) (m n : ℕ) → at < stop → at < k → m ≡ n → items (p stop) (stop - at) stop k ≡ ok ys m → filling p stop k ≡ ok ys n
  unfolding filling
  rest_of at k ys m n l h j e =
      let f : suc (stop - at - 1) ≡ stop - at = omega arith in
      let q : items (p stop) (suc (stop - at - 1)) stop k ≡ ok ys m = rw f e in
      let r : items (p stop) (suc (stop - k)) stop k ≡ ok ys m = fuel_same (stop - k) (stop - at - 1) k (omega arith) (omega arith) ∙ q in
      rw j at r

  -- the first item, and the rest from where it ends
  pub fill_some : (at : ℕ) {xs : List A} {n : ℕ} → at < stop → filling p stop at ≡ ok xs n → (x : A) × (k : ℕ) × (ys : List A) × (p stop at ≡ ok x k) × (xs ≡ x ∷ ys) × (filling p stop k ≡ ok ys n)
  unfolding filling
  fill_some at {xs} {n} l e =
      let h : bind (p stop at) (items_of (p stop) (stop - at) stop) ≡ ok xs n = rw (items_on (p stop) (stop - at) stop at l) at e in
      let a = bind_ok (p stop at) (items_of (p stop) (stop - at) stop) h in
      let b = bind_ok (items (p stop) (stop - at) stop a.1) (λ ys. ok (a.0 ∷ ys)) a.3 in
      let j : b.1 ≡ n = cc b.3 in
      (a.0, a.1, b.0, a.2, cc b.3, rest_of at a.1 b.0 b.1 n l (moves at a.0 a.1 a.2) j b.2)

  -- no more items
  pub fill_none : (at : ℕ) {xs : List A} {n : ℕ} → stop ≤ at → filling p stop at ≡ ok xs n → (xs ≡ []) × (n ≡ stop)
  unfolding filling
  fill_none at l e = let h : ok [] stop ≡ ok _ _ = sym (items_end (p stop) (stop - at) stop at l) ∙ e in (cc, cc)

  -- the other way: no item, and an item before others
  pub fill_nil : (at : ℕ) → stop ≤ at → filling p stop at ≡ ok [] stop
  unfolding filling
  fill_nil at l = items_end (p stop) (stop - at) stop at l

  pub fill_cons : (at : ℕ) {x : A} {k : ℕ} {ys : List A} {n : ℕ} → at < stop → p stop at ≡ ok x k → filling p stop k ≡ ok ys n → filling p stop at ≡ ok (x ∷ ys) n
  unfolding filling bind
  fill_cons at {x} {k} {ys} {n} l e r =
      let f : suc (stop - at - 1) ≡ stop - at = omega arith in
      let q : items (p stop) (suc (stop - at - 1)) stop k ≡ ok ys n = fuel_same (stop - at - 1) (stop - k) k (omega (arith, moves at x k e)) (omega arith) ∙ r in
      let z : items (p stop) (stop - at) stop k ≡ ok ys n = rw f at q in
      items_on (p stop) (stop - at) stop at l ∙ ap (λ (y : Answer A). bind y (items_of (p stop) (stop - at) stop)) e ∙ ap (λ (y : Answer (List A)). bind y (λ ys. ok (x ∷ ys))) z

  -- whatever the first item comes to
  pub fill_step : (at : ℕ) → at < stop → filling p stop at ≡ bind (p stop at) (λ x k. bind (filling p stop k) (λ xs. ok (x ∷ xs)))
  unfolding filling bind
  fill_step at l = items_on (p stop) (stop - at) stop at l ∙ go (p stop at) refl
    where
      go : (x : Answer A) → p stop at ≡ x → bind x (items_of (p stop) (stop - at) stop) ≡ bind x (λ x k. bind (filling p stop k) (λ xs. ok (x ∷ xs)))
      go (ok a k) e =
          let f : suc (stop - at - 1) ≡ stop - at = omega arith in
          let q : items (p stop) (suc (stop - at - 1)) stop k ≡ filling p stop k = fuel_same (stop - at - 1) (stop - k) k (omega (arith, moves at a k e)) (omega arith) in
          ap (λ (y : Answer (List A)). bind y (λ xs. ok (a ∷ xs))) (rw f at q)
      go (refused n q x) e = refl

pub expr_moves : (d : ℕ) (s : List ℕ) (stop at : ℕ) (x : Expr) (n : ℕ) → parse_expr d s stop at ≡ ok x n → at < n
expr_moves d s stop at x n e = let i = expr_at d s stop at e in omega (arith, i.head)

pub stmt_moves : (d : ℕ) (s : List ℕ) (stop at : ℕ) (x : Stmt) (n : ℕ) → parse_stmt d s stop at ≡ ok x n → at < n
stmt_moves d s stop at x n e = let i = stmt_at d s stop at e in omega (arith, i.head)

-- 5. Calls

-- a callee's fields begin at p, and what follows it stands at `next`
record CalleeAt (s : List ℕ) (end p : ℕ) (c : Callee) (next : ℕ) : Type 0 where
  flags : ByteAt s end 16 (p + 10)
  count : get_or s (p + 11) 0 ≡ length c.params
  next_is : next ≡ p + 12 + length c.params
  marks : (i : ℕ) → i < length c.params → get_or c.params i 0 ≡ get_or s (p + 12 + i) 0
  function_is : c.function ≡ number 4 s p
  name_is : c.name ≡ number 4 s (p + 4)
  line_is : c.line ≡ number 2 s (p + 8)
  flags_is : c.flags ≡ get_or s (p + 10) 0

callee_of : (s : List ℕ) (end p k : ℕ) (ms : List ℕ) → k ≡ get_or s (p + 11) 0 → ByteAt s end 16 (p + 10) → MarksAt s end k (p + 12) ms (p + 12 + k)
    → CalleeAt s end p (record { function = number 4 s p; name = number 4 s (p + 4); line = number 2 s (p + 8); flags = get_or s (p + 10) 0; params = ms }) (p + 12 + k)
callee_of s end p k ms h f m =
    record {
      flags = f;
      count = sym h ∙ sym m.long;
      next_is = omega (arith, m.long);
      marks = λ i l. m.same i (omega (arith, m.long));
      function_is = refl;
      name_is = refl;
      line_is = refl;
      flags_is = refl;
    }

same_callee : (s : List ℕ) (end p : ℕ) (c c' : Callee) (next next' : ℕ) → c' ≡ c → next ≡ next' → CalleeAt s end p c next → CalleeAt s end p c' next'
same_callee s end p c c' next next' h j m = rw (h, ← j) m

callee_given : (s : List ℕ) (end p k : ℕ) (ms : List ℕ) {c : Callee} {next : ℕ} → k ≡ get_or s (p + 11) 0 → ByteAt s end 16 (p + 10) → MarksAt s end k (p + 12) ms (p + 12 + k)
    → give (record { function = number 4 s p; name = number 4 s (p + 4); line = number 2 s (p + 8); flags = get_or s (p + 10) 0; params = ms }) (p + 12 + k) ≡ ok c next → CalleeAt s end p c next
callee_given s end p k ms {c} {next} h f m e = let g = give_ok _ _ e in same_callee s end p _ c (p + 12 + k) next g.0 g.1 (callee_of s end p k ms h f m)

callee_is : (s : List ℕ) (nd end p : ℕ) {c : Callee} {next : ℕ} → callee s nd end p ≡ ok c next → CalleeAt s end p c next
unfolding callee
callee_is s nd end p e =
    let p8 : p + 4 + 4 ≡ p + 8 = omega arith in
    let p10 : p + 8 + 2 ≡ p + 10 = omega arith in
    let p11 : p + 10 + 1 ≡ p + 11 = omega arith in
    let p12 : p + 11 + 1 ≡ p + 12 = omega arith in
    let f = unsigned_ok s nd end 4 _ p e in
    let n = unsigned_ok s nd end 4 _ (p + 4) f.1 in
    let l = unsigned_ok s nd end 2 _ (p + 8) (rw p8 at n.1) in
    let b = byte_below_ok s nd end 16 _ (p + 10) (rw p10 at l.1) in
    let k = unsigned_ok s nd end 1 _ (p + 11) (rw p11 at b.1) in
    let m = marks_ok s nd end (number 1 s (p + 11)) _ (p + 12) (omega (arith, k.0)) (rw p12 at k.1) in
    callee_given s end p (number 1 s (p + 11)) m.0 (one_byte s (p + 11)) b.0 m.1 m.2

arguments_is : (s : List ℕ) (child : ℕ → Parser Expr) (nd end params p : ℕ) {es : Exprs} {n : ℕ} → arguments s child nd end params p ≡ ok es n
    → (xs : List Expr) × RunAt s end child p xs end × (length xs ≤ params) × (es ≡ exprs_of xs) × (n ≡ end)
unfolding arguments ◌>>=◌
arguments_is s child nd end params p e =
    let r = run_ok s end child _ p e in
    let h = bind_ok (ended nd end r.0 (end_of s p)) _ r.2 in
    let d = ended_ok nd end r.0 (end_of s p) h.2 in
    let w = when_ok (leb (length h.0) params) _ 5 nd 0 h.3 in
    let l : length h.0 ≤ params = leb-true (length h.0) params w.0 in
    let x : h.0 ≡ r.0 = sym d.1 in
    (r.0, rw d.0 at r.1, rw x at l, cc w.1, cc w.1)

-- a call and the tree that is made of it
pub call_ok : {B : Type 0} (d : ℕ) (s : List ℕ) (nd end : ℕ) (k : Callee → Exprs → B) (p : ℕ) {b : B} {n : ℕ}
    → (callee s nd end >>= λ c. (arguments s (parse_expr d s) nd end (length c.params) >>= λ xs. give (k c xs))) p ≡ ok b n
    → (c : Callee) × (args : List Expr) × (list : ℕ) × CallAt d s end p c args list × (b ≡ k c (exprs_of args)) × (n ≡ end)
unfolding ◌>>=◌
call_ok d s nd end k p e =
    let h = bind_ok (callee s nd end p) _ e in
    let i = callee_is s nd end p h.2 in
    let a = bind_ok (arguments s (parse_expr d s) nd end (length h.0.params) h.1) _ h.3 in
    let j = arguments_is s (parse_expr d s) nd end (length h.0.params) h.1 a.2 in
    let g = give_ok (k h.0 a.0) a.1 a.3 in (
      h.0,
      j.0,
      h.1,
      record {
        flags = i.flags;
        count = i.count;
        list_is = i.next_is;
        marks = i.marks;
        function_is = i.function_is;
        name_is = i.name_is;
        line_is = i.line_is;
        flags_is = i.flags_is;
        run = j.1;
        enough = j.2;
      },
      g.0 ∙ ap (k h.0) j.3,
      sym g.1 ∙ j.4,
    )
