-- What is read pays for what is emitted: at most 8 units of size and one record for each byte. In a unit of bytes a number that is read has its width,
-- and so has the place of a node.
use Prim.Native.Nat.{ℕ, zero, suc, ◌+◌, ◌-◌, ◌*◌, ◌^◌, ◌<◌, ◌≤◌}
use mathlib.Core.Path.{◌≡◌, refl, ap}
use mathlib.Core.List.{List, [], ◌∷◌}
use mathlib.Core.Bool.{Bool, true, false}
use native.Mathlib.Omega.{arith}
use lib.Dec.{leb, ltb, eqb}
use lib.ListN.{length}
use borrow.Author.Tests.{ltb-true, ltb-false, eqb-true}
use Rattle.definitions.specs.Answer.{Answer, ok, refused, bind}
use Rattle.definitions.specs.Bytes.{number}
use Rattle.definitions.specs.Read.{Parser, ◌>>=◌, give, unknown_kind, unsigned, byte_below, mark_bytes, span, items, filling, run, head, ended, node, pick}
use Rattle.laws.proofs.Inversion.{refused_not_ok, bind_ok, when_ok, span_is}
use Rattle.laws.proofs.Widths.{number_fits}
use Rattle.landing.specs.Landed.{Each}
use Rattle.landing.specs.Walk.{Bytes}

-- 1. Payment

-- with credits k and j before it, a parser passes enough bytes for the size μ and the count κ of what it reads, which has P if the unit s is of bytes
pub record Pays {A : Type 0} (s : List ℕ) (p : Parser A) (k j : ℕ) (μ κ : A → ℕ) (P : A → Type 0) : Type 0 where
  pub paid : (at : ℕ) (a : A) (next : ℕ) → p at ≡ ok a next → (μ a + 8 * at ≤ 8 * next + k) × (κ a + at ≤ next + j) × (Bytes s → P a)

-- an item of a run that ends at `end`: it pays for itself, and stays within the run
pub record Item {A : Type 0} (s : List ℕ) (p : Parser A) (end : ℕ) (μ κ : A → ℕ) (P : A → Type 0) : Type 0 where
  pub pays : Pays s p 0 0 μ κ P
  pub within : (at : ℕ) (a : A) (next : ℕ) → p at ≡ ok a next → next ≤ end

-- a test that was passed
pub passed : {A : Type 0} (b : Bool) (v : A) (n c p x : ℕ) (a : A) (next : ℕ) → ◌≡◌ {A = Answer A} (elim b [ true ↦ ok v n | false ↦ refused c p x ]) (ok a next) → (b ≡ true) × (v ≡ a) × (n ≡ next)
passed b v n c p x a next e = let h = when_ok b (ok v n) c p x e in (h.0, cc h.1, cc h.1)

-- a place that fits the four bytes of a record's node
abbrev pub Narrow : (place : ℕ) → Type 0
Narrow p = p < 256 ^ 4

-- 2. Steps

-- a step and the rest
pub over : {A B : Type 0} {s : List ℕ} {p : Parser A} {f : A → Parser B} {k j : ℕ} {μ κ : A → ℕ} {ν ι : B → ℕ} {P : A → Type 0} {Q : B → Type 0} →
    Pays s p 0 0 μ κ P → ((a : A) → (Bytes s → P a) → Pays s (f a) (k + μ a) (j + κ a) ν ι Q) → Pays s (p >>= f) k j ν ι Q
unfolding ◌>>=◌
over {p} {f} h g = record {
  paid = λ at b next e.
      let r = bind_ok (p at) f e in
      let x = h.paid at r.0 r.1 r.2 in
      let y = (g r.0 x.2).paid r.1 b next r.3 in
      (omega arith, omega arith, y.2);
}

-- the end
pub gives : {A : Type 0} {s : List ℕ} {k j : ℕ} {μ κ : A → ℕ} {P : A → Type 0} (a : A) → (μ a ≤ k) × (κ a ≤ j) → (Bytes s → P a) → Pays s (give a) k j μ κ P
unfolding give
gives {μ} {κ} a h g = record {
  paid = λ at b next e.
      let v : a ≡ b = cc in
      let n : at ≡ next = cc in
      rw (← v) (omega arith, omega arith, g);
}

pub unsigned_pays : (s : List ℕ) (node end w : ℕ) → Pays s (unsigned s node end w) 0 0 (λ v. 8 * w) (λ v. w) (λ v. v < 256 ^ w)
unfolding unsigned
unsigned_pays s node end w = record {
  paid = λ at v next e.
      let r = passed (leb (at + w) end) (number w s at) (at + w) 3 node 0 v next e in
      (omega arith, omega arith, λ b. rw (← r.1) (number_fits w s at b));
}

-- a value that is tested
pub tested : {A : Type 0} {s : List ℕ} {k j : ℕ} {μ κ : A → ℕ} {P : A → Type 0} (b : Bool) (v : A) (c p x : ℕ) → (μ v ≤ k) × (κ v ≤ j) → (b ≡ true → Bytes s → P v) →
    Pays s (λ at. elim b [ true ↦ ok v at | false ↦ refused c p x ]) k j μ κ P
tested {μ} {κ} b v c p x h g = record {
  paid = λ at a next e.
      let r = passed b v at c p x a next e in
      rw (← r.1) (omega arith, omega arith, g r.0);
}

pub byte_below_pays : (s : List ℕ) (node end bound : ℕ) → Pays s (byte_below s node end bound) 0 0 (λ v. 8) (λ v. 1) (λ v. v < bound)
unfolding byte_below ◌>>=◌
byte_below_pays s node end bound = over (unsigned_pays s node end 1) λ v h. tested (ltb v bound) v 2 node 0 (omega arith) λ e b. ltb-true v bound e

pub mark_bytes_pays : (s : List ℕ) (node end n : ℕ) → Pays s (mark_bytes s node end n) 0 0 (λ ms. 8 * length ms) (λ ms. length ms) (λ ms. Unit {0})
unfolding mark_bytes
mark_bytes_pays s node end zero = gives [] (omega arith) λ b. tt
mark_bytes_pays s node end (suc n) = over (byte_below_pays s node end 2) λ m h. over (mark_bytes_pays s node end n) λ ms g. gives (m ∷ ms) (omega arith) λ b. tt

-- 3. Runs

unfoldable pub sum : {A : Type 0} → (A → ℕ) → List A → ℕ
sum f [] = 0
sum f (x ∷ xs) = f x + sum f xs

-- a length, and where what it counts ends
span_ends : (s : List ℕ) (end at stop next : ℕ) → span s end at ≡ ok stop next → (next ≡ at + 4) × (stop ≡ next + number 4 s at) × (stop ≤ end)
span_ends s end at stop next e = let i = span_is s end at e in (omega arith, omega arith, omega arith)

-- what is read of a run with some fuel
record Filled {A : Type 0} (s : List ℕ) (fuel end : ℕ) (μ κ : A → ℕ) (P : A → Type 0) (at : ℕ) (xs : List A) (next : ℕ) : Type 0 where
  size : sum μ xs + 8 * at ≤ 8 * next
  count : sum κ xs + at ≤ next
  filled : next ≡ end
  few : length xs < fuel
  have : Bytes s → Each P xs

items_pay : {A : Type 0} {s : List ℕ} {p : Parser A} {end : ℕ} {μ κ : A → ℕ} {P : A → Type 0} → Item s p end μ κ P →
    (fuel at : ℕ) (xs : List A) (next : ℕ) → at ≤ end → items p fuel end at ≡ ok xs next → Filled s fuel end μ κ P at xs next
unfolding items sum
items_pay h zero at xs next l e = refused_not_ok e
items_pay {A} {s} {p} {end} {μ} {κ} {P} h (suc fuel) at xs next l e = go (λ at xs next. items_pay h fuel at xs next) (ltb at end) refl e
  where
    go : ((at : ℕ) (xs : List A) (next : ℕ) → at ≤ end → items p fuel end at ≡ ok xs next → Filled s fuel end μ κ P at xs next) →
        (b : Bool) → ltb at end ≡ b → ◌≡◌ {A = Answer (List A)} (elim b [ true ↦ bind (p at) (λ x next. bind (items p fuel end next) (λ xs. ok (x ∷ xs))) | false ↦ ok [] end ]) (ok xs next) →
        Filled s (suc fuel) end μ κ P at xs next
    go more true t e =
        let r = bind_ok (p at) (λ x next. bind (items p fuel end next) (λ xs. ok (x ∷ xs))) e in
        let q = bind_ok (items p fuel end r.1) (λ xs. ok (r.0 ∷ xs)) r.3 in
        let one = h.pays.paid at r.0 r.1 r.2 in
        let rest = more r.1 q.0 q.1 (h.within at r.0 r.1 r.2) q.2 in
        let all : r.0 ∷ q.0 ≡ xs = cc in
        let n : q.1 ≡ next = cc in
        rw (← all) (record { size = omega arith; count = omega arith; filled = omega arith; few = omega arith; have = λ b. (one.2 b, rest.have b) })
    go more false t e =
        let all : [] ≡ xs = cc in
        let n : end ≡ next = cc in
        let m = ltb-false at end t in
        rw (← all) (record { size = omega arith; count = omega arith; filled = omega arith; few = omega arith; have = λ b. tt })

module _ {A : Type 0} {p : ℕ → Parser A} {μ κ : A → ℕ} {P : A → Type 0} (s : List ℕ) (end : ℕ) (near : Narrow end) (h : (stop : ℕ) → Narrow stop → Item s (p stop) stop μ κ P) where
  run_both : (at : ℕ) (xs : List A) (next : ℕ) → run s end p at ≡ ok xs next → (32 + sum μ xs + 8 * at ≤ 8 * next) × (4 + sum κ xs + at ≤ next) × (Bytes s → (length xs < 256 ^ 4) × Each P xs) × (next ≤ end)
  unfolding run ◌>>=◌ filling
  run_both at xs next e =
      let r = bind_ok (span s end at) (λ stop. filling p stop) e in
      let t = span_ends s end at r.0 r.1 r.2 in
      let q = items_pay (h r.0 (omega arith)) (suc (r.0 - r.1)) r.1 xs next (omega arith) r.3 in
      (omega arith, omega arith, (λ b. (omega (arith, number_fits 4 s at b), q.have b)), omega arith)

  -- a run: four bytes for its length, and its items
  pub run_pays : Pays s (run s end p) 0 0 (λ xs. 32 + sum μ xs) (λ xs. 4 + sum κ xs) (λ xs. (length xs < 256 ^ 4) × Each P xs)
  run_pays = record { paid = λ at xs next e. let r = run_both at xs next e in (omega arith, omega arith, r.2) }

  pub run_within : (at : ℕ) (xs : List A) (next : ℕ) → run s end p at ≡ ok xs next → next ≤ end
  run_within at xs next e = (run_both at xs next e).3

-- 4. Nodes: five bytes for the length and the kind

-- a step that tests and passes nothing
pub over_ended : {A B : Type 0} {s : List ℕ} {k j : ℕ} {ν ι : B → ℕ} {Q : B → Type 0} (place end : ℕ) (a : A) (f : A → Parser B) → Pays s (f a) k j ν ι Q → Pays s (ended place end a >>= f) k j ν ι Q
unfolding ◌>>=◌ ended
over_ended place end a f h = record {
  paid = λ at b next e.
      let r = bind_ok (ended place end a at) f e in
      let t = passed (eqb at end) a at 3 place 0 r.0 r.1 r.2 in
      h.paid at b next (rw (← t.1, ← t.2) at r.3);
}

second : {a b : ℕ} {h : ℕ × ℕ} → (a, b) ≡ h → b ≡ h.1
second e = ap (λ (z : ℕ × ℕ). z.1) e

pub node_item : {A : Type 0} {body : (kind at end : ℕ) → Parser A} {μ κ : A → ℕ} {P : A → Type 0} (s : List ℕ) (holder : ℕ) → Narrow holder →
    ((kind at end : ℕ) → at ≤ end → Narrow end → Pays s (body kind at end) 40 5 μ κ P) → Item s (node s holder body) holder μ κ P
unfolding node head ◌>>=◌ give ended
node_item {A} {body} {μ} {κ} {P} s holder near h = record { pays = record { paid = λ at a next e. let r = go at a next e in (r.0, r.1, r.2) }; within = λ at a next e. (go at a next e).3 }
  where
    go : (at : ℕ) (a : A) (next : ℕ) → node s holder body at ≡ ok a next → (μ a + 8 * at ≤ 8 * next + 0) × (κ a + at ≤ next + 0) × (Bytes s → P a) × (next ≤ holder)
    go at a next e =
        let r = bind_ok (head s holder at) (λ h mid. bind (body h.0 at h.1 mid) (λ a. ended at h.1 a)) e in
        let t = bind_ok (span s holder at) (λ end mid. bind (unsigned s at end 1 mid) (λ kind at. ok (kind, end) at)) r.2 in
        let stop = span_ends s holder at t.0 t.1 t.2 in
        let c = bind_ok (unsigned s at t.0 1 t.1) (λ kind at. ok (kind, t.0) at) t.3 in
        let byte = (unsigned_pays s at t.0 1).paid t.1 c.0 c.1 c.2 in
        let hd : (c.0, t.0) ≡ r.0 = cc in
        let mid : c.1 ≡ r.1 = cc in
        let q = bind_ok (body r.0.0 at r.0.1 r.1) (λ a. ended at r.0.1 a) r.3 in
        let f = passed (eqb q.1 r.0.1) q.0 q.1 3 at 0 a next q.3 in
        let end : t.0 ≡ r.0.1 = second {a = c.0} {b = t.0} {h = r.0} hd in
        let paid = (h r.0.0 at r.0.1 (omega arith) (omega arith)).paid r.1 q.0 q.1 q.2 in
        let last = eqb-true q.1 r.0.1 f.0 in
        rw (← f.1) (omega arith, omega arith, paid.2, omega arith)

pub unknown_pays : {A : Type 0} {s : List ℕ} {k j : ℕ} {μ κ : A → ℕ} {P : A → Type 0} (node : ℕ) → Pays s (unknown_kind {A = A} node) k j μ κ P
unfolding unknown_kind
unknown_pays node = record { paid = λ at a next e. refused_not_ok e }

-- of one kind and of the others
infixr 10 ◌&◌
abbrev pub ◌&◌ : {A B : Type 0} → A → B → A × B
a & b = (a, b)

pub pick_pays : {A : Type 0} {s : List ℕ} {μ κ : A → ℕ} {P : A → Type 0} (ps : List (Parser A)) (at kind : ℕ) → Each (λ p. Pays s p 40 5 μ κ P) ps → Pays s (pick ps at kind) 40 5 μ κ P
unfolding pick
pick_pays [] at kind h = unknown_pays at
pick_pays (p ∷ ps) at zero h = h.0
pick_pays (p ∷ ps) at (suc k) h = pick_pays ps at k h.1
