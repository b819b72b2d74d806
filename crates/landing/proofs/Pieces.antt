-- What is to be shown of a piece of code, and laws of lists of actions.
use Prim.Native.Nat.{ℕ, zero, suc, ◌+◌, ◌<◌, ◌≤◌}
use mathlib.Core.Path.{◌≡◌, refl, ap}
use mathlib.Core.List.{List, [], ◌∷◌, ◌++◌}
use mathlib.Core.Bool.{Bool, true, false}
use mathlib.Core.Logic.{◌≢◌}
use native.Mathlib.Omega.{arith}
use native.Mathlib.Nat.{add_assoc, add-zero}
use native.Mathlib.Decide.{dec_lt, ℕ_discrete}
use lib.Dec.{ltb, eqb, T}
use borrow.Author.Tests.{lt-ltb, le-ltb, eq-eqb, ne_eqb}
use lib.ListN.{length}
use lib.IntN.{ℤ, pos, negsuc, sub_ℕ}
use Rattle.definitions.specs.Tag.{row_of, Jump}
use Rattle.definitions.specs.Instr.{Instr, size}
use Rattle.definitions.specs.Code.{Action, Code, new, mark, emit, refuse}
use Rattle.definitions.specs.Resolve.{in_range}
use Rattle.landing.specs.Distance.{ahead, back}
use Rattle.landing.specs.Landed.{NotBelow}
use Rattle.landing.specs.Walk.{news, actions}

-- 1. What a list of actions does

-- the records that actions emit
unfoldable pub records : List Action → List Instr
records [] = []
records (new at ∷ acts) = records acts
records (mark l ∷ acts) = records acts
records (emit i ∷ acts) = i ∷ records acts
records (refuse n p x ∷ acts) = records acts

-- the size of all that is emitted
unfoldable pub total : List Action → ℕ
total [] = 0
total (new at ∷ acts) = total acts
total (mark l ∷ acts) = total acts
total (emit i ∷ acts) = size i + total acts
total (refuse n p x ∷ acts) = total acts

-- the distance of a field that carries a label, before others
unfoldable pub also : (carries : Bool) → ℤ → List ℤ → List ℤ
also true d ds = d ∷ ds
also false d ds = ds

-- the distances that a record at offset o carries, where M gives each label's mark, before others
unfoldable pub carried : (M : ℕ → ℕ) (o : ℕ) → Instr → List ℤ → List ℤ
carried M o i ds = also (row_of i.tag).first (sub_ℕ (M i.first) o) (also (row_of i.tag).second (sub_ℕ (M i.second) o) ds)

unfoldable pub dists : (M : ℕ → ℕ) (o : ℕ) → List Action → List ℤ
dists M o [] = []
dists M o (new at ∷ acts) = dists M o acts
dists M o (mark l ∷ acts) = dists M o acts
dists M o (emit i ∷ acts) = carried M o i (dists M (o + size i) acts)
dists M o (refuse n p x ∷ acts) = dists M o acts

-- nothing is refused, and M holds what each mark sets
unfoldable pub Agrees : (M : ℕ → ℕ) (o : ℕ) → List Action → Type 0
Agrees M o [] = Unit {0}
Agrees M o (new at ∷ acts) = Agrees M o acts
Agrees M o (mark l ∷ acts) = (M l ≡ o) × Agrees M o acts
Agrees M o (emit i ∷ acts) = Agrees M (o + size i) acts
Agrees M o (refuse n p x ∷ acts) = ⊥

-- a label is marked only after it is made
unfoldable pub Scoped : ℕ → List Action → Type 0
Scoped n [] = Unit {0}
Scoped n (new at ∷ acts) = Scoped (n + 1) acts
Scoped n (mark l ∷ acts) = (l < n) × Scoped n acts
Scoped n (emit i ∷ acts) = Scoped n acts
Scoped n (refuse a p x ∷ acts) = Scoped n acts

-- 1 if the two labels are one
unfoldable pub hit : ℕ → ℕ → ℕ
hit k l = elim (eqb k l) [ true ↦ 1 | false ↦ 0 ]

-- how often a label stands in a list
abbrev pub hits : List ℕ → ℕ → ℕ
hits [] l = 0
hits (k ∷ ks) l = hit k l + hits ks l

-- how often a label is marked
unfoldable pub count : ℕ → List Action → ℕ
count l [] = 0
count l (new at ∷ acts) = count l acts
count l (mark k ∷ acts) = hit k l + count l acts
count l (emit i ∷ acts) = count l acts
count l (refuse n p x ∷ acts) = count l acts

-- 1 if the label is below n
unfoldable pub below : ℕ → ℕ → ℕ
below n l = elim (ltb l n) [ true ↦ 1 | false ↦ 0 ]

-- a record lands on its own start or behind it, unless it is a Jump
unfoldable pub Ahead : (M : ℕ → ℕ) (o : ℕ) → Instr → Type 0
Ahead M o i = eqb i.tag Jump ≡ false → ((row_of i.tag).first ≡ true → o ≤ M i.first) × ((row_of i.tag).second ≡ true → o ≤ M i.second)

unfoldable pub Onwards : (M : ℕ → ℕ) (o : ℕ) → List Action → Type 0
Onwards M o [] = Unit {0}
Onwards M o (new at ∷ acts) = Onwards M o acts
Onwards M o (mark l ∷ acts) = Onwards M o acts
Onwards M o (emit i ∷ acts) = Ahead M o i × Onwards M (o + size i) acts
Onwards M o (refuse n p x ∷ acts) = Onwards M o acts

-- each distance of a list is at least -32,764, if all before it are in range
unfoldable pub Backs : List ℤ → Type 0
Backs [] = Unit
Backs (d ∷ ds) = NotBelow d × (T (in_range d) → Backs ds)

-- 2. The judgement

-- The code p at offset o, with n labels before it, where the final marks are M, has the size s, c records and the distances ds.
-- It makes the labels `made` and marks `marked`, beside labels that are no one else's; `scope` is what its marks ask of n;
-- `needs` is what its carriers ask of M, `gives` what its marks say of M, and `reach` what its distances back ask.
pub record Piece (M : ℕ → ℕ) (o n : ℕ) (p : Code) (s c : ℕ) (made marked : List ℕ) (scope needs gives reach : Type 0) (ds : List ℤ) : Type 0 where
  pub once : (l : ℕ) → count l (actions p n) + below n l + hits made l ≤ below (n + news (actions p n)) l + hits marked l
  pub scoped : scope → Scoped n (actions p n)
  pub sized : Agrees M o (actions p n) → total (actions p n) ≡ s
  pub counted : Agrees M o (actions p n) → length (records (actions p n)) ≡ c
  -- whatever is refused, it emits no more than that
  pub most : (total (actions p n) ≤ s) × (length (records (actions p n)) ≤ c)
  pub given : Agrees M o (actions p n) → gives
  pub lands : Agrees M o (actions p n) → needs → dists M o (actions p n) ≡ ds
  pub backs : Agrees M o (actions p n) → reach → Backs ds
  pub onward : Agrees M o (actions p n) → needs → Onwards M o (actions p n)

-- 3. Over `++`

pub news_append : (a b : List Action) → news (a ++ b) ≡ news a + news b
unfolding news
news_append [] b = omega arith
news_append (new at ∷ a) b = omega (arith, news_append a b)
news_append (mark l ∷ a) b = news_append a b
news_append (emit i ∷ a) b = news_append a b
news_append (refuse n p x ∷ a) b = news_append a b

pub total_append : (a b : List Action) → total (a ++ b) ≡ total a + total b
unfolding total
total_append [] b = omega arith
total_append (new at ∷ a) b = total_append a b
total_append (mark l ∷ a) b = total_append a b
total_append (emit i ∷ a) b = omega (arith, total_append a b)
total_append (refuse n p x ∷ a) b = total_append a b

pub records_append : (a b : List Action) → length (records (a ++ b)) ≡ length (records a) + length (records b)
unfolding records
records_append [] b = omega arith
records_append (new at ∷ a) b = records_append a b
records_append (mark l ∷ a) b = records_append a b
records_append (emit i ∷ a) b = omega (arith, records_append a b)
records_append (refuse n p x ∷ a) b = records_append a b

pub count_append : (l : ℕ) (a b : List Action) → count l (a ++ b) ≡ count l a + count l b
unfolding count
count_append l [] b = omega arith
count_append l (new at ∷ a) b = count_append l a b
count_append l (mark k ∷ a) b = omega (arith, count_append l a b)
count_append l (emit i ∷ a) b = count_append l a b
count_append l (refuse n p x ∷ a) b = count_append l a b

pub hits_append : (a b : List ℕ) (l : ℕ) → hits (a ++ b) l ≡ hits a l + hits b l
hits_append [] b l = omega arith
hits_append (k ∷ a) b l = omega (arith, hits_append a b l)

pub scoped_append : (n : ℕ) (a b : List Action) → Scoped n a → Scoped (n + news a) b → Scoped n (a ++ b)
unfolding Scoped news
scoped_append n [] b s t = rw add-zero at t
scoped_append n (new at ∷ a) b s t = scoped_append (n + 1) a b s (let e : n + suc (news a) ≡ n + 1 + news a = omega arith in rw e at t)
scoped_append n (mark l ∷ a) b s t = (s.0, scoped_append n a b s.1 t)
scoped_append n (emit i ∷ a) b s t = scoped_append n a b s t
scoped_append n (refuse c p x ∷ a) b s t = scoped_append n a b s t

also_append : (b : Bool) (d : ℤ) (xs ys : List ℤ) → also b d (xs ++ ys) ≡ also b d xs ++ ys
unfolding also
also_append true d xs ys = refl
also_append false d xs ys = refl

carried_append : (M : ℕ → ℕ) (o : ℕ) (i : Instr) (xs ys : List ℤ) → carried M o i (xs ++ ys) ≡ carried M o i xs ++ ys
unfolding carried
carried_append M o i xs ys = rw (also_append (row_of i.tag).second (sub_ℕ (M i.second) o) xs ys) (also_append (row_of i.tag).first (sub_ℕ (M i.first) o) _ ys)

pub dists_append : (M : ℕ → ℕ) (o : ℕ) (a b : List Action) → dists M o (a ++ b) ≡ dists M o a ++ dists M (o + total a) b
unfolding dists total
dists_append M o [] b = rw add-zero
dists_append M o (new at ∷ a) b = dists_append M o a b
dists_append M o (mark l ∷ a) b = dists_append M o a b
dists_append M o (emit i ∷ a) b = rw (dists_append M (o + size i) a b, ← add_assoc o (size i) (total a)) (carried_append M o i (dists M (o + size i) a) _)
dists_append M o (refuse n p x ∷ a) b = dists_append M o a b

pub onwards_append : (M : ℕ → ℕ) (o : ℕ) (a b : List Action) → Onwards M o a → Onwards M (o + total a) b → Onwards M o (a ++ b)
unfolding Onwards total
onwards_append M o [] b h k = rw add-zero at k
onwards_append M o (new at ∷ a) b h k = onwards_append M o a b h k
onwards_append M o (mark l ∷ a) b h k = onwards_append M o a b h k
onwards_append M o (emit i ∷ a) b h k = (h.0, onwards_append M (o + size i) a b h.1 (rw (← add_assoc) at k))
onwards_append M o (refuse n p x ∷ a) b h k = onwards_append M o a b h k

pub backs_append : (xs ys : List ℤ) → Backs xs → Backs ys → Backs (xs ++ ys)
unfolding Backs
backs_append [] ys h k = k
backs_append (x ∷ xs) ys h k = (h.0, λ t. backs_append xs ys (h.1 t) k)

pub agrees_left : (M : ℕ → ℕ) (o : ℕ) (a b : List Action) → Agrees M o (a ++ b) → Agrees M o a
unfolding Agrees
agrees_left M o [] b h = tt
agrees_left M o (new at ∷ a) b h = agrees_left M o a b h
agrees_left M o (mark l ∷ a) b h = (h.0, agrees_left M o a b h.1)
agrees_left M o (emit i ∷ a) b h = agrees_left M (o + size i) a b h
agrees_left M o (refuse n p x ∷ a) b h = h

pub agrees_right : (M : ℕ → ℕ) (o : ℕ) (a b : List Action) → Agrees M o (a ++ b) → Agrees M (o + total a) b
unfolding Agrees total
agrees_right M o [] b h = rw add-zero h
agrees_right M o (new at ∷ a) b h = agrees_right M o a b h
agrees_right M o (mark l ∷ a) b h = agrees_right M o a b h.1
agrees_right M o (emit i ∷ a) b h = rw (← add_assoc) (agrees_right M (o + size i) a b h)
agrees_right M o (refuse n p x ∷ a) b h = absurd h

-- 4. Numbers

pub below_yes : (n l : ℕ) → l < n → below n l ≡ 1
unfolding below
below_yes n l h = rw (lt-ltb l n h, below)

pub below_no : (n l : ℕ) → n ≤ l → below n l ≡ 0
unfolding below
below_no n l h = rw (le-ltb l n h, below)

pub hit_yes : (l : ℕ) → hit l l ≡ 1
unfolding hit
hit_yes l = rw (eq-eqb l l refl, hit)

pub hit_no : (k l : ℕ) → k ≢ l → hit k l ≡ 0
unfolding hit
hit_no k l h = rw (ne_eqb k l h, hit)

-- a label more
pub below_suc : (n l : ℕ) → below (suc n) l ≡ below n l + hit n l
below_suc n l = go (dec_lt l n) (ℕ_discrete n l)
  where
    go : Dec (l < n) → Dec (n ≡ l) → below (suc n) l ≡ below n l + hit n l
    go (yes h) (yes e) = absurd (omega arith)
    go (yes h) (no f) = rw (below_yes (suc n) l (omega arith), below_yes n l h, hit_no n l f)
    go (no h) (yes e) = rw (← e, below_yes (suc n) n (omega arith), below_no n n (omega arith), hit_yes n)
    go (no h) (no f) = rw (below_no (suc n) l (omega arith), below_no n l (omega arith), hit_no n l f)

pub sub_ahead : (m o a : ℕ) → m ≡ o + a → sub_ℕ m o ≡ ahead a
sub_ahead m o a h = rw (le-ltb m o (omega arith)) (ap pos (omega arith))

pub sub_back : (m o a : ℕ) → m + a ≡ o → sub_ℕ m o ≡ back a
unfolding back
sub_back m o zero h = sub_ahead m o 0 (omega arith)
sub_back m o (suc a) h = rw (lt-ltb m o (omega arith)) (ap negsuc (omega arith))

pub back_one : (a : ℕ) → a ≤ 32764 → NotBelow (back a)
unfolding NotBelow back
back_one zero h = tt
back_one (suc a) h = h
