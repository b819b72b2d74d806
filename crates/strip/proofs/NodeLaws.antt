-- Nodes, runs and items: the passes over their parts together are the step of the definition. Assumes nothing.
use Prim.Native.Nat.{ℕ, zero, suc, ◌+◌, ◌-◌, ◌≤◌, ◌<◌}
use mathlib.Core.Path.{◌≡◌, refl, sym, ap, subst, ◌∙◌}
use mathlib.Core.Bool.{Bool, true, false}
use Rattle.std.specs.Prelude.{Option, Some, None}
use mathlib.Core.Option as math
use mathlib.Core.List.{List, ◌++◌}
use mathlib.Core.Option.{none, some}
use native.Mathlib.Omega.{arith}
use native.Mathlib.Numerals.{add-one}
use lib.Dec.{leb}
use lib.ListN.{get_or, take, drop}
use borrow.Author.Tests.{leb-true, lt-ltb, le-ltb}
use Rattle.laws.proofs.Inversion.{impossible}
use Rattle.definitions.specs.Bytes.{number}
use Rattle.definitions.specs.Strip as definition
use Rattle.definitions.specs.Strip.{Strip, only, nothing, ◌and◌, keep, keep_length, strip_items, strip_run, strip_parts, strip_kind, strip_node, strip_expr, strip_stmt, expr_parts, stmt_parts, parts_of}
use Rattle.instr.proofs.NumberLaws.{one_byte}
use Rattle.strip.specs.Parts.{node_of, depth_of, item_of, of_class, blocks_of}
use Rattle.strip.specs.declared.fields.Passed.{Passed}
use Rattle.strip.specs.Passing.{passed, fitting, span_of, pass_if, guarded, handed, whole, Copied, Left, Did, Within, parts_in}
use Rattle.ir.specs.declared.Class.{Class}
use Rattle.ir.specs.declared.Class.TheVariants.{Statement, Expression}
use Rattle.ir.specs.declared.Item.{Item}
use Rattle.ir.specs.declared.Item.TheVariants.{Node, Arm}
use Rattle.strip.proofs.Laws.{same_end, further, both, stopped, stopping, checking, guarded_within, wider, keeps_number, stays}
use Rattle.strip.proofs.FieldLaws.{fits, fits_not, fits_in, fits_no}

-- 1. Lengths

-- the end of what a length counts, as the number that was passed last
abbrev as_passed : Option (ℕ × ℕ) → Option Passed
as_passed (Some (at, n)) = Some (passed at n)
as_passed None = None

-- the length is passed, and its end is within
pub record Spans (s : List ℕ) (end at first stop : ℕ) : Type 0 where
  pub from : first ≡ at + 4
  pub low : first ≤ stop
  pub high : stop ≤ end

spans_of : (s : List ℕ) (end at n first stop : ℕ) (b c : Bool) (r : Option (ℕ × ℕ)) → leb (at + 4 + n) end ≡ c → r ≡ Some (first, stop)
    → r ≡ elim b [ true ↦ elim c [ true ↦ Some (at + 4, at + 4 + n) | false ↦ None ] | false ↦ None ] → Spans s end at first stop
spans_of s end at n first stop true true r h d e =
    let k = same_end (ap as_passed (sym d ∙ e)) in
    let f : first ≡ at + 4 = k.0 in
    let t : stop ≡ at + 4 + n = k.1 in
    let l = leb-true (at + 4 + n) end h in
    record { from = f; low = omega arith; high = omega arith }
spans_of s end at n first stop true false r h d e = impossible (cc)
spans_of s end at n first stop false c r h d e = impossible (cc)

pub spans_in : (s : List ℕ) (end at first stop : ℕ) (r : Option (ℕ × ℕ)) → r ≡ Some (first, stop) → r ≡ span_of s end at → Spans s end at first stop
unfolding span_of
spans_in s end at first stop r d e = spans_of s end at (number 4 s at) first stop (leb (at + 4) end) (leb (at + 4 + number 4 s at) end) r refl d e

-- a length is a field of four bytes and a check
passed_if : (b : Bool) (at n : ℕ) → as_passed (pass_if b (Some (at, n))) ≡ pass_if b (Some (passed at n))
passed_if true at n = refl
passed_if false at n = refl

span_of_law : (s o : List ℕ) (at end : ℕ) (b : Bool) (r : Option (ℕ × ℕ)) (r₀ : Option Passed) → Did s at o (keep s end 4) r₀ o → r₀ ≡ elim b [ true ↦ Some (passed (at + 4) (number 4 s at)) | false ↦ None ]
    → r ≡ elim b [ true ↦ pass_if (leb (at + 4 + number 4 s at) end) (Some (at + 4, at + 4 + number 4 s at)) | false ↦ None ] → Did s at o (keep_length s end) (as_passed r) o
unfolding keep_length
span_of_law s o at end true r r₀ d k e =
    let d' : Did s at o (keep s end 4) (Some (passed (at + 4) (number 4 s at))) o = subst (λ (r : Option Passed). Did s at o (keep s end 4) r o) k d in
    both s o o o at (at + 4) (number 4 s at) (keep s end 4) (λ next n rest at. only s (leb (at + n) end) (next (at + n)) rest at) (as_passed r) d'
    (checking s o (at + 4) (at + 4 + number 4 s at) (leb (at + 4 + number 4 s at) end) (as_passed r) (λ next rest a. only s (leb (a + number 4 s at) end) (next (a + number 4 s at)) rest a) d'.left
    (ap as_passed e ∙ passed_if (leb (at + 4 + number 4 s at) end) (at + 4) (at + 4 + number 4 s at)) (λ next rest. refl))
span_of_law s o at end false r r₀ d k e =
    subst (λ (r : Option (ℕ × ℕ)). Did s at o (keep_length s end) (as_passed r) o) (sym e)
    (stopped s o o at (keep s end 4) (λ next n rest at. only s (leb (at + n) end) (next (at + n)) rest at) (subst (λ (r : Option Passed). Did s at o (keep s end 4) r o) k d))

spanning : (s o : List ℕ) (at end : ℕ) (r q : Option (ℕ × ℕ)) → Copied s at o → r ≡ q → r ≡ span_of s end at → Did s at o (keep_length s end) (as_passed q) o
unfolding span_of fitting
spanning s o at end r q c d e =
    subst (λ (r : Option (ℕ × ℕ)). Did s at o (keep_length s end) (as_passed r) o) d
    (span_of_law s o at end (leb (at + 4) end) r (fitting at 4 end (number 4 s at)) (keeps_number s o at end 4 (fitting at 4 end (number 4 s at)) c refl) refl e)

pub span_copied : (s o : List ℕ) (at end first stop : ℕ) (r : Option (ℕ × ℕ)) → Copied s at o → r ≡ Some (first, stop) → r ≡ span_of s end at → Copied s first o
span_copied s o at end first stop r c d e = (spanning s o at end r (Some (first, stop)) c d e).left

pub body_copied : (s o : List ℕ) (at end first stop n body m : ℕ) (r₁ : Option (ℕ × ℕ)) (r₂ : Option Passed) → Copied s at o → r₁ ≡ Some (first, stop) → r₁ ≡ span_of s end at → r₂ ≡ Some (passed body m) → r₂ ≡ fitting first 1 stop n → Copied s body o
body_copied s o at end first stop n body m r₁ r₂ c d e d' e' =
    subst (λ (x : ℕ). Copied s x o) (sym (fits_in first 1 stop n body m r₂ d' e').to) (further s o first 1 (span_copied s o at end first stop r₁ c d e))

-- 2. Nodes

module _ (s o : List ℕ) (at holder : ℕ) (all : List (List definition.Part)) (v c : ℕ → Strip) (n : ℕ) where
  abbrev node_step : (ℕ → Strip) → Strip
  node_step next = strip_node s holder all v c and next n

  abbrev kind_step : (end kind : ℕ) → Strip
  kind_step end kind = strip_kind s v c end (parts_of all kind)

  no_length : (r : Option (ℕ × ℕ)) → Copied s at o → r ≡ None → r ≡ span_of s holder at → Did s at o node_step None o
  unfolding strip_node
  no_length r k d e =
      let span = spanning s o at holder r None k d e in
      record { same = λ next rest. span.same (λ end. keep s end 1 (kind_step end)) (next n rest); left = span.left }

  no_byte : (first stop : ℕ) (r₁ : Option (ℕ × ℕ)) (r₂ : Option Passed) → Copied s at o → r₁ ≡ Some (first, stop) → r₁ ≡ span_of s holder at → r₂ ≡ None → r₂ ≡ fitting first 1 stop n → Did s at o node_step None o
  unfolding strip_node
  no_byte first stop r₁ r₂ k d e d' e' =
      let span = spanning s o at holder r₁ (Some (first, stop)) k d e in
      let kind = keeps_number s o first stop 1 None span.left (fits_not first 1 stop (number 1 s first) (fits_no first 1 stop n r₂ d' e')) in
      record { same = λ next rest. kind.same (kind_step stop) (next n rest) ∙ span.same (λ end. keep s end 1 (kind_step end)) (next n rest); left = kind.left }

  no_kind : (first stop body m kind : ℕ) (r₁ : Option (ℕ × ℕ)) (r₂ : Option Passed) → Copied s at o → r₁ ≡ Some (first, stop) → r₁ ≡ span_of s holder at → r₂ ≡ Some (passed body m) → r₂ ≡ fitting first 1 stop n
      → kind ≡ get_or s first 0 → none ≡ parts_of all kind → Did s at o node_step None o
  unfolding strip_node strip_kind
  no_kind first stop body m kind r₁ r₂ k d e d' e' t p =
      let span = spanning s o at holder r₁ (Some (first, stop)) k d e in
      let f = fits_in first 1 stop n body m r₂ d' e' in
      let kind' = keeps_number s o first stop 1 (Some (passed (first + 1) (number 1 s first))) span.left (fits first 1 stop (number 1 s first) f.room) in
      let number_is : kind ≡ number 1 s first = one_byte s first t in
      let stops : parts_of all (number 1 s first) ≡ none = rw number_is at (sym p) in
      record {
        same = λ next rest. sym (stays s o (first + 1) kind'.left)
            ∙ ap (λ (ps : math.Option (List definition.Part)). take (first + 1) o ++ strip_kind s v c stop ps (next n rest) (first + 1)) (sym stops)
            ∙ kind'.same (kind_step stop) (next n rest) ∙ span.same (λ end. keep s end 1 (kind_step end)) (next n rest);
        left = span.left.long;
      }

  a_node : (first stop body m kind : ℕ) (ps : List definition.Part) (r₁ : Option (ℕ × ℕ)) (r₂ r : Option Passed) (o' : List ℕ) → Copied s at o → r₁ ≡ Some (first, stop) → r₁ ≡ span_of s holder at → r₂ ≡ Some (passed body m) → r₂ ≡ fitting first 1 stop n
      → kind ≡ get_or s first 0 → some ps ≡ parts_of all kind → Did s body o (λ next. strip_parts s v c stop ps 0 and next m) r o' → Did s at o node_step r o'
  unfolding strip_node strip_kind
  a_node first stop body m kind ps r₁ r₂ r o' k d e d' e' t p parts =
      let span = spanning s o at holder r₁ (Some (first, stop)) k d e in
      let f = fits_in first 1 stop n body m r₂ d' e' in
      let kind' = keeps_number s o first stop 1 (Some (passed (first + 1) (number 1 s first))) span.left (fits first 1 stop (number 1 s first) f.room) in
      let number_is : kind ≡ number 1 s first = one_byte s first t in
      let parts' : Did s body o (λ next. strip_parts s v c stop ps 0 and next n) r o' = subst (λ (m : ℕ). Did s body o (λ next. strip_parts s v c stop ps 0 and next m) r o') f.number parts in
      record {
        same = λ next rest. parts'.same next rest
            ∙ ap (λ (ps : math.Option (List definition.Part)). take body o ++ strip_kind s v c stop ps (next n rest) body) p
            ∙ ap (λ (b : ℕ). take b o ++ kind_step stop kind (next n rest) b) f.to
            ∙ ap (λ (kind : ℕ). take (first + 1) o ++ kind_step stop kind (next n rest) (first + 1)) number_is
            ∙ kind'.same (kind_step stop) (next n rest) ∙ span.same (λ end. keep s end 1 (kind_step end)) (next n rest);
        left = parts'.left;
      }

-- by its class
pub blocks_low : (class : Class) (d : ℕ) → blocks_of class d ≤ d
blocks_low Statement d = omega arith
blocks_low Expression d = omega arith

pub depth_low : (class : Class) (depth blocks : ℕ) → blocks ≤ depth → depth_of class depth blocks ≤ depth
depth_low Statement depth blocks h = h
depth_low Expression depth blocks h = omega arith

node_on : (class : Class) (inner : ℕ) (s : List ℕ) (holder : ℕ) → strip_node s holder (of_class class) (strip_expr inner s) (strip_stmt (blocks_of class inner) s) ≡ node_of class (suc inner) s holder
unfolding strip_expr strip_stmt
node_on Statement inner s holder = refl
node_on Expression inner s holder = refl

pub deep : (s o : List ℕ) (at holder n depth : ℕ) (class : Class) → Copied s at o → depth ≡ 0 → Did s at o (λ next. node_of class depth s holder and next n) None o × Within (at + 1) holder None
unfolding strip_expr strip_stmt
deep s o at holder n depth class c z = (stopping s o at (λ next. node_of class depth s holder and next n) c (λ next rest. rw z (go class (next n rest))), tt)
  where
    go : (class : Class) (rest : ℕ → List ℕ) → node_of class 0 s holder rest at ≡ drop at s
    go Statement rest = refl
    go Expression rest = refl

-- `inner` for the nodes in a node where `depth` may stand one in another
module _ (s o : List ℕ) (at holder n depth inner : ℕ) (class : Class) where
  abbrev Noded : (r : Option Passed) (o' : List ℕ) → Type 0
  Noded r o' = Did s at o (λ next. node_of class depth s holder and next n) r o' × Within (at + 1) holder r

  noded : (r : Option Passed) (o' : List ℕ) → depth ≡ suc inner → Did s at o (λ next. strip_node s holder (of_class class) (strip_expr inner s) (strip_stmt (blocks_of class inner) s) and next n) r o' → Within (at + 1) holder r → Noded r o'
  noded r o' z d w = (rw z (subst (λ (p : Strip). Did s at o (λ next. p and next n) r o') (node_on class inner s holder) d), w)

  pub lengthless : (r : Option (ℕ × ℕ)) → depth ≡ suc inner → Copied s at o → r ≡ None → r ≡ span_of s holder at → Noded None o
  lengthless r z c d e = noded None o z (no_length s o at holder (of_class class) (strip_expr inner s) (strip_stmt (blocks_of class inner) s) n r c d e) tt

  pub kindless : (first stop : ℕ) (r₁ : Option (ℕ × ℕ)) (r₂ : Option Passed) → depth ≡ suc inner → Copied s at o → r₁ ≡ Some (first, stop) → r₁ ≡ span_of s holder at → r₂ ≡ None → r₂ ≡ fitting first 1 stop n → Noded None o
  kindless first stop r₁ r₂ z c d e d' e' = noded None o z (no_byte s o at holder (of_class class) (strip_expr inner s) (strip_stmt (blocks_of class inner) s) n first stop r₁ r₂ c d e d' e') tt

  pub unlisted : (first stop body m kind : ℕ) (r₁ : Option (ℕ × ℕ)) (r₂ : Option Passed) → depth ≡ suc inner → Copied s at o → r₁ ≡ Some (first, stop) → r₁ ≡ span_of s holder at → r₂ ≡ Some (passed body m)
      → r₂ ≡ fitting first 1 stop n → kind ≡ get_or s first 0 → none ≡ parts_of (of_class class) kind → Noded None o
  unlisted first stop body m kind r₁ r₂ z c d e d' e' t p =
      noded None o z (no_kind s o at holder (of_class class) (strip_expr inner s) (strip_stmt (blocks_of class inner) s) n first stop body m kind r₁ r₂ c d e d' e' t p) tt

  pub node_in : (first stop body m kind : ℕ) (ps : List definition.Part) (r₁ : Option (ℕ × ℕ)) (r₂ r : Option Passed) (o' : List ℕ) → depth ≡ suc inner → Copied s at o → r₁ ≡ Some (first, stop) → r₁ ≡ span_of s holder at → r₂ ≡ Some (passed body m)
      → r₂ ≡ fitting first 1 stop n → kind ≡ get_or s first 0 → some ps ≡ parts_of (of_class class) kind
      → Did s body o (λ next. parts_in inner (blocks_of class inner) s stop ps 0 and next m) r o' × Within stop stop r → Noded r o'
  node_in first stop body m kind ps r₁ r₂ r o' z c d e d' e' t p h =
      let i = spans_in s holder at first stop r₁ d e in
      let f = fits_in first 1 stop n body m r₂ d' e' in
      noded r o' z (a_node s o at holder (of_class class) (strip_expr inner s) (strip_stmt (blocks_of class inner) s) n first stop body m kind ps r₁ r₂ r o' c d e d' e' t p h.0)
      (wider stop stop (at + 1) holder r (omega (arith, i.from, f.room)) i.high h.1)

-- 3. Runs

module _ (s o : List ℕ) (at end : ℕ) (item : ℕ → Strip) where
  abbrev Ran : (r : Option Passed) (o' : List ℕ) → Type 0
  Ran r o' = Did s at o (strip_run s end item) r o' × Within (at + 1) end r

  abbrev items_in : (next : ℕ → Strip) → ℕ → Strip
  items_in next to rest at = strip_items s (item to) (suc (to - at)) to 0 next rest at

  pub no_run : (r : Option (ℕ × ℕ)) → Copied s at o → r ≡ None → r ≡ span_of s end at → Ran None o
  unfolding strip_run
  no_run r c d e = (stopped s o o at (keep_length s end) items_in (spanning s o at end r None c d e), tt)

  pub a_run_of : (first stop : ℕ) (r₁ : Option (ℕ × ℕ)) (r : Option Passed) (o' : List ℕ) → Copied s at o → r₁ ≡ Some (first, stop) → r₁ ≡ span_of s end at
      → Did s first o (strip_items s (item stop) (suc (stop - first)) stop 0) r o' × Within first stop r → Ran r o'
  unfolding strip_run
  a_run_of first stop r₁ r o' c d e h =
      let i = spans_in s end at first stop r₁ d e in (
        both s o o o' at first stop (keep_length s end) items_in r (spanning s o at end r₁ (Some (first, stop)) c d e) (record { same = λ next rest. h.0.same next rest; left = h.0.left }),
        wider first stop (at + 1) end r (omega (arith, i.from)) i.high h.1,
      )

-- the items from `next` on, with fuel enough, and `count` before them
pub record Filling (s o : List ℕ) (at end : ℕ) (item : Strip) (out : List ℕ) (next count : ℕ) : Type 0 where
  pub fuel : ℕ
  pub enough : end ≤ next + fuel
  pub few : count ≤ next
  pub low : at ≤ next
  pub high : next ≤ end
  pub copied : Copied s next out
  pub same : (q : ℕ → Strip) (rest : ℕ → List ℕ) → take next out ++ strip_items s item (suc fuel) end count q rest next ≡ take at o ++ strip_items s item (suc (end - at)) end 0 q rest at

module _ (s o : List ℕ) (at end : ℕ) (item : Strip) where
  abbrev Items : (r : Option Passed) (o' : List ℕ) → Type 0
  Items r o' = Did s at o (strip_items s item (suc (end - at)) end 0) r o' × Within at end r

  pub fill_none : at ≤ end → Copied s at o → Filling s o at end item o at 0
  fill_none h c = record { fuel = end - at; enough = omega arith; few = omega arith; low = omega arith; high = h; copied = c; same = λ q rest. refl }

  items_on : (fuel next count : ℕ) (q : ℕ → Strip) (rest : ℕ → List ℕ) → next < end → strip_items s item (suc fuel) end count q rest next ≡ item (strip_items s item fuel end (suc count) q rest) next
  unfolding strip_items
  items_on fuel next count q rest h = simp (lt-ltb next end h, strip_items)

  items_end : (fuel next count : ℕ) (q : ℕ → Strip) (rest : ℕ → List ℕ) → end ≤ next → strip_items s item (suc fuel) end count q rest next ≡ q count rest end
  unfolding strip_items
  items_end fuel next count q rest h = simp (le-ltb next end h, strip_items)

  turn : (out : List ℕ) (next count fuel : ℕ) (r : Option Passed) (out' : List ℕ) → next < end → Did s next out (λ q. item and q count) r out'
      → ((q : ℕ → Strip) (rest : ℕ → List ℕ) → take next out ++ strip_items s item (suc fuel) end count q rest next ≡ take at o ++ strip_items s item (suc (end - at)) end 0 q rest at)
      → (q : ℕ → Strip) (rest : ℕ → List ℕ) → whole r out' (λ m. strip_items s item fuel end (suc count) q rest) ≡ take at o ++ strip_items s item (suc (end - at)) end 0 q rest at
  turn out next count fuel r out' h d g q rest =
      d.same (λ m rest. strip_items s item fuel end (suc count) q rest) rest ∙ ap (λ (x : List ℕ). take next out ++ x) (sym (items_on fuel next count q rest h)) ∙ g q rest

  more : (out : List ℕ) (next count fuel p m : ℕ) (out' : List ℕ) → next < end → end ≤ next + fuel → count ≤ next → at ≤ next → (next + 1 ≤ p) × (p ≤ end) → Did s next out (λ q. item and q count) (Some (passed p m)) out'
      → ((q : ℕ → Strip) (rest : ℕ → List ℕ) → take next out ++ strip_items s item (suc fuel) end count q rest next ≡ take at o ++ strip_items s item (suc (end - at)) end 0 q rest at)
      → Filling s o at end item out' p (count + 1)
  more out next count zero p m out' h k f l w d g = impossible (omega arith)
  more out next count (suc fuel) p m out' h k f l w d g =
      let w₀ = w.0 in
      let w₁ = w.1 in
      rw (add-one count) (record { fuel = fuel; enough = omega arith; few = omega arith; low = omega arith; high = w₁; copied = d.left; same = turn out next count (suc fuel) (Some (passed p m)) out' h d g })

  pub fill_next : (out : List ℕ) (next count p m : ℕ) (r : Option Passed) (out' : List ℕ) → Filling s o at end item out next count → next < end
      → Did s next out (λ q. item and q count) r out' × Within (next + 1) end r → r ≡ Some (passed p m) → Filling s o at end item out' p (count + 1)
  fill_next out next count p m r out' f h d e =
      let d' : Did s next out (λ q. item and q count) (Some (passed p m)) out' × Within (next + 1) end (Some (passed p m)) = subst (λ (r : Option Passed). Did s next out (λ q. item and q count) r out' × Within (next + 1) end r) e d in
      more out next count f.fuel p m out' h f.enough f.few f.low d'.1 d'.0 f.same

  pub fill_stopped : (out : List ℕ) (next count : ℕ) (r : Option Passed) (out' : List ℕ) → Filling s o at end item out next count → next < end
      → Did s next out (λ q. item and q count) r out' × Within (next + 1) end r → r ≡ None → Items None out'
  fill_stopped out next count r out' f h d e =
      let d' : Did s next out (λ q. item and q count) None out' = subst (λ (r : Option Passed). Did s next out (λ q. item and q count) r out') e d.0 in
      (record { same = turn out next count f.fuel None out' h d' f.same; left = d'.left }, tt)

  pub fill_end : (out : List ℕ) (next count : ℕ) → Filling s o at end item out next count → end ≤ next → Items (Some (passed end count)) out
  fill_end out next count f h =
      let i = f.low in
      let j = f.high in
      let n : next ≡ end = omega arith in (
        record {
          same = λ q rest. ap (λ (x : ℕ). take x out ++ q count rest end) (sym n) ∙ ap (λ (x : List ℕ). take next out ++ x) (sym (items_end f.fuel next count q rest h)) ∙ f.same q rest;
          left = subst (λ (x : ℕ). Copied s x out) n f.copied;
        },
        (omega arith, omega arith),
      )

-- 4. Items

-- a run inside an item is of nodes: what may hold a run ranks above
abbrev pub rank : Item → ℕ
rank (Node class) = 0
rank Arm = 1

module _ (s o : List ℕ) (at end n depth blocks : ℕ) (item : Item) (r : Option Passed) (o' : List ℕ) where
  abbrev Itemed : Type 0
  Itemed = Did s at o (λ next. item_of item depth blocks s end and next n) r o' × Within (at + 1) end r

  an_arm : item ≡ Arm → Did s at o (λ next. item_of Arm depth blocks s end and next n) r o' × Within (at + 1) end r → Itemed
  an_arm h d = go item h
    where
      go : (item : Item) → item ≡ Arm → Did s at o (λ next. item_of item depth blocks s end and next n) r o' × Within (at + 1) end r
      go (Node class) h = impossible (cc)
      go Arm h = d

  abbrev block_in : (ℕ → Strip) → ℕ → Strip
  block_in next m = λ rest. strip_run s end (strip_stmt blocks s) (λ k. nothing) (next n rest)

  pub arm_stopped : (r₁ : Option Passed) → item ≡ Arm → Did s at o (λ next. strip_expr depth s end and next n) r₁ o' × Within (at + 1) end r₁ → r₁ ≡ None → r ≡ None → Itemed
  arm_stopped r₁ h d e k =
      let d' : Did s at o (λ next. strip_expr depth s end and next n) None o' = subst (λ (r : Option Passed). Did s at o (λ next. strip_expr depth s end and next n) r o') e d.0 in
      an_arm h (subst (λ (r : Option Passed). Did s at o (λ next. item_of Arm depth blocks s end and next n) r o' × Within (at + 1) end r) (sym k)
      (record { same = λ next rest. d'.same (block_in next) rest; left = d'.left }, tt))

handed_whole : (n : ℕ) (o : List ℕ) (r₀ : Option Passed) (k : ℕ → ℕ → List ℕ) → whole (handed n r₀) o k ≡ whole r₀ o (λ m. k n)
unfolding guarded
handed_whole n o (Some p) k = refl
handed_whole n o None k = refl

handed_left : (s : List ℕ) (n : ℕ) (o : List ℕ) (r₀ : Option Passed) → Left s r₀ o → Left s (handed n r₀) o
unfolding guarded
handed_left s n o (Some p) h = h
handed_left s n o None h = h

pub arm_block : (s o o₁ o' : List ℕ) (at end n depth blocks : ℕ) (item : Item) (body m : ℕ) (r₁ r₂ r : Option Passed) → item ≡ Arm
    → Did s at o (λ next. strip_expr depth s end and next n) r₁ o₁ × Within (at + 1) end r₁ → r₁ ≡ Some (passed body m)
    → Did s body o₁ (strip_run s end (strip_stmt blocks s)) r₂ o' × Within (body + 1) end r₂ → r ≡ handed n r₂ → Itemed s o at end n depth blocks item r o'
arm_block s o o₁ o' at end n depth blocks item body m r₁ r₂ r h d e b k =
    let d' : Did s at o (λ next. strip_expr depth s end and next n) (Some (passed body m)) o₁ × Within (at + 1) end (Some (passed body m))
    = subst (λ (r : Option Passed). Did s at o (λ next. strip_expr depth s end and next n) r o₁ × Within (at + 1) end r) e d in
    let w = d'.1.0 in
    an_arm s o at end n depth blocks item r o' h (
      record {
        same = λ next rest. ap (λ (r : Option Passed). whole r o' (λ m. next m rest)) k ∙ handed_whole n o' r₂ (λ m. next m rest) ∙ b.0.same (λ k. nothing) (next n rest)
            ∙ d'.0.same (λ m rest. strip_run s end (strip_stmt blocks s) (λ k. nothing) (next n rest)) rest;
        left = subst (λ (r : Option Passed). Left s r o') (sym k) (handed_left s n o' r₂ b.0.left);
      },
      guarded_within (at + 1) end (λ a k. true) (λ k. n) r₂ r (wider (body + 1) end (at + 1) end r₂ (omega arith) (omega arith) b.1) k,
    )
