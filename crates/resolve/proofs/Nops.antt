-- A unit that is too distant, by a law: a While on `false` with n Nop statements resolves up to n = 32,760 and gives 32 from 32,761 on. Assumes nothing.
use Prim.Native.Nat.{ℕ, zero, suc, ◌+◌, ◌-◌, ◌*◌, ◌/◌, ◌%◌, ◌^◌, ◌≤◌, ◌<◌}
use mathlib.Core.Path.{◌≡◌, refl, ap, sym, ◌∙◌}
use mathlib.Core.Bool.{Bool, true, false, cond, and-eq-true_iff}
use mathlib.Core.List.{List, [], ◌∷◌, ◌++◌, append-nil, append_assoc}
use mathlib.Core.Option.{none, some}
use native.Mathlib.Omega.{arith}
use native.Mathlib.Nat.{add-zero}
use lib.Dec.{leb, ltb, lit≤}
use lib.ListN.{length, get_or, drop, length-append}
use lib.Seq.{get_or-drop, drop-drop, append_snoc}
use lib.IntN.{ℤ, pos, negsuc}
use borrow.Author.Tests.{ltb-true, le-leb, lt-ltb, le-ltb, leb-true, leb-false, eq-eqb}
use Rattle.definitions.specs.Answer.{ok, bind, Result, made, onward, checked}
use Rattle.definitions.specs.Bytes.{number, bytes}
use Rattle.definitions.specs.Tag
use Rattle.definitions.specs.Tag.{sizes, tag_size, rows, row_of, const_tag}
use Rattle.definitions.specs.Tree.{Stmt, Script, nop, const, expr, while, bnil, bcons, block_of}
use Rattle.definitions.specs.Read.{Parser, ◌>>=◌, give, unsigned, byte_below, room, span, items, filling, run, head, ended, node, pick, as_nop, payload, as_const, expr_kinds, expr_body, parse_expr, as_expr, as_while, stmt_kinds, stmt_body, parse_stmt, front_good, parse_unit, unit_limit}
use Rattle.definitions.specs.Instr.{Instr, size, plain}
use Rattle.definitions.specs.Code.{done, act, ◌then◌, mark, State, emit_record, unmarked, label_limit, step, execute}
use Rattle.definitions.specs.Lower
use Rattle.definitions.specs.Lower.{BlockSpan, in_loop, outside, lower_expr, lower_block, lower_stmt, lower}
use Rattle.definitions.specs.Listing.{listing_length, listing_bytes}
use Rattle.definitions.specs.Resolve.{in_range, word, resolve}
use Rattle.definitions.specs.Stage.{lower_into, over, listed, lower_to, coded, unresolved, resolve_to}
use Rattle.laws.proofs.Tables.{every}
use Rattle.instr.proofs.NumberLaws.{read_back}
use Rattle.ir.proofs.Inversion.{items_end}
use Rattle.landing.specs.Distance.{back, size_expr, size_block, size_stmt, dist_expr, dist_block, dist_stmt, distances_of}
use Rattle.landing.specs.Landed.{left, filled_field, filled, or_else, far_field, first_far, first_out}
use Rattle.landing.specs.Walk.{Bytes}
use Rattle.landing.proofs.Applied.{jump}
use Rattle.resolve.specs.Delivered.{delivers, listing_in}
use Rattle.resolve.proofs.Delivered.{delivered, lists, named}

-- 1. The tree

-- n Nop statements, the first at place `at`
unfoldable pub nops_at : (at n : ℕ) → List Stmt
nops_at at zero = []
nops_at at (suc n) = expr at (nop (at + 5)) ∷ nops_at (at + 10) n

abbrev pub while_nops : (n : ℕ) → Script
while_nops n = record { returns = 0; body = bcons (while 10 (const 15 15 0) (block_of (nops_at 26 n))) bnil }

nops_size : (at n r : ℕ) → size_block (block_of (nops_at at n)) r ≡ n
unfolding nops_at block_of size_stmt size_expr tag_size sizes
nops_size at zero r = refl
nops_size at (suc n) r = rw (nops_size (at + 10) n r) (omega arith)

nops_distances : (at n r before after : ℕ) → dist_block (block_of (nops_at at n)) r before after ≡ []
unfolding nops_at block_of dist_stmt dist_expr
nops_distances at zero r before after = refl
nops_distances at (suc n) r before after = nops_distances (at + 10) n r _ after

-- JumpIfFalse, false, the Nops, and Jump back
while_distances : (n : ℕ) → distances_of (while_nops n) ≡ pos (n + 7) ∷ negsuc (n + 3) ∷ []
unfolding dist_stmt dist_expr size_stmt size_expr tag_size sizes const_tag back
while_distances n =
    let a : 4 + n + 3 ≡ n + 7 = omega arith in
    let c : 4 + n ≡ suc (n + 3) = omega arith in
    rw (nops_distances 26 n 0 4 3, nops_size 26 n 0, a, c)

-- exactly up to 32,760
pub too_distant : (n : ℕ) → first_out (distances_of (while_nops n)) ≡ cond (leb n 32760) none (some (pos (n + 7)))
unfolding first_out in_range
too_distant n = rw (while_distances n) (go (leb n 32760) refl)
  where
    go : (b : Bool) → leb n 32760 ≡ b → first_out (pos (n + 7) ∷ negsuc (n + 3) ∷ []) ≡ cond b none (some (pos (n + 7)))
    go true e = let h = leb-true n 32760 e in rw (lt-ltb (n + 7) 32768 (omega arith), lt-ltb (n + 3) 32768 (omega arith))
    go false e = let h = leb-false n 32760 e in rw (le-ltb (n + 7) 32768 (omega arith))

-- 2. Reading forward: a step that finds what it asks for

reads_unsigned : (s : List ℕ) (place end w at v : ℕ) → at + w ≤ end → number w s at ≡ v → unsigned s place end w at ≡ ok v (at + w)
unfolding unsigned
reads_unsigned s place end w at v h e = simp (le-leb (at + w) end h, unsigned, e)

reads_byte : (s : List ℕ) (place end bound at v : ℕ) → at + 1 ≤ end → number 1 s at ≡ v → v < bound → byte_below s place end bound at ≡ ok v (at + 1)
unfolding byte_below bind
reads_byte s place end bound at v h e l = simp (reads_unsigned s place end 1 at v h e, byte_below, bind, lt-ltb v bound l)

-- a length, and where what it counts ends
module _ (s : List ℕ) (end at v stop : ℕ) (e : number 4 s at ≡ v) (d : at + 4 + v ≡ stop) (h : stop ≤ end) where
  reads_span : span s end at ≡ ok stop (at + 4)
  unfolding span room ◌>>=◌ bind
  reads_span = simp (reads_unsigned s at end 4 at v (omega arith) e, span, ◌>>=◌, bind, room, d, le-leb stop end h)

  reads_run : {A : Type 0} (p : ℕ → Parser A) {xs : List A} → items (p stop) (suc (stop - (at + 4))) stop (at + 4) ≡ ok xs stop → run s end p at ≡ ok xs stop
  unfolding run filling ◌>>=◌ bind
  reads_run p r = simp (reads_span, run, ◌>>=◌, bind, filling) r

  reads_node : {A : Type 0} (body : (kind at end : ℕ) → Parser A) (kind : ℕ) {a : A} → 1 ≤ v → number 1 s (at + 4) ≡ kind → body kind at stop (at + 4 + 1) ≡ ok a stop → node s end body at ≡ ok a stop
  unfolding node head ended give ◌>>=◌ bind
  reads_node body kind l k b = simp (reads_span, reads_unsigned s at stop 1 (at + 4) kind (omega arith) k, b, eq-eqb stop stop refl, node, head, ended, give, ◌>>=◌, bind)

-- items up to the end of their run
next_item : {A : Type 0} (p : Parser A) (fuel stop at next : ℕ) {x : A} {xs : List A} → at < stop → p at ≡ ok x next → items p fuel stop next ≡ ok xs stop → items p (suc fuel) stop at ≡ ok (x ∷ xs) stop
unfolding items bind
next_item p fuel stop at next h e r = simp (lt-ltb at stop h, items, e, bind, r)

-- numbers in what is left of a unit
number_from : (w : ℕ) (s : List ℕ) (at k : ℕ) → number w s (at + k) ≡ number w (drop at s) k
unfolding number
number_from zero s at k = refl
number_from (suc w) s at k = let e : at + k + w ≡ at + (k + w) = omega arith in rw (number_from w s at k, get_or-drop at s (k + w) 0, e)

number_at : (w : ℕ) (s rest : List ℕ) (at k : ℕ) → drop at s ≡ rest → number w s (at + k) ≡ number w rest k
number_at w s rest at k e = number_from w s at k ∙ ap (λ l. number w l k) e

number_here : (w : ℕ) (s rest : List ℕ) (at : ℕ) → drop at s ≡ rest → number w s at ≡ number w rest 0
number_here w s rest at e = rw (add-zero at) at (number_at w s rest at 0 e)

further : (k : ℕ) (s rest : List ℕ) (at : ℕ) → drop at s ≡ rest → drop (at + k) s ≡ drop k rest
further k s rest at e = sym (drop-drop k at s) ∙ ap (drop k) e

-- 3. The bytes

unfoldable pub nops_bytes : (n : ℕ) → List ℕ
nops_bytes zero = []
nops_bytes (suc n) = 0 ∷ 0 ∷ 0 ∷ 6 ∷ 1 ∷ 0 ∷ 0 ∷ 0 ∷ 1 ∷ 1 ∷ nops_bytes n

unfoldable pub unit_of : (n : ℕ) → List ℕ
unit_of n =
    1 ∷ (bytes 4 (21 + 10 * n) ++ (0 ∷ (bytes 4 (16 + 10 * n) ++ (bytes 4 (12 + 10 * n) ++ (3 ∷ 0 ∷ 0 ∷ 0 ∷ 3 ∷ 2 ∷ 15 ∷ 0 ∷ (bytes 4 (10 * n) ++ nops_bytes n))))))

module _ (d : ℕ) (s rest : List ℕ) (holder at : ℕ) where
  nop_reads : drop at s ≡ 0 ∷ 0 ∷ 0 ∷ 1 ∷ 1 ∷ rest → at + 5 ≤ holder → parse_expr (suc d) s holder at ≡ ok (nop at) (at + 5)
  unfolding parse_expr expr_body expr_kinds pick as_nop give number
  nop_reads e h =
      reads_node s holder at 1 (at + 5) (number_here 4 s _ at e) (omega arith) h _ 1 (omega arith) (number_at 1 s _ at 4 e) (ap (ok (nop at)) (omega arith))

  false_reads : drop at s ≡ 0 ∷ 0 ∷ 0 ∷ 3 ∷ 2 ∷ 15 ∷ 0 ∷ rest → at + 7 ≤ holder → parse_expr (suc d) s holder at ≡ ok (const at 15 0) (at + 7)
  unfolding parse_expr expr_body expr_kinds pick as_const payload ◌>>=◌ bind give number
  false_reads e h =
      let a : at + 4 + 1 ≡ at + 5 = omega arith in
      let b : at + 5 + 1 ≡ at + 6 = omega arith in
      let c : at + 6 + 1 ≡ at + 7 = omega arith in
      reads_node s holder at 3 (at + 7) (number_here 4 s _ at e) (omega arith) h _ 2 (omega arith) (number_at 1 s _ at 4 e)
      (rw (a, reads_byte s at (at + 7) 16 (at + 5) 15 (omega arith) (number_at 1 s _ at 5 e) (omega arith), b, reads_byte s at (at + 7) 2 (at + 6) 0 (omega arith) (number_at 1 s _ at 6 e) (omega arith), c))

nop_stmt : (d : ℕ) (s rest : List ℕ) (holder at : ℕ) → drop at s ≡ 0 ∷ 0 ∷ 0 ∷ 6 ∷ 1 ∷ 0 ∷ 0 ∷ 0 ∷ 1 ∷ 1 ∷ rest → at + 10 ≤ holder → parse_stmt (suc (suc d)) s holder at ≡ ok (expr at (nop (at + 5))) (at + 10)
unfolding parse_stmt stmt_body stmt_kinds pick as_expr ◌>>=◌ bind give number
nop_stmt d s rest holder at e h =
    let a : at + 4 + 1 ≡ at + 5 = omega arith in
    let b : at + 5 + 5 ≡ at + 10 = omega arith in
    reads_node s holder at 6 (at + 10) (number_here 4 s _ at e) (omega arith) h _ 1 (omega arith) (number_at 1 s _ at 4 e)
    (rw (a, nop_reads d s rest (at + 10) (at + 5) (further 5 s _ at e) (omega arith), b))

nops_read : (d : ℕ) (s : List ℕ) (stop n fuel at : ℕ) → n ≤ fuel → drop at s ≡ nops_bytes n → at + 10 * n ≡ stop → items (parse_stmt (suc (suc d)) s stop) (suc fuel) stop at ≡ ok (nops_at at n) stop
unfolding nops_at nops_bytes
nops_read d s stop zero fuel at h e f = items_end _ fuel stop at (omega arith)
nops_read d s stop (suc n) zero at h e f = absurd (omega arith)
nops_read d s stop (suc n) (suc fuel) at h e f =
    next_item _ (suc fuel) stop at (at + 10) (omega arith) (nop_stmt d s (nops_bytes n) stop at e (omega arith)) (nops_read d s stop n fuel (at + 10) (omega arith) (further 10 s _ at e) (omega arith))

-- what the unit's bytes hold, place by place
record Shaped (s : List ℕ) (n : ℕ) : Type 0 where
  long : length s ≡ 26 + 10 * n
  short : length s ≤ unit_limit
  version : get_or s 0 0 ≡ 1
  whole : number 4 s 1 ≡ 21 + 10 * n
  returns : get_or s 5 0 ≡ 0
  run : number 4 s 6 ≡ 16 + 10 * n
  loop : number 4 s 10 ≡ 12 + 10 * n
  kind : number 1 s 14 ≡ 3
  condition : drop 15 s ≡ 0 ∷ 0 ∷ 0 ∷ 3 ∷ 2 ∷ 15 ∷ 0 ∷ drop 22 s
  body : number 4 s 22 ≡ 10 * n
  nops : drop 26 s ≡ nops_bytes n

nops_long : (n : ℕ) → length (nops_bytes n) ≡ 10 * n
unfolding nops_bytes
nops_long zero = refl
nops_long (suc n) = omega (arith, nops_long n)

shaped : (n : ℕ) → 26 + 10 * n ≤ unit_limit → Shaped (unit_of n) n
unfolding unit_of bytes number
shaped n h =
    let a = bytes 4 (21 + 10 * n) in
    let b = bytes 4 (16 + 10 * n) in
    let c = bytes 4 (12 + 10 * n) in
    let e : List ℕ = 3 ∷ 0 ∷ 0 ∷ 0 ∷ 3 ∷ 2 ∷ 15 ∷ 0 ∷ [] in
    let rest = bytes 4 (10 * n) ++ nops_bytes n in
    record {
      long = omega (arith, nops_long n);
      short = omega (arith, nops_long n);
      version = refl;
      whole = read_back 4 (21 + 10 * n) (1 ∷ []) (0 ∷ (b ++ (c ++ (e ++ rest)))) (omega arith);
      returns = refl;
      run = read_back 4 (16 + 10 * n) (1 ∷ (a ++ (0 ∷ []))) (c ++ (e ++ rest)) (omega arith);
      loop = read_back 4 (12 + 10 * n) (1 ∷ (a ++ (0 ∷ b))) (e ++ rest) (omega arith);
      kind = refl;
      condition = refl;
      body = read_back 4 (10 * n) (1 ∷ (a ++ (0 ∷ (b ++ (c ++ e))))) (nops_bytes n) (omega arith);
      nops = refl;
    }

-- 4. Read

module _ (s : List ℕ) (n : ℕ) (k : Shaped s n) where
  abbrev loop_of : Stmt
  loop_of = while 10 (const 15 15 0) (block_of (nops_at 26 n))

  while_reads : (d : ℕ) → parse_stmt (suc (suc (suc d))) s (26 + 10 * n) 10 ≡ ok loop_of (26 + 10 * n)
  unfolding parse_stmt stmt_body stmt_kinds pick as_while ◌>>=◌ bind give
  while_reads d =
      let stop = 26 + 10 * n in
      let r = reads_run s stop 22 (10 * n) stop k.body (omega arith) (omega arith) (parse_stmt (suc (suc d)) s) (nops_read d s stop n (stop - 26) 26 (omega arith) k.nops (omega arith)) in
      reads_node s stop 10 (12 + 10 * n) stop k.loop (omega arith) (omega arith) _ 3 (omega arith) k.kind
      (simp (false_reads (suc d) s (drop 22 s) stop 15 k.condition (omega arith), bind, r))

  front_good_law : front_good s ≡ true
  unfolding front_good
  front_good_law =
      rw (le-leb 6 (length s) (omega (arith, k.long)), le-leb (length s) unit_limit k.short, k.version, eq-eqb (5 + number 4 s 1) (length s) (omega (arith, k.long, k.whole)), k.returns)

  unit_reads : parse_unit s ≡ ok (while_nops n) (26 + 10 * n)
  unfolding parse_unit ◌>>=◌ bind ended block_of
  unit_reads =
      let stop = 26 + 10 * n in
      let f : stop - 10 ≡ suc (15 + 10 * n) = omega arith in
      let one : items (parse_stmt 200 s stop) (suc (stop - 10)) stop 10 ≡ ok (loop_of ∷ []) stop = rw f (next_item _ _ stop 10 stop (omega arith) (while_reads 197) (items_end _ _ stop stop (omega arith))) in
      let r = reads_run s stop 6 (16 + 10 * n) stop k.run (omega arith) (omega arith) (parse_stmt 200 s) one in
      simp (front_good_law, parse_unit, k.long, r, bind, ended, eq-eqb stop stop refl, k.returns)

-- 5. Lowered

-- the Nops of n statements, the first at place `at`
unfoldable pub nop_records : (at n : ℕ) → List Instr
nop_records at zero = []
nop_records at (suc n) = plain (at + 5) Tag.Nop 0 0 ∷ nop_records (at + 10) n

nops_count : (at n : ℕ) → length (nop_records at n) ≡ n
unfolding nop_records
nops_count at zero = refl
nops_count at (suc n) = ap suc (nops_count (at + 10) n)

-- JumpIfFalse, false, n Nops, Jump
unfoldable pub code_with : (first back n : ℕ) → List Instr
code_with first back n = jump 10 Tag.JumpIfFalse first 0 0 ∷ plain 15 Tag.FalseConst 0 0 ∷ (nop_records 26 n ++ (jump 10 Tag.Jump back 0 0 ∷ []))

nops_run : (at n : ℕ) (span : BlockSpan) (t : State) → execute (lower_block (block_of (nops_at at n)) span) t ≡ made (record { offset = t.offset + n; instrs = t.instrs ++ nop_records at n; marks = t.marks })
unfolding nops_at nop_records block_of lower_stmt lower_expr execute step onward size tag_size sizes row_of rows
nops_run at zero span t = rw (add-zero t.offset, append-nil t.instrs)
nops_run at (suc n) span t =
    let e : t.offset + 1 + n ≡ t.offset + suc n = omega arith in
    let i = plain (at + 5) Tag.Nop 0 0 in
    nops_run (at + 10) n span (emit_record i t) ∙ rw (e, append_snoc t.instrs i (nop_records (at + 10) n))

abbrev state_of : (n : ℕ) → State
state_of n = record { offset = n + 7; instrs = code_with 1 0 n; marks = 0 ∷ (n + 7) ∷ [] }

while_lowers : (n : ℕ) → lower (while_nops n) ≡ made (state_of n)
unfolding code_with lower_stmt lower_expr execute step onward checked unmarked label_limit const_tag size tag_size sizes row_of rows
while_lowers n =
    let e : 4 + n + 3 ≡ n + 7 = omega arith in
    let t : State = record { offset = 4; instrs = jump 10 Tag.JumpIfFalse 1 0 0 ∷ plain 15 Tag.FalseConst 0 0 ∷ []; marks = 0 ∷ unmarked ∷ [] } in
    ap {B = Result State} (λ r. onward (onward r (λ x. execute (Lower.jump 10 Tag.Jump 0 then act (mark 1)) x)) (λ x. execute done x)) (nops_run 26 n (in_loop 0 1 (outside 0)) t)
    ∙ rw (e, append_assoc)

-- 6. Its bytes are bytes

bytes_cons : (x : ℕ) (l : List ℕ) → x < 256 → Bytes l → (k : ℕ) → get_or (x ∷ l) k 0 < 256
bytes_cons x l h b zero = h
bytes_cons x l h b (suc k) = b k

bytes_front : (p l : List ℕ) → every (λ x. ltb x 256) p ≡ true → Bytes l → Bytes (p ++ l)
unfolding every
bytes_front [] l h b = b
bytes_front (x ∷ p) l h b =
    let g = (and-eq-true_iff (ltb x 256) (every (λ x. ltb x 256) p)).0 h in
    bytes_cons x (p ++ l) (ltb-true x 256 g.0) (bytes_front p l g.1 b)

bytes_number : (w v : ℕ) (l : List ℕ) → Bytes l → Bytes (bytes w v ++ l)
unfolding bytes
bytes_number zero v l b = b
bytes_number (suc w) v l b = bytes_cons (v / 256 ^ w % 256) (bytes w v ++ l) (omega arith) (bytes_number w v l b)

nops_bytes_law : (n : ℕ) → Bytes (nops_bytes n)
unfolding nops_bytes every
nops_bytes_law zero = λ k. omega arith
nops_bytes_law (suc n) = bytes_front (0 ∷ 0 ∷ 0 ∷ 6 ∷ 1 ∷ 0 ∷ 0 ∷ 0 ∷ 1 ∷ 1 ∷ []) (nops_bytes n) refl (nops_bytes_law n)

unit_bytes : (n : ℕ) → Bytes (unit_of n)
unfolding unit_of every
unit_bytes n =
    let nops = bytes 4 (10 * n) ++ nops_bytes n in
    let loop : List ℕ = 3 ∷ 0 ∷ 0 ∷ 0 ∷ 3 ∷ 2 ∷ 15 ∷ 0 ∷ nops in
    let node = bytes 4 (12 + 10 * n) ++ loop in
    let block = bytes 4 (16 + 10 * n) ++ node in
    let b = bytes_number 4 (16 + 10 * n) node (bytes_number 4 (12 + 10 * n) loop (bytes_front (3 ∷ 0 ∷ 0 ∷ 0 ∷ 3 ∷ 2 ∷ 15 ∷ 0 ∷ []) nops refl (bytes_number 4 (10 * n) (nops_bytes n) (nops_bytes_law n)))) in
    bytes_cons 1 (bytes 4 (21 + 10 * n) ++ (0 ∷ block)) (omega arith) (bytes_number 4 (21 + 10 * n) (0 ∷ block) (bytes_cons 0 block (omega arith) b))

-- 7. Resolved

-- Nops take no distance
far_nops : (k at n : ℕ) (is : List Instr) (ds : List ℤ) → first_far k (nop_records at n ++ is) ds ≡ first_far (k + n) is ds
unfolding nop_records first_far far_field left or_else row_of rows
far_nops k at zero is ds = rw (add-zero k)
far_nops k at (suc n) is ds = let e : suc k + n ≡ k + suc n = omega arith in far_nops (suc k) (at + 10) n is ds ∙ rw e

filled_nops : (at n : ℕ) (is : List Instr) (ds : List ℤ) → filled (nop_records at n ++ is) ds ≡ nop_records at n ++ filled is ds
unfolding nop_records filled filled_field left row_of rows
filled_nops at zero is ds = refl
filled_nops at (suc n) is ds = ap (λ rs. plain (at + 5) Tag.Nop 0 0 ∷ rs) (filled_nops (at + 10) n is ds)

while_filled : (n : ℕ) → filled (code_with 1 0 n) (pos (n + 7) ∷ negsuc (n + 3) ∷ []) ≡ code_with (n + 7) (65535 - (n + 3)) n
unfolding code_with filled filled_field left word row_of rows
while_filled n = ap (λ rs. jump 10 Tag.JumpIfFalse (n + 7) 0 0 ∷ plain 15 Tag.FalseConst 0 0 ∷ rs) (filled_nops 26 n (jump 10 Tag.Jump 0 0 0 ∷ []) (negsuc (n + 3) ∷ []))

while_far : (n : ℕ) → first_far 0 (code_with 1 0 n) (pos (n + 7) ∷ negsuc (n + 3) ∷ []) ≡ cond (leb n 32760) none (some (record { place = 0; extra = 0; distance = pos (n + 7) }))
unfolding code_with first_far far_field left or_else in_range row_of rows
while_far n = go (leb n 32760) refl
  where
    go : (b : Bool) → leb n 32760 ≡ b → first_far 0 (code_with 1 0 n) (pos (n + 7) ∷ negsuc (n + 3) ∷ []) ≡ cond b none (some (record { place = 0; extra = 0; distance = pos (n + 7) }))
    go true e =
        let h = leb-true n 32760 e in
        rw (lt-ltb (n + 7) 32768 (omega arith)) (far_nops 2 26 n (jump 10 Tag.Jump 0 0 0 ∷ []) (negsuc (n + 3) ∷ []) ∙ rw (lt-ltb (n + 3) 32768 (omega arith)))
    go false e = let h = leb-false n 32760 e in rw (le-ltb (n + 7) 32768 (omega arith))

-- 8. From the unit's bytes

-- the lent buffers after lowering
abbrev pub out_of : (n : ℕ) (o : List ℕ) → List ℕ
out_of n o = over (listing_bytes (code_with 1 0 n)) o

abbrev pub marks_of : (n : ℕ) (m : List ℕ) → List ℕ
marks_of n m = over (0 ∷ (n + 7) ∷ []) m

code_long : (first back n : ℕ) → length (code_with first back n) ≡ n + 3
unfolding code_with
code_long first back n = omega (arith, length-append (nop_records 26 n) (jump 10 Tag.Jump back 0 0 ∷ []), nops_count 26 n)

module _ (n : ℕ) (few : 26 + 10 * n ≤ unit_limit) (o m : List ℕ) (long : listing_length (n + 3) ≤ length o) (wide : 2 ≤ length m) where
  -- the unit lowers, whatever n is
  pub while_lists : lower_to (lower_into (unit_of n) (length o) (length m)) o m ≡ listed (n + 7) 2 (n + 3) (out_of n o) (marks_of n m)
  while_lists =
      rw (code_long 1 0 n) at
      (lists (unit_of n) (unit_bytes n) (while_nops n) (26 + 10 * n) (unit_reads (unit_of n) n (shaped n few)) (state_of n) (while_lowers n) o m (rw (code_long 1 0 n) long) wide)

  -- and its listing resolves exactly if n is at most 32,760: n + 3 records, from JumpIfFalse n + 7 on to Jump -(n + 4)
  pub while_resolves : (p : List ℕ) →
      resolve_to (resolve (listing_in (n + 3) (out_of n o)) (marks_of n m) (length p)) p ≡
      cond (leb n 32760) (cond (leb (listing_length (n + 3)) (length p)) (coded (n + 3) (over (listing_bytes (code_with (n + 7) (65535 - (n + 3)) n)) p)) (unresolved 20 0 0 p)) (unresolved 32 0 0 p)
  unfolding delivers
  while_resolves p =
      named (unit_of n) (unit_bytes n) (while_nops n) (26 + 10 * n) (unit_reads (unit_of n) n (shaped n few)) (state_of n) (while_lowers n) o m 2 (n + 3) (marks_of n m) (code_long 1 0 n)
      (delivered (unit_of n) o m (unit_bytes n) (n + 7) 2 (n + 3) (out_of n o) (marks_of n m) while_lists) (marks_of n m) p refl
      ∙ rw (while_distances n, while_far n, while_filled n) (go (leb n 32760))
    where
      go : (b : Bool) → delivers (cond b none (some (record { place = 0; extra = 0; distance = pos (n + 7) }))) (n + 3) (code_with (n + 7) (65535 - (n + 3)) n) p ≡
          cond b (cond (leb (listing_length (n + 3)) (length p)) (coded (n + 3) (over (listing_bytes (code_with (n + 7) (65535 - (n + 3)) n)) p)) (unresolved 20 0 0 p)) (unresolved 32 0 0 p)
      go true = refl
      go false = refl

-- document 01's two cases
pub resolves_32760 : (o m p : List ℕ) → listing_length 32763 ≤ length o → 2 ≤ length m → listing_length 32763 ≤ length p →
    resolve_to (resolve (listing_in 32763 (out_of 32760 o)) (marks_of 32760 m) (length p)) p ≡ coded 32763 (over (listing_bytes (code_with 32767 32772 32760)) p)
resolves_32760 o m p long wide room = while_resolves 32760 (lit≤ tt) o m long wide p ∙ rw (le-leb (listing_length 32763) (length p) room)

pub refuses_32761 : (o m p : List ℕ) → listing_length 32764 ≤ length o → 2 ≤ length m → resolve_to (resolve (listing_in 32764 (out_of 32761 o)) (marks_of 32761 m) (length p)) p ≡ unresolved 32 0 0 p
refuses_32761 o m p long wide = while_resolves 32761 (lit≤ tt) o m long wide p
