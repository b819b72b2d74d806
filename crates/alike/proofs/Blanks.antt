-- Stripping is a reading, so a unit and its stripped copy are read in step. Assumes nothing.
use Prim.Native.Nat.{ℕ, zero, suc, ◌+◌, ◌-◌, ◌≤◌}
use mathlib.Core.Path.{◌≡◌, refl, ap, sym, ◌∙◌}
use mathlib.Core.Bool.{Bool, true, false, cond, ◌&&◌}
use mathlib.Core.List.{List, [], ◌∷◌}
use mathlib.Core.Option.{Option, none, some}
use native.Mathlib.Omega.{arith}
use lib.Dec.{leb, ltb, eqb}
use lib.ListN.{length, get_or, drop}
use Rattle.definitions.specs.Tag.{const_widths}
use Rattle.definitions.specs.Tree.{Block, Script, block_of}
use Rattle.definitions.specs.Read.{depth_limit, parse_stmt, run, ended, Parser, ◌>>=◌}
use Rattle.definitions.specs.Strip.{Part, Strip, stop, only, nothing, ◌and◌, keep, blank, keep_below, keep_marks, least, blank_payload, keep_length, strip_items, strip_run, strip_parts, strip_kind, strip_node, strip_expr, strip_stmt, expr_parts, stmt_parts, parts_of, free, small, params, value, values, arms, value_if}
use Rattle.definitions.specs.Strip as part
use Rattle.ir.proofs.Inversion.{stmt_at, stmt_moves}
use Rattle.alike.proofs.Fields.{one_less, taken}
use Rattle.instep.specs.Moves.{moved_script}
use Rattle.instep.proofs.InStep.{InStep, next}
use Rattle.instep.proofs.Reading.{Reading, below, marks_rest, items_rest, run_rest, parts_rest, kind_rest, node_rest, expr_rest, stmt_rest}
use Rattle.instep.proofs.Runs.{closes, runs}
use Rattle.instep.proofs.Stmts.{stmt, moved_block_law}
use Rattle.std.proofs.Math.Path.{fun_ext}
use Rattle.alike.proofs.RestLaws.{blanking, Rest, After, stop_rest, keep_rest, blank_rest, length_rest, payload_rest, choose_rest, close_rest, kept, set, constants, measured, closed, chosen}

-- 1. The reading

module _ (s t : List ℕ) where
  abbrev pub blanks : Reading s t blanking
  blanks = record {
    Rest = Rest;
    After = After s t;
    most = length s;
    stop = stop_rest s;
    keep = keep_rest s;
    blank = λ end w next. blank_rest s end w (λ x. 0) next;
    payload = payload_rest s;
    measure = length_rest s;
    close = close_rest s;
    choose = choose_rest;
    here = λ next at. next at at;
    kept = λ nd end w near l h. kept s t nd end w near h;
    blanked = λ nd end w near l h. set s t nd end w (λ x. 0) (λ x. one_less w) near h;
    constants = λ nd end near l h. constants s t nd end near h;
    measured = λ end near l h. measured s t end near h;
    closed = λ end near l h. (refl, closed s t _ end h);
    chosen = λ end near l h. let c = chosen s t _ _ end l h in (refl, c.0, c.1);
    there = λ h. h;
  }

-- 2. Stripping is that reading

-- a step for each value, with `rest` behind it
abbrev Follow : (ℕ → Strip) → (rest : Rest) → (ℕ → Rest) → Type 0
Follow next rest next' = (v : ℕ) → next v rest ≡ next' v

module _ (s t : List ℕ) where
  keep_is : (end w : ℕ) (next : ℕ → Strip) (next' : ℕ → Rest) (rest : Rest) → Follow next rest next' → keep s end w next rest ≡ keep_rest s end w next'
  unfolding keep keep_rest
  keep_is end w next next' rest e = ap (λ (f : ℕ → Rest). keep_rest s end w f) (fun_ext e)

  blank_is : (end w : ℕ) (to : ℕ → ℕ) (next : ℕ → Strip) (next' : ℕ → Rest) (rest : Rest) → Follow next rest next'
      → blank s end w to next rest ≡ blank_rest s end w to next'
  unfolding blank blank_rest
  blank_is end w to next next' rest e = ap (λ (f : ℕ → Rest). blank_rest s end w to f) (fun_ext e)

  only_is : (b : Bool) (p : Strip) (C : Rest) (rest : Rest) → p rest ≡ C → only s b p rest ≡ cond b C (stop_rest s)
  unfolding stop_rest
  only_is true p C rest e = e
  only_is false p C rest e = refl

  -- a check that depends on the place come to, and such a one with another
  only_at : (b : ℕ → Bool) (p : ℕ → Strip) (C : ℕ → Rest) (rest : Rest) → ((at : ℕ) → p at rest at ≡ C at at)
      → ◌≡◌ {A = Rest} (λ at. only s (b at) (p at) rest at) (λ at. cond (b at) (C at at) (drop at s))
  only_at b p C rest e = fun_ext (λ at. go at (b at))
    where
      go : (at : ℕ) (c : Bool) → only s c (p at) rest at ≡ cond c (C at at) (drop at s)
      go at true = e at
      go at false = refl

  both_at : (b : ℕ → Bool) (d : Bool) (p : Strip) (C : Rest) (rest : Rest) → p rest ≡ C
      → ◌≡◌ {A = Rest} (λ at. only s (b at && d) p rest at) (λ at. cond (b at) (cond d C (stop_rest s) at) (drop at s))
  unfolding stop_rest
  both_at b d p C rest e = fun_ext (λ at. go at (b at) d)
    where
      go : (at : ℕ) (x y : Bool) → only s (x && y) p rest at ≡ cond x (cond y C (stop_rest s) at) (drop at s)
      go at true true = ap (λ (z : Rest). z at) e
      go at true false = refl
      go at false y = refl

  below_same : (end bound : ℕ) (next : ℕ → Strip) (next' : ℕ → Rest) (rest : Rest) → Follow next rest next'
      → keep_below s end bound next rest ≡ below (blanks s t) end bound next'
  below_same end bound next next' rest e = keep_is end 1 _ _ rest (λ v. only_is (ltb v bound) (next v) (next' v) rest (e v))

  marks_same : (end n : ℕ) (p : Strip) (C : Rest) (rest : Rest) → p rest ≡ C → keep_marks s end n p rest ≡ marks_rest (blanks s t) end n C
  unfolding keep_marks marks_rest
  marks_same end zero p C rest e = e
  marks_same end (suc n) p C rest e =
      below_same end 2 (λ m. keep_marks s end n p) (λ m. marks_rest (blanks s t) end n C) rest (λ m. marks_same end n p C rest e)

  payload_same : (end : ℕ) (p : Strip) (C : Rest) (rest : Rest) → p rest ≡ C → keep_below s end 16 (λ b. blank_payload s end b p) rest ≡ payload_rest s end C
  unfolding blank_payload payload_rest
  payload_same end p C rest e =
      keep_is end 1 _ _ rest (λ b.
      only_is (ltb b 16) _ _ rest (blank_is end (get_or const_widths b 0) (least b) _ _ rest (λ v. only_is (taken b v) p C rest e)))

  length_same : (end : ℕ) (next : ℕ → Strip) (next' : ℕ → Rest) (rest : Rest) → Follow next rest next' → keep_length s end next rest ≡ length_rest s end next'
  unfolding keep_length length_rest
  length_same end next next' rest e =
      keep_is end 4 _ _ rest (λ n.
      only_at (λ at. leb (at + n) end) (λ at. next (at + n)) (λ at. next' (at + n)) rest (λ at. ap (λ (x : Rest). x at) (e (at + n))))

  items_same : (item : Strip) (item' : Rest → Rest) → ((C : Rest) → item C ≡ item' C) → (fuel end n : ℕ) (h : ℕ → Strip) (next : ℕ → Rest) (rest : Rest)
      → Follow h rest next → strip_items s item fuel end n h rest ≡ items_rest (blanks s t) item' fuel end n next
  unfolding strip_items items_rest stop_rest choose_rest
  items_same item item' i zero end n h next rest e = refl
  items_same item item' i (suc fuel) end n h next rest e =
      let a : item (strip_items s item fuel end (suc n) h rest) ≡ item' (items_rest (blanks s t) item' fuel end (suc n) next) =
      i (strip_items s item fuel end (suc n) h rest) ∙ ap item' (items_same item item' i fuel end (suc n) h next rest e) in
      ap (λ (x : Rest). choose_rest end x (h n rest)) a
      ∙ ap (λ (x : Rest). choose_rest end (item' (items_rest (blanks s t) item' fuel end (suc n) next)) x) (e n)

  run_same : (item : ℕ → Strip) (item' : ℕ → Rest → Rest) → ((to : ℕ) (C : Rest) → item to C ≡ item' to C) → (end : ℕ) (h : ℕ → Strip) (next : ℕ → Rest)
      (rest : Rest) → Follow h rest next → strip_run s end item h rest ≡ run_rest (blanks s t) end item' next
  unfolding strip_run
  run_same item item' i end h next rest e =
      length_same end _ _ rest (λ to. fun_ext (λ at.
      ap (λ (x : Rest). x at) (items_same (item to) (item' to) (i to) (suc (to - at)) to 0 h next rest e)))

  -- the parts of a node, with what is in it
  module _ (v c : ℕ → Strip) (v' c' : ℕ → Rest → Rest)
      (hv : (to : ℕ) (C : Rest) → v to C ≡ v' to C) (hc : (to : ℕ) (C : Rest) → c to C ≡ c' to C) where
    arms_same : (to : ℕ) (C : Rest) → (v to and strip_run s to c (λ k. nothing)) C ≡ v' to (run_rest (blanks s t) to c' (λ k. C))
    arms_same to C = hv to _ ∙ ap (v' to) (run_same c c' hc to (λ k. nothing) (λ k. C) C (λ k. refl))

    parts_same : (end : ℕ) (ps : List Part) (n : ℕ) (rest : Rest) → strip_parts s v c end ps n rest ≡ parts_rest (blanks s t) v' c' end ps n rest
    unfolding strip_parts parts_rest close_rest
    parts_same end [] n rest = only_at (λ at. eqb at end) (λ at. nothing) (λ at. rest) rest (λ at. refl)
    parts_same end (free w ∷ ps) n rest = blank_is end w (λ x. 0) _ _ rest (λ x. parts_same end ps n rest)
    parts_same end (part.kept w ∷ ps) n rest = keep_is end w _ _ rest (λ x. parts_same end ps n rest)
    parts_same end (small bound ∷ ps) n rest = below_same end bound _ _ rest (λ x. parts_same end ps x rest)
    parts_same end (part.constant ∷ ps) n rest = payload_same end _ _ rest (parts_same end ps n rest)
    parts_same end (params ∷ ps) n rest = keep_is end 1 _ _ rest (λ k. marks_same end k _ _ rest (parts_same end ps k rest))
    parts_same end (value ∷ ps) n rest = hv end _ ∙ ap (v' end) (parts_same end ps n rest)
    parts_same end (values ∷ ps) n rest = run_same v v' hv end _ _ rest (λ k. parts_same end ps n rest)
    parts_same end (part.arguments ∷ ps) n rest =
        run_same v v' hv end _ _ rest (λ k. both_at (λ at. eqb at end) (leb k n) (strip_parts s v c end ps n) _ rest (parts_same end ps n rest))
    parts_same end (part.block ∷ ps) n rest = run_same c c' hc end _ _ rest (λ k. parts_same end ps n rest)
    parts_same end (arms ∷ ps) n rest = run_same _ (λ to D. v' to (run_rest (blanks s t) to c' (λ k. D))) arms_same end _ _ rest (λ k. parts_same end ps n rest)
    parts_same end (value_if ∷ ps) zero rest = parts_same end ps zero rest
    parts_same end (value_if ∷ ps) (suc n) rest = hv end _ ∙ ap (v' end) (parts_same end ps (suc n) rest)
    parts_same end (part.block_if ∷ ps) zero rest = parts_same end ps zero rest
    parts_same end (part.block_if ∷ ps) (suc n) rest = run_same c c' hc end _ _ rest (λ k. parts_same end ps (suc n) rest)

    kind_same : (end : ℕ) (ps : Option (List Part)) (rest : Rest) → strip_kind s v c end ps rest ≡ kind_rest (blanks s t) v' c' end ps rest
    unfolding strip_kind kind_rest stop_rest
    kind_same end none rest = refl
    kind_same end (some ps) rest = parts_same end ps 0 rest

    node_same : (holder : ℕ) (all : List (List Part)) (rest : Rest) → strip_node s holder all v c rest ≡ node_rest (blanks s t) holder all v' c' rest
    unfolding strip_node node_rest
    node_same holder all rest = length_same holder _ _ rest (λ end. keep_is end 1 _ _ rest (λ kind. kind_same end (parts_of all kind) rest))

  expr_same : (d holder : ℕ) (rest : Rest) → strip_expr d s holder rest ≡ expr_rest (blanks s t) d holder rest
  unfolding strip_expr expr_rest stop_rest
  expr_same zero holder rest = refl
  expr_same (suc d) holder rest =
      node_same (strip_expr d s) (λ end. stop s) (expr_rest (blanks s t) d) (λ end D. stop_rest s)
      (λ to C. expr_same d to C) (λ to C. refl) holder expr_parts rest

  stmt_same : (d holder : ℕ) (rest : Rest) → strip_stmt d s holder rest ≡ stmt_rest (blanks s t) d holder rest
  unfolding strip_stmt stmt_rest stop_rest
  stmt_same zero holder rest = refl
  stmt_same (suc d) holder rest =
      node_same (strip_expr d s) (strip_stmt d s) (expr_rest (blanks s t) d) (stmt_rest (blanks s t) d)
      (λ to C. expr_same d to C) (λ to C. stmt_same d to C) holder stmt_parts rest

-- 3. A unit and its stripped copy are read in step

module _ (s t : List ℕ) (r : ℕ) where
  abbrev pub whole : (u : List ℕ) → Parser Script
  whole u = run u (length s) (parse_stmt depth_limit u) >>= λ b. ended 6 (length s) (record { returns = r; body = block_of b })

  -- where t goes on from 6 as stripping leaves s
  pub stripped_reads : 6 ≤ length s → drop 6 t ≡ strip_parts s (strip_expr depth_limit s) (strip_stmt depth_limit s) (length s) (part.block ∷ []) 0 (λ at. []) 6
      → InStep (λ p. p) 6 (moved_script blanking) (λ u n. (drop n t ≡ []) × (n ≤ length s)) (whole s) (whole t)
  unfolding parts_rest
  stripped_reads six e =
      let P = blanks s t in
      let D = depth_limit in
      let end = length s in
      let same =
      parts_same s t (strip_expr D s) (strip_stmt D s) (expr_rest P D) (stmt_rest P D) (λ to C. expr_same s t D to C)
      (λ to C. stmt_same s t D to C) end (part.block ∷ []) 0 (λ at. []) in
      let h : drop 6 t ≡ parts_rest P (expr_rest P D) (stmt_rest P D) end (part.block ∷ []) 0 (λ at. []) 6 = e ∙ ap (λ (x : ℕ → List ℕ). x 6) same in
      next (runs P (λ k. parts_rest P (expr_rest P D) (stmt_rest P D) end [] 0 (λ at. [])) (parse_stmt D s) (parse_stmt D t) (stmt_rest P D) end (omega arith)
      (λ to n x o r. (stmt_moves D s to n x o r, (stmt_at D s to n r).tail))
      (λ to n x o r. stmt_moves D t to n x o r) (λ to l C n y i. stmt P D to l C n y i) (h, six))
      (λ xs xs' d n i j. closes P 6 end (record { returns = r; body = block_of xs }) (record { returns = r; body = block_of xs' }) (omega arith) i
      (ap (λ (b : Block). record { returns = r; body = b }) (ap block_of d ∙ sym (moved_block_law blanking xs))))
