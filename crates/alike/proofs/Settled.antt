-- Stripping keeps the length, and leaves a stripped unit as it is. Assumes nothing.
use Prim.Native.Nat.{ℕ, zero, suc, ◌+◌, ◌-◌, ◌^◌, ◌≤◌, ◌<◌}
use mathlib.Core.Path.{◌≡◌, refl, ap, sym, ◌∙◌}
use mathlib.Core.Bool.{Bool, true, false, ◌&&◌}
use mathlib.Core.List.{List, [], ◌∷◌, ◌++◌}
use mathlib.Core.Option.{Option, none, some}
use native.Mathlib.Omega.{arith}
use lib.Dec.{leb, ltb, eqb}
use lib.ListN.{length, get_or, take, drop, length-append, length-drop}
use lib.Seq.{length-take-le, get_or-take, take_at}
use borrow.Author.Tests.{leb-true, ltb-false, eqb-true}
use Rattle.definitions.specs.Bytes.{number, bytes}
use Rattle.definitions.specs.Tag.{const_widths}
use Rattle.definitions.specs.Read.{depth_limit}
use Rattle.definitions.specs.Strip.{Part, Strip, stop, only, nothing, ◌and◌, keep, blank, keep_below, keep_marks, least, blank_payload, keep_length, strip_items, strip_run, strip_parts, strip_kind, strip_node, strip_expr, strip_stmt, expr_parts, stmt_parts, parts_of, free, small, params, value, values, arms, value_if}
use Rattle.definitions.specs.Strip as part
use Rattle.instr.proofs.NumberLaws.{length_bytes, read_back}
use Rattle.alike.proofs.Fields.{number_from, number_of, number_taken, behind, one_less, small_least, taken_least, least_twice, taken, keep_fits, keep_not, blank_fits, blank_not}

module _ (s t : List ℕ) where
  -- of what stands from `at` on, x of the stripped s and x' of the stripped t: no byte is lost, and where t goes on as x says, it stays
  abbrev Stays : (at : ℕ) → (x x' : List ℕ) → Type 0
  Stays at x x' = (length x + at ≡ length s) × (drop at t ≡ x → x' ≡ drop at t)

  -- the same at each place up to `end`
  abbrev Settles : (end : ℕ) → (r r' : ℕ → List ℕ) → Type 0
  Settles end r r' = (at : ℕ) → at ≤ end → Stays at (r at) (r' at)

  -- 1. Steps

  stops : (at : ℕ) → at ≤ length s → Stays at (drop at s) (drop at t)
  stops at l = (omega (arith, length-drop at s), λ e. refl)

  -- with b in front, which is w long
  onto : (b : List ℕ) (w at : ℕ) (y y' : List ℕ) → length b ≡ w → at + w ≤ length s → Stays (at + w) y y' → Stays at (b ++ y) (b ++ y')
  onto b w at y y' l m h = (
    omega (arith, length-append b y, h.0),
    λ e.
        let d = behind b y t at w l e in
        ap (λ (x : List ℕ). b ++ x) (h.1 d ∙ d) ∙ sym e,
  )

  keeps : (end w : ℕ) (q q' : ℕ → Strip) (r r' : ℕ → List ℕ) → end ≤ length s
      → ((v : ℕ) → Settles end (q v r) (q' v r')) → Settles end (keep s end w q r) (keep t end w q' r')
  keeps end w q q' r r' near h at l = go (leb (at + w) end) refl
    where
      go : (b : Bool) → leb (at + w) end ≡ b → Stays at (keep s end w q r at) (keep t end w q' r' at)
      go true e =
          let m = leb-true (at + w) end e in
          let v = number w s at in
          let b = take w (drop at s) in
          let o : length b ≡ w = length-take-le w (drop at s) (rw length-drop (omega arith)) in
          let z = onto b w at (q v r (at + w)) (q' v r' (at + w)) o (omega arith) (h v (at + w) m) in
          rw (keep_fits s 0 end w at q r e, keep_fits t 0 end w at q' r' e) (
            z.0,
            λ d.
                let u : number w t at ≡ v =
                number_of w b t (q v r (at + w)) at o d ∙ number_taken w b (drop at s) (λ j y. get_or-take w (drop at s) j 0 y) ∙ sym (number_from w s at) in
                let x : take w (drop at t) ≡ b = ap (λ (x : List ℕ). take w x) d ∙ take_at b (q v r (at + w)) w o in
                rw (x, u) (z.1 d),
          )
      go false e = rw (keep_not s 0 end w at q r e, keep_not t 0 end w at q' r' e) (stops at (omega arith))

  blanks : (end w : ℕ) (to : ℕ → ℕ) (q q' : ℕ → Strip) (r r' : ℕ → List ℕ) → end ≤ length s → ((v : ℕ) → to v < 256 ^ w) → ((v : ℕ) → to (to v) ≡ to v)
      → ((v : ℕ) → Settles end (q v r) (q' (to v) r')) → Settles end (blank s end w to q r) (blank t end w to q' r')
  blanks end w to q q' r r' near fits twice h at l = go (leb (at + w) end) refl
    where
      go : (b : Bool) → leb (at + w) end ≡ b → Stays at (blank s end w to q r at) (blank t end w to q' r' at)
      go true e =
          let m = leb-true (at + w) end e in
          let v = number w s at in
          let b = bytes w (to v) in
          let o : length b ≡ w = length_bytes w (to v) in
          let z = onto b w at (q v r (at + w)) (q' (to v) r' (at + w)) o (omega arith) (h v (at + w) m) in
          rw (blank_fits s 0 end w at to q r e, blank_fits t 0 end w at to q' r' e) (
            z.0,
            λ d.
                let u : number w t at ≡ to v = number_from w t at ∙ ap (λ (x : List ℕ). number w x 0) d ∙ read_back w (to v) [] (q v r (at + w)) (fits v) in
                rw (u, twice v) (z.1 d),
          )
      go false e = rw (blank_not s 0 end w at to q r e, blank_not t 0 end w at to q' r' e) (stops at (omega arith))

  onlys : (b b' : Bool) (e : ℕ) (q q' : Strip) (r r' : ℕ → List ℕ) → b' ≡ b → e ≤ length s
      → Settles e (q r) (q' r') → Settles e (only s b q r) (only t b' q' r')
  onlys b b' e q q' r r' c near h = rw c (go b)
    where
      go : (b : Bool) → Settles e (only s b q r) (only t b q' r')
      go true = h
      go false = λ at l. stops at (omega arith)

  belows : (end bound : ℕ) (q q' : ℕ → Strip) (r r' : ℕ → List ℕ) → end ≤ length s
      → ((v : ℕ) → Settles end (q v r) (q' v r')) → Settles end (keep_below s end bound q r) (keep_below t end bound q' r')
  belows end bound q q' r r' near h = keeps end 1 _ _ r r' near (λ v. onlys (ltb v bound) (ltb v bound) end (q v) (q' v) r r' refl near (h v))

  marks : (end n : ℕ) (q q' : Strip) (r r' : ℕ → List ℕ) → end ≤ length s
      → Settles end (q r) (q' r') → Settles end (keep_marks s end n q r) (keep_marks t end n q' r')
  unfolding keep_marks
  marks end zero q q' r r' near h = h
  marks end (suc n) q q' r r' near h = belows end 2 _ _ r r' near (λ v. marks end n q q' r r' near h)

  constants : (end : ℕ) (q q' : Strip) (r r' : ℕ → List ℕ) → end ≤ length s → Settles end (q r) (q' r')
      → Settles end (keep_below s end 16 (λ b. blank_payload s end b q) r) (keep_below t end 16 (λ b. blank_payload t end b q') r')
  unfolding blank_payload
  constants end q q' r r' near h =
      belows end 16 _ _ r r' near (λ b.
      blanks end (get_or const_widths b 0) (least b) _ _ r r' near (small_least b) (least_twice b) (λ v.
      onlys (taken b v) (taken b (least b v)) end q q' r r' (taken_least b v) near h))

  lengths : (end : ℕ) (q q' : ℕ → Strip) (r r' : ℕ → List ℕ) → end ≤ length s
      → ((to : ℕ) → to ≤ end → Settles to (q to r) (q' to r')) → Settles end (keep_length s end q r) (keep_length t end q' r')
  unfolding keep_length
  lengths end q q' r r' near h = keeps end 4 _ _ r r' near (λ n at l. go n at l (leb (at + n) end) refl)
    where
      go : (n at : ℕ) → at ≤ end → (b : Bool) → leb (at + n) end ≡ b → Stays at (only s b (q (at + n)) r at) (only t b (q' (at + n)) r' at)
      go n at l true e = h (at + n) (leb-true (at + n) end e) at (omega arith)
      go n at l false e = stops at (omega arith)

  items : (end : ℕ) (p p' : Strip) (q q' : ℕ → Strip) (r r' : ℕ → List ℕ) → end ≤ length s
      → ((x x' : ℕ → List ℕ) → Settles end x x' → Settles end (p x) (p' x')) → ((k : ℕ) → Settles end (q k r) (q' k r'))
      → (fuel n : ℕ) → Settles end (strip_items s p fuel end n q r) (strip_items t p' fuel end n q' r')
  unfolding strip_items
  items end p p' q q' r r' near each h zero n = λ at l. stops at (omega arith)
  items end p p' q q' r r' near each h (suc fuel) n = λ at l. go (each _ _ (items end p p' q q' r r' near each h fuel (suc n))) at l (ltb at end) refl
    where
      go : Settles end (p (strip_items s p fuel end (suc n) q r)) (p' (strip_items t p' fuel end (suc n) q' r')) → (at : ℕ) → at ≤ end
          → (b : Bool) → ltb at end ≡ b
          → Stays at (elim b as (λ _. List ℕ) [ true ↦ p (strip_items s p fuel end (suc n) q r) at | false ↦ q n r end ])
          (elim b as (λ _. List ℕ) [ true ↦ p' (strip_items t p' fuel end (suc n) q' r') at | false ↦ q' n r' end ])
      go more at l true e = more at l
      go more at l false e = let i = ltb-false at end e in let z : at ≡ end = omega arith in rw z (h n end (omega arith))

  runs : (end : ℕ) (p p' : ℕ → Strip) (q q' : ℕ → Strip) (r r' : ℕ → List ℕ) → end ≤ length s
      → ((to : ℕ) → to ≤ end → (x x' : ℕ → List ℕ) → Settles to x x' → Settles to (p to x) (p' to x'))
      → ((k : ℕ) → Settles end (q k r) (q' k r')) → Settles end (strip_run s end p q r) (strip_run t end p' q' r')
  unfolding strip_run
  runs end p p' q q' r r' near each h =
      lengths end _ _ r r' near (λ to l at m.
      items to (p to) (p' to) q q' r r' (omega arith) (each to l) (λ k at m. h k at (omega arith)) (suc (to - at)) 0 at m)

  -- 2. Nodes: the parts of one, with what is in it

  module _ (v c v' c' : ℕ → Strip) (hv : (to : ℕ) → to ≤ length s → (x x' : ℕ → List ℕ) → Settles to x x' → Settles to (v to x) (v' to x'))
      (hc : (to : ℕ) → to ≤ length s → (x x' : ℕ → List ℕ) → Settles to x x' → Settles to (c to x) (c' to x')) where
    arms_settle : (to : ℕ) → to ≤ length s → (x x' : ℕ → List ℕ) → Settles to x x'
        → Settles to ((v to and strip_run s to c (λ k. nothing)) x) ((v' to and strip_run t to c' (λ k. nothing)) x')
    arms_settle to l x x' h = hv to l _ _ (runs to c c' (λ k. nothing) (λ k. nothing) x x' l (λ o m. hc o (omega arith)) (λ k. h))

    ends : (end : ℕ) → end ≤ length s → (r r' : ℕ → List ℕ) → Stays end (r end) (r' end) → (at : ℕ) → at ≤ end → (b : Bool) → eqb at end ≡ b
        → Stays at (only s b nothing r at) (only t b nothing r' at)
    ends end near r r' h at l true e = rw (eqb-true at end e) h
    ends end near r r' h at l false e = stops at (omega arith)

    parts : (end : ℕ) → end ≤ length s → (ps : List Part) (n : ℕ) (r r' : ℕ → List ℕ) → Stays end (r end) (r' end)
        → Settles end (strip_parts s v c end ps n r) (strip_parts t v' c' end ps n r')
    unfolding strip_parts
    parts end near [] n r r' h = λ at l. ends end near r r' h at l (eqb at end) refl
    parts end near (free w ∷ ps) n r r' h = blanks end w (λ x. 0) _ _ r r' near (λ x. one_less w) (λ x. refl) (λ x. parts end near ps n r r' h)
    parts end near (part.kept w ∷ ps) n r r' h = keeps end w _ _ r r' near (λ x. parts end near ps n r r' h)
    parts end near (small bound ∷ ps) n r r' h = belows end bound _ _ r r' near (λ x. parts end near ps x r r' h)
    parts end near (part.constant ∷ ps) n r r' h = constants end _ _ r r' near (parts end near ps n r r' h)
    parts end near (params ∷ ps) n r r' h = keeps end 1 _ _ r r' near (λ k. marks end k _ _ r r' near (parts end near ps k r r' h))
    parts end near (value ∷ ps) n r r' h = hv end near _ _ (parts end near ps n r r' h)
    parts end near (values ∷ ps) n r r' h = runs end v v' _ _ r r' near (λ to l. hv to (omega arith)) (λ k. parts end near ps n r r' h)
    parts end near (part.arguments ∷ ps) n r r' h =
        runs end v v' _ _ r r' near (λ to l. hv to (omega arith)) (λ k at l.
        onlys (eqb at end && leb k n) (eqb at end && leb k n) end (strip_parts s v c end ps n)
        (strip_parts t v' c' end ps n) r r' refl near (parts end near ps n r r' h) at l)
    parts end near (part.block ∷ ps) n r r' h = runs end c c' _ _ r r' near (λ to l. hc to (omega arith)) (λ k. parts end near ps n r r' h)
    parts end near (arms ∷ ps) n r r' h = runs end _ _ _ _ r r' near (λ to l. arms_settle to (omega arith)) (λ k. parts end near ps n r r' h)
    parts end near (value_if ∷ ps) zero r r' h = parts end near ps zero r r' h
    parts end near (value_if ∷ ps) (suc n) r r' h = hv end near _ _ (parts end near ps (suc n) r r' h)
    parts end near (part.block_if ∷ ps) zero r r' h = parts end near ps zero r r' h
    parts end near (part.block_if ∷ ps) (suc n) r r' h = runs end c c' _ _ r r' near (λ to l. hc to (omega arith)) (λ k. parts end near ps (suc n) r r' h)

    kinds : (end : ℕ) → end ≤ length s → (ps : Option (List Part)) (r r' : ℕ → List ℕ) → Stays end (r end) (r' end)
        → Settles end (strip_kind s v c end ps r) (strip_kind t v' c' end ps r')
    unfolding strip_kind
    kinds end near none r r' h = λ at l. stops at (omega arith)
    kinds end near (some ps) r r' h = parts end near ps 0 r r' h

    nodes : (holder : ℕ) → holder ≤ length s → (all : List (List Part)) (r r' : ℕ → List ℕ) → Settles holder r r'
        → Settles holder (strip_node s holder all v c r) (strip_node t holder all v' c' r')
    unfolding strip_node
    nodes holder near all r r' h =
        lengths holder _ _ r r' near (λ end l. keeps end 1 _ _ r r' (omega arith) (λ kind. kinds end (omega arith) (parts_of all kind) r r' (h end l)))

  exprs : (d holder : ℕ) → holder ≤ length s → (r r' : ℕ → List ℕ) → Settles holder r r' → Settles holder (strip_expr d s holder r) (strip_expr d t holder r')
  unfolding strip_expr
  exprs zero holder near r r' h = λ at l. stops at (omega arith)
  exprs (suc d) holder near r r' h =
      nodes (strip_expr d s) (λ end. stop s) (strip_expr d t) (λ end. stop t) (λ to l x x' i. exprs d to l x x' i)
      (λ to l x x' i at m. stops at (omega arith)) holder near expr_parts r r' h

  stmts : (d holder : ℕ) → holder ≤ length s → (r r' : ℕ → List ℕ) → Settles holder r r' → Settles holder (strip_stmt d s holder r) (strip_stmt d t holder r')
  unfolding strip_stmt
  stmts zero holder near r r' h = λ at l. stops at (omega arith)
  stmts (suc d) holder near r r' h =
      nodes (strip_expr d s) (strip_stmt d s) (strip_expr d t) (strip_stmt d t) (λ to l x x' i. exprs d to l x x' i)
      (λ to l x x' i. stmts d to l x x' i) holder near stmt_parts r r' h

  -- what stands behind the front
  pub whole : (r r' : ℕ → List ℕ) → Stays (length s) (r (length s)) (r' (length s)) → 6 ≤ length s
      → Stays 6 (strip_parts s (strip_expr depth_limit s) (strip_stmt depth_limit s) (length s) (part.block ∷ []) 0 r 6)
      (strip_parts t (strip_expr depth_limit t) (strip_stmt depth_limit t) (length s) (part.block ∷ []) 0 r' 6)
  whole r r' h l =
      parts (strip_expr depth_limit s) (strip_stmt depth_limit s) (strip_expr depth_limit t) (strip_stmt depth_limit t)
      (λ to o x x' i. exprs depth_limit to o x x' i) (λ to o x x' i. stmts depth_limit to o x x' i) (length s) (omega arith) (part.block ∷ []) 0 r r' h 6 l
