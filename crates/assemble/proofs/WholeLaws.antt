-- The walk's running against the definition's. Assumes nothing.
use Prim.Native.Nat.{ℕ, suc, ◌+◌, ◌-◌, ◌%◌, ◌^◌, ◌≤◌, ◌<◌}
use mathlib.Core.Path.{◌≡◌, refl, sym, ap, ◌∙◌, subst}
use mathlib.Core.Bool.{Bool, true, false}
use mathlib.Core.List.{List, [], ◌∷◌, ◌++◌, append-nil, append_assoc}
use native.Mathlib.Omega.{arith}
use lib.Dec.{ltb}
use lib.ListN.{length, set, take, drop, length-append, length-set, length-drop, take-append-drop}
use lib.Seq.{length-take-le, take_at, drop-append-add, drop-drop, set-append_left, set-append_seam}
use Rattle.steps.proofs.StepLaws.{set_out}
use borrow.Author.Tests.{le-leb, ltb-true, ltb-false}
use Rattle.definitions.specs.Instr.{Instr, size, record_length, record_bytes}
use Rattle.definitions.specs.Listing.{front_length, listing_length, records_bytes}
use Rattle.definitions.specs.Code.{Action, new, mark, emit, refuse, Code, done, act, ◌then◌, label, State, step, execute, unmarked, label_limit}
use Rattle.definitions.specs.Answer.{ok, made, refusal, Result, onward, checked}
use Rattle.definitions.specs.Tree.{Script}
use Rattle.definitions.specs.Read.{parse_unit}
use Rattle.definitions.specs.Code.{start}
use Rattle.definitions.specs.Lower.{code_of}
use Rattle.definitions.specs.Stage.{labelled, lowered, total_size}
use Rattle.instr.proofs.WholeLaws.{records_snoc, length_records_bytes}
use Rattle.landing.proofs.Theorem.{bounded}
use Rattle.ir.proofs.UnitPlaces.{unit_at}
use Rattle.assemble.specs.Whole.{zeros}
use Rattle.laws.proofs.Inversion.{impossible, refusal_not_made}
use Rattle.laws.proofs.Results.{made_is, onward_is}
use Rattle.laws.proofs.Grows.{Grows, step_grows, grows}
use Rattle.assemble.specs.Walk.{sink_after}
use Rattle.laws.proofs.Widths.{Within, AllWithin}
use Rattle.steps.specs.Running.{Sinks, Cells, cut, put, puts, set_made, move, run}

-- 1. Counters and refusals, whatever the sink and the marks

pub record Counts {S : Type 0} (c : Cells S) (t : State) : Type 0 where
  pub labels : c.labels ≡ length t.marks
  pub count : c.count ≡ length t.instrs % 2 ^ 32
  pub offset : c.offset ≡ t.offset % 2 ^ 32

pub data Agrees {S : Type 0} : Result (Cells S) → Result State → Type 0 where
  both_go : (c : Cells S) (t : State) → Counts c t → Agrees (made c) (made t)
  both_stop : (n p x : ℕ) → Agrees (refusal n p x) (refusal n p x)

same_long : (m : List ℕ) (l v : ℕ) → length (set m l v) ≡ length m
same_long m l v = simp length-set

mod_add : (a b k : ℕ) → a ≡ b % 2 ^ 32 → (a + k) % 2 ^ 32 ≡ (b + k) % 2 ^ 32
mod_add a b k h = omega arith

new_agrees : {S : Type 0} (K : Sinks S) (at : ℕ) (c : Cells S) (t : State) → Counts c t → Agrees (move K (new at) c) (step (new at) t)
unfolding move step checked
new_agrees K at c t k = go (ltb (length t.marks) label_limit) (ap (λ n. ltb n label_limit) k.labels) refl
  where
    go : (b : Bool) → ltb c.labels label_limit ≡ b → ltb (length t.marks) label_limit ≡ b → Agrees (move K (new at) c) (step (new at) t)
    go true e f =
        let z : c.labels + 1 ≡ length (t.marks ++ (unmarked ∷ [])) = omega (arith, k.labels, length-append t.marks (unmarked ∷ [])) in
        rw (move, e, step, f, checked) (both_go _ _ (record { labels = z; count = k.count; offset = k.offset }))
    go false e f = rw (move, e, step, f, checked) (both_stop 15 at 0)

pub step_agrees : {S : Type 0} (K : Sinks S) (a : Action) (c : Cells S) (t : State) → Counts c t → Agrees (move K a c) (step a t)
unfolding move step
step_agrees K (new at) c t k = new_agrees K at c t k
step_agrees K (mark l) c t k = both_go _ _ (record { labels = k.labels ∙ sym (same_long t.marks l t.offset); count = k.count; offset = k.offset })
step_agrees K (emit i) c t k = both_go _ _ (record { labels = k.labels; count = mod_add c.count (length t.instrs) 1 k.count ∙ ap (λ n. n % 2 ^ 32) (sym (length-append t.instrs (i ∷ []))); offset = mod_add c.offset t.offset (size i) k.offset })
step_agrees K (refuse n p x) c t k = both_stop n p x

pub then_agrees : {S : Type 0} (x : Result (Cells S)) (y : Result State) (f : Cells S → Result (Cells S)) (g : State → Result State) → Agrees x y → ((c : Cells S) (t : State) → Counts c t → Agrees (f c) (g t)) → Agrees (onward x f) (onward y g)
unfolding onward
then_agrees x y f g (both_go c t k) h = h c t k
then_agrees x y f g (both_stop n p e) h = both_stop n p e

-- ON ANY SINK AND ANY MARKS: the same refusals, and the definition's totals modulo 2 ^ 32
pub agrees : {S : Type 0} (K : Sinks S) (code : Code) (c : Cells S) (t : State) → Counts c t → Agrees (run K code c) (execute code t)
unfolding run execute
agrees K done c t k = both_go c t k
agrees K (act a) c t k = step_agrees K a c t k
agrees K (p then q) c t k = then_agrees (run K p c) (execute p t) (run K q) (execute q) (agrees K p c t k) (λ d u j. agrees K q d u j)
agrees K (label at f) c t k =
    then_agrees (move K (new at) c) (step (new at) t) (run K (f c.labels)) (execute (f (length t.marks))) (step_agrees K (new at) c t k)
    (λ d u j. subst (λ l. Agrees (run K (f l) d) (execute (f (length t.marks)) u)) (sym k.labels) (agrees K (f (length t.marks)) d u j))

-- 2. What a value was made of

pub made_by : {A B : Type 0} (x : Result A) (f : A → B) {b : B} → onward x (λ a. made (f a)) ≡ made b → (a : A) × (x ≡ made a) × (f a ≡ b)
made_by x f e = let k = onward_is x (λ a. made (f a)) e in (k.0, k.1, made_is k.2)

-- 3. The sink and the marks, where the definition's totals are below 2 ^ 32

abbrev Small : State → Type 0
Small t = (t.offset < 2 ^ 32) × (length t.instrs < 2 ^ 32)

small_before : {t t' : State} → Grows t t' → Small t' → Small t
small_before g s = (omega (arith, g.offset, s.0), omega (arith, g.count, s.1))

-- a sink is handed a record with its fields cut to their widths
abbrev cutting : {S : Type 0} → Sinks S → Sinks S
cutting K sink x n i = K sink x n (cut i)

-- it was given the definition's instructions, whose size is the definition's offset; and where the label table fits, it stands over what the words held
pub record Gave {S : Type 0} (K : Sinks S) (o : S) (m : List ℕ) (c : Cells S) (t : State) : Type 0 where
  pub sink : c.sink ≡ sink_after (cutting K) 0 0 t.instrs o
  pub total : t.offset ≡ total_size t.instrs
  pub marks : length t.marks ≤ length m → c.marks ≡ t.marks ++ drop (length t.marks) m

total_snoc : (is : List Instr) (i : Instr) → total_size (is ++ (i ∷ [])) ≡ total_size is + size i
unfolding total_size
total_snoc [] i = omega arith
total_snoc (j ∷ is) i = omega (arith, total_snoc is i)

-- one instruction more
given_snoc : {S : Type 0} (K : Sinks S) (x n : ℕ) (is : List Instr) (i : Instr) (o : S) → sink_after K x n (is ++ (i ∷ [])) o ≡ K (sink_after K x n is o) (x + total_size is) (n + length is) i
unfolding sink_after total_size
given_snoc K x n [] i o = let a : x + 0 ≡ x = omega arith in let b : n + 0 ≡ n = omega arith in rw (a, b) refl
given_snoc K x n (j ∷ is) i o =
    let a : x + size j + total_size is ≡ x + (size j + total_size is) = omega arith in
    let b : suc n + length is ≡ n + suc (length is) = omega arith in
    given_snoc K (x + size j) (suc n) is i (K o x n j) ∙ rw (a, b) refl

given_next : {S : Type 0} (K : Sinks S) (is : List Instr) (i : Instr) (o : S) {x n : ℕ} → x ≡ total_size is → n ≡ length is → K (sink_after K 0 0 is o) x n i ≡ sink_after K 0 0 (is ++ (i ∷ [])) o
given_next K is i o e f =
    let a : 0 + total_size is ≡ total_size is = omega arith in
    let b : 0 + length is ≡ length is = omega arith in
    rw (e, f) (sym (rw (a, b) at (given_snoc K 0 0 is i o)))

mark_next : (t m : List ℕ) (l v : ℕ) → set_made (t ++ drop (length t) m) l v (length t) ≡ set t l v ++ drop (length (set t l v)) m
unfolding set_made
mark_next t m l v = go (ltb l (length t)) refl
  where
    go : (b : Bool) → ltb l (length t) ≡ b → set_made (t ++ drop (length t) m) l v (length t) ≡ set t l v ++ drop (length (set t l v)) m
    go true e = rw (set_made, e, (same_long t l v)) (set-append_left t (drop (length t) m) l v (ltb-true l (length t) e))
    go false e = rw (set_made, e, set_out t l v (ltb-false l (length t) e))

new_next : (t m : List ℕ) (v : ℕ) → length t < length m → set (t ++ drop (length t) m) (length t) v ≡ (t ++ (v ∷ [])) ++ drop (length (t ++ (v ∷ []))) m
new_next t m v h = go (drop (length t) m) refl
  where
    go : (d : List ℕ) → drop (length t) m ≡ d → set (t ++ d) (length t) v ≡ (t ++ (v ∷ [])) ++ drop (length (t ++ (v ∷ []))) m
    go [] e = let z : length (drop (length t) m) ≡ length m - length t = simp length-drop in absurd (omega (arith, z, ap length e))
    go (y ∷ ys) e =
        let n : length (t ++ (v ∷ [])) ≡ length t + 1 = length-append t (v ∷ []) in
        let r : drop (length t + 1) m ≡ ys = sym (drop-drop 1 (length t) m) ∙ ap (drop 1) e in
        rw (n, r) (set-append_seam t y ys v ∙ sym (append_assoc t (v ∷ []) ys))

pub small_mod : (a n : ℕ) → a ≡ n % 2 ^ 32 → n < 2 ^ 32 → a ≡ n
small_mod a n e h = omega arith

step_gave : {S : Type 0} (K : Sinks S) (a : Action) (o : S) (m : List ℕ) (c : Cells S) (t : State) (c' : Cells S) (t' : State) → Counts c t → Gave K o m c t → move K a c ≡ made c' → step a t ≡ made t' → Small t → Gave K o m c' t'
unfolding move step checked
step_gave K (new at) o m c t c' t' k w e f h = go (ltb (length t.marks) label_limit) refl
  where
    go : (b : Bool) → ltb (length t.marks) label_limit ≡ b → Gave K o m c' t'
    go true q =
        rw (← (made_is (rw (step, q, checked) at f)), ← (made_is (rw (move, ap (λ n. ltb n label_limit) k.labels ∙ q, checked) at e))) (record {
          sink = w.sink;
          total = w.total;
          marks = λ l. let n : length t.marks < length m = omega (arith, l, length-append t.marks (unmarked ∷ [])) in rw (w.marks (omega (arith, n)), k.labels) (new_next t.marks m unmarked n);
        })
    go false q = refusal_not_made (rw (step, q, checked) at f)
step_gave K (mark l) o m c t c' t' k w e f h =
    let x : c.offset ≡ t.offset = small_mod c.offset t.offset k.offset h.0 in
    rw (← (made_is f), ← (made_is e)) (record {
      sink = w.sink;
      total = w.total;
      marks = λ n. rw (w.marks (omega (arith, n, same_long t.marks l t.offset)), k.labels, x) (mark_next t.marks m l t.offset);
    })
step_gave K (emit i) o m c t c' t' k w e f h =
    let x : c.offset ≡ total_size t.instrs = small_mod c.offset t.offset k.offset h.0 ∙ w.total in
    let n : c.count ≡ length t.instrs = small_mod c.count (length t.instrs) k.count h.1 in
    rw (← (made_is f), ← (made_is e)) (record {
      sink = rw w.sink (given_next (cutting K) t.instrs i o x n);
      total = rw w.total (sym (total_snoc t.instrs i));
      marks = w.marks;
    })
step_gave K (refuse n p x) o m c t c' t' k w e f h = refusal_not_made f

pub counts_of : {S : Type 0} {x : Result (Cells S)} {y : Result State} {c : Cells S} {t : State} → Agrees x y → x ≡ made c → y ≡ made t → Counts c t
counts_of (both_go d u k) e f = rw (← (made_is e), ← (made_is f)) k
counts_of (both_stop n p x) e f = refusal_not_made f

-- ANY SINK, ANY MARKS
gave : {S : Type 0} (K : Sinks S) (code : Code) (o : S) (m : List ℕ) (c : Cells S) (t : State) (c' : Cells S) (t' : State) → Counts c t → Gave K o m c t → run K code c ≡ made c' → execute code t ≡ made t' → Small t' → Gave K o m c' t'
unfolding run execute
gave K done o m c t c' t' k w e f h = rw (← (made_is f), ← (made_is e)) w
gave K (act a) o m c t c' t' k w e f h = step_gave K a o m c t c' t' k w e f (small_before (step_grows a t t' f) h)
gave K (p then q) o m c t c' t' k w e f h =
    let a = onward_is (run K p c) (run K q) e in
    let b = onward_is (execute p t) (execute q) f in
    let h₁ = small_before (grows q b.0 t' b.2) h in
    gave K q o m a.0 b.0 c' t' (counts_of (agrees K p c t k) a.1 b.1) (gave K p o m c t a.0 b.0 k w a.1 b.1 h₁) a.2 b.2 h
gave K (label at f) o m c t c' t' k w e g h =
    let a = onward_is (move K (new at) c) (run K (f c.labels)) e in
    let b = onward_is (step (new at) t) (execute (f (length t.marks))) g in
    let h₁ = small_before (grows (f (length t.marks)) b.0 t' b.2) h in
    gave K (f (length t.marks)) o m a.0 b.0 c' t' (counts_of (step_agrees K (new at) c t k) a.1 b.1)
    (step_gave K (new at) o m c t a.0 b.0 k w a.1 b.1 (small_before (step_grows (new at) t b.0 b.1) h₁)) (sym (ap (λ l. run K (f l) a.0) k.labels) ∙ a.2) b.2 h

-- records within their widths lose nothing where they are cut
cut_is : (i : Instr) → Within i → cut i ≡ i
cut_is i h =
    let small : i.small % 2 ^ 8 ≡ i.small = omega (arith, h.small) in
    let first : i.first % 2 ^ 16 ≡ i.first = omega (arith, h.first) in
    let second : i.second % 2 ^ 16 ≡ i.second = omega (arith, h.second) in
    let flags : i.flags % 2 ^ 16 ≡ i.flags = omega (arith, h.flags) in
    let node : i.node % 2 ^ 32 ≡ i.node = omega (arith, h.node) in
    rw (small, first, second, flags, node) refl

pub given_whole : {S : Type 0} (K : Sinks S) (x n : ℕ) (is : List Instr) (o : S) → AllWithin is → sink_after (cutting K) x n is o ≡ sink_after K x n is o
unfolding sink_after
given_whole K x n [] o h = refl
given_whole K x n (i ∷ is) o h = ap (λ j. sink_after (cutting K) (x + size i) (suc n) is (K o x n j)) (cut_is i h.0) ∙ given_whole K (x + size i) (suc n) is (K o x n i) h.1

-- A lent buffer with room for them all: they stand after its front, and then what stood there

put_next : (o : List ℕ) (is : List Instr) (i : Instr) → listing_length (length is + 1) ≤ length o →
    put ((take front_length o ++ records_bytes is) ++ drop (listing_length (length is)) o) (length is) i ≡ (take front_length o ++ records_bytes (is ++ (i ∷ []))) ++ drop (listing_length (length is + 1)) o
unfolding put
put_next o is i h =
    let front : length (take front_length o) ≡ front_length = length-take-le front_length o (omega arith) in
    let p : length (take front_length o ++ records_bytes is) ≡ listing_length (length is) = length-append (take front_length o) (records_bytes is) ∙ omega (arith, front, length_records_bytes is) in
    let rest : length (drop (listing_length (length is)) o) ≡ length o - listing_length (length is) = simp length-drop in
    let whole : length ((take front_length o ++ records_bytes is) ++ drop (listing_length (length is)) o) ≡ length o = length-append (take front_length o ++ records_bytes is) (drop (listing_length (length is)) o) ∙ omega (arith, p, rest) in
    let a : take (listing_length (length is)) ((take front_length o ++ records_bytes is) ++ drop (listing_length (length is)) o) ≡ take front_length o ++ records_bytes is = take_at (take front_length o ++ records_bytes is) _ _ p in
    let n : listing_length (length is + 1) ≡ length (take front_length o ++ records_bytes is) + record_length = omega (arith, p) in
    let b : drop (listing_length (length is + 1)) ((take front_length o ++ records_bytes is) ++ drop (listing_length (length is)) o) ≡ drop record_length (drop (listing_length (length is)) o) =
    ap (λ k. drop k ((take front_length o ++ records_bytes is) ++ drop (listing_length (length is)) o)) n ∙ drop-append-add (take front_length o ++ records_bytes is) (drop (listing_length (length is)) o) record_length in
    let e : listing_length (length is) + record_length ≡ listing_length (length is + 1) = omega arith in
    let d : drop record_length (drop (listing_length (length is)) o) ≡ drop (listing_length (length is + 1)) o = drop-drop record_length (listing_length (length is)) o ∙ ap (λ k. drop k o) e in
    rw (put, whole, le-leb (listing_length (length is + 1)) (length o) h, a, b, d, records_snoc is i, ← (append_assoc (take front_length o) (records_bytes is) (record_bytes i))) (sym (append_assoc (take front_length o ++ records_bytes is) (record_bytes i) (drop (listing_length (length is + 1)) o)))

given_puts : (js is : List Instr) (x : ℕ) (o : List ℕ) → listing_length (length js + length is) ≤ length o →
    sink_after puts x (length js) is ((take front_length o ++ records_bytes js) ++ drop (listing_length (length js)) o) ≡ (take front_length o ++ records_bytes (js ++ is)) ++ drop (listing_length (length js + length is)) o
unfolding sink_after
given_puts js [] x o h = let z : length js + 0 ≡ length js = omega arith in rw (append-nil js, z) refl
given_puts js (i ∷ is) x o h =
    let long : length (js ++ (i ∷ [])) ≡ length js + 1 = length-append js (i ∷ []) in
    let next : suc (length js) ≡ length (js ++ (i ∷ [])) = omega (arith, long) in
    let all : length (js ++ (i ∷ [])) + length is ≡ length js + suc (length is) = omega (arith, long) in
    let a = put_next o js i (omega (arith, h)) ∙ ap (λ k. (take front_length o ++ records_bytes (js ++ (i ∷ []))) ++ drop (listing_length k) o) (sym long) in
    ap (λ b. sink_after puts (x + size i) (suc (length js)) is b) a
    ∙ ap (λ k. sink_after puts (x + size i) k is ((take front_length o ++ records_bytes (js ++ (i ∷ []))) ++ drop (listing_length (length (js ++ (i ∷ [])))) o)) next
    ∙ given_puts (js ++ (i ∷ [])) is (x + size i) o (omega (arith, h, all))
    ∙ rw (all, append_assoc js (i ∷ []) is) refl

pub puts_all : (is : List Instr) (o : List ℕ) → listing_length (length is) ≤ length o → sink_after puts 0 0 is o ≡ (take front_length o ++ records_bytes is) ++ drop (listing_length (length is)) o
unfolding records_bytes
puts_all is o h =
    let z : 0 + length is ≡ length is = omega arith in
    ap (λ b. sink_after puts 0 0 is b) (sym (rw (append-nil (take front_length o)) (take-append-drop front_length o)))
    ∙ rw z at (given_puts [] is 0 o (rw (sym z) at h))

-- 4. A unit

pub zero_counts : {S : Type 0} (o : S) (m : List ℕ) → Counts (zeros o m) start
zero_counts o m = record { labels = refl; count = refl; offset = refl }

module _ (s : List ℕ) (u : Script) (next : ℕ) (read : parse_unit s ≡ ok u next) where
  -- a walk that stopped, whatever its sink and marks: the definition's refusal
  pub unit_stopped : {S : Type 0} (K : Sinks S) (o : S) (m : List ℕ) (n p x : ℕ) → run K (code_of u) (zeros o m) ≡ refusal n p x → labelled s ≡ refusal n p x
  unfolding lowered
  unit_stopped {S} K o m n p x e = rw (read, lowered) (go (run K (code_of u) (zeros o m)) (execute (code_of u) start) (agrees K (code_of u) (zeros o m) start (zero_counts o m)) e)
    where
      go : (a : Result (Cells S)) (y : Result State) → Agrees a y → a ≡ refusal n p x → y ≡ refusal n p x
      go a y (both_stop n' p' x') f = cc
      go a y (both_go c t k) f = impossible (cc)

  -- a walk that did not, whatever its sink and marks: the definition's state, and its totals, of which none has wrapped
  pub record Totals {S : Type 0} (c : Cells S) : Type 0 where
    pub state : State
    pub walks_to : execute (code_of u) start ≡ made state
    pub whole : labelled s ≡ made state
    pub labels : c.labels ≡ length state.marks
    pub count : c.count ≡ length state.instrs
    pub offset : c.offset ≡ state.offset
    pub small : (state.offset < 2 ^ 32) × (length state.instrs < 2 ^ 32)

  pub unit_totals : {S : Type 0} (K : Sinks S) (o : S) (m : List ℕ) (c : Cells S) → run K (code_of u) (zeros o m) ≡ made c → Totals c
  unfolding lowered
  unit_totals {S} K o m c e = go (run K (code_of u) (zeros o m)) (execute (code_of u) start) refl (agrees K (code_of u) (zeros o m) start (zero_counts o m)) e
    where
      go : (a : Result (Cells S)) (y : Result State) → execute (code_of u) start ≡ y → Agrees a y → a ≡ made c → Totals c
      go a y q (both_stop n p x) f = impossible (cc)
      go a y q (both_go d t k) f =
          let b = bounded s u next read t q in
          let paid = unit_at s u next read in
          let j : d ≡ c = made_is f in
          let x : t.offset < 2 ^ 32 = omega (arith, b.offset, b.size) in
          let n : length t.instrs < 2 ^ 32 = omega (arith, b.records, paid.short) in
          rw (← j) (record {
            state = t;
            walks_to = q;
            whole = rw (read, lowered, q);
            labels = k.labels;
            count = small_mod d.count (length t.instrs) k.count n;
            offset = small_mod d.offset t.offset k.offset x;
            small = (x, n);
          })

  -- the sink, and the marks where the label table fits
  pub unit_gave : {S : Type 0} (K : Sinks S) (o : S) (m : List ℕ) (c : Cells S) → run K (code_of u) (zeros o m) ≡ made c → (k : Totals c) → Gave K o m c k.state
  unfolding sink_after total_size
  unit_gave K o m c e k =
      gave K (code_of u) o m (zeros o m) start c k.state (zero_counts o m) (record { sink = refl; total = refl; marks = λ h. refl }) e k.walks_to k.small
