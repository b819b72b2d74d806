-- The rules by which the judgement of a construct follows the text of what it emits.
use Prim.Native.Nat.{ℕ, zero, suc, ◌+◌, ◌<◌, ◌≤◌}
use mathlib.Core.Path.{◌≡◌, refl, sym, ◌∙◌, subst}
use mathlib.Core.List.{List, [], ◌∷◌, ◌++◌, append-nil}
use mathlib.Core.Bool.{Bool, true, false, cond, true≢false}
use native.Mathlib.Omega.{arith}
use native.Mathlib.Nat.{add_assoc, add-zero}
use native.Mathlib.Numerals.{add-one}
use lib.Dec.{ltb→lt, eqb}
use lib.ListN.{length}
use lib.IntN.{ℤ}
use Rattle.definitions.specs.Tag.{tag_size, Jump}
use Rattle.definitions.specs.Instr.{Instr}
use Rattle.definitions.specs.Code.{Action, Code, mark, emit, refuse, done, act, ◌then◌, label, many, emits}
use Rattle.definitions.specs.Lower.{require}
use Rattle.definitions.specs.Resolve.{in_range}
use Rattle.laws.proofs.Sizes.{size_is, tag_total}
use Rattle.laws.proofs.Picked.{Carries}
use Rattle.landing.specs.Distance.{ahead, back}
use Rattle.landing.specs.Landed.{NotBelow, Each}
use Rattle.landing.specs.Walk.{news, actions}
use Rattle.landing.proofs.Pieces.{records, total, also, carried, dists, Agrees, Scoped, hit, hits, count, Backs, Ahead, Onwards, Piece, news_append, total_append, records_append, count_append, hits_append, scoped_append, dists_append, backs_append, onwards_append, agrees_left, agrees_right, below_suc, sub_ahead, sub_back, back_one}

module _ {M : ℕ → ℕ} {o n : ℕ} where
  pub nothing : Piece M o n done 0 0 [] [] Unit Unit Unit Unit []
  unfolding actions count news records Scoped total dists Backs Onwards
  nothing = record { once = λ l. rw (add-zero n) (omega arith); scoped = λ c. tt; sized = λ a. refl; counted = λ a. refl; most = omega arith; given = λ a. tt; lands = λ a h. refl; backs = λ a h. tt; onward = λ a h. tt }

  pub plain : {i : Instr} → Carries i.tag false false → Piece M o n (act (emit i)) (tag_size i.tag) 1 [] [] Unit Unit Unit Unit []
  unfolding actions count news records Scoped total dists carried also Backs Ahead Onwards
  plain {i} e = record { once = λ l. rw (add-zero n) (omega arith); scoped = λ c. tt; sized = λ a. omega (arith, size_is i); counted = λ a. refl; most = omega (arith, size_is i); given = λ a. tt; lands = λ a h. rw (e.0, e.1); backs = λ a h. tt; onward = λ a h. (λ j. (λ c. absurd (true≢false (sym c ∙ e.0)), λ c. absurd (true≢false (sym c ∙ e.1))), tt) }

  pub carry : {i : Instr} {a : ℕ} → Carries i.tag true false → Piece M o n (act (emit i)) (tag_size i.tag) 1 [] [] Unit (M i.first ≡ o + a) Unit Unit (ahead a ∷ [])
  unfolding actions count news records Scoped total dists carried also Backs NotBelow Ahead Onwards
  carry {i} {a} e = record {
    once = λ l. rw (add-zero n) (omega arith);
    scoped = λ c. tt;
    sized = λ a. omega (arith, size_is i);
    counted = λ a. refl;
    most = omega (arith, size_is i);
    given = λ a. tt;
    lands = λ g h. rw (e.0, e.1, sub_ahead (M i.first) o a h);
    backs = λ g h. (tt, λ t. tt);
    onward = λ g h. (λ j. (λ c. omega (arith, h), λ c. absurd (true≢false (sym c ∙ e.1))), tt);
  }

  pub carry_back : {i : Instr} (a : ℕ) → Carries i.tag true false → eqb i.tag Jump ≡ true → Piece M o n (act (emit i)) (tag_size i.tag) 1 [] [] Unit (M i.first + a ≡ o) Unit (a ≤ 32764) (back a ∷ [])
  unfolding actions count news records Scoped total dists carried also Backs Ahead Onwards
  carry_back {i} a e jump = record {
    once = λ l. rw (add-zero n) (omega arith);
    scoped = λ c. tt;
    sized = λ a. omega (arith, size_is i);
    counted = λ a. refl;
    most = omega (arith, size_is i);
    given = λ a. tt;
    lands = λ g h. rw (e.0, e.1, sub_back (M i.first) o a h);
    backs = λ g h. (back_one a h, λ t. tt);
    onward = λ g h. (λ j. absurd (true≢false (sym jump ∙ j)), tt);
  }

  pub carry2 : {i : Instr} {a b : ℕ} → Carries i.tag true true → Piece M o n (act (emit i)) (tag_size i.tag) 1 [] [] Unit ((M i.first ≡ o + a) × (M i.second ≡ o + b)) Unit Unit (ahead a ∷ ahead b ∷ [])
  unfolding actions count news records Scoped total dists carried also Backs NotBelow Ahead Onwards
  carry2 {i} {a} {b} e = record {
    once = λ l. rw (add-zero n) (omega arith);
    scoped = λ c. tt;
    sized = λ a. omega (arith, size_is i);
    counted = λ a. refl;
    most = omega (arith, size_is i);
    given = λ a. tt;
    lands = λ g h. rw (e.0, e.1, sub_ahead (M i.first) o a h.0, sub_ahead (M i.second) o b h.1);
    backs = λ g h. (tt, λ t. (tt, λ t. tt));
    onward = λ g h. (λ j. (λ c. omega (arith, h.0), λ c. omega (arith, h.1)), tt);
  }

  pub marks : {l : ℕ} → Piece M o n (act (mark l)) 0 0 [] (l ∷ []) (l < n) Unit (M l ≡ o) Unit []
  unfolding actions count news records Scoped total dists Agrees Backs Onwards
  marks = record { once = λ l. rw (add-zero n) (omega arith); scoped = λ c. (c, tt); sized = λ a. refl; counted = λ a. refl; most = omega arith; given = λ a. a.0; lands = λ a h. refl; backs = λ a h. tt; onward = λ a h. tt }

  pub refuses : {c p x s k : ℕ} {ds : List ℤ} → Piece M o n (act (refuse c p x)) s k [] [] Unit Unit Unit Unit ds
  unfolding actions count news records Scoped total Agrees
  refuses = record { once = λ l. rw (add-zero n) (omega arith); scoped = λ c. tt; sized = λ a. absurd a; counted = λ a. absurd a; most = omega arith; given = λ a. tt; lands = λ a h. absurd a; backs = λ a h. absurd a; onward = λ a h. absurd a }

  pub labels : {at s c : ℕ} {k : ℕ → Code} {made marked : List ℕ} {S H G R : Type 0} {ds : List ℤ} →
      Piece M o (n + 1) (k n) s c made marked S H G R ds → Piece M o n (label at k) s c (n ∷ made) marked S H G R ds
  unfolding actions count news records Scoped total dists Agrees Onwards
  labels {k} {made} {marked} r = record {
    once = λ l. let e : n + suc (news (actions (k n) (n + 1))) ≡ n + 1 + news (actions (k n) (n + 1)) = omega arith in rw e (omega (arith, r.once l, rw (← add-one) at (below_suc n l)));
    scoped = r.scoped;
    sized = r.sized;
    counted = r.counted;
    most = r.most;
    given = r.given;
    lands = r.lands;
    backs = r.backs;
    onward = r.onward;
  }

  pub seq : {p q : Code} {s t c d : ℕ} {made marked made' marked' : List ℕ} {S H G R S' H' G' R' : Type 0} {ds es : List ℤ} →
      Piece M o n p s c made marked S H G R ds → Piece M (o + s) (n + news (actions p n)) q t d made' marked' S' H' G' R' es →
      Piece M o n (p then q) (s + t) (c + d) (made ++ made') (marked ++ marked') (S × S') (H × H') (G × G') (R × R') (ds ++ es)
  unfolding actions
  seq {p} {q} {s} {made} {marked} {made'} {marked'} {ds} {es} f g =
      let P : List Action = actions p n in
      let Q : List Action = actions q (n + news P) in
      let right : Agrees M o (P ++ Q) → Agrees M (o + s) Q = λ a. rw (f.sized (agrees_left M o P Q a)) at (agrees_right M o P Q a) in
      record {
        once = λ l. rw (count_append l P Q, news_append P Q, hits_append made made' l, hits_append marked marked' l, ← add_assoc n (news P) (news Q)) (omega (arith, f.once l, g.once l));
        scoped = λ c. scoped_append n P Q (f.scoped c.0) (g.scoped c.1);
        sized = λ a. omega (arith, total_append P Q, f.sized (agrees_left M o P Q a), g.sized (right a));
        counted = λ a. omega (arith, records_append P Q, f.counted (agrees_left M o P Q a), g.counted (right a));
        most = omega (arith, total_append P Q, records_append P Q, f.most, g.most);
        given = λ a. (f.given (agrees_left M o P Q a), g.given (right a));
        lands = λ a h. rw (dists_append M o P Q, f.sized (agrees_left M o P Q a), f.lands (agrees_left M o P Q a) h.0, g.lands (right a) h.1);
        backs = λ a r. backs_append ds es (f.backs (agrees_left M o P Q a) r.0) (g.backs (right a) r.1);
        onward = λ a h. onwards_append M o P Q (f.onward (agrees_left M o P Q a) h.0) (rw (f.sized (agrees_left M o P Q a)) (g.onward (right a) h.1));
      }

module _ {M : ℕ → ℕ} {o n : ℕ} where
  -- the last mark of a construct
  pub ends : {p : Code} {l s c : ℕ} {made marked : List ℕ} {S H G R : Type 0} {ds : List ℤ} →
      Piece M o n p s c made marked S H G R ds →
      Piece M o n (p then act (mark l)) s c made (l ∷ marked) (S × (l < n + news (actions p n))) H (G × (M l ≡ o + s)) R ds
  ends {p} {l} {made} {marked} {ds} f =
      let r = seq f (marks {l = l}) in
      record {
        once = λ k. omega (arith, r.once k, hits_append made [] k, hits_append marked (l ∷ []) k);
        scoped = r.scoped;
        sized = λ a. omega (arith, r.sized a);
        counted = λ a. omega (arith, r.counted a);
        most = omega (arith, r.most);
        given = r.given;
        lands = λ a h. r.lands a (h, tt) ∙ append-nil ds;
        backs = λ a h. subst Backs (append-nil ds) (r.backs a (h, tt));
        onward = λ a h. r.onward a (h, tt);
      }

  -- what the marks give is what the carriers need, and each label that is made is marked once at most
  pub close : {p : Code} {s s' c c' : ℕ} {made marked marked' : List ℕ} {S S' H H' G G' R R' : Type 0} {ds ds' : List ℤ} →
      Piece M o n p s c made marked S H G R ds → ds ≡ ds' →
      (S' → S) × (H' → G → H) × (G → G') × ((l : ℕ) → hits marked l ≤ hits made l + hits marked' l) × (s ≡ s') × (c ≡ c') × (R' → R) →
      Piece M o n p s' c' [] marked' S' H' G' R' ds'
  close f e c = record {
    once = λ l. omega (arith, f.once l, c.3 l);
    scoped = λ x. f.scoped (c.0 x);
    sized = λ a. f.sized a ∙ c.4;
    counted = λ a. f.counted a ∙ c.5;
    most = omega (arith, f.most, c.4, c.5);
    given = λ a. c.2 (f.given a);
    lands = λ a h. f.lands a (c.1 h (f.given a)) ∙ e;
    backs = λ a r. subst Backs e (f.backs a (c.6 r));
    onward = λ a h. f.onward a (c.1 h (f.given a));
  }

  -- what follows the first distance may take it for in range
  pub guarded : {p : Code} {s c a : ℕ} {made marked : List ℕ} {S H G R R' : Type 0} {ds : List ℤ} →
      Piece M o n p s c made marked S H G R (ahead a ∷ ds) → (R' → a < 32768 → R) → Piece M o n p s c made marked S H G R' (ahead a ∷ ds)
  unfolding Backs NotBelow in_range
  guarded {a} f k = record {
    once = f.once;
    scoped = f.scoped;
    sized = f.sized;
    counted = f.counted;
    most = f.most;
    given = f.given;
    lands = f.lands;
    backs = λ g r. (tt, λ t. (f.backs g (k r (ltb→lt a 32768 t))).1 t);
    onward = f.onward;
  }

  -- what follows carries no label
  pub last : {p q : Code} {s t c d : ℕ} {made marked made' marked' : List ℕ} {S H G R S' H' G' R' : Type 0} {ds : List ℤ} →
      Piece M o n p s c made marked S H G R ds → Piece M (o + s) (n + news (actions p n)) q t d made' marked' S' H' G' R' [] →
      Piece M o n (p then q) (s + t) (c + d) (made ++ made') (marked ++ marked') (S × S') (H × H') (G × G') (R × R') ds
  last {ds} f g =
      let r = seq f g in
      record { once = r.once; scoped = r.scoped; sized = r.sized; counted = r.counted; most = r.most; given = r.given; lands = λ a h. r.lands a h ∙ append-nil ds; backs = λ a h. subst Backs (append-nil ds) (r.backs a h); onward = r.onward }

  -- a mark before the rest
  pub here : {q : Code} {l s c : ℕ} {made marked : List ℕ} {S H G R : Type 0} {ds : List ℤ} →
      Piece M o n q s c made marked S H G R ds →
      Piece M o n (act (mark l) then q) s c made (l ∷ marked) ((l < n) × S) H ((M l ≡ o) × G) R ds
  unfolding actions count news records Scoped total dists Agrees Onwards
  here {q} {l} {made} {marked} {ds} f = record {
    once = λ k. rw (add-zero n) (omega (arith, f.once k));
    scoped = λ c. (c.0, rw (add-zero n) (f.scoped c.1));
    sized = λ a. rw (add-zero n) (f.sized (rw (add-zero n) at a.1));
    counted = λ a. rw (add-zero n) (f.counted (rw (add-zero n) at a.1));
    most = rw (add-zero n) f.most;
    given = λ a. (a.0, f.given (rw (add-zero n) at a.1));
    lands = λ a h. rw (add-zero n) (f.lands (rw (add-zero n) at a.1) h);
    backs = λ a h. f.backs (rw (add-zero n) at a.1) h;
    onward = λ a h. rw (add-zero n) (f.onward (rw (add-zero n) at a.1) h);
  }

  -- one of two
  pub either : (b : Bool) {p q : Code} {s t c d : ℕ} {marked : List ℕ} {S G : Type 0} (H R : ℕ → Type 0) {ds es : List ℤ} →
      (b ≡ true → Piece M o n p s c [] marked S (H s) G (R s) ds) → (b ≡ false → Piece M o n q t d [] marked S (H t) G (R t) es) →
      Piece M o n (cond b p q) (cond b s t) (cond b c d) [] marked S (H (cond b s t)) G (R (cond b s t)) (cond b ds es)
  either true H R f g = f refl
  either false H R f g = g refl

-- k labels from n on
abbrev pub range : ℕ → ℕ → List ℕ
range n zero = []
range n (suc k) = n ∷ range (n + 1) k

pub range_snoc : (n k l : ℕ) → hit (n + k) l + hits (range n k) l ≡ hit n l + hits (range (n + 1) k) l
range_snoc n zero l = rw (add-zero n)
range_snoc n (suc k) l = let e : n + suc k ≡ n + 1 + k = omega arith in rw e (omega (arith, range_snoc (n + 1) k l))

pub many_labels : {M : ℕ → ℕ} {o n : ℕ} (at k : ℕ) {p : Code} {s c : ℕ} {marked : List ℕ} {S H G R : Type 0} {ds : List ℤ} →
    Piece M o (n + k) p s c [] marked S H G R ds → Piece M o n (many at k p) s c (range n k) marked S H G R ds
unfolding many
many_labels {n} at zero f = rw (add-zero n) at f
many_labels {n} at (suc k) f = let e : n + suc k ≡ n + 1 + k = omega arith in labels (many_labels {n = n + 1} at k (rw e at f))

-- a piece that uses no label of others and asks nothing
abbrev pub Whole : (M : ℕ → ℕ) (o n : ℕ) (p : Code) (s c : ℕ) (ds : List ℤ) → Type 0
Whole M o n p s c ds = Piece M o n p s c [] [] Unit Unit Unit Unit ds

-- records without labels

abbrev pub AllPlain : List Instr → Type 0
AllPlain is = Each (λ i. Carries i.tag false false) is

pub straight : {M : ℕ → ℕ} {o n : ℕ} (is : List Instr) → AllPlain is → Whole M o n (emits is) (tag_total is) (length is) []
unfolding emits
straight [] h = nothing
straight {o} (i ∷ is) h = close (seq (plain h.0) (straight {o = o + tag_size i.tag} is h.1)) refl (omega arith)

pub requires : {M : ℕ → ℕ} {o n : ℕ} (b : Bool) (number place extra : ℕ) → Whole M o n (require b number place extra) 0 0 []
unfolding require
requires true number place extra = nothing
requires false number place extra = refuses
