-- EVERY RECORD THAT IS EMITTED IS GOOD AND FITS ITS BYTES, whatever the walk refuses later. Assumes nothing.
use Prim.Native.Nat.{ℕ, zero, suc}
use mathlib.Core.Path.{◌≡◌, refl, sym}
use mathlib.Core.List.{List, [], ◌∷◌}
use mathlib.Core.Bool.{true}
use lib.ListN.{length, take, length-set}
use lib.Seq.{take-length}
use Rattle.definitions.specs.Answer.{ok, made, onward}
use Rattle.definitions.specs.Tree.{Script}
use Rattle.definitions.specs.Read.{parse_unit}
use Rattle.definitions.specs.Code.{Action, new, mark, emit, refuse, State, new_label, mark_label, emit_record, step, start}
use Rattle.definitions.specs.Lower.{lower}
use Rattle.definitions.specs.Listing.{all_good}
use Rattle.laws.proofs.Inversion.{refusal_not_made}
use Rattle.laws.proofs.Widths.{AllWithin}
use Rattle.landing.specs.Walk.{actions_of, exec, Bytes}
use Rattle.landing.proofs.Pieces.{records}
use Rattle.landing.proofs.Runs.{exec_new, longer, exec_records, ran}
use Rattle.landing.proofs.Fits.{AllFit}
use Rattle.landing.proofs.Paid.{unit_paid}

first_records : (k : ℕ) (acts : List Action) (s t : State) → AllFit (length s.marks) acts → exec (take k acts) s ≡ made t → let is = records (take k acts) in AllWithin is × (all_good is ≡ true)
unfolding AllFit exec step onward records all_good
first_records zero acts s t h e = (tt, refl)
first_records (suc k) [] s t h e = (tt, refl)
first_records (suc k) (new at ∷ acts) s t h e = let r = exec_new (take k acts) s t at e in first_records k acts (new_label s) t (rw (sym (longer s)) at (h r.1)) r.0
first_records (suc k) (mark l ∷ acts) s t h e = first_records k acts (mark_label l s) t (rw (sym (length-set s.marks l s.offset)) at h) e
first_records (suc k) (emit i ∷ acts) s t h e = let r = first_records k acts (emit_record i s) t h.1 e in ((h.0.0, r.0), rw h.0.1 r.1)
first_records (suc k) (refuse n p x ∷ acts) s t h e = refusal_not_made e

-- of every list of bytes that is read: after any number of its actions, as long as none has refused
pub emitted_records : (s : List ℕ) (u : Script) (next : ℕ) → Bytes s → parse_unit s ≡ ok u next → (k : ℕ) (t : State) → exec (take k (actions_of u)) start ≡ made t → AllWithin t.instrs × (all_good t.instrs ≡ true)
emitted_records s u next bytes read k t e =
    rw (exec_records (take k (actions_of u)) start t e) (first_records k (actions_of u) start t (((unit_paid s u next read).fine bytes).holds 0) e)

-- so after all of them
pub listing_records : (s : List ℕ) (u : Script) (next : ℕ) → Bytes s → parse_unit s ≡ ok u next → (t : State) → lower u ≡ made t → AllWithin t.instrs × (all_good t.instrs ≡ true)
listing_records s u next bytes read t e = emitted_records s u next bytes read (length (actions_of u)) t (rw (take-length (actions_of u)) (ran u t e))
