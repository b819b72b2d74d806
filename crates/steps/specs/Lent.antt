-- What a listing is after a record: the buffer that it holds is the same, and has the record where it fits.
use Rattle.std.specs.Prelude.{ℕ, List}
use Rattle.std.specs.Borrow.{MutBor}
use Rattle.definitions.specs.Instr.{Instr}
use Rattle.steps.specs.Running.{put}

abbrev pub put_lent : MutBor (List ℕ) → (number : ℕ) → Instr → MutBor (List ℕ)
put_lent b k i = record { ref_ptr = b.ref_ptr; ghost_name = b.ghost_name; now = put b.now k i }
