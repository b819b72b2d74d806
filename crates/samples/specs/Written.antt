-- Writing on a page: as many of the bytes as fit.
use Rattle.std.specs.Prelude.{ℕ, ◌+◌, ◌-◌, ◌≡◌, List, take, length}
use Rattle.std.proofs.lemmas.List.Edits.{sets}
use base.Fml.{GName}
use Rattle.samples.specs.declared.page.Page.{Page}

-- where a page stands, and what its buffer holds
abbrev pub place_of : Page → ℕ
place_of p = p.at

abbrev pub bytes_of : Page → List ℕ
bytes_of p = p.out.now

-- which buffer it is
abbrev pub buffer_of : Page → GName
buffer_of p = p.out.ghost_name

-- the first of the bytes t, up to the buffer's end
abbrev pub fitting : List ℕ → Page → List ℕ
fitting t p = take (length p.out.now - p.at) t

-- these were written where the page was, and it is after them now; the buffer is the same one
pub record Written (t : List ℕ) (old new : Page) : Type 0 where
  pub place : new.at ≡ old.at + length (fitting t old)
  pub bytes : new.out.now ≡ sets old.out.now old.at (fitting t old)
  pub buffer : new.out.ghost_name ≡ old.out.ghost_name
