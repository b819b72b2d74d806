-- Writing on a page: each byte where it fits, and all of them counted.
use Rattle.std.specs.Prelude.{ℕ, ◌+◌, ◌≤◌, ◌^◌, ◌≡◌, List, [], ◌∷◌, ◌++◌, length}
use Rattle.std.proofs.lemmas.List.Edits.{sets}
use Rattle.print.specs.declared.page.Page.{Page}

-- no line is longer than this: four decimal fields, two of labels or distances and two hexadecimal ones, each as long as it can be
abbrev pub longest : ℕ
longest = 162

-- and no place is as far as this: the text of the most records is shorter
abbrev pub far : ℕ
far = 2 ^ 32

-- the bytes t were written where the page was, and it is after them now; the buffer is the same one
pub record Wrote (t : List ℕ) (old new : Page) : Type 0 where
  pub place : new.at ≡ old.at + length t
  pub bytes : new.out.now ≡ sets old.out.now old.at t
  pub buffer : new.out.ghost_name ≡ old.out.ghost_name

-- a field f was written, with the byte that ends it: at most so many bytes
pub record Field (most : ℕ) (f : List ℕ) (end : ℕ) (old new : Page) : Type 0 where
  pub wrote : Wrote (f ++ (end ∷ [])) old new
  pub short : new.at ≤ old.at + most

-- a text was written from a buffer's start on, and it has so many bytes
pub record Filled (t : List ℕ) (size : ℕ) (before after : List ℕ) : Type 0 where
  pub length : size ≡ length t
  pub bytes : after ≡ sets before 0 t
