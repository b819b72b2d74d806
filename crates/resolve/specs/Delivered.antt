-- What lowering and resolving deliver together, named by their definitions alone: where every jump of what is shipped lands.
use Rattle.std.specs.Prelude.{ℕ, Bool, true, false, cond, ◌&&◌, List, ◌⊎◌, ◌≡◌, leb, length, take}
use Rattle.std.proofs.Math.Option.{none, some}
use Rattle.definitions.specs.Answer.{ok, made}
use Rattle.definitions.specs.Tree.{Script}
use Rattle.definitions.specs.Read.{parse_unit}
use Rattle.definitions.specs.Instr.{Instr}
use Rattle.definitions.specs.Listing.{listing_length, listing_bytes, read_listing}
use Rattle.definitions.specs.Resolve.{resolve}
use Rattle.definitions.specs.Stage.{over, Resolving, coded, unresolved, resolve_to}
use Rattle.landing.specs.Distance.{distances_of}
use Rattle.landing.specs.Nodes.{EmittedBy}
use Rattle.landing.specs.Landed.{Far, filled, label_fields, first_far, far_distance, first_out, all_near, AllLand}

-- 1. Answers, by the landing table alone

-- into the lent buffer p, where `code` are the n records with the distances in place of the labels:
-- 32 for the distance that is too far, if there is one; else 20, if p is too short; else `code` stands in p, before what stood behind it
unfoldable pub delivers : Far → (n : ℕ) (code : List Instr) (p : List ℕ) → Resolving
delivers (some far) n code p = unresolved 32 far.place far.extra p
delivers none n code p = cond (leb (listing_length n) (length p)) (coded n (over (listing_bytes code) p)) (unresolved 20 0 0 p)

unfoldable pub is_coded : Resolving → Bool
is_coded (coded n p) = true
is_coded (unresolved n place extra p) = false

-- a refusal has one of these two numbers
unfoldable pub Only : (a b : ℕ) → Resolving → Type 0
Only a b (coded n p) = Unit
Only a b (unresolved n place extra p) = (n ≡ a) ⊎ (n ≡ b)

-- 2. The statement, of a unit s whose lowering answers with k labels and n records, and leaves `out` and `marks` in the lent buffers

-- the listing that stands in the lent buffer
abbrev pub listing_in : (n : ℕ) (out : List ℕ) → List ℕ
listing_in n out = take (listing_length n) out

pub record Delivered (s : List ℕ) (k n : ℕ) (out marks : List ℕ) : Type 0 where
  -- the script that s is read as
  pub script : Script
  pub reads : parse_unit s ≡ ok script (length s)
  -- the records that the listing holds
  pub instrs : List Instr
  pub holds : read_listing (listing_in n out) ≡ made instrs
  -- resolving answers with 32 for the first distance of the landing table outside -32,768 to 32,767, if there is one; else with 20, if the buffer p
  -- that is lent is too short; else with the n records that have exactly the table's distances in place of their labels, and all else alike.
  -- The table w that is handed over may be any that begins with the k marks: what stands behind them is not looked at
  pub resolves : (w p : List ℕ) → take k w ≡ take k marks →
      resolve_to (resolve (listing_in n out) w (length p)) p ≡ delivers (first_far 0 instrs (distances_of script)) n (filled instrs (distances_of script)) p
  -- the distance that it is refused for is the first of the table that is too far
  pub refused_for : far_distance (first_far 0 instrs (distances_of script)) ≡ first_out (distances_of script)
  -- it resolves exactly if each distance is near and the buffer is long enough
  pub near : (w p : List ℕ) → take k w ≡ take k marks → is_coded (resolve_to (resolve (listing_in n out) w (length p)) p) ≡ all_near (distances_of script) && leb (listing_length n) (length p)
  -- so 30 and 31 are never given
  pub numbers : (w p : List ℕ) → take k w ≡ take k marks → Only 32 20 (resolve_to (resolve (listing_in n out) w (length p)) p)
  -- there are as many distances as label fields
  pub all : length (distances_of script) ≡ label_fields instrs
  -- each lands on the first byte of an instruction or on the end
  pub lands : AllLand instrs 0 instrs (distances_of script)
  -- the node of every record, as it is listed and as it is resolved, is the place of a node of the script
  pub nodes : EmittedBy script instrs × EmittedBy script (filled instrs (distances_of script))
