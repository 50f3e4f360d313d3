-- Where in a text the first escape stands.
use Rattle.std.specs.Prelude.{◌≡◌, ℕ, suc, ◌<◌, ◌++◌, true, List, length, take, drop, slice_index}
use Rattle.std.specs.List.{flat_map}
use Rattle.listing_leaves.specs.Texts.{escaped}
use Rattle.print_leaves.specs.Page.{wants_escape}

-- the bytes before this place stand as they are, and the one there is spelled by an escape
pub record IsFirstEscape (q : ℕ) (bytes : List ℕ) (k : ℕ) : Type 0 where
  pub within : k < length bytes
  pub wants : wants_escape q (slice_index bytes k) ≡ true
  pub parts : flat_map (escaped q) bytes ≡ take k bytes ++ (escaped q (slice_index bytes k) ++ flat_map (escaped q) (drop (suc k) bytes))
