-- Links of the first rows of a list.
use Rattle.std.specs.Prelude.{List, length, take}
use Rattle.hash_places.specs.Slots.{place_of}
use Rattle.image_tokens.specs.Chains.{IsLinked}
use Rattle.image_tokens.specs.Rows.{cells_hash}
use Rattle.image_tokens.specs.declared.row_links.Links.{Links}
use Rattle.image_tokens.specs.declared.row_set.Cells.{Cells}

-- as many of the first rows are linked by their hashes as there are links
abbrev pub AreLinked : List Cells → Links → Type 0
AreLinked rows l = IsLinked cells_hash (place_of l.newest) (take (length l.nexts) rows) l.nexts
