-- What is said of an image that fails a demand: which, where, and what it asks.
use Rattle.std.specs.Prelude.{ℕ, List, ◌++◌, codes}
use Rattle.std.specs.Fmt.{decimal}
use Rattle.image_model.specs.Texts.{demand_text_of}
use Rattle.image_model.specs.declared.place.Place.{Place}
use Rattle.image_model.specs.declared.place.Place.TheVariants.{Byte, Row, Whole}
use Rattle.listing_leaves.specs.Bytes.{pair}

-- a byte of the file; a row of a table, whose number has two hexadecimal digits; or the image as a whole
abbrev pub place_text : Place → List ℕ
place_text (Byte at) = codes "byte " ++ decimal at
place_text (Row table row) = codes "table " ++ (pair table ++ (codes " row " ++ decimal row))
place_text Whole = codes "the whole"

-- the line for an image: FILE: error In at PLACE: TEXT
abbrev pub image_text : List ℕ → ℕ → Place → List ℕ
image_text file rule at =
    file ++ (codes ": error I" ++ (decimal rule ++ (codes " at " ++ (place_text at ++ (codes ": " ++ (demand_text_of rule ++ codes "\n"))))))
