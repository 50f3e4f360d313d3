-- The items of data, by their productions, and their lengths where they don't stand too often (ECMA-335 II.16.3).
use Rattle.std.specs.Prelude.{ℕ, Bool, [], ◌∷◌, if◌then◌else◌, Option, None, Some}
use Rattle.ilasm_grammar.specs.declared.productions.TheConstants.{DATA_ITEM_BYTES, DATA_ITEM_DATA_NUM}
use Rattle.source_model.specs.Data.{item_length}
use Rattle.source_model.specs.Forest.{Part, is_among}
use Rattle.source_model.specs.OutOfRange.{stands_too_often}
use Rattle.source_model.specs.Source.{Source}

-- a production is an item of data
abbrev pub is_item : ℕ → Bool
is_item p = is_among (DATA_ITEM_BYTES ∷ DATA_ITEM_DATA_NUM ∷ []) p

-- the bytes of an item, where it doesn't stand too often
abbrev pub known_length : Source → Part → Option ℕ
known_length s p = if stands_too_often s p.below then None else Some (item_length s p)
