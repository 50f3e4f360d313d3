-- The items of data (ECMA-335 II.16.3).
use Rattle.std.specs.Prelude.{◌≡◌, ℕ, ◌⊎◌, true}
use Rattle.source_flags.specs.InRange.{IsInRange}
use Rattle.source_flags.specs.Lines.{productions_of}
use Rattle.source_flags.specs.declared.gathering.Kind.TheVariants.{DataItems}
use Rattle.source_model.specs.Forest.{Part, is_among}
use Rattle.source_model.specs.Source.{Source}

-- a width of integers, in bits
abbrev pub IsWidth : ℕ → Type 0
IsWidth n = (n ≡ 8) ⊎ (n ≡ 16) ⊎ (n ≡ 32) ⊎ (n ≡ 64)

-- an item of data that is in its range
abbrev pub IsItem : Source → Part → Type 0
IsItem s p = (is_among (productions_of DataItems) p.production ≡ true) × IsInRange s p.production p.below
