-- Parts that are in their ranges.
use Rattle.source_flags.specs.InRange.{AllInRange, IsInRange}
use Rattle.source_model.specs.Forest.{Part}
use Rattle.source_model.specs.Source.{Source}

-- a part that is in its range, as are all below it
abbrev pub IsRanged : Source → Part → Type 0
IsRanged s p = IsInRange s p.production p.below × AllInRange s p.below
