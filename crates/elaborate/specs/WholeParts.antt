-- What a faultless source says of each of its productions: its numbers are in their ranges, and below a method, whose tokens follow
-- one another, those of its instructions are too (ECMA-335 II.15.4, II.25.4).
use Rattle.std.specs.Prelude.{ℕ}
use Rattle.source_model.specs.Forest.{Forest, Part}
use Rattle.source_model.specs.Source.{Source}
use Rattle.lower_methods.specs.SoundMethods as sound

abbrev pub IsWhole : Source → ℕ → Forest → Type 0
IsWhole s p f = sound.IsWhole s p f

-- and so it is at each production of a forest
abbrev pub AllWhole : Source → Forest → Type 0
AllWhole s f = sound.AllWhole s f

abbrev pub IsWholePart : Source → Part → Type 0
IsWholePart s p = sound.IsWholePart s p
