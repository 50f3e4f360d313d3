-- What a faultless source says of each of its productions by itself: below it stands its body, and its numbers are in their
-- ranges (ECMA-335 II.22, II.23.1).
use Rattle.std.specs.Prelude.{◌≡◌, ℕ, []}
use Rattle.source_model.specs.Forest.{Forest}
use Rattle.source_model.specs.OutOfRange.{constant_out_of_range, data_number_out_of_range, flags_out_of_range, layout_number_out_of_range, manifest_number_out_of_range}
use Rattle.source_model.specs.Source.{Source}
use Rattle.source_nodes.specs.Derived.{FitsBody, OfEach}
use Rattle.source_syntax.specs.Places.{node_of, numbers_out_of_range}

pub record IsInRange (s : Source) (p : ℕ) (f : Forest) : Type 0 where
  pub fits : FitsBody s p f
  pub types : numbers_out_of_range s p f ≡ []
  pub manifest : manifest_number_out_of_range s (node_of p f) ≡ []
  pub flags : flags_out_of_range s (node_of p f) ≡ []
  pub constants : constant_out_of_range s (node_of p f) ≡ []
  pub layouts : layout_number_out_of_range s (node_of p f) ≡ []
  pub data-numbers : data_number_out_of_range s (node_of p f) ≡ []

-- and so it is at each production of a forest
abbrev pub AllInRange : Source → Forest → Type 0
AllInRange s f = OfEach (IsInRange s) f
