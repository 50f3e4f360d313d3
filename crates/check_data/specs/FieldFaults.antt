-- The fields that break the rules of data (ECMA-335 II.16.3).
use Rattle.std.specs.Prelude.{◌≡◌, ℕ, ◌==◌, nat_lt, if◌then◌else◌, List, [], Option, None, Some, map}
use Rattle.std.specs.List.{flat_map}
use Rattle.ilasm_grammar.specs.declared.productions.TheConstants.{FIELD}
use Rattle.source_model.specs.Data.{labelled}
use Rattle.source_model.specs.Nodes.{Node}
use Rattle.source_model.specs.OutOfRange.{data_too_short, data_too_short_of, data_unsized, data_unsized_of}
use Rattle.source_model.specs.Source.{Source}
use Rattle.source_nodes.specs.Least.{least}
use Rattle.source_syntax.specs.Namings.{AreNames}
use Rattle.source_syntax.specs.declared.name_lists.Naming.TheVariants.{Label}
use Rattle.check_names.specs.MappedData.{counted_length}
use Rattle.check_data.specs.TypeSizes.{Measures}
use Rattle.check_data.specs.declared.mapped_fields.DataFaults.{DataFaults}
use Rattle.check_data.specs.declared.mapped_fields.Mapping.{Mapping}

-- the sizes of types, and the labels of data with their lengths
pub record Maps (m : Mapping) (s : Source) : Type 0 where
  pub measure : Measures m.measure s
  pub labels : AreNames s Label m.labels.now
  pub lengths : m.lengths.now ≡ map (counted_length s) (labelled s)

-- the label, where data has fewer bytes than a size; data without a label, and a length that isn't asked, are no fault here
abbrev pub label_below : ℕ → Option ℕ → ℕ → Option ℕ
label_below size None k = None
label_below size (Some length) k = if nat_lt length size then Some k else None

-- ---- what is broken

-- by a field
pub record AreFieldFaults (s : Source) (n : Node) (d : DataFaults) : Type 0 where
  pub short : d.short ≡ least (data_too_short_of s n)
  pub without-size : d.without_size ≡ least (data_unsized_of s n)

-- by a production, where it is a field
abbrev pub where_field : (Node → List ℕ) → Node → List ℕ
where_field broken n = if n.production == FIELD then broken n else []

-- by some productions
pub record AreLeast (s : Source) (ns : List Node) (d : DataFaults) : Type 0 where
  pub short : d.short ≡ least (flat_map (where_field (data_too_short_of s)) ns)
  pub without-size : d.without_size ≡ least (flat_map (where_field (data_unsized_of s)) ns)

-- by a source
pub record AreDataFaults (s : Source) (d : DataFaults) : Type 0 where
  pub short : d.short ≡ least (data_too_short s)
  pub without-size : d.without_size ≡ least (data_unsized s)
