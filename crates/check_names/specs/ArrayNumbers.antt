-- The numbers of arrays that are out of their ranges (ECMA-335 II.14.2, II.23.2.13).
use Rattle.std.specs.Prelude.{ℕ, ◌==◌, if◌then◌else◌, List, [], ◌∷◌, ◌++◌, drop}
use Rattle.std.specs.List.{flat_map}
use Rattle.ilasm_grammar.specs.declared.productions.TheConstants.{TYPE_SUFFIX_BRACKET}
use Rattle.source_model.specs.Forest.{Forest}
use Rattle.source_model.specs.Nodes.{Node}
use Rattle.source_model.specs.Shapes.{Bound, commas, dimensions, is_vector}
use Rattle.source_model.specs.Source.{Source}
use Rattle.source_model.specs.OutOfRange.{barred_arguments, barred_in_property, constant_out_of_range, data_number_out_of_range, data_too_long, flags_out_of_range, layout_number_out_of_range, manifest_number_out_of_range, param_out_of_range}
use Rattle.source_model.specs.TypeRules.{arguments_out_of_range, comma_past_rank, generic_number_out_of_range, index_out_of_range, lower_out_of_range, parameter_flags_out_of_range, second_ellipsis, size_after_gap, size_out_of_range, typars_out_of_range}

-- the first of these, or else of those
abbrev pub or_else : List ℕ → List ℕ → List ℕ
or_else [] ys = ys
or_else (x ∷ xs) ys = x ∷ xs

-- The bound of a dimension that is out of its range: the lower one, or else the size, which stands behind that.
abbrev pub dimension_number : Source → Bound → List ℕ
dimension_number s b = or_else (lower_out_of_range s b.lower) (size_out_of_range s b.lower b.size)

abbrev pub shape_number : Source → Forest → List ℕ
shape_number s f =
    if is_vector f then []
    else flat_map (dimension_number s) (dimensions f) ++ size_after_gap (dimensions f) ++ comma_past_rank (drop 31 (commas s f))

abbrev pub array_number : Source → Node → List ℕ
array_number s n = if n.production == TYPE_SUFFIX_BRACKET then shape_number s n.below else []

-- ---- all numbers, with those of arrays

abbrev pub number_in_signature : Source → Node → List ℕ
number_in_signature s n =
    index_out_of_range s n ++ array_number s n ++ generic_number_out_of_range s n ++ arguments_out_of_range n
    ++ second_ellipsis n

abbrev pub number_in_type : Source → Node → List ℕ
number_in_type s n = number_in_signature s n ++ parameter_flags_out_of_range s n

abbrev pub declared_number : Source → Node → List ℕ
declared_number s n =
    manifest_number_out_of_range s n ++ flags_out_of_range s n ++ constant_out_of_range s n ++ layout_number_out_of_range s n
    ++ data_number_out_of_range s n

abbrev pub number_at : Source → Node → List ℕ
number_at s n =
    declared_number s n ++ data_too_long s n ++ param_out_of_range s n ++ barred_arguments n ++ barred_in_property n
    ++ number_in_type s n ++ typars_out_of_range n
