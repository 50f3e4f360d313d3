-- The rules that are asked of each production by itself, one after another.
use Rattle.std.specs.Prelude.{ℕ, List, ◌++◌}
use Rattle.source_model.specs.Names.{written_name}
use Rattle.source_model.specs.Nodes.{Node}
use Rattle.source_model.specs.OutOfRange.{class_too_deep, nestings_too_deep, numbers_out_of_range}
use Rattle.source_model.specs.Source.{Source}
use Rattle.source_model.specs.TypeRules.{path_too_long, typar_undeclared}
use Rattle.source_model.specs.Undeclared.{data_undeclared, param_type_undeclared, scopes_undeclared, types_undeclared, typars_undeclared}
use Rattle.source_syntax.specs.declared.class_paths.ClassName.{ClassName}
use Rattle.check_names.specs.ArrayNumbers.{number_at}
use Rattle.check_names.specs.Missing.{label_missing}
use Rattle.check_names.specs.NamedTypes.{scope_missing_in, type_missing_in}

-- the tokens at which a source breaks these rules
abbrev pub broken_in_parts : Source → List ℕ
broken_in_parts s =
    types_undeclared s ++ scopes_undeclared s ++ typars_undeclared s ++ data_undeclared s ++ numbers_out_of_range s
    ++ nestings_too_deep s

-- ---- at one production

-- at the type's name that it begins with, by what the code knows: the keys of assemblies, the names of this one, and the classes
abbrev pub name_broken : List (List ℕ) → List (List ℕ) → List ClassName → Source → Node → List ℕ
name_broken keys own cs s n =
    type_missing_in keys own cs s (written_name n.production n.below)
    ++ scope_missing_in keys own s (written_name n.production n.below)

-- at all of it, also by the labels of data
abbrev pub broken_at : List (List ℕ) → List (List ℕ) → List ClassName → List (List ℕ) → Source → Node → List ℕ
broken_at keys own cs labels s n =
    name_broken keys own cs s n ++ (typar_undeclared s n ++ param_type_undeclared s n) ++ label_missing labels s n ++ number_at s n
    ++ (class_too_deep n ++ path_too_long n)
