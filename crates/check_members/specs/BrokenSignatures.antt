-- What a production in a type, a signature or a reference breaks, by what the code knows (ECMA-335 II.7.1, II.23.2).
use Rattle.std.specs.Prelude.{ℕ, List, ◌++◌}
use Rattle.source_model.specs.Names.{written_name}
use Rattle.source_model.specs.Nodes.{Node}
use Rattle.source_model.specs.Source.{Source}
use Rattle.source_model.specs.TypeRules.{path_too_long, type_too_deep, typar_undeclared}
use Rattle.source_syntax.specs.declared.class_paths.ClassName.{ClassName}
use Rattle.check_names.specs.ArrayNumbers.{number_in_signature}
use Rattle.check_names.specs.NamedTypes.{scope_missing_in, type_missing_in}

-- all that it breaks, where the assemblies have these keys, this one these names, and the classes these paths
abbrev pub part_broken : List (List ℕ) → List (List ℕ) → List ClassName → Source → Node → List ℕ
part_broken keys own cs s n =
    type_missing_in keys own cs s (written_name n.production n.below) ++ scope_missing_in keys own s (written_name n.production n.below)
    ++ typar_undeclared s n ++ number_in_signature s n ++ type_too_deep s n ++ path_too_long n
