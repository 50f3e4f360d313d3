-- Names that aren't declared, by what the code knows: the keys of assemblies, the name of this one, the classes and the names of
-- data (ECMA-335 II.6.2, II.7.3, II.16.3).
use Rattle.std.specs.Prelude.{ℕ, ◌==◌, if◌then◌else◌, List, []}
use Rattle.ilasm_grammar.specs.declared.productions.TheConstants.{AT_NAME}
use Rattle.source_model.specs.Forest.{leaf_at}
use Rattle.source_model.specs.Nodes.{Node}
use Rattle.source_model.specs.Source.{Source}
use Rattle.source_model.specs.TypeRules.{name_unless_among}

-- ---- data

-- the label behind `at` that isn't among these
abbrev pub label_missing : List (List ℕ) → Source → Node → List ℕ
label_missing names s n = if n.production == AT_NAME then name_unless_among s names (leaf_at 1 n.below) else []
