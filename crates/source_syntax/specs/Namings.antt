-- The names of declarations, by their tokens.
use Rattle.std.specs.Prelude.{◌≡◌, ℕ, if◌then◌else◌, List, [], ◌∷◌, map}
use Rattle.std.specs.List.{flat_map}
use Rattle.ilasm_grammar.specs.declared.productions.TheConstants.{ASSEMBLY_ASSEMBLY_ATTR_STAR, ASSEMBLY_EXTERN, DATA, DATA_LABEL, SLASH_NAME, TYPAR}
use Rattle.source_model.specs.Data.{label_token}
use Rattle.source_model.specs.Forest.{Forest, each, has, leaf_at}
use Rattle.source_model.specs.Names.{key_token}
use Rattle.source_model.specs.Source.{Source}
use Rattle.source_model.specs.Values.{name_text}
use Rattle.source_syntax.specs.declared.name_lists.Named.{Named}
use Rattle.source_syntax.specs.declared.name_lists.Naming.{Naming}
use Rattle.source_syntax.specs.declared.name_lists.Naming.TheVariants.{Assembly, Label, Own, Slash, Typar}

-- the production of such declarations
abbrev pub production_of : Naming → ℕ
production_of Assembly = ASSEMBLY_EXTERN
production_of Label = DATA
production_of Typar = TYPAR
production_of Slash = SLASH_NAME
production_of Own = ASSEMBLY_ASSEMBLY_ATTR_STAR

-- the token of a declaration's name, where it has one
abbrev pub tokens_named : Naming → Forest → List ℕ
tokens_named Assembly f = key_token f ∷ []
tokens_named Label f = if has DATA_LABEL f then label_token f ∷ [] else []
tokens_named Typar f = leaf_at 0 f ∷ []
tokens_named Slash f = leaf_at 1 f ∷ []
tokens_named Own f = leaf_at 0 f ∷ []

-- the tokens of all names of such declarations
abbrev pub names_in : Naming → Forest → List ℕ
names_in naming f = flat_map (tokens_named naming) (each (production_of naming) f)

-- these are the names of all such declarations of a source
pub record AreNames (s : Source) (naming : Naming) (n : Named) : Type 0 where
  pub tokens : n.tokens ≡ names_in naming s.tree
  pub texts : n.names ≡ map (name_text s) (names_in naming s.tree)
