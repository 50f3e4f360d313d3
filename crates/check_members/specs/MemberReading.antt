-- What whoever reads members knows of a source.
use Rattle.std.specs.Prelude.{◌≡◌, ℕ, ◌<◌, ◌^◌, List, map, length}
use Rattle.source_model.specs.Names.{extern_key, externs}
use Rattle.source_model.specs.Nodes.{Node}
use Rattle.source_model.specs.Source.{Source}
use Rattle.source_model.specs.TypeRules.{breaks_signature, is_nothing}
use Rattle.source_model.specs.Values.{name_text}
use Rattle.source_syntax.specs.Namings.{names_in}
use Rattle.source_syntax.specs.declared.name_lists.Naming.TheVariants.{Own}
use Rattle.check_names.specs.declared.named_types.Scopes.{Scopes}

-- the rule finds something at each production that breaks a signature and at no other, and these are the keys of the source's
-- assemblies and its own names
pub record Serves (broken : Source → Node → List ℕ) (scopes : Scopes) (s : Source) : Type 0 where
  pub breaks : (n : Node) → is_nothing (broken s n) ≡ is_nothing (breaks_signature s n)
  pub keys-are : scopes.keys.now ≡ map (extern_key s) (externs s)
  pub own-are : scopes.own.now ≡ map (name_text s) (names_in Own s.tree)
  pub few : length (externs s) < 2 ^ 32
