-- When no member is declared twice (ECMA-335 II.22.13, II.22.15, II.22.26, II.22.34).
use Rattle.std.specs.Prelude.{◌≡◌, true, List, []}
use Rattle.assembly_tree.specs.WellFormedMembers.{is_same_field, is_same_method, is_same_property, is_same_event}
use Rattle.assembly_tree.specs.WellFormedNames.{all_differ}
use Rattle.source_model.specs.DeclaredTwice.{fields_twice, methods_twice, properties_twice, events_twice}
use Rattle.source_model.specs.Forest.{Part}
use Rattle.source_model.specs.Members.{fields, methods, properties, events}
use Rattle.source_model.specs.Nodes.{Around}
use Rattle.source_model.specs.Source.{Source}

-- none of these members is declared twice, where those that they give all differ
pub record MembersAreOnce : Type 0 where
  pub fields : (s : Source) (a : Around) (ps : List Part) → all_differ is_same_field (fields s a ps) ≡ true → fields_twice s a ps ≡ []
  pub methods : (s : Source) (a : Around) (ps : List Part) → all_differ is_same_method (methods s a ps) ≡ true → methods_twice s a ps ≡ []
  pub properties : (s : Source) (a : Around) (ps : List Part) → all_differ is_same_property (properties s a ps) ≡ true → properties_twice s a ps ≡ []
  pub events : (s : Source) (a : Around) (ps : List Part) → all_differ is_same_event (events s a ps) ≡ true → events_twice s ps ≡ []
