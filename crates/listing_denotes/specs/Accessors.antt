-- The properties and events of a listing break no rule (ECMA-335 II.17, II.18, II.22.28).
use Rattle.std.specs.Prelude.{ℕ, ◌≡◌, true, List, length}
use Rattle.std.specs.List.{list_all}
use Rattle.ilasm_grammar.specs.declared.nonterminals.TheConstants as n
use Rattle.type_terms.specs.declared.name.TypeId.{TypeId}
use Rattle.assembly_tree.specs.WellFormedMembers.{is_property, is_event, is_accessor_of}
use Rattle.assembly_tree.specs.declared.assembly.Assembly.{Assembly}
use Rattle.assembly_tree.specs.declared.members.Event.{Event}
use Rattle.assembly_tree.specs.declared.members.Method.{Method}
use Rattle.assembly_tree.specs.declared.members.Property.{Property}
use Rattle.source_model.specs.Items.{members}
use Rattle.source_model.specs.Members.{method_forests}
use Rattle.source_model.specs.Nodes.{Around}
use Rattle.source_model.specs.Signatures.{is_method_unbroken}
use Rattle.source_model.specs.Source.{Source}
use Rattle.listing_declarations.specs.Laws.{IsListingOf}
use Rattle.listing_groups.specs.Laws.{property_items, event_items}
use Rattle.listing_growth.specs.Held.{is_property_held, is_event_held}
use Rattle.listing_members.specs.Laws.{HasMethods}
use Rattle.listing_rows.specs.Segments.{ItemsAgree, EachGrown}
use Rattle.listing_denotes.specs.Quiet.{ItemsBreakNothing}

-- Around stands a type of this path with these methods, none of which breaks a rule in its signature.
pub record IsInType (s : Source) (a : Assembly) (x : Around) (path : List TypeId) (ms : List Method) : Type 0 where
  pub path_is : x.path ≡ path
  pub has : HasMethods s x a path (method_forests (members x.class)) ms
  pub unbroken : list_all (is_method_unbroken s x) (method_forests (members x.class)) ≡ true

-- Properties and events in a row, where their accessors are among the methods of their type.
pub record AccessorsBreakNothing : Type 0 where
  pub properties : (s : Source) (a : Assembly) → IsListingOf s a → (x : Around) (path : List TypeId) (ms : List Method) → IsInType s a x path ms → (ps : List Property) →
      list_all (is_property a) ps ≡ true → list_all is_property_held ps ≡ true → list_all (λ p. list_all (is_accessor_of (length ms)) p.accessors) ps ≡ true → (at : ℕ) →
      EachGrown n.MEMBER (property_items a.externs path ms ps) → ItemsAgree s at (property_items a.externs path ms ps) → ItemsBreakNothing s x at (property_items a.externs path ms ps)
  pub events : (s : Source) (a : Assembly) → IsListingOf s a → (x : Around) (path : List TypeId) (ms : List Method) → IsInType s a x path ms → (es : List Event) →
      list_all (is_event a) es ≡ true → list_all is_event_held es ≡ true → list_all (λ e. list_all (is_accessor_of (length ms)) e.accessors) es ≡ true → (at : ℕ) →
      EachGrown n.MEMBER (event_items a.externs path ms es) → ItemsAgree s at (event_items a.externs path ms es) → ItemsBreakNothing s x at (event_items a.externs path ms es)
