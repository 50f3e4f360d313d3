-- Properties and events one after another are read back.
use Rattle.std.proofs.Common.{◌≡◌, ℕ, ◌+◌, true, List, [], ◌∷◌, map, length, refl, ap, ◌∙◌}
use Rattle.std.proofs.lemmas.Bool.{and_parts}
use Rattle.std.specs.List.{list_all}
use Rattle.ilasm_grammar.specs.Ilasm.{ilasm, rule_by}
use Rattle.ilasm_grammar.specs.declared.nonterminals.TheConstants as n
use Rattle.type_terms.specs.declared.name.TypeId.{TypeId}
use Rattle.assembly_tree.specs.WellFormedMembers.{is_property, is_event, is_accessor_of}
use Rattle.assembly_tree.specs.declared.assembly.Assembly.{Assembly}
use Rattle.assembly_tree.specs.declared.members.Event.{Event}
use Rattle.assembly_tree.specs.declared.members.Method.{Method}
use Rattle.assembly_tree.specs.declared.members.Property.{Property}
use Rattle.source_model.specs.Forest as f
use Rattle.source_model.specs.Members as read
use Rattle.source_model.specs.Nodes.{Around}
use Rattle.source_model.specs.Source.{Source}
use Rattle.listing_formed.specs.Laws.{Knows}
use Rattle.listing_growth.specs.Held.{is_property_held, is_event_held}
use Rattle.listing_members.specs.Laws.{HasMethods, PropertiesAreRead}
use Rattle.listing_model.specs.Members as written
use Rattle.listing_model.specs.Shown.{none, put, size}
use Rattle.listing_reading.specs.Rows.{parts_at}
use Rattle.listing_rows.specs.Segments.{ItemsAgree, EachGrown}
use Rattle.listing_groups.specs.Laws.{property_items, event_items, PropertyRowsAreRead}

module _ (laws : PropertiesAreRead) (s : Source) (around : Around) (a : Assembly) (knows : Knows s a) (path : List TypeId) (gs : List f.Forest) (ms : List Method) (has_methods : HasMethods s around a path gs ms) where
  properties_are : (xs : List Property) → list_all (is_property a) xs ≡ true → list_all is_property_held xs ≡ true →
      list_all (λ x. list_all (is_accessor_of (length ms)) x.accessors) xs ≡ true → (at : ℕ) → EachGrown n.MEMBER (property_items a.externs path ms xs) →
      ItemsAgree s at (property_items a.externs path ms xs) → map (read.property s around gs) (read.properties_in (parts_at at (property_items a.externs path ms xs))) ≡ xs
  unfolding ilasm rule_by written.property
  properties_are [] m h c at g ag = refl
  properties_are (x ∷ xs) m h c at g ag =
      let m2 = and_parts (is_property a x) (list_all (is_property a) xs) m in
      let h2 = and_parts (is_property_held x) (list_all is_property_held xs) h in
      let c2 = and_parts (list_all (is_accessor_of (length ms)) x.accessors) (list_all (λ y. list_all (is_accessor_of (length ms)) y.accessors) xs) c in
      let next = at + size (put (written.property a.externs path ms x) none) in
      ap (λ y. y ∷ map (read.property s around gs) (read.properties_in (parts_at next (property_items a.externs path ms xs))))
      (laws.properties s around a knows path gs ms has_methods x m2.0 h2.0 c2.0 g.1.1 at ag.0.0)
      ∙ ap (λ ys. x ∷ ys) (properties_are xs m2.1 h2.1 c2.1 next g.2 ag.1)

  events_are : (xs : List Event) → list_all (is_event a) xs ≡ true → list_all is_event_held xs ≡ true →
      list_all (λ x. list_all (is_accessor_of (length ms)) x.accessors) xs ≡ true → (at : ℕ) → EachGrown n.MEMBER (event_items a.externs path ms xs) →
      ItemsAgree s at (event_items a.externs path ms xs) → map (read.event s around gs) (read.events_in (parts_at at (event_items a.externs path ms xs))) ≡ xs
  unfolding ilasm rule_by written.event
  events_are [] m h c at g ag = refl
  events_are (x ∷ xs) m h c at g ag =
      let m2 = and_parts (is_event a x) (list_all (is_event a) xs) m in
      let h2 = and_parts (is_event_held x) (list_all is_event_held xs) h in
      let c2 = and_parts (list_all (is_accessor_of (length ms)) x.accessors) (list_all (λ y. list_all (is_accessor_of (length ms)) y.accessors) xs) c in
      let next = at + size (put (written.event a.externs path ms x) none) in
      ap (λ y. y ∷ map (read.event s around gs) (read.events_in (parts_at next (event_items a.externs path ms xs))))
      (laws.events s around a knows path gs ms has_methods x m2.0 h2.0 c2.0 g.1.1 at ag.0.0)
      ∙ ap (λ ys. x ∷ ys) (events_are xs m2.1 h2.1 c2.1 next g.2 ag.1)

pub property_rows_are_read : PropertiesAreRead → PropertyRowsAreRead
property_rows_are_read laws = record {
  properties = λ s around a knows path gs ms has_methods xs m h c at g ag. properties_are laws s around a knows path gs ms has_methods xs m h c at g ag;
  events = λ s around a knows path gs ms has_methods xs m h c at g ag. events_are laws s around a knows path gs ms has_methods xs m h c at g ag;
}
