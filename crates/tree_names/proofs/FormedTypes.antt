-- A called type meets its conditions, where its members differ still.
use Rattle.std.proofs.Common.{◌≡◌, ◌∙◌, ap, refl, ℕ, ◌&&◌, Bool, true, List, map, length, cond, Option, None, Some, IsTrue, arith}
use Rattle.std.specs.Prelude.{option_map, is_none, is_some}
use Rattle.std.specs.List.{list_all}
use Rattle.std.proofs.lemmas.List.{length-map}
use Rattle.type_terms.specs.declared.name.TypeId.{TypeId}
use Rattle.type_terms.specs.declared.term.Owner.{Owner}
use Rattle.assembly_tree.proofs.FormedFacts.{heads_named, types_named}
use Rattle.assembly_tree.specs.WellFormedFacts.{FormedType}
use Rattle.assembly_tree.specs.WellFormedMembers.{is_event, is_field, is_method, is_property}
use Rattle.assembly_tree.specs.WellFormedNames.{all_differ}
use Rattle.assembly_tree.specs.WellFormedTerms.{is_count, is_owner}
use Rattle.assembly_tree.specs.WellFormedTypes.{has_accessors_of_event, has_accessors_of_property, is_base, is_head, is_own, members_differ}
use Rattle.assembly_tree.specs.WellFormedMembers.{is_same_event, is_same_field, is_same_method, is_same_property}
use Rattle.assembly_tree.specs.declared.assembly.Assembly.{Assembly}
use Rattle.assembly_tree.specs.declared.members.Event.{Event}
use Rattle.assembly_tree.specs.declared.members.Property.{Property}
use Rattle.assembly_tree.specs.declared.typedef.TypeDef.{TypeDef}
use Rattle.assembly_tree.specs.declared.typedef.TypeDef.TheOpen.{TypeDef-F}
use Rattle.tree_names.specs.Called.{Call, called_event, called_field, called_generic, called_method, called_own, called_owner, called_property}
use Rattle.tree_names.specs.Laws.{Carries, FormedOwn}
use Rattle.tree_names.proofs.FormedParts.{attributes, event, field, generics, method, property}
use Rattle.tree_names.proofs.FormedTerms.{all_called, may_called, owner_called}
use Rattle.tree_names.proofs.Interfaces.{rising_all, rising_rises}

base_called : (call : Owner → Owner) (top : Bool) (id : TypeId) (flags : ℕ) (extends : Option Owner) → is_base top id flags (option_map call extends) ≡ is_base top id flags extends
base_called call top id flags None = refl
base_called call top id flags (Some o) = refl

four : (w x y z : Bool) → IsTrue (w && x && y && z) → IsTrue w × IsTrue x × IsTrue y × IsTrue z
four w x y z h = (grind arith, grind arith, grind arith, grind arith)

module _ (f : Call) (a c : Assembly) (carries : Carries f a c) where
  property_accessors : (n m : ℕ) (ps : List Property) → m ≡ n → list_all (has_accessors_of_property n) ps ≡ true
      → list_all (has_accessors_of_property m) (map (called_property f) ps) ≡ true
  unfolding called_property
  property_accessors n m ps e h =
      ap (λ k. list_all (has_accessors_of_property k) (map (called_property f) ps)) e
      ∙ all_called (has_accessors_of_property n) (has_accessors_of_property n) (called_property f) (λ p k. k) ps h

  event_accessors : (n m : ℕ) (es : List Event) → m ≡ n → list_all (has_accessors_of_event n) es ≡ true
      → list_all (has_accessors_of_event m) (map (called_event f) es) ≡ true
  unfolding called_event
  event_accessors n m es e h =
      ap (λ k. list_all (has_accessors_of_event k) (map (called_event f) es)) e
      ∙ all_called (has_accessors_of_event n) (has_accessors_of_event n) (called_event f) (λ x k. k) es h

  head : (top : Bool) (t : TypeDef-F TypeDef) → is_head a top t ≡ true → is_head c top (called_own f t) ≡ true
  unfolding called_own
  head top t h =
      let r = (heads_named a top t).0 h in
      (heads_named c top (called_own f t)).1 (record {
        id = r.id;
        not_module = r.not_module;
        layout = r.layout;
        base = base_called (called_owner f) top t.id t.flags t.extends ∙ r.base;
        count = ap is_count (length-map t.generics (called_generic f)) ∙ r.count;
        generics = generics f a c carries t.generics r.generics;
        extends = may_called (is_owner a) (is_owner c) (called_owner f) (owner_called f a c carries) t.extends r.extends;
        rising = rising_rises (map (called_owner f) t.implements);
        implements = rising_all (is_owner c) (map (called_owner f) t.implements)
            (all_called (is_owner a) (is_owner c) (called_owner f) (owner_called f a c carries) t.implements r.implements);
        attributes = attributes f a c carries t.attributes r.attributes;
      })

  own : (top : Bool) (t : TypeDef-F TypeDef) → is_own a top t ≡ true → members_differ (called_own f t) ≡ true → is_own c top (called_own f t) ≡ true
  unfolding called_own members_differ
  own top t h d =
      let r = (types_named a top t).0 h in
      let methods = length-map t.methods (called_method f) in
      let ds = four (all_differ is_same_field (map (called_field f) t.fields)) (all_differ is_same_method (map (called_method f) t.methods))
      (all_differ is_same_property (map (called_property f) t.properties)) (all_differ is_same_event (map (called_event f) t.events)) d in
      (types_named c top (called_own f t)).1 (record {
        head = head top t r.head;
        fields = all_called (is_field a) (is_field c) (called_field f) (field f a c carries) t.fields r.fields;
        methods = all_called (is_method a) (is_method c) (called_method f) (method f a c carries) t.methods r.methods;
        properties = all_called (is_property a) (is_property c) (called_property f) (property f a c carries) t.properties r.properties;
        events = all_called (is_event a) (is_event c) (called_event f) (event f a c carries) t.events r.events;
        property_accessors = property_accessors (length t.methods) (length (map (called_method f) t.methods)) t.properties methods r.property_accessors;
        event_accessors = event_accessors (length t.methods) (length (map (called_method f) t.methods)) t.events methods r.event_accessors;
        fields_differ = ds.0;
        methods_differ = ds.1;
        properties_differ = ds.2;
        events_differ = ds.3;
      })

pub formed_own : FormedOwn
formed_own f a c carries top t h d = own f a c carries top t h d
