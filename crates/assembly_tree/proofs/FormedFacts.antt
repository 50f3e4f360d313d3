-- Conditions that hold together hold one by one.
use Rattle.std.proofs.Common.{◌&&◌, Bool, length, IsTrue, arith}
use Rattle.std.specs.List.{list_all}
use Rattle.assembly_tree.specs.WellFormedFacts.{NamesAssemblies, NamesHeads, NamesTypes, NamesFields, NamesMethods, NamesProperties, NamesEvents, NamesSignatures, NamesMethodRefs, NamesFieldRefs, NamesBodies}
use Rattle.assembly_tree.specs.WellFormed.{is_well_formed, are_globals}
use Rattle.assembly_tree.specs.WellFormedBodies.{has_body_form, names_well, is_body}
use Rattle.assembly_tree.specs.WellFormedNames.{option_all, rises, is_type_id}
use Rattle.assembly_tree.specs.WellFormedMembers.{is_attribute, is_generic, is_field, is_method_head, is_method, is_property, is_event}
use Rattle.assembly_tree.specs.WellFormedTerms.{is_count, is_owner, is_signature, is_method_ref, is_field_ref}
use Rattle.assembly_tree.specs.WellFormedTypes.{is_layout, is_base, is_owner_before, is_not_module, is_head, are_members, has_its_accessors, members_differ, is_own}

pub assemblies_named : NamesAssemblies
unfolding is_well_formed are_globals
assemblies_named a =
    (λ h. record { manifest = grind arith; externs = grind arith; classes = grind arith; fields = grind arith; methods = grind arith; fields_differ = grind arith; methods_differ = grind arith; one_entry = grind arith }, λ h. grind arith)

split_ten : (b c d e f g h i j k : Bool) → IsTrue (b && c && d && e && f && g && h && i && j && k) →
    IsTrue b × IsTrue c × IsTrue d × IsTrue e × IsTrue f × IsTrue g × IsTrue h × IsTrue i × IsTrue j × IsTrue k
split_ten b c d e f g h i j k all =
    (grind arith, grind arith, grind arith, grind arith, grind arith, grind arith, grind arith, grind arith, grind arith, grind arith)

join_ten : (b c d e f g h i j k : Bool) → IsTrue b → IsTrue c → IsTrue d → IsTrue e → IsTrue f → IsTrue g → IsTrue h → IsTrue i → IsTrue j → IsTrue k →
    IsTrue (b && c && d && e && f && g && h && i && j && k)
join_ten b c d e f g h i j k p q r s t u v w x y = grind arith

pub heads_named : NamesHeads
unfolding is_head
heads_named a top t =
    let split =
    split_ten (is_type_id t.id) (is_not_module top t.id) (is_layout t.layout) (is_base top t.id t.flags t.extends) (is_count (length t.generics))
    (list_all (is_generic a) t.generics) (option_all (is_owner a) t.extends) (rises is_owner_before t.implements) (list_all (is_owner a) t.implements)
    (list_all (is_attribute a) t.attributes) in
    let join =
    join_ten (is_type_id t.id) (is_not_module top t.id) (is_layout t.layout) (is_base top t.id t.flags t.extends) (is_count (length t.generics))
    (list_all (is_generic a) t.generics) (option_all (is_owner a) t.extends) (rises is_owner_before t.implements) (list_all (is_owner a) t.implements)
    (list_all (is_attribute a) t.attributes) in (
      λ h. record { id = (split h).0; not_module = (split h).1; layout = (split h).2; base = (split h).3; count = (split h).4; generics = (split h).5; extends = (split h).6; rising = (split h).7; implements = (split h).8; attributes = (split h).9 },
      λ r. join r.id r.not_module r.layout r.base r.count r.generics r.extends r.rising r.implements r.attributes,
    )

pub types_named : NamesTypes
unfolding is_own are_members has_its_accessors members_differ
types_named a top t =
    (λ h. record { head = grind arith; fields = grind arith; methods = grind arith; properties = grind arith; events = grind arith; property_accessors = grind arith; event_accessors = grind arith; fields_differ = grind arith; methods_differ = grind arith; properties_differ = grind arith; events_differ = grind arith }, λ h. grind arith)

pub fields_named : NamesFields
unfolding is_field
fields_named a f =
    (λ h. record { name = grind arith; flags = grind arith; of = grind arith; constant = grind arith; content = grind arith; attributes = grind arith }, λ h. grind arith)

pub methods_named : NamesMethods
unfolding is_method is_method_head
methods_named a m =
    (λ h. record { name = grind arith; impl_flags = grind arith; declaration = grind arith; sig = grind arith; numbers = grind arith; generics = grind arith; params = grind arith; overrides = grind arith; body = grind arith; attributes = grind arith }, λ h. grind arith)

pub properties_named : NamesProperties
unfolding is_property
properties_named a p =
    (λ h. record { name = grind arith; flags = grind arith; declaration = grind arith; sig = grind arith; constant = grind arith; accessors = grind arith; attributes = grind arith }, λ h. grind arith)

pub events_named : NamesEvents
unfolding is_event
events_named a e =
    (λ h. record { name = grind arith; of = grind arith; accessors = grind arith; attributes = grind arith }, λ h. grind arith)

pub signatures_named : NamesSignatures
unfolding is_signature
signatures_named a s =
    (λ h. record { generic = grind arith; count = grind arith; explicit = grind arith; sentinel = grind arith; ret = grind arith; params = grind arith }, λ h. grind arith)

pub method_refs_named : NamesMethodRefs
unfolding is_method_ref
method_refs_named a r =
    (λ h. record { name = grind arith; arguments = grind arith; owner = grind arith; sig = grind arith; args = grind arith }, λ h. grind arith)

pub field_refs_named : NamesFieldRefs
unfolding is_field_ref
field_refs_named a r =
    (λ h. record { name = grind arith; owner = grind arith; of = grind arith }, λ h. grind arith)

pub bodies_named : NamesBodies
unfolding is_body has_body_form names_well
bodies_named a b =
    (λ h. record { some_code = grind arith; local_count = grind arith; clause_count = grind arith; instructions = grind arith; ranges = grind arith; short_branches = grind arith; locals = grind arith; operands = grind arith; catches = grind arith }, λ h. grind arith)
