-- What a well-formed assembly and its parts give, condition by condition.
use Rattle.std.specs.Prelude.{◌↔◌, Bool, nat_lt, length, IsTrue}
use Rattle.std.specs.List.{list_all}
use Rattle.type_terms.specs.declared.reference.FieldRef.{FieldRef}
use Rattle.type_terms.specs.declared.reference.MethodRef.{MethodRef}
use Rattle.type_terms.specs.declared.reference.MethodSig.{MethodSig}
use Rattle.assembly_tree.specs.DataSize.{size_in_data}
use Rattle.assembly_tree.specs.declared.assembly.Assembly.{Assembly}
use Rattle.assembly_tree.specs.declared.body.Body.{Body}
use Rattle.assembly_tree.specs.declared.members.Event.{Event}
use Rattle.assembly_tree.specs.declared.members.Field.{Field}
use Rattle.assembly_tree.specs.declared.members.Method.{Method}
use Rattle.assembly_tree.specs.declared.members.Property.{Property}
use Rattle.assembly_tree.specs.declared.typedef.TypeDef.{TypeDef}
use Rattle.assembly_tree.specs.declared.typedef.TypeDef.TheOpen.{TypeDef-F}
use Rattle.assembly_tree.specs.WellFormed.{is_manifest, is_extern, are_classes, is_one_entry, is_well_formed}
use Rattle.assembly_tree.specs.WellFormedBodies.{is_instruction, is_clause, is_operand, is_handled, short_branches_reach, is_body}
use Rattle.assembly_tree.specs.WellFormedMembers.{is_clear, is_attribute, is_constant, is_generic, is_param, are_params, is_content, is_field, are_impl_flags, is_method, is_property_accessor, is_event_accessor, is_property, is_event, is_same_field, is_same_method, is_same_property, is_same_event}
use Rattle.assembly_tree.specs.WellFormedNames.{option_all, rises, all_differ, is_name, is_type_id}
use Rattle.assembly_tree.specs.WellFormedTerms.{is_count, is_explicit_with_this, is_sentinel_inside, is_signature, is_declaration, is_property_signature, are_arguments, is_type, is_owner, is_method_ref, is_plain_ref, is_field_ref}
use Rattle.assembly_tree.specs.WellFormedTypes.{is_layout, is_base, is_owner_before, is_not_module, has_accessors_of_property, has_accessors_of_event, is_head, is_own}

-- an assembly
pub record WellFormed (a : Assembly) : Type 0 where
  pub manifest : IsTrue (is_manifest a a.manifest)
  pub externs : IsTrue (list_all is_extern a.externs)
  pub classes : IsTrue (are_classes a)
  pub fields : IsTrue (list_all (is_field a) a.fields)
  pub methods : IsTrue (list_all (is_method a) a.methods)
  pub fields_differ : IsTrue (all_differ is_same_field a.fields)
  pub methods_differ : IsTrue (all_differ is_same_method a.methods)
  pub one_entry : IsTrue (is_one_entry a)

-- a type without its members
pub record FormedHead (a : Assembly) (top : Bool) (t : TypeDef-F TypeDef) : Type 0 where
  pub id : IsTrue (is_type_id t.id)
  pub not_module : IsTrue (is_not_module top t.id)
  pub layout : IsTrue (is_layout t.layout)
  pub base : IsTrue (is_base top t.id t.flags t.extends)
  pub count : IsTrue (is_count (length t.generics))
  pub generics : IsTrue (list_all (is_generic a) t.generics)
  pub extends : IsTrue (option_all (is_owner a) t.extends)
  pub rising : IsTrue (rises is_owner_before t.implements)
  pub implements : IsTrue (list_all (is_owner a) t.implements)
  pub attributes : IsTrue (list_all (is_attribute a) t.attributes)

-- a type without those that it nests
pub record FormedType (a : Assembly) (top : Bool) (t : TypeDef-F TypeDef) : Type 0 where
  pub head : IsTrue (is_head a top t)
  pub fields : IsTrue (list_all (is_field a) t.fields)
  pub methods : IsTrue (list_all (is_method a) t.methods)
  pub properties : IsTrue (list_all (is_property a) t.properties)
  pub events : IsTrue (list_all (is_event a) t.events)
  pub property_accessors : IsTrue (list_all (has_accessors_of_property (length t.methods)) t.properties)
  pub event_accessors : IsTrue (list_all (has_accessors_of_event (length t.methods)) t.events)
  pub fields_differ : IsTrue (all_differ is_same_field t.fields)
  pub methods_differ : IsTrue (all_differ is_same_method t.methods)
  pub properties_differ : IsTrue (all_differ is_same_property t.properties)
  pub events_differ : IsTrue (all_differ is_same_event t.events)

pub record FormedField (a : Assembly) (f : Field) : Type 0 where
  pub name : IsTrue (is_name f.name)
  pub flags : IsTrue (is_clear 0x8100 f.flags)
  pub of : IsTrue (is_type a f.of)
  pub constant : IsTrue (option_all is_constant f.constant)
  pub content : IsTrue (is_content (size_in_data a f.of) f.content)
  pub attributes : IsTrue (list_all (is_attribute a) f.attributes)

pub record FormedMethod (a : Assembly) (m : Method) : Type 0 where
  pub name : IsTrue (is_name m.name)
  pub impl_flags : IsTrue (are_impl_flags m.impl_flags)
  pub declaration : IsTrue (is_declaration (length m.generics) m.sig)
  pub sig : IsTrue (is_signature a m.sig)
  pub numbers : IsTrue (are_params (length m.sig.params) m.params)
  pub generics : IsTrue (list_all (is_generic a) m.generics)
  pub params : IsTrue (list_all (is_param a) m.params)
  pub overrides : IsTrue (list_all (is_plain_ref a) m.overrides)
  pub body : IsTrue (option_all (is_body a) m.body)
  pub attributes : IsTrue (list_all (is_attribute a) m.attributes)

pub record FormedProperty (a : Assembly) (p : Property) : Type 0 where
  pub name : IsTrue (is_name p.name)
  pub flags : IsTrue (is_clear 0x1000 p.flags)
  pub declaration : IsTrue (is_property_signature p.sig)
  pub sig : IsTrue (is_signature a p.sig)
  pub constant : IsTrue (option_all is_constant p.constant)
  pub accessors : IsTrue (list_all is_property_accessor p.accessors)
  pub attributes : IsTrue (list_all (is_attribute a) p.attributes)

pub record FormedEvent (a : Assembly) (e : Event) : Type 0 where
  pub name : IsTrue (is_name e.name)
  pub of : IsTrue (is_owner a e.of)
  pub accessors : IsTrue (list_all is_event_accessor e.accessors)
  pub attributes : IsTrue (list_all (is_attribute a) e.attributes)

pub record FormedSignature (a : Assembly) (s : MethodSig) : Type 0 where
  pub generic : IsTrue (is_count s.generic)
  pub count : IsTrue (is_count (length s.params))
  pub explicit : IsTrue (is_explicit_with_this s)
  pub sentinel : IsTrue (is_sentinel_inside s)
  pub ret : IsTrue (is_type a s.ret)
  pub params : IsTrue (list_all (is_type a) s.params)

pub record FormedMethodRef (a : Assembly) (r : MethodRef) : Type 0 where
  pub name : IsTrue (is_name r.name)
  pub arguments : IsTrue (are_arguments r.sig.generic r.args)
  pub owner : IsTrue (is_owner a r.owner)
  pub sig : IsTrue (is_signature a r.sig)
  pub args : IsTrue (option_all (list_all (is_type a)) r.args)

pub record FormedFieldRef (a : Assembly) (r : FieldRef) : Type 0 where
  pub name : IsTrue (is_name r.name)
  pub owner : IsTrue (is_owner a r.owner)
  pub of : IsTrue (is_type a r.of)

pub record FormedBody (a : Assembly) (b : Body) : Type 0 where
  pub some_code : IsTrue (nat_lt 0 (length b.code))
  pub local_count : IsTrue (is_count (length b.locals))
  pub clause_count : IsTrue (is_count (length b.clauses))
  pub instructions : IsTrue (list_all (is_instruction (length b.code)) b.code)
  pub ranges : IsTrue (list_all (is_clause (length b.code)) b.clauses)
  pub short_branches : IsTrue (short_branches_reach b.code)
  pub locals : IsTrue (list_all (is_type a) b.locals)
  pub operands : IsTrue (list_all (λ i. is_operand a i.operand) b.code)
  pub catches : IsTrue (list_all (λ c. is_handled a c.kind) b.clauses)

-- each part meets its conditions together exactly where it meets each of them
abbrev pub NamesAssemblies : Type 0
NamesAssemblies = (a : Assembly) → IsTrue (is_well_formed a) ↔ WellFormed a

abbrev pub NamesTypes : Type 0
NamesTypes = (a : Assembly) (top : Bool) (t : TypeDef-F TypeDef) → IsTrue (is_own a top t) ↔ FormedType a top t

abbrev pub NamesHeads : Type 0
NamesHeads = (a : Assembly) (top : Bool) (t : TypeDef-F TypeDef) → IsTrue (is_head a top t) ↔ FormedHead a top t

abbrev pub NamesFields : Type 0
NamesFields = (a : Assembly) (f : Field) → IsTrue (is_field a f) ↔ FormedField a f

abbrev pub NamesMethods : Type 0
NamesMethods = (a : Assembly) (m : Method) → IsTrue (is_method a m) ↔ FormedMethod a m

abbrev pub NamesProperties : Type 0
NamesProperties = (a : Assembly) (p : Property) → IsTrue (is_property a p) ↔ FormedProperty a p

abbrev pub NamesEvents : Type 0
NamesEvents = (a : Assembly) (e : Event) → IsTrue (is_event a e) ↔ FormedEvent a e

abbrev pub NamesSignatures : Type 0
NamesSignatures = (a : Assembly) (s : MethodSig) → IsTrue (is_signature a s) ↔ FormedSignature a s

abbrev pub NamesMethodRefs : Type 0
NamesMethodRefs = (a : Assembly) (r : MethodRef) → IsTrue (is_method_ref a r) ↔ FormedMethodRef a r

abbrev pub NamesFieldRefs : Type 0
NamesFieldRefs = (a : Assembly) (r : FieldRef) → IsTrue (is_field_ref a r) ↔ FormedFieldRef a r

abbrev pub NamesBodies : Type 0
NamesBodies = (a : Assembly) (b : Body) → IsTrue (is_body a b) ↔ FormedBody a b
