-- Where names and sizes are the same, so are the conditions on the parts of a tree.
use Rattle.std.proofs.Common.{◌≡◌, refl, ℕ, zero, suc, ◌==◌, ◌&&◌, ◌||◌, Bool, false, not, nat_lt, nat_le, length, is_none}
use Rattle.std.specs.List.{list_all}
use Rattle.type_terms.specs.Depth.{depth, owner_depth}
use Rattle.type_terms.specs.declared.term.Owner.{fold-Owner}
use Rattle.type_terms.specs.declared.term.SigType.{fold-SigType}
use Rattle.type_terms.specs.declared.term.Owner.TheOpen.{Owner-F, SigType-F, Name, Spec, Prim, Class, Value, Inst}
use Rattle.assembly_tree.specs.DataSize.{size_in_data}
use Rattle.assembly_tree.specs.declared.assembly.Assembly.{Assembly}
use Rattle.assembly_tree.specs.declared.body.ClauseKind as handles
use Rattle.assembly_tree.specs.declared.body.Operand as operand
use Rattle.assembly_tree.specs.declared.typedef.TypeDef.TheViews.{out-TypeDef}
use Rattle.assembly_tree.specs.WellFormed.{is_image_base, is_file_alignment, are_cor_flags, is_manifest}
use Rattle.assembly_tree.specs.WellFormedBodies.{has_body_form, short_branches_reach, is_operand, is_handled, names_well, is_body}
use Rattle.assembly_tree.specs.WellFormedMembers.{is_clear, is_attribute, is_constant, is_generic, are_params, is_param, is_content, is_field, are_impl_flags, is_method_head, is_method, is_property_accessor, is_event_accessor, is_property, is_event}
use Rattle.assembly_tree.specs.WellFormedNames.{option_all, rises, all_differ, has_no_zero, is_name, is_type_id, is_type_name}
use Rattle.assembly_tree.specs.WellFormedTerms.{owner_step, type_step, is_type, is_owner, is_count, is_explicit_with_this, is_sentinel_inside, is_signature, is_declaration, is_property_signature, are_arguments, is_method_ref, is_plain_ref, is_field_ref}
use Rattle.assembly_tree.specs.WellFormedTypes.{is_layout, is_base, is_owner_before, is_not_module, is_head, are_members, has_its_accessors, members_differ, is_own, is_same_id, are_types}
use Rattle.il_shrink.proofs.Twins.{SameNames}

module _ (a c : Assembly) (same : SameNames a c) where
  names : is_type_name c ≡ is_type_name a
  names = λ i n. same.names n i

  sizes : size_in_data c ≡ size_in_data a
  sizes = λ i t. same.sizes t i

  owner_step_at : (l : Owner-F Bool Bool) → owner_step c l ≡ owner_step a l
  owner_step_at (Name n) = same.names n
  owner_step_at (Spec of) = refl

  owner_steps : owner_step c ≡ owner_step a
  owner_steps = λ i l. owner_step_at l i

  type_step_at : (l : SigType-F Bool Bool) → type_step c l ≡ type_step a l
  type_step_at (Class n) = same.names n
  type_step_at (Value n) = same.names n
  type_step_at (Inst v n args) = λ i. names i n && nat_lt 0 (length args) && list_all (λ ok. ok) args
  type_step_at l = refl

  type_steps : type_step c ≡ type_step a
  type_steps = λ i l. type_step_at l i

  types : is_type c ≡ is_type a
  unfolding is_type
  types = λ i t. nat_le (depth t) 100 && fold-SigType Bool Bool (owner_steps i) (type_steps i) t

  owners : is_owner c ≡ is_owner a
  unfolding is_owner
  owners = λ i o. nat_le (owner_depth o) 100 && fold-Owner Bool Bool (owner_steps i) (type_steps i) o

  signatures : is_signature c ≡ is_signature a
  unfolding is_signature
  signatures = λ i s.
      is_count s.generic && is_count (length s.params) && is_explicit_with_this s && is_sentinel_inside s && types i s.ret && list_all (types i) s.params

  method_refs : is_method_ref c ≡ is_method_ref a
  unfolding is_method_ref
  method_refs = λ i r.
      is_name r.name && are_arguments r.sig.generic r.args && owners i r.owner && signatures i r.sig && option_all (list_all (types i)) r.args

  plain_refs : is_plain_ref c ≡ is_plain_ref a
  unfolding is_plain_ref
  plain_refs = λ i r. is_none r.args && method_refs i r

  field_refs : is_field_ref c ≡ is_field_ref a
  unfolding is_field_ref
  field_refs = λ i r. is_name r.name && owners i r.owner && types i r.of

  attributes : is_attribute c ≡ is_attribute a
  unfolding is_attribute
  attributes = λ i x. plain_refs i x.constructor

  generics : is_generic c ≡ is_generic a
  unfolding is_generic
  generics = λ i g. is_name g.name && list_all (owners i) g.bounds && list_all (attributes i) g.attributes

  params : is_param c ≡ is_param a
  unfolding is_param
  params = λ i p.
      has_no_zero p.name && (not (p.number == 0) || (length p.name == 0)) && is_clear 0x1000 p.flags && option_all is_constant p.constant
      && list_all (attributes i) p.attributes

  pub fields : is_field c ≡ is_field a
  unfolding is_field
  fields = λ i f.
      is_name f.name && is_clear 0x8100 f.flags && types i f.of && option_all is_constant f.constant && is_content (sizes i f.of) f.content
      && list_all (attributes i) f.attributes

  operand_at : (o : operand.Operand) → is_operand c o ≡ is_operand a o
  operand_at (operand.TheVariants.Method m) = λ i. method_refs i m
  operand_at (operand.TheVariants.Field f) = λ i. field_refs i f
  operand_at (operand.TheVariants.Of o) = λ i. owners i o
  operand_at o = refl

  handled_at : (k : handles.ClauseKind) → is_handled c k ≡ is_handled a k
  handled_at (handles.TheVariants.Catch o) = λ i. owners i o
  handled_at k = refl

  bodies : is_body c ≡ is_body a
  unfolding is_body names_well
  bodies = λ i b.
      has_body_form b && short_branches_reach b.code
      && (list_all (types i) b.locals && list_all (λ x. operand_at x.operand i) b.code && list_all (λ x. handled_at x.kind i) b.clauses)

  heads_of_methods : is_method_head c ≡ is_method_head a
  unfolding is_method_head
  heads_of_methods = λ i m.
      is_name m.name && are_impl_flags m.impl_flags && is_declaration (length m.generics) m.sig && signatures i m.sig
      && are_params (length m.sig.params) m.params

  pub methods : is_method c ≡ is_method a
  unfolding is_method
  methods = λ i m.
      heads_of_methods i m && list_all (generics i) m.generics && list_all (params i) m.params && list_all (plain_refs i) m.overrides
      && option_all (bodies i) m.body && list_all (attributes i) m.attributes

  properties : is_property c ≡ is_property a
  unfolding is_property
  properties = λ i p.
      is_name p.name && is_clear 0x1000 p.flags && is_property_signature p.sig && signatures i p.sig && option_all is_constant p.constant
      && list_all is_property_accessor p.accessors && list_all (attributes i) p.attributes

  events : is_event c ≡ is_event a
  unfolding is_event
  events = λ i e.
      is_name e.name && owners i e.of && list_all is_event_accessor e.accessors && list_all (attributes i) e.attributes

  heads : is_head c ≡ is_head a
  unfolding is_head
  heads = λ i top t.
      is_type_id t.id && is_not_module top t.id && is_layout t.layout && is_base top t.id t.flags t.extends && is_count (length t.generics)
      && list_all (generics i) t.generics && option_all (owners i) t.extends && rises is_owner_before t.implements && list_all (owners i) t.implements
      && list_all (attributes i) t.attributes

  members : are_members c ≡ are_members a
  unfolding are_members
  members = λ i t. list_all (fields i) t.fields && list_all (methods i) t.methods && list_all (properties i) t.properties && list_all (events i) t.events

  owns : is_own c ≡ is_own a
  unfolding is_own
  owns = λ i top t. heads i top t && members i t && has_its_accessors t && members_differ t

  pub types_at : (top : Bool) (depth : ℕ) → are_types c top depth ≡ are_types a top depth
  unfolding are_types
  types_at top zero = refl
  types_at top (suc n) = λ i ts. all_differ is_same_id ts && list_all (λ t. owns i top (out-TypeDef t) && types_at false n i (out-TypeDef t).nested) ts

  pub manifests : is_manifest c ≡ is_manifest a
  unfolding is_manifest
  manifests = λ i m.
      is_name m.name && has_no_zero m.culture && is_name m.module && is_image_base m.image_base && is_file_alignment m.file_alignment
      && are_cor_flags m.cor_flags && list_all (attributes i) m.attributes && list_all (attributes i) m.module_attributes
