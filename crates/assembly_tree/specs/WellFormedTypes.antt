-- The conditions on types in a well-formed tree (ECMA-335 II.10, II.22.37).
use Rattle.std.specs.Prelude.{ℕ, zero, suc, ◌+◌, ◌==◌, ◌&&◌, ◌||◌, Bool, false, not, bit_and, cond, List, length, sum, sum_by, count_by, Option, is_none, is_some}
use Rattle.std.specs.List.{list_all}
use Rattle.std.specs.Ordering.{is_lt}
use Rattle.type_terms.specs.Order.{owner_order}
use Rattle.type_terms.specs.declared.name.TypeId.{TypeId}
use Rattle.type_terms.specs.declared.term.Owner.{Owner}
use Rattle.assembly_tree.specs.DataSize.{is_id}
use Rattle.assembly_tree.specs.declared.assembly.Assembly.{Assembly}
use Rattle.assembly_tree.specs.declared.members.Event.{Event}
use Rattle.assembly_tree.specs.declared.members.Method.{Method}
use Rattle.assembly_tree.specs.declared.members.Property.{Property}
use Rattle.assembly_tree.specs.declared.typedef.Layout.{Layout}
use Rattle.assembly_tree.specs.declared.typedef.TypeDef.{TypeDef}
use Rattle.assembly_tree.specs.declared.typedef.TypeDef.TheOpen.{TypeDef-F}
use Rattle.assembly_tree.specs.declared.typedef.TypeDef.TheFolds.{fold-TypeDef}
use Rattle.assembly_tree.specs.declared.typedef.TypeDef.TheViews.{out-TypeDef}
use Rattle.assembly_tree.specs.WellFormedMembers.{is_attribute, is_generic, is_field, is_method, is_property, is_event, is_accessor_of, is_same_field, is_same_method, is_same_property, is_same_event}
use Rattle.assembly_tree.specs.WellFormedNames.{option_all, rises, all_differ, is_type_id, is_module, is_system_object}
use Rattle.assembly_tree.specs.WellFormedTerms.{is_count, is_owner}

-- ---- what a type says of itself

-- a packing size is 0 or a power of 2 up to 128 (ECMA-335 II.22.8)
abbrev pub is_pack : ℕ → Bool
is_pack n =
    (n == 0) || (n == 1) || (n == 2) || (n == 4) || (n == 8) || (n == 16) || (n == 32) || (n == 64) || (n == 128)

abbrev pub is_layout : Option Layout → Bool
is_layout l = option_all (λ x. is_pack x.pack) l

abbrev pub is_interface : ℕ → Bool
is_interface flags = not (bit_and flags 0x20 == 0)

-- an interface has no base, and every other type has one, but that the top-level `System.Object` need not
abbrev pub is_base : Bool → TypeId → ℕ → Option Owner → Bool
is_base top id flags extends =
    cond (is_interface flags) (is_none extends) (is_some extends || (top && is_system_object id))

-- the interfaces rise strictly by the order of owners
abbrev pub is_owner_before : Owner → Owner → Bool
is_owner_before o p = is_lt (owner_order o p)

-- at the top no type is called `<Module>`, which is always declared
abbrev pub is_not_module : Bool → TypeId → Bool
is_not_module top id = not (top && is_module id)

-- a type without its members; `top` says that no other type nests it
unfoldable pub is_head : Assembly → Bool → TypeDef-F TypeDef → Bool
is_head a top t =
    is_type_id t.id && is_not_module top t.id && is_layout t.layout && is_base top t.id t.flags t.extends
    && is_count (length t.generics) && list_all (is_generic a) t.generics && option_all (is_owner a) t.extends
    && rises is_owner_before t.implements && list_all (is_owner a) t.implements && list_all (is_attribute a) t.attributes

-- ---- its members

-- a type's members meet their conditions
unfoldable pub are_members : Assembly → TypeDef-F TypeDef → Bool
are_members a t =
    list_all (is_field a) t.fields && list_all (is_method a) t.methods && list_all (is_property a) t.properties
    && list_all (is_event a) t.events

-- the accessors of a type's properties and events are among its methods
abbrev pub has_accessors_of_property : ℕ → Property → Bool
has_accessors_of_property methods p = list_all (is_accessor_of methods) p.accessors

abbrev pub has_accessors_of_event : ℕ → Event → Bool
has_accessors_of_event methods e = list_all (is_accessor_of methods) e.accessors

unfoldable pub has_its_accessors : TypeDef-F TypeDef → Bool
has_its_accessors t =
    list_all (has_accessors_of_property (length t.methods)) t.properties
    && list_all (has_accessors_of_event (length t.methods)) t.events

-- no member is declared twice: no field, method or property with the name and signature of another one, and no event
-- with the name of another one
unfoldable pub members_differ : TypeDef-F TypeDef → Bool
members_differ t =
    all_differ is_same_field t.fields && all_differ is_same_method t.methods && all_differ is_same_property t.properties
    && all_differ is_same_event t.events

-- a type without those that it nests
unfoldable pub is_own : Assembly → Bool → TypeDef-F TypeDef → Bool
is_own a top t = is_head a top t && are_members a t && has_its_accessors t && members_differ t

-- ---- types side by side

abbrev pub is_same_id : TypeDef → TypeDef → Bool
is_same_id t u = is_id (out-TypeDef t).id (out-TypeDef u).id

-- types that stand side by side, and those that they nest, in at most `depth` levels: no two side by side have one id,
-- and each meets its conditions
unfoldable pub are_types : Assembly → Bool → ℕ → List TypeDef → Bool
are_types a top zero ts = length ts == 0
are_types a top (suc depth) ts =
    all_differ is_same_id ts && list_all (λ t. is_own a top (out-TypeDef t) && are_types a false depth (out-TypeDef t).nested) ts

-- ---- the entry point (ECMA-335 II.15.4.1.2)

abbrev pub entries_in : List Method → ℕ
entries_in ms = count_by (λ m. m.entry) ms

abbrev pub entries_step : TypeDef-F ℕ → ℕ
entries_step t = entries_in t.methods + sum t.nested

-- the methods of a type, and of those that it nests, where the program starts
abbrev pub entries_of : TypeDef → ℕ
entries_of t = fold-TypeDef ℕ entries_step t

unfoldable pub entries : Assembly → ℕ
entries a = entries_in a.methods + sum_by entries_of a.types
