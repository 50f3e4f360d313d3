-- A part of a tree in which each name of a type has given way to what it is called. The interfaces of a class are in their order
-- again, each once (ECMA-335 II.22.23); all that isn't a name of a type stays.
use Rattle.std.specs.Prelude.{List, map, Option, option_map}
use Rattle.sorted_owners.specs.Rising.{rising}
use Rattle.type_terms.specs.declared.name.TypeName.{TypeName}
use Rattle.type_terms.specs.declared.term.Owner.{Owner, fold-Owner}
use Rattle.type_terms.specs.declared.term.Owner.TheVariants as owner
use Rattle.type_terms.specs.declared.term.SigType.{SigType, fold-SigType}
use Rattle.type_terms.specs.declared.term.SigType.TheVariants as type
use Rattle.type_terms.specs.declared.term.Owner.TheOpen.{Owner-F, SigType-F, Name, Spec, Prim, Class, Value, Inst, Var, MVar, SzArray, Array, ByRef, Pointer, Mod, Pinned}
use Rattle.type_terms.specs.declared.reference.MethodSig.{MethodSig}
use Rattle.type_terms.specs.declared.reference.MethodRef.{MethodRef}
use Rattle.type_terms.specs.declared.reference.FieldRef.{FieldRef}
use Rattle.assembly_tree.specs.declared.assembly.Manifest.{Manifest}
use Rattle.assembly_tree.specs.declared.body.Body.{Body}
use Rattle.assembly_tree.specs.declared.body.Clause.{Clause}
use Rattle.assembly_tree.specs.declared.body.ClauseKind.{ClauseKind}
use Rattle.assembly_tree.specs.declared.body.ClauseKind.TheVariants as kind
use Rattle.assembly_tree.specs.declared.body.Ins.{Ins}
use Rattle.assembly_tree.specs.declared.body.Operand.{Operand}
use Rattle.assembly_tree.specs.declared.body.Operand.TheVariants as operand
use Rattle.assembly_tree.specs.declared.members.Attribute.{Attribute}
use Rattle.assembly_tree.specs.declared.members.Event.{Event}
use Rattle.assembly_tree.specs.declared.members.Field.{Field}
use Rattle.assembly_tree.specs.declared.members.Generic.{Generic}
use Rattle.assembly_tree.specs.declared.members.Method.{Method}
use Rattle.assembly_tree.specs.declared.members.Param.{Param}
use Rattle.assembly_tree.specs.declared.members.Property.{Property}
use Rattle.assembly_tree.specs.declared.typedef.TypeDef.{TypeDef}
use Rattle.assembly_tree.specs.declared.typedef.TypeDef.TheOpen.{TypeDef-F}
use Rattle.assembly_tree.specs.declared.typedef.TypeDef.TheFolds.{fold-TypeDef}
use Rattle.assembly_tree.specs.declared.typedef.TypeDef.TheViews.{roll-TypeDef}

-- what a name is called
abbrev pub Call : Type 0
Call = TypeName → TypeName

-- ---- types

abbrev pub owner_step : Call → Owner-F Owner SigType → Owner
owner_step f (Name name) = owner.Name (f name)
owner_step f (Spec of) = owner.Spec of

abbrev pub type_step : Call → SigType-F Owner SigType → SigType
type_step f (Prim p) = type.Prim p
type_step f (Class name) = type.Class (f name)
type_step f (Value name) = type.Value (f name)
type_step f (Inst value name args) = type.Inst value (f name) args
type_step f (Var n) = type.Var n
type_step f (MVar n) = type.MVar n
type_step f (SzArray of) = type.SzArray of
type_step f (Array of rank sizes lower) = type.Array of rank sizes lower
type_step f (ByRef of) = type.ByRef of
type_step f (Pointer of) = type.Pointer of
type_step f (Mod required by of) = type.Mod required by of
type_step f (Pinned of) = type.Pinned of

unfoldable pub called_type : Call → SigType → SigType
called_type f t = fold-SigType Owner SigType (owner_step f) (type_step f) t

unfoldable pub called_owner : Call → Owner → Owner
called_owner f o = fold-Owner Owner SigType (owner_step f) (type_step f) o

unfoldable pub called_signature : Call → MethodSig → MethodSig
called_signature f s = record s { ret = called_type f s.ret; params = map (called_type f) s.params }

unfoldable pub called_method_ref : Call → MethodRef → MethodRef
called_method_ref f r = record r {
  owner = called_owner f r.owner;
  sig = called_signature f r.sig;
  args = option_map (map (called_type f)) r.args;
}

unfoldable pub called_field_ref : Call → FieldRef → FieldRef
called_field_ref f r = record r { owner = called_owner f r.owner; of = called_type f r.of }

-- ---- members

unfoldable pub called_attribute : Call → Attribute → Attribute
called_attribute f a = record a { constructor = called_method_ref f a.constructor }

unfoldable pub called_generic : Call → Generic → Generic
called_generic f g = record g { bounds = map (called_owner f) g.bounds; attributes = map (called_attribute f) g.attributes }

unfoldable pub called_field : Call → Field → Field
called_field f x = record x { of = called_type f x.of; attributes = map (called_attribute f) x.attributes }

unfoldable pub called_param : Call → Param → Param
called_param f p = record p { attributes = map (called_attribute f) p.attributes }

unfoldable pub called_property : Call → Property → Property
called_property f p = record p { sig = called_signature f p.sig; attributes = map (called_attribute f) p.attributes }

unfoldable pub called_event : Call → Event → Event
called_event f e = record e { of = called_owner f e.of; attributes = map (called_attribute f) e.attributes }

-- ---- bodies

unfoldable pub called_operand : Call → Operand → Operand
called_operand f (operand.Method m) = operand.Method (called_method_ref f m)
called_operand f (operand.Field r) = operand.Field (called_field_ref f r)
called_operand f (operand.Of o) = operand.Of (called_owner f o)
called_operand f operand.Nothing = operand.Nothing
called_operand f (operand.Var n) = operand.Var n
called_operand f (operand.Int n) = operand.Int n
called_operand f (operand.Real bits) = operand.Real bits
called_operand f (operand.Target at) = operand.Target at
called_operand f (operand.Targets at) = operand.Targets at
called_operand f (operand.Text units) = operand.Text units

unfoldable pub called_instruction : Call → Ins → Ins
called_instruction f i = record i { operand = called_operand f i.operand }

unfoldable pub called_handled : Call → ClauseKind → ClauseKind
called_handled f (kind.Catch o) = kind.Catch (called_owner f o)
called_handled f (kind.Filter at) = kind.Filter at
called_handled f kind.Finally = kind.Finally
called_handled f kind.Fault = kind.Fault

unfoldable pub called_clause : Call → Clause → Clause
called_clause f c = record c { kind = called_handled f c.kind }

unfoldable pub called_body : Call → Body → Body
called_body f b = record b {
  locals = map (called_type f) b.locals;
  code = map (called_instruction f) b.code;
  clauses = map (called_clause f) b.clauses;
}

unfoldable pub called_method : Call → Method → Method
called_method f m = record m {
  sig = called_signature f m.sig;
  generics = map (called_generic f) m.generics;
  params = map (called_param f) m.params;
  overrides = map (called_method_ref f) m.overrides;
  body = option_map (called_body f) m.body;
  attributes = map (called_attribute f) m.attributes;
}

-- ---- types that are declared

-- the interfaces that a class implements, in order
abbrev pub called_interfaces : Call → List Owner → List Owner
called_interfaces f owners = rising (map (called_owner f) owners)

-- a type but for those that it nests, which are called already
unfoldable pub called_own : Call → TypeDef-F TypeDef → TypeDef-F TypeDef
called_own f t = record t {
  generics = map (called_generic f) t.generics;
  extends = option_map (called_owner f) t.extends;
  implements = called_interfaces f t.implements;
  fields = map (called_field f) t.fields;
  methods = map (called_method f) t.methods;
  properties = map (called_property f) t.properties;
  events = map (called_event f) t.events;
  attributes = map (called_attribute f) t.attributes;
}

abbrev pub typedef_step : Call → TypeDef-F TypeDef → TypeDef
typedef_step f t = roll-TypeDef (called_own f t)

unfoldable pub called_typedef : Call → TypeDef → TypeDef
called_typedef f t = fold-TypeDef TypeDef (typedef_step f) t

-- ---- what the assembly and its module say of themselves

unfoldable pub called_manifest : Call → Manifest → Manifest
called_manifest f m = record m {
  attributes = map (called_attribute f) m.attributes;
  module_attributes = map (called_attribute f) m.module_attributes;
}
