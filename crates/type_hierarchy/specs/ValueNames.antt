-- The names that `valuetype` stands before in the types of an assembly (ECMA-335 II.7.1, II.23.2.12). Every type of the tree
-- counts: those of members, bodies, bases and bounds, and those in references to members, attributes' included.
use Rattle.std.specs.Prelude.{true, false, List, [], ◌∷◌, ◌++◌, Option, None, Some}
use Rattle.std.specs.List.{flat_map}
use Rattle.type_terms.specs.declared.name.TypeName.{TypeName}
use Rattle.type_terms.specs.declared.term.Owner.{Owner, fold-Owner}
use Rattle.type_terms.specs.declared.term.SigType.{SigType, fold-SigType}
use Rattle.type_terms.specs.declared.term.Owner.TheOpen.{Owner-F, SigType-F, Name, Spec, Prim, Class, Value, Inst, Var, MVar, SzArray, Array, ByRef, Pointer, Mod, Pinned}
use Rattle.type_terms.specs.declared.reference.MethodSig.{MethodSig}
use Rattle.type_terms.specs.declared.reference.MethodRef.{MethodRef}
use Rattle.type_terms.specs.declared.reference.FieldRef.{FieldRef}
use Rattle.assembly_tree.specs.declared.assembly.Assembly.{Assembly}
use Rattle.assembly_tree.specs.declared.body.Body.{Body}
use Rattle.assembly_tree.specs.declared.body.Clause.{Clause}
use Rattle.assembly_tree.specs.declared.body.ClauseKind.{ClauseKind}
use Rattle.assembly_tree.specs.declared.body.ClauseKind.TheVariants as kind
use Rattle.assembly_tree.specs.declared.body.Ins.{Ins}
use Rattle.assembly_tree.specs.declared.body.Operand.{Operand}
use Rattle.assembly_tree.specs.declared.body.Operand.TheVariants as operand
use Rattle.assembly_tree.specs.declared.members.Attribute.{Attribute}
use Rattle.assembly_tree.specs.declared.members.Event.{Event}
use Rattle.assembly_tree.specs.declared.members.Field.{Field}
use Rattle.assembly_tree.specs.declared.members.Generic.{Generic}
use Rattle.assembly_tree.specs.declared.members.Method.{Method}
use Rattle.assembly_tree.specs.declared.members.Param.{Param}
use Rattle.assembly_tree.specs.declared.members.Property.{Property}
use Rattle.assembly_tree.specs.declared.typedef.TypeDef.{TypeDef}
use Rattle.assembly_tree.specs.declared.typedef.TypeDef.TheOpen.{TypeDef-F}
use Rattle.assembly_tree.specs.declared.typedef.TypeDef.TheFolds.{fold-TypeDef}

abbrev pub Names : Type 0
Names = List TypeName

-- those of what may be there
abbrev pub optional : {X : Type 0} → (X → Names) → Option X → Names
optional names None = []
optional names (Some x) = names x

-- ---- in types

abbrev pub owner_step : Owner-F Names Names → Names
owner_step (Name name) = []
owner_step (Spec of) = of

-- a name with `valuetype` before it, and those in its children
abbrev pub type_step : SigType-F Names Names → Names
type_step (Value name) = name ∷ []
type_step (Inst true name args) = name ∷ flat_map (λ a. a) args
type_step (Inst false name args) = flat_map (λ a. a) args
type_step (Prim p) = []
type_step (Class name) = []
type_step (Var n) = []
type_step (MVar n) = []
type_step (SzArray of) = of
type_step (Array of rank sizes lower) = of
type_step (ByRef of) = of
type_step (Pointer of) = of
type_step (Mod required by of) = by ++ of
type_step (Pinned of) = of

abbrev pub in_type : SigType → Names
in_type t = fold-SigType Names Names owner_step type_step t

abbrev pub in_owner : Owner → Names
in_owner o = fold-Owner Names Names owner_step type_step o

unfoldable pub in_signature : MethodSig → Names
in_signature s = in_type s.ret ++ flat_map in_type s.params

unfoldable pub in_method_ref : MethodRef → Names
in_method_ref r = in_owner r.owner ++ in_signature r.sig ++ optional (λ ts. flat_map in_type ts) r.args

unfoldable pub in_field_ref : FieldRef → Names
in_field_ref r = in_owner r.owner ++ in_type r.of

-- ---- in members

unfoldable pub in_attribute : Attribute → Names
in_attribute a = in_method_ref a.constructor

unfoldable pub in_generic : Generic → Names
in_generic g = flat_map in_owner g.bounds ++ flat_map in_attribute g.attributes

unfoldable pub in_field : Field → Names
in_field f = in_type f.of ++ flat_map in_attribute f.attributes

unfoldable pub in_param : Param → Names
in_param p = flat_map in_attribute p.attributes

unfoldable pub in_property : Property → Names
in_property p = in_signature p.sig ++ flat_map in_attribute p.attributes

unfoldable pub in_event : Event → Names
in_event e = in_owner e.of ++ flat_map in_attribute e.attributes

-- ---- in bodies

unfoldable pub in_operand : Operand → Names
in_operand (operand.Method m) = in_method_ref m
in_operand (operand.Field f) = in_field_ref f
in_operand (operand.Of o) = in_owner o
in_operand operand.Nothing = []
in_operand (operand.Var n) = []
in_operand (operand.Int n) = []
in_operand (operand.Real bits) = []
in_operand (operand.Target at) = []
in_operand (operand.Targets at) = []
in_operand (operand.Text units) = []

unfoldable pub in_instruction : Ins → Names
in_instruction i = in_operand i.operand

unfoldable pub in_handled : ClauseKind → Names
in_handled (kind.Catch o) = in_owner o
in_handled (kind.Filter at) = []
in_handled kind.Finally = []
in_handled kind.Fault = []

unfoldable pub in_clause : Clause → Names
in_clause c = in_handled c.kind

unfoldable pub in_body : Body → Names
in_body b = flat_map in_type b.locals ++ flat_map in_instruction b.code ++ flat_map in_clause b.clauses

unfoldable pub in_method : Method → Names
in_method m =
    in_signature m.sig ++ flat_map in_generic m.generics ++ flat_map in_param m.params
    ++ flat_map in_method_ref m.overrides ++ optional in_body m.body ++ flat_map in_attribute m.attributes

-- ---- in types that are declared

-- in a type without those that it nests
unfoldable pub in_own : {A : Type 0} → TypeDef-F A → Names
in_own t =
    flat_map in_generic t.generics ++ optional in_owner t.extends ++ flat_map in_owner t.implements
    ++ flat_map in_field t.fields ++ flat_map in_method t.methods ++ flat_map in_property t.properties
    ++ flat_map in_event t.events ++ flat_map in_attribute t.attributes

abbrev pub typedef_step : TypeDef-F Names → Names
typedef_step t = in_own t ++ flat_map (λ names. names) t.nested

abbrev pub in_typedef : TypeDef → Names
in_typedef t = fold-TypeDef Names typedef_step t

unfoldable pub value_names : Assembly → Names
value_names a =
    flat_map in_attribute a.manifest.attributes ++ flat_map in_attribute a.manifest.module_attributes
    ++ flat_map in_field a.fields ++ flat_map in_method a.methods ++ flat_map in_typedef a.types
