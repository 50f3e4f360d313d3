-- The names of types in the parts of a tree, in order and as often as they stand there (ECMA-335 II.22.38, II.23.2.12). Every type
-- counts: those of members, bodies, bases, bounds and interfaces, and those in references to members, attributes' included.
use Rattle.std.specs.Prelude.{List, [], ◌∷◌, ◌++◌, Option, None, Some}
use Rattle.std.specs.List.{flat_map}
use Rattle.type_terms.specs.declared.name.TypeName.{TypeName}
use Rattle.type_terms.specs.declared.term.Owner.{Owner, fold-Owner}
use Rattle.type_terms.specs.declared.term.SigType.{SigType, fold-SigType}
use Rattle.type_terms.specs.declared.term.Owner.TheOpen.{Owner-F, SigType-F, Name, Spec, Prim, Class, Value, Inst, Var, MVar, SzArray, Array, ByRef, Pointer, Mod, Pinned}
use Rattle.type_terms.specs.declared.reference.MethodSig.{MethodSig}
use Rattle.type_terms.specs.declared.reference.MethodRef.{MethodRef}
use Rattle.type_terms.specs.declared.reference.FieldRef.{FieldRef}
use Rattle.assembly_tree.specs.declared.assembly.Assembly.{Assembly}
use Rattle.assembly_tree.specs.declared.assembly.Manifest.{Manifest}
use Rattle.assembly_tree.specs.declared.body.Body.{Body}
use Rattle.assembly_tree.specs.declared.body.Clause.{Clause}
use Rattle.assembly_tree.specs.declared.body.ClauseKind.{ClauseKind}
use Rattle.assembly_tree.specs.declared.body.ClauseKind.TheVariants as kind
use Rattle.assembly_tree.specs.declared.body.Ins.{Ins}
use Rattle.assembly_tree.specs.declared.body.Operand.{Operand}
use Rattle.assembly_tree.specs.declared.body.Operand.TheVariants as operand
use Rattle.assembly_tree.specs.declared.members.Attribute.{Attribute}
use Rattle.assembly_tree.specs.declared.members.Event.{Event}
use Rattle.assembly_tree.specs.declared.members.Field.{Field}
use Rattle.assembly_tree.specs.declared.members.Generic.{Generic}
use Rattle.assembly_tree.specs.declared.members.Method.{Method}
use Rattle.assembly_tree.specs.declared.members.Param.{Param}
use Rattle.assembly_tree.specs.declared.members.Property.{Property}
use Rattle.assembly_tree.specs.declared.typedef.TypeDef.{TypeDef}
use Rattle.assembly_tree.specs.declared.typedef.TypeDef.TheOpen.{TypeDef-F}
use Rattle.assembly_tree.specs.declared.typedef.TypeDef.TheFolds.{fold-TypeDef}

abbrev pub Names : Type 0
Names = List TypeName

-- those of what may be there
abbrev pub optional : {X : Type 0} → (X → Names) → Option X → Names
optional names None = []
optional names (Some x) = names x

-- ---- in types

abbrev pub owner_step : Owner-F Names Names → Names
owner_step (Name name) = name ∷ []
owner_step (Spec of) = of

-- its own name, and those in its children
abbrev pub type_step : SigType-F Names Names → Names
type_step (Prim p) = []
type_step (Class name) = name ∷ []
type_step (Value name) = name ∷ []
type_step (Inst value name args) = name ∷ flat_map (λ a. a) args
type_step (Var n) = []
type_step (MVar n) = []
type_step (SzArray of) = of
type_step (Array of rank sizes lower) = of
type_step (ByRef of) = of
type_step (Pointer of) = of
type_step (Mod required by of) = by ++ of
type_step (Pinned of) = of

abbrev pub names_in_type : SigType → Names
names_in_type t = fold-SigType Names Names owner_step type_step t

abbrev pub names_in_owner : Owner → Names
names_in_owner o = fold-Owner Names Names owner_step type_step o

unfoldable pub names_in_signature : MethodSig → Names
names_in_signature s = names_in_type s.ret ++ flat_map names_in_type s.params

unfoldable pub names_in_method_ref : MethodRef → Names
names_in_method_ref r = names_in_owner r.owner ++ names_in_signature r.sig ++ optional (λ ts. flat_map names_in_type ts) r.args

unfoldable pub names_in_field_ref : FieldRef → Names
names_in_field_ref r = names_in_owner r.owner ++ names_in_type r.of

-- ---- in members

unfoldable pub names_in_attribute : Attribute → Names
names_in_attribute a = names_in_method_ref a.constructor

unfoldable pub names_in_generic : Generic → Names
names_in_generic g = flat_map names_in_owner g.bounds ++ flat_map names_in_attribute g.attributes

unfoldable pub names_in_field : Field → Names
names_in_field f = names_in_type f.of ++ flat_map names_in_attribute f.attributes

unfoldable pub names_in_param : Param → Names
names_in_param p = flat_map names_in_attribute p.attributes

unfoldable pub names_in_property : Property → Names
names_in_property p = names_in_signature p.sig ++ flat_map names_in_attribute p.attributes

unfoldable pub names_in_event : Event → Names
names_in_event e = names_in_owner e.of ++ flat_map names_in_attribute e.attributes

-- ---- in bodies

unfoldable pub names_in_operand : Operand → Names
names_in_operand (operand.Method m) = names_in_method_ref m
names_in_operand (operand.Field f) = names_in_field_ref f
names_in_operand (operand.Of o) = names_in_owner o
names_in_operand operand.Nothing = []
names_in_operand (operand.Var n) = []
names_in_operand (operand.Int n) = []
names_in_operand (operand.Real bits) = []
names_in_operand (operand.Target at) = []
names_in_operand (operand.Targets at) = []
names_in_operand (operand.Text units) = []

unfoldable pub names_in_instruction : Ins → Names
names_in_instruction i = names_in_operand i.operand

unfoldable pub names_in_handled : ClauseKind → Names
names_in_handled (kind.Catch o) = names_in_owner o
names_in_handled (kind.Filter at) = []
names_in_handled kind.Finally = []
names_in_handled kind.Fault = []

unfoldable pub names_in_clause : Clause → Names
names_in_clause c = names_in_handled c.kind

unfoldable pub names_in_body : Body → Names
names_in_body b = flat_map names_in_type b.locals ++ flat_map names_in_instruction b.code ++ flat_map names_in_clause b.clauses

unfoldable pub names_in_method : Method → Names
names_in_method m =
    names_in_signature m.sig ++ flat_map names_in_generic m.generics ++ flat_map names_in_param m.params
    ++ flat_map names_in_method_ref m.overrides ++ optional names_in_body m.body ++ flat_map names_in_attribute m.attributes

-- ---- in types that are declared

-- in a type without those that it nests
unfoldable pub names_in_own : {A : Type 0} → TypeDef-F A → Names
names_in_own t =
    flat_map names_in_generic t.generics ++ optional names_in_owner t.extends ++ flat_map names_in_owner t.implements
    ++ flat_map names_in_field t.fields ++ flat_map names_in_method t.methods ++ flat_map names_in_property t.properties
    ++ flat_map names_in_event t.events ++ flat_map names_in_attribute t.attributes

abbrev pub typedef_step : TypeDef-F Names → Names
typedef_step t = names_in_own t ++ flat_map (λ names. names) t.nested

abbrev pub names_in_typedef : TypeDef → Names
names_in_typedef t = fold-TypeDef Names typedef_step t

-- ---- in an assembly

-- in what it declares, in `<Module>` and in types
unfoldable pub names_in_declarations : Assembly → Names
names_in_declarations a = flat_map names_in_field a.fields ++ flat_map names_in_method a.methods ++ flat_map names_in_typedef a.types

-- in what the assembly and its module say of themselves
unfoldable pub names_in_manifest : Manifest → Names
names_in_manifest m = flat_map names_in_attribute m.attributes ++ flat_map names_in_attribute m.module_attributes

unfoldable pub names_in : Assembly → Names
names_in a = names_in_manifest a.manifest ++ names_in_declarations a
