-- The weight of an assembly: a bound for the bytes of its image (ECMA-335 II.24). Each use of a name, a term or a text
-- counts by itself: 64 for a row or what may want one, 32 for a node of a signature and a name in a path, and each text
-- and blob its bytes.
use Rattle.std.specs.Prelude.{ℕ, ◌+◌, ◌*◌, List, length, sum, sum_by, Option, None, Some}
use Rattle.type_terms.specs.declared.name.TypeId.{TypeId}
use Rattle.type_terms.specs.declared.name.TypeName.{TypeName}
use Rattle.type_terms.specs.declared.term.Owner.{Owner, fold-Owner}
use Rattle.type_terms.specs.declared.term.SigType.{SigType, fold-SigType}
use Rattle.type_terms.specs.declared.term.Owner.TheOpen.{Owner-F, SigType-F, Name, Spec, Prim, Class, Value, Inst, Var, MVar, SzArray, Array, ByRef, Pointer, Mod, Pinned}
use Rattle.type_terms.specs.declared.reference.MethodSig.{MethodSig}
use Rattle.type_terms.specs.declared.reference.MethodRef.{MethodRef}
use Rattle.type_terms.specs.declared.reference.FieldRef.{FieldRef}
use Rattle.assembly_tree.specs.declared.assembly.Assembly.{Assembly}
use Rattle.assembly_tree.specs.declared.assembly.Manifest.{Manifest}
use Rattle.assembly_tree.specs.declared.assembly.ExternAssembly.{ExternAssembly}
use Rattle.assembly_tree.specs.declared.body.Body.{Body}
use Rattle.assembly_tree.specs.declared.body.Clause.{Clause}
use Rattle.assembly_tree.specs.declared.body.ClauseKind as kind
use Rattle.assembly_tree.specs.declared.body.Ins.{Ins}
use Rattle.assembly_tree.specs.declared.body.Operand as operand
use Rattle.assembly_tree.specs.declared.members.Attribute.{Attribute}
use Rattle.assembly_tree.specs.declared.members.Constant as constant
use Rattle.assembly_tree.specs.declared.members.Event.{Event}
use Rattle.assembly_tree.specs.declared.members.Field.{Field}
use Rattle.assembly_tree.specs.declared.members.Generic.{Generic}
use Rattle.assembly_tree.specs.declared.members.Method.{Method}
use Rattle.assembly_tree.specs.declared.members.Param.{Param}
use Rattle.assembly_tree.specs.declared.members.Property.{Property}
use Rattle.assembly_tree.specs.declared.typedef.TypeDef.{TypeDef}
use Rattle.assembly_tree.specs.declared.typedef.TypeDef.TheOpen.{TypeDef-F}
use Rattle.assembly_tree.specs.declared.typedef.TypeDef.TheFolds.{fold-TypeDef}

-- the weight of what may be there
abbrev pub optional : {X : Type 0} → (X → ℕ) → Option X → ℕ
optional weigh None = 0
optional weigh (Some x) = weigh x

-- ---- terms

-- a name in a path: 32, and its texts
unfoldable pub id_weight : TypeId → ℕ
id_weight id = 32 + length id.space + length id.name

unfoldable pub name_weight : TypeName → ℕ
name_weight name = sum_by id_weight name.path

-- an owner that is a name has the weight of the name, one that is a type that of the type
abbrev pub owner_step : Owner-F ℕ ℕ → ℕ
owner_step (Name name) = name_weight name
owner_step (Spec of) = of

-- a node of a signature: 32, its name, 8 for each number of an array's shape, and its children
abbrev pub type_step : SigType-F ℕ ℕ → ℕ
type_step (Prim p) = 32
type_step (Class name) = 32 + name_weight name
type_step (Value name) = 32 + name_weight name
type_step (Inst value name args) = 32 + name_weight name + sum args
type_step (Var n) = 32
type_step (MVar n) = 32
type_step (SzArray of) = 32 + of
type_step (Array of rank sizes lower) = 32 + 8 * length sizes + 8 * length lower + of
type_step (ByRef of) = 32 + of
type_step (Pointer of) = 32 + of
type_step (Mod required by of) = 32 + by + of
type_step (Pinned of) = 32 + of

abbrev pub type_weight : SigType → ℕ
type_weight t = fold-SigType ℕ ℕ owner_step type_step t

abbrev pub owner_weight : Owner → ℕ
owner_weight o = fold-Owner ℕ ℕ owner_step type_step o

unfoldable pub signature_weight : MethodSig → ℕ
signature_weight s = type_weight s.ret + sum_by type_weight s.params

-- 64, the owner, the name, the signature and the arguments
unfoldable pub method_ref_weight : MethodRef → ℕ
method_ref_weight r =
    64 + owner_weight r.owner + length r.name + signature_weight r.sig + optional (λ ts. sum_by type_weight ts) r.args

-- 64, the owner, the name and the type
unfoldable pub field_ref_weight : FieldRef → ℕ
field_ref_weight r = 64 + owner_weight r.owner + length r.name + type_weight r.of

-- bounds of a generic parameter, or implemented interfaces: 64 for each, and its weight
unfoldable pub bounds_weight : List Owner → ℕ
bounds_weight os = 64 * length os + sum_by owner_weight os

-- ---- members

-- 64, the reference to the constructor and the bytes of the value
unfoldable pub attribute_weight : Attribute → ℕ
attribute_weight a = 64 + method_ref_weight a.constructor + length a.value

-- 64, and 2 for each unit of a string
unfoldable pub constant_weight : constant.Constant → ℕ
constant_weight (constant.TheVariants.Str units) = 64 + 2 * length units
constant_weight (constant.TheVariants.Bool b) = 64
constant_weight (constant.TheVariants.Char c) = 64
constant_weight (constant.TheVariants.Int of n) = 64
constant_weight (constant.TheVariants.Real4 bits) = 64
constant_weight (constant.TheVariants.Real8 bits) = 64
constant_weight constant.TheVariants.Null = 64

unfoldable pub generic_weight : Generic → ℕ
generic_weight g =
    64 + length g.name + bounds_weight g.bounds + sum_by attribute_weight g.attributes

-- 64 besides for a constant, for an offset and for data, with the data's bytes
unfoldable pub field_weight : Field → ℕ
field_weight f =
    64 + length f.name + type_weight f.of + optional constant_weight f.constant + optional (λ _. 64) f.offset
    + optional (λ bytes. 64 + length bytes) f.content + sum_by attribute_weight f.attributes

unfoldable pub param_weight : Param → ℕ
param_weight p =
    64 + length p.name + optional constant_weight p.constant + sum_by attribute_weight p.attributes

unfoldable pub property_weight : Property → ℕ
property_weight p =
    64 + length p.name + signature_weight p.sig + optional constant_weight p.constant + 64 * length p.accessors
    + sum_by attribute_weight p.attributes

unfoldable pub event_weight : Event → ℕ
event_weight e =
    64 + length e.name + owner_weight e.of + 64 * length e.accessors + sum_by attribute_weight e.attributes

-- ---- bodies

-- what an operand adds to its instruction: 4 for each target of a switch, the names and terms in it, 2 for each unit of
-- a text
unfoldable pub operand_weight : operand.Operand → ℕ
operand_weight (operand.TheVariants.Targets targets) = 4 * length targets
operand_weight (operand.TheVariants.Method m) = method_ref_weight m
operand_weight (operand.TheVariants.Field f) = field_ref_weight f
operand_weight (operand.TheVariants.Of o) = owner_weight o
operand_weight (operand.TheVariants.Text units) = 2 * length units
operand_weight operand.TheVariants.Nothing = 0
operand_weight (operand.TheVariants.Var n) = 0
operand_weight (operand.TheVariants.Int n) = 0
operand_weight (operand.TheVariants.Real bits) = 0
operand_weight (operand.TheVariants.Target at) = 0

unfoldable pub instruction_weight : Ins → ℕ
instruction_weight i = 16 + operand_weight i.operand

-- a clause that catches has the weight of the caught type besides
unfoldable pub handled_weight : kind.ClauseKind → ℕ
handled_weight (kind.TheVariants.Catch o) = owner_weight o
handled_weight (kind.TheVariants.Filter at) = 0
handled_weight kind.TheVariants.Finally = 0
handled_weight kind.TheVariants.Fault = 0

unfoldable pub clause_weight : Clause → ℕ
clause_weight c = 64 + handled_weight c.kind

-- 64 for each local, and its type
unfoldable pub body_weight : Body → ℕ
body_weight b =
    64 * length b.locals + sum_by type_weight b.locals + sum_by instruction_weight b.code + sum_by clause_weight b.clauses

-- 64 for each override besides its reference
unfoldable pub method_weight : Method → ℕ
method_weight m =
    64 + length m.name + signature_weight m.sig + sum_by generic_weight m.generics + sum_by param_weight m.params
    + 64 * length m.overrides + sum_by method_ref_weight m.overrides + optional body_weight m.body
    + sum_by attribute_weight m.attributes

-- ---- types

-- a type without those that it nests: 64, its texts, 64 for a layout, and its parts
unfoldable pub own_weight : {A : Type 0} → TypeDef-F A → ℕ
own_weight t =
    64 + length t.id.space + length t.id.name + optional (λ _. 64) t.layout + sum_by generic_weight t.generics
    + optional owner_weight t.extends + bounds_weight t.implements + sum_by field_weight t.fields
    + sum_by method_weight t.methods + sum_by property_weight t.properties + sum_by event_weight t.events
    + sum_by attribute_weight t.attributes

abbrev pub typedef_step : TypeDef-F ℕ → ℕ
typedef_step t = own_weight t + sum t.nested

abbrev pub typedef_weight : TypeDef → ℕ
typedef_weight t = fold-TypeDef ℕ typedef_step t

unfoldable pub extern_weight : ExternAssembly → ℕ
extern_weight e = 64 + length e.name + length e.key + length e.culture + length e.hash

unfoldable pub manifest_weight : Manifest → ℕ
manifest_weight m =
    length m.name + length m.key + length m.culture + length m.module + sum_by attribute_weight m.attributes
    + sum_by attribute_weight m.module_attributes

-- 32,768 for the headers, and all parts
unfoldable pub weight_of : Assembly → ℕ
weight_of a =
    32768 + manifest_weight a.manifest + sum_by extern_weight a.externs + sum_by field_weight a.fields
    + sum_by method_weight a.methods + sum_by typedef_weight a.types
