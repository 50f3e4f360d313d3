-- What a body is checked against: the types of its arguments, locals and result, and of what its instructions name,
-- normalised (ECMA-335 II.15.4, II.23.2.1, II.23.2.6).
use Rattle.std.specs.Prelude.{ℕ, if◌then◌else◌, List, [], ◌∷◌, ◌++◌, map, Option, None, Some}
use Rattle.type_terms.specs.declared.term.Owner.{Owner}
use Rattle.type_terms.specs.declared.term.SigType.{SigType}
use Rattle.type_terms.specs.declared.term.SigType.TheVariants as type
use Rattle.assembly_tree.specs.declared.assembly.Assembly.{Assembly}
use Rattle.assembly_tree.specs.declared.body.Body.{Body}
use Rattle.assembly_tree.specs.declared.body.Clause.{Clause}
use Rattle.assembly_tree.specs.declared.body.Ins.{Ins}
use Rattle.sig_pool.specs.Replaced.{replaced}
use Rattle.type_order.specs.Keys.{reading_of}
use Rattle.type_hierarchy.specs.Normal.{Reading, normal, normal_owner}
use Rattle.type_order.specs.OwnTypes.{own_class}
use Rattle.type_order.specs.Parts.{type_arguments}
use Rattle.type_hierarchy.specs.Hierarchy.{Hierarchy}
use Rattle.type_hierarchy.specs.Stack.{is_reference}
use Rattle.code_flow.specs.Methods.{Declared}

pub record Frame : Type 0 where
  pub image : Assembly
  pub types : Hierarchy
  pub code : List Ins
  pub clauses : List Clause
  -- the most values that the stack is to hold
  pub bound : ℕ
  pub arguments : List SigType
  pub locals : List SigType
  pub returns : SigType

-- ---- types of the image, normalised

abbrev pub reading : Hierarchy → Reading
reading w = reading_of w

abbrev pub type_in : Hierarchy → SigType → SigType
type_in w t = normal (reading w) t

abbrev pub types_in : Hierarchy → List SigType → List SigType
types_in w ts = map (type_in w) ts

abbrev pub owner_in : Hierarchy → Owner → SigType
owner_in w o = normal_owner (reading w) o

-- ---- generic arguments

-- the generic arguments of an owner
abbrev pub class_arguments : Hierarchy → Owner → List SigType
class_arguments w o = type_arguments (owner_in w o)

-- the generic arguments of a method's instantiation
abbrev pub method_arguments : Hierarchy → Option (List SigType) → List SigType
method_arguments w None = []
method_arguments w (Some ts) = types_in w ts

-- a type in a member's signature, the arguments of its owner and its own put in (II.9.2)
abbrev pub member_type : Hierarchy → Owner → Option (List SigType) → SigType → SigType
member_type w owner args t = replaced (class_arguments w owner) (method_arguments w args) (type_in w t)

-- ---- arguments

-- argument 0 of an instance method: the object of a reference type, and of another type a pointer to the value (I.12.1.6.2.1)
abbrev pub as_this : SigType → SigType
as_this t = if is_reference t then t else type.ByRef t

abbrev pub this_argument : Hierarchy → Declared → List SigType
this_argument w d = if d.method.sig.has_this then as_this (type_in w (own_class d.path d.parameters)) ∷ [] else []

-- ---- a method's frame

unfoldable pub frame : Assembly → Hierarchy → Declared → Body → Frame
frame a w d b = record {
  image = a;
  types = w;
  code = b.code;
  clauses = b.clauses;
  bound = b.bound;
  arguments = this_argument w d ++ types_in w d.method.sig.params;
  locals = types_in w b.locals;
  returns = type_in w d.method.sig.ret;
}
