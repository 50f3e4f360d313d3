-- What the rows, stacks and frames of the code mean in a pool of types.
use Rattle.std.specs.Prelude.{◌≡◌, ℕ, ◌<◌, Bool, ◌||◌, List, [], ◌∷◌, map, length, Option, None, Some}
use Rattle.std.specs.List.{All}
use Rattle.type_terms.specs.declared.term.SigType.{SigType}
use Rattle.sig_pool.specs.declared.node.Node.{Node}
use Rattle.sig_pool.specs.Pool.{Has, HasAll}
use Rattle.sig_pool.specs.Terms.{AllBelow, term_of}
use Rattle.type_hierarchy.specs.declared.stack_type.StackType.{StackType}
use Rattle.type_hierarchy.specs.Hierarchy.{Hierarchy}
use Rattle.type_hierarchy.specs.Meaning.{meant, IsWithin, Means}
use Rattle.type_hierarchy.specs.Stack.{Stack, stack_of, pointer_to}
use Rattle.stack_rows.specs.declared.frame.CodeFrame.{CodeFrame}
use Rattle.stack_rows.specs.declared.row.Demand.{Demand}
use Rattle.stack_rows.specs.declared.row.Demand.TheVariants.{Nothing, Any, Number, Integer, Index, Object, Condition, Comparable, Exactly, OneOf, To, ObjectPointer, Vector, VectorOf, ObjectVector}
use Rattle.stack_rows.specs.declared.row.Pairing.{Pairing}
use Rattle.stack_rows.specs.declared.row.Pairing.TheVariants.{Numeric, Integral, Equality, Ordering}
use Rattle.stack_rows.specs.declared.row.Pushed.{Pushed}
use Rattle.stack_rows.specs.declared.row.Pushed.TheVariants.{Always, Same, SameNumber, SameInteger, Pointed, Fetched, Computed}
use Rattle.stack_rows.specs.declared.row.Row.{Row}
use Rattle.stack_rows.specs.declared.row.Together.{Together}
use Rattle.stack_rows.specs.declared.row.Together.TheVariants.{Apart, Paired, Stored}
use Rattle.stack_rows.specs.declared.naming.Named.{Named}
use Rattle.code_flow.specs.Demands as demands
use Rattle.code_flow.specs.Frames.{Frame}
use Rattle.code_flow.specs.Rows as rows

-- ---- stacks

-- the types on a stack
abbrev pub stack_meant : List Node → List StackType → List Stack
stack_meant ns s = map (meant ns) s

-- the keys in it are ones of the pool
abbrev pub IsStackWithin : ℕ → List StackType → Type 0
IsStackWithin n s = All (IsWithin n) s

-- `s` is a stack of the pool that means `xs`
pub record MeansStack (ns : List Node) (s : List StackType) (xs : List Stack) : Type 0 where
  pub within : IsStackWithin (length ns) s
  pub is : stack_meant ns s ≡ xs

-- ---- demands

abbrev pub demand_meant : List Node → Demand → demands.Demand
demand_meant ns Nothing = demands.nothing
demand_meant ns Any = demands.any
demand_meant ns Number = demands.number
demand_meant ns Integer = demands.integer
demand_meant ns Index = demands.index
demand_meant ns Object = demands.object
demand_meant ns Condition = demands.condition
demand_meant ns Comparable = demands.comparable
demand_meant ns (Exactly t) = demands.exactly (meant ns t)
demand_meant ns (OneOf t u) = demands.one_of (meant ns t) (meant ns u)
demand_meant ns (To t) = demands.to (meant ns t)
demand_meant ns ObjectPointer = demands.object_pointer
demand_meant ns Vector = demands.vector
demand_meant ns (VectorOf k) = demands.vector_of (term_of ns k)
demand_meant ns ObjectVector = demands.object_vector

abbrev pub IsDemandWithin : ℕ → Demand → Type 0
IsDemandWithin n Nothing = Unit {0}
IsDemandWithin n Any = Unit {0}
IsDemandWithin n Number = Unit {0}
IsDemandWithin n Integer = Unit {0}
IsDemandWithin n Index = Unit {0}
IsDemandWithin n Object = Unit {0}
IsDemandWithin n Condition = Unit {0}
IsDemandWithin n Comparable = Unit {0}
IsDemandWithin n (Exactly t) = IsWithin n t
IsDemandWithin n (OneOf t u) = IsWithin n t × IsWithin n u
IsDemandWithin n (To t) = IsWithin n t
IsDemandWithin n ObjectPointer = Unit {0}
IsDemandWithin n Vector = Unit {0}
IsDemandWithin n (VectorOf k) = k < n
IsDemandWithin n ObjectVector = Unit {0}

-- a demand of the pool that means `x`
pub record MeansDemand (ns : List Node) (d : Demand) (x : demands.Demand) : Type 0 where
  pub within : IsDemandWithin (length ns) d
  pub is : demand_meant ns d ≡ x

-- ---- operands together

-- a number, an object reference or a pointer
abbrev pub comparable_test : Stack → Bool
comparable_test s = demands.is_number s || demands.is_object s || demands.is_pointer s

abbrev pub pairing_meant : Pairing → demands.Pairing
pairing_meant Numeric = demands.numeric
pairing_meant Integral = demands.integral
pairing_meant Equality = demands.equality
pairing_meant Ordering = demands.ordering

abbrev pub together_meant : Together → demands.Together
together_meant Apart = demands.apart
together_meant (Paired p) = demands.paired (pairing_meant p)
together_meant Stored = demands.stored

-- ---- results

abbrev pub pushed_meant : List Node → Pushed → rows.Pushed
pushed_meant ns (Always t) = rows.always (meant ns t)
pushed_meant ns Same = rows.same
pushed_meant ns SameNumber = rows.same_number
pushed_meant ns SameInteger = rows.same_integer
pushed_meant ns Pointed = rows.pointed
pushed_meant ns Fetched = rows.fetched
pushed_meant ns (Computed p) = rows.computed (pairing_meant p)

abbrev pub IsPushedWithin : ℕ → Pushed → Type 0
IsPushedWithin n (Always t) = IsWithin n t
IsPushedWithin n Same = Unit {0}
IsPushedWithin n SameNumber = Unit {0}
IsPushedWithin n SameInteger = Unit {0}
IsPushedWithin n Pointed = Unit {0}
IsPushedWithin n Fetched = Unit {0}
IsPushedWithin n (Computed p) = Unit {0}

-- a result of the pool that means `x`
pub record MeansPushed (ns : List Node) (p : Pushed) (x : rows.Pushed) : Type 0 where
  pub within : IsPushedWithin (length ns) p
  pub is : pushed_meant ns p ≡ x

-- what is pushed, by the first two operands
abbrev pub given_by : Stack → Stack → rows.Pushed → Stack
given_by a b p = rows.given (a ∷ b ∷ []) p

-- ---- rows

abbrev pub row_meant : List Node → Row → rows.Row
row_meant ns r = record {
  operands = map (demand_meant ns) r.operands;
  together = together_meant r.together;
  pushed = map (pushed_meant ns) r.pushed;
  empties = r.empties;
}

pub record IsRowWithin (n : ℕ) (r : Row) : Type 0 where
  pub operands : All (IsDemandWithin n) r.operands
  pub pushed : All (IsPushedWithin n) r.pushed

-- `r` is a row of the pool that means `x`
pub record MeansRow (ns : List Node) (r : Row) (x : rows.Row) : Type 0 where
  pub within : IsRowWithin (length ns) r
  pub is : row_meant ns r ≡ x

-- ---- frames

-- the keys are those of the types of a frame's variables and its result
pub record MeansFrame (ns : List Node) (v : CodeFrame) (f : Frame) : Type 0 where
  pub arguments : HasAll ns v.arguments f.arguments
  pub locals : HasAll ns v.locals f.locals
  pub returns : Has ns v.returns f.returns

pub record IsFrameWithin (n : ℕ) (v : CodeFrame) : Type 0 where
  pub arguments : AllBelow n v.arguments
  pub locals : AllBelow n v.locals
  pub returns : v.returns < n

-- a frame with the types of these keys
abbrev pub framed : Hierarchy → List Node → CodeFrame → Frame → Frame
framed w ns v f = record {
  image = f.image;
  types = w;
  code = f.code;
  clauses = f.clauses;
  bound = f.bound;
  arguments = map (term_of ns) v.arguments;
  locals = map (term_of ns) v.locals;
  returns = term_of ns v.returns;
}

-- the type of a key, where there is one
abbrev pub type_option : List Node → Option ℕ → Option SigType
type_option ns None = None
type_option ns (Some k) = Some (term_of ns k)

-- ---- what instructions name

-- a key of the type `t`, what its values are on the stack, and a pointer to it
pub record MeansNamed (ns : List Node) (v : Named) (w : Hierarchy) (t : SigType) : Type 0 where
  pub key : Has ns v.key t
  pub value : Means ns v.value (stack_of w t)
  pub pointer : Means ns v.pointer (pointer_to w t)
