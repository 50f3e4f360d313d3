-- What an instruction asks of an operand (ECMA-335 III.1.5, III.3, III.4), and of its operands together.
use Rattle.std.specs.Prelude.{◌≡◌, ◌⊎◌, Bool, true, false, ◌||◌, ◌&&◌, if◌then◌else◌, List, Option, None, Some, is_some, get_or, IsTrue}
use Rattle.type_terms.specs.declared.term.SigType.{SigType}
use Rattle.type_hierarchy.specs.Hierarchy.{Hierarchy}
use Rattle.type_order.specs.Keys.{vector_element}
use Rattle.type_hierarchy.specs.Stack.{Stack, i4, i8, native, float, null, ref, boxed, val, ptr, bad, is_reference, verification_type}
use Rattle.type_hierarchy.specs.Relations.{Assignable}

-- ---- kinds

abbrev pub is_number : Stack → Bool
is_number i4 = true
is_number i8 = true
is_number native = true
is_number float = true
is_number null = false
is_number (ref t) = false
is_number (boxed t) = false
is_number (val t) = false
is_number (ptr t) = false
is_number bad = false

-- a number but float
abbrev pub is_integer : Stack → Bool
is_integer i4 = true
is_integer i8 = true
is_integer native = true
is_integer float = false
is_integer null = false
is_integer (ref t) = false
is_integer (boxed t) = false
is_integer (val t) = false
is_integer (ptr t) = false
is_integer bad = false

-- an index into an array, or by how many bits a number is shifted
abbrev pub is_index : Stack → Bool
is_index i4 = true
is_index native = true
is_index i8 = false
is_index float = false
is_index null = false
is_index (ref t) = false
is_index (boxed t) = false
is_index (val t) = false
is_index (ptr t) = false
is_index bad = false

-- an object reference
abbrev pub is_object : Stack → Bool
is_object null = true
is_object (ref t) = true
is_object (boxed t) = true
is_object i4 = false
is_object i8 = false
is_object native = false
is_object float = false
is_object (val t) = false
is_object (ptr t) = false
is_object bad = false

abbrev pub is_pointer : Stack → Bool
is_pointer (ptr t) = true
is_pointer i4 = false
is_pointer i8 = false
is_pointer native = false
is_pointer float = false
is_pointer null = false
is_pointer (ref t) = false
is_pointer (boxed t) = false
is_pointer (val t) = false
is_pointer bad = false

-- ---- what is behind a pointer and in a vector

abbrev pub if_reference : SigType → Option SigType
if_reference t = if is_reference t then Some t else None

-- the type behind a managed pointer, where it is a reference type
abbrev pub referent : Stack → Option SigType
referent (ptr t) = if_reference t
referent i4 = None
referent i8 = None
referent native = None
referent float = None
referent null = None
referent (ref t) = None
referent (boxed t) = None
referent (val t) = None
referent bad = None

-- the element of a vector
abbrev pub element : Stack → Option SigType
element s = vector_element s

abbrev pub if_references : Option SigType → Option SigType
if_references None = None
if_references (Some t) = if_reference t

-- the element of a vector of a reference type
abbrev pub object_element : Stack → Option SigType
object_element s = if_references (element s)

-- ---- demands on one operand

pub data Demand : Type 0 where
  -- nothing: where the variable is missing that would say what
  nothing : Demand
  -- every kind but Bad
  any : Demand
  number : Demand
  integer : Demand
  index : Demand
  object : Demand
  -- what is tested for null, zero or false
  condition : Demand
  -- what may be one of a pair: a number, an object reference or a pointer
  comparable : Demand
  -- that type
  exactly : Stack → Demand
  -- one of the two
  one_of : Stack → Stack → Demand
  -- a type that is assignable to it
  to : Stack → Demand
  -- a managed pointer to a reference type
  object_pointer : Demand
  -- null or a vector
  vector : Demand
  -- null or a vector of elements with that verification type
  vector_of : SigType → Demand
  -- null or a vector of a reference type
  object_vector : Demand

-- null, or with an element for which that holds
abbrev pub NullOr : Stack → (SigType → Type 0) → Option SigType → Type 0
NullOr s P None = s ≡ null
NullOr s P (Some t) = P t

-- an operand meets a demand
abbrev pub Meets : Hierarchy → Demand → Stack → Type 0
Meets w nothing s = Unit {0}
Meets w any s = s ≡ bad → ⊥
Meets w number s = IsTrue (is_number s)
Meets w integer s = IsTrue (is_integer s)
Meets w index s = IsTrue (is_index s)
Meets w object s = IsTrue (is_object s)
Meets w condition s = IsTrue (is_integer s || is_object s || is_pointer s)
Meets w comparable s = IsTrue (is_number s || is_object s || is_pointer s)
Meets w (exactly t) s = s ≡ t
Meets w (one_of t u) s = (s ≡ t) ⊎ (s ≡ u)
Meets w (to t) s = Assignable w s t
Meets w object_pointer s = IsTrue (is_some (referent s))
Meets w vector s = NullOr s (λ e. Unit {0}) (element s)
Meets w (vector_of t) s = NullOr s (λ e. verification_type w e ≡ t) (element s)
Meets w object_vector s = NullOr s (λ e. IsTrue (is_reference e)) (element s)

-- an operand isn't of the kind demanded. Every kind but Bad is one for an assignable operand
abbrev pub HasWrongKind : Hierarchy → Demand → Stack → Type 0
HasWrongKind w (to t) s = s ≡ bad
HasWrongKind w nothing s = ⊥
HasWrongKind w any s = Meets w any s → ⊥
HasWrongKind w number s = Meets w number s → ⊥
HasWrongKind w integer s = Meets w integer s → ⊥
HasWrongKind w index s = Meets w index s → ⊥
HasWrongKind w object s = Meets w object s → ⊥
HasWrongKind w condition s = Meets w condition s → ⊥
HasWrongKind w comparable s = Meets w comparable s → ⊥
HasWrongKind w (exactly t) s = Meets w (exactly t) s → ⊥
HasWrongKind w (one_of t u) s = Meets w (one_of t u) s → ⊥
HasWrongKind w object_pointer s = Meets w object_pointer s → ⊥
HasWrongKind w vector s = Meets w vector s → ⊥
HasWrongKind w (vector_of t) s = Meets w (vector_of t) s → ⊥
HasWrongKind w object_vector s = Meets w object_vector s → ⊥

-- an operand is of the kind demanded, and isn't assignable to what is
pub record IsUnassignable (w : Hierarchy) (t s : Stack) : Type 0 where
  pub kind : s ≡ bad → ⊥
  pub fails : Assignable w s t → ⊥

abbrev pub FailsToAssign : Hierarchy → Demand → Stack → Type 0
FailsToAssign w (to t) s = IsUnassignable w t s
FailsToAssign w nothing s = ⊥
FailsToAssign w any s = ⊥
FailsToAssign w number s = ⊥
FailsToAssign w integer s = ⊥
FailsToAssign w index s = ⊥
FailsToAssign w object s = ⊥
FailsToAssign w condition s = ⊥
FailsToAssign w comparable s = ⊥
FailsToAssign w (exactly t) s = ⊥
FailsToAssign w (one_of t u) s = ⊥
FailsToAssign w object_pointer s = ⊥
FailsToAssign w vector s = ⊥
FailsToAssign w (vector_of t) s = ⊥
FailsToAssign w object_vector s = ⊥

-- ---- pairs (III.1.5, the tables of binary numeric and comparison operations)

-- the type of a numeric operation on two numbers; none where they don't go together
abbrev pub arithmetic : Stack → Stack → Option Stack
arithmetic i4 i4 = Some i4
arithmetic i8 i8 = Some i8
arithmetic native native = Some native
arithmetic native i4 = Some native
arithmetic i4 native = Some native
arithmetic float float = Some float
arithmetic s t = None

pub data Pairing : Type 0 where
  -- numeric operations
  numeric : Pairing
  -- those on integers
  integral : Pairing
  -- comparisons for being equal
  equality : Pairing
  -- the other comparisons
  ordering : Pairing

-- whether two operands go together
abbrev pub go_together : Pairing → Stack → Stack → Bool
go_together numeric s t = is_some (arithmetic s t)
go_together integral s t = is_integer s && is_some (arithmetic s t)
go_together equality s t = is_some (arithmetic s t) || (is_object s && is_object t) || (is_pointer s && is_pointer t)
go_together ordering s t = is_some (arithmetic s t) || (is_pointer s && is_pointer t)

abbrev pub or_bad : Option Stack → Stack
or_bad None = bad
or_bad (Some s) = s

-- what a numeric operation leaves
abbrev pub outcome : Pairing → Stack → Stack → Stack
outcome p s t = if go_together p s t then or_bad (arithmetic s t) else bad

-- ---- demands on operands together

pub data Together : Type 0 where
  -- none
  apart : Together
  -- the two are a pair
  paired : Pairing → Together
  -- the second is assignable to what the first points to
  stored : Together

abbrev pub first : List Stack → Stack
first operands = get_or operands 0 bad

abbrev pub second : List Stack → Stack
second operands = get_or operands 1 bad

abbrev pub StoredIn : Hierarchy → Stack → Option SigType → Type 0
StoredIn w s None = ⊥
StoredIn w s (Some t) = Assignable w s (ref t)

abbrev pub MeetTogether : Hierarchy → Together → List Stack → Type 0
MeetTogether w apart operands = Unit {0}
MeetTogether w (paired p) operands = IsTrue (go_together p (first operands) (second operands))
MeetTogether w stored operands = StoredIn w (second operands) (referent (first operands))

-- the operands are fit to be a pair and don't go together
pub record IsMismatch (w : Hierarchy) (p : Pairing) (operands : List Stack) : Type 0 where
  pub left : Meets w comparable (first operands)
  pub right : Meets w comparable (second operands)
  pub fails : IsTrue (go_together p (first operands) (second operands)) → ⊥

abbrev pub AreMismatched : Hierarchy → Together → List Stack → Type 0
AreMismatched w apart operands = ⊥
AreMismatched w (paired p) operands = IsMismatch w p operands
AreMismatched w stored operands = ⊥

-- the second is of any kind but Bad, and isn't assignable to what the first, a pointer to a reference type, points to
abbrev pub NotStored : Hierarchy → Stack → Option SigType → Type 0
NotStored w s None = ⊥
NotStored w s (Some t) = IsUnassignable w (ref t) s

abbrev pub FailToStore : Hierarchy → Together → List Stack → Type 0
FailToStore w apart operands = ⊥
FailToStore w (paired p) operands = ⊥
FailToStore w stored operands = NotStored w (second operands) (referent (first operands))
