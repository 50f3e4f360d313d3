-- What the stack types of the code mean in a pool.
use Rattle.std.specs.Prelude.{◌≡◌, ℕ, ◌<◌, Bool, true, false, List, length, Option, None, Some}
use Rattle.sig_pool.specs.declared.node.Node.{Node}
use Rattle.sig_pool.specs.Terms.{term_of}
use Rattle.type_hierarchy.specs.Stack as stack
use Rattle.type_hierarchy.specs.declared.stack_type.StackType.{StackType}
use Rattle.type_hierarchy.specs.declared.stack_type.StackType.TheVariants.{I4, I8, N, F, Null, Ref, Boxed, Val, Ptr, Bad}

-- the stack type that a value means
abbrev pub meant : List Node → StackType → stack.Stack
meant ns I4 = stack.i4
meant ns I8 = stack.i8
meant ns N = stack.native
meant ns F = stack.float
meant ns Null = stack.null
meant ns (Ref k) = stack.ref (term_of ns k)
meant ns (Boxed k) = stack.boxed (term_of ns k)
meant ns (Val k) = stack.val (term_of ns k)
meant ns (Ptr k) = stack.ptr (term_of ns k)
meant ns Bad = stack.bad

-- its key is one of the pool's
abbrev pub IsWithin : ℕ → StackType → Type 0
IsWithin n I4 = Unit {0}
IsWithin n I8 = Unit {0}
IsWithin n N = Unit {0}
IsWithin n F = Unit {0}
IsWithin n Null = Unit {0}
IsWithin n (Ref k) = k < n
IsWithin n (Boxed k) = k < n
IsWithin n (Val k) = k < n
IsWithin n (Ptr k) = k < n
IsWithin n Bad = Unit {0}

-- `s` is a value of the pool that means `x`
pub record Means (ns : List Node) (s : StackType) (x : stack.Stack) : Type 0 where
  pub within : IsWithin (length ns) s
  pub is : meant ns s ≡ x

-- an instantiation on the stack, by whether it is a value type
abbrev pub instance_type : Bool → ℕ → StackType
instance_type true id = Val id
instance_type false id = Ref id

-- a value of the pool that means `x`, or none where there is none
abbrev pub MeansOption : List Node → Option StackType → Option stack.Stack → Type 0
MeansOption ns None x = x ≡ None
MeansOption ns (Some s) x = (y : stack.Stack) × (x ≡ Some y) × Means ns s y
