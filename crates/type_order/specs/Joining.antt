-- How the join of two values of a pool is found.
use Rattle.std.specs.Prelude.{Bool, true, false, if◌then◌else◌, List, length, Option, None, Some}
use Rattle.sig_pool.specs.declared.node.Node.{Node}
use Rattle.type_hierarchy.specs.declared.stack_type.StackType.{StackType}
use Rattle.type_hierarchy.specs.declared.stack_type.StackType.TheVariants.{I4, I8, N, F, Null, Ref, Boxed, Val, Ptr, Bad}
use Rattle.type_hierarchy.specs.Hierarchy.{Hierarchy}
use Rattle.type_hierarchy.specs.Meaning.{meant, IsWithin}
use Rattle.type_hierarchy.specs.Relations.{IsJoin}

-- a reference or boxed value
abbrev pub as_object : StackType → Option StackType
as_object (Ref k) = Some (Ref k)
as_object (Boxed k) = Some (Boxed k)
as_object I4 = None
as_object I8 = None
as_object N = None
as_object F = None
as_object Null = None
as_object (Val k) = None
as_object (Ptr k) = None
as_object Bad = None

abbrev pub is_null : StackType → Bool
is_null Null = true
is_null I4 = false
is_null I8 = false
is_null N = false
is_null F = false
is_null (Ref k) = false
is_null (Boxed k) = false
is_null (Val k) = false
is_null (Ptr k) = false
is_null Bad = false

-- the reference or boxed value beside null
abbrev pub beside_null : StackType → StackType → Option StackType
beside_null s t = if is_null s then as_object t else if is_null t then as_object s else None

-- `j` is a value of the pool `ms` that means the join of what `s` and `t` mean in the pool `ns`
pub record JoinsAs (w : Hierarchy) (ns : List Node) (s t : StackType) (ms : List Node) (j : StackType) : Type 0 where
  pub within : IsWithin (length ms) j
  pub is : IsJoin w (meant ns s) (meant ns t) (meant ms j)
