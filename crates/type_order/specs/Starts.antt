-- Where the reference types above a stack type begin, and the parent of a stack type.
use Rattle.std.specs.Prelude.{Option, None, Some}
use Rattle.std.specs.Option.{option_map}
use Rattle.type_terms.specs.declared.term.SigType.{SigType}
use Rattle.type_hierarchy.specs.Hierarchy.{Hierarchy, parent}
use Rattle.type_hierarchy.specs.Stack.{Stack, i4, i8, native, float, null, ref, boxed, val, ptr, bad}

-- above a reference its own type is the first, and above a boxed value the parent
abbrev pub start : Hierarchy → Stack → Option SigType
start w (ref t) = Some t
start w (boxed t) = parent w t
start w i4 = None
start w i8 = None
start w native = None
start w float = None
start w null = None
start w (val t) = None
start w (ptr t) = None
start w bad = None

-- of a reference and of a boxed value: a reference to the parent, where its type has one
abbrev pub stack_parent : Hierarchy → Stack → Option Stack
stack_parent w (ref t) = option_map ref (parent w t)
stack_parent w (boxed t) = option_map ref (parent w t)
stack_parent w i4 = None
stack_parent w i8 = None
stack_parent w native = None
stack_parent w float = None
stack_parent w null = None
stack_parent w (val t) = None
stack_parent w (ptr t) = None
stack_parent w bad = None
