-- What the calls on keys and names answer.
use Rattle.std.specs.Prelude.{Bool, ℕ, Option, None, Some}
use Rattle.type_terms.specs.declared.name.TypeName.{TypeName}
use Rattle.type_terms.specs.declared.term.SigType.{SigType}
use Rattle.type_hierarchy.specs.Hierarchy.{Hierarchy, Elements, elements}
use Rattle.type_hierarchy.specs.Normal.{Reading}
use Rattle.type_hierarchy.specs.Stack.{Stack, i4, i8, native, float, null, ref, boxed, val, ptr, bad}

-- how types of the image are normalised
abbrev pub reading_of : Hierarchy → Reading
reading_of w = record { core = w.core; scope = w.scope; is_value = w.is_value }

-- whether a name of the image is a value type
abbrev pub is_value_name : Hierarchy → TypeName → Bool
is_value_name w name = w.is_value (record { scope = w.scope name.scope; path = name.path })

abbrev pub without_rank : Option ℕ → SigType → Option SigType
without_rank None t = Some t
without_rank (Some rank) t = None

abbrev pub vector_elements : Option Elements → Option SigType
vector_elements None = None
vector_elements (Some e) = without_rank e.rank e.of

-- the element of a reference to a vector
abbrev pub vector_element : Stack → Option SigType
vector_element (ref t) = vector_elements (elements t)
vector_element (boxed t) = None
vector_element i4 = None
vector_element i8 = None
vector_element native = None
vector_element float = None
vector_element null = None
vector_element (val t) = None
vector_element (ptr t) = None
vector_element bad = None
