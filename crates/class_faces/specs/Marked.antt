-- The interfaces among types.
use Rattle.std.specs.Prelude.{◌↔◌, ℕ, ◌&&◌, Bool, not, ◌==◌, List, length, IsTrue}
use Rattle.std.specs.List.{Contains, list_any}
use Rattle.assembly_tree.specs.declared.assembly.Assembly.{Assembly}
use Rattle.assembly_tree.specs.declared.members.Method.{Method}
use Rattle.type_terms.specs.declared.term.SigType.{SigType}
use Rattle.sig_pool.specs.declared.node.Node.{Node}
use Rattle.sig_pool.specs.Terms.{term_of}
use Rattle.type_hierarchy.specs.Hierarchy.{Hierarchy}
use Rattle.class_model.specs.Classes.{declaration}
use Rattle.class_model.specs.Slots.{is_interface_type, methods_in}
use Rattle.class_faces.specs.declared.faces.Faces.{Faces}

-- whether a method is given as the body of another
abbrev pub overrides_some : Method → Bool
overrides_some m = not (length m.overrides == 0)

abbrev pub is_face : Assembly → Hierarchy → SigType → Bool
is_face a w t = is_interface_type (declaration a w t)

-- whether a type is an interface with such a method
abbrev pub is_overriding : Assembly → Hierarchy → SigType → Bool
is_overriding a w t = is_face a w t && list_any overrides_some (methods_in a w t)

-- the ids whose types pass a test
abbrev pub ArePassing : (SigType → Bool) → List Node → List ℕ → List ℕ → Type 0
ArePassing test ns ids passing = (k : ℕ) → Contains passing k ↔ (Contains ids k × IsTrue (test (term_of ns k)))

-- the interfaces among these types, and those of them that override methods
pub record AreAmong (a : Assembly) (w : Hierarchy) (ns : List Node) (ids : List ℕ) (f : Faces) : Type 0 where
  pub all : ArePassing (is_face a w) ns ids f.all
  pub overriding : ArePassing (is_overriding a w) ns ids f.overriding
