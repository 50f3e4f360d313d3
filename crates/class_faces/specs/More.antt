-- Interfaces that come to those of a parent.
use Rattle.std.specs.Prelude.{◌⊎◌, ℕ, Bool, List, [], Option, None, Some, IsTrue}
use Rattle.type_terms.specs.declared.term.SigType.{SigType}
use Rattle.assembly_tree.specs.declared.assembly.Assembly.{Assembly}
use Rattle.sig_pool.specs.declared.node.Node.{Node}
use Rattle.type_hierarchy.specs.Hierarchy.{Hierarchy}
use Rattle.type_hierarchy.specs.Queues.{HasType, UpFromSome}
use Rattle.class_faces.specs.declared.faces.Faces.{Faces}
use Rattle.class_faces.specs.Ids.{AreIds}
use Rattle.class_faces.specs.Marked.{is_face, is_overriding}

abbrev pub all_of : Option Faces → List ℕ
all_of None = []
all_of (Some f) = f.all

abbrev pub overriding_of : Option Faces → List ℕ
overriding_of None = []
overriding_of (Some f) = f.overriding

-- one of the types of `old`, or a type that passes among those of `own` and what lies above these
abbrev pub IsOneMore : (SigType → Bool) → Hierarchy → List Node → List ℕ → List ℕ → SigType → Type 0
IsOneMore test w ns old own t = HasType ns old t ⊎ (UpFromSome w ns own t × IsTrue (test t))

-- the interfaces of `above`, and those among the types of `own` and what lies above these
pub record AreMore (a : Assembly) (w : Hierarchy) (ns ms : List Node) (own : List ℕ) (above : Option Faces) (f : Faces) : Type 0 where
  pub all : AreIds ms (IsOneMore (is_face a w) w ns (all_of above) own) f.all
  pub overriding : AreIds ms (IsOneMore (is_overriding a w) w ns (overriding_of above) own) f.overriding
