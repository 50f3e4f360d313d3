-- What the check of a method asks for.
use Rattle.std.specs.Prelude.{◌≡◌, ℕ, zero, suc, ◌+◌, ◌^◌, ◌≤◌, false, List, [], ◌∷◌, length, map, Option, None, Some, IsTrue}
use Rattle.std.specs.Option.{option_map}
use Rattle.type_terms.specs.declared.term.SigType.{SigType}
use Rattle.assembly_tree.specs.declared.assembly.Assembly.{Assembly}
use Rattle.assembly_tree.specs.declared.body.Body.{Body}
use Rattle.assembly_tree.specs.declared.members.Method.{Method}
use Rattle.assembly_tree.specs.declared.typedef.MethodPath.{MethodPath}
use Rattle.sig_pool.specs.declared.node.Node.{Node}
use Rattle.type_hierarchy.specs.Ancestors.{all_declared}
use Rattle.type_hierarchy.specs.Hierarchy.{Hierarchy, parent}
use Rattle.type_hierarchy.specs.Scopes.{Sources}
use Rattle.code_flow.specs.declared.blocks.Spans.{Spans}
use Rattle.stack_rows.specs.declared.frame.CodeFrame.{CodeFrame}
use Rattle.body_verifier.specs.declared.report.Broken.{Broken}
use Rattle.code_flow.specs.BlockTests.{spans_of}
use Rattle.code_flow.specs.Blocks.{ClausesNest}
use Rattle.code_flow.specs.Frames.{Frame}
use Rattle.code_flow.specs.Laws.{IsFormed}
use Rattle.code_flow.specs.Methods.{Declared, method_at}
use Rattle.body_verifier.specs.Reports.{Lists, is_uninitialised}
use Rattle.stack_rows.specs.RowMeanings.{MeansFrame}
use Rattle.body_verifier.specs.StepBound.{height}
use Rattle.code_flow.specs.Typings.{Typing, IsLeast}
use Rattle.body_verifier.specs.Ways.{Setup}

-- the method at a place is `d`, and its body is `b`
pub record HasBody (a : Assembly) (path : MethodPath) (d : Declared) (b : Body) : Type 0 where
  pub is : method_at a path ≡ Some d
  pub has : d.method.body ≡ Some b

-- the place is that of a method with a body
abbrev pub LeadsToBody : Assembly → MethodPath → Type 0
LeadsToBody a path = (d : Declared) × (b : Body) × HasBody a path d b

-- ---- what a check goes by

abbrev pub one_more : Option ℕ → ℕ
one_more None = 0
one_more (Some n) = n + 1

-- how many types lie above one, as far as `n` of them
unfoldable pub above : Hierarchy → ℕ → SigType → ℕ
above w zero t = 0
above w (suc n) t = one_more (option_map (above w n) (parent w t))

-- no type has more types above it than the assemblies declare and four
abbrev pub setup : Sources → Frame → Setup
setup s f = record { frame = f; height = above f.types (length (all_declared s) + 4); top = height s }

-- ---- the rules of a whole body

-- the clauses nest (V16), locals have init (V20), and the signature doesn't state the type of `this` (V18)
pub record IsWhole (m : Method) (b : Body) : Type 0 where
  pub nest : ClausesNest b.clauses
  pub initialised : is_uninitialised b ≡ false
  pub implicit : m.sig.explicit_this ≡ false

-- the first of these rules that is broken
pub data BreaksWhole (m : Method) (b : Body) : ℕ → Type 0 where
  unnested : (ClausesNest b.clauses → ⊥) → BreaksWhole m b 16
  uninitialised : ClausesNest b.clauses → IsTrue (is_uninitialised b) → BreaksWhole m b 20
  explicit : ClausesNest b.clauses → is_uninitialised b ≡ false → IsTrue m.sig.explicit_this → BreaksWhole m b 18

abbrev pub IsWholeRule : Method → Body → Option ℕ → Type 0
IsWholeRule m b None = IsWhole m b
IsWholeRule m b (Some rule) = BreaksWhole m b rule

-- ---- the instructions of a body

-- the frame of a body, with the keys of its types
pub record IsFrameOf (f : Frame) (a : Assembly) (ns : List Node) (v : CodeFrame) (b : Body) (clauses : List Spans) : Type 0 where
  pub image : f.image ≡ a
  pub variables : MeansFrame ns v f
  pub code : f.code ≡ b.code
  pub spans : clauses ≡ map spans_of f.clauses
  pub bound : f.bound ≡ b.bound

-- what a body is checked by: its frame, with as few instructions, clauses and types as a fit assembly has
pub record IsReady (at : Setup) (b : Body) (ranges : List Spans) : Type 0 where
  pub code : at.frame.code ≡ b.code
  pub clauses : at.frame.clauses ≡ b.clauses
  pub spans : ranges ≡ map spans_of b.clauses
  pub formed : IsFormed at.frame
  pub nest : ClausesNest at.frame.clauses
  pub short : length at.frame.code ≤ 2 ^ 22
  pub few : length at.frame.clauses ≤ 2 ^ 20
  pub low : at.top ≤ 2 ^ 24

-- the instructions that break a rule in the least typing, in order
pub record AreBroken (f : Frame) (broken : List Broken) : Type 0 where
  pub typing : Typing
  pub least : IsLeast f typing
  pub lists : Lists f typing 0 broken

-- instruction `k`, if it breaks a rule
abbrev pub broken_at : ℕ → Option ℕ → List Broken
broken_at k None = []
broken_at k (Some rule) = record { at = k; rule = rule } ∷ []
