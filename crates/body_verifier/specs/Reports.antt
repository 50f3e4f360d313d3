-- The failures of a method, and of an assembly.
use Rattle.std.specs.Prelude.{◌≡◌, ℕ, ◌+◌, ◌<◌, ◌≤◌, nat_lt, Bool, false, not, ◌&&◌, List, [], ◌∷◌, ◌++◌, map, length, Some, IsTrue}
use Rattle.assembly_tree.specs.declared.assembly.Assembly.{Assembly}
use Rattle.assembly_tree.specs.declared.body.Body.{Body}
use Rattle.assembly_tree.specs.declared.typedef.MethodPath.{MethodPath}
use Rattle.assembly_tree.specs.WellFormedBodies.{offset_of}
use Rattle.type_hierarchy.specs.Hierarchy.{Hierarchy}
use Rattle.body_verifier.specs.declared.report.Broken.{Broken}
use Rattle.body_verifier.specs.declared.report.Failure.{Failure}
use Rattle.code_flow.specs.Methods.{Declared, method_at, all_methods}
use Rattle.code_flow.specs.Frames.{Frame, frame}
use Rattle.code_flow.specs.Blocks.{ClausesNest}
use Rattle.code_flow.specs.Typings.{Typing, IsLeast}
use Rattle.code_flow.specs.Rules.{BreaksFirst}

-- ---- the instructions of a body

abbrev pub IsBroken : Frame → Typing → Broken → Type 0
IsBroken f typing b = BreaksFirst f typing b.at b.rule

-- the instructions that break a rule, each with the first, from instruction `k` on in order
pub data Lists (f : Frame) (typing : Typing) : ℕ → List Broken → Type 0 where
  none_more : {k : ℕ} → ((j rule : ℕ) → k ≤ j → j < length f.code → BreaksFirst f typing j rule → ⊥) → Lists f typing k []
  next : {k at rule : ℕ} {more : List Broken} → k ≤ at → at < length f.code → BreaksFirst f typing at rule →
      ((j r : ℕ) → k ≤ j → j < at → BreaksFirst f typing j r → ⊥) → Lists f typing (at + 1) more →
      Lists f typing k (record { at = at; rule = rule } ∷ more)

-- ---- a method

-- locals without init
abbrev pub is_uninitialised : Body → Bool
is_uninitialised b = not b.init && nat_lt 0 (length b.locals)

-- The failures of a method. Clauses that don't nest (V16), locals without init (V20) and a signature that states the type of
-- `this` (V18) are each its only one, at its first instruction.
pub data Fails (a : Assembly) (w : Hierarchy) (d : Declared) (b : Body) : List Broken → Type 0 where
  unnested : (ClausesNest b.clauses → ⊥) → Fails a w d b (record { at = 0; rule = 16 } ∷ [])
  uninitialised : ClausesNest b.clauses → IsTrue (is_uninitialised b) → Fails a w d b (record { at = 0; rule = 20 } ∷ [])
  explicit : ClausesNest b.clauses → is_uninitialised b ≡ false → IsTrue d.method.sig.explicit_this → Fails a w d b (record { at = 0; rule = 18 } ∷ [])
  typed : {broken : List Broken} {typing : Typing} → ClausesNest b.clauses → is_uninitialised b ≡ false → d.method.sig.explicit_this ≡ false →
      IsLeast (frame a w d b) typing → Lists (frame a w d b) typing 0 broken → Fails a w d b broken

-- a failure as it is reported: the method's place, and where the instruction begins in its code
abbrev pub reported : MethodPath → Body → Broken → Failure
reported path b x = record { method = path; offset = offset_of b.code x.at; rule = x.rule }

-- the method at a place has a body, and these are its failures
pub record Reports (a : Assembly) (w : Hierarchy) (path : MethodPath) (failures : List Failure) : Type 0 where
  pub declared : Declared
  pub body : Body
  pub broken : List Broken
  pub is : method_at a path ≡ Some declared
  pub has : declared.method.body ≡ Some body
  pub fails : Fails a w declared body broken
  pub all : failures ≡ map (reported path body) broken

-- ---- an assembly

-- the failures of methods, one after the other
pub data ReportsEach (a : Assembly) (w : Hierarchy) : List MethodPath → List Failure → Type 0 where
  no_methods : ReportsEach a w [] []
  method : {path : MethodPath} {paths : List MethodPath} {failures more : List Failure} →
      Reports a w path failures → ReportsEach a w paths more → ReportsEach a w (path ∷ paths) (failures ++ more)

-- those of `<Module>`, and then those of the types in preorder
abbrev pub ReportsAll : Assembly → Hierarchy → List Failure → Type 0
ReportsAll a w failures = ReportsEach a w (all_methods a) failures
