-- Single paths through a body with the types that values really have there (ECMA-335 I.12.3.2, III.1.5): nothing is merged,
-- and a value may have any type that may stand where its type is stated.
use Rattle.std.specs.Prelude.{◌≡◌, ℕ, ◌<◌, ◌≤◌, List, [], length, get_or, slice_get, Some, IsTrue}
use Rattle.type_terms.specs.declared.term.SigType.{SigType}
use Rattle.assembly_tree.specs.declared.body.Ins.{Ins}
use Rattle.type_hierarchy.specs.Hierarchy.{Hierarchy}
use Rattle.type_hierarchy.specs.Stack.{Stack, bad}
use Rattle.type_hierarchy.specs.Relations.{Assignable}
use Rattle.code_flow.specs.declared.operation.Operation.{Operation}
use Rattle.code_flow.specs.declared.operation.Operation.TheVariants as does
use Rattle.code_flow.specs.Stacks.{Each}
use Rattle.code_flow.specs.Frames.{Frame}
use Rattle.code_flow.specs.Demands.{Demand, Meets, MeetTogether}
use Rattle.code_flow.specs.Rows.{Row, row_of}
use Rattle.code_flow.specs.Effects.{taken, results, left_with}
use Rattle.code_flow.specs.Edges.{Carries, flowing, stated, Does, Edge}
use Rattle.code_flow.specs.Rules.{addressed, is_by_reference}

-- where control is, and the types of the values on the stack, the first that was pushed first
pub record Point : Type 0 where
  pub at : ℕ
  pub stack : List Stack

-- ---- what goes wrong (III.3, III.4: what the instructions ask of the stack, and of the variable whose address is taken)

-- each operand meets its demand, and all together do
pub record AreMet (f : Frame) (r : Row) (operands : List Stack) : Type 0 where
  pub each : (n : ℕ) (d : Demand) → slice_get r.operands n ≡ Some d → Meets f.types d (get_or operands n bad)
  pub together : MeetTogether f.types r.together operands

pub data IsWrong (f : Frame) (p : Point) : Type 0 where
  past : length f.code ≤ p.at → IsWrong f p
  too_few : {i : Ins} → slice_get f.code p.at ≡ Some i → length p.stack < length (row_of f p.at i).operands → IsWrong f p
  unmet : {i : Ins} → slice_get f.code p.at ≡ Some i → (AreMet f (row_of f p.at i) (taken (row_of f p.at i) p.stack) → ⊥) → IsWrong f p
  -- `ret` and `endfilter` leave nothing behind on the stack
  returns_more : {i : Ins} → Does f p.at does.Return i → length (row_of f p.at i).operands < length p.stack → IsWrong f p
  filters_more : {i : Ins} → Does f p.at does.EndFilter i → length (row_of f p.at i).operands < length p.stack → IsWrong f p
  -- a pointer doesn't lead to a pointer
  by_reference : {i : Ins} {o : Operation} {t : SigType} → Does f p.at o i → addressed f i o ≡ Some t → IsTrue (is_by_reference t) → IsWrong f p

-- ---- steps

-- a value of the first type may stand where the second is stated; where Bad is stated it is Bad
pub data StandsFor (w : Hierarchy) : Stack → Stack → Type 0 where
  for_bad : StandsFor w bad bad
  assigned : {s t : Stack} → Assignable w s t → StandsFor w s t

abbrev pub StandFor : Hierarchy → List Stack → List Stack → Type 0
StandFor w s t = Each (StandsFor w) s t

-- the stack after an instruction, whose results are these values
pub record Flows (f : Frame) (r : Row) (before after : List Stack) : Type 0 where
  pub values : List Stack
  pub stand : StandFor f.types values (results r before)
  pub is : after ≡ left_with r before values

abbrev pub Becomes : Frame → Ins → Point → Carries → List Stack → Type 0
Becomes f i p flowing after = Flows f (row_of f p.at i) p.stack after
Becomes f i p (stated s) after = StandFor f.types after s

-- one step: along an edge from a point that isn't wrong
pub record Steps (f : Frame) (p q : Point) : Type 0 where
  pub right : IsWrong f p → ⊥
  pub ins : Ins
  pub is : slice_get f.code p.at ≡ Some ins
  pub carries : Carries
  pub edge : Edge f p.at q.at carries
  pub becomes : Becomes f ins p carries q.stack

-- what is reached from the body's start
pub data Reaches (f : Frame) : Point → Type 0 where
  start : Reaches f (record { at = 0; stack = [] })
  step : {p q : Point} → Reaches f p → Steps f p q → Reaches f q

-- no path goes wrong
abbrev pub NeverWrong : Frame → Type 0
NeverWrong f = (p : Point) → Reaches f p → IsWrong f p → ⊥
