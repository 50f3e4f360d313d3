-- How the first rule is found that an instruction breaks.
use Rattle.std.specs.Prelude.{◌≡◌, ◌⊎◌, ◌↔◌, ℕ, ◌+◌, ◌<◌, Bool, true, false, ◌&&◌, ◌||◌, List, [], ◌∷◌, length, get_or, Option, None, Some, IsTrue}
use Rattle.std.specs.List.{Contains}
use Rattle.assembly_tree.specs.declared.body.Clause.{Clause}
use Rattle.type_hierarchy.specs.Hierarchy.{Hierarchy}
use Rattle.type_hierarchy.specs.Stack.{Stack}
use Rattle.body_verifier.specs.declared.judging.StackBreaks.{StackBreaks}
use Rattle.body_verifier.specs.declared.judging.CodeBreaks.{CodeBreaks}
use Rattle.code_flow.specs.declared.operation.Operation.{Operation}
use Rattle.code_flow.specs.declared.operation.Operation.TheVariants as does
use Rattle.stack_states.specs.Asking.{HasWrongOperand, FailsToFit, IsMismatched}
use Rattle.code_flow.specs.CodeRules.{RunsOff, LacksLocal, LacksArgument, ReturnsInside, BranchesAcross, FallsAcross, IsMisplaced, IsUnverified}
use Rattle.code_flow.specs.Effects.{effect}
use Rattle.code_flow.specs.Frames.{Frame}
use Rattle.body_verifier.specs.Judging.{Misfits, HasUnfitPrefix, PointsToReference}
use Rattle.code_flow.specs.Rows.{Row}
use Rattle.code_flow.specs.Rules.{BreaksFirst}
use Rattle.code_flow.specs.Typings.{Typing}

-- each is true exactly where that rule is broken by the stack
pub record AreStackBreaks (w : Hierarchy) (bound : ℕ) (r : Row) (s : List Stack) (b : StackBreaks) : Type 0 where
  pub few : IsTrue b.too_few ↔ (length s < length r.operands)
  pub deep : IsTrue b.too_deep ↔ ((bound < length s) ⊎ (bound < length (effect r s)))
  pub kinds : IsTrue b.wrong ↔ HasWrongOperand w r s
  pub fits : IsTrue b.unfit ↔ FailsToFit w r s
  pub pairs : IsTrue b.mismatched ↔ IsMismatched w r s
  pub above : IsTrue b.more ↔ (length r.operands < length s)
  pub filled : IsTrue b.full ↔ (s ≡ [] → ⊥)

-- a try begins at an instruction
pub record TryBegins (f : Frame) (k : ℕ) : Type 0 where
  pub clause : Clause
  pub is : Contains f.clauses clause
  pub begins : clause.try_start ≡ k

-- each is true exactly where that rule is broken, whatever the stack is
pub record AreCodeBreaks (f : Frame) (k : ℕ) (b : CodeBreaks) : Type 0 where
  pub off : IsTrue b.runs_off ↔ RunsOff f k
  pub local : IsTrue b.lacks_local ↔ LacksLocal f k
  pub argument : IsTrue b.lacks_argument ↔ LacksArgument f k
  pub member : IsTrue b.misfits ↔ Misfits f k
  pub inside : IsTrue b.returns_inside ↔ ReturnsInside f k
  pub branch : IsTrue b.branches_across ↔ BranchesAcross f k
  pub fall : IsTrue b.falls_across ↔ FallsAcross f k
  pub enters : IsTrue b.enters_try ↔ TryBegins f k
  pub place : IsTrue b.misplaced ↔ IsMisplaced f k
  pub prefix : IsTrue b.unfit_prefix ↔ HasUnfitPrefix f k
  pub never : IsTrue b.unverified ↔ IsUnverified f k
  pub pointer : IsTrue b.points_to_reference ↔ PointsToReference f k

abbrev pub is_return : Operation → Bool
is_return does.Return = true
is_return o = false

abbrev pub is_filter_end : Operation → Bool
is_filter_end does.EndFilter = true
is_filter_end o = false

-- whether each rule is broken, from V1 on, where V2 and V16 aren't
abbrev pub tests_of : StackBreaks → CodeBreaks → Operation → List Bool
tests_of s c o =
    s.too_few ∷ false ∷ s.too_deep ∷ s.wrong ∷ s.unfit ∷ c.runs_off ∷ s.mismatched ∷ c.lacks_local ∷ c.lacks_argument ∷ c.misfits
    ∷ ((is_return o && s.more) || c.returns_inside) ∷ c.branches_across ∷ c.falls_across ∷ (c.enters_try && s.full)
    ∷ (c.misplaced || (is_filter_end o && s.more)) ∷ false ∷ c.unfit_prefix ∷ c.unverified ∷ c.points_to_reference ∷ []

-- the place of the first `true`, counted from 1
pub record IsFirstAt (tests : List Bool) (number : ℕ) : Type 0 where
  pub place : ℕ
  pub is : number ≡ place + 1
  pub holds : get_or tests place false ≡ true
  pub first : (k : ℕ) → k < place → get_or tests k false ≡ false

abbrev pub IsFirst : List Bool → Option ℕ → Type 0
IsFirst tests None = (k : ℕ) → k < length tests → get_or tests k false ≡ false
IsFirst tests (Some number) = IsFirstAt tests number

-- the first rule that an instruction breaks, or none
abbrev pub Judges : Frame → Typing → ℕ → Option ℕ → Type 0
Judges f typing k None = (rule : ℕ) → BreaksFirst f typing k rule → ⊥
Judges f typing k (Some rule) = BreaksFirst f typing k rule
