-- Laws of demands and effects, and of least typings, over every hierarchy in which parents and interfaces come to an end.
use Rattle.std.specs.Prelude.{◌≡◌, ℕ, ◌<◌, List, length, slice_get, Some, IsTrue}
use Rattle.std.specs.List.{list_all}
use Rattle.assembly_tree.specs.declared.body.Ins.{Ins}
use Rattle.assembly_tree.specs.WellFormedBodies.{is_instruction, is_clause}
use Rattle.type_hierarchy.specs.Hierarchy.{Hierarchy}
use Rattle.type_hierarchy.specs.Stack.{Stack, bad}
use Rattle.type_hierarchy.specs.Relations.{Assignable, Below}
use Rattle.code_flow.specs.Frames.{Frame}
use Rattle.code_flow.specs.Stacks.{Each}
use Rattle.code_flow.specs.Demands.{Demand, Meets, MeetTogether}
use Rattle.code_flow.specs.Rows.{Row, row_of}
use Rattle.code_flow.specs.Effects.{results, effect}
use Rattle.code_flow.specs.Typings.{Typing, IsSolution, IsLeast}
use Rattle.code_flow.specs.Rules.{BreaksFirst}
use Rattle.code_flow.specs.Paths.{NeverWrong}

-- a value of the first type may stand where the second is wanted, or the second is Bad
pub data Under (w : Hierarchy) : Stack → Stack → Type 0 where
  assigned : {s t : Stack} → Assignable w s t → Under w s t
  under_bad : {s : Stack} → Under w s bad

-- what is lower meets each demand that the higher meets, and results follow
pub record IsMonotone (w : Hierarchy) (R : Stack → Stack → Type 0) (r : Row) : Type 0 where
  pub demands : (n : ℕ) (d : Demand) (s t : Stack) → slice_get r.operands n ≡ Some d → R s t → Meets w d t → Meets w d s
  pub together : (ss ts : List Stack) → Each R ss ts → MeetTogether w r.together ts → MeetTogether w r.together ss
  pub results : (ss ts : List Stack) → Each R ss ts → Each R (results r ss) (results r ts)
  pub effects : (ss ts : List Stack) → Each R ss ts → Each R (effect r ss) (effect r ts)

-- every instruction is monotone in the order of stack types, and where values stand for others
pub record AreMonotone (f : Frame) : Type 0 where
  pub order : (k : ℕ) (i : Ins) → IsMonotone f.types (Below f.types) (row_of f k i)
  pub values : (k : ℕ) (i : Ins) → IsMonotone f.types (Under f.types) (row_of f k i)

-- two least typings are the same at each instruction
abbrev pub HasOneLeast : Frame → Type 0
HasOneLeast f = (x y : Typing) → IsLeast f x → IsLeast f y → (k : ℕ) → k < length f.code → x k ≡ y k

-- ---- paths

-- targets are instructions, and clauses lie in the code (as in each well-formed body)
pub record IsFormed (f : Frame) : Type 0 where
  pub some : 0 < length f.code
  pub targets : IsTrue (list_all (is_instruction (length f.code)) f.code)
  pub clauses : IsTrue (list_all (is_clause (length f.code)) f.clauses)

-- no reached instruction breaks a rule
abbrev pub BreaksNothing : Frame → Typing → Type 0
BreaksNothing f typing = (k rule : ℕ) → k < length f.code → BreaksFirst f typing k rule → ⊥

-- where nothing breaks a rule in a solution, no path goes wrong
abbrev pub PathsAreRight : Frame → Type 0
PathsAreRight f = (typing : Typing) → IsSolution f typing → BreaksNothing f typing → NeverWrong f
