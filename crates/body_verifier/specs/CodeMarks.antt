-- Marks for the instructions of a body, and what else its instructions are judged by.
use Rattle.std.specs.Prelude.{◌≡◌, ℕ, ◌<◌, Bool, false, List, [], ◌∷◌, map, length, slice_index_or, IsTrue, ◌↔◌}
use Rattle.assembly_tree.specs.declared.assembly.Assembly.{Assembly}
use Rattle.assembly_tree.specs.declared.body.Ins.{Ins}
use Rattle.sig_pool.specs.declared.node.Node.{Node}
use Rattle.code_flow.specs.declared.blocks.Spans.{Spans}
use Rattle.body_verifier.specs.declared.code_marks.CodeMarks.{CodeMarks}
use Rattle.stack_rows.specs.declared.frame.CodeFrame.{CodeFrame}
use Rattle.code_flow.specs.BlockTests.{spans_of}
use Rattle.code_flow.specs.Frames.{Frame}
use Rattle.code_flow.specs.Marks.{HaveMarks, HavePasts, set_mark}
use Rattle.stack_rows.specs.RowMeanings.{MeansFrame}
use Rattle.body_verifier.specs.Verdicts.{TryBegins}

-- a mark for each instruction, true where a try begins
pub record HaveTries (f : Frame) (marks : List Bool) : Type 0 where
  pub count : length marks ≡ length f.code
  pub are : (k : ℕ) → k < length f.code → IsTrue (slice_index_or marks k false) ↔ TryBegins f k

-- as they are set
abbrev pub marked_tries : List Bool → List Spans → List Bool
marked_tries m [] = m
marked_tries m (s ∷ ss) = marked_tries (set_mark m s.guarded.start) ss

-- one of each for each instruction
pub record AreAsMany (code : List Ins) (m : CodeMarks) : Type 0 where
  pub entered : length m.entered.items ≡ length code
  pub pasts : length m.pasts ≡ length code
  pub tries : length m.tries.items ≡ length code

pub record AreCodeMarks (f : Frame) (m : CodeMarks) : Type 0 where
  pub entered : HaveMarks f m.entered.items
  pub pasts : HavePasts f.code m.pasts
  pub tries : HaveTries f m.tries.items

-- the code and the clauses of a body of an image, and the types of its variables in a pool
pub record IsBody (f : Frame) (a : Assembly) (ns : List Node) (v : CodeFrame) (instructions : List Ins) (spans : List Spans) (m : CodeMarks) : Type 0 where
  pub image : f.image ≡ a
  pub variables : MeansFrame ns v f
  pub code : f.code ≡ instructions
  pub clauses : spans ≡ map spans_of f.clauses
  pub marks : AreCodeMarks f m
