use Rattle.code_flow.specs.Rows.{row_of}
use Rattle.type_hierarchy.specs.Relations.{Below}
use Rattle.code_flow.specs.Laws.{Under}
use Rattle.body_verifier.proofs.Refining.{below_refines, under_refines}
use Rattle.body_verifier.proofs.Monotone.{monotone}
use Rattle.body_verifier.proofs.SoundRows.{sound_at, sound_row}
use Rattle.body_verifier.proofs.laws.instructions_are_monotone.Goals as goal

pub returns : goal.returns
returns c = λ f height g.
    let trans = c.assignable_is_a_preorder.ensures.transitive f.types height g in
    let joins = c.joins_are_least_upper_bounds.ensures.joins f.types height g in
    record {
      order = λ k i. monotone f.types (Below f.types) (below_refines f.types height g joins trans) (row_of f k i) (sound_at (row_of f k i).operands (sound_row f k i));
      values = λ k i. monotone f.types (Under f.types) (under_refines f.types height g trans) (row_of f k i) (sound_at (row_of f k i).operands (sound_row f k i));
    }
