use Rattle.std.proofs.Common.{List, ℕ, subst}
use Rattle.std.specs.Prelude.{IsTrue, ◌↔◌}
use Rattle.image_model.specs.Used.{IsUsed}
use Rattle.method_states.specs.Marks.{IsKept, IsMarked}
use Rattle.image_used.proofs.Ending.{through}
use Rattle.image_used.proofs.used.Used.is_used.Goals as goal

pub returns : goal.returns
returns c =
    subst (λ (image : List ℕ). IsTrue c.is_marked.result ↔ (IsKept c.args.table × IsUsed image c.args.table c.args.row)) c.self.view_is
    (through (IsTrue c.is_marked.result) (IsMarked c.self.inside.marks c.args.table c.args.row) (IsKept c.args.table × IsUsed c.self.inside.image.now c.args.table c.args.row) c.is_marked.ensures
    (c.self.invariant c.args.table c.args.row))
