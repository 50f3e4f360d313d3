use Rattle.std.proofs.Common.{◌≡◌, ℕ, ◌+◌, arith, map}
use Rattle.type_terms.proofs.Layers.{fold-Inst}
use Rattle.type_terms.specs.Depth.{depth, largest, depth_step, owner_depth_step}
use Rattle.type_terms.proofs.depth.+depth.Goals as goal

pub is_within-returns-in-Inst : goal.is_within-returns-in-Inst
is_within-returns-in-Inst t c =
    let e : depth c.args.t.now ≡ largest (map depth c.as_slice.result.now) + 1 =
    rw (c.in-Inst.is, c.as_slice.ensures, c.get.ensures) (fold-Inst ℕ ℕ owner_depth_step depth_step c.in-Inst.value c.in-Inst.name c.in-Inst.args) in
    rw e (λ h. omega (arith, c.are_within.ensures.0 h), λ h. c.are_within.ensures.1 (omega arith))
