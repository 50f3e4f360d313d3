use Rattle.std.proofs.Common.{◌≡◌, ◌∙◌, ap, ℕ, ◌+◌, arith}
use Rattle.std.specs.List.{sum_by}
use Rattle.std.proofs.lemmas.List.Sums.{sum-map}
use Rattle.type_terms.proofs.Layers.{fold-Inst}
use Rattle.assembly_tree.specs.Weight.{name_weight, owner_step, type_step, type_weight}
use Rattle.assembly_tree.proofs.weighing.terms.+charge.Goals as goal

pub charge_type-returns-in-Inst : goal.charge_type-returns-in-Inst
charge_type-returns-in-Inst t c =
    let e : type_weight c.args.t.now ≡ 32 + name_weight c.in-Inst.name + sum_by type_weight c.as_slice.result.now =
    rw (c.in-Inst.is, c.as_slice.ensures, c.get.ensures)
    (fold-Inst ℕ ℕ owner_step type_step c.in-Inst.value c.in-Inst.name c.in-Inst.args
    ∙ ap (λ s. 32 + name_weight c.in-Inst.name + s) (sum-map type_weight c.in-Inst.args)) in
    rw e (omega (arith, ap name_weight c.get-in-Inst.ensures))
