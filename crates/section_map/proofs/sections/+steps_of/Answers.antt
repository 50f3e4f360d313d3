use Rattle.std.proofs.Common.{◌+◌, ◌-◌, ◌/◌, sym, subst, arith}
use Rattle.section_map.specs.Firsts.{first_holding}
use Rattle.section_map.specs.Steps.{Tell}
use Rattle.section_map.proofs.Halves.{all_joined}
use Rattle.section_map.proofs.sections.+steps_of.Goals as goal

pub returns : goal.returns
returns t c =
    let file = c.args.file.now in
    let table = c.args.table in
    let from = c.args.from in
    let half = c.args.count / 2 in
    let left = subst (λ s. Tell s (first_holding file table from half)) (sym c.as_slice.ensures) c.in_ok-left.ensures in
    let right = subst (λ s. Tell s (first_holding file table (from + half) (c.args.count - half))) (sym c.as_slice-2.ensures) c.in_ok-right.ensures in
    all_joined file table from half c.args.count c.as_slice.result.now c.as_slice-2.result.now (omega arith) c.requires.few left right c.merged.result c.merged.ensures
