use Rattle.std.proofs.Common.{List, sym, subst}
use Rattle.assembly_tree.specs.declared.body.Ins.{Ins}
use Rattle.code_flow.specs.declared.blocks.Spans.{Spans}
use Rattle.code_flow.specs.GoingTests.{HaveGoings}
use Rattle.code_flow.proofs.Listed.{goings_right}
use Rattle.code_flow.proofs.goings.goings_of.Goals as goal

pub returns : goal.returns
returns c = λ f code clauses formed nest.
    let have = subst (λ (z : List Ins). HaveGoings z c.args.clauses.now c.in_ok-goings.goings) (sym code) c.in_ok-goings.ensures in
    goings_right f c.in_ok-goings.goings formed nest (subst (λ (z : List Spans). HaveGoings f.code z c.in_ok-goings.goings) clauses have)
