use Rattle.std.proofs.Common.{◌≤◌, ◌++◌, [], ap, arith, length, ◌∙◌}
use Rattle.std.specs.Prelude.{fold}
use Rattle.std.proofs.lemmas.List.{take_all}
use Rattle.lower_members.proofs.ParamRows.{all_customs, as_many_runs, fold_next, line_read, run_read, with_customs}
use Rattle.lower_members.proofs.params.line_customs.Goals as goal

pub customs_of-requires-clause-line : goal.customs_of-requires-clause-line
customs_of-requires-clause-line c = line_read c.args.nodes.now c.args.own.now c.loop-line.line-index _ c.requires.lines c.loop-line-test.true

pub loop-line-preserved : goal.loop-line-preserved
loop-line-preserved c s a x rs h =
    let m = run_read s c.args.nodes.now c.args.own.now rs c.loop-line.line-index _ h c.loop-line-test.true in
    c.in_ok-append.ensures.ok ∙ ap (λ xs. c.loop-line.all ++ xs) (c.in_ok-customs.ensures s a x m.run m.is)
    ∙ fold_next (with_customs s a) [] c.loop-line.all rs c.loop-line.line-index m.run m.at (c.loop-line.invariant s a x rs h)

pub returns : goal.returns
returns c s a x rs h =
    let many = as_many_runs s c.args.nodes.now c.args.own.now rs h in
    let over : length rs ≤ c.loop-line.line-index = omega (arith, many, c.loop-line-test.false) in
    c.loop-line.invariant s a x rs h ∙ ap (fold (with_customs s a) []) (take_all c.loop-line.line-index rs over) ∙ all_customs s a rs []
