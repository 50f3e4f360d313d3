use Rattle.std.proofs.Common.{◌≤◌, None, ap, arith, length, ◌∙◌}
use Rattle.std.specs.Prelude.{fold}
use Rattle.std.proofs.lemmas.List.{take_all}
use Rattle.source_model.specs.Parameters.{line_constant}
use Rattle.lower_members.proofs.ParamRows.{as_many_runs, fold_next, line_read, run_read}
use Rattle.lower_members.proofs.params.last_constant.Goals as goal

pub line_constant-requires : goal.line_constant-requires
line_constant-requires c = line_read c.args.nodes.now c.args.own.now c.loop-line.line-index _ c.requires c.loop-line-test.true

pub loop-line-preserved : goal.loop-line-preserved
loop-line-preserved c s rs r h =
    let m = run_read s c.args.nodes.now c.args.own.now rs c.loop-line.line-index _ h c.loop-line-test.true in
    c.in_ok-last.ensures s m.run r m.is ∙ fold_next (line_constant s) None c.loop-line.last rs c.loop-line.line-index m.run m.at (c.loop-line.invariant s rs r h)

pub returns : goal.returns
returns c s rs r h =
    let many = as_many_runs s c.args.nodes.now c.args.own.now rs h in
    let over : length rs ≤ c.loop-line.line-index = omega (arith, many, c.loop-line-test.false) in
    c.loop-line.invariant s rs r h ∙ ap (fold (line_constant s) None) (take_all c.loop-line.line-index rs over)
