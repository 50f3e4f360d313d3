use Rattle.std.proofs.Common.{refl}
use Rattle.check_visitor.proofs.AskingLemmas.{quiet_further}
use Rattle.check_visitor.proofs.asking.past_quiet.Goals as goal

pub loop-left-init : goal.loop-left-init
loop-left-init g c = record { many = 0; quiet = tt; left-is = refl }

pub loop-left-preserved : goal.loop-left-preserved
loop-left-preserved g c =
    quiet_further (g.R.Rule.broken c.args.rule.now) c.args.nodes.now c.loop-left.left.now c.split_at.result.1.now c.quiet_of_eight-quiet.result
    c.loop-left.invariant c.quiet_of_eight-quiet.ensures.quiet c.split_at.ensures.back

pub returns-then-quiet-lt8 : goal.returns-then-quiet-lt8
returns-then-quiet-lt8 g c =
    quiet_further (g.R.Rule.broken c.args.rule.now) c.args.nodes.now c.loop-left.left.now c.split_at.result.1.now c.quiet_of_eight-quiet.result
    c.loop-left.invariant c.quiet_of_eight-quiet.ensures.quiet c.split_at.ensures.back
