use Rattle.std.proofs.Common.{subst}
use Rattle.name_numbers.specs.Numbering.{Visits}
use Rattle.name_numbers.proofs.Passes.{begun, one_more, settled, settled_still}
use Rattle.name_numbers.proofs.numbering.settle.Goals as goal

pub loop-most-init : goal.loop-most-init
loop-most-init c = begun c.args.texts.now c.args.nodes.now c.args.last c.args.from c.args.to c.requires.sort c.args.numbering.now c.requires.state

pub pass-requires-clause-state : goal.pass-requires-clause-state
pass-requires-clause-state c = c.loop-most.invariant.state

pub loop-most-preserved : goal.loop-most-preserved
loop-most-preserved c =
    one_more c.args.texts.now c.args.nodes.now c.args.last c.args.from c.args.to c.requires.sort c.loop-most.most c.args.numbering.now c.loop-most.numbering c.pass.new.numbering
    c.in_ok-named.named c.loop-most-test.true c.loop-most.invariant c.in_ok-named.ensures

pub returns-then-not-named : goal.returns-then-not-named
returns-then-not-named c =
    settled_still c.args.texts.now c.args.nodes.now c.args.last c.args.from c.args.to c.requires.sort c.loop-most.most c.args.numbering.now c.loop-most.numbering c.pass.new.numbering
    c.loop-most.invariant (subst (λ changed. Visits c.args.texts.now c.args.nodes.now c.args.last c.args.from c.args.to c.loop-most.numbering c.pass.new.numbering changed) c.if-not-named.true c.in_ok-named.ensures)

pub returns : goal.returns
returns c =
    settled c.args.texts.now c.args.nodes.now c.args.last c.args.from c.args.to c.requires.sort c.loop-most.most c.args.numbering.now c.loop-most.numbering c.loop-most-test.false c.loop-most.invariant
