use Rattle.std.proofs.Common.{◌≡◌, subst, arith}
use Rattle.std.proofs.lemmas.Bool.{or_parts}
use Rattle.name_numbers.specs.Numbering.{Visits}
use Rattle.name_numbers.proofs.Passes.{visits_none, visits_more}
use Rattle.name_numbers.proofs.numbering.pass.Goals as goal

pub loop-k-init : goal.loop-k-init
loop-k-init c = visits_none c.args.texts.now c.args.nodes.now c.args.last c.args.from c.args.numbering.now c.requires.state

pub visit-requires-clause-state : goal.visit-requires-clause-state
visit-requires-clause-state c = c.loop-k.invariant.state

pub loop-k-preserved : goal.loop-k-preserved
loop-k-preserved c =
    visits_more c.args.texts.now c.args.nodes.now c.args.last c.args.from c.loop-k.k c.args.numbering.now c.loop-k.numbering c.visit.new.numbering
    c.loop-k.changed c.in_ok-named.named _ (λ e. or_parts c.loop-k.changed c.in_ok-named.named e) (omega arith) c.loop-k.invariant c.in_ok-named.ensures

pub returns : goal.returns
returns c =
    let all : c.loop-k.k ≡ c.args.to = let t = c.loop-k-test.false in let o = c.requires.sort.order in omega arith in
    subst (λ upto. Visits c.args.texts.now c.args.nodes.now c.args.last c.args.from upto c.args.numbering.now c.loop-k.numbering c.loop-k.changed) all c.loop-k.invariant
