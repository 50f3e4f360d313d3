use Rattle.std.proofs.Common.{◌≡◌, sym, ◌∙◌, ap, subst, refl, List, length, Some}
use Rattle.std.specs.Prelude.{slice_get}
use Rattle.std.proofs.lemmas.Option.{slice_get_read}
use Rattle.assembly_tree.specs.declared.body.Ins.{Ins}
use Rattle.stack_states.specs.declared.state.State.{State}
use Rattle.code_flow.specs.Operations.{operation}
use Rattle.stack_states.specs.StateMeanings.{state_meant}
use Rattle.code_flow.proofs.PairLemmas.{one_item}
use Rattle.body_verifier.proofs.RuleLemmas.{breaks_at_clash}
use Rattle.body_verifier.proofs.verdicts.verdict.Goals as goal

pub returns-in-Clash-clause-ok : goal.returns-in-Clash-clause-ok
returns-in-Clash-clause-ok c = λ f typing i body types bound here row is.
    breaks_at_clash f typing c.args.k (is ∙ ap (λ (x : State). state_meant c.args.w.now.nodes x) c.in-Clash.is)

pub returns-in_ok-rule-in-Stack-clause-ok : goal.returns-in_ok-rule-in-Stack-clause-ok
returns-in_ok-rule-in-Stack-clause-ok c = λ f typing i body types bound here row is.
    let code = c.args.code.now in
    let k = c.args.k in
    let ins = c.index-code-k.result in
    let there : slice_get code k ≡ Some ins = slice_get_read code (length code) k ins refl c.requires.k c.index-code-k.is in
    let there_too : slice_get code k ≡ Some i = subst (λ (z : List Ins). slice_get z k ≡ Some i) body.code here in
    let same = one_item code k k i ins refl there_too there in
    let acts = ap (λ (z : Ins). operation z.op) (same ∙ c.index-code-k.is) ∙ sym c.operation_of-does.ensures in
    let stack_is = is ∙ ap (λ (x : State). state_meant c.args.w.now.nodes x) c.in-Stack.is in
    c.in_ok-rule-in-Stack.ensures.ok f typing k i types bound here acts row stack_is (c.in_ok-breaks-in-Stack.ensures f body types)
