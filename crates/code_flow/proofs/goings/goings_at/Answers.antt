use Rattle.std.proofs.Common.{◌∙◌, ◌++◌, ap, map}
use Rattle.std.proofs.lemmas.List.{append_assoc}
use Rattle.code_flow.specs.declared.goings.Carried.TheVariants as carries
use Rattle.code_flow.specs.GoingTests.{going, guards_from}
use Rattle.code_flow.proofs.goings.goings_at.Goals as goal

pub returns : goal.returns
returns c = λ leaves have.
    let own = c.in_ok-add_own.ensures leaves have in
    let begun = c.in_ok-add_flowing.ensures in
    let flows = map (going carries.Flowing) begun.flows in
    let all = begun.is ∙ ap (λ l. l ++ flows) c.new-goings.ensures in
    record {
      flows = begun.flows;
      are = begun.are;
      own = own.more;
      same = own.same;
      is = c.in_ok-extend.ensures.ok ∙ (λ i. own.is i ++ c.requires.guards i) ∙ ap (λ l. (l ++ own.more) ++ guards_from c.args.k 0 c.args.clauses.now) all ∙ append_assoc flows own.more (guards_from c.args.k 0 c.args.clauses.now);
    }
