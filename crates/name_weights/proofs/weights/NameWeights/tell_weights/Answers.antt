use Rattle.std.proofs.Common.{subst}
use Rattle.name_weights.specs.Weights.{Weighed, AreWeights}
use Rattle.name_weights.proofs.Told.{tokens_told}
use Rattle.name_weights.proofs.weights.NameWeights.tell_weights.Goals as goal

pub returns-clause-tokens : goal.returns-clause-tokens
returns-clause-tokens c = λ meets scopes names are.
    let v = c.self.view_is in
    let so : AreWeights c.args.self.now.image c.args.self.now.weights = subst (λ (v : Weighed). AreWeights v.image v.weights) v c.self.invariant in
    tokens_told c.args.self.now.image meets scopes c.args.self.now.weights so names.owners are.owners
