use Rattle.signature_facts.proofs.Sizes.{type_sizes, owner_sizes, types_sizes, method_sizes, weighs_so}
use Rattle.signature_facts.proofs.laws.facts_are_sizes.Goals as goal

pub returns-clause-type_of : goal.returns-clause-type_of
returns-clause-type_of c = type_sizes

pub returns-clause-owner : goal.returns-clause-owner
returns-clause-owner c = owner_sizes

pub returns-clause-types : goal.returns-clause-types
returns-clause-types c = types_sizes

pub returns-clause-method : goal.returns-clause-method
returns-clause-method c = method_sizes

pub returns-clause-weight : goal.returns-clause-weight
returns-clause-weight c = weighs_so
