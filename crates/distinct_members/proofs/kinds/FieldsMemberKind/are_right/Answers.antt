use Rattle.distinct_members.proofs.Liking.{field_named}
use Rattle.distinct_members.proofs.Signing.{field_hashes}
use Rattle.distinct_members.proofs.kinds.FieldsMemberKind.are_right.Goals as goal

pub returns-clause-names : goal.returns-clause-names
returns-clause-names g c = field_named c.args.self.now.image.now c.requires.0

pub returns-clause-hashes : goal.returns-clause-hashes
returns-clause-hashes g c = λ one other p q same.
    field_hashes c.args.self.now.image.now (g.N.Numbering.canon c.args.self.now.numbers.now) c.requires.1 (g.O.Owners.facts c.args.self.now.facts.now) c.requires.2 one other same
