use Rattle.numbered_names.proofs.Hashes.{seen_told}
use Rattle.numbered_names.proofs.told.NumberedNames.tell_facts.Goals as goal

pub returns : goal.returns
returns c = seen_told c.self.inside.names.now c.args.self.now c.self.view_is c.tell_names.ensures c.requires.meets c.requires.scopes
