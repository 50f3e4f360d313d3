use Rattle.type_names.proofs.Facts.{scopes_there}
use Rattle.type_names.proofs.names.named_of.Goals as goal

pub nodes_of-requires-clause-scopes : goal.nodes_of-requires-clause-scopes
nodes_of-requires-clause-scopes c = scopes_there c.args.image.now c.requires.meets.indexes
