use Rattle.row_weights.proofs.Owning.{methods_rise_here, method_types, first_method_before, method_owned}
use Rattle.row_weights.proofs.owners.method_owner.Goals as goal

pub owner_of-requires-clause-rise : goal.owner_of-requires-clause-rise
owner_of-requires-clause-rise c = methods_rise_here c.args.image.now c.requires.meets

pub owner_of-requires-clause-some : goal.owner_of-requires-clause-some
owner_of-requires-clause-some c = method_types c.args.image.now c.requires.meets c.args.row c.requires.there

pub owner_of-requires-clause-first : goal.owner_of-requires-clause-first
owner_of-requires-clause-first c = first_method_before c.args.image.now c.requires.meets c.args.row c.requires.there

pub returns : goal.returns
returns c = let o = c.owner_of.ensures in method_owned c.args.image.now c.args.row c.owner_of.result o.there o.only
