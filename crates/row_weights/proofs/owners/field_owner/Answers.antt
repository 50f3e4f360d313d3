use Rattle.row_weights.proofs.Owning.{fields_rise_here, field_types, first_field_before, field_owned}
use Rattle.row_weights.proofs.owners.field_owner.Goals as goal

pub owner_of-requires-clause-rise : goal.owner_of-requires-clause-rise
owner_of-requires-clause-rise c = fields_rise_here c.args.image.now c.requires.meets

pub owner_of-requires-clause-some : goal.owner_of-requires-clause-some
owner_of-requires-clause-some c = field_types c.args.image.now c.requires.meets c.args.row c.requires.there

pub owner_of-requires-clause-first : goal.owner_of-requires-clause-first
owner_of-requires-clause-first c = first_field_before c.args.image.now c.requires.meets c.args.row c.requires.there

pub returns : goal.returns
returns c = let o = c.owner_of.ensures in field_owned c.args.image.now c.args.row c.owner_of.result o.there o.only
