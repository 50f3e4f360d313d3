use Rattle.std.proofs.Common.{sym, subst}
use Rattle.image_model.specs.Rows.{HasRow}
use Rattle.field_sizes.proofs.Measuring.{field_there, one_layout, size_at}
use Rattle.field_sizes.proofs.sizes.size_at.Goals as goal

pub data_size-requires-clause-there : goal.data_size-requires-clause-there
data_size-requires-clause-there c = subst (HasRow c.args.image.now 0x04) (sym c.field_of.ensures) (field_there c.args.image.now c.args.row c.requires.can.meets c.requires.there)

pub data_size-requires-clause-layouts : goal.data_size-requires-clause-layouts
data_size-requires-clause-layouts c = one_layout c.args.image.now c.requires.can c.requires.values

pub returns : goal.returns
returns c = size_at c.args.image.now c.requires.can c.requires.values c.args.row c.field_of.result c.data_size.result c.requires.there c.field_of.ensures c.data_size.ensures
