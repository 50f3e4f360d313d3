use Rattle.pe_layout.specs.Layout.{nt_fields}
use Rattle.pe_layout.proofs.frame.push_nt_fields.Goals as goal

pub returns-clause-value : goal.returns-clause-value
unfolding nt_fields
returns-clause-value c = c.push_fields.ensures
