use Rattle.pe_layout.specs.Layout.{text_front}
use Rattle.pe_layout.proofs.contents.push_text_front.Goals as goal

pub returns-clause-value : goal.returns-clause-value
unfolding text_front
returns-clause-value c = c.push_fields.ensures
