use Rattle.pe_layout.specs.Layout.{text_back}
use Rattle.pe_layout.proofs.contents.push_text_back.Goals as goal

pub returns : goal.returns
unfolding text_back
returns c = rw (← c.function_for.ensures) c.push_fields.ensures
