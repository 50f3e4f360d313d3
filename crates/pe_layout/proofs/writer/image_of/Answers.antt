use Rattle.std.proofs.Common.{arith}
use Rattle.std.proofs.lemmas.Grind.{common_steps}
use Rattle.pe_layout.specs.Layout.{image_of, image_by, text}
use Rattle.pe_layout.proofs.writer.image_of.Goals as goal

pub returns : goal.returns
unfolding image_of image_by text
returns c = (grind (arith, common_steps), record { entry = c.push_text_front.ensures.entry_fits; stack_reserve = c.in_ok-push_headers.ensures.stack_fits; subsystem = c.in_ok-push_headers.ensures.subsystem_fits; cor_flags = c.push_text_front.ensures.flags_fit })
