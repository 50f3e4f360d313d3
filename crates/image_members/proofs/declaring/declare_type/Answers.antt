use Rattle.std.proofs.Common.{refl}
use Rattle.image_tokens.specs.Texts.{id_size}
use Rattle.image_members.proofs.DeclaringLemmas.{declares_one}
use Rattle.image_members.proofs.declaring.declare_type.Goals as goal

pub returns : goal.returns
returns c =
    declares_one c.one_content_at_an_index.ensures.text c.args.strings.now c.add_id.new.strings c.args.rows.now c.number.new.self
    (record { first = c.args.encloser; second = c.in_ok-name.name; third = c.in_ok-name.space }) (record { encloser = c.args.encloser; id = c.args.id.now }) c.in_ok-number.field-0
    c.add_id.ensures.keeps (record { encloser_is = refl; id_is = c.in_ok-name.ensures.holds }) c.in_ok-number.ensures.at (id_size c.args.id.now) c.add_id.ensures.size c.in_ok-number.ensures.kept
