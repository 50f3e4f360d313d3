use Rattle.std.proofs.Common.{refl, sym, ◌∙◌}
use Rattle.body_weights.proofs.Seeing.{none_told, there_told, again_told, seen_kept, seen_more}
use Rattle.body_weights.proofs.bodies.body_at.Goals as goal

pub returns-then-rva-eq0-clause-told : goal.returns-then-rva-eq0-clause-told
returns-then-rva-eq0-clause-told g c = none_told c.args.image.now c.args.row 0 (sym c.rva_of-rva.ensures ∙ c.if-rva-eq0.true) refl

pub returns-then-rva-eq0-clause-seen : goal.returns-then-rva-eq0-clause-seen
returns-then-rva-eq0-clause-seen g c = seen_kept c.args.image.now c.args.row c.args.seen.now c.requires.seen

pub returns-in-Some-clause-told : goal.returns-in-Some-clause-told
returns-in-Some-clause-told g c =
    again_told c.args.image.now c.args.row c.in-Some.first c.from.result c.args.weights.now c.args.seen.now c.number_at.result c.requires.seen c.requires.above (sym c.in-Some.ensures)
    (c.from.ensures ∙ c.rva_of-rva.ensures) c.number_at.ensures

pub returns-in-Some-clause-seen : goal.returns-in-Some-clause-seen
returns-in-Some-clause-seen g c = seen_kept c.args.image.now c.args.row c.args.seen.now c.requires.seen

pub returns-clause-told : goal.returns-clause-told
returns-clause-told g c =
    there_told c.args.image.now c.args.row c.rva_of-rva.result c.in_ok-weight.weight c.rva_of-rva.ensures c.if-rva-eq0.false c.in_ok-weight.ensures

pub returns-clause-seen : goal.returns-clause-seen
returns-clause-seen g c =
    seen_more c.args.image.now c.args.row c.from-2.result c.args.seen.now c.insert.new.self c.requires.there c.requires.seen c.in_ok-insert.ensures.ok (c.from-2.ensures ∙ c.rva_of-rva.ensures)
