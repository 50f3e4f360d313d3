use Rattle.std.proofs.Common.{◌≤◌, length, sym, ◌∙◌}
use Rattle.std.proofs.lemmas.Bool.{false≢true}
use Rattle.image_model.specs.Members.{HasConstants, data_of, offsets_of}
use Rattle.data_demands.proofs.Placing.{all_parts, lacks_part}
use Rattle.data_demands.proofs.fields.field_has_values.Goals as goal

pub returns-then-not-field_has_constants : goal.returns-then-not-field_has_constants
returns-then-not-field_has_constants c =
    lacks_part c.args.image.now c.requires.can c.args.row c.requires.there (HasConstants c.args.image.now 0x04 c.args.row) (λ names v. v.constants)
    (λ p. false≢true (sym c.if-not-field_has_constants.true ∙ c.field_has_constants.ensures.1 p))

pub returns-then-not-has_one_offset : goal.returns-then-not-has_one_offset
returns-then-not-has_one_offset c =
    lacks_part c.args.image.now c.requires.can c.args.row c.requires.there (length (offsets_of c.args.image.now c.args.row) ≤ 1) (λ names v. v.offset)
    (λ p. false≢true (sym c.if-not-has_one_offset.true ∙ c.has_one_offset.ensures.1 p))

pub returns-then-not-has_one_data : goal.returns-then-not-has_one_data
returns-then-not-has_one_data c =
    lacks_part c.args.image.now c.requires.can c.args.row c.requires.there (length (data_of c.args.image.now c.args.row) ≤ 1) (λ names v. v.one_data)
    (λ p. false≢true (sym c.if-not-has_one_data.true ∙ c.has_one_data.ensures.1 p))

pub returns : goal.returns
returns c =
    all_parts c.args.image.now c.requires.can c.args.row c.requires.there c.has_data.result (c.field_has_constants.ensures.0 c.if-not-field_has_constants.false)
    (c.has_one_offset.ensures.0 c.if-not-has_one_offset.false) (c.has_one_data.ensures.0 c.if-not-has_one_data.false) c.has_data.ensures
