use Rattle.image_tables.proofs.FieldPart.{few_fields, fields_count, few_offsets, few_data, fields_filled, data_lengthened}
use Rattle.image_tables.proofs.field_part.push_field_part.Goals as goal

pub push_fields-requires-clause-declared : goal.push_fields-requires-clause-declared
push_fields-requires-clause-declared c = c.requires.can.declared

pub push_fields-requires-clause-few : goal.push_fields-requires-clause-few
push_fields-requires-clause-few c = few_fields c.args.fields.now c.args.refs.now c.args.rows.now c.requires.can

pub push_offsets-requires-clause-count : goal.push_offsets-requires-clause-count
push_offsets-requires-clause-count c = fields_count c.args.fields.now c.args.refs.now c.args.rows.now c.requires.can

pub push_offsets-requires-clause-few : goal.push_offsets-requires-clause-few
push_offsets-requires-clause-few c = few_offsets c.args.fields.now c.args.refs.now c.args.rows.now c.requires.can c.push_fields.new.rows c.in_ok-push_fields.ensures

pub push_all_data-requires-clause-count : goal.push_all_data-requires-clause-count
push_all_data-requires-clause-count c = fields_count c.args.fields.now c.args.refs.now c.args.rows.now c.requires.can

pub push_all_data-requires-clause-few : goal.push_all_data-requires-clause-few
push_all_data-requires-clause-few c =
    few_data c.args.fields.now c.args.refs.now c.args.rows.now c.requires.can c.push_fields.new.rows c.in_ok-push_fields.ensures c.push_offsets.new.rows c.in_ok-push_offsets.ensures

pub push_all_data-requires-clause-long : goal.push_all_data-requires-clause-long
push_all_data-requires-clause-long c = c.requires.long

pub returns-clause-fills : goal.returns-clause-fills
returns-clause-fills c =
    fields_filled c.args.fields.now c.args.refs.now c.args.rows.now c.requires.can c.push_fields.new.rows c.in_ok-push_fields.ensures c.push_offsets.new.rows c.in_ok-push_offsets.ensures
    c.args.code.now c.push_all_data.new.code c.push_all_data.new.rows c.in_ok-push_all_data.ensures

pub returns-clause-lengthens : goal.returns-clause-lengthens
returns-clause-lengthens c =
    data_lengthened c.args.fields.now c.args.refs.now c.args.rows.now c.requires.can c.push_fields.new.rows c.in_ok-push_fields.ensures c.push_offsets.new.rows c.in_ok-push_offsets.ensures
    c.args.code.now c.push_all_data.new.code c.push_all_data.new.rows c.in_ok-push_all_data.ensures
