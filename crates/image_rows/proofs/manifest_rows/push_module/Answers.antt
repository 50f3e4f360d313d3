use Rattle.std.proofs.Common.{◌+◌, ◌≤◌, arith}
use Rattle.image_members.proofs.ManifestLemmas.{module_row, module_bytes_are, module_pushed}
use Rattle.image_rows.proofs.manifest_rows.push_module.Goals as goal

pub refer_text-requires-clause-room : goal.refer_text-requires-clause-room
refer_text-requires-clause-room c = let bytes = module_bytes_are c.args.m.now in let room = c.requires.room in omega arith

pub push-requires-clause-cells : goal.push-requires-clause-cells
push-requires-clause-cells c = module_row c.row_of_columns.ensures c.in_ok-name.name

pub returns : goal.returns
returns c =
    module_pushed c.args.refs.now c.refer_text.new.refs c.args.rows.now c.push.new.self c.args.m.now c.in_ok-name.name c.in_ok-name.ensures c.in_ok-push.ensures.added
