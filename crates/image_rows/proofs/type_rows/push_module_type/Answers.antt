use Rattle.std.proofs.Common.{◌≡◌, subst, List, ℕ}
use Rattle.metadata_tables.specs.Encoding.{AddsRow}
use Rattle.image_rows.proofs.TypeRowLemmas.{module_type_pushed, stands_within}
use Rattle.image_rows.proofs.type_rows.push_module_type.Goals as goal

pub at-id-requires : goal.at-id-requires
at-id-requires c = stands_within c.args.refs.now 0 _ c.requires.stands

pub push-requires-clause-cells : goal.push-requires-clause-cells
push-requires-clause-cells c = c.type_cells-cells.ensures.row

pub returns : goal.returns
returns c =
    module_type_pushed c.args.counts.fields c.args.counts.methods c.args.refs.now c.args.rows.now c.push.new.self c.at-id.result c.requires.stands c.at-id.ensures
    (subst (λ (cells : List ℕ). AddsRow c.args.rows.now c.push.new.self 0x02 cells) c.type_cells-cells.ensures.cells c.in_ok-push.ensures.added)
