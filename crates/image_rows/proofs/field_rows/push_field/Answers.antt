use Rattle.std.proofs.Common.{rules, ◌≡◌, subst, ℕ, [], ◌∷◌}
use Rattle.metadata_tables.specs.Encoding.{AddsRow}
use Rattle.image_rows.specs.FieldRows.{field_flags}
use Rattle.image_rows.proofs.FieldLemmas.{field_cells}
use Rattle.image_members.proofs.PushLemmas.{rows_one}
use Rattle.image_rows.proofs.field_rows.push_field.Goals as goal

pub push-requires-clause-cells : goal.push-requires-clause-cells
push-requires-clause-cells c = field_cells c.row_of_columns.ensures c.from.result c.args.declared.second c.args.declared.third (search rules)

pub returns : goal.returns
returns c =
    let flags : c.from.result ≡ field_flags c.args.field.now = search rules in
    rows_one 0x04 (field_flags c.args.field.now ∷ c.args.declared.second ∷ c.args.declared.third ∷ []) c.args.rows.now c.push.new.self
    (subst (λ (n : ℕ). AddsRow c.args.rows.now c.push.new.self 0x04 (n ∷ c.args.declared.second ∷ c.args.declared.third ∷ [])) flags c.in_ok-push.ensures.added)
