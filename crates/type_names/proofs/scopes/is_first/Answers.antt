use Rattle.std.proofs.Common.{◌≡◌, ◌-◌, ap, sym, ◌∙◌}
use Rattle.std.proofs.lemmas.Bool.{eq-eqb, ne_eqb, not_from_true, not_from_false, false≢true}
use Rattle.std.specs.Prelude.{nat_eq}
use Rattle.metadata_tables.specs.Stream.{cell}
use Rattle.image_model.specs.Columns.{nested_class}
use Rattle.type_names.proofs.Scoping.{first_told}
use Rattle.type_names.proofs.scopes.is_first.Goals as goal

pub returns-else-row-le1 : goal.returns-else-row-le1
returns-else-row-le1 c =
    let is : c.cell.result ≡ nested_class c.args.image.now (c.args.row - 1) = c.cell.ensures ∙ ap (λ stream. cell stream 0x29 (c.args.row - 1) 0) c.tables.ensures.tables in
    let told = first_told c.args.image.now c.args.row c.requires.meets.order c.requires.there c.if-row-le1.false in (
      λ yes. told.0 (λ e. false≢true (sym (not_from_true (nat_eq c.cell.result c.args.nested) (eq-eqb c.cell.result c.args.nested (is ∙ e ∙ sym c.requires.nested))) ∙ yes)),
      λ once. not_from_false (nat_eq c.cell.result c.args.nested) (ne_eqb c.cell.result c.args.nested (λ e. told.1 once (sym is ∙ e ∙ c.requires.nested))),
    )
