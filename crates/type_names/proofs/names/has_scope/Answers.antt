use Rattle.std.proofs.Common.{◌≡◌, ◌+◌, IsTrue, ◌∙◌, ap, subst}
use Rattle.std.specs.Prelude.{◌↔◌}
use Rattle.metadata_tables.specs.Stream.{row_count}
use Rattle.image_model.specs.Rows.{count_of}
use Rattle.name_numbers.specs.Names.{named_at}
use Rattle.name_numbers.specs.declared.numbering.Named.{Named}
use Rattle.type_names.specs.Numbers.{LeadsBy}
use Rattle.type_names.proofs.Scoping.{scope_told}
use Rattle.type_names.proofs.names.has_scope.Goals as goal

pub returns : goal.returns
returns c =
    let types : c.rows-types.result ≡ count_of c.args.image.now 0x02 = c.rows-types.ensures.rows ∙ ap (λ stream. row_count stream 0x02) c.tables.ensures.tables in
    let name : c.named_at-name.result ≡ named_at c.args.named.now (count_of c.args.image.now 0x02 + c.args.row)
    = c.named_at-name.ensures ∙ ap (λ n. named_at c.args.named.now (n + c.args.row)) types in
    let led : IsTrue c.leads.result ↔ LeadsBy (count_of c.args.image.now 0x02) c.named_at-name.result
    = subst (λ n. IsTrue c.leads.result ↔ LeadsBy n c.named_at-name.result) types c.leads.ensures in
    let here : IsTrue c.leads.result ↔ LeadsBy (count_of c.args.image.now 0x02) (named_at c.args.named.now (count_of c.args.image.now 0x02 + c.args.row))
    = subst (λ (n : Named). IsTrue c.leads.result ↔ LeadsBy (count_of c.args.image.now 0x02) n) name led in
    let told = scope_told c.args.image.now c.args.named.now c.requires.tells c.args.row c.requires.there in
    (λ yes. told.0 (here.0 yes), λ has. here.1 (told.1 has))
