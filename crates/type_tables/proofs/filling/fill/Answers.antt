use Rattle.std.proofs.Common.{◌≡◌, ◌∙◌, sym, refl, length}
use Rattle.std.specs.Borrow.{Bor}
use Rattle.std.proofs.lemmas.List.{length-map}
use Rattle.assembly_tree.specs.declared.typedef.TypeDef.{TypeDef}
use Rattle.type_tables.specs.Places.{row}
use Rattle.type_tables.proofs.FillLemmas.{tables_all}
use Rattle.type_tables.proofs.filling.fill.Goals as goal

pub returns-clause-tables : goal.returns-clause-tables
returns-clause-tables c = λ s ok places values.
    let typed : length c.args.places.types ≡ length c.args.places.names =
    sym (length-map c.args.places.types (λ (t : Bor TypeDef). t.now)) ∙ c.requires.aligned.types in
    tables_all s c.args.scopes.now (row c.args.places) c.args.values _ c.at.result.now ok places values refl c.in_ok-means.ensures c.at.ensures refl
    (c.in_ok-entries.ensures.count ∙ typed) (c.in_ok-entries.ensures.each s ok places values)
