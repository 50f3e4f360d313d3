use Rattle.std.proofs.Common.{◌≡◌, ℕ, List, sym, ap, ◌∙◌}
use Rattle.image_model.specs.Columns.{instance_method}
use Rattle.metadata_tables.specs.CodedIndex.{unpacked}
use Rattle.metadata_tables.specs.Stream.{cell}
use Rattle.metadata_tables.specs.declared.coded.Coded.TheVariants.{MethodDefOrRef}
use Rattle.row_weights.specs.Rows.{known}
use Rattle.row_weights.proofs.Telling.{generic_found, generic_lacks}
use Rattle.row_weights.proofs.methods.generic_of.Goals as goal

pub returns-in-Some : goal.returns-in-Some
returns-in-Some g c =
    let at : c.cell-method.result ≡ instance_method c.args.given.now.image.now c.args.row = c.cell-method.ensures ∙ ap (λ (s : List ℕ). cell s 0x2B c.args.row 0) c.tables.ensures.tables in
    generic_found (known c.args.given.now.image.now c.args.given.now.names.now.weights (g.O.Owners.facts c.args.given.now.signatures.now.owners.now)) c.requires.known c.args.methods.now c.args.members.now c.requires.methods c.requires.members c.args.row c.in-Some.table c.in-Some.row c.generic_at.result c.requires.there
    (ap (unpacked MethodDefOrRef) (sym at) ∙ sym c.in-Some.ensures.value) c.generic_at.ensures

pub returns-in-None : goal.returns-in-None
returns-in-None g c =
    let at : c.cell-method.result ≡ instance_method c.args.given.now.image.now c.args.row = c.cell-method.ensures ∙ ap (λ (s : List ℕ). cell s 0x2B c.args.row 0) c.tables.ensures.tables in
    generic_lacks (known c.args.given.now.image.now c.args.given.now.names.now.weights (g.O.Owners.facts c.args.given.now.signatures.now.owners.now)) c.requires.known c.args.row 0 c.requires.there (λ t p n. absurd (let e = sym n ∙ ap (unpacked MethodDefOrRef) (sym at) ∙ sym c.in-None.ensures.value in cc))
