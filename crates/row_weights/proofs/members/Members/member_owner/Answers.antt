use Rattle.std.proofs.Common.{◌≡◌, ℕ, List, sym, ap, ◌∙◌}
use Rattle.image_model.specs.Columns.{member_parent}
use Rattle.metadata_tables.specs.CodedIndex.{unpacked}
use Rattle.metadata_tables.specs.Stream.{cell}
use Rattle.metadata_tables.specs.declared.coded.Coded.TheVariants.{MemberRefParent}
use Rattle.row_weights.specs.Rows.{known}
use Rattle.row_weights.proofs.Telling.{member_owner, member_ownerless}
use Rattle.row_weights.proofs.members.Members.member_owner.Goals as goal

pub returns-in-Some : goal.returns-in-Some
returns-in-Some g c =
    let at : c.cell-parent.result ≡ member_parent c.args.self.now.image.now c.args.row = c.cell-parent.ensures ∙ ap (λ (s : List ℕ). cell s 0x0A c.args.row 0) c.tables.ensures.tables in
    member_owner (known c.args.self.now.image.now c.args.self.now.names.now.weights (g.O.Owners.facts c.args.self.now.signatures.now.owners.now)) c.requires.known c.args.row c.in-Some.table c.in-Some.row c.parent.result c.requires.there (ap (unpacked MemberRefParent) (sym at) ∙ sym c.in-Some.ensures.value) c.parent.ensures

pub returns-in-None : goal.returns-in-None
returns-in-None g c =
    let at : c.cell-parent.result ≡ member_parent c.args.self.now.image.now c.args.row = c.cell-parent.ensures ∙ ap (λ (s : List ℕ). cell s 0x0A c.args.row 0) c.tables.ensures.tables in
    member_ownerless (known c.args.self.now.image.now c.args.self.now.names.now.weights (g.O.Owners.facts c.args.self.now.signatures.now.owners.now)) c.requires.known c.args.row 0 c.requires.there
    (λ t p n. absurd (let e = sym n ∙ ap (unpacked MemberRefParent) (sym at) ∙ sym c.in-None.ensures.value in cc))
