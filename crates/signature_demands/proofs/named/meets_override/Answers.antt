use Rattle.std.proofs.Common.{◌≡◌, ℕ, inl, inr, rules, subst}
use Rattle.metadata_tables.specs.declared.coded.Coded.TheVariants.{MethodDefOrRef}
use Rattle.image_model.specs.Rows.{Names}
use Rattle.image_model.specs.Columns.{override_body, override_declaration}
use Rattle.signature_demands.proofs.Rows.{override_no, override_row}
use Rattle.signature_demands.proofs.named.meets_override.Goals as goal

pub names_method-has_body-requires : goal.names_method-has_body-requires
names_method-has_body-requires g c =
    let index : c.cell-body.result ≡ override_body c.args.all.now.image.now c.args.row = search rules in
    λ member n. c.requires.members c.args.row member (inl (c.requires.there, subst (λ (v : ℕ). Names MethodDefOrRef v 0x0A member) index n))

pub names_method-has_declaration-requires : goal.names_method-has_declaration-requires
names_method-has_declaration-requires g c =
    let index : c.cell-declaration.result ≡ override_declaration c.args.all.now.image.now c.args.row = search rules in
    λ member n. c.requires.members c.args.row member (inr (inl (c.requires.there, subst (λ (v : ℕ). Names MethodDefOrRef v 0x0A member) index n)))

pub returns-then-has_body : goal.returns-then-has_body
returns-then-has_body g c =
    let index : c.cell-body.result ≡ override_body c.args.all.now.image.now c.args.row = search rules in
    let other : c.cell-declaration.result ≡ override_declaration c.args.all.now.image.now c.args.row = search rules in
    override_row c.args.all.now.image.now (g.O.Owners.facts c.args.all.now.owners.now) c.args.row c.names_method-has_body.result c.names_method-has_declaration.result c.cell-body.result c.cell-declaration.result c.requires.there index other
    c.names_method-has_body.ensures c.if-has_body.true c.names_method-has_declaration.ensures

pub returns : goal.returns
returns g c =
    let index : c.cell-body.result ≡ override_body c.args.all.now.image.now c.args.row = search rules in
    override_no c.args.all.now.image.now (g.O.Owners.facts c.args.all.now.owners.now) c.args.row c.names_method-has_body.result c.cell-body.result c.requires.there index c.names_method-has_body.ensures c.if-has_body.false
