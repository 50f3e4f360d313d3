use Rattle.std.proofs.Common.{◌≡◌, ℕ, inr, rules, subst}
use Rattle.metadata_tables.specs.declared.coded.Coded.TheVariants.{MethodDefOrRef}
use Rattle.image_model.specs.Rows.{Names}
use Rattle.image_model.specs.Columns.{instance_method}
use Rattle.signature_demands.proofs.named.has_method.Goals as goal

pub names_method-requires : goal.names_method-requires
names_method-requires g c =
    let index : c.cell-method.result ≡ instance_method c.args.all.now.image.now c.args.row = search rules in
    λ member n. c.requires.members c.args.row member (inr (inr (c.requires.there, subst (λ (v : ℕ). Names MethodDefOrRef v 0x0A member) index n)))

pub returns : goal.returns
returns g c =
    let index : c.cell-method.result ≡ instance_method c.args.all.now.image.now c.args.row = search rules in
    rw index at c.names_method.ensures
