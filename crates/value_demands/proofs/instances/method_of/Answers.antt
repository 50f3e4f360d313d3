use Rattle.std.proofs.Common.{sym, ◌∙◌, ap}
use Rattle.metadata_tables.specs.CodedIndex.{unpacked}
use Rattle.metadata_tables.specs.declared.coded.Coded.TheVariants.{MethodDefOrRef}
use Rattle.image_model.specs.Columns.{instance_method}
use Rattle.image_namings.proofs.Indexes.{row_there}
use Rattle.value_demands.proofs.Fitting.{method_there}
use Rattle.value_demands.proofs.instances.method_of.Goals as goal

pub returns-in-Some-clause-names : goal.returns-in-Some-clause-names
returns-in-Some-clause-names g c = ap (unpacked MethodDefOrRef) (sym c.method_index.ensures) ∙ sym c.in-Some.ensures.value

pub returns-in-Some-clause-there : goal.returns-in-Some-clause-there
returns-in-Some-clause-there g c =
    row_there c.args.image.now MethodDefOrRef (instance_method c.args.image.now c.args.row) c.in-Some.named.0 c.in-Some.named.1 (method_there c.args.image.now c.args.row c.requires.can.meets c.requires.there)
    (ap (unpacked MethodDefOrRef) (sym c.method_index.ensures) ∙ sym c.in-Some.ensures.value)

pub returns-in-None-clause-names : goal.returns-in-None-clause-names
returns-in-None-clause-names g c =
    let n = method_there c.args.image.now c.args.row c.requires.can.meets c.requires.there in
    absurd (let e = sym n.2 ∙ ap (unpacked MethodDefOrRef) (sym c.method_index.ensures) ∙ sym c.in-None.ensures.value in cc)

pub returns-in-None-clause-there : goal.returns-in-None-clause-there
returns-in-None-clause-there g c =
    let n = method_there c.args.image.now c.args.row c.requires.can.meets c.requires.there in
    absurd (let e = sym n.2 ∙ ap (unpacked MethodDefOrRef) (sym c.method_index.ensures) ∙ sym c.in-None.ensures.value in cc)
