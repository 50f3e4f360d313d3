use Rattle.std.proofs.Common.{sym, ◌∙◌, ap}
use Rattle.metadata_tables.specs.CodedIndex.{unpacked}
use Rattle.metadata_tables.specs.declared.coded.Coded.TheVariants.{CustomAttributeType}
use Rattle.attribute_demands.proofs.Attributed.{constructor_there}
use Rattle.attribute_demands.proofs.constructors.constructor_of.Goals as goal

pub returns-in-Some : goal.returns-in-Some
returns-in-Some g c = ap (unpacked CustomAttributeType) (sym c.type_index.ensures) ∙ sym c.in-Some.ensures.value

pub returns-in-None : goal.returns-in-None
returns-in-None g c =
    let n = constructor_there c.args.image.now c.args.row c.requires.can.meets c.requires.there in
    absurd (let e = sym n.2 ∙ ap (unpacked CustomAttributeType) (sym c.type_index.ensures) ∙ sym c.in-None.ensures.value in cc)
