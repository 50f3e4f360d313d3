use Rattle.std.proofs.Common.{Some, None, sym, ◌∙◌, ap}
use Rattle.heaps.specs.LookUp.{blob_in}
use Rattle.image_model.specs.Streams.{blobs_of}
use Rattle.attribute_demands.proofs.Attributed.{spells_told, spells_none}
use Rattle.attribute_demands.proofs.constructors.is_method.Goals as goal

pub returns-in-Some : goal.returns-in-Some
returns-in-Some g c =
    let there = ap (blob_in (blobs_of c.args.image.now)) (sym c.signature_index.ensures) ∙ sym c.in-Some.ensures in
    spells_told c.args.image.now (g.O.Owners.facts c.args.facts.now) c.args.row c.is_there.result c.in-Some.blob.now c.scan_method.result there c.scan_method.ensures.steps c.is_there.ensures

pub returns-in-None : goal.returns-in-None
returns-in-None g c =
    let there = ap (blob_in (blobs_of c.args.image.now)) (sym c.signature_index.ensures) ∙ sym c.in-None.ensures in
    spells_none c.args.image.now (g.O.Owners.facts c.args.facts.now) c.args.row there
