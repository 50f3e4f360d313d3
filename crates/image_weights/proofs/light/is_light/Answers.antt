use Rattle.std.proofs.Common.{◌≡◌, subst, arith}
use Rattle.std.proofs.lemmas.Bool.{ltb-true, lt-ltb}
use Rattle.body_codec.specs.Names.{NameMap}
use Rattle.image_model.specs.Reading.{IsAssembly}
use Rattle.image_weights.proofs.Alike.{weighs_little, told_little}
use Rattle.image_weights.proofs.Whole.{Laws, stands_are, assembly_weighs}
use Rattle.image_weights.proofs.light.is_light.Goals as goal

pub charge_image-requires-clause-stands : goal.charge_image-requires-clause-stands
charge_image-requires-clause-stands g c = let m = c.requires.meets in stands_are c.args.source.now.image.now m.0 m.1

pub returns : goal.returns
returns g c = λ names a namings is.
    let image = c.args.source.now.image.now in
    let told = g.W.RowWeights.told c.args.source.now.weights.now in
    let m = c.requires.meets in
    let laws : Laws = record {
      text = c.one_content_at_an_index.ensures.text;
      blob = c.one_content_at_an_index.ensures.blob;
      field = c.bytes_spell_one_signature.ensures.field;
      reads = c.read_is_spelled.ensures.type_of;
      total = c.orders_are_total.ensures.owners;
      computed = c.blob_is_computed.ensures;
    } in
    let one : names ≡ m.0 = c.tokens_name_one_thing.ensures image names m.0 namings m.1.named in
    let h = assembly_weighs image m.0 m.1 laws told c.requires.weights c.args.source.now.sizes.now m.2 c.args.source.now.fresh.now (c.requires.fresh m.0 m.1.named) a (subst (λ (n : NameMap). IsAssembly image n a) one is) in
    let left = c.charge_image.ensures in (
      λ is_less. weighs_little h (let l = ltb-true 0 c.charge_image.result is_less in omega (arith, left, l)),
      λ le. lt-ltb 0 c.charge_image.result (let k = told_little h le in omega (arith, left, k)),
    )
