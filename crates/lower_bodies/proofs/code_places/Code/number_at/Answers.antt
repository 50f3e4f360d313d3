use Rattle.std.proofs.Common.{◌≡◌, ◌<◌, ◌^◌, ◌∙◌, map, refl, arith}
use Rattle.std.proofs.lemmas.List.{length-map}
use Rattle.source_model.specs.Instructions.{instructions_of, mnemonic_token, number_at}
use Rattle.lower_manifest.proofs.CodeLemmas.{number_fits, number_of_starts}
use Rattle.source_nodes.proofs.PieceLemmas.{as_many}
use Rattle.lower_bodies.proofs.code_places.Code.number_at.Goals as goal

pub returns : goal.returns
returns c s f x =
    let ps = instructions_of f in
    let starts = map mnemonic_token ps in
    let k = c.args.token in
    let is : c.number_before.result ≡ number_at f k =
    number_of_starts f starts k c.number_before.result refl (c.number_before.ensures ps x.instructions-are x.rising) in
    let many = as_many c.args.self.now.nodes.now c.args.self.now.instructions.now ps x.instructions-are in
    let few : c.number_before.result < 2 ^ 32 = omega (arith, is, number_fits f starts k refl, length-map ps mnemonic_token, many, x.few) in
    c.word_of.ensures few ∙ is
