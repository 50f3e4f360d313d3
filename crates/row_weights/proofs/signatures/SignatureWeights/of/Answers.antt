use Rattle.std.proofs.Common.{◌≡◌, ◌<◌, Some, length, sym, ◌∙◌, arith}
use Rattle.std.proofs.lemmas.Option.{slice_get_within, get_or_from_slice_get}
use Rattle.std.specs.Prelude.{slice_get}
use Rattle.row_weights.specs.Signatures.{weighed}
use Rattle.row_weights.proofs.signatures.SignatureWeights.of.Goals as goal

pub index-requires : goal.index-requires
index-requires g c =
    let kept = c.args.self.now.are.kept c.args.kind c.args.index c.in-Some.place (sym (rw c.key.ensures at c.in-Some.ensures)) in
    let within : c.in-Some.place < length c.args.self.now.weights.items =
    slice_get_within c.args.self.now.weights.items c.in-Some.place (weighed c.args.self.now.image.now (g.O.Owners.facts c.args.self.now.owners.now) c.args.kind c.args.index) kept in
    omega (arith, within, c.args.self.now.weights.ok.0)

pub returns-in-Some : goal.returns-in-Some
returns-in-Some g c =
    let kept : slice_get c.args.self.now.weights.items c.in-Some.place ≡ Some (weighed c.args.self.now.image.now (g.O.Owners.facts c.args.self.now.owners.now) c.args.kind c.args.index) =
    c.args.self.now.are.kept c.args.kind c.args.index c.in-Some.place (sym (rw c.key.ensures at c.in-Some.ensures)) in
    c.index.ensures ∙ get_or_from_slice_get c.args.self.now.weights.items c.in-Some.place (weighed c.args.self.now.image.now (g.O.Owners.facts c.args.self.now.owners.now) c.args.kind c.args.index) c.index.result.now kept
