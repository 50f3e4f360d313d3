use Rattle.std.proofs.Common.{◌≡◌, List, ℕ, Option, Some, None, sym, ◌∙◌, ap}
use Rattle.heaps.specs.LookUp.{blob_in}
use Rattle.image_model.specs.Streams.{blobs_of}
use Rattle.distinct_members.specs.Signed.{sig_hash}
use Rattle.distinct_members.proofs.Signing.{method_hash_is}
use Rattle.distinct_members.proofs.signatures.method_hash.Goals as goal

pub returns-in-Some : goal.returns-in-Some
returns-in-Some g c =
    let heap = blobs_of c.args.image.now in
    let there = ap (blob_in heap) (sym c.method_index.ensures) ∙ sym c.in-Some.ensures in
    c.sig_hash.ensures ∙ ap sig_hash c.scan_method.ensures.steps ∙ sym (method_hash_is c.args.image.now (g.O.Owners.facts c.args.facts.now) c.args.row (Some c.in-Some.blob.now) there)

pub returns-in-None : goal.returns-in-None
returns-in-None g c =
    let heap = blobs_of c.args.image.now in
    let there = ap (blob_in heap) (sym c.method_index.ensures) ∙ sym c.in-None.ensures in
    sym (method_hash_is c.args.image.now (g.O.Owners.facts c.args.facts.now) c.args.row None there)
