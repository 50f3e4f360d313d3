use Rattle.std.proofs.Common.{Some, sym, ◌∙◌, ap}
use Rattle.std.proofs.lemmas.Option.{same_Some}
use Rattle.heaps.specs.LookUp.{blob_in}
use Rattle.image_model.specs.Streams.{blobs_of}
use Rattle.owner_numbers.proofs.equal.blob_of.Goals as goal

pub returns-in-Some : goal.returns-in-Some
returns-in-Some c = λ bytes e. same_Some c.in-Some.blob.now bytes (c.in-Some.ensures ∙ ap (blob_in (blobs_of c.args.image.now)) c.index_of.ensures ∙ e)

pub returns-in-None : goal.returns-in-None
returns-in-None c = λ bytes e. absurd (let n = c.in-None.ensures ∙ ap (blob_in (blobs_of c.args.image.now)) c.index_of.ensures ∙ e in cc)
