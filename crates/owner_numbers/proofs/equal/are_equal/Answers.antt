use Rattle.std.proofs.Common.{◌≡◌, ℕ, List, Some, sym, ap, subst}
use Rattle.heaps.specs.LookUp.{blob_in}
use Rattle.image_model.specs.Columns.{type_spec_signature}
use Rattle.image_model.specs.Streams.{blobs_of}
use Rattle.owner_numbers.specs.Canon.{Classes}
use Rattle.owner_numbers.proofs.Comparing.{equal_told}
use Rattle.owner_numbers.proofs.equal.are_equal.Goals as goal

pub returns : goal.returns
returns c =
    let e = ap (λ (it : Classes). it.image) c.known.view_is in
    equal_told c.args.known.now c.args.row c.args.other c.requires c.blob_of-a.result.now c.blob_of-b.result.now c.same_type.result
    (λ bytes h. c.blob_of-a.ensures bytes (subst (λ (i : List ℕ). blob_in (blobs_of i) (type_spec_signature i c.args.other) ≡ Some bytes) (sym e) h))
    (λ bytes h. c.blob_of-b.ensures bytes (subst (λ (i : List ℕ). blob_in (blobs_of i) (type_spec_signature i c.args.row) ≡ Some bytes) (sym e) h)) c.same_type.ensures
