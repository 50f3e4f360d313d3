use Rattle.std.proofs.Common.{refl, sym, ◌≡◌, subst, Ok, Some}
use Rattle.type_terms.specs.declared.term.Owner.{Owner}
use Rattle.image_model.specs.Columns.{field_name}
use Rattle.image_model.specs.Streams.{strings_of}
use Rattle.heaps.specs.Content.{HasText}
use Rattle.sig_codec.specs.Signature.{IsField}
use Rattle.row_parts.proofs.Zips.{ok_has}
use Rattle.kept_members.specs.Members.{owners_of, BlobIs, OwnsField}
use Rattle.kept_members.proofs.Found.{if_none, found_is}
use Rattle.kept_members.proofs.Naming.{token, declared, no_reference, field_named}
use Rattle.kept_members.proofs.declared_fields.field.Goals as goal

pub sure-requires : goal.sure-requires
sure-requires c = let h = c.requires.can.fields c.args.row c.requires.there in if_none c.field_in.result (λ none. none h.0 h.1) c.field_in.ensures.none

pub returns : goal.returns
returns c =
    let image = c.args.image.now in
    let row = c.args.row in
    let it = c.in_ok-owner in
    let e = c.in_ok-owner.ensures in
    let few = c.requires.can.few_fields row c.requires.there in
    let owner : it.owner ≡ c.args.owner.now = ok_has (λ (o : Owner). o ≡ c.args.owner.now) c.copy.result it.owner e.0 c.copy.ensures in
    let name = ok_has (HasText (strings_of image) (field_name image row)) c.text_of.result it.name e.1.0 c.text_of.ensures in
    let sig = found_is (BlobIs image (IsField (owners_of c.args.known.now)) 0x04 row 2) c.field_in.result it.of (ok_has (λ x. c.field_in.result ≡ Ok (Some x)) c.sure.result it.of e.1.1 c.sure.ensures) c.field_in.ensures.found in
    (field_named image (owners_of c.args.known.now) row (subst (OwnsField image row) (sym owner) c.requires.owns) (token 0x04 row few) name sig.1 sig.2, declared image 0x04 row few (no_reference 0x04 refl))
