use Rattle.std.proofs.Common.{inl, inr, ◌≡◌, Some, Ok}
use Rattle.heaps.specs.Content.{HasText}
use Rattle.image_model.specs.Columns.{member_name}
use Rattle.image_model.specs.Naming.{NamesField, OwnsMember}
use Rattle.image_model.specs.Streams.{strings_of}
use Rattle.sig_codec.specs.Signature.{IsField}
use Rattle.row_parts.proofs.Zips.{ok_has}
use Rattle.kept_members.specs.Members.{owners_of, BlobIs}
use Rattle.kept_members.proofs.Found.{if_none, found_is}
use Rattle.kept_members.proofs.Naming.{token, in_use, used_there}
use Rattle.kept_members.proofs.references.field.Goals as goal

pub text_of-requires-clause-there : goal.text_of-requires-clause-there
text_of-requires-clause-there c = used_there c.requires.used

pub field_in-requires-clause-there : goal.field_in-requires-clause-there
field_in-requires-clause-there c = used_there c.requires.used

pub sure-requires : goal.sure-requires
sure-requires c =
    if_none c.field_in.result (λ none. elim (c.requires.can.members c.args.row c.requires.used) [ inl m ↦ c.requires.no_method m.0 m.1 | inr f ↦ none f.0 f.1 ]) c.field_in.ensures.none

pub returns : goal.returns
returns c =
    let image = c.args.image.now in
    let row = c.args.row in
    let it = c.in_ok-owner in
    let e = c.in_ok-owner.ensures in
    let there = used_there c.requires.used in
    let few = c.requires.can.few_members row there in
    let owner = ok_has (OwnsMember image (owners_of c.args.known.now) row) c.member_owner.result it.owner e.0 c.member_owner.ensures in
    let name = ok_has (HasText (strings_of image) (member_name image row)) c.text_of.result it.name e.1.0 c.text_of.ensures in
    let of = found_is (BlobIs image (IsField (owners_of c.args.known.now)) 0x0A row 2) c.field_in.result it.of (ok_has (λ x. c.field_in.result ≡ Ok (Some x)) c.sure.result it.of e.1.1 c.sure.ensures) c.field_in.ensures.found in
    (NamesField.referred (token 0x0A row few) there owner name of.1 of.2, in_use image 0x0A row few c.requires.used)
