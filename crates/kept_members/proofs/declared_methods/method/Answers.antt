use Rattle.std.proofs.Common.{refl, sym, ◌≡◌, subst, Ok, Some}
use Rattle.type_terms.specs.declared.term.Owner.{Owner}
use Rattle.image_model.specs.Columns.{method_name}
use Rattle.image_model.specs.Naming.{NamesMethod, OwnsMethod}
use Rattle.image_model.specs.Streams.{strings_of}
use Rattle.heaps.specs.Content.{HasText}
use Rattle.sig_codec.specs.Signature.{IsMethod}
use Rattle.row_parts.proofs.Zips.{ok_has}
use Rattle.kept_members.specs.Members.{owners_of, BlobIs}
use Rattle.kept_members.proofs.Found.{if_none, found_is}
use Rattle.kept_members.proofs.Naming.{token, declared, no_reference}
use Rattle.kept_members.proofs.declared_methods.method.Goals as goal

pub sure-requires : goal.sure-requires
sure-requires c = let h = c.requires.can.methods c.args.row c.requires.there in if_none c.method_in.result (λ none. none h.0 h.1) c.method_in.ensures.none

pub returns : goal.returns
returns c =
    let image = c.args.image.now in
    let row = c.args.row in
    let it = c.in_ok-owner in
    let e = c.in_ok-owner.ensures in
    let few = c.requires.can.few_methods row c.requires.there in
    let owner : it.owner ≡ c.args.owner.now = ok_has (λ (o : Owner). o ≡ c.args.owner.now) c.copy.result it.owner e.0 c.copy.ensures in
    let name = ok_has (HasText (strings_of image) (method_name image row)) c.text_of.result it.name e.1.0 c.text_of.ensures in
    let sig = found_is (BlobIs image (IsMethod (owners_of c.args.known.now)) 0x06 row 4) c.method_in.result it.sig (ok_has (λ x. c.method_in.result ≡ Ok (Some x)) c.sure.result it.sig e.1.1 c.sure.ensures) c.method_in.ensures.found in
    (NamesMethod.defined (token 0x06 row few) c.requires.there (subst (OwnsMethod image row) (sym owner) c.requires.owns) name sig.1 sig.2, declared image 0x06 row few (no_reference 0x06 refl))
