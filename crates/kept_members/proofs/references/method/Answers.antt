use Rattle.std.proofs.Common.{◌≡◌, subst}
use Rattle.heaps.specs.Content.{HasText}
use Rattle.image_model.specs.Columns.{member_name}
use Rattle.image_model.specs.Naming.{NamesMethod, OwnsMember}
use Rattle.image_model.specs.Streams.{strings_of}
use Rattle.image_model.specs.Terms.{MemberHasMethod}
use Rattle.image_source.specs.Names.{names_of}
use Rattle.type_terms.specs.declared.reference.MethodSig.{MethodSig}
use Rattle.row_parts.proofs.Zips.{ok_has}
use Rattle.kept_members.specs.Members.{owners_of}
use Rattle.kept_members.proofs.Naming.{token, in_use, used_there}
use Rattle.kept_members.proofs.references.method.Goals as goal

pub text_of-requires-clause-there : goal.text_of-requires-clause-there
text_of-requires-clause-there c = used_there c.requires.used

pub text_of-requires-clause-meets : goal.text_of-requires-clause-meets
text_of-requires-clause-meets c = c.requires.can.structure

pub returns : goal.returns
returns c =
    let image = c.args.image.now in
    let row = c.args.row in
    let it = c.in_ok-owner in
    let e = c.in_ok-owner.ensures in
    let there = used_there c.requires.used in
    let few = c.requires.can.few_members row there in
    let owner = ok_has (OwnsMember image (owners_of c.args.known.now) row) c.member_owner.result it.owner e.0 c.member_owner.ensures in
    let name = ok_has (HasText (strings_of image) (member_name image row)) c.text_of.result it.name e.1.0 c.text_of.ensures in
    let same : c.args.sig ≡ it.sig = cc in
    let sig = subst (λ (s : MethodSig). MemberHasMethod image (names_of c.args.known.now) row s) same c.requires.sig in
    (NamesMethod.referred (token 0x0A row few) there owner name sig.1 sig.2, in_use image 0x0A row few c.requires.used)
