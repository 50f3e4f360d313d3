use Rattle.std.proofs.Common.{◌≡◌, ◌+◌, IfSome, subst, arith}
use Rattle.sig_codec.specs.Signature.{AreLocals}
use Rattle.image_model.specs.Naming.{NamesLocals}
use Rattle.image_model.specs.Rows.{token_of}
use Rattle.kept_members.specs.Maps.{all_of}
use Rattle.kept_members.specs.Members.{owners_of}
use Rattle.kept_members.proofs.Adding.{on_ok, adds_at, has_at}
use Rattle.kept_members.proofs.Naming.{used_there, token, in_use}
use Rattle.kept_texts.specs.Texts.{AreLocalsOf}
use Rattle.kept_texts.proofs.locals.keep_row.Goals as goal

pub blob_at-bytes-requires-clause-there : goal.blob_at-bytes-requires-clause-there
blob_at-bytes-requires-clause-there c = used_there c.requires.used

pub blob_at-bytes-requires-clause-meets : goal.blob_at-bytes-requires-clause-meets
blob_at-bytes-requires-clause-meets c = c.requires.can.structure

pub returns-clause-adds : goal.returns-clause-adds
returns-clause-adds c =
    let image = c.args.image.now in
    let row = c.args.row in
    let key : 0x11000000 + c.from.result ≡ token_of 0x11 row = (let e = c.from.ensures in omega (arith, e)) in
    let is = subst (λ o. IfSome o (AreLocals (owners_of c.args.known.now) c.blob_at-bytes.result.now)) c.in-Some.is c.in_ok-types.ensures.found in
    on_ok c.keep.result c.keep.ensures.ok
    (λ put. adds_at (AreLocalsOf image c.args.known.now) (all_of c.args.locals.now) (all_of c.keep.new.self) (0x11000000 + c.from.result) (token_of 0x11 row) c.in-Some.types put key
    (NamesLocals.signed (token 0x11 row c.requires.few) (used_there c.requires.used) c.blob_at-bytes.ensures is, in_use image 0x11 row c.requires.few c.requires.used))

pub returns-clause-has : goal.returns-clause-has
returns-clause-has c =
    let key : 0x11000000 + c.from.result ≡ token_of 0x11 c.args.row = (let e = c.from.ensures in omega (arith, e)) in
    on_ok c.keep.result c.keep.ensures.ok
    (λ put. has_at (all_of c.args.locals.now) (all_of c.keep.new.self) (0x11000000 + c.from.result) (token_of 0x11 c.args.row) c.in-Some.types put key)
