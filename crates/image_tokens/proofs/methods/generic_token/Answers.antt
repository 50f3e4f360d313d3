use Rattle.std.proofs.Common.{length, ◌+◌, ◌≤◌, arith}
use Rattle.std.proofs.lemmas.Result.{IfOk-weaker}
use Rattle.assembly_tree.specs.Weight.{owner_weight, signature_weight}
use Rattle.image_tokens.specs.References.{size, HasGenericToken}
use Rattle.image_tokens.proofs.BodyLemmas.{signature_can}
use Rattle.image_tokens.proofs.GrowthLemmas.{grows_trans, tokens_kept}
use Rattle.image_tokens.proofs.LeavesLemmas.{leaves_after}
use Rattle.image_tokens.proofs.PathLemmas.{text_kept}
use Rattle.image_tokens.proofs.methods.generic_token.Goals as goal

pub refer_place-requires-clause-writable : goal.refer_place-requires-clause-writable
refer_place-requires-clause-writable c = c.requires.writable.owner

pub refer_place-requires-clause-no_zero : goal.refer_place-requires-clause-no_zero
refer_place-requires-clause-no_zero c = c.requires.writable.name

pub refer_place-requires-clause-room : goal.refer_place-requires-clause-room
refer_place-requires-clause-room c = let room = c.requires.room in omega arith

pub method_signature-requires-clause-known : goal.method_signature-requires-clause-known
method_signature-requires-clause-known c = c.in_ok-at.ensures.known

pub method_signature-requires-clause-writable : goal.method_signature-requires-clause-writable
method_signature-requires-clause-writable c =
    signature_can c.args.refs.now c.refer_place.new.refs c.in_ok-at.ensures.grows c.args.method.now.sig c.requires.writable.sig

pub method_signature-requires-clause-room : goal.method_signature-requires-clause-room
method_signature-requires-clause-room c = let room = c.requires.room in let first = c.in_ok-at.ensures.room in omega arith

pub row_token-requires-clause-known : goal.row_token-requires-clause-known
row_token-requires-clause-known c = c.in_ok-signature.ensures.known

pub row_token-requires-clause-owner_is : goal.row_token-requires-clause-owner_is
row_token-requires-clause-owner_is c =
    tokens_kept c.refer_place.new.refs c.method_signature.new.refs c.in_ok-signature.ensures.grows c.args.method.now.owner c.in_ok-at.at.0 c.in_ok-at.ensures.owner

pub row_token-requires-clause-name_is : goal.row_token-requires-clause-name_is
row_token-requires-clause-name_is c =
    text_kept c.refer_place.new.refs.heaps.strings c.method_signature.new.refs.heaps.strings c.args.method.now.name c.in_ok-at.at.1 c.in_ok-signature.ensures.grows.strings c.in_ok-at.ensures.name_is

pub row_token-requires-clause-signature_is : goal.row_token-requires-clause-signature_is
row_token-requires-clause-signature_is c = c.in_ok-signature.ensures.signature

pub row_token-requires-clause-named : goal.row_token-requires-clause-named
row_token-requires-clause-named c = c.requires.writable.named

pub row_token-requires-clause-in_bounds : goal.row_token-requires-clause-in_bounds
row_token-requires-clause-in_bounds c = c.requires.writable.sig.in_bounds

pub row_token-requires-clause-room : goal.row_token-requires-clause-room
row_token-requires-clause-room c =
    let room = c.requires.room in
    let first = c.in_ok-at.ensures.room in
    let then = c.in_ok-signature.ensures.room in
    omega arith

pub returns : goal.returns
returns c =
    let m = c.args.method.now in
    let first = c.in_ok-at.ensures.room in
    let then = c.in_ok-signature.ensures.room in
    let place = owner_weight m.owner + length m.name + 1 in
    let le : size c.method_signature.new.refs ≤ size c.args.refs.now + (place + (signature_weight m.sig + 8)) = omega arith in
    let fits : place + (signature_weight m.sig + 8) + 12 ≤ owner_weight m.owner + length m.name + signature_weight m.sig + 21 = omega arith in
    IfOk-weaker c.row_token.result _ _ (λ n h. leaves_after (λ r. HasGenericToken r m) c.args.refs.now c.method_signature.new.refs c.row_token.new.refs _ 12 _ n
    (grows_trans c.args.refs.now c.refer_place.new.refs c.method_signature.new.refs c.in_ok-at.ensures.grows c.in_ok-signature.ensures.grows) le fits h) c.row_token.ensures
