use Rattle.std.proofs.Common.{sym, length, ◌+◌, ◌≤◌, arith}
use Rattle.std.proofs.lemmas.Result.{IfOk-weaker}
use Rattle.assembly_tree.specs.Weight.{field_ref_weight, owner_weight, type_weight}
use Rattle.image_tokens.specs.Members.{HasField}
use Rattle.image_tokens.specs.References.{size}
use Rattle.image_tokens.proofs.GrowthLemmas.{grows_trans, tokens_kept}
use Rattle.image_tokens.proofs.LeavesLemmas.{leaves_there, leaves_after}
use Rattle.image_tokens.proofs.MemberLemmas.{field_weighs}
use Rattle.image_tokens.proofs.PathLemmas.{text_kept}
use Rattle.image_tokens.proofs.WritableLemmas.{still_writable}
use Rattle.image_tokens.proofs.members.refer_field.Goals as goal

pub returns-in-Some : goal.returns-in-Some
returns-in-Some c =
    leaves_there (HasField c.args.field.now) c.args.refs.now (field_ref_weight c.args.field.now) c.in-Some.token c.requires.known (sym c.in-Some.ensures)

pub refer_place-requires-clause-writable : goal.refer_place-requires-clause-writable
refer_place-requires-clause-writable c = c.requires.writable.owner

pub refer_place-requires-clause-no_zero : goal.refer_place-requires-clause-no_zero
refer_place-requires-clause-no_zero c = c.requires.writable.name

pub refer_place-requires-clause-room : goal.refer_place-requires-clause-room
refer_place-requires-clause-room c = let weighs = field_weighs c.args.field.now in let room = c.requires.room in omega arith

pub field_signature-requires-clause-known : goal.field_signature-requires-clause-known
field_signature-requires-clause-known c = c.in_ok-at.ensures.known

pub field_signature-requires-clause-writable : goal.field_signature-requires-clause-writable
field_signature-requires-clause-writable c =
    still_writable c.args.refs.now c.refer_place.new.refs c.in_ok-at.ensures.grows c.args.field.now.of c.requires.writable.of

pub field_signature-requires-clause-room : goal.field_signature-requires-clause-room
field_signature-requires-clause-room c =
    let weighs = field_weighs c.args.field.now in
    let room = c.requires.room in
    let first = c.in_ok-at.ensures.room in
    omega arith

pub give_field-requires-clause-known : goal.give_field-requires-clause-known
give_field-requires-clause-known c = c.in_ok-signature.ensures.known

pub give_field-requires-clause-owner_is : goal.give_field-requires-clause-owner_is
give_field-requires-clause-owner_is c =
    tokens_kept c.refer_place.new.refs c.field_signature.new.refs c.in_ok-signature.ensures.grows c.args.field.now.owner c.in_ok-at.at.0 c.in_ok-at.ensures.owner

pub give_field-requires-clause-name_is : goal.give_field-requires-clause-name_is
give_field-requires-clause-name_is c =
    text_kept c.refer_place.new.refs.heaps.strings c.field_signature.new.refs.heaps.strings c.args.field.now.name c.in_ok-at.at.1 c.in_ok-signature.ensures.grows.strings c.in_ok-at.ensures.name_is

pub give_field-requires-clause-signature_is : goal.give_field-requires-clause-signature_is
give_field-requires-clause-signature_is c = c.in_ok-signature.ensures.signature

pub give_field-requires-clause-named : goal.give_field-requires-clause-named
give_field-requires-clause-named c = c.requires.writable.named

pub give_field-requires-clause-in_bounds : goal.give_field-requires-clause-in_bounds
give_field-requires-clause-in_bounds c = c.requires.writable.in_bounds

pub give_field-requires-clause-room : goal.give_field-requires-clause-room
give_field-requires-clause-room c =
    let weighs = field_weighs c.args.field.now in
    let room = c.requires.room in
    let first = c.in_ok-at.ensures.room in
    let then = c.in_ok-signature.ensures.room in
    omega arith

pub returns : goal.returns
returns c =
    let f = c.args.field.now in
    let weighs = field_weighs f in
    let first = c.in_ok-at.ensures.room in
    let then = c.in_ok-signature.ensures.room in
    let le : size c.field_signature.new.refs ≤ size c.args.refs.now + (owner_weight f.owner + length f.name + 1 + type_weight f.of) = omega arith in
    let fits : owner_weight f.owner + length f.name + 1 + type_weight f.of + 12 ≤ field_ref_weight f = omega arith in
    IfOk-weaker c.give_field.result _ _ (λ n h. leaves_after (HasField f) c.args.refs.now c.field_signature.new.refs c.give_field.new.refs _ 12 (field_ref_weight f) n
    (grows_trans c.args.refs.now c.refer_place.new.refs c.field_signature.new.refs c.in_ok-at.ensures.grows c.in_ok-signature.ensures.grows) le fits h) c.give_field.ensures
