use Rattle.std.proofs.Common.{sym, subst, ℕ, ◌+◌, ◌<◌, List, length, refl, inl, ◌^◌}
use Rattle.std.proofs.lemmas.Result.{IfOk-weaker}
use Rattle.image_members.specs.CodeBytes.{all_tokens, AddsBody}
use Rattle.image_members.specs.Placing.{Puts}
use Rattle.image_members.proofs.CodeLemmas.{body_added, room_for_body}
use Rattle.image_members.proofs.bodies.push_body.Goals as goal

pub note_body-requires-clause-writable : goal.note_body-requires-clause-writable
note_body-requires-clause-writable c = c.requires.can.writable

pub write_body-requires-clause-known : goal.write_body-requires-clause-known
write_body-requires-clause-known c = c.in_ok-note_body.ensures.known

pub write_body-requires-clause-tokens : goal.write_body-requires-clause-tokens
write_body-requires-clause-tokens c = c.in_ok-note_body.ensures.has

pub write_body-requires-clause-form : goal.write_body-requires-clause-form
write_body-requires-clause-form c = c.requires.can.form

pub write_body-requires-clause-reaches : goal.write_body-requires-clause-reaches
write_body-requires-clause-reaches c = c.requires.can.reaches

pub put_bytes-requires-clause-multiple : goal.put_bytes-requires-clause-multiple
put_bytes-requires-clause-multiple c = inl refl

pub put_bytes-requires-clause-room : goal.put_bytes-requires-clause-room
put_bytes-requires-clause-room c =
    subst (λ (bs : List ℕ). length c.args.code.now + length bs < 2 ^ 27) (sym c.as_slice.ensures)
    (room_for_body (all_tokens c.note_body.new.refs) c.args.body.now c.write_body.new.space.bytes c.args.code.now c.in_ok-write_body.ensures c.requires.long)

pub returns : goal.returns
returns c =
    let b = c.args.body.now in
    let later = c.note_body.new.refs in
    let from = c.args.code.now in
    let to = c.put_bytes.new.code in
    IfOk-weaker c.put_bytes.result (Puts 4 c.as_slice.result.now from to) (AddsBody b c.args.refs.now later from to)
    (λ rva h. body_added c.args.refs.now later from to b c.write_body.new.space.bytes rva c.in_ok-note_body.ensures c.in_ok-write_body.ensures (subst (λ (bs : List ℕ). Puts 4 bs from to rva) c.as_slice.ensures h)) c.put_bytes.ensures
