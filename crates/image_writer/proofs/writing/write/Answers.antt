use Rattle.std.proofs.Common.{◌≡◌, ◌⊎◌, ap, ℕ, ◌<◌, ◌≤◌, ◌^◌, Err, inl, inr, length, arith}
use Rattle.image_writer.specs.declared.fault.WriteFault.TheVariants.{StringsFull}
use Rattle.image_writer.proofs.WriteLemmas.{room_is, has_full}
use Rattle.image_writer.proofs.writing.write.Goals as goal

pub returns-then-room-gt-ROOM-clause-refused : goal.returns-then-room-gt-ROOM-clause-refused
returns-then-room-gt-ROOM-clause-refused c =
    let light = c.if-weight-gt-LIMIT.false in
    let full = c.if-room-gt-ROOM.true in
    has_full c.args.a.now c.in_ok-user.user c.bytes.result.now c.weigh-weighed.result.weight c.bytes.ensures.bytes c.in_ok-user.ensures c.weigh-weighed.ensures.weight (omega arith) (omega arith)

pub returns-then-room-gt-ROOM-clause-strings_full : goal.returns-then-room-gt-ROOM-clause-strings_full
returns-then-room-gt-ROOM-clause-strings_full c =
    λ small full. inl (ap (λ (n : ℕ). Err (StringsFull n)) (room_is c.args.a.now c.in_ok-user.user c.bytes.result.now c.bytes.ensures.bytes c.in_ok-user.ensures))

pub returns-clause-strings_full : goal.returns-clause-strings_full
returns-clause-strings_full c =
    λ small full.
    let same = room_is c.args.a.now c.in_ok-user.user c.bytes.result.now c.bytes.ensures.bytes c.in_ok-user.ensures in
    let few = c.if-room-gt-ROOM.false in
    absurd (omega arith)
