use Rattle.std.proofs.Common.{ap, length, arith}
use Rattle.std.proofs.lemmas.Result.{IfOk-weaker}
use Rattle.image_layout.specs.Sizes.{heap_flags}
use Rattle.image_layout.proofs.IndexLemmas.{heap_bytes_are}
use Rattle.image_layout.proofs.StreamLemmas.{stream_short}
use Rattle.image_layout.proofs.layout.make_metadata.Goals as goal

pub put_together-requires : goal.put_together-requires
put_together-requires c =
    let long = stream_short c.args.rows.now (heap_flags c.args.refs.now) c.as_slice-stream.result.now c.are_bytes.ensures (rw c.as_slice-stream.ensures c.in_ok-tables.ensures) in
    let heaps = heap_bytes_are c.args.refs.now in
    let strings = ap length c.bytes.ensures.bytes in
    let user = ap length c.bytes-2.ensures.bytes in
    let blobs = ap length c.bytes-3.ensures.bytes in
    let id = c.requires.id in
    let room = c.requires.size in
    omega arith

pub returns-clause-len : goal.returns-clause-len
returns-clause-len c =
    let long = stream_short c.args.rows.now (heap_flags c.args.refs.now) c.as_slice-stream.result.now c.are_bytes.ensures (rw c.as_slice-stream.ensures c.in_ok-tables.ensures) in
    let heaps = heap_bytes_are c.args.refs.now in
    let strings = ap length c.bytes.ensures.bytes in
    let user = ap length c.bytes-2.ensures.bytes in
    let blobs = ap length c.bytes-3.ensures.bytes in
    let id = c.requires.id in
    IfOk-weaker c.put_together.result _ _ (λ m h. omega (arith, h)) c.put_together.ensures.len
