use Rattle.std.proofs.Common.{◌∙◌, ap, length, arith}
use Rattle.image_layout.specs.Sizes.{is_wide}
use Rattle.image_layout.proofs.IndexLemmas.{heap_bytes_are, flags_are}
use Rattle.image_layout.proofs.layout.heap_flags.Goals as goal

pub is_wide-strings-requires : goal.is_wide-strings-requires
is_wide-strings-requires c =
    let heaps = heap_bytes_are c.args.refs.now in
    let same = ap length c.bytes.ensures.bytes in
    let small = c.requires in
    omega arith

pub is_wide-blobs-requires : goal.is_wide-blobs-requires
is_wide-blobs-requires c =
    let heaps = heap_bytes_are c.args.refs.now in
    let same = ap length c.bytes-2.ensures.bytes in
    let small = c.requires in
    omega arith

pub returns : goal.returns
returns c =
    flags_are c.args.refs.now c.is_wide-strings.result c.is_wide-blobs.result c.flag_of.result c.flag_of-2.result
    (c.is_wide-strings.ensures ∙ ap is_wide c.bytes.ensures.bytes) (c.is_wide-blobs.ensures ∙ ap is_wide c.bytes-2.ensures.bytes)
    c.flag_of.ensures.value c.flag_of-2.ensures.value
