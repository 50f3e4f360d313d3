use Rattle.std.proofs.Common.{◌≡◌, ap, subst, ℕ, List, ◌∷◌, [], ◌+◌, ◌<◌, ◌≤◌, length, arith}
use Rattle.metadata_tables.specs.Encoding.{AddsRow}
use Rattle.image_tokens.specs.Blobs.{HoldsBlob}
use Rattle.image_tokens.specs.References.{Goes}
use Rattle.image_members.proofs.ManifestLemmas.{assembly_bytes_are, assembly_pushed}
use Rattle.image_rows.proofs.manifest_rows.push_assembly.Goals as goal

pub refer_blob-requires-clause-room : goal.refer_blob-requires-clause-room
refer_blob-requires-clause-room c =
    let bytes = assembly_bytes_are c.args.m.now in
    let lent = ap (length {A = ℕ}) c.as_slice.ensures in
    let room = c.requires.room in
    omega arith

pub refer_text-requires-clause-room : goal.refer_text-requires-clause-room
refer_text-requires-clause-room c =
    let bytes = assembly_bytes_are c.args.m.now in
    let lent = ap (length {A = ℕ}) c.as_slice.ensures in
    let first = c.in_ok-key.ensures.goes.size in
    let room = c.requires.room in
    omega arith

pub refer_text-requires-2-clause-room : goal.refer_text-requires-2-clause-room
refer_text-requires-2-clause-room c =
    let bytes = assembly_bytes_are c.args.m.now in
    let lent = ap (length {A = ℕ}) c.as_slice.ensures in
    let first = c.in_ok-key.ensures.goes.size in
    let then = c.in_ok-name.ensures.room in
    let room = c.requires.room in
    omega arith

pub push-requires-clause-cells : goal.push-requires-clause-cells
push-requires-clause-cells c = c.assembly_cells-cells.ensures.row

pub returns : goal.returns
returns c =
    let m = c.args.m.now in
    let goes : Goes c.args.refs.now c.refer_blob.new.refs (length m.key + 4) =
    subst (λ (xs : List ℕ). Goes c.args.refs.now c.refer_blob.new.refs (length xs + 4)) c.as_slice.ensures c.in_ok-key.ensures.goes in
    let key : HoldsBlob c.refer_blob.new.refs.heaps.blobs m.key c.in_ok-key.key =
    subst (λ (xs : List ℕ). HoldsBlob c.refer_blob.new.refs.heaps.blobs xs c.in_ok-key.key) c.as_slice.ensures c.in_ok-key.ensures.holds in
    assembly_pushed c.args.refs.now c.refer_blob.new.refs c.refer_text.new.refs c.refer_text-2.new.refs c.args.rows.now c.push.new.self m c.in_ok-key.key c.in_ok-name.name c.in_ok-culture.culture
    goes key c.in_ok-name.ensures c.in_ok-culture.ensures
    (subst (λ (cells : List ℕ). AddsRow c.args.rows.now c.push.new.self 0x20 cells) c.assembly_cells-cells.ensures.cells c.in_ok-push.ensures.added)
