use Rattle.std.proofs.Common.{◌≡◌, ◌+◌, ◌++◌, ◌∙◌}
use Rattle.image_model.specs.Written.{root_front, header_bytes, root_of, tables_name, strings_name, user_name, guids_name, blobs_name}
use Rattle.image_model.proofs.MetadataLemmas.{six_pieces, root_of-same}
use Rattle.image_model.proofs.metadata.push_root.Goals as goal

pub returns : goal.returns
returns c =
    let t = c.filled_size-tables.result in
    let s = c.filled_size-strings.result in
    let u = c.filled_size-user.result in
    let g = c.filled_size-guids.result in
    let b = c.filled_size-blobs.result in
    let built : c.push_header-5.new.out ≡ c.args.out.now ++ root_of t s u g b
    = six_pieces c.args.out.now root_front (header_bytes 108 t tables_name) (header_bytes (108 + t) s strings_name) (header_bytes (108 + t + s) u user_name)
    (header_bytes (108 + t + s + u) g guids_name) (header_bytes (108 + t + s + u + g) b blobs_name) c.extend.new.self _ _ _ _ _
    c.in_ok-extend.ensures.ok c.in_ok-push_header.ensures c.in_ok-push_header-2.ensures c.in_ok-push_header-3.ensures c.in_ok-push_header-4.ensures c.in_ok-push_header-5.ensures in
    built ∙ root_of-same t s u g b _ _ _ _ _ c.args.out.now c.filled_size-tables.ensures.size c.filled_size-strings.ensures.size c.filled_size-user.ensures.size
    c.filled_size-guids.ensures.size c.filled_size-blobs.ensures.size
