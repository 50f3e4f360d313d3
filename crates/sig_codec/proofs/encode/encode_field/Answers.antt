use Rattle.sig_codec.specs.Spelling.{writing}
use Rattle.sig_codec.proofs.Written.{begun, chain_1}
use Rattle.sig_codec.proofs.encode.encode_field.Goals as goal

pub returns : goal.returns
returns g c =
    let tokens = g.N.Numberer.owner_tokens c.args.map.now in
    let w = writing tokens in
    let r = c.in_ok-push_type.ensures in
    let first = begun c.new-out.result c.push.new.self 0x06 c.new-out.ensures c.in_ok-push.ensures.ok in
    (r.0, chain_1 c.push.new.self c.push_type.new.out 0x06 r.0 first r.1, r.2)
