use Rattle.std.specs.Option.{option_copied}
use Rattle.class_members.proofs.Worlds.{if_ok_more, option_below}
use Rattle.class_members.proofs.Writing.{fact_made}
use Rattle.class_members.proofs.keys.fact_of.Goals as goal

pub types_in-requires : goal.types_in-requires
types_in-requires c = option_below c.args.w.now.nodes c.type_in.new.w.nodes (option_copied c.args.args) c.in_ok-ret.ensures.stays.nodes c.requires.args

pub returns-clause-ok : goal.returns-clause-ok
returns-clause-ok c =
    if_ok_more c.written.result
    (λ fact h. fact_made c.args.w.now c.type_in.new.w c.types_in.new.w c.in_ok-ret.ensures.stays c.in_ok-params.ensures.stays (option_copied c.args.args) c.requires.args c.args.at.now c.has_args-put.result
    c.has_args-put.ensures c.args.owner c.requires.owner c.args.name.now c.as_bytes-bytes.result.now c.as_bytes-bytes.ensures c.args.sig.now c.as_slice-types.result.now c.as_slice-types.ensures c.in_ok-ret.ret c.in_ok-params.params
    c.as_slice-keys.result.now fact c.as_slice-keys.ensures c.in_ok-ret.ensures.ok c.in_ok-params.ensures.ok h)
    c.written.ensures
