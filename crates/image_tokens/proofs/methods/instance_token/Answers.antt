use Rattle.std.proofs.Common.{ap, subst, arith}
use Rattle.std.proofs.lemmas.Result.{IfOk-weaker}
use Rattle.image_tokens.specs.Bounds.{AreArgumentsInBounds}
use Rattle.image_tokens.specs.Members.{instance_weight}
use Rattle.image_tokens.specs.Writable.{AreArgumentsWritable}
use Rattle.image_tokens.proofs.GrowthLemmas.{generic_kept}
use Rattle.image_tokens.proofs.GivenLemmas.{without_arguments, with_arguments}
use Rattle.image_tokens.proofs.methods.instance_token.Goals as goal

pub returns-in-None : goal.returns-in-None
returns-in-None c = without_arguments c.args.refs.now c.args.method.now c.args.generic c.requires.known c.in-None.is c.requires.generic_is

pub arguments_signature-requires-clause-writable : goal.arguments_signature-requires-clause-writable
arguments_signature-requires-clause-writable c = (subst (AreArgumentsWritable c.args.refs.now) c.in-Some.is c.requires.writable).2

pub arguments_signature-requires-clause-some : goal.arguments_signature-requires-clause-some
arguments_signature-requires-clause-some c = (subst (AreArgumentsWritable c.args.refs.now) c.in-Some.is c.requires.writable).0

pub arguments_signature-requires-clause-count : goal.arguments_signature-requires-clause-count
arguments_signature-requires-clause-count c = (subst (AreArgumentsWritable c.args.refs.now) c.in-Some.is c.requires.writable).1

pub arguments_signature-requires-clause-room : goal.arguments_signature-requires-clause-room
arguments_signature-requires-clause-room c = let weighs = ap instance_weight c.in-Some.is in let room = c.requires.room in omega arith

pub instance_row-requires-clause-known : goal.instance_row-requires-clause-known
instance_row-requires-clause-known c = c.in_ok-signature-in-Some.ensures.known

pub instance_row-requires-clause-generic_is : goal.instance_row-requires-clause-generic_is
instance_row-requires-clause-generic_is c =
    generic_kept c.args.refs.now c.arguments_signature.new.refs c.args.method.now c.args.generic c.in_ok-signature-in-Some.ensures.grows c.requires.generic_is

pub instance_row-requires-clause-signature_is : goal.instance_row-requires-clause-signature_is
instance_row-requires-clause-signature_is c =
    let bounds = subst (AreArgumentsInBounds c.args.method.now.sig.generic) c.in-Some.is c.requires.in_bounds in
    (c.in-Some.args, c.in_ok-signature-in-Some.ensures.signature, bounds.0, bounds.1)

pub instance_row-requires-clause-room : goal.instance_row-requires-clause-room
instance_row-requires-clause-room c =
    let weighs = ap instance_weight c.in-Some.is in
    let room = c.requires.room in
    let first = c.in_ok-signature-in-Some.ensures.room in
    omega arith

pub returns-in_ok-signature-in-Some : goal.returns-in_ok-signature-in-Some
returns-in_ok-signature-in-Some c =
    IfOk-weaker c.instance_row.result _ _ (λ n h. with_arguments c.args.refs.now c.arguments_signature.new.refs c.instance_row.new.refs c.args.method.now c.in-Some.args c.args.generic c.in_ok-signature-in-Some.signature n
    c.in-Some.is c.requires.generic_is c.in_ok-signature-in-Some.ensures h) c.instance_row.ensures
