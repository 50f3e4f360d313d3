use Rattle.std.proofs.Common.{sym, length, ◌+◌, ◌≤◌, arith}
use Rattle.std.proofs.lemmas.Result.{IfOk-weaker}
use Rattle.assembly_tree.specs.Weight.{method_ref_weight, owner_weight, signature_weight}
use Rattle.image_tokens.specs.Members.{HasMethod, instance_weight}
use Rattle.image_tokens.specs.References.{size}
use Rattle.image_tokens.proofs.GivenLemmas.{method_fits, arguments_can}
use Rattle.image_tokens.proofs.GrowthLemmas.{grows_trans}
use Rattle.image_tokens.proofs.LeavesLemmas.{leaves_there, leaves_after}
use Rattle.image_tokens.proofs.methods.refer_method.Goals as goal

pub returns-in-Some : goal.returns-in-Some
returns-in-Some c =
    leaves_there (HasMethod c.args.method.now) c.args.refs.now (method_ref_weight c.args.method.now) c.in-Some.token c.requires.known (sym c.in-Some.ensures)

pub generic_token-requires-clause-room : goal.generic_token-requires-clause-room
generic_token-requires-clause-room c = let fits = method_fits c.args.method.now in let room = c.requires.room in omega arith

pub instance_token-requires-clause-known : goal.instance_token-requires-clause-known
instance_token-requires-clause-known c = c.in_ok-generic.ensures.known

pub instance_token-requires-clause-generic_is : goal.instance_token-requires-clause-generic_is
instance_token-requires-clause-generic_is c = c.in_ok-generic.ensures.is

pub instance_token-requires-clause-writable : goal.instance_token-requires-clause-writable
instance_token-requires-clause-writable c =
    arguments_can c.args.refs.now c.generic_token.new.refs c.in_ok-generic.ensures.grows c.args.method.now.args c.requires.writable.args

pub instance_token-requires-clause-in_bounds : goal.instance_token-requires-clause-in_bounds
instance_token-requires-clause-in_bounds c = c.requires.writable.in_bounds

pub instance_token-requires-clause-room : goal.instance_token-requires-clause-room
instance_token-requires-clause-room c =
    let fits = method_fits c.args.method.now in
    let room = c.requires.room in
    let first = c.in_ok-generic.ensures.room in
    omega arith

pub give_method-requires-clause-known : goal.give_method-requires-clause-known
give_method-requires-clause-known c = c.in_ok-token.ensures.known

pub give_method-requires-clause-token_is : goal.give_method-requires-clause-token_is
give_method-requires-clause-token_is c = c.in_ok-token.ensures.is

pub returns : goal.returns
returns c =
    let m = c.args.method.now in
    let weighs = method_fits m in
    let first = c.in_ok-generic.ensures.room in
    let then = c.in_ok-token.ensures.room in
    let own = owner_weight m.owner + length m.name + signature_weight m.sig + 21 in
    let le : size c.instance_token.new.refs ≤ size c.args.refs.now + (own + instance_weight m.args) = omega arith in
    let fits : own + instance_weight m.args + 0 ≤ method_ref_weight m = omega arith in
    IfOk-weaker c.give_method.result _ _ (λ n h. leaves_after (HasMethod m) c.args.refs.now c.instance_token.new.refs c.give_method.new.refs _ 0 (method_ref_weight m) n
    (grows_trans c.args.refs.now c.generic_token.new.refs c.instance_token.new.refs c.in_ok-generic.ensures.grows c.in_ok-token.ensures.grows) le fits h) c.give_method.ensures
