use Rattle.std.proofs.Common.{ap, subst, [], ◌∷◌, Option, arith}
use Rattle.std.proofs.lemmas.List.Sums.{sum_by-cons}
use Rattle.std.proofs.lemmas.Result.{IfOk-weaker}
use Rattle.assembly_tree.specs.declared.body.Body.{Body}
use Rattle.image_members.specs.CodeBytes.{stated_weight, stated_room, AddsBodies, AddsBody, CanPushStated}
use Rattle.image_members.proofs.CodeLemmas.{no_body, a_body}
use Rattle.image_members.proofs.bodies.push_stated.Goals as goal

pub returns-in-None : goal.returns-in-None
returns-in-None c = no_body c.args.refs.now c.args.code.now c.args.body.now c.requires.known c.in-None.is

pub push_body-requires-clause-known : goal.push_body-requires-clause-known
push_body-requires-clause-known c = c.requires.known

pub push_body-requires-clause-can : goal.push_body-requires-clause-can
push_body-requires-clause-can c = subst (λ (x : Option Body). CanPushStated c.args.refs.now x) c.in-Some.is c.requires.each.0

pub push_body-requires-clause-room : goal.push_body-requires-clause-room
push_body-requires-clause-room c =
    let room = c.requires.room in
    let one = sum_by-cons stated_weight c.args.body.now [] in
    let same = ap stated_weight c.in-Some.is in
    omega arith

pub push_body-requires-clause-long : goal.push_body-requires-clause-long
push_body-requires-clause-long c =
    let long = c.requires.long in
    let one = sum_by-cons stated_room c.args.body.now [] in
    let same = ap stated_room c.in-Some.is in
    omega arith

pub returns-in-Some : goal.returns-in-Some
returns-in-Some c =
    let b = c.in-Some.body in
    IfOk-weaker c.push_body.result (AddsBody b c.args.refs.now c.push_body.new.refs c.args.code.now c.push_body.new.code)
    (λ rva. AddsBodies (c.args.body.now ∷ []) c.args.refs.now c.push_body.new.refs c.args.code.now c.push_body.new.code (rva ∷ []))
    (λ rva h. a_body c.args.refs.now c.push_body.new.refs c.args.code.now c.push_body.new.code c.args.body.now b rva c.in-Some.is h) c.push_body.ensures
