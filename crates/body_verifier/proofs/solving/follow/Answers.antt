use Rattle.std.proofs.Common.{◌≡◌, ◌∙◌, ◌∷◌, ◌<◌, sym, ap, subst, ℕ, arith, length, List}
use Rattle.stack_states.specs.declared.state.State.{State}
use Rattle.stack_states.specs.StateMeanings.{state_depth, typing_of, IsStateWithin}
use Rattle.code_flow.specs.Typings as typings
use Rattle.body_verifier.specs.Ways.{Raises}
use Rattle.type_hierarchy.specs.World.{hierarchy}
use Rattle.body_verifier.proofs.EdgeLoop.{IsSetOff, IsFollowing, asks_within, asks_target, asks_room, asks_few, less_low, follows_more, target_of}
use Rattle.body_verifier.proofs.EdgeStart.{set_off, follows_none, all_followed_at, no_more_from, less_from, unreached_settled, unreached_true, unreached_false, within_there}
use Rattle.body_verifier.proofs.FollowLemmas.{typing_kept}
use Rattle.body_verifier.proofs.solving.follow.Goals as goal

pub returns-then-is_unreached-clause-ok : goal.returns-then-is_unreached-clause-ok
returns-then-is_unreached-clause-ok g c =
    let none = unreached_true c.at-known.result.now (sym c.is_unreached.ensures ∙ c.if-is_unreached.true) in
    unreached_settled g.at c.args.k c.args.w.now c.args.states.now c.args.list.now.numbers c.requires.1.0 (c.at-known.ensures ∙ ap Rattle.std.proofs.Common.Some none)

pub state_after-requires-clause-state : goal.state_after-requires-clause-state
state_after-requires-clause-state g c = within_there (length c.args.w.now.nodes) c.args.states.now c.args.k c.at-known.result.now c.requires.1.0.within c.at-known.ensures

pub loop-going-init : goal.loop-going-init
loop-going-init g c =
    let keeps = c.keys_keep_their_types.ensures.keys c.args.w.now c.state_after.new.w c.in_ok-after.ensures.stays in
    let s = set_off g.at c.args.k c.args.stated.now c.in_ok-after.after c.at-known.result.now c.args.goings.now c.args.w.now c.state_after.new.w c.args.states.now
    (c.args.k ∷ c.args.list.now.numbers) c.args.row.now c.requires.0 keeps c.in_ok-after.ensures.stays c.requires.1.0 c.requires.1.1.1.1.1.1.0 c.requires.1.1.1.1.1.1.1.0 c.requires.1.1.0 c.requires.1.1.1.1.1.0
    c.at-known.ensures (unreached_false c.at-known.result.now (sym c.is_unreached.ensures ∙ c.if-is_unreached.false)) c.in_ok-after.ensures.ok.0 c.in_ok-after.ensures.ok.1 in
    (s, follows_none g.at c.args.k c.args.stated.now c.in_ok-after.after c.args.goings.now c.args.w.now c.state_after.new.w c.args.states.now c.args.list.now c.args.steps.now keeps c.requires.1.0 s)

pub raise-requires-clause-comes : goal.raise-requires-clause-comes
raise-requires-clause-comes g c =
    let i = c.loop-going.invariant in
    let keeps = c.keys_keep_their_types-in-loop-going.ensures.keys c.state_after.new.w c.loop-going.w i.1.stays in
    let P : State → Type 0 = λ (x : State). IsStateWithin (length c.loop-going.w.nodes) x in
    subst P (sym c.along-comes.ensures) (asks_within g.at c.args.k c.args.stated.now _ c.args.goings.now c.state_after.new.w c.loop-going.w c.args.states.now c.loop-going.going-index (omega arith) keeps i.0)

pub raise-requires-clause-t : goal.raise-requires-clause-t
raise-requires-clause-t g c =
    let i = c.loop-going.invariant in
    let t = asks_target g.at c.args.k c.args.stated.now _ c.args.goings.now c.state_after.new.w c.args.states.now c.loop-going.going-index (omega arith) i.0 in
    omega (arith, t, i.1.long)

pub raise-requires-clause-waits : goal.raise-requires-clause-waits
raise-requires-clause-waits g c =
    let i = c.loop-going.invariant in
    let t = asks_target g.at c.args.k c.args.stated.now _ c.args.goings.now c.state_after.new.w c.args.states.now c.loop-going.going-index (omega arith) i.0 in
    omega (arith, t, i.1.count, c.requires.1.1.1.0)

pub raise-requires-clause-room : goal.raise-requires-clause-room
raise-requires-clause-room g c =
    let i = c.loop-going.invariant in
    let room = asks_room g.at c.args.k c.args.stated.now _ c.args.goings.now c.state_after.new.w c.args.states.now c.args.list.now c.args.steps.now
    c.loop-going.w c.loop-going.states c.loop-going.list c.loop-going.steps c.loop-going.going-index (omega arith) i.0 i.1 in
    omega (arith, room, ap state_depth c.along-comes.ensures, c.requires.1.1.1.1.1.1.1.1)

pub returns-in_err-raise-clause-steps : goal.returns-in_err-raise-clause-steps
returns-in_err-raise-clause-steps g c =
    let i = c.loop-going.invariant in
    let room = asks_room g.at c.args.k c.args.stated.now _ c.args.goings.now c.state_after.new.w c.args.states.now c.args.list.now c.args.steps.now
    c.loop-going.w c.loop-going.states c.loop-going.list c.loop-going.steps c.loop-going.going-index (omega arith) i.0 i.1 in
    omega (arith, room, ap state_depth c.along-comes.ensures, c.raise.ensures.steps)

pub loop-going-preserved : goal.loop-going-preserved
loop-going-preserved g c =
    let i = c.loop-going.invariant in
    let keys = c.keys_keep_their_types-in-loop-going.ensures in
    let P : State → Type 0 = λ (x : State).
    Raises (hierarchy c.loop-going.w) c.loop-going.w.nodes c.loop-going.states c.loop-going.list (target_of c.args.goings.now c.loop-going.going-index) x c.raise.new.w.nodes c.raise.new.states c.raise.new.list in (
      i.0,
      follows_more g.at c.args.k c.args.stated.now _ c.args.goings.now c.state_after.new.w c.args.states.now c.args.list.now c.args.steps.now
          c.loop-going.w c.raise.new.w c.loop-going.states c.loop-going.list c.loop-going.steps c.raise.new.states c.raise.new.list c.raise.new.steps c.loop-going.going-index (omega arith) i.0
          (keys.keys c.state_after.new.w c.loop-going.w i.1.stays) (keys.keys c.loop-going.w c.raise.new.w c.raise.ensures.stays)
          (keys.onward c.state_after.new.w c.loop-going.w c.raise.new.w i.1.stays c.raise.ensures.stays) i.1
          (subst P c.along-comes.ensures c.in_ok-raise.ensures.ok) (omega (arith, ap state_depth c.along-comes.ensures, c.raise.ensures.steps)),
    )

pub returns-clause-ok : goal.returns-clause-ok
returns-clause-ok g c =
    let i = c.loop-going.invariant in
    let whole : c.loop-going.going-index ≡ length c.args.goings.now = omega arith in
    all_followed_at g.at c.args.k c.args.stated.now _ c.args.goings.now c.state_after.new.w c.args.states.now c.args.list.now c.args.steps.now
    c.loop-going.w c.loop-going.states c.loop-going.list c.loop-going.steps c.loop-going.going-index i.0 whole i.1

pub returns-clause-no_more : goal.returns-clause-no_more
returns-clause-no_more g c =
    let i = c.loop-going.invariant in
    no_more_from g.at c.args.w.now c.state_after.new.w c.args.states.now c.args.list.now.numbers c.loop-going.list.numbers (typing_of c.loop-going.w.nodes c.loop-going.states)
    (c.keys_keep_their_types.ensures.keys c.args.w.now c.state_after.new.w c.in_ok-after.ensures.stays) c.requires.1.0.within i.1.no_more

pub returns-in_err-raise-clause-few : goal.returns-in_err-raise-clause-few
returns-in_err-raise-clause-few g c = λ d m deep enough.
    let i = c.loop-going.invariant in
    let same = typing_kept c.args.w.now c.state_after.new.w c.args.states.now (c.keys_keep_their_types.ensures.keys c.args.w.now c.state_after.new.w c.in_ok-after.ensures.stays) c.requires.1.0.within in
    let low = enough (λ e. i.0.known (ap (λ (t : typings.Typing). t c.args.k) same ∙ e)) in
    let room = asks_few g.at c.args.k c.args.stated.now _ c.args.goings.now c.state_after.new.w c.args.states.now c.args.list.now c.args.steps.now
    c.loop-going.w c.loop-going.states c.loop-going.list c.loop-going.steps c.loop-going.going-index d (omega arith) i.0 i.1 deep in
    omega (arith, room, low, ap state_depth c.along-comes.ensures, c.raise.ensures.steps)

pub returns-clause-less : goal.returns-clause-less
returns-clause-less g c = λ d deep.
    let i = c.loop-going.invariant in
    less_from g.at d c.args.w.now c.state_after.new.w c.args.states.now c.args.list.now.numbers c.loop-going.list.numbers (typing_of c.loop-going.w.nodes c.loop-going.states)
    (c.keys_keep_their_types.ensures.keys c.args.w.now c.state_after.new.w c.in_ok-after.ensures.stays) c.requires.1.0.within (i.1.less d deep)

pub returns-clause-few : goal.returns-clause-few
returns-clause-few g c = λ d m deep enough.
    let i = c.loop-going.invariant in
    let same = typing_kept c.args.w.now c.state_after.new.w c.args.states.now (c.keys_keep_their_types.ensures.keys c.args.w.now c.state_after.new.w c.in_ok-after.ensures.stays) c.requires.1.0.within in
    let low = enough (λ e. i.0.known (ap (λ (t : typings.Typing). t c.args.k) same ∙ e)) in
    let few = i.1.few d deep in
    let most = less_low d c.args.goings.now c.loop-going.going-index in
    omega (arith, few, most, low)
