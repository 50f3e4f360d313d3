use Rattle.std.proofs.Common.{length}
use Rattle.type_hierarchy.specs.World.{hierarchy}
use Rattle.stack_states.proofs.StateLemmas.{copy_within, from_clash, from_unreached, reached_by_clash, reached_by_stack, clash_from_stack}
use Rattle.stack_states.proofs.state.meet.Goals as goal

pub returns-in-Clash-clause-ok : goal.returns-in-Clash-clause-ok
returns-in-Clash-clause-ok c = from_clash (hierarchy c.args.w.now) c.args.w.now.nodes c.args.known.now c.args.comes.now c.in-Clash.is

pub returns-in-Unreached-comes-clause-ok : goal.returns-in-Unreached-comes-clause-ok
returns-in-Unreached-comes-clause-ok c = from_unreached (hierarchy c.args.w.now) c.args.w.now.nodes c.args.known.now c.args.comes.now c.in-Unreached-comes.is

pub returns-in-Clash-comes-clause-ok : goal.returns-in-Clash-comes-clause-ok
returns-in-Clash-comes-clause-ok c = (tt, reached_by_clash (hierarchy c.args.w.now) c.args.w.now.nodes c.args.known.now c.args.comes.now c.in-Unreached.is c.in-Clash-comes.is)

pub returns-in_ok-copy-in-Stack-comes-clause-ok : goal.returns-in_ok-copy-in-Stack-comes-clause-ok
returns-in_ok-copy-in-Stack-comes-clause-ok c =
    let is = c.in_ok-copy-in-Stack-comes.ensures in (
      copy_within (length c.args.w.now.nodes) c.args.comes.now c.in-Stack-comes.stack c.in_ok-copy-in-Stack-comes.copy c.requires.comes c.in-Stack-comes.is is,
      reached_by_stack (hierarchy c.args.w.now) c.args.w.now.nodes c.args.known.now c.args.comes.now c.in-Stack-comes.stack c.in_ok-copy-in-Stack-comes.copy
          c.in-Unreached.is c.in-Stack-comes.is is,
    )

pub returns-in-Unreached-comes-2-clause-ok : goal.returns-in-Unreached-comes-2-clause-ok
returns-in-Unreached-comes-2-clause-ok c = from_unreached (hierarchy c.args.w.now) c.args.w.now.nodes c.args.known.now c.args.comes.now c.in-Unreached-comes-2.is

pub returns-in-Clash-comes-2-clause-ok : goal.returns-in-Clash-comes-2-clause-ok
returns-in-Clash-comes-2-clause-ok c = (tt, clash_from_stack (hierarchy c.args.w.now) c.args.w.now.nodes c.args.known.now c.args.comes.now c.in-Stack.stack c.in-Stack.is c.in-Clash-comes-2.is)
