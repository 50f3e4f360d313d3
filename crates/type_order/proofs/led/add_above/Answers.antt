use Rattle.std.proofs.Common.{sym, ◌∙◌}
use Rattle.type_hierarchy.specs.Tables.{hierarchy_in}
use Rattle.type_order.proofs.WalkLemmas.{walk_begins, walk_more, walk_ends, past, within_one, at_place}
use Rattle.type_order.proofs.led.add_above.Goals as goal

pub search-init : goal.search-init
search-init c = record { walk = walk_begins (hierarchy_in c.args.tables.now) c.args.pool.now c.args.queue.now c.requires.queue; known = c.requires.known }

pub returns-in_default-clause-ok : goal.returns-in_default-clause-ok
returns-in_default-clause-ok c =
    walk_ends (hierarchy_in c.args.tables.now) c.args.pool.now c.search.pool c.args.queue.now c.search.queue c.search.done c.search.invariant.walk
    (past c.search.queue c.search.done (sym c.get.ensures ∙ c.in_default.is)) c.requires.queue

pub add_steps-requires-clause-id : goal.add_steps-requires-clause-id
add_steps-requires-clause-id c = within_one c.search.queue _ c.in-Some.at c.search.invariant.walk.within (at_place c.search.queue c.search.done c.in-Some.at (sym c.get.ensures ∙ c.in-Some.is))

pub search-preserved : goal.search-preserved
search-preserved c =
    record {
      walk = walk_more (hierarchy_in c.args.tables.now) c.args.pool.now c.search.pool c.add_steps.new.pool c.args.queue.now c.search.queue c.add_steps.new.queue c.search.done c.in-Some.at c.search.invariant.walk
          (sym c.get.ensures ∙ c.in-Some.is) c.in_ok-add_steps.ensures.ok c.add_steps.ensures.extends;
      known = c.add_steps.ensures.known;
    }
