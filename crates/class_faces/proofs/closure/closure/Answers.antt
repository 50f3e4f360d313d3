use Rattle.std.proofs.Common.{◌∙◌, [], refl, sym, subst, ℕ, List}
use Rattle.std.proofs.lemmas.List.{append-nil}
use Rattle.type_hierarchy.specs.Queues.{AddsSteps, UpFromSome}
use Rattle.type_hierarchy.specs.Tables.{hierarchy_in}
use Rattle.type_hierarchy.specs.World.{hierarchy, type_at}
use Rattle.type_hierarchy.specs.declared.tables.Tables.{Tables}
use Rattle.class_faces.specs.Ids.{AreIds}
use Rattle.class_faces.proofs.Walking.{walk_begins, walk_more, walk_ends, past, within_one, at_place}
use Rattle.class_faces.proofs.closure.closure.Goals as goal

pub steps-init : goal.steps-init
steps-init c = record {
  walk = walk_begins (hierarchy c.args.w.now) c.args.w.now.nodes c.args.from.now c.new-queue.result c.requires c.new-queue.ensures c.add_all.new.self c.in_ok-add_all.ensures;
  stays = record { tables = refl; nodes = record { more = []; nodes = sym (append-nil c.args.w.now.nodes); terms = λ k h. refl } };
}

pub returns-in_default-clause-ok : goal.returns-in_default-clause-ok
returns-in_default-clause-ok c =
    let v = c.steps.invariant.walk in
    subst (λ (l : List ℕ). AreIds c.steps.w.nodes (UpFromSome (hierarchy c.args.w.now) c.args.w.now.nodes c.args.from.now) l) (sym c.into_keys.ensures)
    (walk_ends (hierarchy c.args.w.now) c.args.w.now.nodes c.steps.w.nodes c.args.from.now c.steps.queue c.steps.done v
    (past c.steps.queue c.steps.done (sym c.get.ensures ∙ c.in_default.is)) c.requires)

pub returns-in_default-clause-stays : goal.returns-in_default-clause-stays
returns-in_default-clause-stays c = c.steps.invariant.stays

pub add_steps-requires : goal.add_steps-requires
add_steps-requires c = within_one c.steps.queue _ c.in-Some.at c.steps.invariant.walk.within (at_place c.steps.queue c.steps.done c.in-Some.at (sym c.get.ensures ∙ c.in-Some.is))

pub steps-preserved : goal.steps-preserved
steps-preserved c =
    let v = c.steps.invariant.walk in
    let s = c.steps.invariant.stays in
    record {
      walk = walk_more (hierarchy c.args.w.now) c.args.w.now.nodes c.steps.w.nodes c.add_steps.new.w.nodes c.args.from.now c.steps.queue c.add_steps.new.queue c.steps.done c.in-Some.at v
          (sym c.get.ensures ∙ c.in-Some.is)
          (subst (λ (l : Tables). AddsSteps (hierarchy_in l) c.add_steps.new.w.nodes (type_at c.steps.w c.in-Some.at) c.steps.queue c.add_steps.new.queue) s.tables c.in_ok-add_steps.ensures.ok)
          c.in_ok-add_steps.ensures.stays.nodes;
      stays = c.keys_keep_their_types.ensures.onward c.args.w.now c.steps.w c.add_steps.new.w s c.in_ok-add_steps.ensures.stays;
    }
