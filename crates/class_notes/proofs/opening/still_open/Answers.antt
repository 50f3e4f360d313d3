use Rattle.std.proofs.Common.{◌∙◌, subst, sym, List, arith}
use Rattle.std.proofs.lemmas.List.{take_all}
use Rattle.type_hierarchy.specs.Indexed.{KnowsTypes}
use Rattle.type_hierarchy.specs.World.{hierarchy, type_at}
use Rattle.class_notes.specs.declared.note.Open.{Open}
use Rattle.class_notes.specs.Opening.{AreStill}
use Rattle.class_notes.proofs.OpeningLemmas.{read_on, still_drop, still_keep}
use Rattle.class_notes.proofs.opening.still_open.Goals as goal
use Rattle.class_notes.proofs.opening.still_open.Goals.{then-branch+in_ok-push, else-branch}

pub loop-open-preserved : goal.loop-open-preserved
loop-open-preserved c =
    let w = c.args.w.now in
    let v = c.loop-open.invariant in
    record {
      stays = c.keys_keep_their_types.ensures.onward w c.loop-open.w c.is_left.new.w v.stays c.in_ok-is_left.ensures.stays;
      still = elim c.if-branch.branch [
        | then-branch+in_ok-push x ↦
            still_keep c.args.a.now w c.loop-open.w v.stays c.args.at.now c.requires.at c.args.opens.now c.requires.opens c.loop-open.open-index c.open-item.result c.loop-open-test.true c.open-item.is
            c.loop-open.left v.still c.in_ok-is_left.field-0 x.if-branch.true c.in_ok-is_left.ensures.ok c.if-branch.left (x.left-is ∙ x.in_ok-push.ensures.ok)
        | else-branch x ↦
            still_drop c.args.a.now w c.loop-open.w v.stays c.args.at.now c.requires.at c.args.opens.now c.requires.opens c.loop-open.open-index c.open-item.result c.loop-open-test.true c.open-item.is
            c.loop-open.left v.still c.in_ok-is_left.field-0 x.if-branch.false c.in_ok-is_left.ensures.ok c.if-branch.left x.left-is
      ];
    }

pub returns-clause-ok : goal.returns-clause-ok
returns-clause-ok c =
    let w = c.args.w.now in
    subst (λ (l : List Open). AreStill c.args.a.now (hierarchy w) w.nodes (type_at w c.args.at.now) l c.loop-open.left) (take_all c.loop-open.open-index c.args.opens.now (omega arith)) c.loop-open.invariant.still

pub is_left-requires-clause-read : goal.is_left-requires-clause-read
is_left-requires-clause-read c = read_on c.args.a.now c.args.w.now c.loop-open.w c.loop-open.invariant.stays c.args.at.now c.requires.at c.args.facts.now c.requires.read

pub is_left-requires-clause-knows : goal.is_left-requires-clause-knows
is_left-requires-clause-knows c = subst (KnowsTypes c.args.a.now) (sym c.loop-open.invariant.stays.tables) c.requires.knows
