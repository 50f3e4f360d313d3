use Rattle.std.proofs.Common.{◌∙◌, subst, ℕ, List, arith}
use Rattle.std.proofs.lemmas.List.{take_all}
use Rattle.type_hierarchy.specs.World.{hierarchy}
use Rattle.class_faces.specs.Marked.{is_overriding, ArePassing}
use Rattle.class_faces.proofs.PassingLemmas.{next_no, next_yes}
use Rattle.class_faces.proofs.faces.overriding_among.Goals as goal
use Rattle.class_faces.proofs.faces.overriding_among.Goals.{then-branch+in_ok-push, else-branch}

pub loop-key-preserved : goal.loop-key-preserved
loop-key-preserved c =
    let test = is_overriding c.args.a.now (hierarchy c.args.w.now) in
    elim c.if-branch.branch [
      | then-branch+in_ok-push w ↦
          next_yes test c.args.w.now.nodes c.args.keys.now c.loop-key.key-index c.key-item.result c.loop-key.passing c.if-branch.passing c.in_ok-is_overriding.field-0 c.loop-key-test.true
          c.key-item.is c.loop-key.invariant c.in_ok-is_overriding.ensures w.if-branch.true (w.passing-is ∙ w.in_ok-push.ensures.ok)
      | else-branch w ↦
          next_no test c.args.w.now.nodes c.args.keys.now c.loop-key.key-index c.key-item.result c.loop-key.passing c.if-branch.passing c.in_ok-is_overriding.field-0 c.loop-key-test.true
          c.key-item.is c.loop-key.invariant c.in_ok-is_overriding.ensures w.if-branch.false w.passing-is
    ]

pub returns : goal.returns
returns c =
    subst (λ (l : List ℕ). ArePassing (is_overriding c.args.a.now (hierarchy c.args.w.now)) c.args.w.now.nodes l c.loop-key.passing)
    (take_all c.loop-key.key-index c.args.keys.now (omega arith)) c.loop-key.invariant
