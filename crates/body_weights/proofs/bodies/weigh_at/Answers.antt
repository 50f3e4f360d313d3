use Rattle.std.proofs.Common.{List, ℕ, subst}
use Rattle.std.specs.Prelude.{IfOk}
use Rattle.row_weights.specs.Rows.{known}
use Rattle.body_weights.specs.Bodies.{BodyTold}
use Rattle.body_weights.specs.Tokens.{tokens}
use Rattle.body_weights.proofs.Seeing.{fault_told}
use Rattle.body_weights.proofs.Weighing.{outline_tells}
use Rattle.body_weights.proofs.bodies.weigh_at.Goals as goal

pub returns-in-Ok : goal.returns-in-Ok
returns-in-Ok g c =
    subst (λ (b : List ℕ). BodyTold c.args.image.now b c.weigh_outline.result) c.readable-bytes.ensures
    (outline_tells
    (tokens (known c.args.given.now.members.now.image.now c.args.given.now.members.now.names.now.weights (g.O.Owners.facts c.args.given.now.members.now.signatures.now.owners.now)) c.args.given.now.methods c.args.given.now.fields.items)
    c.requires.are c.blob_is_computed.ensures c.args.image.now c.readable-bytes.result.now c.in-Ok.outline c.weigh_outline.result c.requires.same c.in-Ok.ensures.outline c.weigh_outline.ensures)

pub returns-in-Err : goal.returns-in-Err
returns-in-Err g c =
    subst (λ (b : List ℕ). IfOk c.weight_by.result (BodyTold c.args.image.now b)) c.readable-bytes.ensures
    (fault_told c.args.image.now c.readable-bytes.result.now c.in-Err.fault c.weight_by.result c.in-Err.ensures.fault c.weight_by.ensures)
