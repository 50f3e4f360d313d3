use Rattle.std.proofs.Common.{List, ℕ, subst, sym}
use Rattle.row_weights.specs.Rows.{known, TellRows}
use Rattle.body_weights.specs.Bodies.{BodyAtTold}
use Rattle.body_weights.specs.Tokens.{tokens}
use Rattle.body_weights.proofs.Telling.{all_tell}
use Rattle.body_weights.proofs.weights.BodyWeights.new.Goals as goal

pub returns : goal.returns
returns g c =
    all_tell
    (tokens (known c.in_ok-tokens.tokens.members.now.image.now c.in_ok-tokens.tokens.members.now.names.now.weights (g.O.Owners.facts c.in_ok-tokens.tokens.members.now.signatures.now.owners.now)) c.in_ok-tokens.tokens.methods c.in_ok-tokens.tokens.fields.items)
    c.in_ok-tokens.ensures.are c.args.members.now.image.now c.in_ok-bodies.bodies.items c.in_ok-tokens.ensures.image
    (subst (λ (i : List ℕ). TellRows i 0x06 (BodyAtTold i) c.in_ok-bodies.bodies.items) c.image.ensures c.in_ok-bodies.ensures)
