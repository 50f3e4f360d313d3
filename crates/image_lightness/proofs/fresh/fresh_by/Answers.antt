use Rattle.std.proofs.Common.{List, ℕ, subst, sym, ◌∙◌}
use Rattle.std.specs.Prelude.{IfOk}
use Rattle.image_model.specs.Naming.{TellsOwners}
use Rattle.image_model.specs.Structure.{HasScopes}
use Rattle.owner_numbers.specs.Terms.{IsTold, TellFacts}
use Rattle.row_demands.specs.Structured.{MeetStructure}
use Rattle.interface_numbers.specs.Known.{CanNumber}
use Rattle.owner_numbers.specs.Canon.{canon}
use Rattle.told_weights.specs.Fresh.{AreFresh}
use Rattle.image_lightness.specs.Light.{Meets}
use Rattle.image_lightness.proofs.Lighting.{told, can_number}
use Rattle.image_lightness.proofs.fresh.fresh_by.Goals as goal

pub new-requires-clause-same : goal.new-requires-clause-same
new-requires-clause-same g c = c.names.ensures ∙ sym c.image-image.ensures

pub new-requires-clause-meets : goal.new-requires-clause-meets
new-requires-clause-meets g c = subst MeetStructure (sym c.image-image.ensures) c.requires.meets.demands.structure

pub new-requires-clause-scopes : goal.new-requires-clause-scopes
new-requires-clause-scopes g c = λ table row. subst (λ (i : List ℕ). HasScopes i table row) (sym c.image-image.ensures) (c.requires.meets.demands.scopes table row)

pub new-requires-clause-told : goal.new-requires-clause-told
new-requires-clause-told g c = subst IsTold (sym c.image-image.ensures) (told c.args.survey.now c.requires.meets)

pub new-requires-clause-facts : goal.new-requires-clause-facts
new-requires-clause-facts g c = subst (λ (i : List ℕ). TellFacts i (g.O.Owners.facts c.args.facts.now)) (sym c.image-image.ensures) c.requires.facts

pub fresh_with-requires-clause-meets : goal.fresh_with-requires-clause-meets
fresh_with-requires-clause-meets g c = subst Meets (sym c.image-image.ensures) c.requires.meets

pub fresh_with-requires-clause-can : goal.fresh_with-requires-clause-can
fresh_with-requires-clause-can g c =
    subst (λ (i : List ℕ). CanNumber i (g.O.Owners.facts c.args.facts.now) (canon c.in_ok-numbers.numbers)) (sym c.image-image.ensures)
    (can_number c.args.survey.now c.requires.meets (g.O.Owners.facts c.args.facts.now) (canon c.in_ok-numbers.numbers) c.requires.facts
    (λ owners tells. c.in_ok-numbers.ensures.canon owners (subst (λ (i : List ℕ). TellsOwners i owners) (sym c.image-image.ensures) tells)))

pub returns : goal.returns
returns g c = subst (λ (i : List ℕ). IfOk c.fresh_with.result (AreFresh i)) c.image-image.ensures c.fresh_with.ensures
