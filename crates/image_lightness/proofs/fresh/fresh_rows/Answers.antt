use Rattle.std.proofs.Common.{List, ℕ, subst, sym, ◌∙◌}
use Rattle.image_model.specs.Naming.{TellsOwners}
use Rattle.image_model.specs.Structure.{HasScopes}
use Rattle.row_demands.specs.Structured.{MeetStructure}
use Rattle.image_lightness.proofs.fresh.fresh_rows.Goals as goal

pub new-names-requires : goal.new-names-requires
new-names-requires c = c.names.ensures ∙ sym c.image-image.ensures

pub tell_facts-requires-clause-meets : goal.tell_facts-requires-clause-meets
tell_facts-requires-clause-meets c = subst MeetStructure (sym (c.new-names.ensures.image ∙ c.image-image.ensures)) c.requires.demands.structure

pub tell_facts-requires-clause-scopes : goal.tell_facts-requires-clause-scopes
tell_facts-requires-clause-scopes c = λ table row. subst (λ (i : List ℕ). HasScopes i table row) (sym (c.new-names.ensures.image ∙ c.image-image.ensures)) (c.requires.demands.scopes table row)

pub fresh_by-requires-clause-facts : goal.fresh_by-requires-clause-facts
fresh_by-requires-clause-facts c = λ owners tells.
    let f = c.tell_facts.ensures owners (subst (λ (i : List ℕ). TellsOwners i owners) (sym (c.new-names.ensures.image ∙ c.image-image.ensures)) tells) in
    (f.0, c.in_ok-specs.ensures f.0 owners (subst (λ (i : List ℕ). TellsOwners i owners) (sym c.image-image.ensures) tells) f.1)
