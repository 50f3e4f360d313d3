use Rattle.std.proofs.Common.{List, ℕ, ◌≤◌, ◌^◌, length, subst, sym, ap, ◌∙◌}
use Rattle.image_model.specs.Streams.{strings_of}
use Rattle.image_model.specs.Structure.{HasScopes}
use Rattle.row_demands.specs.Structured.{MeetStructure}
use Rattle.image_lightness.proofs.light.by_lengths.Goals as goal

pub new-requires-clause-small : goal.new-requires-clause-small
new-requires-clause-small c = subst (λ (i : List ℕ). length i ≤ 2 ^ 26) (sym c.image-image.ensures) c.requires.meets.short

pub new-requires-clause-outers : goal.new-requires-clause-outers
new-requires-clause-outers c = c.outers.ensures ∙ sym c.image-image.ensures

pub new-requires-clause-names : goal.new-requires-clause-names
new-requires-clause-names c = c.names.ensures ∙ sym c.image-image.ensures

pub new-requires-clause-lengths : goal.new-requires-clause-lengths
new-requires-clause-lengths c = c.requires.lengths ∙ sym (ap strings_of c.image-image.ensures)

pub new-requires-clause-meets : goal.new-requires-clause-meets
new-requires-clause-meets c = subst MeetStructure (sym c.image-image.ensures) c.requires.meets.demands.structure

pub new-requires-clause-scopes : goal.new-requires-clause-scopes
new-requires-clause-scopes c = λ table row. subst (λ (i : List ℕ). HasScopes i table row) (sym c.image-image.ensures) (c.requires.meets.demands.scopes table row)

pub by_names-requires-clause-names : goal.by_names-requires-clause-names
by_names-requires-clause-names c = c.in_ok-names.ensures ∙ c.image-image.ensures
