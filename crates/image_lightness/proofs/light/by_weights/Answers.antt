use Rattle.std.proofs.Common.{List, ℕ, subst, sym, ◌∙◌}
use Rattle.std.specs.Prelude.{IfOk}
use Rattle.told_weights.specs.Fresh.{AreFresh}
use Rattle.told_weights.specs.Told.{TellWeights}
use Rattle.image_lightness.specs.Light.{Meets, TellsLight}
use Rattle.image_lightness.proofs.light.by_weights.Goals as goal

pub is_light_by_maps-requires-clause-meets : goal.is_light_by_maps-requires-clause-meets
is_light_by_maps-requires-clause-meets g c = subst Meets (sym c.image-image.ensures) c.requires.meets

pub is_light_by_maps-requires-clause-names : goal.is_light_by_maps-requires-clause-names
is_light_by_maps-requires-clause-names g c = c.names.ensures ∙ sym c.image-image.ensures

pub is_light_by_maps-requires-clause-weights : goal.is_light_by_maps-requires-clause-weights
is_light_by_maps-requires-clause-weights g c = subst (λ (i : List ℕ). TellWeights i (g.W.RowWeights.told c.args.weights.now)) (sym c.image-image.ensures) c.requires.weights

pub is_light_by_maps-requires-clause-fresh : goal.is_light_by_maps-requires-clause-fresh
is_light_by_maps-requires-clause-fresh g c = rw c.as_slice.ensures (subst (λ (i : List ℕ). AreFresh i c.in_ok-fresh.fresh) (sym c.image-image.ensures) c.in_ok-fresh.ensures)

pub returns : goal.returns
returns g c = subst (λ (i : List ℕ). IfOk c.is_light_by_maps.result (TellsLight i)) c.image-image.ensures c.is_light_by_maps.ensures
