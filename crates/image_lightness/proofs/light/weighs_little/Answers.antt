use Rattle.std.proofs.Common.{List, ℕ, subst, sym}
use Rattle.image_lightness.specs.Light.{Meets, TellsLight}
use Rattle.image_lightness.proofs.Lighting.{too_large_is}
use Rattle.image_lightness.proofs.light.weighs_little.Goals as goal

pub by_survey-requires : goal.by_survey-requires
by_survey-requires c = subst Meets (sym c.requires.same) (record { short = c.requires.small; tables = c.tables-tables.ensures.meets; demands = c.requires.meets })

pub returns-clause-little : goal.returns-clause-little
returns-clause-little c = subst (λ (i : List ℕ). TellsLight i c.in_ok-little.little) c.requires.same c.in_ok-little.ensures

pub returns-clause-too_large : goal.returns-clause-too_large
returns-clause-too_large c =
    too_large_is c.args.image.now (record { short = c.requires.small; tables = c.tables-tables.ensures.meets; demands = c.requires.meets }) c.in_ok-little.little c.an_assembly_exists.ensures
    (subst (λ (i : List ℕ). TellsLight i c.in_ok-little.little) c.requires.same c.in_ok-little.ensures)
