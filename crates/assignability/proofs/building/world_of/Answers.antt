use Rattle.std.proofs.Common.{ℕ, Option, subst}
use Rattle.assignability.specs.Worlds.{IsFirstOf}
use Rattle.assignability.proofs.WorldLemmas.{fault_is, world_is}
use Rattle.assignability.proofs.building.world_of.Goals as goal

pub returns-in-Ok-Some-clause-fault : goal.returns-in-Ok-Some-clause-fault
returns-in-Ok-Some-clause-fault c = λ s is.
    fault_is s c.args.read c.in-Ok-Some.place c.fault_at.result is
    (subst (λ (o : Option ℕ). IsFirstOf c.args.read.tables o) c.in-Ok-Some.field-0-is c.in-Ok-Some.ensures.is) c.fault_at.ensures

pub returns-in-Ok-None-clause-world : goal.returns-in-Ok-None-clause-world
returns-in-Ok-None-clause-world c = λ s is.
    world_is s c.args.read c.world_over.result is
    (subst (λ (o : Option ℕ). IsFirstOf c.args.read.tables o) c.in-Ok-None.field-0-is c.in-Ok-None.ensures.is) c.world_over.ensures.nodes c.world_over.ensures.tables
