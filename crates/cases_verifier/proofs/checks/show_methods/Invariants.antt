use Rattle.type_hierarchy.specs.Scopes.{sources}
use Rattle.type_order.specs.Worlds.{IsWorldSince}
use Rattle.cases_verifier.proofs.checks.show_methods.Given as goal

abbrev pub ghost-show_method : goal.ghost-show_method
ghost-show_method a = sources a.linked.now.image a.linked.now.references

abbrev pub invariant-loop-of : goal.invariant-loop-of
invariant-loop-of l = IsWorldSince (sources l.linked.image l.linked.references) l.w
