use Rattle.std.proofs.Common.{drop}
use Rattle.std.specs.List.{flat_map}
use Rattle.image_members.specs.Places.{lent, params_of}
use Rattle.image_members.proofs.PlaceLemmas.{FilledTo}
use Rattle.image_members.proofs.places.add_methods.Given as goal

abbrev pub invariant-loop-method : goal.invariant-loop-method
invariant-loop-method l = record {
  methods : FilledTo (lent l.initial.methods) (lent l.methods) l.more (drop l.method-index l.more);
  params : FilledTo (lent l.initial.params) (lent l.params) (flat_map params_of l.more) (flat_map params_of (drop l.method-index l.more));
}
