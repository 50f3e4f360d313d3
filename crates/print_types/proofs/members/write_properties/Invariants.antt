use Rattle.std.proofs.Common.{◌≡◌, take, fold}
use Rattle.listing_model.specs.Members.{property}
use Rattle.print_terms.specs.Rows.{under}
use Rattle.print_types.proofs.members.write_properties.Given as goal

abbrev pub invariant-loop-property : goal.invariant-loop-property
invariant-loop-property l = l.paper ≡ fold (λ q x. under q (property l.externs l.path l.methods x)) l.initial.paper (take l.property-index l.properties)
