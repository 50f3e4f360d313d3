-- Owners by their order.
use Rattle.std.specs.Prelude.{List, map}
use Rattle.std.specs.declared.cmp.Ordering.{Ordering}
use Rattle.type_terms.specs.Order.{owner_order}
use Rattle.type_terms.specs.declared.term.Owner.{Owner}
use Rattle.sorted_owners.specs.declared.sorting.Ranked.{Ranked}

abbrev pub owner_of : Ranked → Owner
owner_of r = r.owner

abbrev pub by_order : Ranked → Ranked → Ordering
by_order a b = owner_order (owner_of a) (owner_of b)

abbrev pub owners_of : List Ranked → List Owner
owners_of rs = map owner_of rs
