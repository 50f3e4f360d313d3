-- The laws of the order of owners, by which they stand in a set.
use Rattle.std.proofs.Common.{refl}
use Rattle.std.specs.Prelude.{Some}
use Rattle.std.specs.Cmp.{IsEquivalence, IsPartialEquivalence, IsPartialOrder, partial_equiv_from_equiv, po}
use Rattle.std.specs.Ordering.{eq_by_cmp}
use Rattle.std.proofs.lemmas.Cmp.{eq_by_cmp_equiv}
use Rattle.type_terms.specs.Order.{owner_order}
use Rattle.sorted_owners.specs.OwnerOrder.{owners_total}

pub owners_equal : IsEquivalence (eq_by_cmp owner_order)
owners_equal = eq_by_cmp_equiv owners_total

pub owners_per : IsPartialEquivalence (eq_by_cmp owner_order)
owners_per = partial_equiv_from_equiv owners_equal

pub owners_partly : IsPartialOrder (eq_by_cmp owner_order) (λ x y. Some (owner_order x y))
owners_partly = po owners_total (λ x y. refl)
