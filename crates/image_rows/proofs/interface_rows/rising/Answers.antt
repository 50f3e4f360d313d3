use Rattle.std.proofs.Common.{◌≡◌, subst, ℕ, List}
use Rattle.std.specs.List.Sorted.{IsPermutation}
use Rattle.std.proofs.lemmas.List.Sorted.{IsNonDecreasingBy-from_sort}
use Rattle.image_rows.proofs.interface_rows.rising.Goals as goal

pub returns : goal.returns
returns c = record {
  same = subst (λ (xs : List ℕ). IsPermutation xs c.sort.new.self.items) c.in_ok-sorted.ensures.items c.sort.ensures.permutation;
  rise = IsNonDecreasingBy-from_sort (λ x. x) c.sort.new.self.items c.in_ok-sort.ensures.sorted;
}
