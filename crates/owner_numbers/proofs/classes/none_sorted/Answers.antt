use Rattle.std.proofs.Common.{◌≡◌, ℕ, ◌+◌, List, replicate, refl, rules}
use Rattle.owner_numbers.proofs.Steps.{none_yet, zero_there}
use Rattle.owner_numbers.specs.declared.classes.Sorted.{Sorted}
use Rattle.owner_numbers.proofs.classes.none_sorted.Goals as goal

same : (xs : List ℕ) (n : ℕ) → xs ≡ replicate n 0 → xs ≡ replicate n 0
same xs n e = e

pub returns : goal.returns
returns g c =
    let it : Sorted = record { classes = c.in_ok-classes.classes; by_index = c.new.result; firsts = c.new-2.result } in
    none_yet c.args.given.now.image.now (g.F.Owners.facts c.args.given.now.facts.now) it (search rules) c.new-2.ensures.linked c.new-2.ensures.empty c.new.ensures (λ q. rw (same c.in_ok-classes.classes.items (c.args.count + 1) (search rules)) (zero_there (c.args.count + 1) q))
