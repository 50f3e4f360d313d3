-- Numbers of lines and of fields that are in their ranges.
use Rattle.std.proofs.Common.{◌≡◌, ℕ, List, [], ◌∷◌, Some, refl, subst}
use Rattle.std.specs.Prelude.{true, fold}
use Rattle.std.specs.List.{flat_map}
use Rattle.std.proofs.lemmas.Option.{same_Some}
use Rattle.source_model.specs.Forest.{Forest, Part, none, below_each, first_or, is_any_part}
use Rattle.source_model.specs.Manifests.{last_said}
use Rattle.source_nodes.proofs.Empties.{nothing_in}
use Rattle.source_flags.specs.Lines.{last_part}

-- the last of what stands below some parts
pub fold_said : (of : Forest → ℕ) (other : ℕ) (ps : List Part) → fold (λ (m : ℕ) (g : Forest). of g) other (below_each ps) ≡ last_said (λ p. of p.below) other ps
fold_said of other [] = refl
fold_said of other (p ∷ ps) = fold_said of (of p.below) ps

-- what none of them gives, the last and the first don't give
pub nothing_of_last : (g : Forest → List ℕ) (ps : List Part) (p : Part) → flat_map g (below_each ps) ≡ [] → last_part ps ≡ Some p → g p.below ≡ []
nothing_of_last g [] p e l = absurd cc
nothing_of_last g (q ∷ []) p e l = subst (λ r. g r.below ≡ []) (same_Some q p l) (nothing_in (g q.below) [] e).0
nothing_of_last g (q ∷ r ∷ more) p e l = nothing_of_last g (r ∷ more) p (nothing_in (g q.below) (flat_map g (below_each (r ∷ more))) e).1 l

pub nothing_of_first : (g : Forest → List ℕ) (ps : List Part) → flat_map g (below_each ps) ≡ [] → is_any_part ps ≡ true → g (first_or none (below_each ps)) ≡ []
nothing_of_first g [] e some = absurd cc
nothing_of_first g (q ∷ ps) e some = (nothing_in (g q.below) (flat_map g (below_each ps)) e).0
