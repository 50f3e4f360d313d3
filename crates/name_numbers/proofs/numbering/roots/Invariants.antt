use Rattle.std.proofs.Common.{◌≡◌, ℕ, ◌<◌, List, length, true, false}
use Rattle.name_numbers.specs.Names.{is_root, root_named, named_at, depth_at}
use Rattle.name_numbers.specs.declared.numbering.Named.{Named}
use Rattle.name_numbers.proofs.numbering.roots.Given as goal

-- the roots so far have their numbers, and nothing else has one
pub record AreSoFar (count last upto : ℕ) (named : List Named) : Type 0 where
  pub long : length named ≡ count
  pub root : (k : ℕ) → k < upto → is_root last k ≡ true → named_at named k ≡ root_named k
  pub other : (k : ℕ) → k < count → is_root last k ≡ false → depth_at named k ≡ 0

abbrev pub invariant-loop-k : goal.invariant-loop-k
invariant-loop-k l = AreSoFar l.count l.last l.k l.named.items
