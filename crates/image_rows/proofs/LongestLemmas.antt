-- The longest of some tables.
use Rattle.std.proofs.Common.{◌≡◌, ap, ℕ, List, [], ◌∷◌, length, max, arith}
use Rattle.image_members.specs.Lists.{Owned, longest_of}

-- that of all tables is the longest so far or among the rest
pub record LongestTo {X : Type 0} (longest : ℕ) (all rest : List (Owned X)) : Type 0 where
  pub is : longest_of all ≡ max longest (longest_of rest)

module _ {X : Type 0} where
  pub longest_begin : (all : List (Owned X)) → LongestTo 0 all all
  longest_begin all = record { is = omega arith }

  pub longest_on : (longest next table : ℕ) (lists : List (List X)) (all rest more : List (Owned X)) → rest ≡ (table, lists) ∷ more → next ≡ max longest (length lists)
      → LongestTo longest all rest → LongestTo next all more
  longest_on longest next table lists all rest more e n d = record { is = (let long = ap (longest_of {X = X}) e in let all_is = d.is in omega arith) }

  pub longest_end : (longest : ℕ) (all rest : List (Owned X)) → rest ≡ [] → LongestTo longest all rest → longest ≡ longest_of all
  longest_end longest all rest e d = let long = ap (longest_of {X = X}) e in let all_is = d.is in omega arith
