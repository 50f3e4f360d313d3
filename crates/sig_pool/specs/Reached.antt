-- The ids that can be reached from an id, through children.
use Rattle.std.specs.Prelude.{◌≡◌, ℕ, ◌+◌, ◌≤◌, List, length, slice_get, Some, nat_eq}
use Rattle.std.specs.List.{All, Contains, IsDistinct}
use Rattle.sig_pool.specs.declared.node.Node.{Node}
use Rattle.sig_pool.specs.Terms.{children}

-- `k` can be reached from `i` in the pool `ns`
pub data Reaches (ns : List Node) (k : ℕ) : ℕ → Type 0 where
  itself : Reaches ns k k
  through : {i j : ℕ} {n : Node} → slice_get ns i ≡ Some n → Contains (children n) j → Reaches ns k j → Reaches ns k i

-- `new` has at most as many nodes more than `old` as there are distinct ids that can be reached from `id` in `old`
pub record GrowsByReached (old new : List Node) (id : ℕ) : Type 0 where
  pub ids : List ℕ
  pub distinct : IsDistinct nat_eq ids
  pub reached : All (λ k. Reaches old k id) ids
  pub bound : length new ≤ length old + length ids
