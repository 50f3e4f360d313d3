-- How a pool is stored: beside the nodes stand their keys, by which a node is found.
use Rattle.std.specs.Prelude.{◌≡◌, ℕ, List, map}
use Rattle.sig_pool.specs.declared.node.Node.{Node}
use Rattle.sig_pool.specs.Key.{node_key}
use Rattle.sig_pool.specs.Pool.{IsPool}

pub record IsStored (nodes : List Node) (keys : List (List ℕ)) : Type 0 where
  pub pool : IsPool nodes
  pub keyed : keys ≡ map node_key nodes
