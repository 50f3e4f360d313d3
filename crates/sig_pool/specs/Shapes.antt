-- The node that a borrowed shape describes.
use Rattle.sig_pool.specs.declared.node.Node.{Node}
use Rattle.sig_pool.specs.declared.node.Node.TheVariants as node
use Rattle.sig_pool.specs.declared.node.NodeOwner.TheVariants as owner
use Rattle.sig_pool.specs.declared.shape.Shape.{Shape}
use Rattle.sig_pool.specs.declared.shape.Shape.TheVariants.{Prim, Class, Value, Inst, Var, MVar, SzArray, Array, ByRef, Pointer, ModName, ModSpec, Pinned}

abbrev pub node_of : Shape → Node
node_of (Prim p) = node.Prim p
node_of (Class n) = node.Class n.now
node_of (Value n) = node.Value n.now
node_of (Inst v n args) = node.Inst v n.now args.now
node_of (Var n) = node.Var n
node_of (MVar n) = node.MVar n
node_of (SzArray k) = node.SzArray k
node_of (Array k r s l) = node.Array k r s.now l.now
node_of (ByRef k) = node.ByRef k
node_of (Pointer k) = node.Pointer k
node_of (ModName r n k) = node.Mod r (owner.Name n.now) k
node_of (ModSpec r j k) = node.Mod r (owner.Spec j) k
node_of (Pinned k) = node.Pinned k
