-- What is said of the type of a node, from the node.
use Rattle.std.proofs.Common.{◌≡◌, ◌∙◌, ap, sym, ℕ, List}
use Rattle.type_terms.specs.declared.term.SigType.{out-SigType, out-roll-SigType}
use Rattle.sig_pool.specs.declared.node.Node.{Node}
use Rattle.sig_pool.specs.Terms.{layer_of, built, terms, term_of}
use Rattle.type_hierarchy.specs.Stack.{is_reference, layer_is_reference}
use Rattle.code_flow.specs.Rules.{is_by_reference, layer_is_by_reference}
use Rattle.stack_rows.specs.TypeKinds.{is_void, layer_is_void}

pub layer_is : (ns : List Node) (id : ℕ) (n m : Node) → term_of ns id ≡ built (terms ns) n → n ≡ m → out-SigType (term_of ns id) ≡ layer_of (terms ns) m
unfolding built
layer_is ns id n m e same = ap out-SigType e ∙ out-roll-SigType (layer_of (terms ns) n) ∙ ap (layer_of (terms ns)) same

pub reference_is : (ns : List Node) (id : ℕ) (n m : Node) → term_of ns id ≡ built (terms ns) n → n ≡ m → layer_is_reference (layer_of (terms ns) m) ≡ is_reference (term_of ns id)
unfolding is_reference
reference_is ns id n m e same = sym (ap layer_is_reference (layer_is ns id n m e same))

pub by_reference_is : (ns : List Node) (id : ℕ) (n m : Node) → term_of ns id ≡ built (terms ns) n → n ≡ m → layer_is_by_reference (layer_of (terms ns) m) ≡ is_by_reference (term_of ns id)
by_reference_is ns id n m e same = sym (ap layer_is_by_reference (layer_is ns id n m e same))

pub void_is : (ns : List Node) (id : ℕ) (n m : Node) → term_of ns id ≡ built (terms ns) n → n ≡ m → layer_is_void (layer_of (terms ns) m) ≡ is_void (term_of ns id)
void_is ns id n m e same = sym (ap layer_is_void (layer_is ns id n m e same))
