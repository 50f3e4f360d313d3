-- The generic arguments of the type of a node.
use Rattle.std.proofs.Common.{◌≡◌, ◌∙◌, ap, sym, subst, ℕ, ◌<◌, arith, Bool, List, [], length, map}
use Rattle.type_terms.specs.declared.name.TypeName.{TypeName}
use Rattle.sig_pool.specs.declared.node.Node.{Node}
use Rattle.sig_pool.specs.declared.node.Node.TheVariants.{Inst}
use Rattle.sig_pool.specs.Pool.{HasAll}
use Rattle.sig_pool.specs.Terms.{AllBelow, children, at, layer_of, built, terms, term_of}
use Rattle.type_order.specs.Parts.{layer_arguments, type_arguments}
use Rattle.type_hierarchy.proofs.GrowLemmas.{none_yet}
use Rattle.type_hierarchy.proofs.NodeLemmas.{layer_is}

arguments_are : (ns : List Node) (id : ℕ) (n m : Node) → term_of ns id ≡ built (terms ns) n → n ≡ m → layer_arguments (layer_of (terms ns) m) ≡ type_arguments (term_of ns id)
arguments_are ns id n m e same = sym (ap layer_arguments (layer_is ns id n m e same))

pub no_arguments : (ns : List Node) (id : ℕ) (n m : Node) (ks : List ℕ) → term_of ns id ≡ built (terms ns) n → n ≡ m → ks ≡ [] → layer_arguments (layer_of (terms ns) m) ≡ [] → HasAll ns ks (type_arguments (term_of ns id))
no_arguments ns id n m ks e same none f =
    let g : [] ≡ type_arguments (term_of ns id) = sym f ∙ arguments_are ns id n m e same in
    subst (λ (xs : List ℕ). HasAll ns xs (type_arguments (term_of ns id))) (sym none) (subst (HasAll ns []) g (none_yet ns))

pub instance_arguments : (ns : List Node) (id : ℕ) (n : Node) (value : Bool) (name : TypeName) (args ks : List ℕ) → term_of ns id ≡ built (terms ns) n → n ≡ Inst value name args → id < length ns
    → AllBelow id (children n) → ks ≡ args → HasAll ns ks (type_arguments (term_of ns id))
unfolding term_of
instance_arguments ns id n value name args ks e same low below is =
    let a : map (at (terms ns)) args ≡ type_arguments (term_of ns id) = arguments_are ns id n (Inst value name args) e same in
    let b : AllBelow id args = subst (λ (x : Node). AllBelow id (children x)) same below in
    subst (λ (xs : List ℕ). HasAll ns xs (type_arguments (term_of ns id))) (sym is)
    (record { within = λ k d h. let g = b k d h in omega arith; terms = a })
