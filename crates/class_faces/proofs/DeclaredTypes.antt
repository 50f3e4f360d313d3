-- The declaration of a type, from its node.
use Rattle.std.proofs.Common.{◌≡◌, ◌∙◌, sym, ap, ℕ, List, Option, None, Some, option_and_then}
use Rattle.type_terms.specs.declared.name.TypeName.{TypeName}
use Rattle.sig_pool.specs.declared.node.Node.{Node}
use Rattle.sig_pool.specs.Terms.{layer_of, built, terms, term_of}
use Rattle.assembly_tree.specs.declared.assembly.Assembly.{Assembly}
use Rattle.assembly_tree.specs.declared.typedef.TypeDef.{TypeDef}
use Rattle.assembly_tree.specs.DataSize.{declared}
use Rattle.type_hierarchy.specs.Ancestors.{layer_name, name_in}
use Rattle.type_hierarchy.specs.Hierarchy.{Hierarchy}
use Rattle.type_hierarchy.proofs.NodeLemmas.{layer_is}
use Rattle.class_model.specs.Classes.{declaration}

name_is : (w : Hierarchy) (ns : List Node) (id : ℕ) (n m : Node) → term_of ns id ≡ built (terms ns) n → n ≡ m → name_in w (term_of ns id) ≡ layer_name w (layer_of (terms ns) m)
unfolding name_in
name_is w ns id n m e same = ap (layer_name w) (layer_is ns id n m e same)

pub declaration_is : (a : Assembly) (w : Hierarchy) (ns : List Node) (id : ℕ) (n m : Node) → term_of ns id ≡ built (terms ns) n → n ≡ m →
    declaration a w (term_of ns id) ≡ option_and_then (declared a) (layer_name w (layer_of (terms ns) m))
declaration_is a w ns id n m e same = ap (λ (o : Option TypeName). option_and_then (declared a) o) (name_is w ns id n m e same)

-- where the node has a name, what the name is declared as
pub named_by : (a : Assembly) (w : Hierarchy) (ns pool : List Node) (key id : ℕ) (n m : Node) (name : TypeName) (d : Option TypeDef) → pool ≡ ns → id ≡ key →
    term_of pool id ≡ built (terms pool) n → n ≡ m → layer_name w (layer_of (terms pool) m) ≡ Some name → d ≡ declared a name → d ≡ declaration a w (term_of ns key)
named_by a w ns pool key id n m name d p k term same named is =
    is ∙ sym (ap (λ (o : Option TypeName). option_and_then (declared a) o) named) ∙ sym (declaration_is a w pool id n m term same)
    ∙ (λ i. declaration a w (term_of (p i) (k i)))

-- where it has none
pub undeclared : (a : Assembly) (w : Hierarchy) (ns pool : List Node) (key id : ℕ) (n m : Node) → pool ≡ ns → id ≡ key →
    term_of pool id ≡ built (terms pool) n → n ≡ m → layer_name w (layer_of (terms pool) m) ≡ None → None ≡ declaration a w (term_of ns key)
undeclared a w ns pool key id n m p k term same unnamed =
    sym (ap (λ (o : Option TypeName). option_and_then (declared a) o) unnamed) ∙ sym (declaration_is a w pool id n m term same)
    ∙ (λ i. declaration a w (term_of (p i) (k i)))
