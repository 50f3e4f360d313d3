-- What owners name.
use Rattle.std.proofs.Common.{◌≡◌, ◌∙◌, ap, sym, subst, ℕ, List, []}
use Rattle.type_terms.specs.declared.name.TypeName.{TypeName}
use Rattle.type_terms.specs.declared.term.Owner.TheOpen as layer
use Rattle.type_terms.specs.declared.term.Owner.TheVariants as owner
use Rattle.type_terms.specs.declared.term.SigType.{SigType, fold-SigType, fold-roll-SigType}
use Rattle.type_terms.specs.declared.term.SigType.TheVariants as type
use Rattle.sig_pool.specs.declared.node.Node.{Node}
use Rattle.sig_pool.specs.Pool.{Has}
use Rattle.sig_pool.specs.Replaced.{replaced, terms_at}
use Rattle.type_hierarchy.specs.World.{Content, hierarchy}
use Rattle.type_order.specs.Keys.{reading_of}
use Rattle.type_hierarchy.specs.Normal.{Reading, normal, normal_owner, normal_owner_step, normal_step, layer_normal_owner, named_type, meant}

pub class_is : (r : Reading) (n : TypeName) → normal r (type.Class n) ≡ named_type r (meant r n)
unfolding normal
class_is r n =
    ap (fold-SigType SigType SigType (normal_owner_step r) (normal_step r)) (sym (type.rolls-Class n))
    ∙ fold-roll-SigType SigType SigType (normal_owner_step r) (normal_step r) (layer.Class n)

pub name_is : (r : Reading) (n : TypeName) → normal r (type.Class n) ≡ normal_owner r (owner.Name n)
unfolding normal_owner
name_is r n = class_is r n ∙ ap (layer_normal_owner r) (sym (owner.outs-Name n))

pub spec_is : (r : Reading) (t : SigType) → normal r t ≡ normal_owner r (owner.Spec t)
unfolding normal_owner
spec_is r t = ap (layer_normal_owner r) (sym (owner.outs-Spec t))

pub spec_has : (w : Content) (ms : List Node) (args none : List ℕ) (t : SigType) (k : ℕ) → none ≡ [] →
    Has ms k (replaced (terms_at w.nodes args) (terms_at w.nodes none) (normal (reading_of (hierarchy w)) t)) →
    Has ms k (replaced (terms_at w.nodes args) [] (normal_owner (reading_of (hierarchy w)) (owner.Spec t)))
spec_has w ms args none t k e h =
    subst (Has ms k) (λ i. replaced (terms_at w.nodes args) (terms_at w.nodes (e i)) (spec_is (reading_of (hierarchy w)) t i)) h

pub name_has : (w : Content) (ms : List Node) (args none : List ℕ) (n copied : TypeName) (k : ℕ) → none ≡ [] → copied ≡ n →
    Has ms k (replaced (terms_at w.nodes args) (terms_at w.nodes none) (normal (reading_of (hierarchy w)) (type.Class copied))) →
    Has ms k (replaced (terms_at w.nodes args) [] (normal_owner (reading_of (hierarchy w)) (owner.Name n)))
name_has w ms args none n copied k e c h =
    subst (λ (m : TypeName). Has ms k (replaced (terms_at w.nodes args) [] (normal_owner (reading_of (hierarchy w)) (owner.Name m)))) c
    (subst (Has ms k) (λ i. replaced (terms_at w.nodes args) (terms_at w.nodes (e i)) (name_is (reading_of (hierarchy w)) copied i)) h)
