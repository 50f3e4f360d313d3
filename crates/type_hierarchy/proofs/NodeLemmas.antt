-- What is said of the type of a node, from the node.
use Rattle.std.proofs.Common.{◌≡◌, ◌∙◌, ap, refl, sym, ℕ, suc, ◌<◌, arith, Bool, true, false, List, [], ◌∷◌, length, map, Option, Some, unwrap_or}
use Rattle.type_terms.specs.declared.name.TypeName.{TypeName}
use Rattle.type_terms.specs.declared.term.Primitive.{Primitive}
use Rattle.type_terms.specs.declared.term.Primitive.TheVariants as prim
use Rattle.type_terms.specs.declared.term.SigType.{SigType, out-SigType, out-roll-SigType}
use Rattle.sig_pool.specs.declared.node.Node.{Node}
use Rattle.sig_pool.specs.Pool.{Has, Extends}
use Rattle.sig_pool.specs.Replaced.{replaced, terms_at}
use Rattle.sig_pool.specs.Terms.{AllBelow, at, layer_of, built, terms, term_of}
use Rattle.type_hierarchy.specs.Above.{name_above}
use Rattle.type_hierarchy.specs.declared.core_types.Above.{Above}
use Rattle.type_hierarchy.specs.declared.tables.Declared.{Declared}
use Rattle.type_hierarchy.specs.declared.tables.Tables.{Tables}
use Rattle.type_hierarchy.specs.Meaning.{meant, IsWithin, Means, instance_type}
use Rattle.type_hierarchy.specs.declared.stack_type.StackType.{StackType}
use Rattle.type_hierarchy.specs.Names.{full_name, class_of}
use Rattle.type_hierarchy.specs.Pooled.{HasOption, put_in}
use Rattle.type_hierarchy.specs.Tables.{entry_of, declaration, declaration_in, hierarchy_in}
use Rattle.type_hierarchy.specs.Hierarchy.{Hierarchy, declared_interfaces, object, core_name, instance_parent, chained_in, parent_by, name_parent, primitive_parent, parent, layer_parent, interfaces, layer_interfaces, elements, layer_elements, underlying, layer_underlying}
use Rattle.type_hierarchy.specs.Stack.{is_reference, layer_is_reference, primitive, layer_primitive, counts_as, changed, verified, signed, verification_type, reduced_type, pointer_to, plain_stack, layer_stack, instance_stack, stack_of, stack_by, Stack}

pub layer_is : (ns : List Node) (id : ℕ) (n m : Node) → term_of ns id ≡ built (terms ns) n → n ≡ m → out-SigType (term_of ns id) ≡ layer_of (terms ns) m
unfolding built
layer_is ns id n m e same = ap out-SigType e ∙ out-roll-SigType (layer_of (terms ns) n) ∙ ap (layer_of (terms ns)) same

pub parent_is : (w : Hierarchy) (ns : List Node) (id : ℕ) (n m : Node) → term_of ns id ≡ built (terms ns) n → n ≡ m → parent w (term_of ns id) ≡ layer_parent w (layer_of (terms ns) m)
unfolding parent
parent_is w ns id n m e same = ap (layer_parent w) (layer_is ns id n m e same)

pub interfaces_are : (w : Hierarchy) (ns : List Node) (id : ℕ) (n m : Node) → term_of ns id ≡ built (terms ns) n → n ≡ m → interfaces w (term_of ns id) ≡ layer_interfaces w (layer_of (terms ns) m)
unfolding interfaces
interfaces_are w ns id n m e same = ap (layer_interfaces w) (layer_is ns id n m e same)

pub elements_are : (ns : List Node) (id : ℕ) (n m : Node) → term_of ns id ≡ built (terms ns) n → n ≡ m → elements (term_of ns id) ≡ layer_elements (layer_of (terms ns) m)
unfolding elements
elements_are ns id n m e same = ap layer_elements (layer_is ns id n m e same)

pub underlying_is : (w : Hierarchy) (ns : List Node) (id : ℕ) (n m : Node) → term_of ns id ≡ built (terms ns) n → n ≡ m → underlying w (term_of ns id) ≡ layer_underlying w (layer_of (terms ns) m)
unfolding underlying
underlying_is w ns id n m e same = ap (layer_underlying w) (layer_is ns id n m e same)

pub reference_is : (ns : List Node) (id : ℕ) (n m : Node) → term_of ns id ≡ built (terms ns) n → n ≡ m → is_reference (term_of ns id) ≡ layer_is_reference (layer_of (terms ns) m)
unfolding is_reference
reference_is ns id n m e same = ap layer_is_reference (layer_is ns id n m e same)

pub primitive_is : (ns : List Node) (id : ℕ) (n m : Node) → term_of ns id ≡ built (terms ns) n → n ≡ m → primitive (term_of ns id) ≡ layer_primitive (layer_of (terms ns) m)
unfolding primitive
primitive_is ns id n m e same = ap layer_primitive (layer_is ns id n m e same)

-- ---- ids of parents

pub some_id : (ns : List Node) (id : ℕ) (t : SigType) → Has ns id t → HasOption ns (Some id) (Some t)
some_id ns id t h = (t, refl, h)

-- the parent of a name's type, from what is known of the name
pub known_parent : (t : Tables) (name : TypeName) (above : Option Above) (d : Option Declared)
    → name_above t.values.core above ≡ chained_in t.values.core name → d ≡ entry_of t name
    → parent_by (hierarchy_in t) (name_above t.values.core above) (declaration_in d) ≡ name_parent (hierarchy_in t) name ((hierarchy_in t).declared name)
unfolding hierarchy_in
known_parent t name above d e f = λ i. parent_by (hierarchy_in t) (e i) (declaration_in (f i))

pub known_declaration : (t : Tables) (name : TypeName) (d : Option Declared)
    → d ≡ entry_of t name → declaration_in d ≡ (hierarchy_in t).declared name
unfolding hierarchy_in
known_declaration t name d f = ap declaration_in f

-- the arguments of an instantiation, as the pool has them
pub arguments : (ns : List Node) (args : List ℕ) → terms_at ns args ≡ map (at (terms ns)) args
unfolding term_of
arguments ns args = refl

primitive_named : (w : Hierarchy) (p : Primitive) → (p ≡ prim.Object → ⊥) → Some (name_parent w (core_name w (class_of p)) (w.declared (core_name w (class_of p)))) ≡ primitive_parent w p
primitive_named w prim.Object h = absurd (h refl)
primitive_named w p h = refl

pub primitive_known : (t : Tables) (p : Primitive) (above : Option Above) (d : Option Declared) → (p ≡ prim.Object → ⊥)
    → name_above t.values.core above ≡ chained_in t.values.core (full_name t.values.core (class_of p)) → d ≡ entry_of t (full_name t.values.core (class_of p))
    → Some (parent_by (hierarchy_in t) (name_above t.values.core above) (declaration_in d)) ≡ primitive_parent (hierarchy_in t) p
unfolding hierarchy_in
primitive_known t p above d h e f =
    ap Some (known_parent t (full_name t.values.core (class_of p)) above d e f) ∙ primitive_named (hierarchy_in t) p h

pub known_instance : (t : Tables) (ns : List Node) (args copied : List ℕ) (name : TypeName) (d : Option Declared)
    → copied ≡ args → d ≡ entry_of t name
    → Some (instance_parent (map (at (terms ns)) args) ((hierarchy_in t).declared name)) ≡ Some (instance_parent (terms_at ns copied) (declaration_in d))
unfolding hierarchy_in term_of
known_instance t ns args copied name d e f = λ i. Some (instance_parent (map (at (terms ns)) (sym e i)) (declaration_in (sym f i)))

-- ---- a pool that grew

pub terms_same : (ns ms : List Node) (ids : List ℕ) → Extends ns ms → AllBelow (length ns) ids → terms_at ms ids ≡ terms_at ns ids
terms_same ns ms [] e p = refl
terms_same ns ms (k ∷ ids) e p =
    let here : term_of ms k ≡ term_of ns k = e.terms k (p 0 0 (omega arith)) in
    let more : terms_at ms ids ≡ terms_at ns ids = terms_same ns ms ids e (λ i d h. p (suc i) d (omega arith)) in
    λ i. here i ∷ more i

pub instance_is : (ns ms ks : List Node) (args : List ℕ) (d : Declared) (base r : ℕ) → Extends ns ms → AllBelow (length ns) args
    → Has ms base (unwrap_or d.base object) → Has ks r (replaced (terms_at ms args) (terms_at ms []) (term_of ms base))
    → HasOption ks (Some r) (Some (instance_parent (terms_at ns args) (Some (declaration d))))
instance_is ns ms ks args d base r e p b h =
    let same : replaced (terms_at ms args) [] (term_of ms base) ≡ replaced (terms_at ns args) [] (unwrap_or d.base object)
    = λ i. replaced (terms_same ns ms args e p i) [] (b.term i) in
    (replaced (terms_at ns args) [] (unwrap_or d.base object), refl, record { within = h.within; term = h.term ∙ same })

-- ---- what a type counts as

pub verification_is : (w : Hierarchy) (t : SigType) (o : Option Primitive) → counts_as w t ≡ o → verification_type w t ≡ changed verified t o
unfolding verification_type
verification_is w t o e = ap (changed verified t) e

pub reduced_is : (w : Hierarchy) (t : SigType) (o : Option Primitive) → counts_as w t ≡ o → reduced_type w t ≡ changed signed t o
unfolding reduced_type
reduced_is w t o e = ap (changed signed t) e

-- ---- interfaces

pub prim_declaration : (t : Tables) (p : Primitive) (d : Option Declared) → d ≡ entry_of t (full_name t.values.core (class_of p))
    → declaration_in d ≡ (hierarchy_in t).declared (core_name (hierarchy_in t) (class_of p))
unfolding hierarchy_in
prim_declaration t p d e = ap declaration_in e

put_in_some : (args : List SigType) (ts : List SigType) → map (replaced args []) ts ≡ map (put_in (Some args)) ts
put_in_some args [] = refl
put_in_some args (t ∷ ts) = ap (λ l. replaced args [] t ∷ l) (put_in_some args ts)

pub instance_interfaces : (t : Tables) (ns : List Node) (args copied : List ℕ) (name : TypeName) (d : Option Declared)
    → copied ≡ args → d ≡ entry_of t name
    → map (replaced (map (at (terms ns)) args) []) (declared_interfaces ((hierarchy_in t).declared name)) ≡ map (put_in (Some (terms_at ns copied))) (declared_interfaces (declaration_in d))
unfolding hierarchy_in term_of
instance_interfaces t ns args copied name d e f =
    (λ i. map (replaced (map (at (terms ns)) (sym e i)) []) (declared_interfaces (declaration_in (sym f i)))) ∙ put_in_some (terms_at ns copied) (declared_interfaces (declaration_in d))

-- ---- on the stack

pub plain_is : (w : Hierarchy) (ns : List Node) (id : ℕ) (n m : Node) → term_of ns id ≡ built (terms ns) n → n ≡ m → plain_stack w (term_of ns id) ≡ layer_stack w (term_of ns id) (layer_of (terms ns) m)
unfolding plain_stack
plain_is w ns id n m e same = ap (layer_stack w (term_of ns id)) (layer_is ns id n m e same)

pub stack_is : (w : Hierarchy) (t : SigType) (o : Option Primitive) → underlying w t ≡ o → stack_of w t ≡ stack_by w t o
unfolding stack_of
stack_is w t o e = ap (stack_by w t) e

pub pointed : (w : Hierarchy) (ns : List Node) (k : ℕ) → pointer_to w (at (terms ns) k) ≡ pointer_to w (term_of ns k)
unfolding term_of
pointed w ns k = refl

pub child : (ns : List Node) (id k : ℕ) → AllBelow id (k ∷ []) → id < length ns → k < length ns
child ns id k p h = let l : k < id = p 0 0 (omega arith) in omega arith

-- a key that means what it stands for
pub means_key : (ns : List Node) (s : StackType) (x : Stack) → IsWithin (length ns) s → meant ns s ≡ x → Means ns s x
means_key ns s x h e = record { within = h; is = e }

pub means_instance : (ns : List Node) (v : Bool) (id : ℕ) → id < length ns → Means ns (instance_type v id) (instance_stack v (term_of ns id))
means_instance ns true id h = record { within = h; is = refl }
means_instance ns false id h = record { within = h; is = refl }
