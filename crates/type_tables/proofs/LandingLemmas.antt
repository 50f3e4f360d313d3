-- Where names lead along the core chains.
use Rattle.std.proofs.Common.{◌≡◌, refl, sym, ◌∙◌, ap, subst, ℕ, List, Option, None, Some, Bool, true, false, if◌then◌else◌}
use Rattle.std.specs.Prelude.{slice_get, option_and_then}
use Rattle.type_terms.specs.declared.name.TypeId.{TypeId}
use Rattle.type_terms.specs.declared.name.TypeName.{TypeName}
use Rattle.type_terms.specs.declared.term.Owner.{Owner}
use Rattle.type_terms.specs.declared.term.Owner.TheOpen.{SigType-F, Prim, Class, Value, Inst, Var, MVar, SzArray, Array, ByRef, Pointer, Mod, Pinned}
use Rattle.type_terms.specs.declared.term.SigType.{SigType, out-SigType}
use Rattle.type_terms.specs.declared.term.SigType.TheVariants as type
use Rattle.type_hierarchy.specs.Above.{name_above, path_of}
use Rattle.type_hierarchy.specs.Ancestors.{name_in, layer_name}
use Rattle.type_hierarchy.specs.Hierarchy.{Hierarchy, Declaration, chained, chained_in, core_name, chain_above}
use Rattle.type_hierarchy.specs.Distinct.{AreOnce}
use Rattle.type_tables.specs.Landings.{IsListed, Lands, here, along, LandsAt, IsLanding, TypeLandsAt, IsTypeLanding}
use Rattle.type_hierarchy.specs.Names.{class_of, full_name, the_object, the_value_type, the_enum, the_delegate, the_multicast_delegate, the_array, the_exception, same_path, same_scope}
use Rattle.type_hierarchy.specs.Tables.{hierarchy_in}
use Rattle.type_hierarchy.specs.declared.tables.Tables.{Tables}
use Rattle.type_terms.specs.declared.term.Primitive.{Primitive}
use Rattle.type_terms.specs.declared.term.Primitive.TheVariants as prim
use Rattle.type_hierarchy.specs.declared.core_types.Above.{Above}
use Rattle.type_hierarchy.specs.declared.core_types.Above.TheVariants.{Object, ValueType, Delegate}
use Rattle.type_hierarchy.proofs.Climbing.{same_layer}
use Rattle.type_hierarchy.proofs.NamedTypes.{class_named, instance_named, prim_named, value_named}
use Rattle.type_hierarchy.proofs.TableLemmas.{scope_decides}

pub some_none : {X : Type 0} {x : X} {o : Option X} → o ≡ Some x → o ≡ None → ⊥
some_none e f = let h : ⊥ = cc in h

pub some_same : {X : Type 0} {x y : X} {o : Option X} → o ≡ Some x → o ≡ Some y → x ≡ y
some_same e f = cc

-- ---- one name leads to one

pub lands_one : (w : Hierarchy) {name a b : TypeName} → Lands w name a → Lands w name b → a ≡ b
lands_one w (here e) (here f) = refl
lands_one w (here e) (along f c l) = absurd (some_none e f)
lands_one w (along e c l) (here f) = absurd (some_none f e)
lands_one w {b = b} (along {next = m} {last = x} e c l) (along {next = n} f d k) = lands_one w l (subst (λ (y : TypeName). Lands w y b) (some_same d c) k)

pub landing_one : (w : Hierarchy) (names : List TypeName) (name : TypeName) (i j : ℕ) → AreOnce names → LandsAt w names name i → LandsAt w names name j → i ≡ j
landing_one w names name i j once a b =
    once i j b.last (a.at ∙ ap Some (lands_one w a.lands b.lands)) b.at

-- what it leads to is declared
pub lands_declared : (w : Hierarchy) {name last : TypeName} → Lands w name last → (d : Declaration) × (w.declared last ≡ Some d)
lands_declared w (here {d = d} e) = (d, e)
lands_declared w (along e c l) = lands_declared w l

-- a name that stands nowhere isn't declared
pub undeclared : (w : Hierarchy) (names : List TypeName) (name : TypeName) → IsListed w names → ((k : ℕ) → slice_get names k ≡ Some name → ⊥) → w.declared name ≡ None
undeclared w names name l never = go (w.declared name) refl
  where
    go : (o : Option Declaration) → w.declared name ≡ o → w.declared name ≡ None
    go None e = e
    go (Some d) e = let at = l.found name d e in absurd (never at.0 at.1)

-- ---- by cases

pub landing_here : (w : Hierarchy) (names : List TypeName) (name : TypeName) (k : ℕ) → IsListed w names → slice_get names k ≡ Some name → IsLanding w names name (Some k)
landing_here w names name k l at = record { last = name; lands = here (l.named k name at).1; at = at }

pub landing_none : (w : Hierarchy) (names : List TypeName) (name : TypeName) → w.declared name ≡ None → chained w name ≡ None → IsLanding w names name None
landing_none w names name e c last (here f) = absurd (some_none f e)
landing_none w names name e c last (along f d l) = absurd (some_none d c)

pub landing_along : (w : Hierarchy) (names : List TypeName) (name next : TypeName) (o : Option ℕ) → w.declared name ≡ None → chained w name ≡ Some next
    → IsLanding w names next o → IsLanding w names name o
landing_along w names name next None e c never = λ last l. go last l
  where
    go : (last : TypeName) → Lands w name last → ⊥
    go last (here f) = absurd (some_none f e)
    go last (along {next = m} f d l) = never last (subst (λ (y : TypeName). Lands w y last) (some_same d c) l)
landing_along w names name next (Some j) e c at = record { last = at.last; lands = along e c at.lands; at = at.at }

-- ---- types

pub type_landing : (w : Hierarchy) (names : List TypeName) (t : SigType) (name : TypeName) (o : Option ℕ) → name_in w t ≡ Some name
    → IsLanding w names name o → IsTypeLanding w names t o
type_landing w names t name None e never = λ j at. never at.to.last (subst (λ (y : TypeName). Lands w y at.to.last) (some_same at.is e) at.to.lands)
type_landing w names t name (Some j) e at = record { name = name; is = e; to = at }

pub type_nowhere : (w : Hierarchy) (names : List TypeName) (t : SigType) → name_in w t ≡ None → IsTypeLanding w names t None
type_nowhere w names t e = λ j at. some_none at.is e

pub type_landing_one : (w : Hierarchy) (names : List TypeName) (t : SigType) (i j : ℕ) → AreOnce names → TypeLandsAt w names t i → TypeLandsAt w names t j → i ≡ j
type_landing_one w names t i j once a b =
    landing_one w names a.name i j once a.to (subst (λ (y : TypeName). LandsAt w names y j) (some_same b.is a.is) b.to)

-- ---- the core chains

itself_there : (w : Hierarchy) → same_scope w.core w.core ≡ true
itself_there w = (scope_decides w.core w.core).1 refl

both_none : (b : Bool) (x y : Option TypeName) → x ≡ None → y ≡ None → (if b then x else y) ≡ None
both_none true x y e f = e
both_none false x y e f = f

pub object_above : (w : Hierarchy) → chained w (core_name w the_object) ≡ None
object_above w = both_none (same_scope w.core w.core) None None refl refl

pub value_type_above : (w : Hierarchy) → chained w (core_name w the_value_type) ≡ Some (core_name w the_object)
value_type_above w = ap (λ b. if b then Some (core_name w the_object) else None) (itself_there w)

pub delegate_above : (w : Hierarchy) → chained w (core_name w the_delegate) ≡ Some (core_name w the_object)
delegate_above w = ap (λ b. if b then Some (core_name w the_object) else None) (itself_there w)

-- ---- each core chain ends at Object

-- a class that stands above others, or none
data IsTop (o : Option (List TypeId)) : Type 0 where
  not_above : o ≡ None → IsTop o
  above : (a : Above) → o ≡ Some (path_of a) → IsTop o

if_top : (b : Bool) (x y : Option (List TypeId)) → IsTop x → IsTop y → IsTop (if b then x else y)
if_top true x y p q = p
if_top false x y p q = q

chain_top : (path : List TypeId) → IsTop (chain_above path)
chain_top path =
    if_top (same_path path the_enum) _ _ (above ValueType refl)
    (if_top (same_path path the_value_type) _ _ (above Object refl)
    (if_top (same_path path the_multicast_delegate) _ _ (above Delegate refl)
    (if_top (same_path path the_delegate) _ _ (above Object refl)
    (if_top (same_path path (class_of prim.Str)) _ _ (above Object refl)
    (if_top (same_path path the_array) _ _ (above Object refl)
    (if_top (same_path path the_exception) _ _ (above Object refl) (not_above refl)))))))

abbrev in_core : Hierarchy → Option (List TypeId) → Option TypeName
in_core w o = option_and_then (λ path. Some (core_name w path)) o

top_of_some : (w : Hierarchy) (b : Bool) (o : Option (List TypeId)) (next : TypeName) → IsTop o → (if b then in_core w o else None) ≡ Some next
    → (a : Above) × (next ≡ core_name w (path_of a))
top_of_some w false o next t e = absurd (let h : ⊥ = cc in h)
top_of_some w true o next (not_above n) e = absurd (some_none e (ap (in_core w) n))
top_of_some w true o next (above a p) e = (a, some_same e (ap (in_core w) p))

-- what comes next in a chain stands above others
pub chained_top : (w : Hierarchy) (name next : TypeName) → chained w name ≡ Some next → (a : Above) × (next ≡ core_name w (path_of a))
chained_top w name next e = top_of_some w (same_scope name.scope w.core) (chain_above name.path) next (chain_top name.path) e

-- above one of those is Object
above_top : (w : Hierarchy) (a : Above) (next : TypeName) → chained w (core_name w (path_of a)) ≡ Some next → next ≡ core_name w the_object
above_top w Object next e = absurd (some_none e (object_above w))
above_top w ValueType next e = some_same e (value_type_above w)
above_top w Delegate next e = some_same e (delegate_above w)

pub chain_ends : (w : Hierarchy) (x y z : TypeName) → chained w x ≡ Some y → chained w y ≡ Some z → chained w z ≡ None
chain_ends w x y z e f =
    let t = chained_top w x y e in
    let last : z ≡ core_name w the_object = above_top w t.0 z (subst (λ (n : TypeName). chained w n ≡ Some z) t.1 f) in
    ap (chained w) last ∙ object_above w

-- ---- by tables

pub name_at : (t : Tables) (path : List TypeId) → full_name t.values.core path ≡ core_name (hierarchy_in t) path
unfolding hierarchy_in
name_at t path = refl

pub chained_some : (t : Tables) (name : TypeName) (a : Above) → name_above t.values.core (Some a) ≡ chained_in t.values.core name
    → chained (hierarchy_in t) name ≡ Some (core_name (hierarchy_in t) (path_of a))
unfolding hierarchy_in
chained_some t name a e = sym e

pub chained_none : (t : Tables) (name : TypeName) → name_above t.values.core None ≡ chained_in t.values.core name → chained (hierarchy_in t) name ≡ None
unfolding hierarchy_in
chained_none t name e = sym e

-- ---- names in types

-- where the name leads that a type is known to have
pub known_landing : (w : Hierarchy) (names : List TypeName) (t u : SigType) (name other : TypeName) (o : Option ℕ) → t ≡ u → name_in w u ≡ Some name → other ≡ name
    → IsLanding w names other o → IsTypeLanding w names t o
known_landing w names t u name other o e n same l =
    type_landing w names t name o (ap (name_in w) e ∙ n) (subst (λ (x : TypeName). IsLanding w names x o) same l)

no_name : (w : Hierarchy) (t : SigType) (l : SigType-F Owner SigType) → out-SigType t ≡ l → ((p : Primitive) → t ≡ type.Prim p → ⊥) → ((n : TypeName) → t ≡ type.Class n → ⊥)
    → ((n : TypeName) → t ≡ type.Value n → ⊥) → ((v : Bool) (n : TypeName) (args : List SigType) → t ≡ type.Inst v n args → ⊥) → layer_name w l ≡ None
no_name w t (Prim p) e a b c d = absurd (a p (same_layer t (type.Prim p) (e ∙ sym (type.outs-Prim p))))
no_name w t (Class n) e a b c d = absurd (b n (same_layer t (type.Class n) (e ∙ sym (type.outs-Class n))))
no_name w t (Value n) e a b c d = absurd (c n (same_layer t (type.Value n) (e ∙ sym (type.outs-Value n))))
no_name w t (Inst v n args) e a b c d = absurd (d v n args (same_layer t (type.Inst v n args) (e ∙ sym (type.outs-Inst v n args))))
no_name w t (Var n) e a b c d = refl
no_name w t (MVar n) e a b c d = refl
no_name w t (SzArray of) e a b c d = refl
no_name w t (Array of rank sizes lower) e a b c d = refl
no_name w t (ByRef of) e a b c d = refl
no_name w t (Pointer of) e a b c d = refl
no_name w t (Mod r by of) e a b c d = refl
no_name w t (Pinned of) e a b c d = refl

-- a type without a name leads nowhere
pub unnamed_nowhere : (w : Hierarchy) (names : List TypeName) (t : SigType) → ((p : Primitive) → t ≡ type.Prim p → ⊥) → ((n : TypeName) → t ≡ type.Class n → ⊥)
    → ((n : TypeName) → t ≡ type.Value n → ⊥) → ((v : Bool) (n : TypeName) (args : List SigType) → t ≡ type.Inst v n args → ⊥) → IsTypeLanding w names t None
unfolding name_in
unnamed_nowhere w names t a b c d = type_nowhere w names t (no_name w t (out-SigType t) refl a b c d)
