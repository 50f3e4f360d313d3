-- The names of the types that owners mean.
use Rattle.std.proofs.Common.{◌≡◌, ◌∙◌, refl, sym, ap, inl, inr, ℕ, ℤ, Bool, true, false, cond, List, [], ◌∷◌, Option, None, Some, if◌then◌else◌}
use Rattle.std.specs.List.{find}
use Rattle.std.proofs.lemmas.Bool.{cases_Bool}
use Rattle.std.proofs.lemmas.Option.{same_Some}
use Rattle.type_terms.specs.declared.name.Scope.{Scope}
use Rattle.type_terms.specs.declared.name.TypeName.{TypeName}
use Rattle.type_terms.specs.declared.term.Primitive.{Primitive}
use Rattle.type_terms.specs.declared.term.Owner.{Owner}
use Rattle.type_terms.specs.declared.term.Owner.TheOpen.{Owner-F}
use Rattle.type_terms.specs.declared.term.Owner.TheVariants as owner
use Rattle.type_terms.specs.declared.term.SigType.{SigType}
use Rattle.type_terms.specs.declared.term.SigType.TheVariants as type
use Rattle.type_terms.proofs.Layers.{fold-Array, fold-ByRef, fold-Class, fold-Inst, fold-MVar, fold-Mod, fold-Pinned, fold-Pointer, fold-Prim, fold-SzArray, fold-Value, fold-Var}
use Rattle.type_hierarchy.specs.Ancestors.{layer_name, name_in}
use Rattle.type_hierarchy.specs.Hierarchy.{Hierarchy, core_name}
use Rattle.type_hierarchy.specs.Names.{class_of, primitives, same_scope}
use Rattle.type_hierarchy.specs.Normal.{has_class, layer_normal_owner, meant, name_or_primitive, named_type, normal, normal_owner, normal_owner_step, normal_step, primitive_of}
use Rattle.type_hierarchy.proofs.NamedTypes.{class_named, instance_named, prim_named, value_named}
use Rattle.type_hierarchy.proofs.TableLemmas.{path_decides, scope_decides}
use Rattle.type_order.specs.Keys.{reading_of}

-- ---- a name's type has that name

found_holds : {X : Type 0} (p : X → Bool) (xs : List X) (x : X) → find p xs ≡ Some x → p x ≡ true
found_holds p [] x e = absurd (let f : ⊥ = cc in f)
found_holds p (y ∷ ys) x e = elim (cases_Bool (p y)) [
  | inl t ↦ let here : Some y ≡ Some x = sym (ap (λ (b : Bool). cond b (Some y) (find p ys)) t) ∙ e in ap p (sym (same_Some y x here)) ∙ t
  | inr f ↦ found_holds p ys x (sym (ap (λ (b : Bool). cond b (Some y) (find p ys)) f) ∙ e)
]

-- the class of a primitive type has no other name
class_is : (core : Scope) (name : TypeName) (p : Primitive) → primitive_of core name ≡ Some p → record { scope = core; path = class_of p } ≡ name
class_is core name p e = elim (cases_Bool (same_scope name.scope core)) [
  | inl is ↦
      let found : find (has_class name.path) primitives ≡ Some p = sym (ap (λ (b : Bool). if b then find (has_class name.path) primitives else None) is) ∙ e in
      let scope = (scope_decides name.scope core).0 is in
      let path = (path_decides name.path (class_of p)).0 (found_holds (has_class name.path) primitives p found) in
      λ i. record { scope = sym scope i; path = sym path i }
  | inr other ↦ absurd (
      let none : None ≡ Some p = sym (ap (λ (b : Bool). if b then find (has_class name.path) primitives else None) other) ∙ e in
      let f : ⊥ = cc in f)
]

module _ (w : Hierarchy) where
  value_or_class : (name : TypeName) (b : Bool) → name_in w (if b then type.Value name else type.Class name) ≡ Some name
  value_or_class name true = value_named w name
  value_or_class name false = class_named w name

  by_primitive : (name : TypeName) (o : Option Primitive) → primitive_of w.core name ≡ o → name_in w (name_or_primitive (reading_of w) name o) ≡ Some name
  by_primitive name None e = value_or_class name (w.is_value name)
  by_primitive name (Some p) e = prim_named w p ∙ ap Some (class_is w.core name p e)

  pub named_name : (name : TypeName) → name_in w (named_type (reading_of w) name) ≡ Some name
  named_name name = by_primitive name (primitive_of w.core name) refl

  -- ---- of types

  pub class_meant : (name : TypeName) → name_in w (normal (reading_of w) (type.Class name)) ≡ Some (meant (reading_of w) name)
  unfolding normal
  class_meant name =
      let r = reading_of w in
      ap (name_in w) (fold-Class SigType SigType (normal_owner_step r) (normal_step r) name) ∙ named_name (meant r name)

  pub value_meant : (name : TypeName) → name_in w (normal (reading_of w) (type.Value name)) ≡ Some (meant (reading_of w) name)
  unfolding normal
  value_meant name =
      let r = reading_of w in
      ap (name_in w) (fold-Value SigType SigType (normal_owner_step r) (normal_step r) name) ∙ named_name (meant r name)

  pub instance_meant : (v : Bool) (name : TypeName) (args : List SigType) → name_in w (normal (reading_of w) (type.Inst v name args)) ≡ Some (meant (reading_of w) name)
  unfolding normal
  instance_meant v name args =
      let r = reading_of w in
      ap (name_in w) (fold-Inst SigType SigType (normal_owner_step r) (normal_step r) v name args) ∙ instance_named w (w.is_value (meant r name)) (meant r name) _

  pub primitive_meant : (p : Primitive) → name_in w (normal (reading_of w) (type.Prim p)) ≡ Some (core_name w (class_of p))
  unfolding normal
  primitive_meant p =
      let r = reading_of w in
      ap (name_in w) (fold-Prim SigType SigType (normal_owner_step r) (normal_step r) p) ∙ prim_named w p

  pub modified_meant : (required : Bool) (by : Owner) (of : SigType) → name_in w (normal (reading_of w) (type.Mod required by of)) ≡ name_in w (normal (reading_of w) of)
  unfolding normal
  modified_meant required by of =
      let r = reading_of w in
      ap (name_in w) (fold-Mod SigType SigType (normal_owner_step r) (normal_step r) required by of)

  pub pinned_meant : (of : SigType) → name_in w (normal (reading_of w) (type.Pinned of)) ≡ name_in w (normal (reading_of w) of)
  unfolding normal
  pinned_meant of =
      let r = reading_of w in
      ap (name_in w) (fold-Pinned SigType SigType (normal_owner_step r) (normal_step r) of)

  -- ---- of types without a name

  pub variable_unnamed : (n : ℕ) → name_in w (normal (reading_of w) (type.Var n)) ≡ None
  unfolding normal name_in
  variable_unnamed n =
      let r = reading_of w in
      ap (name_in w) (fold-Var SigType SigType (normal_owner_step r) (normal_step r) n) ∙ ap (layer_name w) (type.outs-Var n)

  pub method_variable_unnamed : (n : ℕ) → name_in w (normal (reading_of w) (type.MVar n)) ≡ None
  unfolding normal name_in
  method_variable_unnamed n =
      let r = reading_of w in
      ap (name_in w) (fold-MVar SigType SigType (normal_owner_step r) (normal_step r) n) ∙ ap (layer_name w) (type.outs-MVar n)

  pub vector_unnamed : (of : SigType) → name_in w (normal (reading_of w) (type.SzArray of)) ≡ None
  unfolding normal name_in
  vector_unnamed of =
      let r = reading_of w in
      ap (name_in w) (fold-SzArray SigType SigType (normal_owner_step r) (normal_step r) of) ∙ ap (layer_name w) (type.outs-SzArray (normal r of))

  pub array_unnamed : (of : SigType) (rank : ℕ) (sizes : List ℕ) (lower : List ℤ) → name_in w (normal (reading_of w) (type.Array of rank sizes lower)) ≡ None
  unfolding normal name_in
  array_unnamed of rank sizes lower =
      let r = reading_of w in
      ap (name_in w) (fold-Array SigType SigType (normal_owner_step r) (normal_step r) of rank sizes lower) ∙ ap (layer_name w) (type.outs-Array (normal r of) rank sizes lower)

  pub by_reference_unnamed : (of : SigType) → name_in w (normal (reading_of w) (type.ByRef of)) ≡ None
  unfolding normal name_in
  by_reference_unnamed of =
      let r = reading_of w in
      ap (name_in w) (fold-ByRef SigType SigType (normal_owner_step r) (normal_step r) of) ∙ ap (layer_name w) (type.outs-ByRef (normal r of))

  pub pointer_unnamed : (of : SigType) → name_in w (normal (reading_of w) (type.Pointer of)) ≡ None
  unfolding normal name_in
  pointer_unnamed of =
      let r = reading_of w in
      ap (name_in w) (fold-Pointer SigType SigType (normal_owner_step r) (normal_step r) of) ∙ ap (layer_name w) (type.outs-Pointer (normal r of))

  -- ---- of owners

  pub name_meant : (name : TypeName) → name_in w (normal_owner (reading_of w) (owner.Name name)) ≡ Some (meant (reading_of w) name)
  unfolding normal_owner
  name_meant name =
      let r = reading_of w in
      ap (λ (l : Owner-F Owner SigType). name_in w (layer_normal_owner r l)) (owner.outs-Name name) ∙ named_name (meant r name)

  pub type_meant : (of : SigType) → name_in w (normal_owner (reading_of w) (owner.Spec of)) ≡ name_in w (normal (reading_of w) of)
  unfolding normal_owner
  type_meant of =
      let r = reading_of w in
      ap (λ (l : Owner-F Owner SigType). name_in w (layer_normal_owner r l)) (owner.outs-Spec of)
