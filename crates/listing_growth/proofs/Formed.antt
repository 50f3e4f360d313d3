-- What is well formed and held can be written.
use Rattle.std.proofs.Common.{◌≡◌, ℕ, suc, arith, ◌&&◌, nat_lt, Bool, true, false, List, [], ◌∷◌, map, length, Option, None, Some, refl, sym, ◌∙◌}
use Rattle.std.proofs.lemmas.Bool.{and_parts}
use Rattle.std.specs.List.{list_all}
use Rattle.type_terms.specs.declared.reference.FieldRef.{FieldRef}
use Rattle.type_terms.specs.declared.reference.MethodRef.{MethodRef}
use Rattle.type_terms.specs.declared.reference.MethodSig.{MethodSig}
use Rattle.type_terms.specs.declared.term.Owner.{Owner, fold-Owner, fold-roll-Owner, map-Owner}
use Rattle.type_terms.specs.declared.term.Owner.TheOpen as layer
use Rattle.type_terms.specs.declared.term.SigType.{SigType, fold-SigType, fold-roll-SigType, map-SigType}
use Rattle.type_terms.proofs.Layers.{OwnerWith, TypeWith, owner_values, type_values, by_layers, owner_by_layers}
use Rattle.assembly_tree.specs.WellFormedMembers.{is_attribute, is_generic}
use Rattle.assembly_tree.specs.WellFormedNames.{option_all}
use Rattle.assembly_tree.specs.WellFormedTerms as formed
use Rattle.assembly_tree.specs.declared.assembly.Assembly.{Assembly}
use Rattle.assembly_tree.specs.declared.members.Attribute.{Attribute}
use Rattle.assembly_tree.specs.declared.members.Generic.{Generic}
use Rattle.assembly_tree.proofs.FormedFacts.{method_refs_named, field_refs_named, signatures_named}
use Rattle.listing_growth.specs.Held.{owner_holds, type_holds, is_type_held, is_owner_held, is_signature_held, is_method_ref_held, is_field_ref_held, is_attribute_held, is_generic_held}
use Rattle.listing_growth.specs.Standing.{owner_stands, type_stands, can_stand, owner_can_stand, all_stand, all_owners_stand, args_stand, signature_stands, method_stands, field_stands, generic_stands, all_generics_stand}

pub both : (x y : Bool) → x ≡ true → y ≡ true → (x && y) ≡ true
both true y h k = k
both false y h k = h

-- a list with an item isn't empty
pub some_length : (n : ℕ) → nat_lt 0 (suc n) ≡ true
some_length n = grind arith

-- what two tests give of each item
pub all_both : {X : Type 0} (p q r : X → Bool) → ((x : X) → p x ≡ true → q x ≡ true → r x ≡ true) → (xs : List X) →
    list_all p xs ≡ true → list_all q xs ≡ true → list_all r xs ≡ true
all_both p q r f [] h k = refl
all_both p q r f (x ∷ xs) h k =
    let hs = and_parts (p x) (list_all p xs) h in
    let ks = and_parts (q x) (list_all q xs) k in
    both (r x) (list_all r xs) (f x hs.0 ks.0) (all_both p q r f xs hs.1 ks.1)

module _ (a : Assembly) where
  abbrev made : SigType → Bool
  made = fold-SigType Bool Bool (formed.owner_step a) (formed.type_step a)

  abbrev owner_made : Owner → Bool
  owner_made = fold-Owner Bool Bool (formed.owner_step a) (formed.type_step a)

  abbrev held : SigType → Bool
  held = fold-SigType Bool Bool owner_holds type_holds

  abbrev owner_held : Owner → Bool
  owner_held = fold-Owner Bool Bool owner_holds type_holds

  abbrev may : SigType → Bool
  may = fold-SigType Bool Bool owner_stands type_stands

  abbrev owner_may : Owner → Bool
  owner_may = fold-Owner Bool Bool owner_stands type_stands

  abbrev Q : SigType → Type 0
  Q t = made t ≡ true → held t ≡ true → may t ≡ true

  abbrev P : Owner → Type 0
  P o = owner_made o ≡ true → owner_held o ≡ true → owner_may o ≡ true

  args_may : (args : List (TypeWith P Q)) → list_all (λ ok. ok) (map made (map (λ (x : TypeWith P Q). x.0) args)) ≡ true →
      list_all (λ ok. ok) (map held (map (λ (x : TypeWith P Q). x.0) args)) ≡ true →
      list_all (λ ok. ok) (map may (map (λ (x : TypeWith P Q). x.0) args)) ≡ true
  args_may [] m h = refl
  args_may (x ∷ xs) m h =
      let ms = and_parts _ _ m in
      let hs = and_parts _ _ h in
      both _ _ (x.1 ms.0 hs.0) (args_may xs ms.1 hs.1)

  some_args : (args : List (TypeWith P Q)) → nat_lt 0 (length (map made (map (λ (x : TypeWith P Q). x.0) args))) ≡ true →
      nat_lt 0 (length (map may (map (λ (x : TypeWith P Q). x.0) args))) ≡ true
  some_args [] h = h
  some_args (x ∷ xs) h = some_length _

  type_layer : (l : layer.SigType-F (OwnerWith P Q) (TypeWith P Q)) →
      formed.type_step a (map-SigType Owner SigType Bool Bool owner_made made (type_values P Q l)) ≡ true →
      type_holds (map-SigType Owner SigType Bool Bool owner_held held (type_values P Q l)) ≡ true →
      type_stands (map-SigType Owner SigType Bool Bool owner_may may (type_values P Q l)) ≡ true
  type_layer (layer.Prim x) m h = refl
  type_layer (layer.Class t) m h = h
  type_layer (layer.Value t) m h = h
  type_layer (layer.Inst v t args) m h =
      let ms = and_parts _ _ m in
      let hs = and_parts _ _ h in
      both _ _ hs.0 (both _ _ (some_args args (and_parts _ _ ms.0).1) (args_may args ms.1 hs.1))
  type_layer (layer.Var k) m h = refl
  type_layer (layer.MVar k) m h = refl
  type_layer (layer.SzArray t) m h = t.1 m h
  type_layer (layer.Array t rank sizes lower) m h = t.1 (and_parts _ _ m).1 h
  type_layer (layer.ByRef t) m h = t.1 m h
  type_layer (layer.Pointer t) m h = t.1 m h
  type_layer (layer.Mod required o t) m h =
      let ms = and_parts _ _ m in
      let hs = and_parts _ _ h in
      both _ _ (o.1 ms.0 hs.0) (t.1 ms.1 hs.1)
  type_layer (layer.Pinned t) m h = t.1 m h

  owner_layer : (l : layer.Owner-F (OwnerWith P Q) (TypeWith P Q)) →
      formed.owner_step a (map-Owner Owner SigType Bool Bool owner_made made (owner_values P Q l)) ≡ true →
      owner_holds (map-Owner Owner SigType Bool Bool owner_held held (owner_values P Q l)) ≡ true →
      owner_stands (map-Owner Owner SigType Bool Bool owner_may may (owner_values P Q l)) ≡ true
  owner_layer (layer.Name t) m h = h
  owner_layer (layer.Spec t) m h = t.1 m h

  type_all : (t : SigType) → Q t
  type_all = by_layers P Q
      (λ l m h. fold-roll-Owner Bool Bool owner_stands type_stands (owner_values P Q l)
      ∙ owner_layer l (sym (fold-roll-Owner Bool Bool (formed.owner_step a) (formed.type_step a) (owner_values P Q l)) ∙ m)
      (sym (fold-roll-Owner Bool Bool owner_holds type_holds (owner_values P Q l)) ∙ h))
      (λ l m h. fold-roll-SigType Bool Bool owner_stands type_stands (type_values P Q l)
      ∙ type_layer l (sym (fold-roll-SigType Bool Bool (formed.owner_step a) (formed.type_step a) (type_values P Q l)) ∙ m)
      (sym (fold-roll-SigType Bool Bool owner_holds type_holds (type_values P Q l)) ∙ h))

  owner_all : (o : Owner) → P o
  owner_all = owner_by_layers P Q
      (λ l m h. fold-roll-Owner Bool Bool owner_stands type_stands (owner_values P Q l)
      ∙ owner_layer l (sym (fold-roll-Owner Bool Bool (formed.owner_step a) (formed.type_step a) (owner_values P Q l)) ∙ m)
      (sym (fold-roll-Owner Bool Bool owner_holds type_holds (owner_values P Q l)) ∙ h))
      (λ l m h. fold-roll-SigType Bool Bool owner_stands type_stands (type_values P Q l)
      ∙ type_layer l (sym (fold-roll-SigType Bool Bool (formed.owner_step a) (formed.type_step a) (type_values P Q l)) ∙ m)
      (sym (fold-roll-SigType Bool Bool owner_holds type_holds (type_values P Q l)) ∙ h))

  -- ---- types and owners

  pub type_may : (t : SigType) → formed.is_type a t ≡ true → is_type_held t ≡ true → can_stand t ≡ true
  unfolding formed.is_type is_type_held can_stand
  type_may t m h = type_all t (and_parts _ _ m).1 h

  pub types_may : (ts : List SigType) → list_all (formed.is_type a) ts ≡ true → list_all is_type_held ts ≡ true → all_stand ts ≡ true
  types_may = all_both (formed.is_type a) is_type_held can_stand type_may

  pub owner_may_stand : (o : Owner) → formed.is_owner a o ≡ true → is_owner_held o ≡ true → owner_can_stand o ≡ true
  unfolding formed.is_owner is_owner_held owner_can_stand
  owner_may_stand o m h = owner_all o (and_parts _ _ m).1 h

  pub owners_may : (os : List Owner) → list_all (formed.is_owner a) os ≡ true → list_all is_owner_held os ≡ true → all_owners_stand os ≡ true
  owners_may = all_both (formed.is_owner a) is_owner_held owner_can_stand owner_may_stand

  -- ---- signatures and references

  pub signature_may : (s : MethodSig) → formed.is_signature a s ≡ true → is_signature_held s ≡ true → signature_stands s ≡ true
  signature_may s m h =
      let f = (signatures_named a s).0 m in
      let hs = and_parts _ _ h in
      both _ _ (type_may s.ret f.ret hs.0) (types_may s.params f.params hs.1)

  args_may_stand : (generic : ℕ) (args : Option (List SigType)) → formed.are_arguments generic args ≡ true →
      option_all (list_all (formed.is_type a)) args ≡ true → option_all (list_all is_type_held) args ≡ true → args_stand args ≡ true
  args_may_stand generic None n m h = refl
  args_may_stand generic (Some ts) n m h = both _ _ (and_parts _ _ n).0 (types_may ts m h)

  pub method_ref_may : (r : MethodRef) → formed.is_method_ref a r ≡ true → is_method_ref_held r ≡ true → method_stands r ≡ true
  unfolding is_method_ref_held
  method_ref_may r m h =
      let f = (method_refs_named a r).0 m in
      let hs = and_parts _ _ h in
      let ks = and_parts _ _ hs.0 in
      both _ _ (owner_may_stand r.owner f.owner ks.0)
      (both _ _ (signature_may r.sig f.sig ks.1) (args_may_stand r.sig.generic r.args f.arguments f.args hs.1))

  pub plain_ref_may : (r : MethodRef) → formed.is_plain_ref a r ≡ true → is_method_ref_held r ≡ true → method_stands r ≡ true
  unfolding formed.is_plain_ref
  plain_ref_may r m h = method_ref_may r (and_parts _ _ m).1 h

  pub field_ref_may : (r : FieldRef) → formed.is_field_ref a r ≡ true → is_field_ref_held r ≡ true → field_stands r ≡ true
  unfolding is_field_ref_held
  field_ref_may r m h =
      let f = (field_refs_named a r).0 m in
      let hs = and_parts _ _ h in
      both _ _ (owner_may_stand r.owner f.owner hs.0) (type_may r.of f.of hs.1)

  -- ---- attributes and generic parameters

  pub attribute_may : (x : Attribute) → is_attribute a x ≡ true → is_attribute_held x ≡ true → method_stands x.constructor ≡ true
  unfolding is_attribute is_attribute_held
  attribute_may x m h = plain_ref_may x.constructor m (and_parts _ _ h).0

  pub generic_may : (g : Generic) → is_generic a g ≡ true → is_generic_held g ≡ true → generic_stands g ≡ true
  unfolding is_generic is_generic_held
  generic_may g m h =
      let ms = and_parts _ _ (and_parts _ _ m).0 in
      let hs = and_parts _ _ (and_parts _ _ h).0 in
      owners_may g.bounds ms.1 hs.1

  pub generics_may : (gs : List Generic) → list_all (is_generic a) gs ≡ true → list_all is_generic_held gs ≡ true → all_generics_stand gs ≡ true
  generics_may = all_both (is_generic a) is_generic_held generic_stands generic_may
