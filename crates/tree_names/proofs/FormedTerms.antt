-- A called type meets its conditions.
use Rattle.std.proofs.Common.{◌≡◌, ◌∙◌, ap, sym, refl, ℕ, suc, ◌&&◌, Bool, true, List, [], ◌∷◌, map, length, nat_lt, nat_le, Option, None, Some, IsTrue}
use Rattle.std.specs.Prelude.{option_map}
use Rattle.std.specs.List.{list_all}
use Rattle.std.proofs.lemmas.Bool.{and_parts}
use Rattle.type_terms.specs.Depth.{depth, owner_depth}
use Rattle.type_terms.specs.declared.name.TypeName.{TypeName}
use Rattle.type_terms.specs.declared.term.Owner.{Owner, fold-Owner, fold-roll-Owner, map-Owner, roll-Owner}
use Rattle.type_terms.specs.declared.term.SigType.{SigType, fold-SigType, fold-roll-SigType, map-SigType, roll-SigType}
use Rattle.type_terms.specs.declared.term.Owner.TheOpen.{Owner-F, SigType-F, Name, Spec, Prim, Class, Value, Inst, Var, MVar, SzArray, Array, ByRef, Pointer, Mod, Pinned}
use Rattle.type_terms.proofs.Layers.{OwnerWith, TypeWith, owner_values, type_values, by_layers, owner_by_layers}
use Rattle.assembly_tree.specs.WellFormedNames.{is_type_name, option_all}
use Rattle.assembly_tree.specs.WellFormedTerms.{owner_step, type_step, is_made_well, is_owner_made_well, is_owner, is_shape, is_type}
use Rattle.assembly_tree.specs.declared.assembly.Assembly.{Assembly}
use Rattle.tree_names.specs.Called.{Call, called_owner, called_type}
use Rattle.tree_names.specs.Laws.{Carries, FormedTypes, FormedOwners}
use Rattle.tree_names.proofs.CalledTerms.{depth_called, owner_depth_called}
use Rattle.tree_names.proofs.Fusion.{renamed_owner, renamed_type, fold_called, fold_called_owner}
use Rattle.tree_names.proofs.Interfaces.{and_from}

-- ---- lists, and what may be there

pub all_called : {X Y : Type 0} (p : X → Bool) (q : Y → Bool) (call : X → Y) → ((x : X) → p x ≡ true → q (call x) ≡ true) → (xs : List X)
    → list_all p xs ≡ true → list_all q (map call xs) ≡ true
all_called p q call h [] k = refl
all_called p q call h (x ∷ xs) k =
    let ks = and_parts (p x) (list_all p xs) k in
    and_from (q (call x)) (list_all q (map call xs)) (h x ks.0) (all_called p q call h xs ks.1)

pub may_called : {X Y : Type 0} (p : X → Bool) (q : Y → Bool) (call : X → Y) → ((x : X) → p x ≡ true → q (call x) ≡ true) → (o : Option X)
    → option_all p o ≡ true → option_all q (option_map call o) ≡ true
may_called p q call h None k = refl
may_called p q call h (Some x) k = h x k

-- ---- types

module _ (f : Call) (a c : Assembly) (carries : Carries f a c) where
  abbrev owner_to : Owner-F Bool Bool → Bool
  owner_to l = owner_step c (renamed_owner f l)

  abbrev type_to : SigType-F Bool Bool → Bool
  type_to l = type_step c (renamed_type f l)

  abbrev owner_made : Owner → Bool
  owner_made x = fold-Owner Bool Bool owner_to type_to x

  abbrev made : SigType → Bool
  made x = fold-SigType Bool Bool owner_to type_to x

  abbrev P : Owner → Type 0
  P x = is_owner_made_well a x ≡ true → owner_made x ≡ true

  abbrev Q : SigType → Type 0
  Q x = is_made_well a x ≡ true → made x ≡ true

  abbrev owner_from : Owner-F (OwnerWith P Q) (TypeWith P Q) → Owner-F Bool Bool
  owner_from l = map-Owner Owner SigType Bool Bool (is_owner_made_well a) (is_made_well a) (owner_values P Q l)

  abbrev type_from : SigType-F (OwnerWith P Q) (TypeWith P Q) → SigType-F Bool Bool
  type_from l = map-SigType Owner SigType Bool Bool (is_owner_made_well a) (is_made_well a) (type_values P Q l)

  abbrev owner_into : Owner-F (OwnerWith P Q) (TypeWith P Q) → Owner-F Bool Bool
  owner_into l = map-Owner Owner SigType Bool Bool owner_made made (owner_values P Q l)

  abbrev type_into : SigType-F (OwnerWith P Q) (TypeWith P Q) → SigType-F Bool Bool
  type_into l = map-SigType Owner SigType Bool Bool owner_made made (type_values P Q l)

  owner_layer : (l : Owner-F (OwnerWith P Q) (TypeWith P Q)) → owner_step a (owner_from l) ≡ true → owner_to (owner_into l) ≡ true
  owner_layer (Name n) h = carries.names n h
  owner_layer (Spec of) h = of.1 h

  args_all : (xs : List (TypeWith P Q)) → list_all (λ ok. ok) (map (is_made_well a) (map (λ (x : TypeWith P Q). x.0) xs)) ≡ true
      → list_all (λ ok. ok) (map made (map (λ (x : TypeWith P Q). x.0) xs)) ≡ true
  args_all [] h = refl
  args_all (x ∷ xs) h =
      let hs = and_parts (is_made_well a x.0) (list_all (λ ok. ok) (map (is_made_well a) (map (λ (y : TypeWith P Q). y.0) xs))) h in
      and_from (made x.0) (list_all (λ ok. ok) (map made (map (λ (y : TypeWith P Q). y.0) xs))) (x.1 hs.0) (args_all xs hs.1)

  same_length : (xs : List (TypeWith P Q)) → length (map made (map (λ (x : TypeWith P Q). x.0) xs)) ≡ length (map (is_made_well a) (map (λ (x : TypeWith P Q). x.0) xs))
  same_length [] = refl
  same_length (x ∷ xs) = ap suc (same_length xs)

  some_args : (xs : List (TypeWith P Q)) → nat_lt 0 (length (map (is_made_well a) (map (λ (x : TypeWith P Q). x.0) xs))) ≡ true
      → nat_lt 0 (length (map made (map (λ (x : TypeWith P Q). x.0) xs))) ≡ true
  some_args xs h = ap (nat_lt 0) (same_length xs) ∙ h

  instance_layer : (n : TypeName) (xs : List (TypeWith P Q)) → type_step a (type_from (Inst true n xs)) ≡ true → type_to (type_into (Inst true n xs)) ≡ true
  instance_layer n xs h =
      let from = map (is_made_well a) (map (λ (x : TypeWith P Q). x.0) xs) in
      let into = map made (map (λ (x : TypeWith P Q). x.0) xs) in
      let hs = and_parts (is_type_name a n && nat_lt 0 (length from)) (list_all (λ ok. ok) from) h in
      let ks = and_parts (is_type_name a n) (nat_lt 0 (length from)) hs.0 in
      and_from (is_type_name c (f n) && nat_lt 0 (length into)) (list_all (λ ok. ok) into)
      (and_from (is_type_name c (f n)) (nat_lt 0 (length into)) (carries.names n ks.0) (some_args xs ks.1)) (args_all xs hs.1)

  type_layer : (l : SigType-F (OwnerWith P Q) (TypeWith P Q)) → type_step a (type_from l) ≡ true → type_to (type_into l) ≡ true
  type_layer (Prim p) h = refl
  type_layer (Class n) h = carries.names n h
  type_layer (Value n) h = carries.names n h
  type_layer (Inst v n args) h = instance_layer n args h
  type_layer (Var n) h = h
  type_layer (MVar n) h = h
  type_layer (SzArray of) h = of.1 h
  type_layer (Array of rank sizes lower) h =
      let hs = and_parts (is_shape rank sizes lower) (is_made_well a of.0) h in
      and_from (is_shape rank sizes lower) (made of.0) hs.0 (of.1 hs.1)
  type_layer (ByRef of) h = of.1 h
  type_layer (Pointer of) h = of.1 h
  type_layer (Mod required by of) h =
      let hs = and_parts (is_owner_made_well a by.0) (is_made_well a of.0) h in
      and_from (owner_made by.0) (made of.0) (by.1 hs.0) (of.1 hs.1)
  type_layer (Pinned of) h = of.1 h

  owner_at : (l : Owner-F (OwnerWith P Q) (TypeWith P Q)) → P (roll-Owner (owner_values P Q l))
  owner_at l h =
      fold-roll-Owner Bool Bool owner_to type_to (owner_values P Q l)
      ∙ owner_layer l (sym (fold-roll-Owner Bool Bool (owner_step a) (type_step a) (owner_values P Q l)) ∙ h)

  type_at : (l : SigType-F (OwnerWith P Q) (TypeWith P Q)) → Q (roll-SigType (type_values P Q l))
  type_at l h =
      fold-roll-SigType Bool Bool owner_to type_to (type_values P Q l)
      ∙ type_layer l (sym (fold-roll-SigType Bool Bool (owner_step a) (type_step a) (type_values P Q l)) ∙ h)

  made_called : (t : SigType) → is_made_well a t ≡ true → is_made_well c (called_type f t) ≡ true
  made_called t h = fold_called Bool Bool (owner_step c) (type_step c) f t ∙ by_layers P Q owner_at type_at t h

  owner_made_called : (o : Owner) → is_owner_made_well a o ≡ true → is_owner_made_well c (called_owner f o) ≡ true
  owner_made_called o h = fold_called_owner Bool Bool (owner_step c) (type_step c) f o ∙ owner_by_layers P Q owner_at type_at o h

  pub type_called : (t : SigType) → IsTrue (is_type a t) → IsTrue (is_type c (called_type f t))
  unfolding is_type
  type_called t h =
      let hs = and_parts (nat_le (depth t) 100) (is_made_well a t) h in
      and_from (nat_le (depth (called_type f t)) 100) (is_made_well c (called_type f t)) (ap (λ n. nat_le n 100) (depth_called f t) ∙ hs.0) (made_called t hs.1)

  pub owner_called : (o : Owner) → IsTrue (is_owner a o) → IsTrue (is_owner c (called_owner f o))
  unfolding is_owner
  owner_called o h =
      let hs = and_parts (nat_le (owner_depth o) 100) (is_owner_made_well a o) h in
      and_from (nat_le (owner_depth (called_owner f o)) 100) (is_owner_made_well c (called_owner f o)) (ap (λ n. nat_le n 100) (owner_depth_called f o) ∙ hs.0) (owner_made_called o hs.1)

pub formed_types : FormedTypes
formed_types f a c carries t h = type_called f a c carries t h

pub formed_owners : FormedOwners
formed_owners f a c carries o h = owner_called f a c carries o h
