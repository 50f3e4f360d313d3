-- A fold over a called type is a fold over the type.
use Rattle.std.proofs.Common.{◌≡◌, ◌∙◌, ap, sym, refl, List, [], ◌∷◌, map}
use Rattle.type_terms.specs.declared.name.TypeName.{TypeName}
use Rattle.type_terms.specs.declared.term.Owner.{Owner, fold-Owner, fold-roll-Owner, map-Owner, roll-Owner}
use Rattle.type_terms.specs.declared.term.SigType.{SigType, fold-SigType, fold-roll-SigType, map-SigType, roll-SigType}
use Rattle.type_terms.specs.declared.term.Owner.TheOpen.{Owner-F, SigType-F, Name, Spec, Prim, Class, Value, Inst, Var, MVar, SzArray, Array, ByRef, Pointer, Mod, Pinned}
use Rattle.type_terms.proofs.Layers.{OwnerWith, TypeWith, owner_values, type_values, by_layers, owner_by_layers, fold-Name, fold-Spec, fold-Prim, fold-Class, fold-Value, fold-Inst, fold-Var, fold-MVar, fold-SzArray, fold-Array, fold-ByRef, fold-Pointer, fold-Mod, fold-Pinned}
use Rattle.tree_names.specs.Called.{Call, called_owner, called_type, owner_step, type_step}

-- ---- a fold, and what is made of its values, is a fold

module _ (A B C D : Type 0) (o : Owner-F A B → A) (t : SigType-F A B → B) (o2 : Owner-F C D → C) (t2 : SigType-F C D → D) (k : A → C) (h : B → D)
    (owner_made : (l : Owner-F A B) → k (o l) ≡ o2 (map-Owner A B C D k h l)) (type_made : (l : SigType-F A B) → h (t l) ≡ t2 (map-SigType A B C D k h l)) where
  abbrev P : Owner → Type 0
  P x = k (fold-Owner A B o t x) ≡ fold-Owner C D o2 t2 x

  abbrev Q : SigType → Type 0
  Q x = h (fold-SigType A B o t x) ≡ fold-SigType C D o2 t2 x

  abbrev owners : Owner-F (OwnerWith P Q) (TypeWith P Q) → Owner-F Owner SigType
  owners = owner_values P Q

  abbrev types : SigType-F (OwnerWith P Q) (TypeWith P Q) → SigType-F Owner SigType
  types = type_values P Q

  abbrev first_owner : Owner-F Owner SigType → Owner-F A B
  first_owner = map-Owner Owner SigType A B (fold-Owner A B o t) (fold-SigType A B o t)

  abbrev first_type : SigType-F Owner SigType → SigType-F A B
  first_type = map-SigType Owner SigType A B (fold-Owner A B o t) (fold-SigType A B o t)

  abbrev second_owner : Owner-F Owner SigType → Owner-F C D
  second_owner = map-Owner Owner SigType C D (fold-Owner C D o2 t2) (fold-SigType C D o2 t2)

  abbrev second_type : SigType-F Owner SigType → SigType-F C D
  second_type = map-SigType Owner SigType C D (fold-Owner C D o2 t2) (fold-SigType C D o2 t2)

  owner_layer : (l : Owner-F (OwnerWith P Q) (TypeWith P Q)) → map-Owner A B C D k h (first_owner (owners l)) ≡ second_owner (owners l)
  owner_layer (Name n) = refl
  owner_layer (Spec of) = ap Spec of.1

  args_layer : (xs : List (TypeWith P Q)) →
      map h (map (fold-SigType A B o t) (map (λ (x : TypeWith P Q). x.0) xs)) ≡ map (fold-SigType C D o2 t2) (map (λ (x : TypeWith P Q). x.0) xs)
  args_layer [] = refl
  args_layer (x ∷ xs) = λ i. x.1 i ∷ args_layer xs i

  type_layer : (l : SigType-F (OwnerWith P Q) (TypeWith P Q)) → map-SigType A B C D k h (first_type (types l)) ≡ second_type (types l)
  type_layer (Prim p) = refl
  type_layer (Class n) = refl
  type_layer (Value n) = refl
  type_layer (Inst v n args) = ap (Inst v n) (args_layer args)
  type_layer (Var n) = refl
  type_layer (MVar n) = refl
  type_layer (SzArray of) = ap SzArray of.1
  type_layer (Array of rank sizes lower) = ap (λ x. Array x rank sizes lower) of.1
  type_layer (ByRef of) = ap ByRef of.1
  type_layer (Pointer of) = ap Pointer of.1
  type_layer (Mod required by of) = λ i. Mod required (by.1 i) (of.1 i)
  type_layer (Pinned of) = ap Pinned of.1

  owner_at : (l : Owner-F (OwnerWith P Q) (TypeWith P Q)) → P (roll-Owner (owners l))
  owner_at l =
      ap k (fold-roll-Owner A B o t (owners l)) ∙ owner_made (first_owner (owners l)) ∙ ap o2 (owner_layer l)
      ∙ sym (fold-roll-Owner C D o2 t2 (owners l))

  type_at : (l : SigType-F (OwnerWith P Q) (TypeWith P Q)) → Q (roll-SigType (types l))
  type_at l =
      ap h (fold-roll-SigType A B o t (types l)) ∙ type_made (first_type (types l)) ∙ ap t2 (type_layer l)
      ∙ sym (fold-roll-SigType C D o2 t2 (types l))

  pub fused : (x : SigType) → h (fold-SigType A B o t x) ≡ fold-SigType C D o2 t2 x
  fused = by_layers P Q owner_at type_at

  pub owner_fused : (x : Owner) → k (fold-Owner A B o t x) ≡ fold-Owner C D o2 t2 x
  owner_fused = owner_by_layers P Q owner_at type_at

-- ---- a layer with its names called

abbrev pub renamed_owner : {A B : Type 0} → Call → Owner-F A B → Owner-F A B
renamed_owner f (Name n) = Name (f n)
renamed_owner f (Spec of) = Spec of

abbrev pub renamed_type : {A B : Type 0} → Call → SigType-F A B → SigType-F A B
renamed_type f (Prim p) = Prim p
renamed_type f (Class n) = Class (f n)
renamed_type f (Value n) = Value (f n)
renamed_type f (Inst v n args) = Inst v (f n) args
renamed_type f (Var n) = Var n
renamed_type f (MVar n) = MVar n
renamed_type f (SzArray of) = SzArray of
renamed_type f (Array of rank sizes lower) = Array of rank sizes lower
renamed_type f (ByRef of) = ByRef of
renamed_type f (Pointer of) = Pointer of
renamed_type f (Mod required by of) = Mod required by of
renamed_type f (Pinned of) = Pinned of

module _ (A B : Type 0) (o : Owner-F A B → A) (t : SigType-F A B → B) (f : Call) where
  abbrev called_o : Owner-F A B → A
  called_o l = o (renamed_owner f l)

  abbrev called_t : SigType-F A B → B
  called_t l = t (renamed_type f l)

  owner_step_made : (l : Owner-F Owner SigType) →
      fold-Owner A B o t (owner_step f l) ≡ called_o (map-Owner Owner SigType A B (fold-Owner A B o t) (fold-SigType A B o t) l)
  owner_step_made (Name n) = fold-Name A B o t (f n)
  owner_step_made (Spec of) = fold-Spec A B o t of

  type_step_made : (l : SigType-F Owner SigType) →
      fold-SigType A B o t (type_step f l) ≡ called_t (map-SigType Owner SigType A B (fold-Owner A B o t) (fold-SigType A B o t) l)
  type_step_made (Prim p) = fold-Prim A B o t p
  type_step_made (Class n) = fold-Class A B o t (f n)
  type_step_made (Value n) = fold-Value A B o t (f n)
  type_step_made (Inst v n args) = fold-Inst A B o t v (f n) args
  type_step_made (Var n) = fold-Var A B o t n
  type_step_made (MVar n) = fold-MVar A B o t n
  type_step_made (SzArray of) = fold-SzArray A B o t of
  type_step_made (Array of rank sizes lower) = fold-Array A B o t of rank sizes lower
  type_step_made (ByRef of) = fold-ByRef A B o t of
  type_step_made (Pointer of) = fold-Pointer A B o t of
  type_step_made (Mod required by of) = fold-Mod A B o t required by of
  type_step_made (Pinned of) = fold-Pinned A B o t of

  pub fold_called : (x : SigType) → fold-SigType A B o t (called_type f x) ≡ fold-SigType A B called_o called_t x
  unfolding called_type
  fold_called x =
      fused Owner SigType A B (owner_step f) (type_step f) called_o called_t (fold-Owner A B o t) (fold-SigType A B o t) owner_step_made type_step_made x

  pub fold_called_owner : (x : Owner) → fold-Owner A B o t (called_owner f x) ≡ fold-Owner A B called_o called_t x
  unfolding called_owner
  fold_called_owner x =
      owner_fused Owner SigType A B (owner_step f) (type_step f) called_o called_t (fold-Owner A B o t) (fold-SigType A B o t) owner_step_made type_step_made x
