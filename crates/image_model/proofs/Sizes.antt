-- A type has the size in data that the tree says.
use Rattle.std.proofs.Common.{◌≡◌, ℕ, zero, suc, ◌<◌, ◌≤◌, ◌⊎◌, inl, inr, Bool, true, false, cond, nat_lt, List, [], ◌∷◌, Contains, length, Option, Some, None, refl, sym, ◌∙◌, ap, subst, arith}
use Rattle.std.proofs.lemmas.Bool.Decides.{nat_tests}
use Rattle.type_terms.specs.declared.name.Scope.{Scope}
use Rattle.type_terms.specs.declared.name.Scope.TheVariants.{Here, Extern}
use Rattle.type_terms.specs.declared.name.TypeId.{TypeId}
use Rattle.type_terms.specs.declared.name.TypeName.{TypeName}
use Rattle.type_terms.specs.declared.term.Owner.{Owner, fold-Owner}
use Rattle.type_terms.specs.declared.term.Owner.TheOpen.{SigType-F, Prim, Class, Value, Inst, Var, MVar, SzArray, Array, ByRef, Pointer, Mod, Pinned}
use Rattle.type_terms.specs.declared.term.SigType.{SigType, out-SigType, map-SigType, fold_out-SigType}
use Rattle.type_terms.specs.Depth.{depth}
use Rattle.assembly_tree.specs.DataSize.{type_at, declared_in, layout_size, type_size, no_size, size_step, size_in_data}
use Rattle.assembly_tree.specs.declared.assembly.Assembly.{Assembly}
use Rattle.assembly_tree.specs.declared.typedef.Layout.{Layout}
use Rattle.assembly_tree.specs.declared.typedef.TypeDef.{TypeDef}
use Rattle.assembly_tree.specs.declared.typedef.TypeDef.TheViews.{out-TypeDef}
use Rattle.body_codec.specs.Names.{NameMap}
use Rattle.image_model.specs.Rows.{HasRow}
use Rattle.image_model.specs.Members.{layouts_of, HasDataSize}
use Rattle.image_model.specs.Reading.{IsGiven, IsLayout, IsType}
use Rattle.image_model.specs.ReadLaws.{HoldsTypes}
use Rattle.image_model.proofs.General.{some_one}
use Rattle.image_model.proofs.Transfer.{layer_depth, depth-out}
use Rattle.image_model.proofs.Trees.{is_some_not}

-- the size of a type by its layer
abbrev layer_size : Assembly → SigType-F Owner SigType → Option ℕ
layer_size a l = size_step a (map-SigType Owner SigType (Option ℕ) (Option ℕ) (fold-Owner (Option ℕ) (Option ℕ) no_size (size_step a)) (size_in_data a) l)

size_out : (a : Assembly) (t : SigType) → size_in_data a t ≡ layer_size a (out-SigType t)
size_out a t = fold_out-SigType (Option ℕ) (Option ℕ) no_size (size_step a) t

-- a layout above 0
cond_some : (n : ℕ) (b : Bool) → b ≡ true → cond b (Some n) None ≡ Some n
cond_some n b e = rw e refl

sized_layout : (l : Layout) (n : ℕ) → l.size ≡ n → 0 < n → layout_size (Some l) ≡ Some n
sized_layout l n e some = rw e (cond_some n (nat_lt 0 n) (grind (arith, nat_tests)))

by_test : (l : Layout) (n : ℕ) (b : Bool) → nat_lt 0 l.size ≡ b → cond b (Some l.size) None ≡ Some n → (k : Layout) × (Some l ≡ Some k) × (k.size ≡ n) × (0 < n)
by_test l n true t e =
    let s : l.size ≡ n = some_one (Some l.size) l.size n refl e in
    (l, refl, s, subst (λ x. 0 < x) s (grind (arith, nat_tests, t)))
by_test l n false t e = absurd (is_some_not e)

layout_sized : (o : Option Layout) (n : ℕ) → layout_size o ≡ Some n → (l : Layout) × (o ≡ Some l) × (l.size ≡ n) × (0 < n)
layout_sized None n e = absurd (is_some_not e)
layout_sized (Some l) n e = by_test l n (nat_lt 0 l.size) refl e

-- the layout of a type that has one row of it
given_layout : (image : List ℕ) (rows : List ℕ) (o : Option Layout) (row : ℕ) → IsGiven (IsLayout image) rows o → length rows ≤ 1 → Contains rows row → (l : Layout) × (o ≡ Some l) × IsLayout image row l
given_layout image [] o row h few (k, lt, e) = absurd (omega arith)
given_layout image (r ∷ rows) None row h few c = absurd h
given_layout image (r ∷ rows) (Some l) row h few (zero, lt, e) = (l, refl, subst (λ x. IsLayout image x l) e h)
given_layout image (r ∷ rows) (Some l) row h few (suc k, lt, e) = absurd (omega arith)

-- a layout that is given has a row
layout_row : (image : List ℕ) (rows : List ℕ) (o : Option Layout) (l : Layout) → IsGiven (IsLayout image) rows o → o ≡ Some l → (row : ℕ) × Contains rows row × IsLayout image row l
layout_row image [] None l h e = absurd (is_some_not e)
layout_row image [] (Some k) l h e = absurd h
layout_row image (r ∷ rows) None l h e = absurd h
layout_row image (r ∷ rows) (Some k) l h e = (r, (0, omega arith, refl), subst (IsLayout image r) (some_one (Some k) k l refl e) h)

one_or_later : (n : ℕ) → 0 < n → (n ≡ 1) ⊎ (2 ≤ n)
one_or_later n some = grind arith

-- what the tree of an image says of types at paths, and how many layouts they have
pub record IsTreeOf (image : List ℕ) (names : NameMap) (a : Assembly) : Type 0 where
  pub holds : HoldsTypes image names a
  pub not_module : layouts_of image 1 ≡ []
  pub one_layout : (row : ℕ) → HasRow image 0x02 row → length (layouts_of image row) ≤ 1

module _ (image : List ℕ) (names : NameMap) (a : Assembly) (tree : IsTreeOf image names a) where
  layout_of : {row : ℕ} {t : TypeDef} → IsType image names row t → IsGiven (IsLayout image) (layouts_of image row) (out-TypeDef t).layout
  layout_of (IsType.made h p) = h.layout

  no_member : (row : ℕ) → Contains (layouts_of image 1) row → ⊥
  no_member row c = let n : length (layouts_of image 1) ≡ 0 = ap length tree.not_module in omega (arith, c.1)

  is_late : (type row : ℕ) → HasRow image 0x02 type → Contains (layouts_of image type) row → 2 ≤ type
  is_late type row there c = elim (one_or_later type there.0) [
    | inl e ↦ absurd (no_member row (subst (λ x. Contains (layouts_of image x) row) e c))
    | inr late ↦ late
  ]

  pub size_to : {t : SigType} {n : ℕ} → HasDataSize image t n → size_in_data a t ≡ Some n
  size_to {t = t} (HasDataSize.primitive e h) = size_out a t ∙ ap (layer_size a) e ∙ h
  size_to {t = t} (HasDataSize.value {path = path} {type = type} {layout = row} {size = n} e there h c is some) =
      let f = tree.holds.has type path h there (is_late type row there c) in
      let g = given_layout image (layouts_of image type) (out-TypeDef f.0).layout row (layout_of f.2) (tree.one_layout type there) c in
      size_out a t ∙ ap (layer_size a) e ∙ ap type_size f.1 ∙ ap layout_size g.1 ∙ sized_layout g.0 n (g.2.size ∙ is) some
  size_to {t = t} (HasDataSize.modified e h) = size_out a t ∙ ap (layer_size a) e ∙ size_to h

  named_size : (t : SigType) (path : List TypeId) (n : ℕ) → out-SigType t ≡ Value (record { scope = Here; path = path }) → (o : Option TypeDef) → type_at a.types path ≡ o → type_size o ≡ Some n → HasDataSize image t n
  named_size t path n e None at s = absurd (is_some_not s)
  named_size t path n e (Some u) at s =
      let r = tree.holds.rows path u at in
      let l = layout_sized (out-TypeDef u).layout n s in
      let w = layout_row image (layouts_of image r.0) (out-TypeDef u).layout l.0 (layout_of r.4) l.1 in
      HasDataSize.value e r.1 r.3 w.1 (sym w.2.size ∙ l.2) l.3

  value_size : (t : SigType) (name : TypeName) (n : ℕ) → out-SigType t ≡ Value name → (scope : Scope) → name.scope ≡ scope → type_size (declared_in a.types scope name.path) ≡ Some n → HasDataSize image t n
  value_size t name n e Here f s =
      let same : name ≡ record { scope = Here; path = name.path } = λ i. record { scope = f i; path = name.path } in
      named_size t name.path n (e ∙ ap Value same) (type_at a.types name.path) refl s
  value_size t name n e (Extern k) f s = absurd (is_some_not s)

  -- by the layer of a type, where the types below it are known
  by_layer : (k : ℕ) → ((of : SigType) (n : ℕ) → depth of ≤ k → size_in_data a of ≡ Some n → HasDataSize image of n) → (t : SigType) (n : ℕ) (l : SigType-F Owner SigType) → out-SigType t ≡ l → layer_depth l ≤ suc k
      → layer_size a l ≡ Some n → HasDataSize image t n
  by_layer k go t n (Prim p) e low s = HasDataSize.primitive e s
  by_layer k go t n (Value name) e low s = value_size t name n e name.scope refl s
  by_layer k go t n (Mod required by of) e low s = HasDataSize.modified e (go of n (omega arith) s)
  by_layer k go t n (Class name) e low s = absurd (is_some_not s)
  by_layer k go t n (Inst value name args) e low s = absurd (is_some_not s)
  by_layer k go t n (Var j) e low s = absurd (is_some_not s)
  by_layer k go t n (MVar j) e low s = absurd (is_some_not s)
  by_layer k go t n (SzArray of) e low s = absurd (is_some_not s)
  by_layer k go t n (Array of rank sizes lower) e low s = absurd (is_some_not s)
  by_layer k go t n (ByRef of) e low s = absurd (is_some_not s)
  by_layer k go t n (Pointer of) e low s = absurd (is_some_not s)
  by_layer k go t n (Pinned of) e low s = absurd (is_some_not s)

  -- no type has depth 0
  some_depth : (l : SigType-F Owner SigType) → 0 < layer_depth l
  some_depth (Prim p) = omega arith
  some_depth (Value name) = omega arith
  some_depth (Mod required by of) = omega arith
  some_depth (Class name) = omega arith
  some_depth (Inst value name args) = omega arith
  some_depth (Var j) = omega arith
  some_depth (MVar j) = omega arith
  some_depth (SzArray of) = omega arith
  some_depth (Array of rank sizes lower) = omega arith
  some_depth (ByRef of) = omega arith
  some_depth (Pointer of) = omega arith
  some_depth (Pinned of) = omega arith

  pub size_from : (k : ℕ) (t : SigType) (n : ℕ) → depth t ≤ k → size_in_data a t ≡ Some n → HasDataSize image t n
  size_from zero t n low s = absurd (omega (arith, depth-out t, some_depth (out-SigType t)))
  size_from (suc k) t n low s = by_layer k (size_from k) t n (out-SigType t) refl (omega (arith, depth-out t)) (sym (size_out a t) ∙ s)
