-- A type has the size in data that the tree states.
use Rattle.std.proofs.Common.{◌≡◌, ap, refl, sym, ◌∙◌, subst, ℕ, ◌<◌, Bool, true, false, cond, nat_lt, List, [], ◌∷◌, Contains, Option, Some, None, arith}
use Rattle.std.specs.Prelude.{slice_index}
use Rattle.std.specs.List.{AllZip}
use Rattle.std.proofs.lemmas.Bool.{ltb-true}
use Rattle.assembly_tree.specs.DataSize.{type_at, declared_in, layout_size, type_size, no_size, size_step, size_in_data}
use Rattle.assembly_tree.specs.declared.assembly.Assembly.{Assembly}
use Rattle.assembly_tree.specs.declared.typedef.Layout.{Layout}
use Rattle.assembly_tree.specs.declared.typedef.TypeDef.{TypeDef}
use Rattle.assembly_tree.specs.declared.typedef.TypeDef.TheViews.{out-TypeDef}
use Rattle.type_terms.specs.declared.name.Scope.{Scope}
use Rattle.type_terms.specs.declared.name.Scope.TheVariants.{Here, Extern}
use Rattle.type_terms.specs.declared.name.TypeId.{TypeId}
use Rattle.type_terms.specs.declared.name.TypeName.{TypeName}
use Rattle.type_terms.specs.declared.term.Owner.{Owner, fold-Owner}
use Rattle.type_terms.specs.declared.term.Owner.TheOpen as layer
use Rattle.type_terms.specs.declared.term.SigType.{SigType, fold-roll-SigType, map-SigType, out-SigType, out-roll-SigType, roll-SigType}
use Rattle.type_terms.proofs.Layers.{OwnerWith, TypeWith, type_values, by_layers}
use Rattle.sig_codec.specs.Spelling.{Layer}
use Rattle.image_members.specs.Classes.{AreClasses}
use Rattle.image_members.specs.declared.classes.Class.{Class}
use Rattle.image_model.specs.Columns.{layout_size as cell_of_size}
use Rattle.image_model.specs.Members.{HasDataSize, layouts_of}
use Rattle.laws_image_parts.specs.AtRows.{AtEach}
use Rattle.laws_image_parts.specs.ItemRows.{LayoutOf}
use Rattle.laws_image_parts.specs.RowCells.{layout_cells}
use Rattle.laws_image_reading.proofs.members.TypePlaces.{IsRowOf, HasTypeRow, type_rows}

-- a layout of a size above 0
by_test : (l : Layout) (n : ℕ) (b : Bool) → nat_lt 0 l.size ≡ b → cond b (Some l.size) None ≡ Some n → (k : Layout) × (Some l ≡ Some k) × (k.size ≡ n) × (0 < n)
by_test l n true t e =
    let s : l.size ≡ n = cc in
    (l, refl, s, subst (λ x. 0 < x) s (ltb-true 0 l.size t))
by_test l n false t e = absurd cc

layout_sized : (o : Option Layout) (n : ℕ) → layout_size o ≡ Some n → (l : Layout) × (o ≡ Some l) × (l.size ≡ n) × (0 < n)
layout_sized None n e = absurd cc
layout_sized (Some l) n e = by_test l n (nat_lt 0 l.size) refl e

-- which has a row
layout_row : (image : List ℕ) (type : ℕ) (o : Option Layout) (l : Layout) → LayoutOf image type o → o ≡ Some l
    → (row : ℕ) × Contains (layouts_of image type) row × (cell_of_size image row ≡ l.size)
layout_row image type o l h e = by_rows (layouts_of image type) (subst (λ (p : Option Layout). LayoutOf image type p) e h)
  where
    by_rows : (rows : List ℕ) → AllZip (λ k (m : Layout). layout_cells image k ≡ m.pack ∷ m.size ∷ type ∷ []) rows (l ∷ [])
        → (row : ℕ) × Contains rows row × (cell_of_size image row ≡ l.size)
    by_rows [] h = absurd h
    by_rows (k ∷ rows) h = (k, (0, omega arith, refl), ap (λ (cs : List ℕ). slice_index cs 1) h.0)

module _ (image : List ℕ) (a : Assembly) (classes : List Class) (are : AreClasses 0 2 a.types classes)
    (each : AtEach (IsRowOf image (λ type c. LayoutOf image type (out-TypeDef c.of.now).layout)) 2 classes) where
  abbrev Also : ℕ → Class → Type 0
  Also type c = LayoutOf image type (out-TypeDef c.of.now).layout

  named_size : (t : SigType) (path : List TypeId) (n : ℕ) → out-SigType t ≡ layer.Value (record { scope = Here; path = path }) → (o : Option TypeDef) → type_at a.types path ≡ o
      → type_size o ≡ Some n → HasDataSize image t n
  named_size t path n e None at s = absurd cc
  named_size t path n e (Some u) at s =
      let r : HasTypeRow image Also path u = type_rows image Also a.types classes are each path u at in
      let l = layout_sized (out-TypeDef u).layout n s in
      let own : LayoutOf image r.row (out-TypeDef u).layout = subst (λ (v : TypeDef). LayoutOf image r.row (out-TypeDef v).layout) r.of r.is.also in
      let w = layout_row image r.row (out-TypeDef u).layout l.0 own l.1 in
      HasDataSize.value e r.is.there r.leads w.1 (w.2 ∙ l.2) l.3

  value_size : (t : SigType) (name : TypeName) (n : ℕ) → out-SigType t ≡ layer.Value name → (scope : Scope) → name.scope ≡ scope → type_size (declared_in a.types scope name.path) ≡ Some n
      → HasDataSize image t n
  value_size t name n e Here f s =
      let same : name ≡ record { scope = Here; path = name.path } = (λ i. record { scope = f i; path = name.path }) in
      named_size t name.path n (e ∙ ap layer.Value same) (type_at a.types name.path) refl s
  value_size t name n e (Extern k) f s = absurd cc

  abbrev Sized : SigType → Type 0
  Sized t = (n : ℕ) → size_in_data a t ≡ Some n → HasDataSize image t n

  abbrev Any : Owner → Type 0
  Any o = Unit {0}

  abbrev sized : layer.SigType-F (OwnerWith Any Sized) (TypeWith Any Sized) → Layer
  sized l = type_values Any Sized l

  -- the sizes in a layer
  abbrev layer_sizes : Layer → layer.SigType-F (Option ℕ) (Option ℕ)
  layer_sizes l = map-SigType Owner SigType (Option ℕ) (Option ℕ) (fold-Owner (Option ℕ) (Option ℕ) no_size (size_step a)) (size_in_data a) l

  by_layer : (t : SigType) (n : ℕ) (l : layer.SigType-F (OwnerWith Any Sized) (TypeWith Any Sized)) → out-SigType t ≡ sized l
      → size_step a (layer_sizes (sized l)) ≡ Some n → HasDataSize image t n
  by_layer t n (layer.Prim p) e s = HasDataSize.primitive e s
  by_layer t n (layer.Value name) e s = value_size t name n e name.scope refl s
  by_layer t n (layer.Mod required by of) e s = HasDataSize.modified e (of.1 n s)
  by_layer t n (layer.Class name) e s = absurd cc
  by_layer t n (layer.Inst value name args) e s = absurd cc
  by_layer t n (layer.Var j) e s = absurd cc
  by_layer t n (layer.MVar j) e s = absurd cc
  by_layer t n (layer.SzArray of) e s = absurd cc
  by_layer t n (layer.Array of rank sizes lower) e s = absurd cc
  by_layer t n (layer.ByRef of) e s = absurd cc
  by_layer t n (layer.Pointer of) e s = absurd cc
  by_layer t n (layer.Pinned of) e s = absurd cc

  type_made : (l : layer.SigType-F (OwnerWith Any Sized) (TypeWith Any Sized)) → Sized (roll-SigType (sized l))
  type_made l n s =
      by_layer (roll-SigType (sized l)) n l (out-roll-SigType (sized l)) (sym (fold-roll-SigType (Option ℕ) (Option ℕ) no_size (size_step a) (sized l)) ∙ s)

  pub has_size : (t : SigType) (n : ℕ) → size_in_data a t ≡ Some n → HasDataSize image t n
  has_size t = by_layers Any Sized (λ l. tt) type_made t
