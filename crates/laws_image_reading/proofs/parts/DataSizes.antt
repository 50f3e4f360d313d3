-- The size in data that the tree states for a type is that of the image (ECMA-335 II.16.3, II.22.8).
use Rattle.std.proofs.Common.{◌≡◌, ap, refl, sym, ◌∙◌, ℕ, ◌<◌, nat_lt, Contains, List, [], ◌∷◌, Option, Some, None, ⊎_elim, arith}
use Rattle.std.proofs.lemmas.Bool.{cases_Bool, cond-true, cond-false, ltb-true}
use Rattle.type_terms.specs.declared.name.Scope.{Scope}
use Rattle.type_terms.specs.declared.name.Scope.TheVariants.{Here, Extern}
use Rattle.type_terms.specs.declared.name.TypeId.{TypeId}
use Rattle.type_terms.specs.declared.name.TypeName.{TypeName}
use Rattle.type_terms.specs.declared.term.Owner.{Owner, fold-Owner, roll-Owner}
use Rattle.type_terms.specs.declared.term.Owner.TheOpen as layer
use Rattle.type_terms.specs.declared.term.SigType.{SigType, out-SigType, map-SigType, roll-SigType, fold-roll-SigType, out-roll-SigType}
use Rattle.type_terms.proofs.Layers.{OwnerWith, TypeWith, owner_values, type_values, by_layers}
use Rattle.assembly_tree.specs.DataSize.{type_at, declared_in, layout_size, type_size, no_size, size_step, size_in_data}
use Rattle.assembly_tree.specs.declared.assembly.Assembly.{Assembly}
use Rattle.assembly_tree.specs.declared.typedef.Layout.{Layout}
use Rattle.assembly_tree.specs.declared.typedef.TypeDef.{TypeDef}
use Rattle.assembly_tree.specs.declared.typedef.TypeDef.TheViews.{out-TypeDef}
use Rattle.sig_codec.specs.Spelling.{Layer}
use Rattle.image_model.specs.Rows.{HasRow}
use Rattle.image_model.specs.Naming.{HasPath}
use Rattle.image_model.specs.Members.{layouts_of, HasDataSize}
use Rattle.image_model.specs.Reading.{IsGiven, IsLayout}

-- a type at a path has a row, and its layout
pub record HasTypeRow (image : List ℕ) (path : List TypeId) (t : TypeDef) : Type 0 where
  pub row : ℕ
  pub there : HasRow image 0x02 row
  pub leads : HasPath image row path
  pub layout : IsGiven (IsLayout image) (layouts_of image row) (out-TypeDef t).layout

abbrev pub HaveTypeRows : Assembly → List ℕ → Type 0
HaveTypeRows a image = (path : List TypeId) (t : TypeDef) → type_at a.types path ≡ Some t → HasTypeRow image path t

-- ---- layouts

sized : (l : Layout) (n : ℕ) → layout_size (Some l) ≡ Some n → (l.size ≡ n) × (0 < n)
sized l n e =
    ⊎_elim
    (λ h.
    let is : Some l.size ≡ Some n = sym (cond-true (nat_lt 0 l.size) (Some l.size) None h) ∙ e in
    let same : l.size ≡ n = cc in
    let some : 0 < l.size = ltb-true 0 l.size h in
    (same, omega arith))
    (λ h. let is : None ≡ Some n = sym (cond-false (nat_lt 0 l.size) (Some l.size) None h) ∙ e in absurd cc)
    (cases_Bool (nat_lt 0 l.size))

-- a layout with a size has a row
sized_row : (image rows : List ℕ) (o : Option Layout) (n : ℕ) → IsGiven (IsLayout image) rows o → layout_size o ≡ Some n
    → (row : ℕ) × (l : Layout) × Contains rows row × IsLayout image row l × (l.size ≡ n) × (0 < n)
sized_row image rows None n h e = absurd cc
sized_row image [] (Some l) n h e = absurd h
sized_row image (row ∷ rows) (Some l) n h e = let s = sized l n e in (row, l, (0, omega arith, refl), h, s.0, s.1)

-- ---- types

module _ (a : Assembly) (image : List ℕ) (rows : HaveTypeRows a image) where
  named_size : (t : SigType) (path : List TypeId) (n : ℕ) → out-SigType t ≡ layer.Value (record { scope = Here; path = path }) → (o : Option TypeDef) → type_at a.types path ≡ o
      → type_size o ≡ Some n → HasDataSize image t n
  named_size t path n e None at s = absurd cc
  named_size t path n e (Some u) at s =
      let r = rows path u at in
      let w = sized_row image (layouts_of image r.row) (out-TypeDef u).layout n r.layout s in
      HasDataSize.value e r.there r.leads w.2 (sym w.3.size ∙ w.4) w.5

  value_size : (t : SigType) (name : TypeName) (n : ℕ) → out-SigType t ≡ layer.Value name → (scope : Scope) → name.scope ≡ scope → type_size (declared_in a.types scope name.path) ≡ Some n → HasDataSize image t n
  value_size t name n e Here f s =
      let same : name ≡ record { scope = Here; path = name.path } = λ i. record { scope = f i; path = name.path } in
      named_size t name.path n (e ∙ ap layer.Value same) (type_at a.types name.path) refl s
  value_size t name n e (Extern k) f s = absurd cc

  abbrev Sized : SigType → Type 0
  Sized t = (n : ℕ) → size_in_data a t ≡ Some n → HasDataSize image t n

  abbrev NoFact : Owner → Type 0
  NoFact o = Unit {0}

  abbrev type_layer : layer.SigType-F (OwnerWith NoFact Sized) (TypeWith NoFact Sized) → Layer
  type_layer l = type_values NoFact Sized l

  abbrev layer_size : Layer → Option ℕ
  layer_size l = size_step a (map-SigType Owner SigType (Option ℕ) (Option ℕ) (fold-Owner (Option ℕ) (Option ℕ) no_size (size_step a)) (size_in_data a) l)

  by_layer : (l : layer.SigType-F (OwnerWith NoFact Sized) (TypeWith NoFact Sized)) (n : ℕ) → layer_size (type_layer l) ≡ Some n → HasDataSize image (roll-SigType (type_layer l)) n
  by_layer (layer.Prim p) n s = HasDataSize.primitive (out-roll-SigType (layer.Prim p)) s
  by_layer (layer.Value name) n s = value_size (roll-SigType (layer.Value name)) name n (out-roll-SigType (layer.Value name)) name.scope refl s
  by_layer (layer.Mod required by of) n s = HasDataSize.modified (out-roll-SigType (layer.Mod required by.0 of.0)) (of.1 n s)
  by_layer (layer.Class name) n s = absurd cc
  by_layer (layer.Inst value name args) n s = absurd cc
  by_layer (layer.Var j) n s = absurd cc
  by_layer (layer.MVar j) n s = absurd cc
  by_layer (layer.SzArray of) n s = absurd cc
  by_layer (layer.Array of rank sizes lower) n s = absurd cc
  by_layer (layer.ByRef of) n s = absurd cc
  by_layer (layer.Pointer of) n s = absurd cc
  by_layer (layer.Pinned of) n s = absurd cc

  type_made : (l : layer.SigType-F (OwnerWith NoFact Sized) (TypeWith NoFact Sized)) → Sized (roll-SigType (type_layer l))
  type_made l n s = by_layer l n (sym (fold-roll-SigType (Option ℕ) (Option ℕ) no_size (size_step a) (type_layer l)) ∙ s)

  owner_made : (l : layer.Owner-F (OwnerWith NoFact Sized) (TypeWith NoFact Sized)) → NoFact (roll-Owner (owner_values NoFact Sized l))
  owner_made l = tt

  pub data_size : (t : SigType) (n : ℕ) → size_in_data a t ≡ Some n → HasDataSize image t n
  data_size = by_layers NoFact Sized owner_made type_made
