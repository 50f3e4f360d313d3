-- Rows of TypeDef and the places that were declared, and their paths.
use Rattle.std.proofs.Common.{◌≡◌, ap, refl, sym, ◌∙◌, subst, ℕ, zero, suc, ◌+◌, ◌-◌, ◌<◌, ◌≤◌, List, [], ◌∷◌, ◌++◌, map, length, Some, arith}
use Rattle.std.specs.Prelude.{slice_get}
use Rattle.std.proofs.lemmas.List.{append_assoc}
use Rattle.heaps.specs.Content.{HasText}
use Rattle.assembly_tree.specs.declared.typedef.TypeDef.{TypeDef}
use Rattle.type_terms.specs.declared.name.TypeId.{TypeId}
use Rattle.image_tokens.specs.TypePaths.{IsTypeRow, Follows, in_declared}
use Rattle.image_tokens.specs.TypePaths as paths
use Rattle.image_tokens.specs.declared.references.References.{References}
use Rattle.image_members.specs.Classes.{AreClasses}
use Rattle.image_members.specs.Classes as classes
use Rattle.image_members.specs.Declaring.{Place, AreDeclared, HoldsPlace, places, class_place, module_place}
use Rattle.image_members.specs.declared.classes.Class.{Class}
use Rattle.image_layout.specs.Laws.{ReadsHeaps}
use Rattle.image_model.specs.Naming.{HasId, HasPath}
use Rattle.image_model.specs.Rows.{enclosing}
use Rattle.image_model.specs.Streams.{strings_of}
use Rattle.laws_image_parts.specs.AtRows.{AtEach}
use Rattle.laws_image_parts.specs.names.Paths.{HasPlace}
use Rattle.laws_image_parts.proofs.CellLemmas.{get_low}
use Rattle.laws_image_parts.proofs.names.General.{get_some, zip_beside, each_one, each_both, each_map}

no_item : {X : Type 0} (xs : List X) (k : ℕ) (x : X) → xs ≡ [] → slice_get xs k ≡ Some x → ⊥
no_item [] k x e at = cc
no_item (y ∷ xs) k x e at = cc

-- ---- enclosers stand before what they enclose

abbrev pub Low : ℕ → Class → Type 0
Low row c = c.encloser < row

pub enclosers_low : {encloser row : ℕ} {types : List TypeDef} {cs : List Class} → AreClasses encloser row types cs → encloser < row → AtEach Low row cs
enclosers_low {cs = cs} (classes.none e f) low = λ k c at. absurd (no_item cs k c f at)
enclosers_low {encloser = e} {row = row} {cs = cs} (classes.more {class = c} {nested = nested} {others = others} is own inner beside t s) low =
    subst (AtEach Low row) (sym s)
    (each_one Low row c (nested ++ others) (omega (arith, own))
    (each_both Low (row + 1) nested others (enclosers_low inner (omega arith)) (enclosers_low beside (omega arith))))

module _ (cs : List Class) (image : List ℕ) (each : AtEach (HasPlace image) 1 (places cs)) (low : AtEach Low 2 cs) where
  abbrev LowPlace : ℕ → Place → Type 0
  LowPlace row p = p.encloser < row

  low_places : AtEach LowPlace 1 (places cs)
  low_places = each_one LowPlace 1 module_place (map class_place cs) (omega arith) (each_map LowPlace class_place 2 cs low)

  -- each row has a path
  path_below : (n row : ℕ) → row < n → 0 < row → row ≤ length (places cs) → (path : List TypeId) × HasPath image row path
  path_below zero row under pos high = absurd (omega arith)
  path_below (suc n) row under pos high =
      let found = get_some (places cs) (row - 1) (omega arith) in
      let p = found.0 in
      let here : 1 + (row - 1) ≡ row = omega arith in
      let has : HasPlace image row p = subst (λ m. HasPlace image m p) here (each (row - 1) p found.1) in
      let before : p.encloser < row = (let l = low_places (row - 1) p found.1 in omega (arith, l)) in
      by_encloser row p has before (λ e some lower. path_below n e (omega arith) some (omega arith)) p.encloser refl
    where
      by_encloser : (row : ℕ) (p : Place) → HasPlace image row p → p.encloser < row
          → ((e : ℕ) → 0 < e → e < row → (path : List TypeId) × HasPath image e path) → (e : ℕ) → p.encloser ≡ e → (path : List TypeId) × HasPath image row path
      by_encloser row p has before inner zero is = (p.id ∷ [], HasPath.top (has.encloser ∙ is) has.id)
      by_encloser row p has before inner (suc e) is =
          let outer = inner (suc e) (omega arith) (omega (arith, is)) in
          (outer.0 ++ p.id ∷ [], HasPath.nested (has.encloser ∙ is) (omega arith) outer.1 has.id refl)

  pub has_path : (row : ℕ) → 0 < row → row ≤ length (places cs) → (path : List TypeId) × HasPath image row path
  has_path row pos high = path_below (suc row) row (omega arith) pos high

-- ---- the path that leads to a row is the row's

module _ (cs : List Class) (r : References) (image : List ℕ) (each : AtEach (HasPlace image) 1 (places cs)) (declared : AreDeclared r.heaps.strings r.declared.types (places cs))
    (heaps : ReadsHeaps r image) (text : (index : ℕ) (a b : List ℕ) → HasText (strings_of image) index a → HasText (strings_of image) index b → a ≡ b) where
  -- a declared row, by its cells
  row_has : (scope : ℕ) (id : TypeId) (row : ℕ) → IsTypeRow r.heaps.strings r.declared.types scope id row → (enclosing image row ≡ scope) × HasId image row id × (0 < row) × (row ≤ length (places cs))
  row_has scope id row t =
      let beside = zip_beside (HoldsPlace r.heaps.strings) r.declared.types (places cs) (row - 1) t.cells declared t.at.at in
      let p = beside.0 in
      let counted = t.at.counted in
      let here : 1 + (row - 1) ≡ row = omega arith in
      let has : HasPlace image row p = subst (λ m. HasPlace image m p) here (each (row - 1) p beside.1) in
      let space = text t.cells.third p.id.space id.space (heaps.texts _ _ beside.2.id_is.space_is.there) (heaps.texts _ _ t.id_is.space_is.there) in
      let name = text t.cells.second p.id.name id.name (heaps.texts _ _ beside.2.id_is.name_is.there) (heaps.texts _ _ t.id_is.name_is.there) in
      let same : p.id ≡ id = (λ i. record { space = space i; name = name i }) in
      let high = get_low (places cs) (row - 1) p beside.1 in
      (has.encloser ∙ sym beside.2.encloser_is ∙ t.scope_is, subst (HasId image row) same has.id, counted, omega (arith, high))

  -- on from an encloser
  leads_on : {scope row : ℕ} {path : List TypeId} (before : List TypeId) → 0 < scope → HasPath image scope before
      → Follows r.heaps.strings r.declared.types in_declared scope path row → HasPath image row (before ++ path)
  leads_on {scope = scope} before some h (paths.last {row = row} {id = id} t e) =
      let has = row_has scope id row t in
      HasPath.nested has.0 some h has.1 (ap (λ (p : List TypeId). before ++ p) e)
  leads_on {scope = scope} {row = end} {path = path} before some h (paths.on {row = row} {id = id} {rest = rest} t e f) =
      let has = row_has scope id row t in
      let next : HasPath image row (before ++ id ∷ []) = HasPath.nested has.0 some h has.1 refl in
      let whole : before ++ id ∷ [] ++ rest ≡ before ++ path = append_assoc before (id ∷ []) rest ∙ ap (λ (p : List TypeId). before ++ p) (sym e) in
      subst (HasPath image end) whole (leads_on (before ++ id ∷ []) has.2 next f)

  -- from the top
  pub leads_to : {row : ℕ} {path : List TypeId} → Follows r.heaps.strings r.declared.types in_declared 0 path row → HasPath image row path
  leads_to {row = row} (paths.last {id = id} t e) =
      let has = row_has 0 id row t in
      subst (HasPath image row) (sym e) (HasPath.top has.0 has.1)
  leads_to {row = end} {path = path} (paths.on {row = row} {id = id} {rest = rest} t e f) =
      let has = row_has 0 id row t in
      subst (HasPath image end) (sym e) (leads_on (id ∷ []) has.2 (HasPath.top has.0 has.1) f)

  -- and the row is there
  pub leads_in : {scope row : ℕ} {path : List TypeId} → Follows r.heaps.strings r.declared.types in_declared scope path row → (0 < row) × (row ≤ length (places cs))
  leads_in {scope = scope} {row = row} (paths.last {id = id} t e) = let has = row_has scope id row t in (has.2, has.3)
  leads_in (paths.on t e f) = leads_in f
