-- Where references lead, and how types nest.
use Rattle.std.proofs.Common.{◌≡◌, ap, refl, sym, ◌∙◌, subst, ℕ, zero, suc, ◌+◌, ◌-◌, ◌<◌, true, List, [], ◌∷◌, ◌++◌, length, Some, inl, arith}
use Rattle.std.specs.Prelude.{slice_get}
use Rattle.std.proofs.lemmas.List.{length-append}
use Rattle.assembly_tree.specs.WellFormed.{is_well_formed}
use Rattle.assembly_tree.specs.WellFormedFacts.{WellFormed}
use Rattle.assembly_tree.specs.declared.assembly.Assembly.{Assembly}
use Rattle.assembly_tree.proofs.FormedFacts.{assemblies_named}
use Rattle.heaps.specs.Heap.{Heap}
use Rattle.type_terms.specs.declared.name.Scope.TheVariants.{Extern}
use Rattle.type_terms.specs.declared.name.TypeId.{TypeId}
use Rattle.image_tokens.specs.NameTokens.{in_extern}
use Rattle.image_tokens.specs.Rows.{IsRowAt}
use Rattle.image_tokens.specs.Texts.{HoldsId}
use Rattle.image_tokens.specs.TypePaths.{Follows, LeadsIn, in_reference}
use Rattle.image_tokens.specs.TypePaths as paths
use Rattle.image_tokens.specs.declared.references.References.{References}
use Rattle.image_tokens.specs.declared.row_set.Cells.{Cells}
use Rattle.image_rows.specs.ClassRows.{class_rows, nested_rows}
use Rattle.image_members.specs.Classes.{AreClasses}
use Rattle.image_members.specs.Declaring.{places, class_place}
use Rattle.image_rows.specs.Filled.{three_cells}
use Rattle.image_members.specs.declared.classes.Class.{Class}
use Rattle.image_layout.specs.Laws.{ReadsHeaps}
use Rattle.image_model.specs.Columns.{nested_class, enclosing_class}
use Rattle.image_model.specs.Naming.{HasPath}
use Rattle.image_model.specs.Rows.{HasRow, count_of}
use Rattle.image_model.specs.Structure.{max_path, HasScope, IsNested, HasScopes}
use Rattle.laws_image_parts.specs.AtRows.{AtEach}
use Rattle.laws_image_parts.specs.RowCells.{type_ref_cells, nested_cells}
use Rattle.laws_image_parts.specs.RowsRead.{IsMade, row_itself, ReadsRows}
use Rattle.laws_image_parts.specs.names.Paths.{HasPlace, PathsRead}
use Rattle.laws_image_parts.proofs.names.PlaceLemmas.{enclosers_low}
use Rattle.laws_image_parts.proofs.names.ReferenceLemmas.{refers_to}
use Rattle.laws_image_reading.specs.order.ShortNames.{NamesAreShort}
use Rattle.laws_image_reading.proofs.order.ItemRising.{cell_at}
use Rattle.laws_image_reading.proofs.order.Nesting.{HasShortPath, nested_item, paths_short}
use Rattle.laws_image_reading.proofs.order.Rising.{first_with}
use Rattle.laws_image_reading.proofs.order.RowOrder.{item_of}
use Rattle.laws_image_reading.proofs.order.Sorted.{nested_rises}

-- the types before a row, and its own, lead to it
follows : (strings : Heap) (rows : List Cells) (scope row : ℕ) (before : List TypeId) (id : TypeId) (cells : Cells) → LeadsIn strings rows scope before cells.first → IsRowAt rows cells row
    → HoldsId strings id cells.second cells.third → Follows strings rows in_reference scope (before ++ id ∷ []) row
follows strings rows scope row [] id cells leads at holds = paths.last (record { cells = cells; at = at; scope_is = leads; id_is = holds }) refl
follows strings rows scope row (i ∷ before) id cells leads at holds =
    paths.on leads.1 refl (follows strings rows (in_reference leads.0) row before id cells leads.2 at holds)

module _ (a : Assembly) (classes : List Class) (r : References) (code image : List ℕ) (h : ReadsRows a classes r code image) where
  -- ---- references

  references_scoped : ReadsHeaps r image → NamesAreShort r → (row : ℕ) → HasRow image 0x01 row → HasScope image row
  references_scoped heaps short row there =
      let one = item_of 0x01 type_ref_cells (IsMade three_cells) r.referred.names image h.references.names row there in
      let is = short (row - 1) one.0 one.1 in
      let on = is.row.lies in
      let path = on.path.before ++ on.path.id ∷ [] in
      let at : IsRowAt r.referred.names one.0 row = record { counted = there.0; at = one.1 } in
      let leads = refers_to r image h.references.names heaps on.number refl
      (follows r.heaps.strings r.referred.names (in_extern on.number) row on.path.before on.path.id one.0 on.path.leads at on.path.id_is) in
      let whole = ap (length {A = TypeId}) on.path.is in
      let front = length-append on.path.before (on.path.id ∷ []) in
      let all = length-append on.path.before (on.path.id ∷ on.path.after) in
      let most = is.short in
      record {
        scope = Extern on.number;
        path = path;
        leads = leads;
        short = omega arith;
        declared = λ here. absurd cc;
      }

  -- ---- nested types

  module _ (are : AreClasses 0 2 a.types classes) (formed : is_well_formed a ≡ true) (paths_read : PathsRead classes r image) where
    class_places : AtEach (λ k c. HasPlace image k (class_place c)) 2 classes
    class_places k c at = let there : 1 + suc k ≡ 2 + k = omega arith in subst (λ n. HasPlace image n (class_place c)) there (paths_read.places_are (suc k) (class_place c) (map_at classes k c at))
      where
        map_at : (cs : List Class) (j : ℕ) (x : Class) → slice_get cs j ≡ Some x → slice_get (places cs) (suc j) ≡ Some (class_place x)
        map_at [] j x e = absurd cc
        map_at (d ∷ cs) zero x e = let same : d ≡ x = cc in ap (λ y. Some (class_place y)) same
        map_at (d ∷ cs) (suc j) x e = map_at cs j x e

    short_paths : AtEach (λ k c. HasShortPath a image max_path k) 2 classes
    short_paths =
        let whole : WellFormed a = (assemblies_named a).0 formed in
        paths_short a image max_path are true 100 0 whole.classes (omega arith) (omega arith) (inl (refl, refl)) class_places

    nested_held : (row : ℕ) → HasRow image 0x29 row → IsNested image row
    nested_held row there =
        let one = item_of 0x29 nested_cells (IsMade row_itself) (class_rows nested_rows classes) image h.types.nested row there in
        let it = nested_item 2 classes (row - 1) one.0 one.1 in
        let nested_is : nested_class image row ≡ 2 + it.place = ap (cell_at 0) one.2 ∙ ap (cell_at 0) it.are in
        let outer_is : enclosing_class image row ≡ it.class.encloser = ap (cell_at 1) one.2 ∙ ap (cell_at 1) it.are in
        let low : it.class.encloser < 2 + it.place = enclosers_low are (omega arith) it.place it.class it.at in
        let path = short_paths it.place it.class it.at in
        record {
          once = λ earlier some less. first_with (nested_class image) (count_of image 0x29) (λ n behind high. nested_rises a classes r code image h n behind (omega arith, high)) row earlier there.1 some less;
          before = omega arith;
          path = path.0;
          leads = subst (λ n. HasPath image n path.0) (sym nested_is) path.1;
          short = path.2;
        }

    pub has_scopes : ReadsHeaps r image → NamesAreShort r → (table row : ℕ) → HasScopes image table row
    has_scopes heaps short table row = record {
      reference = λ is there. references_scoped heaps short row there;
      nesting = λ is there. nested_held row there;
    }
