-- Rows of tables of references are equal where the rows are that they were made of.
use Rattle.std.proofs.Common.{◌≡◌, ap, refl, sym, ◌∙◌, subst, ℕ, suc, ◌+◌, ◌-◌, ◌<◌, List, [], map, length, Some, inl, inr, arith}
use Rattle.std.specs.Prelude.{⊤, slice_get, slice_index}
use Rattle.std.specs.List.{range_with_len}
use Rattle.std.proofs.lemmas.List.{length-map}
use Rattle.metadata_tables.specs.Encoding.{rows_of}
use Rattle.metadata_tables.specs.Schema.{schema, columns_of}
use Rattle.metadata_tables.specs.Stream.{cell}
use Rattle.image_tokens.specs.References.{IsSpecRow, IsLocalsRow, AreReferred}
use Rattle.image_tokens.specs.Rows.{AreDistinct, EachRow}
use Rattle.image_tokens.specs.declared.references.References.{References}
use Rattle.image_tokens.specs.declared.row_set.Cells.{Cells}
use Rattle.image_rows.specs.Filled.{three_cells, two_cells, first_cell, HoldsReferences}
use Rattle.image_members.specs.Pushing.{Tables}
use Rattle.image_layout.specs.Laws.{TablesAreRead, ReadsTables}
use Rattle.image_model.specs.Rows.{HasRow}
use Rattle.image_model.specs.Streams.{tables_of}
use Rattle.image_model.specs.Tidy.{cells_of}
use Rattle.image_model.specs.Used.{IsReference}
use Rattle.laws_image_parts.specs.tidiness.Distinct.{HasDistinctRows, HasTwoCells}
use Rattle.laws_image_parts.specs.tidiness.Once.{RowsStandOnce}
use Rattle.laws_image_parts.proofs.tidiness.ListLemmas.{get_at, get_some, get_mapped, map_places}

-- rows of references that are the same where cells of theirs are
abbrev Tells : (Cells → List ℕ) → (Cells → Type 0) → Type 0
Tells make Is = (c d : Cells) → Is c → Is d → make c ≡ make d → c ≡ d

cells_same : (c d : Cells) → c.first ≡ d.first → c.second ≡ d.second → c.third ≡ d.third → c ≡ d
cells_same c d p q s = λ i. record { first = p i; second = q i; third = s i }

at_place : (k : ℕ) (xs ys : List ℕ) → xs ≡ ys → slice_index xs k ≡ slice_index ys k
at_place k xs ys e = ap (λ (zs : List ℕ). slice_index zs k) e

three_tell : (Is : Cells → Type 0) → Tells three_cells Is
three_tell Is c d is so e = cells_same c d (at_place 0 _ _ e) (at_place 1 _ _ e) (at_place 2 _ _ e)

two_tell : Tells two_cells (λ c. c.third ≡ 0)
two_tell c d is so e = cells_same c d (at_place 0 _ _ e) (at_place 1 _ _ e) (is ∙ sym so)

-- a row whose second and third cells are 0
abbrev IsOneCell : Cells → Type 0
IsOneCell c = (c.second ≡ 0) × (c.third ≡ 0)

one_tells : Tells first_cell IsOneCell
one_tells c d is so e = cells_same c d (at_place 0 _ _ e) (is.0 ∙ sym so.0) (is.1 ∙ sym so.1)

module _ (r : References) (tables : Tables) (image : List ℕ) (reads : ReadsTables r tables image) where
  cells_are : (table row : ℕ) (cells : List ℕ) → slice_get (rows_of tables table) row ≡ Some cells → row < length (rows_of tables table) → length cells ≡ length (columns_of table)
      → cells_of image table (suc row) ≡ cells
  cells_are table row cells at low long =
      let all = map_places (cell (tables_of image) table (suc row)) 0 cells (λ c small.
      let here : 0 + c ≡ c = omega arith in
      ap (cell (tables_of image) table (suc row)) here ∙ reads.cells table row c low (omega arith) ∙ ap (λ (cs : List ℕ). slice_index cs c) (get_at (rows_of tables table) row cells [] at)) in
      ap (λ n. map (cell (tables_of image) table (suc row)) (range_with_len 0 n)) (sym long) ∙ all

  module _ (table : ℕ) (make : Cells → List ℕ) (Is : Cells → Type 0) (made : List Cells) (tells : Tells make Is) (rows_are : rows_of tables table ≡ map make made)
      (long : (c : Cells) → length (make c) ≡ length (columns_of table)) (each : EachRow Is made) (distinct : AreDistinct made) where
    count : length (rows_of tables table) ≡ length made
    count = ap (length {A = List ℕ}) rows_are ∙ length-map made make

    -- what a row was made of
    made_of : (a : ℕ) → HasRow image table a → (c : Cells) × (slice_get made (a - 1) ≡ Some c) × (cells_of image table a ≡ make c)
    made_of a there =
        let some = there.0 in
        let high = there.1 in
        let rows = reads.counts table in
        let all = count in
        let found = get_some made (a - 1) (omega arith) in
        let at : slice_get (rows_of tables table) (a - 1) ≡ Some (make found.0) = ap (λ (rs : List (List ℕ)). slice_get rs (a - 1)) rows_are ∙ get_mapped make made (a - 1) found.0 found.1 in
        let same : suc (a - 1) ≡ a = omega arith in
        (found.0, found.1, subst (λ n. cells_of image table n ≡ make found.0) same (cells_are table (a - 1) (make found.0) at (omega arith) (long found.0)))

    pub once_in : (a b : ℕ) → HasRow image table a → HasRow image table b → cells_of image table a ≡ cells_of image table b → a ≡ b
    once_in a b there those e =
        let x = made_of a there in
        let y = made_of b those in
        let same : x.0 ≡ y.0 = tells x.0 y.0 (each (a - 1) x.0 x.1) (each (b - 1) y.0 y.1) (sym x.2 ∙ e ∙ y.2) in
        let rows = distinct (a - 1) (b - 1) y.0 (subst (λ c. slice_get made (a - 1) ≡ Some c) same x.1) y.1 in
        let some = there.0 in
        let any = those.0 in
        omega arith

spec_one : (r : References) (c : Cells) → IsSpecRow r c → IsOneCell c
spec_one r c h = (ap (λ (d : Cells). d.second) h.are, ap (λ (d : Cells). d.third) h.are)

locals_one : (r : References) (c : Cells) → IsLocalsRow r c → IsOneCell c
locals_one r c h = (ap (λ (d : Cells). d.second) h.are, ap (λ (d : Cells). d.third) h.are)

module _ (r : References) (tables : Tables) (image : List ℕ) (reads : ReadsTables r tables image) (h : HoldsReferences r tables) (known : AreReferred r)
    (distinct : HasDistinctRows r) where
  abbrev OnceAt : ℕ → Type 0
  OnceAt table = (a b : ℕ) → HasRow image table a → HasRow image table b → cells_of image table a ≡ cells_of image table b → a ≡ b

  names_once : OnceAt 0x01
  unfolding schema
  names_once = once_in r tables image reads 0x01 three_cells (λ c. ⊤) r.referred.names (three_tell (λ c. ⊤)) h.names (λ c. refl) (λ k c at. tt) distinct.names

  members_once : OnceAt 0x0A
  unfolding schema
  members_once = once_in r tables image reads 0x0A three_cells (λ c. ⊤) r.referred.members (three_tell (λ c. ⊤)) h.members (λ c. refl) (λ k c at. tt) distinct.members

  locals_once : OnceAt 0x11
  unfolding schema
  locals_once =
      once_in r tables image reads 0x11 first_cell IsOneCell r.referred.locals one_tells h.locals (λ c. refl) (λ k c at. locals_one r c (known.locals k c at)) distinct.locals

  specs_once : OnceAt 0x1B
  unfolding schema
  specs_once =
      once_in r tables image reads 0x1B first_cell IsOneCell r.referred.specs one_tells h.specs (λ c. refl) (λ k c at. spec_one r c (known.specs k c at)) distinct.specs

  instances_once : HasTwoCells r → OnceAt 0x2B
  unfolding schema
  instances_once two = once_in r tables image reads 0x2B two_cells (λ c. c.third ≡ 0) r.referred.instances two_tell h.instances (λ c. refl) two distinct.instances

  pub rows_once : HasTwoCells r → (table : ℕ) → IsReference table → OnceAt table
  rows_once two table (inl e) = subst OnceAt (sym e) names_once
  rows_once two table (inr (inl e)) = subst OnceAt (sym e) members_once
  rows_once two table (inr (inr (inl e))) = subst OnceAt (sym e) locals_once
  rows_once two table (inr (inr (inr (inl e)))) = subst OnceAt (sym e) specs_once
  rows_once two table (inr (inr (inr (inr e)))) = subst OnceAt (sym e) (instances_once two)

pub rows_stand_once : TablesAreRead → RowsStandOnce
rows_stand_once read a classes r tables code id image f m distinct two =
    λ table x y is. rows_once r tables image (read r tables id image m) f.references f.known.rows distinct two table is x y
