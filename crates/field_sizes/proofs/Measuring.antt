-- The sizes of the rows of FieldRVA, one after the other.
use Rattle.std.proofs.Common.{◌≡◌, ℕ, ◌+◌, ◌<◌, ◌≤◌, inl, inr, List, length, set, refl, sym, ◌∙◌, ap, subst, arith}
use Rattle.std.specs.Prelude.{◌==◌, slice_index}
use Rattle.std.proofs.lemmas.Bool.{cases_eq, eq-eqb}
use Rattle.std.proofs.lemmas.List.{get_or-set_same, get_or-set_other, length-set}
use Rattle.metadata_tables.specs.Schema.{columns_of, schema}
use Rattle.metadata_tables.specs.Stream.{cell, column_of}
use Rattle.metadata_tables.specs.declared.schema.Column.TheVariants.{Row}
use Rattle.pe_layout.specs.FileMap.{readable}
use Rattle.image_model.specs.Cells.{IsIndex}
use Rattle.image_model.specs.Columns.{data_field, data_rva}
use Rattle.image_model.specs.Members.{HasData, HasDataSize, HasValues, data_of}
use Rattle.image_model.specs.Rows.{count_of, HasRow, rows_of, rows_with}
use Rattle.image_model.specs.Streams.{tables_of}
use Rattle.image_namings.proofs.Among.{Among, filter_among, range_among}
use Rattle.formed_references.proofs.Words.{all_among}
use Rattle.row_demands.specs.Structured.{MeetStructure}
use Rattle.attribute_demands.specs.Judging.{ByNames}
use Rattle.data_demands.specs.Measured.{CanMeasure, HaveOneLayout, IsFieldSize}
use Rattle.image_ready.specs.Laws.{AreDataSizes}
use Rattle.field_sizes.specs.Sizes.{IsSizeAt}

columns_of_data : length (columns_of 0x1D) ≡ 2
unfolding schema
columns_of_data = refl

field_column : column_of 0x1D 1 ≡ Row 0x04
unfolding schema
field_column = refl

-- the field of a row of FieldRVA is there
pub field_there : (image : List ℕ) (row : ℕ) → MeetStructure image → HasRow image 0x1D row → HasRow image 0x04 (data_field image row)
field_there image row meets there =
    subst (λ column. IsIndex image column (cell (tables_of image) 0x1D row 1)) field_column (meets.indexes 0x1D row there 1 (let l = columns_of_data in omega arith))

among_rows : (image : List ℕ) (row : ℕ) → HasRow image 0x1D row → Among row (rows_of image 0x1D)
unfolding rows_of
among_rows image row there = let b = there.1 in range_among row 1 (count_of image 0x1D) there.0 (omega arith)

-- a row of FieldRVA is one of those of its field
among_data : (image : List ℕ) (row : ℕ) → HasRow image 0x1D row → Among row (data_of image (data_field image row))
unfolding rows_with
among_data image row there =
    filter_among (λ r. data_field image r == data_field image row) row (rows_of image 0x1D) (among_rows image row there) (eq-eqb (data_field image row) (data_field image row) refl)

module _ (image : List ℕ) (can : CanMeasure image) (values : (table row : ℕ) → ByNames image (λ names. HasValues image names table row)) where
  pub one_layout : HaveOneLayout image
  one_layout type there = ((values 0x02 type can.named.0 can.named.1).layout refl there).one

  -- the size of its field is that of a row's data
  pub size_at : (row field found : ℕ) → HasRow image 0x1D row → field ≡ data_field image row → ByNames image (λ names. IsFieldSize image names field found) → ByNames image (λ names. IsSizeAt image names row found)
  size_at row field found there is sized names named =
      let f : ℕ = data_field image row in
      let all = ((values 0x04 f names named).field refl (field_there image row can.meets there)).data_there in
      let d = all_among (HasData image names f) row (data_of image f) all (among_data image row there) in
      let e = (subst (λ (g : ℕ). IsFieldSize image names g found) is (sized names named) d.0 d.2 d.1).0 d.3 in
      (d.0, d.2, subst (HasDataSize image d.0) e.0 d.3, subst (λ (n : ℕ). n ≤ length (readable image (data_rva image row))) e.0 d.4)

-- the sizes of the rows so far
pub record AreSoFar (image : List ℕ) (upto : ℕ) (sizes : List ℕ) : Type 0 where
  pub long : length sizes ≡ count_of image 0x1D + 1
  pub each : (row : ℕ) → 0 < row → row ≤ upto → ByNames image (λ names. IsSizeAt image names row (slice_index sizes row))

pub none_yet : (image sizes : List ℕ) → length sizes ≡ count_of image 0x1D + 1 → AreSoFar image 0 sizes
none_yet image sizes long = record { long = long; each = λ row some upto. absurd (omega arith) }

pub one_more : (image : List ℕ) (upto row : ℕ) (sizes : List ℕ) (k size : ℕ) → upto + 1 ≡ row → row ≤ count_of image 0x1D → k ≡ row → ByNames image (λ names. IsSizeAt image names row size)
    → AreSoFar image upto sizes → AreSoFar image row (set sizes k size)
one_more image upto row sizes k size next within at is so = record {
  long = length-set sizes k size ∙ so.long;
  each = λ r some less. elim (cases_eq r row) [
    | inl e ↦ λ names named.
        let here : size ≡ slice_index (set sizes k size) r = sym (ap (slice_index (set sizes k size)) (e ∙ sym at) ∙ get_or-set_same sizes k size 0 (let l = so.long in omega arith)) in
        subst (IsSizeAt image names r) here (subst (λ (q : ℕ). IsSizeAt image names q size) (sym e) (is names named))
    | inr n ↦ λ names named.
        subst (IsSizeAt image names r) (sym (get_or-set_other sizes k r size 0 (λ e. absurd (omega arith)))) (so.each r some (omega arith) names named)
  ];
}

pub all_sizes : (image : List ℕ) (upto : ℕ) (sizes : List ℕ) → count_of image 0x1D ≤ upto → AreSoFar image upto sizes → ByNames image (λ names. AreDataSizes image names sizes)
all_sizes image upto sizes all so names named row there = so.each row there.0 (let b = there.1 in omega arith) names named
