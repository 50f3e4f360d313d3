-- The members of a type, by its own runs and by those of the first row of a map that it is the parent of (II.22.12, II.22.35, II.22.37).
use Rattle.std.proofs.Common.{◌≡◌, ℕ, ◌<◌, inl, inr, List, [], Option, Some, None, refl, sym, ◌∙◌, ap, arith}
use Rattle.std.specs.Prelude.{◌==◌, find}
use Rattle.std.specs.List.{range_with_len}
use Rattle.std.specs.Option.{option_map_or}
use Rattle.std.proofs.lemmas.Bool.{cases_order, eqb-true, eqb-false}
use Rattle.std.specs.Prelude.{slice_index}
use Rattle.metadata_tables.specs.Stream.{cell}
use Rattle.image_model.specs.Rows.{count_of, HasRow, rows_of, fields_of, methods_of, events_in, properties_in, events_of, properties_of}
use Rattle.image_model.specs.Streams.{tables_of}
use Rattle.row_demands.specs.Members.{AreFirsts, run_of}
use Rattle.row_groups.proofs.Enclosing.{first_of_range}

pub fields_are : (image : List ℕ) (type : ℕ) → fields_of image type ≡ run_of image 0x02 4 0x04 type
unfolding fields_of
fields_are image type = refl

pub methods_are : (image : List ℕ) (type : ℕ) → methods_of image type ≡ run_of image 0x02 5 0x06 type
unfolding methods_of
methods_are image type = refl

module _ (image : List ℕ) (map : ℕ) (firsts : List ℕ) (are : AreFirsts image map (count_of image 0x02) firsts) (type : ℕ) where
  found_none : slice_index firsts type ≡ 0 → find (λ row. cell (tables_of image) map row 0 == type) (range_with_len 1 (count_of image map)) ≡ None
  found_none z = elim (first_of_range (λ row. cell (tables_of image) map row 0 == type) 1 (count_of image map)) [
    | inl none ↦ none.0
    | inr some ↦ absurd (are.none type z some.0 (let f = some.2 in omega arith, let l = some.3 in omega arith) (eqb-true (cell (tables_of image) map some.0 0) type some.4))
  ]

  found_some : 0 < slice_index firsts type → find (λ row. cell (tables_of image) map row 0 == type) (range_with_len 1 (count_of image map)) ≡ Some (slice_index firsts type)
  found_some some =
      let at = slice_index firsts type in
      let f = are.found type some in
      elim (first_of_range (λ row. cell (tables_of image) map row 0 == type) 1 (count_of image map)) [
        | inl none ↦ absurd (eqb-false (cell (tables_of image) map at 0) type (none.1 at (omega arith) (let l = f.0 in omega arith)) f.1)
        | inr first ↦ elim (cases_order first.0 at) [
          | inl e ↦ first.1 ∙ ap Some e
          | inr apart ↦ elim apart [
            | inl less ↦ absurd (f.2 first.0 (let a = first.2 in omega arith) less (eqb-true (cell (tables_of image) map first.0 0) type first.4 ∙ sym f.1))
            | inr more ↦ absurd (eqb-false (cell (tables_of image) map at 0) type (first.5 at (omega arith) more) f.1)
          ]
        ]
      ]

  pub map_there : 0 < slice_index firsts type → HasRow image map (slice_index firsts type)
  map_there some = (some, (are.found type some).0)

pub properties_none : (image firsts : List ℕ) (type : ℕ) → AreFirsts image 0x15 (count_of image 0x02) firsts → slice_index firsts type ≡ 0 → properties_of image type ≡ []
unfolding properties_of rows_of
properties_none image firsts type are z = ap (λ (o : Option ℕ). option_map_or (properties_in image) o []) (found_none image 0x15 firsts are type z)

pub properties_some : (image firsts : List ℕ) (type : ℕ) → AreFirsts image 0x15 (count_of image 0x02) firsts → 0 < slice_index firsts type → properties_of image type ≡ run_of image 0x15 1 0x17 (slice_index firsts type)
unfolding properties_of rows_of
properties_some image firsts type are some = ap (λ (o : Option ℕ). option_map_or (properties_in image) o []) (found_some image 0x15 firsts are type some)

pub events_none : (image firsts : List ℕ) (type : ℕ) → AreFirsts image 0x12 (count_of image 0x02) firsts → slice_index firsts type ≡ 0 → events_of image type ≡ []
unfolding events_of rows_of
events_none image firsts type are z = ap (λ (o : Option ℕ). option_map_or (events_in image) o []) (found_none image 0x12 firsts are type z)

pub events_some : (image firsts : List ℕ) (type : ℕ) → AreFirsts image 0x12 (count_of image 0x02) firsts → 0 < slice_index firsts type → events_of image type ≡ run_of image 0x12 1 0x14 (slice_index firsts type)
unfolding events_of rows_of
events_some image firsts type are some = ap (λ (o : Option ℕ). option_map_or (events_in image) o []) (found_some image 0x12 firsts are type some)
