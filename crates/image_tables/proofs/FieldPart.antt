-- The rows of fields, and their data.
use Rattle.std.proofs.Common.{◌≡◌, ap, refl, sym, ◌∙◌, subst, ℕ, ◌+◌, ◌-◌, ◌<◌, ◌≤◌, ◌^◌, List, [], ◌∷◌, ◌++◌, length, arith}
use Rattle.std.specs.Borrow.{Bor}
use Rattle.std.specs.Prelude.{sum_by}
use Rattle.std.specs.List.{AllZip, enumerate_from, flat_map}
use Rattle.assembly_tree.specs.declared.members.Field.{Field}
use Rattle.metadata_tables.specs.Encoding.{rows_of, rows_in}
use Rattle.image_tokens.specs.declared.references.References.{References}
use Rattle.image_tokens.proofs.GrowthLemmas.{grows_refl}
use Rattle.image_members.specs.DataRows.{all_data, data_room, IsDataRow, AddsData}
use Rattle.image_rows.specs.FieldRows.{IsFieldRow, IsFieldAt, offset_rows, AddsItems}
use Rattle.image_members.specs.Places.{lent}
use Rattle.image_members.specs.Pushing.{Tables, AddsRows}
use Rattle.image_rows.proofs.FieldLemmas.{lent_long}
use Rattle.image_tables.specs.FieldPart.{CanFillFields, FillsFields}
use Rattle.image_tables.specs.Filling.{Lengthens}
use Rattle.image_tables.proofs.PartLemmas.{none_at, still_none, adds_part, others_trans, all_rows}

module _ (xs : List (Bor Field)) (r : References) (t0 : Tables) (can : CanFillFields (lent xs) r t0) where
  pub few_fields : rows_in t0 0x04 + length xs < 2 ^ 24
  few_fields =
      let none = ap (length {A = List ℕ}) (none_at 3 0x04 3 t0 can.lacks refl (omega arith)) in
      let few = can.few in
      let long = lent_long xs in
      omega arith

  pub fields_count : length xs < 2 ^ 24 - 1
  fields_count = let few = can.few in let long = lent_long xs in omega arith

  module _ (t1 : Tables) (one : AddsItems 0x04 (IsFieldRow r) (lent xs) t0 t1) where
    no_offsets : rows_of t1 0x10 ≡ []
    no_offsets = still_none 0x04 0x10 one.rows t0 t1 one.adds (λ e. absurd (omega arith)) (none_at 3 0x10 3 t0 can.lacks refl (omega arith))

    pub few_offsets : rows_in t1 0x10 + length xs < 2 ^ 24
    few_offsets = let none = ap (length {A = List ℕ}) no_offsets in let few = can.few in let long = lent_long xs in omega arith

    module _ (t2 : Tables) (two : AddsRows 0x10 (flat_map offset_rows (enumerate_from 1 (lent xs))) t1 t2) where
      no_data : rows_of t2 0x1D ≡ []
      no_data =
          still_none 0x10 0x1D (flat_map offset_rows (enumerate_from 1 (lent xs))) t1 t2 two (λ e. absurd (omega arith))
          (still_none 0x04 0x1D one.rows t0 t1 one.adds (λ e. absurd (omega arith)) (none_at 3 0x1D 3 t0 can.lacks refl (omega arith)))

      pub few_data : rows_in t2 0x1D + length xs < 2 ^ 24
      few_data = let none = ap (length {A = List ℕ}) no_data in let few = can.few in let long = lent_long xs in omega arith

      module _ (code0 code1 : List ℕ) (t3 : Tables) (three : AddsData (all_data 1 (lent xs)) code0 code1 t2 t3) where
        pub fields_filled : FillsFields (lent xs) r code1 t0 t3
        fields_filled = record {
          rows = subst (λ (rs : List (List ℕ)). AllZip (IsFieldRow r) rs (lent xs))
              (sym (three.adds.others 0x04 (λ e. absurd (omega arith)) ∙ two.others 0x04 (λ e. absurd (omega arith))
              ∙ all_rows 0x04 one.rows t0 t1 (none_at 3 0x04 3 t0 can.lacks refl (omega arith)) one.adds)) one.each;
          offsets = three.adds.others 0x10 (λ e. absurd (omega arith)) ∙ all_rows 0x10 (flat_map offset_rows (enumerate_from 1 (lent xs))) t1 t2 no_offsets two;
          contents = subst (λ (rs : List (List ℕ)). AllZip (IsDataRow code1) rs (all_data 1 (lent xs))) (sym (all_rows 0x1D three.rows t2 t3 no_data three.adds)) three.each;
          others = others_trans 3 t0 t1 t3 (adds_part 3 0x04 one.rows t0 t1 refl one.adds)
              (others_trans 3 t1 t2 t3 (adds_part 3 0x10 (flat_map offset_rows (enumerate_from 1 (lent xs))) t1 t2 refl two) (adds_part 3 0x1D three.rows t2 t3 refl three.adds));
        }

        pub data_lengthened : Lengthens (sum_by data_room (all_data 1 (lent xs))) code0 code1
        data_lengthened = record { more = three.more; is = three.is; long = three.long }
