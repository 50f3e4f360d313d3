-- The first number of a range that passes a test, and the type that encloses a type.
use Rattle.std.proofs.Common.{◌≡◌, ℕ, zero, suc, ◌+◌, ◌<◌, ◌≤◌, ◌⊎◌, inl, inr, Bool, true, false, List, Option, Some, None, length, refl, sym, ◌∙◌, ap, subst, arith}
use Rattle.std.specs.Prelude.{◌==◌, find}
use Rattle.std.specs.List.{range_with_len}
use Rattle.std.specs.Option.{option_map_or}
use Rattle.std.proofs.lemmas.Bool.{cases_Bool, cases_eq, cond-true, cond-false, eqb-true, eqb-false}
use Rattle.metadata_tables.specs.Schema.{schema, columns_of}
use Rattle.metadata_tables.specs.Stream.{cell, column_of}
use Rattle.metadata_tables.specs.declared.schema.Column.TheVariants.{Row}
use Rattle.image_model.specs.Cells.{HasIndexes, IsIndex}
use Rattle.image_model.specs.Columns.{nested_class, enclosing_class}
use Rattle.image_model.specs.Rows.{count_of, HasRow, enclosing, rows_of}
use Rattle.image_model.specs.Streams.{tables_of}

-- ---- the first of a range

-- the first number of a range that passes a test, or none does
abbrev pub FirstOf : (ℕ → Bool) → ℕ → ℕ → Type 0
FirstOf p a n =
    ((find p (range_with_len a n) ≡ None) × ((k : ℕ) → a ≤ k → k < a + n → p k ≡ false))
    ⊎ ((k : ℕ) × (find p (range_with_len a n) ≡ Some k) × (a ≤ k) × (k < a + n) × (p k ≡ true) × ((j : ℕ) → a ≤ j → j < k → p j ≡ false))

fails_first : (p : ℕ → Bool) (a : ℕ) (P : ℕ → Type 0) → p a ≡ false → ((k : ℕ) → a + 1 ≤ k → P k → p k ≡ false) → (k : ℕ) → a ≤ k → P k → p k ≡ false
fails_first p a P e more k from h = elim (cases_eq k a) [ inl is ↦ ap p is ∙ e | inr n ↦ more k (omega arith) h ]

pub first_of_range : (p : ℕ → Bool) (a n : ℕ) → FirstOf p a n
first_of_range p a zero = inl (refl, λ k from less. absurd (omega arith))
first_of_range p a (suc n) = elim (cases_Bool (p a)) [
  | inl e ↦ inr (a, cond-true (p a) _ _ e, omega arith, omega arith, e, λ j from less. absurd (omega arith))
  | inr e ↦ elim (first_of_range p (a + 1) n) [
    | inl none ↦ inl (
      cond-false (p a) _ _ e ∙ none.0,
      fails_first p a (λ k. k < a + suc n) e (λ k from less. none.1 k from (omega arith)),
    )
    | inr some ↦ inr (
      some.0,
      cond-false (p a) _ _ e ∙ some.1,
      let f = some.2 in omega arith,
      let l = some.3 in omega arith,
      some.4,
      fails_first p a (λ k. k < some.0) e some.5,
    )
  ]
]

-- ---- the type that encloses a type

abbrev pub IsTop : List ℕ → ℕ → Type 0
IsTop image type = (enclosing image type ≡ 0) × ((row : ℕ) → HasRow image 0x29 row → nested_class image row ≡ type → ⊥)

abbrev pub IsUnder : List ℕ → ℕ → Type 0
IsUnder image type =
    (row : ℕ) × HasRow image 0x29 row × (nested_class image row ≡ type) × ((q : ℕ) → 0 < q → q < row → nested_class image q ≡ type → ⊥)
    × (enclosing image type ≡ enclosing_class image row)

pub enclosed : (image : List ℕ) (type : ℕ) → IsTop image type ⊎ IsUnder image type
unfolding enclosing rows_of
enclosed image type =
    let p : ℕ → Bool = λ row. nested_class image row == type in
    elim (first_of_range p 1 (count_of image 0x29)) [
      | inl none ↦ inl (
        ap (λ (o : Option ℕ). option_map_or (enclosing_class image) o 0) none.0,
        λ row there. eqb-false (nested_class image row) type (none.1 row (let t = there.0 in omega arith) (let t = there.1 in omega arith)),
      )
      | inr some ↦ inr (
        some.0,
        (let f = some.2 in omega arith, let l = some.3 in omega arith),
        eqb-true (nested_class image some.0) type some.4,
        λ q from less. eqb-false (nested_class image q) type (some.5 q (omega arith) less),
        ap (λ (o : Option ℕ). option_map_or (enclosing_class image) o 0) some.1,
      )
    ]

-- ---- the rows of NestedClass

nesting_columns : length (columns_of 0x29) ≡ 2
unfolding schema
nesting_columns = refl

nested_column : column_of 0x29 0 ≡ Row 0x02
unfolding schema
nested_column = refl

enclosing_column : column_of 0x29 1 ≡ Row 0x02
unfolding schema
enclosing_column = refl

module _ (image : List ℕ) (indexes : (table row : ℕ) → HasRow image table row → HasIndexes image table row) where
  pub nested_there : (row : ℕ) → HasRow image 0x29 row → HasRow image 0x02 (nested_class image row)
  nested_there row there =
      subst (λ column. IsIndex image column (cell (tables_of image) 0x29 row 0)) nested_column (indexes 0x29 row there 0 (let l = nesting_columns in omega arith))

  pub encloser_there : (row : ℕ) → HasRow image 0x29 row → HasRow image 0x02 (enclosing_class image row)
  encloser_there row there =
      subst (λ column. IsIndex image column (cell (tables_of image) 0x29 row 1)) enclosing_column (indexes 0x29 row there 1 (let l = nesting_columns in omega arith))

  pub outer_there : (row : ℕ) → HasRow image 0x02 row → 0 < enclosing image row → HasRow image 0x02 (enclosing image row)
  outer_there row there some = elim (enclosed image row) [
    | inl top ↦ let z = top.0 in absurd (omega arith)
    | inr under ↦ subst (HasRow image 0x02) (sym under.4) (encloser_there under.0 under.1)
  ]
