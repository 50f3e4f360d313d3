-- The types that enclose types, by the rows of NestedClass so far.
use Rattle.std.proofs.Common.{◌≡◌, ℕ, ◌+◌, ◌<◌, ◌≤◌, ◌⊎◌, inl, inr, List, length, get_or, set, refl, sym, ◌∙◌, ap, subst, arith}
use Rattle.std.proofs.lemmas.Bool.{cases_eq, cases_order}
use Rattle.std.proofs.lemmas.List.{get_or-set_same, get_or-set_other, length-set}
use Rattle.image_model.specs.Columns.{nested_class, enclosing_class}
use Rattle.image_model.specs.Rows.{count_of, HasRow, enclosing}
use Rattle.row_groups.specs.Enclosed.{AreOuters}
use Rattle.row_groups.proofs.Enclosing.{enclosed, IsTop, IsUnder}

-- no row so far has a type, or the first that has it says what encloses it
abbrev pub IsFree : List ℕ → (type upto : ℕ) → Type 0
IsFree image type upto = (row : ℕ) → 0 < row → row ≤ upto → nested_class image row ≡ type → ⊥

abbrev pub IsTaken : List ℕ → (type upto outer : ℕ) → Type 0
IsTaken image type upto outer =
    (row : ℕ) × (0 < row) × (row ≤ upto) × (nested_class image row ≡ type) × ((q : ℕ) → 0 < q → q < row → nested_class image q ≡ type → ⊥)
    × (outer ≡ enclosing_class image row)

pub record AreSoFar (image : List ℕ) (upto : ℕ) (outers : List ℕ) : Type 0 where
  pub long : length outers ≡ count_of image 0x02 + 1
  pub each : (type : ℕ) → type ≤ count_of image 0x02
      → ((get_or outers type 0 ≡ 0) × IsFree image type upto) ⊎ IsTaken image type upto (get_or outers type 0)

pub none_yet : (image outers : List ℕ) → length outers ≡ count_of image 0x02 + 1 → ((type : ℕ) → type < length outers → get_or outers type 0 ≡ 0) → AreSoFar image 0 outers
none_yet image outers long zeros = record {
  long = long;
  each = λ type few. inl (zeros type (omega arith), λ row some upto e. absurd (omega arith));
}

module _ (image : List ℕ) (upto row : ℕ) (next : upto + 1 ≡ row) (outers : List ℕ) (so : AreSoFar image upto outers)
    (type_there : nested_class image row ≤ count_of image 0x02) (within : row ≤ count_of image 0x29)
    (all : (r : ℕ) → HasRow image 0x29 r → 0 < enclosing_class image r) where
  abbrev nested : ℕ
  nested = nested_class image row

  -- a type with another row than this
  kept : (type : ℕ) (value : ℕ) → value ≡ get_or outers type 0 → type ≤ count_of image 0x02 → (nested ≡ type → ⊥)
      → ((value ≡ 0) × IsFree image type row) ⊎ IsTaken image type row value
  kept type value same few other = elim (so.each type few) [
    | inl free ↦ inl (
      same ∙ free.0,
      λ r from to e. elim (cases_eq r row) [
        | inl is ↦ other (ap (nested_class image) (sym is) ∙ e)
        | inr n ↦ free.1 r from (omega arith) e
      ],
    )
    | inr taken ↦ inr (taken.0, taken.1, let u = taken.2 in omega arith, taken.3, taken.4, same ∙ taken.5)
  ]

  -- a type that an earlier row has
  pub taken_more : (get_or outers nested 0 ≡ 0 → ⊥) → AreSoFar image row outers
  taken_more full = record {
    long = so.long;
    each = λ type few. elim (cases_eq nested type) [
      | inl is ↦ elim (so.each type few) [
        | inl free ↦ absurd (full (ap (λ t. get_or outers t 0) is ∙ free.0))
        | inr taken ↦ inr (taken.0, taken.1, let u = taken.2 in omega arith, taken.3, taken.4, taken.5)
      ]
      | inr other ↦ kept type (get_or outers type 0) refl few other
    ];
  }

  -- a type that this row is the first to have
  abbrev then : List ℕ
  then = set outers nested (enclosing_class image row)

  first_here : get_or outers nested 0 ≡ 0 → IsTaken image nested row (get_or then nested 0)
  first_here empty = elim (so.each nested type_there) [
    | inl free ↦ (
      row,
      omega arith,
      omega arith,
      refl,
      λ q from less e. free.1 q from (omega arith) e,
      get_or-set_same outers nested (enclosing_class image row) 0 (let l = so.long in omega arith),
    )
    | inr taken ↦ absurd (taken_zero taken)
  ] where
    taken_zero : IsTaken image nested upto (get_or outers nested 0) → ⊥
    taken_zero taken = let u = taken.2 in let a = all taken.0 (taken.1, omega arith) in let e = taken.5 in absurd (omega arith)

  pub free_more : get_or outers nested 0 ≡ 0 → AreSoFar image row then
  free_more empty = record {
    long = length-set outers nested (enclosing_class image row) ∙ so.long;
    each = λ type few. elim (cases_eq nested type) [
      | inl is ↦ inr (subst (λ t. IsTaken image t row (get_or then t 0)) is (first_here empty))
      | inr other ↦ kept type (get_or then type 0) (get_or-set_other outers nested type (enclosing_class image row) 0 (λ e. other (sym e))) few other
    ];
  }

-- after all rows
all_value : (image : List ℕ) (type value : ℕ) → ((value ≡ 0) × IsFree image type (count_of image 0x29)) ⊎ IsTaken image type (count_of image 0x29) value
    → IsTop image type ⊎ IsUnder image type → value ≡ enclosing image type
all_value image type value (inl free) (inl top) = free.0 ∙ sym top.0
all_value image type value (inl free) (inr under) = absurd (free.1 under.0 under.1.0 under.1.1 under.2)
all_value image type value (inr taken) (inl top) = absurd (top.1 taken.0 (taken.1, taken.2) taken.3)
all_value image type value (inr taken) (inr under) = elim (cases_order taken.0 under.0) [
  | inl same ↦ taken.5 ∙ ap (enclosing_class image) same ∙ sym under.4
  | inr apart ↦ elim apart [
    | inl less ↦ absurd (under.3 taken.0 taken.1 less taken.3)
    | inr more ↦ absurd (taken.4 under.0 under.1.0 more under.2)
  ]
]

pub all_outers : (image outers : List ℕ) → AreSoFar image (count_of image 0x29) outers → AreOuters image outers
all_outers image outers so = record {
  long = so.long;
  each = λ type few. all_value image type (get_or outers type 0) (so.each type few) (enclosed image type);
}
