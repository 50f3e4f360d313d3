-- The weights of a table's rows while they are found, one after the other.
use Rattle.std.proofs.Common.{◌≡◌, ℕ, ◌+◌, ◌^◌, ◌≤◌, inl, inr, min, List, length, get_or, set, sym, ap, subst, ◌∙◌, arith}
use Rattle.std.proofs.lemmas.Bool.{cases_eq}
use Rattle.std.proofs.lemmas.List.{length-set, get_or-set_same, get_or-set_other}
use Rattle.assembly_tree.specs.Weight.{method_ref_weight, field_ref_weight}
use Rattle.image_model.specs.Rows.{count_of, HasRow}
use Rattle.told_weights.specs.Told.{Tells}
use Rattle.row_weights.specs.Rows.{MethodTold, FieldTold, TellRows}

-- the first so many rows
pub record AreTold (image : List ℕ) (table : ℕ) (Is : ℕ → ℕ → Type 0) (upto : ℕ) (weights : List ℕ) : Type 0 where
  pub long : length weights ≡ count_of image table + 1
  pub each : (row : ℕ) → HasRow image table row → row ≤ upto → Is row (get_or weights row 0)

pub told_none : (image : List ℕ) (table : ℕ) (Is : ℕ → ℕ → Type 0) (weights : List ℕ) → length weights ≡ count_of image table + 1 → AreTold image table Is 0 weights
told_none image table Is weights l = record { long = l; each = λ row there less. absurd (let s = there.0 in omega (arith, s, less)) }

pub told_more : (image : List ℕ) (table : ℕ) (Is : ℕ → ℕ → Type 0) (upto row weight : ℕ) (weights : List ℕ) → upto + 1 ≡ row → row ≤ count_of image table → AreTold image table Is upto weights → Is row weight
    → AreTold image table Is row (set weights row weight)
told_more image table Is upto row weight weights next within told is = record {
  long = length-set weights row weight ∙ told.long;
  each = λ r there less. elim (cases_eq r row) [
    | inl same ↦
        let l = told.long in
        subst (Is r) (sym (ap (λ (z : ℕ). get_or (set weights row weight) z 0) same ∙ get_or-set_same weights row weight 0 (omega (arith, l, within)))) (subst (λ (z : ℕ). Is z weight) (sym same) is)
    | inr other ↦ subst (Is r) (sym (get_or-set_other weights row r weight 0 other)) (told.each r there (omega (arith, next, less, other)))
  ];
}

pub told_all : (image : List ℕ) (table : ℕ) (Is : ℕ → ℕ → Type 0) (upto : ℕ) (weights : List ℕ) → count_of image table ≤ upto → AreTold image table Is upto weights → TellRows image table Is weights
told_all image table Is upto weights end told row there = told.each row there (let s = there.1 in omega (arith, s, end))

-- what is told of a weight, up to 2^27
least : (told weight now : ℕ) → Tells told weight → now ≡ min told (2 ^ 27) → Tells now weight
least told weight now h e = omega (arith, h, e)

pub least_method : (image : List ℕ) (table row told now : ℕ) → MethodTold image table row told → now ≡ min told (2 ^ 27) → MethodTold image table row now
least_method image table row told now h e names token m are is n = least told (method_ref_weight m) now (h names token m are is n) e

pub least_field : (image : List ℕ) (table row told now : ℕ) → FieldTold image table row told → now ≡ min told (2 ^ 27) → FieldTold image table row now
least_field image table row told now h e names token f are is n = least told (field_ref_weight f) now (h names token f are is n) e
