-- One mark that is set, or isn't.
use Rattle.std.proofs.Common.{◌≡◌, ◌∙◌, sym, ap, subst, refl, ℕ, ◌+◌, ◌<◌, ◌≤◌, ◌⊎◌, inl, inr, Bool, true, false, cond, List, length, get_or, set, arith}
use Rattle.std.specs.Prelude.{◌↔◌, IsTrue, slice_index_or, if◌then◌else◌, sum_by}
use Rattle.std.proofs.lemmas.Bool.{cases_eq, false≢true}
use Rattle.std.proofs.lemmas.List.{length-set, get_or-set_same, get_or-set_other}
use Rattle.std.proofs.lemmas.List.Sums.{sum_by-set}
use Rattle.method_states.specs.Marks.{IsSet, weight, unset}

-- nothing is set
same : (m : List Bool) (row : ℕ) → (0 < row → row < length m → get_or m row false ≡ true) → IsSet m row m
same m row h = record {
  long = refl;
  each = λ r. (λ t. inl t, λ t. elim t [ inl old ↦ old | inr p ↦ subst (λ (k : ℕ). get_or m k false ≡ true) (sym p.0) (h p.1 p.2) ]);
}

pub set_zero : (m : List Bool) (row : ℕ) → row ≡ 0 → IsSet m row m
set_zero m row e = same m row (λ some within. absurd (omega arith))

pub set_past : (m : List Bool) (row : ℕ) → length m ≤ row → IsSet m row m
set_past m row l = same m row (λ some within. absurd (omega arith))

pub set_again : (m : List Bool) (row : ℕ) → get_or m row false ≡ true → IsSet m row m
set_again m row e = same m row (λ some within. e)

-- the mark is set
pub set_now : (m : List Bool) (row : ℕ) → 0 < row → row < length m → IsSet m row (set m row true)
set_now m row some within = record {
  long = length-set m row true;
  each = λ r. elim (cases_eq r row) [
    | inl e ↦ (
      λ t. inr (e, some, within),
      λ t. subst (λ (k : ℕ). get_or (set m row true) k false ≡ true) (sym e) (get_or-set_same m row true false within),
    )
    | inr ne ↦ (
      λ t. inl (sym (get_or-set_other m row r true false ne) ∙ t),
      λ t. elim t [ inl old ↦ get_or-set_other m row r true false ne ∙ old | inr p ↦ absurd (ne p.0) ],
    )
  ];
}

pub unset_now : (m : List Bool) (row : ℕ) → row < length m → get_or m row false ≡ false → unset (set m row true) + 1 ≡ unset m
unset_now m row within e =
    let s = sum_by-set weight m row true false within in
    let one : weight (get_or m row false) ≡ 1 = ap weight e in
    omega arith

pub ruleset set_steps = (set_zero, set_past, set_again, set_now, unset_now)
