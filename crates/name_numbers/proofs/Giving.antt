-- Giving a name its number.
use Rattle.std.proofs.Common.{◌≡◌, ℕ, ◌⊎◌, inl, inr, List, [], ◌∷◌, ◌++◌, Some, length, refl, sym, ◌∙◌, ap, arith}
use Rattle.std.specs.Prelude.{slice_get}
use Rattle.std.specs.Option.{option_map}
use Rattle.std.proofs.lemmas.Option.{slice_get-map}
use Rattle.name_numbers.specs.Table.{Told, told, HasName, LacksName}
use Rattle.name_numbers.specs.Numbering.{GivesNumber}
use Rattle.name_numbers.specs.declared.table.Entry.{Entry}
use Rattle.name_numbers.proofs.Chaining.{snoc_cases, snoc_old, snoc_new}

lacking : (heap : List ℕ) (entries : List Entry) (t : Told) → LacksName entries heap t → (number : ℕ) → HasName entries heap t number → ⊥
lacking heap entries t lacks number h =
    lacks h.place (slice_get-map (λ (e : Entry). told heap e.key) entries h.place ∙ ap (option_map (λ (e : Entry). told heap e.key)) h.at ∙ ap Some h.told_is)

pub gives_old : (heap : List ℕ) (t : Told) (fresh number : ℕ) (entries : List Entry) → HasName entries heap t number → GivesNumber heap t fresh entries entries number
gives_old heap t fresh number entries h = record {
  keeps = λ u k has. has;
  only = λ u k has. inl has;
  here = h;
  old_or_new = inl h;
  below = λ bound less all. all;
}

module _ (heap : List ℕ) (t : Told) (fresh : ℕ) (old new : List Entry) (lacks : LacksName old heap t) (e : Entry)
    (adds : new ≡ old ++ e ∷ []) (told_is : told heap e.key ≡ t) (number_is : e.number ≡ fresh) where
  at_new : (k : ℕ) (x : Entry) → slice_get new k ≡ Some x → (slice_get old k ≡ Some x) ⊎ ((k ≡ length old) × (x ≡ e))
  at_new k x at = snoc_cases old e x k (ap (λ es. slice_get es k) (sym adds) ∙ at)

  keeps : (u : Told) (k : ℕ) → HasName old heap u k → HasName new heap u k
  keeps u k h = record { place = h.place; entry = h.entry; at = ap (λ es. slice_get es h.place) adds ∙ snoc_old old e h.entry h.place h.at; told_is = h.told_is; number_is = h.number_is }

  only : (u : Told) (k : ℕ) → HasName new heap u k → HasName old heap u k ⊎ ((u ≡ t) × (k ≡ fresh) × (fresh ≡ fresh))
  only u k h = elim (at_new h.place h.entry h.at) [
    | inl was ↦ inl (record { place = h.place; entry = h.entry; at = was; told_is = h.told_is; number_is = h.number_is })
    | inr is ↦ inr (sym h.told_is ∙ ap (λ (x : Entry). told heap x.key) is.1 ∙ told_is, sym h.number_is ∙ ap (λ (x : Entry). x.number) is.1 ∙ number_is, refl)
  ]

  pub gives_new : GivesNumber heap t fresh old new fresh
  gives_new = record {
    keeps = keeps;
    only = only;
    here = record { place = length old; entry = e; at = ap (λ es. slice_get es (length old)) adds ∙ snoc_new old e (length old) refl; told_is = told_is; number_is = number_is };
    old_or_new = inr (refl, λ k h. lacking heap old t lacks k h);
    below = λ bound less all x k at. elim (at_new k x at) [
      | inl was ↦ all x k was
      | inr is ↦ let n : x.number ≡ fresh = ap (λ (y : Entry). y.number) is.1 ∙ number_is in omega arith
    ];
  }
