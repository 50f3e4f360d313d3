-- Whether a name is among others.
use Rattle.std.proofs.Common.{◌≡◌, ◌∙◌, ap, refl, sym, ℕ, zero, suc, true, false, ◌||◌, List, [], ◌∷◌, Option, None, Some, is_some, inl, inr}
use Rattle.std.specs.Prelude.{slice_get, IfSome, IfNone}
use Rattle.std.proofs.lemmas.Bool.{cases_Bool}
use Rattle.std.proofs.lemmas.Option.{same_Some}
use Rattle.type_terms.specs.declared.name.TypeName.{TypeName}
use Rattle.type_hierarchy.specs.Names.{is_among, same_name}
use Rattle.type_hierarchy.proofs.TableLemmas.{name_decides, test_false}

pub among_at : (names : List TypeName) (k : ℕ) (name : TypeName) → slice_get names k ≡ Some name → is_among names name ≡ true
among_at [] k name at = absurd (let f : ⊥ = cc in f)
among_at (n ∷ names) zero name at = ap (λ b. b || is_among names name) ((name_decides name n).1 (sym (same_Some n name at)))
among_at (n ∷ names) (suc k) name at = elim (cases_Bool (same_name name n)) [
  | inl e ↦ ap (λ b. b || is_among names name) e
  | inr e ↦ ap (λ b. b || is_among names name) e ∙ among_at names k name at
]

pub among_none : (names : List TypeName) (name : TypeName) → ((k : ℕ) → slice_get names k ≡ Some name → ⊥) → is_among names name ≡ false
among_none [] name lacks = refl
among_none (n ∷ names) name lacks =
    ap (λ b. b || is_among names name) (test_false name n (λ h. lacks 0 (ap Some (sym h))))
    ∙ among_none names name (λ k h. lacks (suc k) h)

pub found_among : (names : List TypeName) (name : TypeName) (r : Option ℕ) → IfSome r (λ k. slice_get names k ≡ Some name)
    → IfNone r ((k : ℕ) → slice_get names k ≡ Some name → ⊥) → is_some r ≡ is_among names name
found_among names name None f n = sym (among_none names name n)
found_among names name (Some k) f n = sym (among_at names k name f)

pub not_among : (names : List TypeName) (name : TypeName) → is_among names name ≡ false → (k : ℕ) → slice_get names k ≡ Some name → ⊥
not_among names name out k at = let yes : is_among names name ≡ true = among_at names k name at in let f : ⊥ = cc in f
