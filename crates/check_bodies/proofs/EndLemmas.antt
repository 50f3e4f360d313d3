-- Branches to the end of a method's code, where no label stands there.
use Rattle.std.proofs.Common.{◌≡◌, ℕ, List, [], ◌∷◌, map, cond, ap, sym, ◌∙◌, refl}
use Rattle.std.specs.Prelude.{Bool, true, false, ◌==◌, ◌||◌, Some, option_map, filter, find}
use Rattle.std.specs.List.{list_any}
use Rattle.source_model.specs.Forest.{Forest}
use Rattle.source_model.specs.Instructions.{labels, number_at}
use Rattle.source_model.specs.Source.{Source}
use Rattle.source_syntax.specs.Labels.{AreLabels, ends_at, number_declared}
use Rattle.source_syntax.specs.declared.label_numbers.Labels.{Labels}

neither : (a b : Bool) → (a || b) ≡ false → (a ≡ false) × (b ≡ false)
neither false b e = (refl, e)
neither true b e = absurd cc

no_such : {X : Type 0} (g : X → ℕ) (p : X → Bool) (count : ℕ) (xs : List X) → list_any (λ n. n == count) (map g xs) ≡ false
    → ends_at count (option_map g (find p xs)) ≡ false
no_such g p count [] e = refl
no_such g p count (x ∷ xs) e =
    let both = neither (g x == count) (list_any (λ n. n == count) (map g xs)) e in
    go (p x) both.0 (no_such g p count xs both.1)
  where
    go : (c : Bool) → (g x == count) ≡ false → ends_at count (option_map g (find p xs)) ≡ false
        → ends_at count (option_map g (cond c (Some x) (find p xs))) ≡ false
    go true here rest = here
    go false here rest = rest

nothing_passes : (p : ℕ → Bool) (ks : List ℕ) → ((k : ℕ) → p k ≡ false) → filter p ks ≡ []
nothing_passes p [] none = refl
nothing_passes p (k ∷ ks) none = ap (λ c. cond c (k ∷ filter p ks) (filter p ks)) (none k) ∙ nothing_passes p ks none

pub none_at_end : (s : Source) (f : Forest) (x : Labels) (count : ℕ) (ks : List ℕ) → AreLabels x s f → list_any (λ n. n == count) x.numbers ≡ false
    → filter (λ t. ends_at count (number_declared s f t)) ks ≡ []
none_at_end s f x count ks are none =
    let quiet : list_any (λ n. n == count) (map (number_at f) (labels f)) ≡ false = ap (list_any (λ n. n == count)) (sym are.numbers-are) ∙ none in
    nothing_passes (λ t. ends_at count (number_declared s f t)) ks (λ t. no_such (number_at f) _ count (labels f) quiet)
