-- What several rules find, one after another.
use Rattle.std.proofs.Common.{◌≡◌, ℕ, List, ◌++◌, ap, sym, ◌∙◌, refl}
use Rattle.std.specs.Prelude.{Option, None, Some}
use Rattle.std.specs.List.{flat_map}
use Rattle.source_nodes.specs.Least.{least, sooner}
use Rattle.source_syntax.proofs.LeastLemmas.{least_append, least_of_both}

-- of two rules at one thing
pub then_rule : (r a b : Option ℕ) (xs ys : List ℕ) → r ≡ sooner a b → a ≡ least xs → b ≡ least ys → r ≡ least (xs ++ ys)
then_rule r a b xs ys is first second =
    is ∙ ap (λ o. sooner o b) first ∙ ap (sooner (least xs)) second ∙ sym (least_append xs ys)

-- of one more rule at many things
pub and_rule : {X : Type 0} (f g : X → List ℕ) (all more : List ℕ) (xs : List X) → least (flat_map f xs) ≡ least all
    → least (flat_map g xs) ≡ least more → least (flat_map (λ x. f x ++ g x) xs) ≡ least (all ++ more)
and_rule f g all more xs first second =
    least_of_both f g xs ∙ ap (λ o. sooner o (least (flat_map g xs))) first ∙ ap (sooner (least all)) second ∙ sym (least_append all more)

-- where nothing is found, no rule finds anything
neither : (a b : Option ℕ) → sooner a b ≡ None → (a ≡ None) × (b ≡ None)
neither None None e = (refl, refl)
neither None (Some y) e = absurd cc
neither (Some x) None e = absurd cc
neither (Some x) (Some y) e = absurd cc

pub neither_rule : (xs ys : List ℕ) → None ≡ least (xs ++ ys) → (None ≡ least xs) × (None ≡ least ys)
neither_rule xs ys e =
    let both = neither (least xs) (least ys) (sym (e ∙ least_append xs ys)) in
    (sym both.0, sym both.1)
