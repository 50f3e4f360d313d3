-- What is drawn of the dimensions of an array.
use Rattle.std.proofs.Common.{◌≡◌, ℕ, zero, suc, ◌+◌, ◌-◌, ◌<◌, ℤ, Bool, true, false, cond, nat_eq, List, [], ◌∷◌, length, drop, fold, map, Option, None, Some, refl, ap, sym, ◌∙◌, arith}
use borrow.Author.Tests.{ne_eqb}
use Rattle.il_lexer.specs.declared.word.TheConstants as word
use Rattle.ilasm_grammar.specs.declared.productions.TheConstants as p
use Rattle.listing_model.specs.Shown.{Item, none, w}
use Rattle.listing_model.specs.Types.{first, bound, bound_opt, comma_bound, dimensions, shape, brackets}
use Rattle.print_leaves.specs.Page.{Page, drawn}
use Rattle.print_terms.specs.Rows.{under}
use Rattle.print_terms.specs.Shapes.{lone_drawn, others_drawn, dimensions_drawn}
use Rattle.print_terms.proofs.Rows.{star_map}

not_one : (n : ℕ) → nat_eq (suc (suc n)) 1 ≡ false
not_one n = ne_eqb (suc (suc n)) 1 (λ e. omega arith)

pub shape_drawn : (q : Page) (ds : List (Option Item)) → under q (shape ds) ≡ drawn (dimensions_drawn q ds) (w word.CLOSE_BRACKET none)
shape_drawn q [] = refl
shape_drawn q (None ∷ []) = refl
shape_drawn q (None ∷ d ∷ ds) =
    ap (λ r. drawn r (w word.CLOSE_BRACKET none))
    (star_map p.COMMA_BOUND_STAR_MORE p.COMMA_BOUND_STAR_END comma_bound (under q (comma_bound d)) ds
    ∙ ap (λ t. others_drawn (cond t (drawn q (w word.ELLIPSIS none)) q) (d ∷ ds)) (sym (not_one (length ds))))
shape_drawn q (Some b ∷ ds) =
    ap (λ r. drawn r (w word.CLOSE_BRACKET none)) (star_map p.COMMA_BOUND_STAR_MORE p.COMMA_BOUND_STAR_END comma_bound (under q b) ds)

dimensions_count : (n : ℕ) (sizes : List ℕ) (lower : List ℤ) → length (dimensions n sizes lower) ≡ n
dimensions_count zero sizes lower = refl
dimensions_count (suc n) sizes lower = ap suc (dimensions_count n (drop 1 sizes) (drop 1 lower))

-- the first dimension, and the others
pub first_and_others : (q p new : Page) (rank : ℕ) (sizes : List ℕ) (lower : List ℤ) → (rank ≡ 0 → ⊥) → p ≡ lone_drawn q rank (bound (first sizes) (first lower)) →
    new ≡ others_drawn p (dimensions (rank - 1) (drop 1 sizes) (drop 1 lower)) → new ≡ dimensions_drawn q (dimensions rank sizes lower)
first_and_others q p new zero sizes lower h e f = absurd (h refl)
first_and_others q p new (suc n) sizes lower h e f =
    let b = bound (first sizes) (first lower) in
    f ∙ (ap (λ k. others_drawn p (dimensions k (drop 1 sizes) (drop 1 lower))) {x = suc n - 1} {y = n} (omega arith)
    ∙ (ap (λ r. others_drawn r (dimensions n (drop 1 sizes) (drop 1 lower))) e
    ∙ ap (λ k. others_drawn (lone_drawn q (suc k) b) (dimensions n (drop 1 sizes) (drop 1 lower))) (sym (dimensions_count n (drop 1 sizes) (drop 1 lower)))))

-- a dimension more
pub one_more : (q : Page) (count k : ℕ) (sizes : List ℕ) (lower : List ℤ) → k < count →
    others_drawn q (dimensions (count - k) sizes lower)
    ≡ others_drawn (under q (comma_bound (bound (first sizes) (first lower)))) (dimensions (count - (k + 1)) (drop 1 sizes) (drop 1 lower))
one_more q count k sizes lower h =
    ap (λ n. others_drawn q (dimensions n sizes lower)) {x = count - k} {y = suc (count - (k + 1))} (omega arith)

pub others_step : (q a new : Page) (count k : ℕ) (sizes sizes' : List ℕ) (lower lower' : List ℤ) (s : Option ℕ) (l : Option ℤ) → k < count →
    sizes' ≡ drop 1 sizes → lower' ≡ drop 1 lower → s ≡ first sizes → l ≡ first lower → a ≡ drawn q (w word.COMMA none) →
    new ≡ drawn a (bound_opt (bound s l) none) → others_drawn new (dimensions (count - (k + 1)) sizes' lower') ≡ others_drawn q (dimensions (count - k) sizes lower)
others_step q a new count k sizes sizes' lower lower' s l h es el fs fl ha hn =
    let page : new ≡ under q (comma_bound (bound (first sizes) (first lower))) =
    hn
    ∙ (ap (λ r. drawn r (bound_opt (bound s l) none)) ha
    ∙ (ap (λ x. drawn (drawn q (w word.COMMA none)) (bound_opt (bound x l) none)) fs
    ∙ ap (λ x. drawn (drawn q (w word.COMMA none)) (bound_opt (bound (first sizes) x) none)) fl)) in
    ap (λ r. others_drawn r (dimensions (count - (k + 1)) sizes' lower')) page
    ∙ (ap (λ x. others_drawn (under q (comma_bound (bound (first sizes) (first lower)))) (dimensions (count - (k + 1)) x lower')) es
    ∙ (ap (λ x. others_drawn (under q (comma_bound (bound (first sizes) (first lower)))) (dimensions (count - (k + 1)) (drop 1 sizes) x)) el
    ∙ sym (one_more q count k sizes lower h)))
