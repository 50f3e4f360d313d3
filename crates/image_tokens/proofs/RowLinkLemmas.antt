-- The links of rows while a row is added, and while one more is linked.
use Rattle.std.proofs.Common.{◌≡◌, ap, refl, sym, ◌∙◌, subst, ℕ, suc, ◌<◌, ◌≤◌, cond, List, [], ◌∷◌, ◌++◌, take, length, get_or, Option, Some, None, nat_eq, arith}
use Rattle.std.proofs.Math.Seq.{take-length, take-suc}
use Rattle.std.proofs.lemmas.Bool.{eq-eqb}
use Rattle.std.proofs.lemmas.List.{length-append, length-take, length-take-le, take-append-le, take_at}
use Rattle.image_tokens.specs.Chains.{IsLinked}
use Rattle.image_tokens.specs.Rows.{cells_hash}
use Rattle.image_tokens.specs.declared.row_set.Cells.{Cells}
use Rattle.image_tokens.proofs.ChainLemmas.{IsLinked-none, IsLinked-push}
use Rattle.image_tokens.proofs.FoundLemmas.{cond_other}

pub none_linked : (newest : ℕ → Option ℕ) (rows : List Cells) (nexts : List (Option ℕ)) → ((h : ℕ) → newest h ≡ None) → nexts ≡ []
    → IsLinked cells_hash newest (take (length nexts) rows) nexts
none_linked newest rows nexts none is = rw is (IsLinked-none cells_hash newest none)

pub all_linked : (newest : ℕ → Option ℕ) (rows : List Cells) (nexts : List (Option ℕ))
    → IsLinked cells_hash newest (take (length nexts) rows) nexts → length nexts ≡ length rows → IsLinked cells_hash newest rows nexts
all_linked newest rows nexts ok all =
    let whole : take (length nexts) rows ≡ rows = ap (λ n. take n rows) all ∙ take-length rows in
    subst (λ (items : List Cells). IsLinked cells_hash newest items nexts) whole ok

-- links stay those of the first rows where a row is added at the end
pub still_linked : (newest : ℕ → Option ℕ) (rows more : List Cells) (nexts : List (Option ℕ))
    → IsLinked cells_hash newest (take (length nexts) rows) nexts → IsLinked cells_hash newest (take (length nexts) (rows ++ more)) nexts
still_linked newest rows more nexts ok =
    let within : length nexts ≤ length rows = omega (arith, ok.paired, length-take (length nexts) rows) in
    rw (take-append-le (length nexts) rows more within) ok

pub more_linked : (newest later : ℕ → Option ℕ) (rows : List Cells) (nexts all : List (Option ℕ)) (c d : Cells)
    → IsLinked cells_hash newest (take (length nexts) rows) nexts → length nexts < length rows → get_or rows (length nexts) d ≡ c
    → all ≡ nexts ++ newest (cells_hash c) ∷ []
    → ((q : ℕ) → later q ≡ cond (nat_eq (cells_hash c) q) (Some (length nexts)) (newest q))
    → IsLinked cells_hash later (take (length all) rows) all
more_linked newest later rows nexts all c d ok less at is more =
    let place : ℕ = length nexts in
    let h : ℕ = cells_hash c in
    let long : length (nexts ++ newest h ∷ []) ≡ suc place = omega (arith, length-append nexts (newest h ∷ [])) in
    let front : take (suc place) rows ≡ take place rows ++ c ∷ [] = take-suc rows place d less ∙ ap (λ x. take place rows ++ x ∷ []) at in
    let linked : length (take place rows) ≡ place = length-take-le place rows (omega (arith, less)) in
    rw (is, long, front) (IsLinked-push cells_hash newest later (take place rows) nexts c ok
    (more h ∙ ap (λ b. cond b (Some place) (newest h)) (eq-eqb h h refl) ∙ ap Some (sym linked)) (λ q n. more q ∙ cond_other h q _ _ n))

-- links stay where none came
pub same_linked : (newest later : ℕ → Option ℕ) (rows : List Cells) (nexts all back : List (Option ℕ)) (next : Option ℕ) (place : ℕ)
    → IsLinked cells_hash newest (take (length nexts) rows) nexts → ((q : ℕ) → later q ≡ newest q) → place ≡ length nexts → all ≡ nexts ++ next ∷ [] → back ≡ take place all
    → IsLinked cells_hash later (take (length back) rows) back
same_linked newest later rows nexts all back next place ok kept at is taken =
    let keeps : later ≡ newest = λ i q. kept q i in
    let same : back ≡ nexts = taken ∙ ap (take place) is ∙ take_at nexts (next ∷ []) place (sym at) in
    rw (keeps, same) ok
