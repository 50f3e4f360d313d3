-- The least of what is out of its range in a body, from what its parts have.
use Rattle.std.proofs.Common.{◌≡◌, ℕ, zero, suc, List, [], ◌∷◌, ◌++◌, ap, sym, ◌∙◌, slice_get}
use Rattle.std.specs.Prelude.{Option, Some}
use Rattle.source_model.specs.Forest.{Part, below_each}
use Rattle.source_nodes.specs.Least.{least, sooner}
use Rattle.source_syntax.proofs.LeastLemmas.{least_append, sooner_assoc}

three_more : (x c d e : Option ℕ) → sooner (sooner (sooner x c) d) e ≡ sooner x (sooner c (sooner d e))
three_more x c d e = sooner_assoc (sooner x c) d e ∙ sooner_assoc x c (sooner d e)

least_of_four : (xs cs ds es : List ℕ) → least (xs ++ cs ++ ds ++ es) ≡ sooner (least xs) (sooner (least cs) (sooner (least ds) (least es)))
least_of_four xs cs ds es =
    least_append (xs ++ cs ++ ds) es
    ∙ ap (λ o. sooner o (least es)) (least_append (xs ++ cs) ds ∙ ap (λ o. sooner o (least ds)) (least_append xs cs))
    ∙ three_more (least xs) (least cs) (least ds) (least es)

-- the least of the stack's, the operands' and the counts'
least_of_body : (stack numbers reals variables locals many clauses : List ℕ)
    → least (stack ++ numbers ++ reals ++ variables ++ locals ++ many ++ clauses)
    ≡ sooner (least stack)
    (sooner (sooner (least numbers) (sooner (least reals) (least variables))) (sooner (least locals) (sooner (least many) (least clauses))))
least_of_body stack numbers reals variables locals many clauses =
    least_of_four (stack ++ numbers ++ reals ++ variables) locals many clauses
    ∙ ap (λ o. sooner o (sooner (least locals) (sooner (least many) (least clauses)))) (least_of_four stack numbers reals variables)
    ∙ sooner_assoc (least stack) (sooner (least numbers) (sooner (least reals) (least variables))) (sooner (least locals) (sooner (least many) (least clauses)))

pub body_least : (stack numbers reals variables locals many clauses : List ℕ) (a b c d e : Option ℕ) → a ≡ least stack
    → b ≡ sooner (least numbers) (sooner (least reals) (least variables)) → c ≡ least locals → d ≡ least many → e ≡ least clauses
    → sooner a (sooner b (sooner c (sooner d e))) ≡ least (stack ++ numbers ++ reals ++ variables ++ locals ++ many ++ clauses)
body_least stack numbers reals variables locals many clauses a b c d e is_a is_b is_c is_d is_e =
    ap (λ o. sooner o (sooner b (sooner c (sooner d e)))) is_a
    ∙ ap (λ o. sooner (least stack) (sooner o (sooner c (sooner d e)))) is_b
    ∙ ap (λ o. sooner (least stack) (sooner (sooner (least numbers) (sooner (least reals) (least variables))) (sooner o (sooner d e)))) is_c
    ∙ ap (λ o. sooner (least stack) (sooner (sooner (least numbers) (sooner (least reals) (least variables))) (sooner (least locals) (sooner o e)))) is_d
    ∙ ap (λ o. sooner (least stack) (sooner (sooner (least numbers) (sooner (least reals) (least variables))) (sooner (least locals) (sooner (least many) o)))) is_e
    ∙ sym (least_of_body stack numbers reals variables locals many clauses)

pub below_at : (ps : List Part) (i : ℕ) (p : Part) → slice_get ps i ≡ Some p → slice_get (below_each ps) i ≡ Some p.below
below_at [] i p e = absurd cc
below_at (q ∷ ps) zero p e = let same : q ≡ p = cc in ap (λ (x : Part). Some x.below) same
below_at (q ∷ ps) (suc i) p e = below_at ps i p e
