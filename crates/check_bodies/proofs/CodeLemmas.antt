-- What a rule finds at the instructions of a method, one by one.
use Rattle.std.proofs.Common.{◌≡◌, ℕ, zero, suc, ◌+◌, ◌≤◌, List, [], ◌∷◌, ◌++◌, length, take, drop, cond, ap, sym, ◌∙◌, refl, arith, slice_get}
use Rattle.std.specs.Prelude.{Bool, true, false, ◌==◌, Option, Some, if◌then◌else◌, filter}
use Rattle.std.specs.List.{enumerate_from, flat_map}
use Rattle.std.proofs.lemmas.List.{drop_all, take_all}
use Rattle.std.proofs.lemmas.List.FromFn.{length-enumerate_from}
use Rattle.source_model.specs.Forest.{Part}
use Rattle.source_nodes.specs.Least.{least, sooner}
use Rattle.source_syntax.proofs.LeastLemmas.{least_append, sooner_assoc}
use Rattle.source_syntax.proofs.MethodLemmas.{drop_at, nothing_more}

module _ {X : Type 0} (broken : ℕ × X → List ℕ) where
  pub one_further : (xs : List X) (i : ℕ) (x : X) (found here : Option ℕ) → slice_get xs i ≡ Some x → here ≡ least (broken (i, x))
      → sooner (sooner found here) (least (flat_map broken (enumerate_from (i + 1) (drop (i + 1) xs)))) ≡ sooner found (least (flat_map broken (enumerate_from i (drop i xs))))
  one_further xs i x found here at is =
      let rest = flat_map broken (enumerate_from (i + 1) (drop (i + 1) xs)) in
      sooner_assoc found here (least rest) ∙ ap (λ o. sooner found (sooner o (least rest))) is
      ∙ ap (sooner found) (sym (least_append (broken (i, x)) rest))
      ∙ ap (λ ys. sooner found (least (flat_map broken (enumerate_from i ys)))) (sym (drop_at xs i x at))

  pub none_left : (xs : List X) (i : ℕ) (found : Option ℕ) → length xs ≤ i → found ≡ sooner found (least (flat_map broken (enumerate_from i (drop i xs))))
  none_left xs i found over =
      nothing_more found ∙ ap (λ ys. sooner found (least (flat_map broken (enumerate_from i ys)))) (sym (drop_all i xs over))

-- where the number of a thing says nothing
pub without_numbers : {X : Type 0} (g : X → List ℕ) (i : ℕ) (xs : List X) → flat_map (λ (k : ℕ × X). g k.1) (enumerate_from i xs) ≡ flat_map g xs
without_numbers g i [] = refl
without_numbers g i (x ∷ xs) = ap (λ ys. g x ++ ys) (without_numbers g (i + 1) xs)

-- each thing of a list with its number
numbered_at : {X : Type 0} (at : ℕ) (xs : List X) (i : ℕ) (x : X) → slice_get xs i ≡ Some x → slice_get (enumerate_from at xs) i ≡ Some (at + i, x)
numbered_at at [] i x e = absurd cc
numbered_at at (y ∷ ys) zero x e =
    let same : y ≡ x = cc in
    let here : at ≡ at + 0 = omega arith in
    ap (λ z. Some (at, z)) same ∙ ap (λ n. Some (n, x)) here
numbered_at at (y ∷ ys) (suc i) x e =
    let next : at + 1 + i ≡ at + suc i = omega arith in
    numbered_at (at + 1) ys i x e ∙ ap (λ n. Some (n, x)) next

pub with_number : {X : Type 0} (xs : List X) (i : ℕ) (x : X) → slice_get xs i ≡ Some x → slice_get (enumerate_from 0 xs) i ≡ Some (i, x)
with_number xs i x e = let same : 0 + i ≡ i = omega arith in numbered_at 0 xs i x e ∙ ap (λ n. Some (n, x)) same

pub all_numbered : {X : Type 0} (xs : List X) (i : ℕ) → length xs ≤ i → take i (enumerate_from 0 xs) ≡ enumerate_from 0 xs
all_numbered xs i over = take_all i (enumerate_from 0 xs) (omega (arith, length-enumerate_from 0 xs))

-- what is asked of the instructions of one form alone
pub of_one_form : (g : Part → List ℕ) (form : ℕ) (ps : List Part)
    → flat_map (λ p. if p.production == form then g p else []) ps ≡ flat_map g (filter (λ p. p.production == form) ps)
of_one_form g form [] = refl
of_one_form g form (p ∷ ps) = go (p.production == form) (of_one_form g form ps)
  where
    go : (c : Bool) → flat_map (λ q. if q.production == form then g q else []) ps ≡ flat_map g (filter (λ q. q.production == form) ps)
        → (if c then g p else []) ++ flat_map (λ q. if q.production == form then g q else []) ps
        ≡ flat_map g (cond c (p ∷ filter (λ q. q.production == form) ps) (filter (λ q. q.production == form) ps))
    go true rest = ap (λ ks. g p ++ ks) rest
    go false rest = rest
