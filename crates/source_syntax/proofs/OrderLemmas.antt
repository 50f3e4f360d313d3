-- How many parts begin before a token, where their first tokens rise.
use Rattle.std.proofs.Common.{◌≡◌, ℕ, zero, suc, ◌+◌, ◌<◌, ◌≤◌, List, [], ◌∷◌, ◌++◌, length, map, get_or, cond, ap, sym, subst, ◌∙◌, refl, arith}
use Rattle.std.specs.Prelude.{Bool, true, false, nat_lt, if◌then◌else◌, filter, slice_index_or}
use Rattle.std.specs.List.{AllByRecursion, AllWithin}
use Rattle.std.specs.List.Sorted.{IsNonDecreasing}
use Rattle.std.proofs.lemmas.List.{map-append}
use Rattle.source_model.specs.Forest as tree
use Rattle.source_model.specs.Forest.{Forest, Part, part, parts, is_among, first_token, tokens_of}
use Rattle.source_model.specs.Instructions.{instruction_forms, instructions_of, mnemonic_token, number_at}
use Rattle.source_model.specs.TokenOrder.{numbers_from}
use Rattle.source_syntax.specs.Labels.{count_below}

-- these rise, from one on and before another
abbrev pub Rises : ℕ → ℕ → List ℕ → Type 0
Rises low high [] = low ≤ high
Rises low high (x ∷ xs) = (low ≤ x) × (x < high) × Rises x high xs

rises_from : (low lower high : ℕ) (xs : List ℕ) → lower ≤ low → Rises low high xs → Rises lower high xs
rises_from low lower high [] less h = omega (arith, less, h)
rises_from low lower high (x ∷ xs) less h = (omega (arith, less, h.0), h.1, h.2)

rises_until : (low high higher : ℕ) (xs : List ℕ) → high ≤ higher → Rises low high xs → Rises low higher xs
rises_until low high higher [] less h = omega (arith, less, h)
rises_until low high higher (x ∷ xs) less h = (h.0, omega (arith, less, h.1), rises_until x high higher xs less h.2)

rises_on : (low mid high : ℕ) (xs ys : List ℕ) → mid ≤ high → Rises low mid xs → Rises mid high ys → Rises low high (xs ++ ys)
rises_on low mid high [] ys less h i = rises_from mid low high ys h i
rises_on low mid high (x ∷ xs) ys less h i = (h.0, omega (arith, less, h.1), rises_on x mid high xs ys less h.2 i)

-- ---- parts of a forest whose tokens follow one another

pub record Splits (a b : List ℕ) (at count : ℕ) : Type 0 where
  pub front : a ≡ numbers_from at (length a)
  pub back : b ≡ numbers_from (at + length a) (length b)
  pub counts : length a + length b ≡ count

how_many : (at count : ℕ) → length (numbers_from at count) ≡ count
how_many at zero = refl
how_many at (suc count) = ap suc (how_many (suc at) count)

pub splits : (a b : List ℕ) (at count : ℕ) → a ++ b ≡ numbers_from at count → Splits a b at count
splits [] b at count e =
    let many : length b ≡ count = ap length e ∙ how_many at count in
    let from : at ≡ at + 0 = omega arith in
    record {
      front = refl;
      back = e ∙ ap (numbers_from at) (sym many) ∙ ap (λ k. numbers_from k (length b)) from;
      counts = omega (arith, many);
    }
splits (x ∷ a) b at zero e = absurd cc
splits (x ∷ a) b at (suc count) e =
    let first : x ≡ at = cc in
    let rest : a ++ b ≡ numbers_from (suc at) count = cc in
    let s = splits a b (suc at) count rest in
    let from : suc at + length a ≡ at + suc (length a) = omega arith in
    record {
      front = ap (λ k. k ∷ a) first ∙ ap (λ xs. at ∷ xs) s.front;
      back = s.back ∙ ap (λ k. numbers_from k (length b)) from;
      counts = omega (arith, s.counts);
    }

abbrev pub HasTokens : Part → Type 0
HasTokens p = 0 < length (tokens_of p.below)

first_is : (xs : List ℕ) (at : ℕ) → xs ≡ numbers_from at (length xs) → 0 < length xs → slice_index_or xs 0 0 ≡ at
first_is [] at e some = absurd (omega (arith, some))
first_is (x ∷ xs) at e some = cc

alone : (low high x : ℕ) → x ≡ low → low < high → Rises low high (x ∷ [])
alone low high x e less = (omega (arith, e), omega (arith, e, less), omega (arith, e, less))

front_part : {X : Type 0} (P : X → Type 0) (xs ys : List X) → AllByRecursion P (xs ++ ys) → AllByRecursion P xs
front_part P [] ys h = tt
front_part P (x ∷ xs) ys h = (h.0, front_part P xs ys h.1)

back_part : {X : Type 0} (P : X → Type 0) (xs ys : List X) → AllByRecursion P (xs ++ ys) → AllByRecursion P ys
back_part P [] ys h = h
back_part P (x ∷ xs) ys h = back_part P xs ys h.1

pub parts_rise : (sought : List ℕ) (f : Forest) (at count : ℕ) → tokens_of f ≡ numbers_from at count → AllByRecursion HasTokens (parts sought f)
    → Rises at (at + count) (map mnemonic_token (parts sought f))
parts_rise sought tree.none at count e h = omega arith
parts_rise sought (tree.leaf k f) at zero e h = absurd cc
parts_rise sought (tree.leaf k f) at (suc count) e h =
    let rest : tokens_of f ≡ numbers_from (suc at) count = cc in
    let same : suc at + count ≡ at + suc count = omega arith in
    rises_from (suc at) at (at + suc count) (map mnemonic_token (parts sought f)) (omega arith)
    (subst (λ high. Rises (suc at) high (map mnemonic_token (parts sought f))) same (parts_rise sought f (suc at) count rest h))
parts_rise sought (tree.branch q b f) at count e h =
    let s = splits (tokens_of b) (tokens_of f) at count e in
    let here : Bool → List Part = λ c. if c then part q b ∷ [] else parts sought b in
    let own = here (is_among sought q) in
    let mid = at + length (tokens_of b) in
    let high : mid + length (tokens_of f) ≡ at + count = omega (arith, s.counts) in
    let after = subst (λ k. Rises mid k (map mnemonic_token (parts sought f))) high
    (parts_rise sought f mid (length (tokens_of f)) s.back (back_part HasTokens own (parts sought f) h)) in
    subst (Rises at (at + count)) (sym (map-append mnemonic_token own (parts sought f)))
    (rises_on at mid (at + count) (map mnemonic_token own) (map mnemonic_token (parts sought f)) (omega (arith, high))
    (go (is_among sought q) s.front (front_part HasTokens own (parts sought f) h) (parts_rise sought b at (length (tokens_of b)) s.front))
    after)
  where
    go : (c : Bool) → tokens_of b ≡ numbers_from at (length (tokens_of b)) → AllByRecursion HasTokens (if c then part q b ∷ [] else parts sought b)
        → (AllByRecursion HasTokens (parts sought b) → Rises at (at + length (tokens_of b)) (map mnemonic_token (parts sought b)))
        → Rises at (at + length (tokens_of b)) (map mnemonic_token (if c then part q b ∷ [] else parts sought b))
    go true front some inner = alone at (at + length (tokens_of b)) (first_token b) (first_is (tokens_of b) at front some.0) (omega (arith, some.0))
    go false front some inner = inner some

-- ---- those that are less than one

counted : (k : ℕ) (ps : List Part) → length (filter (λ p. nat_lt (mnemonic_token p) k) ps) ≡ count_below k (map mnemonic_token ps)
counted k [] = refl
counted k (p ∷ ps) = chosen (nat_lt (mnemonic_token p) k) (counted k ps)
  where
    chosen : (c : Bool) → length (filter (λ q. nat_lt (mnemonic_token q) k) ps) ≡ count_below k (map mnemonic_token ps)
        → length (cond c (p ∷ filter (λ q. nat_lt (mnemonic_token q) k) ps) (filter (λ q. nat_lt (mnemonic_token q) k) ps))
        ≡ length (cond c (mnemonic_token p ∷ filter (λ x. nat_lt x k) (map mnemonic_token ps)) (filter (λ x. nat_lt x k) (map mnemonic_token ps)))
    chosen true e = ap suc e
    chosen false e = e

pub number_is : (f : Forest) (k : ℕ) → number_at f k ≡ count_below k (map mnemonic_token (instructions_of f))
number_is f k = counted k (instructions_of f)

-- where the first `n` are less than `k`, and the others aren't
pub split_at : (k n : ℕ) (xs : List ℕ) (d : ℕ) → n ≤ length xs → ((i : ℕ) → i < n → nat_lt (get_or xs i d) k ≡ true)
    → ((i : ℕ) → n ≤ i → i < length xs → nat_lt (get_or xs i d) k ≡ false) → count_below k xs ≡ n
split_at k zero [] d less h i = refl
split_at k (suc n) [] d less h i = absurd (omega (arith, less))
split_at k zero (x ∷ xs) d less h i =
    ap (λ c. length (cond c (x ∷ filter (λ y. nat_lt y k) xs) (filter (λ y. nat_lt y k) xs))) (i 0 (omega arith) (omega arith))
    ∙ split_at k zero xs d (omega arith) (λ j l. absurd (omega (arith, l))) (λ j l m. i (suc j) (omega arith) (omega (arith, m)))
split_at k (suc n) (x ∷ xs) d less h i =
    ap (λ c. length (cond c (x ∷ filter (λ y. nat_lt y k) xs) (filter (λ y. nat_lt y k) xs))) (h 0 (omega arith))
    ∙ ap suc (split_at k n xs d (omega (arith, less)) (λ j l. h (suc j) (omega (arith, l))) (λ j l m. i (suc j) (omega (arith, l)) (omega (arith, m))))

-- numbers that rise never fall
pub rising_never_falls : (low high : ℕ) (xs : List ℕ) → Rises low high xs → IsNonDecreasing xs
rising_never_falls low high xs h i j d less within = go low xs h i j less within
  where
    at_least : (low : ℕ) (ys : List ℕ) → Rises low high ys → (j : ℕ) → j < length ys → low ≤ get_or ys j d
    at_least low [] r j l = absurd (omega (arith, l))
    at_least low (y ∷ ys) r zero l = r.0
    at_least low (y ∷ ys) r (suc j) l = let more = at_least y ys r.2 j (omega (arith, l)) in omega (arith, r.0, more)

    go : (low : ℕ) (ys : List ℕ) → Rises low high ys → (i j : ℕ) → i ≤ j → j < length ys → get_or ys i d ≤ get_or ys j d
    go low [] r i j l m = absurd (omega (arith, m))
    go low (y ∷ ys) r zero zero l m = omega arith
    go low (y ∷ ys) r zero (suc j) l m = at_least y ys r.2 j (omega (arith, m))
    go low (y ∷ ys) r (suc i) zero l m = absurd (omega (arith, l))
    go low (y ∷ ys) r (suc i) (suc j) l m = go y ys r.2 i j (omega (arith, l)) (omega (arith, m))

-- the numbers at which instructions begin never fall
pub starts_never_fall : (f : Forest) (at count : ℕ) → tokens_of f ≡ numbers_from at count → AllByRecursion HasTokens (instructions_of f)
    → IsNonDecreasing (map mnemonic_token (instructions_of f))
starts_never_fall f at count e h =
    rising_never_falls at (at + count) (map mnemonic_token (instructions_of f)) (parts_rise instruction_forms f at count e h)

pub numbers_are : (f : Forest) (starts tokens : List ℕ) → starts ≡ map mnemonic_token (instructions_of f)
    → map (λ k. count_below k starts) tokens ≡ map (number_at f) tokens
numbers_are f starts [] e = refl
numbers_are f starts (k ∷ ks) e =
    ap (λ n. n ∷ map (λ j. count_below j starts) ks) (ap (count_below k) e ∙ sym (number_is f k)) ∙ ap (λ ns. number_at f k ∷ ns) (numbers_are f starts ks e)

-- where a search by halves ends
pub split_point : (k n : ℕ) (xs : List ℕ) → n ≤ length xs → AllWithin (λ x. nat_lt x k ≡ true) xs 0 n → AllWithin (λ x. nat_lt x k ≡ false) xs n (length xs)
    → count_below k xs ≡ n
split_point k n xs bound before after =
    split_at k n xs 0 bound (λ i less. before i 0 (omega arith) less) (λ i over less. after i 0 over less)
