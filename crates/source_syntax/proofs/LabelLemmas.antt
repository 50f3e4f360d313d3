-- The first label with a name, by its place among the labels, and labels with the names of earlier ones.
use Rattle.std.proofs.Common.{◌≡◌, ℕ, zero, suc, ◌<◌, ◌+◌, List, [], ◌∷◌, ◌++◌, length, map, take, drop, cond, ap, sym, ◌∙◌, refl, arith, slice_get}
use Rattle.std.specs.Prelude.{Bool, true, false, not, nat_lt, ◌||◌, Option, None, Some, option_map, is_some, if◌then◌else◌, filter, find, bytes_eq, position, slice_index_or}
use Rattle.std.specs.List.{AllByRecursion, list_any, position_or_len}
use Rattle.std.proofs.lemmas.Bool.Decides.{nat_tests}
use Rattle.std.proofs.lemmas.Slice.Eq.{bytes_eq-Decides}
use Rattle.std.proofs.lemmas.List.{length-map}
use Rattle.std.proofs.lemmas.List.Quantifiers.{position-Some}
use Rattle.source_model.specs.BodyFaults.{is_same_name}
use Rattle.source_model.specs.DeclaredTwice.{repeats_after}
use Rattle.source_model.specs.Forest.{Forest}
use Rattle.source_model.specs.Instructions.{is_label, label_named, labels, number_at}
use Rattle.source_model.specs.Source.{Source}
use Rattle.source_model.specs.Values.{name_text}
use Rattle.source_syntax.specs.Labels.{is_below, number_among, number_declared, number_found}
use Rattle.source_nodes.specs.Least.{least, sooner}
use Rattle.source_syntax.proofs.LeastLemmas.{sooner_assoc}
use Rattle.source_syntax.proofs.MethodLemmas.{drop_at}
use Rattle.source_nodes.proofs.PieceLemmas.{take_next}

-- ---- the first place, by recursion

first_below : (i : ℕ) → nat_lt 0 (suc i) ≡ true
first_below i = grind (arith, nat_tests)

some_next : (q : ℕ) → Some (1 + q) ≡ Some (suc q)
some_next q = let same : 1 + q ≡ suc q = omega arith in ap (λ k. Some k) same

shifted : (q n : ℕ) → cond (nat_lt (1 + q) (suc n)) (Some (1 + q)) None ≡ option_map suc (cond (nat_lt q n) (Some q) None)
shifted q n = go (nat_lt q n) refl
  where
    go : (c : Bool) → nat_lt q n ≡ c → cond (nat_lt (1 + q) (suc n)) (Some (1 + q)) None ≡ option_map suc (cond (nat_lt q n) (Some q) None)
    go true e = let next : nat_lt (1 + q) (suc n) ≡ true = grind (arith, nat_tests) in ap (λ b. cond b (Some (1 + q)) None) next ∙ some_next q ∙ ap (λ b. option_map suc (cond b (Some q) None)) (sym e)
    go false e = let next : nat_lt (1 + q) (suc n) ≡ false = grind (arith, nat_tests) in ap (λ b. cond b (Some (1 + q)) None) next ∙ ap (λ b. option_map suc (cond b (Some q) None)) (sym e)

pub position_first : {X : Type 0} (p : X → Bool) (x : X) (xs : List X) → position p (x ∷ xs) ≡ cond (p x) (Some 0) (option_map suc (position p xs))
position_first p x xs = go (p x)
  where
    go : (c : Bool) → cond (nat_lt (cond (not c) (1 + position_or_len p xs) 0) (suc (length xs))) (Some (cond (not c) (1 + position_or_len p xs) 0)) None
        ≡ cond c (Some 0) (option_map suc (position p xs))
    go true = ap (λ b. cond b (Some 0) None) (first_below (length xs))
    go false = shifted (position_or_len p xs) (length xs)

not_below_0 : (o : Option ℕ) → is_below o 0 ≡ false
not_below_0 None = refl
not_below_0 (Some n) = grind arith

below_next : (o : Option ℕ) (i : ℕ) → is_below (option_map suc o) (suc i) ≡ is_below o i
below_next None i = refl
below_next (Some n) i = grind arith

-- one of the first so many passes exactly where the first that passes is among them
pub below_taken : {X : Type 0} (p : X → Bool) (xs : List X) (i : ℕ) → is_below (position p xs) i ≡ list_any p (take i xs)
below_taken p [] zero = refl
below_taken p [] (suc i) = refl
below_taken p (x ∷ xs) zero = not_below_0 (position p (x ∷ xs))
below_taken p (x ∷ xs) (suc i) = ap (λ o. is_below o (suc i)) (position_first p x xs) ∙ go (p x) (below_taken p xs i)
  where
    go : (c : Bool) → is_below (position p xs) i ≡ list_any p (take i xs)
        → is_below (cond c (Some 0) (option_map suc (position p xs))) (suc i) ≡ (c || list_any p (take i xs))
    go true rest = first_below i
    go false rest = below_next (position p xs) i ∙ rest

-- ---- names

eq_swap : (a b : List ℕ) → bytes_eq a b ≡ bytes_eq b a
eq_swap a b = go (bytes_eq a b) (bytes_eq b a) refl refl
  where
    go : (c d : Bool) → bytes_eq a b ≡ c → bytes_eq b a ≡ d → c ≡ d
    go true true e h = refl
    go false false e h = refl
    go true false e h = let is : a ≡ b = (bytes_eq-Decides a b).0 e in let also = (bytes_eq-Decides b a).1 (sym is) in absurd cc
    go false true e h = let is : b ≡ a = (bytes_eq-Decides b a).0 h in let also = (bytes_eq-Decides a b).1 (sym is) in absurd cc

any_mapped : {X Y : Type 0} (p : Y → Bool) (g : X → Y) (xs : List X) → list_any p (map g xs) ≡ list_any (λ x. p (g x)) xs
any_mapped p g [] = refl
any_mapped p g (x ∷ xs) = ap (λ b. p (g x) || b) (any_mapped p g xs)

take_mapped : {X Y : Type 0} (g : X → Y) (xs : List X) (i : ℕ) → take i (map g xs) ≡ map g (take i xs)
take_mapped g [] zero = refl
take_mapped g [] (suc i) = refl
take_mapped g (x ∷ xs) zero = refl
take_mapped g (x ∷ xs) (suc i) = ap (λ ys. g x ∷ ys) (take_mapped g xs i)

pub in_middle : {X : Type 0} (P : X → Type 0) (xs : List X) (x : X) (ys : List X) → AllByRecursion P (xs ++ x ∷ ys) → P x
in_middle P [] x ys h = h.0
in_middle P (z ∷ zs) x ys h = in_middle P zs x ys h.1

module _ (s : Source) where
  -- the label at a place among the labels
  abbrev pub label_at : List ℕ → Option ℕ → Option ℕ
  label_at ls None = None
  label_at ls (Some i) = Some (slice_index_or ls i 0)

  label_found : (k : ℕ) (ls : List ℕ) → find (λ label. bytes_eq (name_text s label) (name_text s k)) ls ≡ label_at ls (position (bytes_eq (name_text s k)) (map (name_text s) ls))
  label_found k [] = refl
  label_found k (l ∷ ls) =
      ap (λ c. cond c (Some l) (find (λ label. bytes_eq (name_text s label) (name_text s k)) ls)) (eq_swap (name_text s l) (name_text s k))
      ∙ go (bytes_eq (name_text s k) (name_text s l)) (label_found k ls) ∙ sym (ap (label_at (l ∷ ls)) (position_first (bytes_eq (name_text s k)) (name_text s l) (map (name_text s) ls)))
    where
      next : (o : Option ℕ) → label_at ls o ≡ label_at (l ∷ ls) (option_map suc o)
      next None = refl
      next (Some i) = refl

      go : (c : Bool) → find (λ label. bytes_eq (name_text s label) (name_text s k)) ls ≡ label_at ls (position (bytes_eq (name_text s k)) (map (name_text s) ls))
          → cond c (Some l) (find (λ label. bytes_eq (name_text s label) (name_text s k)) ls)
          ≡ label_at (l ∷ ls) (cond c (Some 0) (option_map suc (position (bytes_eq (name_text s k)) (map (name_text s) ls))))
      go true rest = refl
      go false rest = rest ∙ next (position (bytes_eq (name_text s k)) (map (name_text s) ls))

  pub label_is : (f : Forest) (k : ℕ) → label_named s f k ≡ label_at (labels f) (position (bytes_eq (name_text s k)) (map (name_text s) (labels f)))
  label_is f k = label_found k (labels f)

  pub is_label_named : (f : Forest) (k : ℕ) → is_label s f k ≡ is_some (position (bytes_eq (name_text s k)) (map (name_text s) (labels f)))
  is_label_named f k = ap is_some (label_is f k) ∙ go (position (bytes_eq (name_text s k)) (map (name_text s) (labels f)))
    where
      go : (o : Option ℕ) → is_some (label_at (labels f) o) ≡ is_some o
      go None = refl
      go (Some i) = refl

  -- ---- labels with the names of earlier ones

  -- what those from a place on are repeats of
  abbrev pub repeats_from : List ℕ → ℕ → List ℕ
  repeats_from ls i = repeats_after (is_same_name s) (take i ls) (drop i ls)

  stands_earlier : (ls : List ℕ) (i l : ℕ) → list_any (is_same_name s l) (take i ls) ≡ is_below (position (bytes_eq (name_text s l)) (map (name_text s) ls)) i
  stands_earlier ls i l =
      sym (any_mapped (bytes_eq (name_text s l)) (name_text s) (take i ls)) ∙ ap (list_any (bytes_eq (name_text s l))) (sym (take_mapped (name_text s) ls i))
      ∙ sym (below_taken (bytes_eq (name_text s l)) (map (name_text s) ls) i)

  opened : (ls : List ℕ) (i l : ℕ) (c : Bool) → slice_get ls i ≡ Some l → is_below (position (bytes_eq (name_text s l)) (map (name_text s) ls)) i ≡ c
      → repeats_from ls i ≡ (if c then l ∷ [] else []) ++ repeats_from ls (i + 1)
  opened ls i l c at is =
      ap (repeats_after (is_same_name s) (take i ls)) (drop_at ls i l at)
      ∙ ap (λ d. (if d then l ∷ [] else []) ++ repeats_after (is_same_name s) (take i ls ++ l ∷ []) (drop (i + 1) ls)) (stands_earlier ls i l ∙ is)
      ∙ ap (λ xs. (if c then l ∷ [] else []) ++ repeats_after (is_same_name s) xs (drop (i + 1) ls)) (sym (take_next ls i l at))

  pub past_repeat : (ls : List ℕ) (i l : ℕ) (found : Option ℕ) → slice_get ls i ≡ Some l
      → is_below (position (bytes_eq (name_text s l)) (map (name_text s) ls)) i ≡ true
      → sooner (sooner found (Some l)) (least (repeats_from ls (i + 1))) ≡ sooner found (least (repeats_from ls i))
  past_repeat ls i l found at is =
      sooner_assoc found (Some l) (least (repeats_from ls (i + 1)))
      ∙ ap (λ xs. sooner found (least xs)) (sym (opened ls i l true at is))

  pub past_first : (ls : List ℕ) (i l : ℕ) (found : Option ℕ) → slice_get ls i ≡ Some l
      → is_below (position (bytes_eq (name_text s l)) (map (name_text s) ls)) i ≡ false
      → sooner found (least (repeats_from ls (i + 1))) ≡ sooner found (least (repeats_from ls i))
  past_first ls i l found at is = ap (λ xs. sooner found (least xs)) (sym (opened ls i l false at is))

-- ---- filters

pub filter_same : {X : Type 0} (p q : X → Bool) (xs : List X) → ((x : X) → p x ≡ q x) → filter p xs ≡ filter q xs
filter_same p q [] same = refl
filter_same p q (x ∷ xs) same =
    ap (λ c. cond c (x ∷ filter p xs) (filter p xs)) (same x) ∙ ap (λ ys. cond (q x) (x ∷ ys) ys) (filter_same p q xs same)

pub filter_next : (p : ℕ → Bool) (xs : List ℕ) (i x : ℕ) (c : Bool) → slice_get xs i ≡ Some x → p x ≡ c
    → filter p (drop i xs) ≡ (if c then x ∷ [] else []) ++ filter p (drop (i + 1) xs)
filter_next p xs i x c at is =
    ap (filter p) (drop_at xs i x at) ∙ ap (λ d. cond d (x ∷ filter p (drop (i + 1) xs)) (filter p (drop (i + 1) xs))) is ∙ go c
  where
    go : (d : Bool) → cond d (x ∷ filter p (drop (i + 1) xs)) (filter p (drop (i + 1) xs)) ≡ (if d then x ∷ [] else []) ++ filter p (drop (i + 1) xs)
    go true = refl
    go false = refl

pub passes : (p : ℕ → Bool) (xs : List ℕ) (i x : ℕ) (found : Option ℕ) → slice_get xs i ≡ Some x → p x ≡ true
    → sooner (sooner found (Some x)) (least (filter p (drop (i + 1) xs))) ≡ sooner found (least (filter p (drop i xs)))
passes p xs i x found at is =
    sooner_assoc found (Some x) (least (filter p (drop (i + 1) xs))) ∙ ap (λ ys. sooner found (least ys)) (sym (filter_next p xs i x true at is))

pub fails : (p : ℕ → Bool) (xs : List ℕ) (i x : ℕ) (found : Option ℕ) → slice_get xs i ≡ Some x → p x ≡ false
    → sooner found (least (filter p (drop (i + 1) xs))) ≡ sooner found (least (filter p (drop i xs)))
fails p xs i x found at is = ap (λ ys. sooner found (least ys)) (sym (filter_next p xs i x false at is))

-- ---- the numbers of labels

module _ (s : Source) (f : Forest) where
  within_labels : (k i : ℕ) → position (bytes_eq (name_text s k)) (map (name_text s) (labels f)) ≡ Some i → i < length (labels f)
  within_labels k i at =
      let less = (position-Some (bytes_eq (name_text s k)) (map (name_text s) (labels f)) i [] at).0 in
      omega (arith, less, length-map (labels f) (name_text s))

  mapped_number : (ls : List ℕ) (i : ℕ) → i < length ls → slice_get (map (number_at f) ls) i ≡ Some (number_at f (slice_index_or ls i 0))
  mapped_number [] i less = absurd (omega (arith, less))
  mapped_number (l ∷ ls) zero less = refl
  mapped_number (l ∷ ls) (suc i) less = mapped_number ls i (omega (arith, less))

  pub named_number : (names : List (List ℕ)) (numbers : List ℕ) (k : ℕ) → names ≡ map (name_text s) (labels f) → numbers ≡ map (number_at f) (labels f)
      → number_found names numbers (name_text s k) ≡ number_declared s f k
  named_number names numbers k e h =
      ap (λ ns. number_found ns numbers (name_text s k)) e
      ∙ ap (λ ns. number_found (map (name_text s) (labels f)) ns (name_text s k)) h
      ∙ go (position (bytes_eq (name_text s k)) (map (name_text s) (labels f))) (within_labels k)
      ∙ ap (option_map (number_at f)) (sym (label_is s f k))
    where
      go : (o : Option ℕ) → ((i : ℕ) → o ≡ Some i → i < length (labels f)) → number_among (map (number_at f) (labels f)) o ≡ option_map (number_at f) (label_at s (labels f) o)
      go None less = refl
      go (Some i) less = mapped_number (labels f) i (less i refl)
