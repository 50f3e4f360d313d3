-- The perfect hash gives each word its number, and no other text one.
use Rattle.std.proofs.Common.{◌≡◌, ◌≢◌, ℕ, zero, suc, ◌+◌, ◌<◌, Bool, true, false, cond, nat_eq, nat_lt, List, [], ◌∷◌, length, get_or, Option, None, Some, refl, ap, sym, subst, ◌∙◌, arith, zero-add}
use Rattle.std.specs.Str.{bytes_eq}
use Rattle.std.specs.Cmp.Lexicographic.{bytes_decides}
use Rattle.std.proofs.lemmas.Bool.{false≢true}
use Rattle.il_lexer.specs.declared.words.TheConstants.{KEYS, SLOTS}
use Rattle.il_lexer.specs.WordKeys.{key_from, candidate}
use Rattle.il_lexer.specs.WordList.{words, place_from, word_number}

abbrev and_then : Bool → Bool → Bool
and_then true b = b
and_then false b = false

-- what a search from `i` finds stands there
pub record Found (xs : List (List ℕ)) (i : ℕ) (w : List ℕ) (k : ℕ) : Type 0 where
  pub behind : ℕ
  pub place : k ≡ i + behind
  pub within : behind < length xs
  pub same : get_or xs behind [] ≡ w

later : (x : List ℕ) (xs : List (List ℕ)) (i : ℕ) (w : List ℕ) (k : ℕ) → Found xs (suc i) w k → Found (x ∷ xs) i w k
later x xs i w k f =
    let place : k ≡ suc i + f.behind = f.place in
    let within : f.behind < length xs = f.within in
    record { behind = suc f.behind; place = omega arith; within = omega arith; same = f.same }

at_first : (x : List ℕ) (xs : List (List ℕ)) (i : ℕ) (w : List ℕ) (k : ℕ) (b : Bool) → bytes_eq x w ≡ b →
    (place_from (suc i) xs w ≡ Some k → Found xs (suc i) w k) →
    cond b (Some i) (place_from (suc i) xs w) ≡ Some k → Found (x ∷ xs) i w k
at_first x xs i w k true e rec h =
    let k_is : i ≡ k = cc in
    record { behind = 0; place = omega arith; within = omega arith; same = (bytes_decides x w).0 e }
at_first x xs i w k false e rec h = later x xs i w k (rec h)

pub place-some : (xs : List (List ℕ)) (i : ℕ) (w : List ℕ) (k : ℕ) → place_from i xs w ≡ Some k → Found xs i w k
place-some [] i w k h = cc
place-some (x ∷ xs) i w k h = at_first x xs i w k (bytes_eq x w) refl (λ e. place-some xs (suc i) w k e) h

not_first : (x : List ℕ) (xs : List (List ℕ)) (i : ℕ) (w : List ℕ) (b : Bool) → bytes_eq x w ≡ b →
    cond b (Some i) (place_from (suc i) xs w) ≡ None → (x ≢ w) × (place_from (suc i) xs w ≡ None)
not_first x xs i w true e h = cc
not_first x xs i w false e h = ((λ same. false≢true (sym e ∙ (bytes_decides x w).1 same)), h)

-- where a search finds nothing, nothing stands
place-none : (xs : List (List ℕ)) (i : ℕ) (w : List ℕ) → place_from i xs w ≡ None →
    (k : ℕ) → k < length xs → get_or xs k [] ≡ w → ⊥
place-none [] i w h k lt e = absurd (omega arith)
place-none (x ∷ xs) i w h zero lt e = (not_first x xs i w (bytes_eq x w) refl h).0 e
place-none (x ∷ xs) i w h (suc k) lt e =
    let below : k < length xs = omega arith in
    place-none xs (suc i) w (not_first x xs i w (bytes_eq x w) refl h).1 k below e

-- the words from `k` on have their places as candidates
abbrev placed_from : (List ℕ → ℕ) → ℕ → List (List ℕ) → Bool
placed_from place k [] = true
placed_from place k (w ∷ ws) = and_then (nat_eq (place w) k) (placed_from place (suc k) ws)

first_holds : (a b : Bool) → and_then a b ≡ true → a ≡ true
first_holds true b h = refl
first_holds false b h = h

second_holds : (a b : Bool) → and_then a b ≡ true → b ≡ true
second_holds true b h = h
second_holds false b h = cc

nat_equal : (a b : ℕ) → nat_eq a b ≡ true → a ≡ b
nat_equal a b h = grind arith

placed_at : (place : List ℕ → ℕ) (ws : List (List ℕ)) (k i : ℕ) → placed_from place k ws ≡ true →
    i < length ws → place (get_or ws i []) ≡ k + i
placed_at place [] k i h lt = absurd (omega arith)
placed_at place (w ∷ ws) k zero h lt =
    let e : k ≡ k + 0 = omega arith in nat_equal _ _ (first_holds _ _ h) ∙ e
placed_at place (w ∷ ws) k (suc i) h lt =
    let e : suc k + i ≡ k + suc i = omega arith in
    let below : i < length ws = omega arith in
    placed_at place ws (suc k) i (second_holds _ _ h) below ∙ e

pub words-len : length words ≡ 401
unfolding words
words-len = refl

all_placed : placed_from (candidate SLOTS) 0 words ≡ true
unfolding words
all_placed = refl

-- the keys are those of the words
abbrev keyed : List ℕ → List (List ℕ) → Bool
keyed [] [] = true
keyed (k ∷ ks) (w ∷ ws) = and_then (nat_eq k (key_from 0 w)) (keyed ks ws)
keyed _ _ = false

keyed_at : (ks : List ℕ) (ws : List (List ℕ)) (i : ℕ) → keyed ks ws ≡ true → i < length ws → get_or ks i 0 ≡ key_from 0 (get_or ws i [])
keyed_at ks [] i h lt = absurd (omega arith)
keyed_at [] (w ∷ ws) i h lt = absurd (false≢true h)
keyed_at (k ∷ ks) (w ∷ ws) zero h lt = nat_equal _ _ (first_holds _ _ h)
keyed_at (k ∷ ks) (w ∷ ws) (suc i) h lt =
    let below : i < length ws = omega arith in
    keyed_at ks ws i (second_holds _ _ h) below

all_keyed : keyed KEYS words ≡ true
unfolding words
all_keyed = refl

-- the key at a place is that of the word there
pub key-at : (k : ℕ) → k < 401 → get_or KEYS k 0 ≡ key_from 0 (get_or words k [])
key-at k lt = keyed_at KEYS words k all_keyed (subst (λ n. k < n) (sym words-len) lt)

-- each slot holds a number of a word
abbrev all_small : List ℕ → Bool
all_small [] = true
all_small (x ∷ xs) = and_then (nat_lt x 401) (all_small xs)

small_at : (xs : List ℕ) (i : ℕ) → all_small xs ≡ true → get_or xs i 0 < 401
small_at [] i h = omega arith
small_at (x ∷ xs) zero h = let e : nat_lt x 401 ≡ true = first_holds _ _ h in grind arith
small_at (x ∷ xs) (suc i) h = small_at xs i (second_holds _ _ h)

slots_small : all_small SLOTS ≡ true
slots_small = refl

pub slot-below : (i : ℕ) → get_or SLOTS i 0 < 401
slot-below i = small_at SLOTS i slots_small

-- no word is empty
pub none-empty : word_number [] ≡ None
unfolding words
none-empty = refl

-- a word stands at its candidate
word_place : (w : List ℕ) (k : ℕ) → k < length words → get_or words k [] ≡ w → candidate SLOTS w ≡ k
word_place w k lt e =
    ap (candidate SLOTS) (sym e) ∙ placed_at (candidate SLOTS) words 0 k all_placed lt ∙ zero-add k

none_or_some : (w : List ℕ) (o : Option ℕ) → word_number w ≡ o → (k : ℕ) → k < length words → get_or words k [] ≡ w → o ≡ Some k
none_or_some w None h k lt e = absurd (place-none words 0 w h k lt e)
none_or_some w (Some j) h k lt e =
    let f : Found words 0 w j = place-some words 0 w j h in
    let at : candidate SLOTS w ≡ f.behind = word_place w f.behind f.within f.same in
    let here : candidate SLOTS w ≡ k = word_place w k lt e in
    let place : j ≡ 0 + f.behind = f.place in
    ap Some (omega arith)

-- the word at a place has that number
pub number-some : (w : List ℕ) (k : ℕ) → k < 401 → get_or words k [] ≡ w → word_number w ≡ Some k
number-some w k lt e = none_or_some w (word_number w) refl k (subst (λ n. k < n) (sym words-len) lt) e

no_number : (w : List ℕ) (o : Option ℕ) → word_number w ≡ o →
    ((k : ℕ) → k < 401 → candidate SLOTS w ≡ k → get_or words k [] ≡ w → ⊥) → o ≡ None
no_number w None h never = refl
no_number w (Some j) h never =
    let f : Found words 0 w j = place-some words 0 w j h in
    absurd (never f.behind (subst (λ n. f.behind < n) words-len f.within) (word_place w f.behind f.within f.same) f.same)

-- a text that isn't the word at its candidate has no number
pub number-none : (w : List ℕ) →
    ((k : ℕ) → k < 401 → candidate SLOTS w ≡ k → get_or words k [] ≡ w → ⊥) → word_number w ≡ None
number-none w never = no_number w (word_number w) refl never
