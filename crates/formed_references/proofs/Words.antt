-- General words: a test passes on each part of a list where it passes on what a row gives.
use Rattle.std.proofs.Common.{◌≡◌, ◌≢◌, ℕ, zero, suc, ◌<◌, ◌≤◌, inl, inr, Bool, true, nat_lt, nat_le, nat_eq, List, [], ◌∷◌, All, Contains, length, slice_index_or, Option, Some, None, refl, sym, subst, arith, ◌-◌, is_none, true≢false, false, ◌⊎◌}
use Rattle.std.proofs.lemmas.Bool.{and_from}
use Rattle.std.proofs.lemmas.Bool.Decides.{nat_tests}
use Rattle.std.proofs.lemmas.List.Elements.{recursion_from_All}
use Rattle.std.specs.List.{AllByRecursion, AllZip, list_all, range_with_len}
use Rattle.heaps.specs.Content.{HasText}
use Rattle.assembly_tree.specs.WellFormedNames.{option_all, has_no_zero, is_name}
use Rattle.image_model.specs.Rows.{count_of, HasRow, rows_of, rows_with, enclosing, types_in}
use Rattle.image_model.specs.Reading.{IsGiven}
use Rattle.image_namings.proofs.Among.{Among, among_range, among_filter}

-- ---- tests

pub lt_true : (m n : ℕ) → m < n → nat_lt m n ≡ true
lt_true m n h = grind (arith, nat_tests)

pub le_true : (m n : ℕ) → m ≤ n → nat_le m n ≡ true
le_true m n h = grind (arith, nat_tests)

pub eq_true : (m n : ℕ) → m ≡ n → nat_eq m n ≡ true
eq_true m n h = grind (arith, nat_tests)

pub is_eq : (m n : ℕ) → nat_eq m n ≡ true → m ≡ n
is_eq m n h = grind (arith, nat_tests)

-- ---- lists of parts

pub all_zipped : {X : Type 0} (Is : ℕ → X → Type 0) (test : X → Bool) (rows : List ℕ) (xs : List X) → ((r : ℕ) (x : X) → Among r rows → Is r x → test x ≡ true) → AllZip Is rows xs → list_all test xs ≡ true
all_zipped Is test [] [] f z = refl
all_zipped Is test [] (x ∷ xs) f z = absurd z
all_zipped Is test (r ∷ rows) [] f z = absurd z
all_zipped Is test (r ∷ rows) (x ∷ xs) f z = and_from (test x) (list_all test xs) (f r x (inl refl) z.0) (all_zipped Is test rows xs (λ s y m. f s y (inr m)) z.1)

pub all_given : {X : Type 0} (Is : ℕ → X → Type 0) (test : X → Bool) (rows : List ℕ) (o : Option X) → ((r : ℕ) (x : X) → Among r rows → Is r x → test x ≡ true) → IsGiven Is rows o → option_all test o ≡ true
all_given Is test [] None f h = refl
all_given Is test [] (Some x) f h = absurd h
all_given Is test (r ∷ rows) None f h = absurd h
all_given Is test (r ∷ rows) (Some x) f h = f r x (inl refl) h

pub zipped_long : {X : Type 0} (Is : ℕ → X → Type 0) (rows : List ℕ) (xs : List X) → AllZip Is rows xs → length xs ≡ length rows
zipped_long Is [] [] z = refl
zipped_long Is [] (x ∷ xs) z = absurd z
zipped_long Is (r ∷ rows) [] z = absurd z
zipped_long Is (r ∷ rows) (x ∷ xs) z = let h = zipped_long Is rows xs z.1 in omega arith

-- ---- members

by_recursion : (P : ℕ → Type 0) (x : ℕ) (xs : List ℕ) → AllByRecursion P xs → Among x xs → P x
by_recursion P x [] h m = absurd m
by_recursion P x (y ∷ ys) h (inl e) = subst P e h.0
by_recursion P x (y ∷ ys) h (inr m) = by_recursion P x ys h.1 m

pub all_among : (P : ℕ → Type 0) (x : ℕ) (xs : List ℕ) → All P xs → Among x xs → P x
all_among P x xs h m = by_recursion P x xs (recursion_from_All P xs h) m

at_index : (x : ℕ) (xs : List ℕ) (k : ℕ) → k < length xs → slice_index_or xs k x ≡ x → Among x xs
at_index x [] k lt e = absurd (omega arith)
at_index x (y ∷ ys) zero lt e = inl e
at_index x (y ∷ ys) (suc k) lt e = inr (at_index x ys k (omega arith) e)

pub to_among : (x : ℕ) (xs : List ℕ) → Contains xs x → Among x xs
to_among x xs h = at_index x xs h.0 h.1 h.2

pub of_rows : (image : List ℕ) (table row : ℕ) → Among row (rows_of image table) → HasRow image table row
unfolding rows_of
of_rows image table row h = let r = among_range row 1 (count_of image table) h in (omega (arith, r.0), omega (arith, r.1))

pub of_rows_with : (image : List ℕ) (table : ℕ) (column : List ℕ → ℕ → ℕ) (value row : ℕ) → Among row (rows_with image table column value) → HasRow image table row × (column image row ≡ value)
unfolding rows_with
of_rows_with image table column value row h =
    let f = among_filter (λ r. nat_eq (column image r) value) row (rows_of image table) h in
    (of_rows image table row f.0, is_eq (column image row) value f.1)

-- ---- texts

no_zeros : (text : List ℕ) → AllByRecursion (λ byte. byte ≢ 0) text → list_all (λ byte. nat_lt 0 byte) text ≡ true
no_zeros [] h = refl
no_zeros (b ∷ text) h = and_from (nat_lt 0 b) (list_all (λ byte. nat_lt 0 byte) text) (some b h.0) (no_zeros text h.1)
  where
    some : (b : ℕ) → b ≢ 0 → nat_lt 0 b ≡ true
    some zero n = absurd (n refl)
    some (suc b) n = lt_true 0 (suc b) (omega arith)

pub text_has_no_zero : (heap : List ℕ) (index : ℕ) (text : List ℕ) → HasText heap index text → has_no_zero text ≡ true
text_has_no_zero heap zero text h = subst (λ (t : List ℕ). has_no_zero t ≡ true) (sym h) refl
text_has_no_zero heap (suc k) text h = no_zeros text (recursion_from_All (λ byte. byte ≢ 0) text h.2)

some_bytes : (text : List ℕ) → text ≢ [] → nat_lt 0 (length text) ≡ true
some_bytes [] n = absurd (n refl)
some_bytes (x ∷ xs) n = lt_true 0 (length (x ∷ xs)) (omega arith)

pub text_is_name : (heap : List ℕ) (index : ℕ) (text : List ℕ) → HasText heap index text → text ≢ [] → is_name text ≡ true
text_is_name heap index text h n = and_from (nat_lt 0 (length text)) (has_no_zero text) (some_bytes text n) (text_has_no_zero heap index text h)

-- ---- types that one type encloses

pub of_types : (image : List ℕ) (row outer : ℕ) → Among row (types_in image outer) → HasRow image 0x02 row × (2 ≤ row) × (enclosing image row ≡ outer)
unfolding types_in
of_types image row outer m =
    let f = among_filter (λ t. nat_eq (enclosing image t) outer) row (range_with_len 2 (count_of image 0x02 - 1)) m in
    let r = among_range row 2 (count_of image 0x02 - 1) f.0 in
    ((omega (arith, r.0), omega (arith, r.0, r.1)), r.0, is_eq (enclosing image row) outer f.1)

-- ---- options

pub none_there : {X : Type 0} (o : Option X) → o ≡ None → is_none o ≡ true
none_there None e = refl
none_there (Some x) e = absurd cc

-- a name that a column wants isn't empty
pub is_filled : {t : List ℕ} → (false ≡ true) ⊎ (t ≢ []) → t ≢ []
is_filled (inl e) f = true≢false (sym e)
is_filled (inr n) f = n f
