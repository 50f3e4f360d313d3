-- The rows that hold a value stand side by side.
use Rattle.std.proofs.Common.{◌≡◌, ℕ, zero, suc, ◌+◌, ◌-◌, ◌/◌, ◌<◌, ◌≤◌, Bool, true, false, cond, List, [], ◌∷◌, ◌++◌, inl, inr, refl, ◌∙◌, ap, subst, arith}
use Rattle.std.specs.Prelude.{◌==◌, filter}
use Rattle.std.specs.List.{range_with_len}
use Rattle.std.proofs.lemmas.List.{append-nil}
use Rattle.std.proofs.lemmas.Bool.{cond-true, cond-false, eq-eqb, ne_eqb, cases_lt}
use Rattle.metadata_tables.specs.Stream.{cell}
use Rattle.image_model.specs.Rows.{count_of, rows_of, rows_with}
use Rattle.image_model.specs.Streams.{tables_of}
use Rattle.row_groups.specs.Ranges.{Ascends, cell_of}

range_append : (a m n : ℕ) → range_with_len a (m + n) ≡ range_with_len a m ++ range_with_len (a + m) n
range_append a zero n = λ i. range_with_len (e i) (f i) where
  e : a ≡ a + 0
  e = omega arith

  f : 0 + n ≡ n
  f = omega arith
range_append a (suc m) n =
    let e : suc m + n ≡ suc (m + n) = omega arith in
    let f : a + 1 + m ≡ a + suc m = omega arith in
    ap (range_with_len a) e ∙ ap (λ xs. a ∷ xs) (range_append (a + 1) m n ∙ ap (λ k. range_with_len (a + 1) m ++ range_with_len k n) f)

filter_append : (p : ℕ → Bool) (xs ys : List ℕ) → filter p (xs ++ ys) ≡ filter p xs ++ filter p ys
filter_append p [] ys = refl
filter_append p (x ∷ xs) ys = step (p x) x (filter p xs) (filter p ys) (filter p (xs ++ ys)) (filter_append p xs ys) where
  step : (b : Bool) (x : ℕ) (us vs ws : List ℕ) → ws ≡ us ++ vs → cond b (x ∷ ws) ws ≡ cond b (x ∷ us) us ++ vs
  step true x us vs ws e = ap (λ zs. x ∷ zs) e
  step false x us vs ws e = e

filter_all : (p : ℕ → Bool) (a n : ℕ) → ((k : ℕ) → a ≤ k → k < a + n → p k ≡ true) → filter p (range_with_len a n) ≡ range_with_len a n
filter_all p a zero h = refl
filter_all p a (suc n) h =
    cond-true (p a) _ _ (h a (omega arith) (omega arith)) ∙ ap (λ xs. a ∷ xs) (filter_all p (a + 1) n (λ k from less. h k (omega arith) (omega arith)))

filter_none : (p : ℕ → Bool) (a n : ℕ) → ((k : ℕ) → a ≤ k → k < a + n → p k ≡ false) → filter p (range_with_len a n) ≡ []
filter_none p a zero h = refl
filter_none p a (suc n) h = cond-false (p a) _ _ (h a (omega arith) (omega arith)) ∙ filter_none p (a + 1) n (λ k from less. h k (omega arith) (omega arith))

-- a test that the numbers from a to b pass, and no others
filter_range : (p : ℕ → Bool) (n a b : ℕ) → 1 ≤ a → a ≤ b → b ≤ n + 1 → ((k : ℕ) → 0 < k → k < a → p k ≡ false) → ((k : ℕ) → a ≤ k → k < b → p k ≡ true)
    → ((k : ℕ) → b ≤ k → k ≤ n → p k ≡ false) → filter p (range_with_len 1 n) ≡ range_with_len a (b - a)
filter_range p n a b from order within before here behind =
    let e : n ≡ (a - 1) + ((b - a) + (n + 1 - b)) = omega arith in
    let f : 1 + (a - 1) ≡ a = omega arith in
    let g : a + (b - a) ≡ b = omega arith in
    ap (λ m. filter p (range_with_len 1 m)) e
    ∙ ap (filter p) (range_append 1 (a - 1) ((b - a) + (n + 1 - b)))
    ∙ filter_append p (range_with_len 1 (a - 1)) (range_with_len (1 + (a - 1)) ((b - a) + (n + 1 - b)))
    ∙ ap (λ xs. xs ++ filter p (range_with_len (1 + (a - 1)) ((b - a) + (n + 1 - b)))) (filter_none p 1 (a - 1) (λ k from less. before k (omega arith) (omega arith)))
    ∙ ap (λ k. filter p (range_with_len k ((b - a) + (n + 1 - b)))) f
    ∙ ap (filter p) (range_append a (b - a) (n + 1 - b))
    ∙ filter_append p (range_with_len a (b - a)) (range_with_len (a + (b - a)) (n + 1 - b))
    ∙ (λ i. filter_all p a (b - a) (λ k from less. here k from (omega arith)) i ++ filter_none p (a + (b - a)) (n + 1 - b) (λ k from less. behind k (omega arith) (omega arith)) i)
    ∙ append-nil (range_with_len a (b - a))

-- the rows of a table in order that hold a value
pub rows_between : (image : List ℕ) (table column value first end : ℕ) → 0 < first → first ≤ end → end ≤ count_of image table + 1
    → ((row : ℕ) → 0 < row → row < first → cell (tables_of image) table row column < value)
    → ((row : ℕ) → first ≤ row → row ≤ count_of image table → value ≤ cell (tables_of image) table row column)
    → ((row : ℕ) → 0 < row → row < end → cell (tables_of image) table row column < value + 1)
    → ((row : ℕ) → end ≤ row → row ≤ count_of image table → value + 1 ≤ cell (tables_of image) table row column)
    → rows_with image table (cell_of table column) value ≡ range_with_len first (end - first)
unfolding rows_with rows_of
rows_between image table column value first end some order within before behind below above =
    filter_range (λ row. cell (tables_of image) table row column == value) (count_of image table) first end (omega arith) order within
    (λ k from less. ne_eqb (cell (tables_of image) table k column) value (λ e. let l = before k from less in absurd (omega arith)))
    (λ k from less. eq-eqb (cell (tables_of image) table k column) value (let a = behind k from (omega arith) in let b = below k (omega arith) less in omega arith))
    (λ k from less. ne_eqb (cell (tables_of image) table k column) value (λ e. let l = above k from less in absurd (omega arith)))

-- two bounds of one table are in order
pub bounds_rise : (image : List ℕ) (table column value first end : ℕ) → 0 < end → first ≤ count_of image table + 1
    → ((row : ℕ) → 0 < row → row < first → cell (tables_of image) table row column < value)
    → ((row : ℕ) → end ≤ row → row ≤ count_of image table → value + 1 ≤ cell (tables_of image) table row column) → first ≤ end
bounds_rise image table column value first end some within before above = elim (cases_lt end first) [
  | inl less ↦ let l = before end some less in let a = above end (omega arith) (omega arith) in absurd (omega arith)
  | inr le ↦ le
]

-- the cells of a table in order
rising : (image : List ℕ) (table column : ℕ) → Ascends image table column → (j d : ℕ) → 0 < j → j + d ≤ count_of image table
    → cell (tables_of image) table j column ≤ cell (tables_of image) table (j + d) column
rising image table column order j zero some within =
    let e : j ≡ j + 0 = omega arith in subst (λ k. cell (tables_of image) table j column ≤ cell (tables_of image) table k column) e (omega arith)
rising image table column order j (suc d) some within =
    let before = rising image table column order j d some (omega arith) in
    let step = order (j + suc d) (omega arith) within in
    let e : j + suc d - 1 ≡ j + d = omega arith in
    let here : cell (tables_of image) table (j + d) column ≤ cell (tables_of image) table (j + suc d) column = subst (λ k. cell (tables_of image) table k column ≤ cell (tables_of image) table (j + suc d) column) e step in
    omega arith

pub rises_to : (image : List ℕ) (table column : ℕ) → Ascends image table column → (j k : ℕ) → 0 < j → j ≤ k → k ≤ count_of image table
    → cell (tables_of image) table j column ≤ cell (tables_of image) table k column
rises_to image table column order j k some le within =
    let e : j + (k - j) ≡ k = omega arith in
    subst (λ i. cell (tables_of image) table j column ≤ cell (tables_of image) table i column) e (rising image table column order j (k - j) some (omega arith))

-- the rows before one hold less than a value, and those from another on no less
pub record IsBetween (image : List ℕ) (table column value first end : ℕ) : Type 0 where
  pub some : 0 < first
  pub order : first ≤ end
  pub within : end ≤ count_of image table + 1
  pub before : (row : ℕ) → 0 < row → row < first → cell (tables_of image) table row column < value
  pub behind : (row : ℕ) → end ≤ row → row ≤ count_of image table → value ≤ cell (tables_of image) table row column

module _ (image : List ℕ) (table column value first end middle : ℕ) (order : Ascends image table column) (is : IsBetween image table column value first end)
    (less : first < end) (halved : middle ≡ first + (end - first) / 2) where
  pub more_before : cell (tables_of image) table middle column < value → IsBetween image table column value (middle + 1) end
  more_before here = record {
    some = omega arith;
    order = omega arith;
    within = is.within;
    before = λ row some upto. let w = is.within in let r = rises_to image table column order row middle some (omega arith) (omega arith) in omega arith;
    behind = is.behind;
  }

  pub more_behind : value ≤ cell (tables_of image) table middle column → IsBetween image table column value first middle
  more_behind here = record {
    some = is.some;
    order = omega arith;
    within = let w = is.within in omega arith;
    before = is.before;
    behind = λ row from within. let s = is.some in let r = rises_to image table column order middle row (omega arith) from within in omega arith;
  }
