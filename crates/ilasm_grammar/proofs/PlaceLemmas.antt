-- The bodies that stand at places of the tables of symbols.
use Rattle.std.proofs.Common.{◌≡◌, ◌⊎◌, inl, inr, ℕ, zero, suc, ◌+◌, ◌-◌, ◌*◌, ◌<◌, ◌≤◌, List, [], ◌∷◌, ◌++◌, length, get_or, drop, Bool, true, false, ◌&&◌, ◌||◌, ⊎_elim, refl, sym, ap, ◌∙◌, subst, arith, Some, None}
use Rattle.std.specs.Prelude.{◌==◌, nat_lt, nat_le, slice_index, flat_map, if◌then◌else◌}
use Rattle.std.proofs.lemmas.Bool.{cases_lt, and_parts, leb-true, ltb-true, lt-ltb, le-ltb, eqb-true, eq-eqb, ne_eqb, false≢true}
use Rattle.std.proofs.lemmas.List.{reverse-append}
use Rattle.ilasm_grammar.specs.declared.rules.TheConstants.{HEADS, STARTS, BODIES}
use Rattle.ilasm_grammar.specs.declared.cells.TheConstants.{CELL_NUMBERS, PLACE_NUMBERS}
use Rattle.ilasm_grammar.specs.declared.choices.TheConstants.{ROWS, FALLBACKS, OWNERS, PICKS, INNERS}
use Rattle.ilasm_grammar.specs.declared.places.TheConstants.{SYMBOLS, NEXTS, BEGINS, ARITIES}
use Rattle.ilasm_grammar.specs.declared.symbol.Symbol.{Symbol}
use Rattle.ilasm_grammar.specs.declared.symbol.Symbol.TheVariants.{Terminal, Nonterminal}
use Rattle.ilasm_grammar.specs.Ilasm.{are_at_most, body_at, ilasm, picked, picked_by}
use Rattle.ilasm_grammar.specs.Counts.{arity_of}
use Rattle.ilasm_grammar.specs.Grammar.{rule_of}
use Rattle.ilasm_grammar.specs.Stacked.{symbol_of, body_in, joined, rest_at, symbol_in, behind_in, begin_in, fallback_of, row_in, owner_in, pick_in, inner_in, are_nexts, are_numbers, IsKnown, IsChoice, IsOwnChoice, IsCellOf}
use Rattle.ilasm_grammar.proofs.Tables.{all_below}
use Rattle.ilasm_grammar.proofs.TableFacts.{all_below-at}
use Rattle.ilasm_grammar.proofs.TableLemmas.{rule_by-at, rule_by-is, rule_by-past}

or_parts : (a b : Bool) → a || b ≡ true → (a ≡ true) ⊎ (b ≡ true)
or_parts true b e = inl refl
or_parts false b e = inr e

-- the rest at a place is the symbol there and the rest behind it
body_in-step : (numbers nexts : List ℕ) (k : ℕ) → k < length numbers → k < length nexts →
    body_in (drop k numbers) (drop k nexts) ≡
    symbol_of (get_or numbers k 0) ∷ (if get_or nexts k 0 == 887 then [] else body_in (drop (suc k) numbers) (drop (suc k) nexts))
body_in-step [] nexts k lt le = absurd (omega arith)
body_in-step (x ∷ numbers) [] k lt le = absurd (omega arith)
body_in-step (x ∷ numbers) (y ∷ nexts) zero lt le = refl
body_in-step (x ∷ numbers) (y ∷ nexts) (suc k) lt le = body_in-step numbers nexts k (omega arith) (omega arith)

no_nexts : (numbers : List ℕ) → body_in numbers [] ≡ []
no_nexts [] = refl
no_nexts (x ∷ numbers) = refl

-- behind the last place there is nothing
body_in-past : (numbers nexts : List ℕ) (k : ℕ) → length numbers ≤ k → body_in (drop k numbers) (drop k nexts) ≡ []
body_in-past [] nexts zero le = refl
body_in-past [] nexts (suc k) le = refl
body_in-past (x ∷ numbers) nexts zero le = absurd (omega arith)
body_in-past (x ∷ numbers) [] (suc k) le = no_nexts (drop k numbers)
body_in-past (x ∷ numbers) (y ∷ nexts) (suc k) le = body_in-past numbers nexts k (omega arith)

nexts-at : (from : ℕ) (nexts : List ℕ) (k : ℕ) → are_nexts from nexts ≡ true → k < length nexts →
    (get_or nexts k 0 ≡ 887) ⊎ (get_or nexts k 0 ≡ suc (from + k))
nexts-at from [] k e lt = absurd (omega arith)
nexts-at from (x ∷ nexts) zero e lt =
    let a = and_parts (x == 887 || x == suc from) (are_nexts (suc from) nexts) e in
    ⊎_elim (λ h. inl (eqb-true x 887 h)) (λ h. inr (eqb-true x (suc from) h ∙ omega arith)) (or_parts (x == 887) (x == suc from) a.0)
nexts-at from (x ∷ nexts) (suc k) e lt =
    let a = and_parts (x == 887 || x == suc from) (are_nexts (suc from) nexts) e in
    let same : suc (suc from + k) ≡ suc (from + suc k) = omega arith in
    ⊎_elim (λ h. inl h) (λ h. inr (h ∙ same)) (nexts-at (suc from) nexts k a.1 (omega arith))

pub numbers-at : (numbers : List ℕ) (k : ℕ) → are_numbers numbers ≡ true → k < length numbers → IsKnown (symbol_of (get_or numbers k 0))
numbers-at [] k e lt = absurd (omega arith)
numbers-at (x ∷ numbers) zero e lt = let a = and_parts _ _ e in known x (or_parts _ _ a.0)
  where
    known : (x : ℕ) → (nat_lt x 165 ≡ true) ⊎ (nat_le 256 x && nat_lt x 666 ≡ true) → IsKnown (symbol_of x)
    known x (inl h) = let lt : x < 165 = ltb-true _ _ h in let low : nat_lt x 256 ≡ true = lt-ltb x 256 (omega arith) in rw low lt
    known x (inr h) =
        let a = and_parts (nat_le 256 x) (nat_lt x 666) h in
        let le : 256 ≤ x = leb-true _ _ a.0 in let lt : x < 666 = ltb-true _ _ a.1 in
        let high : nat_lt x 256 ≡ false = le-ltb x 256 le in
        let low : x - 256 < 410 = omega arith in rw high low
numbers-at (x ∷ numbers) (suc k) e lt = numbers-at numbers k (and_parts _ _ e).1 (omega arith)

-- the numbers of the places, one behind the other
abbrev pairs_of : List ℕ → List ℕ → List ℕ
pairs_of [] nexts = []
pairs_of (x ∷ numbers) [] = []
pairs_of (x ∷ numbers) (y ∷ nexts) = x ∷ y ∷ pairs_of numbers nexts

t_pairs : PLACE_NUMBERS ≡ pairs_of SYMBOLS NEXTS
t_pairs = refl

pairs-at : (numbers nexts : List ℕ) (k : ℕ) → k < length numbers → k < length nexts →
    (get_or (pairs_of numbers nexts) (2 * k + 0) 0 ≡ get_or numbers k 0) × (get_or (pairs_of numbers nexts) (2 * k + 1) 0 ≡ get_or nexts k 0)
pairs-at [] nexts k a b = absurd (omega arith)
pairs-at (x ∷ numbers) [] k a b = absurd (omega arith)
pairs-at (x ∷ numbers) (y ∷ nexts) zero a b = (refl, refl)
pairs-at (x ∷ numbers) (y ∷ nexts) (suc k) a b =
    let h = pairs-at numbers nexts k (omega arith) (omega arith) in
    let all = x ∷ y ∷ pairs_of numbers nexts in
    let e0 : 2 * suc k + 0 ≡ suc (suc (2 * k + 0)) = omega arith in
    let e1 : 2 * suc k + 1 ≡ suc (suc (2 * k + 1)) = omega arith in
    (ap (λ (n : ℕ). get_or all n 0) e0 ∙ h.0, ap (λ (n : ℕ). get_or all n 0) e1 ∙ h.1)

pub symbol_number : (place : ℕ) → place < 887 → symbol_of (slice_index PLACE_NUMBERS (2 * place + 0)) ≡ symbol_in place
unfolding symbol_in
symbol_number place lt =
    ap symbol_of (ap (λ (x : List ℕ). slice_index x (2 * place + 0)) t_pairs ∙ (pairs-at SYMBOLS NEXTS place lt lt).0)

pub next_number : (place : ℕ) → place < 887 → slice_index PLACE_NUMBERS (2 * place + 1) ≡ behind_in place
unfolding behind_in
next_number place lt = ap (λ (x : List ℕ). slice_index x (2 * place + 1)) t_pairs ∙ (pairs-at SYMBOLS NEXTS place lt lt).1

pub symbol_known : (place : ℕ) → place < 887 → IsKnown (symbol_in place)
unfolding symbol_in
symbol_known place lt = numbers-at SYMBOLS place refl lt

-- ---- where bodies begin

abbrev same_symbol : Symbol → Symbol → Bool
same_symbol (Terminal a) (Terminal b) = a == b
same_symbol (Terminal a) (Nonterminal b) = false
same_symbol (Nonterminal a) (Terminal b) = false
same_symbol (Nonterminal a) (Nonterminal b) = a == b

abbrev same_body : List Symbol → List Symbol → Bool
same_body [] [] = true
same_body [] (y ∷ ys) = false
same_body (x ∷ xs) [] = false
same_body (x ∷ xs) (y ∷ ys) = same_symbol x y && same_body xs ys

same_symbol-is : (x y : Symbol) → same_symbol x y ≡ true → x ≡ y
same_symbol-is (Terminal a) (Terminal b) e = ap (λ (n : ℕ). Terminal n) (eqb-true _ _ e)
same_symbol-is (Nonterminal a) (Nonterminal b) e = ap (λ (n : ℕ). Nonterminal n) (eqb-true _ _ e)
same_symbol-is (Terminal a) (Nonterminal b) e = absurd (false≢true e)
same_symbol-is (Nonterminal a) (Terminal b) e = absurd (false≢true e)

same_body-is : (xs ys : List Symbol) → same_body xs ys ≡ true → xs ≡ ys
same_body-is [] [] e = refl
same_body-is [] (y ∷ ys) e = absurd (false≢true e)
same_body-is (x ∷ xs) [] e = absurd (false≢true e)
same_body-is (x ∷ xs) (y ∷ ys) e =
    let a = and_parts _ _ e in let h = same_symbol-is x y a.0 in let t = same_body-is xs ys a.1 in cc

abbrev begin_ok : ℕ → Bool
begin_ok p = same_body (rest_at (slice_index BEGINS p)) (body_at p)

t_begins : all_below begin_ok 641 ≡ true
unfolding rest_at body_at
t_begins = refl

begin-is : (p : ℕ) → p < 641 → rest_at (slice_index BEGINS p) ≡ body_at p
begin-is p lt = same_body-is _ _ (all_below-at begin_ok 641 t_begins p lt)

pub has_begin : (p : ℕ) → p < 641 → ilasm p ≡ Some (rule_of (slice_index HEADS p) (rest_at (slice_index BEGINS p)))
unfolding ilasm body_at
has_begin p lt = rule_by-at HEADS STARTS BODIES p lt ∙ ap (λ (b : List Symbol). Some (rule_of (slice_index HEADS p) b)) (sym (begin-is p lt))

pub has_no_rule : (p : ℕ) → 641 ≤ p → ilasm p ≡ None
unfolding ilasm
has_no_rule p le = rule_by-past HEADS STARTS BODIES p le

abbrev arity_ok : ℕ → Bool
arity_ok p = slice_index ARITIES p == length (body_at p)

t_arities : all_below arity_ok 641 ≡ true
unfolding body_at
t_arities = refl

pub has_arity : (p : ℕ) → p < 641 → slice_index ARITIES p ≡ arity_of (ilasm p)
unfolding ilasm body_at
has_arity p lt = eqb-true _ _ (all_below-at arity_ok 641 t_arities p lt) ∙ sym (ap arity_of (rule_by-at HEADS STARTS BODIES p lt))

-- what isn't without a production is the number of one
pub is_rule : (p : ℕ) → (ilasm p ≡ None → ⊥) → p < 641
is_rule p h = ⊎_elim (λ lt. lt) (λ le. absurd (h (has_no_rule p le))) (cases_lt p 641)

-- ---- what the tables pick is a production of the nonterminal

abbrev head_ok : ℕ → ℕ → Bool
head_ok n p = nat_le 165 n || (nat_le 641 p || slice_index HEADS p == n)

-- a test of each cell, by its owner and its production
abbrev cells_ok : (ℕ → ℕ → Bool) → List ℕ → List ℕ → Bool
cells_ok test [] picks = true
cells_ok test (n ∷ owners) [] = true
cells_ok test (n ∷ owners) (p ∷ picks) = test n p && cells_ok test owners picks

t_picks : cells_ok head_ok OWNERS PICKS ≡ true
t_picks = refl

-- the production of a cell has symbols in its body
abbrev own_ok : ℕ → ℕ → Bool
own_ok n p = nat_le 165 n || (nat_lt p 641 && nat_lt (slice_index BEGINS p) 887)

t_owns : cells_ok own_ok OWNERS PICKS ≡ true
t_owns = refl

t_fallbacks : all_below (λ n. head_ok n (slice_index FALLBACKS n)) 165 ≡ true
t_fallbacks = refl

t_rows : are_at_most 2445 ROWS ≡ true
t_rows = refl

t_nexts : are_nexts 0 NEXTS ≡ true
t_nexts = refl

head-is : (n p : ℕ) → head_ok n p ≡ true → n < 165 → p < 641 → slice_index HEADS p ≡ n
head-is n p e lt low =
    ⊎_elim (λ h. let le : 165 ≤ n = leb-true 165 n h in absurd (omega arith))
    (λ h. ⊎_elim (λ h1. let le : 641 ≤ p = leb-true 641 p h1 in absurd (omega arith)) (λ h1. eqb-true (slice_index HEADS p) n h1)
    (or_parts (nat_le 641 p) (slice_index HEADS p == n) h))
    (or_parts (nat_le 165 n) (nat_le 641 p || slice_index HEADS p == n) e)

cells-at : (test : ℕ → ℕ → Bool) (owners picks : List ℕ) (k : ℕ) → cells_ok test owners picks ≡ true → k < length owners → k < length picks →
    test (get_or owners k 0) (get_or picks k 0) ≡ true
cells-at test [] picks k e lt le = absurd (omega arith)
cells-at test (n ∷ owners) [] k e lt le = absurd (omega arith)
cells-at test (n ∷ owners) (p ∷ picks) zero e lt le = (and_parts _ _ e).0
cells-at test (n ∷ owners) (p ∷ picks) (suc k) e lt le = cells-at test owners picks k (and_parts _ _ e).1 (omega arith) (omega arith)

pub at_most_at : (n : ℕ) (xs : List ℕ) (k : ℕ) → are_at_most n xs ≡ true → get_or xs k 0 ≤ n
at_most_at n [] k e = omega arith
at_most_at n (x ∷ xs) zero e = leb-true _ _ (and_parts _ _ e).0
at_most_at n (x ∷ xs) (suc k) e = at_most_at n xs k (and_parts _ _ e).1

by_cases : (b : Bool) → (b ≡ true) ⊎ (b ≡ false)
by_cases true = inl refl
by_cases false = inr refl

picked-head : (n k : ℕ) → n < 165 → k ≤ 410 → picked n k < 641 → slice_index HEADS (picked n k) ≡ n
unfolding picked picked_by
picked-head n k lt le low =
    let cell = slice_index ROWS n + k in
    let within : cell < 2856 = omega (arith, at_most_at 2445 ROWS n t_rows) in
    ⊎_elim
    (λ own. let o : slice_index OWNERS cell ≡ n = eqb-true _ _ own in
    let p : picked n k ≡ slice_index PICKS cell = rw own refl in
    let ok = subst (λ (x : ℕ). head_ok x (slice_index PICKS cell) ≡ true) o (cells-at head_ok OWNERS PICKS cell t_picks within within) in
    ap (slice_index HEADS) p ∙ head-is n (slice_index PICKS cell) ok lt (subst (λ (x : ℕ). x < 641) p low))
    (λ other. let p : picked n k ≡ slice_index FALLBACKS n = rw other refl in
    let ok = all_below-at (λ m. head_ok m (slice_index FALLBACKS m)) 165 t_fallbacks n lt in
    ap (slice_index HEADS) p ∙ head-is n (slice_index FALLBACKS n) ok lt (subst (λ (x : ℕ). x < 641) p low))
    (by_cases (slice_index OWNERS cell == n))

pub picked-rule : (n k p : ℕ) (body : List Symbol) → n < 165 → k ≤ 410 → p ≡ picked n k →
    ilasm p ≡ Some (rule_of (slice_index HEADS p) body) → ilasm p ≡ Some (rule_of n body)
unfolding ilasm
picked-rule n k p body lt le is e =
    let low : p < 641 = (rule_by-is HEADS STARTS BODIES p _ e).0 in
    let head : slice_index HEADS p ≡ n = ap (slice_index HEADS) is ∙ picked-head n k lt le (subst (λ (x : ℕ). x < 641) is low) in
    e ∙ ap (λ (x : ℕ). Some (rule_of x body)) head

-- ---- the cells

pub row_low : (n : ℕ) → row_in n ≤ 2445
unfolding row_in
row_low n = at_most_at 2445 ROWS n t_rows

pub own_cell : (n k cell : ℕ) → n < 165 → owner_in cell ≡ n → cell ≡ row_in n + k → IsCellOf k (Nonterminal n) cell
own_cell n k cell lt own is = record { n = n; low = lt; is = refl; at = is; owned = own }

-- where the nonterminal has no cell
pub no_cell : (n k : ℕ) → (owner_in (row_in n + k) ≡ n → ⊥) → picked n k ≡ fallback_of n
unfolding picked picked_by fallback_of owner_in row_in
no_cell n k apart =
    let e : (slice_index OWNERS (slice_index ROWS n + k) == n) ≡ false = ne_eqb _ _ apart in rw e refl

pub cell_within : {k cell : ℕ} {symbol : Symbol} → IsCellOf k symbol cell → k ≤ 410 → cell < 2856
unfolding row_in
cell_within c le = omega (arith, at_most_at 2445 ROWS c.n t_rows, c.at)

own_parts : (n p : ℕ) → n < 165 → own_ok n p ≡ true → (p < 641) × (slice_index BEGINS p < 887)
own_parts n p lt e =
    ⊎_elim (λ h. let le : 165 ≤ n = leb-true 165 n h in absurd (omega arith))
    (λ h. let a = and_parts (nat_lt p 641) (nat_lt (slice_index BEGINS p) 887) h in (ltb-true _ _ a.0, ltb-true _ _ a.1))
    (or_parts (nat_le 165 n) (nat_lt p 641 && nat_lt (slice_index BEGINS p) 887) e)

-- the numbers of the cells, one behind the other
abbrev rows_of : List ℕ → List ℕ → List ℕ → List ℕ
rows_of [] picks inners = []
rows_of (o ∷ owners) [] inners = []
rows_of (o ∷ owners) (p ∷ picks) [] = []
rows_of (o ∷ owners) (p ∷ picks) (i ∷ inners) = o ∷ p ∷ slice_index BEGINS p ∷ i ∷ rows_of owners picks inners

t_numbers : CELL_NUMBERS ≡ rows_of OWNERS PICKS INNERS
t_numbers = refl

rows-at : (owners picks inners : List ℕ) (k : ℕ) → k < length owners → k < length picks → k < length inners →
    let numbers = rows_of owners picks inners in
    (get_or numbers (4 * k + 0) 0 ≡ get_or owners k 0) × (get_or numbers (4 * k + 1) 0 ≡ get_or picks k 0) ×
    (get_or numbers (4 * k + 2) 0 ≡ slice_index BEGINS (get_or picks k 0)) × (get_or numbers (4 * k + 3) 0 ≡ get_or inners k 0)
rows-at [] picks inners k a b c = absurd (omega arith)
rows-at (o ∷ owners) [] inners k a b c = absurd (omega arith)
rows-at (o ∷ owners) (p ∷ picks) [] k a b c = absurd (omega arith)
rows-at (o ∷ owners) (p ∷ picks) (i ∷ inners) zero a b c = (refl, refl, refl, refl)
rows-at (o ∷ owners) (p ∷ picks) (i ∷ inners) (suc k) a b c =
    let h = rows-at owners picks inners k (omega arith) (omega arith) (omega arith) in
    let all = o ∷ p ∷ slice_index BEGINS p ∷ i ∷ rows_of owners picks inners in
    let e0 : 4 * suc k + 0 ≡ suc (suc (suc (suc (4 * k + 0)))) = omega arith in
    let e1 : 4 * suc k + 1 ≡ suc (suc (suc (suc (4 * k + 1)))) = omega arith in
    let e2 : 4 * suc k + 2 ≡ suc (suc (suc (suc (4 * k + 2)))) = omega arith in
    let e3 : 4 * suc k + 3 ≡ suc (suc (suc (suc (4 * k + 3)))) = omega arith in (
      ap (λ (x : ℕ). get_or all x 0) e0 ∙ h.0,
      ap (λ (x : ℕ). get_or all x 0) e1 ∙ h.1,
      ap (λ (x : ℕ). get_or all x 0) e2 ∙ h.2,
      ap (λ (x : ℕ). get_or all x 0) e3 ∙ h.3,
    )

pub owner_number : (cell : ℕ) → cell < 2856 → slice_index CELL_NUMBERS (4 * cell + 0) ≡ owner_in cell
unfolding owner_in
owner_number cell lt = ap (λ (x : List ℕ). slice_index x (4 * cell + 0)) t_numbers ∙ (rows-at OWNERS PICKS INNERS cell lt lt lt).0

pub pick_number : (cell : ℕ) → cell < 2856 → slice_index CELL_NUMBERS (4 * cell + 1) ≡ pick_in cell
unfolding pick_in
pick_number cell lt = ap (λ (x : List ℕ). slice_index x (4 * cell + 1)) t_numbers ∙ (rows-at OWNERS PICKS INNERS cell lt lt lt).1

pub begin_number : (cell : ℕ) → cell < 2856 → slice_index CELL_NUMBERS (4 * cell + 2) ≡ begin_in (pick_in cell)
unfolding begin_in pick_in
begin_number cell lt = ap (λ (x : List ℕ). slice_index x (4 * cell + 2)) t_numbers ∙ (rows-at OWNERS PICKS INNERS cell lt lt lt).2

pub inner_number : (cell : ℕ) → cell < 2856 → slice_index CELL_NUMBERS (4 * cell + 3) ≡ inner_in cell
unfolding inner_in
inner_number cell lt = ap (λ (x : List ℕ). slice_index x (4 * cell + 3)) t_numbers ∙ (rows-at OWNERS PICKS INNERS cell lt lt lt).3

-- the production in a cell
pub cell_choice : {k cell : ℕ} {symbol : Symbol} (c : IsCellOf k symbol cell) → k ≤ 410 → IsOwnChoice c.n k (pick_in cell) (begin_in (pick_in cell))
unfolding picked picked_by begin_in owner_in row_in pick_in
cell_choice {k = k} {cell = cell} c le =
    let within : cell < 2856 = omega (arith, at_most_at 2445 ROWS c.n t_rows, c.at) in
    let own : slice_index OWNERS (slice_index ROWS c.n + k) ≡ c.n = ap (slice_index OWNERS) (sym c.at) ∙ c.owned in
    let same : (slice_index OWNERS (slice_index ROWS c.n + k) == c.n) ≡ true = eq-eqb _ _ own in
    let here : picked c.n k ≡ slice_index PICKS (slice_index ROWS c.n + k) = rw same refl in
    let is : slice_index PICKS cell ≡ picked c.n k = ap (slice_index PICKS) c.at ∙ sym here in
    let ok = subst (λ (x : ℕ). own_ok x (slice_index PICKS cell) ≡ true) c.owned (cells-at own_ok OWNERS PICKS cell t_owns within within) in
    let both = own_parts c.n (slice_index PICKS cell) c.low ok in
    record {
      low = both.0;
      is_picked = is;
      rule = picked-rule c.n k (slice_index PICKS cell) (rest_at (slice_index BEGINS (slice_index PICKS cell))) c.low le is (has_begin _ both.0);
      some = both.1;
    }

-- the cell of what a body begins with
abbrev inner_ok : ℕ → ℕ → ℕ → ℕ → Bool
inner_ok k n p inner =
    nat_le 165 n || (nat_le 2856 inner || (let s = slice_index SYMBOLS (slice_index BEGINS p) in
    nat_lt s 165 && (slice_index OWNERS inner == s && (slice_index ROWS s + k == inner + slice_index ROWS n))))

abbrev inners_ok : ℕ → List ℕ → List ℕ → List ℕ → Bool
inners_ok k [] picks inners = true
inners_ok k (n ∷ owners) [] inners = true
inners_ok k (n ∷ owners) (p ∷ picks) [] = true
inners_ok k (n ∷ owners) (p ∷ picks) (i ∷ inners) = inner_ok k n p i && inners_ok (suc k) owners picks inners

t_inners : inners_ok 0 OWNERS PICKS INNERS ≡ true
t_inners = refl

inners-at : (from : ℕ) (owners picks inners : List ℕ) (k : ℕ) → inners_ok from owners picks inners ≡ true →
    k < length owners → k < length picks → k < length inners → inner_ok (from + k) (get_or owners k 0) (get_or picks k 0) (get_or inners k 0) ≡ true
inners-at from [] picks inners k e a b c = absurd (omega arith)
inners-at from (n ∷ owners) [] inners k e a b c = absurd (omega arith)
inners-at from (n ∷ owners) (p ∷ picks) [] k e a b c = absurd (omega arith)
inners-at from (n ∷ owners) (p ∷ picks) (i ∷ inners) zero e a b c =
    let here : from ≡ from + 0 = omega arith in
    subst (λ (x : ℕ). inner_ok x n p i ≡ true) here (and_parts (inner_ok from n p i) (inners_ok (suc from) owners picks inners) e).0
inners-at from (n ∷ owners) (p ∷ picks) (i ∷ inners) (suc k) e a b c =
    let there : suc from + k ≡ from + suc k = omega arith in
    subst (λ (x : ℕ). inner_ok x (get_or owners k 0) (get_or picks k 0) (get_or inners k 0) ≡ true) there
    (inners-at (suc from) owners picks inners k (and_parts (inner_ok from n p i) (inners_ok (suc from) owners picks inners) e).1 (omega arith) (omega arith) (omega arith))

nonterminal_of : (x : ℕ) → x < 165 → symbol_of x ≡ Nonterminal x
nonterminal_of x lt = let low : nat_lt x 256 ≡ true = lt-ltb x 256 (omega arith) in rw low refl

inner_parts : (k n p inner : ℕ) → n < 165 → inner < 2856 → inner_ok k n p inner ≡ true →
    let s = slice_index SYMBOLS (slice_index BEGINS p) in (s < 165) × (slice_index OWNERS inner ≡ s) × (slice_index ROWS s + k ≡ inner + slice_index ROWS n)
inner_parts k n p inner lt within e =
    let s = slice_index SYMBOLS (slice_index BEGINS p) in
    let last = slice_index OWNERS inner == s && (slice_index ROWS s + k == inner + slice_index ROWS n) in
    ⊎_elim (λ h. let le : 165 ≤ n = leb-true 165 n h in absurd (omega arith))
    (λ h. ⊎_elim (λ h1. let le : 2856 ≤ inner = leb-true 2856 inner h1 in absurd (omega arith))
    (λ h1. let a = and_parts (nat_lt s 165) last h1 in
    let b = and_parts (slice_index OWNERS inner == s) (slice_index ROWS s + k == inner + slice_index ROWS n) a.1 in
    (ltb-true _ _ a.0, eqb-true _ _ b.0, eqb-true _ _ b.1))
    (or_parts (nat_le 2856 inner) (nat_lt s 165 && last) h))
    (or_parts (nat_le 165 n) (nat_le 2856 inner || (nat_lt s 165 && last)) e)

pub cell_inner : {k cell : ℕ} {symbol : Symbol} → IsCellOf k symbol cell → k ≤ 410 → inner_in cell < 2856 →
    IsCellOf k (symbol_in (begin_in (pick_in cell))) (inner_in cell)
unfolding symbol_in begin_in owner_in row_in pick_in inner_in
cell_inner {k = k} {cell = cell} c le inner =
    let within : cell < 2856 = omega (arith, at_most_at 2445 ROWS c.n t_rows, c.at) in
    let zeroed : 0 + cell ≡ cell = omega arith in
    let ok0 = subst (λ (x : ℕ). inner_ok x (slice_index OWNERS cell) (slice_index PICKS cell) (slice_index INNERS cell) ≡ true) zeroed
    (inners-at 0 OWNERS PICKS INNERS cell t_inners within within within) in
    let ok = subst (λ (x : ℕ). inner_ok cell x (slice_index PICKS cell) (slice_index INNERS cell) ≡ true) c.owned ok0 in
    let parts = inner_parts cell c.n (slice_index PICKS cell) (slice_index INNERS cell) c.low inner ok in
    let s = slice_index SYMBOLS (slice_index BEGINS (slice_index PICKS cell)) in
    record {
      n = s;
      low = parts.0;
      is = nonterminal_of s parts.0;
      at = omega (arith, parts.2, c.at);
      owned = parts.1;
    }

-- ---- where a nonterminal has no cell

pub fallback_rule : (n p : ℕ) → n < 165 → p ≡ fallback_of n → p < 641 → IsChoice n p (begin_in p)
unfolding fallback_of begin_in
fallback_rule n p lt is low =
    let ok = all_below-at (λ m. head_ok m (slice_index FALLBACKS m)) 165 t_fallbacks n lt in
    let head : slice_index HEADS p ≡ n =
    ap (slice_index HEADS) is ∙ head-is n (slice_index FALLBACKS n) ok lt (subst (λ (x : ℕ). x < 641) is low) in
    has_begin p low ∙ ap (λ (x : ℕ). Some (rule_of x (rest_at (slice_index BEGINS p)))) head

-- ---- the rests at places

pub rest_at_past : (k : ℕ) → 887 ≤ k → rest_at k ≡ []
unfolding rest_at
rest_at_past k le = body_in-past SYMBOLS NEXTS k le

pub joined-push : (places : List ℕ) (place : ℕ) → joined (places ++ place ∷ []) ≡ rest_at place ++ joined places
joined-push places place = ap (λ (x : List ℕ). flat_map rest_at x) (reverse-append places (place ∷ []))

module _ (numbers nexts : List ℕ) (all : length numbers ≡ 887) (each : length nexts ≡ 887) where
  chosen : (b : Bool) (xs ys : List Symbol) → (b ≡ true → xs ≡ ys) → (if b then xs else ys) ≡ ys
  chosen true xs ys h = h refl
  chosen false xs ys h = refl

  moved : (m k : ℕ) → (m ≡ 887) ⊎ (m ≡ suc (0 + k)) →
      (if m == 887 then [] else body_in (drop (suc k) numbers) (drop (suc k) nexts)) ≡ body_in (drop m numbers) (drop m nexts)
  moved m k (inl e) = rw e (sym (body_in-past numbers nexts 887 (omega (arith, all))))
  moved m k (inr e) =
      let here : m ≡ suc k = e ∙ omega arith in
      rw here (chosen (suc k == 887) [] (body_in (drop (suc k) numbers) (drop (suc k) nexts))
      (λ h. sym (body_in-past numbers nexts (suc k) (omega (arith, all, eqb-true (suc k) 887 h)))))

  pub body_in-next : (k : ℕ) → are_nexts 0 nexts ≡ true → k < 887 →
      body_in (drop k numbers) (drop k nexts) ≡
      symbol_of (get_or numbers k 0) ∷ body_in (drop (get_or nexts k 0) numbers) (drop (get_or nexts k 0) nexts)
  body_in-next k e lt =
      body_in-step numbers nexts k (omega (arith, all)) (omega (arith, each)) ∙
      ap (λ (x : List Symbol). symbol_of (get_or numbers k 0) ∷ x) (moved (get_or nexts k 0) k (nexts-at 0 nexts k e (omega (arith, each))))

-- the rest at a place is the symbol there and the rest at the place behind it
pub rest_at-step : (k : ℕ) → k < 887 → rest_at k ≡ symbol_in k ∷ rest_at (behind_in k)
unfolding rest_at symbol_in behind_in
rest_at-step k lt = body_in-next SYMBOLS NEXTS refl refl k t_nexts lt
