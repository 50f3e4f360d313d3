-- The parts of rows, and the first of different texts.
use Rattle.std.proofs.Common.{◌≡◌, ℕ, zero, suc, ◌+◌, ◌||◌, not, Bool, true, false, cond, if◌then◌else◌, List, [], ◌∷◌, ◌++◌, slice_get, Some, refl, ap, sym, subst, ◌∙◌, append-nil, arith}
use Rattle.std.proofs.lemmas.Bool.{and_parts, false≢true}
use Rattle.std.proofs.lemmas.Iterator.Adapters.{position_from-zero}
use Rattle.std.specs.Cmp.Lexicographic.{bytes_decides}
use Rattle.std.specs.List.{list_any, position_from}
use Rattle.std.specs.Str.{bytes_eq}
use Rattle.assembly_tree.specs.WellFormedNames.{all_differ}
use Rattle.source_model.specs.Forest as f
use Rattle.listing_model.specs.Shown.{Item, size, star_production, star_below}
use Rattle.listing_reading.specs.Laws.{RowsAreRead, FirstIsThere}
use Rattle.listing_reading.specs.Numbered.{numbered}
use Rattle.listing_reading.specs.Rows.{AreAmong, parts_at}

parts_of_row : (sought : List ℕ) (more end : ℕ) → f.is_among sought more ≡ false → f.is_among sought end ≡ false → (items : List Item) → AreAmong sought items →
    (at : ℕ) (after : f.Forest) →
    f.parts sought (f.branch (star_production more end items) (numbered at (star_below more end items)) after) ≡ parts_at at items ++ f.parts sought after
parts_of_row sought more end m e [] h at after = ap (λ (c : Bool). (if c then f.part end f.none ∷ [] else []) ++ f.parts sought after) e
parts_of_row sought more end m e (i ∷ is) h at after =
    let rest = f.parts sought (f.branch (star_production more end is) (numbered (at + size i.below) (star_below more end is)) f.none) in
    let own = numbered at i.below in
    ap (λ (c : Bool). (if c then f.part more (f.branch i.production own (f.branch (star_production more end is) (numbered (at + size i.below) (star_below more end is)) f.none)) ∷ []
    else (if f.is_among sought i.production then f.part i.production own ∷ [] else f.parts sought own) ++ rest) ++ f.parts sought after) m
    ∙ (ap (λ (c : Bool). ((if c then f.part i.production own ∷ [] else f.parts sought own) ++ rest) ++ f.parts sought after) h.0
    ∙ ap (λ ps. (f.part i.production own ∷ ps) ++ f.parts sought after) (parts_of_row sought more end m e is h.1 (at + size i.below) f.none ∙ append-nil _))

pub rows_are_read : RowsAreRead
rows_are_read = record { star = parts_of_row }

-- ---- different texts

own_text : (text : List ℕ) → bytes_eq text text ≡ true
own_text text = (bytes_decides text text).1 refl

-- a text that none of the others is equal to
no_other : (x : List ℕ) (xs : List (List ℕ)) (k : ℕ) (text : List ℕ) → list_any (bytes_eq x) xs ≡ false → slice_get xs k ≡ Some text → bytes_eq x text ≡ false
no_other x [] zero text h e = absurd cc
no_other x [] (suc k) text h e = absurd cc
no_other x (y ∷ ys) zero text h e =
    let same : y ≡ text = cc in subst (λ t. bytes_eq x t ≡ false) same (first_false (bytes_eq x y) (list_any (bytes_eq x) ys) h)
  where
    first_false : (a b : Bool) → (a || b) ≡ false → a ≡ false
    first_false true b g = g
    first_false false b g = refl
no_other x (y ∷ ys) (suc k) text h e = no_other x ys k text (second_false (bytes_eq x y) (list_any (bytes_eq x) ys) h) e
  where
    second_false : (a b : Bool) → (a || b) ≡ false → b ≡ false
    second_false true b g = absurd (false≢true (sym g))
    second_false false b g = g

not_true : (b : Bool) → not b ≡ true → b ≡ false
not_true false h = refl
not_true true h = absurd (false≢true h)

there_from : (j : ℕ) (texts : List (List ℕ)) → all_differ bytes_eq texts ≡ true → (k : ℕ) (text : List ℕ) → slice_get texts k ≡ Some text →
    position_from (λ other. bytes_eq other text) j texts ≡ Some (j + k)
there_from j [] d zero text e = absurd cc
there_from j [] d (suc k) text e = absurd cc
there_from j (x ∷ xs) d zero text e =
    let same : x ≡ text = cc in
    let at : j ≡ j + 0 = omega arith in
    ap (λ (c : Bool). cond c (Some j) (position_from (λ other. bytes_eq other text) (j + 1) xs)) (subst (λ t. bytes_eq x t ≡ true) same (own_text x)) ∙ ap (λ i. Some i) at
there_from j (x ∷ xs) d (suc k) text e =
    let ds = and_parts (not (list_any (bytes_eq x) xs)) (all_differ bytes_eq xs) d in
    let at : (j + 1) + k ≡ j + suc k = omega arith in
    ap (λ (c : Bool). cond c (Some j) (position_from (λ other. bytes_eq other text) (j + 1) xs)) (no_other x xs k text (not_true _ ds.0) e)
    ∙ (there_from (j + 1) xs ds.1 k text e ∙ ap (λ i. Some i) at)

first_there : FirstIsThere
first_there texts d k text e =
    let at : 0 + k ≡ k = omega arith in position_from-zero (λ other. bytes_eq other text) texts ∙ there_from 0 texts d k text e ∙ ap (λ i. Some i) at

pub first_is_there : FirstIsThere
first_is_there = first_there
