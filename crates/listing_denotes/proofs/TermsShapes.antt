-- Shapes of arrays break no rule.
use Rattle.std.proofs.Common.{◌≡◌, ℕ, zero, suc, ◌+◌, ◌<◌, ◌≤◌, ◌^◌, Bool, true, false, cond, if◌then◌else◌, ℤ, pos, negsuc, ◌+ℤ◌, ◌-ℤ◌, List, [], ◌∷◌, ◌++◌, map, filter, drop, length, slice_get, option_map, Option, None, Some, refl, ap, sym, subst, ◌∙◌, append-nil, arith}
use Rattle.std.proofs.lemmas.Bool.{and_parts, leb-true, ltb-true}
use Rattle.std.proofs.lemmas.Int.{ints}
use Rattle.std.specs.List.{list_all, flat_map}
use lib.Signed.{mag}
use Rattle.il_lexer.specs.declared.types.Token.{Token}
use Rattle.il_lexer.specs.declared.types.TokenKind.{TokenKind}
use Rattle.il_lexer.specs.declared.word.TheConstants as word
use Rattle.ilasm_grammar.specs.declared.productions.TheConstants as p
use Rattle.assembly_tree.specs.WellFormedNames.{option_all}
use Rattle.assembly_tree.specs.WellFormedTerms.{is_shape, is_size, is_lower_bound}
use Rattle.source_model.specs.Forest as f
use Rattle.source_model.specs.Shapes as read
use Rattle.source_model.specs.Source.{Source, is_word, is_word_numbered, word_number, word_of_token}
use Rattle.source_model.specs.TypeRules.{is_within, unless, size_out_of_range, bound_out_of_range, first_size, size_after_gap, comma_past_rank, shape_out_of_range}
use Rattle.source_model.specs.Values.{int_at, integer}
use Rattle.listing_leaves.specs.Numbers as numbers
use Rattle.listing_model.specs.Shown.{Shown, none, Item, item, w, size, star_production, star_below}
use Rattle.listing_model.specs.Types.{bound, bound_opt, comma_bound, more_bounds, dimensions, shape, brackets, first}
use Rattle.listing_reading.specs.Numbered.{numbered, kind_at, Agrees}
use Rattle.listing_values.specs.Laws.{NumbersAreRead}

-- ---- what is sought in a row of dimensions

-- the parts in a row of dimensions
abbrev in_row : List ℕ → ℕ → List (Option Item) → List f.Part
in_row sought at [] = []
in_row sought at (d ∷ ds) = f.parts sought (numbered (suc at) (bound_opt d none)) ++ in_row sought (at + size (comma_bound d).below) ds

-- what is in a row of dimensions, and what in none
abbrev nothing_in : List ℕ → List (Option Item) → Type 0
nothing_in sought [] = Unit {0}
nothing_in sought (d ∷ ds) = ((at : ℕ) → f.parts sought (numbered at (bound_opt d none)) ≡ []) × nothing_in sought ds

module _ (sought : List ℕ) (more : f.is_among sought p.COMMA_BOUND_STAR_MORE ≡ false) (end : f.is_among sought p.COMMA_BOUND_STAR_END ≡ false) (comma : f.is_among sought p.COMMA_BOUND ≡ false) where
  row_of : (ds : List (Option Item)) (at : ℕ) (after : f.Forest) →
      f.parts sought (f.branch (star_production p.COMMA_BOUND_STAR_MORE p.COMMA_BOUND_STAR_END (map comma_bound ds)) (numbered at (star_below p.COMMA_BOUND_STAR_MORE p.COMMA_BOUND_STAR_END (map comma_bound ds))) after)
      ≡ in_row sought at ds ++ f.parts sought after
  row_of [] at after = ap (λ (b : Bool). (if b then f.part p.COMMA_BOUND_STAR_END f.none ∷ [] else []) ++ f.parts sought after) end
  row_of (d ∷ ds) at after =
      let next = at + size (comma_bound d).below in
      let row = f.branch (star_production p.COMMA_BOUND_STAR_MORE p.COMMA_BOUND_STAR_END (map comma_bound ds)) (numbered next (star_below p.COMMA_BOUND_STAR_MORE p.COMMA_BOUND_STAR_END (map comma_bound ds))) f.none in
      let own = numbered at (comma_bound d).below in
      let inner = f.parts sought (numbered (suc at) (bound_opt d none)) in
      ap (λ (b : Bool). (if b then f.part p.COMMA_BOUND_STAR_MORE (f.branch p.COMMA_BOUND own row) ∷ [] else (if f.is_among sought p.COMMA_BOUND then f.part p.COMMA_BOUND own ∷ [] else inner) ++ f.parts sought row) ++ f.parts sought after) more
      ∙ (ap (λ (b : Bool). ((if b then f.part p.COMMA_BOUND own ∷ [] else inner) ++ f.parts sought row) ++ f.parts sought after) comma
      ∙ ap (λ ps. (inner ++ ps) ++ f.parts sought after) (row_of ds next f.none ∙ append-nil (in_row sought next ds)))

  -- the row with the bracket behind it
  behind_is : (ds : List (Option Item)) (at : ℕ) → f.parts sought (numbered at (more_bounds ds)) ≡ in_row sought at ds
  behind_is ds at =
      row_of ds at (numbered (at + size (star_below p.COMMA_BOUND_STAR_MORE p.COMMA_BOUND_STAR_END (map comma_bound ds))) (w word.CLOSE_BRACKET none))
      ∙ append-nil (in_row sought at ds)

  none_in_row : (ds : List (Option Item)) → nothing_in sought ds → (at : ℕ) → in_row sought at ds ≡ []
  none_in_row [] h at = refl
  none_in_row (d ∷ ds) h at =
      ap (λ ps. ps ++ in_row sought (at + size (comma_bound d).below) ds) (h.0 (suc at)) ∙ none_in_row ds h.1 (at + size (comma_bound d).below)

  none_behind : (ds : List (Option Item)) → nothing_in sought ds → (at : ℕ) → f.parts sought (numbered at (more_bounds ds)) ≡ []
  none_behind ds h at = behind_is ds at ∙ none_in_row ds h at

-- a dimension holds no shape that begins with a comma
no_comma : (size_of : Option ℕ) (l : Option ℤ) (at : ℕ) → f.parts (p.SHAPE_COMMA ∷ []) (numbered at (bound_opt (bound size_of l) none)) ≡ []
no_comma None None at = refl
no_comma (Some n) None at = refl
no_comma None (Some l) at = refl
no_comma (Some n) (Some l) at = refl

no_commas : (rank : ℕ) (sizes : List ℕ) (lower : List ℤ) → nothing_in (p.SHAPE_COMMA ∷ []) (dimensions rank sizes lower)
no_commas zero sizes lower = tt
no_commas (suc rank) sizes lower = (no_comma (first sizes) (first lower), no_commas rank (drop 1 sizes) (drop 1 lower))

-- ---- the tokens of dimensions

abbrev bound_parts : List ℕ
bound_parts = p.BOUND_OPT_NONE ∷ p.BOUND_ELLIPSIS ∷ p.BOUND_INT ∷ []

-- those of a dimension of this size and lower bound whose first token is this one
abbrev tokens_at : ℕ → Option ℕ → Option ℤ → read.Bound
tokens_at at None None = record { lower = None; size = None }
tokens_at at (Some n) None = record { lower = None; size = Some at }
tokens_at at None (Some l) = record { lower = Some at; size = None }
tokens_at at (Some n) (Some l) = record { lower = Some at; size = Some (suc (suc at)) }

abbrev rest_tokens : ℕ → ℕ → List ℕ → List ℤ → List read.Bound
rest_tokens at zero sizes lower = []
rest_tokens at (suc rank) sizes lower =
    tokens_at (suc at) (first sizes) (first lower)
    ∷ rest_tokens (at + size (comma_bound (bound (first sizes) (first lower))).below) rank (drop 1 sizes) (drop 1 lower)

-- the one part that a dimension is
one_part : (size_of : Option ℕ) (l : Option ℤ) (at : ℕ) →
    (q : f.Part) × (f.parts bound_parts (numbered at (bound_opt (bound size_of l) none)) ≡ q ∷ []) × (read.bound q ≡ tokens_at at size_of l)
one_part None None at = (f.part p.BOUND_OPT_NONE f.none, refl, refl)
one_part (Some n) None at = (f.part p.BOUND_INT _, refl, refl)
one_part None (Some l) at = (f.part p.BOUND_INT _, refl, refl)
one_part (Some n) (Some l) at = (f.part p.BOUND_INT _, refl, refl)

row_tokens : (rank : ℕ) (sizes : List ℕ) (lower : List ℤ) (at : ℕ) → map read.bound (in_row bound_parts at (dimensions rank sizes lower)) ≡ rest_tokens at rank sizes lower
row_tokens zero sizes lower at = refl
row_tokens (suc rank) sizes lower at =
    let one = one_part (first sizes) (first lower) (suc at) in
    let next = at + size (comma_bound (bound (first sizes) (first lower))).below in
    let others = in_row bound_parts next (dimensions rank (drop 1 sizes) (drop 1 lower)) in
    ap (λ ps. map read.bound (ps ++ others)) one.1
    ∙ (ap (λ b. b ∷ map read.bound others) one.2 ∙ ap (λ bs. tokens_at (suc at) (first sizes) (first lower) ∷ bs) (row_tokens rank (drop 1 sizes) (drop 1 lower) next))

-- ---- what they tell

small_size : (k : ℕ) → is_size k ≡ true → k < 2 ^ 128
small_size k h = let low = ltb-true k 0x20000000 h in omega arith

small_bound : (l : ℤ) → is_lower_bound l ≡ true → mag l < 2 ^ 127
small_bound l h = grind (arith, h)

small_upper : (l : ℤ) (k : ℕ) → is_lower_bound l ≡ true → is_size k ≡ true → mag ((l +ℤ pos k) -ℤ pos 1) < 2 ^ 127
small_upper l k h s = grind (arith, h, s)

same_size : (l : ℤ) (n : ℕ) → (((l +ℤ pos n) -ℤ pos 1) -ℤ l) +ℤ pos 1 ≡ pos n
same_size l n = omega (arith, ints)

first_passes : {X : Type 0} (t : X → Bool) (xs : List X) → list_all t xs ≡ true → option_all t (first xs) ≡ true
first_passes t [] h = refl
first_passes t (x ∷ xs) h = (and_parts (t x) (list_all t xs) h).0

others_pass : {X : Type 0} (t : X → Bool) (xs : List X) → list_all t xs ≡ true → list_all t (drop 1 xs) ≡ true
others_pass t [] h = refl
others_pass t (x ∷ xs) h = (and_parts (t x) (list_all t xs) h).1

fewer : {X : Type 0} (xs : List X) (n : ℕ) → length xs ≤ suc n → length (drop 1 xs) ≤ n
fewer [] n h = omega arith
fewer (x ∷ xs) n h = omega arith

none_left : (n : ℕ) → suc n ≤ 0 → ⊥
none_left n h = grind (arith, h)

-- a shape in brackets
abbrev pub in_brackets : ℕ → Item → f.Forest
in_brackets at i = f.leaf at (f.branch i.production (numbered (suc at) i.below) f.none)

-- a shape whose first dimension has a bound
abbrev bounded : Shown → ℕ → List ℕ → List ℤ → Item
bounded below rank sizes lower = shape (Some (item p.BOUND_INT below) ∷ dimensions rank sizes lower)

no_comma_in : (at : ℕ) (below : Shown) (rank : ℕ) (sizes : List ℕ) (lower : List ℤ) → f.parts (p.SHAPE_COMMA ∷ []) (numbered (suc at) below) ≡ [] →
    f.has p.SHAPE_COMMA (in_brackets at (bounded below rank sizes lower)) ≡ false
no_comma_in at below rank sizes lower h =
    let next = suc at + size below in
    ap (λ ps. f.is_any_part ((ps ++ f.parts (p.SHAPE_COMMA ∷ []) (numbered next (more_bounds (dimensions rank sizes lower)))) ++ [])) h
    ∙ ap (λ ps. f.is_any_part (ps ++ [])) (none_behind (p.SHAPE_COMMA ∷ []) refl refl refl (dimensions rank sizes lower) (no_commas rank sizes lower) next)

bound_dimensions : (at : ℕ) (below : Shown) (rank : ℕ) (sizes : List ℕ) (lower : List ℤ) → f.parts (p.SHAPE_COMMA ∷ []) (numbered (suc at) below) ≡ [] →
    read.dimensions (in_brackets at (bounded below rank sizes lower))
    ≡ read.bound (f.part p.BOUND_INT (numbered (suc at) below)) ∷ rest_tokens (suc at + size below) rank sizes lower
bound_dimensions at below rank sizes lower h =
    let next = suc at + size below in
    let one = f.part p.BOUND_INT (numbered (suc at) below) in
    let whole = in_brackets at (bounded below rank sizes lower) in
    ap (λ c. if c then read.no_bound ∷ read.bounds_in whole else read.bounds_in whole) (no_comma_in at below rank sizes lower h)
    ∙ (ap (λ ps. map read.bound ((one ∷ ps) ++ [])) (behind_is bound_parts refl refl refl (dimensions rank sizes lower) next)
    ∙ (ap (map read.bound) (append-nil (one ∷ in_row bound_parts next (dimensions rank sizes lower)))
    ∙ ap (λ bs. read.bound one ∷ bs) (row_tokens rank sizes lower next)))

-- a shape whose first dimension has none, and which has others
abbrev unbounded : ℕ → Item
unbounded rank = shape (None ∷ None ∷ dimensions rank [] [])

open_dimensions : (at rank : ℕ) → read.dimensions (in_brackets at (unbounded rank)) ≡ read.no_bound ∷ read.no_bound ∷ rest_tokens (suc (suc at) + 0) rank [] []
open_dimensions at rank =
    let past = suc (suc at) + 0 in
    let one = f.part p.BOUND_OPT_NONE f.none in
    ap (λ ps. read.no_bound ∷ map read.bound ((one ∷ ps) ++ [])) (behind_is bound_parts refl refl refl (dimensions rank [] []) past)
    ∙ (ap (λ ps. read.no_bound ∷ map read.bound ps) (append-nil (one ∷ in_row bound_parts past (dimensions rank [] [])))
    ∙ ap (λ bs. read.no_bound ∷ read.no_bound ∷ bs) (row_tokens rank [] [] past))

-- what a shape meets
pub record IsFine (rank : ℕ) (sizes : List ℕ) (lower : List ℤ) : Type 0 where
  pub some : 1 ≤ rank
  pub few_sizes : length sizes ≤ rank
  pub few_bounds : length lower ≤ rank
  pub small : list_all is_size sizes ≡ true
  pub near : list_all is_lower_bound lower ≡ true

fine : (rank : ℕ) (sizes : List ℕ) (lower : List ℤ) → is_shape rank sizes lower ≡ true → IsFine rank sizes lower
fine rank sizes lower h =
    let a = and_parts _ _ h in
    let b = and_parts _ _ a.0 in
    let c = and_parts _ _ b.0 in
    let d = and_parts _ _ c.0 in
    let e = and_parts _ _ d.0 in
    record { some = leb-true 1 rank e.0; few_sizes = leb-true (length sizes) rank d.1; few_bounds = leb-true (length lower) rank c.1; small = b.1; near = a.1 }

-- ---- numbers in their ranges

unless_none : (test : ℤ → Bool) (s : Source) (k : ℕ) (z : ℤ) → int_at s k ≡ z → test z ≡ true → unless test s k ≡ []
unless_none test s k z e t = ap (λ (c : Bool). if c then [] else k ∷ []) (ap test e ∙ t)

size_within : (n : ℕ) → is_size n ≡ true → is_within (pos 0) (pos 0x1FFFFFFF) (pos n) ≡ true
size_within n h = grind (arith, h)

no_faults : (xs ys : List ℕ) → xs ≡ [] → ys ≡ [] → (xs ++ ys) ≡ []
no_faults xs ys h k = ap (λ (zs : List ℕ). zs ++ ys) h ∙ k

module _ (laws : NumbersAreRead) (s : Source) where
  natural_at : (n : ℕ) → is_size n ≡ true → (text : List ℕ) → text ≡ numbers.natural n → integer text ≡ pos n
  natural_at n h text e = ap (λ t. integer t) e ∙ laws.natural n (small_size n h)

  integer_at : (z : ℤ) → mag z < 2 ^ 127 → (text : List ℕ) → text ≡ numbers.integer z → integer text ≡ z
  integer_at z h text e = ap (λ t. integer t) e ∙ laws.integer z h

  size_fits : (lower : Option ℕ) (k n : ℕ) → is_size n ≡ true → read.size_value s lower k ≡ pos n → size_out_of_range s lower (Some k) ≡ []
  size_fits lower k n h e = ap (λ (b : Bool). if b then [] else k ∷ []) (ap (is_within (pos 0) (pos 0x1FFFFFFF)) e ∙ size_within n h)

  one_fits : (size_of : Option ℕ) (l : Option ℤ) → option_all is_size size_of ≡ true → option_all is_lower_bound l ≡ true → (at : ℕ) →
      Agrees s at (bound_opt (bound size_of l) none) → bound_out_of_range s (tokens_at at size_of l) ≡ []
  one_fits None None h k at ag = refl
  one_fits (Some n) None h k at ag = size_fits None at n h (natural_at n h _ ag.0.0.0.text)
  one_fits None (Some l) h k at ag =
      no_faults _ [] (unless_none (is_within (negsuc 0xFFFFFFF) (pos 0xFFFFFFF)) s at l (integer_at l (small_bound l k) _ ag.0.0.0.text) k) refl
  one_fits (Some n) (Some l) h k at ag =
      let low = integer_at l (small_bound l k) _ ag.0.0.0.text in
      let high = integer_at ((l +ℤ pos n) -ℤ pos 1) (small_upper l n k h) _ ag.0.0.1.0.0.1.0.0.text in
      no_faults _ _ (unless_none (is_within (negsuc 0xFFFFFFF) (pos 0xFFFFFFF)) s at l low k)
      (size_fits (Some at) (suc (suc at)) n h (ap (λ (z : ℤ). (z -ℤ int_at s at) +ℤ pos 1) high ∙ (ap (λ (z : ℤ). (((l +ℤ pos n) -ℤ pos 1) -ℤ z) +ℤ pos 1) low ∙ same_size l n)))

  row_fits : (rank : ℕ) (sizes : List ℕ) (lower : List ℤ) → list_all is_size sizes ≡ true → list_all is_lower_bound lower ≡ true → (at : ℕ) →
      Agrees s at (star_below p.COMMA_BOUND_STAR_MORE p.COMMA_BOUND_STAR_END (map comma_bound (dimensions rank sizes lower))) →
      flat_map (bound_out_of_range s) (rest_tokens at rank sizes lower) ≡ []
  row_fits zero sizes lower h k at ag = refl
  row_fits (suc rank) sizes lower h k at ag =
      no_faults _ _ (one_fits (first sizes) (first lower) (first_passes is_size sizes h) (first_passes is_lower_bound lower k) (suc at) ag.0.1)
      (row_fits rank (drop 1 sizes) (drop 1 lower) (others_pass is_size sizes h) (others_pass is_lower_bound lower k)
      (at + size (comma_bound (bound (first sizes) (first lower))).below) ag.1.0)

-- ---- sizes are those of the first dimensions

no_size_of : (at : ℕ) (lower : Option ℤ) (bs : List read.Bound) → first_size (tokens_at at None lower ∷ bs) ≡ first_size bs
no_size_of at None bs = refl
no_size_of at (Some l) bs = refl

no_sizes : (rank : ℕ) (lower : List ℤ) (at : ℕ) → first_size (rest_tokens at rank [] lower) ≡ []
no_sizes zero lower at = refl
no_sizes (suc rank) lower at =
    no_size_of (suc at) (first lower) (rest_tokens (at + size (comma_bound (bound None (first lower))).below) rank [] (drop 1 lower))
    ∙ no_sizes rank (drop 1 lower) (at + size (comma_bound (bound None (first lower))).below)

gap_of : (at : ℕ) (lower : Option ℤ) (bs : List read.Bound) → first_size bs ≡ [] → size_after_gap (tokens_at at None lower ∷ bs) ≡ []
gap_of at None bs h = h
gap_of at (Some l) bs h = h

sized_of : (at n : ℕ) (lower : Option ℤ) (bs : List read.Bound) → size_after_gap (tokens_at at (Some n) lower ∷ bs) ≡ size_after_gap bs
sized_of at n None bs = refl
sized_of at n (Some l) bs = refl

no_gaps : (rank : ℕ) (sizes : List ℕ) (lower : List ℤ) (at : ℕ) → size_after_gap (rest_tokens at rank sizes lower) ≡ []
no_gaps zero sizes lower at = refl
no_gaps (suc rank) [] lower at =
    let next = at + size (comma_bound (bound None (first lower))).below in
    gap_of (suc at) (first lower) (rest_tokens next rank [] (drop 1 lower)) (no_sizes rank (drop 1 lower) next)
no_gaps (suc rank) (n ∷ ns) lower at =
    let next = at + size (comma_bound (bound (Some n) (first lower))).below in
    sized_of (suc at) n (first lower) (rest_tokens next rank ns (drop 1 lower)) ∙ no_gaps rank ns (drop 1 lower) next

-- ---- commas

is_not_comma : (s : Source) (k : ℕ) (kd : TokenKind) → kind_at s k ≡ Some kd → is_word_numbered word.COMMA (word_number kd) ≡ false → is_word s word.COMMA k ≡ false
is_not_comma s k kd h e = by (slice_get s.tokens k) h
  where
    by : (o : Option Token) → option_map (λ (t : Token). t.kind) o ≡ Some kd → is_word_numbered word.COMMA (word_of_token o) ≡ false
    by None i = absurd cc
    by (Some t) i = let same : t.kind ≡ kd = cc in ap (λ (x : TokenKind). is_word_numbered word.COMMA (word_number x)) same ∙ e

drop_none : (n : ℕ) (xs : List ℕ) → length xs ≤ n → drop n xs ≡ []
drop_none zero [] h = refl
drop_none zero (x ∷ xs) h = absurd (none_left (length xs) h)
drop_none (suc n) [] h = refl
drop_none (suc n) (x ∷ xs) h = drop_none n xs (omega arith)

module _ (s : Source) where
  abbrev one : ℕ → ℕ
  one k = if is_word s word.COMMA k then 1 else 0

  -- how many of these tokens are commas
  abbrev commas_in : List ℕ → ℕ
  commas_in [] = 0
  commas_in (k ∷ ks) = one k + commas_in ks

  at_most_one : (k : ℕ) → one k ≤ 1
  at_most_one k = by (is_word s word.COMMA k)
    where
      by : (b : Bool) → (if b then 1 else 0) ≤ 1
      by true = omega arith
      by false = omega arith

  filtered : (ks : List ℕ) → length (filter (is_word s word.COMMA) ks) ≡ commas_in ks
  filtered [] = refl
  filtered (k ∷ ks) = by (is_word s word.COMMA k) k (filter (is_word s word.COMMA) ks) (filtered ks)
    where
      by : (b : Bool) (j : ℕ) (js : List ℕ) → length js ≡ commas_in ks → length (cond b (j ∷ js) js) ≡ (if b then 1 else 0) + commas_in ks
      by true j js e = omega arith
      by false j js e = omega arith

  joined : (xs ys : List ℕ) → commas_in (xs ++ ys) ≡ commas_in xs + commas_in ys
  joined [] ys = omega arith
  joined (x ∷ xs) ys = let more = joined xs ys in omega arith

  none_at : (k : ℕ) (kd : TokenKind) → kind_at s k ≡ Some kd → is_word_numbered word.COMMA (word_number kd) ≡ false → one k ≡ 0
  none_at k kd h e = ap (λ (b : Bool). if b then 1 else 0) (is_not_comma s k kd h e)

  bound_commas : (size_of : Option ℕ) (l : Option ℤ) (at : ℕ) → Agrees s at (bound_opt (bound size_of l) none) →
      commas_in (f.tokens_of (numbered at (bound_opt (bound size_of l) none))) ≡ 0
  bound_commas None None at ag = refl
  bound_commas (Some n) None at ag = let a = none_at at _ ag.0.0.0.kind refl in omega arith
  bound_commas None (Some l) at ag =
      let a = none_at at _ ag.0.0.0.kind refl in
      let b = none_at (suc at) _ ag.0.0.1.0.0.0.kind refl in
      omega arith
  bound_commas (Some n) (Some l) at ag =
      let a = none_at at _ ag.0.0.0.kind refl in
      let b = none_at (suc at) _ ag.0.0.1.0.0.0.kind refl in
      let c = none_at (suc (suc at)) _ ag.0.0.1.0.0.1.0.0.kind refl in
      omega arith

  row_commas : (rank : ℕ) (sizes : List ℕ) (lower : List ℤ) (at : ℕ) →
      Agrees s at (star_below p.COMMA_BOUND_STAR_MORE p.COMMA_BOUND_STAR_END (map comma_bound (dimensions rank sizes lower))) →
      commas_in (f.tokens_of (numbered at (star_below p.COMMA_BOUND_STAR_MORE p.COMMA_BOUND_STAR_END (map comma_bound (dimensions rank sizes lower))))) ≤ rank
  row_commas zero sizes lower at ag = omega arith
  row_commas (suc rank) sizes lower at ag =
      let d = bound (first sizes) (first lower) in
      let next = at + size (comma_bound d).below in
      let here = f.tokens_of (numbered (suc at) (bound_opt d none)) in
      let others = f.tokens_of (numbered next (star_below p.COMMA_BOUND_STAR_MORE p.COMMA_BOUND_STAR_END (map comma_bound (dimensions rank (drop 1 sizes) (drop 1 lower))))) in
      let a = at_most_one at in
      let b = bound_commas (first sizes) (first lower) (suc at) ag.0.1 in
      let c = row_commas rank (drop 1 sizes) (drop 1 lower) next ag.1.0 in
      let j = joined (at ∷ here) (others ++ []) in
      let k = joined others [] in
      omega (arith, a, b, c, j, k)

  few_tokens : (ks : List ℕ) → commas_in ks ≤ length ks
  few_tokens [] = omega arith
  few_tokens (k ∷ ks) = let a = at_most_one k in let b = few_tokens ks in omega (arith, a, b)

  -- a shape breaks none where its dimensions don't, its sizes are those of the first, and it has at most 31 commas
  shape_by : (g : f.Forest) (ds : List read.Bound) → read.dimensions g ≡ ds → flat_map (bound_out_of_range s) ds ≡ [] → size_after_gap ds ≡ [] →
      commas_in (f.tokens_of g) ≤ 31 → shape_out_of_range s g ≡ []
  shape_by g ds e fits gaps few =
      let past : comma_past_rank (drop 31 (read.commas s g)) ≡ [] =
      ap comma_past_rank (drop_none 31 (read.commas s g) (subst (λ (n : ℕ). n ≤ 31) (sym (filtered (f.tokens_of g))) few)) in
      let all : (flat_map (bound_out_of_range s) (read.dimensions g) ++ size_after_gap (read.dimensions g) ++ comma_past_rank (drop 31 (read.commas s g))) ≡ [] =
      no_faults _ _ (no_faults _ _ (ap (λ (xs : List read.Bound). flat_map (bound_out_of_range s) xs) e ∙ fits) (ap size_after_gap e ∙ gaps)) past in
      by (read.is_vector g) _ all
    where
      by : (b : Bool) (xs : List ℕ) → xs ≡ [] → (if b then [] else xs) ≡ []
      by true xs h = refl
      by false xs h = h

  -- the commas of the dimensions behind the first
  behind_commas : (rank : ℕ) (sizes : List ℕ) (lower : List ℤ) (at : ℕ) → Agrees s at (more_bounds (dimensions rank sizes lower)) →
      commas_in (f.tokens_of (numbered at (more_bounds (dimensions rank sizes lower)))) ≤ rank
  behind_commas rank sizes lower at ag =
      let row = f.tokens_of (numbered at (star_below p.COMMA_BOUND_STAR_MORE p.COMMA_BOUND_STAR_END (map comma_bound (dimensions rank sizes lower)))) in
      let last = at + size (star_below p.COMMA_BOUND_STAR_MORE p.COMMA_BOUND_STAR_END (map comma_bound (dimensions rank sizes lower))) in
      let a = row_commas rank sizes lower at ag.0 in
      let b = none_at last _ ag.1.0.kind refl in
      let j = joined row (last ∷ []) in
      omega (arith, a, b, j)

-- ---- whole shapes

abbrev pub below_of : Option Item → Shown
below_of None = none
below_of (Some i) = i.below

module _ (laws : NumbersAreRead) (s : Source) where
  with_bound : (size_of : Option ℕ) (l : Option ℤ) (below : Shown) (rank : ℕ) (sizes : List ℕ) (lower : List ℤ) → IsFine (suc rank) sizes lower → suc rank ≤ 32 →
      (at : ℕ) → f.parts (p.SHAPE_COMMA ∷ []) (numbered (suc at) below) ≡ [] →
      read.bound (f.part p.BOUND_INT (numbered (suc at) below)) ≡ tokens_at (suc at) size_of l →
      bound_out_of_range s (tokens_at (suc at) size_of l) ≡ [] → size_after_gap (tokens_at (suc at) size_of l ∷ rest_tokens (suc at + size below) rank (drop 1 sizes) (drop 1 lower)) ≡ [] →
      commas_in s (f.tokens_of (numbered (suc at) below)) ≡ 0 → one s at ≡ 0 →
      Agrees s (suc at + size below) (more_bounds (dimensions rank (drop 1 sizes) (drop 1 lower))) →
      shape_out_of_range s (in_brackets at (bounded below rank (drop 1 sizes) (drop 1 lower))) ≡ []
  with_bound size_of l below rank sizes lower h few at no_commas_there is fits gaps quiet bracket ag =
      let next = suc at + size below in
      let others = row_fits laws s rank (drop 1 sizes) (drop 1 lower) (others_pass is_size sizes h.small) (others_pass is_lower_bound lower h.near) next ag.0 in
      let there = behind_commas s rank (drop 1 sizes) (drop 1 lower) next ag in
      let here = f.tokens_of (numbered (suc at) below) in
      let behind = f.tokens_of (numbered next (more_bounds (dimensions rank (drop 1 sizes) (drop 1 lower)))) in
      let j = joined s (at ∷ []) ((here ++ behind) ++ []) in
      let k = joined s (here ++ behind) [] in
      let m = joined s here behind in
      shape_by s (in_brackets at (bounded below rank (drop 1 sizes) (drop 1 lower))) (tokens_at (suc at) size_of l ∷ rest_tokens next rank (drop 1 sizes) (drop 1 lower))
      (bound_dimensions at below rank (drop 1 sizes) (drop 1 lower) no_commas_there ∙ ap (λ b. b ∷ rest_tokens next rank (drop 1 sizes) (drop 1 lower)) is)
      (no_faults _ _ fits others) gaps (omega (arith, j, k, m, quiet, bracket, there, few))

  by_shape : (rank : ℕ) (sizes : List ℕ) (lower : List ℤ) → IsFine rank sizes lower → rank ≤ 32 → (at : ℕ) → Agrees s at (brackets (shape (dimensions rank sizes lower))).below →
      shape_out_of_range s (in_brackets at (shape (dimensions rank sizes lower))) ≡ []
  by_shape zero sizes lower h few at ag = absurd (none_left 0 h.some)
  by_shape (suc zero) [] [] h few at ag =
      let all : commas_in s (f.tokens_of (in_brackets at (shape (dimensions 1 [] [])))) ≤ 3 = few_tokens s (f.tokens_of (in_brackets at (shape (dimensions 1 [] [])))) in
      shape_by s (in_brackets at (shape (dimensions 1 [] []))) (read.no_bound ∷ []) refl refl refl (omega (arith, all))
  by_shape (suc (suc r)) [] [] h few at ag =
      let past = suc (suc at) + 0 in
      let behind = f.tokens_of (numbered past (more_bounds (dimensions r [] []))) in
      let there = behind_commas s r [] [] past ag.1.0.1.1 in
      let bracket = none_at s at _ ag.0.kind refl in
      let first_one = at_most_one s (suc at) in
      let j = joined s (at ∷ []) ((suc at ∷ behind) ++ []) in
      let k = joined s (suc at ∷ behind) [] in
      shape_by s (in_brackets at (unbounded r)) (read.no_bound ∷ read.no_bound ∷ rest_tokens past r [] []) (open_dimensions at r) (row_fits laws s r [] [] refl refl past ag.1.0.1.1.0)
      (no_sizes r [] past) (omega (arith, there, bracket, first_one, j, k, few))
  by_shape (suc r) (n ∷ ns) [] h few at ag =
      let below = below_of (bound (Some n) None) in
      let there : Agrees s (suc at) (bound_opt (bound (Some n) None) none) = ((ag.1.0.0, tt), tt) in
      with_bound (Some n) None below r (n ∷ ns) [] h few at refl refl (one_fits laws s (Some n) None (first_passes is_size (n ∷ ns) h.small) refl (suc at) there)
      (sized_of (suc at) n None (rest_tokens (suc at + size below) r ns []) ∙ no_gaps r ns [] (suc at + size below)) (bound_commas s (Some n) None (suc at) there)
      (none_at s at _ ag.0.kind refl) ag.1.0.1
  by_shape (suc r) [] (l ∷ ls) h few at ag =
      let below = below_of (bound None (Some l)) in
      let there : Agrees s (suc at) (bound_opt (bound None (Some l)) none) = ((ag.1.0.0, tt), tt) in
      with_bound None (Some l) below r [] (l ∷ ls) h few at refl refl (one_fits laws s None (Some l) refl (first_passes is_lower_bound (l ∷ ls) h.near) (suc at) there)
      (gap_of (suc at) (Some l) (rest_tokens (suc at + size below) r [] ls) (no_sizes r ls (suc at + size below))) (bound_commas s None (Some l) (suc at) there)
      (none_at s at _ ag.0.kind refl) ag.1.0.1
  by_shape (suc r) (n ∷ ns) (l ∷ ls) h few at ag =
      let below = below_of (bound (Some n) (Some l)) in
      let there : Agrees s (suc at) (bound_opt (bound (Some n) (Some l)) none) = ((ag.1.0.0, tt), tt) in
      with_bound (Some n) (Some l) below r (n ∷ ns) (l ∷ ls) h few at refl refl
      (one_fits laws s (Some n) (Some l) (first_passes is_size (n ∷ ns) h.small) (first_passes is_lower_bound (l ∷ ls) h.near) (suc at) there)
      (sized_of (suc at) n (Some l) (rest_tokens (suc at + size below) r ns ls) ∙ no_gaps r ns ls (suc at + size below)) (bound_commas s (Some n) (Some l) (suc at) there)
      (none_at s at _ ag.0.kind refl) ag.1.0.1

few_dimensions : (rank : ℕ) (sizes : List ℕ) (lower : List ℤ) → is_shape rank sizes lower ≡ true → rank ≤ 32
few_dimensions rank sizes lower h =
    let a = and_parts _ _ h in
    let b = and_parts _ _ a.0 in
    let c = and_parts _ _ b.0 in
    let d = and_parts _ _ c.0 in
    let e = and_parts _ _ d.0 in
    leb-true rank 32 e.1

-- an array whose shape is well formed
pub shape_quiet : NumbersAreRead → (s : Source) (rank : ℕ) (sizes : List ℕ) (lower : List ℤ) → is_shape rank sizes lower ≡ true → (at : ℕ) →
    Agrees s at (brackets (shape (dimensions rank sizes lower))).below →
    shape_out_of_range s (in_brackets at (shape (dimensions rank sizes lower))) ≡ []
shape_quiet laws s rank sizes lower h at ag = by_shape laws s rank sizes lower (fine rank sizes lower h) (few_dimensions rank sizes lower h) at ag
