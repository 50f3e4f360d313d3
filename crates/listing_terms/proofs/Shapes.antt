-- Shapes of arrays are read back.
use Rattle.std.proofs.Common.{◌≡◌, ℕ, zero, suc, ◌+◌, ◌<◌, ◌≤◌, ◌^◌, Bool, true, false, if◌then◌else◌, ℤ, pos, ◌+ℤ◌, ◌-ℤ◌, List, [], ◌∷◌, ◌++◌, map, drop, length, Option, None, Some, refl, ap, ◌∙◌, append-nil, arith}
use Rattle.std.proofs.lemmas.Bool.{and_parts, leb-true, ltb-true}
use Rattle.std.proofs.lemmas.Int.{ints}
use Rattle.std.specs.List.{list_all}
use lib.Signed.{mag}
use Rattle.ilasm_grammar.specs.declared.productions.TheConstants as p
use Rattle.il_lexer.specs.declared.word.TheConstants as word
use Rattle.assembly_tree.specs.WellFormedNames.{option_all}
use Rattle.assembly_tree.specs.WellFormedTerms.{is_shape, is_size, is_lower_bound}
use Rattle.source_model.specs.Forest as f
use Rattle.source_model.specs.Shapes as read
use Rattle.source_model.specs.Source.{Source}
use Rattle.source_model.specs.Types.{array}
use Rattle.source_model.specs.Values.{int_at, integer}
use Rattle.type_terms.specs.declared.term.SigType.{SigType, SzArray, Array}
use Rattle.listing_leaves.specs.Numbers as numbers
use Rattle.listing_model.specs.Shown.{Shown, none, Item, item, w, size, star_production, star_below}
use Rattle.listing_model.specs.Types.{bound, bound_opt, comma_bound, more_bounds, dimensions, shape, brackets, first}
use Rattle.listing_reading.specs.Numbered.{numbered, Agrees}
use Rattle.listing_values.specs.Laws.{NumbersAreRead}

-- ---- what is sought in a row of dimensions

-- the parts in a row of dimensions
abbrev in_row : List ℕ → ℕ → List (Option Item) → List f.Part
in_row sought at [] = []
in_row sought at (d ∷ ds) = f.parts sought (numbered (suc at) (bound_opt d none)) ++ in_row sought (at + size (comma_bound d).below) ds

-- what is in a row of dimensions, and what in none
abbrev nothing_in : List ℕ → List (Option Item) → Type 0
nothing_in sought [] = Unit {0}
nothing_in sought (d ∷ ds) = ((at : ℕ) → f.parts sought (numbered at (bound_opt d none)) ≡ []) × nothing_in sought ds

module _ (sought : List ℕ) (more : f.is_among sought p.COMMA_BOUND_STAR_MORE ≡ false) (end : f.is_among sought p.COMMA_BOUND_STAR_END ≡ false) (comma : f.is_among sought p.COMMA_BOUND ≡ false) where
  row_of : (ds : List (Option Item)) (at : ℕ) (after : f.Forest) →
      f.parts sought (f.branch (star_production p.COMMA_BOUND_STAR_MORE p.COMMA_BOUND_STAR_END (map comma_bound ds)) (numbered at (star_below p.COMMA_BOUND_STAR_MORE p.COMMA_BOUND_STAR_END (map comma_bound ds))) after)
      ≡ in_row sought at ds ++ f.parts sought after
  row_of [] at after = ap (λ (b : Bool). (if b then f.part p.COMMA_BOUND_STAR_END f.none ∷ [] else []) ++ f.parts sought after) end
  row_of (d ∷ ds) at after =
      let next = at + size (comma_bound d).below in
      let row = f.branch (star_production p.COMMA_BOUND_STAR_MORE p.COMMA_BOUND_STAR_END (map comma_bound ds)) (numbered next (star_below p.COMMA_BOUND_STAR_MORE p.COMMA_BOUND_STAR_END (map comma_bound ds))) f.none in
      let own = numbered at (comma_bound d).below in
      let inner = f.parts sought (numbered (suc at) (bound_opt d none)) in
      ap (λ (b : Bool). (if b then f.part p.COMMA_BOUND_STAR_MORE (f.branch p.COMMA_BOUND own row) ∷ [] else (if f.is_among sought p.COMMA_BOUND then f.part p.COMMA_BOUND own ∷ [] else inner) ++ f.parts sought row) ++ f.parts sought after) more
      ∙ (ap (λ (b : Bool). ((if b then f.part p.COMMA_BOUND own ∷ [] else inner) ++ f.parts sought row) ++ f.parts sought after) comma
      ∙ ap (λ ps. (inner ++ ps) ++ f.parts sought after) (row_of ds next f.none ∙ append-nil (in_row sought next ds)))

  -- the row with the bracket behind it
  behind_is : (ds : List (Option Item)) (at : ℕ) → f.parts sought (numbered at (more_bounds ds)) ≡ in_row sought at ds
  behind_is ds at =
      row_of ds at (numbered (at + size (star_below p.COMMA_BOUND_STAR_MORE p.COMMA_BOUND_STAR_END (map comma_bound ds))) (w word.CLOSE_BRACKET none))
      ∙ append-nil (in_row sought at ds)

  none_in_row : (ds : List (Option Item)) → nothing_in sought ds → (at : ℕ) → in_row sought at ds ≡ []
  none_in_row [] h at = refl
  none_in_row (d ∷ ds) h at =
      ap (λ ps. ps ++ in_row sought (at + size (comma_bound d).below) ds) (h.0 (suc at)) ∙ none_in_row ds h.1 (at + size (comma_bound d).below)

  none_behind : (ds : List (Option Item)) → nothing_in sought ds → (at : ℕ) → f.parts sought (numbered at (more_bounds ds)) ≡ []
  none_behind ds h at = behind_is ds at ∙ none_in_row ds h at

-- a dimension holds no whole shape
no_shape : (size_of : Option ℕ) (l : Option ℤ) (at : ℕ) → f.parts (p.SHAPE_CLOSE ∷ []) (numbered at (bound_opt (bound size_of l) none)) ≡ []
no_shape None None at = refl
no_shape (Some n) None at = refl
no_shape None (Some l) at = refl
no_shape (Some n) (Some l) at = refl

no_comma : (size_of : Option ℕ) (l : Option ℤ) (at : ℕ) → f.parts (p.SHAPE_COMMA ∷ []) (numbered at (bound_opt (bound size_of l) none)) ≡ []
no_comma None None at = refl
no_comma (Some n) None at = refl
no_comma None (Some l) at = refl
no_comma (Some n) (Some l) at = refl

no_shapes : (rank : ℕ) (sizes : List ℕ) (lower : List ℤ) → nothing_in (p.SHAPE_CLOSE ∷ []) (dimensions rank sizes lower)
no_shapes zero sizes lower = tt
no_shapes (suc rank) sizes lower = (no_shape (first sizes) (first lower), no_shapes rank (drop 1 sizes) (drop 1 lower))

no_commas : (rank : ℕ) (sizes : List ℕ) (lower : List ℤ) → nothing_in (p.SHAPE_COMMA ∷ []) (dimensions rank sizes lower)
no_commas zero sizes lower = tt
no_commas (suc rank) sizes lower = (no_comma (first sizes) (first lower), no_commas rank (drop 1 sizes) (drop 1 lower))

-- ---- the tokens of dimensions

abbrev bound_parts : List ℕ
bound_parts = p.BOUND_OPT_NONE ∷ p.BOUND_ELLIPSIS ∷ p.BOUND_INT ∷ []

-- those of a dimension of this size and lower bound whose first token is this one
abbrev tokens_at : ℕ → Option ℕ → Option ℤ → read.Bound
tokens_at at None None = record { lower = None; size = None }
tokens_at at (Some n) None = record { lower = None; size = Some at }
tokens_at at None (Some l) = record { lower = Some at; size = None }
tokens_at at (Some n) (Some l) = record { lower = Some at; size = Some (suc (suc at)) }

abbrev rest_tokens : ℕ → ℕ → List ℕ → List ℤ → List read.Bound
rest_tokens at zero sizes lower = []
rest_tokens at (suc rank) sizes lower =
    tokens_at (suc at) (first sizes) (first lower)
    ∷ rest_tokens (at + size (comma_bound (bound (first sizes) (first lower))).below) rank (drop 1 sizes) (drop 1 lower)

-- the one part that a dimension is
one_part : (size_of : Option ℕ) (l : Option ℤ) (at : ℕ) →
    (q : f.Part) × (f.parts bound_parts (numbered at (bound_opt (bound size_of l) none)) ≡ q ∷ []) × (read.bound q ≡ tokens_at at size_of l)
one_part None None at = (f.part p.BOUND_OPT_NONE f.none, refl, refl)
one_part (Some n) None at = (f.part p.BOUND_INT _, refl, refl)
one_part None (Some l) at = (f.part p.BOUND_INT _, refl, refl)
one_part (Some n) (Some l) at = (f.part p.BOUND_INT _, refl, refl)

row_tokens : (rank : ℕ) (sizes : List ℕ) (lower : List ℤ) (at : ℕ) → map read.bound (in_row bound_parts at (dimensions rank sizes lower)) ≡ rest_tokens at rank sizes lower
row_tokens zero sizes lower at = refl
row_tokens (suc rank) sizes lower at =
    let one = one_part (first sizes) (first lower) (suc at) in
    let next = at + size (comma_bound (bound (first sizes) (first lower))).below in
    let others = in_row bound_parts next (dimensions rank (drop 1 sizes) (drop 1 lower)) in
    ap (λ ps. map read.bound (ps ++ others)) one.1
    ∙ (ap (λ b. b ∷ map read.bound others) one.2 ∙ ap (λ bs. tokens_at (suc at) (first sizes) (first lower) ∷ bs) (row_tokens rank (drop 1 sizes) (drop 1 lower) next))

-- ---- what they tell

small_size : (k : ℕ) → is_size k ≡ true → k < 2 ^ 128
small_size k h = let low = ltb-true k 0x20000000 h in omega arith

small_bound : (l : ℤ) → is_lower_bound l ≡ true → mag l < 2 ^ 127
small_bound l h = grind (arith, h)

small_upper : (l : ℤ) (k : ℕ) → is_lower_bound l ≡ true → is_size k ≡ true → mag ((l +ℤ pos k) -ℤ pos 1) < 2 ^ 127
small_upper l k h s = grind (arith, h, s)

same_size : (l : ℤ) (n : ℕ) → (((l +ℤ pos n) -ℤ pos 1) -ℤ l) +ℤ pos 1 ≡ pos n
same_size l n = omega (arith, ints)

first_passes : {X : Type 0} (t : X → Bool) (xs : List X) → list_all t xs ≡ true → option_all t (first xs) ≡ true
first_passes t [] h = refl
first_passes t (x ∷ xs) h = (and_parts (t x) (list_all t xs) h).0

others_pass : {X : Type 0} (t : X → Bool) (xs : List X) → list_all t xs ≡ true → list_all t (drop 1 xs) ≡ true
others_pass t [] h = refl
others_pass t (x ∷ xs) h = (and_parts (t x) (list_all t xs) h).1

fewer : {X : Type 0} (xs : List X) (n : ℕ) → length xs ≤ suc n → length (drop 1 xs) ≤ n
fewer [] n h = omega arith
fewer (x ∷ xs) n h = omega arith

none_left : (n : ℕ) → suc n ≤ 0 → ⊥
none_left n h = grind (arith, h)

module _ (s : Source) where
  abbrev SizeIs : Option ℕ → Option ℕ → Option ℕ → Type 0
  SizeIs lower None None = Unit {0}
  SizeIs lower (Some k) (Some n) = read.natural (read.size_value s lower k) ≡ n
  SizeIs lower None (Some n) = ⊥
  SizeIs lower (Some k) None = ⊥

  abbrev LowerIs : Option ℕ → Option ℤ → Type 0
  LowerIs None None = Unit {0}
  LowerIs (Some k) (Some l) = int_at s k ≡ l
  LowerIs None (Some l) = ⊥
  LowerIs (Some k) None = ⊥

  -- the tokens are those of dimensions with these sizes and lower bounds
  abbrev Tells : List read.Bound → ℕ → List ℕ → List ℤ → Type 0
  Tells [] zero sizes lower = Unit {0}
  Tells [] (suc rank) sizes lower = ⊥
  Tells (b ∷ bs) zero sizes lower = ⊥
  Tells (b ∷ bs) (suc rank) sizes lower = SizeIs b.lower b.size (first sizes) × LowerIs b.lower (first lower) × Tells bs rank (drop 1 sizes) (drop 1 lower)

  length_told : (bs : List read.Bound) (rank : ℕ) (sizes : List ℕ) (lower : List ℤ) → Tells bs rank sizes lower → length bs ≡ rank
  length_told [] zero sizes lower h = refl
  length_told [] (suc rank) sizes lower h = absurd h
  length_told (b ∷ bs) zero sizes lower h = absurd h
  length_told (b ∷ bs) (suc rank) sizes lower h = ap (λ k. suc k) (length_told bs rank (drop 1 sizes) (drop 1 lower) h.2)

  no_size : (lower size_of : Option ℕ) (more : List ℕ) → SizeIs lower size_of None → read.size_then s lower size_of more ≡ []
  no_size lower None more h = refl
  no_size lower (Some k) more h = absurd h

  one_size : (lower size_of : Option ℕ) (n : ℕ) (more : List ℕ) → SizeIs lower size_of (Some n) → read.size_then s lower size_of more ≡ n ∷ more
  one_size lower None n more h = absurd h
  one_size lower (Some k) n more h = ap (λ x. x ∷ more) h

  sizes_told : (bs : List read.Bound) (rank : ℕ) (sizes : List ℕ) (lower : List ℤ) → Tells bs rank sizes lower → length sizes ≤ rank → read.sizes s bs ≡ sizes
  sizes_told [] zero [] lower h few = refl
  sizes_told [] zero (n ∷ ns) lower h few = absurd (none_left (length ns) few)
  sizes_told [] (suc rank) sizes lower h few = absurd h
  sizes_told (b ∷ bs) zero sizes lower h few = absurd h
  sizes_told (b ∷ bs) (suc rank) [] lower h few = no_size b.lower b.size (read.sizes s bs) h.0
  sizes_told (b ∷ bs) (suc rank) (n ∷ ns) lower h few =
      one_size b.lower b.size n (read.sizes s bs) h.0 ∙ ap (λ ks. n ∷ ks) (sizes_told bs rank ns (drop 1 lower) h.2 (fewer (n ∷ ns) rank few))

  no_lower : (low : Option ℕ) → LowerIs low None → read.lower_then s low [] ≡ []
  no_lower None h = refl
  no_lower (Some k) h = absurd h

  one_lower : (low : Option ℕ) (l : ℤ) (more : List ℤ) → LowerIs low (Some l) → read.lower_then s low more ≡ l ∷ more
  one_lower None l more h = absurd h
  one_lower (Some k) l more h = ap (λ x. x ∷ more) h

  lower_told : (bs : List read.Bound) (rank : ℕ) (sizes : List ℕ) (lower : List ℤ) → Tells bs rank sizes lower → length lower ≤ rank → read.lower_bounds s bs ≡ lower
  lower_told [] zero sizes [] h few = refl
  lower_told [] zero sizes (l ∷ ls) h few = absurd (none_left (length ls) few)
  lower_told [] (suc rank) sizes lower h few = absurd h
  lower_told (b ∷ bs) zero sizes lower h few = absurd h
  lower_told (b ∷ bs) (suc rank) sizes [] h few =
      ap (read.lower_then s b.lower) (lower_told bs rank (drop 1 sizes) [] h.2 (fewer {X = ℤ} [] rank few)) ∙ no_lower b.lower h.1
  lower_told (b ∷ bs) (suc rank) sizes (l ∷ ls) h few =
      one_lower b.lower l (read.lower_bounds s bs) h.1 ∙ ap (λ ks. l ∷ ks) (lower_told bs rank (drop 1 sizes) ls h.2 (fewer (l ∷ ls) rank few))

module _ (laws : NumbersAreRead) (s : Source) where
  natural_at : (k n : ℕ) → is_size n ≡ true → (text : List ℕ) → text ≡ numbers.natural n → integer text ≡ pos n
  natural_at k n h text e = ap (λ t. integer t) e ∙ laws.natural n (small_size n h)

  integer_at : (z : ℤ) → mag z < 2 ^ 127 → (text : List ℕ) → text ≡ numbers.integer z → integer text ≡ z
  integer_at z h text e = ap (λ t. integer t) e ∙ laws.integer z h

  one_told : (size_of : Option ℕ) (l : Option ℤ) → option_all is_size size_of ≡ true → option_all is_lower_bound l ≡ true → (at : ℕ) →
      Agrees s at (bound_opt (bound size_of l) none) →
      SizeIs s (tokens_at at size_of l).lower (tokens_at at size_of l).size size_of × LowerIs s (tokens_at at size_of l).lower l
  one_told None None h k at ag = (tt, tt)
  one_told (Some n) None h k at ag = (ap (λ z. read.natural z) (natural_at at n h _ ag.0.0.0.text), tt)
  one_told None (Some l) h k at ag = (tt, integer_at l (small_bound l k) _ ag.0.0.0.text)
  one_told (Some n) (Some l) h k at ag =
      let low = integer_at l (small_bound l k) _ ag.0.0.0.text in
      let high = integer_at ((l +ℤ pos n) -ℤ pos 1) (small_upper l n k h) _ ag.0.0.1.0.0.1.0.0.text in (
        ap (λ z. read.natural ((z -ℤ int_at s at) +ℤ pos 1)) high
            ∙ (ap (λ z. read.natural ((((l +ℤ pos n) -ℤ pos 1) -ℤ z) +ℤ pos 1)) low ∙ ap (λ z. read.natural z) (same_size l n)),
        low,
      )

  row_told : (rank : ℕ) (sizes : List ℕ) (lower : List ℤ) → list_all is_size sizes ≡ true → list_all is_lower_bound lower ≡ true → (at : ℕ) →
      Agrees s at (star_below p.COMMA_BOUND_STAR_MORE p.COMMA_BOUND_STAR_END (map comma_bound (dimensions rank sizes lower))) →
      Tells s (rest_tokens at rank sizes lower) rank sizes lower
  row_told zero sizes lower h k at ag = tt
  row_told (suc rank) sizes lower h k at ag =
      let one = one_told (first sizes) (first lower) (first_passes is_size sizes h) (first_passes is_lower_bound lower k) (suc at) ag.0.1 in (
        one.0,
        one.1,
        row_told rank (drop 1 sizes) (drop 1 lower) (others_pass is_size sizes h) (others_pass is_lower_bound lower k)
            (at + size (comma_bound (bound (first sizes) (first lower))).below) ag.1.0,
      )

-- ---- whole shapes

array_of : (s : Source) (t : SigType) (bs : List read.Bound) (rank : ℕ) (sizes : List ℕ) (lower : List ℤ) → Tells s bs rank sizes lower →
    length sizes ≤ rank → length lower ≤ rank → (shape_of : f.Forest) → f.has p.SHAPE_CLOSE shape_of ≡ false → read.dimensions shape_of ≡ bs →
    array s shape_of t ≡ Array t rank sizes lower
array_of s t bs rank sizes lower h few less shape_of close are =
    ap (λ c. if c then SzArray t else Array t (length (read.dimensions shape_of)) (read.sizes s (read.dimensions shape_of)) (read.lower_bounds s (read.dimensions shape_of))) close
    ∙ (ap (λ ds. Array t (length ds) (read.sizes s ds) (read.lower_bounds s ds)) are
    ∙ (ap (λ k. Array t k (read.sizes s bs) (read.lower_bounds s bs)) (length_told s bs rank sizes lower h)
    ∙ (ap (λ ks. Array t rank ks (read.lower_bounds s bs)) (sizes_told s bs rank sizes lower h few)
    ∙ ap (λ ls. Array t rank sizes ls) (lower_told s bs rank sizes lower h less))))

-- a shape in brackets
abbrev pub in_brackets : ℕ → Item → f.Forest
in_brackets at i = f.leaf at (f.branch i.production (numbered (suc at) i.below) f.none)

-- a shape whose first dimension has a bound
abbrev bounded : Shown → ℕ → List ℕ → List ℤ → Item
bounded below rank sizes lower = shape (Some (item p.BOUND_INT below) ∷ dimensions rank sizes lower)

bound_closes : (at : ℕ) (below : Shown) (rank : ℕ) (sizes : List ℕ) (lower : List ℤ) → f.parts (p.SHAPE_CLOSE ∷ []) (numbered (suc at) below) ≡ [] →
    f.has p.SHAPE_CLOSE (in_brackets at (bounded below rank sizes lower)) ≡ false
bound_closes at below rank sizes lower h =
    let next = suc at + size below in
    ap (λ ps. f.is_any_part ((ps ++ f.parts (p.SHAPE_CLOSE ∷ []) (numbered next (more_bounds (dimensions rank sizes lower)))) ++ [])) h
    ∙ ap (λ ps. f.is_any_part (ps ++ [])) (none_behind (p.SHAPE_CLOSE ∷ []) refl refl refl (dimensions rank sizes lower) (no_shapes rank sizes lower) next)

no_comma_in : (at : ℕ) (below : Shown) (rank : ℕ) (sizes : List ℕ) (lower : List ℤ) → f.parts (p.SHAPE_COMMA ∷ []) (numbered (suc at) below) ≡ [] →
    f.has p.SHAPE_COMMA (in_brackets at (bounded below rank sizes lower)) ≡ false
no_comma_in at below rank sizes lower h =
    let next = suc at + size below in
    ap (λ ps. f.is_any_part ((ps ++ f.parts (p.SHAPE_COMMA ∷ []) (numbered next (more_bounds (dimensions rank sizes lower)))) ++ [])) h
    ∙ ap (λ ps. f.is_any_part (ps ++ [])) (none_behind (p.SHAPE_COMMA ∷ []) refl refl refl (dimensions rank sizes lower) (no_commas rank sizes lower) next)

bound_dimensions : (at : ℕ) (below : Shown) (rank : ℕ) (sizes : List ℕ) (lower : List ℤ) → f.parts (p.SHAPE_COMMA ∷ []) (numbered (suc at) below) ≡ [] →
    read.dimensions (in_brackets at (bounded below rank sizes lower))
    ≡ read.bound (f.part p.BOUND_INT (numbered (suc at) below)) ∷ rest_tokens (suc at + size below) rank sizes lower
bound_dimensions at below rank sizes lower h =
    let next = suc at + size below in
    let one = f.part p.BOUND_INT (numbered (suc at) below) in
    let whole = in_brackets at (bounded below rank sizes lower) in
    ap (λ c. if c then read.no_bound ∷ read.bounds_in whole else read.bounds_in whole) (no_comma_in at below rank sizes lower h)
    ∙ (ap (λ ps. map read.bound ((one ∷ ps) ++ [])) (behind_is bound_parts refl refl refl (dimensions rank sizes lower) next)
    ∙ (ap (map read.bound) (append-nil (one ∷ in_row bound_parts next (dimensions rank sizes lower)))
    ∙ ap (λ bs. read.bound one ∷ bs) (row_tokens rank sizes lower next)))

-- a shape whose first dimension has none, and which has others
abbrev unbounded : ℕ → Item
unbounded rank = shape (None ∷ None ∷ dimensions rank [] [])

open_closes : (at rank : ℕ) → f.has p.SHAPE_CLOSE (in_brackets at (unbounded rank)) ≡ false
open_closes at rank =
    ap (λ ps. f.is_any_part (ps ++ [])) (none_behind (p.SHAPE_CLOSE ∷ []) refl refl refl (dimensions rank [] []) (no_shapes rank [] []) (suc (suc at) + 0))

open_dimensions : (at rank : ℕ) → read.dimensions (in_brackets at (unbounded rank)) ≡ read.no_bound ∷ read.no_bound ∷ rest_tokens (suc (suc at) + 0) rank [] []
open_dimensions at rank =
    let past = suc (suc at) + 0 in
    let one = f.part p.BOUND_OPT_NONE f.none in
    ap (λ ps. read.no_bound ∷ map read.bound ((one ∷ ps) ++ [])) (behind_is bound_parts refl refl refl (dimensions rank [] []) past)
    ∙ (ap (λ ps. read.no_bound ∷ map read.bound ps) (append-nil (one ∷ in_row bound_parts past (dimensions rank [] [])))
    ∙ ap (λ bs. read.no_bound ∷ read.no_bound ∷ bs) (row_tokens rank [] [] past))

-- what a shape meets
pub record IsFine (rank : ℕ) (sizes : List ℕ) (lower : List ℤ) : Type 0 where
  pub some : 1 ≤ rank
  pub few_sizes : length sizes ≤ rank
  pub few_bounds : length lower ≤ rank
  pub small : list_all is_size sizes ≡ true
  pub near : list_all is_lower_bound lower ≡ true

fine : (rank : ℕ) (sizes : List ℕ) (lower : List ℤ) → is_shape rank sizes lower ≡ true → IsFine rank sizes lower
fine rank sizes lower h =
    let a = and_parts _ _ h in
    let b = and_parts _ _ a.0 in
    let c = and_parts _ _ b.0 in
    let d = and_parts _ _ c.0 in
    let e = and_parts _ _ d.0 in
    record { some = leb-true 1 rank e.0; few_sizes = leb-true (length sizes) rank d.1; few_bounds = leb-true (length lower) rank c.1; small = b.1; near = a.1 }

abbrev below_of : Option Item → Shown
below_of None = none
below_of (Some i) = i.below

module _ (laws : NumbersAreRead) (s : Source) (t : SigType) where
  with_bound : (below : Shown) (tokens : read.Bound) (rank : ℕ) (sizes : List ℕ) (lower : List ℤ) → IsFine (suc rank) sizes lower → (at : ℕ) →
      f.parts (p.SHAPE_CLOSE ∷ []) (numbered (suc at) below) ≡ [] → f.parts (p.SHAPE_COMMA ∷ []) (numbered (suc at) below) ≡ [] →
      read.bound (f.part p.BOUND_INT (numbered (suc at) below)) ≡ tokens →
      SizeIs s tokens.lower tokens.size (first sizes) → LowerIs s tokens.lower (first lower) →
      Agrees s (suc at + size below) (more_bounds (dimensions rank (drop 1 sizes) (drop 1 lower))) →
      array s (in_brackets at (bounded below rank (drop 1 sizes) (drop 1 lower))) t ≡ Array t (suc rank) sizes lower
  with_bound below tokens rank sizes lower h at no_close no_comma is size_is lower_is ag =
      let next = suc at + size below in
      let others = row_told laws s rank (drop 1 sizes) (drop 1 lower) (others_pass is_size sizes h.small) (others_pass is_lower_bound lower h.near) next ag.0 in
      array_of s t (tokens ∷ rest_tokens next rank (drop 1 sizes) (drop 1 lower)) (suc rank) sizes lower (size_is, lower_is, others) h.few_sizes h.few_bounds
      (in_brackets at (bounded below rank (drop 1 sizes) (drop 1 lower)))
      (bound_closes at below rank (drop 1 sizes) (drop 1 lower) no_close)
      (bound_dimensions at below rank (drop 1 sizes) (drop 1 lower) no_comma ∙ ap (λ b. b ∷ rest_tokens next rank (drop 1 sizes) (drop 1 lower)) is)

  by_shape : (rank : ℕ) (sizes : List ℕ) (lower : List ℤ) → IsFine rank sizes lower → (at : ℕ) →
      Agrees s at (brackets (shape (dimensions rank sizes lower))).below →
      array s (in_brackets at (shape (dimensions rank sizes lower))) t ≡ Array t rank sizes lower
  by_shape zero sizes lower h at ag = absurd (none_left 0 h.some)
  by_shape (suc zero) [] [] h at ag = array_of s t (read.no_bound ∷ []) 1 [] [] (tt, tt, tt) h.few_sizes h.few_bounds (in_brackets at (shape (dimensions 1 [] []))) refl refl
  by_shape (suc (suc r)) [] [] h at ag =
      array_of s t (read.no_bound ∷ read.no_bound ∷ rest_tokens (suc (suc at) + 0) r [] []) (suc (suc r)) [] []
      (tt, tt, (tt, tt, row_told laws s r [] [] refl refl (suc (suc at) + 0) ag.1.0.1.1.0)) h.few_sizes h.few_bounds
      (in_brackets at (unbounded r)) (open_closes at r) (open_dimensions at r)
  by_shape (suc r) (n ∷ ns) [] h at ag =
      let one = one_told laws s (Some n) None (first_passes is_size (n ∷ ns) h.small) refl (suc at) ((ag.1.0.0, tt), tt) in
      with_bound (below_of (bound (Some n) None)) (tokens_at (suc at) (Some n) None) r (n ∷ ns) [] h at refl refl refl one.0 one.1 ag.1.0.1
  by_shape (suc r) [] (l ∷ ls) h at ag =
      let one = one_told laws s None (Some l) refl (first_passes is_lower_bound (l ∷ ls) h.near) (suc at) ((ag.1.0.0, tt), tt) in
      with_bound (below_of (bound None (Some l))) (tokens_at (suc at) None (Some l)) r [] (l ∷ ls) h at refl refl refl one.0 one.1 ag.1.0.1
  by_shape (suc r) (n ∷ ns) (l ∷ ls) h at ag =
      let one = one_told laws s (Some n) (Some l) (first_passes is_size (n ∷ ns) h.small) (first_passes is_lower_bound (l ∷ ls) h.near) (suc at) ((ag.1.0.0, tt), tt) in
      with_bound (below_of (bound (Some n) (Some l))) (tokens_at (suc at) (Some n) (Some l)) r (n ∷ ns) (l ∷ ls) h at refl refl refl one.0 one.1 ag.1.0.1

-- an array whose shape is well formed
pub array_read : NumbersAreRead → (s : Source) (t : SigType) (rank : ℕ) (sizes : List ℕ) (lower : List ℤ) → is_shape rank sizes lower ≡ true → (at : ℕ) →
    Agrees s at (brackets (shape (dimensions rank sizes lower))).below →
    array s (in_brackets at (shape (dimensions rank sizes lower))) t ≡ Array t rank sizes lower
array_read laws s t rank sizes lower h at ag = by_shape laws s t rank sizes lower (fine rank sizes lower h) at ag
