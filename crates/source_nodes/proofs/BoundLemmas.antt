-- The sizes and lower bounds of arrays, where they are in their ranges.
use Rattle.std.proofs.Common.{◌≡◌, ℕ, ◌+◌, ◌<◌, ◌≤◌, ◌^◌, List, [], ◌∷◌, ◌++◌, map, refl, ap, sym, subst, ◌∙◌, arith, Option, None, Some, append_assoc, append-nil}
use Rattle.std.specs.Prelude.{Bool, true, false, if◌then◌else◌, ℤ, pos, negsuc, ◌+ℤ◌, ◌-ℤ◌, ◌≤ℤ◌, int_le, is_some}
use Rattle.std.specs.List.{flat_map}
use Rattle.std.proofs.lemmas.Int.{ints}
use Rattle.source_model.specs.Shapes.{natural, lower_value, lower_then, lower_bounds, size_value, size_then, sizes}
use Rattle.source_model.specs.Source.{Source}
use Rattle.source_model.specs.TypeRules.{is_within, lower_out_of_range, size_out_of_range, bound_out_of_range}
use Rattle.source_model.specs.Values.{int_at}
use Rattle.source_nodes.specs.Dimensions.{bound_of, lower_of, AreInRange}
use Rattle.source_nodes.specs.Integers.{distance}
use Rattle.source_nodes.specs.declared.shapes.Dimension.{Dimension}
use Rattle.source_nodes.proofs.Empties.{nothing_in}
use Rattle.source_nodes.proofs.WrittenNames.{both_true}

is_none : (o : Option ℕ) → is_some o ≡ false → o ≡ None
is_none None e = refl
is_none (Some k) e = absurd cc

the_some : (o : Option ℕ) → is_some o ≡ true → (k : ℕ) × (o ≡ Some k)
the_some None e = absurd cc
the_some (Some k) e = (k, refl)

-- ---- ranges

holds : (c : Bool) (k : ℕ) → (if c then [] else k ∷ []) ≡ [] → c ≡ true
holds true k e = refl
holds false k e = absurd cc

between : (low high z : ℤ) → is_within low high z ≡ true → (low ≤ℤ z) × (z ≤ℤ high)
between low high z e = let both = both_true (int_le low z) (int_le z high) e in (grind (arith, ints), grind (arith, ints))

is_near : (n : ℕ) (z : ℤ) → negsuc n ≤ℤ z → z ≤ℤ pos n → distance z ≤ n + 1
is_near n (pos m) a b = omega (arith, ints)
is_near n (negsuc m) a b = omega (arith, ints)

module _ (s : Source) where
  lower_between : (k : ℕ) → lower_out_of_range s (Some k) ≡ [] → (negsuc 0xFFFFFFF ≤ℤ int_at s k) × (int_at s k ≤ℤ pos 0xFFFFFFF)
  lower_between k e = between (negsuc 0xFFFFFFF) (pos 0xFFFFFFF) (int_at s k) (holds (is_within (negsuc 0xFFFFFFF) (pos 0xFFFFFFF) (int_at s k)) k e)

  lower_near : (k : ℕ) → lower_out_of_range s (Some k) ≡ [] → distance (int_at s k) ≤ 2 ^ 28
  lower_near k e = let b = lower_between k e in is_near 0xFFFFFFF (int_at s k) b.0 b.1

  pub size_within : (lower : Option ℕ) (k : ℕ) → size_out_of_range s lower (Some k) ≡ [] → is_within (pos 0) (pos 0x1FFFFFFF) (size_value s lower k) ≡ true
  size_within lower k e = holds (is_within (pos 0) (pos 0x1FFFFFFF) (size_value s lower k)) k e

  -- ---- the number at the token

  pub lower_is : (k : ℕ) (z : ℤ) → lower_out_of_range s (Some k) ≡ [] → (distance (int_at s k) < 2 ^ 31 → z ≡ int_at s k) → z ≡ lower_value s (Some k)
  lower_is k z e is = let h = lower_near k e in is (omega (arith, h))

  pub whole_size : (k : ℕ) → size_out_of_range s None (Some k) ≡ [] → distance (int_at s k) < 2 ^ 31
  whole_size k e =
      let b = between (pos 0) (pos 0x1FFFFFFF) (int_at s k) (size_within None k e) in
      let h = is_near 0x1FFFFFFF (int_at s k) (omega (arith, ints)) b.1 in omega (arith, h)

  pub upper_near : (l k : ℕ) → lower_out_of_range s (Some l) ≡ [] → size_out_of_range s (Some l) (Some k) ≡ [] → distance (int_at s k) < 2 ^ 31
  upper_near l k lower size =
      let a = lower_between l lower in
      let b = between (pos 0) (pos 0x1FFFFFFF) ((int_at s k -ℤ int_at s l) +ℤ pos 1) (size_within (Some l) k size) in
      let h = is_near 0x3FFFFFFF (int_at s k) (omega (arith, ints)) (omega (arith, ints)) in omega (arith, h)

  pub spread_size : (l k size : ℕ) (first last : ℤ) → lower_out_of_range s (Some l) ≡ [] → size_out_of_range s (Some l) (Some k) ≡ []
      → (distance (int_at s l) < 2 ^ 31 → first ≡ int_at s l) → (distance (int_at s k) < 2 ^ 31 → last ≡ int_at s k)
      → (is_within (pos 0) (pos 0x1FFFFFFF) ((last -ℤ first) +ℤ pos 1) ≡ true → size ≡ natural ((last -ℤ first) +ℤ pos 1))
      → size ≡ natural (size_value s (Some l) k)
  spread_size l k size first last low within from to is =
      let h = lower_near l low in
      let same : (last -ℤ first) +ℤ pos 1 ≡ size_value s (Some l) k =
      ap (λ z. (z -ℤ first) +ℤ pos 1) (to (upper_near l k low within)) ∙ ap (λ z. (int_at s k -ℤ z) +ℤ pos 1) (from (omega (arith, h))) in
      is (ap (is_within (pos 0) (pos 0x1FFFFFFF)) same ∙ size_within (Some l) k within) ∙ ap natural same

  -- ---- all dimensions

  pub first_in_range : (d : Dimension) (ds : List Dimension) → AreInRange s (map bound_of (d ∷ ds))
      → (lower_out_of_range s d.lower ≡ []) × (size_out_of_range s d.lower d.size ≡ []) × AreInRange s (map bound_of ds)
  first_in_range d ds e =
      let both = nothing_in (bound_out_of_range s (bound_of d)) (flat_map (bound_out_of_range s) (map bound_of ds)) e in
      let own = nothing_in (lower_out_of_range s d.lower) (size_out_of_range s d.lower d.size) both.0 in
      (own.0, own.1, both.1)

  -- so far these sizes were found: with those of the rest they are all
  pub record Sized (whole : List Dimension) (left : List Dimension) (found : List ℕ) : Type 0 where
    pub in_range : AreInRange s (map bound_of left)
    pub same : found ++ sizes s (map bound_of left) ≡ sizes s (map bound_of whole)

  pub sized_start : (ds : List Dimension) (found : List ℕ) → AreInRange s (map bound_of ds) → found ≡ [] → Sized ds ds found
  sized_start ds found e none = record { in_range = e; same = ap (λ xs. xs ++ sizes s (map bound_of ds)) none }

  pub sized_more : (whole left rest : List Dimension) (d : Dimension) (found longer : List ℕ) (token size : ℕ) → left ≡ d ∷ rest → d.size ≡ Some token
      → (lower_out_of_range s d.lower ≡ [] → size_out_of_range s d.lower (Some token) ≡ [] → size ≡ natural (size_value s d.lower token)) → longer ≡ found ++ size ∷ []
      → Sized whole left found → Sized whole rest longer
  sized_more whole left rest d found longer token size is at value more sf =
      let r = first_in_range d rest (subst (λ ds. AreInRange s (map bound_of ds)) is sf.in_range) in
      let here : size ≡ natural (size_value s d.lower token) = value r.0 (subst (λ o. size_out_of_range s d.lower o ≡ []) at r.1) in
      record {
        in_range = r.2;
        same =
            ap (λ xs. xs ++ sizes s (map bound_of rest)) more ∙ append_assoc found (size ∷ []) (sizes s (map bound_of rest))
            ∙ ap (λ n. found ++ n ∷ sizes s (map bound_of rest)) here
            ∙ ap (λ o. found ++ size_then s d.lower o (sizes s (map bound_of rest))) (sym at)
            ∙ ap (λ ds. found ++ sizes s (map bound_of ds)) (sym is) ∙ sf.same;
      }

  pub sized_stop : (whole left rest : List Dimension) (d : Dimension) (found : List ℕ) → left ≡ d ∷ rest → d.size ≡ None → Sized whole left found
      → found ≡ sizes s (map bound_of whole)
  sized_stop whole left rest d found is at sf =
      sym (append-nil found) ∙ ap (λ o. found ++ size_then s d.lower o (sizes s (map bound_of rest))) (sym at)
      ∙ ap (λ ds. found ++ sizes s (map bound_of ds)) (sym is) ∙ sf.same

  pub sized_end : (whole left : List Dimension) (found : List ℕ) → left ≡ [] → Sized whole left found → found ≡ sizes s (map bound_of whole)
  sized_end whole left found is sf = sym (append-nil found) ∙ ap (λ ds. found ++ sizes s (map bound_of ds)) (sym is) ∙ sf.same

  -- ---- lower bounds

  in_range_front : (xs ys : List Dimension) → AreInRange s (map bound_of (xs ++ ys)) → AreInRange s (map bound_of xs)
  in_range_front [] ys e = refl
  in_range_front (d ∷ xs) ys e =
      let both = nothing_in (bound_out_of_range s (bound_of d)) (flat_map (bound_out_of_range s) (map bound_of (xs ++ ys))) e in
      ap (λ ks. ks ++ flat_map (bound_out_of_range s) (map bound_of xs)) both.0 ∙ in_range_front xs ys both.1

  -- past the last that is given there is none
  none_given : (xs : List Dimension) (d : Dimension) → d.lower ≡ None → lower_bounds s (map bound_of (xs ++ d ∷ [])) ≡ lower_bounds s (map bound_of xs)
  none_given [] d e = ap (λ o. lower_then s o []) e
  none_given (x ∷ xs) d e = ap (lower_then s x.lower) (none_given xs d e)

  before_some : (o : Option ℕ) (z : ℤ) (zs : List ℤ) → lower_then s o (z ∷ zs) ≡ lower_value s o ∷ z ∷ zs
  before_some None z zs = refl
  before_some (Some k) z zs = refl

  -- and up to it there are all
  up_to_given : (xs : List Dimension) (d : Dimension) (k : ℕ) → d.lower ≡ Some k → lower_bounds s (map bound_of (xs ++ d ∷ [])) ≡ map (lower_of s) (xs ++ d ∷ [])
  up_to_given [] d k e = ap (λ o. lower_then s o []) e ∙ ap (λ o. lower_value s o ∷ []) (sym e)
  up_to_given (x ∷ []) d k e = ap (lower_then s x.lower) (up_to_given [] d k e) ∙ before_some x.lower (lower_of s d) []
  up_to_given (x ∷ y ∷ xs) d k e =
      ap (lower_then s x.lower) (up_to_given (y ∷ xs) d k e) ∙ before_some x.lower (lower_of s y) (map (lower_of s) (xs ++ d ∷ []))

  -- these dimensions at the front have the lower bounds of the whole
  abbrev pub Trimmed : List Dimension → List Dimension → Type 0
  Trimmed whole left = AreInRange s (map bound_of left) × (lower_bounds s (map bound_of whole) ≡ lower_bounds s (map bound_of left))

  pub trimmed_less : (whole left rest : List Dimension) (d : Dimension) → left ≡ rest ++ d ∷ [] → is_some d.lower ≡ false → Trimmed whole left → Trimmed whole rest
  trimmed_less whole left rest d is absent t = (
    in_range_front rest (d ∷ []) (subst (λ ds. AreInRange s (map bound_of ds)) is t.0),
    t.1 ∙ ap (λ ds. lower_bounds s (map bound_of ds)) is ∙ none_given rest d (is_none d.lower absent),
  )

  pub trimmed_at : (whole left rest : List Dimension) (d : Dimension) → left ≡ rest ++ d ∷ [] → is_some d.lower ≡ true → Trimmed whole left
      → AreInRange s (map bound_of left) × (lower_bounds s (map bound_of whole) ≡ map (lower_of s) left)
  trimmed_at whole left rest d is given t =
      let k = the_some d.lower given in
      (t.0, t.1 ∙ ap (λ ds. lower_bounds s (map bound_of ds)) is ∙ up_to_given rest d k.0 k.1 ∙ ap (map (lower_of s)) (sym is))

  pub trimmed_end : (whole left : List Dimension) → left ≡ [] → Trimmed whole left
      → AreInRange s (map bound_of left) × (lower_bounds s (map bound_of whole) ≡ map (lower_of s) left)
  trimmed_end whole left is t = (t.0, t.1 ∙ ap (λ ds. lower_bounds s (map bound_of ds)) is ∙ ap (map (lower_of s)) (sym is))

  pub record Lowered (whole : List ℤ) (left : List Dimension) (found : List ℤ) : Type 0 where
    pub in_range : AreInRange s (map bound_of left)
    pub same : found ++ map (lower_of s) left ≡ whole

  pub lowered_more : (whole : List ℤ) (left rest : List Dimension) (d : Dimension) (found longer : List ℤ) (z : ℤ) → left ≡ d ∷ rest
      → (lower_out_of_range s d.lower ≡ [] → z ≡ lower_value s d.lower) → longer ≡ found ++ z ∷ [] → Lowered whole left found → Lowered whole rest longer
  lowered_more whole left rest d found longer z is value more sf =
      let r = first_in_range d rest (subst (λ ds. AreInRange s (map bound_of ds)) is sf.in_range) in
      record {
        in_range = r.2;
        same =
            ap (λ xs. xs ++ map (lower_of s) rest) more ∙ append_assoc found (z ∷ []) (map (lower_of s) rest)
            ∙ ap (λ y. found ++ y ∷ map (lower_of s) rest) (value r.0) ∙ ap (λ ds. found ++ map (lower_of s) ds) (sym is) ∙ sf.same;
      }

  pub lowered_end : (whole : List ℤ) (left : List Dimension) (found : List ℤ) → left ≡ [] → Lowered whole left found → found ≡ whole
  lowered_end whole left found is sf = sym (append-nil found) ∙ ap (λ ds. found ++ map (lower_of s) ds) (sym is) ∙ sf.same
