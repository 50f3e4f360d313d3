-- Types with those that they nest, read from the last row to the first (II.22.32).
use Rattle.std.proofs.Common.{◌≡◌, ℕ, zero, suc, ◌+◌, ◌-◌, ◌<◌, ◌≤◌, ◌⊎◌, inl, inr, Bool, false, cond, nat_eq, List, [], ◌∷◌, ◌++◌, filter, length, reverse, set, refl, sym, ◌∙◌, ap, subst, arith}
use Rattle.std.specs.Prelude.{slice_index_or}
use Rattle.std.specs.List.{range_with_len}
use Rattle.std.proofs.lemmas.Bool.{cases_eq, eq-eqb, ne_eqb}
use Rattle.std.proofs.lemmas.List.{get_or-set_same, get_or-set_other, length-set, reverse-append}
use Rattle.std.proofs.lemmas.List.Elements.{filter-append}
use Rattle.assembly_tree.specs.declared.typedef.TypeDef.{TypeDef}
use Rattle.assembly_tree.specs.declared.typedef.TypeDef.TheViews.{out-TypeDef}
use Rattle.body_codec.specs.Names.{NameMap}
use Rattle.image_model.specs.Columns.{nested_class, enclosing_class}
use Rattle.image_model.specs.Reading.{IsTypeButNested, IsType, AreTypes}
use Rattle.image_model.specs.Rows.{count_of, HasRow, enclosing, types_in}
use Rattle.image_model.specs.Structure.{HasScopes}
use Rattle.image_trees.specs.Lists.{AreEmpty}
use Rattle.row_groups.proofs.Enclosing.{enclosed}

-- ---- what encloses a type stands before it

abbrev pub StandBefore : List ℕ → Type 0
StandBefore image = (row : ℕ) → HasRow image 0x02 row → enclosing image row < row

pub enclosing_before : (image : List ℕ) → ((table row : ℕ) → HasScopes image table row) → StandBefore image
enclosing_before image scopes row there = elim (enclosed image row) [
  | inl top ↦ let z = top.0 in let s = there.0 in omega arith
  | inr under ↦
      let n = (scopes 0x29 under.0).nesting refl under.1 in
      let b : enclosing_class image under.0 < nested_class image under.0 = n.before in
      let e : nested_class image under.0 ≡ row = under.2 in
      let f : enclosing image row ≡ enclosing_class image under.0 = under.4 in
      omega (arith, b, e, f)
]

-- ---- rows that stand behind one another

range_splits : (a m n : ℕ) → range_with_len a (m + n) ≡ range_with_len a m ++ range_with_len (a + m) n
range_splits a zero n = let e : a ≡ a + 0 = omega arith in let z : 0 + n ≡ n = omega arith in ap (range_with_len a) z ∙ ap (λ (k : ℕ). range_with_len k n) e
range_splits a (suc m) n =
    let e : a + 1 + m ≡ a + suc m = omega arith in
    let s : suc m + n ≡ suc (m + n) = omega arith in
    ap (range_with_len a) s ∙ ap (λ (l : List ℕ). a ∷ l) (range_splits (a + 1) m n ∙ ap (λ (k : ℕ). range_with_len (a + 1) m ++ range_with_len k n) e)

none_pass : (test : ℕ → Bool) (a n : ℕ) → ((k : ℕ) → a ≤ k → k < a + n → test k ≡ false) → filter test (range_with_len a n) ≡ []
none_pass test a zero f = refl
none_pass test a (suc n) f =
    ap (λ (b : Bool). cond b (a ∷ filter test (range_with_len (a + 1) n)) (filter test (range_with_len (a + 1) n))) (f a (omega arith) (omega arith))
    ∙ none_pass test (a + 1) n (λ k from less. f k (omega arith) (omega arith))

-- ---- the lists of the types behind a row

-- the types behind a row that a type encloses
abbrev pub under : List ℕ → (outer row : ℕ) → List ℕ
under image outer row = filter (λ t. nat_eq (enclosing image t) outer) (range_with_len (row + 1) (count_of image 0x02 - row))

-- they hold the types behind a row, those of one encloser in one list, the last first
pub record HoldTypes (image : List ℕ) (names : NameMap) (row : ℕ) (lists : List (List TypeDef)) : Type 0 where
  pub some : 1 ≤ row
  pub upto : row ≤ count_of image 0x02
  pub long : length lists ≡ count_of image 0x02 + 1
  pub each : (outer : ℕ) → outer ≤ row → AreTypes image names (under image outer row) (reverse (slice_index_or lists outer []))

pub hold_none : (image : List ℕ) (names : NameMap) (row : ℕ) (lists : List (List TypeDef)) → row ≡ count_of image 0x02 → 1 ≤ row → AreEmpty (row + 1) lists → HoldTypes image names row lists
hold_none image names row lists last some empty = record {
  some = some;
  upto = omega arith;
  long = (let l = empty.0 in omega arith);
  each = λ outer low.
      let none : count_of image 0x02 - row ≡ 0 = omega arith in
      let e : under image outer row ≡ [] = ap (λ (n : ℕ). filter (λ t. nat_eq (enclosing image t) outer) (range_with_len (row + 1) n)) none in
      subst (λ (rows : List ℕ). AreTypes image names rows (reverse (slice_index_or lists outer []))) (sym e)
      (subst (λ (ts : List TypeDef). AreTypes image names [] ts) (sym (ap reverse (empty.1 outer))) AreTypes.none);
}

module _ (image : List ℕ) (names : NameMap) (before : StandBefore image) where
  -- all that a type encloses stand behind it
  all_behind : (row : ℕ) → 1 ≤ row → row ≤ count_of image 0x02 → types_in image row ≡ under image row row
  unfolding types_in
  all_behind row some upto =
      let test : ℕ → Bool = λ t. nat_eq (enclosing image t) row in
      let e : count_of image 0x02 - 1 ≡ (row - 1) + (count_of image 0x02 - row) = omega arith in
      let s : 2 + (row - 1) ≡ row + 1 = omega arith in
      ap (λ (n : ℕ). filter test (range_with_len 2 n)) e
      ∙ ap (filter test) (range_splits 2 (row - 1) (count_of image 0x02 - row))
      ∙ filter-append test (range_with_len 2 (row - 1)) (range_with_len (2 + (row - 1)) (count_of image 0x02 - row))
      ∙ ap (λ (l : List ℕ). l ++ filter test (range_with_len (2 + (row - 1)) (count_of image 0x02 - row)))
      (none_pass test 2 (row - 1) (λ k from less. ne_eqb (enclosing image k) row (λ is. let l = before k (omega arith, omega arith) in omega (arith, l, is))))
      ∙ ap (λ (k : ℕ). filter test (range_with_len k (count_of image 0x02 - row))) s

  nested_types : (row : ℕ) (lists : List (List TypeDef)) → HoldTypes image names row lists → AreTypes image names (types_in image row) (reverse (slice_index_or lists row []))
  nested_types row lists h =
      subst (λ (rows : List ℕ). AreTypes image names rows (reverse (slice_index_or lists row []))) (sym (all_behind row h.some h.upto)) (h.each row (omega arith))

  pub top_types : (row : ℕ) (lists : List (List TypeDef)) → row < 2 → HoldTypes image names row lists → AreTypes image names (types_in image 0) (reverse (slice_index_or lists 0 []))
  unfolding types_in
  top_types row lists low h =
      let one : row ≡ 1 = (let s = h.some in omega arith) in
      subst (λ (r : ℕ). AreTypes image names (filter (λ t. nat_eq (enclosing image t) 0) (range_with_len (r + 1) (count_of image 0x02 - r))) (reverse (slice_index_or lists 0 []))) one (h.each 0 (omega arith))

  -- one row less
  below_row : (outer row : ℕ) → 2 ≤ row → row ≤ count_of image 0x02
      → under image outer (row - 1) ≡ cond (nat_eq (enclosing image row) outer) (row ∷ under image outer row) (under image outer row)
  below_row outer row some upto =
      let a : row - 1 + 1 ≡ row = omega arith in
      let n : count_of image 0x02 - (row - 1) ≡ suc (count_of image 0x02 - row) = omega arith in
      ap (λ (k : ℕ). filter (λ t. nat_eq (enclosing image t) outer) (range_with_len k (count_of image 0x02 - (row - 1)))) a
      ∙ ap (λ (m : ℕ). filter (λ t. nat_eq (enclosing image t) outer) (range_with_len row m)) n

  one_more : (row : ℕ) (lists taken put : List (List TypeDef)) (t : TypeDef) → 2 ≤ row → HoldTypes image names row lists → taken ≡ set lists row [] → IsType image names row t
      → put ≡ set taken (enclosing image row) (slice_index_or taken (enclosing image row) [] ++ t ∷ []) → HoldTypes image names (row - 1) put
  one_more row lists taken put t some h e is f = record {
    some = omega arith;
    upto = let u = h.upto in omega arith;
    long = ap length f ∙ length-set taken (enclosing image row) (slice_index_or taken (enclosing image row) [] ++ t ∷ []) ∙ ap length e ∙ length-set lists row [] ∙ h.long;
    each = λ outer low. at outer low (cases_eq (enclosing image row) outer);
  }
    where
      up : row ≤ count_of image 0x02
      up = h.upto

      less : enclosing image row < row
      less = before row (omega arith, up)

      kept : (outer : ℕ) → outer < row → slice_index_or taken outer [] ≡ slice_index_or lists outer []
      kept outer low = ap (λ (l : List (List TypeDef)). slice_index_or l outer []) e ∙ get_or-set_other lists row outer [] [] (λ is. omega arith)

      at : (outer : ℕ) → outer ≤ row - 1 → (enclosing image row ≡ outer) ⊎ (enclosing image row ≡ outer → ⊥) → AreTypes image names (under image outer (row - 1)) (reverse (slice_index_or put outer []))
      at outer low (inl same) =
          let here : slice_index_or put (enclosing image row) [] ≡ slice_index_or taken (enclosing image row) [] ++ t ∷ []
          = ap (λ (l : List (List TypeDef)). slice_index_or l (enclosing image row) []) f ∙ get_or-set_same taken (enclosing image row) (slice_index_or taken (enclosing image row) [] ++ t ∷ []) [] (let l = ap length e ∙ length-set lists row [] ∙ h.long in omega (arith, l, less, up)) in
          let turned : reverse (slice_index_or put outer []) ≡ t ∷ reverse (slice_index_or lists outer [])
          = ap (λ (o : ℕ). reverse (slice_index_or put o [])) (sym same) ∙ ap reverse here ∙ reverse-append (slice_index_or taken (enclosing image row) []) (t ∷ []) ∙ ap (λ (l : List TypeDef). t ∷ reverse l) (kept (enclosing image row) less) ∙ ap (λ (o : ℕ). t ∷ reverse (slice_index_or lists o [])) same in
          let rows : under image outer (row - 1) ≡ row ∷ under image outer row
          = below_row outer row some up ∙ ap (λ (b : Bool). cond b (row ∷ under image outer row) (under image outer row)) (eq-eqb (enclosing image row) outer same) in
          subst (λ (rs : List ℕ). AreTypes image names rs (reverse (slice_index_or put outer []))) (sym rows) (subst (λ (ts : List TypeDef). AreTypes image names (row ∷ under image outer row) ts) (sym turned) (AreTypes.more is (h.each outer (omega arith))))
      at outer low (inr other) =
          let same : slice_index_or put outer [] ≡ slice_index_or lists outer []
          = ap (λ (l : List (List TypeDef)). slice_index_or l outer []) f ∙ get_or-set_other taken (enclosing image row) outer (slice_index_or taken (enclosing image row) [] ++ t ∷ []) [] (λ e. other (sym e)) ∙ kept outer (omega arith) in
          let rows : under image outer (row - 1) ≡ under image outer row
          = below_row outer row some up ∙ ap (λ (b : Bool). cond b (row ∷ under image outer row) (under image outer row)) (ne_eqb (enclosing image row) outer other) in
          subst (λ (rs : List ℕ). AreTypes image names rs (reverse (slice_index_or put outer []))) (sym rows) (subst (λ (ts : List TypeDef). AreTypes image names (under image outer row) ts) (sym (ap reverse same)) (h.each outer (omega arith)))

  -- one type more, put into the list of what encloses it
  pub one_put : (row outer : ℕ) (lists taken put : List (List TypeDef)) (inner nested : List TypeDef) (t : TypeDef) → 2 ≤ row → HoldTypes image names row lists
      → inner ≡ slice_index_or lists row [] → taken ≡ set lists row [] → nested ≡ reverse inner → IsTypeButNested image names row (out-TypeDef t) × ((out-TypeDef t).nested ≡ nested) → outer ≡ enclosing image row
      → put ≡ set taken outer (slice_index_or taken outer [] ++ t ∷ []) → HoldTypes image names (row - 1) put
  one_put row outer lists taken put inner nested t some h i e n is o f =
      let all : AreTypes image names (types_in image row) (out-TypeDef t).nested
      = subst (λ (ts : List TypeDef). AreTypes image names (types_in image row) ts) (sym (is.1 ∙ n ∙ ap reverse i)) (nested_types row lists h) in
      one_more row lists taken put t some h e (IsType.made is.0 all) (subst (λ (k : ℕ). put ≡ set taken k (slice_index_or taken k [] ++ t ∷ [])) o f)

  -- the place of the list of what encloses a type
  pub outer_place : (row outer : ℕ) (lists taken : List (List TypeDef)) → 2 ≤ row → HoldTypes image names row lists → taken ≡ set lists row [] → outer ≡ enclosing image row → outer < length taken
  outer_place row outer lists taken some h e o =
      let l = ap length e ∙ length-set lists row [] ∙ h.long in
      let u = h.upto in
      let b = before row (omega arith, u) in
      omega (arith, l, u, b, o)
