-- The interfaces of a type are those that its rows name, in the order of owners (ECMA-335 II.22.23).
use Rattle.std.proofs.Common.{◌≡◌, ap, refl, sym, subst, ℕ, true≢false, is_lt, List, [], ◌∷◌, Contains}
use Rattle.std.specs.Prelude.{IsTrue, slice_index}
use Rattle.std.specs.declared.cmp.Ordering.{Ordering}
use Rattle.std.specs.declared.cmp.Ordering.TheVariants.{Less, Equal, Greater}
use Rattle.std.proofs.lemmas.Bool.{and_parts}
use Rattle.std.proofs.lemmas.List.Sorted.{Contains-permutation, IsPermutation-sym}
use Rattle.assembly_tree.specs.WellFormedNames.{before_first, rises}
use Rattle.assembly_tree.specs.WellFormedTypes.{is_owner_before}
use Rattle.body_codec.specs.Names.{NameMap}
use Rattle.type_terms.specs.Order.{owner_order}
use Rattle.type_terms.specs.declared.term.Owner.{Owner}
use Rattle.image_tokens.specs.declared.references.References.{References}
use Rattle.image_members.specs.TypeIndexes.{IsTypeIndex}
use Rattle.image_model.specs.Columns.{interface_class, interface_type}
use Rattle.image_model.specs.Reading.{OwnerIs, Rising, AreInterfaces}
use Rattle.image_model.specs.Rows.{rows_with}
use Rattle.laws_image_parts.specs.ItemRows.{InterfacesOf}
use Rattle.laws_image_parts.specs.RowCells.{interface_cells}
use Rattle.laws_image_reading.proofs.parts.Lists.{contains_at, place_of, zip_left, zip_right}
use Rattle.laws_image_reading.proofs.parts.Tokens.{IsReader, owner_is, owner_one}

less_is : (o : Ordering) → IsTrue (is_lt o) → o ≡ Less
less_is Less h = refl
less_is Equal h = absurd (true≢false (sym h))
less_is Greater h = absurd (true≢false (sym h))

rising_is : (os : List Owner) → IsTrue (rises is_owner_before os) → Rising os
rising_is [] h = tt
rising_is (o ∷ []) h = tt
rising_is (o ∷ p ∷ os) h =
    let both = and_parts (before_first is_owner_before o (p ∷ os)) (rises is_owner_before (p ∷ os)) h in
    (less_is (owner_order o p) both.0, rising_is (p ∷ os) both.1)

module _ (r : References) (image : List ℕ) (names : NameMap) (s : IsReader r image names) (type : ℕ) (owners : List Owner) (h : InterfacesOf r image type owners) where
  abbrev rows : List ℕ
  rows = rows_with image 0x09 interface_class type

  abbrev IsIndex : ℕ → Owner → Type 0
  IsIndex index o = IsTypeIndex o r index

  abbrev HasIndex : ℕ → ℕ → Type 0
  HasIndex k index = interface_cells image k ≡ type ∷ index ∷ []

  -- a row that names an owner
  abbrev NamesIt : Owner → Type 0
  NamesIt owner = (row : ℕ) × Contains rows row × OwnerIs image names (interface_type image row) owner

  named_at : (row index : ℕ) (o : Owner) → HasIndex row index → IsTypeIndex o r index → OwnerIs image names (interface_type image row) o
  named_at row index o made is = owner_is r image names s o (interface_type image row) index is (ap (λ (cs : List ℕ). slice_index cs 1) made)

  has_row : (owner : Owner) → Contains owners owner → NamesIt owner
  has_row owner c =
      let place = place_of owners owner c in
      let index = zip_left IsIndex h.found owners place.0 owner h.each place.1 in
      let there = Contains-permutation h.found h.indexes index.0 h.same (contains_at h.found place.0 index.0 index.1) in
      let at = place_of h.indexes index.0 there in
      let row = zip_left HasIndex rows h.indexes at.0 index.0 h.rows at.1 in
      (row.0, contains_at rows at.0 row.0 row.1, named_at row.0 index.0 owner row.2 index.2)

  has_owner : (owner : Owner) → NamesIt owner → Contains owners owner
  has_owner owner n =
      let row = n.0 in
      let place = place_of rows row n.1 in
      let index = zip_right HasIndex rows h.indexes place.0 row h.rows place.1 in
      let there = Contains-permutation h.indexes h.found index.0 (IsPermutation-sym h.found h.indexes h.same) (contains_at h.indexes place.0 index.0 index.1) in
      let at = place_of h.found index.0 there in
      let other = zip_right IsIndex h.found owners at.0 index.0 h.each at.1 in
      let same : other.0 ≡ owner = owner_one r image names s (interface_type image row) other.0 owner (named_at row index.0 other.0 index.2 other.2) n.2 in
      subst (Contains owners) same (contains_at owners at.0 other.0 other.1)

  pub interfaces_are : IsTrue (rises is_owner_before owners) → AreInterfaces image names type owners
  interfaces_are rising = record { rising = rising_is owners rising; each = λ owner. (has_row owner, has_owner owner) }
