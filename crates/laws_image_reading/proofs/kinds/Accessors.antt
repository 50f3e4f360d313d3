-- Accessors are methods of the type whose property or event they serve (ECMA-335 II.22.28).
use Rattle.std.proofs.Common.{◌≡◌, ap, sym, subst, ℕ, ◌+◌, ◌-◌, ◌<◌, ◌≤◌, List, [], ◌∷◌, length, Some, Contains, arith}
use Rattle.std.specs.Prelude.{IsTrue, slice_get, slice_index}
use Rattle.std.specs.List.{AllByRecursion, AllZip, flat_map, list_all, range_with_len}
use Rattle.std.proofs.lemmas.Bool.{and_parts, ltb-true}
use Rattle.std.proofs.lemmas.List.Elements.{All-from_recursion}
use Rattle.metadata_tables.specs.declared.coded.Coded.TheVariants.{HasSemantics}
use Rattle.assembly_tree.specs.WellFormedMembers.{is_accessor_of}
use Rattle.assembly_tree.specs.declared.members.Accessor.{Accessor}
use Rattle.assembly_tree.specs.declared.members.Method.{Method}
use Rattle.image_members.specs.DeclaredMembers.{class_methods}
use Rattle.image_members.specs.Lists.{access_of}
use Rattle.image_rows.specs.SemanticsRows.{semantics_row}
use Rattle.image_members.specs.declared.classes.Class.{Class}
use Rattle.image_model.specs.Columns.{semantics_method}
use Rattle.image_model.specs.Members.{HasAccessors, semantics_of}
use Rattle.image_model.specs.Rows.{HasRow, count_of, first_method, index_of, methods_of, run_end}
use Rattle.laws_image_parts.specs.AtRows.{AtEach, IsItem}
use Rattle.laws_image_parts.specs.OwnedRows.{AccessorsOf}
use Rattle.laws_image_parts.specs.RowCells.{semantics_cells}
use Rattle.laws_image_parts.specs.RowsRead.{IsMade}
use Rattle.laws_image_parts.proofs.CellLemmas.{zip_long}
use Rattle.laws_image_reading.proofs.kinds.General.{all_at, before, beside, find_list, get_low, in_range, place_of, range_long, zip_all}

-- rows of methods that are among so many from a row on
abbrev IsAmong : ℕ → ℕ → ℕ × ℕ → Type 0
IsAmong first count x = (first ≤ x.1) × (x.1 < first + count)

access_among : (first count : ℕ) (xs : List Accessor) → IsTrue (list_all (is_accessor_of count) xs) → AllByRecursion (IsAmong first count) (access_of first xs)
access_among first count [] h = tt
access_among first count (x ∷ xs) h =
    let both = and_parts (is_accessor_of count x) (list_all (is_accessor_of count) xs) h in
    let low = ltb-true x.method count both.0 in
    ((omega arith, omega arith), access_among first count xs both.1)

-- the methods of a type have the rows from its first on
methods_has : (image : List ℕ) (type : ℕ) (all methods : List Method) → AllZip (IsItem all) (methods_of image type) methods → (row : ℕ)
    → first_method image type ≤ row → row < first_method image type + length methods → Contains (methods_of image type) row
unfolding methods_of
methods_has image type all methods are row low high =
    let n = run_end image 0x02 (first_method image) 0x06 type - first_method image type in
    let long = zip_long (IsItem all) (methods_of image type) methods are in
    let size = range_long (first_method image type) n in
    in_range (first_method image type) n row low (omega arith)

module _ {Y : Type 0} (members : Class → List Y) (accessors : Y → List Accessor) (image : List ℕ) (table : ℕ) (own : ℕ → List ℕ) (access : List (List (ℕ × ℕ))) (classes : List Class) (all : List Method)
    (types : count_of image 0x02 ≡ 1 + length classes)
    (count : count_of image table ≡ length (flat_map members classes))
    (runs : (k : ℕ) (c : Class) → slice_get classes k ≡ Some c → own (2 + k) ≡ range_with_len (1 + before members classes k) (length (members c)))
    (items : AtEach (λ type c. AllZip (λ row y. IsItem access row (access_of (first_method image type) (accessors y))) (own type) (members c)) 2 classes)
    (methods : AtEach (λ type c. AllZip (IsItem all) (methods_of image type) (class_methods c)) 2 classes)
    (found : AtEach (AccessorsOf image table) 1 access)
    (formed : AllByRecursion (λ c. IsTrue (list_all (λ y. list_all (is_accessor_of (length (class_methods c))) (accessors y)) (members c))) classes) where
  -- those of a member are among the methods of its type
  members_formed : (c : Class) (ys : List Y) → IsTrue (list_all (λ y. list_all (is_accessor_of (length (class_methods c))) (accessors y)) ys) → (j : ℕ) (y : Y) → slice_get ys j ≡ Some y
      → IsTrue (list_all (is_accessor_of (length (class_methods c))) (accessors y))
  members_formed c ys h j y at = all_at (λ z. IsTrue (list_all (is_accessor_of (length (class_methods c))) (accessors z))) ys j y (each ys h) at
    where
      each : (zs : List Y) → IsTrue (list_all (λ y. list_all (is_accessor_of (length (class_methods c))) (accessors y)) zs)
          → AllByRecursion (λ z. IsTrue (list_all (is_accessor_of (length (class_methods c))) (accessors z))) zs
      each [] g = tt
      each (z ∷ zs) g =
          let both = and_parts (list_all (is_accessor_of (length (class_methods c))) (accessors z)) (list_all (λ y. list_all (is_accessor_of (length (class_methods c))) (accessors y)) zs) g in
          (both.0, each zs both.1)

  -- the type that has a row, and the member that the row is of
  record IsMember (row : ℕ) : Type 0 where
    place : ℕ
    class : Class
    at : slice_get classes place ≡ Some class
    here : Contains (own (2 + place)) row
    member : Y
    given : AccessorsOf image table row (access_of (first_method image (2 + place)) (accessors member))
    among : AllByRecursion (IsAmong (first_method image (2 + place)) (length (class_methods class))) (access_of (first_method image (2 + place)) (accessors member))

  member_at : (row place : ℕ) (class : Class) → slice_get classes place ≡ Some class → Contains (own (2 + place)) row → IsMember row
  member_at row place class at here =
      let first = first_method image (2 + place) in
      let at_row = place_of (own (2 + place)) row here in
      let it = beside (λ n y. IsItem access n (access_of first (accessors y))) (own (2 + place)) (members class) at_row.0 row (items place class at) at_row.1 in
      let of = all_at (λ c. IsTrue (list_all (λ y. list_all (is_accessor_of (length (class_methods c))) (accessors y)) (members c))) classes place class formed at in
      record {
        place = place;
        class = class;
        at = at;
        here = here;
        member = it.0;
        given = subst (λ n. AccessorsOf image table n (access_of first (accessors it.0))) (sym it.2.1) (found it.2.0 (access_of first (accessors it.0)) it.2.2);
        among = access_among first (length (class_methods class)) (accessors it.0) (members_formed class (members class) of at_row.0 it.0 it.1);
      }

  its_member : (row : ℕ) → HasRow image table row → IsMember row
  its_member row there =
      let some = there.0 in
      let high = there.1 in
      let l = find_list members classes (row - 1) (omega arith) in
      let from = l.low in
      let to = l.high in
      let first = 1 + before members classes l.place in
      member_at row l.place l.item l.at
      (subst (λ rows. Contains rows row) (sym (runs l.place l.item l.at)) (in_range first (length (members l.item)) row (omega arith) (omega arith)))

  -- what is asked of the row of an accessor of a row
  abbrev IsOwn : ℕ → ℕ → Type 0
  IsOwn row s = (type : ℕ) × HasRow image 0x02 type × Contains (own type) row × Contains (methods_of image type) (semantics_method image s)

  own_of : (row : ℕ) → IsMember row → HasAccessors image own table row
  own_of row m =
      let low = get_low classes m.place m.class m.at in
      let first = first_method image (2 + m.place) in
      let typed : HasRow image 0x02 (2 + m.place) = (omega arith, omega arith) in
      All-from_recursion (IsOwn row) (semantics_of image table row)
      (zip_all (λ s x. IsMade semantics_row (semantics_cells image s) (index_of HasSemantics table row, x)) (IsAmong first (length (class_methods m.class))) (IsOwn row)
      (semantics_of image table row) (access_of first (accessors m.member))
      (λ s x is lies. (
        2 + m.place,
        typed,
        m.here,
        subst (Contains (methods_of image (2 + m.place))) (sym (ap (λ (cs : List ℕ). slice_index cs 1) is))
            (methods_has image (2 + m.place) all (class_methods m.class) (methods m.place m.class m.at) x.1 lies.0 lies.1),
      )) m.given m.among)

  pub accessors_own : (row : ℕ) → HasRow image table row → HasAccessors image own table row
  accessors_own row there = own_of row (its_member row there)
