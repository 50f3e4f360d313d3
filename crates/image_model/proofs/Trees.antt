-- The type at a path of the tree is that of the row with this path.
use Rattle.std.proofs.Common.{true≢false, ◌≡◌, ℕ, ◌+◌, ◌-◌, ◌<◌, ◌≤◌, inl, inr, Bool, true, false, cond, ◌&&◌, nat_eq, List, [], ◌∷◌, ◌++◌, length, Option, Some, None, refl, sym, ◌∙◌, ap, subst, arith, append_assoc}
use Rattle.std.proofs.lemmas.Bool.Decides.{nat_tests}
use Rattle.std.proofs.lemmas.List.{append-nil}
use lib.Pointwise.{pointwise, bytes_decides}
use Rattle.type_terms.specs.declared.name.TypeId.{TypeId}
use Rattle.assembly_tree.specs.DataSize.{is_id, named, with_type, type_below, type_at}
use Rattle.assembly_tree.specs.declared.typedef.TypeDef.{TypeDef}
use Rattle.assembly_tree.specs.declared.typedef.TypeDef.TheViews.{out-TypeDef}
use Rattle.heaps.specs.Content.{HasText}
use Rattle.body_codec.specs.Names.{NameMap}
use Rattle.image_model.specs.Streams.{strings_of}
use Rattle.image_model.specs.Rows.{count_of, HasRow, enclosing, types_in}
use Rattle.image_model.specs.Naming.{HasId, HasPath}
use Rattle.image_model.specs.Members.{HaveOnePath}
use Rattle.image_model.specs.Reading.{IsType, AreTypes}
use Rattle.image_model.proofs.Members.{Among, filter_among, among_filter, range_among, among_range}
use Rattle.image_model.proofs.OnePath.{id_one}

both_true : (s t : Bool) → (s && t) ≡ true → (s ≡ true) × (t ≡ true)
both_true true t h = (refl, h)
both_true false t h = cc

is_id_same : (a b : TypeId) → is_id a b ≡ true → a ≡ b
is_id_same a b h =
    let p = both_true (pointwise nat_eq a.space b.space) (pointwise nat_eq a.name b.name) h in
    let s = (bytes_decides a.space b.space).0 p.0 in
    let n = (bytes_decides a.name b.name).0 p.1 in
    λ i. record { space = s i; name = n i }

is_id_own : (a : TypeId) → is_id a a ≡ true
is_id_own a = rw ((bytes_decides a.space a.space).1 refl) ((bytes_decides a.name a.name).1 refl)

-- ---- a path with one name more

last_of : (o : Option TypeDef) → with_type (type_below []) o ≡ o
last_of None = refl
last_of (Some t) = refl

below_of : (path : List TypeId) (id : TypeId) → ((t : TypeDef) → type_below (path ++ id ∷ []) t ≡ with_type (λ (u : TypeDef). named id (out-TypeDef u).nested) (type_below path t))
    → (o : Option TypeDef) → with_type (type_below (path ++ id ∷ [])) o ≡ with_type (λ (u : TypeDef). named id (out-TypeDef u).nested) (with_type (type_below path) o)
below_of path id h None = refl
below_of path id h (Some t) = h t

type_below_more : (path : List TypeId) (id : TypeId) (t : TypeDef) → type_below (path ++ id ∷ []) t ≡ with_type (λ (u : TypeDef). named id (out-TypeDef u).nested) (type_below path t)
type_below_more [] id t = last_of (named id (out-TypeDef t).nested)
type_below_more (x ∷ path) id t = below_of path id (type_below_more path id) (named x (out-TypeDef t).nested)

type_at_more : (types : List TypeDef) (path : List TypeId) (id : TypeId) → 0 < length path → type_at types (path ++ id ∷ []) ≡ with_type (λ (u : TypeDef). named id (out-TypeDef u).nested) (type_at types path)
type_at_more types [] id some = absurd (omega arith)
type_at_more types (x ∷ path) id some = below_of path id (type_below_more path id) (named x types)

some_more : (path : List TypeId) (id : TypeId) → 0 < length (path ++ id ∷ [])
some_more [] id = omega arith
some_more (x ∷ path) id = omega arith

abbrev pub type_or : TypeDef → Option TypeDef → TypeDef
type_or d None = d
type_or d (Some t) = t

abbrev IsThere : {X : Type 0} → Option X → Type 0
IsThere None = ⊥
IsThere (Some x) = Unit {0}

pub is_some_not : {X : Type 0} {x : X} → ◌≡◌ {A = Option X} None (Some x) → ⊥
is_some_not e = subst IsThere (sym e) tt

-- ---- rows

module _ (image : List ℕ) (names : NameMap) (text : (index : ℕ) (a b : List ℕ) → HasText (strings_of image) index a → HasText (strings_of image) index b → a ≡ b) (distinct : (a b : ℕ) → HasRow image 0x02 a → HasRow image 0x02 b → HaveOnePath image a b → a ≡ b) where
  -- a row is among those that its enclosing type nests
  in_types : (row : ℕ) → 2 ≤ row → HasRow image 0x02 row → Among row (types_in image (enclosing image row))
  unfolding types_in
  in_types row late there =
      filter_among (λ t. nat_eq (enclosing image t) (enclosing image row)) row _ (range_among row 2 (count_of image 0x02 - 1) late (omega (arith, there.1))) (grind (arith, nat_tests))

  of_types : (row outer : ℕ) → Among row (types_in image outer) → HasRow image 0x02 row × (2 ≤ row) × (enclosing image row ≡ outer)
  unfolding types_in
  of_types row outer h =
      let f = among_filter (λ t. nat_eq (enclosing image t) outer) row _ h in
      let r = among_range row 2 (count_of image 0x02 - 1) f.0 in
      ((omega (arith, r.0), omega (arith, r.0, r.1)), r.0, grind (arith, nat_tests, f.1))

  -- the types of rows in order: the first with the id of a row is that row's, where no two rows have one id
  abbrev IsFound : ℕ → Option TypeDef → Type 0
  IsFound row o = (t : TypeDef) × (o ≡ Some t) × IsType image names row t

  type_id : {row : ℕ} {t : TypeDef} → IsType image names row t → HasId image row (out-TypeDef t).id
  type_id (IsType.made h p) = h.id

  found_step : (id : TypeId) (r row : ℕ) (t : TypeDef) (rest : Option TypeDef) (b : Bool) → is_id id (out-TypeDef t).id ≡ b → IsType image names r t → (HasId image r id → r ≡ row)
      → (b ≡ false → IsFound row rest) → IsFound row (cond b (Some t) rest)
  found_step id r row t rest true e k only later =
      let same = only (subst (HasId image r) (sym (is_id_same id (out-TypeDef t).id e)) (type_id k)) in
      (t, refl, subst (λ x. IsType image names x t) same k)
  found_step id r row t rest false e k only later = later refl

  not_other : (id : TypeId) (r row : ℕ) (t : TypeDef) → IsType image names r t → HasId image row id → r ≡ row → is_id id (out-TypeDef t).id ≡ false → ⊥
  not_other id r row t k h e f =
      let same = id_one image text row id (out-TypeDef t).id h (subst (λ x. HasId image x (out-TypeDef t).id) e (type_id k)) in
      let own : is_id id (out-TypeDef t).id ≡ true = subst (λ x. is_id id x ≡ true) same (is_id_own id) in
      absurd (true≢false (sym own ∙ f))

  found : {rows : List ℕ} {ts : List TypeDef} → AreTypes image names rows ts → (row : ℕ) (id : TypeId) → HasId image row id → Among row rows
      → ((other : ℕ) → Among other rows → HasId image other id → other ≡ row) → IsFound row (named id ts)
  found AreTypes.none row id h among only = absurd among
  found (AreTypes.more {row = r} {t = t} {ts = ts} k others) row id h (inl e) only =
      found_step id r row t (named id ts) (is_id id (out-TypeDef t).id) refl k (λ g. e) (λ f. absurd (not_other id r row t k h e f))
  found (AreTypes.more {row = r} {t = t} {ts = ts} k others) row id h (inr later) only =
      found_step id r row t (named id ts) (is_id id (out-TypeDef t).id) refl k (only r (inl refl)) (λ f. found others row id h later (λ other in_rest g. only other (inr in_rest) g))

  -- rows that one type encloses and that have one id have one path
  same_path : (outer row : ℕ) (id : TypeId) (path : List TypeId) → HasPath image row path → enclosing image row ≡ outer → HasId image row id → (other : ℕ) → enclosing image other ≡ outer → HasId image other id
      → HasPath image other path
  same_path outer row id path (HasPath.top {id = x} e h) f k other g m =
      HasPath.top (g ∙ sym f ∙ e) (subst (HasId image other) (id_one image text row id x k h) m)
  same_path outer row id path (HasPath.nested {id = x} e some p h s) f k other g m =
      HasPath.nested (g ∙ sym f ∙ e) some p (subst (HasId image other) (id_one image text row id x k h) m) s

  -- of the types that one type nests, or of the top-level types, one has an id
  only_row : (outer row : ℕ) (id : TypeId) (path : List TypeId) → HasRow image 0x02 row → HasPath image row path → enclosing image row ≡ outer → HasId image row id
      → (other : ℕ) → Among other (types_in image outer) → HasId image other id → other ≡ row
  only_row outer row id path there h e k other among g =
      let o = of_types other outer among in
      distinct other row o.0 there (path, same_path outer row id path h e k other o.2 g, h)

  -- the type at the path of a row that the tree holds
  module _ (nesting : (row : ℕ) → HasRow image 0x02 row → 0 < enclosing image row → HasRow image 0x02 (enclosing image row) × (2 ≤ enclosing image row)) where
    some_names : {row : ℕ} {path : List TypeId} → HasPath image row path → 0 < length path
    some_names (HasPath.top e h) = omega arith
    some_names (HasPath.nested {id = id} {before = before} e some p h s) = rw s (some_more before id)

    nested_found : (types : List TypeDef) (outer row : ℕ) (before path : List TypeId) (id : TypeId) → HasRow image 0x02 row → 2 ≤ row → HasPath image row path → enclosing image row ≡ outer → HasId image row id
        → 0 < length before → path ≡ before ++ id ∷ [] → IsFound outer (type_at types before) → IsFound row (type_at types path)
    nested_found types outer row before path id there late p e h some s (o, at, IsType.made k nested) =
        let among = subst (λ x. Among row (types_in image x)) e (in_types row late there) in
        let f = found nested row id h among (only_row outer row id path there p e h) in
        (f.0, ap (type_at types) s ∙ type_at_more types before id some ∙ ap (with_type (λ (u : TypeDef). named id (out-TypeDef u).nested)) at ∙ f.1, f.2)

    pub tree_has : (types : List TypeDef) → AreTypes image names (types_in image 0) types → {row : ℕ} {path : List TypeId} → HasPath image row path → HasRow image 0x02 row → 2 ≤ row → IsFound row (type_at types path)
    tree_has types all {row = row} {path = path} (HasPath.top {id = id} e h) there late =
        let among = subst (λ x. Among row (types_in image x)) e (in_types row late there) in
        let f = found all row id h among (only_row 0 row id (id ∷ []) there (HasPath.top e h) e h) in
        (f.0, last_of (named id types) ∙ f.1, f.2)
    tree_has types all {row = row} {path = path} (HasPath.nested {outer = outer} {id = id} {before = before} e some p h s) there late =
        let above = nesting row there (omega arith) in
        let outer_there : HasRow image 0x02 outer = subst (HasRow image 0x02) e above.0 in
        let f = tree_has types all p outer_there (omega (arith, above.1)) in
        nested_found types outer row before path id there late (HasPath.nested e some p h s) e h (some_names p) s f

  -- ---- a type of the tree has a row

  pub record HasRowOf (path : List TypeId) (t : TypeDef) : Type 0 where
    pub row : ℕ
    pub there : HasRow image 0x02 row
    pub late : 2 ≤ row
    pub leads : HasPath image row path
    pub is : IsType image names row t

  abbrev IsNamed : TypeId → List ℕ → TypeDef → Type 0
  IsNamed id rows t = (row : ℕ) × Among row rows × IsType image names row t × HasId image row id

  named_step : (id : TypeId) (r : ℕ) (rows : List ℕ) (t u : TypeDef) (rest : Option TypeDef) (b : Bool) → is_id id (out-TypeDef t).id ≡ b → IsType image names r t → cond b (Some t) rest ≡ Some u
      → (rest ≡ Some u → IsNamed id rows u) → IsNamed id (r ∷ rows) u
  named_step id r rows t u rest true e k s later =
      let same = ap (type_or t) s in
      (r, inl refl, subst (IsType image names r) same k, subst (HasId image r) (sym (is_id_same id (out-TypeDef t).id e)) (type_id k))
  named_step id r rows t u rest false e k s later = let n = later s in (n.0, inr n.1, n.2, n.3)

  named_row : {rows : List ℕ} {ts : List TypeDef} → AreTypes image names rows ts → (id : TypeId) (u : TypeDef) → named id ts ≡ Some u → IsNamed id rows u
  named_row AreTypes.none id u e = absurd (is_some_not e)
  named_row (AreTypes.more {row = r} {rows = rows} {t = t} {ts = ts} k others) id u e = named_step id r rows t u (named id ts) (is_id id (out-TypeDef t).id) refl k e (named_row others id u)

  row_nested : (id : TypeId) (before : List TypeId) (t u : TypeDef) (more : List TypeId) (row : ℕ) → HasRow image 0x02 row → 2 ≤ row → HasPath image row before → IsType image names row t
      → (o : Option TypeDef) → named id (out-TypeDef t).nested ≡ o → with_type (type_below more) o ≡ Some u
      → ((v : TypeDef) → HasRowOf (before ++ id ∷ []) v → type_below more v ≡ Some u → HasRowOf ((before ++ id ∷ []) ++ more) u) → HasRowOf (before ++ id ∷ more) u
  row_nested id before t u more row there late p k None n e go = absurd (is_some_not e)
  row_nested id before t u more row there late p (IsType.made h nested) (Some v) n e go =
      let r = named_row nested id v n in
      let o = of_types r.0 row r.1 in
      let path = HasPath.nested o.2 (omega arith) p r.3 refl in
      subst (λ x. HasRowOf x u) (append_assoc before (id ∷ []) more) (go v (record { row = r.0; there = o.0; late = o.1; leads = path; is = r.2 }) e)

  row_below : (more before : List TypeId) (t u : TypeDef) → HasRowOf before t → type_below more t ≡ Some u → HasRowOf (before ++ more) u
  row_below [] before t u h e = subst (λ p. HasRowOf p u) (sym (append-nil before)) (subst (HasRowOf before) (ap (type_or t) e) h)
  row_below (id ∷ more) before t u h e = row_nested id before t u more h.row h.there h.late h.leads h.is (named id (out-TypeDef t).nested) refl e (λ v k f. row_below more (before ++ id ∷ []) v u k f)

  tree_top : (types : List TypeDef) → AreTypes image names (types_in image 0) types → (id : TypeId) (more : List TypeId) (u : TypeDef) (o : Option TypeDef) → named id types ≡ o → with_type (type_below more) o ≡ Some u
      → HasRowOf (id ∷ more) u
  tree_top types all id more u None n e = absurd (is_some_not e)
  tree_top types all id more u (Some v) n e =
      let r = named_row all id v n in
      let o = of_types r.0 0 r.1 in
      row_below more (id ∷ []) v u (record { row = r.0; there = o.0; late = o.1; leads = HasPath.top o.2 r.3; is = r.2 }) e

  pub tree_rows : (types : List TypeDef) → AreTypes image names (types_in image 0) types → (path : List TypeId) (u : TypeDef) → type_at types path ≡ Some u → HasRowOf path u
  tree_rows types all [] u e = absurd (is_some_not e)
  tree_rows types all (id ∷ more) u e = tree_top types all id more u (named id types) refl e
