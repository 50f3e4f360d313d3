-- Types side by side differ, and nest at most 100 deep (II.22.32); the program starts at one method at most (II.15.4.1.2).
use Rattle.std.proofs.Common.{◌≡◌, ℕ, zero, suc, ◌+◌, ◌-◌, ◌<◌, ◌≤◌, inl, inr, ◌↔◌, Bool, true, false, cond, not, ◌&&◌, nat_eq, List, [], ◌∷◌, ◌++◌, length, filter, refl, sym, ◌∙◌, ap, subst, arith}
use Rattle.std.proofs.lemmas.Bool.{and_from, and_parts}
use Rattle.std.proofs.lemmas.Bool.Decides.{nat_tests}
use Rattle.std.proofs.lemmas.List.{length-append}
use Rattle.std.specs.List.{AllZip, list_all, list_any, range_with_len}
use lib.Pointwise.{pointwise, bytes_decides}
use Rattle.type_terms.specs.declared.name.TypeId.{TypeId}
use Rattle.assembly_tree.specs.DataSize.{is_id}
use Rattle.assembly_tree.specs.WellFormedNames.{all_differ}
use Rattle.assembly_tree.specs.WellFormedTypes.{is_own, is_same_id, are_types}
use Rattle.assembly_tree.specs.declared.assembly.Assembly.{Assembly}
use Rattle.assembly_tree.specs.declared.typedef.TypeDef.{TypeDef}
use Rattle.assembly_tree.specs.declared.typedef.TypeDef.TheOpen.{TypeDef-F}
use Rattle.assembly_tree.specs.declared.typedef.TypeDef.TheViews.{out-TypeDef}
use Rattle.image_model.specs.Streams.{strings_of}
use Rattle.image_model.specs.Rows.{count_of, HasRow, enclosing, types_in}
use Rattle.image_model.specs.Naming.{HasId, HasPath}
use Rattle.image_model.specs.Faults.{distinct, Reads}
use Rattle.image_model.specs.Reading.{IsTypeButNested, IsType, AreTypes}
use Rattle.image_model.specs.ReadLaws.{HoldsTypes}
use Rattle.image_namings.proofs.Among.{Among, among_range, among_filter}
use Rattle.image_namings.proofs.OnePath.{id_one, path_one}
use Rattle.image_namings.proofs.Owners.{OneText}
use Rattle.image_namings.proofs.Standing.{Stands, stands}
use Rattle.formed_references.proofs.Words.{eq_true, is_eq}
use Rattle.formed_references.proofs.Paths.{path_short}
use Rattle.formed_images.proofs.Members.{none_same}
use Rattle.formed_references.proofs.Words.{of_types}

-- ---- rows in order

abbrev pub Ordered : List ℕ → Type 0
Ordered [] = Unit {0}
Ordered (r ∷ rows) = ((s : ℕ) → Among s rows → r < s) × Ordered rows

kept_order : (test : ℕ → Bool) (first count : ℕ) (b : Bool) → Ordered (filter test (range_with_len (first + 1) count)) → Ordered (cond b (first ∷ filter test (range_with_len (first + 1) count)) (filter test (range_with_len (first + 1) count)))
kept_order test first count true o = ((λ s m. let r = among_range s (first + 1) count (among_filter test s (range_with_len (first + 1) count) m).0 in omega (arith, r.0)), o)
kept_order test first count false o = o

in_order : (test : ℕ → Bool) (first count : ℕ) → Ordered (filter test (range_with_len first count))
in_order test first zero = tt
in_order test first (suc count) = kept_order test first count (test first) (in_order test (first + 1) count)

-- parts of rows in order, of which no two are the same
differ_in_order : {X : Type 0} (Is : ℕ → X → Type 0) (same : X → X → Bool) (rows : List ℕ) (xs : List X) → Ordered rows → ((r s : ℕ) (x y : X) → Among r rows → Among s rows → r < s → Is r x → Is s y → same x y ≡ true → ⊥)
    → AllZip Is rows xs → all_differ same xs ≡ true
differ_in_order Is same [] [] o f z = refl
differ_in_order Is same [] (x ∷ xs) o f z = absurd z
differ_in_order Is same (r ∷ rows) [] o f z = absurd z
differ_in_order Is same (r ∷ rows) (x ∷ xs) o f z =
    and_from (not (list_any (same x) xs)) (all_differ same xs)
    (none_same Is same r x rows xs (λ s y m is e. f r s x y (inl refl) (inr m) (o.0 s m) z.0 is e) z.1)
    (differ_in_order Is same rows xs o.1 (λ s t y w m n less is k e. f s t y w (inr m) (inr n) less is k e) z.1)

same_id : (a b : TypeId) → is_id a b ≡ true → a ≡ b
same_id a b e =
    let p = and_parts (pointwise nat_eq a.space b.space) (pointwise nat_eq a.name b.name) e in
    let s = (bytes_decides a.space b.space).0 p.0 in
    let n = (bytes_decides a.name b.name).0 p.1 in
    λ i. record { space = s i; name = n i }

pub front_of : (xs ys : List TypeId) (m n : List TypeId) → xs ++ m ≡ ys ++ n → length xs ≡ length ys → xs ≡ ys
front_of [] [] m n e l = refl
front_of [] (y ∷ ys) m n e l = absurd (omega arith)
front_of (x ∷ xs) [] m n e l = absurd (omega arith)
front_of (x ∷ xs) (y ∷ ys) m n e l =
    let h : x ≡ y = cc in
    let t = front_of xs ys m n (cc) (omega arith) in
    λ i. h i ∷ t i

-- the names behind the enclosing type's path
pub data Below (image : List ℕ) (outer : ℕ) : ℕ → List TypeId → Type 0 where
  alone : {row : ℕ} {id : TypeId} {path : List TypeId} → outer ≡ 0 → HasId image row id → path ≡ id ∷ [] → Below image outer row path
  behind : {row : ℕ} {id : TypeId} {before path : List TypeId} → 0 < outer → HasPath image outer before → HasId image row id → path ≡ before ++ id ∷ [] → Below image outer row path

module _ (image : List ℕ) (a : Assembly) (h : Reads image a) (text : OneText (strings_of image)) (holds : HoldsTypes image h.names a) where
  stood : Stands image
  stood = stands image h.names (λ earlier low. h.rows earlier)

  pub types_ordered : (outer : ℕ) → Ordered (types_in image outer)
  unfolding types_in
  types_ordered outer = in_order (λ t. nat_eq (enclosing image t) outer) 2 (count_of image 0x02 - 1)

  type_id : {row : ℕ} {t : TypeDef} → IsType image h.names row t → HasId image row (out-TypeDef t).id
  type_id (IsType.made is nested) = is.id

  zipped : {rows : List ℕ} {ts : List TypeDef} → AreTypes image h.names rows ts → AllZip (IsType image h.names) rows ts
  zipped AreTypes.none = tt
  zipped (AreTypes.more is rest) = (is, zipped rest)

  -- ---- paths of rows that one type encloses

  pub below : {row : ℕ} {path : List TypeId} (outer : ℕ) → HasPath image row path → enclosing image row ≡ outer → Below image outer row path
  below outer (HasPath.top e is) f = Below.alone (sym f ∙ e) is refl
  below outer (HasPath.nested {outer = o} {before = before} e some p is s) f =
      let same = sym e ∙ f in
      Below.behind (subst (λ (x : ℕ). 0 < x) same some) (subst (λ x. HasPath image x before) same p) is s

  same_below : {r s : ℕ} {p q : List TypeId} (outer : ℕ) (id : TypeId) → Below image outer r p → Below image outer s q → HasId image r id → HasId image s id → p ≡ q
  same_below {r = r} {s = s} outer id (Below.alone {id = x} z is e) (Below.alone {id = y} w k f) i j =
      e ∙ ap (λ (n : TypeId). n ∷ []) (id_one image text r x id is i ∙ sym (id_one image text s y id k j)) ∙ sym f
  same_below outer id (Below.alone z is e) (Below.behind some p k f) i j = absurd (omega arith)
  same_below outer id (Below.behind some p is e) (Below.alone z k f) i j = absurd (omega arith)
  same_below {r = r} {s = s} outer id (Below.behind {id = x} {before = b} some p is e) (Below.behind {id = y} {before = c} more q k f) i j =
      let front = path_one image text p q in
      let last = id_one image text r x id is i ∙ sym (id_one image text s y id k j) in
      e ∙ (λ i. front i ++ last i ∷ []) ∙ sym f

  pub long_below : {r s : ℕ} {p q : List TypeId} (outer : ℕ) → Below image outer r p → Below image outer s q → length p ≡ length q
  long_below outer (Below.alone z is e) (Below.alone w k f) = ap length e ∙ sym (ap length f)
  long_below outer (Below.alone z is e) (Below.behind some p k f) = absurd (omega arith)
  long_below outer (Below.behind some p is e) (Below.alone z k f) = absurd (omega arith)
  long_below outer (Below.behind {id = x} {before = b} some p is e) (Below.behind {id = y} {before = c} more q k f) =
      let front = ap length (path_one image text p q) in
      let one = ap length e ∙ length-append b (x ∷ []) in
      let two = ap length f ∙ length-append c (y ∷ []) in
      omega (arith, front, one, two)

  paths_distinct : (r s : ℕ) → HasRow image 0x02 r → HasRow image 0x02 s → r < s → (path : List TypeId) → HasPath image r path → HasPath image s path → ⊥
  paths_distinct r s there and less path p q = (h.rows distinct 0x02 s).type refl and r there.0 less (path, p, q)

  types_differ : (outer : ℕ) (ts : List TypeDef) → AreTypes image h.names (types_in image outer) ts → all_differ is_same_id ts ≡ true
  types_differ outer ts are =
      differ_in_order (IsType image h.names) is_same_id (types_in image outer) ts (types_ordered outer) (λ r s t u m n less is k e.
      let o = of_types image r outer m in
      let q = of_types image s outer n in
      let p = stood.path r o.0 in
      let w = stood.path s q.0 in
      let id = same_id (out-TypeDef t).id (out-TypeDef u).id e in
      let same = same_below outer (out-TypeDef u).id (below outer p.1 o.2) (below outer w.1 q.2) (subst (HasId image r) id (type_id is)) (type_id k) in
      paths_distinct r s o.0 q.0 less p.0 p.1 (subst (HasPath image s) (sym same) w.1)) (zipped are)

  -- ---- nesting

  -- each type that this one encloses has a path of so many names
  abbrev Deep : ℕ → ℕ → Type 0
  Deep outer n = (row : ℕ) → Among row (types_in image outer) → (path : List TypeId) → HasPath image row path → length path ≡ n + 1

  deeper : (row n : ℕ) (path : List TypeId) → HasRow image 0x02 row → HasPath image row path → length path ≡ n → Deep row n
  deeper row n path there p long inner m q k =
      let o = of_types image inner row m in
      go (below row k o.2)
    where
      go : {q : List TypeId} → Below image row inner q → length q ≡ n + 1
      go (Below.alone z is e) = absurd (let f = there.0 in omega arith)
      go (Below.behind {id = id} {before = before} some r is e) =
          let front = ap length (path_one image text r p) in
          let all = ap length e ∙ length-append before (id ∷ []) in
          omega (arith, front, all, long)

  none_left : (outer n : ℕ) (rows : List ℕ) (ts : List TypeDef) → ((row : ℕ) → Among row rows → Among row (types_in image outer)) → Deep outer n → 100 ≤ n → AreTypes image h.names rows ts → ts ≡ []
  none_left outer n [] [] into deep far are = refl
  none_left outer n [] (t ∷ ts) into deep far are = absurd (zipped are)
  none_left outer n (r ∷ rows) ts into deep far are =
      let m = into r (inl refl) in
      let o = of_types image r outer m in
      let p = stood.path r o.0 in
      let long = deep r m p.0 p.1 in
      let few = path_short image a h text holds r p.0 p.1 in
      absurd (omega arith)

  module _ (own : (row : ℕ) (t : TypeDef-F TypeDef) (top : Bool) → HasRow image 0x02 row → 2 ≤ row → (top ≡ true) ↔ (enclosing image row ≡ 0) → IsTypeButNested image h.names row t → is_own a top t ≡ true) where
    top_is : (row outer : ℕ) → enclosing image row ≡ outer → (nat_eq outer 0 ≡ true) ↔ (enclosing image row ≡ 0)
    top_is row outer e = (λ t. e ∙ is_eq outer 0 t, λ z. eq_true outer 0 (sym e ∙ z))

    each_formed : (levels outer n : ℕ) → ((row : ℕ) (ts : List TypeDef) → HasRow image 0x02 row → Deep row (n + 1) → AreTypes image h.names (types_in image row) ts → are_types a false levels ts ≡ true) → Deep outer n
        → {rows : List ℕ} {ts : List TypeDef} → ((row : ℕ) → Among row rows → Among row (types_in image outer)) → AreTypes image h.names rows ts
        → list_all (λ t. is_own a (nat_eq outer 0) (out-TypeDef t) && are_types a false levels (out-TypeDef t).nested) ts ≡ true
    each_formed levels outer n inner deep into AreTypes.none = refl
    each_formed levels outer n inner deep into (AreTypes.more {row = row} {t = t} {ts = ts} (IsType.made is nested) rest) =
        let m = into row (inl refl) in
        let o = of_types image row outer m in
        let p = stood.path row o.0 in
        and_from (is_own a (nat_eq outer 0) (out-TypeDef t) && are_types a false levels (out-TypeDef t).nested) (list_all (λ t. is_own a (nat_eq outer 0) (out-TypeDef t) && are_types a false levels (out-TypeDef t).nested) ts)
        (and_from (is_own a (nat_eq outer 0) (out-TypeDef t)) (are_types a false levels (out-TypeDef t).nested)
        (own row (out-TypeDef t) (nat_eq outer 0) o.0 o.1 (top_is row outer o.2) is)
        (inner row (out-TypeDef t).nested o.0 (deeper row (n + 1) p.0 o.0 p.1 (deep row m p.0 p.1)) nested))
        (each_formed levels outer n inner deep (λ r k. into r (inr k)) rest)

    types_formed : (levels outer n : ℕ) (top : Bool) (ts : List TypeDef) → nat_eq outer 0 ≡ top → 100 ≤ n + levels → Deep outer n → AreTypes image h.names (types_in image outer) ts → are_types a top levels ts ≡ true
    unfolding are_types
    types_formed zero outer n top ts is far deep are = eq_true (length ts) 0 (ap length (none_left outer n (types_in image outer) ts (λ row m. m) deep (omega arith) are))
    types_formed (suc levels) outer n top ts is far deep are =
        and_from (all_differ is_same_id ts) (list_all (λ t. is_own a top (out-TypeDef t) && are_types a false levels (out-TypeDef t).nested) ts) (types_differ outer ts are)
        (subst (λ b. list_all (λ t. is_own a b (out-TypeDef t) && are_types a false levels (out-TypeDef t).nested) ts ≡ true) is
        (each_formed levels outer n (λ row us there deep k. types_formed levels row (n + 1) false us (other row there.0) (omega arith) deep k) deep (λ row m. m) are))
      where
        other : (row : ℕ) → 0 < row → nat_eq row 0 ≡ false
        other row some = grind (arith, nat_tests)

    top_deep : Deep 0 0
    top_deep row m path p = go (below 0 p (of_types image row 0 m).2)
      where
        go : {q : List TypeId} → Below image 0 row q → length q ≡ 0 + 1
        go (Below.alone z is e) = ap length e
        go (Below.behind some r is e) = absurd (omega arith)

    pub classes_formed : are_types a true 100 a.types ≡ true
    classes_formed = types_formed 100 0 0 true a.types refl (omega arith) top_deep h.parts.types
