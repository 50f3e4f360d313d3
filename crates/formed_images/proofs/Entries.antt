-- The program starts at one method at most: one row has the token of the entry point, and each type stands once in the tree
-- (II.15.4.1.2, II.25.3.3.2).
use Rattle.std.proofs.Common.{◌≡◌, ℕ, zero, suc, ◌+◌, ◌-◌, ◌<◌, ◌≤◌, ◌⊎◌, inl, inr, Bool, true, false, cond, List, [], ◌∷◌, ◌++◌, Contains, length, sum_by, refl, sym, ◌∙◌, ap, subst, arith, append_assoc}
use Rattle.std.proofs.lemmas.List.{length-append, append-nil}
use Rattle.std.proofs.lemmas.List.Sums.{sum_by-cons}
use Rattle.std.specs.List.{AllZip, range_with_len}
use Rattle.pe_layout.specs.CliHeader.{entry_token_of}
use Rattle.type_terms.specs.declared.name.TypeId.{TypeId}
use Rattle.assembly_tree.specs.WellFormed.{is_one_entry}
use Rattle.assembly_tree.specs.WellFormedTypes.{entries, entries_in, entries_of}
use Rattle.assembly_tree.specs.declared.assembly.Assembly.{Assembly}
use Rattle.assembly_tree.specs.declared.members.Method.{Method}
use Rattle.assembly_tree.specs.declared.typedef.TypeDef.{TypeDef}
use Rattle.assembly_tree.specs.declared.typedef.TypeDef.TheViews.{out-TypeDef}
use Rattle.assembly_tree.proofs.FormedTypes.{entries_out}
use Rattle.image_model.specs.Streams.{strings_of}
use Rattle.image_model.specs.Rows.{count_of, HasRow, token_of, enclosing, first_method, methods_of, types_in}
use Rattle.image_model.specs.Naming.{HasPath}
use Rattle.image_model.specs.Faults.{distinct, Reads}
use Rattle.image_model.specs.Reading.{IsMethod, IsType, AreTypes}
use Rattle.image_model.specs.ReadLaws.{HoldsTypes}
use Rattle.image_namings.proofs.Among.{Among, among_range}
use Rattle.image_namings.proofs.OnePath.{path_one}
use Rattle.image_namings.proofs.Owners.{OneText}
use Rattle.row_demands.proofs.Tiles.{ends}
use Rattle.image_namings.proofs.Standing.{Stands, stands}
use Rattle.image_namings.proofs.Among.{from_among}
use Rattle.formed_references.proofs.Words.{le_true}
use Rattle.formed_references.proofs.Paths.{first_type, module_id, module_path}
use Rattle.formed_images.proofs.Trees.{Ordered, front_of, types_ordered, Below, below, long_below}
use Rattle.formed_references.proofs.Words.{of_types}

zero_or_more : (n : ℕ) → (n ≡ 0) ⊎ (0 < n)
zero_or_more n = grind arith

module _ (image : List ℕ) (a : Assembly) (h : Reads image a) (text : OneText (strings_of image)) (holds : HoldsTypes image h.names a) where
  stood : Stands image
  stood = stands image h.names (λ earlier low. h.rows earlier)

  -- a row of MethodDef has the token of the entry point
  abbrev IsStart : ℕ → Type 0
  IsStart row = entry_token_of image ≡ token_of 0x06 row

  one_start : (r s : ℕ) → IsStart r → IsStart s → r ≡ s
  one_start r s e f = omega arith

  -- ---- the methods of one type

  record Starts (rows : List ℕ) : Type 0 where
    pub row : ℕ
    pub among : Among row rows
    pub is : IsStart row

  entry_count : (m : Method) (ms : List Method) → entries_in (m ∷ ms) ≡ cond m.entry 1 0 + entries_in ms
  entry_count m ms = sum_by-cons (λ (x : Method). cond x.entry 1 0) m ms

  -- at most one of the methods of a run is where the program starts, and where one is, its row has the token
  starts_in : (first count : ℕ) (ms : List Method) → AllZip (IsMethod image h.names) (range_with_len first count) ms → (entries_in ms ≤ 1) × (0 < entries_in ms → Starts (range_with_len first count))
  starts_in first zero [] z = (omega arith, λ some. absurd (omega arith))
  starts_in first zero (m ∷ ms) z = absurd z
  starts_in first (suc count) [] z = absurd z
  starts_in first (suc count) (m ∷ ms) z = go m.entry refl (starts_in (first + 1) count ms z.1)
    where
      go : (b : Bool) → m.entry ≡ b → (entries_in ms ≤ 1) × (0 < entries_in ms → Starts (range_with_len (first + 1) count))
          → (entries_in (m ∷ ms) ≤ 1) × (0 < entries_in (m ∷ ms) → Starts (first ∷ range_with_len (first + 1) count))
      go false e rest =
          let n : entries_in (m ∷ ms) ≡ 0 + entries_in ms = entry_count m ms ∙ ap (λ (b : Bool). cond b 1 0 + entries_in ms) e in
          (omega (arith, n, rest.0), λ some. let s = rest.1 (omega (arith, n, some)) in record { row = s.row; among = inr s.among; is = s.is })
      go true e rest =
          let n : entries_in (m ∷ ms) ≡ 1 + entries_in ms = entry_count m ms ∙ ap (λ (b : Bool). cond b 1 0 + entries_in ms) e in
          let here : IsStart first = z.0.entry.0 e in
          (alone n here, λ some. record { row = first; among = inl refl; is = here })
        where
          alone : entries_in (m ∷ ms) ≡ 1 + entries_in ms → IsStart first → entries_in (m ∷ ms) ≤ 1
          alone n here = elim (zero_or_more (entries_in ms)) [
            | inl none ↦ omega arith
            | inr some ↦
                let s = rest.1 some in
                let r = among_range s.row (first + 1) count s.among in
                let same = one_start s.row first s.is here in
                absurd (omega (arith, r.0, same))
          ]

  type_starts : (type : ℕ) (ms : List Method) → AllZip (IsMethod image h.names) (methods_of image type) ms → (entries_in ms ≤ 1) × (0 < entries_in ms → Starts (methods_of image type))
  unfolding methods_of
  type_starts type ms z = starts_in (first_method image type) (ends (first_method image) (count_of image 0x02) (count_of image 0x06) type - first_method image type) ms z

  -- ---- the types around a type

  -- the path of a type begins the path of a type that stands in it
  record StartsIn (outer : ℕ) : Type 0 where
    pub type : ℕ
    pub there : HasRow image 0x02 type
    pub start : Starts (methods_of image type)
    pub path : List TypeId
    pub leads : HasPath image type path
    pub front : List TypeId
    pub of : HasPath image outer front
    pub back : List TypeId
    pub whole : path ≡ front ++ back

  one_type : (r s : ℕ) → HasRow image 0x02 r → HasRow image 0x02 s → Starts (methods_of image r) → Starts (methods_of image s) → r ≡ s
  one_type r s there and one other =
      let same = one_start one.row other.row one.is other.is in
      stood.method_one other.row r s there and (subst (λ (k : ℕ). Contains (methods_of image r) k) same (from_among one.row (methods_of image r) one.among)) (from_among other.row (methods_of image s) other.among)

  -- two types with paths of one length that a start stands in are one
  same_front : (r s : ℕ) (i : StartsIn r) (j : StartsIn s) → length i.front ≡ length j.front → i.front ≡ j.front
  same_front r s i j long =
      let same = one_type i.type j.type i.there j.there i.start j.start in
      let paths = path_one image text i.leads (subst (λ t. HasPath image t j.path) (sym same) j.leads) in
      front_of i.front j.front i.back j.back (sym i.whole ∙ paths ∙ j.whole) long

  no_two : (r s : ℕ) → HasRow image 0x02 r → HasRow image 0x02 s → r < s → (path : List TypeId) → HasPath image r path → HasPath image s path → ⊥
  no_two r s there and less path p q = (h.rows distinct 0x02 s).type refl and r there.0 less (path, p, q)

  -- a start in a type that another encloses stands in that one too
  upward : (outer row : ℕ) → enclosing image row ≡ outer → 0 < outer → StartsIn row → StartsIn outer
  upward outer row e some i = go (below image a h text holds outer i.of e)
    where
      go : Below image outer row i.front → StartsIn outer
      go (Below.alone z is f) = absurd (omega arith)
      go (Below.behind {id = id} {before = before} more p is f) = record {
        type = i.type;
        there = i.there;
        start = i.start;
        path = i.path;
        leads = i.leads;
        front = before;
        of = p;
        back = id ∷ i.back;
        whole = i.whole ∙ ap (λ (x : List TypeId). x ++ i.back) f ∙ append_assoc before (id ∷ []) i.back;
      }

  -- ---- the tree

  abbrev Counts : ℕ → ℕ → Type 0
  Counts n outer = (n ≤ 1) × (0 < n → StartsIn outer)

  record StartsAmong (rows : List ℕ) : Type 0 where
    pub row : ℕ
    pub among : Among row rows
    pub held : StartsIn row

  sum_more : (t : TypeDef) (ts : List TypeDef) → sum_by entries_of (t ∷ ts) ≡ entries_of t + sum_by entries_of ts
  sum_more t ts = sum_by-cons entries_of t ts

  -- a type's own start, and one in a type that it encloses, are two
  own_or_nested : (row : ℕ) (own : ℕ) (nested : ℕ) → HasRow image 0x02 row → (own ≤ 1) × (0 < own → Starts (methods_of image row)) → (nested ≤ 1) × (0 < nested → StartsAmong (types_in image row)) → Counts (own + nested) row
  own_or_nested row own nested there o n = elim (zero_or_more own) [
    | inl none ↦ (omega (arith, n.0), λ some. let s = n.1 (omega arith) in upward row s.row (of_types image s.row row s.among).2 there.0 s.held)
    | inr some ↦ (apart some, λ more. here (o.1 some))
  ]
    where
      here : Starts (methods_of image row) → StartsIn row
      here s = let p = stood.path row there in record { type = row; there = there; start = s; path = p.0; leads = p.1; front = p.0; of = p.1; back = []; whole = sym (append-nil p.0) }

      longer : (s : StartsAmong (types_in image row)) → (i : StartsIn row) → i.type ≡ row → i.front ≡ i.path → ⊥
      longer s i t f = go (below image a h text holds row s.held.of (of_types image s.row row s.among).2)
        where
          go : Below image row s.row s.held.front → ⊥
          go (Below.alone z is g) = (let k = there.0 in omega arith)
          go (Below.behind {id = id} {before = before} more p is g) =
              let same = one_type s.held.type i.type s.held.there i.there s.held.start i.start in
              let paths = path_one image text s.held.leads (subst (λ x. HasPath image x i.path) (sym same) i.leads) in
              let inner = ap length s.held.whole ∙ length-append s.held.front s.held.back in
              let front = ap length g ∙ length-append before (id ∷ []) in
              let up = ap length (path_one image text p i.of) in
              let all = ap length paths in
              let same_long = ap length f in
              omega (arith, inner, front, up, all, same_long)

      apart : 0 < own → own + nested ≤ 1
      apart some = elim (zero_or_more nested) [
        | inl none ↦ omega (arith, o.0)
        | inr more ↦ absurd (longer (n.1 more) (here (o.1 some)) refl refl)
      ]

  -- starts in two of the types that one type encloses are two
  first_or_more : (outer row : ℕ) (rows : List ℕ) (here more : ℕ) → ((r : ℕ) → Among r (row ∷ rows) → Among r (types_in image outer)) → Ordered (row ∷ rows) → Counts here row → (more ≤ 1) × (0 < more → StartsAmong rows)
      → (here + more ≤ 1) × (0 < here + more → StartsAmong (row ∷ rows))
  first_or_more outer row rows here more into order c d = elim (zero_or_more here) [
    | inl none ↦ (omega (arith, d.0), λ some. let s = d.1 (omega arith) in record { row = s.row; among = inr s.among; held = s.held })
    | inr some ↦ (apart some, λ x. record { row = row; among = inl refl; held = c.1 some })
  ]
    where
      two : StartsIn row → StartsAmong rows → ⊥
      two i s =
          let m = of_types image row outer (into row (inl refl)) in
          let k = of_types image s.row outer (into s.row (inr s.among)) in
          let long = long_below image a h text holds outer (below image a h text holds outer i.of m.2) (below image a h text holds outer s.held.of k.2) in
          let front = same_front row s.row i s.held long in
          no_two row s.row m.0 k.0 (order.0 s.row s.among) i.front i.of (subst (HasPath image s.row) (sym front) s.held.of)

      apart : 0 < here → here + more ≤ 1
      apart some = elim (zero_or_more more) [
        | inl none ↦ omega (arith, c.0)
        | inr other ↦ absurd (two (c.1 some) (d.1 other))
      ]

  mutual
    type_counts : {row : ℕ} {t : TypeDef} → IsType image h.names row t → HasRow image 0x02 row → Counts (entries_of t) row
    type_counts {row = row} {t = t} (IsType.made is nested) there =
        subst (λ (n : ℕ). Counts n row) (sym (entries_out t))
        (own_or_nested row (entries_in (out-TypeDef t).methods) (sum_by entries_of (out-TypeDef t).nested) there (type_starts row (out-TypeDef t).methods is.methods)
        (types_count row nested (λ r m. m) (types_ordered image a h text holds row)))

    types_count : (outer : ℕ) {rows : List ℕ} {ts : List TypeDef} → AreTypes image h.names rows ts → ((r : ℕ) → Among r rows → Among r (types_in image outer)) → Ordered rows → (sum_by entries_of ts ≤ 1) × (0 < sum_by entries_of ts → StartsAmong rows)
    types_count outer AreTypes.none into order = (omega arith, λ some. absurd (omega arith))
    types_count outer (AreTypes.more {row = row} {rows = rows} {t = t} {ts = ts} is rest) into order =
        let there = (of_types image row outer (into row (inl refl))).0 in
        subst (λ (n : ℕ). (n ≤ 1) × (0 < n → StartsAmong (row ∷ rows))) (sym (sum_more t ts))
        (first_or_more outer row rows (entries_of t) (sum_by entries_of ts) into order (type_counts is there) (types_count outer rest (λ r m. into r (inr m)) order.1))

  -- ---- the whole

  -- a start in `<Module>` is in no other type
  not_both : Starts (methods_of image 1) → StartsAmong (types_in image 0) → ⊥
  not_both one s =
      let o = of_types image s.row 0 s.among in
      let first = first_type image a h text holds in
      let same = one_type s.held.type 1 s.held.there first s.held.start one in
      let p = module_path image a h text holds in
      let whole = path_one image text s.held.leads (subst (λ x. HasPath image x (module_id image a h text holds ∷ [])) (sym same) p) in
      go (below image a h text holds 0 s.held.of o.2) (sym s.held.whole ∙ whole) o
    where
      go : Below image 0 s.row s.held.front → s.held.front ++ s.held.back ≡ module_id image a h text holds ∷ [] → HasRow image 0x02 s.row × (2 ≤ s.row) × (enclosing image s.row ≡ 0) → ⊥
      go (Below.behind some p is f) e o = omega arith
      go (Below.alone {id = id} z is f) e o =
          let front : s.held.front ≡ module_id image a h text holds ∷ [] = f ∙ ap (λ (x : TypeId). x ∷ []) (head_is (ap (λ (x : List TypeId). x ++ s.held.back) (sym f) ∙ e)) in
          no_two 1 s.row (first_type image a h text holds) o.0 (omega (arith, o.1)) (module_id image a h text holds ∷ []) (module_path image a h text holds) (subst (HasPath image s.row) front s.held.of)
        where
          head_is : {x y : TypeId} {xs ys : List TypeId} → ◌≡◌ {A = List TypeId} (x ∷ xs) (y ∷ ys) → x ≡ y
          head_is e = cc

  pub one_entry : is_one_entry a ≡ true
  unfolding entries
  one_entry =
      let first = type_starts 1 a.methods h.parts.methods in
      let rest = types_count 0 h.parts.types (λ r m. m) (types_ordered image a h text holds 0) in
      le_true (entries_in a.methods + sum_by entries_of a.types) 1 (elim (zero_or_more (entries_in a.methods)) [
        | inl none ↦ omega (arith, rest.0)
        | inr some ↦ elim (zero_or_more (sum_by entries_of a.types)) [
          | inl none ↦ omega (arith, first.0)
          | inr more ↦ absurd (not_both (first.1 some) (rest.1 more))
        ]
      ])
