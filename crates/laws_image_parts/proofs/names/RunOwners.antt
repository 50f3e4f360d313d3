-- Runs that follow one another: each row is in one.
use Rattle.std.proofs.Common.{◌≡◌, ap, refl, subst, ℕ, zero, suc, ◌+◌, ◌-◌, ◌<◌, ◌≤◌, true, false, cond, eqb, ltb, List, [], ◌∷◌, length, Some, Contains, inl, inr, arith, ⊎_elim}
use Rattle.std.specs.Prelude.{slice_get, slice_index, slice_index_or}
use Rattle.std.specs.List.{range_with_len, flat_map}
use Rattle.std.proofs.lemmas.List.{length-append}
use Rattle.std.proofs.lemmas.Bool.{eqb-true, eq-eqb, ltb-true, ltb-false, cases_Bool}
use Rattle.metadata_tables.specs.Indexes.{IndexesFit}
use Rattle.assembly_tree.specs.declared.assembly.Assembly.{Assembly}
use Rattle.image_tokens.specs.declared.references.References.{References}
use Rattle.image_members.specs.DeclaredMembers.{class_fields, class_methods}
use Rattle.image_members.specs.Places.{all_fields, all_methods}
use Rattle.image_rows.specs.TypeRows.{Numbered, numbered}
use Rattle.image_members.specs.declared.classes.Class.{Class}
use Rattle.image_model.specs.Columns.{type_fields, type_methods}
use Rattle.image_model.specs.Rows.{HasRow, count_of, run, run_end, first_field, first_method, fields_of, methods_of}
use Rattle.laws_image_parts.specs.RowsRead.{ReadsTypeRows}
use Rattle.laws_image_parts.proofs.TypeRuns.{start_of, fields_begin, methods_begin}
use Rattle.laws_image_parts.specs.names.MemberOwners.{HaveOneOwner}
use Rattle.laws_image_parts.proofs.names.General.{get_some}

range_long : (first n : ℕ) → length (range_with_len first n) ≡ n
range_long first zero = refl
range_long first (suc n) = ap suc (range_long (first + 1) n)

range_at : (first n k d : ℕ) → k < n → slice_index_or (range_with_len first n) k d ≡ first + k
range_at first zero k d low = absurd (omega arith)
range_at first (suc n) zero d low = omega arith
range_at first (suc n) (suc k) d low = (let rest = range_at (first + 1) n k d (omega arith) in omega (arith, rest))

in_range : (first n row : ℕ) → first ≤ row → row < first + n → Contains (range_with_len first n) row
in_range first n row low high =
    let long = range_long first n in
    let at = range_at first n (row - first) row (omega arith) in
    (row - first, omega (arith, long), omega (arith, at))

range_has : (first n row : ℕ) → Contains (range_with_len first n) row → (first ≤ row) × (row < first + n)
range_has first n row h =
    let long = range_long first n in
    let low = h.1 in
    let is = h.2 in
    let at = range_at first n h.0 row (omega (arith, long, low)) in
    (omega (arith, at, is), omega (arith, at, is, low, long))

module _ (image : List ℕ) (table : ℕ) (start : ℕ → ℕ) (first : start 1 ≡ 1) (some : 0 < count_of image 0x02)
    (rise : (t : ℕ) → 0 < t → t < count_of image 0x02 → start t ≤ start (t + 1)) (last : start (count_of image 0x02) ≤ count_of image table + 1) where
  abbrev types : ℕ
  types = count_of image 0x02

  last_end : (t : ℕ) → t ≡ types → run_end image 0x02 start table t ≡ count_of image table + 1
  last_end t e = (let same : eqb t types ≡ true = eq-eqb t types e in ap (λ b. cond b (count_of image table + 1) (start (t + 1))) same)

  next_end : (t : ℕ) → t < types → run_end image 0x02 start table t ≡ start (t + 1)
  next_end t low =
      let other : eqb t types ≡ false = ⊎_elim (λ h. let e = eqb-true t types h in absurd (omega arith)) (λ h. h) (cases_Bool (eqb t types)) in
      ap (λ b. cond b (count_of image table + 1) (start (t + 1))) other

  rises : (d t : ℕ) → 0 < t → t + d ≤ types → start t ≤ start (t + d)
  rises zero t pos high = (let same : t + 0 ≡ t = omega arith in omega (arith, ap start same))
  rises (suc d) t pos high =
      let step = rise t pos (omega arith) in
      let rest = rises d (t + 1) (omega arith) (omega arith) in
      let same : t + 1 + d ≡ t + suc d = omega arith in
      omega (arith, step, rest, ap start same)

  -- a row of a run stands between its start and its end
  between : (t row : ℕ) → Contains (run image 0x02 start table t) row → (start t ≤ row) × (row < run_end image 0x02 start table t)
  between t row h =
      let b = range_has (start t) (run_end image 0x02 start table t - start t) row h in
      let low = b.0 in
      let high = b.1 in
      (low, omega arith)

  before : (row t u : ℕ) → HasRow image 0x02 t → HasRow image 0x02 u → Contains (run image 0x02 start table t) row → Contains (run image 0x02 start table u) row → t < u → ⊥
  before row t u h k x y less =
      let a = between t row x in
      let b = between u row y in
      let end = next_end t (let high = k.1 in omega arith) in
      let pos = h.0 in
      let high = k.1 in
      let up = rises (u - (t + 1)) (t + 1) (omega arith) (omega arith) in
      let same : t + 1 + (u - (t + 1)) ≡ u = omega arith in
      let under = a.1 in
      let over = b.0 in
      omega (arith, end, up, ap start same, under, over)

  one_run : (row t u : ℕ) → HasRow image 0x02 t → HasRow image 0x02 u → Contains (run image 0x02 start table t) row → Contains (run image 0x02 start table u) row → t ≡ u
  one_run row t u h k x y =
      let not_less : t < u → ⊥ = before row t u h k x y in
      let not_more : u < t → ⊥ = before row u t k h y x in
      omega (arith, not_less, not_more)

  -- the last type that begins at the row or before it
  find_run : (n row : ℕ) → 0 < n → n ≤ types → 0 < row → row < run_end image 0x02 start table n → (type : ℕ) × HasRow image 0x02 type × Contains (run image 0x02 start table type) row
  find_run zero row pos high some_row under = absurd (omega arith)
  find_run (suc n) row pos high some_row under = elim (cases_Bool (ltb row (start (suc n)))) [
    | inl less ↦
        let low : row < start (suc n) = ltb-true row (start (suc n)) less in
        let more : 0 < n = ⊎_elim (λ e. let zero_n : n ≡ 0 = eqb-true n 0 e in absurd (let top : suc n ≡ 1 = omega arith in omega (arith, ap start top, first, low)))
        (λ e. let other : n ≡ 0 → ⊥ = (λ s. let same = eq-eqb n 0 s in cc) in omega (arith, other)) (cases_Bool (eqb n 0)) in
        let end = next_end n (omega arith) in
        let same : n + 1 ≡ suc n = omega arith in
        find_run n row more (omega arith) some_row (omega (arith, end, ap start same, low))
    | inr not_less ↦
        let low : start (suc n) ≤ row = ltb-false row (start (suc n)) not_less in
        (suc n, (omega arith, high), in_range (start (suc n)) (run_end image 0x02 start table (suc n) - start (suc n)) row low (omega arith))
  ]

  pub have_one_owner : HaveOneOwner image table (λ t. run image 0x02 start table t)
  have_one_owner = record {
    has = λ row there. find_run types row some (omega arith) there.0 (let end = last_end types refl in let high = there.1 in omega arith);
    one = one_run;
  }

-- ---- where the runs begin

numbered_next : (field method : ℕ) (cs : List Class) (k : ℕ) (n m : Numbered) → slice_get (numbered field method cs) k ≡ Some n
    → slice_get (numbered field method cs) (suc k) ≡ Some m → (n.field ≤ m.field) × (n.method ≤ m.method)
numbered_next field method [] k n m at next = absurd cc
numbered_next field method (c ∷ []) k n m at next = absurd cc
numbered_next field method (c ∷ (d ∷ cs)) zero n m at next =
    let head : record { class = c; field = field; method = method } ≡ n = cc in
    let tail : record { class = d; field = field + length (class_fields c); method = method + length (class_methods c) } ≡ m = cc in
    let a = ap (λ (x : Numbered). x.field) head in
    let b = ap (λ (x : Numbered). x.method) head in
    let e = ap (λ (x : Numbered). x.field) tail in
    let f = ap (λ (x : Numbered). x.method) tail in
    (omega arith, omega arith)
numbered_next field method (c ∷ (d ∷ cs)) (suc k) n m at next = numbered_next (field + length (class_fields c)) (method + length (class_methods c)) (d ∷ cs) k n m at next

numbered_high : (field method : ℕ) (cs : List Class) (k : ℕ) (n : Numbered) → slice_get (numbered field method cs) k ≡ Some n
    → (n.field ≤ field + length (flat_map class_fields cs)) × (n.method ≤ method + length (flat_map class_methods cs))
numbered_high field method [] k n at = absurd cc
numbered_high field method (c ∷ cs) zero n at =
    let head : record { class = c; field = field; method = method } ≡ n = cc in
    let a = ap (λ (x : Numbered). x.field) head in
    let b = ap (λ (x : Numbered). x.method) head in
    (omega arith, omega arith)
numbered_high field method (c ∷ cs) (suc k) n at =
    let rest = numbered_high (field + length (class_fields c)) (method + length (class_methods c)) cs k n at in
    let a = rest.0 in
    let b = rest.1 in
    let fields = length-append (class_fields c) (flat_map class_fields cs) in
    let methods = length-append (class_methods c) (flat_map class_methods cs) in
    (omega arith, omega arith)

numbered_long : (field method : ℕ) (cs : List Class) → length (numbered field method cs) ≡ length cs
numbered_long field method [] = refl
numbered_long field method (c ∷ cs) = ap suc (numbered_long (field + length (class_fields c)) (method + length (class_methods c)) cs)

module _ (law : IndexesFit) (a : Assembly) (classes : List Class) (r : References) (image : List ℕ) (h : ReadsTypeRows a classes r image)
    (fields_count : count_of image 0x04 ≡ length (all_fields a classes)) (methods_count : count_of image 0x06 ≡ length (all_methods a classes)) where
  abbrev ns : List Numbered
  ns = numbered (1 + length a.fields) (1 + length a.methods) classes

  number_at : (t : ℕ) → 1 < t → t ≤ count_of image 0x02 → (n : Numbered) × (slice_get ns (t - 2) ≡ Some n)
  number_at t low high =
      let long = numbered_long (1 + length a.fields) (1 + length a.methods) classes in
      let count = h.count in
      get_some ns (t - 2) (omega arith)

  abbrev Begins : (ℕ → ℕ) → (Numbered → ℕ) → Type 0
  Begins start of = (k : ℕ) (n : Numbered) → slice_get ns k ≡ Some n → start (2 + k) ≡ of n

  rise_by : (start : ℕ → ℕ) (of : Numbered → ℕ) → start 1 ≡ 1 → Begins start of → ((k : ℕ) (n : Numbered) → slice_get ns k ≡ Some n → 1 ≤ of n)
      → ((k : ℕ) (n m : Numbered) → slice_get ns k ≡ Some n → slice_get ns (suc k) ≡ Some m → of n ≤ of m)
      → (t : ℕ) → 0 < t → t < count_of image 0x02 → start t ≤ start (t + 1)
  rise_by start of first begins low next t pos high = by_row t pos high
    where
      by_row : (t : ℕ) → 0 < t → t < count_of image 0x02 → start t ≤ start (t + 1)
      by_row zero pos high = absurd (omega arith)
      by_row (suc zero) pos high =
          let m = number_at 2 (omega arith) (omega arith) in
          let is = begins 0 m.0 m.1 in
          let one = low 0 m.0 m.1 in
          omega (arith, first, is, one)
      by_row (suc (suc k)) pos high =
          let here : suc (suc k) - 2 ≡ k = omega arith in
          let there : suc (suc k) + 1 - 2 ≡ suc k = omega arith in
          let n = number_at (suc (suc k)) (omega arith) (omega arith) in
          let m = number_at (suc (suc k) + 1) (omega arith) (omega arith) in
          let at : slice_get ns k ≡ Some n.0 = subst (λ j. slice_get ns j ≡ Some n.0) here n.1 in
          let then : slice_get ns (suc k) ≡ Some m.0 = subst (λ j. slice_get ns j ≡ Some m.0) there m.1 in
          let one : 2 + k ≡ suc (suc k) = omega arith in
          let two : 2 + suc k ≡ suc (suc k) + 1 = omega arith in
          omega (arith, ap start one, ap start two, begins k n.0 at, begins (suc k) m.0 then, next k n.0 m.0 at then)

  last_by : (start : ℕ → ℕ) (of : Numbered → ℕ) (total : ℕ) → start 1 ≡ 1 → Begins start of → ((k : ℕ) (n : Numbered) → slice_get ns k ≡ Some n → of n ≤ total + 1)
      → start (count_of image 0x02) ≤ total + 1
  last_by start of total first begins high = by_count (count_of image 0x02) (let count = h.count in omega arith) (omega arith)
    where
      by_count : (t : ℕ) → 0 < t → t ≤ count_of image 0x02 → start t ≤ total + 1
      by_count zero pos top = absurd (omega arith)
      by_count (suc zero) pos top = omega (arith, first)
      by_count (suc (suc k)) pos top =
          let here : suc (suc k) - 2 ≡ k = omega arith in
          let n = number_at (suc (suc k)) (omega arith) top in
          let at : slice_get ns k ≡ Some n.0 = subst (λ j. slice_get ns j ≡ Some n.0) here n.1 in
          let one : 2 + k ≡ suc (suc k) = omega arith in
          omega (arith, ap start one, begins k n.0 at, high k n.0 at)

  types_some : 0 < count_of image 0x02
  types_some = (let count = h.count in omega arith)

  numbered_some : (field method : ℕ) (cs : List Class) (k : ℕ) (n : Numbered) → 0 < field → 0 < method → slice_get (numbered field method cs) k ≡ Some n → (1 ≤ n.field) × (1 ≤ n.method)
  numbered_some field method [] k n p q at = absurd cc
  numbered_some field method (c ∷ cs) zero n p q at =
      let head : record { class = c; field = field; method = method } ≡ n = cc in
      let x = ap (λ (m : Numbered). m.field) head in
      let y = ap (λ (m : Numbered). m.method) head in
      (omega arith, omega arith)
  numbered_some field method (c ∷ cs) (suc k) n p q at = numbered_some (field + length (class_fields c)) (method + length (class_methods c)) cs k n (omega arith) (omega arith) at

  pub fields_owned : HaveOneOwner image 0x04 (fields_of image)
  unfolding fields_of
  fields_owned =
      let first : first_field image 1 ≡ 1 = start_of law image 0x04 (type_fields image 1) (length (all_fields a classes)) 1 fields_count (ap (λ (cs : List ℕ). slice_index cs 4) h.module_is.are) (omega arith) in
      let begins : Begins (first_field image) (λ n. n.field) = fields_begin law a classes r image h fields_count methods_count in
      let total = length-append a.fields (flat_map class_fields classes) in
      have_one_owner image 0x04 (first_field image) first types_some
      (rise_by (first_field image) (λ n. n.field) first begins
      (λ k n at. (numbered_some (1 + length a.fields) (1 + length a.methods) classes k n (omega arith) (omega arith) at).0)
      (λ k n m at next. (numbered_next (1 + length a.fields) (1 + length a.methods) classes k n m at next).0))
      (last_by (first_field image) (λ n. n.field) (count_of image 0x04) first begins
      (λ k n at. let high = (numbered_high (1 + length a.fields) (1 + length a.methods) classes k n at).0 in omega (arith, high, total, fields_count)))

  pub methods_owned : HaveOneOwner image 0x06 (methods_of image)
  unfolding methods_of
  methods_owned =
      let first : first_method image 1 ≡ 1 = start_of law image 0x06 (type_methods image 1) (length (all_methods a classes)) 1 methods_count (ap (λ (cs : List ℕ). slice_index cs 5) h.module_is.are) (omega arith) in
      let begins : Begins (first_method image) (λ n. n.method) = methods_begin law a classes r image h fields_count methods_count in
      let total = length-append a.methods (flat_map class_methods classes) in
      have_one_owner image 0x06 (first_method image) first types_some
      (rise_by (first_method image) (λ n. n.method) first begins
      (λ k n at. (numbered_some (1 + length a.fields) (1 + length a.methods) classes k n (omega arith) (omega arith) at).1)
      (λ k n m at next. (numbered_next (1 + length a.fields) (1 + length a.methods) classes k n m at next).1))
      (last_by (first_method image) (λ n. n.method) (count_of image 0x06) first begins
      (λ k n at. let high = (numbered_high (1 + length a.fields) (1 + length a.methods) classes k n at).1 in omega (arith, high, total, methods_count)))
