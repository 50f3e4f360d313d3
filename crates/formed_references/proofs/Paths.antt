-- The names that paths are made of, and the types that they lead to.
use Rattle.std.proofs.Common.{◌≡◌, ◌≢◌, ℕ, ◌+◌, ◌<◌, ◌≤◌, ◌⊎◌, inl, inr, Bool, true, false, ◌&&◌, ◌||◌, nat_eq, is_some, List, [], ◌∷◌, codes, find, length, Option, Some, None, refl, sym, ◌∙◌, ap, subst, arith, true≢false}
use Rattle.std.proofs.lemmas.Bool.{and_from}
use Rattle.std.proofs.lemmas.List.FromFn.{length-range_with_len}
use Rattle.std.proofs.lemmas.List.Folds.{list_all-append}
use Rattle.std.specs.List.{list_all}
use Rattle.std.specs.Option.{option_map_or}
use lib.Pointwise.{pointwise, bytes_decides}
use Rattle.metadata_tables.specs.Schema.{schema}
use Rattle.metadata_tables.specs.declared.coded.Coded.TheVariants.{ResolutionScope}
use Rattle.type_terms.specs.declared.name.Scope.{Scope}
use Rattle.type_terms.specs.declared.name.Scope.TheVariants.{Here, Extern}
use Rattle.type_terms.specs.declared.name.TypeId.{TypeId}
use Rattle.assembly_tree.specs.DataSize.{type_at}
use Rattle.assembly_tree.specs.WellFormedNames.{has_no_zero, is_name, is_type_id, is_module_path, is_declared, is_known_in}
use Rattle.assembly_tree.specs.declared.assembly.Assembly.{Assembly}
use Rattle.image_model.specs.Streams.{strings_of}
use Rattle.image_model.specs.Columns.{type_name, type_space, type_ref_scope, nested_class, enclosing_class}
use Rattle.image_model.specs.Rows.{count_of, HasRow, rows_of, rows_with, enclosing}
use Rattle.image_model.specs.Cells.{NamesRow}
use Rattle.image_model.specs.Naming.{HasId, HasRefId, HasPath, HasRefPath}
use Rattle.image_model.specs.Structure.{IsModuleType}
use Rattle.image_model.specs.Faults.{indexes, entries, manifest, scopes, Reads}
use Rattle.image_model.specs.ReadLaws.{HoldsTypes}
use Rattle.image_model.specs.Reading.{IsExtern}
use Rattle.image_namings.proofs.Among.{Among, filter_among, found}
use Rattle.image_namings.proofs.OnePath.{path_one, ref_path_one}
use Rattle.image_namings.proofs.Owners.{OneText}
use Rattle.formed_references.proofs.Words.{lt_true, is_eq, text_has_no_zero, text_is_name, zipped_long, of_rows}
use Rattle.image_namings.proofs.Indexes.{named_row, row_there}

either_first : (b c : Bool) → b ≡ true → (b || c) ≡ true
either_first true c e = refl
either_first false c e = absurd (true≢false (sym e))

either_second : (b c : Bool) → c ≡ true → (b || c) ≡ true
either_second true c e = refl
either_second false c e = e

module _ (image : List ℕ) (a : Assembly) (h : Reads image a) (text : OneText (strings_of image)) (holds : HoldsTypes image h.names a) where
  -- ---- names

  pub id_formed : (row : ℕ) (id : TypeId) → HasRow image 0x02 row → HasId image row id → is_type_id id ≡ true
  unfolding schema
  id_formed row id there is =
      let t = (h.rows entries) 0x02 row there 1 (omega arith) in
      let same = text (type_name image row) t.0 id.name t.1 is.name in
      and_from (has_no_zero id.space) (is_name id.name) (text_has_no_zero (strings_of image) (type_space image row) id.space is.space)
      (text_is_name (strings_of image) (type_name image row) id.name is.name (λ e. filled t.2 (same ∙ e)))
    where
      filled : {t : List ℕ} → (false ≡ true) ⊎ (t ≢ []) → t ≡ [] → ⊥
      filled (inl e) f = true≢false (sym e)
      filled (inr n) f = n f

  ref_id_formed : (row : ℕ) (id : TypeId) → HasRow image 0x01 row → HasRefId image row id → is_type_id id ≡ true
  unfolding schema
  ref_id_formed row id there is =
      let t = (h.rows entries) 0x01 row there 1 (omega arith) in
      let same = text _ t.0 id.name t.1 is.name in
      and_from (has_no_zero id.space) (is_name id.name) (text_has_no_zero (strings_of image) _ id.space is.space)
      (text_is_name (strings_of image) _ id.name is.name (λ e. filled t.2 (same ∙ e)))
    where
      filled : {t : List ℕ} → (false ≡ true) ⊎ (t ≢ []) → t ≡ [] → ⊥
      filled (inl e) f = true≢false (sym e)
      filled (inr n) f = n f

  -- ---- the type that encloses a type is there

  encloses : (row : ℕ) → HasRow image 0x29 row → HasRow image 0x02 (enclosing_class image row)
  unfolding schema
  encloses row there = (h.rows indexes).0 0x29 row there 1 (omega arith)

  nested_in : (type : ℕ) (o : Option ℕ) → find (λ r. nat_eq (nested_class image r) type) (rows_of image 0x29) ≡ o → 0 < option_map_or (enclosing_class image) o 0
      → HasRow image 0x02 (option_map_or (enclosing_class image) o 0)
  nested_in type None e some = absurd (omega arith)
  nested_in type (Some r) e some = encloses r (of_rows image 0x29 r (found (λ r. nat_eq (nested_class image r) type) (rows_of image 0x29) r e).0)

  pub enclosing_there : (type : ℕ) → 0 < enclosing image type → HasRow image 0x02 (enclosing image type)
  unfolding enclosing
  enclosing_there type some = nested_in type _ refl some

  pub ids_formed : {type : ℕ} {path : List TypeId} → HasPath image type path → HasRow image 0x02 type → list_all is_type_id path ≡ true
  ids_formed (HasPath.top {type = t} {id = id} e is) there = and_from (is_type_id id) true (id_formed t id there is) refl
  ids_formed (HasPath.nested {type = t} {outer = o} {id = id} {before = before} {path = path} e some p is s) there =
      let up : HasRow image 0x02 o = subst (HasRow image 0x02) e (enclosing_there t (omega arith)) in
      ap (list_all is_type_id) s ∙ list_all-append is_type_id before (id ∷ []) ∙ and_from (list_all is_type_id before) (is_type_id id && true) (ids_formed p up) (and_from (is_type_id id) true (id_formed t id there is) refl)

  -- ---- paths are short

  short_at : (type : ℕ) (o : Option ℕ) → find (λ r. nat_eq (nested_class image r) type) (rows_of image 0x29) ≡ o → enclosing image type ≡ option_map_or (enclosing_class image) o 0
      → (path : List TypeId) → HasPath image type path → length path ≤ 100
  short_at type (Some r) f e path p =
      let w = found (λ r. nat_eq (nested_class image r) type) (rows_of image 0x29) r f in
      let n = (h.rows scopes 0x29 r).nesting refl (of_rows image 0x29 r w.0) in
      let same = path_one image text p (subst (λ t. HasPath image t n.path) (is_eq (nested_class image r) type w.1) n.leads) in
      let s = n.short in
      let long : length path ≡ length n.path = ap length same in
      omega arith
  short_at type None f e path p = top_short p e
    where
      top_short : {type : ℕ} {path : List TypeId} → HasPath image type path → enclosing image type ≡ 0 → length path ≤ 100
      top_short (HasPath.top e is) z = omega arith
      top_short (HasPath.nested e some p is s) z = absurd (omega arith)

  pub path_short : (type : ℕ) (path : List TypeId) → HasPath image type path → length path ≤ 100
  unfolding enclosing
  path_short type path p = short_at type _ refl refl path p

  -- ---- types of the image are declared

  pub first_type : HasRow image 0x02 1
  first_type = let some = (h.rows manifest 0x02 0).some_types refl refl in (omega arith, omega (arith, some))

  pub module_type : IsModuleType image
  module_type = (h.rows manifest 0x02 1).module_type refl refl

  -- nothing encloses `<Module>`
  none_nests : (o : Option ℕ) → find (λ r. nat_eq (nested_class image r) 1) (rows_of image 0x29) ≡ o → option_map_or (enclosing_class image) o 0 ≡ 0
  unfolding rows_with
  none_nests None e = refl
  none_nests (Some r) e =
      let w = found (λ r. nat_eq (nested_class image r) 1) (rows_of image 0x29) r e in
      absurd (subst (Among r) module_type.not_nested (filter_among (λ r. nat_eq (nested_class image r) 1) r (rows_of image 0x29) w.0 w.1))

  module_top : enclosing image 1 ≡ 0
  unfolding enclosing
  module_top = none_nests _ refl

  unfoldable pub module_id : TypeId
  module_id = record { space = []; name = codes "<Module>" }

  pub module_has_id : HasId image 1 module_id
  unfolding module_id
  module_has_id = record { space = module_type.space; name = module_type.name }

  pub module_path : HasPath image 1 (module_id ∷ [])
  module_path = HasPath.top module_top module_has_id

  is_module_id : is_module_path (module_id ∷ []) ≡ true
  unfolding module_id
  is_module_id = and_from true (pointwise nat_eq (codes "<Module>") (codes "<Module>")) refl ((bytes_decides (codes "<Module>") (codes "<Module>")).1 refl)

  one_or_more : (n : ℕ) → 0 < n → (n ≡ 1) ⊎ (2 ≤ n)
  one_or_more n some = grind arith

  pub path_declared : (type : ℕ) (path : List TypeId) → HasRow image 0x02 type → HasPath image type path → is_declared a path ≡ true
  path_declared type path there p = elim (one_or_more type there.0) [
    | inl e ↦
        let same = path_one image text module_path (subst (λ t. HasPath image t path) e p) in
        either_first (is_module_path path) (is_some (type_at a.types path)) (subst (λ (q : List TypeId). is_module_path q ≡ true) same is_module_id)
    | inr late ↦
        let t = holds.has type path p there late in
        either_second (is_module_path path) (is_some (type_at a.types path)) (ap is_some t.1)
  ]

  -- ---- references

  scope_there : (row : ℕ) → HasRow image 0x01 row → NamesRow image ResolutionScope (type_ref_scope image row)
  unfolding schema
  scope_there row there = named_row image ResolutionScope _ ((h.rows indexes).0 0x01 row there 0 (omega arith))

  pub ref_ids_formed : {row : ℕ} {scope : Scope} {path : List TypeId} → HasRefPath image row scope path → HasRow image 0x01 row → list_all is_type_id path ≡ true
  ref_ids_formed (HasRefPath.in_module {row = r} {id = id} e is) there = and_from (is_type_id id) true (ref_id_formed r id there is) refl
  ref_ids_formed (HasRefPath.in_assembly {row = r} {id = id} e g is) there = and_from (is_type_id id) true (ref_id_formed r id there is) refl
  ref_ids_formed (HasRefPath.in_type {row = r} {outer = o} {id = id} {before = before} e p is s) there =
      let up = row_there image ResolutionScope (type_ref_scope image r) 0x01 o (scope_there r there) e in
      ap (list_all is_type_id) s ∙ list_all-append is_type_id before (id ∷ []) ∙ and_from (list_all is_type_id before) (is_type_id id && true) (ref_ids_formed p up) (and_from (is_type_id id) true (ref_id_formed r id there is) refl)

  extern_there : {row : ℕ} {scope : Scope} {path : List TypeId} → HasRefPath image row scope path → HasRow image 0x01 row → (k : ℕ) → scope ≡ Extern k → k < length a.externs
  unfolding rows_of
  extern_there (HasRefPath.in_module e is) there k s = absurd (let x = s in cc)
  extern_there (HasRefPath.in_assembly {row = r} {assembly = n} {k = j} e g is) there k s =
      let t = row_there image ResolutionScope (type_ref_scope image r) 0x23 n (scope_there r there) e in
      let long = zipped_long (IsExtern image) (rows_of image 0x23) a.externs h.parts.externs in
      let same : j ≡ k = (let x = s in cc) in
      externs_are j k n t.1 g same long
    where
      externs_are : (j k n : ℕ) → n ≤ count_of image 0x23 → n ≡ j + 1 → j ≡ k → length a.externs ≡ length (rows_of image 0x23) → k < length a.externs
      externs_are j k n le g same long = let l = length-range_with_len 1 (count_of image 0x23) in omega (arith, l)
  extern_there (HasRefPath.in_type {row = r} {outer = o} e p is s) there k f =
      extern_there p (row_there image ResolutionScope (type_ref_scope image r) 0x01 o (scope_there r there) e) k f

  pub known_ref : (row : ℕ) (scope : Scope) (path : List TypeId) → HasRow image 0x01 row → HasRefPath image row scope path → is_known_in a scope path ≡ true
  known_ref row Here path there p =
      let s = (h.rows scopes 0x01 row).reference refl there in
      let same = ref_path_one image text p s.leads in
      let d = s.declared (sym same.0) in
      path_declared d.0 path d.1 (subst (HasPath image d.0) (sym same.1) d.2)
  known_ref row (Extern k) path there p = lt_true k (length a.externs) (extern_there p there k refl)

  pub ref_short : (row : ℕ) (scope : Scope) (path : List TypeId) → HasRow image 0x01 row → HasRefPath image row scope path → length path ≤ 100
  ref_short row scope path there p =
      let s = (h.rows scopes 0x01 row).reference refl there in
      let same = ref_path_one image text p s.leads in
      let long : length path ≡ length s.path = ap length same.1 in
      let short = s.short in
      omega arith
