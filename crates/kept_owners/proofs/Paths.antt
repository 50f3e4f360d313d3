-- The rows of a path from a row outward, and the names in them, make the path of that row and no other.
use Rattle.std.proofs.Common.{◌≡◌, ℕ, ◌+◌, ◌-◌, ◌<◌, ◌⊎◌, inl, inr, List, [], ◌∷◌, ◌++◌, length, Option, Some, refl, sym, ◌∙◌, ap, subst, arith}
use Rattle.std.proofs.lemmas.List.{length-append}
use Rattle.metadata_tables.specs.CodedIndex.{unpacked}
use Rattle.metadata_tables.specs.Schema.{schema}
use Rattle.metadata_tables.specs.declared.coded.Coded.TheVariants.{ResolutionScope}
use Rattle.type_terms.specs.declared.name.Scope.{Scope}
use Rattle.type_terms.specs.declared.name.Scope.TheVariants.{Here, Extern}
use Rattle.type_terms.specs.declared.name.TypeId.{TypeId}
use Rattle.type_terms.specs.declared.term.Owner.{Owner}
use Rattle.type_terms.specs.declared.term.Owner.TheVariants.{Name}
use Rattle.image_model.specs.Cells.{HasIndexes}
use Rattle.image_model.specs.Columns.{type_ref_scope}
use Rattle.image_model.specs.Naming.{HasId, HasRefId, HasPath, HasRefPath, RowOwner}
use Rattle.image_model.specs.Rows.{HasRow, Names, enclosing}
use Rattle.image_model.specs.Streams.{strings_of}
use Rattle.image_namings.proofs.Among.{Among}
use Rattle.image_namings.proofs.Indexes.{named_row, row_there}
use Rattle.image_namings.proofs.OnePath.{id_one}
use Rattle.image_namings.proofs.Owners.{OneText}
use Rattle.row_groups.proofs.Enclosing.{outer_there}
use Rattle.kept_owners.specs.Paths.{RowNamesType, scope_row, outer_of, AreOutward, last_of, HasRowId, AreIds, scope_in, scope_of}

abbrev pair_some : ℕ → ℕ → Option (ℕ × ℕ)
pair_some table row = Some (table, row)

-- ---- the row under which a row lies

outer_type : (image : List ℕ) (table row : ℕ) → table ≡ 0x02 → outer_of image table row ≡ enclosing image row
outer_type image table row e = ap (λ (t : ℕ). outer_of image t row) e

outer_reference : (image : List ℕ) (table row : ℕ) → table ≡ 0x01 → outer_of image table row ≡ scope_row (unpacked ResolutionScope (type_ref_scope image row))
outer_reference image table row e = ap (λ (t : ℕ). outer_of image t row) e

scope_outer : (image : List ℕ) (row table outer : ℕ) → Names ResolutionScope (type_ref_scope image row) table outer → outer_of image 0x01 row ≡ scope_row (pair_some table outer)
scope_outer image row table outer names = ap scope_row names

-- ---- what a row names it names as something

pub there : {image : List ℕ} {table row : ℕ} {scope : Scope} {path : List TypeId} → RowNamesType image table row scope path → HasRow image table row
there {image = image} (RowNamesType.defined {row = row} e t h) = subst (λ (k : ℕ). HasRow image k row) (sym e) t
there {image = image} (RowNamesType.referred {row = row} e t h) = subst (λ (k : ℕ). HasRow image k row) (sym e) t

pub is_table : {image : List ℕ} {table row : ℕ} {scope : Scope} {path : List TypeId} → RowNamesType image table row scope path → (table ≡ 0x02) ⊎ (table ≡ 0x01)
is_table (RowNamesType.defined e t h) = inl e
is_table (RowNamesType.referred e t h) = inr e

some_ids : {image : List ℕ} {row : ℕ} {path : List TypeId} → HasPath image row path → 0 < length path
some_ids (HasPath.top e h) = omega arith
some_ids (HasPath.nested {id = id} {before = before} e some p h s) = let n = length-append before (id ∷ []) in let l = ap length s in omega (arith, n, l)

some_ref_ids : {image : List ℕ} {row : ℕ} {scope : Scope} {path : List TypeId} → HasRefPath image row scope path → 0 < length path
some_ref_ids (HasRefPath.in_module e h) = omega arith
some_ref_ids (HasRefPath.in_assembly e f h) = omega arith
some_ref_ids (HasRefPath.in_type {id = id} {before = before} e p h s) = let n = length-append before (id ∷ []) in let l = ap length s in omega (arith, n, l)

pub some_names : {image : List ℕ} {table row : ℕ} {scope : Scope} {path : List TypeId} → RowNamesType image table row scope path → 0 < length path
some_names (RowNamesType.defined e t h) = some_ids h
some_names (RowNamesType.referred e t h) = some_ref_ids h

-- ---- one step outward

module _ (image : List ℕ) (indexes : (table row : ℕ) → HasRow image table row → HasIndexes image table row) where
  abbrev Under : (table row : ℕ) → Scope → List TypeId → Type 0
  Under table row scope path = (outer_of image table row ≡ 0) ⊎ ((before : List TypeId) × RowNamesType image table (outer_of image table row) scope before × (length path ≡ length before + 1))

  type_under : {row : ℕ} {path : List TypeId} (table : ℕ) → table ≡ 0x02 → HasRow image 0x02 row → HasPath image row path → Under table row Here path
  type_under table e t (HasPath.top {type = row} f h) = inl (outer_type image table row e ∙ f)
  type_under table e t (HasPath.nested {type = row} {outer = outer} {id = id} {before = before} f some p h s) =
      let is : outer_of image table row ≡ enclosing image row = outer_type image table row e in
      let more : 0 < enclosing image row = omega arith in
      let here : RowNamesType image table (enclosing image row) Here before = RowNamesType.defined e (outer_there image indexes row t more) (subst (λ (k : ℕ). HasPath image k before) (sym f) p) in
      let n = length-append before (id ∷ []) in
      let l = ap length s in
      inr (before, subst (λ (k : ℕ). RowNamesType image table k Here before) (sym is) here, omega (arith, n, l))

  scope_there : (row outer : ℕ) → HasRow image 0x01 row → Names ResolutionScope (type_ref_scope image row) 0x01 outer → HasRow image 0x01 outer
  unfolding schema
  scope_there row outer t names = row_there image ResolutionScope (type_ref_scope image row) 0x01 outer (named_row image ResolutionScope (type_ref_scope image row) (indexes 0x01 row t 0 (omega arith))) names

  reference_under : {row : ℕ} {scope : Scope} {path : List TypeId} (table : ℕ) → table ≡ 0x01 → HasRow image 0x01 row → HasRefPath image row scope path → Under table row scope path
  reference_under table e t (HasRefPath.in_module {row = row} {m = m} names h) = inl (outer_reference image table row e ∙ scope_outer image row 0x00 m names)
  reference_under table e t (HasRefPath.in_assembly {row = row} {assembly = a} names f h) = inl (outer_reference image table row e ∙ scope_outer image row 0x23 a names)
  reference_under table e t (HasRefPath.in_type {row = row} {outer = outer} {scope = scope} {id = id} {before = before} names p h s) =
      let is : outer_of image table row ≡ outer = outer_reference image table row e ∙ scope_outer image row 0x01 outer names in
      let n = length-append before (id ∷ []) in
      let l = ap length s in
      inr (before, subst (λ (k : ℕ). RowNamesType image table k scope before) (sym is) (RowNamesType.referred e (scope_there row outer t names) p), omega (arith, n, l))

  pub under : {table row : ℕ} {scope : Scope} {path : List TypeId} → RowNamesType image table row scope path → Under table row scope path
  under (RowNamesType.defined {table = table} e t h) = type_under table e t h
  under (RowNamesType.referred {table = table} e t h) = reference_under table e t h

-- ---- the rows outward

no_more : (image : List ℕ) (table : ℕ) (rows : List ℕ) → AreOutward image table 0 rows → rows ≡ []
no_more image table [] out = refl
no_more image table (r ∷ rows) out = let t = out.1.0 in absurd (omega arith)

last_more : (r : ℕ) (rows : List ℕ) → 0 < length rows → last_of (r ∷ rows) ≡ last_of rows
last_more r [] some = absurd (omega arith)
last_more r (s ∷ rows) some = refl

pub some_outward : (image : List ℕ) (table row : ℕ) (rows : List ℕ) → 0 < row → AreOutward image table row rows → 0 < length rows
some_outward image table row [] some out = absurd (omega arith)
some_outward image table row (r ∷ rows) some out = omega arith

pub rows_there : (image : List ℕ) (table row : ℕ) (rows : List ℕ) → AreOutward image table row rows → (r : ℕ) → Among r rows → HasRow image table r
rows_there image table row [] out r m = absurd m
rows_there image table row (s ∷ rows) out r (inl e) = subst (λ (k : ℕ). HasRow image table k) (sym out.0 ∙ e) out.1
rows_there image table row (s ∷ rows) out r (inr m) = rows_there image table (outer_of image table row) rows out.2 r m

pub last_there : (image : List ℕ) (table row : ℕ) (rows : List ℕ) → 0 < row → AreOutward image table row rows → HasRow image table (last_of rows)
last_there image table row [] some out = absurd (omega arith)
last_there image table row (r ∷ []) some out = subst (λ (k : ℕ). HasRow image table k) (sym out.0) out.1
last_there image table row (r ∷ s ∷ rows) some out =
    let next = out.2 in
    let t = next.1.0 in
    last_there image table (outer_of image table row) (s ∷ rows) t next

-- ---- the names in them

module _ (image : List ℕ) (text : OneText (strings_of image)) where
  ref_id_one : (row : ℕ) (a b : TypeId) → HasRefId image row a → HasRefId image row b → a ≡ b
  ref_id_one row a b h k =
      let s = text _ a.space b.space h.space k.space in
      let n = text _ a.name b.name h.name k.name in
      λ i. record { space = s i; name = n i }

  type_id : (r row : ℕ) (id : TypeId) → r ≡ row → HasRowId image 0x02 r id → HasId image row id
  type_id r row id e h = subst (λ (k : ℕ). HasId image k id) e (record { space = h.space; name = h.name })

  reference_id : (r row : ℕ) (id : TypeId) → r ≡ row → HasRowId image 0x01 r id → HasRefId image row id
  reference_id r row id e h = subst (λ (k : ℕ). HasRefId image k id) e (record { space = h.space; name = h.name })

  -- the names of one row
  one_type : (r row : ℕ) (id : TypeId) (rows : List ℕ) (p : List TypeId) → r ≡ row → HasId image row id → rows ≡ [] → AreIds image 0x02 (r ∷ rows) p → p ≡ id ∷ []
  one_type r row id [] p e h none ids = ids.4 ∙ ap (λ (l : List TypeId). l ++ ids.1 ∷ []) ids.2 ∙ ap (λ (x : TypeId). x ∷ []) (id_one image text row ids.1 id (type_id r row ids.1 e ids.3) h)
  one_type r row id (s ∷ rows) p e h none ids = let l = ap length none in absurd (omega (arith, l))

  one_reference : (r row : ℕ) (id : TypeId) (rows : List ℕ) (p : List TypeId) → r ≡ row → HasRefId image row id → rows ≡ [] → AreIds image 0x01 (r ∷ rows) p → p ≡ id ∷ []
  one_reference r row id [] p e h none ids = ids.4 ∙ ap (λ (l : List TypeId). l ++ ids.1 ∷ []) ids.2 ∙ ap (λ (x : TypeId). x ∷ []) (ref_id_one row ids.1 id (reference_id r row ids.1 e ids.3) h)
  one_reference r row id (s ∷ rows) p e h none ids = let l = ap length none in absurd (omega (arith, l))

  types_same : {row : ℕ} {path : List TypeId} → HasPath image row path → 0 < row → (rows : List ℕ) (p : List TypeId) → AreOutward image 0x02 row rows → AreIds image 0x02 rows p → p ≡ path
  types_same h some [] p out ids = absurd (omega arith)
  types_same (HasPath.top {type = row} {id = id} f h) some (r ∷ rows) p out ids =
      one_type r row id rows p out.0 h (no_more image 0x02 rows (subst (λ (k : ℕ). AreOutward image 0x02 k rows) f out.2)) ids
  types_same (HasPath.nested {type = row} {outer = outer} {id = id} {before = before} f more q h s) some (r ∷ rows) p out ids =
      let front = types_same q more rows ids.0 (subst (λ (k : ℕ). AreOutward image 0x02 k rows) f out.2) ids.2 in
      let last = id_one image text row ids.1 id (type_id r row ids.1 out.0 ids.3) h in
      ids.4 ∙ (λ i. front i ++ last i ∷ []) ∙ sym s

  abbrev ScopeIs : List ℕ → Scope → Type 0
  ScopeIs rows scope = scope_of image 0x01 (last_of rows) ≡ scope

  top_scope : (r row table k : ℕ) (scope : Scope) (rows : List ℕ) → r ≡ row → rows ≡ [] → Names ResolutionScope (type_ref_scope image row) table k → scope_in (pair_some table k) ≡ scope → ScopeIs (r ∷ rows) scope
  top_scope r row table k scope [] e none names is = ap (scope_of image 0x01) e ∙ ap scope_in names ∙ is
  top_scope r row table k scope (s ∷ rows) e none names is = let l = ap length none in absurd (omega (arith, l))

  module _ (indexes : (table row : ℕ) → HasRow image table row → HasIndexes image table row) where
    references_same : {row : ℕ} {scope : Scope} {path : List TypeId} → HasRefPath image row scope path → 0 < row → (rows : List ℕ) (p : List TypeId) → AreOutward image 0x01 row rows
        → AreIds image 0x01 rows p → (p ≡ path) × ScopeIs rows scope
    references_same h some [] p out ids = absurd (omega arith)
    references_same (HasRefPath.in_module {row = row} {m = m} {id = id} names h) some (r ∷ rows) p out ids =
        let none = no_more image 0x01 rows (subst (λ (k : ℕ). AreOutward image 0x01 k rows) (scope_outer image row 0x00 m names) out.2) in
        (one_reference r row id rows p out.0 h none ids, top_scope r row 0x00 m Here rows out.0 none names refl)
    references_same (HasRefPath.in_assembly {row = row} {assembly = a} {k = k} {id = id} names f h) some (r ∷ rows) p out ids =
        let none = no_more image 0x01 rows (subst (λ (k : ℕ). AreOutward image 0x01 k rows) (scope_outer image row 0x23 a names) out.2) in
        let number : a - 1 ≡ k = omega arith in
        (one_reference r row id rows p out.0 h none ids, top_scope r row 0x23 a (Extern k) rows out.0 none names (ap Extern number))
    references_same (HasRefPath.in_type {row = row} {outer = outer} {id = id} names q h s) some (r ∷ rows) p out ids =
        let more : AreOutward image 0x01 outer rows = subst (λ (k : ℕ). AreOutward image 0x01 k rows) (scope_outer image row 0x01 outer names) out.2 in
        let inner = scope_there image indexes row outer out.1 names in
        let front = references_same q inner.0 rows ids.0 more ids.2 in
        let path = front.0 in
        let last = ref_id_one row ids.1 id (reference_id r row ids.1 out.0 ids.3) h in
        (ids.4 ∙ (λ i. path i ++ last i ∷ []) ∙ sym s, ap (scope_of image 0x01) (last_more r rows (some_outward image 0x01 outer rows inner.0 more)) ∙ front.1)

    one_name : (a b : Scope) (p q : List TypeId) → a ≡ b → p ≡ q → Name (record { scope = a; path = p }) ≡ Name (record { scope = b; path = q })
    one_name a b p q e f = λ i. Name (record { scope = e i; path = f i })

    -- so what is put together is what the row names
    pub named_so : {table row : ℕ} {scope : Scope} {path : List TypeId} → RowNamesType image table row scope path → (rows : List ℕ) (p : List TypeId) → AreOutward image table row rows
        → AreIds image table rows p → (owners : ℕ → Option Owner) → RowOwner image owners table row (Name (record { scope = scope_of image table (last_of rows); path = p }))
    named_so (RowNamesType.defined {table = table} {row = row} {path = path} e t h) rows p out ids owners =
        let same = types_same h t.0 rows p (subst (λ (k : ℕ). AreOutward image k row rows) e out) (subst (λ (k : ℕ). AreIds image k rows p) e ids) in
        let here : scope_of image table (last_of rows) ≡ Here = ap (λ (k : ℕ). scope_of image k (last_of rows)) e in
        subst (λ (o : Owner). RowOwner image owners table row o) (sym (one_name (scope_of image table (last_of rows)) Here p path here same)) (RowOwner.defined e t h)
    named_so (RowNamesType.referred {table = table} {row = row} {scope = scope} {path = path} e t h) rows p out ids owners =
        let same = references_same h t.0 rows p (subst (λ (k : ℕ). AreOutward image k row rows) e out) (subst (λ (k : ℕ). AreIds image k rows p) e ids) in
        let from : scope_of image table (last_of rows) ≡ scope = ap (λ (k : ℕ). scope_of image k (last_of rows)) e ∙ same.1 in
        subst (λ (o : Owner). RowOwner image owners table row o) (sym (one_name (scope_of image table (last_of rows)) scope p path from same.0)) (RowOwner.referred e t h)

    pub name_put : {table row : ℕ} {scope : Scope} {path : List TypeId} → RowNamesType image table row scope path → (rows lent other : List ℕ) (p : List TypeId) (top : ℕ) (begins : Scope) → lent ≡ rows
        → other ≡ rows → AreOutward image table row rows → AreIds image table lent p → top ≡ last_of other → begins ≡ scope_of image table top → (owners : ℕ → Option Owner)
        → RowOwner image owners table row (Name (record { scope = begins; path = p }))
    name_put {table = table} {row = row} n rows lent other p top begins e f out ids is from owners =
        let it = named_so n rows p out (subst (λ (l : List ℕ). AreIds image table l p) e ids) owners in
        let scope_is : begins ≡ scope_of image table (last_of rows) = from ∙ ap (scope_of image table) (is ∙ ap last_of f) in
        subst (λ (o : Owner). RowOwner image owners table row o) (sym (one_name begins (scope_of image table (last_of rows)) p p scope_is refl)) it
