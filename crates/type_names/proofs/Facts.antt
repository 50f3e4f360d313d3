-- What indexes in their ranges and entries in their heaps say of types and references.
use Rattle.std.proofs.Common.{◌≡◌, ℕ, ◌-◌, ◌^◌, ◌<◌, ◌≤◌, ◌⊎◌, inl, inr, true, false, List, [], Option, Some, length, refl, sym, ◌∙◌, ap, subst, arith}
use Rattle.std.specs.Prelude.{◌==◌}
use Rattle.std.specs.Int.{bit_at}
use Rattle.std.proofs.lemmas.Bool.{cases_eq, cases_lt, cond-false, ne_eqb, false≢true}
use Rattle.heaps.specs.Content.{HasText}
use Rattle.metadata_tables.specs.Schema.{schema, columns_of}
use Rattle.metadata_tables.specs.Stream.{cell, column_of, row_count, present}
use Rattle.metadata_tables.specs.declared.coded.Coded.TheVariants.{ResolutionScope}
use Rattle.metadata_tables.specs.declared.schema.Column.TheVariants.{Strings, Tagged}
use Rattle.type_terms.specs.declared.name.TypeId.{TypeId}
use Rattle.image_model.specs.Cells.{HasIndexes, HasEntries, IsIndex, IsEntry, NamesRow}
use Rattle.image_model.specs.Columns.{type_name, type_space, type_ref_name, type_ref_space, type_ref_scope}
use Rattle.image_model.specs.Faults.{HasTables}
use Rattle.image_model.specs.Naming.{HasId, HasRefId}
use Rattle.image_model.specs.Rows.{count_of, HasRow, enclosing}
use Rattle.image_model.specs.Streams.{tables_of, strings_of}
use Rattle.name_numbers.specs.Names.{AreNodes, is_root, parent_at}
use Rattle.name_numbers.specs.declared.numbering.Node.{Node}
use Rattle.type_names.specs.Forest.{AreForest, HaveScopes, ref_node, assembly_node, led_to, middle_of, last_of}
use Rattle.name_numbers.proofs.Roots.{root_first, root_behind}
use Rattle.row_groups.proofs.Enclosing.{outer_there}
use Rattle.type_names.proofs.Paths.{scope_tables}
use Rattle.type_names.proofs.Sizes.{few_types, few_references, few_assemblies}

-- ---- columns

type_columns : length (columns_of 0x02) ≡ 6
unfolding schema
type_columns = refl

reference_columns : length (columns_of 0x01) ≡ 3
unfolding schema
reference_columns = refl

name_column : column_of 0x02 1 ≡ Strings false
unfolding schema
name_column = refl

space_column : column_of 0x02 2 ≡ Strings true
unfolding schema
space_column = refl

ref_scope_column : column_of 0x01 0 ≡ Tagged ResolutionScope false
unfolding schema
ref_scope_column = refl

ref_name_column : column_of 0x01 1 ≡ Strings false
unfolding schema
ref_name_column = refl

ref_space_column : column_of 0x01 2 ≡ Strings true
unfolding schema
ref_space_column = refl

no_columns : columns_of 0x1A ≡ []
unfolding schema
no_columns = refl

abbrev some_pair : ℕ → ℕ → Option (ℕ × ℕ)
some_pair table row = Some (table, row)

-- ModuleRef isn't in the profile
absent : (stream : List ℕ) (table : ℕ) → (bit_at (present stream) table ≡ 1 → ⊥) → row_count stream table ≡ 0
unfolding row_count
absent stream table h = cond-false (bit_at (present stream) table == 1) _ _ (ne_eqb (bit_at (present stream) table) 1 h)

pub no_modules : (image : List ℕ) → HasTables image → (row : ℕ) → HasRow image 0x1A row → ⊥
no_modules image has row there =
    let none = absent (tables_of image) 0x1A (λ bit. has.whole.tables 0x1A (bit, no_columns)) in
    let a = there.0 in
    let b = there.1 in
    absurd (omega arith)

named_row : (image : List ℕ) (value : ℕ) → ((false ≡ true) × (value ≡ 0)) ⊎ NamesRow image ResolutionScope value → NamesRow image ResolutionScope value
named_row image value (inl nil) = absurd (false≢true nil.0)
named_row image value (inr names) = names

module _ (image : List ℕ) (indexes : (table row : ℕ) → HasRow image table row → HasIndexes image table row) where
  pub scopes_there : HaveScopes image
  scopes_there row there =
      named_row image (type_ref_scope image row)
      (subst (λ column. IsIndex image column (cell (tables_of image) 0x01 row 0)) ref_scope_column (indexes 0x01 row there 0 (let l = reference_columns in omega arith)))

  module _ (nodes : List Node) (forest : AreForest image nodes) where
    type_parent : (row : ℕ) → HasRow image 0x02 row → parent_at nodes row ≤ count_of image 0x02
    type_parent row there =
        let e : parent_at nodes row ≡ enclosing image row = ap (λ (n : Node). n.parent) (forest.type row there) in
        elim (cases_lt 0 (enclosing image row)) [ inl some ↦ let o = (outer_there image indexes row there some).1 in omega arith | inr none ↦ omega arith ]

    -- a reference lies under a root or another reference
    abbrev IsOver : ℕ → Type 0
    IsOver k = (k < length nodes) × ((is_root (last_of image) k ≡ true) ⊎ (middle_of image ≤ k))

    zero_over : (k : ℕ) → k ≡ 0 → IsOver k
    zero_over k e = (let l = forest.long in omega arith, inl (subst (λ z. is_root (last_of image) z ≡ true) (sym e) (root_first (last_of image))))

    led_over : (table r : ℕ) → HasRow image table r → (table ≡ 0x00) ⊎ ((table ≡ 0x1A) ⊎ ((table ≡ 0x23) ⊎ ((table ≡ 0x01) ⊎ ⊥))) → (k : ℕ) → k ≡ led_to image (Some (table, r)) → IsOver k
    led_over table r there (inl e) k at = zero_over k (at ∙ ap (λ t. led_to image (some_pair t r)) e)
    led_over table r there (inr (inl e)) k at = zero_over k (at ∙ ap (λ t. led_to image (some_pair t r)) e)
    led_over table r there (inr (inr (inl e))) k at =
        let is : k ≡ assembly_node image r = at ∙ ap (λ t. led_to image (some_pair t r)) e in
        let row : HasRow image 0x23 r = subst (λ t. HasRow image t r) e there in
        let l = forest.long in
        let a = row.0 in
        let b = row.1 in
        (omega arith, inl (root_behind (last_of image) k (omega arith)))
    led_over table r there (inr (inr (inr (inl e)))) k at =
        let is : k ≡ ref_node image r = at ∙ ap (λ t. led_to image (some_pair t r)) e in
        let row : HasRow image 0x01 r = subst (λ t. HasRow image t r) e there in
        let l = forest.long in
        let a = row.0 in
        let b = row.1 in
        (omega arith, inr (omega arith))
    led_over table r there (inr (inr (inr (inr never)))) k at = absurd never

    ref_parent : (row : ℕ) → HasRow image 0x01 row → IsOver (parent_at nodes (ref_node image row))
    ref_parent row there =
        let (table, r, names, row_there) = scopes_there row there in
        led_over table r row_there (scope_tables (type_ref_scope image row) table r names) (parent_at nodes (ref_node image row))
        (ap (λ (n : Node). n.parent) (forest.reference row there) ∙ ap (led_to image) names)

    over_at : (k row : ℕ) → k ≡ ref_node image row → IsOver (parent_at nodes (ref_node image row)) → IsOver (parent_at nodes k)
    over_at k row e h = subst (λ z. IsOver (parent_at nodes z)) (sym e) h

    second_over : (k : ℕ) → middle_of image ≤ k → k < last_of image → IsOver (parent_at nodes k)
    second_over k from less = over_at k (k - count_of image 0x02) (omega arith) (ref_parent (k - count_of image 0x02) (omega arith, omega arith))

    first_over : (k : ℕ) → k < middle_of image → parent_at nodes k < middle_of image
    first_over k less = elim (cases_eq k 0) [
      | inl z ↦ let e = forest.root k (inl z) in omega arith
      | inr n ↦ let p = type_parent k (omega arith, omega arith) in omega arith
    ]

    there_over : (k : ℕ) → k < length nodes → parent_at nodes k < length nodes
    there_over k less = elim (cases_lt k (middle_of image)) [
      | inl low ↦ let f = first_over k low in let l = forest.long in omega arith
      | inr high ↦ elim (cases_lt k (last_of image)) [
        | inl mid ↦ (second_over k high mid).0
        | inr past ↦ let e = forest.root k (inr past) in omega arith
      ]
    ]

    pub are_nodes : HasTables image → length image ≤ 2 ^ 26 → AreNodes nodes (middle_of image) (last_of image)
    are_nodes has small =
        let t = few_types image has in
        let r = few_references image has in
        let a = few_assemblies image has in
        let l = forest.long in
        record {
          some = omega arith;
          order = omega arith;
          within = omega arith;
          few = omega arith;
          there = there_over;
          first = first_over;
          second = λ k from less. (second_over k from less).1;
        }

module _ (image : List ℕ) (entries : (table row : ℕ) → HasRow image table row → HasEntries image table row) where
  abbrev TextAt : ℕ → Type 0
  TextAt at = (text : List ℕ) × HasText (strings_of image) at text

  type_name_there : (row : ℕ) → HasRow image 0x02 row → TextAt (type_name image row)
  type_name_there row there =
      let h = subst (λ column. IsEntry image column (cell (tables_of image) 0x02 row 1)) name_column (entries 0x02 row there 1 (let l = type_columns in omega arith)) in (h.0, h.1)

  type_space_there : (row : ℕ) → HasRow image 0x02 row → TextAt (type_space image row)
  type_space_there row there =
      let h = subst (λ column. IsEntry image column (cell (tables_of image) 0x02 row 2)) space_column (entries 0x02 row there 2 (let l = type_columns in omega arith)) in (h.0, h.1)

  ref_name_there : (row : ℕ) → HasRow image 0x01 row → TextAt (type_ref_name image row)
  ref_name_there row there =
      let h = subst (λ column. IsEntry image column (cell (tables_of image) 0x01 row 1)) ref_name_column (entries 0x01 row there 1 (let l = reference_columns in omega arith)) in (h.0, h.1)

  ref_space_there : (row : ℕ) → HasRow image 0x01 row → TextAt (type_ref_space image row)
  ref_space_there row there =
      let h = subst (λ column. IsEntry image column (cell (tables_of image) 0x01 row 2)) ref_space_column (entries 0x01 row there 2 (let l = reference_columns in omega arith)) in (h.0, h.1)

  pub type_ids : (row : ℕ) → HasRow image 0x02 row → (x : TypeId) × HasId image row x
  type_ids row there =
      let s = type_space_there row there in
      let n = type_name_there row there in
      (record { space = s.0; name = n.0 }, record { space = s.1; name = n.1 })

  pub ref_ids : (row : ℕ) → HasRow image 0x01 row → (x : TypeId) × HasRefId image row x
  ref_ids row there =
      let s = ref_space_there row there in
      let n = ref_name_there row there in
      (record { space = s.0; name = n.0 }, record { space = s.1; name = n.1 })
