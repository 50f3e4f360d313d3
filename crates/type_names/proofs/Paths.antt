-- Paths of types and of references are the names of their nodes.
use Rattle.std.proofs.Common.{◌≡◌, ℕ, zero, suc, ◌+◌, ◌-◌, ◌<◌, ◌≤◌, ◌⊎◌, inl, inr, Bool, true, false, List, [], ◌∷◌, ◌++◌, Option, Some, None, length, refl, sym, ◌∙◌, ap, subst, arith}
use Rattle.std.specs.Prelude.{◌==◌, ◌%◌, ◌/◌, ◌^◌, find, option_map, cond}
use Rattle.std.proofs.lemmas.Bool.{cases_eq}
use Rattle.std.proofs.lemmas.List.{length-append}
use Rattle.std.proofs.lemmas.Option.{same_Some, none-some, some_pair_parts}
use Rattle.metadata_tables.specs.declared.coded.Coded.TheVariants.{ResolutionScope}
use Rattle.metadata_tables.specs.CodedIndex.{table_of, tags}
use Rattle.metadata_tables.specs.declared.coded.Coded.{Coded}
use Rattle.type_terms.specs.declared.name.Scope.{Scope}
use Rattle.type_terms.specs.declared.name.Scope.TheVariants.{Here, Extern}
use Rattle.type_terms.specs.declared.name.TypeId.{TypeId}
use Rattle.image_model.specs.Columns.{type_name, type_space, type_ref_name, type_ref_space, type_ref_scope}
use Rattle.image_model.specs.Streams.{strings_of}
use Rattle.image_model.specs.Rows.{HasRow, Names, enclosing}
use Rattle.image_model.specs.Naming.{HasId, HasRefId, HasPath, HasRefPath}
use Rattle.name_numbers.specs.Names.{name_by, longer, parent_at, id_at, is_root}
use Rattle.name_numbers.specs.Texts.{text_in}
use Rattle.name_numbers.specs.declared.numbering.Node.{Node}
use Rattle.type_names.specs.Forest.{AreForest, HaveScopes, ref_node, assembly_node, last_of, scope_node, led_to}
use Rattle.type_names.proofs.Texts.{text_is}
use Rattle.name_numbers.proofs.Naming.{full, at_root, at_node, at_end, parts}
use Rattle.name_numbers.proofs.Roots.{root_first, root_behind, no_root}

-- a coded index names one row
pub names_one : (kind : Coded) (value t r u s : ℕ) → Names kind value t r → Names kind value u s → (t ≡ u) × (r ≡ s)
names_one kind value t r u s h k = some_pair_parts t u r s (sym h ∙ k)

-- where a root is, by what a scope says
abbrev pub scope_root : List ℕ → Scope → ℕ
scope_root image Here = 0
scope_root image (Extern k) = assembly_node image (k + 1)

-- ---- what a scope leads to

abbrev pair_of : ℕ → ℕ → ℕ × ℕ
pair_of table row = (table, row)

abbrev pair_some : ℕ → ℕ → Option (ℕ × ℕ)
pair_some table row = Some (table, row)

names_at_table : (image : List ℕ) (row table r other : ℕ) → Names ResolutionScope (type_ref_scope image row) table r → table ≡ other → Names ResolutionScope (type_ref_scope image row) other r
names_at_table image row table r other names e = names ∙ ap (λ z. pair_some z r) e

abbrev IsOneOf : List (ℕ × ℕ) → ℕ → Type 0
IsOneOf [] table = ⊥
IsOneOf (pair ∷ pairs) table = (table ≡ pair.0) ⊎ IsOneOf pairs table

found_if : (b : Bool) (tag : ℕ) (pair : ℕ × ℕ) (pairs : List (ℕ × ℕ)) (table : ℕ)
    → (option_map (λ (pair : ℕ × ℕ). pair.0) (find (λ (pair : ℕ × ℕ). pair.1 == tag) pairs) ≡ Some table → IsOneOf pairs table)
    → option_map (λ (pair : ℕ × ℕ). pair.0) (cond b (Some pair) (find (λ (pair : ℕ × ℕ). pair.1 == tag) pairs)) ≡ Some table → (table ≡ pair.0) ⊎ IsOneOf pairs table
found_if true tag pair pairs table more e = inl (sym (same_Some pair.0 table e))
found_if false tag pair pairs table more e = inr (more e)

found_in : (tag : ℕ) (pairs : List (ℕ × ℕ)) (table : ℕ) → option_map (λ (pair : ℕ × ℕ). pair.0) (find (λ (pair : ℕ × ℕ). pair.1 == tag) pairs) ≡ Some table → IsOneOf pairs table
found_in tag [] table e = absurd (none-some table e)
found_in tag (pair ∷ pairs) table e = found_if (pair.1 == tag) tag pair pairs table (found_in tag pairs table) e

table_found : (kind : Coded) (tag table : ℕ) → table_of kind tag ≡ Some table → IsOneOf (tags kind) table
unfolding table_of
table_found kind tag table e = found_in tag (tags kind) table e

table_is : (o : Option ℕ) (r table row : ℕ) → option_map (λ (table : ℕ). pair_of table r) o ≡ Some (table, row) → o ≡ Some table
table_is None r table row e = absurd (none-some (table, row) e)
table_is (Some t) r table row e = ap Some (ap (λ (z : ℕ × ℕ). z.0) (same_Some (t, r) (table, row) e))

pub scope_tables : (scope table row : ℕ) → Names ResolutionScope scope table row → (table ≡ 0x00) ⊎ ((table ≡ 0x1A) ⊎ ((table ≡ 0x23) ⊎ ((table ≡ 0x01) ⊎ ⊥)))
scope_tables scope table row e =
    table_found ResolutionScope (scope % 2 ^ 2) table (table_is (table_of ResolutionScope (scope % 2 ^ 2)) (scope / 2 ^ 2) table row e)

-- ---- the nodes

module _ (image : List ℕ) (nodes : List Node) (forest : AreForest image nodes) where
  abbrev up : ℕ → ℕ
  up = parent_at nodes

  abbrev id : ℕ → TypeId
  id = id_at (strings_of image) nodes

  abbrev root : ℕ → Bool
  root = is_root (last_of image)

  type_no_root : (row : ℕ) → HasRow image 0x02 row → root row ≡ false
  type_no_root row there = no_root (last_of image) row there.0 (let h = there.1 in omega arith)

  ref_no_root : (row : ℕ) → HasRow image 0x01 row → root (ref_node image row) ≡ false
  ref_no_root row there = no_root (last_of image) (ref_node image row) (let h = there.0 in omega arith) (let h = there.1 in omega arith)

  type_up : (row : ℕ) → HasRow image 0x02 row → up row ≡ enclosing image row
  type_up row there = ap (λ (n : Node). n.parent) (forest.type row there)

  ref_up : (row : ℕ) → HasRow image 0x01 row → up (ref_node image row) ≡ scope_node image (type_ref_scope image row)
  ref_up row there = ap (λ (n : Node). n.parent) (forest.reference row there)

  abbrev id_of : Node → TypeId
  id_of n = record { space = text_in (strings_of image) n.space; name = text_in (strings_of image) n.text }

  -- the texts of a type and of a reference
  type_id : (row : ℕ) (x : TypeId) → HasRow image 0x02 row → HasId image row x → id row ≡ x
  type_id row x there h =
      let s = text_is (strings_of image) (type_space image row) x.space h.space in
      let n = text_is (strings_of image) (type_name image row) x.name h.name in
      ap id_of (forest.type row there) ∙ (λ i. record { space = s i; name = n i })

  ref_id : (row : ℕ) (x : TypeId) → HasRow image 0x01 row → HasRefId image row x → id (ref_node image row) ≡ x
  ref_id row x there h =
      let s = text_is (strings_of image) (type_ref_space image row) x.space h.space in
      let n = text_is (strings_of image) (type_ref_name image row) x.name h.name in
      ap id_of (forest.reference row there) ∙ (λ i. record { space = s i; name = n i })

  module _ (outer_there : (row : ℕ) → HasRow image 0x02 row → 0 < enclosing image row → HasRow image 0x02 (enclosing image row))
      (scopes : HaveScopes image) (type_ids : (row : ℕ) → HasRow image 0x02 row → (x : TypeId) × HasId image row x)
      (ref_ids : (row : ℕ) → HasRow image 0x01 row → (x : TypeId) × HasRefId image row x)
      (no_modules : (row : ℕ) → HasRow image 0x1A row → ⊥) where
    has_type_id : (row : ℕ) → HasRow image 0x02 row → HasId image row (id row)
    has_type_id row there = let i = type_ids row there in subst (HasId image row) (sym (type_id row i.0 there i.1)) i.1

    has_ref_id : (row : ℕ) → HasRow image 0x01 row → HasRefId image row (id (ref_node image row))
    has_ref_id row there = let i = ref_ids row there in subst (HasRefId image row) (sym (ref_id row i.0 there i.1)) i.1

    -- ---- types

    at_top : (most row : ℕ) → HasRow image 0x02 row → enclosing image row ≡ 0 → name_by up id root (suc most) row ≡ full 0 (id row ∷ [])
    at_top most row there e =
        at_node up id root most row (type_no_root row there)
        ∙ ap (longer (id row)) (ap (name_by up id root most) (type_up row there ∙ e) ∙ at_root up id root most 0 (root_first (last_of image)))

    under : (most row : ℕ) (before : List TypeId) → HasRow image 0x02 row → name_by up id root most (enclosing image row) ≡ full 0 before
        → name_by up id root (suc most) row ≡ full 0 (before ++ id row ∷ [])
    under most row before there h =
        at_node up id root most row (type_no_root row there) ∙ ap (longer (id row)) (ap (name_by up id root most) (type_up row there) ∙ h)

    pub path_named : {row : ℕ} {path : List TypeId} → HasPath image row path → HasRow image 0x02 row → (most : ℕ) → length path ≤ most
        → name_by up id root most row ≡ full 0 path
    path_named (HasPath.top {type = t} {id = x} e h) there zero short = absurd (omega arith)
    path_named (HasPath.top {type = t} {id = x} e h) there (suc most) short =
        at_top most t there e ∙ ap (λ y. full 0 (y ∷ [])) (type_id t x there h)
    path_named (HasPath.nested {type = t} {outer = o} {id = x} {before = b} {path = p} e some h i s) there zero short =
        let l : length p ≡ length b + 1 = ap length s ∙ length-append b (x ∷ []) in
        absurd (omega arith)
    path_named (HasPath.nested {type = t} {outer = o} {id = x} {before = b} {path = p} e some h i s) there (suc most) short =
        let l : length p ≡ length b + 1 = ap length s ∙ length-append b (x ∷ []) in
        let outer : HasRow image 0x02 o = subst (HasRow image 0x02) e (outer_there t there (subst (λ z. 0 < z) (sym e) some)) in
        let before = path_named h outer most (omega arith) in
        under most t b there (ap (name_by up id root most) e ∙ before) ∙ ap (λ y. full 0 (b ++ y ∷ [])) (type_id t x there i) ∙ ap (full 0) (sym s)

    pub named_path : (most row : ℕ) (n : ℕ × List TypeId) → HasRow image 0x02 row → name_by up id root most row ≡ Some n → (n.0 ≡ 0) × HasPath image row n.1
    named_path zero row n there h = absurd (none-some n (sym (at_end up id root row (type_no_root row there)) ∙ h))
    named_path (suc most) row n there h =
        let p = parts up id root most row n (type_no_root row there) h in
        let q : ℕ × List TypeId = p.0 in
        let outer : name_by up id root most (enclosing image row) ≡ Some q = ap (name_by up id root most) (sym (type_up row there)) ∙ p.1 in
        elim (cases_eq (enclosing image row) 0) [
          | inl e ↦
              let r : (0, []) ≡ q = same_Some (0, []) q (sym (at_root up id root most 0 (root_first (last_of image))) ∙ ap (name_by up id root most) (sym e) ∙ outer) in
              let path : n.1 ≡ id row ∷ [] = p.3 ∙ ap (λ (z : ℕ × List TypeId). z.1 ++ id row ∷ []) (sym r) in
              (p.2 ∙ ap (λ (z : ℕ × List TypeId). z.0) (sym r), subst (HasPath image row) (sym path) (HasPath.top e (has_type_id row there)))
          | inr other ↦
              let some : 0 < enclosing image row = omega arith in
              let i = named_path most (enclosing image row) q (outer_there row there some) outer in
              (p.2 ∙ i.0, HasPath.nested refl some i.1 (has_type_id row there) p.3)
        ]

    -- ---- references

    ref_under : (most row k r : ℕ) (before : List TypeId) → HasRow image 0x01 row → scope_node image (type_ref_scope image row) ≡ k → name_by up id root most k ≡ full r before
        → name_by up id root (suc most) (ref_node image row) ≡ full r (before ++ id (ref_node image row) ∷ [])
    ref_under most row k r before there e h =
        at_node up id root most (ref_node image row) (ref_no_root row there)
        ∙ ap (longer (id (ref_node image row))) (ap (name_by up id root most) (ref_up row there ∙ e) ∙ h)

    leads : (row table r : ℕ) → Names ResolutionScope (type_ref_scope image row) table r → scope_node image (type_ref_scope image row) ≡ led_to image (Some (table, r))
    leads row table r e = ap (led_to image) e

    assembly_named : (most a : ℕ) → 0 < a → name_by up id root most (assembly_node image a) ≡ full (assembly_node image a) []
    assembly_named most a some = at_root up id root most (assembly_node image a) (root_behind (last_of image) (assembly_node image a) (omega arith))

    pub ref_path_named : {row : ℕ} {scope : Scope} {path : List TypeId} → HasRefPath image row scope path → HasRow image 0x01 row → (most : ℕ) → length path ≤ most
        → name_by up id root most (ref_node image row) ≡ full (scope_root image scope) path
    ref_path_named (HasRefPath.in_module {row = t} {m = m} {id = x} e h) there zero short = absurd (omega arith)
    ref_path_named (HasRefPath.in_module {row = t} {m = m} {id = x} e h) there (suc most) short =
        ref_under most t 0 0 [] there (leads t 0x00 m e) (at_root up id root most 0 (root_first (last_of image)))
        ∙ ap (λ y. full 0 (y ∷ [])) (ref_id t x there h)
    ref_path_named (HasRefPath.in_assembly {row = t} {assembly = a} {k = k} {id = x} e g h) there zero short = absurd (omega arith)
    ref_path_named (HasRefPath.in_assembly {row = t} {assembly = a} {k = k} {id = x} e g h) there (suc most) short =
        ref_under most t (assembly_node image a) (assembly_node image a) [] there (leads t 0x23 a e) (assembly_named most a (omega arith))
        ∙ ap (λ y. full (assembly_node image a) (y ∷ [])) (ref_id t x there h) ∙ ap (λ z. full (assembly_node image z) (x ∷ [])) g
    ref_path_named (HasRefPath.in_type {row = t} {outer = o} {scope = c} {id = x} {before = b} {path = p} e h i s) there zero short =
        let l : length p ≡ length b + 1 = ap length s ∙ length-append b (x ∷ []) in
        absurd (omega arith)
    ref_path_named (HasRefPath.in_type {row = t} {outer = o} {scope = c} {id = x} {before = b} {path = p} e h i s) there (suc most) short =
        let l : length p ≡ length b + 1 = ap length s ∙ length-append b (x ∷ []) in
        let (table, r, names, row_there) = scopes t there in
        let one = names_one ResolutionScope (type_ref_scope image t) table r 0x01 o names e in
        let outer : HasRow image 0x01 o = subst (λ z. HasRow image 0x01 z) one.1 (subst (λ z. HasRow image z r) one.0 row_there) in
        let before = ref_path_named h outer most (omega arith) in
        ref_under most t (ref_node image o) (scope_root image c) b there (leads t 0x01 o e) before
        ∙ ap (λ y. full (scope_root image c) (b ++ y ∷ [])) (ref_id t x there i) ∙ ap (full (scope_root image c)) (sym s)

    abbrev Refers : ℕ → ℕ × List TypeId → Type 0
    Refers row n = (scope : Scope) × (n.0 ≡ scope_root image scope) × HasRefPath image row scope n.1

    pub named_ref_path : (most row : ℕ) (n : ℕ × List TypeId) → HasRow image 0x01 row → name_by up id root most (ref_node image row) ≡ Some n → Refers row n
    named_ref_path zero row n there h = absurd (none-some n (sym (at_end up id root (ref_node image row) (ref_no_root row there)) ∙ h))
    named_ref_path (suc most) row n there h =
        let p = parts up id root most (ref_node image row) n (ref_no_root row there) h in
        let q : ℕ × List TypeId = p.0 in
        let (table, r, names, row_there) = scopes row there in
        let node : up (ref_node image row) ≡ led_to image (Some (table, r)) = ref_up row there ∙ leads row table r names in
        elim (scope_tables (type_ref_scope image row) table r names) [
          | inl e ↦
              let is : led_to image (Some (table, r)) ≡ 0 = ap (λ z. led_to image (pair_some z r)) e in
              let at : (0, []) ≡ q = same_Some (0, []) q (sym (at_root up id root most 0 (root_first (last_of image))) ∙ ap (name_by up id root most) (sym (node ∙ is)) ∙ p.1) in
              let path : n.1 ≡ id (ref_node image row) ∷ [] = p.3 ∙ ap (λ (z : ℕ × List TypeId). z.1 ++ id (ref_node image row) ∷ []) (sym at) in (
                Here,
                p.2 ∙ ap (λ (z : ℕ × List TypeId). z.0) (sym at),
                subst (HasRefPath image row Here) (sym path) (HasRefPath.in_module {m = r} (names_at_table image row table r 0x00 names e) (has_ref_id row there)),
              )
          | inr more ↦ elim more [
            | inl e ↦ absurd (no_modules r (subst (λ z. HasRow image z r) e row_there))
            | inr more ↦ elim more [
              | inl e ↦
                  let is : led_to image (Some (table, r)) ≡ assembly_node image r = ap (λ z. led_to image (pair_some z r)) e in
                  let some : 0 < r = row_there.0 in
                  let back : r ≡ r - 1 + 1 = omega arith in
                  let at : (assembly_node image r, []) ≡ q
                  = same_Some (assembly_node image r, []) q (sym (assembly_named most r some) ∙ ap (name_by up id root most) (sym (node ∙ is)) ∙ p.1) in
                  let path : n.1 ≡ id (ref_node image row) ∷ [] = p.3 ∙ ap (λ (z : ℕ × List TypeId). z.1 ++ id (ref_node image row) ∷ []) (sym at) in (
                    Extern (r - 1),
                    p.2 ∙ ap (λ (z : ℕ × List TypeId). z.0) (sym at) ∙ ap (assembly_node image) back,
                    subst (HasRefPath image row (Extern (r - 1))) (sym path) (HasRefPath.in_assembly {assembly = r} (names_at_table image row table r 0x23 names e) back (has_ref_id row there)),
                  )
              | inr more ↦ elim more [
                | inl e ↦
                    let is : led_to image (Some (table, r)) ≡ ref_node image r = ap (λ z. led_to image (pair_some z r)) e in
                    let outer : HasRow image 0x01 r = subst (λ z. HasRow image z r) e row_there in
                    let i = named_ref_path most r q outer (ap (name_by up id root most) (sym (node ∙ is)) ∙ p.1) in
                    (i.0, p.2 ∙ i.1, HasRefPath.in_type {outer = r} (names_at_table image row table r 0x01 names e) i.2 (has_ref_id row there) p.3)
                | inr never ↦ absurd never
              ]
            ]
          ]
        ]
