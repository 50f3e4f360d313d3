-- Paths and names of types are read back.
use Rattle.std.proofs.Common.{◌≡◌, ℕ, suc, ◌+◌, nat_lt, true, List, [], ◌∷◌, map, length, Some, refl, ap, ◌∙◌, append-nil}
use Rattle.std.proofs.lemmas.Bool.{and_parts, false≢true}
use Rattle.std.specs.List.{list_all}
use Rattle.ilasm_grammar.specs.declared.productions.TheConstants as p
use Rattle.type_terms.specs.declared.name.Scope as scope
use Rattle.type_terms.specs.declared.name.TypeId.{TypeId}
use Rattle.type_terms.specs.declared.name.TypeName.{TypeName}
use Rattle.assembly_tree.specs.declared.assembly.ExternAssembly.{ExternAssembly}
use Rattle.source_model.specs.Forest as f
use Rattle.source_model.specs.Names.{path_tokens, scope_named, or_scope, type_name}
use Rattle.source_model.specs.Nodes.{id_of_texts, type_id}
use Rattle.source_model.specs.Source.{Source}
use Rattle.source_model.specs.Values.{part_texts, dotted, between_quotes}
use Rattle.listing_leaves.specs.Laws.{has_no_zero, is_name}
use Rattle.listing_leaves.specs.Names as leaf
use Rattle.listing_model.specs.Shown.{Item, size, star_production, star_below}
use Rattle.listing_model.specs.Types.{path_below, slash_name, extern_key, name_in}
use Rattle.listing_reading.specs.Laws.{RowsAreRead}
use Rattle.listing_reading.specs.Numbered.{numbered, Agrees}
use Rattle.listing_reading.specs.Rows.{AreAmong, parts_at}
use Rattle.listing_values.specs.Laws.{NamesAreRead}
use Rattle.listing_terms.specs.Laws.{PathsAreRead}
use Rattle.listing_terms.specs.Readable.{KnowsAssemblies, is_id_named, is_path_named, is_scope_named}

-- ---- rows in a source

-- each item of a row stands at its place
abbrev pub AllAgree : Source → ℕ → List Item → Type 0
AllAgree s at [] = Unit {0}
AllAgree s at (i ∷ is) = Agrees s at i.below × AllAgree s (at + size i.below) is

pub row_agrees : (s : Source) (more end : ℕ) (is : List Item) (at : ℕ) → Agrees s at (star_below more end is) → AllAgree s at is
row_agrees s more end [] at h = tt
row_agrees s more end (i ∷ is) at h = (h.0, row_agrees s more end is (at + size i.below) h.1.0)

no_length : nat_lt 0 0 ≡ true → ⊥
no_length h = false≢true h

-- ---- paths

slashes_are : (ids : List TypeId) → AreAmong (p.SLASH_NAME ∷ []) (map slash_name ids)
slashes_are [] = tt
slashes_are (id ∷ ids) = (refl, slashes_are ids)

abbrev names_of : Source → List f.Part → List TypeId
names_of s ps = map (type_id s) (map (λ g. f.leaf_at 1 g) (f.below_each ps))

module _ (names : NamesAreRead) (s : Source) where
  id_read : (id : TypeId) → is_id_named id ≡ true → (text : List ℕ) → text ≡ leaf.type_name id.space id.name → id_of_texts (part_texts text) ≡ id
  id_read id h text e =
      let hs = and_parts (has_no_zero id.space) (is_name id.name) h in
      ap (λ t. id_of_texts (part_texts t)) e ∙ names.type_name id.space id.name hs.0 hs.1

  each_read : (ids : List TypeId) (at : ℕ) → list_all is_id_named ids ≡ true → AllAgree s at (map slash_name ids) → names_of s (parts_at at (map slash_name ids)) ≡ ids
  each_read [] at h ag = refl
  each_read (id ∷ ids) at h ag =
      let hs = and_parts (is_id_named id) (list_all is_id_named ids) h in
      let next = at + size (slash_name id).below in
      ap (λ x. x ∷ names_of s (parts_at next (map slash_name ids))) (id_read id hs.0 _ ag.0.1.0.text)
      ∙ ap (λ xs. id ∷ xs) (each_read ids next hs.1 ag.1)

path_at : NamesAreRead → RowsAreRead → (s : Source) (ids : List TypeId) → is_path_named ids ≡ true → (at : ℕ) → Agrees s at (path_below ids) →
    map (type_id s) (path_tokens (numbered at (path_below ids))) ≡ ids
path_at names rows s [] h at ag = absurd (no_length (and_parts (nat_lt 0 0) true h).0)
path_at names rows s (id ∷ ids) h at ag =
    let all = (and_parts (nat_lt 0 (length (id ∷ ids))) (list_all is_id_named (id ∷ ids)) h).1 in
    let hs = and_parts (is_id_named id) (list_all is_id_named ids) all in
    let items = map slash_name ids in
    let row = f.branch (star_production p.SLASH_NAME_STAR_MORE p.SLASH_NAME_STAR_END items) (numbered (suc at) (star_below p.SLASH_NAME_STAR_MORE p.SLASH_NAME_STAR_END items)) f.none in
    ap (λ x. x ∷ names_of s (f.parts (p.SLASH_NAME ∷ []) row)) (id_read names s id hs.0 _ ag.0.text)
    ∙ (ap (λ ps. id ∷ names_of s ps) (rows.star (p.SLASH_NAME ∷ []) p.SLASH_NAME_STAR_MORE p.SLASH_NAME_STAR_END refl refl items (slashes_are ids) (suc at) f.none ∙ append-nil (parts_at (suc at) items))
    ∙ ap (λ xs. id ∷ xs) (each_read names s ids (suc at) hs.1 (row_agrees s p.SLASH_NAME_STAR_MORE p.SLASH_NAME_STAR_END items (suc at) ag.1.0)))

pub path_read : NamesAreRead → RowsAreRead → PathsAreRead
path_read = path_at

-- ---- names of types

abbrev of_name : scope.Scope → List TypeId → TypeName
of_name sc ids = record { scope = sc; path = ids }

module _ (names : NamesAreRead) (rows : RowsAreRead) (s : Source) (externs : List ExternAssembly) (knows : KnowsAssemblies s externs) where
  scope_read : (k : ℕ) → is_scope_named externs (scope.TheVariants.Extern k) ≡ true → (text : List ℕ) →
      text ≡ leaf.scope (extern_key externs k) →
      scope_named s (dotted (part_texts (between_quotes text))) ≡ Some (scope.TheVariants.Extern k)
  scope_read k h text e =
      let hs = and_parts (nat_lt k (length externs)) (is_name (extern_key externs k)) h in
      ap (λ t. scope_named s (dotted (part_texts (between_quotes t)))) e
      ∙ (ap (scope_named s) (names.scope (extern_key externs k) hs.1) ∙ knows k hs.0)

  pub name_read : (sc : scope.Scope) (ids : List TypeId) → is_scope_named externs sc ≡ true → is_path_named ids ≡ true →
      (at : ℕ) → Agrees s at (name_in externs sc ids).below → (after : f.Forest) →
      type_name s (f.branch (name_in externs sc ids).production (numbered at (name_in externs sc ids).below) after) ≡ of_name sc ids
  name_read scope.TheVariants.Here ids h k at ag after = ap (of_name scope.TheVariants.Here) (path_at names rows s ids k at ag.0)
  name_read (scope.TheVariants.Extern e) ids h k at ag after =
      ap (λ o. of_name (or_scope o) (map (type_id s) (path_tokens (numbered (suc at) (path_below ids))))) (scope_read e h _ ag.0.text)
      ∙ ap (of_name (scope.TheVariants.Extern e)) (path_at names rows s ids k (suc at) ag.1.0)
