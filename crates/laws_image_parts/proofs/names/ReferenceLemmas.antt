-- Rows of TypeRef and their paths.
use Rattle.std.proofs.Common.{◌≡◌, ap, refl, sym, ◌∙◌, subst, ℕ, ◌+◌, ◌-◌, ◌<◌, ◌≤◌, List, [], ◌∷◌, ◌++◌, Some, arith}
use Rattle.std.specs.Prelude.{slice_index}
use Rattle.std.proofs.lemmas.List.{append_assoc}
use Rattle.metadata_tables.specs.CodedIndex.{tag_of, unpacked}
use Rattle.metadata_tables.specs.declared.coded.Coded.TheVariants.{ResolutionScope}
use Rattle.type_terms.specs.declared.name.Scope.{Scope}
use Rattle.type_terms.specs.declared.name.Scope.TheVariants.{Extern}
use Rattle.type_terms.specs.declared.name.TypeId.{TypeId}
use Rattle.image_tokens.specs.NameTokens.{in_extern}
use Rattle.image_tokens.specs.References.{IsNameRow}
use Rattle.image_tokens.specs.Rows.{IsRowAt, EachRow}
use Rattle.image_tokens.specs.Texts.{HoldsId}
use Rattle.image_tokens.specs.TypePaths.{IsTypeRow, Follows, LeadsIn, in_reference}
use Rattle.image_tokens.specs.TypePaths as paths
use Rattle.image_tokens.specs.declared.references.References.{References}
use Rattle.image_tokens.specs.declared.row_set.Cells.{Cells}
use Rattle.image_rows.specs.Filled.{three_cells}
use Rattle.image_layout.specs.Laws.{ReadsHeaps}
use Rattle.image_model.specs.Columns.{type_ref_scope, type_ref_name, type_ref_space}
use Rattle.image_model.specs.Naming.{HasRefId, HasRefPath}
use Rattle.image_model.specs.Rows.{Names, count_of}
use Rattle.image_model.specs.Streams.{strings_of}
use Rattle.heaps.specs.Content.{HasText}
use Rattle.laws_image_parts.specs.AtRows.{Reads}
use Rattle.laws_image_parts.specs.RowCells.{type_ref_cells}
use Rattle.laws_image_parts.specs.RowsRead.{IsMade}
use Rattle.laws_image_parts.proofs.CellLemmas.{get_low}
use Rattle.laws_image_parts.proofs.IndexLemmas.{index_names}
use Rattle.laws_image_parts.proofs.names.General.{get_some}

-- scopes as coded indexes
extern_scope : (number cell : ℕ) → cell ≡ in_extern number → Names ResolutionScope cell 0x23 (number + 1)
unfolding tag_of
extern_scope number cell e = subst (λ c. unpacked ResolutionScope c ≡ Some (0x23, number + 1)) (sym e) (index_names ResolutionScope 0x23 (number + 1) 2 refl)

type_scope : (row cell : ℕ) → cell ≡ in_reference row → Names ResolutionScope cell 0x01 row
unfolding tag_of
type_scope row cell e = subst (λ c. unpacked ResolutionScope c ≡ Some (0x01, row)) (sym e) (index_names ResolutionScope 0x01 row 3 refl)

module _ (r : References) (image : List ℕ) (reads : Reads 0x01 type_ref_cells (IsMade three_cells) r.referred.names image) (heaps : ReadsHeaps r image) where
  -- the columns of a row are its cells
  cells_at : (row : ℕ) (cells : Cells) → IsRowAt r.referred.names cells row → type_ref_cells image row ≡ three_cells cells
  cells_at row cells at =
      let counted = at.counted in
      let here : 1 + (row - 1) ≡ row = omega arith in
      subst (λ m. type_ref_cells image m ≡ three_cells cells) here (reads.each (row - 1) cells at.at)

  scope_at : (row : ℕ) (cells : Cells) → IsRowAt r.referred.names cells row → type_ref_scope image row ≡ cells.first
  scope_at row cells at = ap (λ (cs : List ℕ). slice_index cs 0) (cells_at row cells at)

  id_at : (row : ℕ) (cells : Cells) (id : TypeId) → IsRowAt r.referred.names cells row → HoldsId r.heaps.strings id cells.second cells.third → HasRefId image row id
  id_at row cells id at h =
      let name : type_ref_name image row ≡ cells.second = ap (λ (cs : List ℕ). slice_index cs 1) (cells_at row cells at) in
      let space : type_ref_space image row ≡ cells.third = ap (λ (cs : List ℕ). slice_index cs 2) (cells_at row cells at) in
      record {
        space = subst (λ n. HasText (strings_of image) n id.space) (sym space) (heaps.texts cells.third id.space h.space_is.there);
        name = subst (λ n. HasText (strings_of image) n id.name) (sym name) (heaps.texts cells.second id.name h.name_is.there);
      }

  pub row_there : (row : ℕ) (cells : Cells) → IsRowAt r.referred.names cells row → (0 < row) × (row ≤ count_of image 0x01)
  row_there row cells at =
      let counted = at.counted in
      let high = get_low r.referred.names (row - 1) cells at.at in
      (counted, omega (arith, high, reads.count))

  -- a row in an extern, and one in another row
  top_path : (number row : ℕ) (cells : Cells) (id : TypeId) → IsRowAt r.referred.names cells row → cells.first ≡ in_extern number
      → HoldsId r.heaps.strings id cells.second cells.third → HasRefPath image row (Extern number) (id ∷ [])
  top_path number row cells id at scope h =
      HasRefPath.in_assembly (extern_scope number (type_ref_scope image row) (scope_at row cells at ∙ scope)) refl (id_at row cells id at h)

  inner_path : (scope : Scope) (outer row : ℕ) (before : List TypeId) (cells : Cells) (id : TypeId) → IsRowAt r.referred.names cells row → cells.first ≡ in_reference outer
      → HoldsId r.heaps.strings id cells.second cells.third → HasRefPath image outer scope before → HasRefPath image row scope (before ++ id ∷ [])
  inner_path scope outer row before cells id at is h path =
      HasRefPath.in_type (type_scope outer (type_ref_scope image row) (scope_at row cells at ∙ is)) path (id_at row cells id at h) refl

  -- ---- the path that leads to a row is the row's

  refers_on : {inner row : ℕ} {path : List TypeId} (scope : Scope) (outer : ℕ) (before : List TypeId) → HasRefPath image outer scope before → inner ≡ in_reference outer
      → Follows r.heaps.strings r.referred.names in_reference inner path row → HasRefPath image row scope (before ++ path)
  refers_on scope outer before h is (paths.last {row = row} {id = id} t e) =
      subst (λ (p : List TypeId). HasRefPath image row scope (before ++ p)) (sym e) (inner_path scope outer row before t.cells id t.at (t.scope_is ∙ is) t.id_is h)
  refers_on {row = end} {path = path} scope outer before h is (paths.on {row = row} {id = id} {rest = rest} t e f) =
      let next : HasRefPath image row scope (before ++ id ∷ []) = inner_path scope outer row before t.cells id t.at (t.scope_is ∙ is) t.id_is h in
      let whole : before ++ id ∷ [] ++ rest ≡ before ++ path = append_assoc before (id ∷ []) rest ∙ ap (λ (p : List TypeId). before ++ p) (sym e) in
      subst (HasRefPath image end scope) whole (refers_on scope row (before ++ id ∷ []) next refl f)

  pub refers_to : {inner row : ℕ} {path : List TypeId} (number : ℕ) → inner ≡ in_extern number → Follows r.heaps.strings r.referred.names in_reference inner path row
      → HasRefPath image row (Extern number) path
  refers_to number is (paths.last {row = row} {id = id} t e) =
      subst (HasRefPath image row (Extern number)) (sym e) (top_path number row t.cells id t.at (t.scope_is ∙ is) t.id_is)
  refers_to {row = end} number is (paths.on {row = row} {id = id} {rest = rest} t e f) =
      subst (HasRefPath image end (Extern number)) (sym e)
      (refers_on (Extern number) row (id ∷ []) (top_path number row t.cells id t.at (t.scope_is ∙ is) t.id_is) refl f)

  pub refers_in : {inner row : ℕ} {path : List TypeId} → Follows r.heaps.strings r.referred.names in_reference inner path row → (0 < row) × (row ≤ count_of image 0x01)
  refers_in (paths.last {row = row} t e) = row_there row t.cells t.at
  refers_in (paths.on t e f) = refers_in f

  -- ---- each row has a path

  lies_on : (scope : Scope) (outer : ℕ) (before ids : List TypeId) (inner row : ℕ) (cells : Cells) (id : TypeId) → HasRefPath image outer scope before
      → LeadsIn r.heaps.strings r.referred.names (in_reference outer) ids inner → IsRowAt r.referred.names cells row → cells.first ≡ inner
      → HoldsId r.heaps.strings id cells.second cells.third → (path : List TypeId) × HasRefPath image row scope path
  lies_on scope outer before [] inner row cells id h leads at is holds = (before ++ id ∷ [], inner_path scope outer row before cells id at (is ∙ leads) holds h)
  lies_on scope outer before (i ∷ ids) inner row cells id h leads at is holds =
      lies_on scope leads.0 (before ++ i ∷ []) ids inner row cells id
      (inner_path scope outer leads.0 before leads.1.cells i leads.1.at leads.1.scope_is leads.1.id_is h) leads.2 at is holds

  lies_in : (number : ℕ) (ids : List TypeId) (inner row : ℕ) (cells : Cells) (id : TypeId)
      → LeadsIn r.heaps.strings r.referred.names (in_extern number) ids inner → IsRowAt r.referred.names cells row → cells.first ≡ inner
      → HoldsId r.heaps.strings id cells.second cells.third → (path : List TypeId) × HasRefPath image row (Extern number) path
  lies_in number [] inner row cells id leads at is holds = (id ∷ [], top_path number row cells id at (is ∙ leads) holds)
  lies_in number (i ∷ ids) inner row cells id leads at is holds =
      lies_on (Extern number) leads.0 (i ∷ []) ids inner row cells id (top_path number leads.0 leads.1.cells i leads.1.at leads.1.scope_is leads.1.id_is) leads.2 at is holds

  pub has_ref_path : EachRow (IsNameRow r) r.referred.names → (row : ℕ) → 0 < row → row ≤ count_of image 0x01
      → (number : ℕ) × (path : List TypeId) × HasRefPath image row (Extern number) path
  has_ref_path rows row pos high =
      let found = get_some r.referred.names (row - 1) (omega (arith, reads.count)) in
      let is = rows (row - 1) found.0 found.1 in
      let on = is.lies in
      let at : IsRowAt r.referred.names found.0 row = record { counted = pos; at = found.1 } in
      let path = lies_in on.number on.path.before found.0.first row found.0 on.path.id on.path.leads at refl on.path.id_is in
      (on.number, path.0, path.1)
