-- The rows of Field, one for each declared field.
use Rattle.std.proofs.Common.{◌≡◌, ap, refl, sym, ◌∙◌, subst, ℕ, suc, ◌+◌, ◌-◌, ◌<◌, ◌≤◌, ◌^◌, List, [], ◌∷◌, ◌++◌, map, drop, get_or, length, Some, arith}
use Rattle.std.specs.Borrow.{Bor}
use Rattle.std.specs.Prelude.{slice_get}
use Rattle.std.specs.List.{AllZip}
use Rattle.std.proofs.lemmas.List.{drop_more, length-append}
use Rattle.std.proofs.lemmas.Option.{same_Some, slice_get_within}
use Rattle.metadata_tables.specs.Encoding.{rows_of, rows_in, IsRowOf}
use Rattle.metadata_tables.specs.Laws.{RowOfColumns}
use Rattle.metadata_tables.specs.Schema.{schema}
use Rattle.assembly_tree.specs.declared.members.Field.{Field}
use Rattle.image_rows.specs.FieldRows.{field_flags, IsFieldRow, IsFieldAt, AddsItems}
use Rattle.image_members.specs.Places.{lent}
use Rattle.image_members.specs.Pushing.{Tables, AddsRows}
use Rattle.image_tokens.specs.declared.references.References.{References}
use Rattle.image_tokens.specs.declared.row_set.Cells.{Cells}
use Rattle.image_members.proofs.PushLemmas.{rows_none, rows_both}
use Rattle.image_tokens.proofs.RowLemmas.{at_index}
use Rattle.image_members.proofs.ZipLemmas.{zip_both, zip_long}

pub field_cells : RowOfColumns → (flags name signature : ℕ) → flags < 2 ^ 16 → IsRowOf 0x04 (flags ∷ name ∷ signature ∷ [])
unfolding schema
field_cells law flags name signature f = law 0x04 (flags ∷ name ∷ signature ∷ []) (omega arith) (f, (tt, (tt, tt)))

-- what stands from the place of an item on
pub drop_at : {X : Type 0} (xs : List X) (k : ℕ) (x : X) → slice_get xs k ≡ Some x → drop k xs ≡ x ∷ drop (k + 1) xs
drop_at xs k x at =
    let low = slice_get_within xs k x at in
    drop_more xs k x low ∙ ap (λ z. z ∷ drop (k + 1) xs) (same_Some (get_or xs k x) x (sym (at_index xs k x low) ∙ at))

-- ---- rows of items, some after others

module _ {X : Type 0} (table : ℕ) (IsRow : List ℕ → X → Type 0) where
  pub items_none : (from : Tables) → AddsItems table IsRow [] from from
  items_none from = record { rows = []; adds = rows_none table from; each = tt }

  pub items_both : (xs ys : List X) (from via to : Tables) → AddsItems table IsRow xs from via → AddsItems table IsRow ys via to → AddsItems table IsRow (xs ++ ys) from to
  items_both xs ys from via to p q = record {
    rows = p.rows ++ q.rows;
    adds = rows_both table p.rows q.rows from via to p.adds q.adds;
    each = zip_both IsRow p.rows q.rows xs ys p.each q.each;
  }

pub lent_long : {X : Type 0} → (xs : List (Bor X)) → length (lent xs) ≡ length xs
lent_long [] = refl
lent_long (x ∷ xs) = ap suc (lent_long xs)

-- ---- fields

module _ (r : References) where
  abbrev Adds : List Field → Tables → Tables → Type 0
  Adds = AddsItems 0x04 (IsFieldRow r)

  -- the row of a field by its declared row
  field_added : (cells : Cells) (f : Field) (from to : Tables) → IsFieldAt r cells f → AddsRows 0x04 ((field_flags f ∷ cells.second ∷ cells.third ∷ []) ∷ []) from to → Adds (f ∷ []) from to
  field_added cells f from to at h = record {
    rows = (field_flags f ∷ cells.second ∷ cells.third ∷ []) ∷ [];
    adds = h;
    each = (record { name = cells.second; signature = cells.third; are = refl; name_is = at.1.name_is; signature_is = at.1.signature }, tt);
  }

  -- the fields before `rest` have their rows, and the declared rows of the others follow from this place on
  pub record FieldsTo (from to : Tables) (place : ℕ) (xs rest : List (Bor Field)) : Type 0 where
    pub on : (end : Tables) → Adds (lent rest) to end → Adds (lent xs) from end
    pub declared : AllZip (IsFieldAt r) (drop place r.declared.fields) (lent rest)
    pub few : rows_in to 0x04 + length rest < 2 ^ 24
    pub within : place + length rest ≡ length r.declared.fields
    pub bound : length r.declared.fields < 2 ^ 24

  pub fields_begin : (from : Tables) (xs : List (Bor Field)) → AllZip (IsFieldAt r) r.declared.fields (lent xs) → rows_in from 0x04 + length xs < 2 ^ 24 → FieldsTo from from 0 xs xs
  fields_begin from xs declared few = record {
    on = λ end h. h;
    declared = declared;
    few = few;
    within = (let long = zip_long (IsFieldAt r) r.declared.fields (lent xs) declared in let same = lent_long xs in omega arith);
    bound = (let long = zip_long (IsFieldAt r) r.declared.fields (lent xs) declared in let same = lent_long xs in omega arith);
  }

  module _ (from to : Tables) (place : ℕ) (xs rest more : List (Bor Field)) (x : Bor Field) (e : rest ≡ x ∷ more) (d : FieldsTo from to place xs rest) where
    pub fields_within : place < length r.declared.fields
    fields_within = let within = d.within in let long = ap (length {A = Bor Field}) e in omega arith

    pub fields_few : rows_in to 0x04 < 2 ^ 24 - 1
    fields_few = let few = d.few in let long = ap (length {A = Bor Field}) e in omega arith

    pub fields_on : (cells : Cells) (end : Tables) → slice_get r.declared.fields place ≡ Some cells → AddsRows 0x04 ((field_flags x.now ∷ cells.second ∷ cells.third ∷ []) ∷ []) to end
        → FieldsTo from end (place + 1) xs more
    fields_on cells end at h =
        let here : drop place r.declared.fields ≡ cells ∷ drop (place + 1) r.declared.fields = drop_at r.declared.fields place cells at in
        let both : AllZip (IsFieldAt r) (cells ∷ drop (place + 1) r.declared.fields) (x.now ∷ lent more) =
        subst (λ ys. AllZip (IsFieldAt r) ys (x.now ∷ lent more)) here (subst (λ ys. AllZip (IsFieldAt r) (drop place r.declared.fields) (lent ys)) e d.declared) in
        let long = ap (length {A = Bor Field}) e in
        let count = ap (length {A = List ℕ}) h.added ∙ length-append (rows_of to 0x04) ((field_flags x.now ∷ cells.second ∷ cells.third ∷ []) ∷ []) in
        record {
          on = λ last k. d.on last (subst (λ ys. Adds (lent ys) to last) (sym e)
              (items_both 0x04 (IsFieldRow r) (x.now ∷ []) (lent more) to end last (field_added cells x.now to end both.0 h) k));
          declared = both.1;
          few = (let few = d.few in omega arith);
          within = (let within = d.within in omega arith);
          bound = d.bound;
        }

  pub fields_end : (from to : Tables) (place : ℕ) (xs rest : List (Bor Field)) → rest ≡ [] → FieldsTo from to place xs rest → Adds (lent xs) from to
  fields_end from to place xs rest e d = d.on to (subst (λ ys. Adds (lent ys) to to) (sym e) (items_none 0x04 (IsFieldRow r) to))
