-- What a row names: by coded indexes, in its signature, by its place among marked rows.
use Rattle.std.proofs.Common.{◌≡◌, ◌∙◌, sym, ap, subst, refl, ℕ, ◌+◌, ◌*◌, ◌<◌, ◌≤◌, ◌⊎◌, inl, inr, Bool, true, false, cond, nat_eq, List, [], Option, Some, None, length, arith}
use Rattle.std.specs.Prelude.{◌↔◌, IsTrue, Contains, OnOk, Result}
use Rattle.std.proofs.lemmas.Bool.{cases_eq, false≢true}
use Rattle.std.proofs.lemmas.Grind.{common_steps}
use Rattle.hash_places.specs.Slots.{place_of}
use Rattle.hash_places.specs.declared.slots.Slot.{Slot}
use Rattle.metadata_tables.specs.CodedIndex.{unpacked}
use Rattle.metadata_tables.specs.Schema.{columns_of}
use Rattle.metadata_tables.specs.Stream.{cell, column_of}
use Rattle.metadata_tables.specs.declared.coded.Coded.{Coded}
use Rattle.metadata_tables.specs.declared.coded.Coded.TheVariants.{ResolutionScope}
use Rattle.metadata_tables.specs.declared.schema.Column.{Column}
use Rattle.metadata_tables.specs.declared.schema.Column.TheVariants.{Number, Strings, Guids, Blobs, Row, Run, Tagged}
use Rattle.image_model.specs.Naming.{IsToken}
use Rattle.image_model.specs.Rows.{count_of, HasRow, Names}
use Rattle.image_model.specs.Streams.{tables_of}
use Rattle.image_model.specs.Tokens.{SignatureNames}
use Rattle.image_model.specs.Used.{CellNames, RowNames, by_cell, by_signature}
use Rattle.sig_codec.proofs.Numbers.{some_is}
use Rattle.method_states.specs.Marks.{marks_in, IsKept, IsMarked, HasPlace, HaveRoom}
use Rattle.method_states.specs.States.{AreNamedByBodies}
use Rattle.method_states.specs.declared.row_marks.RowMarks.{RowMarks}
use Rattle.method_states.proofs.Marking.{room_kept}
use Rattle.row_signatures.specs.Signed.{signature_column, IndexHolds}
use Rattle.row_signatures.proofs.Columns.{are_held, same_held}
use Rattle.image_used.specs.Spreading.{IsRow, TokensName, ColumnNames, IndexNames, SignatureLeads, IsMarkedRow, MarkedIn, CellsName, Spreads, key, IsReady}
use Rattle.image_used.specs.declared.spread.RowAt.{RowAt}
use Rattle.image_used.proofs.Spreading.{placed, spreads_as, spreads_both}

abbrev pair : ℕ → ℕ → ℕ × ℕ
pair a b = (a, b)

-- ---- coded indexes

pub coded_row : (kind : Coded) (value table row t r : ℕ) → unpacked kind value ≡ Some (pair table row) → IsRow table row t r → Names kind value t r
coded_row kind value table row t r e h = e ∙ ap (λ (z : ℕ × ℕ). Some z) (ap (λ (x : ℕ). pair x row) (sym h.0) ∙ ap (λ (y : ℕ). pair t y) (sym h.1))

pub row_coded : (kind : Coded) (value table row t r : ℕ) → unpacked kind value ≡ Some (pair table row) → Names kind value t r → IsRow table row t r
row_coded kind value table row t r e n =
    let same = some_is (pair table row) (pair t r) (sym e ∙ n) in
    (ap (λ (z : ℕ × ℕ). z.0) (sym same), ap (λ (z : ℕ × ℕ). z.1) (sym same))

abbrev kind_in : Column → Coded
kind_in (Tagged kind nil) = kind
kind_in (Number bytes) = ResolutionScope
kind_in (Strings nil) = ResolutionScope
kind_in (Guids nil) = ResolutionScope
kind_in (Blobs nil) = ResolutionScope
kind_in (Row table) = ResolutionScope
kind_in (Run table) = ResolutionScope

pub column_names : {column : Column} {kind : Coded} {nil : Bool} {value : ℕ} → column ≡ Tagged kind nil → (t r : ℕ) → Names kind value t r → ColumnNames column value t r
column_names {kind = kind} {nil = nil} e t r n = record { kind = kind; nil = nil; coded = e; names = n }

pub names_column : {column : Column} {kind : Coded} {nil : Bool} {value : ℕ} → column ≡ Tagged kind nil → (t r : ℕ) → ColumnNames column value t r → Names kind value t r
names_column {value = value} e t r n = subst (λ (c : Coded). Names c value t r) (ap kind_in (sym n.coded ∙ e)) n.names

-- the cells of a row, up to one more, and all of them
pub cells_more : (image : List ℕ) (table row k t r : ℕ) → CellsName image table row k t r ⊎ ColumnNames (column_of table k) (cell (tables_of image) table row k) t r → CellsName image table row (k + 1) t r
cells_more image table row k t r (inl n) = (n.0, let l = n.1 in omega arith, n.2)
cells_more image table row k t r (inr n) = (k, omega arith, n)

pub cells_back : (image : List ℕ) (table row k t r : ℕ) → CellsName image table row (k + 1) t r → CellsName image table row k t r ⊎ ColumnNames (column_of table k) (cell (tables_of image) table row k) t r
cells_back image table row k t r n =
    elim (cases_eq n.0 k) [
      | inl e ↦ inr (subst (λ (c : ℕ). ColumnNames (column_of table c) (cell (tables_of image) table row c) t r) e n.2)
      | inr ne ↦ inl (n.0, let l = n.1 in omega arith, n.2)
    ]

pub cell_more : {a b c : RowMarks} {p q s : List RowAt} (image : List ℕ) (table row k : ℕ) {column : Column} {value : ℕ} → column ≡ column_of table k → value ≡ cell (tables_of image) table row k
    → Spreads a p b q (CellsName image table row k) → Spreads b q c s (ColumnNames column value) → Spreads a p c s (CellsName image table row (k + 1))
cell_more {a = a} {b = b} {c = c} {p = p} {q = q} {s = s} image table row k {column = column} {value = value} e f h g =
    let same : (t r : ℕ) → ColumnNames column value t r → ColumnNames (column_of table k) (cell (tables_of image) table row k) t r =
    λ t r n. subst (λ (x : Column). ColumnNames x (cell (tables_of image) table row k) t r) e (subst (λ (y : ℕ). ColumnNames column y t r) f n) in
    let back : (t r : ℕ) → ColumnNames (column_of table k) (cell (tables_of image) table row k) t r → ColumnNames column value t r =
    λ t r n. subst (λ (x : Column). ColumnNames x value t r) (sym e) (subst (λ (y : ℕ). ColumnNames (column_of table k) y t r) (sym f) n) in
    spreads_both a b c p q s (CellsName image table row k) (ColumnNames column value) (CellsName image table row (k + 1))
    (λ t r n. cells_more image table row k t r (elim n [ inl o ↦ inl o | inr x ↦ inr (same t r x) ]))
    (λ t r n. elim (cells_back image table row k t r n) [ inl o ↦ inl o | inr x ↦ inr (back t r x) ]) h g

pub cells_all : (a b : RowMarks) (p q : List RowAt) (image : List ℕ) (table row n : ℕ) → n ≤ length (columns_of table) → length (columns_of table) ≤ n → Spreads a p b q (CellsName image table row n) → Spreads a p b q (CellNames image table row)
cells_all a b p q image table row n low high h =
    spreads_as a b p q (CellsName image table row n) (CellNames image table row)
    (λ t r x. record { column = x.0; kind = x.2.kind; nil = x.2.nil; there = (let l = x.1 in omega arith); coded = x.2.coded; names = x.2.names })
    (λ t r x. (x.column, (let l = x.there in omega arith), record { kind = x.kind; nil = x.nil; coded = x.coded; names = x.names })) h

-- ---- signatures

pub index_signature : (image : List ℕ) (table row column index t r : ℕ) → signature_column table ≡ Some column → cell (tables_of image) table row column ≡ index → IndexNames image table index t r → SignatureLeads image table row t r
index_signature image table row column index t r is e n =
    (n.0, (are_held image row n.0 table).1 (record { column = column; is = is; holds = subst (λ (i : ℕ). IndexHolds image table i n.0) (sym e) n.1 }), n.2)

pub signature_index : (image : List ℕ) (table row column index t r : ℕ) → signature_column table ≡ Some column → cell (tables_of image) table row column ≡ index → SignatureLeads image table row t r → IndexNames image table index t r
signature_index image table row column index t r is e n = (n.0, same_held image row n.0 table column index is e n.1, n.2)

pub no_signature : (image : List ℕ) (table row t r : ℕ) → signature_column table ≡ None → SignatureLeads image table row t r → ⊥
no_signature image table row t r none n = let h = (are_held image row n.0 table).0 n.1 in let is = h.is in absurd (let f = sym none ∙ is in cc)

-- those among the tokens of a blob
pub by_tokens : (image : List ℕ) (table index : ℕ) (xs ys : List ℕ) (t r : ℕ) → xs ≡ ys → ((token : ℕ) → Contains ys token ↔ IndexHolds image table index token) → TokensName xs t r → IndexNames image table index t r
by_tokens image table index xs ys t r e h n = (n.0, (h n.0).0 (subst (λ (zs : List ℕ). Contains zs n.0) e n.1), n.2)

pub of_tokens : (image : List ℕ) (table index : ℕ) (xs ys : List ℕ) (t r : ℕ) → xs ≡ ys → ((token : ℕ) → Contains ys token ↔ IndexHolds image table index token) → IndexNames image table index t r → TokensName xs t r
of_tokens image table index xs ys t r e h n = (n.0, subst (λ (zs : List ℕ). Contains zs n.0) (sym e) ((h n.0).1 n.1), n.2)

-- ---- rows

pub row_names : (image : List ℕ) (table row t r : ℕ) → CellNames image table row t r ⊎ SignatureLeads image table row t r → RowNames image table row t r
row_names image table row t r (inl c) = by_cell c
row_names image table row t r (inr n) = by_signature n.1 n.2

pub names_row : (image : List ℕ) (table row t r : ℕ) → RowNames image table row t r → CellNames image table row t r ⊎ SignatureLeads image table row t r
names_row image table row t r (by_cell c) = inl c
names_row image table row t r (by_signature {token = token} s i) = inr (token, s, i)

-- ---- what was looked at

keys_tie : (k l i j : ℕ) → k < 256 → l < 256 → key k i ≡ key l j → (k ≡ l) × (i ≡ j)
keys_tie k l i j a b e = (omega arith, omega arith)

pub ready_kept : (image : List ℕ) (m n : RowMarks) (p q : List RowAt) (seen new : List Slot) (Named : ℕ → ℕ → Type 0) → IsReady image m seen → Spreads m p n q Named → new ≡ seen → IsReady image n new
ready_kept image m n p q seen new Named h s e = record {
  room = room_kept image m n s.room h.room;
  told = λ table index place small f t r names here.
      (s.marked t r).1 (inl (h.told table index place small (ap (λ (z : List Slot). place_of z (key table index)) (sym e) ∙ f) t r names (placed m n t r (s.room t) here)));
}

pub ready_more : (image : List ℕ) (m n : RowMarks) (p q : List RowAt) (seen new : List Slot) (table index hash : ℕ) → table < 256 → hash ≡ key table index → IsReady image m seen → Spreads m p n q (IndexNames image table index)
    → ((k : ℕ) → place_of new k ≡ cond (nat_eq hash k) (Some 0) (place_of seen k)) → IsReady image n new
ready_more image m n p q seen new table index hash small is h s later = record {
  room = room_kept image m n s.room h.room;
  told = λ k i place low f t r names here. go k i place low (nat_eq hash (key k i)) refl (sym (later (key k i)) ∙ f) t r names here;
}
  where
    go : (k i place : ℕ) → k < 256 → (b : Bool) → nat_eq hash (key k i) ≡ b → cond b (Some 0) (place_of seen (key k i)) ≡ Some place → (t r : ℕ) → IndexNames image k i t r → HasPlace n t r → IsMarked n t r
    go k i place low true e f t r names here =
        let same : hash ≡ key k i = grind (arith, common_steps) in
        let tie = keys_tie table k index i small low (sym is ∙ same) in
        (s.marked t r).1 (inr (
          subst (λ (x : ℕ). IndexNames image x index t r) (sym tie.0) (subst (λ (j : ℕ). IndexNames image k j t r) (sym tie.1) names),
          placed m n t r (s.room t) here,
        ))
    go k i place low false e f t r names here = (s.marked t r).1 (inl (h.told k i place low f t r names (placed m n t r (s.room t) here)))

-- ---- rows that are marked elsewhere

pub here_marked : (named : RowMarks) (table row t r : ℕ) → IsMarked named table row → IsRow table row t r → IsMarkedRow named table row t r
here_marked named table row t r h e = (e, subst (λ (x : ℕ). IsMarked named x r) (sym e.0) (subst (λ (y : ℕ). IsMarked named table y) (sym e.1) h))

pub marked_here : (named : RowMarks) (table row t r : ℕ) → IsMarkedRow named table row t r → IsMarked named table row
marked_here named table row t r h = subst (λ (x : ℕ). IsMarked named x row) h.0.0 (subst (λ (y : ℕ). IsMarked named t y) h.0.1 h.1)

pub marked_more : (named : RowMarks) (table k t r : ℕ) → MarkedIn named table k t r ⊎ IsMarkedRow named table (k + 1) t r → MarkedIn named table (k + 1) t r
marked_more named table k t r (inl h) = (h.0, h.1, let l = h.2 in omega arith, h.3)
marked_more named table k t r (inr h) = (h.0.0, let e = h.0.1 in omega arith, let e = h.0.1 in omega arith, h.1)

pub marked_back : (named : RowMarks) (table k t r : ℕ) → MarkedIn named table (k + 1) t r → MarkedIn named table k t r ⊎ IsMarkedRow named table (k + 1) t r
marked_back named table k t r h =
    elim (cases_eq r (k + 1)) [
      | inl e ↦ inr ((h.0, e), h.3)
      | inr ne ↦ inl (h.0, h.1, let l = h.2 in omega arith, h.3)
    ]

-- those of all four tables
module _ (image : List ℕ) (named : RowMarks) (are : AreNamedByBodies image named) where
  abbrev pub In : ℕ → ℕ → ℕ → Type 0
  In table t r = MarkedIn named table (count_of image table) t r

  pub all_in : (t r : ℕ) → (In 0x0A t r ⊎ In 0x11 t r) ⊎ (In 0x1B t r ⊎ In 0x2B t r) → IsMarked named t r
  all_in t r (inl (inl h)) = h.3
  all_in t r (inl (inr h)) = h.3
  all_in t r (inr (inl h)) = h.3
  all_in t r (inr (inr h)) = h.3

  within : (table t r : ℕ) → t ≡ table → HasRow image t r → IsMarked named t r → In table t r
  within table t r e there h = (e, there.0, subst (λ (x : ℕ). r ≤ count_of image x) e there.1, h)

  by_kept : (t r : ℕ) → IsKept t → HasRow image t r → IsMarked named t r → (In 0x0A t r ⊎ In 0x11 t r) ⊎ (In 0x1B t r ⊎ In 0x2B t r)
  by_kept t r (inl e) there h = inl (inl (within 0x0A t r e there h))
  by_kept t r (inr (inl e)) there h = inl (inr (within 0x11 t r e there h))
  by_kept t r (inr (inr (inl e))) there h = inr (inl (within 0x1B t r e there h))
  by_kept t r (inr (inr (inr e))) there h = inr (inr (within 0x2B t r e there h))

  pub in_all : (t r : ℕ) → IsMarked named t r → (In 0x0A t r ⊎ In 0x11 t r) ⊎ (In 0x1B t r ⊎ In 0x2B t r)
  in_all t r h = let k = (are.each t r).0 h in by_kept t r k.0 k.1 h
