-- Rows of a table that has at most one for each of its items.
use Rattle.std.proofs.Common.{◌≡◌, ap, refl, sym, ◌∙◌, subst, ℕ, ◌+◌, ◌-◌, ◌<◌, ◌≤◌, ◌^◌, ◌==◌, Bool, true, false, cond, List, [], ◌∷◌, ◌++◌, length, Option, Some, None, arith}
use Rattle.std.specs.Borrow.{Bor}
use Rattle.std.specs.List.{flat_map, enumerate_from}
use Rattle.std.proofs.lemmas.List.{append-nil, length-append}
use Rattle.metadata_tables.specs.Encoding.{rows_of, rows_in, AddsRow, IsRowOf}
use Rattle.metadata_tables.specs.Laws.{RowOfColumns}
use Rattle.metadata_tables.specs.Schema.{schema}
use Rattle.assembly_tree.specs.declared.members.Field.{Field}
use Rattle.assembly_tree.specs.declared.typedef.Layout.{Layout}
use Rattle.assembly_tree.specs.declared.typedef.TypeDef.TheViews.{out-TypeDef}
use Rattle.image_rows.specs.FieldRows.{stated_offset, offset_rows}
use Rattle.image_rows.specs.ClassRows.{encloser_rows, stated_rows, nested_rows, layout_rows}
use Rattle.image_members.specs.Places.{lent}
use Rattle.image_members.specs.Pushing.{Tables, AddsRows}
use Rattle.image_members.specs.declared.classes.Class.{Class}
use Rattle.image_members.proofs.PushLemmas.{rows_none, rows_one, rows_both}

pub nested_cells : RowOfColumns → (row encloser : ℕ) → IsRowOf 0x29 (row ∷ encloser ∷ [])
unfolding schema
nested_cells law row encloser = law 0x29 (row ∷ encloser ∷ []) (omega arith) (tt, (tt, tt))

pub layout_cells : RowOfColumns → (pack size row : ℕ) → pack < 2 ^ 16 → size < 2 ^ 32 → IsRowOf 0x0F (pack ∷ size ∷ row ∷ [])
unfolding schema
layout_cells law pack size row p s = law 0x0F (pack ∷ size ∷ row ∷ []) (omega arith) (p, (s, (tt, tt)))

-- ---- at most one row

if_short : (b : Bool) (xs ys : List (List ℕ)) → length xs ≤ 1 → length ys ≤ 1 → length (cond b xs ys) ≤ 1
if_short true xs ys p q = p
if_short false xs ys p q = q

pub nested_short : (row : ℕ) (c : Class) → length (nested_rows (row, c)) ≤ 1
nested_short row c = if_short (c.encloser == 0) [] ((row ∷ c.encloser ∷ []) ∷ []) (omega arith) (omega arith)

stated_short : (row : ℕ) (l : Option Layout) → length (stated_rows row l) ≤ 1
stated_short row None = omega arith
stated_short row (Some l) = omega arith

pub layout_short : (row : ℕ) (c : Class) → length (layout_rows (row, c)) ≤ 1
layout_short row c = stated_short row (out-TypeDef c.of.now).layout

-- ---- each item in turn

module _ {X : Type 0} (table first : ℕ) (rows : ℕ × X → List (List ℕ)) (short : (row : ℕ) (x : X) → length (rows (row, x)) ≤ 1) where
  -- the items before `rest` have their rows, and this is the number of the next
  pub record Pushed (row : ℕ) (from to : Tables) (xs rest : List X) : Type 0 where
    pub on : (end : Tables) → AddsRows table (flat_map rows (enumerate_from row rest)) to end → AddsRows table (flat_map rows (enumerate_from first xs)) from end
    pub few : rows_in to table + length rest < 2 ^ 24
    pub next : row + length rest < 2 ^ 24

  pub pushed_begin : (from : Tables) (xs : List X) → rows_in from table + length xs < 2 ^ 24 → first + length xs < 2 ^ 24 → Pushed first from from xs xs
  pushed_begin from xs few count = record { on = λ end h. h; few = few; next = count }

  pub pushed_few : (row : ℕ) (from to : Tables) (xs rest more : List X) (x : X) → rest ≡ x ∷ more → Pushed row from to xs rest → rows_in to table < 2 ^ 24 - 1
  pushed_few row from to xs rest more x e d = let few = d.few in let long = ap (length {A = X}) e in omega arith

  pub pushed_next : (row : ℕ) (from to : Tables) (xs rest : List X) → Pushed row from to xs rest → row < 2 ^ 24
  pushed_next row from to xs rest d = let next = d.next in omega arith

  pub pushed_on : (row : ℕ) (from via to : Tables) (xs rest more : List X) (x : X) → rest ≡ x ∷ more → Pushed row from via xs rest → AddsRows table (rows (row, x)) via to
      → Pushed (row + 1) from to xs more
  pushed_on row from via to xs rest more x e d one =
      let long = ap (length {A = X}) e in
      let added = ap (length {A = List ℕ}) one.added ∙ length-append (rows_of via table) (rows (row, x)) in
      let at_most = short row x in
      record {
        on = λ end h. d.on end (subst (λ ys. AddsRows table (flat_map rows (enumerate_from row ys)) via end) (sym e)
            (rows_both table (rows (row, x)) (flat_map rows (enumerate_from (row + 1) more)) via to end one h));
        few = (let few = d.few in omega arith);
        next = (let next = d.next in omega arith);
      }

  pub pushed_end : (row : ℕ) (from to : Tables) (xs rest : List X) → rest ≡ [] → Pushed row from to xs rest → AddsRows table (flat_map rows (enumerate_from first xs)) from to
  pushed_end row from to xs rest e d = d.on to (subst (λ ys. AddsRows table (flat_map rows (enumerate_from row ys)) to to) (sym e) (rows_none table to))

-- ---- one type

pub no_encloser : (row encloser : ℕ) (from : Tables) → (encloser == 0) ≡ true → AddsRows 0x29 (encloser_rows row encloser) from from
no_encloser row encloser from e = subst (λ b. AddsRows 0x29 (cond b [] ((row ∷ encloser ∷ []) ∷ [])) from from) (sym e) (rows_none 0x29 from)

pub an_encloser : (row encloser : ℕ) (from to : Tables) → (encloser == 0) ≡ false → AddsRow from to 0x29 (row ∷ encloser ∷ []) → AddsRows 0x29 (encloser_rows row encloser) from to
an_encloser row encloser from to e h =
    subst (λ b. AddsRows 0x29 (cond b [] ((row ∷ encloser ∷ []) ∷ [])) from to) (sym e) (rows_one 0x29 (row ∷ encloser ∷ []) from to h)

pub no_layout : (row : ℕ) (l : Option Layout) (from : Tables) → l ≡ None → AddsRows 0x0F (stated_rows row l) from from
no_layout row l from e = subst (λ (x : Option Layout). AddsRows 0x0F (stated_rows row x) from from) (sym e) (rows_none 0x0F from)

pub a_layout : (row : ℕ) (l : Option Layout) (of : Layout) (from to : Tables) → l ≡ Some of → AddsRow from to 0x0F (of.pack ∷ of.size ∷ row ∷ []) → AddsRows 0x0F (stated_rows row l) from to
a_layout row l of from to e h = subst (λ (x : Option Layout). AddsRows 0x0F (stated_rows row x) from to) (sym e) (rows_one 0x0F (of.pack ∷ of.size ∷ row ∷ []) from to h)

-- ---- fields that are lent

pub offset_cells : RowOfColumns → (offset row : ℕ) → offset < 2 ^ 32 → IsRowOf 0x10 (offset ∷ row ∷ [])
unfolding schema
offset_cells law offset row o = law 0x10 (offset ∷ row ∷ []) (omega arith) (o, (tt, tt))

optional_short : (row : ℕ) (offset : Option ℕ) → length (stated_offset row offset) ≤ 1
optional_short row None = omega arith
optional_short row (Some offset) = omega arith

-- the same rows of a field that is lent
abbrev pub lent_offset_rows : ℕ × Bor Field → List (List ℕ)
lent_offset_rows (row, f) = offset_rows (row, f.now)

pub offset_short : (row : ℕ) (f : Bor Field) → length (lent_offset_rows (row, f)) ≤ 1
offset_short row f = optional_short row f.now.offset

pub lent_offsets : (row : ℕ) (fs : List (Bor Field)) → flat_map lent_offset_rows (enumerate_from row fs) ≡ flat_map offset_rows (enumerate_from row (lent fs))
lent_offsets row [] = refl
lent_offsets row (f ∷ fs) = ap (λ rows. lent_offset_rows (row, f) ++ rows) (lent_offsets (row + 1) fs)
