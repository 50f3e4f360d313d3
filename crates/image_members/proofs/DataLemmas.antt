-- The rows of FieldRVA, and data behind the code.
use Rattle.std.proofs.Common.{◌≡◌, ap, refl, sym, ◌∙◌, subst, ℕ, ◌+◌, ◌-◌, ◌<◌, ◌≤◌, ◌^◌, List, [], ◌∷◌, ◌++◌, length, Option, Some, None, arith}
use Rattle.std.specs.Borrow.{Bor}
use Rattle.std.specs.Prelude.{sum_by}
use Rattle.std.specs.List.{AllZip, flat_map, enumerate_from}
use Rattle.std.proofs.lemmas.List.{append-nil, append_assoc, length-append}
use Rattle.std.proofs.lemmas.List.Sums.{sum_by-cons, sum_by-append}
use Rattle.metadata_tables.specs.Encoding.{rows_of, rows_in, AddsRow, IsRowOf}
use Rattle.metadata_tables.specs.Laws.{RowOfColumns}
use Rattle.metadata_tables.specs.Schema.{schema}
use Rattle.assembly_tree.specs.declared.members.Field.{Field}
use Rattle.image_members.specs.DataRows.{Datum, stated_data, field_data, all_data, IsDataRow, data_room, AddsData}
use Rattle.image_members.specs.Places.{lent}
use Rattle.image_members.specs.Placing.{StandsIn, Puts}
use Rattle.image_members.specs.Pushing.{Tables, AddsRows}
use Rattle.image_members.proofs.PlacingLemmas.{stands_later, puts_long}
use Rattle.image_members.proofs.PushLemmas.{rows_none, rows_one, rows_both}
use Rattle.image_members.proofs.ZipLemmas.{zip_both, zip_long, zip_later}

pub data_cells : RowOfColumns → (rva row : ℕ) → rva < 2 ^ 32 → IsRowOf 0x1D (rva ∷ row ∷ [])
unfolding schema
data_cells law rva row r = law 0x1D (rva ∷ row ∷ []) (omega arith) (r, (tt, tt))

-- ---- one field

no_data : (code : List ℕ) (from : Tables) → AddsData [] code code from from
no_data code from = record { more = []; is = sym (append-nil code); long = omega arith; rows = []; adds = rows_none 0x1D from; each = tt }

pub without_data : (code : List ℕ) (from : Tables) (row : ℕ) (content : Option (List ℕ)) → content ≡ None → AddsData (stated_data row content) code code from from
without_data code from row content e = subst (λ (x : Option (List ℕ)). AddsData (stated_data row x) code code from from) (sym e) (no_data code from)

pub with_data : (old new bytes lent_bytes : List ℕ) (from to : Tables) (row rva : ℕ) (content : Option (List ℕ)) → content ≡ Some bytes → lent_bytes ≡ bytes → Puts 8 lent_bytes old new rva
    → AddsRow from to 0x1D (rva ∷ row ∷ []) → AddsData (stated_data row content) old new from to
with_data old new bytes lent_bytes from to row rva content e same p h =
    let d : Datum = record { field = row; bytes = lent_bytes } in
    let one : AddsData (d ∷ []) old new from to = record {
      more = p.more;
      is = p.is;
      long = (let long = puts_long 8 rva lent_bytes old new p in let alone = sum_by-cons data_room d [] in omega arith);
      rows = (rva ∷ row ∷ []) ∷ [];
      adds = rows_one 0x1D (rva ∷ row ∷ []) from to h;
      each = (record { rva = rva; are = refl; stands = p.stands; aligned = p.aligned }, tt);
    } in
    subst (λ (x : Option (List ℕ)). AddsData (stated_data row x) old new from to) (ap Some same ∙ sym e) one

pub room_for_data : (old bytes lent_bytes : List ℕ) (row : ℕ) (content : Option (List ℕ)) → content ≡ Some bytes → lent_bytes ≡ bytes → length old + sum_by data_room (stated_data row content) ≤ 2 ^ 26
    → length old + length lent_bytes < 2 ^ 27
room_for_data old bytes lent_bytes row content e same h =
    let d : Datum = record { field = row; bytes = bytes } in
    let stated : sum_by data_room (stated_data row content) ≡ sum_by data_room (d ∷ []) = ap (λ (x : Option (List ℕ)). sum_by data_room (stated_data row x)) e in
    let alone = sum_by-cons data_room d [] in
    let long = ap (length {A = ℕ}) same in
    omega arith

-- ---- one after another

data_both : (xs ys : List Datum) (a b c : List ℕ) (from via to : Tables) → AddsData xs a b from via → AddsData ys b c via to → AddsData (xs ++ ys) a c from to
data_both xs ys a b c from via to p q = record {
  more = p.more ++ q.more;
  is = q.is ∙ ap (λ bs. bs ++ q.more) p.is ∙ append_assoc a p.more q.more;
  long = (let first = p.long in let then = q.long in let both = sum_by-append data_room xs ys in omega arith);
  rows = p.rows ++ q.rows;
  adds = rows_both 0x1D p.rows q.rows from via to p.adds q.adds;
  each = zip_both (IsDataRow c) p.rows q.rows xs ys
      (zip_later (IsDataRow b) (IsDataRow c) p.rows xs
      (λ cells d h. record {
        rva = h.rva;
        are = h.are;
        stands = subst (λ code. StandsIn code h.rva d.bytes) (sym q.is) (stands_later b q.more d.bytes h.rva h.stands);
        aligned = h.aligned;
      })
      p.each)
      q.each;
}

short : (row : ℕ) (content : Option (List ℕ)) → length (stated_data row content) ≤ 1
short row None = omega arith
short row (Some bytes) = omega arith

-- the fields before `rest` have their rows and data, and this is the row of the next
pub record DataTo (row : ℕ) (old code : List ℕ) (from to : Tables) (xs rest : List (Bor Field)) : Type 0 where
  pub on : (new : List ℕ) (end : Tables) → AddsData (all_data row (lent rest)) code new to end → AddsData (all_data 1 (lent xs)) old new from end
  pub few : rows_in to 0x1D + length rest < 2 ^ 24
  pub next : row + length rest < 2 ^ 24
  pub long : length code + sum_by data_room (all_data row (lent rest)) ≤ 2 ^ 26

pub data_begin : (code : List ℕ) (from : Tables) (xs : List (Bor Field)) → length xs < 2 ^ 24 - 1 → rows_in from 0x1D + length xs < 2 ^ 24
    → length code + sum_by data_room (all_data 1 (lent xs)) ≤ 2 ^ 26 → DataTo 1 code code from from xs xs
data_begin code from xs count few long = record { on = λ new end h. h; few = few; next = omega arith; long = long }

module _ (row : ℕ) (old code : List ℕ) (from to : Tables) (xs rest more : List (Bor Field)) (x : Bor Field) (e : rest ≡ x ∷ more) (d : DataTo row old code from to xs rest) where
  here : all_data row (lent rest) ≡ stated_data row x.now.content ++ all_data (row + 1) (lent more)
  here = ap (λ (fs : List (Bor Field)). all_data row (lent fs)) e

  heavy : sum_by data_room (all_data row (lent rest)) ≡ sum_by data_room (stated_data row x.now.content) + sum_by data_room (all_data (row + 1) (lent more))
  heavy = ap (sum_by data_room) here ∙ sum_by-append data_room (stated_data row x.now.content) (all_data (row + 1) (lent more))

  pub data_few : rows_in to 0x1D < 2 ^ 24 - 1
  data_few = let few = d.few in let long = ap (length {A = Bor Field}) e in omega arith

  pub data_next : row < 2 ^ 24
  data_next = let next = d.next in omega arith

  pub data_long : length code + sum_by data_room (stated_data row x.now.content) ≤ 2 ^ 26
  data_long = let long = d.long in let sum = heavy in omega arith

  pub data_on : (new : List ℕ) (end : Tables) → AddsData (stated_data row x.now.content) code new to end → DataTo (row + 1) old new from end xs more
  data_on new end one =
      let count = ap (length {A = Bor Field}) e in
      let added = ap (length {A = List ℕ}) one.adds.added ∙ length-append (rows_of to 0x1D) one.rows in
      let same = zip_long (IsDataRow new) one.rows (stated_data row x.now.content) one.each in
      let at_most = short row x.now.content in
      record {
        on = λ last tables h. d.on last tables (subst (λ ds. AddsData ds code last to tables) (sym here)
            (data_both (stated_data row x.now.content) (all_data (row + 1) (lent more)) code new last to end tables one h));
        few = (let few = d.few in omega arith);
        next = (let next = d.next in omega arith);
        long = (let long = d.long in let sum = heavy in let step = one.long in omega arith);
      }

pub data_end : (row : ℕ) (old code : List ℕ) (from to : Tables) (xs rest : List (Bor Field)) → rest ≡ [] → DataTo row old code from to xs rest → AddsData (all_data 1 (lent xs)) old code from to
data_end row old code from to xs rest e d = d.on code to (subst (λ (fs : List (Bor Field)). AddsData (all_data row (lent fs)) code code to to) (sym e) (no_data code to))
