-- At the end the marked rows are those that are used.
use Rattle.std.proofs.Common.{◌≡◌, ◌∙◌, sym, ap, subst, refl, ℕ, suc, zero, ◌+◌, ◌%◌, ◌/◌, ◌<◌, ◌≤◌, ◌⊎◌, inl, inr, Bool, true, false, cond, nat_eq, List, [], Option, Some, None, length, get_or, arith}
use Rattle.std.specs.Prelude.{◌↔◌, IsTrue, Contains, slice_index_or}
use Rattle.std.specs.Option.{option_map}
use Rattle.std.proofs.lemmas.Bool.{cases_lt, false≢true}
use Rattle.std.proofs.lemmas.List.{get_or_past}
use Rattle.hash_places.specs.declared.slots.Slot.{Slot}
use Rattle.metadata_tables.specs.CodedIndex.{table_of}
use Rattle.metadata_tables.specs.Schema.{schema, columns_of}
use Rattle.metadata_tables.specs.Stream.{cell, column_of}
use Rattle.metadata_tables.specs.declared.coded.Coded.{Coded}
use Rattle.metadata_tables.specs.declared.coded.Coded.TheVariants.{ResolutionScope}
use Rattle.metadata_tables.specs.declared.schema.Column.{Column}
use Rattle.metadata_tables.specs.declared.schema.Column.TheVariants.{Number, Strings, Guids, Blobs, Row, Run, Tagged}
use Rattle.image_model.specs.Faults.{HasTables}
use Rattle.image_model.specs.Rows.{HasRow, Names}
use Rattle.image_model.specs.Streams.{tables_of}
use Rattle.image_model.specs.Tokens.{SignatureNames, of_field, of_method, of_member, of_locals, of_property, of_type, of_instance}
use Rattle.image_model.specs.Used.{IsReference, CellNames, RowNames, by_cell, by_signature, IsUsed, by_row, by_reference, by_body}
use Rattle.sig_codec.proofs.Numbers.{some_is}
use Rattle.method_states.specs.Marks.{marks_in, IsKept, IsMarked, HasPlace, HaveRoom}
use Rattle.method_states.specs.States.{AreNamedByBodies}
use Rattle.method_states.specs.declared.row_marks.RowMarks.{RowMarks}
use Rattle.method_states.proofs.Marking.{place_there, there_placed}
use Rattle.row_demands.proofs.Tables.{none_past}
use Rattle.image_used.specs.Spreading.{Waits, Spreads, IsReady}
use Rattle.image_used.specs.Going.{IsDone, IsGoing, Keeps, Passed, NoRows, OthersBelow, AreUsed}
use Rattle.image_used.specs.declared.spread.RowAt.{RowAt}
use Rattle.image_used.proofs.Going.{used_there, used_by_body, going_on, keeps_all, keeps_then, keeps_spread, done_kept}

-- ---- a TypeRef names no row that is marked

abbrev pair : ℕ → ℕ → ℕ × ℕ
pair a b = (a, b)

abbrev first_of : ℕ × ℕ → ℕ
first_of p = p.0

table_named : (o : Option ℕ) (r table row : ℕ) → option_map (λ (t : ℕ). pair t r) o ≡ Some (pair table row) → o ≡ Some table
table_named None r table row e = absurd cc
table_named (Some t) r table row e = ap Some (ap first_of (some_is (pair t r) (pair table row) e))

-- these are numbers of none of the tables whose rows are kept
apart : (n table : ℕ) → n ≡ table → (n ≡ 0x0A → ⊥) → (n ≡ 0x11 → ⊥) → (n ≡ 0x1B → ⊥) → (n ≡ 0x2B → ⊥) → IsKept table → ⊥
apart n table e a b c d (inl k) = a (e ∙ k)
apart n table e a b c d (inr (inl k)) = b (e ∙ k)
apart n table e a b c d (inr (inr (inl k))) = c (e ∙ k)
apart n table e a b c d (inr (inr (inr k))) = d (e ∙ k)

tag_of_scope : (b c d f : Bool) (table : ℕ) → option_map first_of (cond b (Some (pair 0x00 0)) (cond c (Some (pair 0x1A 1)) (cond d (Some (pair 0x23 2)) (cond f (Some (pair 0x01 3)) None)))) ≡ Some table → IsKept table → ⊥
tag_of_scope true c d f table e k = apart 0x00 table (some_is 0x00 table e) (λ x. omega arith) (λ x. omega arith) (λ x. omega arith) (λ x. omega arith) k
tag_of_scope false true d f table e k = apart 0x1A table (some_is 0x1A table e) (λ x. omega arith) (λ x. omega arith) (λ x. omega arith) (λ x. omega arith) k
tag_of_scope false false true f table e k = apart 0x23 table (some_is 0x23 table e) (λ x. omega arith) (λ x. omega arith) (λ x. omega arith) (λ x. omega arith) k
tag_of_scope false false false true table e k = apart 0x01 table (some_is 0x01 table e) (λ x. omega arith) (λ x. omega arith) (λ x. omega arith) (λ x. omega arith) k
tag_of_scope false false false false table e k = absurd cc

tables_of_scope : (tag table : ℕ) → table_of ResolutionScope tag ≡ Some table → IsKept table → ⊥
unfolding table_of
tables_of_scope tag table e = tag_of_scope (nat_eq 0 tag) (nat_eq 1 tag) (nat_eq 2 tag) (nat_eq 3 tag) table e

scope_tables : (value table row : ℕ) → Names ResolutionScope value table row → IsKept table → ⊥
scope_tables value table row n = tables_of_scope (value % 4) table (table_named (table_of ResolutionScope (value % 4)) (value / 4) table row n)

abbrev kind_in : Column → Coded
kind_in (Tagged kind nil) = kind
kind_in (Number bytes) = ResolutionScope
kind_in (Strings nil) = ResolutionScope
kind_in (Guids nil) = ResolutionScope
kind_in (Blobs nil) = ResolutionScope
kind_in (Row table) = ResolutionScope
kind_in (Run table) = ResolutionScope

columns_of_references : length (columns_of 0x01) ≡ 3
unfolding schema
columns_of_references = refl

no_cell : (column : ℕ) (kind : Coded) (nil : Bool) (value t r : ℕ) → column < length (columns_of 0x01) → column_of 0x01 column ≡ Tagged kind nil → Names kind value t r → IsKept t → ⊥
unfolding schema
no_cell zero kind nil value t r l e n k = scope_tables value t r (subst (λ (c : Coded). Names c value t r) (sym (ap kind_in e)) n) k
no_cell (suc zero) kind nil value t r l e n k = absurd cc
no_cell (suc (suc zero)) kind nil value t r l e n k = absurd cc
no_cell (suc (suc (suc c))) kind nil value t r l e n k = let many = columns_of_references in omega arith

no_signature : {image : List ℕ} {table row token : ℕ} → table ≡ 0x01 → SignatureNames image table row token → ⊥
no_signature e (of_field t b i) = omega arith
no_signature e (of_method t b i) = omega arith
no_signature e (of_member t b i) = omega arith
no_signature e (of_locals t b i) = omega arith
no_signature e (of_property t b i) = omega arith
no_signature e (of_type t b i) = omega arith
no_signature e (of_instance t b i) = omega arith

names_none : {image : List ℕ} {table row t r : ℕ} → table ≡ 0x01 → RowNames image table row t r → IsKept t → ⊥
names_none {image = image} {row = row} {t = t} {r = r} e (by_cell c) k =
    let d : CellNames image 0x01 row t r = subst (λ (x : ℕ). CellNames image x row t r) e c in
    no_cell d.column d.kind d.nil (cell (tables_of image) 0x01 row d.column) t r d.there d.coded d.names k
names_none e (by_signature s i) k = no_signature e s

-- ---- a marked row is of a table whose rows are kept

marked_within : (marks : List Bool) (row : ℕ) → IsTrue (slice_index_or marks row false) → row < length marks
marked_within marks row h =
    elim (cases_lt row (length marks)) [ inl l ↦ l | inr past ↦ absurd (false≢true (sym (get_or_past marks row false past) ∙ h)) ]

is_kept : (image : List ℕ) (m : RowMarks) (q : List RowAt) (seen : List Slot) → IsGoing image m q seen → (t r : ℕ) → IsMarked m t r → IsKept t
is_kept image m q seen g t r h = (there_placed image m t r g.ready.room ((used_there (g.used t r h)).0, marked_within (marks_in m t) r h)).0

-- ---- at the end

module _ (image : List ℕ) (tables : HasTables image) (named : RowMarks) (are : AreNamedByBodies image named) (a b c d : RowMarks) (p q s : List RowAt) (y z : List Slot) (bodies : Spreads a p b q (IsMarked named))
    (declared : Passed image b c s y (OthersBelow image 45)) (rest : Passed image c d [] z NoRows) where
  by_bodies : (t r : ℕ) → IsKept t → HasRow image t r → IsMarked named t r → HaveRoom image a → IsMarked d t r
  by_bodies t r k there h room = rest.keeps.kept t r (declared.keeps.kept t r ((bodies.marked t r).1 (inr (h, place_there image a t r room k there))))

  all_done : (t r : ℕ) → (IsReference t → ⊥) → HasRow image t r → IsDone image d t r
  all_done t r other there =
      elim (cases_lt t 45) [
        | inl low ↦ done_kept image c d t r rest.keeps (declared.done t r (low, other, there))
        | inr past ↦ absurd (none_past image tables t r (inl past) there)
      ]

  pub complete : {t r : ℕ} → HaveRoom image a → IsUsed image t r → IsKept t → IsMarked d t r
  complete {t = t} {r = r} room (by_row {from_table = from_table} {from = from} other from_there names ref there) k =
      all_done from_table from other from_there t r names (place_there image d t r rest.going.ready.room k there)
  complete {t = t} {r = r} room (by_reference {from_table = from_table} {from = from} used names ref there) k =
      elim (from_kept used names k) [
        | inl none ↦ absurd none
        | inr kept ↦ elim (rest.going.done from_table from (complete room used kept)) [
          | inl w ↦ absurd (let l = w.1 in omega arith)
          | inr done ↦ done t r names (place_there image d t r rest.going.ready.room k there)
        ]
      ]
    where
      from_kept : {u f : ℕ} → IsUsed image u f → RowNames image u f t r → IsKept t → ⊥ ⊎ IsKept u
      from_kept (by_row o h n (inl e) g) m k = inl (names_none e m k)
      from_kept (by_row o h n (inr kept) g) m k = inr kept
      from_kept (by_reference v n (inl e) g) m k = inl (names_none e m k)
      from_kept (by_reference v n (inr kept) g) m k = inr kept
      from_kept (by_body h n i (inl e) g) m k = inl (names_none e m k)
      from_kept (by_body h n i (inr kept) g) m k = inr kept
  complete {t = t} {r = r} room (by_body {method = method} {token = token} method_there names is ref there) k =
      by_bodies t r k there ((are.each t r).1 (k, there, record { method = method; some = method_there.0; upto = method_there.1; token = token; names = names; is = is })) room

  pub all_used : HaveRoom image a → AreUsed image d
  all_used room table row = (λ h. (is_kept image d [] z rest.going table row h, rest.going.used table row h), λ h. complete room h.1 h.0)

pub going_first : (image : List ℕ) (m : RowMarks) (q : List RowAt) (seen : List Slot) → IsReady image m seen → ((t r : ℕ) → IsMarked m t r → ⊥) → q ≡ [] → IsGoing image m q seen
going_first image m q seen ready none e = record {
  ready = ready;
  used = λ t r h. absurd (none t r h);
  waits = λ t r w. absurd (let v = subst (λ (u : List RowAt). Waits u t r) e w in let l = v.1 in omega arith);
  done = λ t r h. absurd (none t r h);
}

pub used_at_end : (image : List ℕ) (tables : HasTables image) (named : RowMarks) (are : AreNamedByBodies image named) (a b c d : RowMarks) (p q s last : List RowAt) (y z : List Slot) → HaveRoom image a → Spreads a p b q (IsMarked named)
    → Passed image b c s y (OthersBelow image 45) → last ≡ [] → Passed image c d last z NoRows → AreUsed image d
used_at_end image tables named are a b c d p q s last y z room bodies declared e rest =
    all_used image tables named are a b c d p q s y z bodies declared (subst (λ (u : List RowAt). Passed image c d u z NoRows) e rest) room

pub through : (A B C : Type 0) → A ↔ B → B ↔ C → A ↔ C
through A B C h k = (λ a. k.0 (h.0 a), λ c. h.1 (k.1 c))
