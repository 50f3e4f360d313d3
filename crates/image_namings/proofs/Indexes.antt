-- Indexes of rows: the tables that a coded index may be of, the row that it names, and that naming a row is a use of it
-- (II.24.2.6).
use Rattle.std.proofs.Common.{◌≡◌, ℕ, ◌%◌, ◌/◌, ◌<◌, ◌⊎◌, inl, inr, Bool, true, false, cond, ◌||◌, nat_eq, List, length, option_map, Option, Some, None, refl, sym, ◌∙◌, ap, subst, true≢false}
use Rattle.metadata_tables.specs.CodedIndex.{table_of}
use Rattle.metadata_tables.specs.Schema.{columns_of}
use Rattle.metadata_tables.specs.Stream.{cell, column_of}
use Rattle.metadata_tables.specs.declared.coded.Coded.{Coded}
use Rattle.metadata_tables.specs.declared.coded.Coded.TheVariants.{TypeDefOrRef, MemberRefParent, MethodDefOrRef, CustomAttributeType}
use Rattle.metadata_tables.specs.declared.schema.Column.TheVariants.{Tagged}
use Rattle.image_model.specs.Streams.{tables_of}
use Rattle.image_model.specs.Rows.{HasRow, Names}
use Rattle.image_model.specs.Cells.{NamesRow}
use Rattle.image_model.specs.Used.{IsReference, RowNames}
use Rattle.image_namings.proofs.Decided.{some_is, none_is_not}
use Rattle.image_namings.proofs.General.{names_one}

-- ---- the tables of the coded indexes

abbrev pair : ℕ → ℕ → ℕ × ℕ
pair a b = (a, b)

abbrev first_of : ℕ × ℕ → ℕ
first_of p = p.0

table_named : (o : Option ℕ) (r table row : ℕ) → option_map (λ (t : ℕ). pair t r) o ≡ Some (pair table row) → o ≡ Some table
table_named None r table row e = absurd (none_is_not e)
table_named (Some t) r table row e = ap Some (ap first_of (some_is (pair t r) (pair table row) e))

-- a MethodDef or a MemberRef, by their tags
abbrev pub IsMethodTable : ℕ → Type 0
IsMethodTable table = (table ≡ 0x06) ⊎ (table ≡ 0x0A)

tag_of_two : (b c : Bool) (first second table : ℕ) → option_map first_of (cond b (Some (pair 0x06 first)) (cond c (Some (pair 0x0A second)) None)) ≡ Some table → IsMethodTable table
tag_of_two true c first second table e = inl (sym (some_is 0x06 table e))
tag_of_two false true first second table e = inr (sym (some_is 0x0A table e))
tag_of_two false false first second table e = absurd (none_is_not e)

tables_of_method : (tag table : ℕ) → table_of MethodDefOrRef tag ≡ Some table → IsMethodTable table
unfolding table_of
tables_of_method tag table e = tag_of_two (nat_eq 0 tag) (nat_eq 1 tag) 0 1 table e

pub method_tables : (value table row : ℕ) → Names MethodDefOrRef value table row → IsMethodTable table
method_tables value table row n = tables_of_method (value % 2) table (table_named (table_of MethodDefOrRef (value % 2)) (value / 2) table row n)

tables_of_constructor : (tag table : ℕ) → table_of CustomAttributeType tag ≡ Some table → IsMethodTable table
unfolding table_of
tables_of_constructor tag table e = tag_of_two (nat_eq 2 tag) (nat_eq 3 tag) 2 3 table e

pub constructor_tables : (value table row : ℕ) → Names CustomAttributeType value table row → IsMethodTable table
constructor_tables value table row n = tables_of_constructor (value % 8) table (table_named (table_of CustomAttributeType (value % 8)) (value / 8) table row n)

abbrev pub IsTypeTable : ℕ → Type 0
IsTypeTable table = (table ≡ 0x02) ⊎ ((table ≡ 0x01) ⊎ (table ≡ 0x1B))

tag_of_type : (b c d : Bool) (table : ℕ) → option_map first_of (cond b (Some (pair 0x02 0)) (cond c (Some (pair 0x01 1)) (cond d (Some (pair 0x1B 2)) None))) ≡ Some table → IsTypeTable table
tag_of_type true c d table e = inl (sym (some_is 0x02 table e))
tag_of_type false true d table e = inr (inl (sym (some_is 0x01 table e)))
tag_of_type false false true table e = inr (inr (sym (some_is 0x1B table e)))
tag_of_type false false false table e = absurd (none_is_not e)

tables_of_type : (tag table : ℕ) → table_of TypeDefOrRef tag ≡ Some table → IsTypeTable table
unfolding table_of
tables_of_type tag table e = tag_of_type (nat_eq 0 tag) (nat_eq 1 tag) (nat_eq 2 tag) table e

pub type_tables : (value table row : ℕ) → Names TypeDefOrRef value table row → IsTypeTable table
type_tables value table row n = tables_of_type (value % 4) table (table_named (table_of TypeDefOrRef (value % 4)) (value / 4) table row n)

abbrev pub IsParent : ℕ → Type 0
IsParent table = (table ≡ 0x02) ⊎ ((table ≡ 0x01) ⊎ ((table ≡ 0x1A) ⊎ ((table ≡ 0x06) ⊎ (table ≡ 0x1B))))

tag_of_parent : (b c d e f : Bool) (table : ℕ)
    → option_map first_of (cond b (Some (pair 0x02 0)) (cond c (Some (pair 0x01 1)) (cond d (Some (pair 0x1A 2)) (cond e (Some (pair 0x06 3)) (cond f (Some (pair 0x1B 4)) None))))) ≡ Some table → IsParent table
tag_of_parent true c d e f table k = inl (sym (some_is 0x02 table k))
tag_of_parent false true d e f table k = inr (inl (sym (some_is 0x01 table k)))
tag_of_parent false false true e f table k = inr (inr (inl (sym (some_is 0x1A table k))))
tag_of_parent false false false true f table k = inr (inr (inr (inl (sym (some_is 0x06 table k)))))
tag_of_parent false false false false true table k = inr (inr (inr (inr (sym (some_is 0x1B table k)))))
tag_of_parent false false false false false table k = absurd (none_is_not k)

tables_of_parent : (tag table : ℕ) → table_of MemberRefParent tag ≡ Some table → IsParent table
unfolding table_of
tables_of_parent tag table e = tag_of_parent (nat_eq 0 tag) (nat_eq 1 tag) (nat_eq 2 tag) (nat_eq 3 tag) (nat_eq 4 tag) table e

pub parent_tables : (value table row : ℕ) → Names MemberRefParent value table row → IsParent table
parent_tables value table row n = tables_of_parent (value % 8) table (table_named (table_of MemberRefParent (value % 8)) (value / 8) table row n)

-- ---- the row that an index names

pub named_row : (image : List ℕ) (kind : Coded) (value : ℕ) → ((false ≡ true) × (value ≡ 0)) ⊎ NamesRow image kind value → NamesRow image kind value
named_row image kind value (inl h) = absurd (true≢false (sym h.0))
named_row image kind value (inr n) = n

-- the row that an index names is there
pub row_there : (image : List ℕ) (kind : Coded) (value table row : ℕ) → NamesRow image kind value → Names kind value table row → HasRow image table row
row_there image kind value table row n k =
    let e = names_one kind value n.0 n.1 table row n.2 k in
    subst (λ (r : ℕ). HasRow image table r) e.1 (subst (λ (t : ℕ). HasRow image t n.1) e.0 n.3)

-- ---- uses

-- the tables of references
abbrev pub is_reference : ℕ → Bool
is_reference t = nat_eq t 0x01 || (nat_eq t 0x0A || (nat_eq t 0x11 || (nat_eq t 0x1B || nat_eq t 0x2B)))

pub reference_test : (t : ℕ) → IsReference t → is_reference t ≡ true
reference_test t (inl e) = subst (λ (x : ℕ). is_reference x ≡ true) (sym e) refl
reference_test t (inr (inl e)) = subst (λ (x : ℕ). is_reference x ≡ true) (sym e) refl
reference_test t (inr (inr (inl e))) = subst (λ (x : ℕ). is_reference x ≡ true) (sym e) refl
reference_test t (inr (inr (inr (inl e)))) = subst (λ (x : ℕ). is_reference x ≡ true) (sym e) refl
reference_test t (inr (inr (inr (inr e)))) = subst (λ (x : ℕ). is_reference x ≡ true) (sym e) refl

-- a table is none of them
pub no_reference : (t : ℕ) → is_reference t ≡ false → IsReference t → ⊥
no_reference t e r = true≢false (sym (reference_test t r) ∙ e)

-- a coded index of a row is a use of what it names
pub cell_names : (image : List ℕ) (from_table from column : ℕ) (kind : Coded) (nil : Bool) (table row : ℕ) → column < length (columns_of from_table) → column_of from_table column ≡ Tagged kind nil
    → Names kind (cell (tables_of image) from_table from column) table row → RowNames image from_table from table row
cell_names image from_table from column kind nil table row there coded names =
    RowNames.by_cell (record { column = column; kind = kind; nil = nil; there = there; coded = coded; names = names })
