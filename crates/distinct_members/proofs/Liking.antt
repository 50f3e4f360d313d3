-- Members that are alike, by their types, names and signatures.
use Rattle.std.proofs.Common.{◌≡◌, ℕ, ◌<◌, ◌≤◌, Bool, true, false, List, Option, Some, length, refl, sym, ap, subst, ◌∙◌, arith}
use Rattle.std.specs.Prelude.{◌↔◌, IsTrue, Contains}
use Rattle.heaps.specs.Content.{HasText}
use Rattle.type_terms.specs.Hashing.{mix}
use Rattle.metadata_tables.specs.Schema.{columns_of, schema}
use Rattle.metadata_tables.specs.Stream.{cell, column_of}
use Rattle.metadata_tables.specs.declared.schema.Column.TheVariants.{Strings}
use Rattle.image_model.specs.Cells.{IsEntry, HasEntries}
use Rattle.image_model.specs.Columns.{field_name, method_name, event_name, property_name}
use Rattle.image_model.specs.Members.{AreOfOneType, HaveOneName}
use Rattle.image_model.specs.Rows.{HasRow}
use Rattle.image_model.specs.Streams.{strings_of, tables_of}
use Rattle.member_demands.specs.Semantics.{IsOwnedBy}
use Rattle.name_numbers.specs.Texts.{text_in, text_hash}
use Rattle.row_demands.specs.Structured.{MeetStructure}
use Rattle.type_names.proofs.Texts.{text_is}
use Rattle.distinct_members.specs.Alike.{MembersAlike, MemberHashed}

abbrev pub HasName : List ℕ → (ℕ → ℕ) → ℕ → Type 0
HasName image name row = (text : List ℕ) × HasText (strings_of image) (name row) text

-- texts are one in a heap where they are in an equal one
pub same_texts : (heap strings : List ℕ) (a b c d : ℕ) → heap ≡ strings → a ≡ c → b ≡ d → (text_in heap a ≡ text_in heap b) ↔ (text_in strings c ≡ text_in strings d)
same_texts heap strings a b c d s p q =
    let x : text_in heap a ≡ text_in strings c = λ i. text_in (s i) (p i) in
    let y : text_in heap b ≡ text_in strings d = λ i. text_in (s i) (q i) in
    (λ e. sym x ∙ e ∙ y, λ e. x ∙ e ∙ sym y)

module _ (image : List ℕ) (members : ℕ → List ℕ) where
  pub one_type : (a b x y : ℕ) → IsOwnedBy image members a x → IsOwnedBy image members b y → (x ≡ y) ↔ AreOfOneType image members a b
  one_type a b x y p q = (
    λ e. (x, p.there, p.has, subst (λ (t : ℕ). Contains (members t) b) (sym e) q.has),
    λ h. sym (p.only h.0 h.1 h.2) ∙ q.only h.0 h.1 h.3,
  )

  module _ (name : ℕ → ℕ) where
    pub one_name : (a b : ℕ) → HasName image name a → HasName image name b → (text_in (strings_of image) (name a) ≡ text_in (strings_of image) (name b)) ↔ HaveOneName image name a b
    one_name a b p q =
        let heap = strings_of image in (
          λ e.
              let same : p.0 ≡ q.0 = sym (text_is heap (name a) p.0 p.1) ∙ e ∙ text_is heap (name b) q.0 q.1 in
              (p.0, p.1, subst (HasText heap (name b)) (sym same) q.1),
          λ h. text_is heap (name a) h.0 h.1 ∙ sym (text_is heap (name b) h.0 h.2),
        )

    module _ (alike : ℕ → ℕ → Type 0) (a b x y : ℕ) (p : IsOwnedBy image members a x) (q : IsOwnedBy image members b y) (n : HasName image name a) (m : HasName image name b) where
      pub apart : (x ≡ y → ⊥) → IsTrue false ↔ MembersAlike image members name alike a b
      apart ne = (λ t. absurd cc, λ h. absurd (ne ((one_type a b x y p q).1 h.0)))

      pub unlike : (text_in (strings_of image) (name a) ≡ text_in (strings_of image) (name b) → ⊥) → IsTrue false ↔ MembersAlike image members name alike a b
      unlike ne = (λ t. absurd cc, λ h. absurd (ne ((one_name a b n m).1 h.1)))

      pub by_signature : (r : Bool) → x ≡ y → text_in (strings_of image) (name a) ≡ text_in (strings_of image) (name b) → IsTrue r ↔ alike a b → IsTrue r ↔ MembersAlike image members name alike a b
      by_signature r e t s = (λ is. ((one_type a b x y p q).0 e, (one_name a b n m).0 t, s.0 is), λ h. s.1 h.2)

    pub hashed_alike : (alike : ℕ → ℕ → Type 0) (hash : ℕ → ℕ) (a b g h : ℕ) → HasName image name a → HasName image name b → (alike a b → hash a ≡ hash b)
        → MembersAlike image members name alike a b → MemberHashed image members name hash a g → MemberHashed image members name hash b h → g ≡ h
    hashed_alike alike hash a b g h n m law are k l =
        let types = (one_type a b k.0 l.0 k.1 l.1).1 are.0 in
        let texts = ap text_hash ((one_name a b n m).1 are.1) in
        let hashes = law are.2 in
        k.2 ∙ (λ i. mix (mix (types i) (texts i)) (hashes i)) ∙ sym l.2

-- ---- each member has a name

name_there : (image : List ℕ) (table column row : ℕ) → MeetStructure image → column_of table column ≡ Strings false → column < length (columns_of table) → HasRow image table row
    → (text : List ℕ) × HasText (strings_of image) (cell (tables_of image) table row column) text
name_there image table column row meets e less there =
    let h = subst (λ c. IsEntry image c (cell (tables_of image) table row column)) e (meets.entries table row there column less) in
    (h.0, h.1)

field_column : column_of 0x04 1 ≡ Strings false
unfolding schema
field_column = refl

field_columns : length (columns_of 0x04) ≡ 3
unfolding schema
field_columns = refl

method_column : column_of 0x06 3 ≡ Strings false
unfolding schema
method_column = refl

method_columns : length (columns_of 0x06) ≡ 6
unfolding schema
method_columns = refl

event_column : column_of 0x14 1 ≡ Strings false
unfolding schema
event_column = refl

event_columns : length (columns_of 0x14) ≡ 3
unfolding schema
event_columns = refl

property_column : column_of 0x17 1 ≡ Strings false
unfolding schema
property_column = refl

property_columns : length (columns_of 0x17) ≡ 3
unfolding schema
property_columns = refl

module _ (image : List ℕ) (meets : MeetStructure image) where
  pub field_named : (row : ℕ) → HasRow image 0x04 row → HasName image (field_name image) row
  field_named row there = name_there image 0x04 1 row meets field_column (let l = field_columns in omega arith) there

  pub method_named : (row : ℕ) → HasRow image 0x06 row → HasName image (method_name image) row
  method_named row there = name_there image 0x06 3 row meets method_column (let l = method_columns in omega arith) there

  pub event_named : (row : ℕ) → HasRow image 0x14 row → HasName image (event_name image) row
  event_named row there = name_there image 0x14 1 row meets event_column (let l = event_columns in omega arith) there

  pub property_named : (row : ℕ) → HasRow image 0x17 row → HasName image (property_name image) row
  property_named row there = name_there image 0x17 1 row meets property_column (let l = property_columns in omega arith) there
