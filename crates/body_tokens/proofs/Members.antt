-- Tokens of methods, fields and texts have names, where the demands before that on tokens hold.
use Rattle.std.proofs.Common.{◌≡◌, ◌∙◌, sym, ap, subst, refl, ℕ, ◌+◌, ◌-◌, ◌<◌, ◌≤◌, ◌^◌, ◌⊎◌, inl, inr, Bool, true, false, cond, List, [], ◌∷◌, length, Option, None, Some, arith}
use Rattle.std.specs.Prelude.{◌↔◌, ◌==◌, Contains, if◌then◌else◌, slice_index}
use Rattle.std.proofs.lemmas.Bool.{false≢true, cases_eq, eq-eqb, ne_eqb}
use Rattle.body_codec.specs.Names.{NameMap}
use Rattle.heaps.specs.Content.{HasText, HasBlob}
use Rattle.heaps.proofs.BlobLemmas.{HasBlob-unique}
use Rattle.metadata_tables.specs.Schema.{schema, columns_of}
use Rattle.metadata_tables.specs.Stream.{cell, column_of}
use Rattle.metadata_tables.specs.declared.coded.Coded.TheVariants.{MemberRefParent, MethodDefOrRef}
use Rattle.sig_codec.specs.Signature.{IsMethod, IsField, method_byte}
use Rattle.type_terms.specs.declared.name.TypeId.{TypeId}
use Rattle.type_terms.specs.declared.reference.FieldRef.{FieldRef}
use Rattle.type_terms.specs.declared.reference.MethodRef.{MethodRef}
use Rattle.type_terms.specs.declared.reference.MethodSig.{MethodSig}
use Rattle.type_terms.specs.declared.term.Owner.{Owner}
use Rattle.type_terms.specs.declared.term.SigType.{SigType}
use Rattle.image_model.specs.Cells.{HasIndexes, HasEntries}
use Rattle.image_model.specs.Columns.{method_name, field_name, member_name, member_parent, member_signature, instance_method}
use Rattle.image_model.specs.Faults.{HasTables, HoldBefore, indexes, entries, runs, signatures, tokens}
use Rattle.image_model.specs.Naming.{HasPath, IsToken, OwnsMethod, OwnsMember, NamesMethod, NamesField, NamesText, here}
use Rattle.image_model.specs.Namings.{AreNamings}
use Rattle.image_model.specs.Rows.{count_of, HasRow, Names, token_of, fields_of, methods_of, first_field, run_end}
use Rattle.image_model.specs.Streams.{tables_of, strings_of, blobs_of, user_of}
use Rattle.image_model.specs.Structure.{HasRuns}
use Rattle.image_model.specs.Terms.{HasSignatures, HasMember, MemberHasMethod}
use Rattle.image_model.specs.Used.{IsUsed, CellNames, RowNames}
use Rattle.body_tokens.specs.Tokens.{NamesRow, IsFieldMember, IsMemberOf, IsMethodToken, IsFieldToken, IsTextToken}
use Rattle.body_tokens.proofs.Found.{names_one, parent_tables, method_tables, in_range}
use Rattle.body_tokens.proofs.Paths.{type_path, defined_owner, referred_owner, specified_owner}
use Rattle.body_tokens.proofs.Room.{method_few, member_few, no_module_refs}

-- ---- a signature is a field's or a method's by its first byte

abbrev byte_by : Bool → Bool → Bool → Bool → ℕ
byte_by a b c d = (if a then 0x05 else 0x00) + (if b then 0x20 else 0x00) + (if c then 0x40 else 0x00) + (if d then 0x00 else 0x10)

no_six : (a b c d : Bool) → byte_by a b c d ≡ 0x06 → ⊥
no_six true true true true e = omega arith
no_six true true true false e = omega arith
no_six true true false true e = omega arith
no_six true true false false e = omega arith
no_six true false true true e = omega arith
no_six true false true false e = omega arith
no_six true false false true e = omega arith
no_six true false false false e = omega arith
no_six false true true true e = omega arith
no_six false true true false e = omega arith
no_six false true false true e = omega arith
no_six false true false false e = omega arith
no_six false false true true e = omega arith
no_six false false true false e = omega arith
no_six false false false true e = omega arith
no_six false false false false e = omega arith

method_no_field : (owners : ℕ → Option Owner) (bytes rest : List ℕ) (sig : MethodSig) → IsMethod owners bytes sig → bytes ≡ 0x06 ∷ rest → ⊥
method_no_field owners bytes rest sig h e =
    let s = h.0 in
    no_six sig.vararg sig.has_this sig.explicit_this (sig.generic == 0) (ap (λ xs. slice_index xs 0) (sym s.whole ∙ e))

-- a MemberRef with a method's signature has none of a field
pub method_member : (image : List ℕ) (owners : ℕ → Option Owner) (row : ℕ) (bytes : List ℕ) (sig : MethodSig) → HasBlob (blobs_of image) (member_signature image row) bytes → IsMethod owners bytes sig
    → IsFieldMember image row → ⊥
method_member image owners row bytes sig blob h f =
    method_no_field owners bytes f.rest sig h (HasBlob-unique (blobs_of image) (member_signature image row) bytes f.bytes blob f.blob ∙ f.begins)

pub field_member : (image : List ℕ) (owners : ℕ → Option Owner) (row : ℕ) (bytes : List ℕ) (of : SigType) → HasBlob (blobs_of image) (member_signature image row) bytes → IsField owners bytes of
    → IsFieldMember image row
field_member image owners row bytes of blob h = record { bytes = bytes; blob = blob; rest = h.0.0; begins = h.0.1 }

-- ---- cells

method_text : (image : List ℕ) (row : ℕ) → HasEntries image 0x06 row → (name : List ℕ) × HasText (strings_of image) (method_name image row) name
unfolding schema
method_text image row h = let t = h 3 (omega arith) in (t.0, t.1)

field_text : (image : List ℕ) (row : ℕ) → HasEntries image 0x04 row → (name : List ℕ) × HasText (strings_of image) (field_name image row) name
unfolding schema
field_text image row h = let t = h 1 (omega arith) in (t.0, t.1)

member_text : (image : List ℕ) (row : ℕ) → HasEntries image 0x0A row → (name : List ℕ) × HasText (strings_of image) (member_name image row) name
unfolding schema
member_text image row h = let t = h 1 (omega arith) in (t.0, t.1)

-- the row that a cell that can't be nil names
parent_row : (image : List ℕ) (row : ℕ) → HasIndexes image 0x0A row → (table r : ℕ) × Names MemberRefParent (member_parent image row) table r × HasRow image table r
unfolding schema
parent_row image row h = elim (h 0 (omega arith)) [ inl n ↦ absurd (false≢true n.0) | inr n ↦ n ]

generic_row : (image : List ℕ) (row : ℕ) → HasIndexes image 0x2B row → (table r : ℕ) × Names MethodDefOrRef (instance_method image row) table r × HasRow image table r
unfolding schema
generic_row image row h = elim (h 0 (omega arith)) [ inl n ↦ absurd (false≢true n.0) | inr n ↦ n ]

parent_cell : (image : List ℕ) (row table r : ℕ) → Names MemberRefParent (member_parent image row) table r → CellNames image 0x0A row table r
unfolding schema
parent_cell image row table r n = record { column = 0; kind = MemberRefParent; nil = false; there = omega arith; coded = refl; names = n }

generic_cell : (image : List ℕ) (row table r : ℕ) → Names MethodDefOrRef (instance_method image row) table r → CellNames image 0x2B row table r
unfolding schema
generic_cell image row table r n = record { column = 0; kind = MethodDefOrRef; nil = false; there = omega arith; coded = refl; names = n }

-- ---- a row of a run is there

begin_within : (image : List ℕ) (type : ℕ) → HasIndexes image 0x02 type → (0 < first_field image type) × (first_field image type ≤ count_of image 0x04 + 1)
unfolding schema
begin_within image type h = h 4 (omega arith)

run_row_there : (image : List ℕ) (type field : ℕ) → HasIndexes image 0x02 type → (HasRow image 0x02 (type + 1) → HasIndexes image 0x02 (type + 1)) → HasRow image 0x02 type
    → Contains (fields_of image type) field → HasRow image 0x04 field
unfolding fields_of
run_row_there image type field h next there c =
    let b = begin_within image type h in
    let first = b.0 in
    let r = in_range (first_field image type) (run_end image 0x02 (first_field image) 0x04 type - first_field image type) field c in
    let low = r.0 in
    let high = r.1 in
    let end : run_end image 0x02 (first_field image) 0x04 type ≤ count_of image 0x04 + 1 = elim (cases_eq type (count_of image 0x02)) [
      | inl e ↦
          let t : (type == count_of image 0x02) ≡ true = eq-eqb type (count_of image 0x02) e in
          subst (λ (b : Bool). (if b then count_of image 0x04 + 1 else first_field image (type + 1)) ≤ count_of image 0x04 + 1) (sym t) (omega arith)
      | inr ne ↦
          let t : (type == count_of image 0x02) ≡ false = ne_eqb type (count_of image 0x02) ne in
          let below = there.1 in
          let m = begin_within image (type + 1) (next (omega arith, omega arith)) in
          subst (λ (b : Bool). (if b then count_of image 0x04 + 1 else first_field image (type + 1)) ≤ count_of image 0x04 + 1) (sym t) m.1
    ] in
    (omega arith, omega arith)

module _ (image : List ℕ) (names : NameMap) (small : length image ≤ 2 ^ 26) (has : HasTables image) (named : AreNamings image names) (before : HoldBefore image names tokens) where
  -- ---- owners

  owns_method : (method : ℕ) → HasRow image 0x06 method → (owner : Owner) × OwnsMethod image method owner
  owns_method method there =
      let lies = (before runs (omega arith) 0x06 method).method_in_type refl there in
      let p = type_path image names has named before lies.0 lies.1 in
      (here p.0, OwnsMethod.owns lies.1 lies.2 p.1)

  owns_member : (row : ℕ) → HasRow image 0x0A row → IsUsed image 0x0A row → (owner : Owner) × OwnsMember image names.owners row owner
  owns_member row there used =
      let parent = parent_row image row ((before indexes (omega arith)).0 0x0A row there) in
      let n = parent.2 in
      let r = parent.1 in
      elim (parent_tables (member_parent image row) parent.0 r n) [
        | inl e ↦
            let o = defined_owner image names has named before r (subst (λ (t : ℕ). HasRow image t r) e parent.3) in
            (o.0, OwnsMember.by_type (subst (λ (t : ℕ). Names MemberRefParent (member_parent image row) t r) e n) o.1)
        | inr u ↦ elim u [
          | inl e ↦
              let o = referred_owner image names has named before r (subst (λ (t : ℕ). HasRow image t r) e parent.3) in
              (o.0, OwnsMember.by_type (subst (λ (t : ℕ). Names MemberRefParent (member_parent image row) t r) e n) o.1)
          | inr v ↦ elim v [
            | inl e ↦ absurd (no_module_refs image has r (subst (λ (t : ℕ). HasRow image t r) e parent.3))
            | inr w ↦ elim w [
              | inl e ↦
                  let o = owns_method r (subst (λ (t : ℕ). HasRow image t r) e parent.3) in
                  (o.0, OwnsMember.by_method (subst (λ (t : ℕ). Names MemberRefParent (member_parent image row) t r) e n) o.1)
              | inr e ↦
                  let at : HasRow image 0x1B r = subst (λ (t : ℕ). HasRow image t r) e parent.3 in
                  let m = subst (λ (t : ℕ). Names MemberRefParent (member_parent image row) t r) e n in
                  let spec : IsUsed image 0x1B r = IsUsed.by_reference used (RowNames.by_cell (parent_cell image row 0x1B r m)) (inr (inr (inr (inl refl)))) at in
                  let o = specified_owner image names has named before r at spec in
                  (o.0, OwnsMember.by_type m o.1)
            ]
          ]
        ]
      ]

  -- ---- methods

  defined_method : (token method : ℕ) → IsToken token 0x06 method → HasRow image 0x06 method → (m : MethodRef) × NamesMethod image names.owners token m
  defined_method token method is there =
      let o = owns_method method there in
      let t = method_text image method (before entries (omega arith) 0x06 method there) in
      let s = (before signatures (omega arith) 0x06 method).method refl there in
      let m : MethodRef = record { owner = o.0; name = t.0; sig = s.0; args = None } in
      (m, NamesMethod.defined is there o.1 t.1 s.1.1 s.1.2)

  -- a used MemberRef with a method's signature
  referred_method : (token row : ℕ) (sig : MethodSig) → IsToken token 0x0A row → HasRow image 0x0A row → IsUsed image 0x0A row → MemberHasMethod image names row sig
      → (m : MethodRef) × NamesMethod image names.owners token m
  referred_method token row sig is there used s =
      let o = owns_member row there used in
      let t = member_text image row (before entries (omega arith) 0x0A row there) in
      let m : MethodRef = record { owner = o.0; name = t.0; sig = sig; args = None } in
      (m, NamesMethod.referred is there o.1 t.1 s.1 s.2)

  member_method : (token row : ℕ) → IsToken token 0x0A row → HasRow image 0x0A row → IsUsed image 0x0A row → (IsFieldMember image row → ⊥)
      → (m : MethodRef) × NamesMethod image names.owners token m
  member_method token row is there used none =
      elim ((before signatures (omega arith) 0x0A row).member refl used) [
        | inl s ↦ referred_method token row s.0 is there used s.1
        | inr f ↦ absurd (none (field_member image names.owners row f.1.0 f.0 f.1.1 f.1.2))
      ]

  generic_method : (row table r : ℕ) → HasRow image 0x2B row → IsUsed image 0x2B row → Names MethodDefOrRef (instance_method image row) table r → HasRow image table r
      → (table ≡ 0x06) ⊎ (table ≡ 0x0A) → (m : MethodRef) × NamesMethod image names.owners (token_of table r) m
  generic_method row table r there used n at (inl e) =
      let here : HasRow image 0x06 r = subst (λ (t : ℕ). HasRow image t r) e at in
      let few = method_few image r has small here in
      let m = defined_method (token_of table r) r (record { is = ap (λ (t : ℕ). token_of t r) e; fits = few }) here in
      m
  generic_method row table r there used n at (inr e) =
      let here : HasRow image 0x0A r = subst (λ (t : ℕ). HasRow image t r) e at in
      let few = member_few image r has small here in
      let member : IsUsed image 0x0A r = IsUsed.by_reference used (RowNames.by_cell (generic_cell image row 0x0A r (subst (λ (t : ℕ). Names MethodDefOrRef (instance_method image row) t r) e n))) (inr (inl refl)) here in
      let s = (before signatures (omega arith) 0x2B row).instance_of refl there in
      let same = names_one MethodDefOrRef (instance_method image row) s.0 s.1 table r s.2 n in
      let sig = s.3 (same.0 ∙ e) in
      referred_method (token_of table r) r sig.0 (record { is = ap (λ (t : ℕ). token_of t r) e; fits = few }) here member (subst (λ (k : ℕ). MemberHasMethod image names k sig.0) same.1 sig.1)

  instance_named : (token row : ℕ) → IsToken token 0x2B row → HasRow image 0x2B row → IsUsed image 0x2B row → (m : MethodRef) × NamesMethod image names.owners token m
  instance_named token row is there used =
      let of = generic_row image row ((before indexes (omega arith)).0 0x2B row there) in
      let g = generic_method row of.0 of.1 there used of.2 of.3 (method_tables (instance_method image row) of.0 of.1 of.2) in
      let a = (before signatures (omega arith) 0x2B row).instance refl used in
      let m : MethodRef = record { owner = g.0.owner; name = g.0.name; sig = g.0.sig; args = Some a.0 } in
      (m, NamesMethod.instantiated is there of.2 g.1 a.1.1 a.1.2)

  -- rows of the tables that are asked of only where they are used
  abbrev AreUsed : ℕ → Type 0
  AreUsed token = (table row : ℕ) → (table ≡ 0x0A) ⊎ (table ≡ 0x2B) → IsToken token table row → HasRow image table row → IsUsed image table row

  pub method_named : (token : ℕ) → ((table row : ℕ) → (table ≡ 0x0A) ⊎ (table ≡ 0x2B) → IsToken token table row → HasRow image table row → IsUsed image table row)
      → IsMethodToken image token → (m : MethodRef) × (names.methods token ≡ Some m)
  method_named token used h =
      let m : (m : MethodRef) × NamesMethod image names.owners token m = elim h [
        | inl n ↦ defined_method token n.row n.is n.there
        | inr u ↦ elim u [
          | inl n ↦ instance_named token n.row n.is n.there (used 0x2B n.row (inr refl) n.is n.there)
          | inr n ↦ member_method token n.row n.is n.there (used 0x0A n.row (inl refl) n.is n.there) n.said
        ]
      ] in
      (m.0, (named.methods token m.0).1 m.1)

  names_method : (token : ℕ) (m : MethodRef) → NamesMethod image names.owners token m → IsMethodToken image token
  names_method token m (NamesMethod.defined {method = method} is there lies text blob sig) = inl (record { row = method; is = is; there = there })
  names_method token m (NamesMethod.referred {row = row} {bytes = bytes} {sig = sig} is there owns text blob spelled) =
      inr (inr (record { row = row; is = is; there = there; said = method_member image names.owners row bytes sig blob spelled }))
  names_method token m (NamesMethod.instantiated {row = row} is there of generic blob args) = inr (inl (record { row = row; is = is; there = there }))

  pub named_method : (token : ℕ) (m : MethodRef) → names.methods token ≡ Some m → IsMethodToken image token
  named_method token m e = names_method token m ((named.methods token m).0 e)

  -- ---- fields

  defined_field : (token field : ℕ) → IsToken token 0x04 field → HasRow image 0x04 field → (f : FieldRef) × NamesField image names.owners token f
  defined_field token field is there =
      let lies = (before runs (omega arith) 0x04 field).in_type refl there in
      let p = type_path image names has named before lies.0 lies.1 in
      let t = field_text image field (before entries (omega arith) 0x04 field there) in
      let s = (before signatures (omega arith) 0x04 field).field refl there in
      let f : FieldRef = record { owner = here p.0; name = t.0; of = s.0 } in
      (f, NamesField.defined is lies.1 lies.2 p.1 t.1 s.1.1 s.1.2)

  member_field : (token row : ℕ) → IsToken token 0x0A row → HasRow image 0x0A row → IsUsed image 0x0A row → IsFieldMember image row
      → (f : FieldRef) × NamesField image names.owners token f
  member_field token row is there used said =
      let o = owns_member row there used in
      let t = member_text image row (before entries (omega arith) 0x0A row there) in
      elim ((before signatures (omega arith) 0x0A row).member refl used) [
        | inl s ↦ absurd (method_member image names.owners row s.1.0 s.0 s.1.1 s.1.2 said)
        | inr s ↦
            let f : FieldRef = record { owner = o.0; name = t.0; of = s.0 } in
            (f, NamesField.referred is there o.1 t.1 s.1.1 s.1.2)
      ]

  pub field_named : (token : ℕ) → ((table row : ℕ) → (table ≡ 0x0A) ⊎ (table ≡ 0x2B) → IsToken token table row → HasRow image table row → IsUsed image table row)
      → IsFieldToken image token → (f : FieldRef) × (names.fields token ≡ Some f)
  field_named token used h =
      let f : (f : FieldRef) × NamesField image names.owners token f = elim h [
        | inl n ↦ defined_field token n.row n.is n.there
        | inr n ↦ member_field token n.row n.is n.there (used 0x0A n.row (inl refl) n.is n.there) n.said
      ] in
      (f.0, (named.fields token f.0).1 f.1)

  field_row : (type field : ℕ) → Contains (fields_of image type) field → HasRow image 0x02 type → HasRow image 0x04 field
  field_row type field c there =
      run_row_there image type field ((before indexes (omega arith)).0 0x02 type there) (λ next. (before indexes (omega arith)).0 0x02 (type + 1) next) there c

  names_field : (token : ℕ) (f : FieldRef) → NamesField image names.owners token f → IsFieldToken image token
  names_field token f (NamesField.defined {field = field} {type = type} is there contains path text blob spelled) =
      inl (record { row = field; is = is; there = field_row type field contains there })
  names_field token f (NamesField.referred {row = row} {bytes = bytes} {of = of} is there owns text blob spelled) =
      inr (record { row = row; is = is; there = there; said = field_member image names.owners row bytes of blob spelled })

  pub named_field : (token : ℕ) (f : FieldRef) → names.fields token ≡ Some f → IsFieldToken image token
  named_field token f e = names_field token f ((named.fields token f).0 e)

  -- ---- texts

  pub text_named : (token : ℕ) → IsTextToken image token → (units : List ℕ) × (names.texts token ≡ Some units)
  text_named token h = (h.0, (named.texts token h.0).1 h.1)

  pub named_text : (token : ℕ) (units : List ℕ) → names.texts token ≡ Some units → IsTextToken image token
  named_text token units e = (units, (named.texts token units).0 e)
