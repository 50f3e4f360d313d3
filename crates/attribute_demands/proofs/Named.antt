-- Rows that name methods: what their tokens name.
use Rattle.std.proofs.Common.{◌≡◌, ℕ, ◌+◌, ◌*◌, ◌^◌, ◌<◌, ◌≤◌, ◌⊎◌, inl, inr, false, List, Option, Some, None, length, refl, sym, ap, subst, ◌∙◌, arith}
use Rattle.std.specs.Prelude.{◌↔◌}
use Rattle.std.specs.Option.{option_map}
use Rattle.std.proofs.lemmas.Option.{same_Some}
use Rattle.body_codec.specs.Names.{NameMap}
use Rattle.heaps.specs.Content.{HasBlob, HasText}
use Rattle.heaps.specs.LookUp.{blob_in}
use Rattle.heaps.proofs.Computed.{blob_is_computed}
use Rattle.metadata_tables.specs.CodedIndex.{unpacked}
use Rattle.metadata_tables.specs.declared.coded.Coded.TheVariants.{MemberRefParent}
use Rattle.metadata_tables.specs.Schema.{columns_of, schema}
use Rattle.metadata_tables.specs.Stream.{column_of}
use Rattle.type_terms.specs.declared.reference.MethodRef.{MethodRef}
use Rattle.type_terms.specs.declared.reference.MethodSig.{MethodSig}
use Rattle.type_terms.specs.declared.term.Owner.{Owner}
use Rattle.type_terms.specs.declared.term.Owner.TheVariants.{Name, Spec}
use Rattle.image_model.specs.Columns.{member_parent, member_signature, member_name, method_signature, method_name}
use Rattle.image_model.specs.Faults.{RowRule, signatures, indexes, entries, manifest, runs, order, scopes, distinct, values, header, instructions, clauses, tokens, attributes, bases, accessors, number_of, Holds, HoldBefore, HasTables}
use Rattle.image_model.specs.Naming.{here, RowOwner, IsToken, OwnsMethod, OwnsMember, NamesMethod}
use Rattle.image_model.specs.Namings.{AreNamings}
use Rattle.image_model.specs.Rows.{HasRow, Names, token_of}
use Rattle.image_model.specs.Streams.{strings_of, blobs_of}
use Rattle.image_model.specs.Structure.{HasScopes}
use Rattle.image_model.specs.Terms.{HasSignatures, MethodHas, MemberHasMethod}
use Rattle.image_model.specs.Used.{IsReference, RowNames, IsUsed}
use Rattle.image_namings.proofs.Indexes.{parent_tables, row_there, cell_names}
use Rattle.image_namings.proofs.Owners.{table_is, row_is}
use Rattle.image_namings.proofs.Rows.{few_methods, few_members}
use Rattle.image_namings.proofs.Standing.{Stands, stands}
use Rattle.row_demands.specs.Structured.{MeetStructure}
use Rattle.sig_codec.specs.Reading.{◌>>=◌}
use Rattle.sig_codec.specs.Reading as whole
use Rattle.sig_codec.specs.Signature.{IsMethod}
use Rattle.sig_codec.proofs.Methods.{method_whole, whole_method_again}
use Rattle.sig_codec.proofs.Numbers.{bind_some}
use Rattle.signature_facts.specs.declared.facts.MethodFacts.{MethodFacts}
use Rattle.signature_facts.specs.Facts.{Naming, method_facts}
use Rattle.signature_facts.specs.Owners.{AreFacts}
use Rattle.signature_facts.specs.Scanning.{OwnersFacts, whole_method}
use Rattle.signature_facts.proofs.WholeTold as told
use Rattle.spec_facts.proofs.Owned.{bounded}
use Rattle.type_names.proofs.Facts.{no_modules}

-- the demands before that on signatures hold
pub hold_before : (image : List ℕ) (any : NameMap) → MeetStructure image → ((table row : ℕ) → HasScopes image table row) → HoldBefore image any signatures
hold_before image any meets s indexes less = (meets.indexes, meets.entry)
hold_before image any meets s entries less = meets.entries
hold_before image any meets s manifest less = meets.manifest
hold_before image any meets s runs less = meets.runs
hold_before image any meets s order less = meets.order
hold_before image any meets s scopes less = s
hold_before image any meets s signatures less = absurd (omega arith)
hold_before image any meets s distinct less = absurd (omega arith)
hold_before image any meets s values less = absurd (omega arith)
hold_before image any meets s header less = absurd (omega arith)
hold_before image any meets s instructions less = absurd (omega arith)
hold_before image any meets s clauses less = absurd (omega arith)
hold_before image any meets s tokens less = absurd (omega arith)
hold_before image any meets s attributes less = absurd (omega arith)
hold_before image any meets s bases less = absurd (omega arith)
hold_before image any meets s accessors less = absurd (omega arith)

parent_column : (image : List ℕ) (from table row : ℕ) → Names MemberRefParent (member_parent image from) table row → RowNames image 0x0A from table row
unfolding schema
parent_column image from table row n = cell_names image 0x0A from 0 MemberRefParent false table row (omega arith) refl n

module _ (image : List ℕ) (small : length image ≤ 2 ^ 26) (tables : HasTables image) (meets : MeetStructure image) (nested : (table row : ℕ) → HasScopes image table row)
    (names : NameMap) (named : AreNamings image names) (spelled : (table row : ℕ) → HasSignatures image names table row) where
  rows : Stands image
  rows = stands image names (hold_before image names meets nested)

  method_token : (row : ℕ) → HasRow image 0x06 row → IsToken (token_of 0x06 row) 0x06 row
  method_token row there = record { is = refl; fits = few_methods image row small tables there }

  member_token : (row : ℕ) → HasRow image 0x0A row → IsToken (token_of 0x0A row) 0x0A row
  member_token row there = record { is = refl; fits = few_members image row small tables there }

  method_owned : (row : ℕ) → HasRow image 0x06 row → (o : Owner) × OwnsMethod image row o
  method_owned row there =
      let t = rows.method_in row there in
      let p = rows.path t.0 t.1 in
      (here p.0, OwnsMethod.owns t.1 t.2 p.1)

  -- a MethodDef is a method
  pub method_named : (row : ℕ) → HasRow image 0x06 row → (m : MethodRef) × (names.methods (token_of 0x06 row) ≡ Some m)
  method_named row there =
      let o = method_owned row there in
      let text = rows.method_is row there in
      let s = (spelled 0x06 row).method refl there in
      let m : MethodRef = record { owner = o.0; name = text.0; sig = s.0; args = None } in
      (m, (named.methods (token_of 0x06 row) m).1 (NamesMethod.defined (method_token row there) there o.1 text.1 s.1.1 s.1.2))

  spec_owned : (row parent : ℕ) → IsUsed image 0x0A row → Names MemberRefParent (member_parent image row) 0x1B parent → HasRow image 0x1B parent → (o : Owner) × RowOwner image names.owners 0x1B parent o
  spec_owned row parent used n there =
      let used_spec : IsUsed image 0x1B parent = IsUsed.by_reference used (parent_column image row 0x1B parent n) (inr (inr (inr (inl refl)))) there in
      let s = (spelled 0x1B parent).type refl used_spec in
      (Spec s.0, RowOwner.specified refl there s.1.1 s.1.2)

  member_owned : (row table parent : ℕ) → IsUsed image 0x0A row → Names MemberRefParent (member_parent image row) table parent → HasRow image table parent → (o : Owner) × OwnsMember image names.owners row o
  member_owned row table parent used n there = elim (parent_tables (member_parent image row) table parent n) [
    | inl e ↦
        let t = subst (λ (x : ℕ). HasRow image x parent) e there in
        let p = rows.path parent t in
        (here p.0, OwnsMember.by_type n (RowOwner.defined e t p.1))
    | inr other ↦ elim other [
      | inl e ↦
          let t = subst (λ (x : ℕ). HasRow image x parent) e there in
          let p = rows.reference parent t in
          (Name (record { scope = p.0; path = p.1 }), OwnsMember.by_type n (RowOwner.referred e t p.2))
      | inr more ↦ elim more [
        | inl e ↦ absurd (no_modules image tables parent (subst (λ (x : ℕ). HasRow image x parent) e there))
        | inr last ↦ elim last [
          | inl e ↦
              let t = subst (λ (x : ℕ). HasRow image x parent) e there in
              let o = method_owned parent t in
              (o.0, OwnsMember.by_method (subst (λ (x : ℕ). Names MemberRefParent (member_parent image row) x parent) e n) o.1)
          | inr e ↦
              let t = subst (λ (x : ℕ). HasRow image x parent) e there in
              let m = subst (λ (x : ℕ). Names MemberRefParent (member_parent image row) x parent) e n in
              let o = spec_owned row parent used m t in
              (o.0, OwnsMember.by_type m o.1)
        ]
      ]
    ]
  ]

  -- a MemberRef in use that has a method's signature is a method
  pub member_named : (row : ℕ) (sig : MethodSig) → IsUsed image 0x0A row → HasRow image 0x0A row → MemberHasMethod image names row sig → (m : MethodRef) × (names.methods (token_of 0x0A row) ≡ Some m) × (m.sig ≡ sig)
  member_named row sig used there has =
      let p = rows.member_in row there in
      let o = member_owned row p.0 p.1 used p.2 p.3 in
      let text = rows.member_is row there in
      let m : MethodRef = record { owner = o.0; name = text.0; sig = sig; args = None } in
      (m, (named.methods (token_of 0x0A row) m).1 (NamesMethod.referred (member_token row there) there o.1 text.1 has.1 has.2), refl)

  -- what a token of either names has the signature of its row
  member_sig : {token : ℕ} {m : MethodRef} (row : ℕ) → row < 2 ^ 24 → token ≡ 0x0A * 2 ^ 24 + row → NamesMethod image names.owners token m → MemberHasMethod image names row m.sig
  member_sig row few e (NamesMethod.defined t there o text b is) = absurd (let a = t.is in let c = t.fits in omega arith)
  member_sig row few e (NamesMethod.referred {row = r} {bytes = bytes} {sig = sig} t there o text b is) =
      let same : r ≡ row = let a = t.is in let c = t.fits in omega arith in
      subst (λ (q : ℕ). MemberHasMethod image names q sig) same (bytes, b, is)
  member_sig row few e (NamesMethod.instantiated t there n generic b is) = absurd (let a = t.is in let c = t.fits in omega arith)

  pub member_back : (row : ℕ) (m : MethodRef) → HasRow image 0x0A row → names.methods (token_of 0x0A row) ≡ Some m → MemberHasMethod image names row m.sig
  member_back row m there e = member_sig row (few_members image row small tables there) refl ((named.methods (token_of 0x0A row) m).0 e)

  method_sig : {token : ℕ} {m : MethodRef} (row : ℕ) → row < 2 ^ 24 → token ≡ 0x06 * 2 ^ 24 + row → NamesMethod image names.owners token m → MethodHas image names row m.sig
  method_sig row few e (NamesMethod.defined {method = r} {bytes = bytes} {sig = sig} t there o text b is) =
      let same : r ≡ row = let a = t.is in let c = t.fits in omega arith in
      subst (λ (q : ℕ). MethodHas image names q sig) same (bytes, b, is)
  method_sig row few e (NamesMethod.referred t there o text b is) = absurd (let a = t.is in let c = t.fits in omega arith)
  method_sig row few e (NamesMethod.instantiated t there n generic b is) = absurd (let a = t.is in let c = t.fits in omega arith)

  pub method_back : (row : ℕ) (m : MethodRef) → HasRow image 0x06 row → names.methods (token_of 0x06 row) ≡ Some m → MethodHas image names row m.sig
  method_back row m there e = method_sig row (few_methods image row small tables there) refl ((named.methods (token_of 0x06 row) m).0 e)

-- ---- signatures of methods, as a scan tells them

module _ (image : List ℕ) (names : NameMap) (named : AreNamings image names) (naming : Naming) (facts : OwnersFacts) (are : AreFacts naming names.owners facts) where
  method_scan : (b : List ℕ) → whole_method facts b ≡ option_map (method_facts naming) (whole.whole_method names.owners b)
  method_scan b = told.moved facts naming names.owners are (λ (f : OwnersFacts). whole_method f b) ∙ told.method_whole naming names.owners (bounded image naming names.owners named.owners) b

  -- what the blob at an index spells is told
  pub scan_found : (index : ℕ) (sig : MethodSig) (bytes : List ℕ) → HasBlob (blobs_of image) index bytes → IsMethod names.owners bytes sig → blob_in (blobs_of image) index >>= whole_method facts ≡ Some (method_facts naming sig)
  scan_found index sig bytes b is =
      ap (λ (o : Option (List ℕ)). o >>= whole_method facts) ((blob_is_computed (blobs_of image) index bytes).0 b) ∙ method_scan bytes ∙ ap (option_map (method_facts naming)) (whole_method_again names.owners bytes sig is)

  pub record IsScanned (index : ℕ) (m : MethodFacts) : Type 0 where
    pub sig : MethodSig
    pub bytes : List ℕ
    pub blob : HasBlob (blobs_of image) index bytes
    pub is : IsMethod names.owners bytes sig
    pub told_by : method_facts naming sig ≡ m

  scan_cases : (index : ℕ) (m : MethodFacts) (bytes : List ℕ) → blob_in (blobs_of image) index ≡ Some bytes → (r : Option MethodSig) → whole.whole_method names.owners bytes ≡ r → option_map (method_facts naming) r ≡ Some m → IsScanned index m
  scan_cases index m bytes b None e t = absurd cc
  scan_cases index m bytes b (Some sig) e t = record {
    sig = sig;
    bytes = bytes;
    blob = (blob_is_computed (blobs_of image) index bytes).1 b;
    is = method_whole names.owners bytes sig e;
    told_by = same_Some (method_facts naming sig) m t;
  }

  -- what is told is spelled
  pub scan_back : (index : ℕ) (m : MethodFacts) → blob_in (blobs_of image) index >>= whole_method facts ≡ Some m → IsScanned index m
  scan_back index m e =
      let b = bind_some (blob_in (blobs_of image) index) (whole_method facts) m e in
      scan_cases index m b.0 b.1 (whole.whole_method names.owners b.0) refl (sym (method_scan b.0) ∙ b.2)

-- where no blob stands at an index none is computed
pub no_blob : (heap : List ℕ) (index : ℕ) → ((b : List ℕ) → HasBlob heap index b → ⊥) → blob_in heap index ≡ None
no_blob heap index lacks = go (blob_in heap index) refl
  where
    go : (r : Option (List ℕ)) → blob_in heap index ≡ r → r ≡ None
    go None e = refl
    go (Some b) e = absurd (lacks b ((blob_is_computed heap index b).1 e))
