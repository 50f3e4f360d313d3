-- Rows with one signature: their blobs spell one term, and have one hash.
use Rattle.std.proofs.Common.{◌≡◌, ℕ, Bool, true, List, Option, Some, None, refl, sym, ap, subst, ◌∙◌, arith}
use Rattle.std.specs.Prelude.{◌↔◌, IsTrue}
use Rattle.std.specs.Option.{option_map}
use Rattle.std.proofs.lemmas.Option.{same_Some}
use Rattle.body_codec.specs.Names.{NameMap}
use Rattle.heaps.specs.Content.{HasBlob}
use Rattle.heaps.specs.LookUp.{blob_in}
use Rattle.heaps.proofs.Computed.{blob_is_computed}
use Rattle.type_terms.specs.declared.reference.MethodSig.{MethodSig}
use Rattle.type_terms.specs.declared.term.Owner.{Owner}
use Rattle.type_terms.specs.declared.term.SigType.{SigType}
use Rattle.image_model.specs.Columns.{field_signature, method_signature, property_signature}
use Rattle.image_model.specs.Members.{HaveOne}
use Rattle.image_model.specs.Namings.{AreNamings}
use Rattle.image_model.specs.Rows.{HasRow}
use Rattle.image_model.specs.Streams.{blobs_of}
use Rattle.image_model.specs.Terms.{FieldHas, MethodHas, PropertyHas}
use Rattle.sig_codec.specs.Reading as whole
use Rattle.sig_codec.specs.Reading.{◌>>=◌}
use Rattle.sig_codec.specs.Signature.{IsField, IsMethod, IsProperty}
use Rattle.sig_codec.proofs.Methods.{method_whole, whole_method_again, property_whole, whole_property_again}
use Rattle.sig_codec.proofs.Whole.{field_whole, whole_field_again}
use Rattle.signature_equality.specs.Numbering.{IsCanon}
use Rattle.signature_facts.specs.declared.facts.Facts.{Facts}
use Rattle.signature_facts.specs.declared.facts.MethodFacts.{MethodFacts}
use Rattle.signature_facts.specs.Facts.{Naming, type_facts, method_facts}
use Rattle.signature_facts.specs.Owners.{AreFacts}
use Rattle.signature_facts.specs.Scanning.{OwnersFacts}
use Rattle.signature_facts.specs.Scanning as scan
use Rattle.signature_facts.proofs.WholeTold as told
use Rattle.spec_facts.proofs.Owned.{bounded}
use Rattle.distinct_members.specs.Signed.{type_hash, sig_hash, field_hash, method_hash, property_hash, ByNames, FieldsAlike, MethodsAlike, PropertiesAlike, CanTell, TellFacts}

module _ {X : Type 0} (image : List ℕ) (index : ℕ → ℕ) (Is : (ℕ → Option Owner) → List ℕ → X → Type 0) (read : (ℕ → Option Owner) → List ℕ → Option X)
    (again : (owners : ℕ → Option Owner) (bytes : List ℕ) (x : X) → Is owners bytes x → read owners bytes ≡ Some x) where
  abbrev Has : NameMap → ℕ → X → Type 0
  Has names row x = (bytes : List ℕ) × HasBlob (blobs_of image) (index row) bytes × Is names.owners bytes x

  -- what is read of a row's blob is what the row has
  pub record IsRead (names : NameMap) (row : ℕ) (x : X) : Type 0 where
    pub bytes : List ℕ
    pub blob : blob_in (blobs_of image) (index row) ≡ Some bytes
    pub is : read names.owners bytes ≡ Some x

  pub has_read : (names : NameMap) (row : ℕ) (x : X) → Has names row x → IsRead names row x
  has_read names row x (bytes, blob, is) = record {
    bytes = bytes;
    blob = (blob_is_computed (blobs_of image) (index row) bytes).0 blob;
    is = again names.owners bytes x is;
  }

  -- the bytes at hand are those of the row
  abbrev AreBytes : List ℕ → ℕ → Type 0
  AreBytes at row = (bytes : List ℕ) → blob_in (blobs_of image) (index row) ≡ Some bytes → at ≡ bytes

  read_at : (names : NameMap) (row : ℕ) (x : X) (at : List ℕ) → AreBytes at row → Has names row x → read names.owners at ≡ Some x
  read_at names row x at are has = let r = has_read names row x has in ap (read names.owners) (are r.bytes r.blob) ∙ r.is

  module _ (canon : ℕ → ℕ → Bool) (tells : CanTell image canon) (a b : ℕ) (one other : List ℕ) (first : AreBytes one a) (second : AreBytes other b) (r : Bool)
      (same : (owners : ℕ → Option Owner) (s t : X) → IsCanon owners canon → read owners one ≡ Some s → read owners other ≡ Some t → IsTrue r ↔ (s ≡ t))
      (each : (names : NameMap) → AreNamings image names → ((x : X) × Has names a x) × ((x : X) × Has names b x)) where
    pub told_alike : IsTrue r ↔ ByNames image (λ names. HaveOne (Has names) a b)
    told_alike = (
      λ is names named.
          let e = each names named in
          let s = e.0.0 in
          let t = e.1.0 in
          let k = same names.owners s t (tells.canon_is names named) (read_at names a s one first e.0.1) (read_at names b t other second e.1.1) in
          let one_term : s ≡ t = k.0 is in
          (s, e.0.1, subst (Has names b) (sym one_term) e.1.1),
      λ h.
          let n = tells.named in
          let x = h n.0 n.1 in
          (same n.0.owners x.0 x.0 (tells.canon_is n.0 n.1) (read_at n.0 a x.0 one first x.1) (read_at n.0 b x.0 other second x.2)).1 refl,
    )

  -- rows with one signature have one hash
  module _ {F : Type 0} (facts : OwnersFacts) (scanned : List ℕ → Option F) (hash : Option F → ℕ) (view : Naming → X → F) (canon : ℕ → ℕ → Bool) (tells : CanTell image canon) (facts_are : TellFacts image facts)
      (told_whole : (naming : Naming) (names : NameMap) → AreNamings image names → AreFacts naming names.owners facts → (b : List ℕ) → scanned b ≡ option_map (view naming) (read names.owners b)) where
    hash_at : (row : ℕ) (x : X) → Has (tells.named.0) row x → hash (blob_in (blobs_of image) (index row) >>= scanned) ≡ hash (Some (view (facts_are tells.named.0 tells.named.1).0 x))
    hash_at row x has =
        let n = tells.named in
        let f = facts_are n.0 n.1 in
        let r = has_read n.0 row x has in
        ap hash (ap (λ (o : Option (List ℕ)). o >>= scanned) r.blob ∙ told_whole f.0 n.0 n.1 f.1 r.bytes ∙ ap (option_map (view f.0)) r.is)

    pub hashes_alike : (a b : ℕ) → ByNames image (λ names. HaveOne (Has names) a b) → hash (blob_in (blobs_of image) (index a) >>= scanned) ≡ hash (blob_in (blobs_of image) (index b) >>= scanned)
    hashes_alike a b h =
        let n = tells.named in
        let x = h n.0 n.1 in
        hash_at a x.0 x.1 ∙ sym (hash_at b x.0 x.2)

module _ (image : List ℕ) (canon : ℕ → ℕ → Bool) (tells : CanTell image canon) where
  abbrev At : (ℕ → ℕ) → List ℕ → ℕ → Type 0
  At index at row = (bytes : List ℕ) → blob_in (blobs_of image) (index row) ≡ Some bytes → at ≡ bytes

  pub fields_told : (a b : ℕ) (one other : List ℕ) (r : Bool) → HasRow image 0x04 a → HasRow image 0x04 b → At (field_signature image) one a → At (field_signature image) other b
      → ((owners : ℕ → Option Owner) (s t : SigType) → IsCanon owners canon → whole.whole_field owners one ≡ Some s → whole.whole_field owners other ≡ Some t → IsTrue r ↔ (s ≡ t)) → IsTrue r ↔ FieldsAlike image a b
  fields_told a b one other r p q first second same =
      told_alike image (field_signature image) IsField whole.whole_field whole_field_again canon tells a b one other first second r same
      (λ names named.
      let x = (tells.signatures names named 0x04 a).field refl p in
      let y = (tells.signatures names named 0x04 b).field refl q in
      ((x.0, x.1), (y.0, y.1)))

  pub methods_told : (a b : ℕ) (one other : List ℕ) (r : Bool) → HasRow image 0x06 a → HasRow image 0x06 b → At (method_signature image) one a → At (method_signature image) other b
      → ((owners : ℕ → Option Owner) (s t : MethodSig) → IsCanon owners canon → whole.whole_method owners one ≡ Some s → whole.whole_method owners other ≡ Some t → IsTrue r ↔ (s ≡ t)) → IsTrue r ↔ MethodsAlike image a b
  methods_told a b one other r p q first second same =
      told_alike image (method_signature image) IsMethod whole.whole_method whole_method_again canon tells a b one other first second r same
      (λ names named.
      let x = (tells.signatures names named 0x06 a).method refl p in
      let y = (tells.signatures names named 0x06 b).method refl q in
      ((x.0, x.1), (y.0, y.1)))

  pub properties_told : (a b : ℕ) (one other : List ℕ) (r : Bool) → HasRow image 0x17 a → HasRow image 0x17 b → At (property_signature image) one a → At (property_signature image) other b
      → ((owners : ℕ → Option Owner) (s t : MethodSig) → IsCanon owners canon → whole.whole_property owners one ≡ Some s → whole.whole_property owners other ≡ Some t → IsTrue r ↔ (s ≡ t)) → IsTrue r ↔ PropertiesAlike image a b
  properties_told a b one other r p q first second same =
      told_alike image (property_signature image) IsProperty whole.whole_property whole_property_again canon tells a b one other first second r same
      (λ names named.
      let x = (tells.signatures names named 0x17 a).property refl p in
      let y = (tells.signatures names named 0x17 b).property refl q in
      ((x.0, x.1), (y.0, y.1)))

  module _ (facts : OwnersFacts) (facts_are : TellFacts image facts) where
    pub field_hashes : (a b : ℕ) → FieldsAlike image a b → field_hash image facts a ≡ field_hash image facts b
    unfolding field_hash
    field_hashes a b h =
        hashes_alike image (field_signature image) IsField whole.whole_field whole_field_again facts (scan.whole_field facts) type_hash type_facts canon tells facts_are
        (λ naming names named are b. told.moved facts naming names.owners are (λ (f : OwnersFacts). scan.whole_field f b) ∙ told.field_whole naming names.owners (bounded image naming names.owners named.owners) b) a b h

    pub method_hashes : (a b : ℕ) → MethodsAlike image a b → method_hash image facts a ≡ method_hash image facts b
    unfolding method_hash
    method_hashes a b h =
        hashes_alike image (method_signature image) IsMethod whole.whole_method whole_method_again facts (scan.whole_method facts) sig_hash method_facts canon tells facts_are
        (λ naming names named are b. told.moved facts naming names.owners are (λ (f : OwnersFacts). scan.whole_method f b) ∙ told.method_whole naming names.owners (bounded image naming names.owners named.owners) b) a b h

    pub property_hashes : (a b : ℕ) → PropertiesAlike image a b → property_hash image facts a ≡ property_hash image facts b
    unfolding property_hash
    property_hashes a b h =
        hashes_alike image (property_signature image) IsProperty whole.whole_property whole_property_again facts (scan.whole_property facts) sig_hash method_facts canon tells facts_are
        (λ naming names named are b. told.moved facts naming names.owners are (λ (f : OwnersFacts). scan.whole_property f b) ∙ told.property_whole naming names.owners (bounded image naming names.owners named.owners) b) a b h

-- ---- what is found by a look at the blob

abbrev pub hashed_by : {F : Type 0} → (Option F → ℕ) → (List ℕ → Option F) → Option (List ℕ) → ℕ
hashed_by hash scanned blob = hash (blob >>= scanned)

pub field_hash_is : (image : List ℕ) (facts : OwnersFacts) (row : ℕ) (blob : Option (List ℕ)) → blob_in (blobs_of image) (field_signature image row) ≡ blob → field_hash image facts row ≡ hashed_by type_hash (scan.whole_field facts) blob
unfolding field_hash
field_hash_is image facts row blob e = ap (hashed_by type_hash (scan.whole_field facts)) e

pub method_hash_is : (image : List ℕ) (facts : OwnersFacts) (row : ℕ) (blob : Option (List ℕ)) → blob_in (blobs_of image) (method_signature image row) ≡ blob → method_hash image facts row ≡ hashed_by sig_hash (scan.whole_method facts) blob
unfolding method_hash
method_hash_is image facts row blob e = ap (hashed_by sig_hash (scan.whole_method facts)) e

pub property_hash_is : (image : List ℕ) (facts : OwnersFacts) (row : ℕ) (blob : Option (List ℕ)) → blob_in (blobs_of image) (property_signature image row) ≡ blob → property_hash image facts row ≡ hashed_by sig_hash (scan.whole_property facts) blob
unfolding property_hash
property_hash_is image facts row blob e = ap (hashed_by sig_hash (scan.whole_property facts)) e

-- where no blob stands at an index none is computed
pub no_blob : (heap : List ℕ) (index : ℕ) → ((b : List ℕ) → HasBlob heap index b → ⊥) → blob_in heap index ≡ None
no_blob heap index lacks = go (blob_in heap index) refl
  where
    go : (r : Option (List ℕ)) → blob_in heap index ≡ r → r ≡ None
    go None e = refl
    go (Some b) e = absurd (lacks b ((blob_is_computed heap index b).1 e))

pub one_blob : (heap : List ℕ) (index : ℕ) (b c : List ℕ) → HasBlob heap index b → blob_in heap index ≡ Some c → b ≡ c
one_blob heap index b c has e = same_Some b c (sym ((blob_is_computed heap index b).0 has) ∙ e)
