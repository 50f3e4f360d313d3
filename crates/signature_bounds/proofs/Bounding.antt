-- The demand on signatures by terms is the one by facts.
use Rattle.std.proofs.Common.{◌≡◌, ◌↔◌, ℕ, ◌≤◌, ◌⊎◌, inl, inr, max, Bool, true, false, List, [], ◌∷◌, length, map, Option, Some, None, refl, sym, ap, subst, ◌∙◌, arith}
use Rattle.std.proofs.lemmas.List.Elements.{All-cons, All-head, All-tail}
use Rattle.std.specs.Option.{option_map}
use Rattle.std.specs.Prelude.{All}
use Rattle.heaps.specs.Content.{HasBlob}
use Rattle.heaps.specs.LookUp.{blob_in}
use Rattle.heaps.proofs.Computed.{blob_is_computed}
use Rattle.metadata_tables.specs.declared.coded.Coded.TheVariants.{MethodDefOrRef}
use Rattle.type_terms.specs.declared.reference.MethodSig.{MethodSig}
use Rattle.type_terms.specs.declared.term.Owner.{Owner}
use Rattle.type_terms.specs.declared.term.SigType.{SigType}
use Rattle.type_terms.specs.Depth.{largest}
use Rattle.sig_codec.specs.Signature.{IsType, IsMethod, IsField, IsProperty, AreLocals, IsInstantiation}
use Rattle.sig_codec.specs.Reading as whole
use Rattle.sig_codec.specs.Reading.{◌>>=◌}
use Rattle.sig_codec.proofs.Methods.{method_whole, whole_method_again, property_whole, whole_property_again}
use Rattle.sig_codec.proofs.Numbers.{some_is}
use Rattle.sig_codec.proofs.Whole.{type_whole, whole_type_again, field_whole, whole_field_again, locals_whole, whole_locals_again, instantiation_whole, whole_instantiation_again}
use Rattle.body_codec.specs.Names.{NameMap}
use Rattle.image_model.specs.Columns.{field_signature, method_signature, member_signature, property_signature, locals_signature, type_spec_signature, instance_method, instance_arguments, override_body, override_declaration}
use Rattle.image_model.specs.Rows.{HasRow, Names}
use Rattle.image_model.specs.Streams.{blobs_of}
use Rattle.image_model.specs.Terms.{HasSignatures, HasMember, HasRanks, HasBounds, NamesSignature, FieldHas, MethodHas, PropertyHas, MemberHasMethod, MemberHasField, LocalsHave, TypeSpecHas, InstanceHas, max_count}
use Rattle.signature_facts.specs.declared.facts.Facts.{Facts}
use Rattle.signature_facts.specs.declared.facts.ListFacts.{ListFacts}
use Rattle.signature_facts.specs.declared.facts.MethodFacts.{MethodFacts}
use Rattle.signature_facts.specs.Facts.{Naming, is_there, type_facts, types_facts, method_facts}
use Rattle.signature_facts.specs.Owners.{AreFacts, AreBounded}
use Rattle.signature_facts.specs.Scanning as scan
use Rattle.signature_facts.specs.Scanning.{OwnersFacts}
use Rattle.signature_facts.specs.Sizes.{type_rank, types_rank}
use Rattle.signature_facts.proofs.Sizes.{type_sizes, types_sizes, method_sizes}
use Rattle.signature_facts.proofs.WholeTold as told
use Rattle.signature_bounds.specs.Bounded.{scanned_at, IsKept, HasRank, IsBounded, FieldIs, MethodIs, NamesMethod, HasBounded}

-- ---- a scan that gives the facts of what is read

module _ {V F : Type 0} (view : V → F) (read : List ℕ → Option V) (scanned : List ℕ → Option F) (same : (b : List ℕ) → scanned b ≡ option_map view (read b))
    (Is : List ℕ → V → Type 0) (is : (b : List ℕ) (v : V) → read b ≡ Some v → Is b v) (again : (b : List ℕ) (v : V) → Is b v → read b ≡ Some v)
    (P : F → Type 0) (Q : V → Type 0) (to : (v : V) → P (view v) → Q v) (back : (v : V) → Q v → P (view v)) where
  abbrev Has : List ℕ → ℕ → V → Type 0
  Has image index v = (b : List ℕ) × HasBlob (blobs_of image) index b × Is b v

  from_read : (b : List ℕ) (r : Option V) (f : F) → read b ≡ r → option_map view r ≡ Some f → (v : V) × (read b ≡ Some v) × (view v ≡ f)
  from_read b None f e h = absurd cc
  from_read b (Some v) f e h = (v, e, some_is (view v) f h)

  from_blob : (image : List ℕ) (index : ℕ) (r : Option (List ℕ)) (f : F) → blob_in (blobs_of image) index ≡ r → (r >>= scanned) ≡ Some f → P f → (v : V) × Has image index v × Q v
  from_blob image index None f e h p = absurd cc
  from_blob image index (Some b) f e h p =
      let s = from_read b (read b) f refl (sym (same b) ∙ h) in
      (s.0, (b, (blob_is_computed (blobs_of image) index b).1 e, is b s.0 s.1), to s.0 (subst P (sym s.2) p))

  pub kept_has : (image : List ℕ) (index : ℕ) → IsKept (scanned_at image scanned index) P → (v : V) × Has image index v × Q v
  kept_has image index k = from_blob image index (blob_in (blobs_of image) index) k.0 refl k.1 k.2

  pub has_kept : (image : List ℕ) (index : ℕ) (v : V) → Has image index v → Q v → IsKept (scanned_at image scanned index) P
  has_kept image index v h q =
      let blob = (blob_is_computed (blobs_of image) index h.0).0 h.1 in
      (view v, ap (λ (r : Option (List ℕ)). r >>= scanned) blob ∙ same h.0 ∙ ap (option_map view) (again h.0 v h.2), back v q)

-- ---- ranks

ranks_to : (ts : List SigType) → types_rank ts ≤ 32 → All HasRanks ts
ranks_to [] h = λ k d lt. absurd (omega arith)
ranks_to (t ∷ ts) h = All-cons HasRanks t ts (let a : type_rank t ≤ 32 = omega arith in a) (ranks_to ts (omega arith))

ranks_back : (ts : List SigType) → All HasRanks ts → types_rank ts ≤ 32
ranks_back [] h = omega arith
ranks_back (t ∷ ts) h =
    let a : type_rank t ≤ 32 = All-head HasRanks t ts h in
    let b = ranks_back ts (All-tail HasRanks t ts h) in
    omega arith

module _ (naming : Naming) where
  type_to : (t : SigType) → HasRank (type_facts naming t) → HasRanks t
  type_to t h = let a : type_rank t ≤ 32 = (let s = (type_sizes naming t).rank_is in omega arith) in a

  type_back : (t : SigType) → HasRanks t → HasRank (type_facts naming t)
  type_back t h = let a : type_rank t ≤ 32 = h in (let s = (type_sizes naming t).rank_is in omega arith)

  types_to : (ts : List SigType) → HasRank (types_facts naming ts).facts → All HasRanks ts
  types_to ts h = ranks_to ts (let s = (types_sizes naming ts).rank_is in omega arith)

  types_back : (ts : List SigType) → All HasRanks ts → HasRank (types_facts naming ts).facts
  types_back ts h = let a = ranks_back ts h in (let s = (types_sizes naming ts).rank_is in omega arith)

  locals_to : (ts : List SigType) → ((types_facts naming ts).count ≤ max_count) × HasRank (types_facts naming ts).facts → (length ts ≤ max_count) × All HasRanks ts
  unfolding types_facts
  locals_to ts h = (h.0, types_to ts h.1)

  locals_back : (ts : List SigType) → (length ts ≤ max_count) × All HasRanks ts → ((types_facts naming ts).count ≤ max_count) × HasRank (types_facts naming ts).facts
  unfolding types_facts
  locals_back ts h = (h.0, types_back ts h.1)

  method_to : (s : MethodSig) → IsBounded (method_facts naming s) → HasBounds s
  unfolding method_facts
  method_to s h =
      let r = (method_sizes naming s).rank_is in
      let rank = h.2 in
      let one : type_rank s.ret ≤ 32 = omega arith in
      record { generic = h.0; params = h.1; ret = one; ranks = ranks_to s.params (omega arith) }

  method_back : (s : MethodSig) → HasBounds s → IsBounded (method_facts naming s)
  unfolding method_facts
  method_back s h =
      let r = (method_sizes naming s).rank_is in
      let one : type_rank s.ret ≤ 32 = h.ret in
      let all = ranks_back s.params h.ranks in
      (h.generic, h.params, omega arith)

  sentinel_to : (s : Option ℕ) → is_there s ≡ false → s ≡ None
  sentinel_to None e = refl
  sentinel_to (Some n) e = absurd cc

  declared_to : (s : MethodSig) → IsBounded (method_facts naming s) × ((method_facts naming s).has_sentinel ≡ false) → HasBounds s × (s.sentinel ≡ None)
  unfolding method_facts
  declared_to s h = (method_to s h.0, sentinel_to s.sentinel h.1)

  declared_back : (s : MethodSig) → HasBounds s × (s.sentinel ≡ None) → IsBounded (method_facts naming s) × ((method_facts naming s).has_sentinel ≡ false)
  unfolding method_facts
  declared_back s h = (method_back s h.0, ap is_there h.1)

  module _ (names : NameMap) (facts : OwnersFacts) (are : AreFacts naming names.owners facts) (bounded : AreBounded names.owners) (image : List ℕ) where
    abbrev owners : ℕ → Option Owner
    owners = names.owners

    type_same : (b : List ℕ) → scan.whole_type facts b ≡ option_map (type_facts naming) (whole.whole_type owners b)
    type_same b = told.moved facts naming owners are (λ (f : OwnersFacts). scan.whole_type f b) ∙ told.type_whole naming owners bounded b

    field_same : (b : List ℕ) → scan.whole_field facts b ≡ option_map (type_facts naming) (whole.whole_field owners b)
    field_same b = told.moved facts naming owners are (λ (f : OwnersFacts). scan.whole_field f b) ∙ told.field_whole naming owners bounded b

    method_same : (b : List ℕ) → scan.whole_method facts b ≡ option_map (method_facts naming) (whole.whole_method owners b)
    method_same b = told.moved facts naming owners are (λ (f : OwnersFacts). scan.whole_method f b) ∙ told.method_whole naming owners bounded b

    property_same : (b : List ℕ) → scan.whole_property facts b ≡ option_map (method_facts naming) (whole.whole_property owners b)
    property_same b = told.moved facts naming owners are (λ (f : OwnersFacts). scan.whole_property f b) ∙ told.property_whole naming owners bounded b

    locals_same : (b : List ℕ) → scan.whole_locals facts b ≡ option_map (types_facts naming) (whole.whole_locals owners b)
    locals_same b = told.moved facts naming owners are (λ (f : OwnersFacts). scan.whole_locals f b) ∙ told.locals_whole naming owners bounded b

    instance_same : (b : List ℕ) → scan.whole_instantiation facts b ≡ option_map (types_facts naming) (whole.whole_instantiation owners b)
    instance_same b = told.moved facts naming owners are (λ (f : OwnersFacts). scan.whole_instantiation f b) ∙ told.instantiation_whole naming owners bounded b

    field_to : (index : ℕ) → FieldIs image facts index → (t : SigType) × ((b : List ℕ) × HasBlob (blobs_of image) index b × IsField owners b t) × HasRanks t
    field_to = kept_has (type_facts naming) (whole.whole_field owners) (scan.whole_field facts) field_same (IsField owners) (field_whole owners) (whole_field_again owners) HasRank HasRanks type_to type_back image

    field_back : (index : ℕ) (t : SigType) → (b : List ℕ) × HasBlob (blobs_of image) index b × IsField owners b t → HasRanks t → FieldIs image facts index
    field_back = has_kept (type_facts naming) (whole.whole_field owners) (scan.whole_field facts) field_same (IsField owners) (field_whole owners) (whole_field_again owners) HasRank HasRanks type_to type_back image

    module _ (P : MethodFacts → Type 0) (Q : MethodSig → Type 0) (to : (s : MethodSig) → P (method_facts naming s) → Q s) (back : (s : MethodSig) → Q s → P (method_facts naming s)) where
      called_to : (index : ℕ) → MethodIs image facts index P → (s : MethodSig) × ((b : List ℕ) × HasBlob (blobs_of image) index b × IsMethod owners b s) × Q s
      called_to = kept_has (method_facts naming) (whole.whole_method owners) (scan.whole_method facts) method_same (IsMethod owners) (method_whole owners) (whole_method_again owners) P Q to back image

      called_back : (index : ℕ) (s : MethodSig) → (b : List ℕ) × HasBlob (blobs_of image) index b × IsMethod owners b s → Q s → MethodIs image facts index P
      called_back = has_kept (method_facts naming) (whole.whole_method owners) (scan.whole_method facts) method_same (IsMethod owners) (method_whole owners) (whole_method_again owners) P Q to back image

    names_to : (value : ℕ) → NamesMethod image facts value → NamesSignature image names value
    names_to value n =
        (n.0, n.1, n.2, λ e. let s = called_to (λ m. Unit {0}) (λ s. Unit {0}) (λ s h. tt) (λ s h. tt) (member_signature image n.1) (n.3 e) in (s.0, s.1))

    names_back : (value : ℕ) → NamesSignature image names value → NamesMethod image facts value
    names_back value n =
        (n.0, n.1, n.2, λ e. let s = n.3 e in called_back (λ m. Unit {0}) (λ s. Unit {0}) (λ s h. tt) (λ s h. tt) (member_signature image n.1) s.0 s.1 tt)

    member_to : (row : ℕ) → MethodIs image facts (member_signature image row) IsBounded ⊎ FieldIs image facts (member_signature image row) → HasMember image names row
    member_to row (inl h) = inl (called_to IsBounded HasBounds method_to method_back (member_signature image row) h)
    member_to row (inr h) = inr (field_to (member_signature image row) h)

    member_back : (row : ℕ) → HasMember image names row → MethodIs image facts (member_signature image row) IsBounded ⊎ FieldIs image facts (member_signature image row)
    member_back row (inl h) = inl (called_back IsBounded HasBounds method_to method_back (member_signature image row) h.0 h.1 h.2)
    member_back row (inr h) = inr (field_back (member_signature image row) h.0 h.1 h.2)

    abbrev Declared : MethodSig → Type 0
    Declared s = HasBounds s × (s.sentinel ≡ None)

    abbrev DeclaredFacts : MethodFacts → Type 0
    DeclaredFacts m = IsBounded m × (m.has_sentinel ≡ false)

    pub signatures_to : (table row : ℕ) → HasBounded image facts table row → HasSignatures image names table row
    signatures_to table row h = record {
      field = λ t r. field_to (field_signature image row) (h.field t r);
      method = λ t r. let s = called_to DeclaredFacts Declared declared_to declared_back (method_signature image row) (h.method t r) in (s.0, s.1, s.2.0, s.2.1);
      property = λ t r. kept_has (method_facts naming) (whole.whole_property owners) (scan.whole_property facts) property_same (IsProperty owners) (property_whole owners) (whole_property_again owners) IsBounded HasBounds method_to method_back image (property_signature image row) (h.property t r);
      member = λ t u. member_to row (h.member t u);
      locals = λ t u.
          let s = kept_has (types_facts naming) (whole.whole_locals owners) (scan.whole_locals facts) locals_same (AreLocals owners) (locals_whole owners) (whole_locals_again owners) (λ l. (l.count ≤ max_count) × HasRank l.facts)
          (λ ts. (length ts ≤ max_count) × All HasRanks ts) locals_to locals_back image (locals_signature image row) (h.locals t u) in
          (s.0, s.1, s.2.0, s.2.1);
      override = λ t r. let o = h.override t r in (names_to (override_body image row) o.0, names_to (override_declaration image row) o.1);
      type = λ t u. kept_has (type_facts naming) (whole.whole_type owners) (scan.whole_type facts) type_same (IsType owners) (type_whole owners) (whole_type_again owners) HasRank HasRanks type_to type_back image (type_spec_signature image row) (h.type t u);
      instance = λ t u.
          kept_has (types_facts naming) (whole.whole_instantiation owners) (scan.whole_instantiation facts) instance_same (IsInstantiation owners) (instantiation_whole owners) (whole_instantiation_again owners)
          (λ l. HasRank l.facts) (λ ts. All HasRanks ts) types_to types_back image (instance_arguments image row) (h.instance t u);
      instance_of = λ t r. names_to (instance_method image row) (h.instance_of t r);
    }

    pub signatures_back : (table row : ℕ) → HasSignatures image names table row → HasBounded image facts table row
    signatures_back table row h = record {
      field = λ t r. let s = h.field t r in field_back (field_signature image row) s.0 s.1 s.2;
      method = λ t r. let s = h.method t r in called_back DeclaredFacts Declared declared_to declared_back (method_signature image row) s.0 s.1 (s.2, s.3);
      property = λ t r.
          let s = h.property t r in
          has_kept (method_facts naming) (whole.whole_property owners) (scan.whole_property facts) property_same (IsProperty owners) (property_whole owners) (whole_property_again owners) IsBounded HasBounds method_to method_back image (property_signature image row) s.0 s.1 s.2;
      member = λ t u. member_back row (h.member t u);
      locals = λ t u.
          let s = h.locals t u in
          has_kept (types_facts naming) (whole.whole_locals owners) (scan.whole_locals facts) locals_same (AreLocals owners) (locals_whole owners) (whole_locals_again owners) (λ l. (l.count ≤ max_count) × HasRank l.facts)
          (λ ts. (length ts ≤ max_count) × All HasRanks ts) locals_to locals_back image (locals_signature image row) s.0 s.1 (s.2, s.3);
      override = λ t r. let o = h.override t r in (names_back (override_body image row) o.0, names_back (override_declaration image row) o.1);
      type = λ t u.
          let s = h.type t u in
          has_kept (type_facts naming) (whole.whole_type owners) (scan.whole_type facts) type_same (IsType owners) (type_whole owners) (whole_type_again owners) HasRank HasRanks type_to type_back image (type_spec_signature image row) s.0 s.1 s.2;
      instance = λ t u.
          let s = h.instance t u in
          has_kept (types_facts naming) (whole.whole_instantiation owners) (scan.whole_instantiation facts) instance_same (IsInstantiation owners) (instantiation_whole owners) (whole_instantiation_again owners)
          (λ l. HasRank l.facts) (λ ts. All HasRanks ts) types_to types_back image (instance_arguments image row) s.0 s.1 s.2;
      instance_of = λ t r. names_back (instance_method image row) (h.instance_of t r);
    }

pub bounds_are : (image : List ℕ) (naming : Naming) (names : NameMap) (facts : OwnersFacts) → AreFacts naming names.owners facts → AreBounded names.owners → (table row : ℕ)
    → HasBounded image facts table row ↔ HasSignatures image names table row
bounds_are image naming names facts are bounded table row =
    (signatures_to naming names facts are bounded image table row, signatures_back naming names facts are bounded image table row)
