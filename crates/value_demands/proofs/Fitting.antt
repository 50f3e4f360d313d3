-- What is asked of the signatures of methods and of the arguments of generic ones, as scans tell.
use Rattle.std.proofs.Common.{◌≡◌, ℕ, ◌+◌, ◌-◌, ◌*◌, ◌<◌, ◌≤◌, inl, inr, Bool, true, false, List, Option, Some, None, length, refl, sym, ap, subst, ◌∙◌, arith}
use Rattle.std.specs.Prelude.{◌↔◌, IsTrue, All, nat_eq}
use Rattle.std.specs.List.{range_with_len}
use Rattle.std.specs.Option.{option_map}
use Rattle.std.proofs.lemmas.Option.{same_Some}
use Rattle.std.proofs.lemmas.Bool.{eqb-true, eq-eqb, ne_eqb, cases_eq, cond-true, cond-false}
use Rattle.std.proofs.lemmas.List.FromFn.{length-range_with_len, get_or-range_with_len}
use Rattle.body_codec.specs.Names.{NameMap}
use Rattle.heaps.specs.Content.{HasBlob}
use Rattle.heaps.specs.LookUp.{blob_in}
use Rattle.heaps.proofs.Computed.{blob_is_computed}
use Rattle.metadata_tables.specs.Schema.{columns_of, schema}
use Rattle.metadata_tables.specs.declared.coded.Coded.TheVariants.{MethodDefOrRef}
use Rattle.type_terms.specs.declared.reference.MethodRef.{MethodRef}
use Rattle.type_terms.specs.declared.reference.MethodSig.{MethodSig}
use Rattle.type_terms.specs.declared.term.SigType.{SigType}
use Rattle.image_model.specs.Cells.{NamesRow}
use Rattle.image_model.specs.Columns.{instance_method, instance_arguments, method_signature, member_signature, param_sequence}
use Rattle.image_model.specs.Members.{HasValues, HasGenerics, FitsInstance, FitsSignature, generics_of}
use Rattle.image_model.specs.Namings.{AreNamings}
use Rattle.image_model.specs.Rows.{count_of, HasRow, Names, token_of, params_of, first_param, run_end}
use Rattle.image_model.specs.Streams.{blobs_of}
use Rattle.image_model.specs.Terms.{MethodHas, MemberHasMethod, InstanceHas}
use Rattle.image_model.specs.Used.{IsUsed}
use Rattle.image_namings.proofs.General.{names_one}
use Rattle.image_namings.proofs.Indexes.{method_tables, named_row, row_there, cell_names}
use Rattle.row_demands.specs.Structured.{MeetStructure}
use Rattle.row_demands.proofs.Indexed.{params_within, params_begin}
use Rattle.sig_codec.specs.Reading as whole
use Rattle.sig_codec.specs.Reading.{◌>>=◌}
use Rattle.sig_codec.specs.Signature.{IsInstantiation, IsMethod}
use Rattle.sig_codec.proofs.Whole.{whole_instantiation_again}
use Rattle.signature_facts.specs.declared.facts.ListFacts.{ListFacts}
use Rattle.signature_facts.specs.declared.facts.MethodFacts.{MethodFacts}
use Rattle.signature_facts.specs.Facts.{Naming, method_facts, types_facts}
use Rattle.signature_facts.specs.Owners.{AreFacts}
use Rattle.signature_facts.specs.Scanning.{OwnersFacts, whole_method, whole_instantiation}
use Rattle.signature_facts.proofs.WholeTold as told
use Rattle.spec_facts.proofs.Owned.{bounded}
use Rattle.attribute_demands.specs.Judging.{CanJudge, ByNames}
use Rattle.attribute_demands.proofs.Named.{method_named, method_back, member_named, member_back, scan_found}
use Rattle.value_demands.specs.declared.counts.Counts.{Counts}
use Rattle.value_demands.specs.Valued.{counts_of, count_of_list, signature_of, HasValuesByNames, FitsByNames, SignatureFitsByNames}

-- ---- instances

pub method_there : (image : List ℕ) (row : ℕ) → MeetStructure image → HasRow image 0x2B row → NamesRow image MethodDefOrRef (instance_method image row)
unfolding schema
method_there image row meets there = named_row image MethodDefOrRef (instance_method image row) (meets.indexes 0x2B row there 0 (omega arith))

used_member : (image : List ℕ) (row member : ℕ) → IsUsed image 0x2B row → Names MethodDefOrRef (instance_method image row) 0x0A member → HasRow image 0x0A member → IsUsed image 0x0A member
unfolding schema
used_member image row member used n is =
    IsUsed.by_reference used (cell_names image 0x2B row 0 MethodDefOrRef false 0x0A member (omega arith) refl n) (inr (inl refl)) is

facts_generic : (naming : Naming) (s : MethodSig) → (counts_of (Some (method_facts naming s))).generic ≡ s.generic
unfolding method_facts
facts_generic naming s = refl

facts_params : (naming : Naming) (s : MethodSig) → (counts_of (Some (method_facts naming s))).params ≡ length s.params
unfolding method_facts
facts_params naming s = refl

facts_count : (naming : Naming) (ts : List SigType) → count_of_list (Some (types_facts naming ts)) ≡ length ts
unfolding types_facts
facts_count naming ts = refl

module _ (image : List ℕ) (facts : OwnersFacts) (can : CanJudge image facts) (names : NameMap) (named : AreNamings image names) where
  naming : (n : Naming) × AreFacts n names.owners facts
  naming = can.facts_are names named

  instance_scan : (index : ℕ) (ts : List SigType) (bytes : List ℕ) → HasBlob (blobs_of image) index bytes → IsInstantiation names.owners bytes ts
      → blob_in (blobs_of image) index >>= whole_instantiation facts ≡ Some (types_facts naming.0 ts)
  instance_scan index ts bytes b is =
      let scan : whole_instantiation facts bytes ≡ option_map (types_facts naming.0) (whole.whole_instantiation names.owners bytes) =
      told.moved facts naming.0 names.owners naming.1 (λ (f : OwnersFacts). whole_instantiation f bytes) ∙ told.instantiation_whole naming.0 names.owners (bounded image naming.0 names.owners named.owners) bytes in
      ap (λ (o : Option (List ℕ)). o >>= whole_instantiation facts) ((blob_is_computed (blobs_of image) index bytes).0 b) ∙ scan ∙ ap (option_map (types_facts naming.0)) (whole_instantiation_again names.owners bytes ts is)

  -- the bytes at an index spell a method
  abbrev MethodAt : ℕ → MethodSig → Type 0
  MethodAt index sig = (bytes : List ℕ) × HasBlob (blobs_of image) index bytes × IsMethod names.owners bytes sig

  pub generic_counted : (index : ℕ) (sig : MethodSig) → MethodAt index sig → (counts_of (blob_in (blobs_of image) index >>= whole_method facts)).generic ≡ sig.generic
  generic_counted index sig at =
      ap (λ (o : Option MethodFacts). (counts_of o).generic) (scan_found image names named naming.0 facts naming.1 index sig at.0 at.1 at.2) ∙ facts_generic naming.0 sig

  pub params_counted : (index : ℕ) (sig : MethodSig) → MethodAt index sig → (counts_of (blob_in (blobs_of image) index >>= whole_method facts)).params ≡ length sig.params
  params_counted index sig at =
      ap (λ (o : Option MethodFacts). (counts_of o).params) (scan_found image names named naming.0 facts naming.1 index sig at.0 at.1 at.2) ∙ facts_params naming.0 sig

  pub arguments_counted : (row : ℕ) (args : List SigType) → InstanceHas image names row args → count_of_list (blob_in (blobs_of image) (instance_arguments image row) >>= whole_instantiation facts) ≡ length args
  arguments_counted row args has =
      ap (λ (o : Option ListFacts). count_of_list o) (instance_scan (instance_arguments image row) args has.0 has.1 has.2) ∙ facts_count naming.0 args

  module _ (row table method : ℕ) (there : HasRow image 0x2B row) (n : Names MethodDefOrRef (instance_method image row) table method) where
    target : HasRow image table method
    target = row_there image MethodDefOrRef (instance_method image row) table method (method_there image row can.meets there) n

    -- the method that the row names, and its generic number
    pub record IsCalled : Type 0 where
      pub m : MethodRef
      pub is : names.methods (token_of table method) ≡ Some m
      pub counted : (counts_of (blob_in (blobs_of image) (signature_of image table method) >>= whole_method facts)).generic ≡ m.sig.generic

    pub called : IsUsed image 0x2B row → IsCalled
    called used = elim (method_tables (instance_method image row) table method n) [
      | inl e ↦
          let t = subst (λ (x : ℕ). HasRow image x method) e target in
          let m = method_named image can.small can.tables can.meets can.scopes names named (can.signatures names named) method t in
          let has = method_back image can.small can.tables can.meets can.scopes names named (can.signatures names named) method m.0 t m.1 in
          record {
            m = m.0;
            is = subst (λ (x : ℕ). names.methods (token_of x method) ≡ Some m.0) (sym e) m.1;
            counted = subst (λ (x : ℕ). (counts_of (blob_in (blobs_of image) (signature_of image x method) >>= whole_method facts)).generic ≡ m.0.sig.generic) (sym e) (generic_counted (method_signature image method) m.0.sig has);
          }
      | inr e ↦
          let t = subst (λ (x : ℕ). HasRow image x method) e target in
          let k = subst (λ (x : ℕ). Names MethodDefOrRef (instance_method image row) x method) e n in
          let i = (can.signatures names named 0x2B row).instance_of refl there in
          let one = names_one MethodDefOrRef (instance_method image row) i.0 i.1 0x0A method i.2 k in
          let s = i.3 one.0 in
          let has = subst (λ (x : ℕ). MemberHasMethod image names x s.0) one.1 s.1 in
          let m = member_named image can.small can.tables can.meets can.scopes names named (can.signatures names named) method s.0 (used_member image row method used k t) t has in
          record {
            m = m.0;
            is = subst (λ (x : ℕ). names.methods (token_of x method) ≡ Some m.0) (sym e) m.1;
            counted = subst (λ (x : ℕ). (counts_of (blob_in (blobs_of image) (signature_of image x method) >>= whole_method facts)).generic ≡ m.0.sig.generic) (sym e) (generic_counted (member_signature image method) s.0 has ∙ ap (λ (g : MethodSig). g.generic) (sym m.2));
          }
    ]

    pub instance_fits : IsUsed image 0x2B row → (count_of_list (blob_in (blobs_of image) (instance_arguments image row) >>= whole_instantiation facts)
        ≡ (counts_of (blob_in (blobs_of image) (signature_of image table method) >>= whole_method facts)).generic) ↔ FitsInstance image names row
    instance_fits used =
        let c = called used in
        let a = (can.signatures names named 0x2B row).instance refl used in
        let args : InstanceHas image names row a.0 = a.1 in
        let many = arguments_counted row a.0 args in (
          λ e. (table, method, c.m, a.0, n, c.is, args, sym many ∙ e ∙ c.counted),
          λ f.
              let one = names_one MethodDefOrRef (instance_method image row) f.0 f.1 table method f.4 n in
              let is = subst (λ (r : ℕ). names.methods (token_of table r) ≡ Some f.2) one.1 (subst (λ (t : ℕ). names.methods (token_of t f.1) ≡ Some f.2) one.0 f.5) in
              let same : f.2 ≡ c.m = same_Some f.2 c.m (sym is ∙ c.is) in
              arguments_counted row f.3 f.6 ∙ f.7 ∙ ap (λ (m : MethodRef). m.sig.generic) same ∙ sym c.counted,
        )

-- ---- methods

pub run_told : (P : ℕ → Type 0) (first end : ℕ) → All P (range_with_len first (end - first)) ↔ ((k : ℕ) → first ≤ k → k < end → P k)
run_told P first end =
    let l = length-range_with_len first (end - first) in (
      λ all k from less.
          let at : k - first < end - first = omega arith in
          let is : first + (k - first) ≡ k = omega arith in
          subst P (get_or-range_with_len first (end - first) (k - first) 0 at ∙ is) (all (k - first) 0 (omega arith)),
      λ each k d less.
          let at : k < end - first = omega arith in
          subst P (sym (get_or-range_with_len first (end - first) k d at)) (each (first + k) (omega arith) (omega arith)),
    )

params_are : (image : List ℕ) (method : ℕ) → params_of image method ≡ range_with_len (first_param image method) (run_end image 0x06 (first_param image) 0x08 method - first_param image method)
unfolding params_of
params_are image method = refl

-- a row of the run of a method is there
pub param_there : (image : List ℕ) (method k : ℕ) → MeetStructure image → HasRow image 0x06 method → first_param image method ≤ k → k < run_end image 0x06 (first_param image) 0x08 method → HasRow image 0x08 k
param_there image method k meets there from less =
    let begins = params_begin image meets.indexes method there in
    elim (cases_eq method (count_of image 0x06)) [
      | inl e ↦
          let end = cond-true (nat_eq method (count_of image 0x06)) (count_of image 0x08 + 1) (first_param image (method + 1)) (eq-eqb method (count_of image 0x06) e) in
          (omega arith, omega arith)
      | inr n ↦
          let end = cond-false (nat_eq method (count_of image 0x06)) (count_of image 0x08 + 1) (first_param image (method + 1)) (ne_eqb method (count_of image 0x06) n) in
          let last = there.1 in
          let next = params_within image meets.indexes (method + 1) (omega arith, omega arith) in
          (omega arith, omega arith)
    ]

abbrev pub ParamsFit : List ℕ → ℕ → ℕ → Type 0
ParamsFit image method most = (k : ℕ) → first_param image method ≤ k → k < run_end image 0x06 (first_param image) 0x08 method → param_sequence image k ≤ most

pub params_told : (image : List ℕ) (method most : ℕ) → ParamsFit image method most ↔ All (λ k. param_sequence image k ≤ most) (params_of image method)
params_told image method most =
    let r = run_told (λ k. param_sequence image k ≤ most) (first_param image method) (run_end image 0x06 (first_param image) 0x08 method) in (
      λ h. subst (All (λ k. param_sequence image k ≤ most)) (sym (params_are image method)) (r.1 h),
      λ h. r.0 (subst (All (λ k. param_sequence image k ≤ most)) (params_are image method) h),
    )

module _ (image : List ℕ) (facts : OwnersFacts) (can : CanJudge image facts) (row : ℕ) (there : HasRow image 0x06 row) where
  abbrev counted_generic : ℕ
  counted_generic = (counts_of (blob_in (blobs_of image) (method_signature image row) >>= whole_method facts)).generic

  abbrev counted_params : ℕ
  counted_params = (counts_of (blob_in (blobs_of image) (method_signature image row) >>= whole_method facts)).params

  -- the signature fits where its counts do
  pub signature_fits : ((length (generics_of image 0x06 row) ≡ counted_generic) × ParamsFit image row counted_params) ↔ SignatureFitsByNames image row
  signature_fits = (
    λ h names named.
        let s = (can.signatures names named 0x06 row).method refl there in
        let g = generic_counted image facts can names named (method_signature image row) s.0 s.1 in
        let p = params_counted image facts can names named (method_signature image row) s.0 s.1 in (
          s.0,
          s.1,
          record {
            generic = sym g ∙ sym h.0;
            params = (params_told image row (length s.0.params)).0 (subst (ParamsFit image row) p h.1);
          },
        ),
    λ f.
        let n = can.named in
        let s = f n.0 n.1 in
        let g = generic_counted image facts can n.0 n.1 (method_signature image row) s.0 s.1 in
        let p = params_counted image facts can n.0 n.1 (method_signature image row) s.0 s.1 in
        (sym s.2.generic ∙ sym g, subst (ParamsFit image row) (sym p) ((params_told image row (length s.0.params)).1 s.2.params)),
  )

  pub method_values : (r : Bool) → HasGenerics image 0x06 row → IsTrue r ↔ SignatureFitsByNames image row → IsTrue r ↔ HasValuesByNames image 0x06 row
  method_values r generics h = (
    λ t names named. record {
      type_generics = λ e k. absurd (omega arith);
      layout = λ e k. absurd (omega arith);
      field = λ e k. absurd (omega arith);
      method_generics = λ e k. generics;
      method = λ e k. h.0 t names named;
      param = λ e k. absurd (omega arith);
      event_of = λ e k. absurd (omega arith);
      event_kinds_are = λ e k. absurd (omega arith);
      property = λ e k. absurd (omega arith);
      property_kinds_are = λ e k. absurd (omega arith);
      override = λ e k. absurd (omega arith);
      instance = λ e k. absurd (omega arith);
    },
    λ v. h.1 (λ names named. (v names named).method refl there),
  )

  pub no_generics : (HasGenerics image 0x06 row → ⊥) → IsTrue false ↔ HasValuesByNames image 0x06 row
  no_generics none = (λ t. absurd cc, λ v. absurd (none ((v can.named.0 can.named.1).method_generics refl there)))

  -- by the counts that were found
  module _ (found : Counts) (e : found ≡ counts_of (blob_in (blobs_of image) (method_signature image row) >>= whole_method facts)) where
    pub not_generic : (length (generics_of image 0x06 row) ≡ found.generic → ⊥) → IsTrue false ↔ SignatureFitsByNames image row
    not_generic other = (λ t. absurd cc, λ f. absurd (other ((signature_fits.1 f).0 ∙ sym (ap (λ (n : Counts). n.generic) e))))

    pub with_params : (r : Bool) → length (generics_of image 0x06 row) ≡ found.generic → IsTrue r ↔ ParamsFit image row found.params → IsTrue r ↔ SignatureFitsByNames image row
    with_params r same h =
        let g = ap (λ (n : Counts). n.generic) e in
        let p = ap (λ (n : Counts). n.params) e in (
          λ t. signature_fits.0 (same ∙ g, subst (ParamsFit image row) p (h.0 t)),
          λ f. h.1 (subst (ParamsFit image row) (sym p) (signature_fits.1 f).1),
        )

pub counted_equal : (a g x y : ℕ) → a ≡ x → g ≡ y → IsTrue (nat_eq a g) ↔ (x ≡ y)
counted_equal a g x y p q = (λ t. sym p ∙ eqb-true a g t ∙ q, λ e. eq-eqb a g (p ∙ e ∙ sym q))

-- ---- instances

module _ (image : List ℕ) (row : ℕ) (there : HasRow image 0x2B row) where
  instance_parts : (names : NameMap) → (IsUsed image 0x2B row → FitsInstance image names row) → HasValues image names 0x2B row
  instance_parts names h = record {
    type_generics = λ e k. absurd (omega arith);
    layout = λ e k. absurd (omega arith);
    field = λ e k. absurd (omega arith);
    method_generics = λ e k. absurd (omega arith);
    method = λ e k. absurd (omega arith);
    param = λ e k. absurd (omega arith);
    event_of = λ e k. absurd (omega arith);
    event_kinds_are = λ e k. absurd (omega arith);
    property = λ e k. absurd (omega arith);
    property_kinds_are = λ e k. absurd (omega arith);
    override = λ e k. absurd (omega arith);
    instance = λ e k. h k;
  }

  pub unused_values : (IsUsed image 0x2B row → ⊥) → IsTrue true ↔ HasValuesByNames image 0x2B row
  unused_values none = (λ t names named. instance_parts names (λ u. absurd (none u)), λ v. refl)

  pub used_values : (r : Bool) → IsUsed image 0x2B row → IsTrue r ↔ FitsByNames image row → IsTrue r ↔ HasValuesByNames image 0x2B row
  used_values r used h = (λ t names named. instance_parts names (λ u. h.0 t names named), λ v. h.1 (λ names named. (v names named).instance refl used))

pub fits_told : (image : List ℕ) (facts : OwnersFacts) (can : CanJudge image facts) (row table method : ℕ) (r : Bool) → HasRow image 0x2B row → Names MethodDefOrRef (instance_method image row) table method → IsUsed image 0x2B row
    → IsTrue r ↔ (count_of_list (blob_in (blobs_of image) (instance_arguments image row) >>= whole_instantiation facts) ≡ (counts_of (blob_in (blobs_of image) (signature_of image table method) >>= whole_method facts)).generic)
    → IsTrue r ↔ FitsByNames image row
fits_told image facts can row table method r there n used h = (
  λ t names named. (instance_fits image facts can names named row table method there n used).0 (h.0 t),
  λ f. h.1 ((instance_fits image facts can can.named.0 can.named.1 row table method there n used).1 (f can.named.0 can.named.1)),
)
