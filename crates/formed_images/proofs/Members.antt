-- Fields, methods, properties and events are well formed, and no two of a type are the same (II.22.13, II.22.15, II.22.26,
-- II.22.34).
use Rattle.std.proofs.Common.{◌≡◌, ℕ, zero, suc, ◌+◌, ◌-◌, ◌*◌, ◌%◌, ◌^◌, ◌<◌, ◌≤◌, ◌==◌, ◌⊎◌, inl, inr, ◌↔◌, Bool, true, false, not, ◌||◌, nat_le, List, [], ◌∷◌, Contains, length, bit_and, Option, Some, None, is_none, refl, sym, ◌∙◌, ap, subst, arith, true≢false}
use Rattle.std.proofs.lemmas.Bool.{and_from}
use Rattle.std.proofs.lemmas.List.{length-take}
use Rattle.std.proofs.lemmas.Nat.{and_mask}
use Rattle.std.proofs.lemmas.Nat.Bits.{and_pow}
use Rattle.std.specs.Int.{bit_at}
use Rattle.std.specs.List.{AllZip, list_all, list_any, range_with_len}
use Rattle.sig_codec.specs.Signature as signature
use Rattle.metadata_tables.specs.Schema.{schema}
use Rattle.pe_layout.specs.FileMap.{readable}
use Rattle.type_terms.specs.declared.reference.MethodRef.{MethodRef}
use Rattle.type_terms.specs.declared.reference.MethodSig.{MethodSig}
use Rattle.type_terms.specs.declared.term.SigType.{SigType}
use Rattle.assembly_tree.specs.DataSize.{size_in_data}
use Rattle.assembly_tree.specs.WellFormedBodies.{is_body}
use Rattle.assembly_tree.specs.WellFormedNames.{option_all, rises, all_differ}
use Rattle.assembly_tree.specs.WellFormedTerms.{is_plain_ref}
use Rattle.assembly_tree.specs.WellFormedMembers.{is_clear, is_content, is_param, is_param_before, are_params, are_impl_flags, is_field, is_method, is_property, is_event, is_property_accessor, is_event_accessor}
use Rattle.assembly_tree.specs.declared.assembly.Assembly.{Assembly}
use Rattle.assembly_tree.specs.declared.body.Body.{Body}
use Rattle.assembly_tree.specs.declared.members.Event.{Event}
use Rattle.assembly_tree.specs.declared.members.Field.{Field}
use Rattle.assembly_tree.specs.declared.members.Method.{Method}
use Rattle.assembly_tree.specs.declared.members.Param.{Param}
use Rattle.assembly_tree.specs.declared.members.Property.{Property}
use Rattle.assembly_tree.proofs.FormedFacts.{fields_named, methods_named, properties_named, events_named}
use Rattle.metadata_tables.specs.declared.coded.Coded.TheVariants.{MethodDefOrRef}
use Rattle.image_model.specs.Streams.{strings_of}
use Rattle.image_model.specs.Columns.{field_name, field_flags, method_rva, method_name, method_impl_flags, param_sequence, data_rva, event_name, property_name, property_flags, semantics_kind, override_body, override_declaration}
use Rattle.image_model.specs.Rows.{count_of, HasRow, token_of, first_param, params_of}
use Rattle.image_model.specs.Members.{generics_of, semantics_of, data_of, HasDataSize, HasData, property_kinds, event_kinds, FitsSignature}
use Rattle.image_model.specs.Terms.{FieldHas, MethodHas}
use Rattle.image_model.specs.Faults.{indexes, entries, runs, values, header, Reads}
use Rattle.image_model.specs.Reading.{IsGiven, MethodIs, IsContent, IsGeneric, IsField, IsParam, overrides_of, BodyIs, IsMethod, IsAccessor, IsProperty, IsEvent}
use Rattle.image_namings.proofs.Among.{Among, among_range}
use Rattle.image_namings.proofs.Standing.{Stands, stands}
use Rattle.row_demands.proofs.Tiles.{ends, contains_range}
use Rattle.image_namings.proofs.General.{some_one}
use Rattle.formed_references.specs.Laws.{AreFormed}
use Rattle.formed_references.proofs.Words.{lt_true, le_true, eq_true, all_zipped, zipped_long, all_among, to_among, of_rows_with, text_is_name}
use Rattle.formed_references.proofs.References.{Laws}
use Rattle.formed_images.specs.Laws.{AreBytes}
use Rattle.formed_images.proofs.Parts.{used_token, owner_is, small_row, not_instance, attributes_formed, generics_formed, constants_formed, is_cleared, param_formed}
use Rattle.image_namings.proofs.Indexes.{named_row, row_there}
use Rattle.image_namings.proofs.Indexes.{method_tables}
use Rattle.formed_references.proofs.Words.{is_filled}
use Rattle.formed_references.proofs.Words.{none_there}

-- ---- kinds of accessors

pub property_kind : (k : ℕ) → Among k property_kinds → ((k == 1) || (k == 2) || (k == 4)) ≡ true
property_kind k (inl e) = subst (λ (x : ℕ). ((x == 1) || (x == 2) || (x == 4)) ≡ true) e refl
property_kind k (inr (inl e)) = subst (λ (x : ℕ). ((x == 1) || (x == 2) || (x == 4)) ≡ true) e refl
property_kind k (inr (inr (inl e))) = subst (λ (x : ℕ). ((x == 1) || (x == 2) || (x == 4)) ≡ true) e refl
property_kind k (inr (inr (inr e))) = absurd e

pub event_kind : (k : ℕ) → Among k event_kinds → ((k == 4) || (k == 8) || (k == 0x10) || (k == 0x20)) ≡ true
event_kind k (inl e) = subst (λ (x : ℕ). ((x == 4) || (x == 8) || (x == 0x10) || (x == 0x20)) ≡ true) e refl
event_kind k (inr (inl e)) = subst (λ (x : ℕ). ((x == 4) || (x == 8) || (x == 0x10) || (x == 0x20)) ≡ true) e refl
event_kind k (inr (inr (inl e))) = subst (λ (x : ℕ). ((x == 4) || (x == 8) || (x == 0x10) || (x == 0x20)) ≡ true) e refl
event_kind k (inr (inr (inr (inl e)))) = subst (λ (x : ℕ). ((x == 4) || (x == 8) || (x == 0x10) || (x == 0x20)) ≡ true) e refl
event_kind k (inr (inr (inr (inr e)))) = absurd e

-- ---- code types

impl_test : (f : ℕ) → (f % 4 ≡ 0) ⊎ (f % 4 ≡ 3) → bit_at f 2 ≡ 0 → are_impl_flags f ≡ true
impl_test f code managed =
    let low : bit_and f 3 ≡ f % 4 = and_mask f 2 in
    let third : bit_and f 4 ≡ 0 = and_pow f 2 ∙ ap (λ (n : ℕ). n * 4) managed in
    and_from (is_clear 3 f || (bit_and f 3 == 3)) (is_clear 4 f) (kinds code low) (eq_true (bit_and f 4) 0 third)
  where
    first : (b c : Bool) → b ≡ true → (b || c) ≡ true
    first true c e = refl
    first false c e = absurd (true≢false (sym e))

    second : (b c : Bool) → c ≡ true → (b || c) ≡ true
    second true c e = refl
    second false c e = e

    kinds : (f % 4 ≡ 0) ⊎ (f % 4 ≡ 3) → bit_and f 3 ≡ f % 4 → (is_clear 3 f || (bit_and f 3 == 3)) ≡ true
    kinds (inl e) low = first (is_clear 3 f) (bit_and f 3 == 3) (eq_true (bit_and f 3) 0 (low ∙ e))
    kinds (inr e) low = second (is_clear 3 f) (bit_and f 3 == 3) (eq_true (bit_and f 3) 3 (low ∙ e))

-- ---- members that differ

pub none_same : {X : Type 0} (Is : ℕ → X → Type 0) (same : X → X → Bool) (r : ℕ) (x : X) (rows : List ℕ) (xs : List X) → ((s : ℕ) (y : X) → Among s rows → Is s y → same x y ≡ true → ⊥) → AllZip Is rows xs → not (list_any (same x) xs) ≡ true
none_same Is same r x [] [] f z = refl
none_same Is same r x [] (y ∷ ys) f z = absurd z
none_same Is same r x (s ∷ rows) [] f z = absurd z
none_same Is same r x (s ∷ rows) (y ∷ ys) f z = go (same x y) refl (none_same Is same r x rows ys (λ t w m. f t w (inr m)) z.1)
  where
    go : (b : Bool) → same x y ≡ b → not (list_any (same x) ys) ≡ true → not (b || list_any (same x) ys) ≡ true
    go true e n = absurd (f s y (inl refl) z.0 e)
    go false e n = n

-- the rows of a range that begins here and later are later
pub differ : {X : Type 0} (Is : ℕ → X → Type 0) (same : X → X → Bool) (first count : ℕ) (xs : List X)
    → ((r s : ℕ) (x y : X) → first ≤ r → r < s → s < first + count → Is r x → Is s y → same x y ≡ true → ⊥) → AllZip Is (range_with_len first count) xs → all_differ same xs ≡ true
differ Is same first zero [] f z = refl
differ Is same first zero (x ∷ xs) f z = absurd z
differ Is same first (suc count) [] f z = absurd z
differ Is same first (suc count) (x ∷ xs) f z =
    and_from (not (list_any (same x) xs)) (all_differ same xs)
    (none_same Is same first x (range_with_len (first + 1) count) xs (λ s y m is e. let r = among_range s (first + 1) count m in f first s x y (omega arith) (omega (arith, r.0)) (omega (arith, r.1)) z.0 is e) z.1)
    (differ Is same (first + 1) count xs (λ r s w y low less high is k e. f r s w y (omega arith) less (omega arith) is k e) z.1)

-- ---- a type's own members

module _ (image : List ℕ) (a : Assembly) (h : Reads image a) (bytes : AreBytes image) (short : length image ≤ 2 ^ 26) (laws : Laws image) (forms : AreFormed image a h.names)
    (sizes : (t : SigType) (size : ℕ) → HasDataSize image t size ↔ (size_in_data a t ≡ Some size))
    (bodies : (row : ℕ) (body : Option Body) → HasRow image 0x06 row → BodyIs image h.names (method_rva image row) body → option_all (is_body a) body ≡ true) where
  stood : Stands image
  stood = stands image h.names (λ earlier low. h.rows earlier)

  -- ---- fields

  field_same : (row : ℕ) (s t : SigType) → FieldHas image h.names row s → FieldHas image h.names row t → s ≡ t
  field_same row s t k l = laws.field h.names.owners l.0 s t (subst (λ x. signature.IsField h.names.owners x s) (laws.blob _ k.0 l.0 k.1 l.1) k.2) l.2

  content_formed : (row : ℕ) (of : SigType) (rows : List ℕ) (content : Option (List ℕ)) → FieldHas image h.names row of → ((r : ℕ) → Among r rows → HasData image h.names row r) → IsGiven (IsContent image of) rows content
      → is_content (size_in_data a of) content ≡ true
  content_formed row of [] None has stored k = refl
  content_formed row of [] (Some b) has stored k = absurd k
  content_formed row of (r ∷ rows) None has stored k = absurd k
  content_formed row of (r ∷ rows) (Some b) has stored k =
      let d = stored r (inl refl) in
      let same = field_same row d.0 of d.2 has in
      let first = (sizes of k.size).0 k.has_size in
      let second = (sizes of d.1).0 (subst (λ t. HasDataSize image t d.1) same d.3) in
      let size : d.1 ≡ k.size = some_one (size_in_data a of) d.1 k.size second first in
      let long = length-take k.size (readable image (data_rva image r)) in
      let there = d.4 in
      let count : length b ≡ k.size = ap length k.bytes_are ∙ (omega arith) in
      subst (λ o. is_content o (Some b) ≡ true) (sym first) (eq_true (length b) k.size count)

  pub field_formed : (row : ℕ) (f : Field) → HasRow image 0x04 row → IsField image h.names row f → is_field a f ≡ true
  unfolding schema
  field_formed row f there is =
      let t = (h.rows entries) 0x04 row there 1 (omega arith) in
      let same = laws.text (field_name image row) t.0 f.name t.1 is.name in
      let v = (h.rows values 0x04 row).field refl there in
      (fields_named a f).1 (record {
        name = text_is_name (strings_of image) (field_name image row) f.name is.name (λ e. is_filled t.2 (same ∙ e));
        flags = is_cleared image a h bytes short laws.text forms f.flags (field_flags image row) 0x8100 is.flags;
        of = forms.field_type row f.of there is.of;
        constant = constants_formed image a h bytes short laws.text forms 0x04 row f.constant is.constant;
        content = content_formed row f.of (data_of image row) f.content is.of (λ r m. all_among (HasData image h.names row) r (data_of image row) v.data_there m) is.content;
        attributes = attributes_formed image a h bytes short laws.text forms 0x04 row f.attributes is.attributes;
      })

  -- ---- methods

  method_same : (row : ℕ) (s t : MethodSig) → MethodHas image h.names row s → MethodHas image h.names row t → s ≡ t
  method_same row s t k l = laws.method h.names.owners l.0 s t (subst (λ x. signature.IsMethod h.names.owners x s) (laws.blob _ k.0 l.0 k.1 l.1) k.2) l.2

  -- the rows of a range that begins at a param rise
  params_rise : (method first count : ℕ) (ps : List Param) → HasRow image 0x06 method → ((k : ℕ) → first ≤ k → k < first + count → Contains (params_of image method) k) → AllZip (IsParam image h.names) (range_with_len first count) ps
      → rises is_param_before ps ≡ true
  params_rise method first zero [] there within z = refl
  params_rise method first zero (p ∷ ps) there within z = absurd z
  params_rise method first (suc count) [] there within z = absurd z
  params_rise method first (suc zero) (p ∷ []) there within z = refl
  params_rise method first (suc zero) (p ∷ q ∷ ps) there within z = absurd z.1
  params_rise method first (suc (suc count)) (p ∷ []) there within z = absurd z.1
  params_rise method first (suc (suc count)) (p ∷ q ∷ ps) there within z =
      let this = within first (omega arith) (omega arith) in
      let next = within (first + 1) (omega arith) (omega arith) in
      let back : first + 1 - 1 ≡ first = omega arith in
      let step = (h.rows runs 0x08 (first + 1)).sequence refl (stood.param_there (first + 1) method there next) method there (subst (λ (k : ℕ). Contains (params_of image method) k) (sym back) this) next in
      let up : param_sequence image first < param_sequence image (first + 1) = subst (λ (k : ℕ). param_sequence image k < param_sequence image (first + 1)) back step in
      and_from (is_param_before p q) (rises is_param_before (q ∷ ps)) (lt_true p.number q.number (omega (arith, z.0.number, z.1.0.number, up)))
      (params_rise method (first + 1) (suc count) (q ∷ ps) there (λ k low high. within k (omega arith) (omega arith)) z.1)

  range_within : (start end k : ℕ) → start ≤ k → k < start + (end - start) → Contains (range_with_len start (end - start)) k
  range_within start end k low high = contains_range start end k low (omega arith)

  numbers_formed : (row : ℕ) (sig : MethodSig) (ps : List Param) → HasRow image 0x06 row → FitsSignature image row sig → AllZip (IsParam image h.names) (params_of image row) ps → are_params (length sig.params) ps ≡ true
  unfolding params_of
  numbers_formed row sig ps there fits z =
      let end = ends (first_param image) (count_of image 0x06) (count_of image 0x08) row in
      and_from (rises is_param_before ps) (list_all (λ p. nat_le p.number (length sig.params)) ps)
      (params_rise row (first_param image row) (end - first_param image row) ps there (λ k low high. range_within (first_param image row) end k low high) z)
      (all_zipped (IsParam image h.names) (λ p. nat_le p.number (length sig.params)) (range_with_len (first_param image row) (end - first_param image row)) ps
      (λ r p m is. let fit = all_among (λ k. param_sequence image k ≤ length sig.params) r (range_with_len (first_param image row) (end - first_param image row)) fits.params m in le_true p.number (length sig.params) (omega (arith, fit, is.number))) z)

  override_formed : (row : ℕ) (m : MethodRef) → HasRow image 0x19 row → MethodIs h.names (override_declaration image row) m → is_plain_ref a m ≡ true
  unfolding schema
  override_formed row m there is =
      let tables = method_tables (override_declaration image row) is.0 is.1 is.2 in
      let n = named_row image MethodDefOrRef (override_declaration image row) ((h.rows indexes).0 0x19 row there 2 (omega arith)) in
      let small = small_row image a h bytes short laws.text forms is.0 is.1 tables (row_there image MethodDefOrRef (override_declaration image row) is.0 is.1 n is.2) in
      forms.plain (token_of is.0 is.1) m is.3 (not_instance image a h bytes short laws.text forms is.0 is.1 tables small)
      (used_token image a h bytes short laws.text forms 0x19 row 2 MethodDefOrRef false refl there (omega arith) refl is.0 is.1 is.2 small)

  pub method_formed : (row : ℕ) (m : Method) → HasRow image 0x06 row → IsMethod image h.names row m → is_method a m ≡ true
  unfolding schema
  method_formed row m there is =
      let t = (h.rows entries) 0x06 row there 3 (omega arith) in
      let same = laws.text (method_name image row) t.0 m.name t.1 is.name in
      let v = (h.rows values 0x06 row).method refl there in
      let fits : FitsSignature image row m.sig = subst (FitsSignature image row) (method_same row v.0 m.sig v.1 is.sig) v.2 in
      let code = (h.rows header 0x06 row).code_type refl there in
      let long = zipped_long (IsGeneric image h.names) (generics_of image 0x06 row) m.generics is.generics in
      (methods_named a m).1 (record {
        name = text_is_name (strings_of image) (method_name image row) m.name is.name (λ e. is_filled t.2 (same ∙ e));
        impl_flags = subst (λ (f : ℕ). are_impl_flags f ≡ true) (sym is.impl_flags) (impl_test (method_impl_flags image row) code.code_type code.managed);
        declaration = and_from (is_none m.sig.sentinel) (m.sig.generic == length m.generics) (none_there m.sig.sentinel (forms.no_sentinel row m.sig there is.sig)) (eq_true m.sig.generic (length m.generics) (fits.generic ∙ sym long));
        sig = forms.method_sig row m.sig there is.sig;
        numbers = numbers_formed row m.sig m.params there fits is.params;
        generics = generics_formed image a h bytes short laws.text forms 0x06 row m.generics is.generics;
        params = all_zipped (IsParam image h.names) (is_param a) (params_of image row) m.params (λ r p k of. param_formed image a h bytes short laws.text forms r p of) is.params;
        overrides = all_zipped (λ k. MethodIs h.names (override_declaration image k)) (is_plain_ref a) (overrides_of image row) m.overrides (λ r o k of. override_formed r o (of_rows_with image 0x19 override_body _ r k).0 of) is.overrides;
        body = bodies row m.body there is.body;
        attributes = attributes_formed image a h bytes short laws.text forms 0x06 row m.attributes is.attributes;
      })

  -- ---- properties and events

  pub property_formed : (type row : ℕ) (p : Property) → HasRow image 0x17 row → IsProperty image h.names type row p → is_property a p ≡ true
  unfolding schema
  property_formed type row p there is =
      let t = (h.rows entries) 0x17 row there 1 (omega arith) in
      let same = laws.text (property_name image row) t.0 p.name t.1 is.name in
      let kinds = (h.rows values 0x17 row).property_kinds_are refl there in
      (properties_named a p).1 (record {
        name = text_is_name (strings_of image) (property_name image row) p.name is.name (λ e. is_filled t.2 (same ∙ e));
        flags = is_cleared image a h bytes short laws.text forms p.flags (property_flags image row) 0x1000 is.flags;
        declaration = forms.property_plain row p.sig there is.sig;
        sig = forms.property_sig row p.sig there is.sig;
        constant = constants_formed image a h bytes short laws.text forms 0x17 row p.constant is.constant;
        accessors = all_zipped (IsAccessor image type) is_property_accessor (semantics_of image 0x17 row) p.accessors
            (λ r x m of. subst (λ (k : ℕ). ((k == 1) || (k == 2) || (k == 4)) ≡ true) (sym of.kind) (property_kind (semantics_kind image r) (to_among (semantics_kind image r) property_kinds (all_among (λ k. Contains property_kinds (semantics_kind image k)) r (semantics_of image 0x17 row) kinds m)))) is.accessors;
        attributes = attributes_formed image a h bytes short laws.text forms 0x17 row p.attributes is.attributes;
      })

  pub event_formed : (type row : ℕ) (e : Event) → HasRow image 0x14 row → IsEvent image h.names type row e → is_event a e ≡ true
  unfolding schema
  event_formed type row e there is =
      let t = (h.rows entries) 0x14 row there 1 (omega arith) in
      let same = laws.text (event_name image row) t.0 e.name t.1 is.name in
      let kinds = (h.rows values 0x14 row).event_kinds_are refl there in
      (events_named a e).1 (record {
        name = text_is_name (strings_of image) (event_name image row) e.name is.name (λ q. is_filled t.2 (same ∙ q));
        of = owner_is image a h bytes short laws.text forms 0x14 row 2 true refl there (omega arith) refl e.of is.of;
        accessors = all_zipped (IsAccessor image type) is_event_accessor (semantics_of image 0x14 row) e.accessors
            (λ r x m of. subst (λ (k : ℕ). ((k == 4) || (k == 8) || (k == 0x10) || (k == 0x20)) ≡ true) (sym of.kind) (event_kind (semantics_kind image r) (to_among (semantics_kind image r) event_kinds (all_among (λ k. Contains event_kinds (semantics_kind image k)) r (semantics_of image 0x14 row) kinds m)))) is.accessors;
        attributes = attributes_formed image a h bytes short laws.text forms 0x14 row e.attributes is.attributes;
      })
