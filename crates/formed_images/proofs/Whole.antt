-- An image that reads as an assembly reads as a well-formed one.
use Rattle.std.proofs.Common.{◌≡◌, ℕ, ◌*◌, ◌/◌, ◌%◌, ◌^◌, ◌≤◌, ◌==◌, inl, inr, ◌↔◌, true, nat_le, List, length, bit_and, Option, Some, refl, sym, ◌∙◌, ap, subst, arith}
use Rattle.std.proofs.lemmas.Bool.{and_from}
use Rattle.std.proofs.lemmas.Nat.Bits.{and_pow, and_high}
use Rattle.std.specs.Int.{bit_at}
use Rattle.metadata_tables.specs.Schema.{schema}
use Rattle.pe_layout.specs.CliHeader.{cor_flags_of}
use Rattle.pe_layout.specs.Numbers.{IsImageBase, IsFileAlignment}
use Rattle.type_terms.specs.declared.term.SigType.{SigType}
use Rattle.assembly_tree.specs.DataSize.{size_in_data}
use Rattle.assembly_tree.specs.WellFormed.{is_image_base, is_file_alignment, are_cor_flags, is_manifest, is_extern, is_well_formed}
use Rattle.assembly_tree.specs.WellFormedBodies.{is_body}
use Rattle.assembly_tree.specs.WellFormedNames.{option_all, is_name, has_no_zero}
use Rattle.assembly_tree.specs.WellFormedMembers.{is_clear}
use Rattle.assembly_tree.specs.declared.assembly.Assembly.{Assembly}
use Rattle.assembly_tree.specs.declared.assembly.ExternAssembly.{ExternAssembly}
use Rattle.assembly_tree.specs.declared.body.Body.{Body}
use Rattle.assembly_tree.proofs.FormedFacts.{assemblies_named}
use Rattle.image_model.specs.Streams.{strings_of}
use Rattle.image_model.specs.Columns.{method_rva, assembly_name, assembly_culture, module_name, extern_name, extern_culture}
use Rattle.image_model.specs.Rows.{HasRow, rows_of}
use Rattle.image_model.specs.Members.{HasDataSize}
use Rattle.image_model.specs.Faults.{entries, manifest, Reads}
use Rattle.image_model.specs.Reading.{BodyIs, without, ImageBaseIs, FileAlignmentIs, IsExtern}
use Rattle.image_model.specs.ReadLaws.{HoldsTypes}
use Rattle.formed_references.specs.Laws.{AreFormed}
use Rattle.formed_references.proofs.Words.{le_true, eq_true, all_zipped, of_rows, text_has_no_zero, text_is_name}
use Rattle.formed_references.proofs.Paths.{first_type}
use Rattle.formed_references.proofs.References.{Laws}
use Rattle.formed_images.specs.Laws.{AreBytes}
use Rattle.formed_images.proofs.Bytes.{clear, kept}
use Rattle.formed_images.proofs.Parts.{attributes_formed}
use Rattle.formed_images.proofs.Bodies.{BodiesAreFormed, bodies_formed}
use Rattle.formed_images.proofs.Types.{fields_formed, methods_formed, fields_differ, methods_differ, own_formed}
use Rattle.formed_images.proofs.Trees.{classes_formed}
use Rattle.formed_images.proofs.Entries.{one_entry}
use Rattle.formed_references.proofs.Words.{is_filled}

-- ---- numbers of the manifest

base_is : (n : ℕ) → IsImageBase n → is_image_base n ≡ true
base_is n is = and_from _ _ (and_from (n % 0x10000 == 0) (nat_le 0x10000 n) (eq_true (n % 0x10000) 0 is.multiple) (le_true 0x10000 n is.least)) (le_true n 0xF0000000 is.greatest)

base_formed : (header base : ℕ) → ImageBaseIs header base → is_image_base base ≡ true
base_formed header base (inl is) = subst (λ (n : ℕ). is_image_base n ≡ true) (sym is.1) (base_is header is.0)
base_formed header base (inr is) = subst (λ (n : ℕ). is_image_base n ≡ true) (sym is.1) refl

alignment_is : (n : ℕ) → IsFileAlignment n → is_file_alignment n ≡ true
alignment_is n (inl e) = subst (λ (k : ℕ). is_file_alignment k ≡ true) (sym e) refl
alignment_is n (inr (inl e)) = subst (λ (k : ℕ). is_file_alignment k ≡ true) (sym e) refl
alignment_is n (inr (inr (inl e))) = subst (λ (k : ℕ). is_file_alignment k ≡ true) (sym e) refl
alignment_is n (inr (inr (inr e))) = subst (λ (k : ℕ). is_file_alignment k ≡ true) (sym e) refl

alignment_formed : (header alignment : ℕ) → FileAlignmentIs header alignment → is_file_alignment alignment ≡ true
alignment_formed header alignment (inl is) = subst (λ (n : ℕ). is_file_alignment n ≡ true) (sym is.1) (alignment_is header is.0)
alignment_formed header alignment (inr is) = subst (λ (n : ℕ). is_file_alignment n ≡ true) (sym is.1) refl

-- IL only, no native entry point, and the bit of a signature taken off
flags_formed : (f flags : ℕ) → flags ≡ without f 8 → bit_at f 0 ≡ 1 → bit_at f 4 ≡ 0 → are_cor_flags flags ≡ true
flags_formed f flags e il native =
    let one : bit_and flags 1 ≡ 1 = ap (λ (n : ℕ). bit_and n 1) e ∙ and_pow (without f 8) 0 ∙ ap (λ (n : ℕ). n * 1) (kept f 8 0 refl ∙ il) in
    let third : bit_at flags 3 ≡ 0 = ap (λ (n : ℕ). bit_at n 3) e ∙ bit_off in
    let fourth : bit_at flags 4 ≡ 0 = ap (λ (n : ℕ). bit_at n 4) e ∙ kept f 8 4 refl ∙ native in
    and_from (bit_and flags 1 == 1) (is_clear 0x18 flags) (eq_true (bit_and flags 1) 1 one) (eq_true (bit_and flags 0x18) 0 (both_clear flags third fourth))
  where
    bit_off : bit_at (without f 8) 3 ≡ 0
    bit_off = let c = clear f 8 in let p = and_pow (without f 8) 3 in omega (arith, c, p)

    both_clear : (n : ℕ) → bit_at n 3 ≡ 0 → bit_at n 4 ≡ 0 → bit_and n 0x18 ≡ 0
    both_clear n third fourth = let p : bit_and n 0x18 ≡ (n / 8 % 4) * 8 = and_high n 2 3 in omega (arith, p)

module _ (image : List ℕ) (a : Assembly) (h : Reads image a) (bytes : AreBytes image) (short : length image ≤ 2 ^ 26) (laws : Laws image) (holds : HoldsTypes image h.names a) (forms : AreFormed image a h.names)
    (sizes : (t : SigType) (size : ℕ) → HasDataSize image t size ↔ (size_in_data a t ≡ Some size)) (body_law : BodiesAreFormed) where
  -- ---- externs

  extern_formed : (row : ℕ) (e : ExternAssembly) → HasRow image 0x23 row → IsExtern image row e → is_extern e ≡ true
  unfolding is_extern schema
  extern_formed row e there is =
      let t = (h.rows entries) 0x23 row there 6 (omega arith) in
      let same = laws.text (extern_name image row) t.0 e.name t.1 is.name in
      and_from (is_name e.name) (has_no_zero e.culture) (text_is_name (strings_of image) (extern_name image row) e.name is.name (λ q. is_filled t.2 (same ∙ q)))
      (text_has_no_zero (strings_of image) (extern_culture image row) e.culture is.culture)

  -- ---- the manifest

  assembly_there : HasRow image 0x20 1
  assembly_there = let one = (h.rows manifest 0x20 0).one_assembly refl refl in (omega arith, omega (arith, one))

  module_there : HasRow image 0x00 1
  module_there = let one = (h.rows manifest 0x00 0).one_module refl refl in (omega arith, omega (arith, one))

  manifest_formed : is_manifest a a.manifest ≡ true
  unfolding is_manifest schema
  manifest_formed =
      let m = h.parts.manifest in
      let t = (h.rows entries) 0x20 1 assembly_there 7 (omega arith) in
      let u = (h.rows entries) 0x00 1 module_there 1 (omega arith) in
      let name = text_is_name (strings_of image) (assembly_name image 1) a.manifest.name m.name (λ q. is_filled t.2 (laws.text (assembly_name image 1) t.0 a.manifest.name t.1 m.name ∙ q)) in
      let culture = text_has_no_zero (strings_of image) (assembly_culture image 1) a.manifest.culture m.culture in
      let module_is = text_is_name (strings_of image) (module_name image 1) a.manifest.module m.module_name_is (λ q. is_filled u.2 (laws.text (module_name image 1) u.0 a.manifest.module u.1 m.module_name_is ∙ q)) in
      let base = base_formed _ a.manifest.image_base m.image_base in
      let alignment = alignment_formed _ a.manifest.file_alignment m.file_alignment in
      let flags = flags_formed (cor_flags_of image) a.manifest.cor_flags m.cor_flags h.tables.cli.il_only h.tables.cli.no_native_entry in
      let own = attributes_formed image a h bytes short laws.text forms 0x20 1 a.manifest.attributes m.attributes in
      let modules = attributes_formed image a h bytes short laws.text forms 0x00 1 a.manifest.module_attributes m.module_attributes in
      and_from _ _ (and_from _ _ (and_from _ _ (and_from _ _ (and_from _ _ (and_from _ _ (and_from _ _ name culture) module_is) base) alignment) flags) own) modules

  bodies : (row : ℕ) (body : Option Body) → HasRow image 0x06 row → BodyIs image h.names (method_rva image row) body → option_all (is_body a) body ≡ true
  bodies = bodies_formed image a h bytes forms body_law

  pub formed : is_well_formed a ≡ true
  formed =
      let first = first_type image a h laws.text holds in
      (assemblies_named a).1 (record {
        manifest = manifest_formed;
        externs = all_zipped (IsExtern image) is_extern (rows_of image 0x23) a.externs (λ r e m is. extern_formed r e (of_rows image 0x23 r m) is) h.parts.externs;
        classes = classes_formed image a h laws.text holds (own_formed image a h bytes short laws holds forms sizes bodies);
        fields = fields_formed image a h bytes short laws holds forms sizes bodies 1 a.fields first h.parts.fields;
        methods = methods_formed image a h bytes short laws holds forms sizes bodies 1 a.methods first h.parts.methods;
        fields_differ = fields_differ image a h bytes short laws holds forms sizes bodies 1 a.fields first h.parts.fields;
        methods_differ = methods_differ image a h bytes short laws holds forms sizes bodies 1 a.methods first h.parts.methods;
        one_entry = one_entry image a h laws.text holds;
      })
