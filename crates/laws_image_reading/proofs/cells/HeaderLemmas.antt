-- The headers and the entry point of a laid-out image, and that its tables are whole.
use Rattle.std.proofs.Common.{◌≡◌, ◌⊎◌, inl, inr, refl, ◌∙◌, ap, ℕ, suc, ◌+◌, ◌/◌, ◌%◌, ◌^◌, ◌<◌, ◌==◌, true, cond, List, [], ◌∷◌, length, arith}
use Rattle.std.specs.Prelude.{IsTrue, bit_and}
use Rattle.std.specs.Int.{bit_at}
use Rattle.std.specs.List.{list_all}
use Rattle.std.proofs.lemmas.Bool.{and_parts, cases_Bool, eqb-true}
use Rattle.std.proofs.lemmas.Nat.Bits.{bit_at_and, bit_at-lt, bit_at-zero}
use Rattle.assembly_tree.specs.WellFormed.{is_image_base, is_file_alignment, are_cor_flags, is_manifest, is_well_formed}
use Rattle.assembly_tree.specs.WellFormedMembers.{is_clear, is_attribute}
use Rattle.assembly_tree.specs.WellFormedNames.{has_no_zero, is_name}
use Rattle.assembly_tree.specs.declared.assembly.Assembly.{Assembly}
use Rattle.assembly_tree.specs.declared.assembly.Manifest.{Manifest}
use Rattle.assembly_tree.specs.declared.members.Method.{Method}
use Rattle.assembly_tree.proofs.FormedFacts.{assemblies_named}
use Rattle.metadata_tables.specs.Encoding.{rows_in}
use Rattle.pe_layout.specs.CliHeader.{cor_flags_of, entry_token_of}
use Rattle.pe_layout.specs.declared.parts.Kind.{Kind}
use Rattle.pe_layout.specs.declared.parts.ManifestNumbers.{ManifestNumbers}
use Rattle.laws_image_indexes.proofs.PlainTables.{methods_count}
use Rattle.image_layout.specs.LaidOut.{IsLaidOut}
use Rattle.image_layout.specs.Laws.{ReadsTables}
use Rattle.image_model.specs.Cells.{HasEntry}
use Rattle.image_model.specs.Faults.{HasTables}
use Rattle.image_model.specs.Rows.{count_of}
use Rattle.image_model.specs.Streams.{HasCliHeader}
use Rattle.image_tokens.specs.declared.references.References.{References}
use Rattle.image_rows.specs.Filled.{IsFilled, entry_from, entry_token}
use Rattle.image_members.specs.Places.{all_methods}
use Rattle.image_members.specs.Pushing.{Tables}
use Rattle.image_members.specs.declared.classes.Class.{Class}
use Rattle.laws_image_reading.proofs.cells.EachLemmas.{split_eight}

-- ---- the flags

bit_clear : (flags mask k : ℕ) → bit_at mask k ≡ 1 → bit_and flags mask ≡ 0 → bit_at flags k ≡ 0
bit_clear flags mask k one e =
    let z : bit_at (bit_and flags mask) k ≡ 0 = ap (λ x. bit_at x k) e ∙ bit_at-zero k in
    omega (arith, bit_at_and flags mask k, bit_at-lt flags k)

lowest_set : (flags : ℕ) → bit_and flags 1 ≡ 1 → bit_at flags 0 ≡ 1
lowest_set flags e =
    let z : bit_at (bit_and flags 1) 0 ≡ 1 = ap (λ x. bit_at x 0) e in
    omega (arith, bit_at_and flags 1 0, bit_at-lt flags 0)

flags_fit : (flags : ℕ) → IsTrue (are_cor_flags flags) → (bit_at flags 0 ≡ 1) × (bit_at flags 4 ≡ 0)
flags_fit flags h =
    let both = and_parts (bit_and flags 1 == 1) (is_clear 0x18 flags) h in
    (lowest_set flags (eqb-true (bit_and flags 1) 1 both.0), bit_clear flags 0x18 4 refl (eqb-true (bit_and flags 0x18) 0 both.1))

manifest_flags : (a : Assembly) (m : Manifest) → IsTrue (is_manifest a m) → IsTrue (are_cor_flags m.cor_flags)
unfolding is_manifest
manifest_flags a m h =
    (split_eight (is_name m.name) (has_no_zero m.culture) (is_name m.module) (is_image_base m.image_base) (is_file_alignment m.file_alignment) (are_cor_flags m.cor_flags)
    (list_all (is_attribute a) m.attributes) (list_all (is_attribute a) m.module_attributes) h).5

-- ---- the entry point

-- it is none, or one of the methods
entry_is : (row : ℕ) (ms : List Method) → (entry_from row ms ≡ 0) ⊎ ((k : ℕ) × (k < length ms) × (entry_from row ms ≡ 0x06000000 + (row + k)))
entry_is row [] = inl refl
entry_is row (m ∷ ms) = elim (cases_Bool m.entry) [
  | inl e ↦
      let here : row ≡ row + 0 = omega arith in
      inr (0, omega arith, ap (λ b. cond b (0x06000000 + row) (entry_from (row + 1) ms)) e ∙ ap (λ n. 0x06000000 + n) here)
  | inr e ↦
      let next : entry_from row (m ∷ ms) ≡ entry_from (row + 1) ms = ap (λ b. cond b (0x06000000 + row) (entry_from (row + 1) ms)) e in
      elim (entry_is (row + 1) ms) [
        | inl none ↦ inl (next ∙ none)
        | inr x ↦
            let there : row + 1 + x.0 ≡ row + suc x.0 = omega arith in
            let within = x.1 in
            inr (suc x.0, omega arith, next ∙ x.2 ∙ ap (λ n. 0x06000000 + n) there)
      ]
]

module _ (a : Assembly) (classes : List Class) (r : References) (tables : Tables) (code id : List ℕ) (kind : Kind) (image : List ℕ) (f : IsFilled a classes r tables code)
    (l : IsLaidOut a.manifest r tables code (entry_token a classes) id kind image) where
  entry_row : (entry_token_of image ≡ 0) ⊎ ((k : ℕ) × (k < rows_in tables 0x06) × (entry_token_of image ≡ 0x06000000 + (1 + k)))
  entry_row = elim (entry_is 1 (all_methods a classes)) [
    | inl none ↦ inl (l.entry_is ∙ none)
    | inr x ↦
        let count = methods_count a classes r tables code f in
        let within = x.1 in
        inr (x.0, omega arith, l.entry_is ∙ x.2)
  ]

  entry_in_table : (entry_token_of image ≡ 0) ⊎ (entry_token_of image / 2 ^ 24 ≡ 0x06)
  entry_in_table = elim entry_row [
    | inl none ↦ inl none
    | inr x ↦
        let few = f.few 0x06 in
        let within = x.1 in
        let is = x.2 in
        inr (omega arith)
  ]

  pub has_entry : count_of image 0x06 ≡ rows_in tables 0x06 → HasEntry image
  has_entry count = elim entry_row [
    | inl none ↦ inl none
    | inr x ↦
        let few = f.few 0x06 in
        let within = x.1 in
        let is = x.2 in
        let row : entry_token_of image % 2 ^ 24 ≡ 1 + x.0 = omega arith in
        inr (omega arith, omega arith)
  ]

  has_cli_header : is_well_formed a ≡ true → HasCliHeader image
  has_cli_header formed =
      let same : cor_flags_of image ≡ a.manifest.cor_flags = ap (λ (n : ManifestNumbers). n.cor_flags) l.numbers in
      let bits = flags_fit a.manifest.cor_flags (manifest_flags a a.manifest ((assemblies_named a).0 formed).manifest) in
      let size = l.frame.cli.cb in
      record {
        cb = omega arith;
        il_only = ap (λ n. bit_at n 0) same ∙ bits.0;
        no_native_entry = ap (λ n. bit_at n 4) same ∙ bits.1;
        no_vtable_fixups = l.frame.cli.vtable_fixups_size;
        no_native_header = l.frame.cli.native_header_size;
        entry = entry_in_table;
      }

  pub tables_open : is_well_formed a ≡ true → ReadsTables r tables image → HasTables image
  tables_open formed reads = record { headers = l.opens; cli = has_cli_header formed; root = l.metadata.root; whole = reads.whole }
