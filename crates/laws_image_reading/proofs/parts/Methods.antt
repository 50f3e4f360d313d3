-- Methods are what their rows give, with their parameters, overrides and bodies.
use Rattle.std.proofs.Common.{◌≡◌, ap, sym, subst, ℕ, ◌+◌, ◌^◌, ◌≤◌, ◌==◌, ◌||◌, not, true, List, [], ◌∷◌, length, refl, inl, inr, arith}
use Rattle.std.specs.Prelude.{◌↔◌, IsTrue, slice_index}
use Rattle.std.specs.List.{AllByRecursion, AllZip, list_all}
use Rattle.std.proofs.lemmas.Bool.{or_cases, eqb-true, eq-eqb}
use Rattle.assembly_tree.specs.Weight.{method_weight, param_weight, signature_weight}
use Rattle.assembly_tree.specs.WellFormedMembers.{is_clear, is_attribute, is_constant, is_param, is_method}
use Rattle.assembly_tree.specs.WellFormedNames.{has_no_zero, option_all}
use Rattle.assembly_tree.specs.WellFormedTerms.{is_plain_ref}
use Rattle.assembly_tree.specs.declared.assembly.Assembly.{Assembly}
use Rattle.assembly_tree.specs.declared.members.Method.{Method}
use Rattle.assembly_tree.specs.declared.members.Param.{Param}
use Rattle.assembly_tree.proofs.FormedFacts.{methods_named}
use Rattle.body_codec.specs.Names.{NameMap}
use Rattle.metadata_tables.specs.declared.coded.Coded.TheVariants.{MethodDefOrRef}
use Rattle.pe_layout.specs.CliHeader.{entry_token_of}
use Rattle.pe_layout.specs.declared.parts.Kind.{Kind}
use Rattle.type_terms.specs.declared.reference.MethodRef.{MethodRef}
use Rattle.image_tokens.specs.declared.references.References.{References}
use Rattle.image_members.specs.Lists.{params_in}
use Rattle.image_rows.specs.OverrideRows.{IsOverrideRow}
use Rattle.image_members.specs.Places.{all_methods}
use Rattle.image_members.specs.Pushing.{Tables}
use Rattle.image_members.specs.declared.classes.Class.{Class}
use Rattle.laws_image_parts.specs.bodies.Bodies.{BodiesRead}
use Rattle.image_model.specs.Columns.{method_signature, override_body, override_declaration}
use Rattle.image_model.specs.Reading.{IsMethod, IsParam, MethodIs, overrides_of}
use Rattle.image_model.specs.Rows.{rows_with, index_of, params_of, token_of}
use Rattle.laws_image_parts.specs.AtRows.{AtEach}
use Rattle.laws_image_parts.specs.ConstantsRead.{ConstantsAreRead}
use Rattle.laws_image_parts.specs.EntryRead.{EntryIsRead}
use Rattle.laws_image_parts.specs.ItemRows.{OverridesOf}
use Rattle.laws_image_parts.specs.PartsRead.{PartsAreRead}
use Rattle.laws_image_parts.specs.RowCells.{override_cells}
use Rattle.laws_writable_trees.proofs.Each.{split_five, each_true}
use Rattle.laws_writable_trees.proofs.Members.{IsFine}
use Rattle.laws_writable_trees.proofs.Parts.{whole, fine_methods, fine_params}
use Rattle.laws_image_reading.specs.parts.Attributes.{AttributesNamed}
use Rattle.laws_image_reading.specs.parts.Generics.{GenericsNamed}
use Rattle.laws_image_reading.specs.parts.Held.{IsHeld}
use Rattle.laws_image_reading.specs.parts.Known.{KnowsRows}
use Rattle.laws_image_reading.specs.parts.Ranges.{IsParamInRange}
use Rattle.laws_image_reading.proofs.parts.Attributes.{plain_args, reader}
use Rattle.laws_image_reading.proofs.parts.Constants.{stated_ranged}
use Rattle.laws_image_reading.proofs.parts.Entries.{one_entry}
use Rattle.laws_image_reading.proofs.parts.Lists.{all_get, zip_items, zip_with}
use Rattle.laws_image_reading.proofs.parts.Signatures.{RereadsMembers, method_has}
use Rattle.laws_image_reading.proofs.parts.Tokens.{IsReader, declaration_is}

sig_light : (m : Method) → method_weight m ≤ 2 ^ 26 → signature_weight m.sig ≤ 2 ^ 26
unfolding method_weight
sig_light m h = omega arith

-- ---- parameters

-- what is known of a well-formed parameter
record IsFormed (p : Param) : Type 0 where
  flags : is_clear 0x1000 p.flags ≡ true
  constant : IsTrue (option_all is_constant p.constant)
  nameless : p.number ≡ 0 → p.name ≡ []

no_name : (n : ℕ) (name : List ℕ) → IsTrue (not (n == 0) || (length name == 0)) → n ≡ 0 → name ≡ []
no_name n name h zero = elim (or_cases (not (n == 0)) (length name == 0) h) [
  | inl some ↦ absurd (let is = eq-eqb n 0 zero in cc)
  | inr none ↦ empty name (eqb-true (length name) 0 none)
]
  where
    empty : (xs : List ℕ) → length xs ≡ 0 → xs ≡ []
    empty [] e = refl
    empty (x ∷ xs) e = absurd (omega arith)

param_formed : (a : Assembly) (p : Param) → IsTrue (is_param a p) → IsFormed p
unfolding is_param
param_formed a p h =
    let parts = split_five (has_no_zero p.name) (not (p.number == 0) || (length p.name == 0)) (is_clear 0x1000 p.flags) (option_all is_constant p.constant) (list_all (is_attribute a) p.attributes) h in
    record { flags = parts.2; constant = parts.3; nameless = no_name p.number p.name parts.1 }

module _ (parts : PartsAreRead) (constants : ConstantsAreRead) (a : Assembly) (classes : List Class) (r : References) (tables : Tables) (code id : List ℕ) (kind : Kind) (image : List ℕ) (names : NameMap)
    (held : IsHeld a classes r tables code id kind image names) (known : KnowsRows a classes r code image) (attributes : AttributesNamed a classes image names) where
  params_are : AtEach (IsParam image names) 1 (params_in a classes)
  params_are k p at =
      let fine = all_get (IsFine (is_param a) param_weight) (params_in a classes) k p (fine_params a classes held.filled.classes_are held.formed held.light) at in
      let formed = param_formed a p fine.formed in
      let head = parts.param r image (1 + k) p known.heaps (known.rows.methods.params.each k p at) formed.flags in
      let range = all_get IsParamInRange (params_in a classes) k p held.ranges.params at in
      record {
        number = head.number;
        flags = head.flags;
        result_name = formed.nameless;
        name = λ some. head.name_is;
        constant = constants.given r image 0x08 (1 + k) p.constant known.heaps (stated_ranged p.constant formed.constant range) (known.constants.params k p at);
        attributes = attributes.params k p at;
      }

  -- ---- overrides

  abbrev s : IsReader r image names
  s = reader a classes r tables code id kind image names held known

  abbrev IsRow : ℕ → ℕ → ℕ → MethodRef → Type 0
  IsRow type row k m = IsOverrideRow r (override_cells image k) (record { type = type; body = row; of = m })

  overrides_are : (type row : ℕ) (ms : List MethodRef) → AllByRecursion (λ m. IsTrue (is_plain_ref a m)) ms → OverridesOf r image type row ms
      → AllZip (λ k. MethodIs names (override_declaration image k)) (overrides_of image row) ms
  overrides_are type row ms all h =
      zip_with (IsRow type row) (λ k. MethodIs names (override_declaration image k)) (λ m. IsTrue (is_plain_ref a m))
      (λ k m plain is. declaration_is r image names s m (override_declaration image k) is.token is.token_is (plain_args a m plain) (ap (λ (cs : List ℕ). slice_index cs 2) is.are))
      (rows_with image 0x19 override_body (index_of MethodDefOrRef 0x06 row)) ms all h

  -- ---- methods

  module _ (entry : EntryIsRead) (again : RereadsMembers) (generics : GenericsNamed a classes image names) (bodies : BodiesRead a classes image names) where
    entries : AtEach (λ row (m : Method). (m.entry ≡ true) ↔ (entry_token_of image ≡ token_of 0x06 row)) 1 (all_methods a classes)
    entries k m at =
        let w = whole a classes held.filled.classes_are held.formed held.light in
        let one = one_entry a classes held.filled.classes_are w.one_entry in
        subst (λ n. (m.entry ≡ true) ↔ (n ≡ token_of 0x06 (1 + k))) (sym held.laid_out.entry_is) (entry (all_methods a classes) one k m at)

    pub methods_are : AtEach (IsMethod image names) 1 (all_methods a classes)
    methods_are k m at =
        let fine = all_get (IsFine (is_method a) method_weight) (all_methods a classes) k m (fine_methods a classes held.filled.classes_are held.formed held.light) at in
        let formed = (methods_named a m).0 fine.formed in
        let row = known.runs.method_rows k m at in
        let made = row.2 in
        let head = parts.method a classes r code image (1 + k) m known.heaps row in
        let over = known.overrides k m at in
        record {
          name = head.name;
          flags = head.flags;
          impl_flags = head.impl_flags;
          sig = method_has a again r image names s m.sig made.signature (method_signature image (1 + k)) made.signature_is (ap (λ (cs : List ℕ). slice_index cs 4) made.are) formed.sig (sig_light m fine.light);
          generics = generics.methods k m at;
          params = zip_items (IsParam image names) (params_in a classes) params_are (params_of image (1 + k)) m.params (known.runs.params k m at);
          overrides = overrides_are over.0 (1 + k) m.overrides (each_true (is_plain_ref a) m.overrides formed.overrides) over.1;
          entry = entries k m at;
          body = bodies.bodies k m at;
          attributes = attributes.methods k m at;
        }
