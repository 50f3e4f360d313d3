-- What stands outside of any type in a listing.
use Rattle.std.proofs.Common.{◌≡◌, ℕ, Bool, List, [], ◌∷◌, ◌++◌, map, filter, length, refl, ap, ◌∙◌, append-nil}
use Rattle.std.proofs.lemmas.Bool.{and_parts}
use Rattle.ilasm_grammar.specs.Ilasm.{ilasm, rule_by}
use Rattle.ilasm_grammar.specs.declared.nonterminals.TheConstants as n
use Rattle.ilasm_grammar.specs.declared.productions.TheConstants as p
use Rattle.ilasm_grammar.specs.declared.symbol.Symbol.TheVariants.{Nonterminal}
use Rattle.assembly_tree.specs.declared.assembly.Assembly.{Assembly}
use Rattle.assembly_tree.specs.declared.members.Attribute.{Attribute}
use Rattle.assembly_tree.proofs.FormedFacts.{assemblies_named}
use Rattle.source_model.specs.Forest as f
use Rattle.source_model.specs.Items.{declarations, is_custom}
use Rattle.source_model.specs.Members as read
use Rattle.source_model.specs.Nodes.{nothing_around}
use Rattle.source_model.specs.Source.{Source}
use Rattle.listing_formed.specs.Laws.{Knows}
use Rattle.listing_groups.specs.Laws.{field_runs, HaveContents, FieldRowsAreRead, are_short, MethodRowsAreRead}
use Rattle.listing_growth.specs.Held.{is_held}
use Rattle.listing_model.specs.Canon.{classes, contents}
use Rattle.listing_model.specs.Classes.{all_contents}
use Rattle.listing_model.specs.Grown.{body_of}
use Rattle.listing_model.specs.Manifests.{header_lines, manifest_lines}
use Rattle.listing_model.specs.Values.{customs}
use Rattle.listing_reading.specs.Rows.{parts_at}
use Rattle.listing_rows.specs.Laws.{RunsAreFiltered, runs_of, NonePass}
use Rattle.listing_declarations.specs.Laws.{IsListingOf, extern_items, manifest_items, type_items, field_items, global_items, data_items, manifest_place, types_place, fields_place, methods_place, data_place, HasDeclarations, DeclarationsAreRead, GlobalsAreRead}
use Rattle.listing_declarations.proofs.Tests.{Fails, filter_past, filter_front, none_both, none_end, field_head, none_externs, none_types, none_methods, none_data}

decl_method : body_of p.DECL_METHOD ≡ Nonterminal n.METHOD ∷ []
unfolding ilasm rule_by
decl_method = refl

-- a test that no line of the manifest passes
pub record FailsManifest (test : f.Part → Bool) : Type 0 where
  pub assemblies : Fails test p.DECL_ASSEMBLY
  pub names : Fails test p.DECL_MODULE
  pub customs : Fails test p.DECL_CUSTOM
  pub bases : Fails test p.DECL_IMAGEBASE
  pub alignments : Fails test p.DECL_FILE
  pub stacks : Fails test p.DECL_STACKRESERVE
  pub subsystems : Fails test p.DECL_SUBSYSTEM
  pub cor_flags : Fails test p.DECL_CORFLAGS

module _ (filtered : RunsAreFiltered) (field_laws : FieldRowsAreRead) (method_laws : MethodRowsAreRead) (declared : DeclarationsAreRead) (s : Source) (a : Assembly) (listed : IsListingOf s a) where
  abbrev has : HasDeclarations s a
  has = declared s a listed

  abbrev first : ℕ
  first = length (all_contents (classes a))

  abbrev ps1 : List f.Part
  ps1 = parts_at 0 (extern_items a)

  abbrev ps2 : List f.Part
  ps2 = parts_at (manifest_place a) (manifest_items a)

  abbrev ps3 : List f.Part
  ps3 = parts_at (types_place a) (type_items a)

  abbrev ps4 : List f.Part
  ps4 = parts_at (fields_place a) (field_items a)

  abbrev ps5 : List f.Part
  ps5 = parts_at (methods_place a) (global_items a)

  abbrev ps6 : List f.Part
  ps6 = parts_at (data_place a) (data_items a)

  rest_fails : (test : f.Part → Bool) → FailsManifest test → (at : ℕ) → NonePass test (parts_at at (customs a.externs p.DECL_CUSTOM a.manifest.module_attributes ++ header_lines a.externs a.manifest))
  rest_fails test h at = go a.manifest.module_attributes at
    where
      go : (xs : List Attribute) (at : ℕ) → NonePass test (parts_at at (customs a.externs p.DECL_CUSTOM xs ++ header_lines a.externs a.manifest))
      go [] at = (h.bases _, (h.alignments _, (h.stacks _, (h.subsystems _, (h.cor_flags _, tt)))))
      go (x ∷ xs) at = (h.customs _, go xs _)

  manifest_fails : (test : f.Part → Bool) → FailsManifest test → NonePass test ps2
  unfolding manifest_lines
  manifest_fails test h = (h.assemblies _, (h.names _, rest_fails test h _))

  -- ---- fields

  fields_are : runs_of read.is_field_part (declarations s.tree) ≡ field_runs a.externs p.DECL_FIELD p.DECL_CUSTOM (fields_place a) first a.fields
  fields_are =
      let tail = ps5 ++ ps6 in
      let own = field_runs a.externs p.DECL_FIELD p.DECL_CUSTOM (fields_place a) first a.fields in
      let plain = none_both is_custom ps5 ps6 (none_methods is_custom (λ x. refl) a.externs a.methods (methods_place a)) (none_data is_custom (λ x. refl) 0 (contents a) (data_place a)) in
      let no_fields = none_both read.is_field_part ps5 ps6 (none_methods read.is_field_part (λ x. refl) a.externs a.methods (methods_place a)) (none_data read.is_field_part (λ x. refl) 0 (contents a) (data_place a)) in
      let lines : FailsManifest read.is_field_part = record { assemblies = λ x. refl; names = λ x. refl; customs = λ x. refl; bases = λ x. refl; alignments = λ x. refl; stacks = λ x. refl; subsystems = λ x. refl; cor_flags = λ x. refl } in
      ap (runs_of read.is_field_part) has.parts
      ∙ (filtered.past read.is_field_part ps1 (ps2 ++ (ps3 ++ (ps4 ++ tail))) (none_externs read.is_field_part (λ x. refl) a.externs 0 a.externs 0)
      ∙ (filtered.past read.is_field_part ps2 (ps3 ++ (ps4 ++ tail)) (manifest_fails read.is_field_part lines)
      ∙ (filtered.past read.is_field_part ps3 (ps4 ++ tail) (none_types read.is_field_part (λ x. refl) [] 0 (classes a) (types_place a))
      ∙ (field_laws.runs a.externs p.DECL_FIELD p.DECL_CUSTOM field_head a.fields (fields_place a) first tail (none_end tail plain)
      ∙ (ap (λ rs. own ++ rs) (filtered.none read.is_field_part tail no_fields) ∙ append-nil own)))))

  fields_read : Knows s a → HaveContents s first a.fields → read.fields s nothing_around (declarations s.tree) ≡ a.fields
  unfolding is_held
  fields_read knows there =
      let wf = (assemblies_named a).0 listed.formed in
      let h4 = and_parts _ _ listed.held in
      let h3 = and_parts _ _ h4.0 in
      let h2 = and_parts _ _ h3.0 in
      ap (λ rs. map (read.field s nothing_around) rs) fields_are
      ∙ field_laws.all s nothing_around a knows p.DECL_FIELD p.DECL_CUSTOM a.fields wf.fields h2.1 (fields_place a) first there has.fields

  -- ---- methods

  methods_are : filter read.is_method_part (declarations s.tree) ≡ filter read.is_method_part ps5
  methods_are =
      let test = read.is_method_part in
      let lines : FailsManifest test = record { assemblies = λ x. refl; names = λ x. refl; customs = λ x. refl; bases = λ x. refl; alignments = λ x. refl; stacks = λ x. refl; subsystems = λ x. refl; cor_flags = λ x. refl } in
      ap (filter test) has.parts
      ∙ (filter_past test ps1 (ps2 ++ (ps3 ++ (ps4 ++ (ps5 ++ ps6)))) (none_externs test (λ x. refl) a.externs 0 a.externs 0)
      ∙ (filter_past test ps2 (ps3 ++ (ps4 ++ (ps5 ++ ps6))) (manifest_fails test lines)
      ∙ (filter_past test ps3 (ps4 ++ (ps5 ++ ps6)) (none_types test (λ x. refl) [] 0 (classes a) (types_place a))
      ∙ (filter_past test ps4 (ps5 ++ ps6) (field_laws.others a.externs p.DECL_FIELD p.DECL_CUSTOM test (λ x. refl) (λ x. refl) a.fields (fields_place a) first)
      ∙ filter_front test ps5 ps6 (none_data test (λ x. refl) 0 (contents a) (data_place a))))))

  methods_read : Knows s a → are_short a.methods → read.methods s nothing_around (declarations s.tree) ≡ a.methods
  unfolding is_held
  methods_read knows short =
      let wf = (assemblies_named a).0 listed.formed in
      let h4 = and_parts _ _ listed.held in
      let h3 = and_parts _ _ h4.0 in
      ap (λ ps. map (read.method s nothing_around) (map (λ (q : f.Part). f.the p.METHOD q.below) ps)) methods_are
      ∙ (ap (λ gs. map (read.method s nothing_around) gs) (method_laws.forests a.externs p.DECL_METHOD (λ g. refl) a.methods (methods_place a))
      ∙ method_laws.all s nothing_around a knows p.DECL_METHOD n.DECL decl_method a.methods wf.methods h3.1 short (methods_place a) has.methods_grown has.methods)

pub globals_are_read : RunsAreFiltered → FieldRowsAreRead → MethodRowsAreRead → DeclarationsAreRead → GlobalsAreRead
globals_are_read filtered field_laws method_laws declared = record {
  fields = λ s a listed knows there. fields_read filtered field_laws method_laws declared s a listed knows there;
  methods = λ s a listed knows short. methods_read filtered field_laws method_laws declared s a listed knows short;
}
