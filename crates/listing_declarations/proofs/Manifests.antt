-- The manifest of a listing.
use Rattle.std.proofs.Common.{◌≡◌, ℕ, suc, ◌+◌, ◌-◌, nat_eq, true, false, List, [], ◌∷◌, ◌++◌, length, drop, refl, ap, sym, ◌∙◌, append-nil, append_assoc, arith}
use Rattle.std.proofs.lemmas.Bool.{and_parts, eqb-true}
use Rattle.std.proofs.lemmas.Nat.{and_assoc}
use Rattle.std.specs.List.{list_all}
use Rattle.std.specs.Prelude.{bit_and, codes}
use Rattle.ilasm_grammar.specs.Ilasm.{ilasm, rule_by, has_bit}
use Rattle.ilasm_grammar.specs.declared.nonterminals.TheConstants as n
use Rattle.ilasm_grammar.specs.declared.productions.TheConstants as p
use Rattle.assembly_tree.specs.WellFormed.{are_cor_flags, is_manifest}
use Rattle.assembly_tree.specs.WellFormedMembers.{is_attribute}
use Rattle.assembly_tree.specs.declared.assembly.Assembly.{Assembly}
use Rattle.assembly_tree.specs.declared.assembly.ExternAssembly.{ExternAssembly}
use Rattle.assembly_tree.specs.declared.assembly.Manifest.{Manifest}
use Rattle.assembly_tree.proofs.FormedFacts.{assemblies_named}
use Rattle.source_model.specs.Flags.{without_bits}
use Rattle.source_model.specs.Forest as f
use Rattle.source_model.specs.Items.{declarations, is_custom, customs_outside, own_customs}
use Rattle.source_model.specs.Manifests as read
use Rattle.source_model.specs.Names.{assemblies, assembly_token}
use Rattle.source_model.specs.Nodes.{nothing_around}
use Rattle.source_model.specs.Source.{Source}
use Rattle.source_model.specs.Values.{name_text}
use Rattle.listing_constants.specs.Laws.{AttributesAreRead}
use Rattle.listing_formed.specs.Laws.{Knows}
use Rattle.listing_groups.specs.Laws.{FieldRowsAreRead}
use Rattle.listing_growth.specs.Held.{are_attributes_held, is_manifest_held, is_held}
use Rattle.listing_manifests.specs.Laws.{extern_shown, assembly_shown, IsReadAs, AssembliesAreRead, number_of, name_of, AreHeadersOf, HeadersAreRead}
use Rattle.listing_model.specs.Canon.{classes, contents}
use Rattle.listing_model.specs.Classes.{all_contents}
use Rattle.listing_model.specs.Grown.{body_of, Grows}
use Rattle.listing_model.specs.Manifests.{extern_item, extern_lines, assembly_item, header_lines, manifest_lines}
use Rattle.listing_model.specs.Shown.{Item, item, line, none, size}
use Rattle.listing_model.specs.Types.{name}
use Rattle.listing_model.specs.Values.{customs}
use Rattle.listing_reading.specs.Below.{below, cant_stand}
use Rattle.listing_reading.specs.BelowMasks.{below_masks}
use Rattle.listing_reading.specs.Laws.{SearchesPass, RunsAreRead}
use Rattle.listing_reading.specs.Numbered.{numbered}
use Rattle.listing_reading.specs.Rows.{parts_at}
use Rattle.listing_rows.specs.Laws.{SegmentsAreRead, PiecesAreRead, RunsAreFiltered, NonePass, AllOwned}
use Rattle.listing_rows.specs.Segments.{end_of, ItemsAgree, pieces_of, pieces_at, EachGrown}
use Rattle.il_lexer.specs.declared.word.TheConstants as word
use Rattle.listing_declarations.specs.Laws.{IsListingOf, extern_items, manifest_items, type_items, field_items, global_items, data_items, manifest_place, types_place, fields_place, methods_place, data_place, HasDeclarations, DeclarationsAreRead, ManifestsAreRead}
use Rattle.listing_declarations.proofs.Elsewhere.{IsWithout, IsElsewhere, IsNoLine, module_items, lines_lack, customs_lack, externs_lack, front_pieces}
use Rattle.listing_declarations.proofs.Externs.{assembly_grown, module_grown}
use Rattle.listing_declarations.proofs.Tests.{none_both, none_owned, front_owned, field_head, none_types, none_methods, none_data, customs_all, externs_pass}

-- ---- where what is sought stands

abbrev assembly_parts : List ℕ
assembly_parts = p.ASSEMBLY_ASSEMBLY_ATTR_STAR ∷ []

pub record NoAssembly : Type 0 where
  pub elsewhere : IsElsewhere assembly_parts
  pub lines : IsNoLine assembly_parts
  pub externs : cant_stand assembly_parts (body_of p.ASSEMBLY_EXTERN) ≡ true

no_assembly : NoAssembly
unfolding ilasm rule_by has_bit below below_masks
no_assembly = record {
  elsewhere = record {
    source = refl;
    more = refl;
    end = refl;
    types = record { own = refl; body = refl };
    fields = record { own = refl; body = refl };
    customs = record { own = refl; body = refl };
    methods = record { own = refl; body = refl };
    contents = record { own = refl; body = refl };
  };
  lines = record {
    names = record { own = refl; body = refl };
    customs = record { own = refl; body = refl };
    bases = record { own = refl; body = refl };
    alignments = record { own = refl; body = refl };
    stacks = record { own = refl; body = refl };
    subsystems = record { own = refl; body = refl };
    cor_flags = record { own = refl; body = refl };
  };
  externs = refl;
}

-- a line of the manifest stands there alone
pub record IsInManifest (q : ℕ) : Type 0 where
  pub elsewhere : IsElsewhere (q ∷ [])
  pub externs : IsWithout (q ∷ []) p.DECL_ASSEMBLY

pub record InManifest : Type 0 where
  pub names : IsInManifest p.DECL_MODULE
  pub bases : IsInManifest p.DECL_IMAGEBASE
  pub alignments : IsInManifest p.DECL_FILE
  pub stacks : IsInManifest p.DECL_STACKRESERVE
  pub subsystems : IsInManifest p.DECL_SUBSYSTEM
  pub cor_flags : IsInManifest p.DECL_CORFLAGS

in_manifest : InManifest
unfolding ilasm rule_by has_bit below below_masks
in_manifest = record {
  names = record {
    elsewhere = record { source = refl; more = refl; end = refl; types = record { own = refl; body = refl }; fields = record { own = refl; body = refl }; customs = record { own = refl; body = refl }; methods = record { own = refl; body = refl }; contents = record { own = refl; body = refl } };
    externs = record { own = refl; body = refl };
  };
  bases = record {
    elsewhere = record { source = refl; more = refl; end = refl; types = record { own = refl; body = refl }; fields = record { own = refl; body = refl }; customs = record { own = refl; body = refl }; methods = record { own = refl; body = refl }; contents = record { own = refl; body = refl } };
    externs = record { own = refl; body = refl };
  };
  alignments = record {
    elsewhere = record { source = refl; more = refl; end = refl; types = record { own = refl; body = refl }; fields = record { own = refl; body = refl }; customs = record { own = refl; body = refl }; methods = record { own = refl; body = refl }; contents = record { own = refl; body = refl } };
    externs = record { own = refl; body = refl };
  };
  stacks = record {
    elsewhere = record { source = refl; more = refl; end = refl; types = record { own = refl; body = refl }; fields = record { own = refl; body = refl }; customs = record { own = refl; body = refl }; methods = record { own = refl; body = refl }; contents = record { own = refl; body = refl } };
    externs = record { own = refl; body = refl };
  };
  subsystems = record {
    elsewhere = record { source = refl; more = refl; end = refl; types = record { own = refl; body = refl }; fields = record { own = refl; body = refl }; customs = record { own = refl; body = refl }; methods = record { own = refl; body = refl }; contents = record { own = refl; body = refl } };
    externs = record { own = refl; body = refl };
  };
  cor_flags = record {
    elsewhere = record { source = refl; more = refl; end = refl; types = record { own = refl; body = refl }; fields = record { own = refl; body = refl }; customs = record { own = refl; body = refl }; methods = record { own = refl; body = refl }; contents = record { own = refl; body = refl } };
    externs = record { own = refl; body = refl };
  };
}

-- ---- what a manifest in a tree and in memory holds

pub record IsFormed (a : Assembly) : Type 0 where
  pub whole : is_manifest a a.manifest ≡ true
  pub held : is_manifest_held a.manifest ≡ true
  pub cor_flags : are_cor_flags a.manifest.cor_flags ≡ true
  pub attributes : list_all (is_attribute a) a.manifest.module_attributes ≡ true
  pub attributes_held : are_attributes_held a.manifest.module_attributes ≡ true

formed_of : (s : Source) (a : Assembly) → IsListingOf s a → IsFormed a
unfolding is_manifest is_manifest_held is_held
formed_of s a listed =
    let wf = (assemblies_named a).0 listed.formed in
    let k4 = and_parts _ _ listed.held in
    let k3 = and_parts _ _ k4.0 in
    let k2 = and_parts _ _ k3.0 in
    let k1 = and_parts _ _ k2.0 in
    let h7 = and_parts _ _ wf.manifest in
    let h6 = and_parts _ _ h7.0 in
    let h5 = and_parts _ _ h6.0 in
    record { whole = wf.manifest; held = k1.0; cor_flags = h5.1; attributes = h7.1; attributes_held = (and_parts _ _ k1.0).1 }

-- the bit of the strong name's signature isn't in the tree
no_bits : (k : ℕ) → k - 0 ≡ k
no_bits k = omega arith

no_signature : (k : ℕ) → are_cor_flags k ≡ true → without_bits 8 k ≡ k
no_signature k h =
    let hs = and_parts (nat_eq (bit_and k 1) 1) (nat_eq (bit_and k 0x18) 0) h in
    let clear : bit_and k 8 ≡ 0 = sym (and_assoc 8 k 0x18) ∙ ap (λ j. bit_and j 8) (eqb-true (bit_and k 0x18) 0 hs.1) in
    ap (λ j. k - j) clear ∙ no_bits k

-- ---- the manifest

pub record ManifestLaws : Type 0 where
  pub searches : SearchesPass
  pub segments : SegmentsAreRead
  pub pieces : PiecesAreRead
  pub outside : RunsAreRead
  pub filtered : RunsAreFiltered
  pub attributes : AttributesAreRead
  pub fields : FieldRowsAreRead
  pub assemblies : AssembliesAreRead
  pub headers : HeadersAreRead
  pub declared : DeclarationsAreRead

below_extern : (externs : List ExternAssembly) (k : ℕ) (e : ExternAssembly) → Grows (body_of p.DECL_ASSEMBLY) (extern_item externs k e).below → Grows (body_of p.ASSEMBLY_EXTERN) (extern_shown externs k e)
unfolding ilasm rule_by
below_extern externs k e grown = grown.1.1

externs_without : SearchesPass → (externs : List ExternAssembly) (k : ℕ) (es : List ExternAssembly) → EachGrown n.DECL (extern_lines externs k es) → (at : ℕ) → pieces_at assembly_parts at (extern_lines externs k es) ≡ []
externs_without searches externs k [] grown at = refl
externs_without searches externs k (e ∷ es) grown at =
    let next = at + size (extern_item externs k e).below in
    let inside = searches.nothing assembly_parts (body_of p.ASSEMBLY_EXTERN) no_assembly.externs (extern_shown externs k e) (below_extern externs k e grown.1) (suc at) in
    let behind = externs_without searches externs (suc k) es grown.2 next in
    λ i. (inside i ++ []) ++ behind i

module _ (laws : ManifestLaws) (s : Source) (a : Assembly) (listed : IsListingOf s a) where
  abbrev m : Manifest
  m = a.manifest

  abbrev has : HasDeclarations s a
  has = laws.declared s a listed

  abbrev formed : IsFormed a
  formed = formed_of s a listed

  abbrev g : f.Forest
  g = numbered (suc (manifest_place a)) (assembly_shown a.externs a.manifest)

  manifest_pieces : pieces_at assembly_parts (manifest_place a) (manifest_items a) ≡ f.part p.ASSEMBLY_ASSEMBLY_ATTR_STAR g ∷ []
  unfolding manifest_lines
  manifest_pieces =
      let next = manifest_place a + size (assembly_item a.externs a.manifest).below in
      ap (λ ps. f.part p.ASSEMBLY_ASSEMBLY_ATTR_STAR g ∷ ps)
      (laws.pieces.none assembly_parts n.DECL next (module_items a) (module_grown a has.manifest_grown) (lines_lack laws.pieces assembly_parts no_assembly.lines a))

  one_is : assemblies s ≡ g ∷ []
  one_is =
      ap f.below_each
      (front_pieces laws.pieces s a has assembly_parts no_assembly.elsewhere
      ∙ (λ i. externs_without laws.searches a.externs 0 a.externs has.externs_grown 0 i ++ manifest_pieces i))

  this_is : read.this_assembly s ≡ g
  this_is = ap (f.first_or f.none) one_is

  -- ---- the lines of the module and the headers

  said_there : (q : ℕ) → IsInManifest q → f.parts (q ∷ []) s.tree ≡ pieces_at (q ∷ []) (manifest_place a) (manifest_items a)
  said_there q w =
      front_pieces laws.pieces s a has (q ∷ []) w.elsewhere
      ∙ ap (λ ps. ps ++ pieces_at (q ∷ []) (manifest_place a) (manifest_items a))
      (laws.pieces.none (q ∷ []) n.DECL 0 (extern_items a) has.externs_grown (externs_lack (q ∷ []) a.externs w.externs 0 a.externs))

  headers_of : (other : List ℕ) (number : ℕ) → AreHeadersOf s (manifest_place a) a m other number
  headers_of other number = laws.headers s a m formed.whole formed.held has.manifest_grown (manifest_place a) has.manifest other number

  abbrev named : Item
  named = item p.DECL_MODULE (line word.DOT_MODULE (name m.«module» none))

  -- the module is declared once
  module_alone : drop 1 (f.each p.DECL_MODULE s.tree) ≡ []
  unfolding manifest_lines
  module_alone =
      let sought = p.DECL_MODULE ∷ [] in
      let second = manifest_place a + size (assembly_item a.externs m).below in
      let third = second + size named.below in
      let own = customs a.externs p.DECL_CUSTOM m.module_attributes in
      let lines = header_lines a.externs m in
      let rows = laws.pieces.each n.DECL own lines (module_grown a has.manifest_grown).2 in
      let w = in_manifest.names in
      let before : pieces_of sought (manifest_place a) (assembly_item a.externs m) ++ [] ≡ [] =
      laws.pieces.none sought n.DECL (manifest_place a) (assembly_item a.externs m ∷ []) (has.manifest_grown.0, has.manifest_grown.1, tt) (w.externs.own, w.externs.body, tt) in
      let no_customs = laws.pieces.none sought n.DECL third own rows.0 (customs_lack sought a.externs w.elsewhere.customs m.module_attributes) in
      let one = f.part p.DECL_MODULE (numbered second named.below) in
      ap (λ ps. drop 1 (f.below_each ps))
      (said_there p.DECL_MODULE w
      ∙ (ap (λ ps. ps ++ (one ∷ pieces_at sought third (own ++ lines))) (sym (append-nil (pieces_of sought (manifest_place a) (assembly_item a.externs m))) ∙ before)
      ∙ ap (λ ps. one ∷ ps) (laws.pieces.joined sought third own lines ∙ ap (λ ps. ps ++ pieces_at sought (end_of third own) lines) no_customs)))

  -- ---- the attributes of the module

  abbrev own : List Item
  own = customs a.externs p.DECL_CUSTOM m.module_attributes

  abbrev third : ℕ
  third = (manifest_place a + size (assembly_item a.externs m).below) + size named.below

  abbrev fourth : ℕ
  fourth = end_of third own

  abbrev others : List f.Part
  others =
      parts_at (types_place a) (type_items a)
      ++ (parts_at (fields_place a) (field_items a)
      ++ (parts_at (methods_place a) (global_items a) ++ parts_at (data_place a) (data_items a)))

  others_owned : AllOwned others
  others_owned =
      let tail = parts_at (methods_place a) (global_items a) ++ parts_at (data_place a) (data_items a) in
      let plain = none_both is_custom (parts_at (methods_place a) (global_items a)) (parts_at (data_place a) (data_items a))
      (none_methods is_custom (λ x. refl) a.externs a.methods (methods_place a)) (none_data is_custom (λ x. refl) 0 (contents a) (data_place a)) in
      front_owned laws.filtered (parts_at (types_place a) (type_items a)) (parts_at (fields_place a) (field_items a) ++ tail)
      (none_types is_custom (λ x. refl) [] 0 (classes a) (types_place a))
      (laws.fields.owned a.externs p.DECL_FIELD p.DECL_CUSTOM field_head a.fields (fields_place a) (length (all_contents (classes a))) tail (none_owned laws.filtered tail plain))

  headers_plain : NonePass is_custom (parts_at fourth (header_lines a.externs m))
  headers_plain = (refl, (refl, (refl, (refl, (refl, tt)))))

  manifest_parts : customs_outside false (parts_at (manifest_place a) (manifest_items a) ++ others) ≡ customs_outside false (parts_at third (own ++ header_lines a.externs m) ++ others)
  unfolding manifest_lines
  manifest_parts = refl

  own_are : own_customs (declarations s.tree) ≡ parts_at third own
  own_are =
      let lines = parts_at fourth (header_lines a.externs m) in
      let mine = parts_at third own in
      ap own_customs has.parts
      ∙ (externs_pass a.externs 0 a.externs 0 (parts_at (manifest_place a) (manifest_items a) ++ others)
      ∙ (manifest_parts
      ∙ (ap (λ ps. customs_outside false (ps ++ others)) (laws.segments.parts third own (header_lines a.externs m))
      ∙ (ap (customs_outside false) (append_assoc mine lines others)
      ∙ (laws.outside.outside mine (lines ++ others) (customs_all a.externs m.module_attributes third)
      ∙ (ap (λ ps. mine ++ ps) (front_owned laws.filtered lines others headers_plain others_owned false) ∙ append-nil mine))))))

  own_agree : ItemsAgree s third own
  unfolding manifest_lines
  own_agree = (laws.segments.agree s third own (header_lines a.externs m) has.manifest.1.1).0

  -- ---- the whole

  assembly_is : Knows s a → IsReadAs s g m
  unfolding manifest_lines
  assembly_is knows = laws.assemblies s a knows m formed.whole formed.held (assembly_grown a has.manifest_grown) (suc (manifest_place a)) has.manifest.0.1.0

  manifest_is : Knows s a → read.manifest s ≡ m
  manifest_is knows =
      let r = assembly_is knows in
      let named = ap (λ x. name_text s (assembly_token x)) this_is ∙ r.name in
      let version = ap (read.version s) this_is ∙ r.version in
      let flags = ap (read.assembly_flags s) this_is ∙ r.flags in
      let key = ap (read.key s) this_is ∙ r.key in
      let culture = ap (read.culture s) this_is ∙ r.culture in
      let hash = ap (read.number_said s p.ASSEMBLY_ITEM_HASH 2 0x8004) this_is ∙ r.hash in
      let other = read.assembly_name s ++ codes ".dll" in
      let called = ap (read.last_said (name_of s) other) (said_there p.DECL_MODULE in_manifest.names) ∙ (headers_of other 0).called in
      let base = ap (read.last_said (number_of s 1) 0x400000) (said_there p.DECL_IMAGEBASE in_manifest.bases) ∙ (headers_of [] 0x400000).image_base in
      let alignment = ap (read.last_said (number_of s 2) 0x200) (said_there p.DECL_FILE in_manifest.alignments) ∙ (headers_of [] 0x200).file_alignment in
      let stack = ap (read.last_said (number_of s 1) 0x100000) (said_there p.DECL_STACKRESERVE in_manifest.stacks) ∙ (headers_of [] 0x100000).stack_reserve in
      let subsystem = ap (read.last_said (number_of s 1) 3) (said_there p.DECL_SUBSYSTEM in_manifest.subsystems) ∙ (headers_of [] 3).subsystem in
      let cor = ap (read.last_said (number_of s 1) 1) (said_there p.DECL_CORFLAGS in_manifest.cor_flags) ∙ (headers_of [] 1).cor_flags in
      let cor_flags = ap (without_bits 8) cor ∙ no_signature m.cor_flags formed.cor_flags in
      let attributes = ap (λ x. read.attributes s nothing_around (f.parts (p.ASSEMBLY_ITEM_CUSTOM ∷ []) x)) this_is ∙ r.attributes in
      let module_attributes = ap (read.attributes s nothing_around) own_are
      ∙ laws.attributes s nothing_around a knows m.module_attributes formed.attributes formed.attributes_held p.DECL_CUSTOM third own_agree in
      λ i. record {
        name = named i;
        version = version i;
        flags = flags i;
        key = key i;
        culture = culture i;
        hash = hash i;
        «module» = called i;
        image_base = base i;
        file_alignment = alignment i;
        stack_reserve = stack i;
        subsystem = subsystem i;
        cor_flags = cor_flags i;
        attributes = attributes i;
        module_attributes = module_attributes i;
      }

pub manifests_are_read : SearchesPass → SegmentsAreRead → PiecesAreRead → RunsAreRead → RunsAreFiltered → AttributesAreRead → FieldRowsAreRead → AssembliesAreRead → HeadersAreRead → DeclarationsAreRead → ManifestsAreRead
manifests_are_read searches segments pieces outside filtered attribute_laws fields assembly_laws headers declared =
    let laws : ManifestLaws = record {
      searches = searches;
      segments = segments;
      pieces = pieces;
      outside = outside;
      filtered = filtered;
      attributes = attribute_laws;
      fields = fields;
      assemblies = assembly_laws;
      headers = headers;
      declared = declared;
    } in
    record {
      modules = λ s a listed. module_alone laws s a listed;
      one = λ s a listed. one_is laws s a listed;
      read = λ s a listed knows. manifest_is laws s a listed knows;
    }
