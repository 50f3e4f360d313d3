-- The manifest of a listing breaks no rule.
use Rattle.std.proofs.Common.{◌≡◌, ℕ, suc, ◌+◌, ◌<◌, ◌≤◌, ◌^◌, pos, true, false, List, [], ◌∷◌, ◌++◌, refl, ap, sym, subst, ◌∙◌, arith}
use Rattle.std.proofs.lemmas.Bool.{and_parts, ltb-true}
use Rattle.std.specs.List.{list_all}
use Rattle.il_lexer.specs.declared.word.TheConstants as word
use Rattle.ilasm_grammar.specs.declared.productions.TheConstants as p
use Rattle.assembly_tree.specs.WellFormed.{is_manifest, is_well_formed}
use Rattle.assembly_tree.specs.WellFormedMembers.{is_attribute}
use Rattle.assembly_tree.specs.declared.assembly.Assembly.{Assembly}
use Rattle.assembly_tree.specs.declared.assembly.Manifest.{Manifest}
use Rattle.source_model.specs.Forest as f
use Rattle.source_model.specs.Nodes.{Around, nodes_in, nothing_around}
use Rattle.source_model.specs.OutOfRange.{is_32_bits}
use Rattle.source_model.specs.Source.{Source}
use Rattle.source_model.specs.Values.{integer}
use Rattle.faultless_nodes.specs.Laws.{EachBreaksNothing, UnaskedBreakNothing}
use Rattle.listing_declarations.specs.Laws.{DeclarationsAreRead, manifest_place}
use Rattle.listing_growth.specs.Held.{is_u32, is_version, are_attributes_held, is_manifest_held, is_held}
use Rattle.listing_model.specs.Manifests as written
use Rattle.listing_model.specs.Manifests.{all_below, version}
use Rattle.listing_model.specs.Members.{braces}
use Rattle.listing_model.specs.Shown.{none, Item, item, line, size}
use Rattle.listing_model.specs.Types.{name}
use Rattle.listing_model.specs.Values.{customs}
use Rattle.listing_reading.specs.Numbered.{numbered, Agrees}
use Rattle.listing_rows.specs.Laws.{SegmentsAreRead}
use Rattle.listing_rows.specs.Segments.{end_of, ItemsAgree}
use Rattle.listing_values.specs.Laws.{NumbersAreRead}
use Rattle.listing_denotes.specs.Quiet.{ItemsBreakNothing, RowsBreakNothing, HeadersBreakNothing}
use Rattle.listing_denotes.specs.Values.{NumbersAlone, AssembliesBreakNothing}
use Rattle.listing_denotes.proofs.ValuesFlags.{within, unless_none}
use Rattle.listing_denotes.proofs.ValuesExterns.{key_quiet, culture_quiet, version_line, below_joined, braces_quiet}
use Rattle.listing_denotes.specs.References.{AttributesBreakNothing}
use Rattle.listing_denotes.specs.Manifests.{ManifestsBreakNothing}

-- ---- what the manifest holds

pub record IsFit (a : Assembly) (m : Manifest) : Type 0 where
  pub attributes : list_all (is_attribute a) m.attributes ≡ true
  pub module_attributes : list_all (is_attribute a) m.module_attributes ≡ true
  pub version : is_version m.version ≡ true
  pub flags : is_u32 m.flags ≡ true
  pub hash : m.hash < 2 ^ 32
  pub attributes_held : are_attributes_held m.attributes ≡ true
  pub module_held : are_attributes_held m.module_attributes ≡ true

fit_of : (a : Assembly) (m : Manifest) → is_manifest a m ≡ true → is_manifest_held m ≡ true → IsFit a m
unfolding is_manifest is_manifest_held
fit_of a m f h =
    let f1 = and_parts _ _ f in
    let f2 = and_parts _ _ f1.0 in
    let h1 = and_parts _ _ h in
    let h2 = and_parts _ _ h1.0 in
    let h3 = and_parts _ _ h2.0 in
    let h4 = and_parts _ _ h3.0 in
    let h5 = and_parts _ _ h4.0 in
    let h6 = and_parts _ _ h5.0 in
    let h7 = and_parts _ _ h6.0 in
    let h8 = and_parts _ _ h7.0 in
    let h9 = and_parts _ _ h8.0 in
    let h10 = and_parts _ _ h9.0 in
    record {
      attributes = f2.1;
      module_attributes = f1.1;
      version = h10.0;
      flags = h10.1;
      hash = ltb-true m.hash 0x100000000 h8.1;
      attributes_held = h2.1;
      module_held = h1.1;
    }

small : (k : ℕ) → k < 2 ^ 32 → k < 2 ^ 128
small k h = omega arith

at_most : (k : ℕ) → k < 2 ^ 32 → k ≤ 0xFFFFFFFF
at_most k h = omega arith

module _ (unasked : UnaskedBreakNothing) (laws : NumbersAreRead) (alone : NumbersAlone) (assemblies : AssembliesBreakNothing) (segments : SegmentsAreRead) (rows : RowsBreakNothing) (s : Source) (a : Assembly)
    (attributes : (x : Around) (production : ℕ) → f.is_among Rattle.faultless_nodes.specs.Laws.asked production ≡ false → (cs : List _) → list_all (is_attribute a) cs ≡ true → are_attributes_held cs ≡ true → (at : ℕ) →
    ItemsAgree s at (customs a.externs production cs) → ItemsBreakNothing s x at (customs a.externs production cs))
    (m : Manifest) (fit : IsFit a m) where
  hash_quiet : (at : ℕ) → Agrees s at (written.hash_algorithm a.externs m.hash).below →
      EachBreaksNothing s (nodes_in s nothing_around (f.branch p.ASSEMBLY_ITEM_HASH (numbered at (written.hash_algorithm a.externs m.hash).below) f.none))
  hash_quiet at ag =
      let e = unless_none is_32_bits s (suc (suc at)) (pos m.hash) (ap integer ag.1.1.0.text ∙ laws.hexadecimal 8 m.hash (small m.hash fit.hash)) (within 0xFFFFFFFF m.hash (at_most m.hash fit.hash)) in
      (alone s _ refl (simp e), tt)

  keys_quiet : (at : ℕ) → ItemsAgree s at (all_below p.ASSEMBLY_ITEM_KEY (written.key m.flags m.key ++ (written.culture m.culture ++ version m.version ∷ []))) →
      ItemsBreakNothing s nothing_around at (all_below p.ASSEMBLY_ITEM_KEY (written.key m.flags m.key ++ (written.culture m.culture ++ version m.version ∷ [])))
  keys_quiet at ag =
      let keys = all_below p.ASSEMBLY_ITEM_KEY (written.key m.flags m.key) in
      let cultures = all_below p.ASSEMBLY_ITEM_KEY (written.culture m.culture) in
      let last = all_below p.ASSEMBLY_ITEM_KEY (version m.version ∷ []) in
      let same : all_below p.ASSEMBLY_ITEM_KEY (written.key m.flags m.key ++ (written.culture m.culture ++ version m.version ∷ [])) ≡ keys ++ (cultures ++ last) =
      below_joined p.ASSEMBLY_ITEM_KEY (written.key m.flags m.key) (written.culture m.culture ++ version m.version ∷ [])
      ∙ ap (λ (xs : List Item). keys ++ xs) (below_joined p.ASSEMBLY_ITEM_KEY (written.culture m.culture) (version m.version ∷ [])) in
      let there = subst (λ (xs : List Item). ItemsAgree s at xs) same ag in
      let behind = segments.agree s at keys (cultures ++ last) there in
      let behind_culture = segments.agree s (end_of at keys) cultures last behind.1 in
      subst (λ (xs : List Item). ItemsBreakNothing s nothing_around at xs) (sym same)
      (rows.joined s nothing_around at keys (cultures ++ last) (key_quiet unasked s nothing_around p.ASSEMBLY_ITEM_KEY refl m.flags m.key at)
      (rows.joined s nothing_around (end_of at keys) cultures last (culture_quiet unasked s nothing_around p.ASSEMBLY_ITEM_KEY refl m.culture (end_of at keys))
      (version_line unasked s nothing_around p.ASSEMBLY_ITEM_KEY refl laws alone m.version fit.version (end_of (end_of at keys) cultures) behind_culture.1)))

  items_quiet : (at : ℕ) → ItemsAgree s at (written.assembly_items a.externs m) → ItemsBreakNothing s nothing_around at (written.assembly_items a.externs m)
  items_quiet at ag =
      let front = customs a.externs p.ASSEMBLY_ITEM_CUSTOM m.attributes in
      let hash = written.hash_algorithm a.externs m.hash in
      let keys = all_below p.ASSEMBLY_ITEM_KEY (written.key m.flags m.key ++ (written.culture m.culture ++ version m.version ∷ [])) in
      let parts = segments.agree s at front (hash ∷ keys) ag in
      rows.joined s nothing_around at front (hash ∷ keys) (attributes nothing_around p.ASSEMBLY_ITEM_CUSTOM refl m.attributes fit.attributes fit.attributes_held at parts.0)
      (hash_quiet (end_of at front) parts.1.0, keys_quiet (end_of at front + size hash.below) parts.1.1)

  assembly_quiet : (at : ℕ) → Agrees s at (written.assembly_item a.externs m).below →
      EachBreaksNothing s (nodes_in s nothing_around (f.branch p.DECL_ASSEMBLY (numbered at (written.assembly_item a.externs m).below) f.none))
  assembly_quiet at ag =
      let g1 = name m.name (braces p.ASSEMBLY_ITEM_STAR_MORE p.ASSEMBLY_ITEM_STAR_END (written.assembly_items a.externs m)) in
      let own = numbered (suc at) (written.assembly_flags m.flags g1) in
      let inner = assemblies.flags s nothing_around m.flags fit.flags g1 (suc at) ag.1.0
      (λ i d. braces_quiet unasked laws alone assemblies segments rows s nothing_around p.ASSEMBLY_ITEM_STAR_MORE p.ASSEMBLY_ITEM_STAR_END refl refl (written.assembly_items a.externs m) (suc i) d.1 items_quiet) in
      unasked.branch s nothing_around p.DECL_ASSEMBLY (f.leaf at (f.branch p.ASSEMBLY_ASSEMBLY_ATTR_STAR own f.none)) f.none (unasked.node s _ refl)
      (unasked.branch s nothing_around p.ASSEMBLY_ASSEMBLY_ATTR_STAR own f.none (unasked.node s _ refl) inner tt) tt

  lines_quiet : ((at : ℕ) → ItemsAgree s at (written.header_lines a.externs m) → ItemsBreakNothing s nothing_around at (written.header_lines a.externs m)) → (at : ℕ) →
      ItemsAgree s at (written.manifest_lines a.externs m) → ItemsBreakNothing s nothing_around at (written.manifest_lines a.externs m)
  unfolding written.manifest_lines
  lines_quiet headers at ag =
      let own = written.assembly_item a.externs m in
      let named = item p.DECL_MODULE (line word.DOT_MODULE (name m.«module» none)) in
      let from = at + size own.below + size named.below in
      let cs = customs a.externs p.DECL_CUSTOM m.module_attributes in
      let parts = segments.agree s from cs (written.header_lines a.externs m) ag.1.1 in (
        assembly_quiet at ag.0,
        (
          (unasked.node s _ refl, tt),
          rows.joined s nothing_around from cs (written.header_lines a.externs m) (attributes nothing_around p.DECL_CUSTOM refl m.module_attributes fit.module_attributes fit.module_held from parts.0)
              (headers (end_of from cs) parts.1),
        ),
      )

formed_manifest : (a : Assembly) → is_well_formed a ≡ true → is_manifest a a.manifest ≡ true
unfolding is_well_formed
formed_manifest a h =
    let h1 = and_parts _ _ h in
    let h2 = and_parts _ _ h1.0 in
    let h3 = and_parts _ _ h2.0 in
    let h4 = and_parts _ _ h3.0 in
    h4.0

held_manifest : (a : Assembly) → is_held a ≡ true → is_manifest_held a.manifest ≡ true
unfolding is_held
held_manifest a h =
    let h1 = and_parts _ _ h in
    let h2 = and_parts _ _ h1.0 in
    let h3 = and_parts _ _ h2.0 in
    let h4 = and_parts _ _ h3.0 in
    h4.0

pub manifests_break_nothing : UnaskedBreakNothing → NumbersAreRead → NumbersAlone → AssembliesBreakNothing → AttributesBreakNothing → SegmentsAreRead → RowsBreakNothing → HeadersBreakNothing →
    DeclarationsAreRead → ManifestsBreakNothing
manifests_break_nothing unasked laws alone assemblies attributes segments rows headers declared s a listed =
    let formed = formed_manifest a listed.formed in
    let held = held_manifest a listed.held in
    lines_quiet unasked laws alone assemblies segments rows s a (λ x production q cs c h at ag. attributes s a listed x cs c h production q at ag) a.manifest (fit_of a a.manifest formed held)
    (λ at ag. headers s a a.manifest formed held at ag) (manifest_place a) (declared s a listed).manifest
