-- The assemblies that a listing names.
use Rattle.std.proofs.Common.{◌≡◌, ℕ, suc, ◌+◌, true, List, [], ◌∷◌, ◌++◌, map, refl, ap, ◌∙◌, append-nil}
use Rattle.std.proofs.lemmas.Bool.{and_parts}
use Rattle.ilasm_grammar.specs.Ilasm.{ilasm, rule_by, has_bit}
use Rattle.ilasm_grammar.specs.declared.nonterminals.TheConstants as n
use Rattle.ilasm_grammar.specs.declared.productions.TheConstants as p
use Rattle.assembly_tree.specs.declared.assembly.Assembly.{Assembly}
use Rattle.assembly_tree.specs.declared.assembly.ExternAssembly.{ExternAssembly}
use Rattle.assembly_tree.proofs.FormedFacts.{assemblies_named}
use Rattle.source_model.specs.Forest as f
use Rattle.source_model.specs.Manifests.{extern_assemblies, extern_assembly}
use Rattle.source_model.specs.Names.{externs}
use Rattle.source_model.specs.Source.{Source}
use Rattle.listing_growth.specs.Held.{is_held}
use Rattle.listing_manifests.specs.Laws.{extern_shown, extern_parts, assembly_shown, ExternsAreRead}
use Rattle.listing_model.specs.Grown.{body_of, Grows}
use Rattle.listing_model.specs.Manifests.{extern_item, extern_lines, assembly_item, manifest_lines}
use Rattle.listing_model.specs.Shown.{size}
use Rattle.listing_reading.specs.Below.{below, cant_stand}
use Rattle.listing_reading.specs.BelowMasks.{below_masks}
use Rattle.listing_reading.specs.Laws.{SearchesPass}
use Rattle.listing_reading.specs.Numbered.{numbered}
use Rattle.listing_rows.specs.Laws.{PiecesAreRead}
use Rattle.listing_rows.specs.Segments.{pieces_at, EachGrown}
use Rattle.listing_declarations.specs.Laws.{IsListingOf, extern_items, manifest_items, manifest_place, HasDeclarations, DeclarationsAreRead, extern_forests, ExternsAreNamed}
use Rattle.listing_declarations.proofs.Elsewhere.{IsElsewhere, IsNoLine, module_items, lines_lack, front_pieces}

pub record NoExtern : Type 0 where
  pub elsewhere : IsElsewhere extern_parts
  pub lines : IsNoLine extern_parts
  pub assembly : cant_stand extern_parts (body_of p.ASSEMBLY_ASSEMBLY_ATTR_STAR) ≡ true

no_extern : NoExtern
unfolding ilasm rule_by has_bit below below_masks
no_extern = record {
  elsewhere = record {
    source = refl;
    more = refl;
    end = refl;
    types = record { own = refl; body = refl };
    fields = record { own = refl; body = refl };
    customs = record { own = refl; body = refl };
    methods = record { own = refl; body = refl };
    contents = record { own = refl; body = refl };
  };
  lines = record {
    names = record { own = refl; body = refl };
    customs = record { own = refl; body = refl };
    bases = record { own = refl; body = refl };
    alignments = record { own = refl; body = refl };
    stacks = record { own = refl; body = refl };
    subsystems = record { own = refl; body = refl };
    cor_flags = record { own = refl; body = refl };
  };
  assembly = refl;
}

forests_are : (all : List ExternAssembly) (at k : ℕ) (es : List ExternAssembly) → f.below_each (pieces_at extern_parts at (extern_lines all k es)) ≡ extern_forests all at k es
forests_are all at k [] = refl
forests_are all at k (e ∷ es) =
    ap (λ gs. numbered (suc at) (extern_shown all k e) ∷ gs) (forests_are all (at + size (extern_item all k e).below) (suc k) es)

-- the assembly's own declaration, over its body
pub assembly_grown : (a : Assembly) → EachGrown n.DECL (manifest_items a) → Grows (body_of p.ASSEMBLY_ASSEMBLY_ATTR_STAR) (assembly_shown a.externs a.manifest)
unfolding manifest_lines ilasm rule_by
assembly_grown a grown = grown.1.1.1

pub module_grown : (a : Assembly) → EachGrown n.DECL (manifest_items a) → EachGrown n.DECL (module_items a)
unfolding manifest_lines
module_grown a grown = grown.2

module _ (searches : SearchesPass) (pieces : PiecesAreRead) (s : Source) (a : Assembly) (has : HasDeclarations s a) where
  no_other : pieces_at extern_parts (manifest_place a) (manifest_items a) ≡ []
  unfolding manifest_lines
  no_other =
      let next = manifest_place a + size (assembly_item a.externs a.manifest).below in
      let none_inside = searches.nothing extern_parts (body_of p.ASSEMBLY_ASSEMBLY_ATTR_STAR) no_extern.assembly (assembly_shown a.externs a.manifest) (assembly_grown a has.manifest_grown) (suc (manifest_place a)) in
      let none_behind = pieces.none extern_parts n.DECL next (module_items a) (module_grown a has.manifest_grown) (lines_lack pieces extern_parts no_extern.lines a) in
      λ i. (none_inside i ++ []) ++ none_behind i

  parts_are : f.parts extern_parts s.tree ≡ pieces_at extern_parts 0 (extern_items a)
  parts_are =
      let own = pieces_at extern_parts 0 (extern_items a) in
      front_pieces pieces s a has extern_parts no_extern.elsewhere ∙ (ap (λ ps. own ++ ps) no_other ∙ append-nil own)

module _ (searches : SearchesPass) (pieces : PiecesAreRead) (read : ExternsAreRead) (declared : DeclarationsAreRead) (s : Source) (a : Assembly) (listed : IsListingOf s a) where
  read_all : extern_assemblies s ≡ a.externs
  unfolding is_held
  read_all =
      let has = declared s a listed in
      let wf = (assemblies_named a).0 listed.formed in
      let h4 = and_parts _ _ listed.held in
      let h3 = and_parts _ _ h4.0 in
      let h2 = and_parts _ _ h3.0 in
      let h1 = and_parts _ _ h2.0 in
      ap (λ ps. map (extern_assembly s) (f.below_each ps)) (parts_are searches pieces s a has)
      ∙ read.all s a.externs 0 a.externs wf.externs h1.1 has.externs_grown 0 has.externs

pub externs_are_named : SearchesPass → PiecesAreRead → ExternsAreRead → DeclarationsAreRead → ExternsAreNamed
externs_are_named searches pieces read declared = record {
  forests = λ s a listed. ap f.below_each (parts_are searches pieces s a (declared s a listed)) ∙ forests_are a.externs 0 0 a.externs;
  read = λ s a listed. read_all searches pieces read declared s a listed;
}
