-- What the declarations of a whole listing are read as (ECMA-335 II.5.10, II.6.2, II.6.3, II.10.8).
use Rattle.std.specs.Prelude.{ℕ, suc, ◌+◌, ◌≡◌, ◌≤◌, ◌^◌, false, List, [], ◌∷◌, ◌++◌, length, drop, IsTrue}
use Rattle.ilasm_grammar.specs.declared.nonterminals.TheConstants as n
use Rattle.ilasm_grammar.specs.declared.productions.TheConstants as p
use Rattle.assembly_tree.specs.Weight.{weight_of}
use Rattle.assembly_tree.specs.WellFormed.{is_well_formed}
use Rattle.assembly_tree.specs.declared.assembly.Assembly.{Assembly}
use Rattle.assembly_tree.specs.declared.assembly.ExternAssembly.{ExternAssembly}
use Rattle.source_model.specs.Classes.{classes_in}
use Rattle.source_model.specs.Forest as f
use Rattle.source_model.specs.Items as read
use Rattle.source_model.specs.Manifests.{extern_assemblies, manifest}
use Rattle.source_model.specs.Members.{fields, methods}
use Rattle.source_model.specs.Names.{externs, assemblies}
use Rattle.source_model.specs.Nodes.{nothing_around}
use Rattle.source_model.specs.Source.{Source}
use Rattle.listing_formed.specs.Laws.{Knows}
use Rattle.listing_groups.specs.Laws.{HaveContents, are_short, method_items}
use Rattle.listing_growth.specs.Held.{is_held}
use Rattle.listing_manifests.specs.Laws.{extern_shown, assembly_shown}
use Rattle.listing_model.specs.Canon.{canon, classes, contents, data_lines}
use Rattle.listing_model.specs.Classes.{all_contents, classes_from}
use Rattle.listing_model.specs.Manifests.{extern_item, extern_lines, manifest_lines}
use Rattle.listing_model.specs.Members as written
use Rattle.listing_model.specs.Shown.{Item, size}
use Rattle.listing_reading.specs.Numbered.{numbered, Agrees}
use Rattle.listing_reading.specs.Rows.{parts_at}
use Rattle.listing_rows.specs.Segments.{end_of, ItemsAgree, pieces_at, EachGrown}
use Rattle.listing_nesting.specs.Laws.{types_at}

-- the source that the listing of an assembly is, by its derivation and its tokens
pub record IsListingOf (s : Source) (a : Assembly) : Type 0 where
  pub tree : s.tree ≡ numbered 0 (canon a)
  pub tokens : Agrees s 0 (canon a)
  pub formed : IsTrue (is_well_formed a)
  pub held : IsTrue (is_held a)
  pub light : weight_of a ≤ 2 ^ 26

-- ---- its declarations

module _ (a : Assembly) where
  -- those of other assemblies, of the assembly and its module, of types, of fields and of methods outside of any, and of data
  abbrev pub extern_items : List Item
  extern_items = extern_lines a.externs 0 a.externs

  abbrev pub manifest_items : List Item
  manifest_items = manifest_lines a.externs a.manifest

  abbrev pub type_items : List Item
  type_items = classes_from p.DECL_CLASS [] 0 (classes a)

  abbrev pub field_items : List Item
  field_items = written.fields a.externs p.DECL_FIELD p.DECL_CUSTOM (length (all_contents (classes a))) a.fields

  abbrev pub global_items : List Item
  global_items = method_items a.externs p.DECL_METHOD a.methods

  abbrev pub data_items : List Item
  data_items = data_lines 0 (contents a)

  -- the first token of each, but for the first
  abbrev pub manifest_place : ℕ
  manifest_place = end_of 0 extern_items

  abbrev pub types_place : ℕ
  types_place = end_of manifest_place manifest_items

  abbrev pub fields_place : ℕ
  fields_place = end_of types_place type_items

  abbrev pub methods_place : ℕ
  methods_place = end_of fields_place field_items

  abbrev pub data_place : ℕ
  data_place = end_of methods_place global_items

-- The declarations of a source that is a listing: each is derived from its nonterminal and its tokens are there; what is sought in the
-- source is sought in each of them.
pub record HasDeclarations (s : Source) (a : Assembly) : Type 0 where
  pub externs : ItemsAgree s 0 (extern_items a)
  pub manifest : ItemsAgree s (manifest_place a) (manifest_items a)
  pub types : ItemsAgree s (types_place a) (type_items a)
  pub fields : ItemsAgree s (fields_place a) (field_items a)
  pub methods : ItemsAgree s (methods_place a) (global_items a)
  pub contents : ItemsAgree s (data_place a) (data_items a)
  pub externs_grown : EachGrown n.DECL (extern_items a)
  pub manifest_grown : EachGrown n.DECL (manifest_items a)
  pub types_grown : EachGrown n.DECL (type_items a)
  pub fields_grown : EachGrown n.DECL (field_items a)
  pub methods_grown : EachGrown n.DECL (global_items a)
  pub contents_grown : EachGrown n.DECL (data_items a)
  pub pieces : (sought : List ℕ) → f.is_among sought p.SOURCE ≡ false → f.is_among sought p.DECL_STAR_MORE ≡ false → f.is_among sought p.DECL_STAR_END ≡ false →
      f.parts sought s.tree
      ≡ pieces_at sought 0 (extern_items a)
      ++ (pieces_at sought (manifest_place a) (manifest_items a)
      ++ (pieces_at sought (types_place a) (type_items a)
      ++ (pieces_at sought (fields_place a) (field_items a)
      ++ (pieces_at sought (methods_place a) (global_items a) ++ pieces_at sought (data_place a) (data_items a)))))
  pub parts : read.declarations s.tree
      ≡ parts_at 0 (extern_items a)
      ++ (parts_at (manifest_place a) (manifest_items a)
      ++ (parts_at (types_place a) (type_items a)
      ++ (parts_at (fields_place a) (field_items a)
      ++ (parts_at (methods_place a) (global_items a) ++ parts_at (data_place a) (data_items a)))))
  pub type_rows : classes_in s nothing_around s.tree ≡ types_at s nothing_around (types_place a) (type_items a)

abbrev pub DeclarationsAreRead : Type 0
DeclarationsAreRead = (s : Source) (a : Assembly) → IsListingOf s a → HasDeclarations s a

-- ---- the manifest

-- other assemblies from this token on, each by what stands below its production
abbrev pub extern_forests : List ExternAssembly → ℕ → ℕ → List ExternAssembly → List f.Forest
extern_forests all at k [] = []
extern_forests all at k (e ∷ es) = numbered (suc at) (extern_shown all k e) ∷ extern_forests all (at + size (extern_item all k e).below) (suc k) es

-- The assemblies that a listing names: what declares each, and what they are read as.
pub record ExternsAreNamed : Type 0 where
  pub forests : (s : Source) (a : Assembly) → IsListingOf s a → externs s ≡ extern_forests a.externs 0 0 a.externs
  pub read : (s : Source) (a : Assembly) → IsListingOf s a → extern_assemblies s ≡ a.externs

-- The manifest of a listing in a source that knows the other assemblies; and the one assembly and the one module that it declares.
pub record ManifestsAreRead : Type 0 where
  pub modules : (s : Source) (a : Assembly) → IsListingOf s a → drop 1 (f.each p.DECL_MODULE s.tree) ≡ []
  pub one : (s : Source) (a : Assembly) → IsListingOf s a → assemblies s ≡ numbered (suc (manifest_place a)) (assembly_shown a.externs a.manifest) ∷ []
  pub read : (s : Source) (a : Assembly) → IsListingOf s a → Knows s a → manifest s ≡ a.manifest

-- ---- what stands outside of any type

pub record GlobalsAreRead : Type 0 where
  pub fields : (s : Source) (a : Assembly) → IsListingOf s a → Knows s a → HaveContents s (length (all_contents (classes a))) a.fields →
      fields s nothing_around (read.declarations s.tree) ≡ a.fields
  pub methods : (s : Source) (a : Assembly) → IsListingOf s a → Knows s a → are_short a.methods →
      methods s nothing_around (read.declarations s.tree) ≡ a.methods
