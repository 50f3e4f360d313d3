-- Declarations that can't hold what is sought.
use Rattle.std.proofs.Common.{◌≡◌, ℕ, suc, ◌+◌, true, false, List, [], ◌∷◌, ◌++◌, length, ap, ◌∙◌, append-nil}
use Rattle.il_lexer.specs.declared.word.TheConstants as word
use Rattle.ilasm_grammar.specs.declared.nonterminals.TheConstants as n
use Rattle.ilasm_grammar.specs.declared.productions.TheConstants as p
use Rattle.type_terms.specs.declared.name.TypeId.{TypeId}
use Rattle.assembly_tree.specs.declared.assembly.Assembly.{Assembly}
use Rattle.assembly_tree.specs.declared.assembly.ExternAssembly.{ExternAssembly}
use Rattle.assembly_tree.specs.declared.members.Attribute.{Attribute}
use Rattle.assembly_tree.specs.declared.members.Field.{Field}
use Rattle.assembly_tree.specs.declared.members.Method.{Method}
use Rattle.source_model.specs.Forest as f
use Rattle.source_model.specs.Source.{Source}
use Rattle.listing_groups.specs.Laws.{method_items}
use Rattle.listing_model.specs.Canon.{classes, contents, data_lines}
use Rattle.listing_model.specs.Classes.{ClassShown, all_contents, classes_from}
use Rattle.listing_model.specs.Grown.{body_of}
use Rattle.listing_model.specs.Manifests.{extern_lines, header_lines}
use Rattle.listing_model.specs.Members.{fields, behind_field}
use Rattle.listing_model.specs.Shown.{Item, item, line, none}
use Rattle.listing_model.specs.Types.{name}
use Rattle.listing_model.specs.Values.{customs}
use Rattle.listing_reading.specs.Below.{cant_stand}
use Rattle.listing_rows.specs.Laws.{PiecesAreRead}
use Rattle.listing_rows.specs.Segments.{pieces_at, EachLacks}
use Rattle.listing_declarations.specs.Laws.{type_items, field_items, global_items, data_items, manifest_items, extern_items, manifest_place, types_place, fields_place, methods_place, data_place, HasDeclarations}

-- a production that isn't sought, and can't hold what is
pub record IsWithout (sought : List ℕ) (q : ℕ) : Type 0 where
  pub own : f.is_among sought q ≡ false
  pub body : cant_stand sought (body_of q) ≡ true

-- none of what is sought stands in types, in fields, methods and attributes outside of any, and in data
pub record IsElsewhere (sought : List ℕ) : Type 0 where
  pub source : f.is_among sought p.SOURCE ≡ false
  pub more : f.is_among sought p.DECL_STAR_MORE ≡ false
  pub end : f.is_among sought p.DECL_STAR_END ≡ false
  pub types : IsWithout sought p.DECL_CLASS
  pub fields : IsWithout sought p.DECL_FIELD
  pub customs : IsWithout sought p.DECL_CUSTOM
  pub methods : IsWithout sought p.DECL_METHOD
  pub contents : IsWithout sought p.DECL_DATA

module _ (sought : List ℕ) where
  pub types_lack : IsWithout sought p.DECL_CLASS → (outer : List TypeId) (k : ℕ) (cs : List ClassShown) → EachLacks sought (classes_from p.DECL_CLASS outer k cs)
  types_lack w outer k [] = tt
  types_lack w outer k (c ∷ cs) = (w.own, w.body, types_lack w outer (k + length c.contents) cs)

  pub customs_lack : (externs : List ExternAssembly) → IsWithout sought p.DECL_CUSTOM → (xs : List Attribute) → EachLacks sought (customs externs p.DECL_CUSTOM xs)
  customs_lack externs w [] = tt
  customs_lack externs w (x ∷ xs) = (w.own, w.body, customs_lack externs w xs)

  pub fields_lack : PiecesAreRead → (externs : List ExternAssembly) → IsWithout sought p.DECL_FIELD → IsWithout sought p.DECL_CUSTOM → (k : ℕ) (xs : List Field) →
      EachLacks sought (fields externs p.DECL_FIELD p.DECL_CUSTOM k xs)
  fields_lack pieces externs w c k [] = tt
  fields_lack pieces externs w c k (x ∷ xs) = (
    w.own,
    w.body,
    pieces.lack sought (customs externs p.DECL_CUSTOM x.attributes) (fields externs p.DECL_FIELD p.DECL_CUSTOM (behind_field k x.content) xs)
        (customs_lack externs c x.attributes) (fields_lack pieces externs w c (behind_field k x.content) xs),
  )

  pub methods_lack : (externs : List ExternAssembly) → IsWithout sought p.DECL_METHOD → (ms : List Method) → EachLacks sought (method_items externs p.DECL_METHOD ms)
  methods_lack externs w [] = tt
  methods_lack externs w (m ∷ ms) = (w.own, w.body, methods_lack externs w ms)

  pub data_lack : IsWithout sought p.DECL_DATA → (k : ℕ) (all : List (List ℕ)) → EachLacks sought (data_lines k all)
  data_lack w k [] = tt
  data_lack w k (bytes ∷ more) = (w.own, w.body, data_lack w (suc k) more)

  pub externs_lack : (externs : List ExternAssembly) → IsWithout sought p.DECL_ASSEMBLY → (k : ℕ) (es : List ExternAssembly) → EachLacks sought (extern_lines externs k es)
  externs_lack externs w k [] = tt
  externs_lack externs w k (e ∷ es) = (w.own, w.body, externs_lack externs w (suc k) es)

-- ---- the manifest

-- the declarations of the module, and the numbers of the headers
abbrev pub module_items : Assembly → List Item
module_items a =
    item p.DECL_MODULE (line word.DOT_MODULE (name a.manifest.«module» none))
    ∷ (customs a.externs p.DECL_CUSTOM a.manifest.module_attributes ++ header_lines a.externs a.manifest)

-- none of what is sought stands there
pub record IsNoLine (sought : List ℕ) : Type 0 where
  pub names : IsWithout sought p.DECL_MODULE
  pub customs : IsWithout sought p.DECL_CUSTOM
  pub bases : IsWithout sought p.DECL_IMAGEBASE
  pub alignments : IsWithout sought p.DECL_FILE
  pub stacks : IsWithout sought p.DECL_STACKRESERVE
  pub subsystems : IsWithout sought p.DECL_SUBSYSTEM
  pub cor_flags : IsWithout sought p.DECL_CORFLAGS

pub lines_lack : PiecesAreRead → (sought : List ℕ) → IsNoLine sought → (a : Assembly) → EachLacks sought (module_items a)
lines_lack pieces sought h a = (
  h.names.own,
  h.names.body,
  pieces.lack sought (customs a.externs p.DECL_CUSTOM a.manifest.module_attributes) (header_lines a.externs a.manifest)
      (customs_lack sought a.externs h.customs a.manifest.module_attributes)
      (h.bases.own, h.bases.body, (h.alignments.own, h.alignments.body, (h.stacks.own, h.stacks.body, (h.subsystems.own, h.subsystems.body, (h.cor_flags.own, h.cor_flags.body, tt))))),
)

-- ---- the whole

-- what is sought in a listing is sought in its first declarations alone
module _ (pieces : PiecesAreRead) (s : Source) (a : Assembly) (has : HasDeclarations s a) (sought : List ℕ) (w : IsElsewhere sought) where
  pub front_pieces : f.parts sought s.tree ≡ pieces_at sought 0 (extern_items a) ++ pieces_at sought (manifest_place a) (manifest_items a)
  front_pieces =
      let one = pieces_at sought 0 (extern_items a) in
      let two = pieces_at sought (manifest_place a) (manifest_items a) in
      let no_types = pieces.none sought n.DECL (types_place a) (type_items a) has.types_grown (types_lack sought w.types [] 0 (classes a)) in
      let no_fields = pieces.none sought n.DECL (fields_place a) (field_items a) has.fields_grown (fields_lack sought pieces a.externs w.fields w.customs (length (all_contents (classes a))) a.fields) in
      let no_methods = pieces.none sought n.DECL (methods_place a) (global_items a) has.methods_grown (methods_lack sought a.externs w.methods a.methods) in
      let no_data = pieces.none sought n.DECL (data_place a) (data_items a) has.contents_grown (data_lack sought w.contents 0 (contents a)) in
      has.pieces sought w.source w.more w.end
      ∙ ((λ i. one ++ (two ++ (no_types i ++ (no_fields i ++ (no_methods i ++ no_data i))))) ∙ ap (λ ps. one ++ ps) (append-nil two))
