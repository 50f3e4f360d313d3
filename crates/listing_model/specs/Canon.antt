-- The canonical source of an assembly, and single lines of it (ECMA-335 II.5, II.6).
use Rattle.std.specs.Prelude.{ℕ, suc, List, [], ◌∷◌, ◌++◌, length, map, slice_get, codes, option_map, option_and_then, Option, Some}
use Rattle.ilasm_grammar.specs.declared.productions.TheConstants as p
use Rattle.type_terms.specs.declared.name.TypeId.{TypeId}
use Rattle.type_terms.specs.declared.name.TypeName.{TypeName}
use Rattle.type_terms.specs.declared.reference.MethodRef.{MethodRef}
use Rattle.assembly_tree.specs.declared.assembly.Assembly.{Assembly}
use Rattle.assembly_tree.specs.declared.members.Method.{Method}
use Rattle.assembly_tree.specs.declared.typedef.MethodPath.{MethodPath}
use Rattle.assembly_tree.specs.declared.typedef.TypeDef.{TypeDef}
use Rattle.assembly_tree.specs.declared.typedef.TypeDef.TheViews.{out-TypeDef}
use Rattle.listing_model.specs.Classes.{ClassShown, class, all_contents, classes_from}
use Rattle.listing_model.specs.Manifests.{extern_lines, manifest_lines}
use Rattle.listing_model.specs.Members.{fields, field_contents, own_reference}
use Rattle.listing_model.specs.Methods.{method}
use Rattle.listing_model.specs.References.{method_ref}
use Rattle.listing_model.specs.Shown.{Shown, none, branch, Item, item, put, star}
use Rattle.listing_model.specs.Text.{text, line_text}
use Rattle.listing_model.specs.Types.{type_name}
use Rattle.listing_model.specs.Values.{data_line}

-- ---- methods by their places

-- the methods of a type, and the path of the type
pub record Placed : Type 0 where
  pub path : List TypeId
  pub methods : List Method

abbrev pub module_path : List TypeId
module_path = record { space = []; name = codes "<Module>" } ∷ []

-- the type that places lead to, inwards from a type that is nested in those of a path
abbrev pub inwards : TypeDef → List ℕ → List TypeId → Option Placed
inwards t [] outer = Some (record { path = outer ++ (out-TypeDef t).id ∷ []; methods = (out-TypeDef t).methods })
inwards t (k ∷ ks) outer = option_and_then (λ u. inwards u ks (outer ++ (out-TypeDef t).id ∷ [])) (slice_get (out-TypeDef t).nested k)

-- ---- the whole

abbrev pub data_lines : ℕ → List (List ℕ) → List Item
data_lines k [] = []
data_lines k (bytes ∷ more) = data_line k bytes ∷ data_lines (suc k) more

module _ (a : Assembly) where
  abbrev pub classes : List ClassShown
  classes = map (class a.externs) a.types

  -- the data of all fields, in the order in which the fields stand in the listing
  abbrev pub contents : List (List ℕ)
  contents = all_contents (classes) ++ field_contents a.fields

  -- the declarations: externs, the assembly, its module, the types, the fields and methods of `<Module>`, and data
  abbrev pub declarations : List Item
  declarations =
      extern_lines a.externs 0 a.externs
      ++ (manifest_lines a.externs a.manifest
      ++ (classes_from p.DECL_CLASS [] 0 (classes)
      ++ (fields a.externs p.DECL_FIELD p.DECL_CUSTOM (length (all_contents (classes))) a.fields
      ++ (map (λ m. item p.DECL_METHOD (put (method a.externs m) none)) a.methods
      ++ data_lines 0 (contents)))))

  abbrev pub source_of : List Item → Shown
  source_of [] = none
  source_of (d ∷ ds) = branch p.SOURCE (put d (star p.DECL_STAR_MORE p.DECL_STAR_END ds none)) none

  -- the canonical source of an assembly, as a derivation whose leaves carry their spellings
  unfoldable pub canon : Shown
  canon = source_of (declarations)

  -- and its text
  unfoldable pub listing : List ℕ
  listing = text (canon)

  -- ---- single lines

  -- a reference to a method, and a type's name, as the listing spells them
  unfoldable pub reference_line : MethodRef → List ℕ
  reference_line r = line_text (put (method_ref a.externs r) none)

  unfoldable pub type_line : TypeName → List ℕ
  type_line t = line_text (put (type_name a.externs t) none)

  -- the types and the path that places lead to, inwards from `<Module>`, and the methods there
  abbrev pub methods_at : List ℕ → Option Placed
  methods_at [] = Some (record { path = module_path; methods = a.methods })
  methods_at (k ∷ ks) = option_and_then (λ t. inwards t ks []) (slice_get a.types k)

  -- the reference to a declared method by its place, as its own class names it
  unfoldable pub reference_at : MethodPath → Option MethodRef
  reference_at path =
      option_and_then (λ p. option_map (own_reference p.path) (slice_get p.methods path.method)) (methods_at path.types)
