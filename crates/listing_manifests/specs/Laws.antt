-- What the manifest of a listing, and the assemblies that it names, are read as (ECMA-335 II.6.2, II.6.3, II.25.2.3).
use Rattle.std.specs.Prelude.{ℕ, ◌≡◌, true, List, [], ◌∷◌, map}
use Rattle.std.specs.List.{list_all}
use Rattle.ilasm_grammar.specs.declared.nonterminals.TheConstants as n
use Rattle.ilasm_grammar.specs.declared.productions.TheConstants as p
use Rattle.assembly_tree.specs.WellFormed.{is_extern, is_manifest}
use Rattle.assembly_tree.specs.declared.assembly.Assembly.{Assembly}
use Rattle.assembly_tree.specs.declared.assembly.ExternAssembly.{ExternAssembly}
use Rattle.assembly_tree.specs.declared.assembly.Manifest.{Manifest}
use Rattle.source_model.specs.Forest as f
use Rattle.source_model.specs.Manifests as read
use Rattle.source_model.specs.Manifests.{extern_assembly}
use Rattle.source_model.specs.Names.{assembly_token}
use Rattle.source_model.specs.Nodes.{nothing_around}
use Rattle.source_model.specs.Shapes.{natural}
use Rattle.source_model.specs.Source.{Source}
use Rattle.source_model.specs.Values.{name_text, int_at}
use Rattle.listing_formed.specs.Laws.{Knows}
use Rattle.listing_growth.specs.Held.{is_extern_held, is_manifest_held}
use Rattle.listing_model.specs.Grown.{body_of, Grows}
use Rattle.listing_model.specs.Manifests as written
use Rattle.listing_model.specs.Shown.{Shown, none, leaf, branch}
use Rattle.listing_reading.specs.Numbered.{numbered, Agrees}
use Rattle.listing_rows.specs.Segments.{ItemsAgree, pieces_at, EachGrown}

-- what stands below the first production of a piece
abbrev pub inside : Shown → Shown
inside none = none
inside (leaf l after) = inside after
inside (branch q below after) = below

-- another assembly, as it stands below `.assembly`; `k` is its number among the externs
abbrev pub extern_shown : List ExternAssembly → ℕ → ExternAssembly → Shown
extern_shown externs k e = inside (written.extern_item externs k e).below

abbrev pub extern_parts : List ℕ
extern_parts = p.ASSEMBLY_EXTERN ∷ []

-- An assembly that a listing names is read as this one, in a source that has it; and so are all in a row of declarations.
pub record ExternsAreRead : Type 0 where
  pub one : (s : Source) (externs : List ExternAssembly) (k : ℕ) (e : ExternAssembly) → is_extern e ≡ true → is_extern_held e ≡ true →
      Grows (body_of p.ASSEMBLY_EXTERN) (extern_shown externs k e) → (at : ℕ) → Agrees s at (extern_shown externs k e) →
      extern_assembly s (numbered at (extern_shown externs k e)) ≡ e
  pub all : (s : Source) (externs : List ExternAssembly) (k : ℕ) (es : List ExternAssembly) → list_all is_extern es ≡ true → list_all is_extern_held es ≡ true →
      EachGrown n.DECL (written.extern_lines externs k es) → (at : ℕ) → ItemsAgree s at (written.extern_lines externs k es) →
      map (extern_assembly s) (f.below_each (pieces_at extern_parts at (written.extern_lines externs k es))) ≡ es

-- ---- the assembly

-- as it stands below `.assembly`
abbrev pub assembly_shown : List ExternAssembly → Manifest → Shown
assembly_shown externs m = inside (written.assembly_item externs m).below

-- what a source says of its assembly there is what the manifest says of it
pub record IsReadAs (s : Source) (g : f.Forest) (m : Manifest) : Type 0 where
  pub name : name_text s (assembly_token g) ≡ m.name
  pub version : read.version s g ≡ m.version
  pub flags : read.assembly_flags s g ≡ m.flags
  pub key : read.key s g ≡ m.key
  pub culture : read.culture s g ≡ m.culture
  pub hash : read.number_said s p.ASSEMBLY_ITEM_HASH 2 0x8004 g ≡ m.hash
  pub attributes : read.attributes s nothing_around (f.parts (p.ASSEMBLY_ITEM_CUSTOM ∷ []) g) ≡ m.attributes

-- The assembly of a listing is read as this one, in a source that has it and knows the other assemblies.
abbrev pub AssembliesAreRead : Type 0
AssembliesAreRead =
    (s : Source) (a : Assembly) → Knows s a → (m : Manifest) → is_manifest a m ≡ true → is_manifest_held m ≡ true →
    Grows (body_of p.ASSEMBLY_ASSEMBLY_ATTR_STAR) (assembly_shown a.externs m) → (at : ℕ) → Agrees s at (assembly_shown a.externs m) →
    IsReadAs s (numbered at (assembly_shown a.externs m)) m

-- ---- the module and the headers

abbrev pub name_of : Source → f.Part → List ℕ
name_of s q = name_text s (f.leaf_at 1 q.below)

-- the number at this place among the tokens of a line
abbrev pub number_of : Source → ℕ → f.Part → ℕ
number_of s k q = natural (int_at s (f.leaf_at k q.below))

-- the number that the last line of this production among the lines of the manifest says
abbrev pub said : Source → ℕ → Assembly → Manifest → ℕ → ℕ → ℕ → ℕ
said s at a m number production k = read.last_said (number_of s k) number (pieces_at (production ∷ []) at (written.manifest_lines a.externs m))

-- the module's name and the numbers of the headers, whatever is said where no line says one
pub record AreHeadersOf (s : Source) (at : ℕ) (a : Assembly) (m : Manifest) (other : List ℕ) (number : ℕ) : Type 0 where
  pub called : read.last_said (name_of s) other (pieces_at (p.DECL_MODULE ∷ []) at (written.manifest_lines a.externs m)) ≡ m.«module»
  pub image_base : said s at a m number p.DECL_IMAGEBASE 1 ≡ m.image_base
  pub file_alignment : said s at a m number p.DECL_FILE 2 ≡ m.file_alignment
  pub stack_reserve : said s at a m number p.DECL_STACKRESERVE 1 ≡ m.stack_reserve
  pub subsystem : said s at a m number p.DECL_SUBSYSTEM 1 ≡ m.subsystem
  pub cor_flags : said s at a m number p.DECL_CORFLAGS 1 ≡ m.cor_flags

-- The lines of the manifest say them, in a source that has these lines.
abbrev pub HeadersAreRead : Type 0
HeadersAreRead =
    (s : Source) (a : Assembly) (m : Manifest) → is_manifest a m ≡ true → is_manifest_held m ≡ true → EachGrown n.DECL (written.manifest_lines a.externs m) →
    (at : ℕ) → ItemsAgree s at (written.manifest_lines a.externs m) → (other : List ℕ) (number : ℕ) → AreHeadersOf s at a m other number
