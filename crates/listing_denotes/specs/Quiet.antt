-- Which pieces of a listing break no rule (ECMA-335 II.5.10, II.16.3).
use Rattle.std.specs.Prelude.{ℕ, ◌+◌, ◌≡◌, true, false, List, [], ◌∷◌, ◌++◌, take, IsUtf8, ⊤}
use Rattle.ilasm_grammar.specs.declared.symbol.Symbol.{Symbol}
use Rattle.assembly_tree.specs.WellFormed.{is_manifest}
use Rattle.assembly_tree.specs.declared.assembly.Assembly.{Assembly}
use Rattle.assembly_tree.specs.declared.assembly.Manifest.{Manifest}
use Rattle.source_model.specs.Denotes.{Denotes}
use Rattle.source_model.specs.Forest as f
use Rattle.source_model.specs.Nodes.{Around, nodes, nodes_in, nothing_around}
use Rattle.source_model.specs.Source.{Source}
use Rattle.faultless_nodes.specs.Laws.{EachBreaksNothing, asked}
use Rattle.listing_declarations.specs.Laws.{IsListingOf, extern_items, manifest_items, type_items, field_items, global_items, data_items, manifest_place, types_place, fields_place, methods_place, data_place}
use Rattle.listing_growth.specs.Held.{is_manifest_held}
use Rattle.listing_model.specs.Canon.{listing}
use Rattle.listing_model.specs.Grown.{Grows}
use Rattle.listing_model.specs.Manifests.{header_lines}
use Rattle.listing_model.specs.Shown.{Shown, Item, size, star_production, star_below}
use Rattle.listing_reading.specs.Below.{cant_stand}
use Rattle.listing_reading.specs.Numbered.{numbered, rest, place}
use Rattle.listing_rows.specs.Segments.{end_of, ItemsAgree, EachGrown, EachLacks}
use Rattle.listing_tokens.specs.Laws.{IsListed}

-- each of a row, from this token on, breaks no rule, with what stands in it
abbrev pub ItemsBreakNothing : Source → Around → ℕ → List Item → Type 0
ItemsBreakNothing s a at [] = ⊤
ItemsBreakNothing s a at (i ∷ is) =
    EachBreaksNothing s (nodes_in s a (f.branch i.production (numbered at i.below) f.none)) × ItemsBreakNothing s a (at + size i.below) is

-- A row breaks none where its items break none, and so it is with two rows in one; items break none in which nothing can stand of which a
-- rule speaks; and first trees in which nothing of it can stand are passed over.
pub record RowsBreakNothing : Type 0 where
  pub row : (s : Source) (a : Around) (more end : ℕ) → f.is_among asked more ≡ false → f.is_among asked end ≡ false → (items : List Item) (at : ℕ) (after : f.Forest) →
      ItemsBreakNothing s a at items → EachBreaksNothing s (nodes_in s a after) →
      EachBreaksNothing s (nodes_in s a (f.branch (star_production more end items) (numbered at (star_below more end items)) after))
  pub joined : (s : Source) (a : Around) (at : ℕ) (xs ys : List Item) → ItemsBreakNothing s a at xs → ItemsBreakNothing s a (end_of at xs) ys → ItemsBreakNothing s a at (xs ++ ys)
  pub quiet : (s : Source) (a : Around) (x at : ℕ) (xs : List Item) → EachGrown x xs → EachLacks asked xs → ItemsBreakNothing s a at xs
  pub past : (s : Source) (a : Around) (k : ℕ) (symbols : List Symbol) → cant_stand asked (take k symbols) ≡ true → (g : Shown) → Grows symbols g → (at : ℕ) →
      EachBreaksNothing s (nodes_in s a (numbered (place k at g) (rest k g))) → EachBreaksNothing s (nodes_in s a (numbered at g))

-- the data of a listing break none
abbrev pub DataBreakNothing : Type 0
DataBreakNothing = (s : Source) (a : Assembly) → IsListingOf s a → ItemsBreakNothing s nothing_around (data_place a) (data_items a)

-- nor do the numbers of the headers of a manifest that is well-formed
abbrev pub HeadersBreakNothing : Type 0
HeadersBreakNothing =
    (s : Source) (a : Assembly) (m : Manifest) → is_manifest a m ≡ true → is_manifest_held m ≡ true → (at : ℕ) → ItemsAgree s at (header_lines a.externs m) →
    ItemsBreakNothing s nothing_around at (header_lines a.externs m)

-- the other declarations of a listing break none: those of other assemblies, of the assembly and its module, of types, and of fields and
-- of methods outside of any
pub record OthersBreakNothing (s : Source) (a : Assembly) : Type 0 where
  pub externs : ItemsBreakNothing s nothing_around 0 (extern_items a)
  pub manifest : ItemsBreakNothing s nothing_around (manifest_place a) (manifest_items a)
  pub types : ItemsBreakNothing s nothing_around (types_place a) (type_items a)
  pub fields : ItemsBreakNothing s nothing_around (fields_place a) (field_items a)
  pub methods : ItemsBreakNothing s nothing_around (methods_place a) (global_items a)

abbrev pub ListingsBreakByDeclarations : Type 0
ListingsBreakByDeclarations = (s : Source) (a : Assembly) → IsListingOf s a → OthersBreakNothing s a → EachBreaksNothing s (nodes s)

-- a listing denotes its assembly where these declarations break no rule
abbrev pub DeclarationsDenote : Type 0
DeclarationsDenote = (a : Assembly) → IsListed a → IsUtf8 (listing a) → ((s : Source) → IsListingOf s a → OthersBreakNothing s a) → Denotes (listing a) a
