-- The types of a listing break no rule, and so a listing denotes its assembly (ECMA-335 II.10).
use Rattle.std.specs.Prelude.{ℕ, ◌≡◌, Bool, false, List, [], ◌∷◌, map, IsUtf8}
use Rattle.ilasm_grammar.specs.declared.nonterminals.TheConstants as n
use Rattle.ilasm_grammar.specs.declared.symbol.Symbol.TheVariants.{Nonterminal}
use Rattle.type_terms.specs.declared.name.TypeId.{TypeId}
use Rattle.assembly_tree.specs.declared.assembly.Assembly.{Assembly}
use Rattle.assembly_tree.specs.declared.typedef.TypeDef.{TypeDef}
use Rattle.source_model.specs.Denotes.{Denotes}
use Rattle.source_model.specs.Forest as f
use Rattle.source_model.specs.Nodes.{Around, nothing_around}
use Rattle.source_model.specs.Source.{Source}
use Rattle.faultless_nodes.specs.Laws.{asked}
use Rattle.listing_declarations.specs.Laws.{IsListingOf, type_items, types_place}
use Rattle.listing_model.specs.Canon.{listing, contents}
use Rattle.listing_model.specs.Classes.{class, all_contents, classes_from}
use Rattle.listing_model.specs.Grown.{body_of}
use Rattle.listing_nesting.specs.Laws.{AreNested, StandAt}
use Rattle.listing_rows.specs.Segments.{ItemsAgree, EachGrown}
use Rattle.listing_tokens.specs.Laws.{IsListed}
use Rattle.listing_denotes.specs.Methods.{entered_is_same}
use Rattle.listing_denotes.specs.Quiet.{ItemsBreakNothing}

-- Types side by side, each with those that it nests, below productions that hold one each, where the data of their fields stand among those of
-- the assembly from this number on; and the types of the assembly.
pub record TypesBreakNothing : Type 0 where
  pub rows : (s : Source) (a : Assembly) → IsListingOf s a → (top : Bool) (depth : ℕ) (outer : List TypeId) (ts : List TypeDef) → AreNested a top depth outer ts →
      (x : Around) → x.path ≡ outer → (production y : ℕ) → body_of production ≡ Nonterminal n.CLASS ∷ [] → f.is_among asked production ≡ false → entered_is_same s x production → (k at : ℕ) →
      StandAt k (all_contents (map (class a.externs) ts)) (contents a) → EachGrown y (classes_from production outer k (map (class a.externs) ts)) →
      ItemsAgree s at (classes_from production outer k (map (class a.externs) ts)) → ItemsBreakNothing s x at (classes_from production outer k (map (class a.externs) ts))
  pub listed : (s : Source) (a : Assembly) → IsListingOf s a → ItemsBreakNothing s nothing_around (types_place a) (type_items a)

-- the listing of an assembly that is well formed and not too heavy denotes the assembly, where it is UTF-8
abbrev pub ListingsDenote : Type 0
ListingsDenote = (a : Assembly) → IsListed a → IsUtf8 (listing a) → Denotes (listing a) a
