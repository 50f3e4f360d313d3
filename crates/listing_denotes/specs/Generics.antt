-- The generic parameters of a listing break no rule (ECMA-335 II.10.1.7).
use Rattle.std.specs.Prelude.{ℕ, ◌≡◌, true, false, List, length}
use Rattle.std.specs.List.{list_all}
use Rattle.type_terms.specs.declared.term.Owner.{Owner}
use Rattle.assembly_tree.specs.WellFormedMembers.{is_generic}
use Rattle.assembly_tree.specs.WellFormedTerms.{is_owner, is_count}
use Rattle.assembly_tree.specs.declared.assembly.Assembly.{Assembly}
use Rattle.assembly_tree.specs.declared.members.Generic.{Generic}
use Rattle.source_model.specs.Forest as f
use Rattle.source_model.specs.Nodes.{Around, typars}
use Rattle.source_model.specs.Source.{Source}
use Rattle.faultless_nodes.specs.Laws.{asked}
use Rattle.listing_declarations.specs.Laws.{IsListingOf}
use Rattle.listing_growth.specs.Held.{is_owner_held, is_generic_held}
use Rattle.listing_model.specs.Classes.{typar_member}
use Rattle.listing_model.specs.Members.{specs, typars_opt, typar_lines}
use Rattle.listing_model.specs.Methods.{typar_item}
use Rattle.listing_model.specs.Shown.{Shown}
use Rattle.listing_rows.specs.Segments.{ItemsAgree}
use Rattle.listing_denotes.specs.Quiet.{ItemsBreakNothing}
use Rattle.listing_denotes.specs.References.{IsQuiet}

-- Owners between commas, and generic parameters, with anything behind them that breaks none; and the lines that give those of a class or of a
-- method their attributes.
pub record GenericsBreakNothing : Type 0 where
  pub owners : (s : Source) (a : Assembly) → IsListingOf s a → (x : Around) (os : List Owner) → list_all (is_owner a) os ≡ true → list_all is_owner_held os ≡ true →
      (after : Shown) → IsQuiet s x after → IsQuiet s x (specs a.externs os after)
  pub generics : (s : Source) (a : Assembly) → IsListingOf s a → (x : Around) (gs : List Generic) → list_all (is_generic a) gs ≡ true → list_all is_generic_held gs ≡ true →
      is_count (length gs) ≡ true → (after : Shown) → IsQuiet s x after → IsQuiet s x (typars_opt a.externs gs after)
  pub class_lines : (s : Source) (a : Assembly) → IsListingOf s a → (x : Around) (gs : List Generic) → list_all (is_generic a) gs ≡ true → list_all is_generic_held gs ≡ true →
      is_count (length gs) ≡ true → length (typars x.class) ≡ length gs → (custom : ℕ) → f.is_among asked custom ≡ false → (at : ℕ) →
      ItemsAgree s at (typar_lines a.externs typar_member custom 1 gs) → ItemsBreakNothing s x at (typar_lines a.externs typar_member custom 1 gs)
  pub method_lines : (s : Source) (a : Assembly) → IsListingOf s a → (x : Around) (gs : List Generic) → list_all (is_generic a) gs ≡ true → list_all is_generic_held gs ≡ true →
      is_count (length gs) ≡ true → length (typars x.method) ≡ length gs → (custom : ℕ) → f.is_among asked custom ≡ false → (at : ℕ) →
      ItemsAgree s at (typar_lines a.externs typar_item custom 1 gs) → ItemsBreakNothing s x at (typar_lines a.externs typar_item custom 1 gs)
