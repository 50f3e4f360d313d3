-- The fields of a listing break no rule (ECMA-335 II.10.7, II.16).
use Rattle.std.specs.Prelude.{ℕ, ◌≡◌, true, false, List}
use Rattle.std.specs.List.{list_all}
use Rattle.assembly_tree.specs.WellFormedMembers.{is_field}
use Rattle.assembly_tree.specs.declared.assembly.Assembly.{Assembly}
use Rattle.assembly_tree.specs.declared.members.Field.{Field}
use Rattle.source_model.specs.Forest as f
use Rattle.source_model.specs.Nodes.{Around, nothing_around}
use Rattle.source_model.specs.Source.{Source}
use Rattle.faultless_nodes.specs.Laws.{asked}
use Rattle.listing_declarations.specs.Laws.{IsListingOf, field_items, fields_place}
use Rattle.listing_growth.specs.Held.{is_field_held}
use Rattle.listing_model.specs.Canon.{contents}
use Rattle.listing_model.specs.Members.{field_contents, fields}
use Rattle.listing_nesting.specs.Laws.{StandAt}
use Rattle.listing_rows.specs.Segments.{ItemsAgree}
use Rattle.listing_denotes.specs.Quiet.{ItemsBreakNothing}

-- Fields in a row with their attributes, below productions of which no rule speaks, where their data stand among those of the assembly from
-- this number on; and those outside of any type.
pub record FieldsBreakNothing : Type 0 where
  pub rows : (s : Source) (a : Assembly) → IsListingOf s a → (x : Around) (fs : List Field) → list_all (is_field a) fs ≡ true → list_all is_field_held fs ≡ true →
      (production custom : ℕ) → f.is_among asked production ≡ false → f.is_among asked custom ≡ false → (k at : ℕ) → StandAt k (field_contents fs) (contents a) →
      ItemsAgree s at (fields a.externs production custom k fs) → ItemsBreakNothing s x at (fields a.externs production custom k fs)
  pub globals : (s : Source) (a : Assembly) → IsListingOf s a → ItemsBreakNothing s nothing_around (fields_place a) (field_items a)
