-- Places where fields stand.
use Rattle.std.specs.Prelude.{ℕ, ◌==◌, ◌||◌, Bool, List, take_while}
use Rattle.ilasm_grammar.specs.declared.productions.TheConstants.{DECL_FIELD, MEMBER_FIELD}
use Rattle.source_flags.specs.InRange.{AllInRange}
use Rattle.source_model.specs.Forest.{Part}
use Rattle.source_model.specs.Items.{Run, is_custom}
use Rattle.source_model.specs.Nodes.{Around}
use Rattle.source_model.specs.Source.{Source}
use Rattle.source_syntax.specs.Places.{IsAt}
use Rattle.lower_members.specs.ClassSizes.{AreSizes}
use Rattle.lower_members.specs.LabelledData.{AreData}
use Rattle.lower_members.specs.declared.fields.FieldContext.{FieldContext}

-- it is a place in this source, with the data and the class sizes of the source, all of whose numbers are in their ranges
pub record IsContext (x : FieldContext) (s : Source) (a : Around) : Type 0 where
  pub at : IsAt x.place s a
  pub labelled-is : AreData s x.labelled.now
  pub sizes-are : AreSizes s x.sizes.now
  pub each : AllInRange s s.tree

abbrev pub is_field : ℕ → Bool
is_field p = p == DECL_FIELD || p == MEMBER_FIELD

-- a declaration with the attributes that begin what follows it
abbrev pub run_at : Part → List Part → Run
run_at p ps = record { head = p; customs = take_while is_custom ps }
