-- What follows of a source that breaks no rule.
use Rattle.std.specs.Prelude.{ℕ, List, IsTrue}
use Rattle.assembly_tree.specs.WellFormed.{is_well_formed}
use Rattle.assembly_tree.specs.declared.assembly.Assembly.{Assembly}
use Rattle.source_model.specs.Classes.{assembly}
use Rattle.source_model.specs.Denotes.{Denotes}
use Rattle.source_model.specs.Source.{Source}
use Rattle.laws_formed_sources.specs.sources.Laws.{IsRight}

-- what it denotes is well formed
abbrev pub SourcesAreFormed : Type 0
SourcesAreFormed = (s : Source) → IsRight s → IsTrue (is_well_formed (assembly s))

-- the same, for the bytes of a source and the assembly that they denote
abbrev pub DenotedIsFormed : Type 0
DenotedIsFormed = (source : List ℕ) (a : Assembly) → Denotes source a → IsTrue (is_well_formed a)
