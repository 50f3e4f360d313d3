-- The cause of a fault of a source that has a derivation (ECMA-335 II.5 to II.19).
use Rattle.std.specs.Prelude.{ℕ, List, ⊤}
use Rattle.source_model.specs.Denotes.{HasNameFault}
use Rattle.elaborate.specs.declared.name_fault.NameFault.{NameFault}
use Rattle.elaborate.specs.declared.name_fault.NameFault.TheVariants.{Bad, NoMemory}

abbrev pub IsCause : List ℕ → NameFault → Type 0
IsCause source (Bad pos class rule) = HasNameFault source pos class rule
IsCause source NoMemory = ⊤
