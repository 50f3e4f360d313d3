-- What follows of the definitions.
use Rattle.std.specs.Prelude.{◌≡◌, ℕ, List}
use Rattle.assembly_tree.specs.declared.assembly.Assembly.{Assembly}
use Rattle.source_assembly.specs.declared.fault.SourceFault.{SourceFault}
use Rattle.source_assembly.specs.Reading.{IsAssemblyOf, IsFaultOf}

-- a source is read in one way at most: as one assembly, or with one fault
pub record OneReading : Type 0 where
  pub assembly : (source : List ℕ) (a b : Assembly) → IsAssemblyOf source a → IsAssemblyOf source b → a ≡ b
  pub apart : (source : List ℕ) (a : Assembly) (fault : SourceFault) → IsAssemblyOf source a → IsFaultOf source fault → ⊥
  pub fault : (source : List ℕ) (a b : SourceFault) → IsFaultOf source a → IsFaultOf source b → a ≡ b
