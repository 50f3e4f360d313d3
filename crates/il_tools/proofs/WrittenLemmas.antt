-- What is written of an assembly.
use Rattle.std.proofs.Common.{◌≡◌, refl, ℕ, true, false, List}
use Rattle.assembly_tree.specs.Room.{room}
use Rattle.assembly_tree.specs.Weight.{weight_of}
use Rattle.assembly_tree.specs.declared.assembly.Assembly.{Assembly}
use Rattle.il_shrink.specs.ShrunkAll.{IsShrunkAll}
use Rattle.source_assembly.specs.Reading.{IsAssemblyOf}
use Rattle.il_tools.specs.Assembled.{IsWrittenOf}

pub as_it_is : (source : List ℕ) (a : Assembly) → IsAssemblyOf source a → IsWrittenOf source false a
as_it_is source a h = record { meant = a; denoted = h; chosen = refl; weight = refl; room = refl }

pub with_short_branches : (source : List ℕ) (a c : Assembly) → IsAssemblyOf source a → IsShrunkAll a c → weight_of c ≡ weight_of a → room c ≡ room a → IsWrittenOf source true c
with_short_branches source a c h s w r = record { meant = a; denoted = h; chosen = s; weight = w; room = r }
