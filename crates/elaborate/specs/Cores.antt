-- Assemblies that hold the core of the class library (ECMA-335 IV.5).
use Rattle.std.specs.Prelude.{Bool, bytes_eq}
use Rattle.std.specs.List.{list_any}
use Rattle.assembly_tree.specs.declared.assembly.ExternAssembly.{ExternAssembly}
use Rattle.source_model.specs.Classes.{core_names}

abbrev pub is_core_assembly : ExternAssembly → Bool
is_core_assembly x = list_any (bytes_eq x.name) core_names
