-- What identifies an assembly beside its name and version (ECMA-335 II.6.3).
use Rattle.std.specs.Prelude.{◌≡◌}
use Rattle.assembly_tree.specs.declared.assembly.ExternAssembly.{ExternAssembly}
use Rattle.source_model.specs.Forest.{Forest, Part}
use Rattle.source_model.specs.Manifests.{assembly_flags, culture, extern_assembly, key}
use Rattle.source_model.specs.Source.{Source}
use Rattle.lower_manifest.specs.Settings.{hash_said}
use Rattle.lower_manifest.specs.declared.externs.Identity.{Identity}

pub record IsIdentityOf (s : Source) (f : Forest) (i : Identity) : Type 0 where
  pub flags-are : i.flags ≡ assembly_flags s f
  pub key-is : i.key ≡ key s f
  pub culture-is : i.culture ≡ culture s f
  pub hash-is : i.hash ≡ hash_said s f

-- the assembly that a part names
abbrev pub extern_at : Source → Part → ExternAssembly
extern_at s p = extern_assembly s p.below
