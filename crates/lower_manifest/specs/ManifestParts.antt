-- The parts of a manifest (ECMA-335 II.6.2, II.25.2.3).
use Rattle.std.specs.Prelude.{◌≡◌, [], ◌∷◌}
use Rattle.ilasm_grammar.specs.declared.productions.TheConstants.{ASSEMBLY_ITEM_CUSTOM}
use Rattle.source_model.specs.Flags.{without_bits}
use Rattle.source_model.specs.Forest.{parts}
use Rattle.source_model.specs.Items.{declarations, own_customs}
use Rattle.source_model.specs.Manifests.{assembly_flags, assembly_name, attributes, culture, key, module_name, this_assembly, version}
use Rattle.source_model.specs.Nodes.{nothing_around}
use Rattle.source_model.specs.Source.{Source}
use Rattle.lower_manifest.specs.Settings.{setting_said}
use Rattle.lower_manifest.specs.declared.manifests.Customs.{Customs}
use Rattle.lower_manifest.specs.declared.manifests.Names.{Names}
use Rattle.lower_manifest.specs.declared.manifests.Numbers.{Numbers}
use Rattle.lower_manifest.specs.declared.manifests.Signs.{Signs}
use Rattle.lower_manifest.specs.declared.settings.Setting.TheVariants.{CorFlags, FileAlignment, HashAlgorithm, ImageBase, StackReserve, Subsystem}

pub record AreNames (s : Source) (x : Names) : Type 0 where
  pub name-is : x.name ≡ assembly_name s
  pub module-is : x.of_module ≡ module_name s
  pub version-is : x.version ≡ version s (this_assembly s)

pub record AreSigns (s : Source) (x : Signs) : Type 0 where
  pub flags-are : x.flags ≡ assembly_flags s (this_assembly s)
  pub key-is : x.key ≡ key s (this_assembly s)
  pub culture-is : x.culture ≡ culture s (this_assembly s)

pub record AreNumbers (s : Source) (x : Numbers) : Type 0 where
  pub hash-is : x.hash ≡ setting_said s HashAlgorithm (this_assembly s)
  pub base-is : x.image_base ≡ setting_said s ImageBase s.tree
  pub alignment-is : x.file_alignment ≡ setting_said s FileAlignment s.tree
  pub reserve-is : x.stack_reserve ≡ setting_said s StackReserve s.tree
  pub subsystem-is : x.subsystem ≡ setting_said s Subsystem s.tree
  pub cor-flags-are : x.cor_flags ≡ without_bits 8 (setting_said s CorFlags s.tree)

pub record AreCustoms (s : Source) (x : Customs) : Type 0 where
  pub assembly-are : x.assembly ≡ attributes s nothing_around (parts (ASSEMBLY_ITEM_CUSTOM ∷ []) (this_assembly s))
  pub outside-are : x.outside ≡ attributes s nothing_around (own_customs (declarations s.tree))
