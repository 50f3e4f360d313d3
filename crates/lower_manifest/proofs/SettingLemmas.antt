-- The numbers of settings are in their ranges; no setting stands in a class or a method, and most are declarations.
use Rattle.std.proofs.Common.{◌≡◌, [], ◌∷◌, refl}
use Rattle.std.specs.Prelude.{true}
use Rattle.ilasm_grammar.specs.Ilasm.{has_bit}
use Rattle.ilasm_grammar.proofs.TableCheck.{ilasm_tables}
use Rattle.assembly_tree.specs.WellFormed.{is_file_alignment, is_image_base}
use Rattle.source_model.specs.Forest.{Forest, leaf_at}
use Rattle.source_model.specs.OutOfRange.{are_cor_flags, is_16_bits, is_32_bits, is_natural_with}
use Rattle.source_model.specs.Source.{Source}
use Rattle.source_model.specs.Values.{int_at}
use Rattle.source_flags.specs.InRange.{IsInRange}
use Rattle.lower_manifest.specs.Settings.{is_declared, place_of, production_of}
use Rattle.lower_manifest.specs.declared.settings.Setting.{Setting}
use Rattle.lower_manifest.specs.declared.settings.Setting.TheVariants.{CorFlags, FileAlignment, HashAlgorithm, ImageBase, StackReserve, Subsystem}
use Rattle.source_flags.specs.declared.outside.Shut.TheVariants.{Types}
use Rattle.lower_manifest.proofs.Among.{below_declarations, is_declaration}
use Rattle.source_flags.proofs.Apart.{is_past, mask_of}
use Rattle.source_flags.proofs.Bits.{IsNatural, cor_flags_bounds, file_alignment_bounds, image_base_bounds, of_16_bits, of_32_bits, of_test, passes_at, wider}

pub setting_fits : (setting : Setting) (s : Source) (f : Forest) → IsInRange s (production_of setting) f → IsNatural 32 (int_at s (leaf_at (place_of setting) f))
setting_fits HashAlgorithm s f h = of_32_bits (int_at s (leaf_at 2 f)) (passes_at is_32_bits s (leaf_at 2 f) h.manifest)
setting_fits ImageBase s f h = of_test 32 is_image_base image_base_bounds (int_at s (leaf_at 1 f)) (passes_at (is_natural_with is_image_base) s (leaf_at 1 f) h.manifest)
setting_fits FileAlignment s f h =
    of_test 32 is_file_alignment file_alignment_bounds (int_at s (leaf_at 2 f)) (passes_at (is_natural_with is_file_alignment) s (leaf_at 2 f) h.manifest)
setting_fits StackReserve s f h = of_32_bits (int_at s (leaf_at 1 f)) (passes_at is_32_bits s (leaf_at 1 f) h.manifest)
setting_fits Subsystem s f h = wider (int_at s (leaf_at 1 f)) (of_16_bits (int_at s (leaf_at 1 f)) (passes_at is_16_bits s (leaf_at 1 f) h.manifest))
setting_fits CorFlags s f h = of_test 32 are_cor_flags cor_flags_bounds (int_at s (leaf_at 1 f)) (passes_at (is_natural_with are_cor_flags) s (leaf_at 1 f) h.manifest)

pub setting_past : (setting : Setting) → is_past Types (production_of setting ∷ []) ≡ true
unfolding is_past mask_of ilasm_tables has_bit
setting_past HashAlgorithm = refl
setting_past ImageBase = refl
setting_past FileAlignment = refl
setting_past StackReserve = refl
setting_past Subsystem = refl
setting_past CorFlags = refl

-- the others are declarations
pub setting_declaration : (setting : Setting) → is_declared setting ≡ true → is_declaration (production_of setting) ≡ true
unfolding is_declaration below_declarations ilasm_tables has_bit
setting_declaration HashAlgorithm e = absurd cc
setting_declaration ImageBase e = refl
setting_declaration FileAlignment e = refl
setting_declaration StackReserve e = refl
setting_declaration Subsystem e = refl
setting_declaration CorFlags e = refl
