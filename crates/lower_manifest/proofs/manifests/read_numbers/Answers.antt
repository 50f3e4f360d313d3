use Rattle.ilasm_grammar.specs.declared.productions.TheConstants.{ASSEMBLY_ASSEMBLY_ATTR_STAR}
use Rattle.source_model.specs.Forest.{the}
use Rattle.std.proofs.Common.{◌<◌, ◌^◌, refl, ap, sym, subst, ◌∙◌}
use Rattle.source_model.specs.Flags.{without_bits}
use Rattle.source_model.specs.Manifests.{this_assembly}
use Rattle.lower_manifest.proofs.ManifestLemmas.{declaration_in_range, subsystem_fits}
use Rattle.lower_manifest.proofs.manifests.read_numbers.Goals as goal

pub returns : goal.returns
returns c s r are h =
    let sub = c.in_ok-subsystem.ensures s s.tree r refl are h in
    record {
      hash-is = c.in_ok-hash.ensures s (this_assembly s) r (c.declaration.ensures s.tree r.nodes) (declaration_in_range s h);
      base-is = c.in_ok-image_base.ensures s s.tree r refl are h;
      alignment-is = c.in_ok-file_alignment.ensures s s.tree r refl are h;
      reserve-is = c.in_ok-stack_reserve.ensures s s.tree r refl are h;
      subsystem-is = c.short_of.ensures (subst (λ m. m < 2 ^ 16) (sym sub) (subsystem_fits s h)) ∙ sub;
      cor-flags-are = ap (without_bits 8) (c.in_ok-cor_flags.ensures s s.tree r refl are h);
    }

pub setting_said-requires : goal.setting_said-requires
setting_said-requires c = (the ASSEMBLY_ASSEMBLY_ATTR_STAR c.requires.forest.0, c.declaration.ensures c.requires.forest.0 c.requires.forest.1)
