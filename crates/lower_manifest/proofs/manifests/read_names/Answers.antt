use Rattle.ilasm_grammar.specs.declared.productions.TheConstants.{ASSEMBLY_ASSEMBLY_ATTR_STAR}
use Rattle.source_model.specs.Forest.{the}
use Rattle.source_model.specs.Manifests.{this_assembly}
use Rattle.lower_manifest.proofs.ManifestLemmas.{declaration_in_range}
use Rattle.lower_manifest.proofs.manifests.read_names.Goals as goal

pub returns : goal.returns
returns c s r are h some =
    let name = c.in_ok-name.ensures s r some in
    record {
      name-is = name;
      module-is = c.in_ok-of_module.ensures s r are name;
      version-is = c.in_ok-version.ensures s (this_assembly s) r (c.declaration.ensures s.tree r.nodes) (declaration_in_range s h);
    }

pub version-requires : goal.version-requires
version-requires c = (the ASSEMBLY_ASSEMBLY_ATTR_STAR c.requires.forest.0, c.declaration.ensures c.requires.forest.0 c.requires.forest.1)
