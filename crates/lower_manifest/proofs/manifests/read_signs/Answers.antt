use Rattle.ilasm_grammar.specs.declared.productions.TheConstants.{ASSEMBLY_ASSEMBLY_ATTR_STAR}
use Rattle.source_model.specs.Forest.{the}
use Rattle.source_model.specs.Manifests.{this_assembly}
use Rattle.lower_manifest.proofs.ManifestLemmas.{declaration_in_range}
use Rattle.lower_manifest.proofs.manifests.read_signs.Goals as goal

pub returns : goal.returns
returns c s r h =
    let below = c.declaration-below.ensures s.tree r.nodes in
    let each = declaration_in_range s h in
    record {
      flags-are = c.in_ok-flags.ensures s (this_assembly s) r below each;
      key-is = c.in_ok-key.ensures s (this_assembly s) r below each;
      culture-is = c.in_ok-culture.ensures s (this_assembly s) r below each;
    }

pub flags_with_key-requires : goal.flags_with_key-requires
flags_with_key-requires c = (the ASSEMBLY_ASSEMBLY_ATTR_STAR c.requires.0, c.declaration-below.ensures c.requires.0 c.requires.1)

pub key-requires : goal.key-requires
key-requires c = (the ASSEMBLY_ASSEMBLY_ATTR_STAR c.requires.0, c.declaration-below.ensures c.requires.0 c.requires.1)

pub culture-requires : goal.culture-requires
culture-requires c = (the ASSEMBLY_ASSEMBLY_ATTR_STAR c.requires.0, c.declaration-below.ensures c.requires.0 c.requires.1)
