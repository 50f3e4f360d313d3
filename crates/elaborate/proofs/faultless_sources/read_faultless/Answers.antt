use Rattle.lower_methods.proofs.WholeLemmas.{whole_in_range}
use Rattle.elaborate.proofs.faultless_sources.read_faultless.Goals as goal

pub standing_of-stated-requires-clause-forest : goal.standing_of-stated-requires-clause-forest
standing_of-stated-requires-clause-forest c = (c.requires.reads.0.tree, c.requires.reads.1.nodes)

pub read_data-requires : goal.read_data-requires
read_data-requires c = (c.requires.reads.0.tree, c.requires.reads.1.nodes)

pub read_sizes-requires : goal.read_sizes-requires
read_sizes-requires c = (c.requires.reads.0.tree, c.requires.reads.1.nodes)

pub read_assembly-requires-clause-forest : goal.read_assembly-requires-clause-forest
read_assembly-requires-clause-forest c = (c.requires.reads.0.tree, c.requires.reads.1.nodes)

pub returns : goal.returns
returns c s r whole some =
    let each = whole_in_range s s.tree whole in
    let stated = c.standing_of-stated.ensures s.tree r.nodes in
    let labelled = c.in_ok-labelled.ensures s r each stated.first-is in
    let sizes = c.in_ok-sizes.ensures s r each stated.second-is in
    c.read_assembly.ensures s (record { reads = r; labelled = labelled; sizes = sizes; each = each }) r whole some
