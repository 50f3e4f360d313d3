use Rattle.std.proofs.Common.{subst}
use Rattle.check_source.specs.SourceFaults.{IsFault}
use Rattle.elaborate.proofs.Elaborated.{denotes, has_assembly}
use Rattle.elaborate.proofs.elaborating.read_source.Goals as goal

pub returns-clause-assembly : goal.returns-clause-assembly
returns-clause-assembly c =
    let s = c.requires.reads.0 in
    let r = c.requires.reads.1 in
    let faultless = subst (IsFault s) c.in_default.is (c.in_ok-fault.ensures s r) in
    let whole = c.faultless_sources_are_whole.ensures s r.derived faultless in
    denotes c.args.reader.now s c.in_ok-found.found r faultless (c.in_ok-found.ensures s r whole (has_assembly s faultless))

pub first_fault_by-requires-clause-counted : goal.first_fault_by-requires-clause-counted
first_fault_by-requires-clause-counted c = record { counts = c.census_of-census.ensures.counts; long-types = c.census_of-census.ensures.long }

pub read_faultless-requires-clause-plain : goal.read_faultless-requires-clause-plain
read_faultless-requires-clause-plain c plain = c.is_plain-plain.ensures c.args.reader.now.nodes.now c.census_of-census.ensures.counts plain
