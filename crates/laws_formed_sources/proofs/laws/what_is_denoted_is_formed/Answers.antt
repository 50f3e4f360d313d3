use Rattle.std.proofs.Common.{IsTrue, sym, subst}
use Rattle.assembly_tree.specs.WellFormed.{is_well_formed}
use Rattle.source_model.specs.Denotes.{IsRead}
use Rattle.laws_formed_sources.specs.sources.Laws.{IsRight}
use Rattle.laws_formed_sources.proofs.laws.what_is_denoted_is_formed.Goals as goal

pub returns : goal.returns
returns c source a denoted =
    let s = denoted.source in
    let right : IsRight s = record {
      read = subst (λ bytes. IsRead bytes s) (sym denoted.read.bytes-are) denoted.read;
      faultless = denoted.faultless;
    } in
    subst (λ x. IsTrue (is_well_formed x)) (sym denoted.is) (c.faultless_sources_are_formed.ensures s right)
