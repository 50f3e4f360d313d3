use Rattle.std.proofs.Common.{length, refl, ap, sym, ◌∙◌}
use Rattle.source_model.specs.Nodes.{nothing_around}
use Rattle.elaborate.proofs.AssemblyLemmas.{few_assemblies, whole}
use Rattle.elaborate.proofs.ClassLemmas.{all_ranged}
use Rattle.elaborate.proofs.assemblies.assembly_at.Goals as goal

pub returns : goal.returns
returns g c s knows x declared each some =
    let ranged = all_ranged s s.tree each in
    let externs = c.in_ok-externs.ensures s x.reads declared ranged in
    let lent = c.as_slice.ensures ∙ externs in
    let core = c.in_ok-core.ensures s x.reads lent (few_assemblies s c.as_slice.result.now lent x.few) in
    whole s c.in_ok-manifest.manifest c.in_ok-externs.externs c.in_ok-own.own c.in_ok-types.types (c.in_ok-manifest.ensures s x declared ranged some) externs
    (c.in_ok-own.ensures s knows x declared each)
    (c.in_ok-types.ensures s nothing_around s.tree knows (record { reads = x.reads; keys-are = x.keys; few = x.few; none-is = x.class; core-is = core }) refl x.reads.nodes each)
