use Rattle.std.proofs.Common.{refl}
use Rattle.check_source.proofs.CensusLemmas.{counting_four, counting_others, counting_start, no_counts}
use Rattle.check_source.proofs.census.census_of.Goals as goal

pub loop-left-init : goal.loop-left-init
loop-left-init c = counting_start c.args.nodes.now _ (no_counts 704) refl

pub loop-left-preserved : goal.loop-left-preserved
loop-left-preserved c =
    let n0 = c.note.ensures in
    let n1 = c.note-in-len8-up.ensures in
    let n2 = c.note-in-len8-up-2.ensures in
    let n3 = c.note-in-len8-up-3.ensures in
    let n4 = c.note-in-len8-up-4.ensures in
    let n5 = c.note-in-len8-up-5.ensures in
    let n6 = c.note-in-len8-up-6.ensures in
    let n7 = c.note-in-len8-up-7.ensures in
    let half = counting_four c.args.nodes.now c.loop-left.left.now _ c.loop-left.census _ _ _ _ c.in-len8-up.len_at_least c.loop-left.invariant
    (record { few = n0.few; counts = n0.counts; long = n0.long }) (record { few = n1.few; counts = n1.counts; long = n1.long })
    (record { few = n2.few; counts = n2.counts; long = n2.long }) (record { few = n3.few; counts = n3.counts; long = n3.long }) in
    counting_others c.args.nodes.now c.loop-left.left.now _ _ _ _ _ _ half
    (record { few = n4.few; counts = n4.counts; long = n4.long }) (record { few = n5.few; counts = n5.counts; long = n5.long })
    (record { few = n6.few; counts = n6.counts; long = n6.long }) (record { few = n7.few; counts = n7.counts; long = n7.long })
