use Rattle.std.proofs.lemmas.Bool.{false≢true}
use Rattle.heaps.proofs.BlobLemmas.{HasSpecial-behind, HasSpecial-more}
use Rattle.heaps.proofs.user_heap.last_byte.Goals as goal

pub loop-rest-preserved : goal.loop-rest-preserved
loop-rest-preserved c =
    let rest = c.loop-rest.rest.now in
    record {
      here = λ more. c.loop-rest.invariant.here (HasSpecial-more rest c.in-len2-up.len_at_least more);
      later = λ has. HasSpecial-behind rest c.in-len2-up.len_at_least (λ is. false≢true (c.if-is_special.ensures.1 is)) (c.loop-rest.invariant.later has);
    }
