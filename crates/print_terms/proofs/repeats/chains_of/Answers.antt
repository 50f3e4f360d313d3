use Rattle.hash_places.specs.Slots.{place_of}
use Rattle.print_terms.proofs.Twins.{chain_step}
use Rattle.print_terms.proofs.repeats.chains_of.Goals as goal

pub loop-e-preserved : goal.loop-e-preserved
loop-e-preserved c =
    chain_step c.args.externs.now c.loop-e.nexts _ (place_of c.loop-e.newest) (place_of c.insert.new.self) c.loop-e.e-index c.len-place.result c.hash_of.result c.e-item.result
    c.in_ok-next.next c.loop-e.invariant c.loop-e-test.true c.e-item.is c.hash_of.ensures c.len-place.ensures c.in_ok-next.ensures.answer c.in_ok-next.ensures.ok
    c.in_ok-push.ensures.ok
