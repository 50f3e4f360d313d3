use Rattle.std.proofs.Common.{◌≤◌, ◌++◌, [], ◌∷◌, length, map, take, ap, sym, ◌∙◌, arith}
use Rattle.std.proofs.lemmas.List.{take_all}
use Rattle.std.proofs.lemmas.Option.{slice_get-get_or}
use Rattle.source_nodes.proofs.PieceLemmas.{map_next}
use Rattle.elaborate.specs.KnownSizes.{known_size}
use Rattle.elaborate.proofs.known_sizes.known_of.Goals as goal

pub loop-size-preserved : goal.loop-size-preserved
loop-size-preserved c =
    c.in_ok-push.ensures.ok ∙ ap (λ x. c.loop-size.sizes ++ x ∷ []) c.known_size.ensures
    ∙ map_next known_size c.args.asked.now c.loop-size.size-index _ c.loop-size.sizes (slice_get-get_or c.args.asked.now c.loop-size.size-index _ c.loop-size-test.true) c.loop-size.invariant

pub returns : goal.returns
returns c =
    let over : length c.args.asked.now ≤ c.loop-size.size-index = omega (arith, c.loop-size-test.false) in
    c.loop-size.invariant ∙ ap (map known_size) (take_all c.loop-size.size-index c.args.asked.now over)
