use Rattle.std.proofs.Common.{rules, ◌≡◌, ◌<◌, [], ◌∷◌, ◌++◌, length}
use Rattle.source_nodes.proofs.ByteLemmas.{first_pairs, next_byte, all_bytes}
use Rattle.source_nodes.proofs.values.byte_lists.bytes_in_parentheses.Goals as goal

pub loop-high-init : goal.loop-high-init
loop-high-init c = λ h.
    let none : c.in_ok-bytes.bytes ≡ [] = search rules in
    rw none (first_pairs c.args.text.now c.behind_gap.result.now c.behind.result.now c.behind_gap-rest.result.now h c.behind_gap.ensures.passed
    c.behind.ensures c.behind_gap-rest.ensures.passed)

pub loop-high-preserved : goal.loop-high-preserved
loop-high-preserved c = λ h.
    let pushed : c.push.new.self ≡ c.loop-high.bytes ++ c.byte_of.result ∷ [] = search rules in
    let two : c.loop-high.rest.now ≡ c.in-Some.high ∷ c.in-Some.low ∷ c.in-Some.more.now = search rules in
    rw pushed (next_byte c.args.text.now c.loop-high.bytes c.loop-high.rest.now c.in-Some.high c.in-Some.low c.byte_of.result c.in-Some.more.now
    c.behind_gap-rest-in-Some.result.now two c.byte_of.ensures c.behind_gap-rest-in-Some.ensures.passed (c.loop-high.invariant h))

pub returns : goal.returns
returns c = λ h.
    let few : length c.loop-high.rest.now < 2 = search rules in
    all_bytes c.args.text.now c.loop-high.bytes c.loop-high.rest.now few (c.loop-high.invariant h)
