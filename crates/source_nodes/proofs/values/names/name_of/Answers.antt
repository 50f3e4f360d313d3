use Rattle.std.proofs.Common.{subst, sym}
use Rattle.source_model.specs.Values.{part_texts}
use Rattle.source_nodes.proofs.NameLemmas.{Parts, Pushes, first_part, next_part, last_part}
use Rattle.source_nodes.proofs.values.names.name_of.Goals as goal

pub loop-rest-init : goal.loop-rest-init
loop-rest-init c = λ h.
    first_part c.args.spelling.now c.push_part.new.text c.in_ok-rest.rest.now h
    (subst (λ o. Pushes o c.push_part.new.text c.args.spelling.now c.in_ok-rest.rest.now) c.in_ok-text.ensures c.in_ok-rest.ensures.pushed)

pub loop-rest-preserved : goal.loop-rest-preserved
loop-rest-preserved c = λ h.
    subst (λ n. Parts (part_texts c.args.spelling.now) c.push_part-in-len1-up.new.text n c.in_ok-rest-2.rest.now) (sym c.len-last.ensures)
    (next_part (part_texts c.args.spelling.now) c.loop-rest.text c.push.new.self c.push_part-in-len1-up.new.text c.loop-rest.last c.loop-rest.rest.now
    c.in_ok-rest-2.rest.now c.in-len1-up.len_at_least (c.loop-rest.invariant h) c.in_ok-push.ensures.ok c.in_ok-rest-2.ensures.pushed)

pub returns : goal.returns
returns c = λ h.
    last_part (part_texts c.args.spelling.now) c.loop-rest.text c.loop-rest.last c.loop-rest.rest.now c.in_default.len_below (c.loop-rest.invariant h)
