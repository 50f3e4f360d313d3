use Rattle.name_weights.proofs.Made.{own_sum}
use Rattle.name_weights.proofs.parts.own_weight.Goals as goal

pub returns : goal.returns
returns c = λ id hs hn.
    own_sum id c.length_at-space.result c.length_at-name.result c.saturating_add.result c.saturating_add-2.result (c.length_at-space.ensures id.space hs) (c.length_at-name.ensures id.name hn)
    c.saturating_add.ensures c.saturating_add-2.ensures
