use Rattle.std.proofs.Common.{◌∙◌}
use Rattle.row_weights.proofs.Weighing.{weighed_after}
use Rattle.row_weights.proofs.signatures.SignatureWeights.add.Goals as goal

pub invariant_of-self-2 : goal.invariant_of-self-2
invariant_of-self-2 g c = record {
  are = rw (c.in_ok-push.ensures.items, c.weigh-weight.ensures)
      (weighed_after c.args.self.now.image.now (g.O.Owners.facts c.args.self.now.owners.now) c.insert.result c.args.self.now.newest c.insert.new.self c.args.self.now.weights.items c.args.kind c.args.index
      c.key-hash.result c.len-place.result c.args.self.now.are c.key-hash.ensures (c.len-place.ensures ∙ c.args.self.now.weights.ok.0) c.insert.ensures.ok c.insert.ensures.err);
}
