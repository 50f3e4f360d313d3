use Rattle.std.proofs.Common.{◌∙◌}
use Rattle.signature_verdicts.proofs.Verdicts.{judged_after}
use Rattle.signature_verdicts.proofs.judgements.Judgements.add.Goals as goal

pub invariant_of-self-2 : goal.invariant_of-self-2
invariant_of-self-2 g c = record {
  are = rw (c.in_ok-push.ensures.items, c.judge-verdict.ensures)
      (judged_after c.args.self.now.image.now (g.O.Owners.facts c.args.self.now.owners.now) c.insert.result c.args.self.now.newest c.insert.new.self c.args.self.now.verdicts.items c.args.kind c.args.index
      c.key-hash.result c.len-place.result c.args.self.now.are c.key-hash.ensures (c.len-place.ensures ∙ c.args.self.now.verdicts.ok.0) c.insert.ensures.ok c.insert.ensures.err);
}
