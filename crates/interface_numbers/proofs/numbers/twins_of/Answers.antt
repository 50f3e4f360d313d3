use Rattle.std.proofs.Common.{◌≡◌, ℕ, ◌-◌, length, subst, sym}
use Rattle.interface_numbers.specs.Places.{AreHeads}
use Rattle.interface_numbers.proofs.Likening.{equivalence}
use Rattle.interface_numbers.proofs.numbers.twins_of.Goals as goal

pub number_twins-requires-clause-same : goal.number_twins-requires-clause-same
number_twins-requires-clause-same g c =
    let e : c.saturating_sub.result ≡ length c.args.heads.now - 1 = c.saturating_sub.ensures in
    equivalence c.args.image.now (g.O.Owners.facts c.args.facts.now) (g.N.Numbering.canon c.args.numbers.now) c.requires.known c.blob_is_computed.ensures c.saturating_sub.result c.args.heads.now
    (subst (λ (n : ℕ). AreHeads c.args.image.now n c.args.heads.now) (sym e) c.requires.heads)
