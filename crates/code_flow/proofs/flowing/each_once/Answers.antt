use Rattle.std.proofs.Common.{nat_eq}
use Rattle.std.proofs.lemmas.List.Filters.{dedup_is}
use Rattle.code_flow.proofs.Once.{same_numbers, once}
use Rattle.code_flow.proofs.flowing.each_once.Goals as goal

pub returns-clause-same : goal.returns-clause-same
returns-clause-same c =
    same_numbers c.args.numbers.items c.sort_unstable.new.self.items c.dedup.new.self.items c.sort_unstable.ensures.permutation
    (dedup_is nat_eq c.sort_unstable.new.self.items c.dedup.new.self.items c.dedup.ensures.filtered)

pub returns-clause-once : goal.returns-clause-once
returns-clause-once c =
    once c.sort_unstable.new.self.items c.dedup.new.self.items c.sort_unstable.ensures.sorted
    (dedup_is nat_eq c.sort_unstable.new.self.items c.dedup.new.self.items c.dedup.ensures.filtered)
