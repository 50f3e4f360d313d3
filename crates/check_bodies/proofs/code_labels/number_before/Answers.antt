use Rattle.std.proofs.Common.{sym, rules}
use Rattle.std.specs.Prelude.{nat_lt}
use Rattle.std.proofs.lemmas.List.Sorted.{IsPartitionPoint-from_clause, IsPartitionedBy-ltb}
use Rattle.source_syntax.proofs.OrderLemmas.{split_point}
use Rattle.check_bodies.proofs.code_labels.number_before.Goals as goal

pub returns : goal.returns
returns c sorted =
    let parted = IsPartitionedBy-ltb (λ start. start) c.args.starts.now c.args.token sorted in
    let point = IsPartitionPoint-from_clause (λ start. nat_lt start c.args.token) _ _ c.partition_point.ensures.partitioned parted (λ a r q k. search rules) in
    sym (split_point c.args.token c.partition_point.result c.args.starts.now c.partition_point.ensures.bound point.0 point.1)
