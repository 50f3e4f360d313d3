use Rattle.std.proofs.Common.{rules, ◌≡◌, ℕ, None}
use Rattle.std.specs.Prelude.{nat_eq}
use Rattle.indexmap.specs.IndexMap.{get}
use Rattle.source_nodes.proofs.ChainLemmas.{IsChained-none}
use Rattle.check_members.specs.MemberHashes.{member_hash}
use Rattle.check_members.proofs.member_sets.Members.new.Goals as goal

pub invariant_of-result : goal.invariant_of-result
invariant_of-result c =
    let none : (h : ℕ) → get nat_eq c.new.result h ≡ None = search rules in
    rw (c.new-2.ensures, c.new-3.ensures) (IsChained-none member_hash (get nat_eq c.new.result) none)
