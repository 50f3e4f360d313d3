use Rattle.std.proofs.Common.{rules, ◌≡◌, ℕ, [], ◌∷◌, ◌++◌, Some, cond}
use Rattle.std.specs.Prelude.{nat_eq}
use Rattle.indexmap.specs.IndexMap.{get}
use Rattle.source_nodes.proofs.ChainLemmas.{chain_push, chain_undo}
use Rattle.check_members.specs.MemberHashes.{member_hash}
use Rattle.check_members.proofs.member_sets.Members.push.Goals as goal

pub invariant_of-self-in-Ok : goal.invariant_of-self-in-Ok
invariant_of-self-in-Ok c =
    let old = c.self.inside in
    let newest : (q : ℕ) → get nat_eq c.insert.new.self q ≡ cond (nat_eq (member_hash c.args.member) q) (Some c.len-place.result) (get nat_eq old.newest q) = search rules in
    let members : c.push.new.self ≡ old.members ++ c.args.member ∷ [] = search rules in
    let nexts : c.push-2.new.self ≡ old.nexts ++ c.copied-next.result ∷ [] = search rules in
    rw (members, nexts) (chain_push member_hash (get nat_eq old.newest) (get nat_eq c.insert.new.self) old.members old.nexts c.args.member c.len-place.result c.copied-next.result
    c.self.invariant (search rules) (search rules) newest)

pub invariant_of-self-in-Err-insert : goal.invariant_of-self-in-Err-insert
invariant_of-self-in-Err-insert c =
    let old = c.self.inside in
    let members : c.push.new.self ≡ old.members ++ c.args.member ∷ [] = search rules in
    let nexts : c.push-2.new.self ≡ old.nexts ++ c.copied-next.result ∷ [] = search rules in
    let kept : (q : ℕ) → get nat_eq c.insert.new.self q ≡ get nat_eq old.newest q = search rules in
    rw (c.truncate-in-Err-insert.ensures, c.truncate-in-Err-insert-2.ensures) (chain_undo member_hash (get nat_eq old.newest) (get nat_eq c.insert.new.self) old.members c.push.new.self
    old.nexts c.push-2.new.self c.args.member c.copied-next.result c.len-place.result c.self.invariant kept (search rules) members nexts)
