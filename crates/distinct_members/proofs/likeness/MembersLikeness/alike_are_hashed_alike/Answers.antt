use Rattle.distinct_members.proofs.Liking.{hashed_alike}
use Rattle.distinct_members.proofs.likeness.MembersLikeness.alike_are_hashed_alike.Goals as goal

pub returns : goal.returns
returns g c = λ one other x y p q are k l.
    let kind = c.args.self.now.kind.now in
    hashed_alike (g.K.MemberKind.image kind) (g.K.MemberKind.members kind) (g.K.MemberKind.name_at kind) (g.K.MemberKind.alike kind) (g.K.MemberKind.hash_at kind) one other x y (c.are_right.ensures.names one p) (c.are_right.ensures.names other q)
    (λ s. c.are_right.ensures.hashes one other p q s) are k l
