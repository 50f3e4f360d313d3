use Rattle.std.proofs.Common.{◌≡◌, ◌∙◌, sym}
use Rattle.std.proofs.lemmas.Bool.{false≢true}
use Rattle.image_model.specs.Streams.{strings_of}
use Rattle.distinct_members.proofs.Liking.{same_texts, apart, unlike, by_signature}
use Rattle.distinct_members.proofs.likeness.MembersLikeness.are_alike.Goals as goal

pub returns-then-owner : goal.returns-then-owner
returns-then-owner g c =
    let kind = c.args.self.now.kind.now in
    apart (g.K.MemberKind.image kind) (g.K.MemberKind.members kind) (g.K.MemberKind.name_at kind) (g.K.MemberKind.alike kind) c.args.one c.args.other c.owner.result c.owner-2.result c.owner.ensures c.owner-2.ensures
    (c.are_right.ensures.names c.args.one c.requires.one) (c.are_right.ensures.names c.args.other c.requires.other) c.if-owner.true

pub returns-then-not-is_same : goal.returns-then-not-is_same
returns-then-not-is_same g c =
    let kind = c.args.self.now.kind.now in
    let texts = same_texts c.args.self.now.texts.now (strings_of (g.K.MemberKind.image kind)) c.name.result c.name-2.result (g.K.MemberKind.name_at kind c.args.one) (g.K.MemberKind.name_at kind c.args.other) c.requires.ready.1 c.name.ensures c.name-2.ensures in
    unlike (g.K.MemberKind.image kind) (g.K.MemberKind.members kind) (g.K.MemberKind.name_at kind) (g.K.MemberKind.alike kind) c.args.one c.args.other c.owner.result c.owner-2.result c.owner.ensures c.owner-2.ensures
    (c.are_right.ensures.names c.args.one c.requires.one) (c.are_right.ensures.names c.args.other c.requires.other) (λ e. false≢true (sym c.if-not-is_same.true ∙ c.is_same.ensures.1 (texts.1 e)))

pub returns : goal.returns
returns g c =
    let kind = c.args.self.now.kind.now in
    let texts = same_texts c.args.self.now.texts.now (strings_of (g.K.MemberKind.image kind)) c.name.result c.name-2.result (g.K.MemberKind.name_at kind c.args.one) (g.K.MemberKind.name_at kind c.args.other) c.requires.ready.1 c.name.ensures c.name-2.ensures in
    by_signature (g.K.MemberKind.image kind) (g.K.MemberKind.members kind) (g.K.MemberKind.name_at kind) (g.K.MemberKind.alike kind) c.args.one c.args.other c.owner.result c.owner-2.result c.owner.ensures c.owner-2.ensures
    (c.are_right.ensures.names c.args.one c.requires.one) (c.are_right.ensures.names c.args.other c.requires.other) c.same_signature.result c.if-owner.false (texts.0 (c.is_same.ensures.0 c.if-not-is_same.false)) c.same_signature.ensures
