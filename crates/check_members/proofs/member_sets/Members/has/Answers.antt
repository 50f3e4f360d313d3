use Rattle.std.proofs.Common.{◌≡◌, ◌∙◌, Some, ap, sym, arith}
use Rattle.std.specs.Prelude.{nat_eq}
use Rattle.std.proofs.lemmas.Option.{same_Some, slice_get_within}
use Rattle.indexmap.specs.IndexMap.{get}
use Rattle.source_nodes.proofs.ChainLemmas.{ahead_first, ahead_next, hashed_first, hashed_next}
use Rattle.check_members.specs.MemberHashes.{member_hash}
use Rattle.check_members.specs.SameMembers.{is_member, is_same_member}
use Rattle.check_members.proofs.MemberLemmas.{found_at, found_nowhere, other_member}
use Rattle.check_members.proofs.member_sets.Members.has.Goals as goal

pub loop-at-init : goal.loop-at-init
loop-at-init c =
    let newest = get nat_eq c.self.inside.newest in
    let sought = c.args.member.now in
    let begins : newest (member_hash sought) ≡ c.copied-at.result = sym (c.copied-at.ensures ∙ c.get.ensures.value ∙ ap newest c.member_hash.ensures) in
    record {
      hashed = λ m is. hashed_first member_hash newest c.self.inside.members c.self.inside.nexts c.self.invariant sought m (begins ∙ is);
      ahead = λ k here.
          let r = ahead_first member_hash newest c.self.inside.members c.self.inside.nexts c.self.invariant sought k here in (r.0, sym begins ∙ r.1, r.2);
    }

pub at-requires : goal.at-requires
at-requires c =
    let h = c.loop-at.invariant.hashed c.in-Some.place c.in-Some.is in
    slice_get_within c.self.inside.members c.in-Some.place h.0 h.1

pub returns-then-is_same_member : goal.returns-then-is_same_member
returns-then-is_same_member c =
    found_at c.self.inside.members c.args.member.now c.at.result.now c.in-Some.place c.at.ensures (sym c.is_same_member.ensures ∙ c.if-is_same_member.true)
    ∙ ap (λ ms. is_member ms c.args.member.now) c.self.view_is

pub at-at-requires : goal.at-at-requires
at-at-requires c =
    let h = c.loop-at.invariant.hashed c.in-Some.place c.in-Some.is in
    let within = slice_get_within c.self.inside.members c.in-Some.place h.0 h.1 in
    omega (arith, within, c.self.invariant.paired)

pub returns : goal.returns
returns c =
    found_nowhere c.self.inside.members c.args.member.now
    (λ k here. let a = c.loop-at.invariant.ahead k here in let no = sym a.1 ∙ c.in_default.is in absurd cc)
    ∙ ap (λ ms. is_member ms c.args.member.now) c.self.view_is

pub loop-at-preserved : goal.loop-at-preserved
loop-at-preserved c =
    let members = c.self.inside.members in
    let sought = c.args.member.now in
    let chained = c.self.invariant in
    let h = c.loop-at.invariant.hashed c.in-Some.place c.in-Some.is in
    let same = same_Some h.0 c.at.result.now (sym h.1 ∙ c.at.ensures) in
    let apart = other_member c.orders_are_total.ensures.terms sought h.0 (ap (is_same_member sought) same ∙ sym c.is_same_member.ensures ∙ c.if-is_same_member.false) in
    record {
      hashed = λ m is. hashed_next member_hash _ members c.self.inside.nexts chained sought c.in-Some.place m h.0 h.1 (c.at-at.ensures ∙ ap Some is) h.2;
      ahead = λ k here.
          let a = c.loop-at.invariant.ahead k here in
          let last = same_Some a.0 c.in-Some.place (sym a.1 ∙ c.in-Some.is) in
          ahead_next member_hash _ members c.self.inside.nexts chained sought c.in-Some.place k h.0 c.at-at.result.now h.1 c.at-at.ensures h.2 apart here (omega (arith, a.2, last));
    }
