use Rattle.std.proofs.Common.{◌≡◌, ◌∙◌, subst, sym, None, Some}
use Rattle.type_terms.specs.declared.term.SigType.{SigType}
use Rattle.type_hierarchy.specs.Hierarchy.{parent}
use Rattle.type_hierarchy.specs.Tables.{hierarchy_in}
use Rattle.type_hierarchy.specs.World.{hierarchy, type_at}
use Rattle.class_notes.proofs.FillingLemmas.{Climbed, climbed_found, climbed_is, climbed_more, climbed_none, climbed_top, no_when, not_when, wanted_grows, wanted_same, yes_when}
use Rattle.class_notes.proofs.filling.is_filled.Goals as goal

pub climb-init : goal.climb-init
climb-init c =
    let w = c.args.w.now in
    let s = c.in_ok-wanted.ensures.stays in
    record {
      at = ((c.keys_keep_their_types.ensures.keys w c.wants_of.new.w s).ids c.args.at.now c.requires.at).0;
      stays = s;
      room = c.in_ok-wanted.ensures.room;
      wanted = c.in_ok-wanted.ensures.wanted;
      climbed = λ a h. subst (λ (u : SigType). Climbed a (hierarchy w) (type_at w c.args.at.now) u (type_at w c.args.face.now) c.args.slot.now) (sym (s.nodes.terms c.args.at.now c.requires.at))
          (climbed_none a (hierarchy w) (type_at w c.args.at.now) (type_at w c.args.face.now) c.args.slot.now);
    }

pub returns-then-is_offered-clause-ok : goal.returns-then-is_offered-clause-ok
returns-then-is_offered-clause-ok c = λ a h.
    let w = c.args.w.now in
    let v = c.climb.invariant in
    let own = climbed_is a (hierarchy w) w.nodes c.climb.w.nodes c.pool.result.now c.args.facts.now (type_at w c.args.at.now) (type_at w c.args.face.now) c.args.slot.now c.climb.at c.climb.wanted
    c.is_offered.result c.pool.ensures c.len.ensures.pool v.stays.nodes v.at h (v.climbed a h) v.wanted c.is_offered.ensures.answer in
    yes_when (climbed_found a (hierarchy w) (type_at w c.args.at.now) (type_at c.climb.w c.climb.at) (type_at w c.args.face.now) c.args.slot.now (v.climbed a h) (own.0 c.if-is_offered.true))

pub returns-in-None-clause-ok : goal.returns-in-None-clause-ok
returns-in-None-clause-ok c = λ a h.
    let w = c.args.w.now in
    let v = c.climb.invariant in
    let own = climbed_is a (hierarchy w) w.nodes c.climb.w.nodes c.pool.result.now c.args.facts.now (type_at w c.args.at.now) (type_at w c.args.face.now) c.args.slot.now c.climb.at c.climb.wanted
    c.is_offered.result c.pool.ensures c.len.ensures.pool v.stays.nodes v.at h (v.climbed a h) v.wanted c.is_offered.ensures.answer in
    let none : parent (hierarchy c.climb.w) (type_at c.climb.w c.climb.at) ≡ None = rw c.in-None.is at c.in_ok-parent.ensures.ok in
    let top : parent (hierarchy w) (type_at c.climb.w c.climb.at) ≡ None = (λ i. parent (hierarchy_in (sym v.stays.tables i)) (type_at c.climb.w c.climb.at)) ∙ none in
    no_when (climbed_top a (hierarchy w) (type_at w c.args.at.now) (type_at c.climb.w c.climb.at) (type_at w c.args.face.now) c.args.slot.now (v.climbed a h) top (not_when own c.if-is_offered.false))

pub climb-preserved : goal.climb-preserved
climb-preserved c =
    let w = c.args.w.now in
    let v = c.climb.invariant in
    let next = c.parent_key.new.w in
    let s = c.in_ok-parent.ensures.stays in
    let has = rw c.in-Some.is at c.in_ok-parent.ensures.ok in
    let up : parent (hierarchy w) (type_at c.climb.w c.climb.at) ≡ Some has.0 = (λ i. parent (hierarchy_in (sym v.stays.tables i)) (type_at c.climb.w c.climb.at)) ∙ has.1 in
    record {
      at = has.2.within;
      stays = c.keys_keep_their_types.ensures.onward w c.climb.w next v.stays s;
      room = c.is_offered.ensures.same.room;
      wanted = wanted_grows c.climb.w.nodes next.nodes (hierarchy w) (type_at w c.args.face.now) c.args.slot.now c.is_offered.new.wanted s.nodes
          (wanted_same c.climb.w.nodes (hierarchy w) (type_at w c.args.face.now) c.args.slot.now c.climb.wanted c.is_offered.new.wanted c.is_offered.ensures.same v.wanted);
      climbed = λ a h.
          let own = climbed_is a (hierarchy w) w.nodes c.climb.w.nodes c.pool.result.now c.args.facts.now (type_at w c.args.at.now) (type_at w c.args.face.now) c.args.slot.now c.climb.at c.climb.wanted
          c.is_offered.result c.pool.ensures c.len.ensures.pool v.stays.nodes v.at h (v.climbed a h) v.wanted c.is_offered.ensures.answer in
          subst (λ (u : SigType). Climbed a (hierarchy w) (type_at w c.args.at.now) u (type_at w c.args.face.now) c.args.slot.now) (sym has.2.term)
          (climbed_more a (hierarchy w) (type_at w c.args.at.now) (type_at c.climb.w c.climb.at) (type_at w c.args.face.now) c.args.slot.now (v.climbed a h) has.0 up (not_when own c.if-is_offered.false));
    }
