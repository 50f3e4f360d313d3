use Rattle.std.proofs.Common.{ap, ◌∙◌, get_or}
use Rattle.print_leaves.proofs.Escapes.{quoted_step, quoted_done, text_behind, wants_ascii}
use Rattle.print_leaves.proofs.paper.Paper.quoted.Goals as goal

pub loop-place-preserved : goal.loop-place-preserved
loop-place-preserved c =
    let rest = c.loop-place.rest.now in
    let f = c.in-Some.ensures in (
      text_behind rest _ c.in-Some.place c.loop-place.invariant.0 f.within (wants_ascii c.args.quote (get_or rest c.in-Some.place 0) c.requires f.wants) c.cut.ensures.back,
      quoted_step c.loop-place.self _ _ c.args.quote _ c.in-Some.place rest _ _ f c.in_ok-add.ensures c.cut.ensures.front c.in_ok-escape.ensures
          (ap (λ b. get_or b c.in-Some.place 0) c.as_bytes.ensures.value) c.cut.ensures.back ∙ c.loop-place.invariant.1,
    )

pub returns : goal.returns
returns c =
    quoted_done c.args.self.now _ c.loop-place.self _ _ c.args.quote c.loop-place.rest.now c.args.text.now c.in_ok-add_ascii.ensures c.loop-place.invariant.1
    c.in_default.ensures c.in_ok-add-2.ensures c.in_ok-add_ascii-2.ensures
