use Rattle.std.proofs.Common.{◌<◌, ◌-◌, length, refl, arith}
use Rattle.source_syntax.proofs.NamingLemmas.{text_before}
use Rattle.source_syntax.proofs.name_lists.texts.Goals as goal

pub loop-more-preserved : goal.loop-more-preserved
loop-more-preserved c =
    let within : c.loop-more.more - 1 < length c.args.tokens.now = omega (arith, c.loop-more-test.true, c.loop-more.invariant.within) in
    record {
      within = omega (arith, within);
      so_far = λ s r all.
          text_before s c.args.tokens.now c.loop-more.names c.put_name.new.names c.loop-more.more _ _ c.loop-more-test.true
          c.loop-more.invariant.within refl refl (c.loop-more.invariant.so_far s r all) (c.in_ok-put_name.ensures s r (all (c.loop-more.more - 1) 0 within));
    }
