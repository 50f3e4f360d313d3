use Rattle.std.proofs.Common.{◌≡◌, ℕ, suc, ◌+◌, true, drop, sym, ap, ◌∙◌, arith}
use Rattle.il_lexer.specs.Classes.{first_passes, is_id_part}
use Rattle.il_lexer.specs.Runs.{front}
use Rattle.il_lexer.proofs.PlainNames.{front-more, within}
use Rattle.il_lexer.proofs.names.id_behind.Goals as goal

pub loop-now-preserved : goal.loop-now-preserved
loop-now-preserved c =
    let bs = c.args.rest.now in
    let n = c.loop-now.now.length in
    let p = c.part_at.ensures in
    let t = c.loop-now-test.true in
    let h : first_passes is_id_part (drop n bs) ≡ true = cc in
    let lt = within is_id_part bs n h in
    let next : c.longer-now.result.length ≡ suc n = omega (arith, c.longer-now.ensures.long) in
    record {
      within = omega (arith, lt);
      long = ap (λ (k : ℕ). k + front is_id_part (drop k bs)) next ∙ sym (front-more is_id_part bs n h) ∙ c.loop-now.invariant.long;
      key = c.longer-now.ensures.key;
    }
