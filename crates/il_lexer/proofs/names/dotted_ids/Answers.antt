use Rattle.std.proofs.Common.{◌≡◌, ℕ, ◌+◌, ◌&&◌, true, Some, drop, ap, ◌∙◌, arith}
use Rattle.il_lexer.specs.Classes.{first_is, first_passes, is_id_start, is_id_part}
use Rattle.il_lexer.specs.Runs.{front}
use Rattle.il_lexer.proofs.PlainNames.{name-more}
use Rattle.il_lexer.proofs.names.dotted_ids.Goals as goal

pub loop-name-preserved : goal.loop-name-preserved
loop-name-preserved c =
    let bs = c.args.rest.now in
    let n = c.loop-name.name.length in
    let m = c.id_behind-name.result.length in
    let p = c.id_follows.ensures in
    let t = c.loop-name-test.true in
    let h : (first_is 46 (drop n bs) && first_passes is_id_start (drop (n + 1) bs)) ≡ true = cc in
    let long : m ≡ n + 1 + front is_id_part (drop (n + 1) bs) =
    c.id_behind-name.ensures.long ∙ ap (λ (k : ℕ). k + front is_id_part (drop k bs)) c.longer.ensures.long in
    record {
      some = omega (arith, long);
      within = c.id_behind-name.ensures.fits;
      key = c.id_behind-name.ensures.key;
      name = c.loop-name.invariant.name ∙ ap (λ (k : ℕ). Some k) (name-more bs n m h long);
    }
