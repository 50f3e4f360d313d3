use Rattle.std.proofs.Common.{◌≡◌, ◌+◌, true, take, drop, add-one, ap, sym, ◌∙◌, arith}
use Rattle.command_words.specs.Words.{fits_behind, misfit_behind}
use Rattle.command_words.proofs.FitLemmas.{grows, goes_on}
use Rattle.command_words.proofs.fitting.misfit.Goals as goal

pub loop-k-preserved : goal.loop-k-preserved
loop-k-preserved c =
    let was = c.loop-k.invariant in
    let shape = c.args.shape in
    let words = c.args.words.now in
    let k = c.loop-k.k in
    let word = c.index-words-k.result in
    let fits : fits_behind shape (take k words) word ≡ true =
    ap (fits_behind shape (take k words)) (sym c.as_str.ensures) ∙ sym c.fits_behind.ensures ∙ c.if-not-fits_behind.false in
    record {
      number = omega (arith, was.number);
      fitting = grows shape words k word c.loop-k-test.true c.index-words-k.is fits was.fitting;
      goes = was.goes ∙ goes_on shape words k word c.loop-k-test.true c.index-words-k.is c.loop-k.number fits
          ∙ ap (λ n. misfit_behind shape n (take (k + 1) words) (drop (k + 1) words)) (sym (add-one c.loop-k.number));
    }
