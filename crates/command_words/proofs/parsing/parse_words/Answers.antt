use Rattle.std.proofs.Common.{◌≡◌, [], None, sym, ◌∙◌}
use Rattle.command_words.specs.Words.{misfit_behind}
use Rattle.command_words.proofs.FitLemmas.{whole_line}
use Rattle.command_words.proofs.parsing.parse_words.Goals as goal

pub returns-in_ok-command-in-None-clause-command : goal.returns-in_ok-command-in-None-clause-command
returns-in_ok-command-in-None-clause-command c =
    let cases = c.in-Some.ensures.cases in
    let shape = c.in-Some-shape_of.shape in
    let fits : None ≡ misfit_behind shape 2 [] c.in-Some.words.now = cc in
    whole_line c.args.words.now _ _ _ shape c.in_ok-command-in-None.command (sym c.as_slice.ensures ∙ cases.0) c.as_str.ensures (cc) fits c.in_ok-command-in-None.ensures
