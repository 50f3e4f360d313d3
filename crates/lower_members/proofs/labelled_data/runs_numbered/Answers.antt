use Rattle.std.proofs.Common.{◌≡◌, None, Some, ap, sym, ◌∙◌}
use Rattle.std.specs.Prelude.{option_copied, slice_get}
use Rattle.lower_members.specs.Runs.{bytes_of_runs}
use Rattle.lower_members.proofs.LabelledLemmas.{none_numbered, some_numbered}
use Rattle.lower_members.proofs.labelled_data.runs_numbered.Goals as goal

pub returns-in-Some : goal.returns-in-Some
returns-in-Some c s fs e =
    let found : Some c.in-Some.runs.now ≡ slice_get c.args.contents.now c.args.k = sym (ap option_copied c.in-Some.is) ∙ c.get.ensures in
    ap bytes_of_runs c.as_slice.ensures ∙ some_numbered s c.args.contents.now fs c.args.k c.in-Some.runs.now e found

pub returns-in-None : goal.returns-in-None
returns-in-None c s fs e =
    let found : None ≡ slice_get c.args.contents.now c.args.k = sym (ap option_copied c.in-None.is) ∙ c.get.ensures in
    none_numbered s c.args.contents.now fs c.args.k e found
