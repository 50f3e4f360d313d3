use Rattle.std.proofs.Common.{◌≡◌, map}
use Rattle.source_model.specs.BodyFaults.{is_same_name}
use Rattle.source_model.specs.DeclaredTwice.{repeats}
use Rattle.source_model.specs.Source.{Source}
use Rattle.source_model.specs.Values.{name_text}
use Rattle.source_nodes.specs.Least.{least, sooner}
use Rattle.source_syntax.specs.Methods.{AreNames}
use Rattle.source_nodes.specs.Readers.{Reads}
use Rattle.source_syntax.proofs.LabelLemmas.{repeats_from}
use Rattle.check_bodies.proofs.label_rules.first_repeat.Given as goal

abbrev pub invariant-loop-at : goal.invariant-loop-at
invariant-loop-at l = (s : Source) → Reads l.reader s → AreNames s l.tokens → l.names ≡ map (name_text s) l.tokens
    → sooner l.found (least (repeats_from s l.tokens l.at)) ≡ least (repeats (is_same_name s) l.tokens)
