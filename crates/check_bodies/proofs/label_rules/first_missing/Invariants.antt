use Rattle.std.proofs.Common.{◌≡◌, drop}
use Rattle.std.specs.Prelude.{not, filter, bytes_eq, is_some, position}
use Rattle.source_model.specs.Source.{Source}
use Rattle.source_model.specs.Values.{name_text}
use Rattle.source_nodes.specs.Least.{least, sooner}
use Rattle.source_syntax.specs.Methods.{AreNames}
use Rattle.source_nodes.specs.Readers.{Reads}
use Rattle.check_bodies.proofs.label_rules.first_missing.Given as goal

abbrev pub invariant-loop-token : goal.invariant-loop-token
invariant-loop-token l = (s : Source) → Reads l.reader s → AreNames s l.tokens
    → sooner l.found (least (filter (λ t. not (is_some (position (bytes_eq (name_text s t)) l.names))) (drop l.token-index l.tokens)))
    ≡ least (filter (λ t. not (is_some (position (bytes_eq (name_text s t)) l.names))) l.tokens)
