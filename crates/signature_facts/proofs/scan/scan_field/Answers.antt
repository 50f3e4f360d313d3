use Rattle.std.proofs.Common.{◌∙◌}
use Rattle.signature_facts.specs.Scanning.{OwnersFacts, whole_field}
use Rattle.signature_facts.proofs.WholeTold.{moved, field_whole}
use Rattle.signature_facts.proofs.scan.scan_field.Goals as goal

pub returns-clause-read : goal.returns-clause-read
returns-clause-read g c = λ naming owners are bounded.
    c.whole_field.ensures ∙ moved (g.O.Owners.facts c.args.map.now) naming owners are (λ (f : OwnersFacts). whole_field f c.args.bytes.now) ∙ field_whole naming owners bounded c.args.bytes.now
