use Rattle.std.proofs.Common.{◌∙◌}
use Rattle.signature_facts.specs.Scanning.{OwnersFacts, whole_type}
use Rattle.signature_facts.proofs.WholeTold.{moved, type_whole}
use Rattle.signature_facts.proofs.scan.scan_type.Goals as goal

pub returns-clause-read : goal.returns-clause-read
returns-clause-read g c = λ naming owners are bounded.
    c.whole_type.ensures ∙ moved (g.O.Owners.facts c.args.map.now) naming owners are (λ (f : OwnersFacts). whole_type f c.args.bytes.now) ∙ type_whole naming owners bounded c.args.bytes.now
