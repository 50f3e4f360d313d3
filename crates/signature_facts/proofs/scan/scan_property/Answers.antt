use Rattle.std.proofs.Common.{◌∙◌}
use Rattle.signature_facts.specs.Scanning.{OwnersFacts, whole_property}
use Rattle.signature_facts.proofs.WholeTold.{moved, property_whole}
use Rattle.signature_facts.proofs.scan.scan_property.Goals as goal

pub returns-clause-read : goal.returns-clause-read
returns-clause-read g c = λ naming owners are bounded.
    c.whole_property.ensures ∙ moved (g.O.Owners.facts c.args.map.now) naming owners are (λ (f : OwnersFacts). whole_property f c.args.bytes.now) ∙ property_whole naming owners bounded c.args.bytes.now
