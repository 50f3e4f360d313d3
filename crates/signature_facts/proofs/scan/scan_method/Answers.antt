use Rattle.std.proofs.Common.{◌∙◌}
use Rattle.signature_facts.specs.Scanning.{OwnersFacts, whole_method}
use Rattle.signature_facts.proofs.WholeTold.{moved, method_whole}
use Rattle.signature_facts.proofs.scan.scan_method.Goals as goal

pub returns-clause-read : goal.returns-clause-read
returns-clause-read g c = λ naming owners are bounded.
    c.whole_method.ensures ∙ moved (g.O.Owners.facts c.args.map.now) naming owners are (λ (f : OwnersFacts). whole_method f c.args.bytes.now) ∙ method_whole naming owners bounded c.args.bytes.now
