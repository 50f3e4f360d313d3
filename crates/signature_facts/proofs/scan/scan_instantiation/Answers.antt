use Rattle.std.proofs.Common.{◌∙◌}
use Rattle.signature_facts.specs.Scanning.{OwnersFacts, whole_instantiation}
use Rattle.signature_facts.proofs.WholeTold.{moved, instantiation_whole}
use Rattle.signature_facts.proofs.scan.scan_instantiation.Goals as goal

pub returns-clause-read : goal.returns-clause-read
returns-clause-read g c = λ naming owners are bounded.
    c.whole_instantiation.ensures ∙ moved (g.O.Owners.facts c.args.map.now) naming owners are (λ (f : OwnersFacts). whole_instantiation f c.args.bytes.now) ∙ instantiation_whole naming owners bounded c.args.bytes.now
