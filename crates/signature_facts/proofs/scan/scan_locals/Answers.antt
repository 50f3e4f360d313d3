use Rattle.std.proofs.Common.{◌∙◌}
use Rattle.signature_facts.specs.Scanning.{OwnersFacts, whole_locals}
use Rattle.signature_facts.proofs.WholeTold.{moved, locals_whole}
use Rattle.signature_facts.proofs.scan.scan_locals.Goals as goal

pub returns-clause-read : goal.returns-clause-read
returns-clause-read g c = λ naming owners are bounded.
    c.whole_locals.ensures ∙ moved (g.O.Owners.facts c.args.map.now) naming owners are (λ (f : OwnersFacts). whole_locals f c.args.bytes.now) ∙ locals_whole naming owners bounded c.args.bytes.now
