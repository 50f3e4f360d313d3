use Rattle.std.proofs.Common.{arith}
use Rattle.signature_bounds.specs.Bounded.{HasBounded}
use Rattle.signature_demands.proofs.Rows.{yes, vacuous, other_bounded}
use Rattle.signature_demands.proofs.signatures.SignaturesDemand.row_meets.Goals as goal

pub returns-then-row-eq0 : goal.returns-then-row-eq0
returns-then-row-eq0 g c =
    let image = c.args.self.now.all.now.image.now in
    let facts = g.O.Owners.facts c.args.self.now.all.now.owners.now in
    yes (HasBounded image facts c.args.table c.args.row) (vacuous image facts c.args.row c.args.table (λ there. absurd (let l = there.0 in let e = c.if-row-eq0.true in omega arith)))

pub returns-in_default : goal.returns-in_default
returns-in_default g c =
    let image = c.args.self.now.all.now.image.now in
    let facts = g.O.Owners.facts c.args.self.now.all.now.owners.now in
    yes (HasBounded image facts c.args.table c.args.row) (other_bounded image facts c.args.row c.args.table (record {
      fields = (λ e. absurd (omega arith));
      methods = (λ e. absurd (omega arith));
      members = (λ e. absurd (omega arith));
      locals = (λ e. absurd (omega arith));
      properties = (λ e. absurd (omega arith));
      overrides = (λ e. absurd (omega arith));
      types = (λ e. absurd (omega arith));
      instances = (λ e. absurd (omega arith));
    }))

pub meets_member-requires-clause-image : goal.meets_member-requires-clause-image
meets_member-requires-clause-image g c = c.args.self.now.of_image

pub meets_locals-requires-clause-image : goal.meets_locals-requires-clause-image
meets_locals-requires-clause-image g c = c.args.self.now.of_image

pub meets_type-requires-clause-image : goal.meets_type-requires-clause-image
meets_type-requires-clause-image g c = c.args.self.now.of_image

pub meets_instance-requires-clause-image : goal.meets_instance-requires-clause-image
meets_instance-requires-clause-image g c = c.args.self.now.of_image

pub meets_override-requires-clause-members : goal.meets_override-requires-clause-members
meets_override-requires-clause-members g c = c.args.self.now.members

pub meets_instance-requires-clause-members : goal.meets_instance-requires-clause-members
meets_instance-requires-clause-members g c = c.args.self.now.members
