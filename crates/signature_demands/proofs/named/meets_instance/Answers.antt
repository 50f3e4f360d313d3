use Rattle.std.proofs.Common.{inl, inr, refl}
use Rattle.image_model.specs.Used.{IsUsed}
use Rattle.method_states.specs.Marks.{IsKept}
use Rattle.signature_demands.proofs.Rows.{used_by, unused_by, instance_used, instance_unused}
use Rattle.signature_demands.proofs.named.meets_instance.Goals as goal

pub returns-then-is_used : goal.returns-then-is_used
returns-then-is_used g c =
    instance_used c.args.all.now.image.now (g.O.Owners.facts c.args.all.now.owners.now) c.args.row c.has_both.result c.requires.there (rw c.requires.image at (used_by (IsKept 0x2B) (IsUsed c.args.used.now 0x2B c.args.row) c.is_used.result c.is_used.ensures c.if-is_used.true)) c.has_both.ensures

pub returns : goal.returns
returns g c =
    instance_unused c.args.all.now.image.now (g.O.Owners.facts c.args.all.now.owners.now) c.args.row c.has_method.result c.requires.there
    (rw c.requires.image at (unused_by (IsKept 0x2B) (IsUsed c.args.used.now 0x2B c.args.row) c.is_used.result c.is_used.ensures c.if-is_used.false (inr (inr (inr refl))))) c.has_method.ensures
