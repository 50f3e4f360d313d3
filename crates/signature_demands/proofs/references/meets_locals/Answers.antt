use Rattle.std.proofs.Common.{inl, inr, refl}
use Rattle.image_model.specs.Used.{IsUsed}
use Rattle.method_states.specs.Marks.{IsKept}
use Rattle.signature_demands.proofs.Rows.{used_by, unused_by, locals_used, locals_unused}
use Rattle.signature_demands.proofs.references.meets_locals.Goals as goal

pub returns-then-is_used : goal.returns-then-is_used
returns-then-is_used g c =
    locals_used c.args.all.now.image.now (g.O.Owners.facts c.args.all.now.owners.now) c.args.row c.has_locals.result (rw c.requires.image at (used_by (IsKept 0x11) (IsUsed c.args.used.now 0x11 c.args.row) c.is_used.result c.is_used.ensures c.if-is_used.true)) c.has_locals.ensures

pub returns : goal.returns
returns g c =
    locals_unused c.args.all.now.image.now (g.O.Owners.facts c.args.all.now.owners.now) c.args.row (rw c.requires.image at (unused_by (IsKept 0x11) (IsUsed c.args.used.now 0x11 c.args.row) c.is_used.result c.is_used.ensures c.if-is_used.false (inr (inl refl))))
