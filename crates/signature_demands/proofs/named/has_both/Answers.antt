use Rattle.image_model.specs.Columns.{instance_method, instance_arguments}
use Rattle.signature_facts.specs.Scanning.{whole_instantiation}
use Rattle.signature_bounds.specs.Bounded.{NamesMethod, IsKept, HasRank, scanned_at}
use Rattle.signature_demands.proofs.Rows.{no, no_by, and_right}
use Rattle.signature_demands.proofs.named.has_both.Goals as goal

pub returns-then-has_method : goal.returns-then-has_method
returns-then-has_method g c =
    and_right (NamesMethod c.args.all.now.image.now (g.O.Owners.facts c.args.all.now.owners.now) (instance_method c.args.all.now.image.now c.args.row)) (IsKept (scanned_at c.args.all.now.image.now (whole_instantiation (g.O.Owners.facts c.args.all.now.owners.now)) (instance_arguments c.args.all.now.image.now c.args.row)) (λ l. HasRank l.facts)) c.has_arguments.result
    (c.has_method.ensures.0 c.if-has_method.true) c.has_arguments.ensures

pub returns : goal.returns
returns g c =
    no (NamesMethod c.args.all.now.image.now (g.O.Owners.facts c.args.all.now.owners.now) (instance_method c.args.all.now.image.now c.args.row) × IsKept (scanned_at c.args.all.now.image.now (whole_instantiation (g.O.Owners.facts c.args.all.now.owners.now)) (instance_arguments c.args.all.now.image.now c.args.row)) (λ l. HasRank l.facts))
    (λ x. no_by (NamesMethod c.args.all.now.image.now (g.O.Owners.facts c.args.all.now.owners.now) (instance_method c.args.all.now.image.now c.args.row)) c.has_method.result c.has_method.ensures c.if-has_method.false x.0)
