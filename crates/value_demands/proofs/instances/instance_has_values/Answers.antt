use Rattle.std.proofs.Common.{ℕ, List, sym, subst, ◌∙◌}
use Rattle.std.proofs.lemmas.Bool.{false≢true}
use Rattle.image_model.specs.Rows.{HasRow}
use Rattle.image_model.specs.Used.{IsUsed}
use Rattle.value_demands.proofs.Fitting.{unused_values, used_values}
use Rattle.value_demands.proofs.instances.instance_has_values.Goals as goal

pub is_instance_used-requires : goal.is_instance_used-requires
is_instance_used-requires g c = subst (λ (i : List ℕ). HasRow i 0x2B c.args.row) (sym c.requires.used) c.requires.there

pub returns-then-not-is_instance_used : goal.returns-then-not-is_instance_used
returns-then-not-is_instance_used g c =
    unused_values c.args.image.now c.args.row c.requires.there
    (λ u. false≢true (sym c.if-not-is_instance_used.true ∙ c.is_instance_used.ensures.1 (subst (λ (i : List ℕ). IsUsed i 0x2B c.args.row) (sym c.requires.used) u)))

pub fits_instance-requires-clause-used : goal.fits_instance-requires-clause-used
fits_instance-requires-clause-used g c = subst (λ (i : List ℕ). IsUsed i 0x2B c.args.row) c.requires.used (c.is_instance_used.ensures.0 c.if-not-is_instance_used.false)

pub returns : goal.returns
returns g c =
    used_values c.args.image.now c.args.row c.requires.there c.fits_instance.result
    (subst (λ (i : List ℕ). IsUsed i 0x2B c.args.row) c.requires.used (c.is_instance_used.ensures.0 c.if-not-is_instance_used.false)) c.fits_instance.ensures
