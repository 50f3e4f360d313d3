use Rattle.std.proofs.Common.{◌≡◌, arith, rules}
use Rattle.image_model.specs.Rows.{count_of, fields_of}
use Rattle.kept_members.specs.Maps.{all_of}
use Rattle.kept_members.specs.Members.{IsFieldOf}
use Rattle.kept_members.proofs.Adding.{adds_none, adds_both}
use Rattle.kept_members.proofs.Naming.{of_none, of_more}
use Rattle.kept_members.proofs.declared_fields.keep_fields.Goals as goal

pub loop-of-init : goal.loop-of-init
loop-of-init c = (adds_none (IsFieldOf c.args.image.now c.args.known.now) (all_of c.args.fields.now), of_none c.args.image.now fields_of 0x04 (all_of c.args.fields.now))

pub loop-of-preserved : goal.loop-of-preserved
loop-of-preserved c =
    let Is = IsFieldOf c.args.image.now c.args.known.now in
    let old = all_of c.loop-of.fields in
    let new = all_of c.keep_of_type.new.fields in (
      adds_both Is (all_of c.args.fields.now) old new c.loop-of.invariant.0 c.in_ok-keep_of_type.ensures.adds,
      of_more Is c.args.image.now fields_of 0x04 c.loop-of.of old new c.loop-of.invariant.1 c.in_ok-keep_of_type.ensures.adds c.in_ok-keep_of_type.ensures.has,
    )

pub returns-clause-has : goal.returns-clause-has
returns-clause-has c =
    let all : c.loop-of.of ≡ count_of c.args.image.now 0x02 = search rules in
    λ row there.
    let t = c.requires.field_in row there in
    c.loop-of.invariant.1 t.0 row t.1 (let upto = t.1.1 in omega (arith, all, upto)) t.2
