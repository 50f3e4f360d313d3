use Rattle.std.proofs.Common.{◌≡◌, arith, rules}
use Rattle.image_model.specs.Rows.{count_of, methods_of}
use Rattle.kept_members.specs.Maps.{all_of}
use Rattle.kept_members.specs.Members.{IsMethodOf}
use Rattle.kept_members.proofs.Adding.{adds_none, adds_both}
use Rattle.kept_members.proofs.Naming.{of_none, of_more}
use Rattle.kept_members.proofs.declared_methods.keep_methods.Goals as goal

pub loop-of-init : goal.loop-of-init
loop-of-init c = (adds_none (IsMethodOf c.args.image.now c.args.known.now) (all_of c.args.methods.now), of_none c.args.image.now methods_of 0x06 (all_of c.args.methods.now))

pub loop-of-preserved : goal.loop-of-preserved
loop-of-preserved c =
    let Is = IsMethodOf c.args.image.now c.args.known.now in
    let old = all_of c.loop-of.methods in
    let new = all_of c.keep_of_type.new.methods in (
      adds_both Is (all_of c.args.methods.now) old new c.loop-of.invariant.0 c.in_ok-keep_of_type.ensures.adds,
      of_more Is c.args.image.now methods_of 0x06 c.loop-of.of old new c.loop-of.invariant.1 c.in_ok-keep_of_type.ensures.adds c.in_ok-keep_of_type.ensures.has,
    )

pub returns-clause-has : goal.returns-clause-has
returns-clause-has c =
    let all : c.loop-of.of ≡ count_of c.args.image.now 0x02 = search rules in
    λ row there.
    let t = c.requires.method_in row there in
    c.loop-of.invariant.1 t.0 row t.1 (let upto = t.1.1 in omega (arith, all, upto)) t.2
