use Rattle.std.proofs.Common.{◌≡◌, arith, rules}
use Rattle.image_model.specs.Rows.{count_of, token_of}
use Rattle.kept_members.specs.Maps.{all_of}
use Rattle.kept_members.specs.Members.{IsMethodOf, IsInstance}
use Rattle.kept_members.proofs.Adding.{adds_none, adds_both, upto_none, upto_more}
use Rattle.kept_members.proofs.Naming.{used_there}
use Rattle.kept_members.proofs.instances.keep_instances.Goals as goal

pub loop-row-init : goal.loop-row-init
loop-row-init c = (adds_none (IsMethodOf c.args.image.now c.args.known.now) (all_of c.args.methods.now), upto_none (IsInstance c.args.image.now) 0x2B (all_of c.args.methods.now))

pub keep_used-requires-clause-so : goal.keep_used-requires-clause-so
keep_used-requires-clause-so c = c.loop-row.invariant.0.so c.requires.so

pub keep_used-requires-clause-has : goal.keep_used-requires-clause-has
keep_used-requires-clause-has c = λ row there. c.loop-row.invariant.0.stays (token_of 0x06 row) (c.requires.has row there)

pub keep_used-requires-clause-members : goal.keep_used-requires-clause-members
keep_used-requires-clause-members c = λ row h. c.loop-row.invariant.0.stays (token_of 0x0A row) (c.requires.members row h)

pub loop-row-preserved : goal.loop-row-preserved
loop-row-preserved c =
    let Is = IsMethodOf c.args.image.now c.args.known.now in
    let old = all_of c.loop-row.methods in
    let new = all_of c.keep_used.new.methods in (
      adds_both Is (all_of c.args.methods.now) old new c.loop-row.invariant.0 c.in_ok-keep_used.ensures.adds,
      upto_more Is (IsInstance c.args.image.now) 0x2B c.loop-row.row old new c.loop-row.invariant.1 c.in_ok-keep_used.ensures.adds c.in_ok-keep_used.ensures.has,
    )

pub returns-clause-has : goal.returns-clause-has
returns-clause-has c =
    let all : c.loop-row.row ≡ count_of c.args.image.now 0x2B = search rules in
    λ row h.
    let there = used_there h.0 in
    c.loop-row.invariant.1 row there.0 (let upto = there.1 in omega (arith, all, upto)) h
