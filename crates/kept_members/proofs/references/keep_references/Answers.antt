use Rattle.std.proofs.Common.{◌≡◌, arith, rules}
use Rattle.image_model.specs.Rows.{count_of, token_of}
use Rattle.kept_members.specs.Maps.{all_of}
use Rattle.kept_members.specs.Members.{IsMethodOf, IsFieldOf, IsMemberMethod, IsMemberField}
use Rattle.kept_members.proofs.Adding.{adds_none, adds_both, upto_none, upto_more}
use Rattle.kept_members.proofs.Naming.{used_there}
use Rattle.kept_members.proofs.references.keep_references.Goals as goal

pub loop-row-init : goal.loop-row-init
loop-row-init c =
    let image = c.args.image.now in
    let known = c.args.known.now in (
      adds_none (IsMethodOf image known) (all_of c.args.methods.now),
      adds_none (IsFieldOf image known) (all_of c.args.fields.now),
      upto_none (IsMemberMethod image known) 0x0A (all_of c.args.methods.now),
      upto_none (IsMemberField image known) 0x0A (all_of c.args.fields.now),
    )

pub keep_used-requires-clause-so : goal.keep_used-requires-clause-so
keep_used-requires-clause-so c = c.loop-row.invariant.0.so c.requires.so

pub keep_used-requires-clause-has : goal.keep_used-requires-clause-has
keep_used-requires-clause-has c = λ row there. c.loop-row.invariant.0.stays (token_of 0x06 row) (c.requires.has row there)

pub loop-row-preserved : goal.loop-row-preserved
loop-row-preserved c =
    let image = c.args.image.now in
    let known = c.args.known.now in
    let methods = all_of c.loop-row.methods in
    let fields = all_of c.loop-row.fields in
    let more = all_of c.keep_used.new.methods in
    let other = all_of c.keep_used.new.fields in
    let e = c.in_ok-keep_used.ensures in
    let i = c.loop-row.invariant in (
      adds_both (IsMethodOf image known) (all_of c.args.methods.now) methods more i.0 e.adds_methods,
      adds_both (IsFieldOf image known) (all_of c.args.fields.now) fields other i.1 e.adds_fields,
      upto_more (IsMethodOf image known) (IsMemberMethod image known) 0x0A c.loop-row.row methods more i.2 e.adds_methods e.methods,
      upto_more (IsFieldOf image known) (IsMemberField image known) 0x0A c.loop-row.row fields other i.3 e.adds_fields e.fields,
    )

pub returns-clause-methods : goal.returns-clause-methods
returns-clause-methods c =
    let all : c.loop-row.row ≡ count_of c.args.image.now 0x0A = search rules in
    λ row h.
    let there = used_there h.0 in
    c.loop-row.invariant.2 row there.0 (let upto = there.1 in omega (arith, all, upto)) h

pub returns-clause-fields : goal.returns-clause-fields
returns-clause-fields c =
    let all : c.loop-row.row ≡ count_of c.args.image.now 0x0A = search rules in
    λ row h.
    let there = used_there h.0 in
    c.loop-row.invariant.3 row there.0 (let upto = there.1 in omega (arith, all, upto)) h
