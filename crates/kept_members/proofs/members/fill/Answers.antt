use Rattle.image_model.specs.Rows.{token_of}
use Rattle.kept_members.specs.Maps.{all_of}
use Rattle.kept_members.specs.Members.{IsMethodOf, IsFieldOf}
use Rattle.kept_members.proofs.Adding.{on_both, none_true}
use Rattle.kept_members.proofs.members.fill.Goals as goal

pub keep_references-requires-clause-so : goal.keep_references-requires-clause-so
keep_references-requires-clause-so c = c.in_ok-keep_methods.ensures.adds.so (none_true (IsMethodOf c.args.image.now c.args.known.now) (all_of c.args.members.now.methods) c.requires.methods)

pub keep_instances-requires-clause-so : goal.keep_instances-requires-clause-so
keep_instances-requires-clause-so c =
    c.in_ok-keep_references.ensures.adds_methods.so (c.in_ok-keep_methods.ensures.adds.so (none_true (IsMethodOf c.args.image.now c.args.known.now) (all_of c.args.members.now.methods) c.requires.methods))

pub keep_instances-requires-clause-has : goal.keep_instances-requires-clause-has
keep_instances-requires-clause-has c = λ row there. c.in_ok-keep_references.ensures.adds_methods.stays (token_of 0x06 row) (c.in_ok-keep_methods.ensures.has row there)

pub returns : goal.returns
returns c =
    let image = c.args.image.now in
    let known = c.args.known.now in
    let m = c.in_ok-keep_methods.ensures in
    let f = c.in_ok-keep_fields.ensures in
    let r = c.in_ok-keep_references.ensures in
    let so = r.adds_methods.so (m.adds.so (none_true (IsMethodOf image known) (all_of c.args.members.now.methods) c.requires.methods)) in
    on_both c.keep_instances.result c.keep_instances.ensures.adds c.keep_instances.ensures.has
    (λ i has. record {
      true_methods = i.so so;
      true_fields = r.adds_fields.so (f.adds.so (none_true (IsFieldOf image known) (all_of c.args.members.now.fields) c.requires.fields));
      methods = λ row there. i.stays (token_of 0x06 row) (r.adds_methods.stays (token_of 0x06 row) (m.has row there));
      fields = λ row there. r.adds_fields.stays (token_of 0x04 row) (f.has row there);
      member_methods = λ row h. i.stays (token_of 0x0A row) (r.methods row h);
      member_fields = r.fields;
      instances = has;
    })
