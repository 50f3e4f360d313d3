use Rattle.image_model.specs.Streams.{strings_of, blobs_of}
use Rattle.kept_owners.specs.Kept.{KeptAll}
use Rattle.kept_owners.specs.Owners.{KeepsOwners, KeepsNoMembers}
use Rattle.kept_owners.proofs.Complete.{Laws, kept_at_end, sound_at_first, no_members}
use Rattle.kept_owners.proofs.Keeping.{ok_value}
use Rattle.kept_owners.proofs.owners.keep_owners.Goals as goal

pub returns-clause-owners : goal.returns-clause-owners
returns-clause-owners c = λ owners tells.
    let image = c.args.image.now in
    let old = c.new-kept.result in
    let kept = c.keep_all-done.new.kept in
    let laws : Laws image = record {
      text = c.one_content_at_an_index.ensures.text (strings_of image);
      blob = c.one_content_at_an_index.ensures.blob (blobs_of image);
      reads = c.read_is_spelled.ensures.type_of;
      hang = c.signatures_hang_on_tokens.ensures;
    } in
    ok_value (KeepsOwners image owners) c.after.result kept c.keep_all-done.result (KeptAll image old kept) (λ all. kept_at_end image laws old kept (sound_at_first image old c.new-kept.ensures.owners) all owners tells)
    c.keep_all-done.ensures c.after.ensures

pub returns-clause-others : goal.returns-clause-others
returns-clause-others c =
    let image = c.args.image.now in
    let old = c.new-kept.result in
    let kept = c.keep_all-done.new.kept in
    ok_value KeepsNoMembers c.after.result kept c.keep_all-done.result (KeptAll image old kept)
    (λ all. no_members image old kept all (record { methods = c.new-kept.ensures.methods; fields = c.new-kept.ensures.fields; locals = c.new-kept.ensures.locals; texts = c.new-kept.ensures.texts }))
    c.keep_all-done.ensures c.after.ensures
