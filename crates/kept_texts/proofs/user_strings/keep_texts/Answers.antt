use Rattle.image_model.specs.Naming.{NamesText}
use Rattle.kept_members.specs.Maps.{all_of}
use Rattle.kept_members.proofs.Adding.{none_true}
use Rattle.kept_texts.proofs.user_strings.keep_texts.Goals as goal

pub returns : goal.returns
returns c = record {
  so = c.in_ok-keep_of_methods.ensures.adds.so (none_true (NamesText c.args.image.now) (all_of c.new-texts.result) c.new-texts.ensures);
  has = λ method there. c.in_ok-keep_of_methods.ensures.has method there there.1;
}
