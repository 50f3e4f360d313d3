use Rattle.kept_members.specs.Maps.{all_of}
use Rattle.kept_members.proofs.Adding.{none_true}
use Rattle.kept_texts.specs.Texts.{AreLocalsOf}
use Rattle.kept_texts.proofs.locals.keep_locals.Goals as goal

pub returns : goal.returns
returns c = record {
  so = c.in_ok-keep_rows.ensures.adds.so (none_true (AreLocalsOf c.args.image.now c.args.known.now) (all_of c.new-locals.result) c.new-locals.ensures);
  has = c.in_ok-keep_rows.ensures.has;
}
