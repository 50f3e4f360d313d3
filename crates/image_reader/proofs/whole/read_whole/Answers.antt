use Rattle.image_reader.proofs.Outcomes.{reads}
use Rattle.image_reader.proofs.whole.read_whole.Goals as goal

pub returns : goal.returns
returns c =
    reads c.args.image.now c.tables-tables.ensures.meets c.requires.meets c.in_ok-tree.tree c.in_ok-tree.ensures c.in_ok-little.little c.in_ok-little.ensures.little c.if-not-little.false
