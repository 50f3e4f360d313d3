use Rattle.std.proofs.lemmas.Str.{IsCharBoundary-after_ascii}
use Rattle.print_leaves.proofs.quotes.cut.Goals as goal

pub range_from-back-requires : goal.range_from-back-requires
range_from-back-requires c = λ _. IsCharBoundary-after_ascii c.args.text.now c.args.place c.utf8.text c.requires.within c.requires.ascii
