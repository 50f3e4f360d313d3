use Rattle.image_reader.proofs.Trees.{overrides, ready, tree_read}
use Rattle.image_reader.proofs.whole.tree_by.Goals as goal

pub read_tree-requires-clause-nesting : goal.read_tree-requires-clause-nesting
read_tree-requires-clause-nesting c = c.requires.meets.scopes

pub read_tree-requires-clause-overrides : goal.read_tree-requires-clause-overrides
read_tree-requires-clause-overrides c = overrides c.args.image.now c.requires.small c.tables-tables.ensures.meets c.requires.meets

pub read_tree-requires-clause-ready : goal.read_tree-requires-clause-ready
read_tree-requires-clause-ready c =
    ready c.args.image.now c.requires.small c.tables-tables.ensures.meets c.requires.meets c.requires.bytes c.args.kept.now c.args.sizes.now c.requires.kept c.requires.sizes c.an_image_is_ready.ensures

pub returns : goal.returns
returns c =
    tree_read c.args.image.now c.requires.small c.tables-tables.ensures.meets c.requires.meets c.requires.bytes c.args.kept.now c.args.sizes.now c.requires.kept c.requires.sizes c.what_is_read_is_so.ensures
    c.read_tree.result c.read_tree.ensures
