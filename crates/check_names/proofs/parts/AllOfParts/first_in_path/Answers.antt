use Rattle.std.proofs.Common.{◌∙◌, ap, sym}
use Rattle.source_model.specs.Forest.{is_among}
use Rattle.source_model.specs.TypeRules.{path_too_long}
use Rattle.source_nodes.specs.Least.{least}
use Rattle.check_visitor.proofs.LeastOfRules.{then_rule}
use Rattle.check_names.specs.AllOfParts.{name_broken}
use Rattle.check_names.specs.Asked.{named}
use Rattle.check_names.proofs.AskedLemmas.{names_asked}
use Rattle.check_names.proofs.parts.AllOfParts.first_in_path.Goals as goal

pub returns : goal.returns
returns c s n r p e fits bodies own =
    let keys = c.args.self.now.types.scopes.keys.now in
    let ours = c.args.self.now.types.scopes.own.now in
    let classes = c.args.self.now.types.classes.now in
    then_rule c.sooner.result c.in_ok-name.name c.in_ok-path.path (name_broken keys ours classes s n) (path_too_long n) c.sooner.ensures
    (c.in_ok-name.ensures s n r p e fits bodies) (c.in_ok-path.ensures n p e)
    ∙ ap least (sym (names_asked s n keys ours classes c.args.self.now.labels.names.now (ap (is_among named) p ∙ own)))
