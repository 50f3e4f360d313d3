use Rattle.std.proofs.Common.{sym, ◌∙◌}
use Rattle.std.proofs.lemmas.Bool.Decides.{Decides-eqb}
use Rattle.check_bodies.proofs.NamingLemmas.{names_in_code}
use Rattle.check_bodies.proofs.label_faults.are_all_in_code.Goals as goal

pub returns : goal.returns
returns c f e are same =
    names_in_code c.args.method.now c.args.code.now f e are
    (sym c.naming_nodes.ensures ∙ (Decides-eqb c.naming_nodes.result c.naming_pieces.result).0 same ∙ c.naming_pieces.ensures)
