use Rattle.std.proofs.Common.{◌-◌, ◌∷◌, length, take, drop, fold, ap, sym, ◌∙◌}
use Rattle.listing_model.specs.Shown.{none}
use Rattle.listing_model.specs.Types.{path_below, slash_name, type_id}
use Rattle.print_leaves.specs.Page.{drawn}
use Rattle.print_terms.specs.Rows.{under}
use Rattle.print_terms.proofs.Lists.{cons_is}
use Rattle.print_terms.proofs.Paths.{path_done}
use Rattle.print_terms.proofs.types.write_path.Goals as goal

pub returns-in_ok-write_inner-in-len1-up : goal.returns-in_ok-write_inner-in-len1-up
returns-in_ok-write_inner-in-len1-up c =
    path_done c.args.paper.now _ _ _ c.args.path.now _ (cons_is c.args.path.now c.first-item.result c.in-len1-up.len_at_least)
    c.in_ok-type_id-in-len1-up.ensures c.in_ok-write_inner-in-len1-up.ensures c.first-item.is
