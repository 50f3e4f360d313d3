use Rattle.std.proofs.Common.{◌-◌, sym, ◌∙◌, length}
use Rattle.source_nodes.proofs.PieceLemmas.{part_read}
use Rattle.check_bodies.proofs.KnownLemmas.{last_is, none_past}
use Rattle.check_bodies.proofs.known_names.are_followed.Goals as goal

pub first_token-start-requires : goal.first_token-start-requires
first_token-start-requires c =
    let m = part_read c.args.nodes.now c.args.code.now c.requires.0 (length c.args.code.now - 1) _ c.requires.1 (last_is (length c.args.code.now) c.is_empty.result c.if-is_empty.false c.is_empty.ensures) in
    (m.of.below, m.below ∙ sym c.nodes_of.ensures)

pub returns : goal.returns
returns c ps are is =
    let last = length c.args.code.now - 1 in
    let m = part_read c.args.nodes.now c.args.code.now ps last _ are (last_is (length c.args.code.now) c.is_empty.result c.if-is_empty.false c.is_empty.ensures) in
    none_past ps last m.of c.first_token-start.result m.at (sym (c.first_token-start.ensures m.of.below (m.below ∙ sym c.nodes_of.ensures)))
    c.args.labels.now (sym c.are_up_to.ensures ∙ is)
