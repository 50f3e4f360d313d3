use Rattle.std.proofs.Common.{◌≤◌, [], length, ap, sym, subst, ◌∙◌, arith}
use Rattle.std.specs.List.{flat_map}
use Rattle.source_model.specs.Data.{data_items, item_bytes}
use Rattle.source_nodes.specs.Pieces.{ArePieces}
use Rattle.source_nodes.proofs.PieceLemmas.{all_taken, flat_next, part_read}
use Rattle.source_flags.specs.InRange.{IsInRange}
use Rattle.source_flags.specs.Lines.{productions_of}
use Rattle.source_flags.specs.declared.gathering.Kind.TheVariants.{DataItems}
use Rattle.source_flags.proofs.Gathered.{IsSought, all_at, of_parts}
use Rattle.lower_members.specs.Runs.{bytes_of_runs}
use Rattle.lower_members.proofs.data_items.data_runs.Goals as goal

pub push_item-requires : goal.push_item-requires
push_item-requires c =
    let found = c.as_slice-piece-items.result.now in
    let f = c.requires in
    let are : ArePieces c.args.nodes.now found (data_items f.0) =
    subst (λ xs. ArePieces c.args.nodes.now xs (data_items f.0)) (sym c.as_slice-piece-items.ensures) (c.in_ok-found.ensures f.0 f.1) in
    let m = part_read c.args.nodes.now found (data_items f.0) c.loop-piece.piece-index _ are c.loop-piece-test.true in
    (m.of.below, m.below ∙ sym c.nodes_of.ensures)

pub loop-piece-preserved : goal.loop-piece-preserved
loop-piece-preserved c s f r e h =
    let found = c.as_slice-piece-items.result.now in
    let ps = data_items f in
    let i = c.loop-piece.piece-index in
    let are : ArePieces c.args.nodes.now found ps =
    subst (λ xs. ArePieces c.args.nodes.now xs ps) (sym c.as_slice-piece-items.ensures) (c.in_ok-found.ensures f e) in
    let m = part_read c.args.nodes.now found ps i _ are c.loop-piece-test.true in
    let own = all_at (IsSought (IsInRange s) (productions_of DataItems)) ps i m.of (of_parts (IsInRange s) (productions_of DataItems) f h) m.at in
    c.in_ok-push_item.ensures s m.of r m.production (m.below ∙ sym c.nodes_of.ensures) (own.0, own.1)
    ∙ flat_next (item_bytes s) ps i m.of [] (bytes_of_runs c.loop-piece.runs) m.at (c.loop-piece.invariant s f r e h)

pub returns : goal.returns
returns c s f r e h =
    let found = c.as_slice-piece-items.result.now in
    let ps = data_items f in
    let are : ArePieces c.args.nodes.now found ps =
    subst (λ xs. ArePieces c.args.nodes.now xs ps) (sym c.as_slice-piece-items.ensures) (c.in_ok-found.ensures f e) in
    let over : length found ≤ c.loop-piece.piece-index = omega (arith, c.loop-piece-test.false) in
    c.loop-piece.invariant s f r e h ∙ ap (flat_map (item_bytes s)) (all_taken c.args.nodes.now found ps c.loop-piece.piece-index are over)
