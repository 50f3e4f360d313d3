use Rattle.std.proofs.Common.{◌+◌, ◌≤◌, [], ◌++◌, length, ap, sym, ◌∙◌, arith}
use Rattle.std.specs.List.{enumerate_from, flat_map}
use Rattle.source_nodes.proofs.PieceLemmas.{as_many, flat_next, part_read}
use Rattle.check_bodies.specs.NamedVariables.{number_if_named}
use Rattle.check_bodies.proofs.CodeLemmas.{all_numbered, with_number}
use Rattle.check_bodies.proofs.variables.name_numbers.Goals as goal

pub push_number-requires : goal.push_number-requires
push_number-requires c =
    let m = part_read c.args.nodes.now c.args.found.now c.requires.0 c.loop-k.k _ c.requires.1 c.loop-k-test.true in
    (m.of.below, m.below ∙ sym c.nodes_of-below.ensures)

pub loop-k-preserved : goal.loop-k-preserved
loop-k-preserved c ps are =
    let k = c.loop-k.k in
    let m = part_read c.args.nodes.now c.args.found.now ps k _ are c.loop-k-test.true in
    c.in_ok-push_number.ensures m.of.below (m.below ∙ sym c.nodes_of-below.ensures)
    ∙ ap (λ n. c.loop-k.numbers ++ number_if_named (n + k) m.of.below) c.from.ensures
    ∙ flat_next (λ x. number_if_named (c.args.first + x.0) x.1.below) (enumerate_from 0 ps) k (k, m.of) [] c.loop-k.numbers (with_number ps k m.of m.at) (c.loop-k.invariant ps are)

pub returns : goal.returns
returns c ps are =
    let many = as_many c.args.nodes.now c.args.found.now ps are in
    let over : length ps ≤ c.loop-k.k = omega (arith, many, c.loop-k-test.false) in
    c.loop-k.invariant ps are
    ∙ ap (λ xs. flat_map (λ x. number_if_named (c.args.first + x.0) x.1.below) xs) (all_numbered ps c.loop-k.k over)
