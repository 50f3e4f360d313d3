use Rattle.std.proofs.Common.{◌≡◌, ◌<◌, ◌≤◌, ◌+◌, ◌-◌, ◌/◌, length, map, sym, subst, ◌∙◌, arith}
use Rattle.std.proofs.lemmas.List.{length-map}
use Rattle.source_model.specs.Instructions.{mnemonic_token}
use Rattle.source_syntax.proofs.OrderLemmas.{split_at}
use Rattle.source_nodes.proofs.PieceLemmas.{as_many, part_read}
use Rattle.lower_bodies.proofs.Halves.{AreNotLess, less_up_to, not_less_from, token_there}
use Rattle.lower_bodies.proofs.code_places.number_before.Goals as goal

pub loop-low-init : goal.loop-low-init
loop-low-init c = record {
  order = omega arith;
  bound = omega arith;
  before = λ ps are rises i less. absurd (omega (arith, less));
  after = λ ps are rises i from inside.
      absurd (omega (arith, from, inside, length-map ps mnemonic_token, as_many c.args.nodes.now c.args.instructions.now ps are));
}

pub offset_bounds-instructions-middle : goal.offset_bounds-instructions-middle
offset_bounds-instructions-middle c = omega (arith, c.loop-low-test.true, c.loop-low.invariant.bound)

pub bounds-instructions-middle : goal.bounds-instructions-middle
bounds-instructions-middle c = omega (arith, c.loop-low-test.true, c.loop-low.invariant.bound)

pub loop-low-preserved-then-first_leaf-token : goal.loop-low-preserved-then-first_leaf-token
loop-low-preserved-then-first_leaf-token c =
    let low = c.loop-low.low in
    let high = c.loop-low.high in
    let h = c.loop-low.invariant in
    let middle = low + (high - low) / 2 in
    let inside : middle < high = omega (arith, c.loop-low-test.true) in
    record {
      order = omega (arith, inside);
      bound = h.bound;
      before = λ ps are rises.
          let found : middle < length c.args.instructions.now = omega (arith, inside, h.bound) in
          let m = part_read c.args.nodes.now c.args.instructions.now ps middle _ are found in
          let token : c.first_leaf.result ≡ mnemonic_token m.of = c.first_leaf.ensures m.of.below (m.below ∙ sym c.nodes_of.ensures) in
          let within : middle < length (map mnemonic_token ps) =
          omega (arith, found, length-map ps mnemonic_token, as_many c.args.nodes.now c.args.instructions.now ps are) in
          less_up_to c.args.token middle c.first_leaf.result (map mnemonic_token ps) rises within (token_there ps middle m.of m.at ∙ sym token)
          (omega (arith, c.if-first_leaf-token.true));
      after = h.after;
    }

pub loop-low-preserved : goal.loop-low-preserved
loop-low-preserved c =
    let low = c.loop-low.low in
    let high = c.loop-low.high in
    let h = c.loop-low.invariant in
    let middle = low + (high - low) / 2 in
    let inside : middle < high = omega (arith, c.loop-low-test.true) in
    record {
      order = omega arith;
      bound = omega (arith, inside, h.bound);
      before = h.before;
      after = λ ps are rises.
          let found : middle < length c.args.instructions.now = omega (arith, inside, h.bound) in
          let m = part_read c.args.nodes.now c.args.instructions.now ps middle _ are found in
          let token : c.first_leaf.result ≡ mnemonic_token m.of = c.first_leaf.ensures m.of.below (m.below ∙ sym c.nodes_of.ensures) in
          not_less_from c.args.token middle c.first_leaf.result (map mnemonic_token ps) rises (token_there ps middle m.of m.at ∙ sym token)
          (omega (arith, c.if-first_leaf-token.false));
    }

pub returns : goal.returns
returns c ps are rises =
    let low = c.loop-low.low in
    let h = c.loop-low.invariant in
    let xs = map mnemonic_token ps in
    let same : c.loop-low.high ≡ low = omega (arith, c.loop-low-test.false, h.order) in
    let bound : low ≤ length xs = omega (arith, h.order, h.bound, length-map ps mnemonic_token, as_many c.args.nodes.now c.args.instructions.now ps are) in
    sym (split_at c.args.token low xs 0 bound (h.before ps are rises) (subst (λ n. AreNotLess c.args.token n xs) same (h.after ps are rises)))
