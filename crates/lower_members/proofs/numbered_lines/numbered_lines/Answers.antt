use Rattle.std.proofs.Common.{◌+◌, sym, subst, refl, arith}
use Rattle.source_nodes.specs.Pieces.{AreParts}
use Rattle.lower_members.specs.NumberedLines.{AllLines}
use Rattle.lower_members.proofs.FieldLemmas.{parts_begin}
use Rattle.lower_members.proofs.NumberedLemmas.{NumbersLeft, none_lines, numbers_begin, numbers_end, numbers_start}
use Rattle.lower_members.proofs.numbered_lines.numbered_lines.Goals as goal

pub loop-head-init : goal.loop-head-init
loop-head-init c = record {
  parts = c.requires.parts;
  lines = none_lines c.args.nodes.now (1 + c.args.count) c.in_ok-lines.lines.items c.in_ok-lines.ensures;
  so_far = λ s r ps are each few. numbers_start s c.args.nodes.now (1 + c.args.count) c.args.found.now c.in_ok-lines.lines.items ps are each c.in_ok-lines.ensures;
}

pub loop-head-preserved : goal.loop-head-preserved
loop-head-preserved c =
    let many = c.loop-head.invariant.lines.many in
    record {
      parts = (parts_begin c.args.nodes.now c.in-Some.head c.in-Some.more.now (subst (AreParts c.args.nodes.now) c.in-Some.ensures c.loop-head.invariant.parts)).1;
      lines = subst (λ n. AllLines c.args.nodes.now n c.add_line.new.lines.items) many
          (c.in_ok-add_line.ensures.lines (subst (λ n. AllLines c.args.nodes.now n c.loop-head.lines.items) (sym many) c.loop-head.invariant.lines));
      so_far = λ s r ps are each few.
          let l = subst (λ xs. NumbersLeft s c.args.nodes.now (1 + c.args.count) xs c.loop-head.lines.items ps) c.in-Some.ensures (c.loop-head.invariant.so_far s r ps are each few) in
          let b = numbers_begin s c.args.nodes.now (1 + c.args.count) c.in-Some.head c.in-Some.more.now c.loop-head.lines.items ps l in
          b.next (record { head = c.in-Some.head; more = c.in-Some.more }) refl refl c.add_line.new.lines.items
          (c.in_ok-add_line.ensures.numbered s r b.first b.is b.own (omega (arith, many, few)));
    }

pub returns-clause-lines : goal.returns-clause-lines
returns-clause-lines c = c.loop-head.invariant.lines

pub returns-clause-numbered : goal.returns-clause-numbered
returns-clause-numbered c s r ps are each few =
    numbers_end s c.args.nodes.now (1 + c.args.count) c.loop-head.rest.now c.loop-head.lines.items ps c.in_default.ensures (c.loop-head.invariant.so_far s r ps are each few)

pub add_line-requires : goal.add_line-requires
add_line-requires c =
    let b = parts_begin c.args.nodes.now c.in-Some.head c.in-Some.more.now (subst (AreParts c.args.nodes.now) c.in-Some.ensures c.loop-head.invariant.parts) in
    (b.0, b.1)
