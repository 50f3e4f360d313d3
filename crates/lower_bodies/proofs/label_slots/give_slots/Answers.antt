use Rattle.std.proofs.Common.{◌≤◌, ◌∙◌, get_or, length, ap, arith, rules}
use Rattle.std.proofs.lemmas.List.{take_all}
use Rattle.std.proofs.lemmas.Option.{slice_get-get_or}
use Rattle.il_lexer.specs.declared.types.TokenKind.TheVariants.{Name}
use Rattle.source_nodes.specs.Readers.{IsOf}
use Rattle.source_syntax.proofs.MethodLemmas.{all_at}
use Rattle.lower_bodies.specs.LabelSlots.{first_named}
use Rattle.lower_bodies.proofs.SlotLemmas.{next_slotted, none_slotted}
use Rattle.lower_bodies.proofs.label_slots.give_slots.Goals as goal

pub loop-k-init : goal.loop-k-init
loop-k-init c = record {
  size = search rules;
  slotted = λ s r names. none_slotted s c.args.slots.now c.args.labels.now c.requires;
}

pub loop-k-preserved : goal.loop-k-preserved
loop-k-preserved c =
    let labels = c.args.labels.now in
    let i = c.loop-k.k in
    let token = get_or labels i 0 in
    let stands = slice_get-get_or labels i 0 c.loop-k-test.true in
    let now = c.loop-k.invariant in
    record {
      size = search rules;
      slotted = λ s r names.
          let name = all_at (IsOf s Name) labels i token names stands in
          next_slotted s c.loop-k.slots c.take_slot.new.slots labels i token now.size stands
          (c.take_slot.ensures.free s r name c.if-not-take_slot.false) (c.take_slot.ensures.taken s r name c.if-not-take_slot.false) (now.slotted s r names);
    }

pub returns : goal.returns
returns c s r names is name =
    let over : length c.args.labels.now ≤ c.loop-k.k = omega (arith, c.loop-k-test.false) in
    c.loop-k.invariant.slotted s r names name ∙ ap (first_named s name) (take_all c.loop-k.k c.args.labels.now over)
