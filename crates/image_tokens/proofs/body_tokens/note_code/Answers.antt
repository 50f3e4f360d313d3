use Rattle.std.proofs.Common.{◌≡◌, ◌∙◌, ap, sym, ◌+◌, ◌∷◌, drop, drop_of_length-le, arith}
use Rattle.std.proofs.lemmas.List.{drop_more}
use Rattle.image_tokens.specs.NamesWeight.{instruction_names}
use Rattle.assembly_tree.specs.declared.body.Ins.{Ins}
use Rattle.image_tokens.specs.BodyTokens.{HasInstructionToken}
use Rattle.image_tokens.specs.Writable.{IsInstructionWritable}
use Rattle.image_tokens.proofs.BodyLemmas.{instruction_can, instruction_has, instruction_fits}
use Rattle.image_tokens.proofs.StepLemmas.{done_begin, done_can, done_fits, done_on, done_end}
use Rattle.image_tokens.proofs.body_tokens.note_code.Goals as goal

pub loop-ins-init : goal.loop-ins-init
loop-ins-init c = done_begin instruction_names IsInstructionWritable HasInstructionToken c.args.refs.now c.args.code.now c.requires.known c.requires.writable

pub note_operand-requires-clause-known : goal.note_operand-requires-clause-known
note_operand-requires-clause-known c = c.loop-ins.invariant.known

pub note_operand-requires-clause-writable : goal.note_operand-requires-clause-writable
note_operand-requires-clause-writable c =
    let xs = c.args.code.now in
    let i = c.loop-ins.ins-index in
    let x = c.ins-item.result in
    let here : drop i xs ≡ x ∷ drop (i + 1) xs = drop_more xs i x (omega arith) ∙ ap (λ (y : Ins). y ∷ drop (i + 1) xs) (sym c.ins-item.is) in
    done_can instruction_names IsInstructionWritable HasInstructionToken c.args.refs.now c.loop-ins.refs xs (drop i xs) (drop (i + 1) xs) x here c.loop-ins.invariant

pub note_operand-requires-clause-room : goal.note_operand-requires-clause-room
note_operand-requires-clause-room c =
    let xs = c.args.code.now in
    let i = c.loop-ins.ins-index in
    let x = c.ins-item.result in
    let here : drop i xs ≡ x ∷ drop (i + 1) xs = drop_more xs i x (omega arith) ∙ ap (λ (y : Ins). y ∷ drop (i + 1) xs) (sym c.ins-item.is) in
    let fits = done_fits instruction_names IsInstructionWritable HasInstructionToken c.args.refs.now c.loop-ins.refs xs (drop i xs) (drop (i + 1) xs) x here c.requires.room c.loop-ins.invariant in
    let less = instruction_fits x in
    omega arith

pub loop-ins-preserved : goal.loop-ins-preserved
loop-ins-preserved c =
    let xs = c.args.code.now in
    let i = c.loop-ins.ins-index in
    let x = c.ins-item.result in
    let here : drop i xs ≡ x ∷ drop (i + 1) xs = drop_more xs i x (omega arith) ∙ ap (λ (y : Ins). y ∷ drop (i + 1) xs) (sym c.ins-item.is) in
    done_on instruction_names IsInstructionWritable HasInstructionToken instruction_can instruction_has c.args.refs.now c.loop-ins.refs c.note_operand.new.refs xs (drop i xs) (drop (i + 1) xs) x _ here
    c.loop-ins.invariant c.in_ok-note_operand.ensures (instruction_fits x)

pub returns : goal.returns
returns c =
    let xs = c.args.code.now in
    let i = c.loop-ins.ins-index in
    done_end instruction_names IsInstructionWritable HasInstructionToken c.args.refs.now c.loop-ins.refs xs (drop i xs) (drop_of_length-le xs {i = i} (omega arith)) c.loop-ins.invariant
