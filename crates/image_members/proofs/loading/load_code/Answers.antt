use Rattle.std.proofs.Common.{◌≡◌, ◌∙◌, ap, sym, ◌+◌, ◌≤◌, ◌∷◌, drop, drop_of_length-le, arith}
use Rattle.std.proofs.lemmas.List.{drop_more}
use Rattle.assembly_tree.specs.Room.{instruction_texts}
use Rattle.assembly_tree.specs.declared.body.Ins.{Ins}
use Rattle.image_tokens.proofs.LoadsLemmas.{loads_begin, loads_fit, loads_on, loads_end}
use Rattle.image_members.proofs.loading.load_code.Goals as goal

pub loop-ins-init : goal.loop-ins-init
loop-ins-init c = loads_begin instruction_texts c.args.user.now c.args.code.now c.requires

pub load_operand-requires : goal.load_operand-requires
unfolding instruction_texts
load_operand-requires c =
    let xs = c.args.code.now in
    let i = c.loop-ins.ins-index in
    let x = c.ins-item.result in
    let here : drop i xs ≡ x ∷ drop (i + 1) xs = drop_more xs i x (omega arith) ∙ ap (λ (y : Ins). y ∷ drop (i + 1) xs) (sym c.ins-item.is) in
    loads_fit instruction_texts c.args.user.now c.loop-ins.user xs (drop i xs) (drop (i + 1) xs) x here c.loop-ins.invariant

pub loop-ins-preserved : goal.loop-ins-preserved
unfolding instruction_texts
loop-ins-preserved c =
    let xs = c.args.code.now in
    let i = c.loop-ins.ins-index in
    let x = c.ins-item.result in
    let here : drop i xs ≡ x ∷ drop (i + 1) xs = drop_more xs i x (omega arith) ∙ ap (λ (y : Ins). y ∷ drop (i + 1) xs) (sym c.ins-item.is) in
    loads_on instruction_texts c.args.user.now c.loop-ins.user c.load_operand.new.user xs (drop i xs) (drop (i + 1) xs) x here c.loop-ins.invariant c.in_ok-load_operand.ensures

pub returns : goal.returns
returns c =
    let xs = c.args.code.now in
    let i = c.loop-ins.ins-index in
    loads_end instruction_texts c.args.user.now c.loop-ins.user xs (drop i xs) (drop_of_length-le xs {i = i} (omega arith)) c.loop-ins.invariant
