use Rattle.std.proofs.Common.{◌∙◌, ap, sym, List}
use Rattle.std.specs.List.{flat_map}
use Rattle.assembly_tree.specs.Loading.{has_text}
use Rattle.assembly_tree.specs.Room.{instruction_texts}
use Rattle.assembly_tree.specs.declared.body.Ins.{Ins}
use Rattle.assembly_tree.proofs.TextLists.{in_no_body, in_body}
use Rattle.assembly_tree.proofs.weighing.texts.method_loads.Goals as goal

pub returns-in-None : goal.returns-in-None
returns-in-None c = sym (in_no_body c.args.method.now c.in-None.is)

pub returns-in-Some : goal.returns-in-Some
returns-in-Some c =
    c.code_loads.ensures
    ∙ ap (λ (code : List Ins). has_text (flat_map instruction_texts code)) c.as_slice.ensures
    ∙ sym (in_body c.args.method.now c.in-Some.body c.in-Some.is)
