use Rattle.std.proofs.Common.{◌∙◌, ap, sym, ◌||◌, List}
use Rattle.std.proofs.Math.Bool.{or_assoc}
use Rattle.std.specs.List.{flat_map}
use Rattle.assembly_tree.specs.Loading.{has_text}
use Rattle.assembly_tree.specs.Room.{method_texts, typedef_texts}
use Rattle.assembly_tree.specs.declared.members.Method.{Method}
use Rattle.assembly_tree.specs.declared.typedef.TypeDef.{TypeDef}
use Rattle.assembly_tree.proofs.TextLists.{in_assembly}
use Rattle.assembly_tree.proofs.weighing.types.charge_assembly.Goals as goal

pub returns-clause-loads : goal.returns-clause-loads
returns-clause-loads c =
    let a = c.args.a.now in
    let known = c.args.loads.now in
    let own = has_text (flat_map method_texts a.methods) in
    let nested = has_text (flat_map typedef_texts a.types) in
    let more = c.load_more.ensures ∙ ap (λ (ms : List Method). known || has_text (flat_map method_texts ms)) c.as_slice.ensures in
    c.charge_types.ensures.loads
    ∙ ap (λ (ts : List TypeDef). c.load_more.result || has_text (flat_map typedef_texts ts)) c.as_slice-2.ensures
    ∙ ap (λ b. b || nested) more
    ∙ or_assoc known own nested
    ∙ sym (ap (λ b. known || b) (in_assembly a))
