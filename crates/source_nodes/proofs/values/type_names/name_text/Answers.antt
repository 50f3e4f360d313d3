use Rattle.std.proofs.Common.{◌≡◌, sym, ◌∙◌}
use Rattle.std.proofs.lemmas.Result.{IfOk-weaker}
use Rattle.source_model.specs.Values.{dotted, part_texts}
use Rattle.source_nodes.proofs.PlainNames.{plain_ascii, plain_text}
use Rattle.source_nodes.proofs.values.type_names.name_text.Goals as goal

pub ascii_text-requires : goal.ascii_text-requires
ascii_text-requires c = plain_ascii 0 0 c.args.spelling.now c.in-Some.field-0 (sym c.plain_last.ensures ∙ c.in-Some.is)

pub returns-in-Some : goal.returns-in-Some
returns-in-Some c = λ n u.
    let w = c.args.spelling.now in
    let whole : w ≡ dotted (part_texts w) = (plain_text w c.in-Some.field-0 (sym c.plain_last.ensures ∙ c.in-Some.is) n).whole in
    IfOk-weaker c.ascii_text.result (λ text. text ≡ w) (λ text. text ≡ dotted (part_texts w)) (λ text e. e ∙ whole) c.ascii_text.ensures
