use Rattle.std.proofs.Common.{[], ◌++◌, ap, ◌∙◌}
use Rattle.source_model.specs.Values.{unescaped}
use Rattle.source_nodes.proofs.NameLemmas.{string_text}
use Rattle.source_nodes.proofs.values.texts.push_string.Goals as goal

pub returns : goal.returns
returns c = λ h.
    let f = string_text c.args.spelling.now h in
    let p = c.in_ok-push_quoted.ensures.pushed f.0 [] f.1 (c.behind.ensures ∙ f.2) in
    p.1 ∙ ap (λ t. c.args.bytes.now ++ unescaped t) f.3
