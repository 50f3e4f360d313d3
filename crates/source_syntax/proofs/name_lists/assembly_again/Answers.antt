use Rattle.std.proofs.Common.{◌∙◌, ap, sym}
use Rattle.std.specs.Prelude.{map}
use Rattle.source_model.specs.Values.{name_text}
use Rattle.source_model.specs.DeclaredTwice.{repeats}
use Rattle.source_nodes.specs.Least.{least}
use Rattle.source_syntax.proofs.NamingLemmas.{keys_repeat, same_text}
use Rattle.source_syntax.proofs.name_lists.assembly_again.Goals as goal

pub returns : goal.returns
returns c s n =
    let tokens = c.as_slice.ensures ∙ n.tokens in
    c.again.ensures (name_text s) (n.texts ∙ ap (map (name_text s)) (sym tokens))
    ∙ ap (λ ks. least (repeats (same_text (name_text s)) ks)) tokens ∙ keys_repeat s
