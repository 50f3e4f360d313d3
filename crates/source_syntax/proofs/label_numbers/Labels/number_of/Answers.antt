use Rattle.std.proofs.Common.{◌≡◌, ap, ◌∙◌, subst}
use Rattle.std.specs.Prelude.{IfSome}
use Rattle.source_model.specs.Values.{name_text}
use Rattle.source_syntax.specs.Labels.{number_found}
use Rattle.source_syntax.proofs.LabelLemmas.{named_number}
use Rattle.source_syntax.proofs.label_numbers.Labels.number_of.Goals as goal

pub returns-in-Some : goal.returns-in-Some
returns-in-Some c s f r labels name =
    c.number_named.ensures
    ∙ ap (number_found c.args.self.now.names c.args.self.now.numbers)
    (subst (λ o. IfSome o (λ text. text.now ≡ name_text s c.args.token)) c.in-Some.is (c.plain_name.ensures s r name))
    ∙ named_number s f c.args.self.now.names c.args.self.now.numbers c.args.token labels.names-are labels.numbers-are

pub returns : goal.returns
returns c s f r labels name =
    c.number_named-2.ensures
    ∙ ap (number_found c.args.self.now.names c.args.self.now.numbers) (c.as_bytes.ensures ∙ c.in_ok-name.ensures s r name)
    ∙ named_number s f c.args.self.now.names c.args.self.now.numbers c.args.token labels.names-are labels.numbers-are
