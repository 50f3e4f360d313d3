use Rattle.std.proofs.Common.{sym, ◌∙◌, subst}
use Rattle.std.proofs.lemmas.Bool.{false≢true}
use Rattle.image_model.specs.Naming.{NamesText}
use Rattle.method_states.specs.States.{HasState}
use Rattle.kept_members.specs.Maps.{all_of}
use Rattle.kept_members.proofs.Adding.{adds_none, on_ok}
use Rattle.kept_texts.proofs.Texts.{not_good}
use Rattle.kept_texts.proofs.user_strings.keep_of_method.Goals as goal

pub keep_of_body-requires-clause-good : goal.keep_of_body-requires-clause-good
keep_of_body-requires-clause-good c = subst (HasState c.args.image.now c.args.method) (c.is_good.ensures.0 c.if-is_good.true) c.requires.state

pub returns-then-is_good-clause-has : goal.returns-then-is_good-clause-has
returns-then-is_good-clause-has c = on_ok c.keep_of_body.result c.keep_of_body.ensures.has (λ has above. has)

pub returns-clause-adds : goal.returns-clause-adds
returns-clause-adds c = adds_none (NamesText c.args.image.now) (all_of c.args.texts.now)

pub returns-clause-has : goal.returns-clause-has
returns-clause-has c = λ above.
    not_good c.args.image.now (all_of c.args.texts.now) c.args.method c.args.state c.requires.there c.requires.state (λ good. false≢true (sym c.if-is_good.false ∙ c.is_good.ensures.1 good)) above
