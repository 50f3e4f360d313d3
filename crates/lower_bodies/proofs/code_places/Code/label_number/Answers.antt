use Rattle.std.proofs.Common.{◌∙◌, ap, sym}
use Rattle.source_model.specs.Instructions.{instructions_of, number_of_label}
use Rattle.source_nodes.proofs.PieceLemmas.{as_many}
use Rattle.lower_bodies.proofs.code_places.Code.label_number.Goals as goal

pub returns-in-Some : goal.returns-in-Some
returns-in-Some c s f x name = c.number_at.ensures s f x ∙ ap (number_of_label f) (sym c.in-Some.is ∙ c.in_ok-found.ensures s f x name)

pub returns-in-None : goal.returns-in-None
returns-in-None c s f x name =
    c.word_of.ensures x.few ∙ as_many c.args.self.now.nodes.now c.args.self.now.instructions.now (instructions_of f) x.instructions-are
    ∙ ap (number_of_label f) (sym c.in-None.is ∙ c.in_ok-found.ensures s f x name)
