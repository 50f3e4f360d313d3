use Rattle.std.proofs.Common.{◌≡◌, ℕ, List, refl, subst}
use Rattle.elaborate.specs.Elaborated.{IsCause}
use Rattle.il_lexer.specs.Laws.{OneOutcome}
use Rattle.il_lexer.specs.Lexing.{IsAccepted, Lexes}
use Rattle.il_lexer.specs.declared.types.Token.{Token}
use Rattle.source_model.specs.Denotes.{HasNameFault}
use Rattle.source_assembly.proofs.reading.of_tree.Goals as goal

-- the tokens of a source are one list, which is within the limits
accepted_by : OneOutcome → (source : List ℕ) (tokens others : List Token) → IsAccepted source tokens → Lexes source others → IsAccepted source others
accepted_by lex source tokens others accepted lexes = subst (IsAccepted source) (lex.tokens source tokens others accepted.lexes lexes) accepted

pub returns-in-Ok-clause-assembly : goal.returns-in-Ok-clause-assembly
returns-in-Ok-clause-assembly c =
    let d = c.in-Ok.ensures.assembly in
    record {
      denotes = d;
      accepted = accepted_by c.lexes_in_one_way.ensures _ _ _ c.requires.accepted d.read.lexes;
    }

pub returns-in-Err-Bad-clause-cause : goal.returns-in-Err-Bad-clause-cause
returns-in-Err-Bad-clause-cause c =
    let f : HasNameFault c.args.source.now c.in-Err-Bad.pos c.in-Err-Bad.class c.in-Err-Bad.rule =
    subst (IsCause c.args.source.now) c.in-Err-Bad.field-0-is c.in-Err-Bad.ensures.cause in (
      c.in-Err-Bad.pos,
      record { fault = f; accepted = accepted_by c.lexes_in_one_way.ensures _ _ _ c.requires.accepted f.read.lexes },
      refl,
    )
