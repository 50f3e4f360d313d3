use Rattle.std.proofs.Common.{◌≡◌, ◌+◌, get_or, map, ap, sym, ◌∙◌}
use Rattle.std.specs.Prelude.{bytes_eq, position}
use Rattle.std.proofs.lemmas.Option.{slice_get-get_or}
use Rattle.il_lexer.specs.declared.types.TokenKind.TheVariants.{Name}
use Rattle.source_model.specs.Values.{name_text}
use Rattle.source_syntax.specs.Labels.{is_below}
use Rattle.source_nodes.specs.Least.{least, sooner}
use Rattle.source_nodes.specs.Readers.{IsOf}
use Rattle.source_syntax.proofs.LabelLemmas.{past_first, past_repeat, repeats_from}
use Rattle.source_syntax.proofs.MethodLemmas.{all_at}
use Rattle.check_bodies.proofs.label_rules.first_repeat.Goals as goal
use Rattle.check_bodies.proofs.label_rules.first_repeat.Goals.{then-is_below, else-is_below}

pub loop-at-preserved : goal.loop-at-preserved
loop-at-preserved c s r names known =
    let tokens = c.args.tokens.now in
    let i = c.loop-at.at in
    let token = get_or tokens i 0 in
    let stands = slice_get-get_or tokens i 0 c.loop-at-test.true in
    let text = c.in_ok-name.ensures s r (all_at (IsOf s Name) tokens i token names stands) in
    let is : c.is_below.result ≡ is_below (position (bytes_eq (name_text s token)) (map (name_text s) tokens)) i =
    c.is_below.ensures ∙ ap (λ o. is_below o i) (c.find.ensures ∙ ap (λ t. position (bytes_eq t) c.args.names.now) (c.as_bytes.ensures ∙ text)
    ∙ ap (position (bytes_eq (name_text s token))) known) in
    let rest = least (repeats_from s tokens (i + 1)) in
    elim c.if-is_below.branch [
      | then-is_below w ↦
          ap (λ o. sooner o rest) (w.found-is ∙ w.sooner-found.ensures)
          ∙ past_repeat s tokens i token c.loop-at.found stands (sym is ∙ w.if-is_below.true) ∙ c.loop-at.invariant s r names known
      | else-is_below w ↦
          ap (λ o. sooner o rest) w.found-is
          ∙ past_first s tokens i token c.loop-at.found stands (sym is ∙ w.if-is_below.false) ∙ c.loop-at.invariant s r names known
    ]
