use Rattle.std.proofs.Common.{◌∙◌, ◌∷◌, ◌++◌, [], None, Some, ap, sym, subst, refl}
use Rattle.check_names.specs.DeclaredClasses.{IsEntered}
use Rattle.source_syntax.specs.ClassNumbers.{class_of}
use Rattle.check_names.specs.declared.class_rules.Entered.{Entered}
use Rattle.check_names.proofs.ClassWalks.{entered_again, entered_new, inner_led, kept_more, new_led}
use Rattle.check_names.proofs.class_rules.enter.Goals as goal

pub returns-in-Some-clause-entered : goal.returns-in-Some-clause-entered
returns-in-Some-clause-entered c s path seen r named at knows =
    let e : Entered = record { number = c.in-Some.number; again = Some c.args.token } in
    subst (λ i. IsEntered seen (path ++ i ∷ []) c.args.token c.args.paths.now e) (c.in_ok-id.ensures s r named)
    (entered_again c.args.paths.now seen path c.args.outer c.in_ok-id.id at knows c.in-Some.number c.args.token e (sym c.in-Some.ensures.found) refl refl)

pub returns-in-Some-clause-number : goal.returns-in-Some-clause-number
returns-in-Some-clause-number c =
    (c.requires.0 ++ c.in_ok-id.id ∷ [], inner_led c.args.paths.now c.requires.0 c.args.outer c.in-Some.number c.in_ok-id.id c.requires.1 (sym c.in-Some.ensures.found))

pub returns-in_ok-push-in-None-clause-entered : goal.returns-in_ok-push-in-None-clause-entered
returns-in_ok-push-in-None-clause-entered c s path seen r named at knows =
    let e : Entered = record { number = c.len.result; again = None } in
    subst (λ i. IsEntered seen (path ++ i ∷ []) c.args.token c.push.new.self e) (c.in_ok-id.ensures s r named)
    (entered_new c.args.paths.now seen path c.args.outer c.in_ok-id.id at knows c.push.new.self c.args.token e (sym c.in-None.ensures.found) c.in-None.ensures.nested
    c.in_ok-push-in-None.ensures.ok c.len.ensures refl)

pub returns-in_ok-push-in-None-clause-kept : goal.returns-in_ok-push-in-None-clause-kept
returns-in_ok-push-in-None-clause-kept c path n at =
    kept_more c.args.paths.now c.push.new.self (class_of c.args.outer c.in_ok-id.id) c.in_ok-push-in-None.ensures.ok path n at

pub returns-in_ok-push-in-None-clause-number : goal.returns-in_ok-push-in-None-clause-number
returns-in_ok-push-in-None-clause-number c = (
  c.requires.0 ++ c.in_ok-id.id ∷ [],
  new_led c.args.paths.now c.push.new.self c.requires.0 c.args.outer c.in_ok-id.id c.requires.1 (sym c.in-None.ensures.found) c.in-None.ensures.nested
      c.in_ok-push-in-None.ensures.ok ∙ ap Some (sym c.len.ensures),
)
