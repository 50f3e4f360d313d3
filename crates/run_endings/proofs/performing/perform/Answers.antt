use Rattle.std.proofs.Common.{refl}
use Rattle.run_endings.specs.Ends.{whole, part, in_file, in_console}
use Rattle.run_endings.proofs.performing.perform.Goals as goal

pub returns-in-Ok-speak-clause-performed : goal.returns-in-Ok-speak-clause-performed
returns-in-Ok-speak-clause-performed g c = whole _ refl (record { made = c.in-Ok.ensures.made; taken = c.in-Ok-speak.ensures.taken })

pub returns-in-Err-speak-clause-performed : goal.returns-in-Err-speak-clause-performed
returns-in-Err-speak-clause-performed g c = part _ refl (in_console c.in-Ok.ensures.made c.in-Err-speak.ensures.broken)

pub returns-in-Err-clause-performed : goal.returns-in-Err-clause-performed
returns-in-Err-clause-performed g c =
    let begun = c.in-Err.ensures.begun in
    part _ refl (in_file begun.0 begun.1 begun.2 begun.3 (λ t. (refl, refl)))
