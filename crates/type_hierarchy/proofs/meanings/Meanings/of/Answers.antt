use Rattle.std.proofs.Common.{◌∙◌, ap}
use Rattle.std.specs.Prelude.{unwrap_or}
use Rattle.std.proofs.lemmas.Option.{unwrap_or-slice_get}
use Rattle.type_terms.specs.declared.name.Scope.TheVariants.{Extern}
use Rattle.type_hierarchy.proofs.meanings.Meanings.of.Goals as goal

pub returns-in-None : goal.returns-in-None
returns-in-None c =
    let number = c.in-Extern.number in
    rw c.in-Extern.is (ap (λ o. unwrap_or o (Extern number)) c.in-None.ensures ∙ unwrap_or-slice_get c.args.self.now.externs number (Extern number))
