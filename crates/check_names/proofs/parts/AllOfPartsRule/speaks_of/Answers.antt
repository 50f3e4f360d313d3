use Rattle.std.proofs.Common.{◌∙◌, ap, sym}
use Rattle.check_names.specs.Asked.{is_asked}
use Rattle.check_names.proofs.AskedLemmas.{no_scope, nothing_asked}
use Rattle.check_names.proofs.parts.AllOfPartsRule.speaks_of.Goals as goal

pub returns-clause-asked : goal.returns-clause-asked
returns-clause-asked c s n p e =
    let keys = c.args.self.now.types.scopes.keys.now in
    let own = c.args.self.now.types.scopes.own.now in
    nothing_asked s n keys own c.args.self.now.types.classes.now c.args.self.now.labels.names.now (ap is_asked p ∙ sym c.is_asked.ensures ∙ e)

pub returns-clause-scopes : goal.returns-clause-scopes
returns-clause-scopes c e = no_scope c.args.production (sym c.is_asked.ensures ∙ e)
