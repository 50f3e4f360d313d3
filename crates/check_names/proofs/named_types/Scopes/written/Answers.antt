use Rattle.std.proofs.Common.{◌∙◌}
use Rattle.check_names.proofs.NamedTypeLemmas.{written_is}
use Rattle.check_names.proofs.named_types.Scopes.written.Goals as goal

pub returns-in_ok-text-in-Some : goal.returns-in_ok-text-in-Some
returns-in_ok-text-in-Some c s r scoped =
    written_is c.args.self.now.keys.now c.args.self.now.own.now s c.args.scope c.in-Some.token c.as_bytes.result.now c.named.result c.in-Some.is
    (c.as_bytes.ensures ∙ c.in_ok-text-in-Some.ensures s r (scoped c.in-Some.token c.in-Some.is)) c.named.ensures
