use Rattle.type_names.proofs.Scoping.{scopes_of_references}
use Rattle.type_names.proofs.scopes.has_scope.Goals as goal

pub returns : goal.returns
returns c =
    let told = scopes_of_references c.args.names.now.image c.args.row c.requires in
    (λ yes. told.0 (c.has_scope.ensures.0 yes), λ scopes. c.has_scope.ensures.1 (told.1 scopes))
