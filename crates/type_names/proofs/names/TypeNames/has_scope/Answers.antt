use Rattle.std.proofs.Common.{IsTrue, ap, subst}
use Rattle.std.specs.Prelude.{◌↔◌}
use Rattle.image_model.specs.Structure.{HasScope}
use Rattle.type_names.specs.Numbers.{TypeNumbers}
use Rattle.type_names.proofs.names.TypeNames.has_scope.Goals as goal

pub returns : goal.returns
returns c =
    subst (λ image. IsTrue c.has_scope.result ↔ HasScope image c.args.row) (ap (λ (v : TypeNumbers). v.image) c.self.view_is) c.has_scope.ensures
