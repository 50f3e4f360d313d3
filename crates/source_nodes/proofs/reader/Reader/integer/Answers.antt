use Rattle.std.proofs.Common.{◌≡◌, ◌≤◌, ◌^◌, subst}
use Rattle.std.specs.Prelude.{MatchOption}
use Rattle.source_model.specs.Values.{integer}
use Rattle.source_nodes.specs.Integers.{distance}
use Rattle.source_nodes.proofs.reader.Reader.integer.Goals as goal

pub returns : goal.returns
returns c = λ s r.
    subst (λ w. MatchOption c.integer.result (2 ^ 64 ≤ distance (integer w)) (λ value. value ≡ integer w)) (c.spelling.ensures.value s r) c.integer.ensures
