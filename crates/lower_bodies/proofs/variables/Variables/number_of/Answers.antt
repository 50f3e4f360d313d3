use Rattle.std.proofs.Common.{◌+◌, ap, sym, ◌∙◌}
use Rattle.std.specs.Prelude.{Bool, if◌then◌else◌, option_map, position}
use Rattle.source_model.specs.Parameters.{parameters}
use Rattle.source_model.specs.Variables.{first_argument, has_name, locals}
use Rattle.lower_bodies.proofs.NamedLemmas.{from_nothing, number_among_named}
use Rattle.lower_bodies.proofs.variables.Variables.number_of.Goals as goal

pub returns-then-is_of_arguments : goal.returns-then-is_of_arguments
returns-then-is_of_arguments c s f r variables name =
    let k = c.args.token in
    let text = c.as_bytes.ensures ∙ c.in_ok-name.ensures s r name in
    let chosen = sym c.is_of_arguments.ensures ∙ c.if-is_of_arguments.true in
    c.number_named.ensures
    ∙ number_among_named s k (first_argument f) (parameters f) c.args.self.now.arguments _ variables.arguments-are text
    ∙ sym (ap (λ (b : Bool). if b then option_map (λ n. first_argument f + n) (position (has_name s k) (parameters f)) else position (has_name s k) (locals f)) chosen)

pub returns : goal.returns
returns c s f r variables name =
    let k = c.args.token in
    let text = c.as_bytes-else-is_of_arguments.ensures ∙ c.in_ok-name.ensures s r name in
    let chosen = sym c.is_of_arguments.ensures ∙ c.if-is_of_arguments.false in
    c.number_named-else-is_of_arguments.ensures
    ∙ number_among_named s k 0 (locals f) c.args.self.now.locals _ variables.locals-are text
    ∙ from_nothing (position (has_name s k) (locals f))
    ∙ sym (ap (λ (b : Bool). if b then option_map (λ n. first_argument f + n) (position (has_name s k) (parameters f)) else position (has_name s k) (locals f)) chosen)
