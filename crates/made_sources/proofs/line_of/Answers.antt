use Rattle.std.proofs.Common.{◌∙◌, ap, ℕ, List, ◌/◌}
use Rattle.made_sources.specs.Made.{base_of, line_with}
use Rattle.made_sources.proofs.line_of.Goals as goal

pub returns : goal.returns
returns c =
    c.in_ok-line.ensures
    ∙ ap (λ (base : List ℕ). line_with c.args.class base (c.saturating_sub-below.result / 2)) (c.as_str.ensures.value ∙ c.in_ok-base.ensures)
    ∙ ap (λ n. line_with c.args.class (base_of c.args.class) (n / 2)) c.saturating_sub-below.ensures
