-- The first of what is broken by some rules and by the next one.
use Rattle.std.proofs.Common.{◌≡◌, ℕ, List, ◌++◌, Option, ap, sym, ◌∙◌}
use Rattle.source_model.specs.Faults.{Broken, earlier, earliest, rule_at}
use Rattle.source_model.specs.Laws.{FirstIsLeast}
use Rattle.check_names.specs.Breaches.{any_broken}
use Rattle.check_names.specs.declared.merging.Breach.{Breach}

pub put_last : FirstIsLeast → (rule : ℕ) (tokens : List ℕ) (before : List Broken) (own others both : Option Breach)
    → any_broken own ≡ earliest (rule_at rule tokens) → any_broken others ≡ earliest before → any_broken both ≡ earlier (any_broken others) (any_broken own)
    → any_broken both ≡ earliest (before ++ rule_at rule tokens)
put_last first rule tokens before own others both e h is =
    is ∙ ap (λ x. earlier x (any_broken own)) h ∙ ap (earlier (earliest before)) e ∙ sym (first.joined before (rule_at rule tokens))
