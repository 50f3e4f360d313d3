use Rattle.std.proofs.Common.{List, ℕ, ◌%◌, ◌^◌, sym, subst}
use Rattle.heaps.specs.Content.{HasUnits}
use Rattle.kept_texts.proofs.Texts.{text_bytes}
use Rattle.kept_texts.proofs.operands.keep_text.Goals as goal

pub returns-in-None-clause-has : goal.returns-in-None-clause-has
returns-in-None-clause-has c = λ units named.
    let b = text_bytes named in
    absurd (c.in-None.ensures.none b.0 (subst (λ (heap : List ℕ). HasUnits heap (c.args.token % 2 ^ 24) b.0) (sym c.user.ensures) b.1))
