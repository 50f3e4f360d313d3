use Rattle.std.proofs.Common.{◌≡◌, List, Option, ℕ, ap, sym, subst, ◌∙◌, map}
use Rattle.source_syntax.specs.ClassNumbers.{class_numbered}
use Rattle.lower_members.specs.ClassSizes.{size_numbered}
use Rattle.elaborate.specs.KnownSizes.{known_size}
use Rattle.elaborate.proofs.SizeLemmas.{sizes_are}
use Rattle.elaborate.proofs.known_sizes.stated_sizes.Goals as goal

pub returns : goal.returns
returns c s r h =
    let asked = c.in_ok-asked.ensures s r (c.in_ok-classes.ensures s r) in
    let words = c.in_ok-sizes.ensures ∙ ap (map known_size) c.as_slice.ensures in
    record {
      are = λ path. ap (λ sizes. size_numbered sizes (class_numbered c.in_ok-classes.classes.paths path)) words
          ∙ sizes_are s c.in_ok-classes.classes.paths c.in_ok-asked.asked h asked path;
    }
