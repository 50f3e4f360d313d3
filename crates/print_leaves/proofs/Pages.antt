-- What is added to a page, step by step.
use Rattle.std.proofs.Common.{◌≡◌, ℕ, List, [], ◌++◌, ap, append_assoc, append-nil}
use Rattle.print_leaves.specs.Page.{Page, added}

pub added_twice : (p : Page) (xs ys : List ℕ) → added (added p xs) ys ≡ added p (xs ++ ys)
added_twice p xs ys = ap (λ t. record { text = t; state = p.state }) (append_assoc p.text xs ys)

pub added_nothing : (p : Page) → added p [] ≡ p
added_nothing p = ap (λ t. record { text = t; state = p.state }) (append-nil p.text)
