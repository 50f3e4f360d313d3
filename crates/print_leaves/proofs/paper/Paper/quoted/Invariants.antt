use Rattle.std.proofs.Common.{◌≡◌, length}
use denote.Text.{Utf8}
use denote.Shadow.{shadow}
use Rattle.std.specs.List.{flat_map}
use Rattle.listing_leaves.specs.Texts.{escaped}
use Rattle.print_leaves.specs.Page.{added}
use Rattle.print_leaves.proofs.paper.Paper.quoted.Given as goal

abbrev pub invariant-loop-place : goal.invariant-loop-place
invariant-loop-place l =
    shadow (Utf8 l.rest) × (added l.self (flat_map (escaped l.quote) l.rest) ≡ added l.initial.self (flat_map (escaped l.quote) l.text))

abbrev pub decreases-loop-place : goal.decreases-loop-place
decreases-loop-place l = length l.rest
