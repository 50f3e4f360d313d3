use Rattle.std.proofs.Common.{◌≡◌, length}
use denote.Text.{Utf8}
use denote.Shadow.{shadow}
use Rattle.listing_leaves.specs.Names.{pieces}
use Rattle.print_leaves.specs.Page.{added}
use Rattle.print_leaves.specs.Parts.{fronts, last_part}
use Rattle.print_leaves.proofs.paper.Paper.add_fronts.Given as goal

abbrev pub invariant-loop-place : goal.invariant-loop-place
invariant-loop-place l =
    shadow (Utf8 l.rest) × (added l.self (fronts (pieces l.rest)) ≡ added l.fn.self (fronts (pieces l.text)))
    × (last_part (pieces l.rest) ≡ last_part (pieces l.text))

abbrev pub decreases-loop-place : goal.decreases-loop-place
decreases-loop-place l = length l.rest
