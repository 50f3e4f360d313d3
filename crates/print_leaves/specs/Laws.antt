-- What is drawn is the text of the listing.
use Rattle.std.specs.Prelude.{◌≡◌, ◌++◌}
use Rattle.listing_model.specs.Shown.{Shown, leaves}
use Rattle.listing_model.specs.Text.{text_from, state_after}
use Rattle.print_leaves.specs.Page.{Page, drawn}

-- drawing a piece adds the text of its leaves
abbrev pub DrawnIsText : Type 0
DrawnIsText =
    (p : Page) (g : Shown) →
    drawn p g ≡ record { text = p.text ++ text_from p.state (leaves g); state = state_after p.state (leaves g) }
