use Rattle.interface_numbers.proofs.alike.InterfacesLikeness.are_alike.Goals as goal

pub returns : goal.returns
returns g c = rw (c.row_at.ensures, c.row_at-2.ensures) at c.are_alike.ensures
