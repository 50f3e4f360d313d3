use Rattle.data_demands.proofs.sizes.data_size.Goals as goal

pub returns : goal.returns
returns c names named t has = c.size_of_kind.ensures names.owners t named.owners (c.field_kind.ensures names t has)
