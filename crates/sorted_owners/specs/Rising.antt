-- Owners that rise strictly (ECMA-335 II.22.23).
use Rattle.std.specs.Prelude.{List, [], ◌∷◌}
use Rattle.std.specs.declared.cmp.Ordering.{Ordering}
use Rattle.std.specs.declared.cmp.Ordering.TheVariants.{Less, Equal, Greater}
use Rattle.type_terms.specs.Order.{owner_order}
use Rattle.type_terms.specs.declared.term.Owner.{Owner}

-- an owner put into a list that rises; one that is there already counts once
abbrev pub put_before : Ordering → Owner → Owner → List Owner → List Owner → List Owner
put_before Less o p rest with_it = o ∷ p ∷ rest
put_before Equal o p rest with_it = p ∷ rest
put_before Greater o p rest with_it = p ∷ with_it

abbrev pub put : Owner → List Owner → List Owner
put o [] = o ∷ []
put o (p ∷ rest) = put_before (owner_order o p) o p rest (put o rest)

-- the same owners, strictly rising
abbrev pub rising : List Owner → List Owner
rising [] = []
rising (o ∷ os) = put o (rising os)
