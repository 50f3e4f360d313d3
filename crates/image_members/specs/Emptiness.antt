-- Whether rows own anything at all.
use Rattle.std.specs.Prelude.{Bool, List, length, nat_lt}
use Rattle.std.specs.Borrow.{Bor}
use Rattle.std.specs.List.{list_any}
use Rattle.image_members.specs.Places.{lent}

abbrev pub has_item : {X : Type 0} → List X → Bool
has_item list = nat_lt 0 (length list)

-- whether one of the lists that are lent has an item
abbrev pub any_has_item : {X : Type 0} → List (Bor (List X)) → Bool
any_has_item lists = list_any has_item (lent lists)
