-- Owners that are put in order.
use Rattle.std.proofs.Common.{◌≡◌, ◌∙◌, ap, refl, ◌&&◌, Bool, true, List, [], ◌∷◌}
use Rattle.std.specs.List.{list_all}
use Rattle.std.proofs.lemmas.Bool.{and_parts}
use Rattle.std.specs.Ordering.{is_lt, ordering_reverse}
use Rattle.std.specs.declared.cmp.Ordering.{Ordering}
use Rattle.std.specs.declared.cmp.Ordering.TheVariants.{Less, Equal, Greater}
use Rattle.type_terms.specs.Order.{owner_order}
use Rattle.type_terms.specs.declared.term.Owner.{Owner}
use Rattle.sorted_owners.specs.OwnerOrder.{owners_total}
use Rattle.sorted_owners.specs.Rising.{put_before, put, rising}
use Rattle.assembly_tree.specs.WellFormedNames.{before_first, rises}
use Rattle.assembly_tree.specs.WellFormedTypes.{is_owner_before}

pub and_from : (x y : Bool) → x ≡ true → y ≡ true → (x && y) ≡ true
and_from x y p q = λ i. (p i && q i)

before : (o p : Owner) → owner_order o p ≡ Greater → is_owner_before p o ≡ true
before o p e = ap is_lt (owners_total.antisymm p o ∙ ap ordering_reverse e)

before_put : (p o : Owner) (rest : List Owner) → owner_order o p ≡ Greater → before_first is_owner_before p rest ≡ true
    → before_first is_owner_before p (put o rest) ≡ true
before_put p o [] e b = before o p e
before_put p o (q ∷ more) e b = go (owner_order o q)
  where
    go : (r : Ordering) → before_first is_owner_before p (put_before r o q more (put o more)) ≡ true
    go Less = before o p e
    go Equal = b
    go Greater = b

put_rises : (o : Owner) (xs : List Owner) → rises is_owner_before xs ≡ true → rises is_owner_before (put o xs) ≡ true
put_rises o [] r = refl
put_rises o (p ∷ rest) r = go (owner_order o p) refl (and_parts (before_first is_owner_before p rest) (rises is_owner_before rest) r) (put_rises o rest)
  where
    go : (s : Ordering) → owner_order o p ≡ s → (before_first is_owner_before p rest ≡ true) × (rises is_owner_before rest ≡ true)
        → (rises is_owner_before rest ≡ true → rises is_owner_before (put o rest) ≡ true)
        → rises is_owner_before (put_before s o p rest (put o rest)) ≡ true
    go Less e k later = and_from (is_owner_before o p) (rises is_owner_before (p ∷ rest)) (ap is_lt e) r
    go Equal e k later = r
    go Greater e k later =
        and_from (before_first is_owner_before p (put o rest)) (rises is_owner_before (put o rest)) (before_put p o rest e k.0) (later k.1)

pub rising_rises : (os : List Owner) → rises is_owner_before (rising os) ≡ true
rising_rises [] = refl
rising_rises (o ∷ os) = put_rises o (rising os) (rising_rises os)

put_all : (test : Owner → Bool) (o : Owner) (xs : List Owner) → test o ≡ true → list_all test xs ≡ true → list_all test (put o xs) ≡ true
put_all test o [] h k = and_from (test o) true h refl
put_all test o (p ∷ rest) h k = go (owner_order o p) (and_parts (test p) (list_all test rest) k) (put_all test o rest h)
  where
    go : (s : Ordering) → (test p ≡ true) × (list_all test rest ≡ true) → (list_all test rest ≡ true → list_all test (put o rest) ≡ true)
        → list_all test (put_before s o p rest (put o rest)) ≡ true
    go Less j later = and_from (test o) (test p && list_all test rest) h k
    go Equal j later = k
    go Greater j later = and_from (test p) (list_all test (put o rest)) j.0 (later j.1)

pub rising_all : (test : Owner → Bool) (os : List Owner) → list_all test os ≡ true → list_all test (rising os) ≡ true
rising_all test [] h = refl
rising_all test (o ∷ os) h =
    let hs = and_parts (test o) (list_all test os) h in
    put_all test o (rising os) hs.0 (rising_all test os hs.1)
