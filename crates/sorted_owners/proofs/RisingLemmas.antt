-- Owners in their order.
use Rattle.std.proofs.Common.{◌≡◌, ◌<◌, List, [], ◌∷◌, ◌++◌, length, map, refl, ap, ◌∙◌, arith}
use Rattle.std.specs.Prelude.{false, is_err, OnOk, Result, Ok, Err}
use Rattle.std.specs.BTreeSet.{insert_key}
use Rattle.std.specs.Ordering.{match_ordering}
use Rattle.std.specs.declared.cmp.Ordering.{Ordering}
use Rattle.std.specs.declared.cmp.Ordering.TheVariants.{Less, Equal, Greater}
use Rattle.type_terms.specs.declared.term.Owner.{Owner}
use Rattle.sorted_owners.specs.Rising.{put, put_before, rising}
use Rattle.sorted_owners.specs.Ranks.{by_order, owner_of, owners_of}
use Rattle.sorted_owners.specs.declared.sorting.Ranked.{Ranked}

-- a set with one more holds the owners with one put in
pub put_in : (rs : List Ranked) (r : Ranked) → owners_of (insert_key by_order rs r) ≡ put (owner_of r) (owners_of rs)
put_in [] r = refl
put_in (x ∷ xs) r = go (by_order r x) (put_in xs r)
  where
    go : (o : Ordering) → owners_of (insert_key by_order xs r) ≡ put (owner_of r) (owners_of xs)
        → owners_of (match_ordering o (r ∷ x ∷ xs) (x ∷ xs) (x ∷ insert_key by_order xs r))
        ≡ put_before o (owner_of r) (owner_of x) (owners_of xs) (put (owner_of r) (owners_of xs))
    go Less h = refl
    go Equal h = refl
    go Greater h = ap (λ os. owner_of x ∷ os) h

-- the owners of a list, from its end, put into others
abbrev pub put_all : List Owner → List Owner → List Owner
put_all [] others = others
put_all (o ∷ os) others = put o (put_all os others)

pub all_rise : (os : List Owner) → put_all os [] ≡ rising os
all_rise [] = refl
all_rise (o ∷ os) = ap (put o) (all_rise os)

pub put_last : (os : List Owner) (o : Owner) (others : List Owner) → put_all (os ++ o ∷ []) others ≡ put_all os (put o others)
put_last [] o others = refl
put_last (p ∷ os) o others = ap (put p) (put_last os o others)

-- what holds of a call that didn't fail
pub held : {T E : Type 0} (r : Result T E) (P : Type 0) → is_err r ≡ false → OnOk r P → P
held (Ok x) P e h = h
held (Err x) P e h = absurd cc

-- fewer than two owners rise as they are
pub few_rise : (os : List Owner) → length os < 2 → os ≡ rising os
few_rise [] h = refl
few_rise (o ∷ []) h = refl
few_rise (o ∷ p ∷ os) h = absurd (omega (arith, h))
