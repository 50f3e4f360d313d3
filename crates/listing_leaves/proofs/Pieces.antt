-- The pieces of a text.
use Rattle.std.proofs.Common.{◌≡◌, ℕ, Bool, true, false, cond, ◌&&◌, ◌||◌, nat_eq, nat_lt, List, [], ◌∷◌, ◌++◌, length, refl, ap, arith}
use Rattle.std.specs.List.{list_all, list_any}
use Rattle.listing_leaves.specs.Laws.{is_name, has_no_zero}
use Rattle.listing_leaves.specs.Names.{longer_first, pieces, is_empty, parts_of, type_parts}
use Rattle.listing_leaves.proofs.Each.{and_parts}

-- one name at least, and each is one
pub record AreNames (ps : List (List ℕ)) : Type 0 where
  pub first : List ℕ
  pub more : List (List ℕ)
  pub are : ps ≡ first ∷ more
  pub named : list_all is_name (first ∷ more) ≡ true

both : (p q : Bool) → p ≡ true → q ≡ true → (p && q) ≡ true
both true q h k = k
both false q h k = h

longer_plain : (b : ℕ) (ps : List (List ℕ)) → nat_lt 0 b ≡ true → list_all has_no_zero ps ≡ true → list_all has_no_zero (longer_first b ps) ≡ true
longer_plain b [] h k = both (has_no_zero (b ∷ [])) true (both (nat_lt 0 b) true h refl) refl
longer_plain b (p ∷ ps) h k =
    let ks = and_parts (has_no_zero p) (list_all has_no_zero ps) k in
    both (has_no_zero (b ∷ p)) (list_all has_no_zero ps) (both (nat_lt 0 b) (has_no_zero p) h ks.0) ks.1

one_plain : (b : ℕ) (bs : List ℕ) (x : Bool) → nat_lt 0 b ≡ true → list_all has_no_zero (pieces bs) ≡ true →
    list_all has_no_zero (cond x ([] ∷ pieces bs) (longer_first b (pieces bs))) ≡ true
one_plain b bs true h k = k
one_plain b bs false h k = longer_plain b (pieces bs) h k

plain : (bs : List ℕ) → has_no_zero bs ≡ true → list_all has_no_zero (pieces bs) ≡ true
plain [] h = refl
plain (b ∷ bs) h = let hs = and_parts (nat_lt 0 b) (has_no_zero bs) h in one_plain b bs (nat_eq b 46) hs.0 (plain bs hs.1)

some_byte : (p : List ℕ) → is_empty p ≡ false → nat_lt 0 (length p) ≡ true
some_byte [] h = grind (arith, h)
some_byte (b ∷ bs) h = grind arith

none_of_two : (p q : Bool) → (p || q) ≡ false → (p ≡ false) × (q ≡ false)
none_of_two true q h = grind (arith, h)
none_of_two false q h = (refl, h)

named_pieces : (ps : List (List ℕ)) → list_any is_empty ps ≡ false → list_all has_no_zero ps ≡ true → list_all is_name ps ≡ true
named_pieces [] h k = refl
named_pieces (p ∷ ps) h k =
    let hs = none_of_two (is_empty p) (list_any is_empty ps) h in
    let ks = and_parts (has_no_zero p) (list_all has_no_zero ps) k in
    both (is_name p) (list_all is_name ps) (both (nat_lt 0 (length p)) (has_no_zero p) (some_byte p hs.0) ks.0) (named_pieces ps hs.1 ks.1)

-- a list of pieces has one at least
names_of : (ps : List (List ℕ)) → nat_lt 0 (length ps) ≡ true → list_all is_name ps ≡ true → AreNames ps
names_of [] l h = grind (arith, l)
names_of (p ∷ ps) l h = record { first = p; more = ps; are = refl; named = h }

longer_some : (b : ℕ) (ps : List (List ℕ)) → nat_lt 0 (length (longer_first b ps)) ≡ true
longer_some b [] = refl
longer_some b (p ∷ ps) = grind arith

one_some : (b : ℕ) (bs : List ℕ) (x : Bool) → nat_lt 0 (length (cond x ([] ∷ pieces bs) (longer_first b (pieces bs)))) ≡ true
one_some b bs true = grind arith
one_some b bs false = longer_some b (pieces bs)

some_pieces : (bs : List ℕ) → nat_lt 0 (length (pieces bs)) ≡ true
some_pieces [] = refl
some_pieces (b ∷ bs) = one_some b bs (nat_eq b 46)

parts_by : (text : List ℕ) (x : Bool) → list_any is_empty (pieces text) ≡ x → is_name text ≡ true → AreNames (cond x (text ∷ []) (pieces text))
parts_by text true e h = record { first = text; more = []; are = refl; named = both (is_name text) true h refl }
parts_by text false e h =
    let hs = and_parts (nat_lt 0 (length text)) (has_no_zero text) h in
    names_of (pieces text) (some_pieces text) (named_pieces (pieces text) e (plain text hs.1))

pub parts_are : (text : List ℕ) → is_name text ≡ true → AreNames (parts_of text)
parts_are text h = parts_by text (list_any is_empty (pieces text)) refl h

all_then : (ps : List (List ℕ)) (q : List ℕ) → list_all is_name ps ≡ true → is_name q ≡ true → list_all is_name (ps ++ q ∷ []) ≡ true
all_then [] q h k = both (is_name q) true k refl
all_then (p ∷ ps) q h k =
    let hs = and_parts (is_name p) (list_all is_name ps) h in both (is_name p) (list_all is_name (ps ++ q ∷ [])) hs.0 (all_then ps q hs.1 k)

then_name : (ps : List (List ℕ)) (q : List ℕ) → AreNames ps → is_name q ≡ true → AreNames (ps ++ q ∷ [])
then_name ps q a k = record {
  first = a.first;
  more = a.more ++ q ∷ [];
  are = ap (λ ps. ps ++ q ∷ []) a.are;
  named = all_then (a.first ∷ a.more) q a.named k;
}

type_by : (space text : List ℕ) (x : Bool) → is_empty space ≡ x → has_no_zero space ≡ true → is_name text ≡ true →
    AreNames (cond x [] (parts_of space) ++ text ∷ [])
type_by space text true e h k = record { first = text; more = []; are = refl; named = both (is_name text) true k refl }
type_by space text false e h k =
    then_name (parts_of space) text (parts_are space (both (nat_lt 0 (length space)) (has_no_zero space) (some_byte space e) h)) k

pub type_parts_are : (space text : List ℕ) → has_no_zero space ≡ true → is_name text ≡ true → AreNames (type_parts space text)
type_parts_are space text h k = type_by space text (is_empty space) refl h k
