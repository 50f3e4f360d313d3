-- The interfaces of a type weigh what its marked rows of InterfaceImpl do (II.22.23).
use Rattle.std.proofs.Common.{◌≡◌, ℕ, zero, suc, ◌+◌, ◌<◌, inl, inr, Bool, true, false, List, [], ◌∷◌, Contains, filter, length, slice_index_or, refl, sym, ◌∙◌, ap, subst, arith}
use Rattle.std.specs.Prelude.{sum_by}
use Rattle.std.specs.Cmp.{IsTotalOrder}
use Rattle.std.specs.List.{AllZip}
use Rattle.std.specs.declared.cmp.Ordering.TheVariants.{Less}
use Rattle.std.specs.Ordering.{ordering_index}
use Rattle.std.proofs.lemmas.Cmp.{tied_itself}
use Rattle.type_terms.specs.Order.{owner_order}
use Rattle.type_terms.specs.declared.term.Owner.{Owner}
use Rattle.assembly_tree.specs.Weight.{owner_weight, bounds_weight}
use Rattle.body_codec.specs.Names.{NameMap}
use Rattle.image_model.specs.Columns.{interface_class, interface_type}
use Rattle.image_model.specs.Reading.{OwnerIs, Rising, AreInterfaces}
use Rattle.image_model.specs.Rows.{count_of, HasRow, rows_of, rows_with}
use Rattle.row_parts.proofs.OwnedRows.{Among, owned_among, among_owned}
use Rattle.told_weights.specs.Told.{Told}
use Rattle.told_weights.specs.Fresh.{AreFreshBy}
use Rattle.image_weights.specs.RowWeights.{owner, interface_row}
use Rattle.image_weights.proofs.Alike.{Alike, plus, exactly, as_weight, as_told}
use Rattle.image_weights.proofs.Distinct.{IsIn, EachOnce, same_members}
use Rattle.image_weights.proofs.Rises.{Rises, range_rises, filter_rises, rises_to, among_filter, filter_among}
use Rattle.image_weights.proofs.Sums.{zip_sums, zipped, zip_from, zip_has, sum_filter, sum_both, sum_same, contained}

-- ---- owners that rise

before_all : IsTotalOrder owner_order → (x : Owner) (ys : List Owner) → Rising (x ∷ ys) → (z : Owner) → IsIn z ys → owner_order x z ≡ Less
before_all o x [] r z h = absurd h
before_all o x (y ∷ ys) r z (inl e) = subst (λ w. owner_order x w ≡ Less) e r.0
before_all o x (y ∷ ys) r z (inr h) = o.trans x y z r.0 (before_all o y ys r.1 z h)

rising_tail : (x : Owner) (ys : List Owner) → Rising (x ∷ ys) → Rising ys
rising_tail x [] r = tt
rising_tail x (y ∷ ys) r = r.1

not_before_itself : IsTotalOrder owner_order → (x : Owner) → owner_order x x ≡ Less → ⊥
not_before_itself o x h = let e = tied_itself o x in omega (arith, ap ordering_index (sym h ∙ e))

rising_once : IsTotalOrder owner_order → (os : List Owner) → Rising os → EachOnce os
rising_once o [] r = tt
rising_once o (x ∷ xs) r = ((λ m. not_before_itself o x (before_all o x xs r x m)), rising_once o xs (rising_tail x xs r))

in_at : (x : Owner) (ys : List Owner) (k : ℕ) → k < length ys → slice_index_or ys k x ≡ x → IsIn x ys
in_at x [] k lt e = absurd (omega arith)
in_at x (y ∷ ys) zero lt e = inl e
in_at x (y ∷ ys) (suc k) lt e = inr (in_at x ys k (omega arith) e)

to_in : (x : Owner) (ys : List Owner) → Contains ys x → IsIn x ys
to_in x ys h = in_at x ys h.0 h.1 h.2

from_in : (x : Owner) (ys : List Owner) → IsIn x ys → Contains ys x
from_in x [] h = absurd h
from_in x (y ∷ ys) (inl e) = (0, omega arith, e)
from_in x (y ∷ ys) (inr h) = let c = from_in x ys h in (suc c.0, omega (arith, c.1), c.2)

among_at : (x : ℕ) (ys : List ℕ) (k : ℕ) → k < length ys → slice_index_or ys k x ≡ x → Among x ys
among_at x [] k lt e = absurd (omega arith)
among_at x (y ∷ ys) zero lt e = inl e
among_at x (y ∷ ys) (suc k) lt e = inr (among_at x ys k (omega arith) e)

pub all_bounds : (os : List Owner) → sum_by (λ o. 64 + owner_weight o) os ≡ bounds_weight os
unfolding bounds_weight
all_bounds os = sum_both (λ (o : Owner). 64) owner_weight os ∙ ap (λ (n : ℕ). n + sum_by owner_weight os) (sum_same 64 os)

-- ---- the rows of a type

module _ (image : List ℕ) (names : NameMap) (told : Told) (fresh : List Bool) (total : IsTotalOrder owner_order)
    (one : (value : ℕ) (o p : Owner) → OwnerIs image names value o → OwnerIs image names value p → o ≡ p)
    (has : (row : ℕ) → HasRow image 0x09 row → (o : Owner) × OwnerIs image names (interface_type image row) o)
    (weighs : (row : ℕ) (o : Owner) → HasRow image 0x09 row → OwnerIs image names (interface_type image row) o → Alike (owner told (interface_type image row)) (owner_weight o))
    (are : AreFreshBy image names fresh) (type : ℕ) where
  abbrev Is : ℕ → Owner → Type 0
  Is row o = OwnerIs image names (interface_type image row) o

  abbrev mark : ℕ → Bool
  mark row = slice_index_or fresh row false

  abbrev rows : List ℕ
  rows = rows_with image 0x09 interface_class type

  abbrev new : List ℕ
  new = filter mark rows

  record InNew (row : ℕ) : Type 0 where
    pub there : HasRow image 0x09 row
    pub class : interface_class image row ≡ type
    pub marked : mark row ≡ true
    pub among : Among row rows

  in_new : (row : ℕ) → Among row new → InNew row
  in_new row m =
      let f = among_filter mark row rows m in
      let r = owned_among image 0x09 interface_class type row f.0 in
      record { there = r.0; class = r.1; marked = f.1; among = f.0 }

  rise : Rises 1 new
  unfolding rows_with rows_of
  rise = filter_rises mark 1 rows (filter_rises _ 1 (rows_of image 0x09) (range_rises 1 (count_of image 0x09)))

  owners : (os : List Owner) × AllZip Is new os
  owners = zipped Is new (λ r m. has r (in_new r m).there)

  clash : (o : Owner) (r s : ℕ) → InNew r → InNew s → r < s → Is r o → Is s o → ⊥
  clash o r s nr ns less hr hs = are.marked s r ns.there ns.marked (nr.there.0, less, nr.class ∙ sym ns.class, (o, hr, hs))

  once : (low : ℕ) (rs : List ℕ) (os : List Owner) → Rises low rs → ((r : ℕ) → Among r rs → InNew r) → AllZip Is rs os → EachOnce os
  once low [] [] rs all z = tt
  once low [] (o ∷ os) rs all z = absurd z
  once low (r ∷ rs) [] rise all z = absurd z
  once low (r ∷ rs) (o ∷ os) rise all z = (
    λ m.
        let s = zip_from Is rs os o z.1 m in
        clash o r s.0 (all r (inl refl)) (all s.0 (inr s.1)) (let l = rises_to (r + 1) s.0 rs rise.1 s.1 in omega arith) z.0 s.2,
    once (r + 1) rs os rise.1 (λ s m. all s (inr m)) z.1,
  )

  -- the first row that names the type that a row names is marked
  abbrev First : Owner → Type 0
  First o = (s : ℕ) × Among s new × Is s o

  earlier : (o : Owner) (row : ℕ) → HasRow image 0x09 row → interface_class image row ≡ type → Is row o
      → ((e : ℕ) → e < row → HasRow image 0x09 e → interface_class image e ≡ type → Is e o → First o) → (b : Bool) → mark row ≡ b → First o
  earlier o row there class is before true e = (row, filter_among mark row rows (among_owned image 0x09 interface_class type row there class) e, is)
  earlier o row there class is before false e =
      let b = are.others row there e in
      let same : b.1.3.0 ≡ o = one (interface_type image row) b.1.3.0 o b.1.3.2 is in
      before b.0 b.1.1 (b.1.0, (let l = b.1.1 in let h = there.1 in omega arith)) (b.1.2 ∙ class) (subst (λ (p : Owner). Is b.0 p) same b.1.3.1)

  first : (o : Owner) (k row : ℕ) → row < k → HasRow image 0x09 row → interface_class image row ≡ type → Is row o → First o
  first o zero row less there class is = absurd (omega arith)
  first o (suc k) row less there class is =
      earlier o row there class is (λ e lt here same names_it. first o k e (omega arith) here same names_it) (mark row) refl

  rows_weigh : Alike (sum_by (interface_row image told fresh) rows) (sum_by (λ o. 64 + owner_weight o) owners.0)
  unfolding interface_row
  rows_weigh =
      as_told (sym (sum_filter (λ r. 64 + owner told (interface_type image r)) mark rows))
      (zip_sums Is (λ r. 64 + owner told (interface_type image r)) (λ o. 64 + owner_weight o) new owners.0 owners.1 (λ r o m is. plus (exactly 64) (weighs r o (in_new r m).there is)))

  row_in : (row : ℕ) → Contains rows row → HasRow image 0x09 row × (interface_class image row ≡ type)
  row_in row c = owned_among image 0x09 interface_class type row (among_at row rows c.0 c.1 c.2)

  pub interfaces_weigh : (os : List Owner) → AreInterfaces image names type os → Alike (sum_by (interface_row image told fresh) rows) (bounds_weight os)
  interfaces_weigh os h =
      as_weight rows_weigh
      (same_members (λ o. 64 + owner_weight o) owners.0 os (once 1 new owners.0 rise in_new owners.1) (rising_once total os h.rising)
      (λ o m.
      let r = zip_from Is new owners.0 o owners.1 m in
      to_in o os ((h.each o).1 (r.0, contained r.0 rows (in_new r.0 r.1).among, r.2)))
      (λ o m.
      let r = (h.each o).0 (from_in o os m) in
      let at = row_in r.0 r.1 in
      let f = first o (suc r.0) r.0 (omega arith) at.0 at.1 r.2 in
      let z = zip_has Is new owners.0 f.0 owners.1 f.1 in
      subst (λ (p : Owner). IsIn p owners.0) (one (interface_type image f.0) z.0 o z.1 f.2) z.2)
      ∙ all_bounds os)
