-- Whether a text that is split at its dots has an empty piece, byte by byte.
use Rattle.std.proofs.Common.{◌≡◌, ℕ, Bool, true, false, cond, nat_eq, ◌||◌, List, [], ◌∷◌, length, refl, ap, ◌∙◌, arith}
use Rattle.std.specs.List.{list_any}
use borrow.Author.Tests.{ne_eqb}
use Rattle.listing_leaves.specs.Names.{is_empty, pieces, longer_first}
use Rattle.print_leaves.specs.Parts.{any_empty}

abbrev others : List (List ℕ) → List (List ℕ)
others [] = []
others (p ∷ ps) = ps

not_empty : (b : ℕ) (p : List ℕ) → is_empty (b ∷ p) ≡ false
not_empty b p = ne_eqb (length (b ∷ p)) 0 (λ e. omega arith)

longer_any : (b : ℕ) (ps : List (List ℕ)) → list_any is_empty (longer_first b ps) ≡ list_any is_empty (others ps)
longer_any b [] = refl
longer_any b (p ∷ ps) = ap (λ t. t || list_any is_empty ps) (not_empty b p)

longer_others : (b : ℕ) (ps : List (List ℕ)) → others (longer_first b ps) ≡ others ps
longer_others b [] = refl
longer_others b (p ∷ ps) = refl

record Agrees (bs : List ℕ) : Type 0 where
  new : list_any is_empty (pieces bs) ≡ any_empty true bs
  old : list_any is_empty (others (pieces bs)) ≡ any_empty false bs

new_by : (b : ℕ) (bs : List ℕ) (t : Bool) → Agrees bs →
    list_any is_empty (cond t ([] ∷ pieces bs) (longer_first b (pieces bs))) ≡ cond t true (any_empty false bs)
new_by b bs true h = refl
new_by b bs false h = longer_any b (pieces bs) ∙ h.old

old_by : (b : ℕ) (bs : List ℕ) (t : Bool) → Agrees bs →
    list_any is_empty (others (cond t ([] ∷ pieces bs) (longer_first b (pieces bs)))) ≡ cond t (any_empty true bs) (any_empty false bs)
old_by b bs true h = h.new
old_by b bs false h = ap (list_any is_empty) (longer_others b (pieces bs)) ∙ h.old

agrees : (bs : List ℕ) → Agrees bs
agrees [] = record { new = refl; old = refl }
agrees (b ∷ bs) = record { new = new_by b bs (nat_eq b 46) (agrees bs); old = old_by b bs (nat_eq b 46) (agrees bs) }

pub empties : (bs : List ℕ) → list_any is_empty (pieces bs) ≡ any_empty true bs
empties bs = (agrees bs).new
