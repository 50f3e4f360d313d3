-- What rows own, number by number.
use Rattle.std.proofs.Common.{◌≡◌, ap, refl, sym, ◌∙◌, subst, ℕ, zero, suc, ◌+◌, ◌-◌, ◌<◌, ◌≤◌, List, [], ◌∷◌, map, Option, Some, None, arith}
use Rattle.std.specs.Borrow.{Bor}
use Rattle.std.specs.Prelude.{slice_get}
use Rattle.std.specs.List.{range_with_len}
use Rattle.std.specs.Option.{option_map}
use Rattle.metadata_tables.specs.declared.coded.Coded.{Coded}
use Rattle.image_members.specs.ByNumber.{or_none, owned_in}
use Rattle.image_tokens.specs.Indexes.{index_of}
use Rattle.image_members.specs.Places.{lent}

-- the next of the numbers
pub next_number : (k n : ℕ) → k < n → range_with_len k (n - k) ≡ k ∷ range_with_len (k + 1) (n - (k + 1))
next_number k n low =
    let more : n - k ≡ suc (n - (k + 1)) = omega arith in
    ap (range_with_len k) more

pub no_number : (k n : ℕ) → n ≤ k → range_with_len k (n - k) ≡ []
no_number k n high =
    let none : n - k ≡ 0 = omega arith in
    ap (range_with_len k) none

pub lent_at : {X : Type 0} → (xs : List (Bor X)) (k : ℕ) → slice_get (lent xs) k ≡ option_map (λ (x : Bor X). x.now) (slice_get xs k)
lent_at [] k = refl
lent_at (x ∷ xs) zero = refl
lent_at (x ∷ xs) (suc k) = lent_at xs k

module _ {X : Type 0} (kind : Coded) (table k : ℕ) (of : List (Bor (List X))) where
  pub none_owned : None ≡ slice_get of k → owned_in kind k (table, lent of) ≡ []
  none_owned e =
      ap (λ (o : Option (List X)). map (λ (x : X). (index_of kind table (k + 1), x)) (or_none o)) (lent_at of k ∙ ap (option_map (λ (x : Bor (List X)). x.now)) (sym e))

  pub some_owned : (xs : Bor (List X)) → Some xs ≡ slice_get of k → owned_in kind k (table, lent of) ≡ map (λ (x : X). (index_of kind table (k + 1), x)) xs.now
  some_owned xs e =
      ap (λ (o : Option (List X)). map (λ (x : X). (index_of kind table (k + 1), x)) (or_none o)) (lent_at of k ∙ ap (option_map (λ (x : Bor (List X)). x.now)) (sym e))
