-- The tokens of an image name one type each.
use Rattle.std.proofs.Common.{◌≡◌, ℕ, zero, suc, ◌<◌, List, Option, Some, None, refl, sym, arith}
use Rattle.type_terms.specs.declared.term.Owner.{Owner}
use Rattle.type_terms.specs.Depth.{owner_depth}
use Rattle.image_model.specs.Naming.{RowOwner, NamesOwner, TellsOwners}
use Rattle.image_model.specs.Laws.{OneOwners}
use Rattle.image_model.proofs.Transfer.{depth-Spec, type_moves}

-- two values that may be there are the same where each says what the other is
pub same_option : {X : Type 0} (x y : Option X) → ((v : X) → x ≡ Some v → y ≡ Some v) → ((v : X) → y ≡ Some v → x ≡ Some v) → x ≡ y
same_option None None f g = refl
same_option None (Some v) f g = g v refl
same_option (Some v) y f g = sym (f v refl)

module _ (image : List ℕ) (a b : ℕ → Option Owner) where
  row_moves : (n : ℕ) → ((token : ℕ) (o : Owner) → owner_depth o < n → a token ≡ Some o → b token ≡ Some o)
      → {table row : ℕ} {o : Owner} → RowOwner image a table row o → owner_depth o < suc n → RowOwner image b table row o
  row_moves n agree (RowOwner.defined e there path) low = RowOwner.defined e there path
  row_moves n agree (RowOwner.referred e there path) low = RowOwner.referred e there path
  row_moves n agree (RowOwner.specified {term = t} e there blob h) low =
      RowOwner.specified e there blob (type_moves a b n agree h.0 (omega (arith, depth-Spec t)), h.1, h.2)

  token_moves : (n : ℕ) → ((token : ℕ) (o : Owner) → owner_depth o < n → a token ≡ Some o → b token ≡ Some o)
      → {token : ℕ} {o : Owner} → NamesOwner image a token o → owner_depth o < suc n → NamesOwner image b token o
  token_moves n agree (NamesOwner.by_row i h) low = NamesOwner.by_row i (row_moves n agree h low)

  agrees : TellsOwners image a → TellsOwners image b → (n token : ℕ) (o : Owner) → owner_depth o < n → a token ≡ Some o → b token ≡ Some o
  agrees ra rb zero token o low e = absurd (omega arith)
  agrees ra rb (suc n) token o low e = (rb token o).1 (token_moves n (agrees ra rb n) ((ra token o).0 e) low)

-- the owners are one map
pub one_owners : OneOwners
one_owners image owners others h k = λ i token. same_option (owners token) (others token) (λ o e. agrees image owners others h k (suc (owner_depth o)) token o (omega arith) e)
    (λ o e. agrees image others owners k h (suc (owner_depth o)) token o (omega arith) e) i
