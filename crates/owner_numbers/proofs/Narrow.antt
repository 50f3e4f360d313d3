-- A type is spelled where tokens name only what is less deep.
use Rattle.std.proofs.Common.{◌≡◌, ℕ, ◌≤◌, ◌<◌, Bool, true, false, cond, List, Option, Some, None, refl, sym, ap, subst, ◌∙◌, arith}
use Rattle.std.specs.Prelude.{nat_lt}
use Rattle.std.proofs.lemmas.Bool.{lt-ltb, ltb-true}
use Rattle.type_terms.specs.Depth.{depth, owner_depth}
use Rattle.type_terms.specs.declared.term.Owner.{Owner}
use Rattle.type_terms.specs.declared.term.SigType.{SigType}
use Rattle.image_namings.proofs.Transfer.{type_moves}
use Rattle.sig_codec.specs.Reading.{whole_type}
use Rattle.sig_codec.proofs.Numbers.{some_is}
use Rattle.sig_codec.proofs.Whole.{type_whole, whole_type_again}
use Rattle.owner_numbers.specs.Canon.{kept_below, below}

kept : (limit : ℕ) (o : Owner) → owner_depth o < limit → kept_below limit (Some o) ≡ Some o
kept limit o low = ap (λ (b : Bool). cond b (Some o) None) (lt-ltb (owner_depth o) limit low)

pub below_kept : (limit : ℕ) (owners : ℕ → Option Owner) (token : ℕ) (o : Owner) → owner_depth o < limit → owners token ≡ Some o → below limit owners token ≡ Some o
below_kept limit owners token o low e = ap (kept_below limit) e ∙ kept limit o low

kept_if : (limit : ℕ) (o p : Owner) (b : Bool) → nat_lt (owner_depth o) limit ≡ b → cond b (Some o) None ≡ Some p → (o ≡ p) × (owner_depth o < limit)
kept_if limit o p true t e = (some_is o p e, lower (owner_depth o) limit t)
  where
    lower : (a b : ℕ) → nat_lt a b ≡ true → a < b
    lower a b t = omega (arith, ltb-true a b t)
kept_if limit o p false t e = absurd cc

kept_is : (limit : ℕ) (r : Option Owner) (o : Owner) → kept_below limit r ≡ Some o → (r ≡ Some o) × (owner_depth o < limit)
kept_is limit None o e = absurd cc
kept_is limit (Some p) o e =
    let k = kept_if limit p o (nat_lt (owner_depth p) limit) refl e in
    (ap (λ (q : Owner). Some q) k.0, subst (λ (q : Owner). owner_depth q < limit) k.0 k.1)

-- what is told below a depth is told, and less deep
pub below_is : (limit : ℕ) (owners : ℕ → Option Owner) (token : ℕ) (o : Owner) → below limit owners token ≡ Some o → (owners token ≡ Some o) × (owner_depth o < limit)
below_is limit owners token o e = kept_is limit (owners token) o e

pub narrowed : (limit : ℕ) (owners : ℕ → Option Owner) (bytes : List ℕ) (t : SigType) → whole_type owners bytes ≡ Some t → depth t ≤ limit → whole_type (below limit owners) bytes ≡ Some t
narrowed limit owners bytes t e low =
    let is = type_whole owners bytes t e in
    let moved = type_moves owners (below limit owners) limit (λ token o less h. below_kept limit owners token o less h) is.0 low in
    whole_type_again (below limit owners) bytes t (moved, is.1, is.2)
