-- Bytes among which none is of a kind.
use Rattle.std.proofs.Common.{◌≡◌, ℕ, zero, suc, ◌+◌, ◌<◌, Bool, true, false, not, nat_le, List, [], ◌∷◌, length, get_or, refl, ap, arith}
use Rattle.std.specs.Str.{IsUtf8}
use Rattle.std.proofs.lemmas.Str.{IsUtf8-from_ascii}
use Rattle.std.proofs.lemmas.Bool.{or_parts}
use Rattle.il_lexer.specs.Kinds.{is_among}
use Rattle.il_lexer.specs.Runs.{front}
use Rattle.il_lexer.proofs.Fronts.{front-true, front-false}

-- a byte of no such kind goes on in the front
on : (kind : ℕ → Bool) (x : ℕ) (bs : List ℕ) → kind x ≡ false → front (λ c. not (kind c)) (x ∷ bs) ≡ suc (front (λ c. not (kind c)) bs)
on kind x bs e = front-true (λ c. not (kind c)) x bs (ap not e)

pub one_on : (kind : ℕ → Bool) (x : ℕ) (bs : List ℕ) → kind x ≡ false → front (λ c. not (kind c)) (x ∷ bs) ≡ 1 + front (λ c. not (kind c)) bs
one_on kind x bs e = omega (arith, on kind x bs e)

pub eight_on : (kind : ℕ → Bool) (a b c d e f g h : ℕ) (more : List ℕ) → is_among kind a b c d e f g h ≡ false →
    front (λ c. not (kind c)) (a ∷ b ∷ c ∷ d ∷ e ∷ f ∷ g ∷ h ∷ more) ≡ 8 + front (λ c. not (kind c)) more
eight_on kind a b c d e f g h more none =
    let n1 = or_parts (kind a) _ none in
    let n2 = or_parts (kind b) _ n1.1 in
    let n3 = or_parts (kind c) _ n2.1 in
    let n4 = or_parts (kind d) _ n3.1 in
    let n5 = or_parts (kind e) _ n4.1 in
    let n6 = or_parts (kind f) _ n5.1 in
    let n7 = or_parts (kind g) (kind h) n6.1 in
    let m7 = h ∷ more in let m6 = g ∷ m7 in let m5 = f ∷ m6 in let m4 = e ∷ m5 in let m3 = d ∷ m4 in let m2 = c ∷ m3 in let m1 = b ∷ m2 in
    omega (arith, on kind a m1 n1.0, on kind b m2 n2.0, on kind c m3 n3.0, on kind d m4 n4.0, on kind e m5 n5.0, on kind f m6 n6.0, on kind g m7 n7.0, on kind h more n7.1)

-- a byte below the last of ASCII
abbrev is_low : ℕ → Bool
is_low c = not (nat_le 127 c)

below : (bs : List ℕ) (i : ℕ) → front is_low bs ≡ length bs → get_or bs i 0 < 128
below [] i e = omega arith
below (b ∷ bs) i e = go (nat_le 127 b) refl i (below bs)
  where
    go : (t : Bool) → nat_le 127 b ≡ t → (i : ℕ) → ((j : ℕ) → front is_low bs ≡ length bs → get_or bs j 0 < 128) → get_or (b ∷ bs) i 0 < 128
    go true h i more = absurd (omega (arith, e, front-false is_low b bs (ap not h)))
    go false h zero more = grind arith
    go false h (suc i) more = more i (omega (arith, e, front-true is_low b bs (ap not h)))

-- bytes below 127 are UTF-8
pub low : (bs : List ℕ) → front (λ c. not (nat_le 127 c)) bs ≡ length bs → IsUtf8 bs
low bs e = IsUtf8-from_ascii bs (λ i. below bs i e)
