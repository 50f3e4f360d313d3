-- Flags with bits that rows of other tables tell.
use Rattle.std.proofs.Common.{◌≡◌, ap, refl, sym, ◌∙◌, ℕ, ◌+◌, ◌==◌, true, Option, Some, None, arith}
use Rattle.std.specs.Prelude.{bit_and, bit_or, min}
use Rattle.std.specs.Int.{bit_at}
use Rattle.std.proofs.lemmas.Bool.{eqb-true}
use Rattle.std.proofs.lemmas.Nat.{or_disjoint}
use Rattle.std.proofs.lemmas.Nat.Bits.{bit_at_and, bit_at_or, bit_at-zero, same_from_bits}
use Rattle.image_model.specs.Reading.{without}
use Rattle.image_rows.specs.FieldRows.{flag_if}

bits_or : (f a b i : ℕ) → bit_at (bit_or (bit_or f a) b) i ≡ bit_at (bit_or f (bit_or a b)) i
bits_or f a b i =
    let one = bit_at_or (bit_or f a) b i in
    let two = bit_at_or f a i in
    let three = bit_at_or f (bit_or a b) i in
    let four = bit_at_or a b i in
    omega (arith, one, two, three, four)

or_in : (f a b : ℕ) → bit_or (bit_or f a) b ≡ bit_or f (bit_or a b)
or_in f a b = same_from_bits (bit_or (bit_or f a) b) (bit_or f (bit_or a b)) (bits_or f a b)

-- bits of a mask that were added to flags with none of them are taken off again
pub taken_off : (f s m : ℕ) → bit_and f m ≡ 0 → bit_and s m ≡ s → f ≡ without (bit_or f s) m
taken_off f s m clear inside =
    let bit : (i : ℕ) → (min (bit_at f i) (bit_at m i) ≡ 0) × (min (bit_at s i) (bit_at m i) ≡ bit_at s i) =
    (λ i. (sym (bit_at_and f m i) ∙ ap (λ n. bit_at n i) clear ∙ bit_at-zero i, sym (bit_at_and s m i) ∙ ap (λ n. bit_at n i) inside)) in
    let masked : bit_and (bit_or f s) m ≡ s = same_from_bits (bit_and (bit_or f s) m) s
    (λ i.
    let one = bit_at_and (bit_or f s) m i in
    let two = bit_at_or f s i in
    let three = (bit i).0 in
    let four = (bit i).1 in
    omega (arith, one, two, three, four)) in
    let apart : bit_and f s ≡ 0 = same_from_bits (bit_and f s) 0
    (λ i.
    let one = bit_at_and f s i in
    let two = bit_at-zero i in
    let three = (bit i).0 in
    let four = (bit i).1 in
    omega (arith, one, two, three, four)) in
    let both : bit_or f s ≡ f + s = or_disjoint f s apart in
    omega (arith, masked, both)

one_bit : {X : Type 0} (o : Option X) → bit_and (flag_if 0x1000 o) 0x1000 ≡ flag_if 0x1000 o
one_bit None = refl
one_bit (Some x) = refl

two_bits : {X Y : Type 0} (o : Option X) (p : Option Y) → bit_and (bit_or (flag_if 0x8000 o) (flag_if 0x100 p)) 0x8100 ≡ bit_or (flag_if 0x8000 o) (flag_if 0x100 p)
two_bits None None = refl
two_bits None (Some y) = refl
two_bits (Some x) None = refl
two_bits (Some x) (Some y) = refl

pub one_off : {X : Type 0} (f : ℕ) (o : Option X) → (bit_and f 0x1000 == 0) ≡ true → f ≡ without (bit_or f (flag_if 0x1000 o)) 0x1000
one_off f o clear = taken_off f (flag_if 0x1000 o) 0x1000 (eqb-true (bit_and f 0x1000) 0 clear) (one_bit o)

pub two_off : {X Y : Type 0} (f : ℕ) (o : Option X) (p : Option Y) → (bit_and f 0x8100 == 0) ≡ true
    → f ≡ without (bit_or (bit_or f (flag_if 0x8000 o)) (flag_if 0x100 p)) 0x8100
two_off f o p clear =
    taken_off f (bit_or (flag_if 0x8000 o) (flag_if 0x100 p)) 0x8100 (eqb-true (bit_and f 0x8100) 0 clear) (two_bits o p)
    ∙ ap (λ n. without n 0x8100) (sym (or_in f (flag_if 0x8000 o) (flag_if 0x100 p)))
