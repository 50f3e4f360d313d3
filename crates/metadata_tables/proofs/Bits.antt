-- The tables of a stream, a bit for each, and where their row counts stand.
use Rattle.std.proofs.Common.{◌≡◌, ℕ, zero, suc, ◌+◌, ◌*◌, ◌/◌, ◌%◌, ◌^◌, ◌<◌, ◌≤◌, List, length, drop, get_or, set, refl, ap, ◌∙◌, arith, ⊎_elim}
use Rattle.std.specs.Int.{bit_at}
use Rattle.std.specs.Int.RustNames.{count_ones}
use Rattle.std.proofs.lemmas.Nat.{mod-pow-add, ones_cat, shr_split, pow_pos, mod_below}
use Rattle.std.proofs.lemmas.Nat.Bits.{bit_at-lt}
use Rattle.std.proofs.Math.Nat.{mod-one}
use Rattle.std.proofs.lemmas.List.{get_or-set_same, get_or-set_other}
use Rattle.std.proofs.lemmas.Bool.{ne_eqb, cases_eq}
use Rattle.byteorder.specs.Endian.{little_number}
use Rattle.metadata_tables.specs.Stream.{present, header_size, count_place, row_count}

ones_of_bit : (b : ℕ) → b < 2 → count_ones b ≡ b
unfolding count_ones
ones_of_bit zero h = refl
ones_of_bit (suc zero) h = refl
ones_of_bit (suc (suc b)) h = absurd (omega arith)

-- one bit more
pub ones-mod_more : (m t : ℕ) → count_ones (m % 2 ^ (t + 1)) ≡ count_ones (m % 2 ^ t) + bit_at m t
ones-mod_more m t =
    let turned : 1 + t ≡ t + 1 = omega arith in
    let parts = rw turned at (mod-pow-add m 1 t) in
    let below : m % 2 ^ t < 2 ^ t = mod_below m (2 ^ t) (pow_pos t) in
    let cat = ones_cat t (m / 2 ^ t % 2 ^ 1) (m % 2 ^ t) below in
    let bit = ones_of_bit (m / 2 ^ t % 2) (bit_at-lt m t) in
    ap count_ones parts ∙ cat ∙ omega (arith, bit)

-- the lowest bits have no more ones than all
pub ones-mod_le : (m t : ℕ) → count_ones (m % 2 ^ t) ≤ count_ones m
ones-mod_le m t =
    let below : m % 2 ^ t < 2 ^ t = mod_below m (2 ^ t) (pow_pos t) in
    let cat = ones_cat t (m / 2 ^ t) (m % 2 ^ t) below in
    let whole = ap count_ones (shr_split m t) in
    omega (arith, cat, whole)

-- the counts stand one after another
pub count_place_more : (stream : List ℕ) (t : ℕ) → count_place stream (t + 1) ≡ count_place stream t + 4 * bit_at (present stream) t
unfolding count_place
count_place_more stream t = omega (arith, ones-mod_more (present stream) t)

pub count_place_none : (stream : List ℕ) → count_place stream 0 ≡ 24
unfolding count_place
count_place_none stream =
    let none : count_ones (present stream % 2 ^ 0) ≡ 0 = ap count_ones (mod-one (present stream)) ∙ ones_of_bit 0 (omega arith) in
    omega (arith, none)

-- each stands before the rows
pub count_place_le : (stream : List ℕ) (t : ℕ) → count_place stream t ≤ header_size stream
unfolding count_place header_size
count_place_le stream t = omega (arith, ones-mod_le (present stream) t)

-- a present table's count stands before the rows
pub count_fits : (stream : List ℕ) (t : ℕ) → bit_at (present stream) t ≡ 1 → count_place stream t + 4 ≤ header_size stream
count_fits stream t b = omega (arith, count_place_more stream t, count_place_le stream (t + 1))

pub row_count_there : (stream : List ℕ) (t : ℕ) → bit_at (present stream) t ≡ 1 → row_count stream t ≡ little_number 4 (drop (count_place stream t) stream)
unfolding row_count
row_count_there stream t b = rw b refl

pub row_count_none : (stream : List ℕ) (t : ℕ) → (bit_at (present stream) t ≡ 1 → ⊥) → row_count stream t ≡ 0
unfolding row_count
row_count_none stream t b = rw (ne_eqb (bit_at (present stream) t) 1 b) refl

pub bit_none : (m t : ℕ) → (bit_at m t ≡ 1 → ⊥) → bit_at m t ≡ 0
bit_none m t b = omega (arith, bit_at-lt m t, b)

-- a list that holds what f gives below t, and then at t
pub set_more : (f : ℕ → ℕ) (xs : List ℕ) (t v : ℕ) → t < length xs → ((u : ℕ) → u < t → get_or xs u 0 ≡ f u) → v ≡ f t → (u : ℕ) → u < t + 1 → get_or (set xs t v) u 0 ≡ f u
set_more f xs t v inside before here u h = ⊎_elim
    (λ same. let e = get_or-set_same xs t v 0 inside in rw same (e ∙ here))
    (λ other. let e = get_or-set_other xs t u v 0 other in e ∙ before u (omega (arith, other)))
    (cases_eq u t)

pub header_size_is : (stream : List ℕ) → header_size stream ≡ 24 + 4 * count_ones (present stream)
unfolding header_size
header_size_is stream = refl

-- behind all counts come the rows
pub count_place_all : (stream : List ℕ) (t : ℕ) → present stream % 2 ^ t ≡ present stream → count_place stream t ≡ header_size stream
unfolding count_place header_size
count_place_all stream t all = ap (λ (m : ℕ). 24 + 4 * count_ones m) all
