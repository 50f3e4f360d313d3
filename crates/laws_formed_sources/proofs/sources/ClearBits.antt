-- Flags without some bits have them clear.
use Rattle.std.proofs.Common.{◌≡◌, ℕ, ◌+◌, ◌-◌, ◌*◌, ◌/◌, ◌%◌, ◌^◌, ◌<◌, ◌≤◌, refl, ap, sym, ◌∙◌, arith, pow_pos}
use Rattle.std.specs.Prelude.{bit_and, true}
use Rattle.std.proofs.Math.Nat.{mod-eq_of_lt}
use Rattle.std.proofs.lemmas.Bool.Decides.{Decides-eqb}
use Rattle.std.proofs.lemmas.Grind.{and-not_self}
use Rattle.std.proofs.lemmas.Nat.{and-not, and_comm, and_le_l, and_le_r, and_mod, and_shr, mod_below, mod_low, shr_split}
use Rattle.assembly_tree.specs.WellFormedMembers.{is_clear}
use Rattle.source_model.specs.Flags.{without_bits}

small : (x k : ℕ) → x < 2 ^ k → x % 2 ^ k ≡ x
small x k h = mod-eq_of_lt h

low_once : (x k : ℕ) → x % 2 ^ k % 2 ^ k ≡ x % 2 ^ k
low_once x k = small (x % 2 ^ k) k (mod_below x (2 ^ k) (pow_pos k))

apart : (m q r a b : ℕ) → a ≤ q → b ≤ r → (q * m + r) - (a * m + b) ≡ (q - a) * m + (r - b)
apart m q r a b h i =
    let d = q - a in
    let whole : q ≡ a + d = omega (arith, h) in
    let parted : q * m ≡ a * m + d * m = ap (λ n. n * m) whole ∙ grind arith in
    omega (arith, parted, i)

-- the bits of a group are taken from the lowest bits as from all
pub without_low : (x g k : ℕ) → without_bits g x % 2 ^ k ≡ without_bits g (x % 2 ^ k)
without_low x g k =
    let m = 2 ^ k in
    let low = mod_below x m (pow_pos k) in
    let both = bit_and x g in
    let left = bit_and (x % m) g in
    let left_low : left < m = omega (arith, low, and_le_l (x % m) g) in
    let same : both % m ≡ left =
    and_mod x g k ∙ ap (λ n. bit_and n (g % m)) (sym (low_once x k)) ∙ sym (and_mod (x % m) g k) ∙ small left k left_low in
    let high : both / m ≤ x / m = rw (and_shr x g k) (and_le_l (x / m) (g / m)) in
    let parts : both ≡ (both / m) * m + left = sym (shr_split both k) ∙ ap (λ n. (both / m) * m + n) same in
    let rest : x - both ≡ (x / m - both / m) * m + (x % m - left) =
    ap (λ n. n - both) (sym (shr_split x k)) ∙ ap (λ n. ((x / m) * m + x % m) - n) parts
    ∙ apart m (x / m) (x % m) (both / m) left high (and_le_l (x % m) g) in
    ap (λ n. n % m) rest ∙ mod_low (x / m - both / m) k (x % m - left) (omega (arith, low))

-- in 16 bits
clear_small : (x m : ℕ) → x < 2 ^ 16 → m < 2 ^ 16 → bit_and (without_bits m x) m ≡ 0
clear_small x m h i =
    let other = and-not 16 m x i h in
    let same : x - bit_and x m ≡ bit_and x (65535 - m) = omega (arith, other, and_comm x m, and_comm x (65535 - m)) in
    ap (λ n. bit_and n m) same ∙ and-not_self x 65535 m m refl (omega (arith, i)) refl

masked : (n m : ℕ) → m < 2 ^ 16 → bit_and n m ≡ bit_and (n % 2 ^ 16) m
masked n m h =
    sym (small (bit_and n m) 16 (omega (arith, h, and_le_r n m))) ∙ and_mod n m 16 ∙ ap (bit_and (n % 2 ^ 16)) (small m 16 h)

pub clear : (x m : ℕ) → m < 2 ^ 16 → is_clear m (without_bits m x) ≡ true
clear x m h =
    (Decides-eqb (bit_and (without_bits m x) m) 0).1
    (masked (without_bits m x) m h ∙ ap (λ n. bit_and n m) (without_low x m 16) ∙ clear_small (x % 2 ^ 16) m (mod_below x (2 ^ 16) (pow_pos 16)) h)
