-- Walking along one after the other, as a loop does; and the first step of walking along a type.
use Rattle.std.proofs.Common.{◌≡◌, ◌≢◌, ℕ, zero, suc, ◌-◌, ◌+◌, ◌<◌, cond, nat_eq, false, List, Option, Some, None, refl, sym, ◌∙◌, arith}
use Rattle.sig_codec.specs.Reading.{◌>>=◌, byte_at, element_of, is_at_sentinel}
use Rattle.signature_equality.specs.Walking.{Both, Canon, Walk, same_each, same_types, same_parts, same_type}

pub each_goes_on : (walk : Walk) (count i : ℕ) (at next : Both) (total : Option Both) → i < count → walk at ≡ Some next
    → same_each walk (count - i) at ≡ total → same_each walk (count - (i + 1)) next ≡ total
each_goes_on walk count i at next total lt h so_far =
    let k : count - i ≡ suc (count - (i + 1)) = omega arith in
    let one : same_each walk (count - i) at ≡ same_each walk (count - (i + 1)) next = rw (k, h) refl in
    sym one ∙ so_far

pub types_go_on : (walk : Walk) (count i : ℕ) (at next : Both) (total : Option (ℕ × List ℕ × List ℕ)) → i < count → is_at_sentinel at.0 ≡ false → is_at_sentinel at.1 ≡ false
    → walk at ≡ Some next → same_types walk (count - i) at ≡ total → same_types walk (count - (i + 1)) next ≡ total
types_go_on walk count i at next total lt a b h so_far =
    let k : count - i ≡ suc (count - (i + 1)) = omega arith in
    let one : same_types walk (count - i) at ≡ same_types walk (count - (i + 1)) next = rw (k, a, b, h) refl in
    sym one ∙ so_far

-- no type where there is no depth
pub nothing_left : (canon : Canon) (depth : ℕ) (at : Both) → depth ≡ 0 → same_type canon depth at ≡ None
unfolding same_type
nothing_left canon zero at e = refl
nothing_left canon (suc depth) at e = absurd cc

-- a byte of both, and then its parts
pub first_step : (canon : Canon) (depth : ℕ) (at : Both) → depth ≢ 0
    → same_type canon depth at ≡ (byte_at at.0 >>= λ x. byte_at at.1 >>= λ y. cond (nat_eq x.0 y.0) (element_of x.0 >>= λ e. same_parts canon (same_type canon (depth - 1)) e (x.1, y.1)) None)
unfolding same_type
first_step canon zero at d = absurd (d refl)
first_step canon (suc depth) at d =
    let a : suc depth - 1 ≡ depth = omega arith in
    rw a refl
