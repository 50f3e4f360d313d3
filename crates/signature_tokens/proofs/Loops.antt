-- Walking along one type after the other, as a loop does; and the first step of walking along a type.
use Rattle.std.proofs.Common.{◌≡◌, ◌≢◌, ℕ, zero, suc, ◌-◌, ◌+◌, ◌<◌, List, Option, Some, None, refl, sym, ◌∙◌, arith}
use Rattle.sig_codec.specs.Reading.{◌>>=◌, Step, byte_at, element_of}
use Rattle.signature_tokens.specs.Collecting.{Walk, behind_sentinel, types_at, parts_at, type_at}

pub types_go_on : (sub : Walk) (count i : ℕ) (front bytes next after : List ℕ) (total : Step (List ℕ)) → i < count → sub front (behind_sentinel bytes) ≡ Some (next, after)
    → types_at sub (count - i) front bytes ≡ total → types_at sub (count - (i + 1)) next after ≡ total
types_go_on sub count i front bytes next after total lt h so_far =
    let k : count - i ≡ suc (count - (i + 1)) = omega arith in
    let one : types_at sub (count - i) front bytes ≡ types_at sub (count - (i + 1)) next after = rw (k, h) refl in
    sym one ∙ so_far

-- no type where there is no depth
pub nothing_left : (depth : ℕ) (front bytes : List ℕ) → depth ≡ 0 → type_at depth front bytes ≡ None
unfolding type_at
nothing_left zero front bytes e = refl
nothing_left (suc depth) front bytes e = absurd cc

-- a type's element, and then its parts
pub first_step : (depth : ℕ) (front bytes : List ℕ) → depth ≢ 0
    → type_at depth front bytes ≡ (byte_at bytes >>= λ b. element_of b.0 >>= λ e. parts_at (type_at (depth - 1)) e front b.1)
unfolding type_at
first_step zero front bytes d = absurd (d refl)
first_step (suc depth) front bytes d =
    let a : suc depth - 1 ≡ depth = omega arith in
    rw a refl
