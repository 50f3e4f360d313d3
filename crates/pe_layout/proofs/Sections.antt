-- One more section header.
use Rattle.std.proofs.Common.{◌≡◌, ℕ, suc, ◌+◌, ◌-◌, ◌*◌, ◌<◌, List, cond, Some, refl, arith}
use Rattle.std.specs.List.{find}
use Rattle.pe_layout.specs.FileMap.{section_at, sections_from, holds}

pub find_more : (rva : ℕ) (image : List ℕ) (place count k : ℕ) → k < count
    → find (holds rva) (sections_from image (place + 40 * k) (count - k)) ≡ cond (holds rva (section_at image (place + 40 * k))) (Some (section_at image (place + 40 * k))) (find (holds rva) (sections_from image (place + 40 * (k + 1)) (count - (k + 1))))
find_more rva image place count k h =
    let left : count - k ≡ suc (count - (k + 1)) = omega arith in
    let next : place + 40 * (k + 1) ≡ place + 40 * k + 40 = omega arith in
    rw (left, next) refl
