-- Where the clauses of a section stand.
use Rattle.std.proofs.Common.{◌≡◌, ◌∙◌, ap, subst, refl, ℕ, ◌+◌, ◌*◌, ◌/◌, ◌<◌, ◌≤◌, ◌^◌, Bool, true, false, cond, nat_le, nat_eq, ◌&&◌, List, length, arith}
use Rattle.std.proofs.lemmas.Bool.Decides.{nat_tests}
use Rattle.body_codec.specs.Sections.{can_be_read, section_kind, section_end, is_fat_section, clause_size, clause_count}

pub clauses_fit : (size : ℕ) (fat : Bool) → size < 2 ^ 32 → 4 + size / cond fat 24 12 * cond fat 24 12 < 2 ^ 63
clauses_fit size true h = omega arith
clauses_fit size false h = omega arith

both_left : (a b : Bool) → a && b ≡ true → a ≡ true
both_left true b e = refl
both_left false b e = e

both_right : (a b : Bool) → a && b ≡ true → b ≡ true
both_right true b e = e
both_right false b e = cc

-- the three tests of a section that can be read
pub readable_header : (bytes : List ℕ) (at : ℕ) → can_be_read bytes at ≡ true → at + 4 ≤ length bytes
unfolding can_be_read
readable_header bytes at h =
    let a : nat_le (at + 4) (length bytes) ≡ true =
    both_left (nat_le (at + 4) (length bytes)) (nat_eq (section_kind bytes at) 1)
    (both_left (nat_le (at + 4) (length bytes) && nat_eq (section_kind bytes at) 1) (nat_le (section_end bytes at) (length bytes)) h) in
    grind (arith, nat_tests)

pub readable_end : (bytes : List ℕ) (at : ℕ) → can_be_read bytes at ≡ true → section_end bytes at ≤ length bytes
unfolding can_be_read
readable_end bytes at h =
    let a : nat_le (section_end bytes at) (length bytes) ≡ true =
    both_right (nat_le (at + 4) (length bytes) && nat_eq (section_kind bytes at) 1) (nat_le (section_end bytes at) (length bytes)) h in
    grind (arith, nat_tests)

pub clauses_inside : (bytes : List ℕ) (at : ℕ) → at + 4 + clause_count bytes at * clause_size bytes at ≤ section_end bytes at
unfolding section_end
clauses_inside bytes at = omega arith

pub after_header : (bytes : List ℕ) (at : ℕ) → at + 4 ≤ section_end bytes at
after_header bytes at = let i = clauses_inside bytes at in omega arith

pub fat_room : (bytes : List ℕ) (at k : ℕ) → can_be_read bytes at ≡ true → is_fat_section bytes at ≡ true → k < clause_count bytes at → at + 4 + 24 * k + 24 ≤ length bytes
unfolding clause_size
fat_room bytes at k r f h =
    let e = readable_end bytes at r in
    let i = clauses_inside bytes at in
    let size : cond (is_fat_section bytes at) 24 12 ≡ 24 = ap (λ b. cond b 24 12) f in
    let j : at + 4 + clause_count bytes at * 24 ≤ section_end bytes at = subst (λ n. at + 4 + clause_count bytes at * n ≤ section_end bytes at) size i in
    omega arith

pub small_room : (bytes : List ℕ) (at k : ℕ) → can_be_read bytes at ≡ true → is_fat_section bytes at ≡ false → k < clause_count bytes at → at + 4 + 12 * k + 12 ≤ length bytes
unfolding clause_size
small_room bytes at k r f h =
    let e = readable_end bytes at r in
    let i = clauses_inside bytes at in
    let size : cond (is_fat_section bytes at) 24 12 ≡ 12 = ap (λ b. cond b 24 12) f in
    let j : at + 4 + clause_count bytes at * 12 ≤ section_end bytes at = subst (λ n. at + 4 + clause_count bytes at * n ≤ section_end bytes at) size i in
    omega arith

pub clauses_fit_by : (size a b : ℕ) (fat : Bool) → size < 2 ^ 32 → a ≡ cond fat 24 12 → b ≡ cond fat 24 12 → 4 + size / a * b < 2 ^ 63
clauses_fit_by size a b fat h e f =
    let g = clauses_fit size fat h in
    let s : 4 + size / a * b ≡ 4 + size / cond fat 24 12 * cond fat 24 12 = ap (λ x. 4 + size / x * b) e ∙ ap (λ x. 4 + size / cond fat 24 12 * x) f in
    omega arith
