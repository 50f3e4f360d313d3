-- A table of opcodes by a byte holds at each place an opcode with that byte.
use Rattle.std.proofs.Common.{◌≡◌, ℕ, ◌+◌, zero, suc, Bool, true, false, nat_eq, List, [], ◌∷◌, get_or, Option, None, Some, IfSome, IsTrue, ap, sym, subst, ◌∙◌, refl, add-zero, arith, eqb→eq}
use Rattle.opcode_table.specs.declared.op.Op.{Op}
use Rattle.opcode_table.specs.Opcodes.{bytes_of}

abbrev and_then : Bool → Bool → Bool
and_then true b = b
and_then false b = false

abbrev same_byte : Option ℕ → Option ℕ → Bool
same_byte None None = true
same_byte None (Some y) = false
same_byte (Some x) None = false
same_byte (Some x) (Some y) = nat_eq x y

abbrev same_bytes : ℕ × Option ℕ → ℕ × Option ℕ → Bool
same_bytes p q = and_then (nat_eq p.0 q.0) (same_byte p.1 q.1)

-- each opcode from place `k` on has the bytes that `f` gives for its place
abbrev pub has_bytes : (ℕ → ℕ × Option ℕ) → ℕ → List (Option Op) → Bool
has_bytes f k [] = true
has_bytes f k (None ∷ xs) = has_bytes f (suc k) xs
has_bytes f k (Some op ∷ xs) = and_then (same_bytes (bytes_of op) (f k)) (has_bytes f (suc k) xs)

first_holds : (a b : Bool) → and_then a b ≡ true → a ≡ true
first_holds true b h = refl
first_holds false b h = h

second_holds : (a b : Bool) → and_then a b ≡ true → b ≡ true
second_holds true b h = h
second_holds false b h = cc

byte_equal : (x y : Option ℕ) → same_byte x y ≡ true → x ≡ y
byte_equal None None h = refl
byte_equal None (Some y) h = cc
byte_equal (Some x) None h = cc
byte_equal (Some x) (Some y) h = grind arith

bytes_equal : (p q : ℕ × Option ℕ) → same_bytes p q ≡ true → p ≡ q
bytes_equal p q h =
    let one : p.0 ≡ q.0 = (let t : nat_eq p.0 q.0 ≡ true = first_holds _ _ h in grind arith) in
    let two : p.1 ≡ q.1 = byte_equal p.1 q.1 (second_holds _ _ h) in
    ap (λ x. (x, p.1)) one ∙ ap (λ y. (q.0, y)) two

pub at_its_place : (f : ℕ → ℕ × Option ℕ) (xs : List (Option Op)) (k i : ℕ) → has_bytes f k xs ≡ true →
    IfSome (get_or xs i None) (λ op. bytes_of op ≡ f (k + i))
at_its_place f [] k i h = tt
at_its_place f (None ∷ xs) k zero h = tt
at_its_place f (None ∷ xs) k (suc i) h =
    let e : suc k + i ≡ k + suc i = omega arith in
    subst (λ n. IfSome (get_or xs i None) (λ op. bytes_of op ≡ f n)) e (at_its_place f xs (suc k) i h)
at_its_place f (Some op ∷ xs) k zero h =
    let e : k ≡ k + 0 = omega arith in
    bytes_equal (bytes_of op) (f k) (first_holds _ _ h) ∙ ap f e
at_its_place f (Some op ∷ xs) k (suc i) h =
    let e : suc k + i ≡ k + suc i = omega arith in
    subst (λ n. IfSome (get_or xs i None) (λ op. bytes_of op ≡ f n)) e (at_its_place f xs (suc k) i (second_holds _ _ h))

-- at a place whose bytes are `key` an opcode with `key`
pub found_at : (f : ℕ → ℕ × Option ℕ) (xs : List (Option Op)) (i : ℕ) → has_bytes f 0 xs ≡ true →
    IfSome (get_or xs i None) (λ op. bytes_of op ≡ f i)
found_at f xs i h =
    let e : 0 + i ≡ i = omega arith in
    subst (λ n. IfSome (get_or xs i None) (λ op. bytes_of op ≡ f n)) e (at_its_place f xs 0 i h)
