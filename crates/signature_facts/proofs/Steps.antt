-- The first step of scanning a type.
use Rattle.std.proofs.Common.{◌≡◌, ◌≢◌, ℕ, zero, suc, ◌-◌, ◌⊎◌, inl, inr, List, Option, None, refl, arith}
use Rattle.sig_codec.specs.Reading.{◌>>=◌, byte_at, element_of}
use Rattle.signature_facts.specs.Scanning.{OwnersFacts, parts_at, type_at}

-- no type where there is no depth or no node left
pub nothing_left : (owners : OwnersFacts) (depth : ℕ) (bytes : List ℕ) (nodes : ℕ) → (depth ≡ 0) ⊎ ((depth ≡ 0 → ⊥) × (nodes ≡ 0)) → type_at owners depth bytes nodes ≡ None
unfolding type_at
nothing_left owners zero bytes nodes h = refl
nothing_left owners (suc depth) bytes zero h = refl
nothing_left owners (suc depth) bytes (suc nodes) (inl e) = absurd cc
nothing_left owners (suc depth) bytes (suc nodes) (inr e) = absurd (grind arith)

-- a type's element, and then its parts
pub first_step : (owners : OwnersFacts) (depth : ℕ) (bytes : List ℕ) (nodes : ℕ) → depth ≢ 0 → nodes ≢ 0
    → type_at owners depth bytes nodes ≡ (byte_at bytes >>= λ b. element_of b.0 >>= λ e. parts_at owners (type_at owners (depth - 1)) (depth - 1) e b.1 (nodes - 1))
unfolding type_at
first_step owners zero bytes nodes d n = absurd (d refl)
first_step owners (suc depth) bytes zero d n = absurd (n refl)
first_step owners (suc depth) bytes (suc nodes) d n =
    let a : suc depth - 1 ≡ depth = omega arith in
    let b : suc nodes - 1 ≡ nodes = omega arith in
    rw (a, b) refl
