-- The perfect hash puts each word of the table at its place.
use Rattle.std.proofs.Common.{◌≡◌, ℕ, ◌+◌, ◌<◌, zero, suc, Bool, true, false, nat_eq, List, [], ◌∷◌, length, get_or, ap, sym, subst, ◌∙◌, refl, arith, zero-add}
use Rattle.std.specs.List.{Contains}
use Rattle.std.proofs.lemmas.List.{get_or_default}
use Rattle.std.proofs.lemmas.List.Elements.{Contains-get_or}
use Rattle.opcode_table.specs.declared.op.Op.{Op}
use Rattle.opcode_table.specs.declared.op.Op.TheVariants.{Nop}
use Rattle.opcode_table.specs.declared.mnemonic.TheConstants.{SHIFTS, SLOTS}
use Rattle.opcode_table.specs.Opcodes.{names}
use Rattle.opcode_table.specs.Lookup.{candidate}

abbrev and_then : Bool → Bool → Bool
and_then true b = b
and_then false b = false

first_holds : (a b : Bool) → and_then a b ≡ true → a ≡ true
first_holds true b h = refl
first_holds false b h = h

second_holds : (a b : Bool) → and_then a b ≡ true → b ≡ true
second_holds true b h = h
second_holds false b h = cc

-- the words from place `k` on have their places as candidates
abbrev placed_from : (List ℕ → ℕ) → ℕ → List (List ℕ × Op) → Bool
placed_from place k [] = true
placed_from place k (p ∷ ps) = and_then (nat_eq (place p.0) k) (placed_from place (suc k) ps)

nat_equal : (a b : ℕ) → nat_eq a b ≡ true → a ≡ b
nat_equal a b h = grind arith

placed_at : (place : List ℕ → ℕ) (ps : List (List ℕ × Op)) (k i : ℕ) (d : List ℕ × Op) → placed_from place k ps ≡ true →
    i < length ps → place (get_or ps i d).0 ≡ k + i
placed_at place [] k i d h lt = absurd (omega arith)
placed_at place (p ∷ ps) k zero d h lt =
    let e : k ≡ k + 0 = omega arith in nat_equal _ _ (first_holds _ _ h) ∙ e
placed_at place (p ∷ ps) k (suc i) d h lt =
    let e : suc k + i ≡ k + suc i = omega arith in
    let below : i < length ps = omega arith in
    placed_at place ps (suc k) i d (second_holds _ _ h) below ∙ e

pub names_len : length names ≡ 227
unfolding names
names_len = refl

all_placed : placed_from (candidate SHIFTS SLOTS) 0 names ≡ true
unfolding names
all_placed = refl

-- a word of the table stands at its candidate
pub stands_at : (w : List ℕ) (op : Op) → Contains names (w, op) →
    (candidate SHIFTS SLOTS w < 227) × (get_or names (candidate SHIFTS SLOTS w) ([], Nop) ≡ (w, op))
stands_at w op (k, lt, e) =
    let at : candidate SHIFTS SLOTS w ≡ k =
    ap (λ p. candidate SHIFTS SLOTS p.0) (sym e) ∙ placed_at (candidate SHIFTS SLOTS) names 0 k (w, op) all_placed lt ∙ zero-add k in
    let below : k < 227 = subst (λ n. k < n) names_len lt in
    (subst (λ n. n < 227) (sym at) below, ap (λ n. get_or names n ([], Nop)) at ∙ get_or_default names k ([], Nop) (w, op) lt ∙ e)

-- what stands at a place is among the names
pub stands_there : (k : ℕ) (w : List ℕ) (op : Op) → k < 227 → (get_or names k ([], Nop)).0 ≡ w → (get_or names k ([], Nop)).1 ≡ op →
    Contains names (w, op)
stands_there k w op lt a b =
    let below : k < length names = subst (λ n. k < n) (sym names_len) lt in
    let pair : get_or names k ([], Nop) ≡ (w, op) = ap (λ x. (x, (get_or names k ([], Nop)).1)) a ∙ ap (λ y. (w, y)) b in
    subst (λ p. Contains names p) pair (Contains-get_or names k ([], Nop) below)
