-- Members that are the same are equal, and where one is found.
use Rattle.std.proofs.Common.{◌≡◌, ℕ, zero, suc, List, [], ◌∷◌, Some, refl, ap, sym, ◌∙◌}
use Rattle.std.specs.Prelude.{Bool, true, false, ◌&&◌, ◌||◌, bytes_eq, slice_get}
use Rattle.std.specs.List.{list_any}
use Rattle.std.specs.Cmp.{IsTotalOrder}
use Rattle.std.proofs.lemmas.Option.{same_Some}
use Rattle.std.proofs.lemmas.Slice.Eq.{bytes_eq-Decides}
use Rattle.type_terms.specs.Order.{term_order}
use Rattle.type_terms.specs.Same.{is_same_signature}
use Rattle.type_terms.proofs.SameLaws.{signature_itself, signature_same}
use Rattle.source_nodes.proofs.WrittenNames.{both_true}
use Rattle.check_members.specs.SameMembers.{is_member, is_same_member}
use Rattle.check_members.specs.declared.member_sets.Member.{Member}

both : (a b : Bool) → a ≡ true → b ≡ true → (a && b) ≡ true
both true b h k = k
both false b h k = absurd cc

-- ---- members

pub member_same : (m n : Member) → is_same_member m n ≡ true → m ≡ n
member_same m n e =
    let b = both_true (bytes_eq m.name n.name) (is_same_signature m.sig n.sig) e in
    let name = (bytes_eq-Decides m.name n.name).0 b.0 in
    let sig = signature_same m.sig n.sig b.1 in
    λ k. record { name = name k; sig = sig k }

pub member_itself : IsTotalOrder term_order → (m : Member) → is_same_member m m ≡ true
member_itself total m = both (bytes_eq m.name m.name) (is_same_signature m.sig m.sig) ((bytes_eq-Decides m.name m.name).1 refl) (signature_itself m.sig)

pub other_member : IsTotalOrder term_order → (m n : Member) → is_same_member m n ≡ false → n ≡ m → ⊥
other_member total m n e same = let own : is_same_member m n ≡ true = ap (is_same_member m) same ∙ member_itself total m in absurd cc

-- ---- where one is found

pub found_at : (ms : List Member) (m n : Member) (k : ℕ) → slice_get ms k ≡ Some n → is_same_member m n ≡ true → true ≡ is_member ms m
found_at [] m n k at same = absurd cc
found_at (x ∷ ms) m n zero at same =
    let here : is_same_member m x ≡ true = ap (is_same_member m) (same_Some x n at) ∙ same in
    sym (ap (λ b. b || list_any (is_same_member m) ms) here)
found_at (x ∷ ms) m n (suc k) at same = later (is_same_member m x) (found_at ms m n k at same)
  where
    later : (b : Bool) → true ≡ is_member ms m → true ≡ (b || list_any (is_same_member m) ms)
    later true h = refl
    later false h = h

pub found_nowhere : (ms : List Member) (m : Member) → ((k : ℕ) → slice_get ms k ≡ Some m → ⊥) → false ≡ is_member ms m
found_nowhere [] m none = refl
found_nowhere (x ∷ ms) m none = go (is_same_member m x) refl (found_nowhere ms m (λ k at. none (suc k) at))
  where
    go : (b : Bool) → is_same_member m x ≡ b → false ≡ is_member ms m → false ≡ (b || list_any (is_same_member m) ms)
    go true same h = absurd (none 0 (ap Some (sym (member_same m x same))))
    go false same h = h
