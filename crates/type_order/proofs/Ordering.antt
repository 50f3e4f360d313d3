-- The order of stack types is one, and its joins keep their laws.
use Rattle.std.proofs.Common.{◌≡◌, refl, sym, ap, ℕ, ◌<◌, ◌≤◌, arith, Some}
use Rattle.type_terms.specs.declared.term.SigType.{SigType}
use Rattle.type_hierarchy.specs.Hierarchy.{Hierarchy, parent, Chain}
use Rattle.type_hierarchy.specs.Stack.{Stack, null, ref, boxed, bad}
use Rattle.type_hierarchy.specs.Relations.{Assignable, same, null_ref, null_boxed, ref_up, boxed_parent, Below, equal, below_bad, null_below_ref, null_below_boxed, ref_chain, boxed_chain, IsJoin}
use Rattle.type_hierarchy.specs.Laws.{IsGrounded, IsOrder, JoinLaws}
use Rattle.type_hierarchy.proofs.Climbing.{chain_trans, chain_up, chain_height, next_step, Next, none, some}

-- ---- transitive

from_ref : (w : Hierarchy) {s t : SigType} → Chain w s t → {u : Stack} → Below w (ref t) u → Below w (ref s) u
from_ref w a equal = ref_chain a
from_ref w a below_bad = below_bad
from_ref w a (ref_chain b) = ref_chain (chain_trans w a b)

from_boxed : (w : Hierarchy) {s t p : SigType} → parent w s ≡ Some p → Chain w p t → {u : Stack} → Below w (ref t) u → Below w (boxed s) u
from_boxed w e a equal = boxed_chain e a
from_boxed w e a below_bad = below_bad
from_boxed w e a (ref_chain b) = boxed_chain e (chain_trans w a b)

null_from_ref : (w : Hierarchy) {t : SigType} {u : Stack} → Below w (ref t) u → Below w null u
null_from_ref w equal = null_below_ref
null_from_ref w below_bad = below_bad
null_from_ref w (ref_chain b) = null_below_ref

null_from_boxed : (w : Hierarchy) {t : SigType} {u : Stack} → Below w (boxed t) u → Below w null u
null_from_boxed w equal = null_below_boxed
null_from_boxed w below_bad = below_bad
null_from_boxed w (boxed_chain e b) = null_below_ref

above_bad : (w : Hierarchy) (s : Stack) {u : Stack} → Below w bad u → Below w s u
above_bad w s equal = below_bad
above_bad w s below_bad = below_bad

pub below_trans : (w : Hierarchy) {s t u : Stack} → Below w s t → Below w t u → Below w s u
below_trans w equal b = b
below_trans w {s = s} below_bad b = above_bad w s b
below_trans w null_below_ref b = null_from_ref w b
below_trans w null_below_boxed b = null_from_boxed w b
below_trans w (ref_chain a) b = from_ref w a b
below_trans w (boxed_chain e a) b = from_boxed w e a b

-- ---- antisymmetric

-- a chain that isn't at its end goes up
chain_same : (w : Hierarchy) (height : SigType → ℕ) (g : IsGrounded w height) {s t : SigType} → Chain w s t → Chain w t s → s ≡ t
chain_same w height g {s = s} {t = t} a b = go (next_step w a)
  where
    go : Next w s t → s ≡ t
    go (none h) = sym h
    go (some {p = p} e c) =
        let lower : height p < height s = g.lower s p e in
        let far : height t ≤ height p = chain_height w height g c in
        let back : height s ≤ height t = chain_height w height g b in
        absurd (omega arith)

ref_back : (w : Hierarchy) (height : SigType → ℕ) (g : IsGrounded w height) {s t : SigType} → Chain w s t → Below w (ref t) (ref s) → ref s ≡ ref t
ref_back w height g a equal = refl
ref_back w height g a (ref_chain b) = ap ref (chain_same w height g a b)

no_bad : (w : Hierarchy) (s : Stack) → Below w bad s → s ≡ bad
no_bad w s equal = refl
no_bad w s below_bad = refl

pub below_antisymmetric : (w : Hierarchy) → (height : SigType → ℕ) → IsGrounded w height → {s t : Stack} → Below w s t → Below w t s → s ≡ t
below_antisymmetric w height g equal b = refl
below_antisymmetric w height g {s = s} below_bad b = no_bad w s b
below_antisymmetric w height g null_below_ref b = elim b [ ]
below_antisymmetric w height g null_below_boxed b = elim b [ ]
below_antisymmetric w height g (ref_chain a) b = ref_back w height g a b
below_antisymmetric w height g (boxed_chain e a) b = elim b [ ]

pub order : (w : Hierarchy) → (height : SigType → ℕ) → IsGrounded w height → IsOrder w
order w height g = record {
  reflexive = λ s. equal;
  transitive = λ s t u a b. below_trans w a b;
  antisymmetric = λ s t a b. below_antisymmetric w height g a b;
}

-- ---- joins

pub below_assignable : (w : Hierarchy) {s t : Stack} → Below w s t → (t ≡ bad → ⊥) → Assignable w s t
below_assignable w equal h = same h
below_assignable w below_bad h = absurd (h refl)
below_assignable w null_below_ref h = null_ref
below_assignable w null_below_boxed h = null_boxed
below_assignable w (ref_chain a) h = ref_up (chain_up w a)
below_assignable w (boxed_chain e a) h = boxed_parent e (chain_up w a)

unique : (w : Hierarchy) → (height : SigType → ℕ) → IsGrounded w height → (s t j k : Stack) → IsJoin w s t j → IsJoin w s t k → j ≡ k
unique w height g s t j k a b = below_antisymmetric w height g (a.least k b.left b.right) (b.least j a.left a.right)

associative : (w : Hierarchy) (s t u j k l : Stack) → IsJoin w s t j → IsJoin w t u k → IsJoin w j u l → IsJoin w s k l
associative w s t u j k l a b c = record {
  left = below_trans w a.left c.left;
  right = b.least l (below_trans w a.right c.left) c.right;
  least = λ x p q. c.least x (a.least x p (below_trans w b.left q)) (below_trans w b.right q);
}

pub joins : (w : Hierarchy) → (height : SigType → ℕ) → IsGrounded w height → JoinLaws w
joins w height g = record {
  unique = unique w height g;
  commutative = λ s t j a. record { left = a.right; right = a.left; least = λ u p q. a.least u q p };
  associative = associative w;
  idempotent = λ s. record { left = equal; right = equal; least = λ u p q. p };
  assignable = λ s t j a h. below_assignable w a.left h;
}
