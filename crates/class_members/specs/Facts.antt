-- Offers as lists of numbers, so that different offers are written differently.
use Rattle.std.specs.Prelude.{◌≡◌, ◌⊎◌, ℕ, ◌<◌, List, [], ◌∷◌, ◌++◌, length, drop, Option, None, Some}
use Rattle.std.specs.List.{Contains}
use Rattle.type_terms.specs.declared.term.SigType.{SigType}
use Rattle.assembly_tree.specs.declared.members.Method.{Method}
use Rattle.sig_pool.specs.declared.node.Node.{Node}
use Rattle.sig_pool.specs.Key.{flag, list_key}
use Rattle.sig_pool.specs.Pool.{Has, HasAll}
use Rattle.type_hierarchy.specs.Hierarchy.{Hierarchy}
use Rattle.class_members.specs.declared.wanting.Wanted.{Wanted}
use Rattle.class_members.specs.Offers.{Offer}
use Rattle.class_members.specs.Wants.{member_want, written_want, applied_want}

-- ---- lists

-- `new` has the lists of `old` and this one
pub record IsNoted (old new : List (List ℕ)) (fact : List ℕ) : Type 0 where
  pub kept : (k : List ℕ) → Contains old k → Contains new k
  pub has : Contains new fact
  pub only : (k : List ℕ) → Contains new k → Contains old k ⊎ (k ≡ fact)

-- a number that may be there, as two
abbrev pub optional_key : Option ℕ → List ℕ
optional_key None = 0 ∷ 0 ∷ []
optional_key (Some n) = 1 ∷ n ∷ []

-- an offer with ids in place of its types
abbrev pub offer_key : Offer → Option ℕ → ℕ → List ℕ → List ℕ
offer_key x owner ret params =
    flag x.put ∷ (optional_key owner ++ (list_key x.name ++ (flag x.sig.has_this ∷ flag x.sig.explicit_this ∷ flag x.sig.vararg ∷ x.sig.generic
    ∷ (optional_key x.sig.sentinel ++ (ret ∷ params)))))

abbrev pub HasOwner : List Node → Option ℕ → Option SigType → Type 0
HasOwner ns None None = Unit {0}
HasOwner ns (Some id) (Some t) = Has ns id t
HasOwner ns None (Some t) = ⊥
HasOwner ns (Some id) None = ⊥

pub record IsKeyOf (ns : List Node) (x : Offer) (key : List ℕ) : Type 0 where
  pub owner : Option ℕ
  pub ret : ℕ
  pub params : List ℕ
  pub owned : HasOwner ns owner x.owner
  pub returned : Has ns ret x.sig.ret
  pub taken : HasAll ns params x.sig.params
  pub is : key ≡ offer_key x owner ret params

-- ---- facts

-- the list says of the type with that id that it offers `x`
pub record IsFact (ns : List Node) (at : ℕ) (x : Offer) (fact : List ℕ) : Type 0 where
  pub key : List ℕ
  pub of : IsKeyOf ns x key
  pub is : fact ≡ at ∷ key

-- it is among the facts that the type offers `x`
pub record Holds (ns : List Node) (facts : List (List ℕ)) (t : SigType) (x : Offer) : Type 0 where
  pub id : ℕ
  pub has : Has ns id t
  pub fact : List ℕ
  pub is : IsFact ns id x fact
  pub among : Contains facts fact

pub record IsOneOf (ns : List Node) (at : ℕ) (xs : List Offer) (fact : List ℕ) : Type 0 where
  pub offer : Offer
  pub among : Contains xs offer
  pub is : IsFact ns at offer fact

-- `new` has the facts of `old` and that the type with that id offers each of `xs`
pub record Adds (ns : List Node) (at : ℕ) (xs : List Offer) (old new : List (List ℕ)) : Type 0 where
  pub kept : (k : List ℕ) → Contains old k → Contains new k
  pub has : (x : Offer) → Contains xs x → (fact : List ℕ) × IsFact ns at x fact × Contains new fact
  pub only : (k : List ℕ) → Contains new k → Contains old k ⊎ IsOneOf ns at xs k

-- ---- what is wanted

-- the keys of what fills a slot, each behind a number that gives way to the id of a type
pub record IsWanted (ns : List Node) (w : Hierarchy) (face : SigType) (slot : Method) (x : Wanted) : Type 0 where
  pub member : IsKeyOf ns (member_want w face slot) (drop 1 x.member)
  pub written : IsKeyOf ns (written_want w face slot) (drop 1 x.written)
  pub applied : IsKeyOf ns (applied_want w face slot) (drop 1 x.applied)

abbrev pub HasRoom : Wanted → Type 0
HasRoom x = (0 < length x.member) × (0 < length x.written) × (0 < length x.applied)

-- it is among the facts that the type with that id offers one of these
abbrev pub IsFound : List (List ℕ) → ℕ → Wanted → Type 0
IsFound facts at x = Contains facts (at ∷ drop 1 x.member) ⊎ (Contains facts (at ∷ drop 1 x.written) ⊎ Contains facts (at ∷ drop 1 x.applied))

-- the same keys
pub record IsSame (x y : Wanted) : Type 0 where
  pub member : drop 1 y.member ≡ drop 1 x.member
  pub written : drop 1 y.written ≡ drop 1 x.written
  pub applied : drop 1 y.applied ≡ drop 1 x.applied
  pub room : HasRoom y
