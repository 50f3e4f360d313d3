-- The first type that is its own ancestor, by steps between places.
use Rattle.std.proofs.Common.{◌≡◌, inl, inr, refl, sym, ◌∙◌, ap, subst, ℕ, zero, suc, ◌+◌, ◌<◌, ◌≤◌, arith, List, [], ◌∷◌, length, map, Option, None, Some, true, false, if◌then◌else◌}
use Rattle.std.specs.Prelude.{slice_get}
use Rattle.std.specs.List.{Contains}
use Rattle.std.proofs.lemmas.Bool.{cases_Bool}
use Rattle.std.proofs.lemmas.List.{length-map}
use Rattle.type_terms.specs.declared.name.TypeName.{TypeName}
use Rattle.type_terms.specs.declared.term.SigType.{SigType}
use Rattle.type_hierarchy.specs.Ancestors.{Declared, all_declared, declared_names, world_name, IsOwnAncestor, IsFirstCyclic, IsAcyclic}
use Rattle.type_hierarchy.specs.Declarations.{hierarchy_of}
use Rattle.type_hierarchy.specs.Distinct.{AreOnce}
use Rattle.type_hierarchy.specs.Hierarchy.{Declaration}
use Rattle.type_tables.specs.Landings.{AreSteps, IsListed, LeapsTo}
use Rattle.type_hierarchy.specs.Laws.{IsGrounded}
use Rattle.type_hierarchy.specs.Names.{same_name}
use Rattle.type_hierarchy.specs.Scopes.{Sources}
use Rattle.type_tables.specs.Walks.{IsFirstBack}
use Rattle.assignability.proofs.DeclaredNames.{all_length, first_of, has_each, once_all, once_none}
use Rattle.assignability.proofs.LowHeights.{low_bound, low_grounded, low_height}
use Rattle.type_tables.proofs.LandingLemmas.{some_none, some_same}
use Rattle.assignability.proofs.LeadLemmas.{names_lead, places_lead}
use Rattle.assignability.proofs.Plain.{are_plain}
use Rattle.type_hierarchy.proofs.TableLemmas.{name_decides}

-- ---- declared types and their names

named_at : {X Y : Type 0} (f : X → Y) (xs : List X) (k : ℕ) (y : Y) → slice_get (map f xs) k ≡ Some y → (x : X) × (slice_get xs k ≡ Some x) × (f x ≡ y)
named_at f [] k y e = absurd (let h : ⊥ = cc in h)
named_at f (x ∷ xs) zero y e = (x, refl, some_same {o = Some (f x)} refl e)
named_at f (x ∷ xs) (suc k) y e = named_at f xs k y e

names_at : {X Y : Type 0} (f : X → Y) (xs : List X) (k : ℕ) (x : X) → slice_get xs k ≡ Some x → slice_get (map f xs) k ≡ Some (f x)
names_at f [] k x e = absurd (let h : ⊥ = cc in h)
names_at f (y ∷ xs) zero x e = ap (λ (z : _). Some (f z)) (some_same {o = Some y} refl e)
names_at f (y ∷ xs) (suc k) x e = names_at f xs k x e

contained_at : {X : Type 0} (xs : List X) (x : X) → Contains xs x → (k : ℕ) × (slice_get xs k ≡ Some x)
contained_at [] x (k, h, e) = absurd (omega arith)
contained_at (y ∷ xs) x (zero, h, e) = (0, ap Some e)
contained_at (y ∷ xs) x (suc k, h, e) = let j = contained_at xs x (k, omega arith, e) in (suc j.0, j.1)

pub declared_once : (s : Sources) → AreOnce (declared_names s)
unfolding declared_names
declared_once s = once_all [] (map (world_name s) (all_declared s)) once_none

-- each declared type's name has a place
declared_place : (s : Sources) (d : Declared) (q : ℕ) → slice_get (all_declared s) q ≡ Some d → (j : ℕ) × (slice_get (declared_names s) j ≡ Some (world_name s d))
unfolding declared_names
declared_place s d q e = has_each [] (map (world_name s) (all_declared s)) q (world_name s d) (names_at (world_name s) (all_declared s) q d e)

-- the first declared type with the name at a place
record IsFirstNamed (s : Sources) (k : ℕ) (n : TypeName) : Type 0 where
  d : Declared
  place : ℕ
  is : slice_get (all_declared s) place ≡ Some d
  named : world_name s d ≡ n
  before : (q : ℕ) (e : Declared) → q < place → slice_get (all_declared s) q ≡ Some e → (j : ℕ) × (j < k) × (slice_get (declared_names s) j ≡ Some (world_name s e))

first_named : (s : Sources) (k : ℕ) (n : TypeName) → slice_get (declared_names s) k ≡ Some n → IsFirstNamed s k n
unfolding declared_names
first_named s k n e =
    let f = first_of (map (world_name s) (all_declared s)) k n e in
    let at = named_at (world_name s) (all_declared s) f.place n f.is in
    record {
      d = at.0;
      place = f.place;
      is = at.1;
      named = at.2;
      before = λ q x low g. f.before q (world_name s x) low (names_at (world_name s) (all_declared s) q x g);
    }

-- ---- the first that is its own ancestor

-- the first such type has that name
pub record IsCyclicNamed (s : Sources) (n : TypeName) : Type 0 where
  pub type : Declared
  pub first : IsFirstCyclic s type
  pub named : world_name s type ≡ n

module _ (s : Sources) (steps : List (List ℕ)) (are : AreSteps (hierarchy_of s) (declared_names s) steps) (listed : IsListed (hierarchy_of s) (declared_names s)) where
  pub first_is_cyclic : (k : ℕ) (n : TypeName) → IsFirstBack steps (Some k) → slice_get (declared_names s) k ≡ Some n → IsCyclicNamed s n
  first_is_cyclic k n back at =
      let w = hierarchy_of s in
      let names = declared_names s in
      let f = first_named s k n at in
      record {
        type = f.d;
        first = record {
          place = f.place;
          is = f.is;
          cyclic = subst (λ (x : TypeName). IsOwnAncestor w x) (sym f.named) (places_lead w names steps are k k n n at at back.1);
          first = λ q e low g own.
              let j = f.before q e low g in
              back.2 j.0 j.1 (names_lead w names steps are listed j.0 j.0 (world_name s e) (world_name s e) j.2 j.2 own);
        };
        named = f.named;
      }

  pub none_is_cyclic : IsFirstBack steps None → IsAcyclic s
  none_is_cyclic back = λ d c own.
      let w = hierarchy_of s in
      let names = declared_names s in
      let q = contained_at (all_declared s) d c in
      let j = declared_place s d q.0 q.1 in
      back.0 j.0 (names_lead w names steps are listed j.0 j.0 (world_name s d) (world_name s d) j.1 j.1 own)

-- ---- heights

abbrev later : Option ℕ → Option ℕ
later None = None
later (Some k) = Some (suc k)

-- the first place of a name
place_in : List TypeName → TypeName → Option ℕ
place_in [] name = None
place_in (n ∷ names) name = if same_name name n then Some 0 else later (place_in names name)

later_some : (o : Option ℕ) (k : ℕ) → later o ≡ Some k → (j : ℕ) × (o ≡ Some j) × (k ≡ suc j)
later_some None k e = absurd (let h : ⊥ = cc in h)
later_some (Some j) k e = (j, refl, some_same e refl)

place_sound : (names : List TypeName) (name : TypeName) (k : ℕ) → place_in names name ≡ Some k → slice_get names k ≡ Some name
unfolding place_in
place_sound [] name k e = absurd (let h : ⊥ = cc in h)
place_sound (n ∷ names) name k e = elim (cases_Bool (same_name name n)) [
  | inl this ↦
      let zero_is : Some 0 ≡ Some k = sym (ap (λ b. if b then Some 0 else later (place_in names name)) this) ∙ e in
      let at : 0 ≡ k = some_same {o = Some 0} refl zero_is in
      subst (λ (j : ℕ). slice_get (n ∷ names) j ≡ Some name) at (ap Some (sym ((name_decides name n).0 this)))
  | inr other ↦
      let rest : later (place_in names name) ≡ Some k = sym (ap (λ b. if b then Some 0 else later (place_in names name)) other) ∙ e in
      let j = later_some (place_in names name) k rest in
      subst (λ (i : ℕ). slice_get (n ∷ names) i ≡ Some name) (sym j.2) (place_sound names name j.0 j.1)
]

later_none : (o : Option ℕ) → later o ≡ None → o ≡ None
later_none None e = refl
later_none (Some k) e = absurd (let h : ⊥ = cc in h)

there_not : (n name : TypeName) (names : List TypeName) → ((k : ℕ) → slice_get names k ≡ Some name → ⊥) → same_name name n ≡ false → (k : ℕ) → slice_get (n ∷ names) k ≡ Some name → ⊥
there_not n name names never f zero at = let same : same_name name n ≡ true = (name_decides name n).1 (sym (some_same {o = Some n} refl at)) in let h : ⊥ = cc in h
there_not n name names never f (suc j) at = never j at

place_whole : (names : List TypeName) (name : TypeName) → place_in names name ≡ None → (k : ℕ) → slice_get names k ≡ Some name → ⊥
unfolding place_in
place_whole [] name e = λ k at. let h : ⊥ = cc in h
place_whole (n ∷ names) name e = elim (cases_Bool (same_name name n)) [
  | inl this ↦ absurd (some_none {o = Some 0} refl (sym (ap (λ b. if b then Some 0 else later (place_in names name)) this) ∙ e))
  | inr other ↦
      let rest : later (place_in names name) ≡ None = sym (ap (λ b. if b then Some 0 else later (place_in names name)) other) ∙ e in
      there_not n name names (place_whole names name (later_none (place_in names name) rest)) other
]

declared_length : (s : Sources) → length (declared_names s) ≤ length (all_declared s)
unfolding declared_names
declared_length s =
    let most = all_length [] (map (world_name s) (all_declared s)) in
    let same = length-map (all_declared s) (world_name s) in
    omega (arith, same)

-- where no step leads back, ways up come to an end, and none is longer than there are declared types and four more
pub none_is_grounded : (s : Sources) (steps : List (List ℕ)) → AreSteps (hierarchy_of s) (declared_names s) steps → IsListed (hierarchy_of s) (declared_names s)
    → IsFirstBack steps None → (tall : SigType → ℕ) × IsGrounded (hierarchy_of s) tall × ((t : SigType) → tall t ≤ length (all_declared s) + 4)
none_is_grounded s steps are listed back =
    let w = hierarchy_of s in
    let names = declared_names s in
    let rank = back.1.0 in
    let whole = λ (name : TypeName) (d : Declaration) (e : w.declared name ≡ Some d) (p : place_in names name ≡ None). let at = listed.found name d e in place_whole names name p at.0 at.1 in
    let falls = λ (i j : ℕ) (leap : LeapsTo w names i j). back.1.1 i j (are.all i j leap) in
    let plain = are_plain s in (
      low_height (place_in names) rank w names plain listed (place_sound names) whole falls,
      low_grounded (place_in names) rank w names plain listed (place_sound names) whole falls,
      (λ t. let most = low_bound (place_in names) rank w names plain listed (place_sound names) whole falls t in let few = declared_length s in omega arith),
    )
