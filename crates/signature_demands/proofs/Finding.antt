-- The first row whose facts are out of bounds is the first that fails the demand.
use Rattle.std.proofs.Common.{◌≡◌, sym, subst, refl, ℕ, ◌^◌, ◌≤◌, List, length, Option, Some, None, arith}
use Rattle.std.specs.Prelude.{◌↔◌, IfOk, IfSome, IfNone, MatchOption, Result, Ok, Err}
use Rattle.type_terms.specs.declared.term.Owner.{Owner}
use Rattle.body_codec.specs.Names.{NameMap}
use Rattle.demand_search.specs.Search.{IsFirstBad, AllMeet}
use Rattle.image_model.specs.declared.place.Place.TheVariants.{Row}
use Rattle.image_model.specs.Faults.{indexes, entries, manifest, runs, order, scopes, signatures, distinct, values, header, instructions, clauses, tokens, attributes, bases, accessors, HoldBefore, NamedFor, HasTables, IsImageFault, in_row}
use Rattle.image_model.specs.Namings.{AreNamings}
use Rattle.image_model.specs.Structure.{HasScopes}
use Rattle.image_model.specs.Terms.{HasSignatures}
use Rattle.image_namings.specs.Laws.{NamingExists}
use Rattle.image_namings.proofs.Standing.{stands}
use Rattle.row_demands.specs.Structured.{MeetStructure}
use Rattle.row_demands.proofs.Faulted.{no_names}
use Rattle.signature_bounds.specs.Bounded.{HasBounded}
use Rattle.signature_bounds.proofs.Bounding.{bounds_are}
use Rattle.signature_facts.specs.Facts.{Naming}
use Rattle.signature_facts.specs.Owners.{AreFacts}
use Rattle.signature_facts.specs.Scanning.{OwnersFacts}
use Rattle.spec_facts.proofs.Owned.{bounded}
use Rattle.spec_facts.specs.SpecMap.{AreNameFacts}
use Rattle.signature_demands.specs.Named.{nameless, names_told, AreSigned}
use Rattle.signature_demands.proofs.Names.{names_are}

-- what was found by a demand that means another
pub found_as : (A B : ℕ → ℕ → Type 0) → ((t r : ℕ) → A t r ↔ B t r) → (o : Option (ℕ × ℕ)) → MatchOption o (AllMeet A) (λ a. IsFirstBad A a.0 a.1) → MatchOption o (AllMeet B) (λ a. IsFirstBad B a.0 a.1)
found_as A B iff None h = λ t r. (iff t r).0 (h t r)
found_as A B iff (Some a) h = record { bad = λ b. h.bad ((iff a.0 a.1).1 b); first = λ t r e. (iff t r).0 (h.first t r e) }

pub all_as : {E : Type 0} (A : ℕ → ℕ → Type 0) (B : NameMap → ℕ → ℕ → Type 0) (Of : NameMap → Type 0) → ((names : NameMap) → Of names → (t r : ℕ) → A t r ↔ B names t r) → (r : Result (Option (ℕ × ℕ)) E)
    → IfOk r (λ o. MatchOption o (AllMeet A) (λ a. IsFirstBad A a.0 a.1)) → IfOk r (λ o. (names : NameMap) → Of names → MatchOption o (AllMeet (B names)) (λ a. IsFirstBad (B names) a.0 a.1))
all_as A B Of iff (Ok o) h = λ names of. found_as A (B names) (iff names of) o h
all_as A B Of iff (Err e) h = tt

-- what was found of an image and of what is told of its tokens, seen otherwise
pub seen_as : (image other : List ℕ) (facts of : OwnersFacts) → other ≡ image → of ≡ facts → (o : Option (ℕ × ℕ)) → IfSome o (λ a. IsFirstBad (HasBounded other of) a.0 a.1) → IfNone o (AllMeet (HasBounded other of))
    → MatchOption o (AllMeet (HasBounded image facts)) (λ a. IsFirstBad (HasBounded image facts) a.0 a.1)
seen_as image other facts of e f None some none = subst (λ (x : List ℕ). AllMeet (HasBounded x facts)) e (subst (λ (y : OwnersFacts). AllMeet (HasBounded other y)) f none)
seen_as image other facts of e f (Some a) some none = subst (λ (x : List ℕ). IsFirstBad (HasBounded x facts) a.0 a.1) e (subst (λ (y : OwnersFacts). IsFirstBad (HasBounded other y) a.0 a.1) f some)

pub at_some : {X : Type 0} (P : Type 0) (Q : X → Type 0) (o : Option X) (x : X) → o ≡ Some x → MatchOption o P Q → Q x
at_some P Q o x e h = subst (λ o. MatchOption o P Q) e h

pub at_none : {X : Type 0} (P : Type 0) (Q : X → Type 0) (o : Option X) → o ≡ None → MatchOption o P Q → P
at_none P Q o e h = subst (λ o. MatchOption o P Q) e h

-- the demands before hold, whatever tokens name
pub before : (image : List ℕ) (any : NameMap) → MeetStructure image → ((table row : ℕ) → HasScopes image table row) → HoldBefore image any signatures
before image any meets nested indexes early = (meets.indexes, meets.entry)
before image any meets nested entries early = meets.entries
before image any meets nested manifest early = meets.manifest
before image any meets nested runs early = meets.runs
before image any meets nested order early = meets.order
before image any meets nested scopes early = nested
before image any meets nested signatures early = absurd (omega arith)
before image any meets nested distinct early = absurd (omega arith)
before image any meets nested values early = absurd (omega arith)
before image any meets nested header early = absurd (omega arith)
before image any meets nested instructions early = absurd (omega arith)
before image any meets nested clauses early = absurd (omega arith)
before image any meets nested tokens early = absurd (omega arith)
before image any meets nested attributes early = absurd (omega arith)
before image any meets nested bases early = absurd (omega arith)
before image any meets nested accessors early = absurd (omega arith)

module _ (image : List ℕ) (meets : MeetStructure image) (nested : (table row : ℕ) → HasScopes image table row) where
  -- what is told of the names of the image
  pub told_names : (names : NameMap) → AreNamings image names → AreNameFacts nameless names.owners (names_told image)
  told_names names are = names_are image (stands image no_names (before image no_names meets nested)) names.owners are.owners

  pub bounds_mean : (facts : OwnersFacts) → ((names : NameMap) → AreNamings image names → AreFacts nameless names.owners facts) → (names : NameMap) → AreNamings image names → (t r : ℕ) → HasBounded image facts t r ↔ HasSignatures image names t r
  bounds_mean facts told names are t r = bounds_are image nameless names facts (told names are) (bounded image nameless names.owners are.owners) t r

  pub none_bad : ((names : NameMap) → AreNamings image names → AllMeet (HasSignatures image names)) → AreSigned image
  none_bad all names are t r = all names are t r

  pub first_bad : NamingExists → length image ≤ 2 ^ 26 → HasTables image → (table row : ℕ) → ((names : NameMap) → AreNamings image names → IsFirstBad (HasSignatures image names) table row) → IsImageFault image 14 (Row table row)
  first_bad exists short tables table row bad =
      let n = exists image no_names short tables (before image no_names meets nested) in
      let b = bad n.0 n.1 in
      in_row n.0 {rule = signatures} tables (λ late. n.1) (before image n.0 meets nested) (record { bad = b.bad; first = b.first }) refl
