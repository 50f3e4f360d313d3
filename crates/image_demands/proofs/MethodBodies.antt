-- The demands on bodies: the first that fails, or what holds then (I17 to I20).
use Rattle.std.proofs.Common.{ℕ, inl, inr, List, Option, Some, None, refl}
use Rattle.std.specs.Prelude.{IfSome, IfNone}
use Rattle.demand_search.specs.Search as found
use Rattle.body_demands.specs.Unmet.{MeetBodies, IsFirstUnmet}
use Rattle.body_tokens.specs.Tokens.{AreAllKnown, IsFirstUnknown}
use Rattle.image_model.specs.declared.place.Place.TheVariants.{Row}
use Rattle.image_model.specs.Bodies.{HasHeader, HasInstructions, HasClauses}
use Rattle.image_model.specs.Faults.{header, instructions, clauses, tokens, HasTables, IsImageFault, in_row}
use Rattle.image_streams.specs.declared.opened.Unmet.{Unmet}
use Rattle.row_demands.proofs.Faulted.{told}
use Rattle.image_demands.specs.Meeting.{MeetBelow, FailsOr}
use Rattle.image_demands.proofs.Steps.{one_more}

module _ (image : List ℕ) (has : HasTables image) where
  header_next : MeetBelow image 17 → ((t r : ℕ) → HasHeader image t r) → MeetBelow image 18
  header_next below h = one_more image 17 below header refl (λ names are. h)

  instructions_next : MeetBelow image 18 → ((t r : ℕ) → HasInstructions image t r) → MeetBelow image 19
  instructions_next below h = one_more image 18 below instructions refl (λ names are. h)

  clauses_next : MeetBelow image 19 → ((t r : ℕ) → HasClauses image t r) → MeetBelow image 20
  clauses_next below h = one_more image 19 below clauses refl (λ names are. h)

  header_fails : MeetBelow image 17 → (t r : ℕ) → found.IsFirstBad (HasHeader image) t r → IsImageFault image 17 (Row t r)
  header_fails below t r f =
      in_row below.named.0 {rule = header} has (λ l. below.named.1) (λ earlier less. below.held below.named.0 below.named.1 earlier less) (record { bad = f.bad; first = f.first }) refl

  instructions_fail : MeetBelow image 18 → (t r : ℕ) → found.IsFirstBad (HasInstructions image) t r → IsImageFault image 18 (Row t r)
  instructions_fail below t r f =
      in_row below.named.0 {rule = instructions} has (λ l. below.named.1) (λ earlier less. below.held below.named.0 below.named.1 earlier less) (record { bad = f.bad; first = f.first }) refl

  clauses_fail : MeetBelow image 19 → (t r : ℕ) → found.IsFirstBad (HasClauses image) t r → IsImageFault image 19 (Row t r)
  clauses_fail below t r f =
      in_row below.named.0 {rule = clauses} has (λ l. below.named.1) (λ earlier less. below.held below.named.0 below.named.1 earlier less) (record { bad = f.bad; first = f.first }) refl

  fails : MeetBelow image 17 → (u : Unmet) → IsFirstUnmet image u → IsImageFault image u.rule u.at
  fails below u f = elim f.3 [
    | inl a ↦ told image 17 (Row f.0 f.1) u.at u.rule a.0 f.2 (header_fails below f.0 f.1 a.1)
    | inr b ↦ elim b [
      | inl a ↦ told image 18 (Row f.0 f.1) u.at u.rule a.0 f.2 (instructions_fail (header_next below a.1.headers) f.0 f.1 a.1.first)
      | inr a ↦ told image 19 (Row f.0 f.1) u.at u.rule a.0 f.2 (clauses_fail (instructions_next (header_next below a.1.headers) a.1.instructions) f.0 f.1 a.1.first)
    ]
  ]

  pub bodies_next : MeetBelow image 17 → (r : Option Unmet) → IfSome r (IsFirstUnmet image) → IfNone r (MeetBodies image) → FailsOr image (MeetBelow image 20) r
  bodies_next below None bad none = clauses_next (instructions_next (header_next below none.headers) none.instructions) none.clauses
  bodies_next below (Some u) bad none = fails below u bad

  pub unknown_fails : MeetBelow image 20 → (row : ℕ) → IsFirstUnknown image row → IsImageFault image 20 (Row 0x06 row)
  unknown_fails below row f =
      in_row below.named.0 {rule = tokens} has (λ l. below.named.1) (λ earlier less. below.held below.named.0 below.named.1 earlier less)
      (f below.named.0 below.named.1 (λ earlier less. below.held below.named.0 below.named.1 earlier less)) refl

  pub known_next : MeetBelow image 20 → AreAllKnown image → MeetBelow image 21
  known_next below all = one_more image 20 below tokens refl (λ names are. all names are (λ earlier less. below.held names are earlier less))
