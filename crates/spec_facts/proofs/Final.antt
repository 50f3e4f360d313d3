-- Where a round found nothing more, each token is told the facts of what it names.
use Rattle.std.proofs.Common.{◌≡◌, ℕ, ◌-◌, ◌/◌, ◌%◌, ◌^◌, cond, nat_eq, Some, None, refl, ap, ◌∙◌, List, length, replicate, Option, sym, subst}
use Rattle.std.proofs.lemmas.Option.{slice_get-map}
use Rattle.std.specs.Option.{option_map}
use Rattle.std.specs.Prelude.{slice_get}
use Rattle.sig_codec.specs.Reading.{◌>>=◌}
use Rattle.type_terms.specs.declared.term.Owner.{Owner}
use Rattle.image_model.specs.Naming.{TellsOwners}
use Rattle.signature_facts.specs.declared.facts.Facts.{Facts}
use Rattle.signature_facts.specs.Facts.{Naming}
use Rattle.signature_facts.specs.Owners.{AreFacts}
use Rattle.signature_facts.specs.Scanning.{OwnersFacts}
use Rattle.spec_facts.specs.Rounds.{found, all_found, ArePlaces, TellsSpecs, IsSound, IsFixed}
use Rattle.spec_facts.specs.SpecMap.{joined, spec_of, row_told, merged, AreNameFacts}
use Rattle.spec_facts.proofs.Complete.{all_known}
use Rattle.spec_facts.proofs.Lists.{nothing, none_known}
use Rattle.spec_facts.proofs.Owned.{true_map, tells_specs}

module _ (places : List ℕ) (facts : List (Option Facts)) where
  abbrev at_place : ℕ → Option Facts
  at_place place = joined (slice_get facts place)

  same_row : (r : Option ℕ) → (r >>= at_place) ≡ joined (option_map at_place r)
  same_row None = refl
  same_row (Some place) = refl

  -- what was found of a row is what the list of all rows tells
  pub found_is_told : (row : ℕ) → found places facts row ≡ row_told (all_found places facts) row
  unfolding found row_told all_found
  found_is_told row =
      ap (λ (r : Option Facts). cond (nat_eq row 0) None r)
      (same_row (slice_get places (row - 1)) ∙ ap joined (sym (slice_get-map at_place places (row - 1))))

told_so : (names : OwnersFacts) (places : List ℕ) (facts : List (Option Facts)) (token : ℕ)
    → merged names (found places facts) token ≡ merged names (row_told (all_found places facts)) token
told_so names places facts token =
    ap (λ (r : Option Facts). cond (nat_eq (token / 2 ^ 24) 0x1B) (option_map spec_of r) (names token)) (found_is_told places facts (token % 2 ^ 24))

pub final : (image : List ℕ) (names : OwnersFacts) (places heads : List ℕ) (old all : List (Option Facts)) → ArePlaces image places heads → all ≡ old → length old ≡ length heads
    → ((whole : OwnersFacts) → TellsSpecs image names whole → IsSound image whole heads old) → IsFixed image names places heads old (length heads)
    → (naming : Naming) (owners : ℕ → Option Owner) → TellsOwners image owners → AreNameFacts naming owners names → AreFacts naming owners (merged names (row_told (all_found places all)))
final image names places heads old all are same each sound fixed naming owners tells so =
    let whole = true_map image naming owners tells in
    let told = tells_specs image naming owners tells names so in
    subst (λ (x : List (Option Facts)). AreFacts naming owners (merged names (row_told (all_found places x)))) (sym same)
    (λ token. sym (all_known image names whole told places heads are old each (sound whole told) fixed token ∙ told_so names places old token))

-- nothing is found at first
pub sound_at_first : (image : List ℕ) (whole : OwnersFacts) (heads : List ℕ) (n : ℕ) → IsSound image whole heads (replicate n nothing)
sound_at_first image whole heads n place index f h e = absurd (none_known n place f e)
