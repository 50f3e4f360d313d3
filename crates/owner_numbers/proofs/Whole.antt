-- The numbers tell tokens that name the same.
use Rattle.std.proofs.Common.{◌≡◌, ℕ, ◌+◌, ◌^◌, ◌≤◌, ◌<◌, List, Option, Some, length, subst, arith}
use Rattle.std.specs.Prelude.{slice_get, slice_index}
use Rattle.std.proofs.lemmas.Option.{slice_get-get_or}
use Rattle.type_terms.specs.declared.term.Owner.{Owner}
use Rattle.image_model.specs.Naming.{TellsOwners}
use Rattle.image_model.specs.Structure.{HasScopes}
use Rattle.name_numbers.specs.declared.numbering.Named.{Named}
use Rattle.row_demands.specs.Structured.{MeetStructure}
use Rattle.signature_equality.specs.Numbering.{IsCanon}
use Rattle.type_names.specs.Numbers.{TellNames, TypeNumbers}
use Rattle.owner_numbers.specs.Canon.{canon}
use Rattle.owner_numbers.specs.Sorting.{AreClasses}
use Rattle.owner_numbers.specs.Terms.{spec_count}
use Rattle.owner_numbers.proofs.Numbered.{numbered}
use Rattle.owner_numbers.proofs.Steps.{there_within}
use Rattle.owner_numbers.proofs.Telling.{told_apart}

pub numbers_tell : (image : List ℕ) (names : TypeNumbers) → names.image ≡ image → TellNames names.image names.named → MeetStructure image → ((table row : ℕ) → HasScopes image table row)
    → (classes : List ℕ) → AreClasses image classes → (owners : ℕ → Option Owner) → TellsOwners image owners → IsCanon owners (canon (record { image = image; named = names.named; classes = classes }))
numbers_tell image names same tell meets scopes classes are owners tells =
    let tell_here = subst (λ (i : List ℕ). TellNames i names.named) same tell in
    λ x y o p e f.
    told_apart image names.named tell_here (numbered image names.named tell_here meets scopes) owners tells classes (λ o. Unit {0})
    (λ c d s t ct dt cf df cs ds ch dh.
    let cw = there_within image c ct cf in
    let dw = there_within image d dt df in
    let long = are.long in
    let cl : c < length classes = let w = cw.1 in omega arith in
    let dl : d < length classes = let w = dw.1 in omega arith in
    (slice_index classes c, slice_index classes d, slice_get-get_or classes c 0 cl, slice_get-get_or classes d 0 dl, are.same owners tells c d s t cw dw cs ds))
    x y o p e f tt tt
