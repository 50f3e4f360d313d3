-- What is found is so: by what was found so far a scan finds what it finds by the whole map.
use Rattle.std.proofs.Common.{◌≡◌, ℕ, zero, suc, ◌+◌, ◌-◌, ◌*◌, ◌/◌, ◌%◌, ◌^◌, ◌≤◌, ◌<◌, ◌⊎◌, inl, inr, Bool, true, false, cond, nat_eq, List, length, Option, Some, None, refl, sym, ap, subst, ◌∙◌, arith}
use Rattle.std.proofs.lemmas.Grind.{common_steps}
use Rattle.std.proofs.lemmas.Option.{slice_get_within}
use Rattle.std.specs.Option.{option_map}
use Rattle.std.specs.Prelude.{slice_get, slice_set}
use Rattle.heaps.specs.LookUp.{blob_in}
use Rattle.image_model.specs.Columns.{type_spec_signature}
use Rattle.image_model.specs.Rows.{count_of, HasRow}
use Rattle.image_model.specs.Streams.{blobs_of}
use Rattle.sig_codec.specs.Reading.{◌>>=◌}
use Rattle.sig_codec.proofs.Numbers.{some_is, bind_some}
use Rattle.sig_codec.proofs.StepParts.{kept_out}
use Rattle.signature_facts.specs.declared.facts.Facts.{Facts}
use Rattle.signature_facts.specs.declared.facts.OwnerFacts.{OwnerFacts}
use Rattle.signature_facts.specs.Scanning.{OwnersFacts, whole_type}
use Rattle.spec_facts.specs.Rounds.{scanned_at, found, ArePlaces, TellsSpecs, IsSound, IsDone, IsFixed}
use Rattle.spec_facts.specs.SpecMap.{joined, merged, spec_of}
use Rattle.spec_facts.proofs.Agreeing.{IsClosed, Agrees, whole_agrees}
use Rattle.spec_facts.proofs.Lists.{set_there, set_else}

pub eq_nat : (n m : ℕ) → nat_eq n m ≡ true → n ≡ m
eq_nat n m e = grind (arith, common_steps)

pub ne_nat : (n m : ℕ) → nat_eq n m ≡ false → n ≡ m → ⊥
ne_nat n m e h = absurd (grind (arith, common_steps))

is_joined : {X : Type 0} (r : Option (Option X)) (x : X) → joined r ≡ Some x → r ≡ Some (Some x)
is_joined None x e = absurd cc
is_joined (Some r) x e = ap Some e

-- a row that was found has a place, and facts there
pub record IsFound (image places heads : List ℕ) (facts : List (Option Facts)) (row : ℕ) (f : Facts) : Type 0 where
  pub place : ℕ
  pub there : HasRow image 0x1B row
  pub head : slice_get heads place ≡ Some (type_spec_signature image row)
  pub told : slice_get facts place ≡ Some (Some f)

pub is_found : (image places heads : List ℕ) (facts : List (Option Facts)) → ArePlaces image places heads → (row : ℕ) (f : Facts) → found places facts row ≡ Some f → IsFound image places heads facts row f
unfolding found
is_found image places heads facts are row f e =
    let k = kept_out (nat_eq row 0) (slice_get places (row - 1) >>= λ place. joined (slice_get facts place)) f e in
    let a = bind_some (slice_get places (row - 1)) (λ place. joined (slice_get facts place)) f k.1 in
    let within = slice_get_within places (row - 1) a.0 a.1 in
    let p = are.placed (row - 1) within in
    let same : p.0 ≡ a.0 = some_is p.0 a.0 (sym p.1 ∙ a.1) in
    let some = ne_nat row 0 k.0 in
    let next : row - 1 + 1 ≡ row = omega arith in
    let each = are.each in
    record {
      place = a.0;
      there = (omega arith, omega arith);
      head = subst (λ (q : ℕ). slice_get heads q ≡ Some (type_spec_signature image row)) same (subst (λ (r : ℕ). slice_get heads p.0 ≡ Some (type_spec_signature image r)) next p.2);
      told = is_joined (slice_get facts a.0) f a.2;
    }

module _ (image : List ℕ) (names true_map : OwnersFacts) (tells : TellsSpecs image names true_map) (places heads : List ℕ) (are : ArePlaces image places heads) where
  -- what is told so far is so
  pub below : (facts : List (Option Facts)) → IsSound image true_map heads facts → (token : ℕ) (o : OwnerFacts) → merged names (found places facts) token ≡ Some o → true_map token ≡ Some o
  below facts sound token o e = go (nat_eq (token / 2 ^ 24) 0x1B) refl e
    where
      spec : (r : Option Facts) → found places facts (token % 2 ^ 24) ≡ r → token / 2 ^ 24 ≡ 0x1B → option_map spec_of r ≡ Some o → true_map token ≡ Some o
      spec None h t f = absurd cc
      spec (Some g) h t f =
          let p = is_found image places heads facts are (token % 2 ^ 24) g h in
          tells.there token t p.there ∙ ap (option_map spec_of) (sound p.place (type_spec_signature image (token % 2 ^ 24)) g p.head p.told) ∙ f

      go : (t : Bool) → nat_eq (token / 2 ^ 24) 0x1B ≡ t → cond t (option_map spec_of (found places facts (token % 2 ^ 24))) (names token) ≡ Some o → true_map token ≡ Some o
      go true t f = spec (found places facts (token % 2 ^ 24)) refl (eq_nat (token / 2 ^ 24) 0x1B t) f
      go false t f = tells.named token (ne_nat (token / 2 ^ 24) 0x1B t) ∙ f

  all_closed : IsClosed (λ f. Unit {0}) (λ f. Unit {0})
  all_closed = record { inside = λ f h. tt; first = λ f g h. tt; second = λ f g h. tt; part = λ f h. tt }

  pub scanned_so : (facts : List (Option Facts)) → IsSound image true_map heads facts → (index : ℕ) (f : Facts) → scanned_at image (merged names (found places facts)) index ≡ Some f
      → scanned_at image true_map index ≡ Some f
  unfolding scanned_at
  scanned_so facts sound index f e =
      let known = merged names (found places facts) in
      let a = bind_some (blob_in (blobs_of image) index) (λ b. whole_type known b) f e in
      let agrees : Agrees (λ f. Unit {0}) known true_map = λ token o h _. below facts sound token o h in
      rw a.1 (whole_agrees (λ f. Unit {0}) (λ f. Unit {0}) all_closed known true_map agrees a.0 f a.2 tt)

  -- one more
  pub sound_more : (facts : List (Option Facts)) → IsSound image true_map heads facts → length facts ≡ length heads → (place index : ℕ) (f : Facts) → place < length heads → slice_get heads place ≡ Some index
      → scanned_at image (merged names (found places facts)) index ≡ Some f → IsSound image true_map heads (slice_set facts place (Some f))
  sound_more facts sound each place index f lt head e = λ q other g h i. elim_at q other g h i (nat_eq q place) refl
    where
      here : scanned_at image true_map index ≡ Some f
      here = scanned_so facts sound index f e

      elim_at : (q other : ℕ) (g : Facts) → slice_get heads q ≡ Some other → slice_get (slice_set facts place (Some f)) q ≡ Some (Some g) → (t : Bool) → nat_eq q place ≡ t
          → scanned_at image true_map other ≡ Some g
      elim_at q other g h i true t =
          let same = eq_nat q place t in
          let index_is : index ≡ other = some_is index other (sym head ∙ ap (slice_get heads) (sym same) ∙ h) in
          let told : slice_get (slice_set facts place (Some f)) place ≡ Some (Some f) = set_there facts place (Some f) (omega arith) in
          let facts_are : Some f ≡ Some g = some_is (Some f) (Some g) (sym told ∙ ap (slice_get (slice_set facts place (Some f))) (sym same) ∙ i) in
          ap (scanned_at image true_map) (sym index_is) ∙ here ∙ facts_are
      elim_at q other g h i false t = sound q other g h (sym (set_else facts q place (Some f) (ne_nat q place t)) ∙ i)
