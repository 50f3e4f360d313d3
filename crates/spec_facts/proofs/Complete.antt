-- Where nothing more is found all is found: by the depth of what a row's blob spells, since what it names by a modifier is less deep.
use Rattle.std.proofs.Common.{◌≡◌, ℕ, zero, suc, ◌+◌, ◌-◌, ◌*◌, ◌/◌, ◌%◌, ◌^◌, ◌≤◌, ◌<◌, ◌⊎◌, inl, inr, Bool, true, false, cond, nat_eq, nat_lt, max, min, List, length, Option, Some, None, refl, sym, ap, subst, ◌∙◌, arith}
use Rattle.std.proofs.lemmas.Grind.{common_steps}
use Rattle.std.proofs.lemmas.Option.{slice_get_within}
use Rattle.std.specs.Option.{option_map}
use Rattle.std.specs.Prelude.{slice_get}
use Rattle.heaps.specs.LookUp.{blob_in}
use Rattle.image_model.specs.Columns.{type_spec_signature}
use Rattle.image_model.specs.Rows.{count_of, HasRow}
use Rattle.image_model.specs.Streams.{blobs_of}
use Rattle.sig_codec.specs.Reading.{◌>>=◌}
use Rattle.sig_codec.proofs.Numbers.{some_is, bind_some}
use Rattle.signature_facts.specs.declared.facts.Facts.{Facts}
use Rattle.signature_facts.specs.declared.facts.OwnerFacts.{OwnerFacts}
use Rattle.signature_facts.specs.Facts.{node}
use Rattle.signature_facts.specs.Facts as facts
use Rattle.signature_facts.specs.Scanning.{OwnersFacts, whole_type}
use Rattle.spec_facts.specs.Rounds.{scanned_at, found, ArePlaces, TellsSpecs, IsSound, IsDone, IsFixed}
use Rattle.spec_facts.specs.SpecMap.{joined, merged, spec_of}
use Rattle.spec_facts.proofs.Agreeing.{IsClosed, Agrees, whole_agrees}
use Rattle.spec_facts.proofs.Lists.{not_past}
use Rattle.spec_facts.proofs.Sound.{eq_nat, ne_nat, below}

-- what is at most so deep, and what stands in it
closed_at : (d : ℕ) → d ≤ 100 → IsClosed (λ f. f.depth ≤ d) (λ f. f.depth < d)
unfolding node facts.joined
closed_at d le = record {
  inside = λ f h. omega arith;
  first = λ f g h. omega arith;
  second = λ f g h. omega arith;
  part = λ f h. omega arith;
}

module _ (image : List ℕ) (names true_map : OwnersFacts) (tells : TellsSpecs image names true_map) (places heads : List ℕ) (are : ArePlaces image places heads) (all : List (Option Facts))
    (each : length all ≡ length heads) (sound : IsSound image true_map heads all) (fixed : IsFixed image names places heads all (length heads)) where
  abbrev known : OwnersFacts
  known = merged names (found places all)

  abbrev Known : ℕ → Type 0
  Known d = (token : ℕ) (o : OwnerFacts) → true_map token ≡ Some o → (o.is_name ≡ true) ⊎ (o.facts.depth < d) → known token ≡ Some o

  scanned_known : (d index : ℕ) (f : Facts) → d ≤ 100 → Known d → scanned_at image true_map index ≡ Some f → f.depth ≤ d → scanned_at image known index ≡ Some f
  unfolding scanned_at
  scanned_known d index f le ih e h =
      let a = bind_some (blob_in (blobs_of image) index) (λ b. whole_type true_map b) f e in
      rw a.1 (whole_agrees (λ f. f.depth ≤ d) (λ f. f.depth < d) (closed_at d le) true_map known ih a.0 f a.2 h)

  -- a place whose blob spells a type is found
  place_known : (place index : ℕ) (f : Facts) → f.depth ≤ 100 → Known f.depth → slice_get heads place ≡ Some index → scanned_at image true_map index ≡ Some f → slice_get all place ≡ Some (Some f)
  place_known place index f le ih head e = go (slice_get all place) refl
    where
      within : place < length heads
      within = slice_get_within heads place index head

      go : (r : Option (Option Facts)) → slice_get all place ≡ r → slice_get all place ≡ Some (Some f)
      go None h = absurd (not_past all place (let a = within in let b = each in omega arith) h)
      go (Some None) h = absurd (let a = fixed place within index head h in let b = scanned_known f.depth index f le ih e (omega arith) in cc)
      go (Some (Some g)) h = h ∙ ap (λ (g : Facts). Some (Some g)) (some_is g f (sym (sound place index g head h) ∙ e))

  there_is_row : (token : ℕ) (o : OwnerFacts) → token / 2 ^ 24 ≡ 0x1B → true_map token ≡ Some o → HasRow image 0x1B (token % 2 ^ 24)
  there_is_row token o t e = go (nat_lt 0 (token % 2 ^ 24)) (nat_lt (count_of image 0x1B) (token % 2 ^ 24)) refl refl
    where
      go : (p q : Bool) → nat_lt 0 (token % 2 ^ 24) ≡ p → nat_lt (count_of image 0x1B) (token % 2 ^ 24) ≡ q → HasRow image 0x1B (token % 2 ^ 24)
      go true false h i = (grind (arith, common_steps), grind (arith, common_steps))
      go false q h i = absurd (let n = tells.absent token t (λ r. let a = r.0 in absurd (grind (arith, common_steps))) in cc)
      go true true h i = absurd (let n = tells.absent token t (λ r. let a = r.1 in absurd (grind (arith, common_steps))) in cc)

  -- what a token of a TypeSpec is told by the whole map
  spec_told : (token : ℕ) (o : OwnerFacts) → token / 2 ^ 24 ≡ 0x1B → true_map token ≡ Some o → (f : Facts) × (scanned_at image true_map (type_spec_signature image (token % 2 ^ 24)) ≡ Some f) × (spec_of f ≡ o)
  spec_told token o t e = go (scanned_at image true_map (type_spec_signature image (token % 2 ^ 24))) refl (sym (tells.there token t (there_is_row token o t e)) ∙ e)
    where
      go : (r : Option Facts) → scanned_at image true_map (type_spec_signature image (token % 2 ^ 24)) ≡ r → option_map spec_of r ≡ Some o
          → (f : Facts) × (scanned_at image true_map (type_spec_signature image (token % 2 ^ 24)) ≡ Some f) × (spec_of f ≡ o)
      go None h i = absurd cc
      go (Some f) h i = (f, h, some_is (spec_of f) o i)

  name_known : (token : ℕ) (o : OwnerFacts) → true_map token ≡ Some o → o.is_name ≡ true → known token ≡ Some o
  name_known token o e n = go (nat_eq (token / 2 ^ 24) 0x1B) refl
    where
      go : (t : Bool) → nat_eq (token / 2 ^ 24) 0x1B ≡ t → cond t (option_map spec_of (found places all (token % 2 ^ 24))) (names token) ≡ Some o
      go true t = absurd (let s = spec_told token o (eq_nat (token / 2 ^ 24) 0x1B t) e in let no = ap (λ (o : OwnerFacts). o.is_name) s.2 in cc)
      go false t = sym (tells.named token (ne_nat (token / 2 ^ 24) 0x1B t)) ∙ e

  found_row : (row : ℕ) (f : Facts) → HasRow image 0x1B row → f.depth ≤ 100 → Known f.depth → scanned_at image true_map (type_spec_signature image row) ≡ Some f → found places all row ≡ Some f
  unfolding found
  found_row row f h le ih e =
      let a = h.0 in
      let b = h.1 in
      let each = are.each in
      let within : row - 1 < length places = omega arith in
      let some : nat_eq row 0 ≡ false = grind (arith, common_steps) in
      let p = are.placed (row - 1) within in
      let next : row - 1 + 1 ≡ row = omega arith in
      let head : slice_get heads p.0 ≡ Some (type_spec_signature image row) = subst (λ (r : ℕ). slice_get heads p.0 ≡ Some (type_spec_signature image r)) next p.2 in
      rw (some, p.1, place_known p.0 (type_spec_signature image row) f le ih head e) refl

  depth_step : (d : ℕ) → ((token : ℕ) (o : OwnerFacts) → true_map token ≡ Some o → o.facts.depth < d → known token ≡ Some o)
      → (token : ℕ) (o : OwnerFacts) → true_map token ≡ Some o → o.facts.depth < suc d → (t : Bool) → nat_eq (token / 2 ^ 24) 0x1B ≡ t
      → cond t (option_map spec_of (found places all (token % 2 ^ 24))) (names token) ≡ Some o
  depth_step d ih token o e lt false t = sym (tells.named token (ne_nat (token / 2 ^ 24) 0x1B t)) ∙ e
  depth_step d ih token o e lt true t =
      let is = eq_nat (token / 2 ^ 24) 0x1B t in
      let s = spec_told token o is e in
      let f = s.0 in
      let same : f.depth ≡ o.facts.depth = ap (λ (o : OwnerFacts). o.facts.depth) s.2 in
      let le : f.depth ≤ 100 = (let a = tells.deep token o e in omega arith) in
      let known_below : Known f.depth = λ other p h i. elim i [ inl n ↦ name_known other p h n | inr lt' ↦ ih other p h (omega arith) ] in
      ap (option_map spec_of) (found_row (token % 2 ^ 24) f (there_is_row token o is e) le known_below s.1) ∙ ap Some s.2

  depth_known : (d : ℕ) (token : ℕ) (o : OwnerFacts) → true_map token ≡ Some o → o.facts.depth < d → known token ≡ Some o
  depth_known zero token o e lt = absurd (omega arith)
  depth_known (suc d) token o e lt = depth_step d (depth_known d) token o e lt (nat_eq (token / 2 ^ 24) 0x1B) refl

  -- all is known
  pub all_known : (token : ℕ) → true_map token ≡ known token
  all_known token = go (true_map token) (known token) refl refl
    where
      go : (r q : Option OwnerFacts) → true_map token ≡ r → known token ≡ q → true_map token ≡ known token
      go (Some o) q h i = h ∙ sym (depth_known (suc o.facts.depth) token o h (omega arith))
      go None None h i = h ∙ sym i
      go None (Some o) h i = absurd (let b = below image names true_map tells places heads are all sound token o i in cc)
