-- What a verdict says of the facts that a scan finds; and that verdicts are kept for each kind and index apart.
use Rattle.std.proofs.Common.{◌≡◌, ◌↔◌, ℕ, zero, suc, ◌+◌, ◌*◌, ◌≤◌, ◌<◌, Bool, true, false, cond, not, nat_le, nat_eq, ◌&&◌, List, [], ◌∷◌, ◌++◌, length, Option, Some, None, Result, Ok, Err, refl, sym, ap, subst, ◌∙◌, arith}
use Rattle.std.proofs.lemmas.Grind.{common_steps}
use Rattle.std.specs.Prelude.{IsTrue, OnOk, OnErr, slice_get}
use Rattle.heaps.specs.Content.{HasBlob}
use Rattle.heaps.specs.LookUp.{blob_in}
use Rattle.heaps.proofs.Computed.{blob_is_computed}
use Rattle.hash_places.specs.Slots.{place_of}
use Rattle.hash_places.specs.declared.slots.Slot.{Slot}
use Rattle.image_model.specs.Streams.{blobs_of}
use Rattle.image_model.specs.Terms.{max_count}
use Rattle.sig_codec.specs.Reading.{◌>>=◌}
use Rattle.sig_codec.proofs.Numbers.{some_is}
use Rattle.signature_facts.specs.declared.facts.Facts.{Facts}
use Rattle.signature_facts.specs.declared.facts.ListFacts.{ListFacts}
use Rattle.signature_facts.specs.declared.facts.MethodFacts.{MethodFacts}
use Rattle.signature_facts.specs.Scanning.{OwnersFacts, whole_type, whole_field, whole_locals, whole_instantiation, whole_method, whole_property}
use Rattle.signature_bounds.specs.Bounded.{scanned_at, IsKept, HasRank, IsBounded, FieldIs, MethodIs}
use Rattle.signature_verdicts.specs.declared.kind.Kind.{Kind}
use Rattle.signature_verdicts.specs.declared.kind.Kind.TheVariants as kind
use Rattle.signature_verdicts.specs.declared.kind.Verdict.{Verdict}
use Rattle.signature_verdicts.specs.Judging.{damaged, judged_type, judged_method, judged_locals, judged_list, judged_blob, judged_in, judged, number_of, key, AreJudged}

-- ---- the blob at an index

pub judged_found : (image : List ℕ) (facts : OwnersFacts) (kind : Kind) (index : ℕ) (b : List ℕ) → HasBlob (blobs_of image) index b → judged image facts kind index ≡ judged_blob facts kind b
unfolding judged
judged_found image facts kind index b h = ap (judged_in facts kind) ((blob_is_computed (blobs_of image) index b).0 h)

pub judged_lacks : (image : List ℕ) (facts : OwnersFacts) (kind : Kind) (index : ℕ) → ((b : List ℕ) → HasBlob (blobs_of image) index b → ⊥) → judged image facts kind index ≡ damaged
unfolding judged
judged_lacks image facts kind index lacks = go (blob_in (blobs_of image) index) refl
  where
    go : (r : Option (List ℕ)) → blob_in (blobs_of image) index ≡ r → judged_in facts kind r ≡ damaged
    go None e = refl
    go (Some b) e = absurd (lacks b ((blob_is_computed (blobs_of image) index b).1 e))

-- ---- what a verdict says

-- a test of what was found
abbrev is_so : {F : Type 0} → (F → Bool) → Option F → Bool
is_so test None = false
is_so test (Some f) = test f

kept_iff : {F : Type 0} (test : F → Bool) (P : F → Type 0) → ((f : F) → (test f ≡ true) ↔ P f) → (r : Option F) → IsTrue (is_so test r) ↔ IsKept r P
kept_iff test P iff None = ((λ e. absurd cc), (λ k. absurd (let e = k.1 in cc)))
kept_iff test P iff (Some f) =
    ((λ e. (f, refl, (iff f).0 e)), (λ k. (iff f).1 (subst P (sym (some_is f k.0 k.1)) k.2)))

module _ {F : Type 0} (view : Option F → Bool) (test : F → Bool) (none : view None ≡ false) (some : (f : F) → view (Some f) ≡ test f) (P : F → Type 0) (iff : (f : F) → (test f ≡ true) ↔ P f) where
  view_is : (r : Option F) → view r ≡ is_so test r
  view_is None = none
  view_is (Some f) = some f

  said : (b : Bool) (r : Option F) → b ≡ view r → IsTrue b ↔ IsKept r P
  said b r e = subst (λ (x : Bool). IsTrue x ↔ IsKept r P) (sym (e ∙ view_is r)) (kept_iff test P iff r)

le_iff : (n m : ℕ) → (nat_le n m ≡ true) ↔ (n ≤ m)
le_iff n m = ((λ e. grind (arith, common_steps)), (λ h. grind (arith, common_steps)))

both_iff : {A B : Type 0} (s t : Bool) → (s ≡ true) ↔ A → (t ≡ true) ↔ B → ((s && t) ≡ true) ↔ (A × B)
both_iff true t a b = ((λ e. (a.0 refl, b.0 e)), (λ h. b.1 h.1))
both_iff false t a b = ((λ e. absurd cc), (λ h. absurd (let e = a.1 h.0 in cc)))

method_iff : (m : MethodFacts) → ((nat_le m.generic max_count && nat_le m.params max_count && nat_le m.facts.rank 32) ≡ true) ↔ IsBounded m
method_iff m =
    let two = both_iff (nat_le m.generic max_count) (nat_le m.params max_count) (le_iff m.generic max_count) (le_iff m.params max_count) in
    let all = both_iff (nat_le m.generic max_count && nat_le m.params max_count) (nat_le m.facts.rank 32) two (le_iff m.facts.rank 32) in
    ((λ e. let h = all.0 e in (h.0.0, h.0.1, h.1)), (λ h. all.1 ((h.0, h.1), h.2)))

-- the verdict at an index, by the scan there
at_index : {F : Type 0} (facts : OwnersFacts) (kind : Kind) (judged_by : Option F → Verdict) (scan : List ℕ → Option F) → judged_by None ≡ damaged → ((b : List ℕ) → judged_blob facts kind b ≡ judged_by (scan b))
    → (image : List ℕ) (index : ℕ) → judged image facts kind index ≡ judged_by (scanned_at image scan index)
unfolding judged
at_index facts kind judged_by scan none some image index = go (blob_in (blobs_of image) index)
  where
    go : (r : Option (List ℕ)) → judged_in facts kind r ≡ judged_by (r >>= scan)
    go None = sym none
    go (Some b) = some b

module _ (image : List ℕ) (facts : OwnersFacts) (index : ℕ) where
  pub type_said : IsTrue (judged image facts kind.Type index).is_bounded ↔ IsKept (scanned_at image (whole_type facts) index) HasRank
  type_said =
      said (λ r. (judged_type r).is_bounded) (λ f. nat_le f.rank 32) refl (λ f. refl) HasRank (λ f. le_iff f.rank 32) (judged image facts kind.Type index).is_bounded (scanned_at image (whole_type facts) index)
      (ap (λ (v : Verdict). v.is_bounded) (at_index facts kind.Type judged_type (whole_type facts) refl (λ b. refl) image index))

  pub field_said : IsTrue (judged image facts kind.Field index).is_bounded ↔ FieldIs image facts index
  field_said =
      said (λ r. (judged_type r).is_bounded) (λ f. nat_le f.rank 32) refl (λ f. refl) HasRank (λ f. le_iff f.rank 32) (judged image facts kind.Field index).is_bounded (scanned_at image (whole_field facts) index)
      (ap (λ (v : Verdict). v.is_bounded) (at_index facts kind.Field judged_type (whole_field facts) refl (λ b. refl) image index))

  abbrev method_test : MethodFacts → Bool
  method_test m = nat_le m.generic max_count && nat_le m.params max_count && nat_le m.facts.rank 32

  method_at : judged image facts kind.Method index ≡ judged_method (scanned_at image (whole_method facts) index)
  method_at = at_index facts kind.Method judged_method (whole_method facts) refl (λ b. refl) image index

  pub method_said : IsTrue (judged image facts kind.Method index).is_bounded ↔ MethodIs image facts index IsBounded
  method_said =
      said (λ r. (judged_method r).is_bounded) method_test refl (λ m. refl) IsBounded method_iff (judged image facts kind.Method index).is_bounded (scanned_at image (whole_method facts) index)
      (ap (λ (v : Verdict). v.is_bounded) method_at)

  pub spelled_said : IsTrue (judged image facts kind.Method index).is_spelled ↔ MethodIs image facts index (λ m. Unit {0})
  spelled_said =
      said (λ r. (judged_method r).is_spelled) (λ m. true) refl (λ m. refl) (λ m. Unit {0}) (λ m. ((λ e. tt), (λ h. refl))) (judged image facts kind.Method index).is_spelled (scanned_at image (whole_method facts) index)
      (ap (λ (v : Verdict). v.is_spelled) method_at)

  not_iff : (s : Bool) → (not s ≡ true) ↔ (s ≡ false)
  not_iff true = ((λ e. absurd cc), (λ e. absurd cc))
  not_iff false = ((λ e. refl), (λ e. refl))

  pub declared_said : IsTrue ((judged image facts kind.Method index).is_bounded && not (judged image facts kind.Method index).has_sentinel)
      ↔ MethodIs image facts index (λ m. IsBounded m × (m.has_sentinel ≡ false))
  declared_said =
      said (λ r. (judged_method r).is_bounded && not (judged_method r).has_sentinel) (λ m. method_test m && not m.has_sentinel) refl (λ m. refl) (λ m. IsBounded m × (m.has_sentinel ≡ false))
      (λ m. both_iff (method_test m) (not m.has_sentinel) (method_iff m) (not_iff m.has_sentinel))
      ((judged image facts kind.Method index).is_bounded && not (judged image facts kind.Method index).has_sentinel) (scanned_at image (whole_method facts) index)
      (ap (λ (v : Verdict). v.is_bounded && not v.has_sentinel) method_at)

  pub property_said : IsTrue (judged image facts kind.Property index).is_bounded ↔ IsKept (scanned_at image (whole_property facts) index) IsBounded
  property_said =
      said (λ r. (judged_method r).is_bounded) method_test refl (λ m. refl) IsBounded method_iff (judged image facts kind.Property index).is_bounded (scanned_at image (whole_property facts) index)
      (ap (λ (v : Verdict). v.is_bounded) (at_index facts kind.Property judged_method (whole_property facts) refl (λ b. refl) image index))

  pub locals_said : IsTrue (judged image facts kind.Locals index).is_bounded ↔ IsKept (scanned_at image (whole_locals facts) index) (λ l. (l.count ≤ max_count) × HasRank l.facts)
  locals_said =
      said (λ r. (judged_locals r).is_bounded) (λ l. nat_le l.count max_count && nat_le l.facts.rank 32) refl (λ l. refl) (λ l. (l.count ≤ max_count) × HasRank l.facts)
      (λ l. both_iff (nat_le l.count max_count) (nat_le l.facts.rank 32) (le_iff l.count max_count) (le_iff l.facts.rank 32))
      (judged image facts kind.Locals index).is_bounded (scanned_at image (whole_locals facts) index)
      (ap (λ (v : Verdict). v.is_bounded) (at_index facts kind.Locals judged_locals (whole_locals facts) refl (λ b. refl) image index))

  pub arguments_said : IsTrue (judged image facts kind.Instantiation index).is_bounded ↔ IsKept (scanned_at image (whole_instantiation facts) index) (λ l. HasRank l.facts)
  arguments_said =
      said (λ r. (judged_list r).is_bounded) (λ l. nat_le l.facts.rank 32) refl (λ l. refl) (λ l. HasRank l.facts) (λ l. le_iff l.facts.rank 32)
      (judged image facts kind.Instantiation index).is_bounded (scanned_at image (whole_instantiation facts) index)
      (ap (λ (v : Verdict). v.is_bounded) (at_index facts kind.Instantiation judged_list (whole_instantiation facts) refl (λ b. refl) image index))

-- ---- keys

abbrev kind_of : ℕ → Kind
kind_of n = cond (nat_eq n 0) kind.Type (cond (nat_eq n 1) kind.Field (cond (nat_eq n 2) kind.Method (cond (nat_eq n 3) kind.Property (cond (nat_eq n 4) kind.Locals kind.Instantiation))))

kind_is : (k : Kind) → kind_of (number_of k) ≡ k
kind_is kind.Type = refl
kind_is kind.Field = refl
kind_is kind.Method = refl
kind_is kind.Property = refl
kind_is kind.Locals = refl
kind_is kind.Instantiation = refl

small : (k : Kind) → number_of k < 8
small kind.Type = omega arith
small kind.Field = omega arith
small kind.Method = omega arith
small kind.Property = omega arith
small kind.Locals = omega arith
small kind.Instantiation = omega arith

keys_tie : (k l : Kind) (i j : ℕ) → key k i ≡ key l j → (k ≡ l) × (i ≡ j)
keys_tie k l i j e =
    let a = small k in
    let b = small l in
    let n : number_of k ≡ number_of l = omega arith in
    (sym (kind_is k) ∙ ap kind_of n ∙ kind_is l, omega arith)

stays_behind : {X : Type 0} (xs ys : List X) (k : ℕ) (v : X) → slice_get xs k ≡ Some v → slice_get (xs ++ ys) k ≡ Some v
stays_behind [] ys k v e = absurd cc
stays_behind (x ∷ xs) ys zero v e = e
stays_behind (x ∷ xs) ys (suc k) v e = stays_behind xs ys k v e

last_there : {X : Type 0} (xs : List X) (v : X) → slice_get (xs ++ v ∷ []) (length xs) ≡ Some v
last_there [] v = refl
last_there (x ∷ xs) v = last_there xs v

module _ (image : List ℕ) (facts : OwnersFacts) where
  -- where nothing new has a place
  pub judged_on : (old new : List Slot) (verdicts : List Verdict) (v : Verdict) → AreJudged image facts old verdicts → ((q : ℕ) → place_of new q ≡ place_of old q) → AreJudged image facts new (verdicts ++ v ∷ [])
  judged_on old new verdicts v are same = record { kept = λ k i place e. stays_behind verdicts (v ∷ []) place (judged image facts k i) (are.kept k i place (sym (same (key k i)) ∙ e)) }

  -- one more
  pub judged_more : (old new : List Slot) (verdicts : List Verdict) (kind : Kind) (index : ℕ) → AreJudged image facts old verdicts
      → ((q : ℕ) → place_of new q ≡ cond (nat_eq (key kind index) q) (Some (length verdicts)) (place_of old q)) → AreJudged image facts new (verdicts ++ judged image facts kind index ∷ [])
  judged_more old new verdicts kind index are is = record { kept = λ k i place e. go k i place (nat_eq (key kind index) (key k i)) refl (sym (is (key k i)) ∙ e) }
    where
      go : (k : Kind) (i place : ℕ) (t : Bool) → nat_eq (key kind index) (key k i) ≡ t → cond t (Some (length verdicts)) (place_of old (key k i)) ≡ Some place
          → slice_get (verdicts ++ judged image facts kind index ∷ []) place ≡ Some (judged image facts k i)
      go k i place true t e =
          let same : key kind index ≡ key k i = grind (arith, common_steps) in
          let tie = keys_tie kind k index i same in
          ap (slice_get (verdicts ++ judged image facts kind index ∷ [])) (sym (some_is (length verdicts) place e)) ∙ last_there verdicts (judged image facts kind index)
          ∙ ap (λ (k : Kind). Some (judged image facts k index)) tie.0 ∙ ap (λ (i : ℕ). Some (judged image facts k i)) tie.1
      go k i place false t e = stays_behind verdicts (judged image facts kind index ∷ []) place (judged image facts k i) (are.kept k i place e)

  -- one more, or nothing new for want of memory
  pub judged_after : {X E : Type 0} (r : Result X E) (old new : List Slot) (verdicts : List Verdict) (kind : Kind) (index hash place : ℕ) → AreJudged image facts old verdicts → hash ≡ key kind index → place ≡ length verdicts
      → OnOk r ((q : ℕ) → place_of new q ≡ cond (nat_eq hash q) (Some place) (place_of old q)) → OnErr r ((q : ℕ) → place_of new q ≡ place_of old q)
      → AreJudged image facts new (verdicts ++ judged image facts kind index ∷ [])
  judged_after (Ok x) old new verdicts kind index hash place are h p ok err = judged_more old new verdicts kind index are (λ q. rw (h, p) at (ok q))
  judged_after (Err e) old new verdicts kind index hash place are h p ok err = judged_on old new verdicts (judged image facts kind index) are err

  -- a method that a row declares, by both parts of its verdict
  declared_by : (v : Verdict) (index : ℕ) → v ≡ judged image facts kind.Method index
      → IsTrue (v.is_bounded && not v.has_sentinel) ↔ MethodIs image facts index (λ m. IsBounded m × (m.has_sentinel ≡ false))
  declared_by v index e = subst (λ (v : Verdict). IsTrue (v.is_bounded && not v.has_sentinel) ↔ MethodIs image facts index (λ m. IsBounded m × (m.has_sentinel ≡ false))) (sym e) (declared_said image facts index)

  pub declared_then : (v : Verdict) (index : ℕ) → v ≡ judged image facts kind.Method index → v.is_bounded ≡ true
      → IsTrue (not v.has_sentinel) ↔ MethodIs image facts index (λ m. IsBounded m × (m.has_sentinel ≡ false))
  declared_then v index e h = subst (λ (b : Bool). IsTrue (b && not v.has_sentinel) ↔ MethodIs image facts index (λ m. IsBounded m × (m.has_sentinel ≡ false))) h (declared_by v index e)

  pub declared_else : (v : Verdict) (index : ℕ) → v ≡ judged image facts kind.Method index → v.is_bounded ≡ false
      → IsTrue v.is_bounded ↔ MethodIs image facts index (λ m. IsBounded m × (m.has_sentinel ≡ false))
  declared_else v index e h =
      let no : IsTrue false ↔ MethodIs image facts index (λ m. IsBounded m × (m.has_sentinel ≡ false)) =
      subst (λ (b : Bool). IsTrue (b && not v.has_sentinel) ↔ MethodIs image facts index (λ m. IsBounded m × (m.has_sentinel ≡ false))) h (declared_by v index e) in
      subst (λ (b : Bool). IsTrue b ↔ MethodIs image facts index (λ m. IsBounded m × (m.has_sentinel ≡ false))) (sym h) no
