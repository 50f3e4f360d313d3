-- What signatures weigh, by facts, is what they weigh; and weights are kept for each kind and index apart.
use Rattle.std.proofs.Common.{◌≡◌, ℕ, zero, suc, ◌+◌, ◌*◌, ◌<◌, Bool, true, false, cond, nat_eq, List, [], ◌∷◌, ◌++◌, length, map, Option, Some, None, Result, Ok, Err, refl, sym, ap, ◌∙◌, arith}
use Rattle.std.proofs.lemmas.Grind.{common_steps}
use Rattle.std.proofs.lemmas.List.Sums.{sum_by-cons}
use Rattle.std.specs.Prelude.{OnOk, OnErr, slice_get, sum_by, ◌==◌, if◌then◌else◌}
use Rattle.std.specs.Option.{option_map}
use Rattle.assembly_tree.specs.Weight.{name_weight, type_weight, signature_weight}
use Rattle.hash_places.specs.Slots.{place_of}
use Rattle.hash_places.specs.declared.slots.Slot.{Slot}
use Rattle.heaps.specs.Content.{HasBlob}
use Rattle.heaps.specs.LookUp.{blob_in}
use Rattle.heaps.proofs.Computed.{blob_is_computed}
use Rattle.image_model.specs.Streams.{blobs_of}
use Rattle.name_weights.specs.Weights.{weighing}
use Rattle.sig_codec.specs.Signature.{method_byte, IsType, IsMethod, IsField, IsProperty, AreLocals, IsInstantiation}
use Rattle.sig_codec.specs.Reading as whole
use Rattle.sig_codec.proofs.Methods.{method_whole, whole_method_again, whole_property_again}
use Rattle.sig_codec.proofs.Numbers.{some_is}
use Rattle.sig_codec.proofs.Whole.{field_whole, whole_type_again, whole_field_again, whole_locals_again, whole_instantiation_again}
use Rattle.signature_facts.specs.Facts.{capped, type_facts, types_facts, method_facts}
use Rattle.signature_facts.specs.Owners.{AreFacts, AreBounded}
use Rattle.signature_facts.specs.Scanning as scan
use Rattle.signature_facts.specs.Scanning.{OwnersFacts}
use Rattle.signature_facts.specs.Sizes.{weight_by, types_weight_by}
use Rattle.signature_facts.proofs.Sizes.{type_sizes, types_sizes, method_sizes}
use Rattle.signature_facts.proofs.WholeTold as told
use Rattle.type_terms.specs.declared.reference.MethodSig.{MethodSig}
use Rattle.type_terms.specs.declared.term.Owner.{Owner}
use Rattle.type_terms.specs.declared.term.SigType.{SigType}
use Rattle.row_weights.specs.declared.kind.Kind.{Kind}
use Rattle.row_weights.specs.declared.kind.Kind.TheVariants as kind
use Rattle.row_weights.specs.Signatures.{type_weighed, method_weighed, list_weighed, locals_weighed, weighed_blob, weighed_in, weighed, number_of, key, AreWeighed}

-- ---- the blob at an index

pub weighed_found : (image : List ℕ) (facts : OwnersFacts) (kind : Kind) (index : ℕ) (b : List ℕ) → HasBlob (blobs_of image) index b → weighed image facts kind index ≡ weighed_blob facts kind b
unfolding weighed
weighed_found image facts kind index b h = ap (weighed_in facts kind) ((blob_is_computed (blobs_of image) index b).0 h)

pub weighed_lacks : (image : List ℕ) (facts : OwnersFacts) (kind : Kind) (index : ℕ) → ((b : List ℕ) → HasBlob (blobs_of image) index b → ⊥) → weighed image facts kind index ≡ 0
unfolding weighed
weighed_lacks image facts kind index lacks = go (blob_in (blobs_of image) index) refl
  where
    go : (r : Option (List ℕ)) → blob_in (blobs_of image) index ≡ r → weighed_in facts kind r ≡ 0
    go None e = refl
    go (Some b) e = absurd (lacks b ((blob_is_computed (blobs_of image) index b).1 e))

-- ---- keys

abbrev kind_of : ℕ → Kind
kind_of n = cond (nat_eq n 0) kind.Type (cond (nat_eq n 1) kind.Field (cond (nat_eq n 2) kind.Method (cond (nat_eq n 3) kind.Property (cond (nat_eq n 4) kind.Locals kind.Instantiation))))

kind_is : (k : Kind) → kind_of (number_of k) ≡ k
kind_is kind.Type = refl
kind_is kind.Field = refl
kind_is kind.Method = refl
kind_is kind.Property = refl
kind_is kind.Locals = refl
kind_is kind.Instantiation = refl

small : (k : Kind) → number_of k < 8
small kind.Type = omega arith
small kind.Field = omega arith
small kind.Method = omega arith
small kind.Property = omega arith
small kind.Locals = omega arith
small kind.Instantiation = omega arith

keys_tie : (k l : Kind) (i j : ℕ) → key k i ≡ key l j → (k ≡ l) × (i ≡ j)
keys_tie k l i j e =
    let a = small k in
    let b = small l in
    let n : number_of k ≡ number_of l = omega arith in
    (sym (kind_is k) ∙ ap kind_of n ∙ kind_is l, omega arith)

stays_behind : {X : Type 0} (xs ys : List X) (k : ℕ) (v : X) → slice_get xs k ≡ Some v → slice_get (xs ++ ys) k ≡ Some v
stays_behind [] ys k v e = absurd cc
stays_behind (x ∷ xs) ys zero v e = e
stays_behind (x ∷ xs) ys (suc k) v e = stays_behind xs ys k v e

last_there : {X : Type 0} (xs : List X) (v : X) → slice_get (xs ++ v ∷ []) (length xs) ≡ Some v
last_there [] v = refl
last_there (x ∷ xs) v = last_there xs v

module _ (image : List ℕ) (facts : OwnersFacts) where
  -- where nothing new has a place
  pub weighed_on : (old new : List Slot) (weights : List ℕ) (v : ℕ) → AreWeighed image facts old weights → ((q : ℕ) → place_of new q ≡ place_of old q) → AreWeighed image facts new (weights ++ v ∷ [])
  weighed_on old new weights v are same = record { kept = λ k i place e. stays_behind weights (v ∷ []) place (weighed image facts k i) (are.kept k i place (sym (same (key k i)) ∙ e)) }

  -- one more
  pub weighed_more : (old new : List Slot) (weights : List ℕ) (kind : Kind) (index : ℕ) → AreWeighed image facts old weights
      → ((q : ℕ) → place_of new q ≡ cond (nat_eq (key kind index) q) (Some (length weights)) (place_of old q)) → AreWeighed image facts new (weights ++ weighed image facts kind index ∷ [])
  weighed_more old new weights kind index are is = record { kept = λ k i place e. go k i place (nat_eq (key kind index) (key k i)) refl (sym (is (key k i)) ∙ e) }
    where
      go : (k : Kind) (i place : ℕ) (t : Bool) → nat_eq (key kind index) (key k i) ≡ t → cond t (Some (length weights)) (place_of old (key k i)) ≡ Some place
          → slice_get (weights ++ weighed image facts kind index ∷ []) place ≡ Some (weighed image facts k i)
      go k i place true t e =
          let same : key kind index ≡ key k i = grind (arith, common_steps) in
          let tie = keys_tie kind k index i same in
          ap (slice_get (weights ++ weighed image facts kind index ∷ [])) (sym (some_is (length weights) place e)) ∙ last_there weights (weighed image facts kind index)
          ∙ ap (λ (k : Kind). Some (weighed image facts k index)) tie.0 ∙ ap (λ (i : ℕ). Some (weighed image facts k i)) tie.1
      go k i place false t e = stays_behind weights (weighed image facts kind index ∷ []) place (weighed image facts k i) (are.kept k i place e)

  -- one more, or nothing new for want of memory
  pub weighed_after : {X E : Type 0} (r : Result X E) (old new : List Slot) (weights : List ℕ) (kind : Kind) (index hash place : ℕ) → AreWeighed image facts old weights → hash ≡ key kind index → place ≡ length weights
      → OnOk r ((q : ℕ) → place_of new q ≡ cond (nat_eq hash q) (Some place) (place_of old q)) → OnErr r ((q : ℕ) → place_of new q ≡ place_of old q)
      → AreWeighed image facts new (weights ++ weighed image facts kind index ∷ [])
  weighed_after (Ok x) old new weights kind index hash place are h p ok err = weighed_more old new weights kind index are (λ q. rw (h, p) at (ok q))
  weighed_after (Err e) old new weights kind index hash place are h p ok err = weighed_on old new weights (weighed image facts kind index) are err

-- ---- a method's signature and a field's begin otherwise

first_bytes : (a b c d : Bool) → (if a then 0x05 else 0x00) + (if b then 0x20 else 0x00) + (if c then 0x40 else 0x00) + (if d then 0x00 else 0x10) ≡ 0x06 → ⊥
first_bytes true true true true e = omega arith
first_bytes true true true false e = omega arith
first_bytes true true false true e = omega arith
first_bytes true true false false e = omega arith
first_bytes true false true true e = omega arith
first_bytes true false true false e = omega arith
first_bytes true false false true e = omega arith
first_bytes true false false false e = omega arith
first_bytes false true true true e = omega arith
first_bytes false true true false e = omega arith
first_bytes false true false true e = omega arith
first_bytes false true false false e = omega arith
first_bytes false false true true e = omega arith
first_bytes false false true false e = omega arith
first_bytes false false false true e = omega arith
first_bytes false false false false e = omega arith

head_is : (x y : ℕ) (xs ys : List ℕ) → ◌≡◌ {A = List ℕ} (x ∷ xs) (y ∷ ys) → x ≡ y
head_is x y xs ys e = cc

not_both : (owners : ℕ → Option Owner) (bytes : List ℕ) (s : MethodSig) (t : SigType) → IsMethod owners bytes s → IsField owners bytes t → ⊥
not_both owners bytes s t h k =
    first_bytes s.vararg s.has_this s.explicit_this (s.generic == 0) (head_is (method_byte s) 0x06 _ k.0.0 (sym h.0.whole ∙ k.0.1))

-- ---- what signatures weigh

types_sum : (ts : List SigType) → types_weight_by name_weight ts ≡ sum_by type_weight ts
types_sum [] = refl
types_sum (t ∷ ts) =
    let one : types_weight_by name_weight (t ∷ ts) ≡ type_weight t + types_weight_by name_weight ts = sum_by-cons (λ x. x) (weight_by name_weight t) (map (weight_by name_weight) ts) in
    one ∙ ap (λ (n : ℕ). type_weight t + n) (types_sum ts) ∙ sym (sum_by-cons type_weight t ts)

module _ (image : List ℕ) (owners : ℕ → Option Owner) (facts : OwnersFacts) (are : AreFacts weighing owners facts) (bounded : AreBounded owners) where
  type_scan : (b : List ℕ) (t : SigType) → IsType owners b t → scan.whole_type facts b ≡ Some (type_facts weighing t)
  type_scan b t is =
      told.moved facts weighing owners are (λ (f : OwnersFacts). scan.whole_type f b) ∙ told.type_whole weighing owners bounded b
      ∙ ap (option_map (type_facts weighing)) (whole_type_again owners b t is)

  field_scan : (b : List ℕ) (r : Option SigType) → whole.whole_field owners b ≡ r → scan.whole_field facts b ≡ option_map (type_facts weighing) r
  field_scan b r e =
      told.moved facts weighing owners are (λ (f : OwnersFacts). scan.whole_field f b) ∙ told.field_whole weighing owners bounded b ∙ ap (option_map (type_facts weighing)) e

  method_scan : (b : List ℕ) (r : Option MethodSig) → whole.whole_method owners b ≡ r → scan.whole_method facts b ≡ option_map (method_facts weighing) r
  method_scan b r e =
      told.moved facts weighing owners are (λ (f : OwnersFacts). scan.whole_method f b) ∙ told.method_whole weighing owners bounded b
      ∙ ap (option_map (method_facts weighing)) e

  property_scan : (b : List ℕ) (s : MethodSig) → IsProperty owners b s → scan.whole_property facts b ≡ Some (method_facts weighing s)
  property_scan b s is =
      told.moved facts weighing owners are (λ (f : OwnersFacts). scan.whole_property f b) ∙ told.property_whole weighing owners bounded b
      ∙ ap (option_map (method_facts weighing)) (whole_property_again owners b s is)

  locals_scan : (b : List ℕ) (ts : List SigType) → AreLocals owners b ts → scan.whole_locals facts b ≡ Some (types_facts weighing ts)
  locals_scan b ts is =
      told.moved facts weighing owners are (λ (f : OwnersFacts). scan.whole_locals f b) ∙ told.locals_whole weighing owners bounded b
      ∙ ap (option_map (types_facts weighing)) (whole_locals_again owners b ts is)

  arguments_scan : (b : List ℕ) (ts : List SigType) → IsInstantiation owners b ts → scan.whole_instantiation facts b ≡ Some (types_facts weighing ts)
  arguments_scan b ts is =
      told.moved facts weighing owners are (λ (f : OwnersFacts). scan.whole_instantiation f b) ∙ told.instantiation_whole weighing owners bounded b
      ∙ ap (option_map (types_facts weighing)) (whole_instantiation_again owners b ts is)

  type_is : (t : SigType) → (type_facts weighing t).weight ≡ capped (type_weight t)
  type_is t = (type_sizes weighing t).weighs

  sig_is : (s : MethodSig) → (method_facts weighing s).facts.weight ≡ capped (signature_weight s)
  unfolding signature_weight
  sig_is s =
      let w : (method_facts weighing s).facts.weight ≡ capped (type_weight s.ret + types_weight_by name_weight s.params) = (method_sizes weighing s).weighs in
      w ∙ ap (λ (n : ℕ). capped (type_weight s.ret + n)) (types_sum s.params)

  types_is : (ts : List SigType) → (types_facts weighing ts).facts.weight ≡ capped (sum_by type_weight ts)
  types_is ts =
      let w : (types_facts weighing ts).facts.weight ≡ capped (types_weight_by name_weight ts) = (types_sizes weighing ts).weighs in
      w ∙ ap capped (types_sum ts)

  count_is : (ts : List SigType) → (types_facts weighing ts).count ≡ length ts
  unfolding types_facts
  count_is ts = refl

  locals_is : (ts : List SigType) → locals_weighed (Some (types_facts weighing ts)) ≡ capped (64 * length ts + sum_by type_weight ts)
  locals_is ts = omega (arith, types_is ts, count_is ts)

  pub type_weighs : (index : ℕ) (b : List ℕ) (t : SigType) → HasBlob (blobs_of image) index b → IsType owners b t → weighed image facts kind.Type index ≡ capped (type_weight t)
  type_weighs index b t h is = weighed_found image facts kind.Type index b h ∙ ap type_weighed (type_scan b t is) ∙ type_is t

  pub field_weighs : (index : ℕ) (b : List ℕ) (t : SigType) → HasBlob (blobs_of image) index b → IsField owners b t → weighed image facts kind.Field index ≡ capped (type_weight t)
  field_weighs index b t h is = weighed_found image facts kind.Field index b h ∙ ap type_weighed (field_scan b (Some t) (whole_field_again owners b t is)) ∙ type_is t

  pub method_weighs : (index : ℕ) (b : List ℕ) (s : MethodSig) → HasBlob (blobs_of image) index b → IsMethod owners b s → weighed image facts kind.Method index ≡ capped (signature_weight s)
  method_weighs index b s h is = weighed_found image facts kind.Method index b h ∙ ap method_weighed (method_scan b (Some s) (whole_method_again owners b s is)) ∙ sig_is s

  pub property_weighs : (index : ℕ) (b : List ℕ) (s : MethodSig) → HasBlob (blobs_of image) index b → IsProperty owners b s → weighed image facts kind.Property index ≡ capped (signature_weight s)
  property_weighs index b s h is = weighed_found image facts kind.Property index b h ∙ ap method_weighed (property_scan b s is) ∙ sig_is s

  pub locals_weigh : (index : ℕ) (b : List ℕ) (ts : List SigType) → HasBlob (blobs_of image) index b → AreLocals owners b ts
      → weighed image facts kind.Locals index ≡ capped (64 * length ts + sum_by type_weight ts)
  locals_weigh index b ts h is = weighed_found image facts kind.Locals index b h ∙ ap locals_weighed (locals_scan b ts is) ∙ locals_is ts

  pub arguments_weigh : (index : ℕ) (b : List ℕ) (ts : List SigType) → HasBlob (blobs_of image) index b → IsInstantiation owners b ts → weighed image facts kind.Instantiation index ≡ capped (sum_by type_weight ts)
  arguments_weigh index b ts h is = weighed_found image facts kind.Instantiation index b h ∙ ap list_weighed (arguments_scan b ts is) ∙ types_is ts

  -- a method's signature is no field's, and a field's no method's
  no_field : (b : List ℕ) (s : MethodSig) → IsMethod owners b s → (r : Option SigType) → whole.whole_field owners b ≡ r → r ≡ None
  no_field b s is None e = refl
  no_field b s is (Some t) e = absurd (not_both owners b s t is (field_whole owners b t e))

  no_method : (b : List ℕ) (t : SigType) → IsField owners b t → (r : Option MethodSig) → whole.whole_method owners b ≡ r → r ≡ None
  no_method b t is None e = refl
  no_method b t is (Some s) e = absurd (not_both owners b s t (method_whole owners b s e) is)

  pub method_alone : (index : ℕ) (b : List ℕ) (s : MethodSig) → HasBlob (blobs_of image) index b → IsMethod owners b s → weighed image facts kind.Field index ≡ 0
  method_alone index b s h is =
      weighed_found image facts kind.Field index b h ∙ ap type_weighed (field_scan b None (no_field b s is (whole.whole_field owners b) refl))

  pub field_alone : (index : ℕ) (b : List ℕ) (t : SigType) → HasBlob (blobs_of image) index b → IsField owners b t → weighed image facts kind.Method index ≡ 0
  field_alone index b t h is =
      weighed_found image facts kind.Method index b h ∙ ap method_weighed (method_scan b None (no_method b t is (whole.whole_method owners b) refl))
