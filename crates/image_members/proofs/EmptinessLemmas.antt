-- Rows that own nothing.
use Rattle.std.proofs.Common.{◌≡◌, ap, arith, refl, ◌∙◌, ℕ, zero, suc, ◌+◌, List, [], ◌∷◌, ◌++◌, length, map}
use Rattle.std.specs.Borrow.{Bor}
use Rattle.std.specs.Prelude.{◌||◌, ◌≤◌, Bool, false, nat_lt, slice_get}
use Rattle.std.specs.List.{AllByRecursion, enumerate_from, flat_map, list_any}
use Rattle.std.proofs.lemmas.Bool.{ltb-false, or_parts}
use Rattle.assembly_tree.specs.declared.assembly.Assembly.{Assembly}
use Rattle.assembly_tree.specs.declared.members.Event.{Event}
use Rattle.assembly_tree.specs.declared.members.Property.{Property}
use Rattle.metadata_tables.specs.declared.coded.Coded.{Coded}
use Rattle.metadata_tables.specs.declared.coded.Coded.TheVariants.{HasSemantics}
use Rattle.image_tokens.specs.Indexes.{index_of}
use Rattle.image_members.specs.ByNumber.{or_none, owned_at, owned_in, by_number}
use Rattle.image_members.specs.DeclaredMembers.{class_methods}
use Rattle.image_members.specs.Emptiness.{any_has_item, has_item}
use Rattle.image_members.specs.Lists.{access_from, access_of, accessor_items, event_access, events_in, longest_of, properties_in, property_access}
use Rattle.image_members.specs.Places.{class_events, class_properties, lent}
use Rattle.image_members.specs.declared.classes.Class.{Class}

-- none of the lists has an item
abbrev pub AreEmpty : {X : Type 0} → List (List X) → Type 0
AreEmpty {X} lists = AllByRecursion (λ (xs : List X). xs ≡ []) lists

module _ {X : Type 0} where
  nothing_at : (lists : List (List X)) (k : ℕ) → AreEmpty lists → or_none (slice_get lists k) ≡ []
  nothing_at [] k h = refl
  nothing_at (xs ∷ more) zero h = h.0
  nothing_at (xs ∷ more) (suc k) h = nothing_at more k h.1

  pub nothing_owned : (kind : Coded) (table k : ℕ) (lists : List (List X)) → AreEmpty lists → owned_in kind k (table, lists) ≡ []
  nothing_owned kind table k lists h = ap (map (λ (x : X). (index_of kind table (k + 1), x))) (nothing_at lists k h)

  pub empty_counted : (lists : List (List X)) → AreEmpty lists → AreEmpty (map (λ (xs : List X). enumerate_from 0 xs) lists)
  empty_counted [] h = h
  empty_counted (xs ∷ more) h = (ap (enumerate_from 0) h.0, empty_counted more h.1)

  pub nothing_in_all : {Y : Type 0} (f : Y → List X) → ((y : Y) → f y ≡ []) → (ys : List Y) → flat_map f ys ≡ []
  nothing_in_all f h [] = refl
  nothing_in_all f h (y ∷ ys) = ap (λ (xs : List X). xs ++ flat_map f ys) (h y) ∙ nothing_in_all f h ys

  pub lent_none : (xs : List (Bor X)) → lent xs ≡ [] → xs ≡ []
  lent_none [] e = refl
  lent_none (x ∷ xs) e = absurd (cc e)

  -- the test of each list, and that of what it leads to
  pub lent_tested : (lists : List (Bor (List X))) → list_any (λ (list : Bor (List X)). nat_lt 0 (length list.now)) lists ≡ any_has_item lists
  lent_tested [] = refl
  lent_tested (xs ∷ more) = ap (λ (rest : Bool). has_item xs.now || rest) (lent_tested more)

  empty_tested : (xs : List X) → has_item xs ≡ false → xs ≡ []
  empty_tested [] e = refl
  empty_tested (x ∷ xs) e = absurd (let none : suc (length xs) ≤ 0 = ltb-false 0 (suc (length xs)) e in omega arith)

  pub none_tested : (lists : List (Bor (List X))) → any_has_item lists ≡ false → AreEmpty (lent lists)
  none_tested [] e = tt
  none_tested (xs ∷ more) e = let parts = or_parts (has_item xs.now) (any_has_item more) e in (empty_tested xs.now parts.0, none_tested more parts.1)

  pub none_at : {T : Type 0} (kind : Coded) (of : T → ℕ × List (List X)) (test : T → Bool) → ((t : T) → test t ≡ false → AreEmpty (of t).1)
      → (k : ℕ) (ts : List T) → list_any test ts ≡ false → owned_at kind (map of ts) k ≡ []
  none_at kind of test law k [] e = refl
  none_at kind of test law k (t ∷ ts) e =
      let parts = or_parts (test t) (list_any test ts) e in
      ap (λ (xs : List (ℕ × X)). xs ++ owned_at kind (map of ts) k) (nothing_owned kind (of t).0 k (of t).1 (law t parts.0)) ∙ none_at kind of test law k ts parts.1

  -- two lists without items
  pub no_front : (xs ys : List X) → xs ++ ys ≡ [] → xs ≡ []
  no_front [] ys e = refl
  no_front (x ∷ xs) ys e = absurd (cc e)

  pub no_back : (xs ys : List X) → xs ++ ys ≡ [] → ys ≡ []
  no_back [] ys e = e
  no_back (x ∷ xs) ys e = absurd (cc e)

-- types without events, or without properties, have no accessors
pub no_access : {X : Type 0} (items : Class → List X) (access : ℕ → Class → List (List (ℕ × ℕ))) → ((first : ℕ) (c : Class) → items c ≡ [] → access first c ≡ [])
    → (first : ℕ) (classes : List Class) → flat_map items classes ≡ [] → access_from access first classes ≡ []
no_access items access law first [] e = refl
no_access items access law first (c ∷ cs) e =
    ap (λ xs. xs ++ access_from access (first + length (class_methods c)) cs) (law first c (no_front (items c) (flat_map items cs) e))
    ∙ no_access items access law (first + length (class_methods c)) cs (no_back (items c) (flat_map items cs) e)

pub no_accessors : (a : Assembly) (classes : List Class) → events_in classes ≡ [] → properties_in classes ≡ [] → accessor_items a classes ≡ []
no_accessors a classes events properties =
    let first = 1 + length a.methods in
    let of : List (List (ℕ × ℕ)) → List (List (ℕ × ℕ)) → List (ℕ × (ℕ × ℕ)) =
    λ es ps. by_number HasSemantics ((0x14, es) ∷ (0x17, ps) ∷ []) (longest_of ((0x14, es) ∷ (0x17, ps) ∷ [])) in
    ap (λ es. of es (access_from property_access first classes)) (no_access class_events event_access (λ n c e. ap (map (λ (x : Event). access_of n x.accessors)) e) first classes events)
    ∙ ap (λ ps. of [] ps) (no_access class_properties property_access (λ n c e. ap (map (λ (x : Property). access_of n x.accessors)) e) first classes properties)
