-- Lists of which no element is the same as one before it.
use Rattle.std.proofs.Common.{◌≡◌, inl, inr, List, [], ◌∷◌, ◌++◌, map, refl, ap, sym, subst, ◌∙◌}
use Rattle.std.specs.Prelude.{Bool, true, false, if◌then◌else◌}
use Rattle.std.specs.List.{list_any}
use Rattle.std.proofs.lemmas.Bool.{or_left, or_right}
use Rattle.std.proofs.lemmas.List.{map-append}
use Rattle.source_model.specs.DeclaredTwice.{repeats, repeats_after}
use Rattle.laws_formed_sources.proofs.sources.Members.{Apart, In, from_map, in_back, in_front}

pub no_map : {X Y : Type 0} (f : X → Y) (xs : List X) → map f xs ≡ [] → xs ≡ []
no_map f [] e = refl
no_map f (x ∷ xs) e = absurd cc

pub any_of : {X : Type 0} (test : X → Bool) (xs : List X) (x : X) → In x xs → test x ≡ true → list_any test xs ≡ true
any_of test [] x h e = absurd h
any_of test (y ∷ ys) x (inl is) e = or_left (test y) (list_any test ys) (ap test is ∙ e)
any_of test (y ∷ ys) x (inr h) e = or_right (test y) (list_any test ys) (any_of test ys x h e)

-- two that lead to one value are the same
module _ {X Y : Type 0} (same : X → X → Bool) (f : X → Y) (one : (x y : X) → f x ≡ f y → same x y ≡ true) where
  record NoneAfter (before xs : List X) : Type 0 where
    sides : (q : Y) → In q (map f before) → In q (map f xs) → ⊥
    apart : Apart (map f xs)

  no_repeat : (before : List X) (x : X) (xs : List X) → repeats_after same before (x ∷ xs) ≡ []
      → (list_any (same x) before ≡ false) × (repeats_after same (before ++ x ∷ []) xs ≡ [])
  no_repeat before x xs e = go (list_any (same x) before) refl
    where
      go : (c : Bool) → list_any (same x) before ≡ c → (list_any (same x) before ≡ false) × (repeats_after same (before ++ x ∷ []) xs ≡ [])
      go true is =
          let h : x ∷ repeats_after same (before ++ x ∷ []) xs ≡ [] =
          sym (ap (λ (c : Bool). (if c then x ∷ [] else []) ++ repeats_after same (before ++ x ∷ []) xs) is) ∙ e in
          absurd cc
      go false fresh = (fresh, sym (ap (λ (c : Bool). (if c then x ∷ [] else []) ++ repeats_after same (before ++ x ∷ []) xs) fresh) ∙ e)

  side : (before : List X) (x : X) (xs : List X) → list_any (same x) before ≡ false → NoneAfter (before ++ x ∷ []) xs → (q : Y) → In q (map f before) → In q (map f (x ∷ xs)) → ⊥
  side before x xs fresh more q i (inl is) =
      let r = from_map f q before i in
      let h : list_any (same x) before ≡ true = any_of (same x) before r.0 r.2 (one x r.0 (is ∙ sym r.1)) in
      absurd cc
  side before x xs fresh more q i (inr j) =
      more.sides q (subst (In q) (sym (map-append f before (x ∷ []))) (in_front q (map f before) (f x ∷ []) i)) j

  none_after : (before xs : List X) → repeats_after same before xs ≡ [] → NoneAfter before xs
  none_after before [] e = record { sides = λ q i j. j; apart = tt }
  none_after before (x ∷ xs) e =
      let h = no_repeat before x xs e in
      let more = none_after (before ++ x ∷ []) xs h.1 in
      record {
        sides = side before x xs h.0 more;
        apart = (
          (λ i. more.sides (f x) (subst (In (f x)) (sym (map-append f before (x ∷ []))) (in_back (f x) (map f before) (f x ∷ []) (inl refl))) i),
          more.apart,
        );
      }

  pub none_twice : (xs : List X) → repeats same xs ≡ [] → Apart (map f xs)
  none_twice xs e = (none_after [] xs e).apart
