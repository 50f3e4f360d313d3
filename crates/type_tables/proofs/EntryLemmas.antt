-- The first places of names, as their list grows.
use Rattle.std.proofs.Common.{◌≡◌, ◌∙◌, ap, refl, sym, ℕ, ◌+◌, ◌<◌, Bool, true, false, ◌||◌, cond, List, [], ◌∷◌, ◌++◌, length, get_or, None, Some, arith, inl, inr}
use Rattle.std.specs.Prelude.{position, nat_lt, nat_eq, slice_get}
use Rattle.std.specs.List.{position_or_len, list_any}
use Rattle.std.proofs.lemmas.Bool.{cases_Bool}
use Rattle.std.proofs.lemmas.Bool.Decides.{nat_tests, Decides-ltb}
use Rattle.std.proofs.lemmas.List.{length-append, append_assoc, append-nil}
use Rattle.std.proofs.lemmas.List.Folds.{position_or_len_push}
use Rattle.std.proofs.lemmas.Grind.{common_steps}
use Rattle.std.proofs.lemmas.Option.{slice_get_within, slice_get-get_or}
use lib.Pointwise.{bytes_decides}
use Rattle.type_tables.specs.Entries.{IsEntries, extended}
use Rattle.type_hierarchy.specs.Names.{same_text}
use Rattle.type_hierarchy.specs.Scopes.{new_names}
use Rattle.type_tables.specs.declared.entries.Entries.{Entries}
use Rattle.type_hierarchy.proofs.ChainLemmas.{snoc_cases, snoc_old, snoc_new}

text_same : (name : List ℕ) → same_text name name ≡ true
text_same name = (bytes_decides name name).1 refl

text_other : (a b : List ℕ) → (a ≡ b → ⊥) → same_text a b ≡ false
text_other a b n = elim (cases_Bool (same_text a b)) [
  | inl e ↦ absurd (n ((bytes_decides a b).0 e))
  | inr e ↦ e
]

pub length_more : (all : List (List ℕ)) (name : List ℕ) → length (all ++ name ∷ []) ≡ length all + 1
length_more all name = length-append all (name ∷ [])

-- ---- one more at the end

stays : (all : List (List ℕ)) (n name : List ℕ) (k : ℕ) → k < length all → position_or_len (same_text n) all ≡ k
    → position_or_len (same_text n) (all ++ name ∷ []) ≡ k
stays all n name k low is =
    let no : nat_eq (position_or_len (same_text n) all) (length all) ≡ false = grind (arith, nat_tests) in
    position_or_len_push (same_text n) all name ∙ ap (λ b. cond b (length all + cond (same_text n name) 0 1) (position_or_len (same_text n) all)) no ∙ is

at_end : (all : List (List ℕ)) (n name : List ℕ) → position_or_len (same_text n) all ≡ length all
    → position_or_len (same_text n) (all ++ name ∷ []) ≡ length all + cond (same_text n name) 0 1
at_end all n name is =
    let yes : nat_eq (position_or_len (same_text n) all) (length all) ≡ true = grind (arith, nat_tests) in
    position_or_len_push (same_text n) all name ∙ ap (λ b. cond b (length all + cond (same_text n name) 0 1) (position_or_len (same_text n) all)) yes

past : (all : List (List ℕ)) (n name : List ℕ) → position_or_len (same_text n) all ≡ length all → (n ≡ name → ⊥)
    → position_or_len (same_text n) (all ++ name ∷ []) ≡ length (all ++ name ∷ [])
past all n name is other =
    at_end all n name is ∙ ap (λ b. length all + cond b 0 1) (text_other n name other) ∙ sym (length_more all name)

-- a name that is there already
pub entry_known : (e f : Entries) (all : List (List ℕ)) (name : List ℕ) (j : ℕ) → IsEntries e all → slice_get e.texts j ≡ Some name
    → f.texts ≡ e.texts → f.places ≡ e.places → f.count ≡ e.count + 1 → IsEntries f (all ++ name ∷ [])
entry_known e f all name j ok at ts ps cs =
    let more = length_more all name in
    record {
      count = cs ∙ ap (λ n. n + 1) ok.count ∙ sym more;
      aligned = ap length ts ∙ ok.aligned ∙ sym (ap length ps);
      found = λ n i k h g.
          let was = ok.found n i k (ap (λ l. slice_get l i) (sym ts) ∙ h) (ap (λ l. slice_get l i) (sym ps) ∙ g) in
          (omega (arith, was.0, more), stays all n name k was.0 was.1);
      lacks = λ n none.
          past all n name (ok.lacks n (λ i h. none i (ap (λ l. slice_get l i) ts ∙ h)))
          (λ same. none j (ap (λ l. slice_get l j) ts ∙ at ∙ ap Some (sym same)));
    }

found_here : (all : List (List ℕ)) (name : List ℕ) → position_or_len (same_text name) all ≡ length all
    → position_or_len (same_text name) (all ++ name ∷ []) ≡ length all
found_here all name is = let e = at_end all name name is ∙ ap (λ b. length all + cond b 0 1) (text_same name) in omega (arith, e)

found_new : (e : Entries) (all : List (List ℕ)) (name : List ℕ) → IsEntries e all → ((j : ℕ) → slice_get e.texts j ≡ Some name → ⊥)
    → (n : List ℕ) (i k : ℕ) → slice_get (e.texts ++ name ∷ []) i ≡ Some n → slice_get (e.places ++ e.count ∷ []) i ≡ Some k
    → (k < length (all ++ name ∷ [])) × (position_or_len (same_text n) (all ++ name ∷ []) ≡ k)
found_new e all name ok absent n i k h g =
    let more = length_more all name in
    let aligned = ok.aligned in
    elim (snoc_cases e.texts name n i h) [
      | inl old ↦ let low = slice_get_within e.texts i n old in elim (snoc_cases e.places e.count k i g) [
        | inl was ↦ let f = ok.found n i k old was in (omega (arith, f.0, more), stays all n name k f.0 f.1)
        | inr last ↦ absurd (let at = last.0 in omega arith)
      ]
      | inr new ↦ let at = new.0 in elim (snoc_cases e.places e.count k i g) [
        | inl was ↦ absurd (let low = slice_get_within e.places i k was in omega arith)
        | inr last ↦
            let count = ok.count in
            let is = last.1 in
            let here = found_here all name (ok.lacks name absent) in
            (omega (arith, more), ap (λ (m : List ℕ). position_or_len (same_text m) (all ++ name ∷ [])) new.1 ∙ here ∙ sym count ∙ sym is)
      ]
    ]

-- a name that isn't there
pub entry_new : (e f : Entries) (all : List (List ℕ)) (name : List ℕ) → IsEntries e all → ((j : ℕ) → slice_get e.texts j ≡ Some name → ⊥)
    → f.texts ≡ e.texts ++ name ∷ [] → f.places ≡ e.places ++ e.count ∷ [] → f.count ≡ e.count + 1 → IsEntries f (all ++ name ∷ [])
entry_new e f all name ok absent ts ps cs =
    let more = length_more all name in
    record {
      count = cs ∙ ap (λ n. n + 1) ok.count ∙ sym more;
      aligned = ap length ts ∙ length-append e.texts (name ∷ []) ∙ ap (λ n. n + 1) ok.aligned ∙ sym (length-append e.places (e.count ∷ [])) ∙ sym (ap length ps);
      found = λ n i k h g. found_new e all name ok absent n i k (ap (λ l. slice_get l i) (sym ts) ∙ h) (ap (λ l. slice_get l i) (sym ps) ∙ g);
      lacks = λ n none.
          past all n name (ok.lacks n (λ i h. none i (ap (λ l. slice_get l i) ts ∙ snoc_old e.texts name n i h)))
          (λ same. none (length e.texts) (ap (λ l. slice_get l (length e.texts)) ts ∙ snoc_new e.texts name (length e.texts) refl ∙ ap Some (sym same)));
    }

-- ---- the place of a name

pub place_found : (e : Entries) (all : List (List ℕ)) (name : List ℕ) (j k : ℕ) → IsEntries e all → slice_get e.texts j ≡ Some name
    → slice_get e.places j ≡ Some k → position (same_text name) all ≡ Some k
place_found e all name j k ok at is =
    let f = ok.found name j k at is in
    let low : position_or_len (same_text name) all < length all = omega (arith, f.0, f.1) in
    ap (λ b. cond b (Some (position_or_len (same_text name) all)) None) ((Decides-ltb (position_or_len (same_text name) all) (length all)).1 low) ∙ ap Some f.1

pub place_none : (e : Entries) (all : List (List ℕ)) (name : List ℕ) → IsEntries e all → ((j : ℕ) → slice_get e.texts j ≡ Some name → ⊥)
    → position (same_text name) all ≡ None
place_none e all name ok none =
    let is = ok.lacks name none in
    let no : nat_lt (position_or_len (same_text name) all) (length all) ≡ false = grind (arith, nat_tests) in
    ap (λ b. cond b (Some (position_or_len (same_text name) all)) None) no

-- ---- new names

-- a name is among the entries exactly where it has a place
any_place : {X : Type 0} (p : X → Bool) (xs : List X) → list_any p xs ≡ nat_lt (position_or_len p xs) (length xs)
any_place p [] = refl
any_place p (x ∷ xs) = let rest = any_place p xs in grind (arith, nat_tests, common_steps)

known_any : (all : List (List ℕ)) (n : List ℕ) → position_or_len (same_text n) all < length all → list_any (same_text n) all ≡ true
known_any all n low = any_place (same_text n) all ∙ (Decides-ltb (position_or_len (same_text n) all) (length all)).1 low

unknown_any : (all : List (List ℕ)) (n : List ℕ) → position_or_len (same_text n) all ≡ length all → list_any (same_text n) all ≡ false
unknown_any all n is =
    let no : nat_lt (position_or_len (same_text n) all) (length all) ≡ false = grind (arith, nat_tests) in
    any_place (same_text n) all ∙ no

pub extended_none : (image : List ℕ) (all : List (List ℕ)) → extended image all [] ≡ all
unfolding extended
extended_none image all = append-nil all

pub extended_by : (image name : List ℕ) (all names : List (List ℕ)) → extended image (extended image all (name ∷ [])) names ≡ extended image all (name ∷ names)
unfolding extended
extended_by image name all names = elim (cases_Bool (list_any (same_text name) (image ∷ all))) [
  | inl e ↦ rw e (ap (λ l. l ++ new_names (image ∷ l) names) (append-nil all))
  | inr e ↦ rw e (append_assoc all (name ∷ []) (new_names (image ∷ (all ++ name ∷ [])) names))
]

or_true : (b : Bool) → (b || true) ≡ true
or_true true = refl
or_true false = refl

pub is_image : (image name : List ℕ) (all : List (List ℕ)) → name ≡ image → extended image all (name ∷ []) ≡ all
unfolding extended
is_image image name all e =
    let yes : list_any (same_text name) (image ∷ all) ≡ true = ap (λ b. b || list_any (same_text name) all) ((bytes_decides name image).1 e) in
    rw yes (append-nil all)

pub is_known : (e : Entries) (image name : List ℕ) (all : List (List ℕ)) (j : ℕ) → IsEntries e all → slice_get e.texts j ≡ Some name
    → extended image all (name ∷ []) ≡ all
unfolding extended
is_known e image name all j ok at =
    let low = slice_get_within e.texts j name at in
    let aligned = ok.aligned in
    let f = ok.found name j (get_or e.places j 0) at (slice_get-get_or e.places j 0 (omega arith)) in
    let among = known_any all name (omega (arith, f.0, f.1)) in
    let yes : list_any (same_text name) (image ∷ all) ≡ true = ap (λ b. same_text name image || b) among ∙ or_true (same_text name image) in
    rw yes (append-nil all)

pub is_new : (e : Entries) (image name : List ℕ) (all : List (List ℕ)) → IsEntries e all → (name ≡ image → ⊥)
    → ((j : ℕ) → slice_get e.texts j ≡ Some name → ⊥) → extended image all (name ∷ []) ≡ all ++ name ∷ []
unfolding extended
is_new e image name all ok other none =
    let among = unknown_any all name (ok.lacks name none) in
    let no : list_any (same_text name) (image ∷ all) ≡ false = ap (λ b. b || list_any (same_text name) all) (text_other name image other) ∙ among in
    rw no refl

pub extended_both : (image : List ℕ) (all a b : List (List ℕ)) → extended image (extended image all a) b ≡ extended image all (a ++ b)
extended_both image all [] b = ap (λ l. extended image l b) (extended_none image all)
extended_both image all (n ∷ a) b =
    ap (λ l. extended image l b) (sym (extended_by image n all a))
    ∙ extended_both image (extended image all (n ∷ [])) a b ∙ extended_by image n all (a ++ b)
