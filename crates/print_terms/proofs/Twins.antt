-- A name is there twice where another assembly has it.
use Rattle.std.proofs.Common.{◌≡◌, ℕ, zero, suc, ◌+◌, ◌<◌, ◌≤◌, Bool, true, false, cond, nat_lt, nat_eq, List, [], ◌∷◌, ◌++◌, length, take, map, get_or, filter, Option, Some, inl, inr, refl, ap, sym, subst, ◌∙◌, true≢false, arith}
use Rattle.std.proofs.lemmas.Bool.{cases_eq, cases_order, lt-ltb, le-ltb}
use Rattle.std.specs.Cmp.Lexicographic.{bytes_decides}
use Rattle.std.proofs.lemmas.List.{take_more}
use Rattle.std.specs.Prelude.{slice_get, bytes_eq, option_map}
use Rattle.il_lexer.specs.Classes.{first_is}
use Rattle.type_terms.specs.Hashing.{mix_text}
use Rattle.listing_model.specs.Types.{has_alias}
use Rattle.print_terms.specs.Chains.{IsChained}
use Rattle.assembly_tree.specs.declared.assembly.ExternAssembly.{ExternAssembly}
use Rattle.print_terms.specs.Names.{name_hash, is_repeated, IsTwin}
use Rattle.print_terms.proofs.Chains.{chain_push}
use Rattle.print_terms.proofs.Counts.{two_at_least, one_at_most}

abbrev has_name : ExternAssembly → ExternAssembly → Bool
has_name d other = bytes_eq other.name d.name

own_name : (d : ExternAssembly) → has_name d d ≡ true
own_name d = (bytes_decides d.name d.name).1 refl

pub twin_repeats : (externs : List ExternAssembly) (k j : ℕ) (d c : ExternAssembly) → IsTwin externs k j d c → is_repeated externs d ≡ true
twin_repeats externs k j d c t =
    let same : has_name d c ≡ true = (bytes_decides c.name d.name).1 t.same in
    elim (cases_order j k) [
      | inl e ↦ absurd (t.apart e)
      | inr o ↦ elim o [
        | inl l ↦ let two = two_at_least (has_name d) externs j k c d t.there same t.here (own_name d) l in lt-ltb 1 (length (filter (has_name d) externs)) two
        | inr l ↦ let two = two_at_least (has_name d) externs k j d c t.here (own_name d) t.there same l in lt-ltb 1 (length (filter (has_name d) externs)) two
      ]
    ]

pub none_repeats : (externs : List ExternAssembly) (k : ℕ) (d : ExternAssembly) → slice_get externs k ≡ Some d →
    ((j : ℕ) (c : ExternAssembly) → IsTwin externs k j d c → ⊥) → is_repeated externs d ≡ false
none_repeats externs k d here none =
    let one = one_at_most (has_name d) externs k (λ j c at e. elim (cases_eq j k) [
      | inl same ↦ same
      | inr apart ↦ absurd (none j c (record { here = here; there = at; apart = apart; same = (bytes_decides c.name d.name).0 e }))
    ]) in
    le-ltb 1 (length (filter (has_name d) externs)) one

-- ---- as the code does it

pub at_is : {X : Type 0} (xs : List X) (k : ℕ) (x : X) → k < length xs → x ≡ get_or xs k x → slice_get xs k ≡ Some x
at_is [] k x h e = absurd (omega arith)
at_is (y ∷ ys) zero x h e = ap Some (sym e)
at_is (y ∷ ys) (suc k) x h e = at_is ys k x (omega arith) e

got_is : {X : Type 0} (xs : List X) (k : ℕ) (x d : X) → slice_get xs k ≡ Some x → get_or xs k d ≡ x
got_is [] k x d h = absurd cc
got_is (y ∷ ys) zero x d h = cc
got_is (y ∷ ys) (suc k) x d h = got_is ys k x d h

pub map_more : {X Y : Type 0} (f : X → Y) (xs : List X) (k : ℕ) (r : Y) → Some r ≡ option_map f (slice_get xs k) → map f (take (suc k) xs) ≡ map f (take k xs) ++ r ∷ []
map_more f [] k r e = absurd cc
map_more f (x ∷ xs) zero r e = let same : r ≡ f x = cc in ap (λ y. y ∷ []) (sym same)
map_more f (x ∷ xs) (suc k) r e = ap (λ ys. f x ∷ ys) (map_more f xs k r e)

module _ (externs : List ExternAssembly) where
  pub repeated_yes : (k place : ℕ) (e d : ExternAssembly) (a b : List ℕ) → k < length externs → e ≡ get_or externs k e → place < length externs →
      d ≡ get_or externs place d → (place ≡ k → ⊥) → a ≡ (get_or externs place d).name → b ≡ e.name → bytes_eq a b ≡ true →
      Some true ≡ option_map (is_repeated externs) (slice_get externs k)
  repeated_yes k place e d a b hk he hp hd apart ha hb same =
      let here = at_is externs k e hk he in
      let there = at_is externs place d hp hd in
      let names : d.name ≡ e.name = ap (λ x. x.name) hd ∙ (sym ha ∙ ((bytes_decides a b).0 same ∙ hb)) in
      ap Some (sym (twin_repeats externs k place e d (record { here = here; there = there; apart = apart; same = names })))
      ∙ ap (option_map (is_repeated externs)) (sym here)

  pub repeated_no : (k : ℕ) (e : ExternAssembly) → k < length externs → e ≡ get_or externs k e →
      ((j : ℕ) (c : ExternAssembly) → IsTwin externs k j e c → ⊥) → Some false ≡ option_map (is_repeated externs) (slice_get externs k)
  repeated_no k e hk he none =
      let here = at_is externs k e hk he in
      ap Some (sym (none_repeats externs k e here none)) ∙ ap (option_map (is_repeated externs)) (sym here)

  pub no_twin : (k place : ℕ) (e d c : ExternAssembly) (a b : List ℕ) → a ≡ (get_or externs place d).name → b ≡ e.name → bytes_eq a b ≡ false →
      IsTwin externs k place e c → ⊥
  no_twin k place e d c a b ha hb other t =
      let names : a ≡ b = ha ∙ (ap (λ x. x.name) (got_is externs place c d t.there) ∙ (t.same ∙ sym hb)) in
      true≢false (sym ((bytes_decides a b).1 names) ∙ other)

  pub ahead_step : (newest : ℕ → Option ℕ) (nexts : List (Option ℕ)) → IsChained name_hash newest externs nexts → (k place : ℕ) (e x : ExternAssembly) (next : Option ℕ) →
      slice_get externs place ≡ Some x → name_hash x ≡ name_hash e → slice_get nexts place ≡ Some next →
      ((c : ExternAssembly) → IsTwin externs k place e c → ⊥) → (j : ℕ) (c : ExternAssembly) → IsTwin externs k j e c → j ≤ place →
      (m : ℕ) × (next ≡ Some m) × (j ≤ m)
  ahead_step newest nexts ok k place e x next at eh link none j c t below =
      elim (cases_eq j place) [
        | inl same ↦ absurd (none c (subst (λ i. IsTwin externs k i e c) same t))
        | inr apart ↦ ok.complete place j x c next at link t.there (omega arith) (ap (mix_text 0xCBF29CE484222325) t.same ∙ sym eh)
      ]

  pub chain_step : (nexts nexts' : List (Option ℕ)) (old later : ℕ → Option ℕ) (i place h : ℕ) (e : ExternAssembly) (next : Option ℕ) →
      IsChained name_hash old (take i externs) nexts → i < length externs → e ≡ get_or externs i e → h ≡ name_hash e → place ≡ length nexts → next ≡ old h →
      ((q : ℕ) → later q ≡ cond (nat_eq h q) (Some place) (old q)) → nexts' ≡ nexts ++ next ∷ [] → IsChained name_hash later (take (i + 1) externs) nexts'
  chain_step nexts nexts' old later i place h e next ok hi he hh hp hn more hs =
      let list : take (i + 1) externs ≡ take i externs ++ e ∷ [] = take_more externs i e hi ∙ ap (λ x. take i externs ++ x ∷ []) (sym he) in
      subst (λ xs. IsChained name_hash later xs nexts') (sym list)
      (subst (λ ns. IsChained name_hash later (take i externs ++ e ∷ []) ns) (sym hs)
      (chain_push name_hash old later (take i externs) nexts e place next ok (hp ∙ ok.paired) (hn ∙ ap old hh)
      (λ q. more q ∙ ap (λ k. cond (nat_eq k q) (Some place) (old q)) hh)))

  -- ---- keys

  pub marked_alias : (k : ℕ) (e : ExternAssembly) → k < length externs → e ≡ get_or externs k e → first_is 35 e.name ≡ true →
      Some true ≡ option_map (has_alias externs) (slice_get externs k)
  marked_alias k e hk he m =
      ap (λ t. Some (cond t true (is_repeated externs e))) (sym m) ∙ ap (option_map (has_alias externs)) (sym (at_is externs k e hk he))

  pub other_alias : (k : ℕ) (e : ExternAssembly) (r : Bool) → k < length externs → e ≡ get_or externs k e → first_is 35 e.name ≡ false →
      Some r ≡ option_map (is_repeated externs) (slice_get externs k) → Some r ≡ option_map (has_alias externs) (slice_get externs k)
  other_alias k e r hk he m h =
      let here = at_is externs k e hk he in
      h ∙ (ap (option_map (is_repeated externs)) here
      ∙ (ap (λ t. Some (cond t true (is_repeated externs e))) (sym m) ∙ ap (option_map (has_alias externs)) (sym here)))
