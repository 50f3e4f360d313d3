-- What holds of all productions of the grammar holds of each (ECMA-335 II.5.1).
use Rattle.std.proofs.Common.{◌≡◌, ℕ, zero, suc, ◌+◌, inl, inr, List, [], ◌∷◌, ◌++◌, Option, None, Some, refl, ap, sym, subst, ◌∙◌, arith}
use Rattle.std.specs.Prelude.{Bool, true, false, not, ◌==◌, ◌||◌, ◌&&◌, if◌then◌else◌, slice_get, option_map}
use Rattle.std.proofs.lemmas.Bool.{cases_Bool}
use Rattle.std.proofs.lemmas.Bool.Decides.{Decides-eqb}
use Rattle.std.proofs.lemmas.Option.{same_Some}
use Rattle.ilasm_grammar.specs.Grammar.{Rule, rule_of}
use Rattle.ilasm_grammar.specs.Ilasm.{ilasm, rule_by, body_by}
use Rattle.ilasm_grammar.specs.declared.symbol.Symbol.{Symbol}
use Rattle.ilasm_grammar.specs.declared.symbol.Symbol.TheVariants.{Terminal, Nonterminal}
use Rattle.source_model.specs.Forest.{Forest, Part, none, leaf, branch, is_among, is_any_part, part, parts}
use Rattle.source_model.specs.Source.{Source}
use Rattle.source_nodes.specs.Derived.{Fits, FitsBody, FitsRule, HasBodies, OfEach, head_of}
use Rattle.source_syntax.proofs.BodyLemmas.{all_in, goes_on_with}
use Rattle.source_nodes.proofs.WrittenNames.{both_true, other_true}

-- the productions from this place on pass
abbrev pub all_rules : (ℕ → ℕ → List Symbol → Bool) → List ℕ → List ℕ → List Symbol → ℕ → Bool
all_rules test [] starts bodies at = true
all_rules test (h ∷ hs) starts bodies at = test at h (body_by starts bodies at) && all_rules test hs starts bodies (1 + at)

module _ (test : ℕ → ℕ → List Symbol → Bool) where
  passes_at : (heads starts : List ℕ) (bodies : List Symbol) (at q h : ℕ) → all_rules test heads starts bodies at ≡ true → slice_get heads q ≡ Some h
      → test (at + q) h (body_by starts bodies (at + q)) ≡ true
  passes_at [] starts bodies at q h e i = absurd cc
  passes_at (x ∷ heads) starts bodies at zero h e i =
      let same : x ≡ h = same_Some x h i in
      let place : at ≡ at + 0 = omega arith in
      subst (λ k. test k h (body_by starts bodies k) ≡ true) place
      (subst (λ y. test at y (body_by starts bodies at) ≡ true) same
      (both_true (test at x (body_by starts bodies at)) (all_rules test heads starts bodies (1 + at)) e).0)
  passes_at (x ∷ heads) starts bodies at (suc q) h e i =
      let place : 1 + at + q ≡ at + suc q = omega arith in
      subst (λ k. test k h (body_by starts bodies k) ≡ true) place
      (passes_at heads starts bodies (1 + at) q h (both_true (test at x (body_by starts bodies at)) (all_rules test heads starts bodies (1 + at)) e).1 i)

  pub rule_passes : (heads starts : List ℕ) (bodies : List Symbol) (p : ℕ) (r : Rule) → rule_by heads starts bodies p ≡ Some r
      → all_rules test heads starts bodies 0 ≡ true → test p r.head r.body ≡ true
  unfolding rule_by
  rule_passes heads starts bodies p r is e = go (slice_get heads p) refl is
    where
      go : (o : Option ℕ) → slice_get heads p ≡ o → option_map (λ (h : ℕ). rule_of h (body_by starts bodies p)) o ≡ Some r → test p r.head r.body ≡ true
      go None i j = absurd cc
      go (Some h) i j =
          let same : rule_of h (body_by starts bodies p) ≡ r = same_Some (rule_of h (body_by starts bodies p)) r j in
          let place : 0 + p ≡ p = omega arith in
          subst (λ (x : Rule). test p x.head x.body ≡ true) same
          (subst (λ k. test k h (body_by starts bodies k) ≡ true) place (passes_at heads starts bodies 0 p h e i))

-- ---- the productions of one nonterminal

abbrev pub has_these : ℕ → List ℕ → ℕ → ℕ → List Symbol → Bool
has_these m ps p h body = not (h == m) || is_among ps p

pub rule_head : (p m : ℕ) (o : Option Rule) → ilasm p ≡ o → head_of p ≡ Some m → (r : Rule) × (ilasm p ≡ Some r) × (r.head ≡ m)
rule_head p m None is e = let n : option_map (λ (x : Rule). x.head) None ≡ Some m = sym (ap (option_map (λ (x : Rule). x.head)) is) ∙ e in absurd cc
rule_head p m (Some r) is e = (r, is, same_Some r.head m (sym (ap (option_map (λ (x : Rule). x.head)) is) ∙ e))

pub among_these : (heads starts : List ℕ) (bodies : List Symbol) (m : ℕ) (ps : List ℕ) (p : ℕ) → option_map (λ (r : Rule). r.head) (rule_by heads starts bodies p) ≡ Some m
    → all_rules (has_these m ps) heads starts bodies 0 ≡ true → is_among ps p ≡ true
among_these heads starts bodies m ps p e test = go (rule_by heads starts bodies p) refl e
  where
    go : (o : Option Rule) → rule_by heads starts bodies p ≡ o → option_map (λ (r : Rule). r.head) o ≡ Some m → is_among ps p ≡ true
    go None is h = absurd cc
    go (Some r) is h =
        other_true (r.head == m) (is_among ps p) (rule_passes (has_these m ps) heads starts bodies p r is test) ((Decides-eqb r.head m).1 (same_Some r.head m h))

-- ---- one of some productions

abbrev pub AllOf : (ℕ → Type 0) → List ℕ → Type 0
AllOf Q [] = Unit {0}
AllOf Q (q ∷ qs) = Q q × AllOf Q qs

pub for_each : (Q : ℕ → Type 0) (qs : List ℕ) → AllOf Q qs → (p : ℕ) → is_among qs p ≡ true → Q p
for_each Q [] h p e = absurd cc
for_each Q (q ∷ qs) h p e = elim (cases_Bool (q == p)) [
  | inl is ↦ subst Q ((Decides-eqb q p).0 is) h.0
  | inr apart ↦ for_each Q qs h.1 p (sym (ap (λ (c : Bool). c || is_among qs p) apart) ∙ e)
]

-- ---- bodies

pub rule_below : (s : Source) (p : ℕ) (f : Forest) (o : Option Rule) → ilasm p ≡ o → FitsRule s o f → (r : Rule) × (ilasm p ≡ Some r) × Fits s r.body f
rule_below s p f None is h = absurd h
rule_below s p f (Some r) is h = (r, is, h)

-- ---- what can't stand below a body

-- the productions of these nonterminals go on with these alone
abbrev pub stays : (ℕ → Bool) → ℕ → ℕ → List Symbol → Bool
stays chosen p h body = not (chosen h) || all_in chosen body

abbrev pub Stays : (ℕ → Bool) → Type 0
Stays chosen = (p : ℕ) (r : Rule) → ilasm p ≡ Some r → chosen r.head ≡ true → all_in chosen r.body ≡ true

pub stays_from : (chosen : ℕ → Bool) (heads starts : List ℕ) (bodies : List Symbol) (p : ℕ) (r : Rule) → rule_by heads starts bodies p ≡ Some r
    → chosen r.head ≡ true → all_rules (stays chosen) heads starts bodies 0 ≡ true → all_in chosen r.body ≡ true
stays_from chosen heads starts bodies p r is c test =
    other_true (chosen r.head) (all_in chosen r.body) (rule_passes (stays chosen) heads starts bodies p r is test) c

module _ (chosen : ℕ → Bool) (closed : Stays chosen) (s : Source) (q l : ℕ) (head : head_of q ≡ Some l) (not_chosen : chosen l ≡ false) where
  -- nothing of another nonterminal stands below a body of these
  pub nowhere : (f : Forest) (body : List Symbol) → Fits s body f → HasBodies s f → all_in chosen body ≡ true → parts (q ∷ []) f ≡ []
  nowhere none body h each e = refl
  nowhere (leaf k a) [] h each e = absurd h
  nowhere (leaf k a) (Terminal t ∷ more) h each e = nowhere a more h.1 each e
  nowhere (leaf k a) (Nonterminal m ∷ more) h each e = absurd h
  nowhere (branch p b a) [] h each e = absurd h
  nowhere (branch p b a) (Terminal t ∷ more) h each e = absurd h
  nowhere (branch p b a) (Nonterminal m ∷ more) h each e =
      let both = both_true (chosen m) (all_in chosen more) e in
      let r = rule_below s p b (ilasm p) refl each.0 in
      let heads : r.0.head ≡ m = same_Some r.0.head m (sym (ap (option_map (λ (x : Rule). x.head)) r.1) ∙ h.0) in
      let inner = closed p r.0 r.1 (ap chosen heads ∙ both.0) in
      go (q == p) refl (nowhere b r.0.body r.2 each.1 inner) (nowhere a more h.1 each.2 both.1)
    where
      go : (x : Bool) → (q == p) ≡ x → parts (q ∷ []) b ≡ [] → parts (q ∷ []) a ≡ [] → parts (q ∷ []) (branch p b a) ≡ []
      go true is below after =
          let same : m ≡ l = same_Some m l (sym h.0 ∙ ap head_of (sym ((Decides-eqb q p).0 is)) ∙ head) in
          let both : true ≡ false = sym (both_true (chosen m) (all_in chosen more) e).0 ∙ ap chosen same ∙ not_chosen in
          absurd cc
      go false apart below after =
          ap (λ (x : Bool). (if x || false then part p b ∷ [] else parts (q ∷ []) b) ++ parts (q ∷ []) a) apart
          ∙ ap (λ ps. ps ++ parts (q ∷ []) a) below ∙ after

-- ---- what must stand in a body

-- a production of a nonterminal of which all are sought
pub fits_some : (s : Source) (sought : List ℕ) (m : ℕ) → ((q : ℕ) → head_of q ≡ Some m → is_among sought q ≡ true) → (body : List Symbol) (f : Forest)
    → Fits s body f → goes_on_with m body ≡ true → is_any_part (parts sought f) ≡ true
fits_some s sought m only [] f h e = absurd cc
fits_some s sought m only (Terminal t ∷ more) none h e = absurd h
fits_some s sought m only (Terminal t ∷ more) (leaf k a) h e = fits_some s sought m only more a h.1 e
fits_some s sought m only (Terminal t ∷ more) (branch q b a) h e = absurd h
fits_some s sought m only (Nonterminal l ∷ more) none h e = absurd h
fits_some s sought m only (Nonterminal l ∷ more) (leaf k a) h e = absurd h
fits_some s sought m only (Nonterminal l ∷ more) (branch q b a) h e = elim (cases_Bool (l == m)) [
  | inl is ↦
      ap (λ (c : Bool). is_any_part ((if c then part q b ∷ [] else parts sought b) ++ parts sought a)) (only q (h.0 ∙ ap Some ((Decides-eqb l m).0 is)))
  | inr apart ↦
      any_behind (if is_among sought q then part q b ∷ [] else parts sought b) (parts sought a)
      (fits_some s sought m only more a h.1 (sym (ap (λ (c : Bool). c || goes_on_with m more) apart) ∙ e))
]
  where
    any_behind : (ps qs : List Part) → is_any_part qs ≡ true → is_any_part (ps ++ qs) ≡ true
    any_behind [] qs e = e
    any_behind (p ∷ ps) qs e = refl

-- ---- the body of a production

abbrev pub body_of : Option Rule → List Symbol
body_of None = []
body_of (Some r) = r.body

pub fits_of : (s : Source) (p : ℕ) (f : Forest) → FitsBody s p f → Fits s (body_of (ilasm p)) f
fits_of s p f h = go (ilasm p) h
  where
    go : (o : Option Rule) → FitsRule s o f → Fits s (body_of o) f
    go None i = absurd i
    go (Some r) i = i

-- ---- all that stands below a body

-- a production of one of these nonterminals
abbrev pub IsHeaded : (ℕ → Bool) → ℕ → Forest → Type 0
IsHeaded chosen p b = (m : ℕ) × (head_of p ≡ Some m) × (chosen m ≡ true)

module _ (chosen : ℕ → Bool) (closed : Stays chosen) (s : Source) where
  pub all_headed : (f : Forest) (body : List Symbol) → Fits s body f → HasBodies s f → all_in chosen body ≡ true → OfEach (IsHeaded chosen) f
  all_headed none body h each e = tt
  all_headed (leaf k a) [] h each e = absurd h
  all_headed (leaf k a) (Terminal t ∷ more) h each e = all_headed a more h.1 each e
  all_headed (leaf k a) (Nonterminal m ∷ more) h each e = absurd h
  all_headed (branch p b a) [] h each e = absurd h
  all_headed (branch p b a) (Terminal t ∷ more) h each e = absurd h
  all_headed (branch p b a) (Nonterminal m ∷ more) h each e =
      let both = both_true (chosen m) (all_in chosen more) e in
      let r = rule_below s p b (ilasm p) refl each.0 in
      let heads : r.0.head ≡ m = same_Some r.0.head m (sym (ap (option_map (λ (x : Rule). x.head)) r.1) ∙ h.0) in
      ((m, h.0, both.0), all_headed b r.0.body r.2 each.1 (closed p r.0 r.1 (ap chosen heads ∙ both.0)), all_headed a more h.1 each.2 both.1)
