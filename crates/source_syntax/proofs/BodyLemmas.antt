-- The tokens and productions of a body, and what can stand below them.
use Rattle.std.proofs.Common.{◌≡◌, ℕ, zero, suc, ◌+◌, List, [], ◌∷◌, ◌++◌, Option, None, Some, refl, ap, sym, subst, ◌∙◌, arith}
use Rattle.std.specs.Prelude.{Bool, true, false, not, ◌==◌, ◌||◌, ◌&&◌, nat_le, slice_get, option_map, if◌then◌else◌, ⊤}
use Rattle.std.proofs.lemmas.Bool.Decides.{Decides-eqb}
use Rattle.ilasm_grammar.specs.Grammar.{Rule, rule_of}
use Rattle.ilasm_grammar.specs.Ilasm.{ilasm, rule_by, body_by}
use Rattle.ilasm_grammar.specs.declared.nonterminals.TheConstants as n
use Rattle.ilasm_grammar.specs.declared.symbol.Symbol.{Symbol}
use Rattle.ilasm_grammar.specs.declared.symbol.Symbol.TheVariants.{Terminal, Nonterminal}
use Rattle.source_model.specs.Forest.{Forest, Part, none, leaf, branch, leaf_at, child, has, parts, part, is_any_part}
use Rattle.source_model.specs.Source.{Source}
use Rattle.source_nodes.specs.Derived.{terminal_at, head_of, Fits, FitsRule, HasBodies, OfEach}
use Rattle.source_nodes.proofs.WrittenNames.{both_true, other_true}

-- ---- the tokens at the top

abbrev pub terminals : List Symbol → List ℕ
terminals [] = []
terminals (Terminal t ∷ more) = t ∷ terminals more
terminals (Nonterminal m ∷ more) = terminals more

pub fits_leaf : (s : Source) (body : List Symbol) (f : Forest) → Fits s body f → (k t : ℕ) → slice_get (terminals body) k ≡ Some t → terminal_at s (leaf_at k f) ≡ Some t
fits_leaf s [] f h k t e = absurd cc
fits_leaf s (Terminal x ∷ more) none h k t e = absurd h
fits_leaf s (Terminal x ∷ more) (leaf j a) h zero t e = h.0 ∙ e
fits_leaf s (Terminal x ∷ more) (leaf j a) h (suc k) t e = fits_leaf s more a h.1 k t e
fits_leaf s (Terminal x ∷ more) (branch p b a) h k t e = absurd h
fits_leaf s (Nonterminal m ∷ more) none h k t e = absurd h
fits_leaf s (Nonterminal m ∷ more) (leaf j a) h k t e = absurd h
fits_leaf s (Nonterminal m ∷ more) (branch p b a) h k t e = fits_leaf s more a h.1 k t e

-- ---- the productions at the top

abbrev pub goes_on_with : ℕ → List Symbol → Bool
goes_on_with m [] = false
goes_on_with m (Terminal t ∷ more) = goes_on_with m more
goes_on_with m (Nonterminal l ∷ more) = (l == m) || goes_on_with m more

any_later : (ps qs : List Part) → is_any_part qs ≡ true → is_any_part (ps ++ qs) ≡ true
any_later [] qs e = e
any_later (p ∷ ps) qs e = refl

pub any_front : (ps qs : List Part) → is_any_part ps ≡ true → is_any_part (ps ++ qs) ≡ true
any_front [] qs e = absurd cc
any_front (p ∷ ps) qs e = refl

pub has_own : (q : ℕ) (b a : Forest) → has q (branch q b a) ≡ true
has_own q b a = ap (λ (c : Bool). is_any_part ((if c || false then part q b ∷ [] else parts (q ∷ []) b) ++ parts (q ∷ []) a)) ((Decides-eqb q q).1 refl)

pub has_later : (r q : ℕ) (b a : Forest) → has r a ≡ true → has r (branch q b a) ≡ true
has_later r q b a e = any_later (if (r == q) || false then part q b ∷ [] else parts (r ∷ []) b) (parts (r ∷ []) a) e

-- where a body has a nonterminal of which one production alone can stand there, that stands there
pub fits_child : (P : ℕ → Forest → Type 0) (s : Source) (body : List Symbol) (f : Forest) (m p : ℕ) → Fits s body f → OfEach P f → goes_on_with m body ≡ true
    → ((q : ℕ) → head_of q ≡ Some m → has q f ≡ true → q ≡ p) → P p (child (p ∷ []) f) × OfEach P (child (p ∷ []) f)
fits_child P s [] f m p h each e only = absurd cc
fits_child P s (Terminal t ∷ more) none m p h each e only = absurd h
fits_child P s (Terminal t ∷ more) (leaf k a) m p h each e only = fits_child P s more a m p h.1 each e only
fits_child P s (Terminal t ∷ more) (branch q b a) m p h each e only = absurd h
fits_child P s (Nonterminal l ∷ more) none m p h each e only = absurd h
fits_child P s (Nonterminal l ∷ more) (leaf k a) m p h each e only = absurd h
fits_child P s (Nonterminal l ∷ more) (branch q b a) m p h each e only =
    go (p == q) refl (λ on. fits_child P s more a m p h.1 each.2 on (λ r i j. only r i (has_later r q b a j)))
  where
    go : (c : Bool) → (p == q) ≡ c → (goes_on_with m more ≡ true → P p (child (p ∷ []) a) × OfEach P (child (p ∷ []) a))
        → P p (child (p ∷ []) (branch q b a)) × OfEach P (child (p ∷ []) (branch q b a))
    go true is after =
        let same = (Decides-eqb p q).0 is in
        subst (λ g. P p g × OfEach P g) (sym (ap (λ (c : Bool). if c || false then b else child (p ∷ []) a) is))
        (subst (λ r. P r b × OfEach P b) (sym same) (each.0, each.1))
    go false apart after =
        subst (λ g. P p g × OfEach P g) (sym (ap (λ (c : Bool). if c || false then b else child (p ∷ []) a) apart)) (after (further (l == m) refl))
      where
        further : (c : Bool) → (l == m) ≡ c → goes_on_with m more ≡ true
        further true is =
            let own : q ≡ p = only q (h.0 ∙ ap Some ((Decides-eqb l m).0 is)) (has_own q b a) in
            let also = (Decides-eqb p q).1 (sym own) in absurd cc
        further false is = sym (ap (λ (c : Bool). c || goes_on_with m more) is) ∙ e

-- and the forest has such a part
pub fits_has : (s : Source) (body : List Symbol) (f : Forest) (m p : ℕ) → Fits s body f → goes_on_with m body ≡ true → ((q : ℕ) → head_of q ≡ Some m → q ≡ p) → has p f ≡ true
fits_has s [] f m p h e only = absurd cc
fits_has s (Terminal t ∷ more) none m p h e only = absurd h
fits_has s (Terminal t ∷ more) (leaf k a) m p h e only = fits_has s more a m p h.1 e only
fits_has s (Terminal t ∷ more) (branch q b a) m p h e only = absurd h
fits_has s (Nonterminal l ∷ more) none m p h e only = absurd h
fits_has s (Nonterminal l ∷ more) (leaf k a) m p h e only = absurd h
fits_has s (Nonterminal l ∷ more) (branch q b a) m p h e only = go (l == m) refl (λ on. fits_has s more a m p h.1 on only)
  where
    go : (c : Bool) → (l == m) ≡ c → (goes_on_with m more ≡ true → has p a ≡ true) → has p (branch q b a) ≡ true
    go true is after =
        let own : q ≡ p = only q (h.0 ∙ ap Some ((Decides-eqb l m).0 is)) in
        subst (λ r. has r (branch q b a) ≡ true) own (has_own q b a)
    go false apart after = has_later p q b a (after (sym (ap (λ (c : Bool). c || goes_on_with m more) apart) ∙ e))

-- ---- what stands below

-- all nonterminals of a body pass
abbrev pub all_in : (ℕ → Bool) → List Symbol → Bool
all_in test [] = true
all_in test (Terminal t ∷ more) = all_in test more
all_in test (Nonterminal m ∷ more) = test m && all_in test more

-- no production of this number stands below the trees at the top
abbrev pub NowhereBelow : ℕ → Forest → Type 0
NowhereBelow q none = ⊤
NowhereBelow q (leaf k a) = NowhereBelow q a
NowhereBelow q (branch p b a) = (parts (q ∷ []) b ≡ []) × NowhereBelow q a

-- so where there is one, it stands at the top
pub has_child : (P : ℕ → Forest → Type 0) (p : ℕ) (f : Forest) → OfEach P f → NowhereBelow p f → has p f ≡ true
    → P p (child (p ∷ []) f) × OfEach P (child (p ∷ []) f)
has_child P p none each n e = absurd cc
has_child P p (leaf k a) each n e = has_child P p a each n e
has_child P p (branch q b a) each n e = go (p == q) refl (has_child P p a each.2 n.1)
  where
    go : (c : Bool) → (p == q) ≡ c → (has p a ≡ true → P p (child (p ∷ []) a) × OfEach P (child (p ∷ []) a))
        → P p (child (p ∷ []) (branch q b a)) × OfEach P (child (p ∷ []) (branch q b a))
    go true is after =
        let same = (Decides-eqb p q).0 is in
        subst (λ g. P p g × OfEach P g) (sym (ap (λ (c : Bool). if c || false then b else child (p ∷ []) a) is))
        (subst (λ r. P r b × OfEach P b) (sym same) (each.0, each.1))
    go false apart after =
        subst (λ g. P p g × OfEach P g) (sym (ap (λ (c : Bool). if c || false then b else child (p ∷ []) a) apart))
        (after
        (sym (ap (λ (c : Bool). is_any_part ((if c || false then part q b ∷ [] else parts (p ∷ []) b) ++ parts (p ∷ []) a)) apart
        ∙ ap (λ ps. is_any_part (ps ++ parts (p ∷ []) a)) n.0) ∙ e))

-- the productions of these nonterminals, and of one more, go on with these alone
module _ (chosen : ℕ → Bool) (extra : ℕ) where
  abbrev pub enters : ℕ → Bool
  enters m = m == extra || chosen m

  -- from this place on
  abbrev pub is_closed : List ℕ → List ℕ → List Symbol → ℕ → Bool
  is_closed [] starts bodies at = true
  is_closed (h ∷ hs) starts bodies at = (not (enters h) || all_in chosen (body_by starts bodies at)) && is_closed hs starts bodies (1 + at)

  closed_at : (heads starts : List ℕ) (bodies : List Symbol) (at q h : ℕ) → is_closed heads starts bodies at ≡ true → slice_get heads q ≡ Some h → enters h ≡ true
      → all_in chosen (body_by starts bodies (at + q)) ≡ true
  closed_at [] starts bodies at q h e i c = absurd cc
  closed_at (x ∷ heads) starts bodies at zero h e i c =
      let here = (both_true (not (enters x) || all_in chosen (body_by starts bodies at)) (is_closed heads starts bodies (1 + at)) e).0 in
      let same : x ≡ h = cc in
      let place : at ≡ at + 0 = omega arith in
      subst (λ k. all_in chosen (body_by starts bodies k) ≡ true) place
      (other_true (enters x) (all_in chosen (body_by starts bodies at)) here (ap enters same ∙ c))
  closed_at (x ∷ heads) starts bodies at (suc q) h e i c =
      let rest = (both_true (not (enters x) || all_in chosen (body_by starts bodies at)) (is_closed heads starts bodies (1 + at)) e).1 in
      let place : 1 + at + q ≡ at + suc q = omega arith in
      subst (λ k. all_in chosen (body_by starts bodies k) ≡ true) place (closed_at heads starts bodies (1 + at) q h rest i c)

  abbrev pub StaysChosen : Type 0
  StaysChosen = (p : ℕ) (r : Rule) → ilasm p ≡ Some r → enters r.head ≡ true → all_in chosen r.body ≡ true

  pub closed_rule : (heads starts : List ℕ) (bodies : List Symbol) (p : ℕ) (r : Rule) → rule_by heads starts bodies p ≡ Some r → enters r.head ≡ true
      → is_closed heads starts bodies 0 ≡ true → all_in chosen r.body ≡ true
  unfolding rule_by
  closed_rule heads starts bodies p r is c e = go (slice_get heads p) refl is
    where
      go : (o : Option ℕ) → slice_get heads p ≡ o → option_map (λ (h : ℕ). rule_of h (body_by starts bodies p)) o ≡ Some r → all_in chosen r.body ≡ true
      go None i j = absurd cc
      go (Some h) i j =
          let same : rule_of h (body_by starts bodies p) ≡ r = cc in
          let place : 0 + p ≡ p = omega arith in
          subst (λ (x : Rule). all_in chosen x.body ≡ true) same
          (subst (λ k. all_in chosen (body_by starts bodies k) ≡ true) place
          (closed_at heads starts bodies 0 p h e i (ap (λ (x : Rule). enters x.head) same ∙ c)))

  module _ (closed : StaysChosen) (s : Source) where
    -- what stands below a production of such a nonterminal
    body_below : (p m : ℕ) (b : Forest) (o : Option Rule) → ilasm p ≡ o → head_of p ≡ Some m → enters m ≡ true → FitsRule s o b
        → (r : Rule) × Fits s r.body b × (all_in chosen r.body ≡ true)
    body_below p m b None is head e fits = absurd fits
    body_below p m b (Some r) is head e fits =
        let heads : Some r.head ≡ Some m = sym (ap (option_map (λ (x : Rule). x.head)) is) ∙ head in
        let same : r.head ≡ m = cc in
        (r, fits, closed p r is (ap enters same ∙ e))

    chosen_enters : (m : ℕ) → chosen m ≡ true → enters m ≡ true
    chosen_enters m e = go (m == extra)
      where
        go : (c : Bool) → (c || chosen m) ≡ true
        go true = refl
        go false = e

    module _ (q l : ℕ) (head : head_of q ≡ Some l) (not_chosen : chosen l ≡ false) where
      -- nothing of another nonterminal stands below a body of these
      nowhere : (f : Forest) (body : List Symbol) → Fits s body f → HasBodies s f → all_in chosen body ≡ true → parts (q ∷ []) f ≡ []
      nowhere none body h each e = refl
      nowhere (leaf k a) [] h each e = absurd h
      nowhere (leaf k a) (Terminal t ∷ more) h each e = nowhere a more h.1 each e
      nowhere (leaf k a) (Nonterminal m ∷ more) h each e = absurd h
      nowhere (branch p b a) [] h each e = absurd h
      nowhere (branch p b a) (Terminal t ∷ more) h each e = absurd h
      nowhere (branch p b a) (Nonterminal m ∷ more) h each e =
          let both = both_true (chosen m) (all_in chosen more) e in
          let r = body_below p m b (ilasm p) refl h.0 (chosen_enters m both.0) each.0 in
          go (q == p) refl (nowhere b r.0.body r.1 each.1 r.2) (nowhere a more h.1 each.2 both.1)
        where
          go : (x : Bool) → (q == p) ≡ x → parts (q ∷ []) b ≡ [] → parts (q ∷ []) a ≡ [] → parts (q ∷ []) (branch p b a) ≡ []
          go true is below after =
              let heads : Some m ≡ Some l = sym h.0 ∙ ap head_of (sym ((Decides-eqb q p).0 is)) ∙ head in
              let same : m ≡ l = cc in
              let both : true ≡ false = sym (both_true (chosen m) (all_in chosen more) e).0 ∙ ap chosen same ∙ not_chosen in
              absurd cc
          go false apart below after =
              ap (λ (x : Bool). (if x || false then part p b ∷ [] else parts (q ∷ []) b) ++ parts (q ∷ []) a) apart
              ∙ ap (λ ps. ps ++ parts (q ∷ []) a) below ∙ after

      pub nowhere_below : (f : Forest) (body : List Symbol) → Fits s body f → HasBodies s f → all_in enters body ≡ true → NowhereBelow q f
      nowhere_below none body h each e = tt
      nowhere_below (leaf k a) [] h each e = absurd h
      nowhere_below (leaf k a) (Terminal t ∷ more) h each e = nowhere_below a more h.1 each e
      nowhere_below (leaf k a) (Nonterminal m ∷ more) h each e = absurd h
      nowhere_below (branch p b a) [] h each e = absurd h
      nowhere_below (branch p b a) (Terminal t ∷ more) h each e = absurd h
      nowhere_below (branch p b a) (Nonterminal m ∷ more) h each e =
          let both = both_true (enters m) (all_in enters more) e in
          let r = body_below p m b (ilasm p) refl h.0 both.0 each.0 in
          (nowhere b r.0.body r.1 each.1 r.2, nowhere_below a more h.1 each.2 both.1)

-- ---- references

-- the nonterminals of types, conventions, ends of references and signatures, and those with the rests of names
abbrev pub in_signature : ℕ → Bool
in_signature m = m == n.FLAGS || (nat_le n.CALL_CONV m && nat_le m n.COMMA_SIG_ARG && not (m == n.TARGET))

abbrev pub in_reference : ℕ → Bool
in_reference m = m == n.NAME_TAIL || (m == n.FIELD_TAIL || in_signature m)

pub target_stays : StaysChosen in_reference n.TARGET
unfolding ilasm
target_stays p r is c = closed_rule in_reference n.TARGET _ _ _ p r is c refl

pub tail_stays : StaysChosen in_signature n.NAME_TAIL
unfolding ilasm
tail_stays p r is c = closed_rule in_signature n.NAME_TAIL _ _ _ p r is c refl

pub field_target_stays : StaysChosen in_reference n.FIELD_TARGET
unfolding ilasm
field_target_stays p r is c = closed_rule in_reference n.FIELD_TARGET _ _ _ p r is c refl

pub field_tail_stays : StaysChosen in_signature n.FIELD_TAIL
unfolding ilasm
field_tail_stays p r is c = closed_rule in_signature n.FIELD_TAIL _ _ _ p r is c refl
