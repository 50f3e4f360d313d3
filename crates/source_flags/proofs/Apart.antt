-- Productions in which some others never stand (ECMA-335 II.5.1): what is gone past has none of the parts that are sought.
use Rattle.std.proofs.Common.{◌≡◌, ℕ, List, [], ◌∷◌, ◌++◌, Bool, true, false, ◌&&◌, ◌||◌, Option, None, Some, refl, sym, ap, ◌∙◌}
use Rattle.std.specs.Prelude.{◌==◌, if◌then◌else◌, not, option_map}
use Rattle.std.proofs.lemmas.Bool.{and_parts, eqb-true, false≢true}
use Rattle.ilasm_grammar.specs.Grammar.{Rule}
use Rattle.ilasm_grammar.specs.Ilasm.{ilasm, body_at, has_bit, picked}
use Rattle.ilasm_grammar.specs.declared.symbol.Symbol.{Symbol}
use Rattle.ilasm_grammar.specs.declared.symbol.Symbol.TheVariants.{Terminal, Nonterminal}
use Rattle.ilasm_grammar.proofs.IlasmFacts.{ilasm_table}
use Rattle.ilasm_grammar.proofs.TableCheck.{ilasm_tables, ilasm_checked}
use Rattle.ilasm_grammar.proofs.TableFacts.{at_rule}
use Rattle.ilasm_grammar.proofs.Tables.{all_below, implies}
use Rattle.source_model.specs.Forest.{Forest, none, leaf, branch, part, parts, parts_outside, is_among}
use Rattle.source_model.specs.Source.{Source}
use Rattle.source_nodes.specs.Derived.{Fits, FitsRule, HasBodies}
use Rattle.source_flags.specs.Outside.{shut_of}
use Rattle.source_flags.specs.declared.outside.Shut.{Shut}
use Rattle.source_flags.specs.declared.outside.Shut.TheVariants.{Types, Methods, Instructions}

-- each nonterminal is in the set whose bits a number has
abbrev pub all_in : ℕ → List Symbol → Bool
all_in mask [] = true
all_in mask (Terminal k ∷ more) = all_in mask more
all_in mask (Nonterminal n ∷ more) = has_bit mask n && all_in mask more

-- what a production puts in the place of a nonterminal of the set, or in its own where it is shut, stays in the set
abbrev pub stays : ℕ → List ℕ → ℕ → Bool
stays mask shut p = implies (is_among shut p || has_bit mask (ilasm_tables.head p)) (all_in mask (ilasm_tables.body p))

-- the productions are none of the nonterminals in the set
abbrev pub are_apart : ℕ → List ℕ → Bool
are_apart mask [] = true
are_apart mask (q ∷ qs) = not (has_bit mask (ilasm_tables.head q)) && are_apart mask qs

either : (a b : Bool) → b ≡ true → (a || b) ≡ true
either true b e = refl
either false b e = e

implied : (a b : Bool) → implies a b ≡ true → a ≡ true → b ≡ true
implied true b e h = e
implied false b e h = absurd (false≢true h)

not_both : (b : Bool) → not b ≡ true → b ≡ true → false ≡ true
not_both true e h = e
not_both false e h = h

module _ (mask : ℕ) (shut sought : List ℕ) (closed : all_below (stays mask shut) ilasm_tables.productions ≡ true) (apart : are_apart mask sought ≡ true) where
  -- a production that is sought is of no nonterminal in the set
  none_among : (qs : List ℕ) → are_apart mask qs ≡ true → (p : ℕ) → has_bit mask (ilasm_tables.head p) ≡ true → is_among qs p ≡ false
  none_among [] a p h = refl
  none_among (q ∷ qs) a p h = go (q == p) refl (none_among qs (and_parts _ _ a).1 p h)
    where
      go : (c : Bool) → (q == p) ≡ c → is_among qs p ≡ false → is_among (q ∷ qs) p ≡ false
      go true e later =
          let same : q ≡ p = eqb-true q p e in
          absurd (false≢true (not_both (has_bit mask (ilasm_tables.head q)) (and_parts _ _ a).0 (ap (λ k. has_bit mask (ilasm_tables.head k)) same ∙ h)))
      go false e later = ap (λ (c : Bool). c || is_among qs p) e ∙ later

  -- what stands below a production of the set, or below a shut one, are symbols of the set
  rule_stays : (p : ℕ) (r : Rule) → ilasm p ≡ Some r → (is_among shut p || has_bit mask (ilasm_tables.head p)) ≡ true → all_in mask r.body ≡ true
  rule_stays p r e h =
      let body : ilasm_tables.body p ≡ r.body = ap (λ (x : Rule). x.body) (ilasm_table.rules e).1 in
      sym (ap (all_in mask) body) ∙ implied _ _ (at_rule ilasm_tables ilasm_checked ilasm picked ilasm_table (stays mask shut) closed e) h

  head_in : (p n : ℕ) (o : Option Rule) → ilasm p ≡ o → option_map (λ (r : Rule). r.head) o ≡ Some n → has_bit mask n ≡ true
      → has_bit mask (ilasm_tables.head p) ≡ true
  head_in p n None e h bit = absurd cc
  head_in p n (Some r) e h bit =
      let head : ilasm_tables.head p ≡ r.head = ap (λ (x : Rule). x.head) (ilasm_table.rules e).1 in
      let same : r.head ≡ n = cc in
      ap (has_bit mask) (head ∙ same) ∙ bit

  -- the parts of a branch that isn't sought
  inside_at : (p : ℕ) (b a : Forest) → is_among sought p ≡ false → parts sought (branch p b a) ≡ parts sought b ++ parts sought a
  inside_at p b a e = ap (λ (c : Bool). (if c then part p b ∷ [] else parts sought b) ++ parts sought a) e

  -- below a production of the set, or below a shut one, stand symbols of the set
  body_of : (s : Source) (p : ℕ) (b : Forest) (o : Option Rule) → ilasm p ≡ o → FitsRule s o b
      → (is_among shut p || has_bit mask (ilasm_tables.head p)) ≡ true → (r : Rule) × Fits s r.body b × (all_in mask r.body ≡ true)
  body_of s p b None e fits h = absurd fits
  body_of s p b (Some r) e fits h = (r, fits, rule_stays p r e h)

  none_in : (s : Source) (f : Forest) (symbols : List Symbol) → all_in mask symbols ≡ true → Fits s symbols f → HasBodies s f → parts sought f ≡ []
  none_in s none symbols all fits bodies = refl
  none_in s (leaf k a) [] all fits bodies = absurd fits
  none_in s (leaf k a) (Terminal t ∷ more) all fits bodies = none_in s a more all fits.1 bodies
  none_in s (leaf k a) (Nonterminal n ∷ more) all fits bodies = absurd fits
  none_in s (branch p b a) [] all fits bodies = absurd fits
  none_in s (branch p b a) (Terminal t ∷ more) all fits bodies = absurd fits
  none_in s (branch p b a) (Nonterminal n ∷ more) all fits bodies =
      let both = and_parts (has_bit mask n) (all_in mask more) all in
      let bit = head_in p n (ilasm p) refl fits.0 both.0 in
      let r = body_of s p b (ilasm p) refl bodies.0 (either (is_among shut p) _ bit) in
      inside_at p b a (none_among sought apart p bit)
      ∙ ap (λ ps. ps ++ parts sought a) (none_in s b r.0.body r.2 r.1 bodies.1)
      ∙ none_in s a more both.1 fits.1 bodies.2

  -- so what is gone past has none
  pub all_outside : (s : Source) (f : Forest) → HasBodies s f → parts_outside shut sought f ≡ parts sought f
  all_outside s none h = refl
  all_outside s (leaf k a) h = all_outside s a h
  all_outside s (branch p b a) h = go (is_among sought p) (is_among shut p) refl refl (all_outside s b h.1) (all_outside s a h.2)
    where
      either_first : (a b : Bool) → a ≡ true → (a || b) ≡ true
      either_first true b e = refl
      either_first false b e = absurd (false≢true e)

      outside_at : (c d : Bool) → is_among sought p ≡ c → is_among shut p ≡ d → parts_outside shut sought (branch p b a)
          ≡ (if c then part p b ∷ [] else if d then [] else parts_outside shut sought b) ++ parts_outside shut sought a
      outside_at c d e g =
          ap (λ (x : Bool). (if x then part p b ∷ [] else if is_among shut p then [] else parts_outside shut sought b) ++ parts_outside shut sought a) e
          ∙ ap (λ (x : Bool). (if c then part p b ∷ [] else if x then [] else parts_outside shut sought b) ++ parts_outside shut sought a) g

      sought_at : is_among sought p ≡ true → parts sought (branch p b a) ≡ part p b ∷ parts sought a
      sought_at e = ap (λ (c : Bool). (if c then part p b ∷ [] else parts sought b) ++ parts sought a) e

      none_below : is_among shut p ≡ true → parts sought b ≡ []
      none_below g =
          let r = body_of s p b (ilasm p) refl h.0 (either_first (is_among shut p) _ g) in
          none_in s b r.0.body r.2 r.1 h.1

      go : (c d : Bool) → is_among sought p ≡ c → is_among shut p ≡ d → parts_outside shut sought b ≡ parts sought b
          → parts_outside shut sought a ≡ parts sought a → parts_outside shut sought (branch p b a) ≡ parts sought (branch p b a)
      go true d e g below after = outside_at true d e g ∙ ap (λ ps. part p b ∷ ps) after ∙ sym (sought_at e)
      go false true e g below after = outside_at false true e g ∙ after ∙ sym (inside_at p b a e ∙ ap (λ ps. ps ++ parts sought a) (none_below g))
      go false false e g below after =
          outside_at false false e g ∙ ap (λ ps. ps ++ parts_outside shut sought a) below ∙ ap (λ ps. parts sought b ++ ps) after ∙ sym (inside_at p b a e)

-- ---- the sets: the nonterminals that stand somewhere below the shut productions

unfoldable pub mask_of : Shut → ℕ
mask_of Types = 0xfffffffffffffffffffffffffffffffffffff3820
mask_of Methods = 0x1fffffffffff1e603ff87ffffffffffff3820
mask_of Instructions = 0x1ffffc00000000003fffffffffffe3820

mask_closed : (shut : Shut) → all_below (stays (mask_of shut) (shut_of shut)) ilasm_tables.productions ≡ true
unfolding ilasm_tables body_at has_bit mask_of
mask_closed Types = refl
mask_closed Methods = refl
mask_closed Instructions = refl

-- these productions stand in none of the shut ones
unfoldable pub is_past : Shut → List ℕ → Bool
is_past shut sought = are_apart (mask_of shut) sought

pub same_outside : (shut : Shut) (sought : List ℕ) → is_past shut sought ≡ true → (s : Source) (f : Forest) → HasBodies s f
    → parts_outside (shut_of shut) sought f ≡ parts sought f
unfolding is_past
same_outside shut sought e s f h = all_outside (mask_of shut) (shut_of shut) sought (mask_closed shut) e s f h
