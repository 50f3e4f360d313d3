-- Productions of nonterminals among which those that are sought are none.
use Rattle.std.proofs.Common.{◌≡◌, ℕ, List, [], ◌∷◌, ◌++◌, Bool, true, false, ◌||◌, Option, None, Some, refl, ap, ◌∙◌}
use Rattle.std.specs.Prelude.{◌==◌, if◌then◌else◌, not, option_map}
use Rattle.std.proofs.lemmas.Bool.{and_parts, eqb-true, false≢true}
use Rattle.ilasm_grammar.specs.Grammar.{Rule}
use Rattle.ilasm_grammar.specs.Ilasm.{ilasm, has_bit}
use Rattle.ilasm_grammar.proofs.IlasmFacts.{ilasm_table}
use Rattle.ilasm_grammar.proofs.TableCheck.{ilasm_tables}
use Rattle.source_model.specs.Forest.{Forest, branch, part, parts, is_among}
use Rattle.source_flags.proofs.Apart.{are_apart}

not_both : (b : Bool) → not b ≡ true → b ≡ true → false ≡ true
not_both true e h = e
not_both false e h = h

module _ (mask : ℕ) (sought : List ℕ) (apart : are_apart mask sought ≡ true) where
  -- a production that is sought is of no nonterminal in the set
  none_among : (qs : List ℕ) → are_apart mask qs ≡ true → (p : ℕ) → has_bit mask (ilasm_tables.head p) ≡ true → is_among qs p ≡ false
  none_among [] a p h = refl
  none_among (q ∷ qs) a p h = go (q == p) refl (none_among qs (and_parts _ _ a).1 p h)
    where
      go : (c : Bool) → (q == p) ≡ c → is_among qs p ≡ false → is_among (q ∷ qs) p ≡ false
      go true e later =
          let same : q ≡ p = eqb-true q p e in
          absurd (false≢true (not_both (has_bit mask (ilasm_tables.head q)) (and_parts _ _ a).0 (ap (λ k. has_bit mask (ilasm_tables.head k)) same ∙ h)))
      go false e later = ap (λ (c : Bool). c || is_among qs p) e ∙ later

  pub unsought : (p : ℕ) → has_bit mask (ilasm_tables.head p) ≡ true → is_among sought p ≡ false
  unsought p h = none_among sought apart p h

module _ (mask : ℕ) where
  pub head_in : (p n : ℕ) (o : Option Rule) → ilasm p ≡ o → option_map (λ (r : Rule). r.head) o ≡ Some n → has_bit mask n ≡ true
      → has_bit mask (ilasm_tables.head p) ≡ true
  head_in p n None e h bit = absurd cc
  head_in p n (Some r) e h bit =
      let head : ilasm_tables.head p ≡ r.head = ap (λ (x : Rule). x.head) (ilasm_table.rules e).1 in
      let same : r.head ≡ n = cc in
      ap (has_bit mask) (head ∙ same) ∙ bit

module _ (sought : List ℕ) where
  -- the parts of a branch that isn't sought
  pub inside_at : (p : ℕ) (b a : Forest) → is_among sought p ≡ false → parts sought (branch p b a) ≡ parts sought b ++ parts sought a
  inside_at p b a e = ap (λ (c : Bool). (if c then part p b ∷ [] else parts sought b) ++ parts sought a) e
