-- The flags of a declaration whose numbers are in their ranges fit its row.
use Rattle.std.proofs.Common.{◌≡◌, ℕ, ◌+◌, ◌<◌, ◌^◌, ◌%◌, ◌⊎◌, inl, inr, List, [], ◌∷◌, ◌++◌, Option, Some, cond, refl, ap, sym, subst, ◌∙◌, arith, append-nil}
use Rattle.std.specs.Prelude.{Bool, true, false, ◌==◌, ◌||◌, nat_lt, if◌then◌else◌, option_map, fold, bit_or}
use Rattle.std.specs.List.{AllByRecursion, list_all}
use Rattle.std.proofs.lemmas.Bool.{ltb-true}
use Rattle.std.proofs.lemmas.Bool.Decides.{Decides-eqb}
use Rattle.std.proofs.lemmas.Nat.{or_lt}
use Rattle.std.proofs.lemmas.Option.{same_Some}
use Rattle.std.proofs.Math.Nat.{mod-eq_of_lt}
use Rattle.ilasm_grammar.specs.Grammar.{Rule, rule_of}
use Rattle.ilasm_grammar.specs.Ilasm.{ilasm, rule_by}
use Rattle.ilasm_grammar.specs.declared.productions.TheConstants.{FLAGS, CLASS_ATTR_NESTED}
use Rattle.ilasm_grammar.specs.declared.symbol.Symbol.{Symbol}
use Rattle.ilasm_grammar.specs.declared.symbol.Symbol.TheVariants.{Nonterminal}
use Rattle.source_model.specs.Flags.{FlagWord, flag_word, flags_in, flags_number, nested_words, replaced, with_flag, without_bits}
use Rattle.source_model.specs.Forest.{Forest, none, leaf, branch, Part, part, child, has, last_token}
use Rattle.source_model.specs.Source.{Source, word_at, is_word_numbered}
use Rattle.source_nodes.specs.Derived.{Fits, FitsBody, OfEach, head_of}
use Rattle.source_syntax.proofs.VariableLemmas.{within_in}
use Rattle.source_nodes.proofs.WrittenNames.{both_true, fits_rule}
use Rattle.source_flags.specs.FlagRows.{end_of, more_of, row_flags, words_of}
use Rattle.source_flags.specs.InRange.{AllInRange, IsInRange}
use Rattle.source_flags.specs.declared.flag_rows.Row.{Row}
use Rattle.source_flags.specs.declared.flag_rows.Row.TheVariants.{Assembly, Class, Field, Method, Implementation, Parameter, Property, Typar}
use Rattle.source_flags.proofs.FlagNumbers.{IsFlag, flag_fits, flag_of, rest_of, width_of}

-- ---- what they give

abbrev are_small : ℕ → List FlagWord → Bool
are_small k words = list_all (λ w. nat_lt w.value (2 ^ k)) words

replaced_fits : (k : ℕ) (words : List FlagWord) (o : Option ℕ) → are_small k words ≡ true → (x : ℕ) → x < 2 ^ k → replaced (flag_word words o) x < 2 ^ k
replaced_fits k [] o e x h = h
replaced_fits k (w ∷ ws) o e x h =
    let both = both_true (nat_lt w.value (2 ^ k)) (are_small k ws) e in
    go (ltb-true w.value (2 ^ k) both.0) (replaced_fits k ws o both.1 x h) (is_word_numbered w.word o)
  where
    go : w.value < 2 ^ k → replaced (flag_word ws o) x < 2 ^ k → (c : Bool) → replaced (cond c (Some w) (flag_word ws o)) x < 2 ^ k
    go low rest true = or_lt k (without_bits w.group x) w.value (omega (arith, h)) low
    go low rest false = rest

words_small : (row : Row) → are_small (width_of row) (words_of row) ≡ true
words_small Assembly = refl
words_small Class = refl
words_small Field = refl
words_small Method = refl
words_small Implementation = refl
words_small Parameter = refl
words_small Property = refl
words_small Typar = refl

nested_small : (row : Row) → are_small (width_of row) nested_words ≡ true
nested_small Assembly = refl
nested_small Class = refl
nested_small Field = refl
nested_small Method = refl
nested_small Implementation = refl
nested_small Parameter = refl
nested_small Property = refl
nested_small Typar = refl

module _ (s : Source) (row : Row) where
  flag_added : (x : ℕ) (q : Part) → IsFlag s row q → x < 2 ^ width_of row → with_flag s (words_of row) x q < 2 ^ width_of row
  flag_added x q h low = go (has FLAGS q.below) refl
    where
      nested : (c : Bool) → (if c then replaced (flag_word nested_words (word_at s (last_token q.below))) x else replaced (flag_word (words_of row) (word_at s (last_token q.below))) x) < 2 ^ width_of row
      nested true = replaced_fits (width_of row) nested_words (word_at s (last_token q.below)) (nested_small row) x low
      nested false = replaced_fits (width_of row) (words_of row) (word_at s (last_token q.below)) (words_small row) x low

      go : (c : Bool) → has FLAGS q.below ≡ c → with_flag s (words_of row) x q < 2 ^ width_of row
      go true some =
          subst (λ m. m < 2 ^ width_of row)
          (sym (ap (λ (c : Bool). if c then bit_or x (flags_number s q.below)
          else if q.production == CLASS_ATTR_NESTED then replaced (flag_word nested_words (word_at s (last_token q.below))) x
          else replaced (flag_word (words_of row) (word_at s (last_token q.below))) x) some))
          (or_lt (width_of row) x (flags_number s q.below) low (flag_fits s row q h some))
      go false empty =
          subst (λ m. m < 2 ^ width_of row)
          (sym (ap (λ (c : Bool). if c then bit_or x (flags_number s q.below)
          else if q.production == CLASS_ATTR_NESTED then replaced (flag_word nested_words (word_at s (last_token q.below))) x
          else replaced (flag_word (words_of row) (word_at s (last_token q.below))) x) empty))
          (nested (q.production == CLASS_ATTR_NESTED))

  all_added : (ps : List Part) (x : ℕ) → AllByRecursion (IsFlag s row) ps → x < 2 ^ width_of row → fold (with_flag s (words_of row)) x ps < 2 ^ width_of row
  all_added [] x h low = low
  all_added (q ∷ ps) x h low = all_added ps (with_flag s (words_of row) x q) h.1 (flag_added x q h.0 low)

-- ---- the row

rule_more : (row : Row) → ilasm (more_of row) ≡ Some (rule_of (rest_of row) (Nonterminal (flag_of row) ∷ Nonterminal (rest_of row) ∷ []))
unfolding ilasm rule_by
rule_more Assembly = refl
rule_more Class = refl
rule_more Field = refl
rule_more Method = refl
rule_more Implementation = refl
rule_more Parameter = refl
rule_more Property = refl
rule_more Typar = refl

head_end : (row : Row) → head_of (end_of row) ≡ Some (rest_of row)
unfolding ilasm rule_by
head_end Assembly = refl
head_end Class = refl
head_end Field = refl
head_end Method = refl
head_end Implementation = refl
head_end Parameter = refl
head_end Property = refl
head_end Typar = refl

end_follows : (row : Row) → end_of row ≡ more_of row + 1
end_follows Assembly = refl
end_follows Class = refl
end_follows Field = refl
end_follows Method = refl
end_follows Implementation = refl
end_follows Parameter = refl
end_follows Property = refl
end_follows Typar = refl

flag_differs : (row : Row) → flag_of row ≡ rest_of row + 1
flag_differs Assembly = refl
flag_differs Class = refl
flag_differs Field = refl
flag_differs Method = refl
flag_differs Implementation = refl
flag_differs Parameter = refl
flag_differs Property = refl
flag_differs Typar = refl

rest_within : (row : Row) (p : ℕ) → head_of p ≡ Some (rest_of row) → (nat_lt (more_of row) (1 + (0 + p)) ≡ true) × (nat_lt (0 + p) (1 + end_of row) ≡ true)
unfolding ilasm
rest_within Assembly p e = within_in _ _ _ (rest_of Assembly) (more_of Assembly) (end_of Assembly) p e refl
rest_within Class p e = within_in _ _ _ (rest_of Class) (more_of Class) (end_of Class) p e refl
rest_within Field p e = within_in _ _ _ (rest_of Field) (more_of Field) (end_of Field) p e refl
rest_within Method p e = within_in _ _ _ (rest_of Method) (more_of Method) (end_of Method) p e refl
rest_within Implementation p e = within_in _ _ _ (rest_of Implementation) (more_of Implementation) (end_of Implementation) p e refl
rest_within Parameter p e = within_in _ _ _ (rest_of Parameter) (more_of Parameter) (end_of Parameter) p e refl
rest_within Property p e = within_in _ _ _ (rest_of Property) (more_of Property) (end_of Property) p e refl
rest_within Typar p e = within_in _ _ _ (rest_of Typar) (more_of Typar) (end_of Typar) p e refl

-- the rest of a row goes on with another flag or ends
more_or_end : (row : Row) (p : ℕ) → head_of p ≡ Some (rest_of row) → (p ≡ more_of row) ⊎ (p ≡ end_of row)
more_or_end row p e =
    let w = rest_within row p e in
    let low = ltb-true (more_of row) (1 + (0 + p)) w.0 in
    let high = ltb-true (0 + p) (1 + end_of row) w.1 in
    go low high (end_follows row) (p == more_of row) refl
  where
    go : more_of row < 1 + (0 + p) → 0 + p < 1 + end_of row → end_of row ≡ more_of row + 1 → (c : Bool) → (p == more_of row) ≡ c → (p ≡ more_of row) ⊎ (p ≡ end_of row)
    go low high next true is = inl ((Decides-eqb p (more_of row)).0 is)
    go low high next false apart = inr (omega (arith, low, high, next, differs apart))
      where
        differs : (p == more_of row) ≡ false → p ≡ more_of row → ⊥
        differs e is = let also = (Decides-eqb p (more_of row)).1 is in absurd cc

other_head : (row : Row) (q p : ℕ) → head_of q ≡ Some (flag_of row) → head_of p ≡ Some (rest_of row) → (q == p) ≡ false
other_head row q p h i = go (q == p) refl
  where
    go : (c : Bool) → (q == p) ≡ c → (q == p) ≡ false
    go true is =
        let same : flag_of row ≡ rest_of row = same_Some (flag_of row) (rest_of row) (sym h ∙ ap head_of ((Decides-eqb q p).0 is) ∙ i) in
        absurd (omega (arith, same, flag_differs row))
    go false apart = apart

head_more : (row : Row) → head_of (more_of row) ≡ Some (rest_of row)
head_more row = ap (option_map (λ (x : Rule). x.head)) (rule_more row)

module _ (s : Source) (row : Row) where
  abbrev row_body : List Symbol
  row_body = Nonterminal (flag_of row) ∷ Nonterminal (rest_of row) ∷ []

  abbrev in_row : Forest → List Part
  in_row f = flags_in (more_of row) (end_of row) f

  row_each : (f : Forest) → Fits s row_body f → AllInRange s f → AllByRecursion (IsFlag s row) (in_row f)
  row_each none h each = absurd h
  row_each (leaf k a) h each = absurd h
  row_each (branch q b none) h each = absurd h.1
  row_each (branch q b (leaf k a)) h each = absurd h.1
  row_each (branch q b (branch r c (leaf k a))) h each = absurd h.1.1
  row_each (branch q b (branch r c (branch t d a))) h each = absurd h.1.1
  row_each (branch q b (branch r c none)) h each =
      subst (AllByRecursion (IsFlag s row)) (sym first) ((h.0, each.0, each.1), rest (λ fits. row_each c fits each.2.1) (more_or_end row r h.1.0))
    where
      first : in_row (branch q b (branch r c none)) ≡ part q b ∷ in_row (branch r c none)
      first =
          ap (λ (x : Bool). (if x then in_row b else if q == end_of row then [] else part q b ∷ []) ++ in_row (branch r c none))
          (other_head row q (more_of row) h.0 (head_more row))
          ∙ ap (λ (x : Bool). (if x then [] else part q b ∷ []) ++ in_row (branch r c none)) (other_head row q (end_of row) h.0 (head_end row))

      rest : (Fits s row_body c → AllByRecursion (IsFlag s row) (in_row c)) → ((r ≡ more_of row) ⊎ (r ≡ end_of row)) → AllByRecursion (IsFlag s row) (in_row (branch r c none))
      rest below (inl is) =
          let fits : Fits s row_body c = fits_rule s (more_of row) (rest_of row) row_body c (rule_more row) (subst (λ p. FitsBody s p c) is each.2.0.fits) in
          subst (AllByRecursion (IsFlag s row))
          (sym (ap (λ (x : Bool). (if x then in_row c else if r == end_of row then [] else part r c ∷ []) ++ []) ((Decides-eqb r (more_of row)).1 is) ∙ append-nil (in_row c)))
          (below fits)
      rest below (inr is) =
          let apart : (r == more_of row) ≡ false = later is in
          subst (AllByRecursion (IsFlag s row))
          (sym (ap (λ (x : Bool). (if x then in_row c else if r == end_of row then [] else part r c ∷ []) ++ []) apart
          ∙ ap (λ (x : Bool). (if x then [] else part r c ∷ []) ++ []) ((Decides-eqb r (end_of row)).1 is)))
          tt
        where
          later : r ≡ end_of row → (r == more_of row) ≡ false
          later is = go (r == more_of row) refl
            where
              go : (x : Bool) → (r == more_of row) ≡ x → (r == more_of row) ≡ false
              go true same = let e = (Decides-eqb r (more_of row)).0 same in absurd (omega (arith, e, is, end_follows row))
              go false apart = apart

-- what stands below the first branch at the top of a production: nothing, or its body
pub child_or_none : (P : ℕ → Forest → Type 0) (p : ℕ) (f : Forest) → OfEach P f → (child (p ∷ []) f ≡ none) ⊎ (P p (child (p ∷ []) f) × OfEach P (child (p ∷ []) f))
child_or_none P p none each = inl refl
child_or_none P p (leaf k a) each = child_or_none P p a each
child_or_none P p (branch q b a) each = go (p == q) refl (child_or_none P p a each.2)
  where
    go : (c : Bool) → (p == q) ≡ c → (child (p ∷ []) a ≡ none) ⊎ (P p (child (p ∷ []) a) × OfEach P (child (p ∷ []) a))
        → (child (p ∷ []) (branch q b a) ≡ none) ⊎ (P p (child (p ∷ []) (branch q b a)) × OfEach P (child (p ∷ []) (branch q b a)))
    go true is after =
        let same = (Decides-eqb p q).0 is in
        inr
        (subst (λ g. P p g × OfEach P g) (sym (ap (λ (c : Bool). if c || false then b else child (p ∷ []) a) is))
        (subst (λ r. P r b × OfEach P b) (sym same) (each.0, each.1)))
    go false apart after =
        subst (λ g. (g ≡ none) ⊎ (P p g × OfEach P g)) (sym (ap (λ (c : Bool). if c || false then b else child (p ∷ []) a) apart)) after

positive : (row : Row) → 0 < 2 ^ width_of row
positive Assembly = omega arith
positive Class = omega arith
positive Field = omega arith
positive Method = omega arith
positive Implementation = omega arith
positive Parameter = omega arith
positive Property = omega arith
positive Typar = omega arith

-- the flags of a declaration fit its row
pub row_fits : (s : Source) (row : Row) (f : Forest) → AllInRange s f → row_flags s row f < 2 ^ width_of row
row_fits s row f each = elim (child_or_none (IsInRange s) (more_of row) f each) [
  | inl e ↦ subst (λ g. fold (with_flag s (words_of row)) 0 (in_row s row g) < 2 ^ width_of row) (sym e) (positive row)
  | inr h ↦
      all_added s row (in_row s row (child (more_of row ∷ []) f)) 0
      (row_each s row (child (more_of row ∷ []) f)
      (fits_rule s (more_of row) (rest_of row) (row_body s row) (child (more_of row ∷ []) f) (rule_more row) h.0.fits) h.1)
      (positive row)
]

-- so they are their lowest bits
pub low_is_all : (x k low : ℕ) → x < 2 ^ k → low ≡ x % 2 ^ k → low ≡ x
low_is_all x k low h e = e ∙ mod-eq_of_lt h

pub fewer_fit : (x g k : ℕ) → x < 2 ^ k → without_bits g x < 2 ^ k
fewer_fit x g k h = omega (arith, h)
