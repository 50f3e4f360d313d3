-- The implementation flags of a method in a faultless source say CIL or runtime, and managed (ECMA-335 II.23.1.11).
use Rattle.std.proofs.Common.{◌≡◌, ℕ, ◌+◌, ◌%◌, ◌^◌, ◌<◌, ◌≤◌, ◌⊎◌, inl, inr, List, [], ◌∷◌, Option, Some, cond, refl, ap, sym, subst, ◌∙◌, arith, pow_pos, nat_le}
use Rattle.std.specs.Prelude.{Bool, true, false, not, ◌==◌, ◌||◌, ◌&&◌, if◌then◌else◌, bit_and, bit_or, fold, option_map, ℤ, pos, negsuc}
use Rattle.std.specs.List.{AllByRecursion, list_all}
use Rattle.std.proofs.Math.Nat.{mod-eq_of_lt}
use Rattle.std.proofs.lemmas.Bool.{cases_Bool}
use Rattle.std.proofs.lemmas.Bool.Decides.{Decides-eqb}
use Rattle.std.proofs.lemmas.Nat.{and-not, and_comm, and_le_r, and_mod, mod_below, or_mod}
use Rattle.std.proofs.lemmas.Option.{same_Some}
use Rattle.assembly_tree.specs.WellFormedMembers.{are_impl_flags}
use Rattle.ilasm_grammar.specs.Grammar.{Rule}
use Rattle.ilasm_grammar.specs.Ilasm.{ilasm, rule_by}
use Rattle.ilasm_grammar.specs.declared.nonterminals.TheConstants as n
use Rattle.ilasm_grammar.specs.declared.productions.TheConstants.{CLASS_ATTR_NESTED, FLAGS, IMPL_ATTR_FLAGS, IMPL_ATTR_STAR_END, IMPL_ATTR_STAR_MORE}
use Rattle.ilasm_grammar.specs.declared.symbol.Symbol.{Symbol}
use Rattle.ilasm_grammar.specs.declared.symbol.Symbol.TheVariants.{Terminal, Nonterminal}
use Rattle.source_model.specs.Flags.{FlagWord, flag_word, flags_in, flags_number, flags_token, implementation_flags, implementation_words, nested_words, replaced, with_flag, without_bits}
use Rattle.source_model.specs.Forest.{Forest, Part, none, leaf, branch, child, has, is_among, last_token, part}
use Rattle.source_model.specs.OutOfRange.{are_implementation_flags, is_natural_with}
use Rattle.source_model.specs.Shapes.{natural}
use Rattle.source_model.specs.Source.{Source, is_word_numbered, word_at}
use Rattle.source_model.specs.Values.{int_at}
use Rattle.source_nodes.specs.Derived.{Fits, FitsBody, head_of}
use Rattle.source_syntax.proofs.BodyLemmas.{all_in}
use Rattle.source_nodes.proofs.WrittenNames.{both_true, other_true}
use Rattle.source_flags.proofs.FlagBounds.{child_or_none}
use Rattle.source_flags.proofs.Gathered.{all_append}
use Rattle.laws_formed_sources.specs.sources.Productions.{AllFaultless, IsFaultlessAt}
use Rattle.laws_formed_sources.proofs.sources.Attributes.{IsGood}
use Rattle.laws_formed_sources.proofs.sources.ClearBits.{without_low}
use Rattle.laws_formed_sources.proofs.sources.Rules.{AllOf, among_these, body_of, fits_of, for_each, rule_below, rule_passes}

-- ---- the lowest three bits

low_once : (x : ℕ) → x % 2 ^ 3 % 2 ^ 3 ≡ x % 2 ^ 3
low_once x = mod-eq_of_lt (mod_below x (2 ^ 3) (pow_pos 3))

masked : (x m : ℕ) → m < 2 ^ 3 → bit_and x m ≡ bit_and (x % 2 ^ 3) m
masked x m h =
    sym (mod-eq_of_lt (small (and_le_r x m))) ∙ and_mod x m 3 ∙ ap (bit_and (x % 2 ^ 3)) (mod-eq_of_lt h)
  where
    small : bit_and x m ≤ m → bit_and x m < 2 ^ 3
    small i = omega (arith, h, i)

seven : (x : ℕ) → bit_and x 7 ≡ x % 2 ^ 3
seven x =
    masked x 7 (omega arith) ∙ and_comm (x % 2 ^ 3) 7
    ∙ all (x % 2 ^ 3) (and-not 3 0 (x % 2 ^ 3) (omega arith) (mod_below x (2 ^ 3) (pow_pos 3)))
  where
    all : (m : ℕ) → bit_and 7 m + bit_and 0 m ≡ m → bit_and 7 m ≡ m
    all m e = let nothing : bit_and 0 m ≡ 0 = refl in omega (arith, e, nothing)

-- CIL or runtime, and managed
abbrev IsFine : ℕ → Type 0
IsFine x = (x % 2 ^ 3 ≡ 0) ⊎ (x % 2 ^ 3 ≡ 3)

fine_flags : (x : ℕ) → IsFine x → are_impl_flags x ≡ true
fine_flags x (inl e) =
    ap (λ b. ((b == 0) || (b == 3)) && (bit_and x 4 == 0)) (masked x 3 (omega arith) ∙ ap (λ m. bit_and m 3) e)
    ∙ ap (λ b. b == 0) (masked x 4 (omega arith) ∙ ap (λ m. bit_and m 4) e)
fine_flags x (inr e) =
    ap (λ b. ((b == 0) || (b == 3)) && (bit_and x 4 == 0)) (masked x 3 (omega arith) ∙ ap (λ m. bit_and m 3) e)
    ∙ ap (λ b. b == 0) (masked x 4 (omega arith) ∙ ap (λ m. bit_and m 4) e)

-- ---- a word

replaced_low : (w : FlagWord) (x : ℕ) → replaced (Some w) x % 2 ^ 3 ≡ replaced (Some w) (x % 2 ^ 3) % 2 ^ 3
replaced_low w x =
    or_mod (without_bits w.group x) w.value 3
    ∙ ap (λ n. bit_or n (w.value % 2 ^ 3)) (sym (low_once (without_bits w.group x)) ∙ ap (λ n. n % 2 ^ 3) (without_low x w.group 3))
    ∙ sym (or_mod (without_bits w.group (x % 2 ^ 3)) w.value 3)

abbrev is_fine : ℕ → Bool
is_fine x = (x % 2 ^ 3 == 0) || (x % 2 ^ 3 == 3)

of_test : (x : ℕ) → is_fine x ≡ true → IsFine x
of_test x e = elim (cases_Bool (x % 2 ^ 3 == 0)) [
  | inl is ↦ inl ((Decides-eqb (x % 2 ^ 3) 0).0 is)
  | inr other ↦ inr ((Decides-eqb (x % 2 ^ 3) 3).0 (sym (ap (λ (c : Bool). c || (x % 2 ^ 3 == 3)) other) ∙ e))
]

abbrev keeps : FlagWord → Bool
keeps w = is_fine (replaced (Some w) 0) && is_fine (replaced (Some w) 3)

word_fine : (w : FlagWord) → keeps w ≡ true → (x : ℕ) → IsFine x → IsFine (replaced (Some w) x)
word_fine w k x h =
    let both = both_true (is_fine (replaced (Some w) 0)) (is_fine (replaced (Some w) 3)) k in
    elim h [
      | inl e ↦ moved (replaced (Some w) x) (replaced (Some w) 0) (replaced_low w x ∙ ap (λ m. replaced (Some w) m % 2 ^ 3) e) (of_test (replaced (Some w) 0) both.0)
      | inr e ↦ moved (replaced (Some w) x) (replaced (Some w) 3) (replaced_low w x ∙ ap (λ m. replaced (Some w) m % 2 ^ 3) e) (of_test (replaced (Some w) 3) both.1)
    ]
  where
    moved : (y z : ℕ) → y % 2 ^ 3 ≡ z % 2 ^ 3 → IsFine z → IsFine y
    moved y z e (inl i) = inl (e ∙ i)
    moved y z e (inr i) = inr (e ∙ i)

words_fine : (ws : List FlagWord) → list_all keeps ws ≡ true → (o : Option ℕ) (x : ℕ) → IsFine x → IsFine (replaced (flag_word ws o) x)
words_fine [] e o x h = h
words_fine (w ∷ ws) e o x h =
    let both = both_true (keeps w) (list_all keeps ws) e in
    elim (cases_Bool (is_word_numbered w.word o)) [
      | inl is ↦ subst (λ (c : Bool). IsFine (replaced (cond c (Some w) (flag_word ws o)) x)) (sym is) (word_fine w both.0 x h)
      | inr other ↦ subst (λ (c : Bool). IsFine (replaced (cond c (Some w) (flag_word ws o)) x)) (sym other) (words_fine ws both.1 o x h)
    ]

-- ---- a number

number_fine : (x k : ℕ) → k % 2 ^ 3 ≡ 0 → IsFine x → IsFine (bit_or x k)
number_fine x k e (inl h) = inl (or_mod x k 3 ∙ ap (λ m. bit_or m (k % 2 ^ 3)) h ∙ ap (bit_or 0) e)
number_fine x k e (inr h) = inr (or_mod x k 3 ∙ ap (λ m. bit_or m (k % 2 ^ 3)) h ∙ ap (bit_or 3) e)

low_of_number : (z : ℤ) → is_natural_with are_implementation_flags z ≡ true → natural z % 2 ^ 3 ≡ 0
low_of_number (pos m) e =
    sym (seven m) ∙ (Decides-eqb (bit_and m 7) 0).0 (both_true (nat_le m 0xFFFF) (bit_and m 7 == 0) e).1
low_of_number (negsuc m) e = absurd cc

-- ---- the row

abbrev terminals_alone : List Symbol → Bool
terminals_alone body = all_in (λ m. false) body

-- a flag is the number, or a word alone
abbrev number_or_word : ℕ → ℕ → List Symbol → Bool
number_or_word p h body = not (h == n.IMPL_ATTR) || ((p == IMPL_ATTR_FLAGS) || terminals_alone body)

flag_rules : (p : ℕ) (r : Rule) → ilasm p ≡ Some r → number_or_word p r.head r.body ≡ true
unfolding ilasm
flag_rules p r is = rule_passes number_or_word _ _ _ p r is refl

rests : (p : ℕ) → head_of p ≡ Some n.IMPL_ATTR_STAR → is_among (IMPL_ATTR_STAR_MORE ∷ IMPL_ATTR_STAR_END ∷ []) p ≡ true
unfolding ilasm
rests p e = among_these _ _ _ n.IMPL_ATTR_STAR (IMPL_ATTR_STAR_MORE ∷ IMPL_ATTR_STAR_END ∷ []) p e refl

head_nested : head_of CLASS_ATTR_NESTED ≡ Some n.CLASS_ATTR
unfolding ilasm rule_by
head_nested = refl

more_heads : AllOf (λ p. head_of p ≡ Some n.IMPL_ATTR_STAR) (IMPL_ATTR_STAR_MORE ∷ IMPL_ATTR_STAR_END ∷ [])
unfolding ilasm rule_by
more_heads = (refl, (refl, tt))

abbrev in_row : List Symbol → Bool
in_row body = all_in (λ m. m == n.IMPL_ATTR || m == n.IMPL_ATTR_STAR) body

more_in_row : in_row (body_of (ilasm IMPL_ATTR_STAR_MORE)) ≡ true
unfolding ilasm rule_by
more_in_row = refl

no_flags : (s : Source) (f : Forest) (body : List Symbol) → Fits s body f → terminals_alone body ≡ true → has FLAGS f ≡ false
no_flags s none body h e = refl
no_flags s (leaf k a) [] h e = absurd h
no_flags s (leaf k a) (Terminal t ∷ more) h e = no_flags s a more h.1 e
no_flags s (leaf k a) (Nonterminal m ∷ more) h e = absurd h
no_flags s (branch p b a) [] h e = absurd h
no_flags s (branch p b a) (Terminal t ∷ more) h e = absurd h
no_flags s (branch p b a) (Nonterminal m ∷ more) h e = absurd cc

apart : (p q l m : ℕ) → head_of p ≡ Some l → head_of q ≡ Some m → (l == m) ≡ false → (p == q) ≡ false
apart p q l m h i e = elim (cases_Bool (p == q)) [
  | inl is ↦
      let same : l ≡ m = same_Some l m (sym h ∙ ap head_of ((Decides-eqb p q).0 is) ∙ i) in
      let both : true ≡ false = sym ((Decides-eqb l m).1 same) ∙ e in absurd cc
  | inr other ↦ other
]

module _ (s : Source) where
  -- a flag of an implementation
  abbrev IsFlag : Part → Type 0
  IsFlag q = (head_of q.production ≡ Some n.IMPL_ATTR) × IsGood s q

  abbrev in_flags : Forest → List Part
  in_flags f = flags_in IMPL_ATTR_STAR_MORE IMPL_ATTR_STAR_END f

  row_each : (f : Forest) (body : List Symbol) → Fits s body f → in_row body ≡ true → AllFaultless s f → AllByRecursion IsFlag (in_flags f)
  row_each none body h e all = tt
  row_each (leaf k a) [] h e all = absurd h
  row_each (leaf k a) (Terminal t ∷ more) h e all = row_each a more h.1 e all
  row_each (leaf k a) (Nonterminal m ∷ more) h e all = absurd h
  row_each (branch p b a) [] h e all = absurd h
  row_each (branch p b a) (Terminal t ∷ more) h e all = absurd h
  row_each (branch p b a) (Nonterminal m ∷ more) h e all =
      let both = both_true (m == n.IMPL_ATTR || m == n.IMPL_ATTR_STAR) (in_row more) e in
      all_append IsFlag (if p == IMPL_ATTR_STAR_MORE then in_flags b else if p == IMPL_ATTR_STAR_END then [] else part p b ∷ []) (in_flags a)
      (elim (cases_Bool (m == n.IMPL_ATTR)) [
        | inl is ↦
            let head : head_of p ≡ Some n.IMPL_ATTR = h.0 ∙ ap Some ((Decides-eqb m n.IMPL_ATTR).0 is) in
            subst (AllByRecursion IsFlag)
            (sym (ap (λ (c : Bool). if c then in_flags b else if p == IMPL_ATTR_STAR_END then [] else part p b ∷ []) (apart p IMPL_ATTR_STAR_MORE n.IMPL_ATTR n.IMPL_ATTR_STAR head more_heads.0 refl)
            ∙ ap (λ (c : Bool). if c then [] else part p b ∷ []) (apart p IMPL_ATTR_STAR_END n.IMPL_ATTR n.IMPL_ATTR_STAR head more_heads.1.0 refl)))
            ((head, (all.0, all.1)), tt)
        | inr other ↦
            let rest : (m == n.IMPL_ATTR_STAR) ≡ true = sym (ap (λ (c : Bool). c || m == n.IMPL_ATTR_STAR) other) ∙ both.0 in
            let head : head_of p ≡ Some n.IMPL_ATTR_STAR = h.0 ∙ ap Some ((Decides-eqb m n.IMPL_ATTR_STAR).0 rest) in
            elim (cases_Bool (p == IMPL_ATTR_STAR_MORE)) [
              | inl is ↦
                  let fits = fits_of s IMPL_ATTR_STAR_MORE b (subst (λ q. FitsBody s q b) ((Decides-eqb p IMPL_ATTR_STAR_MORE).0 is) all.0.range.fits) in
                  subst (AllByRecursion IsFlag) (sym (ap (λ (c : Bool). if c then in_flags b else if p == IMPL_ATTR_STAR_END then [] else part p b ∷ []) is))
                  (row_each b (body_of (ilasm IMPL_ATTR_STAR_MORE)) fits more_in_row all.1)
              | inr not_more ↦
                  let end : (p == IMPL_ATTR_STAR_END) ≡ true = ends p (rests p head) not_more in
                  subst (AllByRecursion IsFlag)
                  (sym (ap (λ (c : Bool). if c then in_flags b else if p == IMPL_ATTR_STAR_END then [] else part p b ∷ []) not_more
                  ∙ ap (λ (c : Bool). if c then [] else part p b ∷ []) end)) tt
            ]
      ])
      (row_each a more h.1 both.1 all.2)
    where
      ends : (q : ℕ) → is_among (IMPL_ATTR_STAR_MORE ∷ IMPL_ATTR_STAR_END ∷ []) q ≡ true → (q == IMPL_ATTR_STAR_MORE) ≡ false → (q == IMPL_ATTR_STAR_END) ≡ true
      ends q known = for_each Q (IMPL_ATTR_STAR_MORE ∷ IMPL_ATTR_STAR_END ∷ []) ((λ e. absurd cc), ((λ e. refl), tt)) q known
        where
          Q : ℕ → Type 0
          Q x = (x == IMPL_ATTR_STAR_MORE) ≡ false → (x == IMPL_ATTR_STAR_END) ≡ true

  unless : (c : Bool) (k : ℕ) → (if c then [] else k ∷ []) ≡ [] → c ≡ true
  unless true k e = refl
  unless false k e = absurd cc

  numbered_is : (q : Part) → IsFlag q → has FLAGS q.below ≡ true → q.production ≡ IMPL_ATTR_FLAGS
  numbered_is q h some =
      let r = rule_below s q.production q.below (ilasm q.production) refl h.1.0.range.fits in
      let head : r.0.head ≡ n.IMPL_ATTR = same_Some r.0.head n.IMPL_ATTR (sym (ap (option_map (λ (x : Rule). x.head)) r.1) ∙ h.0) in
      let passed = other_true (r.0.head == n.IMPL_ATTR) ((q.production == IMPL_ATTR_FLAGS) || terminals_alone r.0.body) (flag_rules q.production r.0 r.1) ((Decides-eqb r.0.head n.IMPL_ATTR).1 head) in
      elim (cases_Bool (q.production == IMPL_ATTR_FLAGS)) [
        | inl is ↦ (Decides-eqb q.production IMPL_ATTR_FLAGS).0 is
        | inr other ↦
            let absent = no_flags s q.below r.0.body r.2 (sym (ap (λ (c : Bool). c || terminals_alone r.0.body) other) ∙ passed) in
            let both : true ≡ false = sym some ∙ absent in absurd cc
      ]

  number_low : (q : Part) → IsFlag q → has FLAGS q.below ≡ true → flags_number s q.below % 2 ^ 3 ≡ 0
  number_low q h some =
      let own : IsFaultlessAt s IMPL_ATTR_FLAGS q.below = subst (λ p. IsFaultlessAt s p q.below) (numbered_is q h some) h.1.0 in
      let k = flags_token q.below in
      low_of_number (int_at s k) (unless (is_natural_with are_implementation_flags (int_at s k)) k own.range.flags)

  step_fine : (x : ℕ) (q : Part) → IsFlag q → IsFine x → IsFine (with_flag s implementation_words x q)
  step_fine x q h fine = elim (cases_Bool (has FLAGS q.below)) [
    | inl some ↦
        subst (λ (c : Bool). IsFine (if c then bit_or x (flags_number s q.below) else lower)) (sym some) (number_fine x (flags_number s q.below) (number_low q h some) fine)
    | inr absent ↦
        subst (λ (c : Bool). IsFine (if c then bit_or x (flags_number s q.below) else lower)) (sym absent)
        (subst (λ (c : Bool). IsFine (if c then replaced (flag_word nested_words (word_at s (last_token q.below))) x else replaced (flag_word implementation_words (word_at s (last_token q.below))) x))
        (sym (apart q.production CLASS_ATTR_NESTED n.IMPL_ATTR n.CLASS_ATTR h.0 head_nested refl))
        (words_fine implementation_words refl (word_at s (last_token q.below)) x fine))
  ]
    where
      lower : ℕ
      lower =
          if q.production == CLASS_ATTR_NESTED then replaced (flag_word nested_words (word_at s (last_token q.below))) x
          else replaced (flag_word implementation_words (word_at s (last_token q.below))) x

  all_fine : (ps : List Part) (x : ℕ) → AllByRecursion IsFlag ps → IsFine x → IsFine (fold (with_flag s implementation_words) x ps)
  all_fine [] x h fine = fine
  all_fine (q ∷ qs) x h fine = all_fine qs (with_flag s implementation_words x q) h.1 (step_fine x q h.0 fine)

  pub implementation_formed : (f : Forest) → AllFaultless s f → are_impl_flags (implementation_flags s f) ≡ true
  implementation_formed f all = fine_flags (implementation_flags s f) (elim (child_or_none (IsFaultlessAt s) IMPL_ATTR_STAR_MORE f all) [
    | inl e ↦ subst (λ g. IsFine (fold (with_flag s implementation_words) 0 (in_flags g))) (sym e) (inl refl)
    | inr h ↦
        all_fine (in_flags (child (IMPL_ATTR_STAR_MORE ∷ []) f)) 0
        (row_each (child (IMPL_ATTR_STAR_MORE ∷ []) f) (body_of (ilasm IMPL_ATTR_STAR_MORE)) (fits_of s IMPL_ATTR_STAR_MORE (child (IMPL_ATTR_STAR_MORE ∷ []) f) h.0.range.fits) more_in_row h.1)
        (inl refl)
  ])
