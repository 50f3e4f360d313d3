-- What can't stand within a signature: the tail of a target.
use Rattle.std.proofs.Common.{◌≡◌, ℕ, zero, suc, ◌<◌, ◌≤◌, inl, inr, List, [], ◌∷◌, ◌++◌, Option, None, Some, length, refl, ap, sym, subst, ◌∙◌, arith}
use Rattle.std.specs.Prelude.{Bool, true, false, not, ◌==◌, ◌||◌, ◌&&◌, nat_le, nat_lt, if◌then◌else◌, slice_get, option_map}
use Rattle.std.proofs.lemmas.Bool.{cases_Bool, cases_eq, ltb-true}
use Rattle.std.proofs.lemmas.Bool.Decides.{Decides-eqb}
use Rattle.std.proofs.lemmas.Option.{slice_get_within, same_Some}
use Rattle.ilasm_grammar.specs.Grammar.{Rule, rule_of}
use Rattle.ilasm_grammar.specs.Ilasm.{ilasm, rule_by, body_by}
use Rattle.ilasm_grammar.specs.declared.nonterminals.TheConstants as n
use Rattle.ilasm_grammar.specs.declared.productions.TheConstants.{FIELD_TAIL_SLASH, FIELD_TARGET_NAME, NAME_TAIL_SLASH, TARGET_NAME}
use Rattle.ilasm_grammar.specs.declared.symbol.Symbol.{Symbol}
use Rattle.ilasm_grammar.specs.declared.symbol.Symbol.TheVariants.{Terminal, Nonterminal}
use Rattle.ilasm_grammar.specs.declared.terminals.TheConstants as t
use Rattle.source_model.specs.Forest.{Forest, none, leaf, branch, Part, part, parts, child, has, is_any_part}
use Rattle.source_model.specs.Source.{Source}
use Rattle.source_nodes.specs.Derived.{Fits, FitsRule, FitsBody, HasBodies, head_of}
use Rattle.source_syntax.proofs.NameTokens.{IsBody}
use Rattle.source_nodes.proofs.WrittenNames.{both_true, fits_rule}

-- the nonterminals of signatures and of the ends of targets, and of what stands within them
abbrev inside : ℕ → Bool
inside m = m == n.FLAGS || (nat_le n.TYPE m && nat_le m n.COMMA_SIG_ARG && not (m == n.TARGET))

abbrev all_inside : List Symbol → Bool
all_inside [] = true
all_inside (Terminal x ∷ more) = all_inside more
all_inside (Nonterminal m ∷ more) = inside m && all_inside more

-- a test of each production
abbrev pub all_rules : (ℕ → Option Rule → Bool) → ℕ → Bool
all_rules test zero = true
all_rules test (suc k) = test k (ilasm k) && all_rules test k

each_rule : (test : ℕ → Option Rule → Bool) (k p : ℕ) → all_rules test k ≡ true → p < k → test p (ilasm p) ≡ true
each_rule test zero p e less = absurd (omega (arith, less))
each_rule test (suc k) p e less = elim (cases_eq p k) [
  | inl same ↦ ap (λ q. test q (ilasm q)) same ∙ (both_true (test k (ilasm k)) (all_rules test k) e).0
  | inr other ↦ each_rule test k p (both_true (test k (ilasm k)) (all_rules test k) e).1 (omega (arith, less, other))
]

beyond_by : (heads starts : List ℕ) (bodies : List Symbol) (p : ℕ) → length heads ≡ 641 → 641 ≤ p → rule_by heads starts bodies p ≡ None
unfolding rule_by
beyond_by heads starts bodies p long over = go (slice_get heads p) refl
  where
    go : (o : Option ℕ) → slice_get heads p ≡ o → option_map (λ (h : ℕ). rule_of h (body_by starts bodies p)) o ≡ None
    go None e = refl
    go (Some h) e = let within = slice_get_within heads p h e in absurd (omega (arith, within, over, long))

beyond : (p : ℕ) → 641 ≤ p → ilasm p ≡ None
unfolding ilasm
beyond p over = beyond_by _ _ _ p refl over

-- what such a nonterminal stands for is made of such alone
abbrev is_closed : ℕ → Option Rule → Bool
is_closed p None = true
is_closed p (Some r) = not (inside r.head) || all_inside r.body

closed : all_rules is_closed 641 ≡ true
unfolding ilasm rule_by
closed = refl

-- and so are the tails of targets, but those with a path
abbrev ends_so : ℕ → ℕ → ℕ → Option Rule → Bool
ends_so tail slash p None = true
ends_so tail slash p (Some r) = not (r.head == tail) || (p == slash || all_inside r.body)

name_tails : all_rules (ends_so n.NAME_TAIL NAME_TAIL_SLASH) 641 ≡ true
unfolding ilasm rule_by
name_tails = refl

field_tails : all_rules (ends_so n.FIELD_TAIL FIELD_TAIL_SLASH) 641 ≡ true
unfolding ilasm rule_by
field_tails = refl

over : (m k : ℕ) → nat_lt m k ≡ false → k ≤ m
over m k e = grind arith

pub everywhere : (test : ℕ → Option Rule → Bool) → ((p : ℕ) → test p None ≡ true) → all_rules test 641 ≡ true → (p : ℕ) → test p (ilasm p) ≡ true
everywhere test nowhere e p = elim (cases_Bool (nat_lt p 641)) [
  | inl less ↦ each_rule test 641 p e (ltb-true p 641 less)
  | inr past ↦ ap (test p) (beyond p (over p 641 past)) ∙ nowhere p
]

other_true : (a b : Bool) → (not a || b) ≡ true → a ≡ true → b ≡ true
other_true true b e h = e
other_true false b e h = absurd cc

closed_body : (s : Source) (p m : ℕ) (b : Forest) → head_of p ≡ Some m → inside m ≡ true → FitsBody s p b → (body : List Symbol) × Fits s body b × (all_inside body ≡ true)
closed_body s p m b head own fits = go (ilasm p) head fits (everywhere is_closed (λ q. refl) closed p)
  where
    go : (o : Option Rule) → option_map (λ (r : Rule). r.head) o ≡ Some m → FitsRule s o b → is_closed p o ≡ true → (body : List Symbol) × Fits s body b × (all_inside body ≡ true)
    go None e h k = absurd h
    go (Some r) e h k = (r.body, h, other_true (inside r.head) (all_inside r.body) k (ap inside (same_Some r.head m e) ∙ own))

any_append : (ps qs : List Part) → is_any_part (ps ++ qs) ≡ (is_any_part ps || is_any_part qs)
any_append [] qs = refl
any_append (p ∷ ps) qs = refl

has_branch : (q p : ℕ) (b a : Forest) → (q == p) ≡ false → has q (branch p b a) ≡ (has q b || has q a)
has_branch q p b a e =
    ap (λ (c : Bool). is_any_part ((if c || false then part p b ∷ [] else parts (q ∷ []) b) ++ parts (q ∷ []) a)) e
    ∙ any_append (parts (q ∷ []) b) (parts (q ∷ []) a)

neither : (a b : Bool) → a ≡ false → b ≡ false → (a || b) ≡ false
neither true b h k = absurd cc
neither false b h k = k

-- a production of another nonterminal doesn't stand there
pub nowhere_inside : (s : Source) (q m : ℕ) → head_of q ≡ Some m → inside m ≡ false → (body : List Symbol) (f : Forest) → Fits s body f → all_inside body ≡ true
    → HasBodies s f → has q f ≡ false
nowhere_inside s q m head out body none fits all h = refl
nowhere_inside s q m head out [] (leaf k a) fits all h = absurd fits
nowhere_inside s q m head out (Terminal x ∷ more) (leaf k a) fits all h = nowhere_inside s q m head out more a fits.1 all h
nowhere_inside s q m head out (Nonterminal r ∷ more) (leaf k a) fits all h = absurd fits
nowhere_inside s q m head out [] (branch p b a) fits all h = absurd fits
nowhere_inside s q m head out (Terminal x ∷ more) (branch p b a) fits all h = absurd fits
nowhere_inside s q m head out (Nonterminal r ∷ more) (branch p b a) fits all h =
    let both = both_true (inside r) (all_inside more) all in
    let c = closed_body s p r b fits.0 both.0 h.0 in
    has_branch q p b a (apart both.0) ∙ neither (has q b) (has q a) (nowhere_inside s q m head out c.0 b c.1 c.2 h.1) (nowhere_inside s q m head out more a fits.1 both.1 h.2)
  where
    apart : inside r ≡ true → (q == p) ≡ false
    apart own = elim (cases_Bool (q == p)) [
      | inr e ↦ e
      | inl e ↦
          let same : m ≡ r = same_Some m r (sym head ∙ ap head_of ((Decides-eqb q p).0 e) ∙ fits.0) in
          let no : inside r ≡ false = ap inside (sym same) ∙ out in
          absurd cc
    ]

-- ---- the tails of targets

at_tail : (s : Source) (tail slash : ℕ) → head_of slash ≡ Some tail → inside tail ≡ false → all_rules (ends_so tail slash) 641 ≡ true → (f : Forest)
    → Fits s (Terminal t.NAME ∷ Nonterminal tail ∷ []) f → HasBodies s f → has slash f ≡ true → IsBody s slash (child (slash ∷ []) f)
at_tail s tail slash head out table none fits h some = absurd fits
at_tail s tail slash head out table (branch p b a) fits h some = absurd fits
at_tail s tail slash head out table (leaf k none) fits h some = absurd fits.1
at_tail s tail slash head out table (leaf k (leaf l a)) fits h some = absurd fits.1
at_tail s tail slash head out table (leaf k (branch p b (leaf l a))) fits h some = absurd fits.1.1
at_tail s tail slash head out table (leaf k (branch p b (branch q c a))) fits h some = absurd fits.1.1
at_tail s tail slash head out table (leaf k (branch p b none)) fits h some = go (slash == p) refl
  where
    go : (c : Bool) → (slash == p) ≡ c → IsBody s slash (child (slash ∷ []) (leaf k (branch p b none)))
    go true e =
        subst (λ (c : Bool). IsBody s slash (if c || false then b else none)) (sym e)
        (subst (λ q. FitsBody s q b) (sym ((Decides-eqb slash p).0 e)) h.0, h.1)
    go false e =
        let inner = body (ilasm p) fits.1.0 h.0 (everywhere (ends_so tail slash) (λ q. refl) table p) in
        let no : has slash (leaf k (branch p b none)) ≡ false =
        has_branch slash p b none e ∙ neither (has slash b) false (nowhere_inside s slash tail head out inner.0 b inner.1 inner.2 h.1) refl in
        absurd cc
      where
        different : (p == slash) ≡ false
        different = turned slash p e
          where
            turned : (x y : ℕ) → (x == y) ≡ false → (y == x) ≡ false
            turned x y d = elim (cases_Bool (y == x)) [
              | inr z ↦ z
              | inl z ↦ let also = (Decides-eqb x y).1 (sym ((Decides-eqb y x).0 z)) in absurd cc
            ]

        body : (o : Option Rule) → option_map (λ (r : Rule). r.head) o ≡ Some tail → FitsRule s o b → ends_so tail slash p o ≡ true
            → (body : List Symbol) × Fits s body b × (all_inside body ≡ true)
        body None d i w = absurd i
        body (Some r) d i w =
            let own : (r.head == tail) ≡ true = (Decides-eqb r.head tail).1 (same_Some r.head tail d) in
            let either = other_true (r.head == tail) (p == slash || all_inside r.body) w own in
            (r.body, i, ap (λ (c : Bool). c || all_inside r.body) (sym different) ∙ either)

rule_target : ilasm TARGET_NAME ≡ Some (rule_of n.TARGET (Terminal t.NAME ∷ Nonterminal n.NAME_TAIL ∷ []))
unfolding ilasm rule_by
rule_target = refl

rule_field_target : ilasm FIELD_TARGET_NAME ≡ Some (rule_of n.FIELD_TARGET (Terminal t.NAME ∷ Nonterminal n.FIELD_TAIL ∷ []))
unfolding ilasm rule_by
rule_field_target = refl

name_slash : head_of NAME_TAIL_SLASH ≡ Some n.NAME_TAIL
unfolding ilasm rule_by
name_slash = refl

field_slash : head_of FIELD_TAIL_SLASH ≡ Some n.FIELD_TAIL
unfolding ilasm rule_by
field_slash = refl

pub tail_of_target : (s : Source) (f : Forest) → FitsBody s TARGET_NAME f → HasBodies s f → has NAME_TAIL_SLASH f ≡ true
    → IsBody s NAME_TAIL_SLASH (child (NAME_TAIL_SLASH ∷ []) f)
tail_of_target s f fits h some =
    at_tail s n.NAME_TAIL NAME_TAIL_SLASH name_slash refl name_tails f (fits_rule s TARGET_NAME n.TARGET (Terminal t.NAME ∷ Nonterminal n.NAME_TAIL ∷ []) f rule_target fits) h some

pub tail_of_field_target : (s : Source) (f : Forest) → FitsBody s FIELD_TARGET_NAME f → HasBodies s f → has FIELD_TAIL_SLASH f ≡ true
    → IsBody s FIELD_TAIL_SLASH (child (FIELD_TAIL_SLASH ∷ []) f)
tail_of_field_target s f fits h some =
    at_tail s n.FIELD_TAIL FIELD_TAIL_SLASH field_slash refl field_tails f
    (fits_rule s FIELD_TARGET_NAME n.FIELD_TARGET (Terminal t.NAME ∷ Nonterminal n.FIELD_TAIL ∷ []) f rule_field_target fits) h some
