-- The numbers of `flags(n)` fit the rows that they stand in.
use Rattle.std.proofs.Common.{◌≡◌, ℕ, zero, suc, ◌+◌, ◌<◌, ◌^◌, List, [], ◌∷◌, ◌++◌, Option, None, Some, refl, ap, sym, subst, ◌∙◌, arith, append-nil}
use Rattle.std.specs.Prelude.{Bool, true, false, not, ◌==◌, ◌||◌, ◌&&◌, if◌then◌else◌, slice_get, option_map, pos}
use Rattle.std.proofs.lemmas.Bool.Decides.{Decides-eqb}
use Rattle.std.proofs.lemmas.Option.{same_Some}
use Rattle.il_lexer.specs.declared.word.TheConstants as word
use Rattle.ilasm_grammar.specs.Grammar.{Rule, rule_of}
use Rattle.ilasm_grammar.specs.Ilasm.{ilasm, rule_by, body_by}
use Rattle.ilasm_grammar.specs.declared.nonterminals.TheConstants as n
use Rattle.ilasm_grammar.specs.declared.productions.TheConstants.{
  FLAGS,
  ASSEMBLY_ATTR_FLAGS,
  CLASS_ATTR_FLAGS,
  CLASS_ATTR_NESTED,
  FIELD_ATTR_FLAGS,
  METHOD_ATTR_FLAGS,
  IMPL_ATTR_FLAGS,
  PARAM_ATTR_FLAGS,
  PROPERTY_ATTR_FLAGS,
  TYPAR_ATTR_FLAGS,
}
use Rattle.ilasm_grammar.specs.declared.terminals.TheConstants as t
use Rattle.ilasm_grammar.specs.declared.symbol.Symbol.{Symbol}
use Rattle.ilasm_grammar.specs.declared.symbol.Symbol.TheVariants.{Terminal, Nonterminal}
use Rattle.source_model.specs.Flags.{flags_number, flags_token}
use Rattle.source_model.specs.Forest.{Forest, none, leaf, branch, Part, part, parts, has, is_any_part}
use Rattle.source_model.specs.OutOfRange.{are_implementation_flags, is_16_bits, is_32_bits, is_natural_with}
use Rattle.source_model.specs.Shapes.{natural}
use Rattle.source_model.specs.Source.{Source}
use Rattle.source_model.specs.TypeRules.{arguments_out_of_range, array_out_of_range, generic_number_out_of_range, index_out_of_range, is_within, parameter_flags_out_of_range, second_ellipsis}
use Rattle.source_model.specs.Values.{int_at}
use Rattle.source_nodes.specs.Derived.{Fits, FitsBody, FitsRule, HasBodies, head_of}
use Rattle.source_syntax.specs.Places.{node_of}
use Rattle.source_nodes.proofs.Empties.{nothing_in}
use Rattle.source_nodes.proofs.WrittenNames.{both_true, fits_rule, other_true}
use Rattle.source_flags.specs.InRange.{AllInRange, IsInRange}
use Rattle.source_flags.specs.declared.flag_rows.Row.{Row}
use Rattle.source_flags.specs.declared.flag_rows.Row.TheVariants.{Assembly, Class, Field, Method, Implementation, Parameter, Property, Typar}
use Rattle.source_flags.proofs.Gathered.{has_bodies}
use Rattle.source_flags.proofs.Bits.{IsNatural, implementation_flags_bounds, of_16_bits, of_32_bits, of_test, passes_at}

-- ---- rows

abbrev pub width_of : Row → ℕ
width_of Assembly = 32
width_of Class = 32
width_of Field = 16
width_of Method = 16
width_of Implementation = 16
width_of Parameter = 16
width_of Property = 16
width_of Typar = 16

-- the nonterminals of a flag, and of the rest of a row
abbrev pub flag_of : Row → ℕ
flag_of Assembly = n.ASSEMBLY_ATTR
flag_of Class = n.CLASS_ATTR
flag_of Field = n.FIELD_ATTR
flag_of Method = n.METHOD_ATTR
flag_of Implementation = n.IMPL_ATTR
flag_of Parameter = n.PARAM_ATTR
flag_of Property = n.PROPERTY_ATTR
flag_of Typar = n.TYPAR_ATTR

abbrev pub rest_of : Row → ℕ
rest_of Assembly = n.ASSEMBLY_ATTR_STAR
rest_of Class = n.CLASS_ATTR_STAR
rest_of Field = n.FIELD_ATTR_STAR
rest_of Method = n.METHOD_ATTR_STAR
rest_of Implementation = n.IMPL_ATTR_STAR
rest_of Parameter = n.PARAM_ATTR_STAR
rest_of Property = n.PROPERTY_ATTR_STAR
rest_of Typar = n.TYPAR_ATTR_STAR

-- the production of `flags(n)` in a row
abbrev numbered : Row → ℕ
numbered Assembly = ASSEMBLY_ATTR_FLAGS
numbered Class = CLASS_ATTR_FLAGS
numbered Field = FIELD_ATTR_FLAGS
numbered Method = METHOD_ATTR_FLAGS
numbered Implementation = IMPL_ATTR_FLAGS
numbered Parameter = PARAM_ATTR_FLAGS
numbered Property = PROPERTY_ATTR_FLAGS
numbered Typar = TYPAR_ATTR_FLAGS

-- ---- the productions of a flag: all but one are words alone

abbrev is_plain : List Symbol → Bool
is_plain [] = true
is_plain (Terminal t ∷ more) = is_plain more
is_plain (Nonterminal m ∷ more) = false

-- from this place on, a production of this nonterminal is one of those that are left out, or has terminals alone
abbrev plain_but : ℕ → (ℕ → Bool) → List ℕ → List ℕ → List Symbol → ℕ → Bool
plain_but h out [] starts bodies at = true
plain_but h out (x ∷ hs) starts bodies at =
    (not (x == h) || (out at || is_plain (body_by starts bodies at))) && plain_but h out hs starts bodies (1 + at)

module _ (h : ℕ) (out : ℕ → Bool) where
  abbrev passes : List ℕ → List Symbol → ℕ → Bool
  passes starts bodies at = out at || is_plain (body_by starts bodies at)

  plain_at : (heads starts : List ℕ) (bodies : List Symbol) (at q : ℕ) → plain_but h out heads starts bodies at ≡ true → slice_get heads q ≡ Some h
      → passes starts bodies (at + q) ≡ true
  plain_at [] starts bodies at q e i = absurd cc
  plain_at (x ∷ hs) starts bodies at zero e i =
      let here = (both_true (not (x == h) || passes starts bodies at) (plain_but h out hs starts bodies (1 + at)) e).0 in
      let same : x ≡ h = same_Some x h i in
      let still : at ≡ at + 0 = omega arith in
      subst (λ k. passes starts bodies k ≡ true) still (other_true (x == h) (passes starts bodies at) here ((Decides-eqb x h).1 same))
  plain_at (x ∷ hs) starts bodies at (suc q) e i =
      let rest = (both_true (not (x == h) || passes starts bodies at) (plain_but h out hs starts bodies (1 + at)) e).1 in
      let next : 1 + at + q ≡ at + suc q = omega arith in
      subst (λ k. passes starts bodies k ≡ true) next (plain_at hs starts bodies (1 + at) q rest i)

  plain_rule : (heads starts : List ℕ) (bodies : List Symbol) (p : ℕ) (r : Rule) → rule_by heads starts bodies p ≡ Some r → r.head ≡ h
      → plain_but h out heads starts bodies 0 ≡ true → (out p || is_plain r.body) ≡ true
  unfolding rule_by
  plain_rule heads starts bodies p r is c e = go (slice_get heads p) refl is
    where
      go : (o : Option ℕ) → slice_get heads p ≡ o → option_map (λ (x : ℕ). rule_of x (body_by starts bodies p)) o ≡ Some r
          → (out p || is_plain r.body) ≡ true
      go None i j = absurd cc
      go (Some x) i j =
          let same : rule_of x (body_by starts bodies p) ≡ r = same_Some (rule_of x (body_by starts bodies p)) r j in
          let head : x ≡ h = ap (λ (y : Rule). y.head) same ∙ c in
          let still : 0 + p ≡ p = omega arith in
          subst (λ (y : Rule). (out p || is_plain y.body) ≡ true) same
          (subst (λ k. passes starts bodies k ≡ true) still (plain_at heads starts bodies 0 p e (i ∙ ap Some head)))

-- `flags(n)` in a row, and `nested`, which goes on with a word
abbrev left_out : Row → ℕ → Bool
left_out row p = p == numbered row || p == CLASS_ATTR_NESTED

abbrev PlainBut : Row → Type 0
PlainBut row = (p : ℕ) (r : Rule) → ilasm p ≡ Some r → r.head ≡ flag_of row → (left_out row p || is_plain r.body) ≡ true

plain_flags : (row : Row) → PlainBut row
unfolding ilasm
plain_flags Assembly p r is c = plain_rule n.ASSEMBLY_ATTR (left_out Assembly) _ _ _ p r is c refl
plain_flags Class p r is c = plain_rule n.CLASS_ATTR (left_out Class) _ _ _ p r is c refl
plain_flags Field p r is c = plain_rule n.FIELD_ATTR (left_out Field) _ _ _ p r is c refl
plain_flags Method p r is c = plain_rule n.METHOD_ATTR (left_out Method) _ _ _ p r is c refl
plain_flags Implementation p r is c = plain_rule n.IMPL_ATTR (left_out Implementation) _ _ _ p r is c refl
plain_flags Parameter p r is c = plain_rule n.PARAM_ATTR (left_out Parameter) _ _ _ p r is c refl
plain_flags Property p r is c = plain_rule n.PROPERTY_ATTR (left_out Property) _ _ _ p r is c refl
plain_flags Typar p r is c = plain_rule n.TYPAR_ATTR (left_out Typar) _ _ _ p r is c refl

abbrev no_number : ℕ → Bool
no_number p = false

plain_access : (p : ℕ) (r : Rule) → ilasm p ≡ Some r → r.head ≡ n.NESTED_ACCESS → is_plain r.body ≡ true
unfolding ilasm
plain_access p r is c = plain_rule n.NESTED_ACCESS no_number _ _ _ p r is c refl

plain_has : (s : Source) (body : List Symbol) (f : Forest) → Fits s body f → is_plain body ≡ true → has FLAGS f ≡ false
plain_has s [] none h e = refl
plain_has s [] (leaf k a) h e = absurd h
plain_has s [] (branch p b a) h e = absurd h
plain_has s (Terminal t ∷ more) none h e = absurd h
plain_has s (Terminal t ∷ more) (leaf k a) h e = plain_has s more a h.1 e
plain_has s (Terminal t ∷ more) (branch p b a) h e = absurd h
plain_has s (Nonterminal m ∷ more) f h e = absurd cc

abbrev nested_body : List Symbol
nested_body = Terminal (t.WORDS + word.NESTED) ∷ Nonterminal n.NESTED_ACCESS ∷ []

rule_nested : ilasm CLASS_ATTR_NESTED ≡ Some (rule_of n.CLASS_ATTR nested_body)
unfolding ilasm rule_by
rule_nested = refl

no_flags_below : (q : ℕ) (b : Forest) → has FLAGS b ≡ false → (FLAGS == q) ≡ false → has FLAGS (branch q b none) ≡ false
no_flags_below q b e apart =
    ap (λ (c : Bool). is_any_part ((if c || false then part q b ∷ [] else parts (FLAGS ∷ []) b) ++ [])) apart
    ∙ ap is_any_part (append-nil (parts (FLAGS ∷ []) b)) ∙ e

head_flags : head_of FLAGS ≡ Some n.FLAGS
unfolding ilasm rule_by
head_flags = refl

nested_has : (s : Source) (f : Forest) → FitsBody s CLASS_ATTR_NESTED f → HasBodies s f → has FLAGS f ≡ false
nested_has s f fits bodies = go f (fits_rule s CLASS_ATTR_NESTED n.CLASS_ATTR nested_body f rule_nested fits) bodies
  where
    access : (q : ℕ) (b : Forest) → head_of q ≡ Some n.NESTED_ACCESS → FitsBody s q b → has FLAGS b ≡ false
    access q b head fit = of_rule (ilasm q) refl fit
      where
        of_rule : (o : Option Rule) → ilasm q ≡ o → FitsRule s o b → has FLAGS b ≡ false
        of_rule None is i = absurd i
        of_rule (Some r) is i =
            plain_has s r.body b i
            (plain_access q r is (same_Some r.head n.NESTED_ACCESS (sym (ap (option_map (λ (x : Rule). x.head)) is) ∙ head)))

    other : (q : ℕ) → head_of q ≡ Some n.NESTED_ACCESS → (FLAGS == q) ≡ false
    other q head = decide (FLAGS == q) refl
      where
        decide : (c : Bool) → (FLAGS == q) ≡ c → (FLAGS == q) ≡ false
        decide true is =
            let same : n.FLAGS ≡ n.NESTED_ACCESS = same_Some n.FLAGS n.NESTED_ACCESS (sym head_flags ∙ ap head_of ((Decides-eqb FLAGS q).0 is) ∙ head) in
            absurd (omega (arith, same))
        decide false apart = apart

    go : (g : Forest) → Fits s nested_body g → HasBodies s g → has FLAGS g ≡ false
    go none h each = absurd h
    go (branch p b a) h each = absurd h
    go (leaf k none) h each = absurd h.1
    go (leaf k (leaf l a)) h each = absurd h.1
    go (leaf k (branch q b none)) h each = no_flags_below q b (access q b h.1.0 each.0) (other q h.1.0)
    go (leaf k (branch q b (leaf l a))) h each = absurd h.1.1
    go (leaf k (branch q b (branch r d a))) h each = absurd h.1.1

-- ---- the number of `flags(n)`

small_natural : (s : Source) (k : ℕ) (f : Forest) → IsNatural k (int_at s (flags_token f)) → flags_number s f < 2 ^ k
small_natural s k f h = subst (λ m. m < 2 ^ k) (sym (ap natural h.1)) h.2

number_fits : (row : Row) (s : Source) (f : Forest) → IsInRange s (numbered row) f → flags_number s f < 2 ^ width_of row
number_fits Assembly s f h = small_natural s 32 f (of_32_bits (int_at s (flags_token f)) (passes_at is_32_bits s (flags_token f) h.flags))
number_fits Class s f h = small_natural s 32 f (of_32_bits (int_at s (flags_token f)) (passes_at is_32_bits s (flags_token f) h.flags))
number_fits Field s f h = small_natural s 16 f (of_16_bits (int_at s (flags_token f)) (passes_at is_16_bits s (flags_token f) h.flags))
number_fits Method s f h = small_natural s 16 f (of_16_bits (int_at s (flags_token f)) (passes_at is_16_bits s (flags_token f) h.flags))
number_fits Implementation s f h =
    small_natural s 16 f
    (of_test 16 are_implementation_flags implementation_flags_bounds (int_at s (flags_token f))
    (passes_at (is_natural_with are_implementation_flags) s (flags_token f) h.flags))
number_fits Parameter s f h =
    let m = node_of PARAM_ATTR_FLAGS f in
    let own =
    (nothing_in (index_out_of_range s m ++ array_out_of_range s m ++ generic_number_out_of_range s m ++ arguments_out_of_range m ++ second_ellipsis m)
    (parameter_flags_out_of_range s m) h.types).1 in
    small_natural s 16 f (of_16_bits (int_at s (flags_token f)) (passes_at (is_within (pos 0) (pos 0xFFFF)) s (flags_token f) own))
number_fits Property s f h = small_natural s 16 f (of_16_bits (int_at s (flags_token f)) (passes_at is_16_bits s (flags_token f) h.flags))
number_fits Typar s f h = small_natural s 16 f (of_16_bits (int_at s (flags_token f)) (passes_at is_16_bits s (flags_token f) h.flags))

-- ---- the flags of a row, one by one

module _ (s : Source) (row : Row) where
  -- a flag of the row whose number is in its range
  abbrev pub IsFlag : Part → Type 0
  IsFlag q = (head_of q.production ≡ Some (flag_of row)) × IsInRange s q.production q.below × AllInRange s q.below

  pub flag_fits : (q : Part) → IsFlag q → has FLAGS q.below ≡ true → flags_number s q.below < 2 ^ width_of row
  flag_fits q h some = go (ilasm q.production) refl h.1.fits
    where
      go : (o : Option Rule) → ilasm q.production ≡ o → FitsRule s o q.below → flags_number s q.below < 2 ^ width_of row
      go None is fits = absurd fits
      go (Some r) is fits = chosen (q.production == numbered row) refl
        where
          head : r.head ≡ flag_of row
          head = same_Some r.head (flag_of row) (sym (ap (option_map (λ (x : Rule). x.head)) is) ∙ h.0)

          chosen : (c : Bool) → (q.production == numbered row) ≡ c → flags_number s q.below < 2 ^ width_of row
          chosen true same = number_fits row s q.below (subst (λ p. IsInRange s p q.below) ((Decides-eqb q.production (numbered row)).0 same) h.1)
          chosen false apart = absurd (no_number_there (q.production == CLASS_ATTR_NESTED) refl)
            where
              no_number_there : (c : Bool) → (q.production == CLASS_ATTR_NESTED) ≡ c → ⊥
              no_number_there true same =
                  let fit = subst (λ p. FitsBody s p q.below) ((Decides-eqb q.production CLASS_ATTR_NESTED).0 same) h.1.fits in
                  let nothing = nested_has s q.below fit (has_bodies s q.below h.2) in
                  absurd cc
              no_number_there false other =
                  let plain : is_plain r.body ≡ true =
                  sym (ap (λ (x : Bool). (x || q.production == CLASS_ATTR_NESTED) || is_plain r.body) apart ∙ ap (λ (x : Bool). x || is_plain r.body) other)
                  ∙ plain_flags row q.production r is head in
                  let nothing = plain_has s r.body q.below fits plain in
                  absurd cc
