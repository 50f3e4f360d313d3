-- The flags of lines of `.param [n]`, and what stands in a parameter, from the bodies of their productions.
use Rattle.std.proofs.Common.{◌≡◌, ℕ, zero, suc, ◌+◌, ◌≤◌, ◌⊎◌, inl, inr, List, [], ◌∷◌, ◌++◌, Option, None, Some, length, drop, refl, ap, sym, subst, ◌∙◌, arith, append-nil}
use Rattle.std.specs.Prelude.{Bool, true, false, not, ◌==◌, ◌||◌, ◌&&◌, nat_le, nat_lt, slice_get, if◌then◌else◌, ⊤}
use Rattle.std.specs.List.{AllByRecursion}
use Rattle.std.proofs.lemmas.Bool.{ltb-true}
use Rattle.std.proofs.lemmas.Bool.Decides.{Decides-eqb}
use Rattle.std.proofs.lemmas.Option.{same_Some}
use Rattle.il_lexer.specs.declared.types.TokenKind.TheVariants as kind
use Rattle.il_lexer.specs.declared.word.TheConstants as word
use Rattle.ilasm_grammar.specs.Grammar.{Rule, rule_of}
use Rattle.ilasm_grammar.specs.Ilasm.{ilasm, rule_by}
use Rattle.ilasm_grammar.specs.declared.nonterminals.TheConstants as n
use Rattle.ilasm_grammar.specs.declared.productions.TheConstants.{DEF_ARG, DEF_ARGS, DEF_ARGS_OPT_SOME, FLAGS, FLAGS_OPT_SOME, FLAGS_OPT_NONE, ITEM_PARAM, NAME_OPT_SOME, PARAM_ATTR_STAR_MORE, PARAM_ATTR_STAR_END, PARAM_OF_BRACKET, PARAM_OF_TYPE}
use Rattle.ilasm_grammar.specs.declared.symbol.Symbol.{Symbol}
use Rattle.ilasm_grammar.specs.declared.symbol.Symbol.TheVariants.{Nonterminal, Terminal}
use Rattle.ilasm_grammar.specs.declared.terminals.TheConstants as t
use Rattle.source_model.specs.Flags.{flags_in, parameter_flags_in}
use Rattle.source_model.specs.Forest.{Forest, Part, none, leaf, branch, below_each, child, each, first_or, has, is_among, is_any_part, leaf_at, part, parts, preorder, the}
use Rattle.source_model.specs.Items.{plain_items}
use Rattle.source_model.specs.OutOfRange.{is_16_bits}
use Rattle.source_model.specs.Parameters.{parameters}
use Rattle.source_model.specs.Source.{Source}
use Rattle.source_model.specs.TypeRules.{arguments_out_of_range, array_out_of_range, first_of, generic_number_out_of_range, index_out_of_range, parameter_flags_out_of_range, second_ellipsis}
use Rattle.source_model.specs.Values.{int_at}
use Rattle.source_nodes.specs.Derived.{Fits, FitsBody, FitsRule, HasBodies, head_of}
use Rattle.source_syntax.specs.Places.{node_of}
use Rattle.source_nodes.specs.Readers.{IsOf}
use Rattle.source_syntax.proofs.BodyLemmas.{NowhereBelow, StaysChosen, all_in, closed_rule, enters, goes_on_with, has_child, nowhere_below}
use Rattle.source_syntax.proofs.NameTokens.{name_at, terminals_of_rule}
use Rattle.source_nodes.proofs.Empties.{nothing_in}
use Rattle.source_syntax.proofs.VariableLemmas.{within_in}
use Rattle.source_nodes.proofs.WrittenNames.{fits_rule, one_in}
use Rattle.source_flags.specs.InRange.{AllInRange, IsInRange}
use Rattle.source_flags.proofs.Bits.{passes_at}
use Rattle.source_flags.proofs.FlagBounds.{child_or_none}
use Rattle.source_flags.proofs.Gathered.{has_bodies}
use Rattle.lower_members.specs.Parameters.{IsParameter}
use Rattle.lower_members.specs.Ranged.{IsBodyItem}

-- ---- productions of different nonterminals

pub apart_by_head : (p q x y : ℕ) → head_of p ≡ Some x → head_of q ≡ Some y → (x == y) ≡ false → (q == p) ≡ false
apart_by_head p q x y h i apart = go (q == p) refl
  where
    go : (c : Bool) → (q == p) ≡ c → (q == p) ≡ false
    go false e = e
    go true e =
        let same : Some x ≡ Some y = sym h ∙ ap head_of (sym ((Decides-eqb q p).0 e)) ∙ i in
        let also : x ≡ y = same_Some x y same in
        let yes = (Decides-eqb x y).1 also in
        absurd cc

either_of : (p low : ℕ) → (nat_lt low (1 + (0 + p)) ≡ true) × (nat_lt (0 + p) (1 + (low + 1)) ≡ true) → (p ≡ low) ⊎ (p ≡ low + 1)
either_of p low w = go (p == low) refl
  where
    go : (b : Bool) → (p == low) ≡ b → (p ≡ low) ⊎ (p ≡ low + 1)
    go true same = inl ((Decides-eqb p low).0 same)
    go false apart =
        let above = ltb-true low (1 + (0 + p)) w.0 in
        let under = ltb-true (0 + p) (1 + (low + 1)) w.1 in
        let differs : p ≡ low → ⊥ = λ is. let also = (Decides-eqb p low).1 is in absurd cc in
        inr (omega (arith, above, under, differs))

-- ---- the first `flags(n)` among some parts has 16 bits

abbrev SmallIn : Source → List Part → Type 0
SmallIn s ps = is_any_part ps ≡ true → is_16_bits (int_at s (leaf_at 2 (first_or none (below_each ps)))) ≡ true

small_append : (s : Source) (ps qs : List Part) → SmallIn s ps → SmallIn s qs → SmallIn s (ps ++ qs)
small_append s [] qs h i = i
small_append s (p ∷ ps) qs h i = λ some. h refl

abbrev SmallBelow : Source → ℕ → Type 0
SmallBelow s m = (q : ℕ) (b : Forest) → head_of q ≡ Some m → IsInRange s q b → AllInRange s b → SmallIn s (parts (FLAGS ∷ []) b)

abbrev AllSmall : Source → List Symbol → Type 0
AllSmall s [] = ⊤
AllSmall s (Terminal x ∷ more) = AllSmall s more
AllSmall s (Nonterminal m ∷ more) = ((m == n.FLAGS) ≡ false) × SmallBelow s m × AllSmall s more

head_flags : head_of FLAGS ≡ Some n.FLAGS
unfolding ilasm rule_by
head_flags = refl

small_body : (s : Source) (body : List Symbol) (f : Forest) → Fits s body f → AllInRange s f → AllSmall s body → SmallIn s (parts (FLAGS ∷ []) f)
small_body s body none h ranged small = λ some. absurd cc
small_body s [] (leaf k a) h ranged small = absurd h
small_body s (Terminal x ∷ more) (leaf k a) h ranged small = small_body s more a h.1 ranged small
small_body s (Nonterminal m ∷ more) (leaf k a) h ranged small = absurd h
small_body s [] (branch q b a) h ranged small = absurd h
small_body s (Terminal x ∷ more) (branch q b a) h ranged small = absurd h
small_body s (Nonterminal m ∷ more) (branch q b a) h ranged small =
    let other = apart_by_head q FLAGS m n.FLAGS h.0 head_flags small.0 in
    subst (SmallIn s) (sym (ap (λ (c : Bool). (if c || false then part q b ∷ [] else parts (FLAGS ∷ []) b) ++ parts (FLAGS ∷ []) a) other))
    (small_append s (parts (FLAGS ∷ []) b) (parts (FLAGS ∷ []) a) (small.1 q b h.0 ranged.0 ranged.1) (small_body s more a h.1 ranged.2 small.2))

-- the nonterminals of constants and of keys, in which there are no flags
abbrev in_constant : ℕ → Bool
in_constant m =
    m == n.TYPAR_KEY || ((nat_le n.TEXT m && nat_le m n.PLUS_STRING) || ((nat_le n.INT_TYPE m && nat_le m n.UNSIGNED_INT) || (nat_le n.EQ_CONST_OPT m && nat_le m n.TRUTH)))

constant_stays : StaysChosen in_constant n.CONST
unfolding ilasm
constant_stays p r is c = closed_rule in_constant n.CONST _ _ _ p r is c refl

small_constant : (s : Source) (m : ℕ) → enters in_constant n.CONST m ≡ true → SmallBelow s m
small_constant s m e q b head range ranged =
    let nothing = (nowhere_below in_constant n.CONST constant_stays s FLAGS n.FLAGS head_flags refl (branch q b none) (Nonterminal m ∷ []) (head, tt) (range.fits, has_bodies s b ranged, tt) (also e)).0 in
    subst (SmallIn s) (sym nothing) (λ some. absurd cc)
  where
    also : enters in_constant n.CONST m ≡ true → all_in (enters in_constant n.CONST) (Nonterminal m ∷ []) ≡ true
    also x = ap (λ (c : Bool). c && true) x

opt_within : (p : ℕ) → head_of p ≡ Some n.FLAGS_OPT → (nat_lt FLAGS_OPT_SOME (1 + (0 + p)) ≡ true) × (nat_lt (0 + p) (1 + FLAGS_OPT_NONE) ≡ true)
unfolding ilasm
opt_within p e = within_in _ _ _ n.FLAGS_OPT FLAGS_OPT_SOME FLAGS_OPT_NONE p e refl

rule_no_flags : ilasm FLAGS_OPT_NONE ≡ Some (rule_of n.FLAGS_OPT [])
unfolding ilasm rule_by
rule_no_flags = refl

small_flags : (s : Source) → SmallBelow s n.FLAGS_OPT
small_flags s q b head range ranged = elim (either_of q FLAGS_OPT_SOME (opt_within q head)) [
  | inl is ↦ λ some. passes_at is_16_bits s (leaf_at 2 (the FLAGS b)) (subst (λ p. IsInRange s p b) is range).flags
  | inr is ↦ small_body s [] b (fits_rule s FLAGS_OPT_NONE n.FLAGS_OPT [] b rule_no_flags (subst (λ p. FitsBody s p b) is range.fits)) ranged tt
]

abbrev bracket_body : List Symbol
bracket_body =
    Terminal (t.WORDS + word.OPEN_BRACKET) ∷ Terminal t.INT ∷ Terminal (t.WORDS + word.CLOSE_BRACKET) ∷ Nonterminal n.FLAGS_OPT ∷ Nonterminal n.EQ_CONST_OPT ∷ []

rule_bracket : ilasm PARAM_OF_BRACKET ≡ Some (rule_of n.PARAM_OF bracket_body)
unfolding ilasm rule_by
rule_bracket = refl

abbrev type_body : List Symbol
type_body = Terminal (t.WORDS + word.TYPE) ∷ Nonterminal n.TYPAR_KEY ∷ []

rule_type : ilasm PARAM_OF_TYPE ≡ Some (rule_of n.PARAM_OF type_body)
unfolding ilasm rule_by
rule_type = refl

of_within : (p : ℕ) → head_of p ≡ Some n.PARAM_OF → (nat_lt PARAM_OF_BRACKET (1 + (0 + p)) ≡ true) × (nat_lt (0 + p) (1 + PARAM_OF_TYPE) ≡ true)
unfolding ilasm
of_within p e = within_in _ _ _ n.PARAM_OF PARAM_OF_BRACKET PARAM_OF_TYPE p e refl

small_param : (s : Source) → SmallBelow s n.PARAM_OF
small_param s q b head range ranged = elim (either_of q PARAM_OF_BRACKET (of_within q head)) [
  | inl is ↦
      small_body s bracket_body b (fits_rule s PARAM_OF_BRACKET n.PARAM_OF bracket_body b rule_bracket (subst (λ p. FitsBody s p b) is range.fits)) ranged
      (refl, small_flags s, (refl, small_constant s n.EQ_CONST_OPT refl, tt))
  | inr is ↦
      small_body s type_body b (fits_rule s PARAM_OF_TYPE n.PARAM_OF type_body b rule_type (subst (λ p. FitsBody s p b) is range.fits)) ranged
      (refl, small_constant s n.TYPAR_KEY refl, tt)
]

abbrev param_body : List Symbol
param_body = Terminal (t.WORDS + word.DOT_PARAM) ∷ Nonterminal n.PARAM_OF ∷ []

rule_param : ilasm ITEM_PARAM ≡ Some (rule_of n.ITEM param_body)
unfolding ilasm rule_by
rule_param = refl

-- ---- no other item holds `.param [n]`

abbrev in_item : ℕ → Bool
in_item m =
    not
    (m == n.SOURCE
    || (m == n.DECL
    || (m == n.CLASS
    || (m == n.MEMBER_STAR
    || (m == n.MEMBER
    || (m == n.METHOD || (m == n.ITEM_STAR || (m == n.ITEM || (m == n.PARAM_OF || (m == n.DECL_STAR || (nat_le n.TRY_RANGE m && nat_le m n.CLAUSE_STAR)))))))))))

item_stays : StaysChosen in_item n.CONST
unfolding ilasm
item_stays p r is c = closed_rule in_item n.CONST _ _ _ p r is c refl

abbrev passes : Option Rule → Bool
passes None = false
passes (Some r) = all_in (enters in_item n.CONST) r.body

abbrev goes_on : Option Rule → Bool
goes_on None = true
goes_on (Some r) = goes_on_with n.PARAM_OF r.body

abbrev IsOther : ℕ → Type 0
IsOther p = (p ≡ ITEM_PARAM) ⊎ ((passes (ilasm p) ≡ true) × (goes_on (ilasm p) ≡ false))

each_other : AllByRecursion IsOther plain_items
unfolding ilasm rule_by
each_other =
    (inr (refl, refl), (inr (refl, refl), (inr (refl, refl), (inr (refl, refl), (inr (refl, refl), (inr (refl, refl), (inr (refl, refl), (inl refl, tt))))))))

among_holds : (P : ℕ → Type 0) (xs : List ℕ) (p : ℕ) → is_among xs p ≡ true → AllByRecursion P xs → P p
among_holds P [] p e h = absurd cc
among_holds P (x ∷ xs) p e h = go (x == p) refl (λ later. among_holds P xs p later h.1)
  where
    go : (c : Bool) → (x == p) ≡ c → (is_among xs p ≡ true → P p) → P p
    go true is rest = subst P ((Decides-eqb x p).0 is) h.0
    go false is rest = rest (sym (ap (λ (c : Bool). c || is_among xs p) is) ∙ e)

head_bracket : head_of PARAM_OF_BRACKET ≡ Some n.PARAM_OF
unfolding ilasm rule_by
head_bracket = refl

nowhere_at_top : (s : Source) (body : List Symbol) (f : Forest) → Fits s body f → NowhereBelow PARAM_OF_BRACKET f → goes_on_with n.PARAM_OF body ≡ false
    → parts (PARAM_OF_BRACKET ∷ []) f ≡ []
nowhere_at_top s body none h below e = refl
nowhere_at_top s [] (leaf k a) h below e = absurd h
nowhere_at_top s (Terminal x ∷ more) (leaf k a) h below e = nowhere_at_top s more a h.1 below e
nowhere_at_top s (Nonterminal m ∷ more) (leaf k a) h below e = absurd h
nowhere_at_top s [] (branch q b a) h below e = absurd h
nowhere_at_top s (Terminal x ∷ more) (branch q b a) h below e = absurd h
nowhere_at_top s (Nonterminal m ∷ more) (branch q b a) h below e = go (m == n.PARAM_OF) refl (λ later. nowhere_at_top s more a h.1 below.1 later)
  where
    go : (c : Bool) → (m == n.PARAM_OF) ≡ c → (goes_on_with n.PARAM_OF more ≡ false → parts (PARAM_OF_BRACKET ∷ []) a ≡ []) → parts (PARAM_OF_BRACKET ∷ []) (branch q b a) ≡ []
    go true is behind = let wrong : true ≡ false = sym (ap (λ (c : Bool). c || goes_on_with n.PARAM_OF more) is) ∙ e in absurd cc
    go false is behind =
        let other = apart_by_head q PARAM_OF_BRACKET m n.PARAM_OF h.0 head_bracket is in
        let rest = behind (sym (ap (λ (c : Bool). c || goes_on_with n.PARAM_OF more) is) ∙ e) in
        ap (λ (c : Bool). (if c || false then part q b ∷ [] else parts (PARAM_OF_BRACKET ∷ []) b) ++ parts (PARAM_OF_BRACKET ∷ []) a) other
        ∙ ap (λ ps. ps ++ parts (PARAM_OF_BRACKET ∷ []) a) below.0 ∙ rest

no_bracket : (s : Source) (o : Option Rule) (f : Forest) → FitsRule s o f → HasBodies s f → passes o ≡ true → goes_on o ≡ false → parts (PARAM_OF_BRACKET ∷ []) f ≡ []
no_bracket s None f fits bodies e g = absurd fits
no_bracket s (Some r) f fits bodies e g =
    nowhere_at_top s r.body f fits (nowhere_below in_item n.CONST item_stays s PARAM_OF_BRACKET n.PARAM_OF head_bracket refl f r.body fits bodies e) g

-- the number of the flags of a line of `.param [n]` has 16 bits
pub line_flags_fit : (s : Source) (p : Part) → IsBodyItem s p → has PARAM_OF_BRACKET p.below ≡ true → has FLAGS p.below ≡ true
    → is_16_bits (int_at s (leaf_at 2 (the FLAGS p.below))) ≡ true
line_flags_fit s p (inl (inl i)) speaks some = let wrong : true ≡ false = sym speaks ∙ ap (λ (q : Part). has PARAM_OF_BRACKET q.below) i in absurd cc
line_flags_fit s p (inl (inr i)) speaks some = let wrong : true ≡ false = sym speaks ∙ ap (λ (q : Part). has PARAM_OF_BRACKET q.below) i in absurd cc
line_flags_fit s p (inr h) speaks some = elim (among_holds IsOther plain_items p.production h.0 each_other) [
  | inl is ↦
      small_body s param_body p.below (fits_rule s ITEM_PARAM n.ITEM param_body p.below rule_param (subst (λ q. FitsBody s q p.below) is h.1.0.fits)) h.1.1
      (refl, small_param s, tt) some
  | inr other ↦
      let nothing = no_bracket s (ilasm p.production) p.below h.1.0.fits (has_bodies s p.below h.1.1) other.0 other.1 in
      let wrong : true ≡ false = sym speaks ∙ ap is_any_part nothing in
      absurd cc
]

-- ---- whether a parameter has a flag

rule_more : ilasm PARAM_ATTR_STAR_MORE ≡ Some (rule_of n.PARAM_ATTR_STAR (Nonterminal n.PARAM_ATTR ∷ Nonterminal n.PARAM_ATTR_STAR ∷ []))
unfolding ilasm rule_by
rule_more = refl

head_more : head_of PARAM_ATTR_STAR_MORE ≡ Some n.PARAM_ATTR_STAR
unfolding ilasm rule_by
head_more = refl

head_end : head_of PARAM_ATTR_STAR_END ≡ Some n.PARAM_ATTR_STAR
unfolding ilasm rule_by
head_end = refl

same_test : (a b : ℕ) → (b == a) ≡ false → (a == b) ≡ false
same_test a b e = go (a == b) refl
  where
    go : (c : Bool) → (a == b) ≡ c → (a == b) ≡ false
    go false is = is
    go true is = let also = (Decides-eqb b a).1 (sym ((Decides-eqb a b).0 is)) in absurd cc

abbrev flagged : Forest → Bool
flagged f = is_any_part (flags_in PARAM_ATTR_STAR_MORE PARAM_ATTR_STAR_END f)

is_flag : (q : ℕ) (b a : Forest) → head_of q ≡ Some n.PARAM_ATTR → flagged (branch q b a) ≡ true
is_flag q b a head =
    let not_more = same_test q PARAM_ATTR_STAR_MORE (apart_by_head q PARAM_ATTR_STAR_MORE n.PARAM_ATTR n.PARAM_ATTR_STAR head head_more refl) in
    let not_end = same_test q PARAM_ATTR_STAR_END (apart_by_head q PARAM_ATTR_STAR_END n.PARAM_ATTR n.PARAM_ATTR_STAR head head_end refl) in
    ap (λ (c : Bool). is_any_part ((if c then flags_in PARAM_ATTR_STAR_MORE PARAM_ATTR_STAR_END b else if q == PARAM_ATTR_STAR_END then [] else part q b ∷ [])
    ++ flags_in PARAM_ATTR_STAR_MORE PARAM_ATTR_STAR_END a)) not_more
    ∙ ap (λ (c : Bool). is_any_part ((if c then [] else part q b ∷ []) ++ flags_in PARAM_ATTR_STAR_MORE PARAM_ATTR_STAR_END a)) not_end

pub not_zero : (k : ℕ) → not (suc k == 0) ≡ true
not_zero k = go (suc k == 0) refl
  where
    go : (c : Bool) → (suc k == 0) ≡ c → not c ≡ true
    go false e = refl
    go true e = let same = (Decides-eqb (suc k) 0).0 e in absurd (omega (arith, same))

pub has_flag : (s : Source) (f : Forest) → AllInRange s f → is_any_part (parameter_flags_in f) ≡ not (length (preorder (child (PARAM_ATTR_STAR_MORE ∷ []) f)) == 0)
has_flag s f ranged = elim (child_or_none (IsInRange s) PARAM_ATTR_STAR_MORE f ranged) [
  | inl e ↦ ap flagged e ∙ sym (ap (λ g. not (length (preorder g) == 0)) e)
  | inr h ↦ go (child (PARAM_ATTR_STAR_MORE ∷ []) f) (fits_rule s PARAM_ATTR_STAR_MORE n.PARAM_ATTR_STAR _ (child (PARAM_ATTR_STAR_MORE ∷ []) f) rule_more h.0.fits)
]
  where
    go : (g : Forest) → Fits s (Nonterminal n.PARAM_ATTR ∷ Nonterminal n.PARAM_ATTR_STAR ∷ []) g → flagged g ≡ not (length (preorder g) == 0)
    go none h = absurd h
    go (leaf k a) h = absurd h
    go (branch q b a) h = is_flag q b a h.0 ∙ sym (not_zero (length (preorder b ++ preorder a)))

-- ---- how many parameters there are

rule_args : ilasm DEF_ARGS_OPT_SOME ≡ Some (rule_of n.DEF_ARGS_OPT (Nonterminal n.DEF_ARGS ∷ []))
unfolding ilasm rule_by
rule_args = refl

one_args : (p : ℕ) → head_of p ≡ Some n.DEF_ARGS → p ≡ DEF_ARGS
unfolding ilasm
one_args p e = one_in _ _ _ n.DEF_ARGS DEF_ARGS p e refl

few_of : (k : ℕ) (fs : List Forest) → first_of (drop k fs) ≡ [] → length fs ≤ k
few_of zero [] e = omega arith
few_of zero (f ∷ fs) e = absurd cc
few_of (suc k) [] e = omega arith
few_of (suc k) (f ∷ fs) e = let rest = few_of k fs e in omega (arith, rest)

few_args : (s : Source) (b : Forest) → IsInRange s DEF_ARGS b → length (each DEF_ARG b) ≤ 65535
few_args s b h =
    let m = node_of DEF_ARGS b in
    let before = index_out_of_range s m ++ array_out_of_range s m ++ generic_number_out_of_range s m in
    let one = (nothing_in (before ++ arguments_out_of_range m ++ second_ellipsis m) (parameter_flags_out_of_range s m) h.types).0 in
    let two = (nothing_in (before ++ arguments_out_of_range m) (second_ellipsis m) one).0 in
    few_of 65535 (each DEF_ARG b) (nothing_in before (arguments_out_of_range m) two).1

args_inside : (s : Source) (g : Forest) → Fits s (Nonterminal n.DEF_ARGS ∷ []) g → AllInRange s g → length (each DEF_ARG g) ≤ 65535
args_inside s none h ranged = absurd h
args_inside s (leaf k a) h ranged = absurd h
args_inside s (branch q b (leaf k a)) h ranged = absurd h.1
args_inside s (branch q b (branch r c a)) h ranged = absurd h.1
args_inside s (branch q b none) h ranged =
    let is = one_args q h.0 in
    let few = few_args s b (subst (λ p. IsInRange s p b) is ranged.0) in
    let same : parts (DEF_ARG ∷ []) (branch DEF_ARGS b none) ≡ parts (DEF_ARG ∷ []) b = append-nil (parts (DEF_ARG ∷ []) b) in
    subst (λ p. length (each DEF_ARG (branch p b none)) ≤ 65535) (sym is) (subst (λ ps. length (below_each ps) ≤ 65535) (sym same) few)

pub few_parameters : (s : Source) (f : Forest) → AllInRange s f → length (parameters f) ≤ 65535
few_parameters s f ranged = elim (child_or_none (IsInRange s) DEF_ARGS_OPT_SOME f ranged) [
  | inl e ↦ subst (λ g. length (each DEF_ARG g) ≤ 65535) (sym e) (omega arith)
  | inr h ↦ args_inside s (child (DEF_ARGS_OPT_SOME ∷ []) f) (fits_rule s DEF_ARGS_OPT_SOME n.DEF_ARGS_OPT _ (child (DEF_ARGS_OPT_SOME ∷ []) f) rule_args h.0.fits) h.1
]

-- ---- the name of a parameter

-- the nonterminals of parameters and of what stands in them, save names
abbrev in_parameter : ℕ → Bool
in_parameter m = m == n.FLAGS || (m == n.PARAM_ATTR_STAR || (m == n.PARAM_ATTR || (nat_le n.TYPE m && nat_le m n.SPEC)))

parameter_stays : StaysChosen in_parameter n.NAME_OPT
unfolding ilasm
parameter_stays p r is c = closed_rule in_parameter n.NAME_OPT _ _ _ p r is c refl

abbrev parameter_body : List Symbol
parameter_body = Nonterminal n.PARAM_ATTR_STAR ∷ Nonterminal n.TYPE ∷ Nonterminal n.NAME_OPT ∷ []

rule_parameter : ilasm DEF_ARG ≡ Some (rule_of n.DEF_ARG parameter_body)
unfolding ilasm rule_by
rule_parameter = refl

name_head : head_of NAME_OPT_SOME ≡ Some n.NAME_OPT
unfolding ilasm rule_by
name_head = refl

name_first : slice_get (terminals_of_rule (ilasm NAME_OPT_SOME)) 0 ≡ Some t.NAME
unfolding ilasm rule_by
name_first = refl

pub parameter_named : (s : Source) (f : Forest) → IsParameter s f → AllInRange s f → has NAME_OPT_SOME f ≡ true → IsOf s kind.Name (leaf_at 0 (child (NAME_OPT_SOME ∷ []) f))
parameter_named s f (inl e) ranged some = let wrong : true ≡ false = sym some ∙ ap (has NAME_OPT_SOME) e in absurd cc
parameter_named s f (inr h) ranged some =
    let bodies = has_bodies s f ranged in
    let below = nowhere_below in_parameter n.NAME_OPT parameter_stays s NAME_OPT_SOME n.NAME_OPT name_head refl f parameter_body
    (fits_rule s DEF_ARG n.DEF_ARG parameter_body f rule_parameter h.fits) bodies refl in
    let at = has_child (FitsBody s) NAME_OPT_SOME f bodies below some in
    name_at s NAME_OPT_SOME 0 (child (NAME_OPT_SOME ∷ []) f) name_first at.0
