-- The rows of parameters are read back, from the head and from the lines of `.param`.
use Rattle.std.proofs.Common.{◌≡◌, inl, inr, ℕ, zero, suc, ◌+◌, ◌-◌, ◌<◌, ◌≤◌, ◌^◌, ◌&&◌, ◌||◌, not, nat_eq, nat_lt, nat_le, Bool, true, false, cond, if◌then◌else◌, List, [], ◌∷◌, ◌++◌, filter, length, take, drop, bit_and, bit_or, Option, None, Some, refl, ap, sym, subst, ◌∙◌, append-nil, arith}
use Rattle.std.proofs.lemmas.Bool.{and_parts, cases_Bool, eqb-true, ltb-true, leb-true, false≢true}
use Rattle.std.specs.List.{list_all, flat_map, enumerate_from}
use Rattle.std.specs.Int.Bits.{or_zero_l}
use Rattle.std.specs.Prelude.{is_some, ⊤}
use Rattle.ilasm_grammar.specs.Ilasm.{ilasm, rule_by, has_bit}
use Rattle.ilasm_grammar.specs.declared.nonterminals.TheConstants as n
use Rattle.ilasm_grammar.specs.declared.productions.TheConstants as p
use Rattle.ilasm_grammar.specs.declared.symbol.Symbol.TheVariants.{Nonterminal}
use Rattle.il_lexer.specs.declared.word.TheConstants as word
use Rattle.type_terms.specs.declared.term.SigType.{SigType}
use Rattle.assembly_tree.specs.WellFormedMembers.{is_attribute, is_clear, is_constant, is_param, is_param_before}
use Rattle.assembly_tree.specs.WellFormedNames.{option_all, rises, before_first}
use Rattle.assembly_tree.specs.declared.assembly.Assembly.{Assembly}
use Rattle.assembly_tree.specs.declared.assembly.ExternAssembly.{ExternAssembly}
use Rattle.assembly_tree.specs.declared.members.Attribute.{Attribute}
use Rattle.assembly_tree.specs.declared.members.Constant.{Constant}
use Rattle.assembly_tree.specs.declared.members.Param.{Param}
use Rattle.source_model.specs.Constants.{constant_of}
use Rattle.source_model.specs.Flags as flags
use Rattle.source_model.specs.Forest as f
use Rattle.source_model.specs.Items.{Run}
use Rattle.source_model.specs.Manifests.{attributes}
use Rattle.source_model.specs.Nodes.{Around}
use Rattle.source_model.specs.Parameters as read
use Rattle.source_model.specs.Shapes.{natural}
use Rattle.source_model.specs.Source.{Source}
use Rattle.source_model.specs.Values.{integer, name_text, part_texts, dotted}
use Rattle.listing_constants.specs.Laws.{constant_there, AttributesAreRead, ConstantsAreRead}
use Rattle.listing_flags.specs.Laws.{FlagsAreRead}
use Rattle.listing_formed.specs.Laws.{Knows}
use Rattle.listing_growth.specs.Held.{is_constant_held, are_attributes_held, is_param_held}
use Rattle.listing_leaves.specs.Laws.{has_no_zero, is_name}
use Rattle.listing_model.specs.Flags.{flag_items, flags_below, parameter_words}
use Rattle.listing_model.specs.Grown.{body_of, Grows}
use Rattle.listing_model.specs.Methods as written
use Rattle.listing_model.specs.Shown.{Shown, none, branch, line, Item, size, when, optional, opt_production, opt_below, behind_comma}
use Rattle.listing_model.specs.Types.{name}
use Rattle.listing_model.specs.Members.{number_in_brackets}
use Rattle.listing_model.specs.Values.{customs, constant_opt, equals_constant}
use Rattle.listing_reading.specs.Below.{below, cant_stand, cant_lead}
use Rattle.listing_reading.specs.BelowMasks.{below_masks}
use Rattle.listing_reading.specs.Laws.{SearchesPass}
use Rattle.listing_reading.specs.Numbered.{numbered, Agrees, rest, place}
use Rattle.listing_reading.specs.Rows.{parts_at, parts_behind}
use Rattle.listing_rows.specs.Laws.{SegmentsAreRead, PiecesAreRead, OptionsAreRead}
use Rattle.listing_rows.specs.Segments.{end_of, ItemsAgree, BehindAgree, CommasAgree, comma_parts, EachGrown}
use Rattle.listing_values.specs.Laws.{NamesAreRead, NumbersAreRead}

-- ---- rows by their numbers

abbrev opt_list : Option Param → List Param
opt_list None = []
opt_list (Some r) = r ∷ []

-- each number is at least this one, and above the one before
abbrev Above : ℕ → List Param → Type 0
Above k [] = ⊤
Above k (r ∷ rs) = (k ≤ r.number) × Above (suc r.number) rs

-- and below this one
abbrev Below : ℕ → List Param → Type 0
Below k [] = ⊤
Below k (r ∷ rs) = (r.number < k) × Below k rs

abbrev FirstIs : ℕ → List Param → Type 0
FirstIs k [] = ⊤
FirstIs k (r ∷ rs) = k ≤ r.number

next_first : (r : Param) (rs : List Param) → before_first is_param_before r rs ≡ true → FirstIs (suc r.number) rs
next_first r [] h = tt
next_first r (q ∷ rs) h = let less = ltb-true r.number q.number h in omega arith

above : (k : ℕ) (rs : List Param) → FirstIs k rs → rises is_param_before rs ≡ true → Above k rs
above k [] h e = tt
above k (r ∷ rs) h e =
    let es = and_parts (before_first is_param_before r rs) (rises is_param_before rs) e in
    (h, above (suc r.number) rs (next_first r rs es.0) es.1)

at_most : (count : ℕ) (rs : List Param) → list_all (λ r. nat_le r.number count) rs ≡ true → Below (suc count) rs
at_most count [] h = tt
at_most count (r ∷ rs) h =
    let hs = and_parts (nat_le r.number count) (list_all (λ q. nat_le q.number count) rs) h in
    let low = leb-true r.number count hs.0 in
    let less : r.number < suc count = omega arith in
    (less, at_most count rs hs.1)

zero_first : (rs : List Param) → FirstIs 0 rs
zero_first [] = tt
zero_first (r ∷ rs) = omega arith

other_number : (j k : ℕ) → k < j → nat_eq j k ≡ false
other_number j k h = grind (arith, h)

lower_number : (j k : ℕ) → j < k → nat_eq j k ≡ false
lower_number j k h = grind (arith, h)

own_number : (j : ℕ) → nat_eq j j ≡ true
own_number j = grind arith

-- no row has a number below
none_at : (k m : ℕ) (rs : List Param) → m < k → Above k rs → written.row_of rs m ≡ None
none_at k m [] h a = refl
none_at k m (r ∷ rs) h a =
    let low : k ≤ r.number = a.0 in
    let less : m < r.number = omega arith in
    let next : m < suc r.number = omega arith in
    ap (λ c. cond c (Some r) (written.row_of rs m)) (other_number r.number m less) ∙ none_at (suc r.number) m rs next a.1

-- the rows of so many numbers from this one on
abbrev rows_from : List Param → ℕ → ℕ → List Param
rows_from rs k zero = []
rows_from rs k (suc count) = opt_list (written.row_of rs k) ++ rows_from rs (suc k) count

skip : (r : Param) (rs : List Param) (k count : ℕ) → r.number < k → rows_from (r ∷ rs) k count ≡ rows_from rs k count
skip r rs k zero h = refl
skip r rs k (suc count) h =
    let next : r.number < suc k = omega arith in
    ap (λ c. opt_list (cond c (Some r) (written.row_of rs k)) ++ rows_from (r ∷ rs) (suc k) count) (lower_number r.number k h)
    ∙ ap (λ xs. opt_list (written.row_of rs k) ++ xs) (skip r rs (suc k) count next)

empty_rows : (k count : ℕ) → rows_from [] k count ≡ []
empty_rows k zero = refl
empty_rows k (suc count) = empty_rows (suc k) count

nothing_between : (r k : ℕ) → k ≤ r → r < k + 0 → ⊥
nothing_between r k h l = absurd (omega arith)

taken : (count k : ℕ) (r : Param) (rs : List Param) → r.number ≡ k → rows_from rs (suc k) count ≡ rs → rows_from (r ∷ rs) k (suc count) ≡ r ∷ rs
taken count k r rs e h =
    let here : nat_eq r.number k ≡ true = ap (nat_eq r.number) (sym e) ∙ own_number r.number in
    let less : r.number < suc k = omega arith in
    ap (λ c. opt_list (cond c (Some r) (written.row_of rs k)) ++ rows_from (r ∷ rs) (suc k) count) here
    ∙ ap (λ xs. r ∷ xs) (skip r rs (suc k) count less ∙ h)

later : (count k : ℕ) (r : Param) (rs : List Param) → k < r.number → Above k (r ∷ rs) → rows_from (r ∷ rs) (suc k) count ≡ r ∷ rs → rows_from (r ∷ rs) k (suc count) ≡ r ∷ rs
later count k r rs less a h =
    let next : k < suc r.number = omega arith in
    ap (λ c. opt_list (cond c (Some r) (written.row_of rs k)) ++ rows_from (r ∷ rs) (suc k) count) (other_number r.number k less)
    ∙ (ap (λ o. opt_list o ++ rows_from (r ∷ rs) (suc k) count) (none_at (suc r.number) k rs next a.1) ∙ h)

lower_bound : (j k : ℕ) → k ≤ j → nat_eq j k ≡ false → k < j
lower_bound j k h e = grind (arith, h, e)

from_zero : (k : ℕ) (rs : List Param) → Below k rs → Below (0 + k) rs
from_zero k rs b = let same : k ≡ 0 + k = omega arith in subst (λ m. Below m rs) same b

below_next : (k count : ℕ) (rs : List Param) → Below (k + suc count) rs → Below (suc k + count) rs
below_next k count rs b = let same : k + suc count ≡ suc k + count = omega arith in subst (λ m. Below m rs) same b

collect : (count k : ℕ) (rs : List Param) → Above k rs → Below (k + count) rs → rows_from rs k count ≡ rs
collect count k [] a b = empty_rows k count
collect zero k (r ∷ rs) a b = absurd (nothing_between r.number k a.0 b.0)
collect (suc count) k (r ∷ rs) a b = elim (cases_Bool (nat_eq r.number k)) [
  | inl e ↦ (let same = eqb-true r.number k e in
      taken count k r rs same (collect count (suc k) rs (subst (λ m. Above (suc m) rs) same a.1) (below_next k count (r ∷ rs) b).1))
  | inr e ↦ (let less = lower_bound r.number k a.0 e in
      later count k r rs less a (collect count (suc k) (r ∷ rs) (less, a.1) (below_next k count (r ∷ rs) b)))
]

-- ---- lines

-- the run of a row's line
abbrev pub param_run : List ExternAssembly → ℕ → Param → List Run
param_run externs at r =
    if written.wants_line r then
    record { head = f.part p.ITEM_PARAM (numbered at (written.param_line r).below); customs = parts_at (at + size (written.param_line r).below) (customs externs p.ITEM_CUSTOM r.attributes) } ∷ []
    else []

abbrev pub param_runs : List ExternAssembly → ℕ → List Param → List Run
param_runs externs at [] = []
param_runs externs at (r ∷ rs) = param_run externs at r ++ param_runs externs (end_of at (written.row_lines externs r)) rs

kept_both : (t : Run → Bool) (xs ys : List Run) → filter t (xs ++ ys) ≡ filter t xs ++ filter t ys
kept_both t [] ys = refl
kept_both t (x ∷ xs) ys = step (t x) (kept_both t xs ys)
  where
    step : (c : Bool) → filter t (xs ++ ys) ≡ filter t xs ++ filter t ys →
        cond c (x ∷ filter t (xs ++ ys)) (filter t (xs ++ ys)) ≡ cond c (x ∷ filter t xs) (filter t xs) ++ filter t ys
    step true h = ap (λ zs. x ∷ zs) h
    step false h = h

module _ (numbers_read : NumbersAreRead) (segments : SegmentsAreRead) (pieces : PiecesAreRead) (s : Source) (a : Assembly) where
  abbrev has_number : ℕ → Run → Bool
  has_number m r = nat_eq (read.parameter_number s r.head.below) m

  -- a row's own run, at its place
  pub record OwnLines (r : Param) (found : List Run) : Type 0 where
    pub place : ℕ
    pub is : found ≡ param_run a.externs place r
    pub agree : ItemsAgree s place (written.row_lines a.externs r)
    pub grown : EachGrown n.ITEM (written.row_lines a.externs r)

  abbrev OwnIf : Option Param → List Run → Type 0
  OwnIf None found = found ≡ []
  OwnIf (Some r) found = OwnLines r found

  abbrev row_by : Bool → Param → List Item
  row_by b r = cond b (written.param_line r ∷ customs a.externs p.ITEM_CUSTOM r.attributes) []

  abbrev run_by : Bool → ℕ → Param → List Run
  run_by b at r = cond b (record { head = f.part p.ITEM_PARAM (numbered at (written.param_line r).below); customs = parts_at (at + size (written.param_line r).below) (customs a.externs p.ITEM_CUSTOM r.attributes) } ∷ []) []

  small_16 : (k : ℕ) → k < 0x10000 → k < 2 ^ 128
  small_16 k h = omega arith

  own_filtered : (b : Bool) (at m : ℕ) (r : Param) → r.number < 0x10000 → ItemsAgree s at (row_by b r) → filter (has_number m) (run_by b at r) ≡ cond (nat_eq r.number m) (run_by b at r) []
  own_filtered true at m r small ag =
      let number = ap natural (ap (λ t. integer t) ag.0.1.0.1.0.text ∙ numbers_read.natural r.number (small_16 r.number small)) in
      ap (λ j. cond (nat_eq j m) (run_by true at r) []) number
  own_filtered false at m r small ag = either (nat_eq r.number m)
    where
      either : (c : Bool) → [] ≡ cond c (run_by false at r) []
      either true = refl
      either false = refl

  held_number : (r : Param) → is_param_held r ≡ true → r.number < 0x10000
  unfolding is_param_held
  held_number r h = ltb-true r.number 0x10000 (and_parts _ _ (and_parts _ _ (and_parts _ _ h).0).0).0

  none_of_number : (rs : List Param) (k m at : ℕ) → m < k → Above k rs → list_all is_param_held rs ≡ true → ItemsAgree s at (flat_map (written.row_lines a.externs) rs) →
      filter (has_number m) (param_runs a.externs at rs) ≡ []
  none_of_number [] k m at h up l ag = refl
  none_of_number (r ∷ rs) k m at h up l ag =
      let ls = and_parts (is_param_held r) (list_all is_param_held rs) l in
      let own = written.row_lines a.externs r in
      let ags = segments.agree s at own (flat_map (written.row_lines a.externs) rs) ag in
      let low : k ≤ r.number = up.0 in
      let less : m < r.number = omega arith in
      let next : m < suc r.number = omega arith in
      let rest = param_runs a.externs (end_of at own) rs in
      kept_both (has_number m) (param_run a.externs at r) rest
      ∙ (ap (λ xs. xs ++ filter (has_number m) rest) (own_filtered (written.wants_line r) at m r (held_number r ls.0) ags.0 ∙ ap (λ c. cond c (param_run a.externs at r) []) (other_number r.number m less))
      ∙ none_of_number rs (suc r.number) m (end_of at own) next up.1 ls.1 ags.1)

  same_of : (m : ℕ) (o : Option Param) (x y : List Run) → x ≡ y → OwnIf o y → OwnIf o x
  same_of m None x y e h = e ∙ h
  same_of m (Some r) x y e h = record { place = h.place; is = e ∙ h.is; agree = h.agree; grown = h.grown }

  pub select : (rs : List Param) (k m at : ℕ) → Above k rs → list_all is_param_held rs ≡ true → EachGrown n.ITEM (flat_map (written.row_lines a.externs) rs) →
      ItemsAgree s at (flat_map (written.row_lines a.externs) rs) → OwnIf (written.row_of rs m) (filter (has_number m) (param_runs a.externs at rs))
  select [] k m at up l g ag = refl
  select (r ∷ rs) k m at up l g ag =
      let ls = and_parts (is_param_held r) (list_all is_param_held rs) l in
      let own = written.row_lines a.externs r in
      let more = flat_map (written.row_lines a.externs) rs in
      let ags = segments.agree s at own more ag in
      let gs = pieces.each n.ITEM own more g in
      let rest = param_runs a.externs (end_of at own) rs in
      let split = kept_both (has_number m) (param_run a.externs at r) rest ∙ ap (λ xs. xs ++ filter (has_number m) rest) (own_filtered (written.wants_line r) at m r (held_number r ls.0) ags.0) in
      elim (cases_Bool (nat_eq r.number m)) [
        | inl e ↦ (let same = eqb-true r.number m e in
            let less : m < suc r.number = omega arith in
            let none = none_of_number rs (suc r.number) m (end_of at own) less up.1 ls.1 ags.1 in
            subst (λ c. OwnIf (cond c (Some r) (written.row_of rs m)) (filter (has_number m) (param_run a.externs at r ++ rest))) (sym e)
            (record {
              place = at;
              is = split ∙ (ap (λ c. cond c (param_run a.externs at r) [] ++ filter (has_number m) rest) e ∙ (ap (λ xs. param_run a.externs at r ++ xs) none ∙ append-nil (param_run a.externs at r)));
              agree = ags.0;
              grown = gs.0;
            }))
        | inr e ↦ subst (λ c. OwnIf (cond c (Some r) (written.row_of rs m)) (filter (has_number m) (param_run a.externs at r ++ rest))) (sym e)
            (same_of m (written.row_of rs m) _ (filter (has_number m) rest) (split ∙ ap (λ c. cond c (param_run a.externs at r) [] ++ filter (has_number m) rest) e)
            (select rs (suc r.number) m (end_of at own) up.1 ls.1 gs.1 ags.1))
      ]

-- ---- what a line says

no_flags_in_constant : cant_stand (p.FLAGS ∷ []) (Nonterminal n.EQ_CONST_OPT ∷ []) ≡ true
unfolding ilasm rule_by has_bit below below_masks
no_flags_in_constant = refl

name_second : cant_stand (p.NAME_OPT_SOME ∷ []) (take 2 (body_of p.DEF_ARG)) ≡ true
unfolding ilasm rule_by has_bit below below_masks
name_second = refl

name_leads : cant_lead (p.NAME_OPT_SOME ∷ []) (take 2 (body_of p.DEF_ARG)) ≡ true
unfolding ilasm rule_by
name_leads = refl

no_flags_behind : cant_lead (p.PARAM_ATTR_STAR_MORE ∷ []) (drop 1 (body_of p.DEF_ARG)) ≡ true
unfolding ilasm rule_by
no_flags_behind = refl

-- the line with or without flags
abbrev line_by : Bool → Param → Shown
line_by b r =
    line word.DOT_PARAM
    (branch p.PARAM_OF_BRACKET (number_in_brackets r.number
    (optional p.FLAGS_OPT_SOME p.FLAGS_OPT_NONE (when b (branch p.FLAGS (flags_below r.flags) none)) (constant_opt r.constant none))) none)

abbrev says_flags : Param → Bool
says_flags r = nat_eq r.number 0 && not (nat_eq r.flags 0)

-- where its constant stands
abbrev constant_from : Bool → Param → ℕ → ℕ
constant_from b r at = suc (suc (suc (suc at))) + size (opt_below (when b (branch p.FLAGS (flags_below r.flags) none)))

module _ (numbers_read : NumbersAreRead) (constants : ConstantsAreRead) (searches : SearchesPass) (s : Source) where
  constant_parts : (b : Bool) (r : Param) (at : ℕ) →
      f.parts (p.EQ_CONST ∷ []) (numbered at (line_by b r)) ≡ f.parts (p.EQ_CONST ∷ []) (constant_there r.constant (constant_from b r at) f.none)
  constant_parts true r at = append-nil (f.parts (p.EQ_CONST ∷ []) (constant_there r.constant (constant_from true r at) f.none))
  constant_parts false r at = append-nil (f.parts (p.EQ_CONST ∷ []) (constant_there r.constant (constant_from false r at) f.none))

  constant_agrees : (b : Bool) (r : Param) (at : ℕ) → Agrees s at (line_by b r) → Agrees s (constant_from b r at) (opt_below (equals_constant r.constant))
  constant_agrees true r at ag = ag.1.0.1.1.1.1.0
  constant_agrees false r at ag = ag.1.0.1.1.1.1.0

  line_constant : (b : Bool) (r : Param) → option_all is_constant r.constant ≡ true → option_all is_constant_held r.constant ≡ true → (at : ℕ) → Agrees s at (line_by b r) →
      constant_of s (numbered at (line_by b r)) ≡ r.constant
  line_constant b r m h at ag =
      constants.there s r.constant m h (constant_from b r at) (constant_agrees b r at ag) (numbered at (line_by b r)) f.none (constant_parts b r at) refl

  no_flags_there : (b : Bool) (r : Param) → Grows (body_of p.ITEM_PARAM) (line_by b r) → (at : ℕ) → f.parts (p.FLAGS ∷ []) (constant_there r.constant at f.none) ≡ []
  unfolding ilasm rule_by
  no_flags_there true r g at = searches.nothing (p.FLAGS ∷ []) (Nonterminal n.EQ_CONST_OPT ∷ []) no_flags_in_constant (constant_opt r.constant none) g.1.1.1.1.1.2 at
  no_flags_there false r g at = searches.nothing (p.FLAGS ∷ []) (Nonterminal n.EQ_CONST_OPT ∷ []) no_flags_in_constant (constant_opt r.constant none) g.1.1.1.1.1.2 at

  flags_without : (r : Param) → Grows (body_of p.ITEM_PARAM) (line_by false r) → (at : ℕ) → f.has p.FLAGS (numbered at (line_by false r)) ≡ false
  flags_without r g at = ap (λ ps. f.is_any_part (ps ++ [])) (no_flags_there false r g (constant_from false r at))

-- ---- a parameter's row

if_true : {X : Type 0} (c : Bool) (x y : X) → c ≡ true → (if c then x else y) ≡ x
if_true true x y h = refl
if_true false x y h = absurd (false≢true h)

if_false : {X : Type 0} (c : Bool) (x y : X) → c ≡ false → (if c then x else y) ≡ y
if_false true x y h = absurd (false≢true (sym h))
if_false false x y h = refl

no_text : (text : List ℕ) → not (nat_eq (length text) 0) ≡ false → [] ≡ text
no_text [] h = refl
no_text (b ∷ text) h = absurd (false≢true (sym h ∙ ap not (some (length text))))
  where
    some : (m : ℕ) → nat_eq (suc m) 0 ≡ false
    some m = grind arith

some_text : (text : List ℕ) → has_no_zero text ≡ true → not (nat_eq (length text) 0) ≡ true → is_name text ≡ true
some_text [] h e = absurd (false≢true e)
some_text (b ∷ text) h e = both (nat_lt 0 (length (b ∷ text))) (has_no_zero (b ∷ text)) (some (length text)) h
  where
    some : (m : ℕ) → nat_lt 0 (suc m) ≡ true
    some m = grind arith

    both : (x y : Bool) → x ≡ true → y ≡ true → (x && y) ≡ true
    both true y u v = v
    both false y u v = u

no_attributes : (xs : List Attribute) → not (nat_eq (length xs) 0) ≡ false → [] ≡ xs
no_attributes [] h = refl
no_attributes (x ∷ xs) h = absurd (false≢true (sym h ∙ ap not (some (length xs))))
  where
    some : (m : ℕ) → nat_eq (suc m) 0 ≡ false
    some m = grind arith

no_constant : (c : Option Constant) → is_some c ≡ false → None ≡ c
no_constant None h = refl
no_constant (Some c) h = absurd (false≢true (sym h))

or_false : (x y : Bool) → (x || y) ≡ false → (x ≡ false) × (y ≡ false)
or_false true y h = absurd (false≢true (sym h))
or_false false y h = (refl, h)

or_left : (x y : Bool) → x ≡ true → (x || y) ≡ true
or_left true y h = refl
or_left false y h = absurd (false≢true h)

or_right : (x y : Bool) → y ≡ true → (x || y) ≡ true
or_right true y h = refl
or_right false y h = h

module _ (names : NamesAreRead) (flag_laws : FlagsAreRead) (searches : SearchesPass) (options : OptionsAreRead) (s : Source) (a : Assembly) (r : Param) (t : SigType)
    (wf : is_param a r ≡ true) (small : r.flags < 0x10000) (grown : Grows (body_of p.DEF_ARG) (written.parameter a.externs (Some r) t).below) (at : ℕ)
    (ag : Agrees s at (written.parameter a.externs (Some r) t).below) where
  abbrev shown : Shown
  shown = (written.parameter a.externs (Some r) t).below

  abbrev g : f.Forest
  g = numbered at shown

  small_flags : r.flags < 2 ^ 128
  small_flags = omega arith

  flags_given : flags.flags_of s flags.parameter_words (flags.parameter_flags_in g) ≡ r.flags
  unfolding ilasm rule_by
  flags_given =
      ap (λ c. flags.flags_of s flags.parameter_words (flags.flags_in p.PARAM_ATTR_STAR_MORE p.PARAM_ATTR_STAR_END c))
      (options.row p.PARAM_ATTR_STAR_MORE p.PARAM_ATTR_STAR_END refl refl (flag_items n.PARAM_ATTR p.PARAM_ATTR_FLAGS parameter_words r.flags) at (numbered (place 1 at shown) (rest 1 shown))
      (searches.child (p.PARAM_ATTR_STAR_MORE ∷ []) 2 (drop 1 (body_of p.DEF_ARG)) no_flags_behind (rest 1 shown) (searches.rest 1 (body_of p.DEF_ARG) shown grown) (place 1 at shown)))
      ∙ flag_laws.parameters s at r.flags small_flags ag.0

  abbrev has_text : Bool
  has_text = not (nat_eq (length r.name) 0)

  abbrev name_there : Bool → ℕ → f.Forest
  name_there b k = f.branch (opt_production p.NAME_OPT_SOME p.NAME_OPT_NONE (when b (name r.name none))) (numbered k (opt_below (when b (name r.name none)))) f.none

  has_by : (b : Bool) (k : ℕ) → f.is_any_part (f.parts (p.NAME_OPT_SOME ∷ []) (name_there b k)) ≡ b
  has_by true k = refl
  has_by false k = refl

  has_name_is : f.has p.NAME_OPT_SOME g ≡ has_text
  unfolding ilasm rule_by
  has_name_is = ap f.is_any_part (searches.parts (p.NAME_OPT_SOME ∷ []) 2 (body_of p.DEF_ARG) name_second shown grown at) ∙ has_by has_text (place 2 at shown)

  named_by : (b : Bool) (k : ℕ) → has_text ≡ b → has_no_zero r.name ≡ true → Agrees s k (opt_below (when b (name r.name none))) →
      (if b then name_text s (f.leaf_at 0 (f.child (p.NAME_OPT_SOME ∷ []) (name_there b k))) else []) ≡ r.name
  named_by true k e z q = ap (λ x. dotted (part_texts x)) q.0.text ∙ names.name r.name (some_text r.name z e)
  named_by false k e z q = no_text r.name e

  name_given : read.parameter_name s g ≡ r.name
  unfolding ilasm rule_by is_param
  name_given =
      let m1 = and_parts _ _ wf in
      let m2 = and_parts _ _ m1.0 in
      let m3 = and_parts _ _ m2.0 in
      let m4 = and_parts _ _ m3.0 in
      let there = searches.child (p.NAME_OPT_SOME ∷ []) 2 (body_of p.DEF_ARG) name_leads shown grown at in
      ap (λ c. if c then name_text s (f.leaf_at 0 (f.child (p.NAME_OPT_SOME ∷ []) g)) else []) has_name_is
      ∙ (ap (λ x. if has_text then name_text s (f.leaf_at 0 x) else []) there ∙ named_by has_text (place 2 at shown) refl m4.0 ag.1.1.0)

  -- a row with flags has a word of flags
  some_flags : nat_eq r.flags 0 ≡ false → f.is_any_part (flags.parameter_flags_in g) ≡ true
  some_flags e = by (flags.parameter_flags_in g) flags_given
    where
      by : (ps : List f.Part) → flags.flags_of s flags.parameter_words ps ≡ r.flags → f.is_any_part ps ≡ true
      by [] q = absurd (false≢true (sym e ∙ ap (λ k. nat_eq k 0) (sym q)))
      by (x ∷ ps) q = refl

module _ (numbers_read : NumbersAreRead) (constants : ConstantsAreRead) (attribute_laws : AttributesAreRead) (searches : SearchesPass) (segments : SegmentsAreRead) (pieces : PiecesAreRead)
    (s : Source) (around : Around) (a : Assembly) (knows : Knows s a) (r : Param) (wf : is_param a r ≡ true) (held : is_param_held r ≡ true) where
  abbrev lines : Type 0
  lines = List Run

  abbrev run_at : ℕ → Run
  run_at k = record { head = f.part p.ITEM_PARAM (numbered k (written.param_line r).below); customs = parts_at (k + size (written.param_line r).below) (customs a.externs p.ITEM_CUSTOM r.attributes) }

  pub record Facts : Type 0 where
    pub text : has_no_zero r.name ≡ true
    pub unnamed : (not (nat_eq r.number 0) || nat_eq (length r.name) 0) ≡ true
    pub clear : is_clear 0x1000 r.flags ≡ true
    pub constant : option_all is_constant r.constant ≡ true
    pub attributes : list_all (is_attribute a) r.attributes ≡ true
    pub small : r.flags < 0x10000
    pub held_constant : option_all is_constant_held r.constant ≡ true
    pub held_attributes : are_attributes_held r.attributes ≡ true

  facts : Facts
  unfolding is_param is_param_held
  facts =
      let m1 = and_parts _ _ wf in
      let m2 = and_parts _ _ m1.0 in
      let m3 = and_parts _ _ m2.0 in
      let m4 = and_parts _ _ m3.0 in
      let h1 = and_parts _ _ held in
      let h2 = and_parts _ _ h1.0 in
      let h3 = and_parts _ _ h2.0 in
      record { text = m4.0; unnamed = m4.1; clear = m3.1; constant = m2.1; attributes = m1.1; small = ltb-true r.flags 0x10000 h3.1; held_constant = h2.1; held_attributes = h1.1 }

  cleared_flags : flags.without_bits 0x1000 r.flags ≡ r.flags
  cleared_flags = ap (λ j. r.flags - j) (eqb-true (bit_and r.flags 0x1000) 0 facts.clear) ∙ nothing_less r.flags
    where
      nothing_less : (k : ℕ) → k - 0 ≡ k
      nothing_less k = omega arith

  said_constant : (c : Option Constant) → read.later_constant None c ≡ c
  said_constant None = refl
  said_constant (Some c) = refl

  -- what its line gives
  constant_given : (k : ℕ) → Agrees s k (written.param_line r).below → read.line_constant s None (run_at k) ≡ r.constant
  constant_given k ag =
      ap (read.later_constant None) (line_constant numbers_read constants searches s (says_flags r) r facts.constant facts.held_constant k ag) ∙ said_constant r.constant

  attributes_given : (k : ℕ) → ItemsAgree s (k + size (written.param_line r).below) (customs a.externs p.ITEM_CUSTOM r.attributes) → read.attributes_of s around (run_at k ∷ []) ≡ r.attributes
  attributes_given k ag =
      append-nil (attributes s around (run_at k).customs)
      ∙ attribute_laws s around a knows r.attributes facts.attributes facts.held_attributes p.ITEM_CUSTOM (k + size (written.param_line r).below) ag

  no_line_flags : (k before : ℕ) → says_flags r ≡ false → Grows (body_of p.ITEM_PARAM) (written.param_line r).below → read.with_line_flags s before (run_at k) ≡ before
  no_line_flags k before e g =
      if_false (f.has p.FLAGS (run_at k).head.below) (bit_or before (flags.flags_number s (run_at k).head.below)) before
      (subst (λ q. Grows (body_of p.ITEM_PARAM) (line_by q r) → f.has p.FLAGS (numbered k (line_by q r)) ≡ false) (sym e) (λ h. flags_without numbers_read constants searches s r h k) g)

  abbrev own_by : Bool → ℕ → List Run
  own_by b k = cond b (run_at k ∷ []) []

  abbrev items_by : Bool → List Item
  items_by b = cond b (written.param_line r ∷ customs a.externs p.ITEM_CUSTOM r.attributes) []

  -- ---- of a parameter

  module _ (names : NamesAreRead) (flag_laws : FlagsAreRead) (options : OptionsAreRead) (t : SigType) (grown : Grows (body_of p.DEF_ARG) (written.parameter a.externs (Some r) t).below) (at : ℕ)
      (ag : Agrees s at (written.parameter a.externs (Some r) t).below) (some : nat_eq r.number 0 ≡ false) where
    abbrev own_forest : f.Forest
    own_forest = numbered at (written.parameter a.externs (Some r) t).below

    quiet_flags : says_flags r ≡ false
    quiet_flags = ap (λ c. c && not (nat_eq r.flags 0)) some

    flags_own : flags.flags_of s flags.parameter_words (flags.parameter_flags_in own_forest) ≡ r.flags
    flags_own = flags_given names flag_laws searches options s a r t wf facts.small grown at ag

    name_own : read.parameter_name s own_forest ≡ r.name
    name_own = name_given names flag_laws searches options s a r t wf facts.small grown at ag

    with_line : (k : ℕ) → EachGrown n.ITEM (items_by true) → ItemsAgree s k (items_by true) → read.row s around r.number own_forest (own_by true k) ≡ r
    with_line k g i =
        let flags_are = ap (flags.without_bits 0x1000) (no_line_flags k _ quiet_flags g.1 ∙ flags_own) ∙ cleared_flags in
        let constant_is = constant_given k i.0 in
        let attributes_are = attributes_given k i.1 in
        λ j. record { number = r.number; flags = flags_are j; name = name_own j; constant = constant_is j; attributes = attributes_are j }

    without_line : written.wants_line r ≡ false → (read.row s around r.number own_forest [] ≡ r) × (read.has_row [] own_forest ≡ true)
    without_line e =
        let e1 = or_false (nat_eq r.number 0 || is_some r.constant || not (nat_eq (length r.attributes) 0)) (nat_eq (length r.name) 0 && nat_eq r.flags 0) e in
        let e2 = or_false (nat_eq r.number 0 || is_some r.constant) (not (nat_eq (length r.attributes) 0)) e1.0 in
        let e3 = or_false (nat_eq r.number 0) (is_some r.constant) e2.0 in
        let flags_are = ap (flags.without_bits 0x1000) flags_own ∙ cleared_flags in
        let constant_is = no_constant r.constant e3.1 in
        let attributes_are = no_attributes r.attributes e2.1 in (
          λ j. record { number = r.number; flags = flags_are j; name = name_own j; constant = constant_is j; attributes = attributes_are j },
          or_left (f.has p.NAME_OPT_SOME own_forest || f.is_any_part (flags.parameter_flags_in own_forest)) (nat_lt 0 0) (said (nat_eq (length r.name) 0) refl e1.1),
        )
      where
        said : (c : Bool) → nat_eq (length r.name) 0 ≡ c → (nat_eq (length r.name) 0 && nat_eq r.flags 0) ≡ false →
            (f.has p.NAME_OPT_SOME own_forest || f.is_any_part (flags.parameter_flags_in own_forest)) ≡ true
        said true q h =
            or_right (f.has p.NAME_OPT_SOME own_forest) (f.is_any_part (flags.parameter_flags_in own_forest))
            (some_flags names flag_laws searches options s a r t wf facts.small grown at ag (sym (ap (λ c. c && nat_eq r.flags 0) q) ∙ h))
        said false q h =
            or_left (f.has p.NAME_OPT_SOME own_forest) (f.is_any_part (flags.parameter_flags_in own_forest))
            (has_name_is names flag_laws searches options s a r t wf facts.small grown at ag ∙ ap not q)

    one_row : (b : Bool) → written.wants_line r ≡ b → (k : ℕ) → EachGrown n.ITEM (items_by b) → ItemsAgree s k (items_by b) →
        (if read.has_row (own_by b k) own_forest then read.row s around r.number own_forest (own_by b k) ∷ [] else []) ≡ r ∷ []
    one_row true e k g i =
        if_true (read.has_row (own_by true k) own_forest) (read.row s around r.number own_forest (own_by true k) ∷ []) []
        (or_right (f.has p.NAME_OPT_SOME own_forest || f.is_any_part (flags.parameter_flags_in own_forest)) (nat_lt 0 1) refl)
        ∙ ap (λ x. x ∷ []) (with_line k g i)
    one_row false e k g i =
        if_true (read.has_row [] own_forest) (read.row s around r.number own_forest [] ∷ []) [] (without_line e).1 ∙ ap (λ x. x ∷ []) (without_line e).0

  -- ---- of the return value

  module _ (none_is : nat_eq r.number 0 ≡ true) where
    wanted : written.wants_line r ≡ true
    wanted =
        or_left (nat_eq r.number 0 || is_some r.constant || not (nat_eq (length r.attributes) 0)) (nat_eq (length r.name) 0 && nat_eq r.flags 0)
        (or_left (nat_eq r.number 0 || is_some r.constant) (not (nat_eq (length r.attributes) 0)) (or_left (nat_eq r.number 0) (is_some r.constant) none_is))

    says_is : says_flags r ≡ not (nat_eq r.flags 0)
    says_is = ap (λ c. c && not (nat_eq r.flags 0)) none_is

    flags_by : (q : Bool) → not (nat_eq r.flags 0) ≡ q → (k : ℕ) → Grows (body_of p.ITEM_PARAM) (line_by q r) → Agrees s k (line_by q r) →
        (if f.has p.FLAGS (numbered k (line_by q r)) then bit_or 0 (flags.flags_number s (numbered k (line_by q r))) else 0) ≡ r.flags
    flags_by true e k g i =
        let small = facts.small in
        let fits : r.flags < 2 ^ 128 = omega arith in
        ap (λ z. bit_or 0 (natural z)) (ap (λ x. integer x) i.1.0.1.1.1.0.0.1.1.0.text ∙ numbers_read.hexadecimal 0 r.flags fits) ∙ or_zero_l r.flags
    flags_by false e k g i =
        if_false (f.has p.FLAGS (numbered k (line_by false r))) (bit_or 0 (flags.flags_number s (numbered k (line_by false r)))) 0 (flags_without numbers_read constants searches s r g k)
        ∙ no_bits (nat_eq r.flags 0) refl e
      where
        no_bits : (c : Bool) → nat_eq r.flags 0 ≡ c → not c ≡ false → 0 ≡ r.flags
        no_bits true q h = sym (eqb-true r.flags 0 q)
        no_bits false q h = absurd (false≢true (sym h))

    return_row : (k : ℕ) → EachGrown n.ITEM (items_by true) → ItemsAgree s k (items_by true) →
        (if read.has_row (own_by true k) f.none then read.row s around 0 f.none (own_by true k) ∷ [] else []) ≡ r ∷ []
    return_row k g i =
        let number_is = sym (eqb-true r.number 0 none_is) in
        let line_flags = subst (λ q. Grows (body_of p.ITEM_PARAM) (line_by q r) → Agrees s k (line_by q r) →
        (if f.has p.FLAGS (numbered k (line_by q r)) then bit_or 0 (flags.flags_number s (numbered k (line_by q r))) else 0) ≡ r.flags) (sym says_is)
        (flags_by (not (nat_eq r.flags 0)) refl k) g.1 i.0 in
        let flags_are = ap (flags.without_bits 0x1000) line_flags ∙ cleared_flags in
        let constant_is = constant_given k i.0 in
        let attributes_are = attributes_given k i.1 in
        let name_is = no_name (nat_eq (length r.name) 0) refl (sym (ap (λ c. not c || nat_eq (length r.name) 0) none_is) ∙ facts.unnamed) in
        (λ j. record { number = number_is j; flags = flags_are j; name = name_is j; constant = constant_is j; attributes = attributes_are j } ∷ [])
      where
        no_name : (c : Bool) → nat_eq (length r.name) 0 ≡ c → (false || nat_eq (length r.name) 0) ≡ true → [] ≡ r.name
        no_name true q h = no_text r.name (ap not q)
        no_name false q h = absurd (false≢true (sym q ∙ h))

-- ---- all rows

no_name_behind : cant_stand (p.NAME_OPT_SOME ∷ []) (take 2 (body_of p.DEF_ARG)) ≡ true
unfolding ilasm rule_by has_bit below below_masks
no_name_behind = refl

module _ (names : NamesAreRead) (numbers_read : NumbersAreRead) (flag_laws : FlagsAreRead) (constants : ConstantsAreRead) (attribute_laws : AttributesAreRead) (searches : SearchesPass) (options : OptionsAreRead) (segments : SegmentsAreRead) (pieces : PiecesAreRead) (s : Source) (around : Around) (a : Assembly) (knows : Knows s a) where
  abbrev rows_by : ℕ → f.Forest → List Run → List Param
  rows_by m g own = if read.has_row own g then read.row s around m g own ∷ [] else []

  -- a parameter without a row
  no_row : (t : SigType) → Grows (body_of p.DEF_ARG) (written.parameter a.externs None t).below → (m at : ℕ) → rows_by m (numbered at (written.parameter a.externs None t).below) [] ≡ []
  unfolding ilasm rule_by
  no_row t grown m at =
      let shown = (written.parameter a.externs None t).below in
      let g = numbered at shown in
      let unnamed = ap f.is_any_part (searches.parts (p.NAME_OPT_SOME ∷ []) 2 (body_of p.DEF_ARG) no_name_behind shown grown at) in
      let unflagged = ap (λ c. f.is_any_part (flags.flags_in p.PARAM_ATTR_STAR_MORE p.PARAM_ATTR_STAR_END c))
      (options.row p.PARAM_ATTR_STAR_MORE p.PARAM_ATTR_STAR_END refl refl [] at (numbered (place 1 at shown) (rest 1 shown))
      (searches.child (p.PARAM_ATTR_STAR_MORE ∷ []) 2 (drop 1 (body_of p.DEF_ARG)) no_flags_behind (rest 1 shown) (searches.rest 1 (body_of p.DEF_ARG) shown grown) (place 1 at shown))) in
      if_false (read.has_row [] g) (read.row s around m g [] ∷ []) []
      (ap (λ c. (c || f.is_any_part (flags.parameter_flags_in g)) || nat_lt 0 0) unnamed ∙ ap (λ c. c || nat_lt 0 0) unflagged)

  -- what is true of a row that stands in a list
  abbrev Formed : Param → Type 0
  Formed r = (is_param a r ≡ true) × (is_param_held r ≡ true)

  abbrev FormedIf : Option Param → Type 0
  FormedIf None = ⊤
  FormedIf (Some r) = Formed r

  row_formed : (rs : List Param) → list_all (is_param a) rs ≡ true → list_all is_param_held rs ≡ true → (m : ℕ) → FormedIf (written.row_of rs m)
  row_formed [] w h m = tt
  row_formed (r ∷ rs) w h m =
      let ws = and_parts (is_param a r) (list_all (is_param a) rs) w in
      let hs = and_parts (is_param_held r) (list_all is_param_held rs) h in
      chosen (nat_eq r.number m) (ws.0, hs.0) (row_formed rs ws.1 hs.1 m)
    where
      chosen : (c : Bool) → Formed r → FormedIf (written.row_of rs m) → FormedIf (cond c (Some r) (written.row_of rs m))
      chosen true one more = one
      chosen false one more = more

  -- a row that is found has the number that was sought
  abbrev NumberIf : ℕ → Option Param → Type 0
  NumberIf m None = ⊤
  NumberIf m (Some r) = r.number ≡ m

  row_number : (rs : List Param) (m : ℕ) → NumberIf m (written.row_of rs m)
  row_number [] m = tt
  row_number (r ∷ rs) m = chosen (nat_eq r.number m) refl (row_number rs m)
    where
      chosen : (c : Bool) → nat_eq r.number m ≡ c → NumberIf m (written.row_of rs m) → NumberIf m (cond c (Some r) (written.row_of rs m))
      chosen true e more = eqb-true r.number m e
      chosen false e more = more

  -- a parameter by its row
  one_parameter : (row : Option Param) (t : SigType) (found : List Run) (m : ℕ) → nat_eq m 0 ≡ false → FormedIf row → NumberIf m row → OwnIf numbers_read segments pieces s a row found →
      Grows (body_of p.DEF_ARG) (written.parameter a.externs row t).below → (at : ℕ) → Agrees s at (written.parameter a.externs row t).below →
      rows_by m (numbered at (written.parameter a.externs row t).below) found ≡ opt_list row
  one_parameter None t found m some formed number own grown at ag = ap (rows_by m (numbered at (written.parameter a.externs None t).below)) own ∙ no_row t grown m at
  one_parameter (Some r) t found m some formed number own grown at ag =
      let g = numbered at (written.parameter a.externs (Some r) t).below in
      let here : nat_eq r.number 0 ≡ false = ap (λ k. nat_eq k 0) number ∙ some in
      ap (rows_by m g) own.is
      ∙ (ap (λ k. rows_by k g (param_run a.externs own.place r)) (sym number)
      ∙ one_row numbers_read constants attribute_laws searches segments pieces s around a knows r formed.0 formed.1 names flag_laws options t grown at ag here (written.wants_line r) refl own.place own.grown own.agree)

  -- the return value by its row
  return_value : (row : Option Param) (found : List Run) → FormedIf row → NumberIf 0 row → OwnIf numbers_read segments pieces s a row found → rows_by 0 f.none found ≡ opt_list row
  return_value None found formed number own = ap (rows_by 0 f.none) own
  return_value (Some r) found formed number own =
      let here : nat_eq r.number 0 ≡ true = ap (λ k. nat_eq k 0) number in
      let wants = wanted numbers_read constants attribute_laws searches segments pieces s around a knows r formed.0 formed.1 here in
      ap (rows_by 0 f.none) own.is
      ∙ given (written.wants_line r) wants own.place own.grown own.agree here
    where
      given : (c : Bool) → c ≡ true → (k : ℕ) → EachGrown n.ITEM (items_by numbers_read constants attribute_laws searches segments pieces s around a knows r formed.0 formed.1 c) →
          ItemsAgree s k (items_by numbers_read constants attribute_laws searches segments pieces s around a knows r formed.0 formed.1 c) → nat_eq r.number 0 ≡ true →
          rows_by 0 f.none (own_by numbers_read constants attribute_laws searches segments pieces s around a knows r formed.0 formed.1 c k) ≡ r ∷ []
      given true e k g i here = return_row numbers_read constants attribute_laws searches segments pieces s around a knows r formed.0 formed.1 here k g i
      given false e k g i here = absurd (false≢true e)

  -- ---- row by row

  not_zero : (j : ℕ) → nat_eq (suc j) 0 ≡ false
  not_zero j = grind arith

  module _ (rs : List Param) (wf : list_all (is_param a) rs ≡ true) (held : list_all is_param_held rs ≡ true) (up : Above 0 rs) (at : ℕ) (grown : EachGrown n.ITEM (flat_map (written.row_lines a.externs) rs)) (lines_agree : ItemsAgree s at (flat_map (written.row_lines a.externs) rs)) where
    abbrev runs_here : List Run
    runs_here = param_runs a.externs at rs

    abbrev found_at : ℕ → List Run
    found_at m = filter (λ r. nat_eq (read.parameter_number s r.head.below) m) runs_here

    own_at : (m : ℕ) → OwnIf numbers_read segments pieces s a (written.row_of rs m) (found_at m)
    own_at m = select numbers_read segments pieces s a rs 0 m at up held grown lines_agree

    behind_rows : (j : ℕ) (ts : List SigType) (k : ℕ) → EachGrown n.DEF_ARG (written.parameters a.externs rs (suc j) ts) → BehindAgree s k (written.parameters a.externs rs (suc j) ts) →
        flat_map (read.rows_of s around runs_here) (enumerate_from (suc j) (f.below_each (parts_behind k (written.parameters a.externs rs (suc j) ts)))) ≡ rows_from rs (suc j) (length ts)
    behind_rows j [] k g ag = refl
    behind_rows j (t ∷ ts) k g ag =
        let row = written.row_of rs (suc j) in
        let next = k + size (behind_comma 0 (written.parameter a.externs row t)).below in
        let fs = f.below_each (parts_behind next (written.parameters a.externs rs (suc (suc j)) ts)) in
        let same : suc j + 1 ≡ suc (suc j) = omega arith in
        ap (λ xs. xs ++ flat_map (read.rows_of s around runs_here) (enumerate_from (suc j + 1) fs))
        (one_parameter row t (found_at (suc j)) (suc j) (not_zero j) (row_formed rs wf held (suc j)) (row_number rs (suc j)) (own_at (suc j)) g.1 (suc k) ag.0)
        ∙ (ap (λ i. opt_list row ++ flat_map (read.rows_of s around runs_here) (enumerate_from i fs)) same
        ∙ ap (λ xs. opt_list row ++ xs) (behind_rows (suc j) ts next g.2 ag.1))

    first_rows : (ts : List SigType) (k : ℕ) → EachGrown n.DEF_ARG (written.parameters a.externs rs 1 ts) → CommasAgree s k (written.parameters a.externs rs 1 ts) →
        flat_map (read.rows_of s around runs_here) (enumerate_from 1 (f.below_each (comma_parts k (written.parameters a.externs rs 1 ts)))) ≡ rows_from rs 1 (length ts)
    first_rows [] k g ag = refl
    first_rows (t ∷ ts) k g ag =
        let row = written.row_of rs 1 in
        let next = k + size (written.parameter a.externs row t).below in
        let fs = f.below_each (parts_behind next (written.parameters a.externs rs 2 ts)) in
        ap (λ xs. xs ++ flat_map (read.rows_of s around runs_here) (enumerate_from (1 + 1) fs))
        (one_parameter row t (found_at 1) 1 (not_zero 0) (row_formed rs wf held 1) (row_number rs 1) (own_at 1) g.1 k ag.0)
        ∙ ap (λ xs. opt_list row ++ xs) (behind_rows 1 ts next g.2 ag.1)

    pub rows_are : (ts : List SigType) → list_all (λ r. nat_le r.number (length ts)) rs ≡ true → (k : ℕ) → EachGrown n.DEF_ARG (written.parameters a.externs rs 1 ts) →
        CommasAgree s k (written.parameters a.externs rs 1 ts) → (g : f.Forest) → read.parameters g ≡ f.below_each (comma_parts k (written.parameters a.externs rs 1 ts)) → (lines : List Run) →
        filter read.speaks_of_parameter lines ≡ runs_here → read.params s around g lines ≡ rs
    rows_are ts few k gs ag g parameters_are lines lines_are =
        ap (λ ls. flat_map (read.rows_of s around ls) ((0, f.none) ∷ enumerate_from 1 (read.parameters g))) lines_are
        ∙ (ap (λ fs. flat_map (read.rows_of s around runs_here) ((0, f.none) ∷ enumerate_from 1 fs)) parameters_are
        ∙ (ap (λ xs. xs ++ flat_map (read.rows_of s around runs_here) (enumerate_from 1 (f.below_each (comma_parts k (written.parameters a.externs rs 1 ts)))))
        (return_value (written.row_of rs 0) (found_at 0) (row_formed rs wf held 0) (row_number rs 0) (own_at 0))
        ∙ (ap (λ xs. opt_list (written.row_of rs 0) ++ xs) (first_rows ts k gs ag) ∙ collect (suc (length ts)) 0 rs up (from_zero (suc (length ts)) rs (at_most (length ts) rs few)))))

pub rising : (rs : List Param) → rises is_param_before rs ≡ true → Above 0 rs
rising rs h = above 0 rs (zero_first rs) h
