-- The shape of an array in a faultless source is one (ECMA-335 II.14.2, II.23.2.13).
use Rattle.std.proofs.Common.{◌≡◌, ℕ, suc, ◌+◌, ◌≤◌, inl, inr, List, [], ◌∷◌, ◌++◌, Option, None, Some, cond, length, map, drop, refl, ap, sym, ◌∙◌, arith, length-append, length-drop, append-nil, ◌-◌, nat_lt, nat_le}
use Rattle.std.specs.Prelude.{Bool, true, false, not, ◌==◌, ◌||◌, ◌&&◌, if◌then◌else◌, slice_get, option_map, filter, ℤ, pos, negsuc, int_le}
use Rattle.std.specs.List.{flat_map, list_all}
use Rattle.std.proofs.lemmas.Bool.{and_from, cases_Bool, le-leb, leb-true}
use Rattle.std.proofs.lemmas.Bool.Decides.{Decides-eqb}
use Rattle.std.proofs.lemmas.List.{length-map}
use Rattle.std.proofs.lemmas.List.Elements.{filter-append}
use Rattle.std.proofs.lemmas.Option.{same_Some}
use Rattle.il_lexer.specs.declared.types.Token.{Token}
use Rattle.il_lexer.specs.declared.types.TokenKind.{TokenKind}
use Rattle.il_lexer.specs.declared.types.TokenKind.TheVariants as kind
use Rattle.il_lexer.specs.declared.word.TheConstants.{CLOSE_BRACKET, COMMA, OPEN_BRACKET}
use Rattle.assembly_tree.specs.WellFormedTerms.{is_lower_bound, is_shape, is_size}
use Rattle.ilasm_grammar.specs.Grammar.{Rule, rule_of}
use Rattle.ilasm_grammar.specs.Ilasm.{ilasm, rule_by}
use Rattle.ilasm_grammar.specs.Terminals.{terminal_of}
use Rattle.ilasm_grammar.specs.declared.nonterminals.TheConstants as n
use Rattle.ilasm_grammar.specs.declared.productions.TheConstants.{BOUND_ELLIPSIS, BOUND_INT, BOUND_OPT_NONE, SHAPE_BOUND, SHAPE_CLOSE, SHAPE_COMMA, TYPE_SUFFIX_BRACKET}
use Rattle.ilasm_grammar.specs.declared.symbol.Symbol.{Symbol}
use Rattle.ilasm_grammar.specs.declared.symbol.Symbol.TheVariants.{Terminal, Nonterminal}
use Rattle.ilasm_grammar.specs.declared.terminals.TheConstants as t
use Rattle.source_model.specs.Forest.{Forest, none, leaf, branch, is_among, is_any_part, part, parts, tokens_of}
use Rattle.source_model.specs.Shapes.{Bound, bound, commas, dimensions, is_vector, lower_bounds, lower_then, natural, no_bound, size_then, size_value, sizes}
use Rattle.source_model.specs.Source.{Source, is_word, is_word_numbered, word_number, word_of_token}
use Rattle.source_model.specs.TypeRules.{bound_out_of_range, comma_past_rank, is_within, lower_out_of_range, size_after_gap, size_out_of_range}
use Rattle.source_model.specs.Values.{int_at}
use Rattle.source_nodes.specs.Derived.{Fits, FitsBody, HasBodies, head_of, terminal_at}
use Rattle.source_syntax.specs.Places.{IsSound}
use Rattle.source_syntax.proofs.BodyLemmas.{StaysChosen, closed_rule, nowhere_below}
use Rattle.source_syntax.proofs.SoundLemmas.{array_fits}
use Rattle.source_nodes.proofs.WrittenNames.{both_true, fits_rule, other_true}
use Rattle.laws_formed_sources.proofs.sources.Rules.{among_these, for_each, rule_below, rule_passes}
use Rattle.laws_formed_sources.proofs.sources.Unbroken.{empty_in}

-- ---- sizes and lower bounds

unless : (c : Bool) (k : ℕ) → (if c then [] else k ∷ []) ≡ [] → c ≡ true
unless true k e = refl
unless false k e = absurd cc

size_is : (z : ℤ) → is_within (pos 0) (pos 0x1FFFFFFF) z ≡ true → is_size (natural z) ≡ true
size_is (pos m) e = go m (both_true (int_le (pos 0) (pos m)) (int_le (pos m) (pos 0x1FFFFFFF)) e).1
  where
    go : (m : ℕ) → int_le (pos m) (pos 0x1FFFFFFF) ≡ true → is_size m ≡ true
    go m e = search (arith, e)
size_is (negsuc m) e = refl

module _ (s : Source) where
  few_sizes : (bs : List Bound) → length (sizes s bs) ≤ length bs
  few_sizes [] = omega arith
  few_sizes (b ∷ bs) = go b.size (few_sizes bs)
    where
      go : (o : Option ℕ) → length (sizes s bs) ≤ length bs → length (size_then s b.lower o (sizes s bs)) ≤ suc (length bs)
      go None h = omega arith
      go (Some k) h = omega (arith, h)

  few_lower : (bs : List Bound) → length (lower_bounds s bs) ≤ length bs
  few_lower [] = omega arith
  few_lower (b ∷ bs) = go b.lower (lower_bounds s bs) (few_lower bs)
    where
      go : (o : Option ℕ) (ls : List ℤ) → length ls ≤ length bs → length (lower_then s o ls) ≤ suc (length bs)
      go None [] h = omega arith
      go None (l ∷ ls) h = omega (arith, h)
      go (Some k) ls h = omega (arith, h)

  sizes_fit : (bs : List Bound) → flat_map (bound_out_of_range s) bs ≡ [] → list_all is_size (sizes s bs) ≡ true
  sizes_fit [] e = refl
  sizes_fit (b ∷ bs) e =
      let both = empty_in (bound_out_of_range s b) (flat_map (bound_out_of_range s) bs) e in
      let own = empty_in (lower_out_of_range s b.lower) (size_out_of_range s b.lower b.size) both.0 in
      go b.size own.1 (sizes_fit bs both.1)
    where
      go : (o : Option ℕ) → size_out_of_range s b.lower o ≡ [] → list_all is_size (sizes s bs) ≡ true → list_all is_size (size_then s b.lower o (sizes s bs)) ≡ true
      go None e h = refl
      go (Some k) e h =
          and_from (is_size (natural (size_value s b.lower k))) (list_all is_size (sizes s bs))
          (size_is (size_value s b.lower k) (unless (is_within (pos 0) (pos 0x1FFFFFFF) (size_value s b.lower k)) k e)) h

  lower_fit : (bs : List Bound) → flat_map (bound_out_of_range s) bs ≡ [] → list_all is_lower_bound (lower_bounds s bs) ≡ true
  lower_fit [] e = refl
  lower_fit (b ∷ bs) e =
      let both = empty_in (bound_out_of_range s b) (flat_map (bound_out_of_range s) bs) e in
      let own = empty_in (lower_out_of_range s b.lower) (size_out_of_range s b.lower b.size) both.0 in
      go b.lower (lower_bounds s bs) own.0 (lower_fit bs both.1)
    where
      go : (o : Option ℕ) (ls : List ℤ) → lower_out_of_range s o ≡ [] → list_all is_lower_bound ls ≡ true → list_all is_lower_bound (lower_then s o ls) ≡ true
      go None [] e h = refl
      go None (l ∷ ls) e h = h
      go (Some k) ls e h =
          and_from (is_lower_bound (int_at s k)) (list_all is_lower_bound ls) (unless (is_within (negsuc 0xFFFFFFF) (pos 0xFFFFFFF) (int_at s k)) k e) h

-- ---- each dimension after the first begins with a comma

abbrev bounding : List ℕ
bounding = BOUND_OPT_NONE ∷ BOUND_ELLIPSIS ∷ BOUND_INT ∷ []

-- the nonterminals of a shape's dimensions, and how many dimensions more than commas stand in one
abbrev in_shape : ℕ → Bool
in_shape m = m == n.BOUND_OPT || (m == n.BOUND || (m == n.COMMA_BOUND_STAR || m == n.COMMA_BOUND))

abbrev more_than : ℕ → ℕ
more_than m = if m == n.BOUND_OPT || m == n.BOUND then 1 else 0

abbrev more_in : List Symbol → ℕ
more_in [] = 0
more_in (Terminal x ∷ body) = more_in body
more_in (Nonterminal m ∷ body) = more_than m + more_in body

abbrev comma_if : ℕ → ℕ
comma_if x = if x == t.WORDS + COMMA then 1 else 0

abbrev commas_in : List Symbol → ℕ
commas_in [] = 0
commas_in (Terminal x ∷ body) = comma_if x + commas_in body
commas_in (Nonterminal m ∷ body) = commas_in body

abbrev all_shape : List Symbol → Bool
all_shape [] = true
all_shape (Terminal x ∷ body) = all_shape body
all_shape (Nonterminal m ∷ body) = in_shape m && all_shape body

-- a production of such a nonterminal is a dimension, or has such nonterminals alone and enough commas
abbrev has_commas : ℕ → ℕ → List Symbol → Bool
has_commas p h body =
    not (in_shape h) || (if is_among bounding p then more_than h == 1 else all_shape body && nat_le (more_in body) (more_than h + commas_in body))

shape_rules : (p : ℕ) (r : Rule) → ilasm p ≡ Some r → has_commas p r.head r.body ≡ true
unfolding ilasm
shape_rules p r is = rule_passes has_commas _ _ _ p r is refl

word_here : (s : Source) (k w : ℕ) → terminal_at s k ≡ Some (t.WORDS + w) → is_word s w k ≡ true
word_here s k w e = go (slice_get s.tokens k) e
  where
    number : (j : ℕ) (c : Bool) → (if c then t.WORDS + j else t.UNUSED) ≡ t.WORDS + w → j ≡ w
    number j true h = omega (arith, h)
    number j false h = absurd (omega (arith, h))

    of_kind : (x : TokenKind) → terminal_of x ≡ t.WORDS + w → is_word_numbered w (word_number x) ≡ true
    of_kind (kind.Word j) h = (Decides-eqb w j).1 (sym (number j (nat_lt (t.WORDS + j) t.END) h))
    of_kind kind.Name h = absurd (omega (arith, h))
    of_kind kind.Scope h = absurd (omega (arith, h))
    of_kind kind.Int h = absurd (omega (arith, h))
    of_kind kind.QString h = absurd (omega (arith, h))
    of_kind kind.EqBytes h = absurd (omega (arith, h))
    of_kind kind.ByteArray h = absurd (omega (arith, h))
    of_kind kind.RealBytes h = absurd (omega (arith, h))
    of_kind kind.Hash h = absurd (omega (arith, h))
    of_kind kind.Unused h = absurd (omega (arith, h))

    go : (o : Option Token) → option_map (λ (x : Token). terminal_of x.kind) o ≡ Some (t.WORDS + w) → is_word_numbered w (word_of_token o) ≡ true
    go None h = absurd cc
    go (Some x) h = of_kind x.kind (same_Some (terminal_of x.kind) (t.WORDS + w) h)

module _ (s : Source) where
  abbrev dims : Forest → ℕ
  dims f = length (parts bounding f)

  abbrev comma_count : List ℕ → ℕ
  comma_count ks = length (filter (is_word s COMMA) ks)

  commas_joined : (ks ls : List ℕ) → comma_count (ks ++ ls) ≡ comma_count ks + comma_count ls
  commas_joined ks ls = ap length (filter-append (is_word s COMMA) ks ls) ∙ length-append (filter (is_word s COMMA) ks) (filter (is_word s COMMA) ls)

  leaf_counts : (x k : ℕ) (ks : List ℕ) → terminal_at s k ≡ Some x → comma_if x + comma_count ks ≤ comma_count (k ∷ ks)
  leaf_counts x k ks at = elim (cases_Bool (x == t.WORDS + COMMA)) [
    | inl is ↦
        let word = word_here s k COMMA (at ∙ ap Some ((Decides-eqb x (t.WORDS + COMMA)).0 is)) in
        let one : comma_count (k ∷ ks) ≡ suc (comma_count ks) =
        ap (λ (c : Bool). length (cond c (k ∷ filter (is_word s COMMA) ks) (filter (is_word s COMMA) ks))) word in
        let more : comma_if x ≡ 1 = ap (λ (c : Bool). if c then 1 else 0) is in
        omega (arith, one, more)
    | inr other ↦
        let nothing : comma_if x ≡ 0 = ap (λ (c : Bool). if c then 1 else 0) other in
        omega (arith, nothing, either (is_word s COMMA k))
  ]
    where
      either : (c : Bool) → comma_count ks ≤ length (cond c (k ∷ filter (is_word s COMMA) ks) (filter (is_word s COMMA) ks))
      either true = omega arith
      either false = omega arith

  -- what stands below a production has as many dimensions as its commas allow
  step : (p m : ℕ) (b : Forest) (r : Rule) → r.head ≡ m → in_shape m ≡ true → has_commas p r.head r.body ≡ true
      → (all_shape r.body ≡ true → dims b + commas_in r.body ≤ comma_count (tokens_of b) + more_in r.body)
      → length (if is_among bounding p then part p b ∷ [] else parts bounding b) ≤ comma_count (tokens_of b) + more_than m
  step p m b r head inside test below =
      let passed = other_true (in_shape r.head)
      (if is_among bounding p then more_than r.head == 1 else all_shape r.body && nat_le (more_in r.body) (more_than r.head + commas_in r.body)) test (ap in_shape head ∙ inside) in
      let same : more_than r.head ≡ more_than m = ap more_than head in
      go (is_among bounding p) passed same
    where
      go : (c : Bool) → (if c then more_than r.head == 1 else all_shape r.body && nat_le (more_in r.body) (more_than r.head + commas_in r.body)) ≡ true
          → more_than r.head ≡ more_than m → length (if c then part p b ∷ [] else parts bounding b) ≤ comma_count (tokens_of b) + more_than m
      go true h same = let one = (Decides-eqb (more_than r.head) 1).0 h in omega (arith, one, same)
      go false h same =
          let both = both_true (all_shape r.body) (nat_le (more_in r.body) (more_than r.head + commas_in r.body)) h in
          let enough = leb-true (more_in r.body) (more_than r.head + commas_in r.body) both.1 in
          omega (arith, enough, below both.0, same)

  counted : (f : Forest) (body : List Symbol) → Fits s body f → HasBodies s f → all_shape body ≡ true → dims f + commas_in body ≤ comma_count (tokens_of f) + more_in body
  counted none [] h bodies e = omega arith
  counted none (Terminal x ∷ body) h bodies e = absurd h
  counted none (Nonterminal m ∷ body) h bodies e = absurd h
  counted (leaf k a) [] h bodies e = absurd h
  counted (leaf k a) (Nonterminal m ∷ body) h bodies e = absurd h
  counted (leaf k a) (Terminal x ∷ body) h bodies e =
      omega (arith, counted a body h.1 bodies e, leaf_counts x k (tokens_of a) h.0)
  counted (branch p b a) [] h bodies e = absurd h
  counted (branch p b a) (Terminal x ∷ body) h bodies e = absurd h
  counted (branch p b a) (Nonterminal m ∷ body) h bodies e =
      let both = both_true (in_shape m) (all_shape body) e in
      let r = rule_below s p b (ilasm p) refl bodies.0 in
      let head : r.0.head ≡ m = same_Some r.0.head m (sym (ap (option_map (λ (x : Rule). x.head)) r.1) ∙ h.0) in
      let own = step p m b r.0 head both.0 (shape_rules p r.0 r.1) (counted b r.0.body r.2 bodies.1) in
      let split = length-append (if is_among bounding p then part p b ∷ [] else parts bounding b) (parts bounding a) in
      omega (arith, own, split, counted a body h.1 bodies.2 both.1, commas_joined (tokens_of b) (tokens_of a))

-- ---- ranks

rule_bracket : ilasm TYPE_SUFFIX_BRACKET ≡ Some (rule_of n.TYPE_SUFFIX (Terminal (t.WORDS + OPEN_BRACKET) ∷ Nonterminal n.SHAPE ∷ []))
unfolding ilasm rule_by
rule_bracket = refl

abbrev comma_body : List Symbol
comma_body = Terminal (t.WORDS + COMMA) ∷ Nonterminal n.BOUND_OPT ∷ Nonterminal n.COMMA_BOUND_STAR ∷ Terminal (t.WORDS + CLOSE_BRACKET) ∷ []

abbrev bound_body : List Symbol
bound_body = Nonterminal n.BOUND ∷ Nonterminal n.COMMA_BOUND_STAR ∷ Terminal (t.WORDS + CLOSE_BRACKET) ∷ []

rule_comma : ilasm SHAPE_COMMA ≡ Some (rule_of n.SHAPE comma_body)
unfolding ilasm rule_by
rule_comma = refl

rule_bound : ilasm SHAPE_BOUND ≡ Some (rule_of n.SHAPE bound_body)
unfolding ilasm rule_by
rule_bound = refl

head_comma : head_of SHAPE_COMMA ≡ Some n.SHAPE
unfolding ilasm rule_by
head_comma = refl

shapes_are : (p : ℕ) → head_of p ≡ Some n.SHAPE → is_among (SHAPE_CLOSE ∷ SHAPE_COMMA ∷ SHAPE_BOUND ∷ []) p ≡ true
unfolding ilasm
shapes_are p e = among_these _ _ _ n.SHAPE (SHAPE_CLOSE ∷ SHAPE_COMMA ∷ SHAPE_BOUND ∷ []) p e refl

bounds_are : (p : ℕ) → head_of p ≡ Some n.BOUND → is_among (BOUND_ELLIPSIS ∷ BOUND_INT ∷ []) p ≡ true
unfolding ilasm
bounds_are p e = among_these _ _ _ n.BOUND (BOUND_ELLIPSIS ∷ BOUND_INT ∷ []) p e refl

-- the nonterminals below a shape
abbrev below_shape : ℕ → Bool
below_shape m = nat_le n.BOUND_OPT m && nat_le m n.COMMA_BOUND

shape_stays : StaysChosen below_shape n.SHAPE
unfolding ilasm
shape_stays p r is c = closed_rule below_shape n.SHAPE _ _ _ p r is c refl

module _ (s : Source) (k : ℕ) (b : Forest) (bodies : HasBodies s b) where
  abbrev Ranked : Forest → Type 0
  Ranked f = is_vector f ≡ false → (1 ≤ length (dimensions f)) × (length (dimensions f) ≤ 1 + length (commas s f))

  abbrev RankedBy : ℕ → Type 0
  RankedBy p = Fits s (Terminal (t.WORDS + OPEN_BRACKET) ∷ Nonterminal n.SHAPE ∷ []) (leaf k (branch p b none)) → FitsBody s p b → Ranked (leaf k (branch p b none))

  more_commas : comma_count s (tokens_of b) ≤ comma_count s (k ∷ (tokens_of b ++ []))
  more_commas = omega (arith, either (is_word s COMMA k), commas_joined s (tokens_of b) [])
    where
      either : (c : Bool) → comma_count s (tokens_of b ++ []) ≤ length (cond c (k ∷ filter (is_word s COMMA) (tokens_of b ++ [])) (filter (is_word s COMMA) (tokens_of b ++ [])))
      either true = omega arith
      either false = omega arith

  bound_count : length (map bound (parts bounding b ++ [])) ≡ length (parts bounding b)
  bound_count = length-map (parts bounding b ++ []) bound ∙ ap length (append-nil (parts bounding b))

  by_comma : RankedBy SHAPE_COMMA
  by_comma whole fits e =
      let h = counted s b comma_body (fits_rule s SHAPE_COMMA n.SHAPE comma_body b rule_comma fits) bodies refl in
      (omega arith, omega (arith, h, more_commas, bound_count))

  first_bound : (g : Forest) → Fits s bound_body g → 1 ≤ length (parts bounding g)
  first_bound none h = absurd h
  first_bound (leaf j a) h = absurd h
  first_bound (branch q c a) h = for_each Q (BOUND_ELLIPSIS ∷ BOUND_INT ∷ []) (omega arith, (omega arith, tt)) q (bounds_are q h.0)
    where
      Q : ℕ → Type 0
      Q p = 1 ≤ length (parts bounding (branch p c a))

  by_bound : RankedBy SHAPE_BOUND
  by_bound whole fits e =
      let body = fits_rule s SHAPE_BOUND n.SHAPE bound_body b rule_bound fits in
      let h = counted s b bound_body body bodies refl in
      let some = first_bound b body in
      let no_comma = nowhere_below below_shape n.SHAPE shape_stays s SHAPE_COMMA n.SHAPE head_comma refl (leaf k (branch SHAPE_BOUND b none))
      (Terminal (t.WORDS + OPEN_BRACKET) ∷ Nonterminal n.SHAPE ∷ []) whole (fits, bodies, tt) refl in
      let dims_are : dimensions (leaf k (branch SHAPE_BOUND b none)) ≡ map bound (parts bounding b ++ []) =
      ap (λ ps. if is_any_part (ps ++ []) then no_bound ∷ map bound (parts bounding b ++ []) else map bound (parts bounding b ++ [])) no_comma.0 in
      let long = ap length dims_are in
      (omega (arith, long, bound_count, some), omega (arith, long, bound_count, h, more_commas))

  by_close : RankedBy SHAPE_CLOSE
  by_close whole fits e = absurd cc

ranked : (s : Source) (f : Forest) → Fits s (Terminal (t.WORDS + OPEN_BRACKET) ∷ Nonterminal n.SHAPE ∷ []) f → HasBodies s f → is_vector f ≡ false
    → (1 ≤ length (dimensions f)) × (length (dimensions f) ≤ 1 + length (commas s f))
ranked s none h bodies e = absurd h
ranked s (branch p b a) h bodies e = absurd h
ranked s (leaf k none) h bodies e = absurd h.1
ranked s (leaf k (leaf j a)) h bodies e = absurd h.1
ranked s (leaf k (branch p b (leaf j a))) h bodies e = absurd h.1.1
ranked s (leaf k (branch p b (branch q c a))) h bodies e = absurd h.1.1
ranked s (leaf k (branch p b none)) h bodies e =
    for_each (RankedBy s k b bodies.1) (SHAPE_CLOSE ∷ SHAPE_COMMA ∷ SHAPE_BOUND ∷ []) (by_close s k b bodies.1, (by_comma s k b bodies.1, (by_bound s k b bodies.1, tt))) p (shapes_are p h.1.0)
    h bodies.0 e

few_past : (ks : List ℕ) → comma_past_rank (drop 31 ks) ≡ [] → length ks ≤ 31
few_past ks e = go (drop 31 ks) refl e (length-drop 31 ks)
  where
    go : (ls : List ℕ) → drop 31 ks ≡ ls → comma_past_rank ls ≡ [] → length (drop 31 ks) ≡ length ks - 31 → length ks ≤ 31
    go [] is h l = let none : length (drop 31 ks) ≡ 0 = ap length is in omega (arith, none, l)
    go (j ∷ ls) is h l = absurd cc

pub shape_made : (s : Source) (f : Forest) → IsSound s TYPE_SUFFIX_BRACKET f → HasBodies s f → is_vector f ≡ false
    → is_shape (length (dimensions f)) (sizes s (dimensions f)) (lower_bounds s (dimensions f)) ≡ true
shape_made s f sound bodies vector =
    let ds = dimensions f in
    let ranks = ranked s f (fits_rule s TYPE_SUFFIX_BRACKET n.TYPE_SUFFIX (Terminal (t.WORDS + OPEN_BRACKET) ∷ Nonterminal n.SHAPE ∷ []) f rule_bracket sound.0) bodies vector in
    let all : flat_map (bound_out_of_range s) ds ++ size_after_gap ds ++ comma_past_rank (drop 31 (commas s f)) ≡ [] =
    sym (ap (λ (c : Bool). if c then [] else flat_map (bound_out_of_range s) ds ++ size_after_gap ds ++ comma_past_rank (drop 31 (commas s f))) vector)
    ∙ array_fits s TYPE_SUFFIX_BRACKET f sound.1 in
    let h = empty_in (flat_map (bound_out_of_range s) ds ++ size_after_gap ds) (comma_past_rank (drop 31 (commas s f))) all in
    let bounds = (empty_in (flat_map (bound_out_of_range s) ds) (size_after_gap ds) h.0).0 in
    let few = few_past (commas s f) h.1 in
    let rank = length ds in
    let p1 = and_from (nat_le 1 rank) (nat_le rank 32) (le-leb 1 rank ranks.0) (le-leb rank 32 (omega (arith, few, ranks.1))) in
    let p2 = and_from (nat_le 1 rank && nat_le rank 32) (nat_le (length (sizes s ds)) rank) p1 (le-leb (length (sizes s ds)) rank (few_sizes s ds)) in
    let p3 = and_from (nat_le 1 rank && nat_le rank 32 && nat_le (length (sizes s ds)) rank) (nat_le (length (lower_bounds s ds)) rank) p2
    (le-leb (length (lower_bounds s ds)) rank (few_lower s ds)) in
    let p4 = and_from (nat_le 1 rank && nat_le rank 32 && nat_le (length (sizes s ds)) rank && nat_le (length (lower_bounds s ds)) rank) (list_all is_size (sizes s ds)) p3 (sizes_fit s ds bounds) in
    and_from (nat_le 1 rank && nat_le rank 32 && nat_le (length (sizes s ds)) rank && nat_le (length (lower_bounds s ds)) rank && list_all is_size (sizes s ds))
    (list_all is_lower_bound (lower_bounds s ds)) p4 (lower_fit s ds bounds)
