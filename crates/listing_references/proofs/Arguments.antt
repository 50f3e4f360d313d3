-- The arguments of a signature, and the `...` among them, are read back.
use Rattle.std.proofs.Common.{◌≡◌, ℕ, zero, suc, ◌+◌, ◌<◌, ◌&&◌, nat_lt, Bool, true, if◌then◌else◌, List, [], ◌∷◌, ◌++◌, map, take, drop, length, Option, None, Some, refl, ap, subst, ◌∙◌, append-nil, arith}
use Rattle.std.proofs.lemmas.Bool.{and_parts, ltb-true}
use Rattle.std.specs.List.{list_all}
use Rattle.std.specs.Prelude.{option_map}
use Rattle.il_lexer.specs.declared.word.TheConstants as word
use Rattle.ilasm_grammar.specs.declared.productions.TheConstants as p
use Rattle.type_terms.specs.declared.reference.MethodSig.{MethodSig}
use Rattle.type_terms.specs.declared.term.SigType.{SigType}
use Rattle.assembly_tree.specs.WellFormedNames.{option_all}
use Rattle.assembly_tree.specs.WellFormedTerms.{is_sentinel_inside}
use Rattle.assembly_tree.specs.declared.assembly.ExternAssembly.{ExternAssembly}
use Rattle.source_model.specs.Forest as f
use Rattle.source_model.specs.Nodes.{Around}
use Rattle.source_model.specs.References as read
use Rattle.source_model.specs.Source.{Source}
use Rattle.source_model.specs.Types.{types_in, the_type}
use Rattle.listing_model.specs.References.{no_param_flags, no_name, ellipsis, with_sentinel, sig_args, argument, arguments}
use Rattle.listing_model.specs.Shown.{Shown, none, Item, put, w, optional, size, star_production, star_below, behind_comma}
use Rattle.listing_model.specs.Types.{type_of}
use Rattle.listing_reading.specs.Numbered.{numbered, Agrees}
use Rattle.listing_terms.specs.Laws.{TermsAreRead}
use Rattle.listing_terms.specs.Readable.{KnowsAssemblies, is_type_readable}
use Rattle.listing_references.specs.Laws.{are_types_readable, ArgumentsAreRead}

-- ---- arguments and `...` as one list

abbrev Arg : Type 0
Arg = Option SigType

-- the types with a `...` before the one of this number
dots : ℕ → List SigType → List Arg
dots zero ts = None ∷ map Some ts
dots (suc k) [] = None ∷ []
dots (suc k) (t ∷ ts) = Some t ∷ dots k ts

with_dots : Option ℕ → List SigType → List Arg
with_dots None ts = map Some ts
with_dots (Some k) ts = dots k ts

-- the types among them, and the place of the first `...`
somes : List Arg → List SigType
somes [] = []
somes (None ∷ xs) = somes xs
somes (Some t ∷ xs) = t ∷ somes xs

first_none : List Arg → Option ℕ
first_none [] = None
first_none (None ∷ xs) = Some 0
first_none (Some t ∷ xs) = option_map (λ n. 1 + n) (first_none xs)

somes_all : (ts : List SigType) → somes (map Some ts) ≡ ts
unfolding somes
somes_all [] = refl
somes_all (t ∷ ts) = ap (λ us. t ∷ us) (somes_all ts)

somes_dots : (k : ℕ) (ts : List SigType) → somes (dots k ts) ≡ ts
unfolding somes dots
somes_dots zero ts = somes_all ts
somes_dots (suc k) [] = refl
somes_dots (suc k) (t ∷ ts) = ap (λ us. t ∷ us) (somes_dots k ts)

somes_with : (k : Option ℕ) (ts : List SigType) → somes (with_dots k ts) ≡ ts
unfolding with_dots
somes_with None ts = somes_all ts
somes_with (Some k) ts = somes_dots k ts

none_in_all : (ts : List SigType) → first_none (map Some ts) ≡ None
unfolding first_none
none_in_all [] = refl
none_in_all (t ∷ ts) = ap (option_map (λ n. 1 + n)) (none_in_all ts)

less_by_one : (j n : ℕ) → suc j < suc n → j < n
less_by_one j n h = omega arith

none_left : (j : ℕ) → j < 0 → ⊥
none_left j h = absurd (omega arith)

first_of_dots : (k : ℕ) (ts : List SigType) → k < length ts → first_none (dots k ts) ≡ Some k
unfolding first_none dots
first_of_dots zero ts h = refl
first_of_dots (suc k) [] h = absurd (none_left (suc k) h)
first_of_dots (suc k) (t ∷ ts) h = ap (option_map (λ n. 1 + n)) (first_of_dots k ts (less_by_one k (length ts) h)) ∙ ap Some (one_more k)
  where
    one_more : (n : ℕ) → 1 + n ≡ suc n
    one_more n = omega arith

-- ---- the parts

module _ (externs : List ExternAssembly) where
  abbrev arg : Arg → Item
  arg None = ellipsis
  arg (Some t) = argument externs t

  -- what stands below the production of an argument
  abbrev arg_below : SigType → Shown
  arg_below t = no_param_flags (put (type_of externs t) no_name)

  abbrev one_def : ℕ → Arg → List f.Part
  one_def at None = []
  one_def at (Some t) = f.part p.DEF_ARG (numbered at (arg_below t)) ∷ []

  abbrev one_part : ℕ → Arg → List f.Part
  one_part at None = f.part p.SIG_ARG_ELLIPSIS (numbered at (w word.ELLIPSIS none)) ∷ []
  one_part at (Some t) = f.part p.DEF_ARG (numbered at (arg_below t)) ∷ []

  -- the place behind one of the others
  abbrev next : ℕ → Arg → ℕ
  next at x = at + size (behind_comma p.COMMA_SIG_ARG (arg x)).below

  abbrev defs : ℕ → List Arg → List f.Part
  defs at [] = []
  defs at (x ∷ xs) = one_def (suc at) x ++ defs (next at x) xs

  abbrev all_parts : ℕ → List Arg → List f.Part
  all_parts at [] = []
  all_parts at (x ∷ xs) = one_part (suc at) x ++ all_parts (next at x) xs

  abbrev others : List Arg → List Item
  others xs = map (behind_comma p.COMMA_SIG_ARG) (map arg xs)

  abbrev row : ℕ → List Arg → f.Forest → f.Forest
  row at xs after = f.branch (star_production p.COMMA_SIG_ARG_STAR_MORE p.COMMA_SIG_ARG_STAR_END (others xs)) (numbered at (star_below p.COMMA_SIG_ARG_STAR_MORE p.COMMA_SIG_ARG_STAR_END (others xs))) after

  defs_row : (xs : List Arg) (at : ℕ) (after : f.Forest) → f.parts (p.DEF_ARG ∷ []) (row at xs after) ≡ defs at xs ++ f.parts (p.DEF_ARG ∷ []) after
  defs_row [] at after = refl
  defs_row (None ∷ xs) at after = ap (λ ps. ps ++ f.parts (p.DEF_ARG ∷ []) after) (defs_row xs (next at None) f.none ∙ append-nil (defs (next at None) xs))
  defs_row (Some t ∷ xs) at after =
      ap (λ ps. (f.part p.DEF_ARG (numbered (suc at) (arg_below t)) ∷ ps) ++ f.parts (p.DEF_ARG ∷ []) after)
      (defs_row xs (next at (Some t)) f.none ∙ append-nil (defs (next at (Some t)) xs))

  abbrev both_kinds : List ℕ
  both_kinds = p.SIG_ARG_ELLIPSIS ∷ p.DEF_ARG ∷ []

  parts_row : (xs : List Arg) (at : ℕ) (after : f.Forest) → f.parts both_kinds (row at xs after) ≡ all_parts at xs ++ f.parts both_kinds after
  parts_row [] at after = refl
  parts_row (None ∷ xs) at after =
      ap (λ ps. (f.part p.SIG_ARG_ELLIPSIS (numbered (suc at) (w word.ELLIPSIS none)) ∷ ps) ++ f.parts both_kinds after)
      (parts_row xs (next at None) f.none ∙ append-nil (all_parts (next at None) xs))
  parts_row (Some t ∷ xs) at after =
      ap (λ ps. (f.part p.DEF_ARG (numbered (suc at) (arg_below t)) ∷ ps) ++ f.parts both_kinds after)
      (parts_row xs (next at (Some t)) f.none ∙ append-nil (all_parts (next at (Some t)) xs))

  -- all in parentheses
  abbrev inside : List Item → Shown
  inside is = w word.OPEN_PAREN (optional p.SIG_ARGS_OPT_SOME p.SIG_ARGS_OPT_NONE (sig_args is) (w word.CLOSE_PAREN none))

  abbrev all_defs : ℕ → List Arg → List f.Part
  all_defs at [] = []
  all_defs at (x ∷ xs) = one_def (suc at) x ++ defs (suc at + size (arg x).below) xs

  abbrev every_part : ℕ → List Arg → List f.Part
  every_part at [] = []
  every_part at (x ∷ xs) = one_part (suc at) x ++ all_parts (suc at + size (arg x).below) xs

  defs_inside : (xs : List Arg) (at : ℕ) → f.parts (p.DEF_ARG ∷ []) (numbered at (inside (map arg xs))) ≡ all_defs at xs
  defs_inside [] at = refl
  defs_inside (None ∷ xs) at =
      let from = suc at + size (arg None).below in
      ap (λ ps. (ps ++ []) ++ []) (defs_row xs from f.none ∙ append-nil (defs from xs)) ∙ (append-nil (defs from xs ++ []) ∙ append-nil (defs from xs))
  defs_inside (Some t ∷ xs) at =
      let from = suc at + size (arg (Some t)).below in
      let one = f.part p.DEF_ARG (numbered (suc at) (arg_below t)) in
      ap (λ ps. ((one ∷ ps) ++ []) ++ []) (defs_row xs from f.none ∙ append-nil (defs from xs))
      ∙ (append-nil ((one ∷ defs from xs) ++ []) ∙ append-nil (one ∷ defs from xs))

  parts_inside : (xs : List Arg) (at : ℕ) → f.parts both_kinds (numbered at (inside (map arg xs))) ≡ every_part at xs
  parts_inside [] at = refl
  parts_inside (None ∷ xs) at =
      let from = suc at + size (arg None).below in
      let one = f.part p.SIG_ARG_ELLIPSIS (numbered (suc at) (w word.ELLIPSIS none)) in
      ap (λ ps. ((one ∷ ps) ++ []) ++ []) (parts_row xs from f.none ∙ append-nil (all_parts from xs))
      ∙ (append-nil ((one ∷ all_parts from xs) ++ []) ∙ append-nil (one ∷ all_parts from xs))
  parts_inside (Some t ∷ xs) at =
      let from = suc at + size (arg (Some t)).below in
      let one = f.part p.DEF_ARG (numbered (suc at) (arg_below t)) in
      ap (λ ps. ((one ∷ ps) ++ []) ++ []) (parts_row xs from f.none ∙ append-nil (all_parts from xs))
      ∙ (append-nil ((one ∷ all_parts from xs) ++ []) ∙ append-nil (one ∷ all_parts from xs))

  -- ---- how many, and where the first `...` is

  count_defs : (xs : List Arg) (at : ℕ) → length (f.below_each (defs at xs)) ≡ length (somes xs)
  unfolding somes
  count_defs [] at = refl
  count_defs (None ∷ xs) at = count_defs xs (next at None)
  count_defs (Some t ∷ xs) at = ap (λ n. suc n) (count_defs xs (next at (Some t)))

  count_all : (xs : List Arg) (at : ℕ) → length (f.below_each (all_defs at xs)) ≡ length (somes xs)
  unfolding somes
  count_all [] at = refl
  count_all (None ∷ xs) at = count_defs xs (suc at + size (arg None).below)
  count_all (Some t ∷ xs) at = ap (λ n. suc n) (count_defs xs (suc at + size (arg (Some t)).below))

  place_in : (xs : List Arg) (at : ℕ) → read.before_ellipsis (all_parts at xs) ≡ first_none xs
  unfolding first_none
  place_in [] at = refl
  place_in (None ∷ xs) at = refl
  place_in (Some t ∷ xs) at = ap (option_map (λ n. 1 + n)) (place_in xs (next at (Some t)))

  place_of : (xs : List Arg) (at : ℕ) → read.before_ellipsis (every_part at xs) ≡ first_none xs
  unfolding first_none
  place_of [] at = refl
  place_of (None ∷ xs) at = refl
  place_of (Some t ∷ xs) at = ap (option_map (λ n. 1 + n)) (place_in xs (suc at + size (arg (Some t)).below))

  -- ---- the list of a signature

  args_all : (ts : List SigType) → map (argument externs) ts ≡ map arg (map Some ts)
  args_all [] = refl
  args_all (t ∷ ts) = ap (λ is. argument externs t ∷ is) (args_all ts)

  args_dots : (k : ℕ) (ts : List SigType) → take k (map (argument externs) ts) ++ ellipsis ∷ drop k (map (argument externs) ts) ≡ map arg (dots k ts)
  unfolding dots
  args_dots zero ts = ap (λ is. ellipsis ∷ is) (args_all ts)
  args_dots (suc k) [] = refl
  args_dots (suc k) (t ∷ ts) = ap (λ is. argument externs t ∷ is) (args_dots k ts)

  args_with : (k : Option ℕ) (ts : List SigType) → with_sentinel k (map (argument externs) ts) ≡ map arg (with_dots k ts)
  unfolding with_dots
  args_with None ts = args_all ts
  args_with (Some k) ts = args_dots k ts

  within_is : (k : Option ℕ) (ts : List SigType) (m : MethodSig) → k ≡ m.sentinel → ts ≡ m.params → is_sentinel_inside m ≡ true →
      read.sentinel_within (length ts) (first_none (with_dots k ts)) ≡ k
  unfolding with_dots
  within_is None ts m e g h = ap (read.sentinel_within (length ts)) (none_in_all ts)
  within_is (Some k) ts m e g h =
      let less : nat_lt k (length ts) ≡ true = ap (λ us. nat_lt k (length us)) g ∙ inside_by m.sentinel e h in
      ap (read.sentinel_within (length ts)) (first_of_dots k ts (ltb-true k (length ts) less)) ∙ ap (λ c. if c then Some k else None) less
    where
      inside_by : (o : Option ℕ) → Some k ≡ o → option_all (λ j. nat_lt j (length m.params)) o ≡ true → nat_lt k (length m.params) ≡ true
      inside_by None q r = absurd cc
      inside_by (Some j) q r = let same : k ≡ j = cc in ap (λ n. nat_lt n (length m.params)) same ∙ r

  sentinel_is : (m : MethodSig) → is_sentinel_inside m ≡ true → (at : ℕ) → read.sentinel (f.the p.SIGNATURE (numbered at (arguments externs m none))) ≡ m.sentinel
  sentinel_is m h at =
      let xs = with_dots m.sentinel m.params in
      let same = args_with m.sentinel m.params in
      let whole = numbered at (inside (map arg xs)) in
      ap (λ is. read.sentinel (numbered at (inside is))) same
      ∙ (ap (λ ps. read.sentinel_within (length (f.below_each ps)) (read.before_ellipsis (f.parts both_kinds whole))) (defs_inside xs at)
      ∙ (ap (λ ps. read.sentinel_within (length (f.below_each (all_defs at xs))) (read.before_ellipsis ps)) (parts_inside xs at)
      ∙ (ap (λ n. read.sentinel_within n (read.before_ellipsis (every_part at xs))) (count_all xs at ∙ ap length (somes_with m.sentinel m.params))
      ∙ (ap (read.sentinel_within (length m.params)) (place_of xs at)
      ∙ within_is m.sentinel m.params m refl refl h))))

  -- ---- the types

  abbrev ready : Arg → Bool
  ready None = true
  ready (Some t) = is_type_readable externs t

  ready_all : (ts : List SigType) → are_types_readable externs ts ≡ true → list_all ready (map Some ts) ≡ true
  ready_all [] h = refl
  ready_all (t ∷ ts) h =
      let hs = and_parts (is_type_readable externs t) (are_types_readable externs ts) h in
      ap (λ b. b && list_all ready (map Some ts)) hs.0 ∙ ready_all ts hs.1

  ready_dots : (k : ℕ) (ts : List SigType) → are_types_readable externs ts ≡ true → list_all ready (dots k ts) ≡ true
  unfolding dots
  ready_dots zero ts h = ready_all ts h
  ready_dots (suc k) [] h = refl
  ready_dots (suc k) (t ∷ ts) h =
      let hs = and_parts (is_type_readable externs t) (are_types_readable externs ts) h in
      ap (λ b. b && list_all ready (dots k ts)) hs.0 ∙ ready_dots k ts hs.1

  ready_with : (k : Option ℕ) (ts : List SigType) → are_types_readable externs ts ≡ true → list_all ready (with_dots k ts) ≡ true
  unfolding with_dots
  ready_with None ts h = ready_all ts h
  ready_with (Some k) ts h = ready_dots k ts h

module _ (terms : TermsAreRead) (s : Source) (a : Around) (externs : List ExternAssembly) (knows : KnowsAssemblies s externs) where
  arg_read : (t : SigType) → is_type_readable externs t ≡ true → (at : ℕ) → Agrees s at (arg_below externs t) → the_type s a (numbered at (arg_below externs t)) ≡ t
  unfolding types_in
  arg_read t h at ag = terms.types s a externs knows t h (at + 0) ag.1.0

  types_row : (xs : List Arg) → list_all (ready externs) xs ≡ true → (at : ℕ) →
      Agrees s at (star_below p.COMMA_SIG_ARG_STAR_MORE p.COMMA_SIG_ARG_STAR_END (others externs xs)) →
      map (the_type s a) (f.below_each (defs externs at xs)) ≡ somes xs
  unfolding somes
  types_row [] h at ag = refl
  types_row (None ∷ xs) h at ag = types_row xs (and_parts true (list_all (ready externs) xs) h).1 (next externs at None) ag.1.0
  types_row (Some t ∷ xs) h at ag =
      let hs = and_parts (is_type_readable externs t) (list_all (ready externs) xs) h in
      ap (λ u. u ∷ map (the_type s a) (f.below_each (defs externs (next externs at (Some t)) xs))) (arg_read t hs.0 (suc at) ag.0.1.0.0)
      ∙ ap (λ us. t ∷ us) (types_row xs hs.1 (next externs at (Some t)) ag.1.0)

  types_all : (xs : List Arg) → list_all (ready externs) xs ≡ true → (at : ℕ) → Agrees s at (inside externs (map (arg externs) xs)) →
      map (the_type s a) (f.below_each (all_defs externs at xs)) ≡ somes xs
  unfolding somes
  types_all [] h at ag = refl
  types_all (None ∷ xs) h at ag =
      types_row xs (and_parts true (list_all (ready externs) xs) h).1 (suc at + size (arg externs None).below) ag.1.0.0.1.0
  types_all (Some t ∷ xs) h at ag =
      let hs = and_parts (is_type_readable externs t) (list_all (ready externs) xs) h in
      let from = suc at + size (arg externs (Some t)).below in
      ap (λ u. u ∷ map (the_type s a) (f.below_each (defs externs from xs))) (arg_read t hs.0 (suc at) ag.1.0.0.0.0)
      ∙ ap (λ us. t ∷ us) (types_row xs hs.1 from ag.1.0.0.1.0)

  params_are : (m : MethodSig) → are_types_readable externs m.params ≡ true → (at : ℕ) → Agrees s at (arguments externs m none) →
      read.argument_types s a (f.the p.SIGNATURE (numbered at (arguments externs m none))) ≡ m.params
  params_are m h at ag =
      let xs = with_dots m.sentinel m.params in
      let same = args_with externs m.sentinel m.params in
      ap (λ is. read.argument_types s a (numbered at (inside externs is))) same
      ∙ (ap (λ ps. map (the_type s a) (f.below_each ps)) (defs_inside externs xs at)
      ∙ (types_all xs (ready_with externs m.sentinel m.params h) at (subst (λ is. Agrees s at (inside externs is)) same ag.0)
      ∙ somes_with m.sentinel m.params))

pub arguments_are_read : TermsAreRead → ArgumentsAreRead
arguments_are_read terms = record {
  types = λ s a externs knows m h at ag. params_are terms s a externs knows m h at ag;
  sentinel = λ externs m h at. sentinel_is externs m h at;
}
