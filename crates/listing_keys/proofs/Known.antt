-- A listing knows the assemblies that it names.
use Rattle.std.proofs.Common.{◌≡◌, ℕ, zero, suc, ◌+◌, ◌<◌, ◌≤◌, ◌^◌, ◌&&◌, nat_lt, Bool, true, false, cond, if◌then◌else◌, List, [], ◌∷◌, map, length, take, drop, slice_get, Option, Some, refl, ap, sym, ◌∙◌, arith}
use Rattle.std.proofs.lemmas.Bool.{and_parts, ltb-true}
use Rattle.std.proofs.lemmas.Fmt.{decimal_is_IsNumeral_wide}
use Rattle.std.proofs.lemmas.Iterator.Adapters.{position_from-zero}
use Rattle.std.proofs.lemmas.List.Sums.{sum_by-cons}
use Rattle.std.specs.Char as char
use Rattle.std.specs.Fmt.{decimal}
use Rattle.std.specs.List.{list_all, position_from}
use Rattle.std.specs.Prelude.{position, sum_by}
use Rattle.std.specs.Str.{bytes_eq}
use Rattle.std.specs.Str.Parse.{AllDigits}
use Rattle.ilasm_grammar.specs.Ilasm.{ilasm, rule_by, has_bit}
use Rattle.ilasm_grammar.specs.declared.nonterminals.TheConstants as n
use Rattle.ilasm_grammar.specs.declared.productions.TheConstants as p
use Rattle.il_lexer.specs.declared.word.TheConstants as word
use Rattle.assembly_tree.specs.Weight.{extern_weight, weight_of}
use Rattle.assembly_tree.specs.WellFormed.{is_extern}
use Rattle.assembly_tree.specs.declared.assembly.Assembly.{Assembly}
use Rattle.assembly_tree.specs.declared.assembly.ExternAssembly.{ExternAssembly}
use Rattle.assembly_tree.proofs.FormedFacts.{assemblies_named}
use Rattle.type_terms.specs.declared.name.Scope.TheVariants.{Extern}
use Rattle.source_model.specs.Forest as f
use Rattle.source_model.specs.Names.{externs, extern_key, scope_named, or_here, is_own_name_of, assemblies}
use Rattle.source_model.specs.Source.{Source}
use Rattle.source_model.specs.Values.{name_text, part_texts, dotted}
use Rattle.listing_formed.specs.Laws.{NamesAssemblies}
use Rattle.listing_leaves.specs.Laws.{has_no_zero, is_name}
use Rattle.listing_leaves.specs.Numbers as numbers
use Rattle.listing_manifests.specs.Laws.{extern_shown}
use Rattle.listing_model.specs.Grown.{body_of, Grows}
use Rattle.listing_model.specs.Manifests.{extern_item, extern_lines}
use Rattle.listing_model.specs.Shown.{Shown, none, branch, w, when, opt_production, opt_below, size}
use Rattle.listing_model.specs.Types.{name, has_alias, alias, key_in}
use Rattle.listing_model.specs.Types as written
use Rattle.listing_reading.specs.Below.{below, cant_stand}
use Rattle.listing_reading.specs.BelowMasks.{below_masks}
use Rattle.listing_reading.specs.Laws.{SearchesPass, FirstIsThere}
use Rattle.listing_reading.specs.Numbered.{numbered, Agrees, rest, place}
use Rattle.listing_rows.specs.Segments.{ItemsAgree, EachGrown}
use Rattle.listing_values.specs.Laws.{NamesAreRead}
use Rattle.listing_declarations.specs.Laws.{IsListingOf, extern_forests, DeclarationsAreRead, ExternsAreNamed}
use Rattle.listing_keys.specs.Laws.{keys, KeysDiffer, KeysAreKnown}

both : (x y : Bool) → x ≡ true → y ≡ true → (x && y) ≡ true
both true y h k = k
both false y h k = h

-- ---- an alias is a name

digit_clear : (c : ℕ) → char.digit_value c < 10 → nat_lt 0 c ≡ true
digit_clear c h = grind (arith, h)

clear : (ds : List ℕ) → AllDigits 10 ds → has_no_zero ds ≡ true
clear [] h = refl
clear (d ∷ ds) h = both (nat_lt 0 d) (has_no_zero ds) (digit_clear d h.0) (clear ds h.1)

some_length : (n : ℕ) → nat_lt 0 (suc n) ≡ true
some_length n = grind arith

alias_named : (k : ℕ) → k < 2 ^ 128 → is_name (alias k) ≡ true
unfolding numbers.natural
alias_named k small =
    let numeral = decimal_is_IsNumeral_wide k (grind (arith, small)) in
    both _ _ (some_length (length (decimal k))) (clear (decimal k) numeral.0.1)

-- ---- the key of one

abbrev alias_parts : List ℕ
alias_parts = p.ALIAS ∷ []

pub record InExtern : Type 0 where
  pub before : cant_stand alias_parts (take 3 (body_of p.ASSEMBLY_EXTERN)) ≡ true
  pub behind : cant_stand alias_parts (drop 4 (body_of p.ASSEMBLY_EXTERN)) ≡ true

in_extern : InExtern
unfolding ilasm rule_by has_bit below below_masks
in_extern = record { before = refl; behind = refl }

abbrev alias_option : Bool → ℕ → Option Shown
alias_option b k = when b (branch p.ALIAS (w word.AS (name (alias k) none)) none)

-- the token of the key, where these are the parts that an alias is sought in
abbrev token_in : f.Forest → List f.Part → ℕ
token_in g ps = if f.is_any_part ps then f.leaf_at 1 (f.first_or f.none (f.below_each ps)) else f.leaf_at 1 g

module _ (names : NamesAreRead) (searches : SearchesPass) (s : Source) (all : List ExternAssembly) (k : ℕ) (e : ExternAssembly) (wf : is_extern e ≡ true) (small : k < 2 ^ 128) (grown : Grows (body_of p.ASSEMBLY_EXTERN) (extern_shown all k e)) (at : ℕ) (ag : Agrees s at (extern_shown all k e)) where
  abbrev shown : Shown
  shown = extern_shown all k e

  abbrev g : f.Forest
  g = numbered at shown

  abbrev behind : f.Forest
  behind = numbered (place 4 at shown) (rest 4 shown)

  nothing_behind : f.parts alias_parts behind ≡ []
  nothing_behind = searches.nothing alias_parts (drop 4 (body_of p.ASSEMBLY_EXTERN)) in_extern.behind (rest 4 shown) (searches.rest 4 (body_of p.ASSEMBLY_EXTERN) shown grown) (place 4 at shown)

  abbrev parts_by : Bool → List f.Part
  parts_by b =
      f.parts alias_parts (f.branch (opt_production p.ALIAS_OPT_SOME p.ALIAS_OPT_NONE (alias_option b k)) (numbered (place 3 at shown) (opt_below (alias_option b k))) behind)

  parts_are : f.parts alias_parts g ≡ parts_by (has_alias all e)
  parts_are = searches.parts alias_parts 3 (body_of p.ASSEMBLY_EXTERN) in_extern.before shown grown at

  key_by : (b : Bool) → Agrees s (place 3 at shown) (opt_below (alias_option b k)) → name_text s (token_in g (parts_by b)) ≡ cond b (alias k) e.name
  unfolding is_extern
  key_by true i = ap (λ t. dotted (part_texts t)) i.0.1.0.text ∙ names.name (alias k) (alias_named k small)
  key_by false i =
      ap (λ ps. name_text s (token_in g ps)) nothing_behind
      ∙ (ap (λ t. dotted (part_texts t)) ag.1.1.0.text ∙ names.name e.name (and_parts _ _ wf).0)

  key_is : extern_key s g ≡ key_in all k (Some e)
  key_is = ap (λ ps. name_text s (token_in g ps)) parts_are ∙ key_by (has_alias all e) ag.1.1.1.0

-- ---- the keys of all

below_extern : (all : List ExternAssembly) (k : ℕ) (e : ExternAssembly) → Grows (body_of p.DECL_ASSEMBLY) (extern_item all k e).below → Grows (body_of p.ASSEMBLY_EXTERN) (extern_shown all k e)
unfolding ilasm rule_by
below_extern all k e grown = grown.1.1

keys_read : NamesAreRead → SearchesPass → (s : Source) (all : List ExternAssembly) (k : ℕ) (es : List ExternAssembly) → list_all is_extern es ≡ true → k + length es < 2 ^ 128 →
    EachGrown n.DECL (extern_lines all k es) → (at : ℕ) → ItemsAgree s at (extern_lines all k es) → map (extern_key s) (extern_forests all at k es) ≡ keys all k es
keys_read names searches s all k [] wf small grown at ag = refl
keys_read names searches s all k (e ∷ es) wf small grown at ag =
    let wfs = and_parts (is_extern e) (list_all is_extern es) wf in
    let here : k < 2 ^ 128 = omega arith in
    let later : suc k + length es < 2 ^ 128 = omega arith in
    let first = key_is names searches s all k e wfs.0 here (below_extern all k e grown.1) (suc at) ag.0.1.0 in
    let others = keys_read names searches s all (suc k) es wfs.1 later grown.2 (at + size (extern_item all k e).below) ag.1 in
    λ i. first i ∷ others i

-- ---- the first of its key

got_key : (all : List ExternAssembly) (k j : ℕ) (es : List ExternAssembly) → j < length es → slice_get (keys all k es) j ≡ Some (key_in all (k + j) (slice_get es j))
got_key all k j [] h = absurd (omega arith)
got_key all k zero (e ∷ es) h = let at : k ≡ k + 0 = omega arith in ap (λ i. Some (key_in all i (Some e))) at
got_key all k (suc j) (e ∷ es) h =
    let less : j < length es = omega arith in
    let at : suc k + j ≡ k + suc j = omega arith in
    got_key all (suc k) j es less ∙ ap (λ i. Some (key_in all i (slice_get es j))) at

position_mapped : (g : f.Forest → List ℕ) (test : List ℕ → Bool) (j : ℕ) (xs : List f.Forest) → position_from (λ x. test (g x)) j xs ≡ position_from test j (map g xs)
position_mapped g test j [] = refl
position_mapped g test j (x ∷ xs) = ap (λ o. cond (test (g x)) (Some j) o) (position_mapped g test (j + 1) xs)

position_by : (g : f.Forest → List ℕ) (test : List ℕ → Bool) (xs : List f.Forest) → position (λ x. test (g x)) xs ≡ position test (map g xs)
position_by g test xs = position_from-zero (λ x. test (g x)) xs ∙ (position_mapped g test 0 xs ∙ sym (position_from-zero test (map g xs)))

-- ---- all of these

externs_light : (es : List ExternAssembly) → length es ≤ sum_by extern_weight es
unfolding extern_weight
externs_light [] = omega arith
externs_light (e ∷ es) = let rest = externs_light es in let all = sum_by-cons extern_weight e es in omega arith

few_externs : (a : Assembly) → weight_of a ≤ 2 ^ 26 → length a.externs < 2 ^ 128
unfolding weight_of
few_externs a light = let many = externs_light a.externs in omega arith

module _ (names : NamesAreRead) (searches : SearchesPass) (first : FirstIsThere) (declared : DeclarationsAreRead) (named : ExternsAreNamed) (differ : KeysDiffer) (s : Source) (a : Assembly) (listed : IsListingOf s a) where
  few : length a.externs < 2 ^ 128
  few = few_externs a listed.light

  few_behind : 0 + length a.externs < 2 ^ 128
  few_behind = let f = few in omega arith

  names_assemblies : NamesAssemblies a
  names_assemblies = record { named = ((assemblies_named a).0 listed.formed).externs; few = few }

  said : map (extern_key s) (externs s) ≡ keys a.externs 0 a.externs
  said =
      ap (map (extern_key s)) (named.forests s a listed)
      ∙ keys_read names searches s a.externs 0 a.externs names_assemblies.named few_behind (declared s a listed).externs_grown 0 (declared s a listed).externs

  stands_for : (k : ℕ) → nat_lt k (length a.externs) ≡ true → scope_named s (written.extern_key a.externs k) ≡ Some (Extern k)
  stands_for k h =
      let key = written.extern_key a.externs k in
      let less = ltb-true k (length a.externs) h in
      let at : 0 + k ≡ k = omega arith in
      let got = got_key a.externs 0 k a.externs less ∙ ap (λ i. Some (key_in a.externs i (slice_get a.externs k))) at in
      let there = first (keys a.externs 0 a.externs) (differ a.externs few) k key got in
      ap (or_here (is_own_name_of s (assemblies s) key))
      (position_by (extern_key s) (λ text. bytes_eq text key) (externs s) ∙ (ap (position (λ text. bytes_eq text key)) said ∙ there))

pub keys_are_known : NamesAreRead → SearchesPass → FirstIsThere → DeclarationsAreRead → ExternsAreNamed → KeysDiffer → KeysAreKnown
keys_are_known names searches first declared named differ = record {
  said = λ s a listed. said names searches first declared named differ s a listed;
  knows = λ s a listed. record {
    names = names_assemblies names searches first declared named differ s a listed;
    keys = stands_for names searches first declared named differ s a listed;
  };
}
