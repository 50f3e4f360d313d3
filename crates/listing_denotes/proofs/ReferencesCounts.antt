-- Arguments and generic arguments are counted, and among the arguments there is at most one `...`.
use Rattle.std.proofs.Common.{◌≡◌, ℕ, zero, suc, ◌+◌, ◌≤◌, true, if◌then◌else◌, List, [], ◌∷◌, ◌++◌, map, take, drop, length, Option, None, Some, refl, ap, sym, subst, ◌∙◌, arith}
use Rattle.std.proofs.lemmas.Bool.{and_parts}
use Rattle.ilasm_grammar.specs.Ilasm.{ilasm, rule_by, has_bit}
use Rattle.ilasm_grammar.specs.declared.nonterminals.TheConstants as n
use Rattle.ilasm_grammar.specs.declared.productions.TheConstants as p
use Rattle.ilasm_grammar.specs.declared.symbol.Symbol.TheVariants.{Nonterminal}
use Rattle.type_terms.specs.declared.reference.MethodSig.{MethodSig}
use Rattle.type_terms.specs.declared.term.SigType.{SigType}
use Rattle.assembly_tree.specs.declared.assembly.ExternAssembly.{ExternAssembly}
use Rattle.source_model.specs.Forest as f
use Rattle.source_model.specs.TypeRules.{first_of, past_count, second_of}
use Rattle.listing_growth.specs.Laws.{TermsStand}
use Rattle.listing_growth.specs.Standing.{can_stand, all_stand}
use Rattle.listing_model.specs.References.{argument, ellipsis, with_sentinel, sig_args}
use Rattle.il_lexer.specs.declared.word.TheConstants as word
use Rattle.listing_model.specs.Shown.{Shown, none, Item, put, w, optional, size, star_production, star_below, behind_comma, commas}
use Rattle.listing_model.specs.Types.{type_of}
use Rattle.listing_reading.specs.Below.{below, cant_stand}
use Rattle.listing_reading.specs.BelowMasks.{below_masks}
use Rattle.listing_reading.specs.Laws.{SearchesPass}
use Rattle.listing_reading.specs.Numbered.{numbered}
use Rattle.listing_rows.specs.Laws.{PiecesAreRead}
use Rattle.listing_rows.specs.Segments.{pieces_of, pieces_at}

-- ---- at most 65,535

none_left : (n : ℕ) → suc n ≤ 0 → ⊥
none_left n h = grind (arith, h)

-- what is past a number that a list doesn't reach
pub drop_none : {X : Type 0} (n : ℕ) (xs : List X) → length xs ≤ n → drop n xs ≡ []
drop_none zero [] h = refl
drop_none zero (x ∷ xs) h = absurd (none_left (length xs) h)
drop_none (suc n) [] h = refl
drop_none (suc n) (x ∷ xs) h = drop_none n xs (omega arith)

pub counted : (fs : List f.Forest) → length fs ≤ 65535 → past_count fs ≡ []
counted fs h = ap first_of (drop_none 65535 fs h)

pub no_second : (fs : List f.Forest) → length fs ≤ 1 → second_of fs ≡ []
no_second fs h = ap first_of (drop_none 1 fs h)

pub mapped_length : {X Y : Type 0} (g : X → Y) (xs : List X) → length (map g xs) ≡ length xs
mapped_length g [] = refl
mapped_length g (x ∷ xs) = ap suc (mapped_length g xs)

pub below_length : (ps : List f.Part) → length (f.below_each ps) ≡ length ps
below_length [] = refl
below_length (p ∷ ps) = ap suc (below_length ps)

-- ---- the `...` among arguments

abbrev dots : List ℕ
dots = p.SIG_ARG_ELLIPSIS ∷ []

abbrev is_dots : Item → ℕ
is_dots i = if f.is_among dots i.production then 1 else 0

-- how many items are one
abbrev dots_in : List Item → ℕ
dots_in [] = 0
dots_in (i ∷ is) = is_dots i + dots_in is

-- an item holds none but itself
abbrev AreClean : List Item → Type 0
AreClean [] = Unit {0}
AreClean (i ∷ is) = ((at : ℕ) → length (pieces_of dots at i) ≤ is_dots i) × AreClean is

length_joined : {X : Type 0} (xs ys : List X) → length (xs ++ ys) ≡ length xs + length ys
length_joined [] ys = omega arith
length_joined (x ∷ xs) ys = let more = length_joined xs ys in omega arith

behind_dots : (is : List Item) → AreClean is → (at : ℕ) → length (pieces_at dots at (map (behind_comma p.COMMA_SIG_ARG) is)) ≤ dots_in is
behind_dots [] c at = omega arith
behind_dots (i ∷ is) c at =
    let next = at + size (behind_comma p.COMMA_SIG_ARG i).below in
    let here = pieces_of dots (suc at) i in
    let more = pieces_at dots next (map (behind_comma p.COMMA_SIG_ARG) is) in
    let a = c.0 (suc at) in
    let b = behind_dots is c.1 next in
    let e = length_joined (here ++ []) more in
    let g = length_joined here [] in
    omega (arith, a, b, e, g)

all_dots : PiecesAreRead → (is : List Item) → AreClean is → (at : ℕ) → length (f.parts dots (numbered at (commas p.COMMA_SIG_ARG_STAR_MORE p.COMMA_SIG_ARG_STAR_END p.COMMA_SIG_ARG is none))) ≤ dots_in is
all_dots pieces [] c at = omega arith
all_dots pieces (i ∷ is) c at =
    let next = at + size i.below in
    let rest = map (behind_comma p.COMMA_SIG_ARG) is in
    let here = pieces_of dots at i in
    let row = f.parts dots (f.branch (star_production p.COMMA_SIG_ARG_STAR_MORE p.COMMA_SIG_ARG_STAR_END rest) (numbered next (star_below p.COMMA_SIG_ARG_STAR_MORE p.COMMA_SIG_ARG_STAR_END rest)) f.none) in
    let a = c.0 at in
    let b = behind_dots is c.1 next in
    let r : length row ≡ length (pieces_at dots next rest ++ []) = ap (λ (ps : List f.Part). length ps) (pieces.row dots p.COMMA_SIG_ARG_STAR_MORE p.COMMA_SIG_ARG_STAR_END refl refl rest next f.none) in
    let e = length_joined (pieces_at dots next rest) [] in
    let g = length_joined here row in
    omega (arith, a, b, r, e, g)

clean_join : (xs ys : List Item) → AreClean xs → AreClean ys → AreClean (xs ++ ys)
clean_join [] ys c d = d
clean_join (x ∷ xs) ys c d = (c.0, clean_join xs ys c.1 d)

dots_join : (xs ys : List Item) → dots_in (xs ++ ys) ≡ dots_in xs + dots_in ys
dots_join [] ys = omega arith
dots_join (x ∷ xs) ys = let more = dots_join xs ys in omega arith

no_dots_in_types : cant_stand dots (Nonterminal n.TYPE ∷ []) ≡ true
unfolding ilasm rule_by has_bit below below_masks
no_dots_in_types = refl

module _ (searches : SearchesPass) (terms : TermsStand) (externs : List ExternAssembly) where
  argument_clean : (t : SigType) → can_stand t ≡ true → (at : ℕ) → length (pieces_of dots at (argument externs t)) ≤ 0
  argument_clean t h at =
      let stands = terms.types externs t h in
      let none_there = searches.nothing dots (Nonterminal n.TYPE ∷ []) no_dots_in_types (put (type_of externs t) none) (stands.0, stands.1, tt) (at + 0) in
      let e : length (f.parts dots (numbered (at + 0) (put (type_of externs t) none))) ≡ 0 = ap (λ (ps : List f.Part). length ps) none_there in
      subst (λ (k : ℕ). k ≤ 0) (sym (same t at ∙ e)) (omega arith)
    where
      same : (t : SigType) (at : ℕ) → length (pieces_of dots at (argument externs t)) ≡ length (f.parts dots (numbered (at + 0) (put (type_of externs t) none)))
      same t at =
          let inner = f.parts dots (numbered (at + 0) (type_of externs t).below) in
          let e = length_joined (inner ++ []) [] in
          let g = length_joined inner [] in
          omega (arith, e, g)

  args_clean : (ts : List SigType) → all_stand ts ≡ true → AreClean (map (argument externs) ts)
  args_clean [] h = tt
  args_clean (t ∷ ts) h = let hs = and_parts (can_stand t) (all_stand ts) h in (argument_clean t hs.0, args_clean ts hs.1)

  args_dotless : (ts : List SigType) → dots_in (map (argument externs) ts) ≡ 0
  args_dotless [] = refl
  args_dotless (t ∷ ts) = let more = args_dotless ts in omega arith

taken_clean : (k : ℕ) (is : List Item) → AreClean is → AreClean (take k is)
taken_clean zero is c = tt
taken_clean (suc k) [] c = tt
taken_clean (suc k) (i ∷ is) c = (c.0, taken_clean k is c.1)

dropped_clean : (k : ℕ) (is : List Item) → AreClean is → AreClean (drop k is)
dropped_clean zero is c = c
dropped_clean (suc k) [] c = tt
dropped_clean (suc k) (i ∷ is) c = dropped_clean k is c.1

split_dots : (k : ℕ) (is : List Item) → dots_in (take k is) + dots_in (drop k is) ≡ dots_in is
split_dots zero is = omega arith
split_dots (suc k) [] = refl
split_dots (suc k) (i ∷ is) = let more = split_dots k is in omega arith

ellipsis_clean : AreClean (ellipsis ∷ [])
ellipsis_clean = ((λ at. omega arith), tt)

sentinel_clean : (k : Option ℕ) (is : List Item) → AreClean is → AreClean (with_sentinel k is)
sentinel_clean None is c = c
sentinel_clean (Some k) is c = clean_join (take k is) (ellipsis ∷ drop k is) (taken_clean k is c) (ellipsis_clean.0, dropped_clean k is c)

sentinel_dots : (k : Option ℕ) (is : List Item) → dots_in is ≡ 0 → dots_in (with_sentinel k is) ≤ 1
sentinel_dots None is e = omega arith
sentinel_dots (Some k) is e =
    let a = dots_join (take k is) (ellipsis ∷ drop k is) in
    let b = split_dots k is in
    omega (arith, a, b, e)

-- ---- all of a signature

-- what stands below the production of a signature
abbrev pub in_signature : List Item → Shown
in_signature items = w word.OPEN_PAREN (optional p.SIG_ARGS_OPT_SOME p.SIG_ARGS_OPT_NONE (sig_args items) (w word.CLOSE_PAREN none))

signature_dots : PiecesAreRead → (items : List Item) → AreClean items → (at : ℕ) → length (f.parts dots (numbered at (in_signature items))) ≤ dots_in items
signature_dots pieces [] c at = omega arith
signature_dots pieces (i ∷ is) c at =
    let own = f.parts dots (numbered (suc at) (commas p.COMMA_SIG_ARG_STAR_MORE p.COMMA_SIG_ARG_STAR_END p.COMMA_SIG_ARG (i ∷ is) none)) in
    let a = all_dots pieces (i ∷ is) c (suc at) in
    let e = length_joined (own ++ []) [] in
    let g = length_joined own [] in
    omega (arith, a, e, g)

pub no_second_dots : SearchesPass → TermsStand → PiecesAreRead → (externs : List ExternAssembly) (m : MethodSig) → all_stand m.params ≡ true → (at : ℕ) →
    second_of (f.each p.SIG_ARG_ELLIPSIS (numbered at (in_signature (with_sentinel m.sentinel (map (argument externs) m.params))))) ≡ []
no_second_dots searches terms pieces externs m h at =
    let items = with_sentinel m.sentinel (map (argument externs) m.params) in
    let found = f.parts dots (numbered at (in_signature items)) in
    let clean = sentinel_clean m.sentinel (map (argument externs) m.params) (args_clean searches terms externs m.params h) in
    let few = sentinel_dots m.sentinel (map (argument externs) m.params) (args_dotless searches terms externs m.params) in
    let most = signature_dots pieces items clean at in
    let same = below_length found in
    no_second (f.below_each found) (omega (arith, few, most, same))

-- arguments without a sentinel have no `...`
pub no_dots : SearchesPass → TermsStand → PiecesAreRead → (externs : List ExternAssembly) (ts : List SigType) → all_stand ts ≡ true → (at : ℕ) →
    f.parts (p.SIG_ARG_ELLIPSIS ∷ []) (numbered at (in_signature (map (argument externs) ts))) ≡ []
no_dots searches terms pieces externs ts h at =
    let found = f.parts dots (numbered at (in_signature (map (argument externs) ts))) in
    let none_there = args_dotless searches terms externs ts in
    let most = signature_dots pieces (map (argument externs) ts) (args_clean searches terms externs ts h) at in
    drop_none 0 found (omega (arith, none_there, most))
