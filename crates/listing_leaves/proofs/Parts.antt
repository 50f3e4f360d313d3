-- The parts of names, and names made of them, are spelled as such.
use Rattle.std.proofs.Common.{◌≡◌, ℕ, ◌+◌, ◌/◌, Bool, true, false, cond, not, ◌&&◌, ◌||◌, nat_eq, nat_lt, inl, inr, List, [], ◌∷◌, ◌++◌, length, map, refl, ap, sym, subst, ◌∙◌, arith}
use Rattle.std.proofs.lemmas.Bool.{false≢true}
use Rattle.std.specs.List.{flat_map, list_all}
use Rattle.std.specs.Prelude.{is_none}
use Rattle.il_lexer.specs.Classes.{is_id_start, is_id_part}
use Rattle.il_lexer.specs.Spelled.{Each, IsId, IsEmptyText, IsQuotedPart, IsPart, IsName}
use Rattle.il_lexer.specs.WordList.{word_number}
use Rattle.listing_leaves.specs.Laws.{is_name, has_no_zero}
use Rattle.listing_leaves.specs.Names.{is_id, is_bracketed, is_bare, part, joined, last_quoted}
use Rattle.listing_leaves.specs.Texts.{is_control, octal, escaped, quoted}
use Rattle.listing_leaves.proofs.Each.{and_parts}
use Rattle.listing_leaves.proofs.NoWords.{has_mark, mark_within}
use Rattle.listing_leaves.proofs.Texts.{escaped_text}

-- ---- bare parts

all_each : (p : ℕ → Bool) (xs : List ℕ) → list_all p xs ≡ true → Each p xs
all_each p [] h = tt
all_each p (x ∷ xs) h = let hs = and_parts (p x) (list_all p xs) h in (hs.0, all_each p xs hs.1)

id_is : (t : List ℕ) → is_id t ≡ true → IsId t
id_is [] h = absurd (false≢true h)
id_is (b ∷ bs) h = let hs = and_parts (is_id_start b) (list_all is_id_part bs) h in (hs.0, all_each is_id_part bs hs.1)

pub first_of_three : (a b c : Bool) → (a && b && c) ≡ true → a ≡ true
first_of_three true b c h = refl
first_of_three false b c h = grind (arith, h)

pub third_of_three : (a b c : Bool) → (a && b && c) ≡ true → c ≡ true
third_of_three true true c h = grind (arith, h)
third_of_three true false c h = grind (arith, h)
third_of_three false b c h = grind (arith, h)

-- ---- quoted parts

-- as escaped line ends begin
may_be_empty : List ℕ → Bool
may_be_empty [] = true
may_be_empty (a ∷ []) = false
may_be_empty (a ∷ b ∷ more) = nat_eq a 92 && (nat_eq b 10 || nat_eq b 13)

empties : {w : List ℕ} → IsEmptyText w → may_be_empty w ≡ true
unfolding may_be_empty
empties IsEmptyText.nothing = refl
empties (IsEmptyText.line t e) = subst (λ w. may_be_empty w ≡ true) (sym e) refl
empties (IsEmptyText.return_line t e) = subst (λ w. may_be_empty w ≡ true) (sym e) refl

neither : (b : ℕ) → (nat_eq b 92 || nat_eq b 39) ≡ true → (nat_eq b 10 || nat_eq b 13) ≡ false
neither b h = grind (arith, h)

no_backslash : (b : ℕ) → (nat_eq b 92 || nat_eq b 39) ≡ false → nat_eq b 92 ≡ false
no_backslash b h = grind (arith, h)

no_end : (b : ℕ) → (nat_eq (48 + b / 64) 10 || nat_eq (48 + b / 64) 13) ≡ false
no_end b = grind arith

plain_begins : (b : ℕ) (rest : List ℕ) → nat_eq b 92 ≡ false → may_be_empty (b ∷ rest) ≡ false
unfolding may_be_empty
plain_begins b [] h = refl
plain_begins b (c ∷ rest) h = ap (λ x. x && (nat_eq c 10 || nat_eq c 13)) h

begins_by : (b : ℕ) (rest : List ℕ) (x y : Bool) → (nat_eq b 92 || nat_eq b 39) ≡ x → is_control b ≡ y →
    may_be_empty (cond x (92 ∷ b ∷ []) (cond y (octal b) (b ∷ [])) ++ rest) ≡ false
unfolding may_be_empty
begins_by b rest true y h c = neither b h
begins_by b rest false true h c = no_end b
begins_by b rest false false h c = plain_begins b rest (no_backslash b h)

some_text : (t : List ℕ) → nat_lt 0 (length t) ≡ true → may_be_empty (flat_map (escaped 39) t) ≡ false
unfolding may_be_empty
some_text [] h = grind (arith, h)
some_text (b ∷ bs) h = begins_by b (flat_map (escaped 39) bs) (nat_eq b 92 || nat_eq b 39) (is_control b) refl refl

pub quoted_part : (t : List ℕ) → is_name t ≡ true → IsQuotedPart (quoted 39 t)
unfolding quoted
quoted_part t h =
    let hs = and_parts (nat_lt 0 (length t)) (has_no_zero t) h in
    (flat_map (escaped 39) t, escaped_text 39 refl t hs.1, (λ e. false≢true (sym (some_text t hs.0) ∙ empties e)), refl)

pub quoted_mark : (t : List ℕ) → has_mark (quoted 39 t) ≡ true
unfolding quoted
quoted_mark t = refl

-- ---- parts

part_by : (t : List ℕ) (x : Bool) → is_bare t ≡ x → is_name t ≡ true → IsPart (cond x t (quoted 39 t))
part_by t true e h = inl (id_is t (first_of_three (is_id t) (is_none (word_number t)) (not (is_bracketed t)) e))
part_by t false e h = inr (quoted_part t h)

pub part_is : (t : List ℕ) → is_name t ≡ true → IsPart (part t)
part_is t h = part_by t (is_bare t) refl h

-- one part at least, and each is one
pub AreParts : List (List ℕ) → Type 0
AreParts [] = ⊥
AreParts (w ∷ []) = IsPart w
AreParts (w ∷ v ∷ more) = IsPart w × AreParts (v ∷ more)

pub joined_name : (ws : List (List ℕ)) → AreParts ws → IsName (joined ws)
unfolding AreParts
joined_name [] h = absurd h
joined_name (w ∷ []) h = IsName.part h
joined_name (w ∷ v ∷ more) h = IsName.dotted h.0 (joined_name (v ∷ more) h.1) refl

pub mapped : (p : List ℕ) (ps : List (List ℕ)) → list_all is_name (p ∷ ps) ≡ true → AreParts (map part (p ∷ ps))
unfolding AreParts
mapped p [] h = part_is p (and_parts (is_name p) true h).0
mapped p (q ∷ ps) h = let hs = and_parts (is_name p) (list_all is_name (q ∷ ps)) h in (part_is p hs.0, mapped q ps hs.1)

more_parts : (w p : List ℕ) (ps : List (List ℕ)) → IsPart w → AreParts (last_quoted (p ∷ ps)) → AreParts (w ∷ last_quoted (p ∷ ps))
unfolding AreParts
more_parts w p [] h k = (h, k)
more_parts w p (q ∷ ps) h k = (h, k)

pub with_last : (p : List ℕ) (ps : List (List ℕ)) → list_all is_name (p ∷ ps) ≡ true → AreParts (last_quoted (p ∷ ps))
unfolding AreParts
with_last p [] h = inr (quoted_part p (and_parts (is_name p) true h).0)
with_last p (q ∷ ps) h =
    let hs = and_parts (is_name p) (list_all is_name (q ∷ ps)) h in more_parts (part p) q ps (part_is p hs.0) (with_last q ps hs.1)

joined_more : (w p : List ℕ) (ps : List (List ℕ)) → has_mark (joined (last_quoted (p ∷ ps))) ≡ true → has_mark (joined (w ∷ last_quoted (p ∷ ps))) ≡ true
joined_more w p [] h = mark_within w (46 ∷ quoted 39 p) h
joined_more w p (q ∷ ps) h = mark_within w (46 ∷ joined (last_quoted (p ∷ q ∷ ps))) h

pub last_mark : (p : List ℕ) (ps : List (List ℕ)) → has_mark (joined (last_quoted (p ∷ ps))) ≡ true
last_mark p [] = quoted_mark p
last_mark p (q ∷ ps) = joined_more (part p) q ps (last_mark q ps)
