-- The parts of a name.
use Rattle.std.proofs.Common.{◌≡◌, ℕ, suc, ◌+◌, ◌<◌, ◌≤◌, Bool, true, false, cond, not, nat_eq, nat_lt, inl, inr, Option, None, Some, List, [], ◌∷◌, ◌++◌, length, map, take, drop, refl, ap, sym, subst, ◌∙◌, append_assoc, arith}
use Rattle.std.proofs.Math.Seq.{drop-append_seam}
use Rattle.std.proofs.lemmas.Bool.{cases_Bool, eqb-true}
use Rattle.std.specs.List.{list_any, prefix_len, position}
use Rattle.std.specs.Prelude.{is_some, MatchOption}
use Rattle.il_lexer.specs.WordList.{word_number}
use Rattle.listing_leaves.specs.Names.{is_empty, pieces, longer_first, parts_of, part, joined, last_quoted, spelled, name, type_name}
use Rattle.listing_leaves.specs.Texts.{quoted}
use Rattle.print_leaves.specs.Page.{Page, added}
use Rattle.print_leaves.proofs.Pages.{added_twice}
use Rattle.print_leaves.specs.Parts.{fronts, last_part, ending, space_front, IsFirstDot}

abbrev run : List ℕ → ℕ
run bs = prefix_len (λ b. not (nat_eq b 46)) bs

run_by : (b : ℕ) (bs : List ℕ) (t : Bool) → nat_eq b 46 ≡ t → run (b ∷ bs) ≡ cond (not t) (1 + run bs) 0
run_by b bs t e = ap (λ t. cond (not t) (1 + run bs) 0) e

by_first : (b : ℕ) (bs : List ℕ) (t : Bool) → nat_eq b 46 ≡ t → pieces (b ∷ bs) ≡ cond t ([] ∷ pieces bs) (longer_first b (pieces bs))
by_first b bs t e = ap (λ t. cond t ([] ∷ pieces bs) (longer_first b (pieces bs))) e

no_dot : (bs : List ℕ) → length bs ≤ run bs → pieces bs ≡ bs ∷ []
no_dot [] h = refl
no_dot (b ∷ bs) h =
    elim (cases_Bool (nat_eq b 46)) [
      | inl e ↦ let none : run (b ∷ bs) ≡ 0 = run_by b bs true e in absurd (omega arith)
      | inr e ↦
          let one : run (b ∷ bs) ≡ 1 + run bs = run_by b bs false e in
          by_first b bs false e ∙ ap (longer_first b) (no_dot bs (omega arith))
    ]

longer_dot : (b : ℕ) (bs : List ℕ) (k : ℕ) → nat_eq b 46 ≡ false → IsFirstDot bs k → IsFirstDot (b ∷ bs) (suc k)
longer_dot b bs k e f =
    let inside : k < length bs = f.within in
    record { within = omega arith; dot = f.dot; parts = by_first b bs false e ∙ ap (longer_first b) f.parts }

at_dot : (bs : List ℕ) → run bs < length bs → IsFirstDot bs (run bs)
at_dot [] h = absurd (omega arith)
at_dot (b ∷ bs) h =
    elim (cases_Bool (nat_eq b 46)) [
      | inl e ↦
          let none : 0 ≡ run (b ∷ bs) = sym (run_by b bs true e) in
          subst (λ k. IsFirstDot (b ∷ bs) k) none (record { within = omega arith; dot = eqb-true b 46 e; parts = by_first b bs true e })
      | inr e ↦
          let one : run (b ∷ bs) ≡ 1 + run bs = run_by b bs false e in
          let same : suc (run bs) ≡ run (b ∷ bs) = omega arith in
          subst (λ k. IsFirstDot (b ∷ bs) k) same (longer_dot b bs (run bs) e (at_dot bs (omega arith)))
    ]

by_place : (bs : List ℕ) (t : Bool) → nat_lt (run bs) (length bs) ≡ t →
    MatchOption (cond t (Some (run bs)) None) (pieces bs ≡ bs ∷ []) (IsFirstDot bs)
by_place bs true e = let h : run bs < length bs = grind (arith, e) in at_dot bs h
by_place bs false e = let h : length bs ≤ run bs = grind (arith, e) in no_dot bs h

pub first_dot_at : (bs : List ℕ) (r : Option ℕ) → r ≡ position (λ b. nat_eq b 46) bs → MatchOption r (pieces bs ≡ bs ∷ []) (IsFirstDot bs)
first_dot_at bs r e = subst (λ o. MatchOption o (pieces bs ≡ bs ∷ []) (IsFirstDot bs)) (sym e) (by_place bs (nat_lt (run bs) (length bs)) refl)

-- a list that isn't empty
record IsSome (ps : List (List ℕ)) : Type 0 where
  first : List ℕ
  more : List (List ℕ)
  are : ps ≡ first ∷ more

longer_some : (b : ℕ) (ps : List (List ℕ)) → IsSome (longer_first b ps)
longer_some b [] = record { first = b ∷ []; more = []; are = refl }
longer_some b (p ∷ ps) = record { first = b ∷ p; more = ps; are = refl }

some_by : (b : ℕ) (bs : List ℕ) (t : Bool) → IsSome (cond t ([] ∷ pieces bs) (longer_first b (pieces bs)))
some_by b bs true = record { first = []; more = pieces bs; are = refl }
some_by b bs false = longer_some b (pieces bs)

pieces_some : (bs : List ℕ) → IsSome (pieces bs)
pieces_some [] = record { first = []; more = []; are = refl }
pieces_some (b ∷ bs) = some_by b bs (nat_eq b 46)

parts_by : (text : List ℕ) (t : Bool) → IsSome (cond t (text ∷ []) (pieces text))
parts_by text true = record { first = text; more = []; are = refl }
parts_by text false = pieces_some text

parts_some : (text : List ℕ) → IsSome (parts_of text)
parts_some text = parts_by text (list_any is_empty (pieces text))

fronts_more : (t : List ℕ) (ps : List (List ℕ)) → IsSome ps → fronts (t ∷ ps) ≡ part t ++ 46 ∷ fronts ps
fronts_more t ps s = ap (λ x. fronts (t ∷ x)) s.are ∙ ap (λ x. part t ++ 46 ∷ fronts x) (sym s.are)

last_more : (t : List ℕ) (ps : List (List ℕ)) → IsSome ps → last_part (t ∷ ps) ≡ last_part ps
last_more t ps s = ap (λ x. last_part (t ∷ x)) s.are ∙ ap last_part (sym s.are)

-- a piece, and the rest behind its dot
pub fronts_step : (s a e : Page) (rest piece more : List ℕ) (k : ℕ) → IsFirstDot rest k → piece ≡ take k rest → more ≡ drop (k + 1) rest →
    a ≡ added s (part piece) → e ≡ added a (46 ∷ []) → added e (fronts (pieces more)) ≡ added s (fronts (pieces rest))
fronts_step s a e rest piece more k f hp hm ha he =
    let behind : more ≡ drop (suc k) rest = hm ∙ ap (λ n. drop n rest) {x = k + 1} {y = suc k} (omega arith) in
    let tail = fronts (pieces (drop (suc k) rest)) in
    ap (λ x. added e (fronts (pieces x))) behind
    ∙ (ap (λ x. added x tail) (he ∙ ap (λ x. added x (46 ∷ [])) ha)
    ∙ (ap (λ x. added (added (added s (part x)) (46 ∷ [])) tail) hp
    ∙ (added_twice (added s (part (take k rest))) (46 ∷ []) tail
    ∙ (added_twice s (part (take k rest)) (46 ∷ tail)
    ∙ ap (added s) (sym (fronts_more (take k rest) (pieces (drop (suc k) rest)) (pieces_some (drop (suc k) rest))) ∙ ap fronts (sym f.parts))))))

pub last_step : (rest more : List ℕ) (k : ℕ) → IsFirstDot rest k → more ≡ drop (k + 1) rest → last_part (pieces more) ≡ last_part (pieces rest)
last_step rest more k f hm =
    let behind : more ≡ drop (suc k) rest = hm ∙ ap (λ n. drop n rest) {x = k + 1} {y = suc k} (omega arith) in
    ap (λ x. last_part (pieces x)) behind
    ∙ (sym (last_more (take k rest) (pieces (drop (suc k) rest)) (pieces_some (drop (suc k) rest))) ∙ ap last_part (sym f.parts))

-- where a piece is empty, the text is the only part
pub whole_parts : (text : List ℕ) → list_any is_empty (pieces text) ≡ true → parts_of text ≡ text ∷ []
whole_parts text e = ap (λ t. cond t (text ∷ []) (pieces text)) e

pub split_parts_of : (text : List ℕ) → list_any is_empty (pieces text) ≡ false → parts_of text ≡ pieces text
split_parts_of text e = ap (λ t. cond t (text ∷ []) (pieces text)) e

-- ---- spellings

joined_parts : (p : List ℕ) (ps : List (List ℕ)) → joined (map part (p ∷ ps)) ≡ fronts (p ∷ ps) ++ part (last_part (p ∷ ps))
joined_parts p [] = refl
joined_parts p (q ∷ qs) =
    ap (λ bs. part p ++ 46 ∷ bs) (joined_parts q qs)
    ∙ sym (append_assoc (part p) (46 ∷ fronts (q ∷ qs)) (part (last_part (q ∷ qs))))

joined_quoted : (p : List ℕ) (ps : List (List ℕ)) → joined (last_quoted (p ∷ ps)) ≡ fronts (p ∷ ps) ++ quoted 39 (last_part (p ∷ ps))
joined_quoted p [] = refl
joined_quoted p (q ∷ []) = sym (append_assoc (part p) (46 ∷ []) (quoted 39 q))
joined_quoted p (q ∷ r ∷ rs) =
    ap (λ bs. part p ++ 46 ∷ bs) (joined_quoted q (r ∷ rs))
    ∙ sym (append_assoc (part p) (46 ∷ fronts (q ∷ r ∷ rs)) (quoted 39 (last_part (q ∷ r ∷ rs))))

cond_append : (t : Bool) (front a b : List ℕ) → cond t (front ++ a) (front ++ b) ≡ front ++ cond t a b
cond_append true front a b = refl
cond_append false front a b = refl

spelled_cons : (p : List ℕ) (ps : List (List ℕ)) → spelled (p ∷ ps) ≡ fronts (p ∷ ps) ++ ending (fronts (p ∷ ps)) (last_part (p ∷ ps))
unfolding spelled
spelled_cons p ps =
    ap (λ bs. cond (is_some (word_number bs)) (joined (last_quoted (p ∷ ps))) bs) (joined_parts p ps)
    ∙ (ap (λ bs. cond (is_some (word_number (fronts (p ∷ ps) ++ part (last_part (p ∷ ps))))) bs (fronts (p ∷ ps) ++ part (last_part (p ∷ ps)))) (joined_quoted p ps)
    ∙ cond_append (is_some (word_number (fronts (p ∷ ps) ++ part (last_part (p ∷ ps))))) (fronts (p ∷ ps)) (quoted 39 (last_part (p ∷ ps))) (part (last_part (p ∷ ps))))

spelled_some : (ps : List (List ℕ)) → IsSome ps → spelled ps ≡ fronts ps ++ ending (fronts ps) (last_part ps)
spelled_some ps s =
    ap spelled s.are ∙ (spelled_cons s.first s.more ∙ ap (λ x. fronts x ++ ending (fronts x) (last_part x)) (sym s.are))

-- what is added behind the front of a name makes the name
pub ended : (q : Page) (front text : List ℕ) → added (added q front) (ending (drop (length q.text) (q.text ++ front)) text) ≡ added q (front ++ ending front text)
ended q front text =
    ap (λ bs. added (added q front) (ending bs text)) (drop-append_seam q.text front)
    ∙ ap (λ t. record { text = t; state = q.state }) (append_assoc q.text front (ending front text))

pub name_is : (text : List ℕ) → fronts (parts_of text) ++ ending (fronts (parts_of text)) (last_part (parts_of text)) ≡ name text
unfolding name
name_is text = sym (spelled_some (parts_of text) (parts_some text))

-- ---- a type's name

one_behind : (t : List ℕ) (ps : List (List ℕ)) → IsSome (ps ++ t ∷ [])
one_behind t [] = record { first = t; more = []; are = refl }
one_behind t (p ∷ ps) = record { first = p; more = ps ++ t ∷ []; are = refl }

fronts_behind : (p : List ℕ) (ps : List (List ℕ)) (t : List ℕ) → fronts (p ∷ (ps ++ t ∷ [])) ≡ fronts (p ∷ ps) ++ (part (last_part (p ∷ ps)) ++ 46 ∷ [])
fronts_behind p [] t = refl
fronts_behind p (q ∷ qs) t =
    ap (λ bs. part p ++ 46 ∷ bs) (fronts_behind q qs t)
    ∙ sym (append_assoc (part p) (46 ∷ fronts (q ∷ qs)) (part (last_part (q ∷ qs)) ++ 46 ∷ []))

last_behind : (p : List ℕ) (ps : List (List ℕ)) (t : List ℕ) → last_part (p ∷ (ps ++ t ∷ [])) ≡ t
last_behind p [] t = refl
last_behind p (q ∷ qs) t = last_behind q qs t

fronts_with : (ps : List (List ℕ)) (t : List ℕ) → IsSome ps → fronts (ps ++ t ∷ []) ≡ fronts ps ++ (part (last_part ps) ++ 46 ∷ [])
fronts_with ps t s =
    ap (λ x. fronts (x ++ t ∷ [])) s.are
    ∙ (fronts_behind s.first s.more t ∙ ap (λ x. fronts x ++ (part (last_part x) ++ 46 ∷ [])) (sym s.are))

last_with : (ps : List (List ℕ)) (t : List ℕ) → IsSome ps → last_part (ps ++ t ∷ []) ≡ t
last_with ps t s = ap (λ x. last_part (x ++ t ∷ [])) s.are ∙ last_behind s.first s.more t

-- the front of a type's name that has a space
abbrev front_of : List ℕ → List ℕ
front_of space = fronts (parts_of space) ++ (part (last_part (parts_of space)) ++ 46 ∷ [])

pub front_some : (space : List ℕ) → is_empty space ≡ false → space_front space ≡ front_of space
front_some space e = ap (λ t. cond t [] (front_of space)) e

pub front_none : (space : List ℕ) → is_empty space ≡ true → space_front space ≡ []
front_none space e = ap (λ t. cond t [] (front_of space)) e

type_by : (space text : List ℕ) (t : Bool) → cond t [] (front_of space) ++ ending (cond t [] (front_of space)) text ≡ spelled (cond t [] (parts_of space) ++ text ∷ [])
type_by space text true = sym (spelled_some (text ∷ []) (record { first = text; more = []; are = refl }))
type_by space text false =
    let ps = parts_of space in
    let some_ps = parts_some space in
    ap (λ f. f ++ ending f text) (sym (fronts_with ps text some_ps))
    ∙ (ap (λ l. fronts (ps ++ text ∷ []) ++ ending (fronts (ps ++ text ∷ [])) l) (sym (last_with ps text some_ps))
    ∙ sym (spelled_some (ps ++ text ∷ []) (one_behind text ps)))

pub type_name_is : (space text : List ℕ) → space_front space ++ ending (space_front space) text ≡ type_name space text
unfolding type_name
type_name_is space text = type_by space text (is_empty space)

-- ---- what is added, step by step

ended_by : (old p new : Page) (start : ℕ) (front last : List ℕ) → p ≡ added old front → start ≡ length old.text →
    new ≡ added p (ending (drop start p.text) last) → new ≡ added old (front ++ ending front last)
ended_by old p new start front last e f g =
    g ∙ (ap (λ q. added q (ending (drop start q.text) last)) e
    ∙ (ap (λ k. added (added old front) (ending (drop k (old.text ++ front)) last)) f ∙ ended old front last))

pub name_done : (old p new : Page) (start : ℕ) (last text : List ℕ) → p ≡ added old (fronts (parts_of text)) → start ≡ length old.text →
    last ≡ last_part (parts_of text) → new ≡ added p (ending (drop start p.text) last) → new ≡ added old (name text)
name_done old p new start last text e f l g =
    ended_by old p new start (fronts (parts_of text)) last e f g
    ∙ (ap (λ x. added old (fronts (parts_of text) ++ ending (fronts (parts_of text)) x)) l ∙ ap (added old) (name_is text))

pub type_done : (old p new : Page) (start : ℕ) (space text : List ℕ) → p ≡ added old (space_front space) → start ≡ length old.text →
    new ≡ added p (ending (drop start p.text) text) → new ≡ added old (type_name space text)
type_done old p new start space text e f g =
    ended_by old p new start (space_front space) text e f g ∙ ap (added old) (type_name_is space text)
