-- Names are tokens, and no reserved words.
use Rattle.std.proofs.Common.{◌≡◌, ℕ, Bool, true, false, cond, not, ◌&&◌, ◌||◌, nat_eq, nat_lt, inl, inr, List, [], ◌∷◌, ◌++◌, length, drop, map, Option, None, Some, refl, ap, sym, subst, ◌∙◌, arith}
use Rattle.std.proofs.lemmas.List.{append_cancel_right}
use Rattle.std.proofs.lemmas.Bool.{cases_Bool, false≢true}
use Rattle.std.specs.Cmp.Lexicographic.{bytes_decides}
use Rattle.std.specs.List.{list_all, list_any}
use Rattle.std.specs.Prelude.{codes, is_some, is_none}
use Rattle.std.specs.Str.{bytes_eq}
use Rattle.il_lexer.specs.Classes.{first_is}
use Rattle.il_lexer.specs.WordList.{words, word_number}
use Rattle.il_lexer.specs.declared.types.TokenKind.TheVariants.{Name, Scope}
use Rattle.listing_leaves.specs.Laws.{IsLeaf, is_name, has_no_zero, NamesAreLeaves}
use Rattle.listing_leaves.specs.Names.{is_id, is_bracketed, is_bare, part, joined, last_quoted, parts_of, type_parts, spelled, name, type_name, scope}
use Rattle.listing_leaves.specs.Texts.{quoted}
use Rattle.listing_leaves.proofs.NoWords.{has_mark, marked, absent}
use Rattle.listing_leaves.proofs.Parts.{third_of_three, quoted_mark, joined_name, mapped, with_last, last_mark}
use Rattle.listing_leaves.proofs.Pieces.{AreNames, parts_are, type_parts_are}

-- ---- names

none_of : (o : Option ℕ) → is_some o ≡ false → o ≡ None
none_of None h = refl
none_of (Some k) h = absurd (false≢true (sym h))

spelled_by : (p : List ℕ) (ps : List (List ℕ)) (x : Bool) → is_some (word_number (joined (map part (p ∷ ps)))) ≡ x →
    list_all is_name (p ∷ ps) ≡ true → IsLeaf Name (cond x (joined (last_quoted (p ∷ ps))) (joined (map part (p ∷ ps))))
spelled_by p ps true e h = record {
  spelled = joined_name (last_quoted (p ∷ ps)) (with_last p ps h);
  own = inr (marked (joined (last_quoted (p ∷ ps))) (last_mark p ps));
}
spelled_by p ps false e h = record {
  spelled = joined_name (map part (p ∷ ps)) (mapped p ps h);
  own = inr (none_of (word_number (joined (map part (p ∷ ps)))) e);
}

spelled_leaf : (ps : List (List ℕ)) → AreNames ps → IsLeaf Name (spelled ps)
unfolding spelled
spelled_leaf ps a =
    subst (λ ps. IsLeaf Name (spelled ps)) (sym a.are)
    (spelled_by a.first a.more (is_some (word_number (joined (map part (a.first ∷ a.more))))) refl a.named)

name_leaf : (text : List ℕ) → is_name text ≡ true → IsLeaf Name (name text)
unfolding name
name_leaf text h = spelled_leaf (parts_of text) (parts_are text h)

type_leaf : (space text : List ℕ) → has_no_zero space ≡ true → is_name text ≡ true → IsLeaf Name (type_name space text)
unfolding type_name
type_leaf space text h k = spelled_leaf (type_parts space text) (type_parts_are space text h k)

-- ---- names in brackets

-- a text with a dot, a blank or a quote in it
abbrev has_sign : List ℕ → Bool
has_sign w = list_any (λ b. nat_eq b 46) w || has_mark w

one_of : (w : List ℕ) (x y z : Bool) → bytes_eq w (codes "in") ≡ x → bytes_eq w (codes "out") ≡ y → bytes_eq w (codes "opt") ≡ z →
    (x || y || z) ≡ true → has_sign w ≡ false
one_of w true y z e f g h = ap has_sign ((bytes_decides w (codes "in")).0 e)
one_of w false true z e f g h = ap has_sign ((bytes_decides w (codes "out")).0 f)
one_of w false false true e f g h = ap has_sign ((bytes_decides w (codes "opt")).0 g)
one_of w false false false e f g h = grind (arith, h)

bracketed_plain : (w : List ℕ) → is_bracketed w ≡ true → has_sign w ≡ false
bracketed_plain w h = one_of w (bytes_eq w (codes "in")) (bytes_eq w (codes "out")) (bytes_eq w (codes "opt")) refl refl refl h

or_right : (p q : Bool) → q ≡ true → (p || q) ≡ true
or_right true q h = refl
or_right false q h = h

or_left : (p q : Bool) → p ≡ true → (p || q) ≡ true
or_left true q h = refl
or_left false q h = absurd (false≢true h)

not_bracketed : (w : List ℕ) → has_sign w ≡ true → is_bracketed w ≡ false
not_bracketed w h =
    elim (cases_Bool (is_bracketed w)) [
      | inl e ↦ absurd (false≢true (sym (bracketed_plain w e) ∙ h))
      | inr e ↦ e
    ]

dot_within : (w rest : List ℕ) → list_any (λ b. nat_eq b 46) (w ++ 46 ∷ rest) ≡ true
dot_within [] rest = refl
dot_within (b ∷ bs) rest = or_right (nat_eq b 46) (list_any (λ b. nat_eq b 46) (bs ++ 46 ∷ rest)) (dot_within bs rest)

true_not : (b : Bool) → not b ≡ true → b ≡ false
true_not true h = absurd (false≢true h)
true_not false h = refl

part_free : (t : List ℕ) (x : Bool) → is_bare t ≡ x → is_bracketed (cond x t (quoted 39 t)) ≡ false
part_free t true e = true_not (is_bracketed t) (third_of_three (is_id t) (is_none (word_number t)) (not (is_bracketed t)) e)
part_free t false e =
    not_bracketed (quoted 39 t) (or_right (list_any (λ b. nat_eq b 46) (quoted 39 t)) (has_mark (quoted 39 t)) (quoted_mark t))

joined_free : (p : List ℕ) (ps : List (List ℕ)) → is_bracketed (joined (map part (p ∷ ps))) ≡ false
joined_free p [] = part_free p (is_bare p) refl
joined_free p (q ∷ ps) =
    not_bracketed (joined (map part (p ∷ q ∷ ps)))
    (or_left (list_any (λ b. nat_eq b 46) (joined (map part (p ∷ q ∷ ps)))) (has_mark (joined (map part (p ∷ q ∷ ps))))
    (dot_within (part p) (joined (map part (q ∷ ps)))))

free_by : (p : List ℕ) (ps : List (List ℕ)) (x : Bool) → is_bracketed (cond x (joined (last_quoted (p ∷ ps))) (joined (map part (p ∷ ps)))) ≡ false
free_by p ps true =
    not_bracketed (joined (last_quoted (p ∷ ps)))
    (or_right (list_any (λ b. nat_eq b 46) (joined (last_quoted (p ∷ ps)))) (has_mark (joined (last_quoted (p ∷ ps)))) (last_mark p ps))
free_by p ps false = joined_free p ps

spelled_free : (ps : List (List ℕ)) → AreNames ps → is_bracketed (spelled ps) ≡ false
unfolding spelled
spelled_free ps a =
    subst (λ ps. is_bracketed (spelled ps) ≡ false) (sym a.are)
    (free_by a.first a.more (is_some (word_number (joined (map part (a.first ∷ a.more))))))

-- a `[` with more behind it that is none of the bracket words
abbrev is_other_bracket : List ℕ → Bool
is_other_bracket w =
    first_is 91 w && nat_lt 1 (length w)
    && not (bytes_eq w (codes "[in]") || bytes_eq w (codes "[out]") || bytes_eq w (codes "[opt]"))

no_word_is : list_all (λ x. not (is_other_bracket x)) words ≡ true
unfolding words
no_word_is = refl

unequal : (n m : List ℕ) → is_bracketed n ≡ false → is_bracketed m ≡ true → bytes_eq (91 ∷ (n ++ 93 ∷ [])) (91 ∷ (m ++ 93 ∷ [])) ≡ false
unequal n m h k =
    elim (cases_Bool (bytes_eq (91 ∷ (n ++ 93 ∷ [])) (91 ∷ (m ++ 93 ∷ [])))) [
      | inl e ↦
          let same : 91 ∷ (n ++ 93 ∷ []) ≡ 91 ∷ (m ++ 93 ∷ []) = (bytes_decides (91 ∷ (n ++ 93 ∷ [])) (91 ∷ (m ++ 93 ∷ []))).0 e in
          let inner : n ++ 93 ∷ [] ≡ m ++ 93 ∷ [] = ap (drop 1) same in
          let equal : n ≡ m = append_cancel_right n m (93 ∷ []) inner in
          absurd (false≢true (sym h ∙ (ap is_bracketed equal ∙ k)))
      | inr e ↦ e
    ]

long : (n : List ℕ) → nat_lt 1 (length (91 ∷ (n ++ 93 ∷ []))) ≡ true
long [] = refl
long (b ∷ bs) = grind arith

other_by : (x y z s : Bool) → x ≡ false → y ≡ false → z ≡ false → s ≡ true → (true && s && not (x || y || z)) ≡ true
other_by x y z s a b c d = grind (arith, a, b, c, d)

other : (n : List ℕ) → is_bracketed n ≡ false → is_other_bracket (91 ∷ (n ++ 93 ∷ [])) ≡ true
other n h =
    other_by (bytes_eq (91 ∷ (n ++ 93 ∷ [])) (codes "[in]")) (bytes_eq (91 ∷ (n ++ 93 ∷ [])) (codes "[out]"))
    (bytes_eq (91 ∷ (n ++ 93 ∷ [])) (codes "[opt]")) (nat_lt 1 (length (91 ∷ (n ++ 93 ∷ []))))
    (unequal n (codes "in") h refl) (unequal n (codes "out") h refl) (unequal n (codes "opt") h refl) (long n)

scope_leaf : (text : List ℕ) → is_name text ≡ true → IsLeaf Scope (scope text)
unfolding scope name
scope_leaf text h = record {
  spelled = (spelled (parts_of text), (name_leaf text h).spelled, refl);
  own =
      inr (absent is_other_bracket words 0 (91 ∷ (spelled (parts_of text) ++ 93 ∷ [])) no_word_is
      (other (spelled (parts_of text)) (spelled_free (parts_of text) (parts_are text h))));
}

pub names_are_leaves : NamesAreLeaves
names_are_leaves = record { name = name_leaf; type_name = type_leaf; scope = scope_leaf }
