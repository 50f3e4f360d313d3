-- Brackets in a listing: how deep they are.
use Rattle.std.proofs.Common.{◌≡◌, inl, inr, ℕ, zero, suc, ◌+◌, ◌-◌, ◌<◌, ◌≤◌, max, ◌&&◌, ◌||◌, not, nat_lt, nat_eq, Bool, true, false, cond, if◌then◌else◌, List, [], ◌∷◌, ◌++◌, map, Option, None, Some, refl, ap, sym, subst, ◌∙◌, arith}
use Rattle.std.specs.Prelude.{option_map}
use Rattle.std.proofs.lemmas.Bool.{and_parts, cases_Bool, eqb-true, ltb-true, false≢true}
use Rattle.il_lexer.specs.Lexing.{is_opening, is_closing, depth_after, deepest_from}
use Rattle.il_lexer.specs.Unplaced.{Spelling, spelling_in}
use Rattle.il_lexer.specs.declared.types.Token.{Token}
use Rattle.il_lexer.specs.declared.types.TokenKind.{TokenKind}
use Rattle.il_lexer.specs.declared.types.TokenKind.TheVariants as kind
use Rattle.il_lexer.specs.declared.word.TheConstants as word
use Rattle.ilasm_grammar.specs.Grammar.{Rule}
use Rattle.ilasm_grammar.specs.Ilasm.{ilasm, body_at, picked}
use Rattle.ilasm_grammar.specs.Terminals.{terminal_of}
use Rattle.ilasm_grammar.specs.declared.nonterminals.TheConstants as n
use Rattle.ilasm_grammar.specs.declared.symbol.Symbol.{Symbol}
use Rattle.ilasm_grammar.specs.declared.symbol.Symbol.TheVariants.{Terminal, Nonterminal}
use Rattle.ilasm_grammar.specs.declared.terminals.TheConstants.{WORDS, END, UNUSED}
use Rattle.ilasm_grammar.proofs.IlasmFacts.{ilasm_table}
use Rattle.ilasm_grammar.proofs.TableCheck.{ilasm_tables, ilasm_checked}
use Rattle.ilasm_grammar.proofs.TableFacts.{at_rule}
use Rattle.ilasm_grammar.proofs.Tables.{all_below}
use Rattle.listing_model.specs.Grown.{head_of, body_in, body_of, Grows}
use Rattle.listing_model.specs.Shown.{Leaf, Shown, leaves}
use Rattle.listing_tokens.specs.Laws.{spelling}
use Rattle.listing_tokens.proofs.Sound.{some_room, less_room, has_room, room_behind, Sound}

-- ---- each production closes what it opens

-- a shape closes the bracket that stands before it
abbrev closes : ℕ → ℕ
closes x = if nat_eq x n.SHAPE then 1 else 0

abbrev opens_terminal : ℕ → Bool
opens_terminal t =
    nat_eq t (WORDS + word.OPEN_BRACE) || nat_eq t (WORDS + word.OPEN_PAREN) || nat_eq t (WORDS + word.OPEN_BRACKET) || nat_eq t (WORDS + word.LESS)

abbrev closes_terminal : ℕ → Bool
closes_terminal t =
    nat_eq t (WORDS + word.CLOSE_BRACE) || nat_eq t (WORDS + word.CLOSE_PAREN) || nat_eq t (WORDS + word.CLOSE_BRACKET) || nat_eq t (WORDS + word.GREATER)

-- how many brackets symbols close that stand before them, and that each they open is closed
abbrev owed : List Symbol → ℕ
owed [] = 0
owed (Terminal t ∷ more) = if opens_terminal t then less_room (owed more) else if closes_terminal t then suc (owed more) else owed more
owed (Nonterminal x ∷ more) = closes x + owed more

abbrev covered : List Symbol → Bool
covered [] = true
covered (Terminal t ∷ more) = (not (opens_terminal t) || nat_lt 0 (owed more)) && covered more
covered (Nonterminal x ∷ more) = covered more

abbrev is_even : ℕ → Bool
is_even p = nat_eq (owed (ilasm_tables.body p)) (closes (ilasm_tables.head p)) && covered (ilasm_tables.body p)

all_even : all_below is_even ilasm_tables.productions ≡ true
unfolding ilasm_tables body_at
all_even = refl

-- what a production of a nonterminal closes and covers
even_by : (p x : ℕ) (o : Option Rule) → ilasm p ≡ o → option_map (λ (r : Rule). r.head) o ≡ Some x → (owed (body_in o) ≡ closes x) × (covered (body_in o) ≡ true)
even_by p x None e h = absurd cc
even_by p x (Some r) e h =
    let same : r.head ≡ x = cc in
    let t = and_parts _ _ (at_rule ilasm_tables ilasm_checked ilasm picked ilasm_table is_even all_even e) in
    let head : ilasm_tables.head p ≡ r.head = ap (λ (y : Rule). y.head) (ilasm_table.rules e).1 in
    let body : ilasm_tables.body p ≡ r.body = ap (λ (y : Rule). y.body) (ilasm_table.rules e).1 in (
      ap owed (sym body) ∙ eqb-true (owed (ilasm_tables.body p)) (closes (ilasm_tables.head p)) t.0 ∙ ap closes (head ∙ same),
      ap covered (sym body) ∙ t.1,
    )

even : (p x : ℕ) → head_of p ≡ Some x → (owed (body_of p) ≡ closes x) × (covered (body_of p) ≡ true)
even p x h = even_by p x (ilasm p) refl h

-- ---- a token's bracket by its terminal

abbrev opens_kind : TokenKind → Bool
opens_kind (kind.Word k) = is_opening k
opens_kind _ = false

abbrev closes_kind : TokenKind → Bool
closes_kind (kind.Word k) = is_closing k
closes_kind _ = false

word_opens : (k : ℕ) → opens_terminal (terminal_of (kind.Word k)) ≡ is_opening k
word_opens k = elim (cases_Bool (nat_lt (WORDS + k) END)) [
  | inl e ↦ ap (λ b. opens_terminal (cond b (WORDS + k) UNUSED)) e ∙ low
  | inr e ↦ ap (λ b. opens_terminal (cond b (WORDS + k) UNUSED)) e ∙ sym (high e)
]
  where
    low : opens_terminal (WORDS + k) ≡ is_opening k
    low = grind arith

    high : nat_lt (WORDS + k) END ≡ false → is_opening k ≡ false
    high e = grind (arith, e)

word_closes : (k : ℕ) → closes_terminal (terminal_of (kind.Word k)) ≡ is_closing k
word_closes k = elim (cases_Bool (nat_lt (WORDS + k) END)) [
  | inl e ↦ ap (λ b. closes_terminal (cond b (WORDS + k) UNUSED)) e ∙ low
  | inr e ↦ ap (λ b. closes_terminal (cond b (WORDS + k) UNUSED)) e ∙ sym (high e)
]
  where
    low : closes_terminal (WORDS + k) ≡ is_closing k
    low = grind arith

    high : nat_lt (WORDS + k) END ≡ false → is_closing k ≡ false
    high e = grind (arith, e)

kind_opens : (k : TokenKind) → opens_terminal (terminal_of k) ≡ opens_kind k
kind_opens (kind.Word k) = word_opens k
kind_opens kind.Name = refl
kind_opens k = refl

kind_closes : (k : TokenKind) → closes_terminal (terminal_of k) ≡ closes_kind k
kind_closes (kind.Word k) = word_closes k
kind_closes kind.Name = refl
kind_closes k = refl

-- ---- depths

abbrev turned : Bool → Bool → ℕ → ℕ
turned a b d = cond a (d + 1) (cond b (d - 1) d)

depth_is : (k : TokenKind) (d : ℕ) → depth_after d k ≡ turned (opens_kind k) (closes_kind k) d
unfolding depth_after
depth_is (kind.Word k) d = refl
depth_is kind.Name d = refl
depth_is k d = refl

abbrev depth_list : ℕ → List Leaf → ℕ
depth_list d [] = d
depth_list d (l ∷ ls) = depth_list (depth_after d l.kind) ls

abbrev deep_list : ℕ → List Leaf → ℕ
deep_list d [] = d
deep_list d (l ∷ ls) = max d (deep_list (depth_after d l.kind) ls)

depth_joins : (d : ℕ) (xs ys : List Leaf) → depth_list d (xs ++ ys) ≡ depth_list (depth_list d xs) ys
depth_joins d [] ys = refl
depth_joins d (l ∷ ls) ys = depth_joins (depth_after d l.kind) ls ys

-- a list is at least as deep as where it begins and where it ends
deep_begin : (d : ℕ) (xs : List Leaf) → d ≤ deep_list d xs
deep_begin d [] = omega arith
deep_begin d (l ∷ ls) = omega arith

deep_joins : (d most : ℕ) (xs ys : List Leaf) → deep_list d xs ≤ most → deep_list (depth_list d xs) ys ≤ most → deep_list d (xs ++ ys) ≤ most
deep_joins d most [] ys h k = k
deep_joins d most (l ∷ ls) ys h k =
    let rest = deep_joins (depth_after d l.kind) most ls ys (omega arith) k in omega arith

-- what symbols owe behind their first terminal
behind : (t : ℕ) (more : List Symbol) (a b : Bool) → opens_terminal t ≡ a → closes_terminal t ≡ b → covered (Terminal t ∷ more) ≡ true → (d : ℕ) →
    turned a b (d + owed (Terminal t ∷ more)) ≡ d + owed more
behind t more true b f g c d =
    let some = ltb-true 0 (owed more) (open_some (and_parts _ _ c).0) in
    ap (λ x. (d + cond x (less_room (owed more)) (cond (closes_terminal t) (suc (owed more)) (owed more))) + 1) f ∙ up (owed more) some
  where
    open_some : (not (opens_terminal t) || nat_lt 0 (owed more)) ≡ true → nat_lt 0 (owed more) ≡ true
    open_some h = subst (λ x. (not x || nat_lt 0 (owed more)) ≡ true) f h

    up : (o : ℕ) → 0 < o → (d + less_room o) + 1 ≡ d + o
    up zero h = absurd (omega arith)
    up (suc o) h = omega arith
behind t more false true f g c d =
    ap (λ x. (d + cond x (less_room (owed more)) (cond (closes_terminal t) (suc (owed more)) (owed more))) - 1) f
    ∙ (ap (λ x. (d + cond x (suc (owed more)) (owed more)) - 1) g ∙ omega arith)
behind t more false false f g c d =
    ap (λ x. d + cond x (less_room (owed more)) (cond (closes_terminal t) (suc (owed more)) (owed more))) f
    ∙ ap (λ x. d + cond x (suc (owed more)) (owed more)) g

after_leaf : (l : Leaf) (t : ℕ) (more : List Symbol) → terminal_of l.kind ≡ t → covered (Terminal t ∷ more) ≡ true → (d : ℕ) →
    depth_after (d + owed (Terminal t ∷ more)) l.kind ≡ d + owed more
after_leaf l t more e c d =
    depth_is l.kind (d + owed (Terminal t ∷ more))
    ∙ behind t more (opens_kind l.kind) (closes_kind l.kind) (ap opens_terminal (sym e) ∙ kind_opens l.kind) (ap closes_terminal (sym e) ∙ kind_closes l.kind) c d

through : (symbols : List Symbol) (g : Shown) → Grows symbols g → covered symbols ≡ true → (d : ℕ) → depth_list (d + owed symbols) (leaves g) ≡ d
through [] Shown.none h c d = omega arith
through [] (Shown.leaf l a) h c d = absurd h
through [] (Shown.branch p b a) h c d = absurd h
through (Terminal t ∷ more) Shown.none h c d = absurd h
through (Terminal t ∷ more) (Shown.leaf l a) h c d =
    ap (λ x. depth_list x (leaves a)) (after_leaf l t more h.0 c d) ∙ through more a h.1 (and_parts _ _ c).1 d
through (Terminal t ∷ more) (Shown.branch p b a) h c d = absurd h
through (Nonterminal x ∷ more) Shown.none h c d = absurd h
through (Nonterminal x ∷ more) (Shown.leaf l a) h c d = absurd h
through (Nonterminal x ∷ more) (Shown.branch p b a) h c d =
    let e = even p x h.0 in
    let start : d + (closes x + owed more) ≡ (d + owed more) + owed (body_of p) = ap (λ o. d + (o + owed more)) (sym e.0) ∙ omega arith in
    depth_joins (d + (closes x + owed more)) (leaves b) (leaves a)
    ∙ (ap (λ k. depth_list (depth_list k (leaves b)) (leaves a)) start
    ∙ (ap (λ k. depth_list k (leaves a)) (through (body_of p) b h.1 e.1 (d + owed more)) ∙ through more a h.2 c d))

-- the room before a leaf and behind it
room_by : (k : TokenKind) (r d e : ℕ) → has_room k r ≡ true → turned (opens_kind k) (closes_kind k) d ≡ e → (closes_kind k ≡ true → 0 < d) → e + room_behind k r ≤ d + r
room_by (kind.Word k) r d e h t c = by (is_opening k) (is_closing k) r h t c
  where
    by : (a b : Bool) (r : ℕ) → (not a || some_room r) ≡ true → turned a b d ≡ e → (b ≡ true → 0 < d) →
        e + cond a (less_room r) (cond b (suc r) r) ≤ d + r
    by true b zero h t c = absurd (false≢true h)
    by true b (suc r) h t c = omega arith
    by false true r h t c = let some = c refl in omega arith
    by false false r h t c = omega arith
room_by kind.Name r d e h t c = omega arith
room_by kind.Scope r d e h t c = omega arith
room_by kind.Int r d e h t c = omega arith
room_by kind.QString r d e h t c = omega arith
room_by kind.EqBytes r d e h t c = omega arith
room_by kind.ByteArray r d e h t c = omega arith
room_by kind.RealBytes r d e h t c = omega arith
room_by kind.Hash r d e h t c = omega arith
room_by kind.Unused r d e h t c = omega arith

-- a closing terminal is owed, where it isn't an opening one too
closing_owed : (t : ℕ) (more : List Symbol) → opens_terminal t ≡ false → closes_terminal t ≡ true → 0 < owed (Terminal t ∷ more)
closing_owed t more f g =
    let is = ap (λ x. cond x (less_room (owed more)) (cond (closes_terminal t) (suc (owed more)) (owed more))) f ∙ ap (λ x. cond x (suc (owed more)) (owed more)) g in
    omega arith

apart_kinds : (k : TokenKind) → closes_kind k ≡ true → opens_kind k ≡ false
apart_kinds (kind.Word k) h = grind (arith, h)
apart_kinds kind.Name h = refl
apart_kinds k h = refl

shallow : (symbols : List Symbol) (g : Shown) → Grows symbols g → covered symbols ≡ true → (r : ℕ) (rest : List Leaf) → Sound r g rest → (d : ℕ) →
    deep_list (d + owed symbols) (leaves g) ≤ (d + owed symbols) + r
shallow [] Shown.none h c r rest s d = omega arith
shallow [] (Shown.leaf l a) h c r rest s d = absurd h
shallow [] (Shown.branch p b a) h c r rest s d = absurd h
shallow (Terminal t ∷ more) Shown.none h c r rest s d = absurd h
shallow (Terminal t ∷ more) (Shown.leaf l a) h c r rest s d =
    let start = d + owed (Terminal t ∷ more) in
    let next = after_leaf l t more h.0 c d in
    let inner = shallow more a h.1 (and_parts _ _ c).1 (room_behind l.kind r) rest s.1 d in
    let deep = subst (λ x. deep_list x (leaves a) ≤ x + room_behind l.kind r) (sym next) inner in
    let room =
    room_by l.kind r start (depth_after start l.kind) s.0.room (sym (depth_is l.kind start))
    (λ k. let owes = closing_owed t more (ap opens_terminal (sym h.0) ∙ (kind_opens l.kind ∙ apart_kinds l.kind k)) (ap closes_terminal (sym h.0) ∙ (kind_closes l.kind ∙ k)) in omega arith) in
    omega arith
shallow (Terminal t ∷ more) (Shown.branch p b a) h c r rest s d = absurd h
shallow (Nonterminal x ∷ more) Shown.none h c r rest s d = absurd h
shallow (Nonterminal x ∷ more) (Shown.leaf l a) h c r rest s d = absurd h
shallow (Nonterminal x ∷ more) (Shown.branch p b a) h c r rest s d =
    let e = even p x h.0 in
    let start : d + (closes x + owed more) ≡ (d + owed more) + owed (body_of p) = ap (λ o. d + (o + owed more)) (sym e.0) ∙ omega arith in
    let first = subst (λ k. deep_list k (leaves b) ≤ k + r) (sym start) (shallow (body_of p) b h.1 e.1 r (leaves a ++ rest) s.0 (d + owed more)) in
    let end = ap (λ k. depth_list k (leaves b)) start ∙ through (body_of p) b h.1 e.1 (d + owed more) in
    let later = shallow more a h.2 c r rest s.1 d in
    let last = subst (λ k. deep_list k (leaves a) ≤ (d + (closes x + owed more)) + r) (sym end) (omega arith) in
    deep_joins (d + (closes x + owed more)) ((d + (closes x + owed more)) + r) (leaves b) (leaves a) first last

-- ---- tokens

abbrev deep_spellings : ℕ → List Spelling → ℕ
deep_spellings d [] = d
deep_spellings d (s ∷ ss) = max d (deep_spellings (depth_after d s.kind) ss)

of_leaves : (d : ℕ) (ls : List Leaf) → deep_spellings d (map spelling ls) ≡ deep_list d ls
of_leaves d [] = refl
of_leaves d (l ∷ ls) = ap (λ m. max d m) (of_leaves (depth_after d l.kind) ls)

of_tokens : (source : List ℕ) (d : ℕ) (ts : List Token) → deepest_from d ts ≡ deep_spellings d (map (spelling_in source) ts)
of_tokens source d [] = refl
of_tokens source d (t ∷ ts) = ap (λ m. max d m) (of_tokens source (depth_after d t.kind) ts)

-- tokens that are spelled as the leaves of sound trees are no deeper than their room
pub tokens_shallow : (g : Shown) → Grows (Nonterminal n.SOURCE ∷ []) g → (r : ℕ) (rest : List Leaf) → Sound r g rest → (source : List ℕ) (ts : List Token) →
    map (spelling_in source) ts ≡ map spelling (leaves g) → deepest_from 0 ts ≤ r
tokens_shallow g h r rest s source ts e =
    let deep : deep_list (0 + 0) (leaves g) ≤ (0 + 0) + r = shallow (Nonterminal n.SOURCE ∷ []) g h refl r rest s 0 in
    let is : deepest_from 0 ts ≡ deep_list 0 (leaves g) = of_tokens source 0 ts ∙ (ap (deep_spellings 0) e ∙ of_leaves 0 (leaves g)) in
    omega arith
