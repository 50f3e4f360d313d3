-- Trees whose leaves are tokens that end before what stands behind them, with brackets at most so deep.
use Rattle.std.proofs.Common.{◌≡◌, ℕ, zero, suc, ◌<◌, ◌≤◌, ◌&&◌, ◌||◌, not, nat_lt, nat_eq, Bool, true, false, cond, if◌then◌else◌, inl, List, [], ◌∷◌, ◌++◌, map, Option, None, Some, refl, sym, subst, arith}
use Rattle.std.proofs.lemmas.Bool.{and_parts, ltb-true, false≢true}
use Rattle.std.specs.List.{list_any}
use Rattle.std.specs.Prelude.{⊤}
use Rattle.il_lexer.specs.Lexing.{is_opening, is_closing}
use Rattle.il_lexer.specs.WordList.{words}
use Rattle.il_lexer.specs.declared.types.TokenKind.{TokenKind}
use Rattle.il_lexer.specs.declared.types.TokenKind.TheVariants.{Name, Scope, Int, QString, EqBytes, ByteArray, RealBytes, Hash, Unused, Word}
use Rattle.il_lexer.specs.declared.word.TheConstants as word
use Rattle.listing_leaves.specs.Laws.{IsLeaf}
use Rattle.listing_model.specs.Shown.{Leaf, Shown, none, leaf, branch, leaves, Item, opt_below, star_below, behind_comma, commas, word_text, when}
use Rattle.listing_model.specs.Text.{is_int, is_one_of}

-- ---- what may stand behind a token

abbrev pub is_name_kind : TokenKind → Bool
is_name_kind Name = true
is_name_kind _ = false

-- the token behind stands in the same line and passes
abbrev pub next_passes : (TokenKind → Bool) → List Leaf → Bool
next_passes t [] = false
next_passes t (m ∷ ms) = not m.starts && t m.kind

-- behind a name or a number that stands behind `(`
abbrev pub closes_name : List Leaf → Bool
closes_name [] = false
closes_name (m ∷ ms) = not m.starts && (not m.apart && is_one_of (word.CLOSE_PAREN ∷ word.COMMA ∷ word.SLASH ∷ []) m.kind)

abbrev pub opens_with : TokenKind → List Leaf → Bool
opens_with (Word k) ms = not (nat_eq k word.SLASH)
opens_with Scope ms = true
opens_with Name ms = closes_name ms
opens_with Int ms = closes_name ms
opens_with _ ms = false

-- behind `(`
abbrev pub opens : List Leaf → Bool
opens [] = false
opens (m ∷ ms) = not m.starts && opens_with m.kind ms

-- behind `=`: the first token of a constant
abbrev pub is_value : TokenKind → Bool
is_value (Word k) =
    list_any (λ j. nat_eq j k)
    (word.INT8 ∷ word.INT16 ∷ word.INT32 ∷ word.INT64 ∷ word.UINT8 ∷ word.UINT16 ∷ word.UINT32 ∷ word.UINT64 ∷ word.BOOL ∷ word.CHAR
    ∷ word.FLOAT32 ∷ word.FLOAT64 ∷ word.NULLREF ∷ [])
is_value QString = true
is_value ByteArray = true
is_value _ = false

-- behind `[`
abbrev pub is_bound : TokenKind → Bool
is_bound kind = is_int kind || is_one_of (word.CLOSE_BRACKET ∷ word.COMMA ∷ word.ELLIPSIS ∷ []) kind

-- behind `:`
abbrev pub no_colon : List Leaf → Bool
no_colon [] = true
no_colon (m ∷ ms) = m.starts || not (is_one_of (word.COLON ∷ word.DOUBLE_COLON ∷ []) m.kind)

abbrev pub word_passes : ℕ → List Leaf → Bool
word_passes k ls =
    if nat_eq k word.OPEN_PAREN then opens ls
    else if nat_eq k word.OPEN_BRACKET then next_passes is_bound ls
    else if nat_eq k word.SLASH then next_passes is_name_kind ls
    else if nat_eq k word.BANG then next_passes is_int ls
    else if nat_eq k word.EQUALS then next_passes is_value ls
    else if nat_eq k word.COLON then no_colon ls
    else not (nat_eq k word.BYTEARRAY)

-- a token ends before those behind it
abbrev pub passes : TokenKind → List Leaf → Bool
passes (Word k) ls = nat_lt k 401 && word_passes k ls
passes Name ls = true
passes Scope ls = true
passes Int ls = true
passes QString ls = true
passes EqBytes ls = true
passes ByteArray ls = true
passes RealBytes ls = false
passes Hash ls = false
passes Unused ls = false

-- ---- brackets

-- so many more brackets may be open, and so many behind the token
abbrev pub some_room : ℕ → Bool
some_room zero = false
some_room (suc r) = true

abbrev pub less_room : ℕ → ℕ
less_room zero = zero
less_room (suc r) = r

abbrev pub has_room : TokenKind → ℕ → Bool
has_room (Word k) r = not (is_opening k) || some_room r
has_room _ r = true

abbrev pub room_behind : TokenKind → ℕ → ℕ
room_behind (Word k) r = if is_opening k then less_room r else if is_closing k then suc r else r
room_behind _ r = r

-- ---- trees

pub record IsFine (r : ℕ) (l : Leaf) (behind : List Leaf) : Type 0 where
  pub spelled : IsLeaf l.kind l.text
  pub ends : passes l.kind behind ≡ true
  pub room : has_room l.kind r ≡ true

-- trees before these leaves, where so many brackets more may be open
abbrev pub Sound : ℕ → Shown → List Leaf → Type 0
Sound r none rest = ⊤
Sound r (leaf l after) rest = IsFine r l (leaves after ++ rest) × Sound (room_behind l.kind r) after rest
Sound r (branch p below after) rest = Sound r below (leaves after ++ rest) × Sound r after rest

-- a word
pub wf : {r k : ℕ} {ls : List Leaf} {starts apart : Bool} → passes (Word k) ls ≡ true → has_room (Word k) r ≡ true →
    IsFine r (record { starts = starts; apart = apart; kind = Word k; text = word_text k }) ls
unfolding words
wf {k = k} {ls = ls} h room =
    let low : k < 401 = ltb-true k 401 (and_parts (nat_lt k 401) (word_passes k ls) h).0 in
    record { spelled = record { spelled = (low, refl); own = inl refl }; ends = h; room = room }

-- any other token
pub tf : {r : ℕ} {l : Leaf} {ls : List Leaf} → IsLeaf l.kind l.text → passes l.kind ls ≡ true → has_room l.kind r ≡ true → IsFine r l ls
tf s h room = record { spelled = s; ends = h; room = room }

-- ---- plain words, whose ends and brackets don't matter

abbrev pub is_plain : ℕ → Bool
is_plain k =
    nat_lt k 401
    && not (list_any (λ j. nat_eq j k)
    (word.OPEN_PAREN ∷ word.OPEN_BRACKET ∷ word.SLASH ∷ word.BANG ∷ word.EQUALS ∷ word.COLON ∷ word.BYTEARRAY ∷ word.OPEN_BRACE ∷ word.LESS
    ∷ word.CLOSE_PAREN ∷ word.CLOSE_BRACKET ∷ word.CLOSE_BRACE ∷ word.GREATER ∷ word.DOUBLE_COLON ∷ []))

pub record Plain (k : ℕ) : Type 0 where
  pub passes : (ls : List Leaf) → passes (Word k) ls ≡ true
  pub room : (r : ℕ) → has_room (Word k) r ≡ true
  pub behind : (r : ℕ) → room_behind (Word k) r ≡ r

both : (x y : Bool) → x ≡ true → y ≡ true → (x && y) ≡ true
both true y f g = g
both false y f g = f

not_any : (a b : Bool) → not (a || b) ≡ true → (a ≡ false) × (not b ≡ true)
not_any true b h = absurd (false≢true h)
not_any false b h = (refl, h)

seen : (k j : ℕ) → nat_eq j k ≡ false → nat_eq k j ≡ false
seen k j h = grind arith

pub plain : (k : ℕ) → is_plain k ≡ true → Plain k
plain k h =
    let hs = and_parts _ _ h in
    let n1 = not_any (nat_eq word.OPEN_PAREN k) _ hs.1 in
    let n2 = not_any (nat_eq word.OPEN_BRACKET k) _ n1.1 in
    let n3 = not_any (nat_eq word.SLASH k) _ n2.1 in
    let n4 = not_any (nat_eq word.BANG k) _ n3.1 in
    let n5 = not_any (nat_eq word.EQUALS k) _ n4.1 in
    let n6 = not_any (nat_eq word.COLON k) _ n5.1 in
    let n7 = not_any (nat_eq word.BYTEARRAY k) _ n6.1 in
    let n8 = not_any (nat_eq word.OPEN_BRACE k) _ n7.1 in
    let n9 = not_any (nat_eq word.LESS k) _ n8.1 in
    let n10 = not_any (nat_eq word.CLOSE_PAREN k) _ n9.1 in
    let n11 = not_any (nat_eq word.CLOSE_BRACKET k) _ n10.1 in
    let n12 = not_any (nat_eq word.CLOSE_BRACE k) _ n11.1 in
    let n13 = not_any (nat_eq word.GREATER k) _ n12.1 in
    let e1 = seen k word.OPEN_PAREN n1.0 in
    let e2 = seen k word.OPEN_BRACKET n2.0 in
    let e3 = seen k word.SLASH n3.0 in
    let e4 = seen k word.BANG n4.0 in
    let e5 = seen k word.EQUALS n5.0 in
    let e6 = seen k word.COLON n6.0 in
    let e7 = seen k word.BYTEARRAY n7.0 in
    let e8 = seen k word.OPEN_BRACE n8.0 in
    let e9 = seen k word.LESS n9.0 in
    let e10 = seen k word.CLOSE_PAREN n10.0 in
    let e11 = seen k word.CLOSE_BRACKET n11.0 in
    let e12 = seen k word.CLOSE_BRACE n12.0 in
    let e13 = seen k word.GREATER n13.0 in
    record {
      passes = λ ls. both (nat_lt k 401) (word_passes k ls) hs.0 (simp (e1, e2, e3, e4, e5, e6, e7) refl);
      room = λ r. simp (e1, e2, e8, e9) refl;
      behind = λ r. simp (e1, e2, e8, e9, e10, e11, e12, e13) refl;
    }

-- a plain word before the rest
pub plain_word : {r k : ℕ} {starts apart : Bool} → is_plain k ≡ true → (after : Shown) (rest : List Leaf) → Sound r after rest →
    Sound r (leaf (record { starts = starts; apart = apart; kind = Word k; text = word_text k }) after) rest
plain_word {r = r} {k = k} h after rest s =
    let p = plain k h in (wf (p.passes (leaves after ++ rest)) (p.room r), subst (λ n. Sound n after rest) (sym (p.behind r)) s)

-- ---- more room

second_true : (b : Bool) → (b || true) ≡ true
second_true true = refl
second_true false = refl

more_room : (k : TokenKind) (r t : ℕ) → r ≤ t → has_room k r ≡ true → has_room k t ≡ true
more_room (Word k) zero zero le h = h
more_room (Word k) zero (suc t) le h = second_true (not (is_opening k))
more_room (Word k) (suc r) zero le h = absurd (omega arith)
more_room (Word k) (suc r) (suc t) le h = h
more_room Name r t le h = refl
more_room Scope r t le h = refl
more_room Int r t le h = refl
more_room QString r t le h = refl
more_room EqBytes r t le h = refl
more_room ByteArray r t le h = refl
more_room RealBytes r t le h = refl
more_room Hash r t le h = refl
more_room Unused r t le h = refl

by_turn : (a b : Bool) (r t : ℕ) → r ≤ t → cond a (less_room r) (cond b (suc r) r) ≤ cond a (less_room t) (cond b (suc t) t)
by_turn true b zero zero le = le
by_turn true b zero (suc t) le = omega arith
by_turn true b (suc r) zero le = absurd (omega arith)
by_turn true b (suc r) (suc t) le = omega arith
by_turn false true r t le = omega arith
by_turn false false r t le = le

more_behind : (k : TokenKind) (r t : ℕ) → r ≤ t → room_behind k r ≤ room_behind k t
more_behind (Word k) r t le = by_turn (is_opening k) (is_closing k) r t le
more_behind Name r t le = le
more_behind Scope r t le = le
more_behind Int r t le = le
more_behind QString r t le = le
more_behind EqBytes r t le = le
more_behind ByteArray r t le = le
more_behind RealBytes r t le = le
more_behind Hash r t le = le
more_behind Unused r t le = le

pub wider : (r t : ℕ) → r ≤ t → (g : Shown) (rest : List Leaf) → Sound r g rest → Sound t g rest
wider r t le Shown.none rest h = tt
wider r t le (Shown.leaf l after) rest h = (
  record { spelled = h.0.spelled; ends = h.0.ends; room = more_room l.kind r t le h.0.room },
  wider (room_behind l.kind r) (room_behind l.kind t) (more_behind l.kind r t le) after rest h.1,
)
wider r t le (Shown.branch p below after) rest h = (wider r t le below (leaves after ++ rest) h.0, wider r t le after rest h.1)

-- ---- rows

-- an item, whatever stands behind it
abbrev pub SoundItem : ℕ → Item → Type 0
SoundItem r i = (rest : List Leaf) → Sound r i.below rest

abbrev pub EachSound : ℕ → List Item → Type 0
EachSound r [] = ⊤
EachSound r (i ∷ is) = SoundItem r i × EachSound r is

pub each_wider : (r t : ℕ) → r ≤ t → (is : List Item) → EachSound r is → EachSound t is
each_wider r t le [] h = tt
each_wider r t le (i ∷ is) h = ((λ rest. wider r t le i.below rest (h.0 rest)), each_wider r t le is h.1)

pub sounds_append : (r : ℕ) (is js : List Item) → EachSound r is → EachSound r js → EachSound r (is ++ js)
sounds_append r [] js h k = k
sounds_append r (i ∷ is) js h k = (h.0, sounds_append r is js h.1 k)

pub star_sound : (r more end : ℕ) (is : List Item) → EachSound r is → (rest : List Leaf) → Sound r (star_below more end is) rest
star_sound r more end [] h rest = tt
star_sound r more end (i ∷ is) h rest = (h.0 _, (star_sound r more end is h.1 _, tt))

-- what may be there
abbrev pub OptionSound : ℕ → Option Shown → List Leaf → Type 0
OptionSound r None rest = ⊤
OptionSound r (Some g) rest = Sound r g rest

pub opt_sound : (r : ℕ) (x : Option Shown) (rest : List Leaf) → OptionSound r x rest → Sound r (opt_below x) rest
opt_sound r None rest h = tt
opt_sound r (Some g) rest h = h

pub when_sound : (r : ℕ) (b : Bool) (g : Shown) (rest : List Leaf) → Sound r g rest → Sound r (opt_below (when b g)) rest
when_sound r true g rest h = h
when_sound r false g rest h = tt

-- the rest of a row with commas
pub behind_sound : (r comma : ℕ) (is : List Item) → EachSound r is → EachSound r (map (behind_comma comma) is)
behind_sound r comma [] h = tt
behind_sound r comma (i ∷ is) h = ((λ rest. (wf refl refl, (h.0 rest, tt))), behind_sound r comma is h.1)

pub commas_sound : (r more end comma : ℕ) (i : Item) (is : List Item) → EachSound r (i ∷ is) → (after : Shown) (rest : List Leaf) → Sound r after rest →
    Sound r (commas more end comma (i ∷ is) after) rest
commas_sound r more end comma i is h after rest k =
    (h.0 _, (star_sound r more end (map (behind_comma comma) is) (behind_sound r comma is h.1) _, k))
