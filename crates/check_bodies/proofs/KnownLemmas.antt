-- Labels that are found by a hash of their names.
use Rattle.std.proofs.Common.{◌≡◌, ℕ, zero, suc, ◌+◌, ◌-◌, ◌<◌, ◌≤◌, inl, inr, List, [], ◌∷◌, ◌++◌, length, map, take, cond, ap, sym, subst, ◌∙◌, refl, arith, get_or, set, slice_get, ◌≢◌}
use Rattle.std.specs.Prelude.{Bool, true, false, not, ◌==◌, ◌||◌, ◌&&◌, nat_le, nat_lt, Some, is_some, filter, find, bytes_eq}
use Rattle.std.specs.List.{AllByRecursion, flat_map, list_all, list_any}
use Rattle.std.proofs.lemmas.Bool.{cases_Bool, leb-true, ltb-true}
use Rattle.std.proofs.lemmas.Bool.Decides.{Decides-eqb}
use Rattle.std.proofs.lemmas.List.{get_or-map, get_or-set_other, get_or-set_same, take-map}
use Rattle.std.proofs.lemmas.Nat.{mod_below}
use Rattle.std.proofs.lemmas.Slice.Eq.{bytes_eq-Decides}
use Rattle.source_model.specs.BodyFaults.{is_same_name}
use Rattle.source_model.specs.Forest.{Forest, Part}
use Rattle.source_model.specs.Instructions.{instructions_of, is_label, labels, mnemonic_token, number_at}
use Rattle.source_model.specs.Source.{Source}
use Rattle.source_model.specs.Values.{name_text}
use Rattle.source_syntax.specs.Repeats.{is_repeat}
use Rattle.source_syntax.specs.declared.label_numbers.Labels.{Labels}
use Rattle.source_nodes.proofs.PieceLemmas.{flat_next, take_next}
use Rattle.source_nodes.proofs.WrittenNames.{both_true}
use Rattle.check_bodies.specs.KnownNames.{is_label_of, is_past, slot_of}

-- ---- parts of lists

module _ {X : Type 0} (P : X → Type 0) where
  front_all : (xs ys : List X) → AllByRecursion P (xs ++ ys) → AllByRecursion P xs
  front_all [] ys h = tt
  front_all (x ∷ xs) ys h = (h.0, front_all xs ys h.1)

  back_all : (xs ys : List X) → AllByRecursion P (xs ++ ys) → AllByRecursion P ys
  back_all [] ys h = h
  back_all (x ∷ xs) ys h = back_all xs ys h.1

pub part_all : {X Y : Type 0} (P : Y → Type 0) (g : X → List Y) (xs : List X) (k : ℕ) (x : X) → AllByRecursion P (flat_map g xs)
    → slice_get xs k ≡ Some x → AllByRecursion P (g x)
part_all P g [] k x h at = absurd cc
part_all P g (y ∷ ys) zero x h at =
    let same : y ≡ x = cc in subst (λ z. AllByRecursion P (g z)) same (front_all P (g y) (flat_map g ys) h)
part_all P g (y ∷ ys) (suc k) x h at = part_all P g ys k x (back_all P (g y) (flat_map g ys) h) at

all_both : {X : Type 0} (p : X → Bool) (xs ys : List X) → list_all p xs ≡ true → list_all p ys ≡ true → list_all p (xs ++ ys) ≡ true
all_both p [] ys e h = h
all_both p (x ∷ xs) ys e h =
    let both = both_true (p x) (list_all p xs) e in ap (λ b. b && list_all p (xs ++ ys)) both.0 ∙ all_both p xs ys both.1 h

pub all_next : {X Y : Type 0} (p : Y → Bool) (g : X → List Y) (xs : List X) (k : ℕ) (x : X) → slice_get xs k ≡ Some x
    → list_all p (flat_map g (take k xs)) ≡ true → list_all p (g x) ≡ true → list_all p (flat_map g (take (k + 1) xs)) ≡ true
all_next p g xs k x at before here =
    ap (list_all p) (sym (flat_next g xs k x [] (flat_map g (take k xs)) at refl)) ∙ all_both p (flat_map g (take k xs)) (g x) before here

or_true : (b : Bool) → (b || true) ≡ true
or_true true = refl
or_true false = refl

pub any_at : {X : Type 0} (p : X → Bool) (xs : List X) (k : ℕ) (x : X) → slice_get xs k ≡ Some x → p x ≡ true → list_any p xs ≡ true
any_at p [] k x at e = absurd cc
any_at p (y ∷ ys) zero x at e = let same : y ≡ x = cc in ap (λ b. b || list_any p ys) (ap p same ∙ e)
any_at p (y ∷ ys) (suc k) x at e = ap (λ b. p y || b) (any_at p ys k x at e) ∙ or_true (p y)

-- a list that isn't empty has a last place
pub last_is : (n : ℕ) (b : Bool) → b ≡ false → b ≡ (n == 0) → n - 1 < n
last_is zero b off is = let bad : true ≡ false = sym is ∙ off in absurd cc
last_is (suc n) b off is = omega arith

-- ---- labels with names of their own

any_mapped : {X Y : Type 0} (p : Y → Bool) (g : X → Y) (xs : List X) → list_any p (map g xs) ≡ list_any (λ x. p (g x)) xs
any_mapped p g [] = refl
any_mapped p g (x ∷ xs) = ap (λ b. p (g x) || b) (any_mapped p g xs)

pub no_repeat : (s : Source) (ks : List ℕ) (i : ℕ) → i < length ks → list_any (is_same_name s (get_or ks i 0)) (take i ks) ≡ false
    → is_repeat (map (name_text s) ks) i ≡ false
no_repeat s ks i within none =
    ap (λ x. list_any (bytes_eq x) (take i (map (name_text s) ks))) (get_or-map (name_text s) ks i 0 [] within)
    ∙ ap (list_any (bytes_eq (name_text s (get_or ks i 0)))) (take-map (name_text s) i ks)
    ∙ any_mapped (bytes_eq (name_text s (get_or ks i 0))) (name_text s) (take i ks)
    ∙ none

-- the slot of each of these names isn't empty
abbrev pub HaveSlots : Source → List ℕ → List ℕ → Type 0
HaveSlots s slots ks = AllByRecursion (λ k. 0 < get_or slots (slot_of (name_text s k)) 0) ks

slot_within : (name : List ℕ) → slot_of name < 64
unfolding slot_of
slot_within name = mod_below _ 64 (omega arith)

-- a name whose slot is empty is none of those that have slots
pub none_same : (s : Source) (slots : List ℕ) (x : ℕ) (ks : List ℕ) → get_or slots (slot_of (name_text s x)) 0 ≡ 0 → HaveSlots s slots ks
    → list_any (is_same_name s x) ks ≡ false
none_same s slots x [] free h = refl
none_same s slots x (k ∷ ks) free h =
    ap (λ b. b || list_any (is_same_name s x) ks) (other (bytes_eq (name_text s x) (name_text s k)) refl) ∙ none_same s slots x ks free h.1
  where
    other : (b : Bool) → bytes_eq (name_text s x) (name_text s k) ≡ b → b ≡ false
    other false e = refl
    other true e =
        let is : name_text s x ≡ name_text s k = (bytes_eq-Decides (name_text s x) (name_text s k)).0 e in
        let empty : get_or slots (slot_of (name_text s k)) 0 ≡ 0 = ap (λ t. get_or slots (slot_of t) 0) (sym is) ∙ free in
        absurd (omega (arith, empty, h.0))

-- a slot that was empty is taken by one name more
slots_keep : (s : Source) (slots : List ℕ) (x number : ℕ) (ks : List ℕ) → length slots ≡ 64 → get_or slots (slot_of (name_text s x)) 0 ≡ 0 → 0 < number
    → HaveSlots s slots ks → HaveSlots s (set slots (slot_of (name_text s x)) number) (ks ++ x ∷ [])
slots_keep s slots x number [] size free some h =
    let within : slot_of (name_text s x) < length slots = omega (arith, size, slot_within (name_text s x)) in
    (subst (λ n. 0 < n) (sym (get_or-set_same slots (slot_of (name_text s x)) number 0 within)) some, tt)
slots_keep s slots x number (k ∷ ks) size free some h =
    let at = slot_of (name_text s x) in
    let own = slot_of (name_text s k) in
    let apart : own ≢ at = λ e. let empty : get_or slots own 0 ≡ 0 = ap (λ i. get_or slots i 0) e ∙ free in omega (arith, empty, h.0) in
    (subst (λ n. 0 < n) (sym (get_or-set_other slots at own number 0 apart)) h.0, slots_keep s slots x number ks size free some h.1)

-- the next of these names has its slot as well
pub slots_next : (s : Source) (slots new : List ℕ) (tokens : List ℕ) (i x number : ℕ) → length slots ≡ 64 → slice_get tokens i ≡ Some x
    → get_or slots (slot_of (name_text s x)) 0 ≡ 0 → 0 < number → new ≡ set slots (slot_of (name_text s x)) number → HaveSlots s slots (take i tokens)
    → HaveSlots s new (take (i + 1) tokens)
slots_next s slots new tokens i x number size at free some is h =
    subst (HaveSlots s new) (sym (take_next tokens i x at)) (subst (λ l. HaveSlots s l (take i tokens ++ x ∷ [])) (sym is) (slots_keep s slots x number (take i tokens) size free some h))

-- ---- labels that an instruction follows

filter_most : {X : Type 0} (t : X → Bool) (xs : List X) → length (filter t xs) ≤ length xs
filter_most t [] = omega arith
filter_most t (x ∷ xs) = go (t x) (filter_most t xs)
  where
    go : (c : Bool) → length (filter t xs) ≤ length xs → length (cond c (x ∷ filter t xs) (filter t xs)) ≤ suc (length xs)
    go true h = omega (arith, h)
    go false h = omega (arith, h)

filter_fewer : {X : Type 0} (t : X → Bool) (xs : List X) (i : ℕ) (x : X) → slice_get xs i ≡ Some x → t x ≡ false → length (filter t xs) < length xs
filter_fewer t [] i x at e = absurd cc
filter_fewer t (y ∷ ys) zero x at e =
    let same : y ≡ x = cc in
    let most = filter_most t ys in
    let is : length (cond (t y) (y ∷ filter t ys) (filter t ys)) ≡ length (filter t ys) = ap (λ c. length (cond c (y ∷ filter t ys) (filter t ys))) (ap t same ∙ e) in
    omega (arith, most, is)
filter_fewer t (y ∷ ys) (suc i) x at e = go (t y) (filter_fewer t ys i x at e)
  where
    go : (c : Bool) → length (filter t ys) < length ys → length (cond c (y ∷ filter t ys) (filter t ys)) < suc (length ys)
    go true h = omega (arith, h)
    go false h = omega (arith, h)

apart : (a b : ℕ) → a < b → (a == b) ≡ false
apart a b less = go (a == b) refl
  where
    go : (c : Bool) → (a == b) ≡ c → c ≡ false
    go false e = refl
    go true e = let same : a ≡ b = (Decides-eqb a b).0 e in absurd (omega (arith, same, less))

not_less : (a b : ℕ) → b ≤ a → nat_lt a b ≡ false
not_less a b over = elim (cases_Bool (nat_lt a b)) [
  | inl e ↦ let less = ltb-true a b e in absurd (omega (arith, less, over))
  | inr e ↦ e
]

pub none_past : (ps : List Part) (i : ℕ) (p : Part) (most : ℕ) → slice_get ps i ≡ Some p → mnemonic_token p ≡ most
    → (ks : List ℕ) → list_all (λ k. nat_le k most) ks ≡ true → list_any (is_past ps) ks ≡ false
none_past ps i p most at is [] all = refl
none_past ps i p most at is (k ∷ ks) all =
    let both = both_true (nat_le k most) (list_all (λ j. nat_le j most) ks) all in
    let low : k ≤ most = leb-true k most both.0 in
    let here : nat_lt (mnemonic_token p) k ≡ false = not_less (mnemonic_token p) k (omega (arith, low, is)) in
    let fewer = filter_fewer (λ (q : Part). nat_lt (mnemonic_token q) k) ps i p at here in
    ap (λ b. b || list_any (is_past ps) ks) (apart _ _ fewer) ∙ none_past ps i p most at is ks both.1

-- the labels of a method with their numbers
abbrev pub labels_known : Source → Forest → Labels
labels_known s f = record { names = map (name_text s) (labels f); numbers = map (number_at f) (labels f) }

pub none_numbered : (f : Forest) → list_any (is_past (instructions_of f)) (labels f) ≡ false
    → list_any (λ n. n == length (instructions_of f)) (map (number_at f) (labels f)) ≡ false
none_numbered f none = any_mapped (λ n. n == length (instructions_of f)) (number_at f) (labels f) ∙ none

-- ---- names of labels

eq_swap : (a b : List ℕ) → bytes_eq a b ≡ bytes_eq b a
eq_swap a b = go (bytes_eq a b) (bytes_eq b a) refl refl
  where
    go : (c d : Bool) → bytes_eq a b ≡ c → bytes_eq b a ≡ d → c ≡ d
    go true true e h = refl
    go false false e h = refl
    go true false e h = let is : a ≡ b = (bytes_eq-Decides a b).0 e in let also = (bytes_eq-Decides b a).1 (sym is) in absurd cc
    go false true e h = let is : b ≡ a = (bytes_eq-Decides b a).0 h in let also = (bytes_eq-Decides a b).1 (sym is) in absurd cc

found_some : (s : Source) (k : ℕ) (ls : List ℕ) → is_label_of s ls k ≡ true → is_some (find (λ l. bytes_eq (name_text s l) (name_text s k)) ls) ≡ true
found_some s k [] e = absurd cc
found_some s k (l ∷ ls) e =
    ap (λ c. is_some (cond c (Some l) (find (λ j. bytes_eq (name_text s j) (name_text s k)) ls))) (eq_swap (name_text s l) (name_text s k))
    ∙ go (bytes_eq (name_text s k) (name_text s l)) e (found_some s k ls)
  where
    go : (c : Bool) → (c || is_label_of s ls k) ≡ true → (is_label_of s ls k ≡ true → is_some (find (λ j. bytes_eq (name_text s j) (name_text s k)) ls) ≡ true)
        → is_some (cond c (Some l) (find (λ j. bytes_eq (name_text s j) (name_text s k)) ls)) ≡ true
    go true h rest = refl
    go false h rest = rest h

pub none_missing : (s : Source) (f : Forest) (ks : List ℕ) → list_all (is_label_of s (labels f)) ks ≡ true → filter (λ k. not (is_label s f k)) ks ≡ []
none_missing s f [] all = refl
none_missing s f (k ∷ ks) all =
    let both = both_true (is_label_of s (labels f) k) (list_all (is_label_of s (labels f)) ks) all in
    let rest = filter (λ j. not (is_label s f j)) ks in
    ap (λ c. cond (not c) (k ∷ rest) rest) (found_some s k (labels f) both.0) ∙ none_missing s f ks both.1
