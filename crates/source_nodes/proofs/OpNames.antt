-- The opcode that a word names in the table of mnemonics and aliases.
use Rattle.std.proofs.Common.{◌≡◌, ℕ, zero, suc, List, [], ◌∷◌, cond, refl, ap, sym, subst, ◌∙◌, arith}
use Rattle.std.specs.Prelude.{Bool, true, false, nat_lt, Option, None, Some, IfSome, Contains, IsUtf8, find, bytes_eq}
use Rattle.std.specs.List.{list_all}
use Rattle.std.specs.Str.{IsAscii}
use Rattle.std.proofs.lemmas.Bool.{ltb-true}
use Rattle.std.proofs.lemmas.Slice.Eq.{bytes_eq-Decides}
use Rattle.std.proofs.lemmas.Str.{IsUtf8-from_ascii}
use Rattle.opcode_table.specs.Opcodes.{names}
use Rattle.opcode_table.specs.declared.op.Op.{Op}
use Rattle.opcode_table.specs.declared.op.Op.TheVariants.{Nop}
use Rattle.source_model.specs.Instructions.{op_or_nop}
use Rattle.source_nodes.proofs.WrittenNames.{both_true}

abbrev Row : Type 0
Row = List ℕ × Op

-- ---- what is found in a list

record Found {X : Type 0} (p : X → Bool) (xs : List X) (x : X) : Type 0 where
  within : Contains xs x
  passes : p x ≡ true

contains_next : {X : Type 0} (y : X) (ys : List X) (x : X) → Contains ys x → Contains (y ∷ ys) x
contains_next y ys x (k, less, is) = (suc k, omega (arith, less), is)

found_in : {X : Type 0} (p : X → Bool) (xs : List X) (x : X) → find p xs ≡ Some x → Found p xs x
found_in p [] x e = absurd cc
found_in p (y ∷ ys) x e = go (p y) refl e (λ rest. found_in p ys x rest)
  where
    go : (c : Bool) → p y ≡ c → cond c (Some y) (find p ys) ≡ Some x → (find p ys ≡ Some x → Found p ys x) → Found p (y ∷ ys) x
    go true passes e rest =
        let same : y ≡ x = cc in record { within = (0, omega arith, same); passes = ap p (sym same) ∙ passes }
    go false fails e rest = let f = rest e in record { within = contains_next y ys x f.within; passes = f.passes }

none_found : {X : Type 0} (p : X → Bool) (xs : List X) (x : X) → find p xs ≡ None → Contains xs x → p x ≡ true → ⊥
none_found p [] x e (k, less, is) passes = omega (arith, less)
none_found p (y ∷ ys) x e (zero, less, is) passes =
    let here : p y ≡ true = ap p is ∙ passes in
    let bad : Some y ≡ None = sym (ap (λ c. cond c (Some y) (find p ys)) here) ∙ e in absurd cc
none_found p (y ∷ ys) x e (suc k, less, is) passes = go (p y) refl (λ rest. none_found p ys x rest (k, omega (arith, less), is) passes)
  where
    go : (c : Bool) → p y ≡ c → (find p ys ≡ None → ⊥) → ⊥
    go true h later = let bad : Some y ≡ None = sym (ap (λ c. cond c (Some y) (find p ys)) h) ∙ e in absurd cc
    go false h later = later (sym (ap (λ c. cond c (Some y) (find p ys)) h) ∙ e)

-- ---- words

abbrev is_row : List ℕ → Row → Bool
is_row word row = bytes_eq row.0 word

named : (rows : List Row) (word : List ℕ) (o : Option Op) → ((op : Op) → o ≡ Some op → Contains rows (word, op)) → ((op : Op) → Contains rows (word, op) → o ≡ Some op)
    → (f : Option Row) → find (is_row word) rows ≡ f → (o ≡ None → Nop ≡ op_or_nop f) × ((op : Op) → o ≡ Some op → op ≡ op_or_nop f)
named rows word o found all None e =
    ((λ _. refl), (λ op is. absurd (none_found (is_row word) rows (word, op) e (found op is) ((bytes_eq-Decides word word).1 refl))))
named rows word o found all (Some row) e =
    let f = found_in (is_row word) rows row e in
    let same : row.0 ≡ word = (bytes_eq-Decides row.0 word).0 f.passes in
    let is : o ≡ Some row.1 = all row.1 (subst (λ w. Contains rows (w, row.1)) same f.within) in
    ((λ none. let bad : Some row.1 ≡ None = sym is ∙ none in absurd cc), (λ op some. let both : Some row.1 ≡ Some op = sym is ∙ some in cc))

pub word_named : (word : List ℕ) (op : Op) (o : Option Op) → IfSome o (λ x. Contains names (word, x)) → ((x : Op) → Contains names (word, x) → o ≡ Some x)
    → o ≡ Some op → op ≡ op_or_nop (find (λ row. bytes_eq row.0 word) names)
word_named word op o found all is =
    (named names word o (λ x e. subst (λ p. IfSome p (λ y. Contains names (word, y))) e found) all (find (is_row word) names) refl).1 op is

pub word_unnamed : (word : List ℕ) (o : Option Op) → IfSome o (λ x. Contains names (word, x)) → ((x : Op) → Contains names (word, x) → o ≡ Some x)
    → o ≡ None → Nop ≡ op_or_nop (find (λ row. bytes_eq row.0 word) names)
word_unnamed word o found all is =
    (named names word o (λ x e. subst (λ p. IfSome p (λ y. Contains names (word, y))) e found) all (find (is_row word) names) refl).0 is

-- ---- each word of the table is of ASCII

abbrev is_plain : List ℕ → Bool
is_plain bs = list_all (λ b. nat_lt b 128) bs

names_are_plain : list_all (λ (row : Row). is_plain row.0) names ≡ true
unfolding names
names_are_plain = refl

all_pass : {X : Type 0} (p : X → Bool) (xs : List X) (x : X) → list_all p xs ≡ true → Contains xs x → p x ≡ true
all_pass p [] x e (k, less, is) = absurd (omega (arith, less))
all_pass p (y ∷ ys) x e (zero, less, is) = ap p (sym is) ∙ (both_true (p y) (list_all p ys) e).0
all_pass p (y ∷ ys) x e (suc k, less, is) = all_pass p ys x (both_true (p y) (list_all p ys) e).1 (k, omega (arith, less), is)

plain_bytes : (bs : List ℕ) → is_plain bs ≡ true → IsAscii bs
plain_bytes [] e i = omega arith
plain_bytes (b ∷ bs) e zero = ltb-true b 128 (both_true (nat_lt b 128) (is_plain bs) e).0
plain_bytes (b ∷ bs) e (suc i) = plain_bytes bs (both_true (nat_lt b 128) (is_plain bs) e).1 i

pub odd_unnamed : (word : List ℕ) → (IsUtf8 word → ⊥) → Nop ≡ op_or_nop (find (λ row. bytes_eq row.0 word) names)
odd_unnamed word odd = go (find (is_row word) names) refl
  where
    go : (o : Option Row) → find (is_row word) names ≡ o → Nop ≡ op_or_nop o
    go None e = refl
    go (Some row) e =
        let f = found_in (is_row word) names row e in
        let same : row.0 ≡ word = (bytes_eq-Decides row.0 word).0 f.passes in
        let plain = all_pass (λ (r : Row). is_plain r.0) names row names_are_plain f.within in
        absurd (odd (subst IsUtf8 same (IsUtf8-from_ascii row.0 (plain_bytes row.0 plain))))
