-- A label of a listing stands for the number of the instruction behind it.
use Rattle.std.proofs.Common.{◌≡◌, ◌⊎◌, inl, inr, ℕ, zero, suc, ◌+◌, ◌<◌, ◌≤◌, ◌^◌, nat_lt, Bool, true, false, cond, List, [], ◌∷◌, ◌++◌, map, filter, length, take, Option, None, Some, refl, ap, sym, subst, ◌∙◌, arith}
use Rattle.std.specs.Cmp.Lexicographic.{bytes_decides}
use Rattle.std.proofs.lemmas.List.Sums.{sum_by-cons}
use Rattle.std.specs.Prelude.{⊤, find}
use Rattle.std.specs.Str.{bytes_eq}
use Rattle.opcode_table.specs.Opcodes.{bytes_of}
use Rattle.opcode_table.specs.Sizes.{bytes_in, opcode_size}
use Rattle.assembly_tree.specs.WellFormedBodies.{size_of, offset_of}
use Rattle.assembly_tree.specs.declared.body.Ins.{Ins}
use Rattle.source_model.specs.Forest as f
use Rattle.source_model.specs.Instructions.{instructions_of, mnemonic_token, labels, number_of_label, label_number}
use Rattle.source_model.specs.Source.{Source, spelling}
use Rattle.source_model.specs.Values.{name_text, part_texts, dotted}
use Rattle.listing_constants.specs.Laws.{LabelsAreRead}
use Rattle.listing_leaves.specs.Numbers.{label}
use Rattle.listing_values.specs.Laws.{LabelsDiffer}

-- Where instructions stand: the token of the label before each, and that of its mnemonic.
abbrev pub Lines : Type 0
Lines = List (ℕ × f.Part)

-- each label stands before the instruction's mnemonic, and that before the next label; the last number is the token behind all
abbrev pub Rise : ℕ → Lines → ℕ → Type 0
Rise at [] end = at ≤ end
Rise at ((l, q) ∷ ls) end = (at ≤ l) × (l < mnemonic_token q) × Rise (suc (mnemonic_token q)) ls end

abbrev pub parts_of : Lines → List f.Part
parts_of ls = map (λ x. x.1) ls

abbrev pub tokens_of : Lines → List ℕ
tokens_of ls = map (λ x. x.0) ls

-- how many instructions begin before a token
abbrev before : ℕ → List f.Part → ℕ
before k ps = length (filter (λ q. nat_lt (mnemonic_token q) k) ps)

not_less : (m k : ℕ) → k ≤ m → nat_lt m k ≡ false
not_less m k h = grind (arith, h)

is_less : (m k : ℕ) → m < k → nat_lt m k ≡ true
is_less m k h = grind (arith, h)

none_before : (at k : ℕ) (ls : Lines) (end : ℕ) → k ≤ at → Rise at ls end → before k (parts_of ls) ≡ 0
none_before at k [] end h r = refl
none_before at k ((l, q) ∷ ls) end h r =
    let low : at ≤ l = r.0 in
    let next : l < mnemonic_token q = r.1 in
    let here : k ≤ mnemonic_token q = omega arith in
    let there : k ≤ suc (mnemonic_token q) = omega arith in
    ap (λ c. length (cond c (q ∷ filter (λ x. nat_lt (mnemonic_token x) k) (parts_of ls)) (filter (λ x. nat_lt (mnemonic_token x) k) (parts_of ls)))) (not_less (mnemonic_token q) k here)
    ∙ none_before (suc (mnemonic_token q)) k ls end there r.2

-- the token of the label with this number; that of their number is the end's
abbrev pub token_at : Lines → ℕ → ℕ → ℕ
token_at [] end j = end
token_at ((l, q) ∷ ls) end zero = l
token_at ((l, q) ∷ ls) end (suc j) = token_at ls end j

no_less : (j : ℕ) → suc j ≤ 0 → ⊥
no_less j h = absurd (omega arith)

-- the tokens of the labels rise
token_high : (at : ℕ) (ls : Lines) (end j : ℕ) → Rise at ls end → at ≤ token_at ls end j
token_high at [] end j r = r
token_high at ((l, q) ∷ ls) end zero r = r.0
token_high at ((l, q) ∷ ls) end (suc j) r =
    let low : at ≤ l = r.0 in
    let next : l < mnemonic_token q = r.1 in
    let more = token_high (suc (mnemonic_token q)) ls end j r.2 in
    omega arith

same_or_less : (k : ℕ) → k ≤ k
same_or_less k = omega arith

counted : (at : ℕ) (ls : Lines) (end j : ℕ) → Rise at ls end → j ≤ length ls → before (token_at ls end j) (parts_of ls) ≡ j
counted at [] end zero r h = refl
counted at [] end (suc j) r h = absurd (no_less j h)
counted at ((l, q) ∷ ls) end zero r h = none_before l l ((l, q) ∷ ls) end (same_or_less l) (same_or_less l, r.1, r.2)
counted at ((l, q) ∷ ls) end (suc j) r h =
    let t = token_at ls end j in
    let high : suc (mnemonic_token q) ≤ t = token_high (suc (mnemonic_token q)) ls end j r.2 in
    let low : mnemonic_token q < t = omega arith in
    let few : j ≤ length ls = omega arith in
    ap (λ c. length (cond c (q ∷ filter (λ x. nat_lt (mnemonic_token x) t) (parts_of ls)) (filter (λ x. nat_lt (mnemonic_token x) t) (parts_of ls)))) (is_less (mnemonic_token q) t low)
    ∙ ap (λ n. suc n) (counted (suc (mnemonic_token q)) ls end j r.2 few)

-- ---- the label of a name

-- the offset of an instruction, from the first's
abbrev pub offset_from : ℕ → List Ins → ℕ → ℕ
offset_from o [] j = o
offset_from o (i ∷ is) zero = o
offset_from o (i ∷ is) (suc j) = offset_from (o + size_of i) is j

plus_zero : (o : ℕ) → o ≡ o + 0
plus_zero o = omega arith

pub offset_is : (o : ℕ) (is : List Ins) (j : ℕ) → offset_from o is j ≡ o + offset_of is j
offset_is o [] zero = plus_zero o
offset_is o [] (suc j) = plus_zero o
offset_is o (i ∷ is) zero = plus_zero o
offset_is o (i ∷ is) (suc j) =
    let more : o + (size_of i + offset_of is j) ≡ (o + size_of i) + offset_of is j = omega arith in
    offset_is (o + size_of i) is j ∙ (sym more ∙ ap (λ n. o + n) (sym (sum_by-cons size_of i (take j is))))

one_or_two : (b : ℕ × Option ℕ) → 0 < bytes_in b
one_or_two (first, None) = omega arith
one_or_two (first, Some second) = omega arith

-- an instruction has a byte
some_bytes : (i : Ins) → 0 < size_of i
unfolding size_of opcode_size
some_bytes i = let opcode = one_or_two (bytes_of i.op) in omega arith

-- offsets rise
offset_high : (o : ℕ) (is : List Ins) (j : ℕ) → o ≤ offset_from o is j
offset_high o [] j = same_or_less o
offset_high o (i ∷ is) zero = same_or_less o
offset_high o (i ∷ is) (suc j) = let more = offset_high (o + size_of i) is j in omega arith

-- an instruction of this number has a label, and the end has one where it is sought
abbrev pub IsFound : ℕ → ℕ → List ℕ → ℕ → Type 0
IsFound j n tail end = (j < n) ⊎ ((j ≡ n) × (tail ≡ end ∷ []))

found_next : (j n : ℕ) (tail : List ℕ) (end : ℕ) → IsFound (suc j) (suc n) tail end → IsFound j n tail end
found_next j n tail end (inl h) = inl (omega arith)
found_next j n tail end (inr h) = let same = h.0 in let less : j ≡ n = omega arith in inr (less, h.1)

at_most : (j n : ℕ) (tail : List ℕ) (end : ℕ) → IsFound j n tail end → j ≤ n
at_most j n tail end (inl h) = omega arith
at_most j n tail end (inr h) = let same = h.0 in omega arith

never_less : (j : ℕ) → j < 0 → ⊥
never_less j h = absurd (omega arith)

-- each label is that of its instruction's offset
abbrev pub Spelled : Source → ℕ → Lines → List Ins → Type 0
Spelled s o [] [] = ⊤
Spelled s o [] (i ∷ is) = ⊥
Spelled s o (x ∷ ls) [] = ⊥
Spelled s o (x ∷ ls) (i ∷ is) = (spelling s x.0 ≡ label o) × Spelled s (o + size_of i) ls is

module _ (read : LabelsAreRead) (differ : LabelsDiffer) (s : Source) where
  named : (k n : ℕ) → n < 2 ^ 128 → spelling s k ≡ label n → name_text s k ≡ label n
  named k n small e = ap (λ t. dotted (part_texts t)) e ∙ read.offsets n small

  -- labels of one offset are the same, those of different ones differ
  matches : (l k n : ℕ) → n < 2 ^ 128 → spelling s l ≡ label n → spelling s k ≡ label n → bytes_eq (name_text s l) (name_text s k) ≡ true
  matches l k n small e g = (bytes_decides (name_text s l) (name_text s k)).1 (named l n small e ∙ sym (named k n small g))

  no_match_by : (b : Bool) (l k m n : ℕ) → m < 2 ^ 128 → n < 2 ^ 128 → m < n → spelling s l ≡ label m → spelling s k ≡ label n →
      bytes_eq (name_text s l) (name_text s k) ≡ b → b ≡ false
  no_match_by false l k m n low high less e g h = refl
  no_match_by true l k m n low high less e g h =
      let same = differ.offsets m n low high (sym (named l m low e) ∙ ((bytes_decides (name_text s l) (name_text s k)).0 h ∙ named k n high g)) in
      absurd (omega arith)

  no_match : (l k m n : ℕ) → m < 2 ^ 128 → n < 2 ^ 128 → m < n → spelling s l ≡ label m → spelling s k ≡ label n → bytes_eq (name_text s l) (name_text s k) ≡ false
  no_match l k m n low high less e g = no_match_by (bytes_eq (name_text s l) (name_text s k)) l k m n low high less e g refl

  abbrev sought : ℕ → ℕ → Bool
  sought k l = bytes_eq (name_text s l) (name_text s k)

  found : (o : ℕ) (ls : Lines) (is : List Ins) (end : ℕ) (tail : List ℕ) (j : ℕ) → Spelled s o ls is → (k : ℕ) → offset_from o is j < 2 ^ 128 →
      spelling s k ≡ label (offset_from o is j) → (tail ≡ end ∷ [] → spelling s end ≡ label (offset_from o is (length is))) → IsFound j (length ls) tail end →
      find (sought k) (tokens_of ls ++ tail) ≡ Some (token_at ls end j)
  found o [] [] end tail j sp k small e last (inl h) = absurd (never_less j h)
  found o [] [] end tail j sp k small e last (inr h) = ap (find (sought k)) h.1 ∙ ap (λ c. cond c (Some end) None) (matches end k o small (last h.1) e)
  found o [] (i ∷ is) end tail j sp k small e last h = absurd sp
  found o (x ∷ ls) [] end tail j sp k small e last h = absurd sp
  found o ((l, q) ∷ ls) (i ∷ is) end tail zero sp k small e last h =
      ap (λ c. cond c (Some l) (find (sought k) (tokens_of ls ++ tail))) (matches l k o small sp.0 e)
  found o ((l, q) ∷ ls) (i ∷ is) end tail (suc j) sp k small e last h =
      let more = offset_high (o + size_of i) is j in
      let some = some_bytes i in
      let low : o < 2 ^ 128 = omega arith in
      let less : o < offset_from (o + size_of i) is j = omega arith in
      ap (λ c. cond c (Some l) (find (sought k) (tokens_of ls ++ tail))) (no_match l k o (offset_from (o + size_of i) is j) low small less sp.0 e)
      ∙ found (o + size_of i) ls is end tail j sp.1 k small e last (found_next j (length ls) tail end h)

  same_length : (o : ℕ) (ls : Lines) (is : List Ins) → Spelled s o ls is → length ls ≡ length is
  same_length o [] [] sp = refl
  same_length o [] (i ∷ is) sp = absurd sp
  same_length o (x ∷ ls) [] sp = absurd sp
  same_length o (x ∷ ls) (i ∷ is) sp = ap (λ n. suc n) (same_length (o + size_of i) ls is sp.1)

  from_zero : (is : List Ins) (j : ℕ) → offset_of is j ≡ offset_from 0 is j
  from_zero is j = let none : offset_of is j ≡ 0 + offset_of is j = omega arith in none ∙ sym (offset_is 0 is j)

  at_most_last : (o : ℕ) (is : List Ins) (j : ℕ) → j ≤ length is → offset_from o is j ≤ offset_from o is (length is)
  at_most_last o [] j h = same_or_less o
  at_most_last o (i ∷ is) zero h = offset_high o (i ∷ is) (suc (length is))
  at_most_last o (i ∷ is) (suc j) h = let few : j ≤ length is = omega arith in at_most_last (o + size_of i) is j few

  -- a label stands for the number of its instruction
  pub number_is : (method : f.Forest) (at : ℕ) (ls : Lines) (is : List Ins) (end : ℕ) (tail : List ℕ) → instructions_of method ≡ parts_of ls →
      labels method ≡ tokens_of ls ++ tail → Rise at ls end → Spelled s 0 ls is → (tail ≡ end ∷ [] → spelling s end ≡ label (offset_of is (length is))) →
      offset_of is (length is) < 2 ^ 128 → (j : ℕ) → IsFound j (length is) tail end → (k : ℕ) → spelling s k ≡ label (offset_of is j) → label_number s method k ≡ j
  number_is method at ls is end tail ins_are labels_are rise sp last small j is_found k e =
      let same = same_length 0 ls is sp in
      let few = at_most j (length is) tail end is_found in
      let within : j ≤ length ls = subst (λ n. j ≤ n) (sym same) few in
      let zero_last = from_zero is (length is) in
      let zero_own = from_zero is j in
      let below_last = at_most_last 0 is j few in
      let own_small : offset_from 0 is j < 2 ^ 128 = omega arith in
      let name_found =
      ap (find (sought k)) labels_are
      ∙ found 0 ls is end tail j sp k own_small (e ∙ ap label zero_own) (λ h. last h ∙ ap label zero_last) (subst (λ n. IsFound j n tail end) (sym same) is_found) in
      ap (number_of_label method) name_found
      ∙ (ap (λ ps. length (filter (λ q. nat_lt (mnemonic_token q) (token_at ls end j)) ps)) ins_are ∙ counted at ls end j rise within)
