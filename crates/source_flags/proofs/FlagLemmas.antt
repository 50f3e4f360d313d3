-- The lowest bits of flags: what each word and each `flags(n)` makes of them, and how a row of them is walked.
use Rattle.std.proofs.Common.{◌≡◌, ℕ, ◌+◌, ◌-◌, ◌*◌, ◌/◌, ◌%◌, ◌^◌, ◌<◌, ◌≤◌, List, [], ◌∷◌, ◌++◌, length, ap, sym, ◌∙◌, refl, arith, append_assoc}
use Rattle.std.specs.Prelude.{Bool, true, false, ◌==◌, if◌then◌else◌, Option, None, Some, fold, get_or, bit_and, bit_or}
use Rattle.std.proofs.lemmas.Nat.{and_le_l, and_le_r, and_mod, and_shr, mod-pow-add, mod_below, mod_low, or_mod, pow_pos, shr_split}
use Rattle.ilasm_grammar.specs.declared.productions.TheConstants.{FLAGS, CLASS_ATTR_NESTED}
use Rattle.ilasm_grammar.specs.declared.tree.TreeNode.{TreeNode}
use Rattle.ilasm_grammar.specs.declared.tree.TreeNode.TheVariants.{Leaf}
use Rattle.source_model.specs.Flags.{FlagWord, flag_word, flags_in, flags_number, nested_words, replaced, with_flag, without_bits}
use Rattle.source_model.specs.Forest as tree
use Rattle.source_model.specs.Forest.{Forest, Part, part, has, last_token, joined, preorder}
use Rattle.source_model.specs.Laws.{ForestOpens}
use Rattle.source_model.specs.Source.{Source, word_at}
use Rattle.source_flags.specs.FlagRows.{end_of, flags_after, more_of, words_of}
use Rattle.source_nodes.specs.Readers.{Reads}
use Rattle.source_flags.specs.declared.flag_rows.Row.{Row}
use Rattle.source_nodes.specs.declared.reader.Reader.{Reader}

-- ---- the lowest bits

small : (x k : ℕ) → x < 2 ^ k → x % 2 ^ k ≡ x
small x k h = let e : x ≡ 0 * 2 ^ k + x = omega arith in ap (λ n. n % 2 ^ k) e ∙ mod_low 0 k x h

low_once : (x k : ℕ) → x % 2 ^ k % 2 ^ k ≡ x % 2 ^ k
low_once x k = small (x % 2 ^ k) k (mod_below x (2 ^ k) (pow_pos k))

apart : (m q r a b : ℕ) → a ≤ q → b ≤ r → (q * m + r) - (a * m + b) ≡ (q - a) * m + (r - b)
apart m q r a b h i =
    let d = q - a in
    let whole : q ≡ a + d = omega (arith, h) in
    let parted : q * m ≡ a * m + d * m = ap (λ n. n * m) whole ∙ grind arith in
    omega (arith, parted, i)

-- the bits of a group are taken from the lowest bits as from all
without_low : (x g k : ℕ) → without_bits g x % 2 ^ k ≡ without_bits g (x % 2 ^ k)
without_low x g k =
    let m = 2 ^ k in
    let low = mod_below x m (pow_pos k) in
    let both = bit_and x g in
    let left = bit_and (x % m) g in
    let left_low : left < m = omega (arith, low, and_le_l (x % m) g) in
    let same : both % m ≡ left =
    and_mod x g k ∙ ap (λ n. bit_and n (g % m)) (sym (low_once x k)) ∙ sym (and_mod (x % m) g k) ∙ small left k left_low in
    let high : both / m ≤ x / m = rw (and_shr x g k) (and_le_l (x / m) (g / m)) in
    let parts : both ≡ (both / m) * m + left = sym (shr_split both k) ∙ ap (λ n. (both / m) * m + n) same in
    let rest : x - both ≡ (x / m - both / m) * m + (x % m - left) =
    ap (λ n. n - both) (sym (shr_split x k)) ∙ ap (λ n. ((x / m) * m + x % m) - n) parts
    ∙ apart m (x / m) (x % m) (both / m) left high (and_le_l (x % m) g) in
    ap (λ n. n % m) rest ∙ mod_low (x / m - both / m) k (x % m - left) (omega (arith, low))

replaced_low : (w : Option FlagWord) (x k : ℕ) → replaced w x % 2 ^ k ≡ replaced w (x % 2 ^ k) % 2 ^ k
replaced_low None x k = sym (low_once x k)
replaced_low (Some w) x k =
    or_mod (without_bits w.group x) w.value k
    ∙ ap (λ n. bit_or n (w.value % 2 ^ k)) (sym (low_once (without_bits w.group x) k) ∙ ap (λ n. n % 2 ^ k) (without_low x w.group k))
    ∙ sym (or_mod (without_bits w.group (x % 2 ^ k)) w.value k)

added_low : (x n k : ℕ) → bit_or x n % 2 ^ k ≡ bit_or (x % 2 ^ k) n % 2 ^ k
added_low x n k =
    or_mod x n k ∙ ap (λ y. bit_or y (n % 2 ^ k)) (sym (low_once x k)) ∙ sym (or_mod (x % 2 ^ k) n k)

chosen_low : (c d : Bool) (n : ℕ) (w v : Option FlagWord) (x k : ℕ)
    → (if c then bit_or x n else if d then replaced w x else replaced v x) % 2 ^ k
    ≡ (if c then bit_or (x % 2 ^ k) n else if d then replaced w (x % 2 ^ k) else replaced v (x % 2 ^ k)) % 2 ^ k
chosen_low true d n w v x k = added_low x n k
chosen_low false true n w v x k = replaced_low w x k
chosen_low false false n w v x k = replaced_low v x k

module _ (s : Source) (words : List FlagWord) where
  flag_low : (x : ℕ) (p : Part) → with_flag s words x p % 2 ^ 32 ≡ with_flag s words (x % 2 ^ 32) p % 2 ^ 32
  flag_low x p =
      chosen_low (has FLAGS p.below) (p.production == CLASS_ATTR_NESTED) (flags_number s p.below)
      (flag_word nested_words (word_at s (last_token p.below))) (flag_word words (word_at s (last_token p.below))) x 32

  -- only the lowest bits of what came before count for the lowest bits of the whole
  pub row_low : (ps : List Part) (x : ℕ) → fold (with_flag s words) x ps % 2 ^ 32 ≡ fold (with_flag s words) (x % 2 ^ 32) ps % 2 ^ 32
  row_low [] x = sym (low_once x 32)
  row_low (p ∷ ps) x =
      row_low ps (with_flag s words x p)
      ∙ ap (λ y. fold (with_flag s words) y ps % 2 ^ 32) (flag_low x p)
      ∙ sym (row_low ps (with_flag s words (x % 2 ^ 32) p))

-- ---- the row

module _ (more end : ℕ) where
  pub flags_joined : (f g : Forest) → flags_in more end (joined f g) ≡ flags_in more end f ++ flags_in more end g
  flags_joined tree.none g = refl
  flags_joined (tree.leaf token after) g = flags_joined after g
  flags_joined (tree.branch p below after) g =
      let here = if p == more then flags_in more end below else if p == end then [] else part p below ∷ [] in
      ap (λ ps. here ++ ps) (flags_joined after g) ∙ sym (append_assoc here (flags_in more end after) (flags_in more end g))

  pub more_flags : (p : ℕ) (b a : Forest) → (p == more) ≡ true → flags_in more end (tree.branch p b a) ≡ flags_in more end b ++ flags_in more end a
  more_flags p b a e = ap (λ (c : Bool). (if c then flags_in more end b else if p == end then [] else part p b ∷ []) ++ flags_in more end a) e

  pub no_flags : (p : ℕ) (b a : Forest) → (p == more) ≡ false → (p == end) ≡ true → flags_in more end (tree.branch p b a) ≡ flags_in more end a
  no_flags p b a e h =
      ap (λ (c : Bool). (if c then flags_in more end b else if p == end then [] else part p b ∷ []) ++ flags_in more end a) e
      ∙ ap (λ (c : Bool). (if c then [] else part p b ∷ []) ++ flags_in more end a) h

  pub one_flag : (p : ℕ) (b a : Forest) → (p == more) ≡ false → (p == end) ≡ false
      → flags_in more end (tree.branch p b a) ≡ part p b ∷ flags_in more end a
  one_flag p b a e h =
      ap (λ (c : Bool). (if c then flags_in more end b else if p == end then [] else part p b ∷ []) ++ flags_in more end a) e
      ∙ ap (λ (c : Bool). (if c then [] else part p b ∷ []) ++ flags_in more end a) h

-- the lowest 32 bits of the lowest 64
pub low_of_64 : (x : ℕ) → x % 2 ^ 64 % 2 ^ 32 ≡ x % 2 ^ 32
low_of_64 x = ap (λ n. n % 2 ^ 32) (mod-pow-add x 32 32) ∙ mod_low (x / 2 ^ 32 % 2 ^ 32) 32 (x % 2 ^ 32) (mod_below x (2 ^ 32) (pow_pos 32))

-- what `flags(n)` adds
pub number_added : (s : Source) (words : List FlagWord) (flags : ℕ) → flags < 2 ^ 32 → (p : Part) → has FLAGS p.below ≡ true
    → (n : ℕ) → n ≡ flags_number s p.below % 2 ^ 32 → bit_or flags n ≡ with_flag s words flags p % 2 ^ 32
number_added s words flags fits p h n e =
    let number = flags_number s p.below in
    ap (bit_or flags) e ∙ ap (λ x. bit_or x (number % 2 ^ 32)) (sym (small flags 32 fits)) ∙ sym (or_mod flags number 32)
    ∙ ap (λ (b : Bool). (if b then bit_or flags number else if p.production == CLASS_ATTR_NESTED
    then replaced (flag_word nested_words (word_at s (last_token p.below))) flags
    else replaced (flag_word words (word_at s (last_token p.below))) flags) % 2 ^ 32) (sym h)

-- ---- a flag of one node

one_leaf : ForestOpens → (f : Forest) (token : ℕ) → preorder f ≡ Leaf token ∷ [] → f ≡ tree.leaf token tree.none
one_leaf opens f token e = let b = opens.leaf f token [] e in b.is ∙ ap (tree.leaf token) (opens.none b.after b.rest)

alone : (xs : List TreeNode) (x y : TreeNode) → 1 ≤ length xs → length xs < 2 → get_or xs 0 y ≡ x → xs ≡ x ∷ []
alone [] x y some few e = absurd (omega (arith, some))
alone (z ∷ []) x y some few e = ap (λ n. n ∷ []) e
alone (z ∷ v ∷ zs) x y some few e = absurd (omega (arith, few))

module _ (opens : ForestOpens) (xs : List TreeNode) (token : ℕ) (y : TreeNode) (some : 1 ≤ length xs) (few : length xs < 2) (is : get_or xs 0 y ≡ Leaf token)
    (f : Forest) (e : preorder f ≡ xs) where
  own : f ≡ tree.leaf token tree.none
  own = one_leaf opens f token (e ∙ alone xs (Leaf token) y some few is)

  pub no_number : false ≡ has FLAGS f
  no_number = ap (has FLAGS) (sym own)

  pub own_word : token ≡ last_token f
  own_word = ap last_token (sym own)

-- ---- the rest of a row

module _ (s : Source) (row : Row) (flags : ℕ) where
  pub after_more : (p : ℕ) (b a : Forest) → (p == more_of row) ≡ true → flags_after s row flags (joined b a) ≡ flags_after s row flags (tree.branch p b a)
  after_more p b a e =
      ap (λ ps. fold (with_flag s (words_of row)) flags ps % 2 ^ 32)
      (flags_joined (more_of row) (end_of row) b a ∙ sym (more_flags (more_of row) (end_of row) p b a e))

  pub after_end : (p : ℕ) (b a : Forest) → (p == more_of row) ≡ false → (p == end_of row) ≡ true
      → flags_after s row flags a ≡ flags_after s row flags (tree.branch p b a)
  after_end p b a e h = ap (λ ps. fold (with_flag s (words_of row)) flags ps % 2 ^ 32) (sym (no_flags (more_of row) (end_of row) p b a e h))

  pub after_flag : (p : ℕ) (b a : Forest) → (p == more_of row) ≡ false → (p == end_of row) ≡ false
      → (n : ℕ) → n ≡ with_flag s (words_of row) flags (part p b) % 2 ^ 32 → flags_after s row n a ≡ flags_after s row flags (tree.branch p b a)
  after_flag p b a e h n is =
      let ps = flags_in (more_of row) (end_of row) a in
      ap (λ x. fold (with_flag s (words_of row)) x ps % 2 ^ 32) is
      ∙ sym (row_low s (words_of row) ps (with_flag s (words_of row) flags (part p b)))
      ∙ ap (λ qs. fold (with_flag s (words_of row)) flags qs % 2 ^ 32) (sym (one_flag (more_of row) (end_of row) p b a e h))

  pub after_all : flags < 2 ^ 32 → flags ≡ flags_after s row flags tree.none
  after_all fits = sym (small flags 32 fits)

-- what is asked of the rest of a row, of each source that a reader reads
abbrev pub asked : (r : Reader) → Row → ℕ → ((s : Source) × Reads r s) → Forest → ℕ
asked r row flags i f = flags_after i.0 row flags f

-- ---- narrower flags

low_of_32 : (x : ℕ) → x % 2 ^ 32 % 2 ^ 16 ≡ x % 2 ^ 16
low_of_32 x = ap (λ n. n % 2 ^ 16) (mod-pow-add x 16 16) ∙ mod_low (x / 2 ^ 16 % 2 ^ 16) 16 (x % 2 ^ 16) (mod_below x (2 ^ 16) (pow_pos 16))

-- the lowest 16 bits, from the lowest 32
pub narrowed : (x flags low : ℕ) → flags ≡ x % 2 ^ 32 → low ≡ flags % 2 ^ 16 → low ≡ x % 2 ^ 16
narrowed x flags low e h = h ∙ ap (λ n. n % 2 ^ 16) e ∙ low_of_32 x

-- and without the bits that aren't in the tree
pub narrowed_without : (x flags low g : ℕ) → flags ≡ x % 2 ^ 32 → low ≡ flags % 2 ^ 16 → low - bit_and low g ≡ without_bits g x % 2 ^ 16
narrowed_without x flags low g e h = ap (without_bits g) (narrowed x flags low e h) ∙ sym (without_low x g 16)

-- a bit is asked of the lowest bits as of all
pub bit_of_low : (x flags : ℕ) → flags ≡ x % 2 ^ 32 → bit_and flags 0x20 ≡ bit_and x 0x20
bit_of_low x flags e =
    ap (λ n. bit_and n 0x20) e
    ∙ ap (bit_and (x % 2 ^ 32)) (sym (small 0x20 32 (omega arith)))
    ∙ sym (and_mod x 0x20 32)
    ∙ small (bit_and x 0x20) 32 (omega (arith, and_le_r x 0x20))
