-- No two assemblies have one key.
use Rattle.std.proofs.Common.{◌≡◌, ℕ, suc, ◌+◌, ◌<◌, ◌≤◌, ◌^◌, ◌&&◌, ◌||◌, not, nat_lt, Bool, true, false, cond, if◌then◌else◌, pos, List, [], ◌∷◌, ◌++◌, length, length-append, append_assoc, filter, Some, inl, inr, refl, ap, sym, subst, ◌∙◌, arith}
use Rattle.std.proofs.lemmas.Bool.{cases_Bool, true≢false}
use Rattle.std.proofs.lemmas.List.Elements.{filter-append}
use Rattle.std.proofs.lemmas.Slice.Eq.{bytes_eq-Decides}
use Rattle.std.specs.List.{list_any}
use Rattle.std.specs.Str.{bytes_eq}
use Rattle.il_lexer.specs.Classes.{first_is}
use Rattle.assembly_tree.specs.WellFormedNames.{all_differ}
use Rattle.assembly_tree.specs.declared.assembly.ExternAssembly.{ExternAssembly}
use Rattle.source_model.specs.Values.{integer}
use Rattle.listing_leaves.specs.Numbers.{natural}
use Rattle.listing_model.specs.Types.{has_alias, alias, key_in}
use Rattle.listing_values.specs.Laws.{NumbersAreRead}
use Rattle.listing_keys.specs.Laws.{keys, KeysDiffer}

same_text : (x y : List ℕ) → bytes_eq x y ≡ true → x ≡ y
same_text x y e = (bytes_eq-Decides x y).0 e

own_text : (x : List ℕ) → bytes_eq x x ≡ true
own_text x = (bytes_eq-Decides x x).1 refl

-- how many of these have the name of this one
abbrev namesakes : ExternAssembly → List ExternAssembly → ℕ
namesakes e es = length (filter (λ other. bytes_eq other.name e.name) es)

namesakes_join : (e : ExternAssembly) (xs ys : List ExternAssembly) → namesakes e (xs ++ ys) ≡ namesakes e xs + namesakes e ys
namesakes_join e xs ys =
    ap (λ zs. length zs) (filter-append (λ other. bytes_eq other.name e.name) xs ys)
    ∙ length-append (filter (λ other. bytes_eq other.name e.name) xs) (filter (λ other. bytes_eq other.name e.name) ys)

one_more : (e x : ExternAssembly) (es : List ExternAssembly) → bytes_eq x.name e.name ≡ true → namesakes e (x ∷ es) ≡ suc (namesakes e es)
one_more e x es h =
    ap (λ (c : Bool). length (cond c (x ∷ filter (λ other. bytes_eq other.name e.name) es) (filter (λ other. bytes_eq other.name e.name) es))) h

many : (n : ℕ) → 2 ≤ n → nat_lt 1 n ≡ true
many n h = grind (arith, h)

-- where two of a list have one name, it is no name of one alone
two_of : (before mid after : List ExternAssembly) (e x : ExternAssembly) → bytes_eq x.name e.name ≡ true → nat_lt 1 (namesakes e (before ++ (e ∷ (mid ++ (x ∷ after))))) ≡ true
two_of before mid after e x h =
    let first = namesakes_join e before (e ∷ (mid ++ (x ∷ after))) in
    let own = one_more e e (mid ++ (x ∷ after)) (own_text e.name) in
    let second = namesakes_join e mid (x ∷ after) in
    let other = one_more e x after h in
    many (namesakes e (before ++ (e ∷ (mid ++ (x ∷ after))))) (omega arith)

-- ---- two keys

module _ (numbers : NumbersAreRead) (all : List ExternAssembly) where
  by_hash : (c d : Bool) → (if c then true else d) ≡ false → (c ≡ false) × (d ≡ false)
  by_hash true d e = absurd (true≢false e)
  by_hash false d e = (refl, e)

  plain_name : (e : ExternAssembly) → has_alias all e ≡ false → (first_is 35 e.name ≡ false) × (nat_lt 1 (namesakes e all) ≡ false)
  plain_name e h = by_hash (first_is 35 e.name) (nat_lt 1 (namesakes e all)) h

  no_alias : (k : ℕ) (e : ExternAssembly) → has_alias all e ≡ false → alias k ≡ e.name → ⊥
  no_alias k e h i = true≢false (ap (first_is 35) i ∙ (plain_name e h).0)

  aliases_differ : (j k : ℕ) → j < k → k < 2 ^ 128 → alias j ≡ alias k → ⊥
  aliases_differ j k less small i =
      let small_j : j < 2 ^ 128 = omega arith in
      let texts : natural j ≡ natural k = tails (natural j) (natural k) i in
      let ints : pos j ≡ pos k = sym (numbers.natural j small_j) ∙ (ap integer texts ∙ numbers.natural k small) in
      let same : j ≡ k = cc in
      omega arith
    where
      tails : (xs ys : List ℕ) → (35 ∷ xs) ≡ (35 ∷ ys) → xs ≡ ys
      tails xs ys e = cc

  pair_by : (b c : Bool) (j k : ℕ) (e x : ExternAssembly) → has_alias all e ≡ b → has_alias all x ≡ c → j < k → k < 2 ^ 128 →
      (bytes_eq x.name e.name ≡ true → nat_lt 1 (namesakes e all) ≡ true) → cond b (alias j) e.name ≡ cond c (alias k) x.name → ⊥
  pair_by true true j k e x hb hc less small twice i = aliases_differ j k less small i
  pair_by true false j k e x hb hc less small twice i = no_alias j x hc i
  pair_by false true j k e x hb hc less small twice i = no_alias k e hb (sym i)
  pair_by false false j k e x hb hc less small twice i =
      true≢false (sym (twice (subst (λ t. bytes_eq x.name t ≡ true) (sym i) (own_text x.name))) ∙ (plain_name e hb).1)

  pair : (j k : ℕ) (e x : ExternAssembly) → j < k → k < 2 ^ 128 → (bytes_eq x.name e.name ≡ true → nat_lt 1 (namesakes e all) ≡ true) →
      bytes_eq (key_in all j (Some e)) (key_in all k (Some x)) ≡ false
  pair j k e x less small twice = elim (cases_Bool (bytes_eq (key_in all j (Some e)) (key_in all k (Some x)))) [
    | inl is ↦ absurd (pair_by (has_alias all e) (has_alias all x) j k e x refl refl less small twice (same_text (key_in all j (Some e)) (key_in all k (Some x)) is))
    | inr other ↦ other
  ]

  -- ---- one and those behind it

  none_later : (j : ℕ) (e : ExternAssembly) (before mid later : List ExternAssembly) → all ≡ before ++ (e ∷ (mid ++ later)) → (k : ℕ) → j < k → k + length later < 2 ^ 128 →
      list_any (bytes_eq (key_in all j (Some e))) (keys all k later) ≡ false
  none_later j e before mid [] is k less small = refl
  none_later j e before mid (x ∷ xs) is k less small =
      let small_k : k < 2 ^ 128 = omega arith in
      let next : j < suc k = omega arith in
      let small_next : suc k + length xs < 2 ^ 128 = omega arith in
      let twice : bytes_eq x.name e.name ≡ true → nat_lt 1 (namesakes e all) ≡ true =
      λ h. ap (λ es. nat_lt 1 (namesakes e es)) is ∙ two_of before mid xs e x h in
      let moved : all ≡ before ++ (e ∷ ((mid ++ x ∷ []) ++ xs)) = is ∙ ap (λ es. before ++ (e ∷ es)) (sym (append_assoc mid (x ∷ []) xs)) in
      ap (λ c. c || list_any (bytes_eq (key_in all j (Some e))) (keys all (suc k) xs)) (pair j k e x less small_k twice)
      ∙ none_later j e before (mid ++ x ∷ []) xs moved (suc k) next small_next

  differ_from : (before es : List ExternAssembly) → all ≡ before ++ es → (k : ℕ) → k + length es < 2 ^ 128 → all_differ bytes_eq (keys all k es) ≡ true
  differ_from before [] is k small = refl
  differ_from before (e ∷ es) is k small =
      let less : k < suc k = omega arith in
      let small_next : suc k + length es < 2 ^ 128 = omega arith in
      let moved : all ≡ (before ++ e ∷ []) ++ es = is ∙ sym (append_assoc before (e ∷ []) es) in
      ap (λ c. not c && all_differ bytes_eq (keys all (suc k) es)) (none_later k e before [] es is (suc k) less small_next)
      ∙ differ_from (before ++ e ∷ []) es moved (suc k) small_next

pub keys_differ : NumbersAreRead → KeysDiffer
keys_differ numbers all few = let small : 0 + length all < 2 ^ 128 = omega arith in differ_from numbers all [] all refl 0 small
