-- The part of a production behind so many of them, piece by piece.
use Rattle.std.proofs.Common.{◌≡◌, ℕ, zero, suc, ◌+◌, ◌-◌, length, ◌≤◌, List, [], ◌∷◌, ap, sym, ◌∙◌, refl, arith}
use Rattle.std.specs.Prelude.{true, false, ◌==◌, drop, Option, None, Some}
use Rattle.source_model.specs.Forest as tree
use Rattle.source_model.specs.Forest.{Forest, each, first_token, joined, preorder}
use Rattle.source_model.specs.Laws.{ForestsJoin}
use Rattle.source_model.specs.TypeRules.{first_of}
use Rattle.source_nodes.specs.Least.{least}
use Rattle.source_syntax.proofs.SizeLemmas.{few_each}
use Rattle.check_visitor.proofs.RepeatLemmas.{drop_none, each_other, each_own}

abbrev pub behind : ℕ → ℕ → Unit {0} → Forest → Option ℕ
behind p skip i f = least (first_of (drop skip (each p f)))

drop_one : (skip : ℕ) (f : Forest) (fs : List Forest) → (skip ≡ 0 → ⊥) → drop (skip - 1) fs ≡ drop skip (f ∷ fs)
drop_one zero f fs some = absurd (some refl)
drop_one (suc skip) f fs some = let same : suc skip - 1 ≡ skip = omega arith in ap (λ n. drop n fs) same

module _ (p : ℕ) where
  pub behind_other : ForestsJoin → (skip q : ℕ) (b a : Forest) → (p == q) ≡ false → behind p skip tt (joined b a) ≡ behind p skip tt (tree.branch q b a)
  behind_other joins skip q b a e = ap (λ fs. least (first_of (drop skip fs))) (each_other p joins q b a e)

  pub behind_own : (skip q : ℕ) (b a : Forest) → (p == q) ≡ true → (skip ≡ 0 → ⊥) → behind p (skip - 1) tt a ≡ behind p skip tt (tree.branch q b a)
  behind_own skip q b a e some =
      ap (λ fs. least (first_of fs)) (drop_one skip b (each p a) some)
      ∙ ap (λ fs. least (first_of (drop skip fs))) (sym (each_own p q b a e))

  pub behind_first : (skip q token : ℕ) (b a : Forest) → (p == q) ≡ true → skip ≡ 0 → token ≡ first_token b
      → Some token ≡ behind p skip tt (tree.branch q b a)
  behind_first skip q token b a e none is =
      ap Some is
      ∙ ap (λ fs. least (first_of fs)) (sym (each_own p q b a e))
      ∙ ap (λ n. least (first_of (drop n (each p (tree.branch q b a))))) (sym none)

  pub behind_none : (skip : ℕ) → None ≡ behind p skip tt tree.none
  behind_none skip = ap (λ fs. least (first_of fs)) (sym (drop_none skip (each p tree.none) refl))

drop_past : (n : ℕ) (fs : List Forest) → length fs ≤ n → drop n fs ≡ []
drop_past zero [] few = refl
drop_past zero (f ∷ fs) few = absurd (omega (arith, few))
drop_past (suc n) [] few = refl
drop_past (suc n) (f ∷ fs) few = drop_past n fs (omega (arith, few))

-- of at most so many nodes none is behind so many parts
pub none_past : (p skip : ℕ) (f : Forest) → length (preorder f) ≤ skip → None ≡ least (first_of (drop skip (each p f)))
none_past p skip f few = ap (λ fs. least (first_of fs)) (sym (drop_past skip (each p f) (omega (arith, few, few_each p f))))

-- ---- how many of them there are

abbrev pub counted : ℕ → ℕ → Unit {0} → Forest → ℕ
counted p found i f = found + length (each p f)

module _ (p : ℕ) where
  pub counted_other : ForestsJoin → (found q : ℕ) (b a : Forest) → (p == q) ≡ false → counted p found tt (joined b a) ≡ counted p found tt (tree.branch q b a)
  counted_other joins found q b a e = ap (λ fs. found + length fs) (each_other p joins q b a e)

  pub counted_own : (found q : ℕ) (b a : Forest) → (p == q) ≡ true → counted p (found + 1) tt a ≡ counted p found tt (tree.branch q b a)
  counted_own found q b a e =
      let one : (found + 1) + length (each p a) ≡ found + suc (length (each p a)) = omega arith in
      one ∙ ap (λ fs. found + length fs) (sym (each_own p q b a e))
