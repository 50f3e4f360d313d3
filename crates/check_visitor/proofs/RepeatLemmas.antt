-- The parts of a production after the first, piece by piece.
use Rattle.std.proofs.Common.{◌≡◌, ℕ, zero, suc, List, [], ◌∷◌, ◌++◌, ap, sym, ◌∙◌, refl}
use Rattle.std.specs.Prelude.{Bool, true, false, ◌==◌, ◌||◌, if◌then◌else◌, map, drop, Option, None, Some}
use Rattle.source_model.specs.Forest as tree
use Rattle.source_model.specs.Forest.{Forest, Part, part, parts, each, below_each, has, is_any_part, joined}
use Rattle.source_model.specs.Laws.{ForestsJoin}
use Rattle.source_model.specs.Undeclared.{end_unless_some}
use Rattle.source_nodes.specs.Least.{least, sooner}
use Rattle.check_visitor.specs.Picks.{picked, picked_past}
use Rattle.check_visitor.specs.declared.repeats.Pick.{Pick}
use Rattle.source_syntax.proofs.LeastLemmas.{sooner_assoc}

-- the least of what was found and of what the rest has past those to be passed over
abbrev pub past : Pick → ℕ → ℕ → Option ℕ → Unit {0} → Forest → Option ℕ
past pick p skip found i f = sooner found (least (picked_past pick p skip f))

module _ (p : ℕ) where
  pub each_own : (q : ℕ) (b a : Forest) → (p == q) ≡ true → each p (tree.branch q b a) ≡ b ∷ each p a
  each_own q b a e = ap (λ (c : Bool). below_each ((if c || false then part q b ∷ [] else parts (p ∷ []) b) ++ parts (p ∷ []) a)) e

  pub each_other : ForestsJoin → (q : ℕ) (b a : Forest) → (p == q) ≡ false → each p (joined b a) ≡ each p (tree.branch q b a)
  each_other joins q b a e =
      ap below_each (joins.parts [] (p ∷ []) b a)
      ∙ ap (λ (c : Bool). below_each ((if c || false then part q b ∷ [] else parts (p ∷ []) b) ++ parts (p ∷ []) a)) (sym e)

module _ (pick : Pick) (p : ℕ) where
  module _ (found : Option ℕ) where
    pub past_other : ForestsJoin → (skip q : ℕ) (b a : Forest) → (p == q) ≡ false
        → past pick p skip found tt (joined b a) ≡ past pick p skip found tt (tree.branch q b a)
    past_other joins skip q b a e = ap (λ fs. sooner found (least (map (picked pick) (drop skip fs)))) (each_other p joins q b a e)

    pub past_first : (skip q : ℕ) (b a : Forest) → (p == q) ≡ true → skip ≡ 1
        → past pick p 0 found tt a ≡ past pick p skip found tt (tree.branch q b a)
    past_first skip q b a e one =
        ap (λ fs. sooner found (least (map (picked pick) (drop 1 fs)))) (sym (each_own p q b a e))
        ∙ ap (λ k. sooner found (least (map (picked pick) (drop k (each p (tree.branch q b a)))))) (sym one)

    pub past_repeat : (skip q token : ℕ) (b a : Forest) → (p == q) ≡ true → skip ≡ 0 → token ≡ picked pick b
        → past pick p skip (sooner found (Some token)) tt a ≡ past pick p skip found tt (tree.branch q b a)
    past_repeat skip q token b a e none is =
        ap (λ k. sooner (sooner found (Some token)) (least (map (picked pick) (drop k (each p a))))) none
        ∙ sooner_assoc found (Some token) (least (map (picked pick) (each p a)))
        ∙ ap (λ k. sooner found (sooner (Some k) (least (map (picked pick) (each p a))))) is
        ∙ ap (λ fs. sooner found (least (map (picked pick) fs))) (sym (each_own p q b a e))
        ∙ ap (λ k. sooner found (least (map (picked pick) (drop k (each p (tree.branch q b a)))))) (sym none)

-- whether a source has an assembly
some_parts : (ps : List Part) (end : ℕ) → is_any_part ps ≡ true → end_unless_some (below_each ps) end ≡ []
some_parts [] end e = absurd cc
some_parts (p ∷ ps) end e = refl

no_parts : (ps : List Part) (end : ℕ) → is_any_part ps ≡ false → end_unless_some (below_each ps) end ≡ end ∷ []
no_parts [] end e = refl
no_parts (p ∷ ps) end e = absurd cc

pub end_if_some : (p : ℕ) (f : Forest) (end : ℕ) → has p f ≡ true → end_unless_some (each p f) end ≡ []
end_if_some p f end e = some_parts (parts (p ∷ []) f) end e

pub end_if_none : (p : ℕ) (f : Forest) (end : ℕ) → has p f ≡ false → end_unless_some (each p f) end ≡ end ∷ []
end_if_none p f end e = no_parts (parts (p ∷ []) f) end e

-- at the end nothing is left
pub drop_none : (skip : ℕ) (xs : List Forest) → xs ≡ [] → drop skip xs ≡ []
drop_none zero xs e = e
drop_none (suc skip) [] e = refl
drop_none (suc skip) (x ∷ xs) e = absurd cc

sooner_none : (found : Option ℕ) → found ≡ sooner found None
sooner_none None = refl
sooner_none (Some x) = refl

pub found_all : (pick : Pick) (p skip : ℕ) (found : Option ℕ) → found ≡ past pick p skip found tt tree.none
found_all pick p skip found = sooner_none found ∙ ap (λ fs. sooner found (least (map (picked pick) fs))) (sym (drop_none skip (each p tree.none) refl))
