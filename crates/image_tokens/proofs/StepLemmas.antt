-- A step for each item of a list, in order: what holds of each later on, and how many bytes more come.
use Rattle.std.proofs.Common.{◌≡◌, ap, sym, ◌∙◌, subst, ℕ, ◌+◌, ◌≤◌, ◌^◌, List, [], ◌∷◌, arith}
use Rattle.std.specs.Prelude.{sum_by}
use Rattle.std.specs.List.{AllByRecursion}
use Rattle.std.proofs.lemmas.List.Sums.{sum_by-cons}
use Rattle.image_tokens.specs.BodyTokens.{Notes}
use Rattle.image_tokens.specs.References.{size, Grows, AreKnown}
use Rattle.image_tokens.specs.declared.references.References.{References}
use Rattle.image_tokens.proofs.GrowthLemmas.{grows_refl, grows_trans}
use Rattle.image_tokens.proofs.NameLemmas.{all_weaker}

-- what holds of a state holds of a later one
abbrev pub IsKept : {X : Type 0} → (References → X → Type 0) → Type 0
IsKept {X = X} Has = (a b : References) → Grows a b → (x : X) → Has a x → Has b x

module _ {X : Type 0} (weigh : X → ℕ) (Can Has : References → X → Type 0) where
  -- those before `rest` are done
  pub record AreDoneTo (old new : References) (xs rest : List X) : Type 0 where
    pub grows : Grows old new
    pub known : AreKnown new
    pub room : size new + sum_by weigh rest ≤ size old + sum_by weigh xs
    pub can : AllByRecursion (Can new) rest
    pub has : (later : References) → Grows new later → AllByRecursion (Has later) rest → AllByRecursion (Has later) xs

  pub done_begin : (a : References) (xs : List X) → AreKnown a → AllByRecursion (Can a) xs → AreDoneTo a a xs xs
  done_begin a xs known can = record { grows = grows_refl a; known = known; room = omega arith; can = can; has = λ later g h. h }

  pub done_can : (a b : References) (xs rest more : List X) (x : X) → rest ≡ x ∷ more → AreDoneTo a b xs rest → Can b x
  done_can a b xs rest more x e d = (subst (λ ys. AllByRecursion (Can b) ys) e d.can).0

  pub done_fits : (a b : References) (xs rest more : List X) (x : X) → rest ≡ x ∷ more → size a + sum_by weigh xs ≤ 2 ^ 26 → AreDoneTo a b xs rest → size b + weigh x ≤ 2 ^ 26
  done_fits a b xs rest more x e fits d =
      let room = d.room in
      let heavy = ap (sum_by weigh) e ∙ sum_by-cons weigh x more in
      omega arith

  pub done_on : IsKept Can → IsKept Has → (a b c : References) (xs rest more : List X) (x : X) (n : ℕ) → rest ≡ x ∷ more → AreDoneTo a b xs rest
      → Notes (λ r. Has r x) b c n → n ≤ weigh x → AreDoneTo a c xs more
  done_on can_kept has_kept a b c xs rest more x n e d h le =
      let heavy = ap (sum_by weigh) e ∙ sum_by-cons weigh x more in
      record {
        grows = grows_trans a b c d.grows h.grows;
        known = h.known;
        room = (let room = d.room in let one = h.room in omega arith);
        can = all_weaker (Can b) (Can c) more (λ y k. can_kept b c h.grows y k) (subst (λ ys. AllByRecursion (Can b) ys) e d.can).1;
        has = λ later g k. d.has later (grows_trans b c later h.grows g) (subst (λ ys. AllByRecursion (Has later) ys) (sym e) (has_kept c later g x h.has, k));
      }

  pub done_end : (a b : References) (xs rest : List X) → rest ≡ [] → AreDoneTo a b xs rest → Notes (λ r. AllByRecursion (Has r) xs) a b (sum_by weigh xs)
  done_end a b xs rest e d = record {
    grows = d.grows;
    known = d.known;
    room = (let room = d.room in omega arith);
    has = d.has b (grows_refl b) (subst (λ ys. AllByRecursion (Has b) ys) (sym e) tt);
  }
