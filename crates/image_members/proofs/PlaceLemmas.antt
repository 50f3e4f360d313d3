-- Lists that are filled step by step.
use Rattle.std.proofs.Common.{◌≡◌, ap, sym, ◌∙◌, List, [], ◌∷◌, ◌++◌, map}
use Rattle.std.specs.Borrow.{Bor}
use Rattle.std.proofs.lemmas.List.{append-nil, append_assoc, map-append}
use Rattle.image_members.specs.Places.{lent}

module _ {X : Type 0} where
  -- what is to follow completes the whole
  pub record FilledTo (start now xs rest : List X) : Type 0 where
    pub on : (later : List X) → later ≡ now ++ rest → later ≡ start ++ xs

  pub filled_begin : (start xs : List X) → FilledTo start start xs xs
  filled_begin start xs = record { on = λ later h. h }

  pub filled_on : (start now next xs rest step more : List X) → rest ≡ step ++ more → FilledTo start now xs rest → next ≡ now ++ step → FilledTo start next xs more
  filled_on start now next xs rest step more e d n = record {
    on = λ later h. d.on later (h ∙ ap (λ ys. ys ++ more) n ∙ append_assoc now step more ∙ ap (λ ys. now ++ ys) (sym e));
  }

  pub filled_end : (start now xs rest : List X) → rest ≡ [] → FilledTo start now xs rest → now ≡ start ++ xs
  filled_end start now xs rest e d = d.on now (sym (append-nil now) ∙ ap (λ ys. now ++ ys) (sym e))

-- one more
pub lent_one : {X : Type 0} → (old new : List (Bor X)) (x : Bor X) → new ≡ old ++ x ∷ [] → lent new ≡ lent old ++ x.now ∷ []
lent_one {X} old new x e = ap (lent {X = X}) e ∙ map-append (λ (y : Bor X). y.now) old (x ∷ [])
