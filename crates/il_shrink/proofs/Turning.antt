-- Lists whose items are taken out, with the last one first, and put back one by one.
use Rattle.std.proofs.Common.{◌≡◌, ◌∙◌, sym, ap, List, [], ◌∷◌, ◌++◌, reverse, append_assoc}
use Rattle.std.proofs.lemmas.List.{reverse-append, reverse-reverse}

-- one more item, last of `now`, has been taken out
pub turned_next : {A : Type 0} (old now less turned more : List A) (x : A) → old ≡ now ++ reverse turned → now ≡ less ++ x ∷ [] → more ≡ turned ++ x ∷ [] →
    old ≡ less ++ reverse more
turned_next old now less turned more x e f g =
    e ∙ ap (λ l. l ++ reverse turned) f ∙ append_assoc less (x ∷ []) (reverse turned)
    ∙ ap (λ l. less ++ l) (sym (reverse-append turned (x ∷ []))) ∙ ap (λ l. less ++ reverse l) (sym g)

pub turned_all : {A : Type 0} (old turned : List A) → old ≡ reverse turned → turned ≡ reverse old
turned_all old turned e = sym (reverse-reverse turned) ∙ ap reverse (sym e)

-- the first of what is left is put behind `front`
pub split_next : {A : Type 0} (all front rest less : List A) (x : A) → all ≡ front ++ reverse rest → rest ≡ less ++ x ∷ [] →
    all ≡ (front ++ x ∷ []) ++ reverse less
split_next all front rest less x e f =
    e ∙ ap (λ l. front ++ reverse l) f ∙ ap (λ l. front ++ l) (reverse-append less (x ∷ [])) ∙ sym (append_assoc front (x ∷ []) (reverse less))
