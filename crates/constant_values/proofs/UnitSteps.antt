-- Units that are read two bytes at a time.
use Rattle.std.proofs.Common.{◌≡◌, ℕ, List, [], ◌∷◌, ◌++◌, option_map, Option, Some, None, refl, sym, ap, append_assoc}

pub unit_next : (all more : List ℕ) (unit : ℕ) (o : Option (List ℕ)) → option_map (λ (us : List ℕ). all ++ us) (option_map (λ (us : List ℕ). unit ∷ us) o) ≡ option_map (λ (us : List ℕ). (all ++ unit ∷ []) ++ us) o
unit_next all more unit None = refl
unit_next all more unit (Some us) = ap Some (sym (append_assoc all (unit ∷ []) us))
