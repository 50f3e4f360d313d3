-- The text of a name and the place of its last part in it (ECMA-335 II.5.3).
use Rattle.type_terms.specs.declared.name.TypeId.{TypeId}
use Rattle.std.specs.Prelude.{ℕ, suc, ◌-◌, ◌≡◌, ◌==◌, ◌||◌, nat_le, if◌then◌else◌, true, ◌⊎◌, List, [], ◌∷◌, Option, None, Some, take, drop}
use Rattle.il_lexer.specs.Classes.{first_is}
use Rattle.source_model.specs.Values.{dotted, last_text, all_but_last}

-- the texts of a name's parts joined by dots; from `last` on stands that of the last part, and before the dot in front of it
-- that of all the others
pub record IsTextOf (parts : List (List ℕ)) (text : List ℕ) (last : ℕ) : Type 0 where
  pub whole : text ≡ dotted parts
  pub space : take (last - 1) text ≡ dotted (all_but_last parts)
  pub name : drop last text ≡ last_text parts

-- the name of a type with this space and this name
abbrev pub id_with : List ℕ → List ℕ → TypeId
id_with space name = record { space = space; name = name }

-- what stands behind a part of a name: nothing, or a dot
abbrev pub EndsPart : List ℕ → Type 0
EndsPart after = (after ≡ []) ⊎ (first_is 46 after ≡ true)

-- where the last part begins of a text that goes on at the place `at`, and whose last part so far begins at `last`; None where
-- a byte is a quote or no ASCII
abbrev pub plain_last : ℕ → ℕ → List ℕ → Option ℕ
plain_last at last [] = Some last
plain_last at last (b ∷ bs) =
    if b == 39 || nat_le 128 b then None else if b == 46 then plain_last (suc at) (suc at) bs else plain_last (suc at) last bs
