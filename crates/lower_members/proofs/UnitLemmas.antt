-- Texts and bytes as units of UTF-16.
use Rattle.std.proofs.Common.{◌≡◌, ℕ, ◌⊎◌, inl, inr, List, [], ◌∷◌, ◌++◌, length, refl, ap, sym, subst, ◌∙◌, append-nil}
use Rattle.std.specs.Prelude.{IsUtf8, chars}
use Rattle.std.specs.List.{flat_map}
use Rattle.std.specs.Char.{encode_utf8}
use Rattle.std.specs.Char.Escape.{encode_utf16}
use Rattle.std.proofs.lemmas.List.{append_assoc}
use Rattle.std.proofs.lemmas.Str.{IsUtf8-past_char, chars-nil, chars_past_char}
use Rattle.source_model.specs.Values.{units}

-- what comes next is the second unit of a pair, or the first of the next character
abbrev pub Goes : (pending rest later_pending later_rest : List ℕ) (x : ℕ) → Type 0
Goes pending rest later_pending later_rest x =
    ((pending ≡ x ∷ []) × (later_pending ≡ []) × (later_rest ≡ rest))
    ⊎ ((pending ≡ []) × ((c : ℕ) × (rest ≡ encode_utf8 c ++ later_rest) × (encode_utf16 c ≡ x ∷ later_pending)))

pub later_utf8 : (pending rest later_pending later_rest : List ℕ) (x : ℕ) → IsUtf8 rest → Goes pending rest later_pending later_rest x → IsUtf8 later_rest
later_utf8 pending rest later_pending later_rest x utf8 (inl h) = subst IsUtf8 (sym h.2) utf8
later_utf8 pending rest later_pending later_rest x utf8 (inr h) = IsUtf8-past_char rest later_rest h.1.0 utf8 h.1.1

pub unit_next : (pending rest later_pending later_rest all whole : List ℕ) (x : ℕ) → IsUtf8 rest → Goes pending rest later_pending later_rest x
    → all ++ (pending ++ units rest) ≡ whole → (all ++ x ∷ []) ++ (later_pending ++ units later_rest) ≡ whole
unit_next pending rest later_pending later_rest all whole x utf8 (inl h) e =
    append_assoc all (x ∷ []) (later_pending ++ units later_rest)
    ∙ ap (λ ys. all ++ (x ∷ ys ++ units later_rest)) h.1
    ∙ ap (λ r. all ++ (x ∷ units r)) h.2
    ∙ ap (λ ys. all ++ (ys ++ units rest)) (sym h.0)
    ∙ e
unit_next pending rest later_pending later_rest all whole x utf8 (inr h) e =
    let read : chars rest ≡ h.1.0 ∷ chars later_rest = chars_past_char rest later_rest h.1.0 utf8 h.1.1 in
    append_assoc all (x ∷ []) (later_pending ++ units later_rest)
    ∙ ap (λ ys. all ++ (ys ++ units later_rest)) (sym h.1.2)
    ∙ ap (λ cs. all ++ flat_map encode_utf16 cs) (sym read)
    ∙ ap (λ ys. all ++ (ys ++ units rest)) (sym h.0)
    ∙ e

pub units_start : (pending rest all text : List ℕ) → all ≡ [] → pending ≡ [] → rest ≡ text → all ++ (pending ++ units rest) ≡ units text
units_start pending rest all text a p r = ap (λ xs. xs ++ (pending ++ units rest)) a ∙ ap (λ ys. ys ++ units rest) p ∙ ap units r

no_more : (rest : List ℕ) → length rest ≡ 0 → rest ≡ []
no_more [] e = refl
no_more (x ∷ xs) e = absurd cc

pub units_end : {T : Type 0} {x y : T} (pending rest all whole : List ℕ) → (pending ≡ []) × (length rest ≡ 0) × (x ≡ y) → all ++ (pending ++ units rest) ≡ whole → all ≡ whole
units_end pending rest all whole h e =
    sym (append-nil all) ∙ ap (λ cs. all ++ flat_map encode_utf16 cs) (sym chars-nil) ∙ ap (λ ys. all ++ units ys) (sym (no_more rest h.1))
    ∙ ap (λ ys. all ++ (ys ++ units rest)) (sym h.0) ∙ e
