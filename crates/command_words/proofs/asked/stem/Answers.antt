use Rattle.std.proofs.Common.{◌≡◌, ℕ, ◌-◌, ◌++◌, List, cond, length, take, drop, sym, ◌∙◌, ap, inl, inr}
use Rattle.std.specs.Prelude.{codes}
use Rattle.std.specs.Str.{bytes_eq}
use Rattle.std.proofs.lemmas.Bool.{cases_Bool}
use Rattle.std.proofs.lemmas.List.{take-append-drop}
use Rattle.std.proofs.lemmas.Slice.Eq.{bytes_eq-Decides}
use Rattle.command_words.specs.Words.{stem_of}
use Rattle.command_words.proofs.asked.stem.Goals as goal

kept : (name : List ℕ) → ((front : List ℕ) → name ≡ front ++ codes ".il" → ⊥) → name ≡ stem_of name
kept name other =
    let end = drop (length name - 3) name in
    elim (cases_Bool (bytes_eq end (codes ".il"))) [
      | inl e ↦ absurd (other (take (length name - 3) name)
          (sym (take-append-drop (length name - 3) name) ∙ ap (λ xs. take (length name - 3) name ++ xs) ((bytes_eq-Decides end (codes ".il")).0 e)))
      | inr e ↦ ap (λ b. cond b (take (length name - 3) name) name) (sym e)
    ]

pub returns-in-None : goal.returns-in-None
returns-in-None c = kept c.args.name.now c.in-None.ensures.cases
