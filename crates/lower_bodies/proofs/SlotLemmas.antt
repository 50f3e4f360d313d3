-- Labels that are found by a hash of their names.
use Rattle.std.proofs.Common.{◌≡◌, ◌≢◌, ℕ, suc, ◌+◌, ◌<◌, List, [], ◌∷◌, ◌++◌, length, replicate, take, cond, ap, sym, ◌∙◌, refl, arith, get_or, set, slice_get}
use Rattle.std.specs.Prelude.{Bool, true, false, ◌==◌, None, Some, find, bytes_eq}
use Rattle.std.proofs.lemmas.Bool.Decides.{Decides-eqb}
use Rattle.std.proofs.lemmas.List.{get_or-replicate, get_or-set_other, get_or-set_same}
use Rattle.std.proofs.lemmas.Nat.{mod_below}
use Rattle.std.proofs.lemmas.Slice.Eq.{bytes_eq-Decides}
use Rattle.source_model.specs.Source.{Source}
use Rattle.source_model.specs.Values.{name_text}
use Rattle.source_nodes.proofs.PieceLemmas.{take_next}
use Rattle.lower_bodies.specs.LabelSlots.{first_named, if_named, numbered, slot_of}

-- ---- what is found in a list with one item more

module _ {X : Type 0} (p : X → Bool) where
  found_last : (xs : List X) (x : X) → find p xs ≡ None → find p (xs ++ x ∷ []) ≡ cond (p x) (Some x) None
  found_last [] x none = refl
  found_last (y ∷ ys) x none = go (p y) none (found_last ys x)
    where
      go : (c : Bool) → cond c (Some y) (find p ys) ≡ None → (find p ys ≡ None → find p (ys ++ x ∷ []) ≡ cond (p x) (Some x) None)
          → cond c (Some y) (find p (ys ++ x ∷ [])) ≡ cond (p x) (Some x) None
      go true e rest = absurd cc
      go false e rest = rest e

  found_before : (xs : List X) (x : X) → p x ≡ false → find p (xs ++ x ∷ []) ≡ find p xs
  found_before [] x off = ap (λ c. cond c (Some x) None) off
  found_before (y ∷ ys) x off = ap (λ o. cond (p y) (Some y) o) (found_before ys x off)

-- ---- slots

slot_within : (name : List ℕ) → slot_of name < 64
unfolding slot_of
slot_within name = mod_below _ 64 (omega arith)

-- the first of so many labels with a name is found by what the slot of the name holds
abbrev pub Slotted : Source → List ℕ → List ℕ → ℕ → Type 0
Slotted s slots labels k = (name : List ℕ) → numbered s name labels (get_or slots (slot_of name) 0) ≡ first_named s name (take k labels)

pub none_slotted : (s : Source) (slots labels : List ℕ) → slots ≡ replicate 64 0 → Slotted s slots labels 0
none_slotted s slots labels empty name =
    ap (λ l. numbered s name labels (get_or l (slot_of name) 0)) empty ∙ ap (numbered s name labels) (get_or-replicate 64 (slot_of name) 0 0 (slot_within name))

-- the number of a place
at_number : (s : Source) (name labels : List ℕ) (i x : ℕ) → slice_get labels i ≡ Some x → numbered s name labels (i + 1) ≡ if_named s name (Some x)
at_number s name labels i x at = let is : i + 1 ≡ suc i = omega arith in ap (numbered s name labels) is ∙ ap (if_named s name) at

-- a slot that was empty is taken by the next label
pub next_slotted : (s : Source) (slots new labels : List ℕ) (i x : ℕ) → length slots ≡ 64 → slice_get labels i ≡ Some x
    → get_or slots (slot_of (name_text s x)) 0 ≡ 0 → new ≡ set slots (slot_of (name_text s x)) (i + 1) → Slotted s slots labels i → Slotted s new labels (i + 1)
next_slotted s slots new labels i x size at free is h name =
    ap (λ l. numbered s name labels (get_or l own 0)) is ∙ go (own == slot) refl ∙ sym (ap (first_named s name) (take_next labels i x at))
  where
    own : ℕ
    own = slot_of name

    slot : ℕ
    slot = slot_of (name_text s x)

    within : slot < length slots
    within = omega (arith, size, slot_within (name_text s x))

    here : own ≡ slot → numbered s name labels (get_or (set slots slot (i + 1)) own 0) ≡ first_named s name (take i labels ++ x ∷ [])
    here e =
        let none : first_named s name (take i labels) ≡ None =
        sym (h name) ∙ ap (numbered s name labels) (ap (λ k. get_or slots k 0) e ∙ free) in
        ap (λ k. numbered s name labels (get_or (set slots slot (i + 1)) k 0)) e
        ∙ ap (numbered s name labels) (get_or-set_same slots slot (i + 1) 0 within)
        ∙ at_number s name labels i x at
        ∙ sym (found_last (λ token. bytes_eq (name_text s token) name) (take i labels) x none)

    other : own ≢ slot → (b : Bool) → bytes_eq (name_text s x) name ≡ b → b ≡ false
    other apart false e = refl
    other apart true e =
        let same : name_text s x ≡ name = (bytes_eq-Decides (name_text s x) name).0 e in
        absurd (apart (ap slot_of (sym same)))

    there : own ≢ slot → numbered s name labels (get_or (set slots slot (i + 1)) own 0) ≡ first_named s name (take i labels ++ x ∷ [])
    there apart =
        ap (numbered s name labels) (get_or-set_other slots slot own (i + 1) 0 apart)
        ∙ h name
        ∙ sym (found_before (λ token. bytes_eq (name_text s token) name) (take i labels) x (other apart (bytes_eq (name_text s x) name) refl))

    go : (c : Bool) → (own == slot) ≡ c → numbered s name labels (get_or (set slots slot (i + 1)) own 0) ≡ first_named s name (take i labels ++ x ∷ [])
    go true e = here ((Decides-eqb own slot).0 e)
    go false e = there (λ same. let yes = (Decides-eqb own slot).1 same in let no : true ≡ false = sym yes ∙ e in absurd cc)
