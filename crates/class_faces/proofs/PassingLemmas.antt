-- Ids whose types pass a test, one more id at a time.
use Rattle.std.proofs.Common.{◌≡◌, inl, inr, ◌∙◌, sym, ap, subst, ℕ, ◌+◌, ◌<◌, Bool, true, false, List, [], ◌∷◌, ◌++◌, length, get_or, take, IsTrue, true≢false}
use Rattle.std.specs.List.{Contains}
use Rattle.std.proofs.lemmas.List.{take_more}
use Rattle.std.proofs.lemmas.List.Elements.{Contains-append_left, Contains-push, Contains-push_cases}
use Rattle.type_terms.specs.declared.term.SigType.{SigType}
use Rattle.sig_pool.specs.declared.node.Node.{Node}
use Rattle.sig_pool.specs.Terms.{term_of}
use Rattle.type_hierarchy.proofs.QueueLemmas.{no_ids}
use Rattle.class_faces.specs.Marked.{ArePassing}

module _ (test : SigType → Bool) (ns : List Node) where
  pub passing_none : (passing : List ℕ) → passing ≡ [] → ArePassing test ns [] passing
  passing_none passing e j = (λ c. absurd (no_ids j (subst (λ (l : List ℕ). Contains l j) e c)), λ c. absurd (no_ids j c.0))

  pub passing_yes : (ids passing : List ℕ) (key : ℕ) → ArePassing test ns ids passing → IsTrue (test (term_of ns key)) → ArePassing test ns (ids ++ key ∷ []) (passing ++ key ∷ [])
  passing_yes ids passing key h passes j = (to, from)
    where
      to : Contains (passing ++ key ∷ []) j → Contains (ids ++ key ∷ []) j × IsTrue (test (term_of ns j))
      to c = elim (Contains-push_cases passing key j c) [
        | inl d ↦ let p = (h j).0 d in (Contains-append_left ids (key ∷ []) j p.0, p.1)
        | inr e ↦ subst (λ (i : ℕ). Contains (ids ++ key ∷ []) i × IsTrue (test (term_of ns i))) e (Contains-push ids key, passes)
      ]

      from : Contains (ids ++ key ∷ []) j × IsTrue (test (term_of ns j)) → Contains (passing ++ key ∷ []) j
      from p = elim (Contains-push_cases ids key j p.0) [
        | inl d ↦ Contains-append_left passing (key ∷ []) j ((h j).1 (d, p.1))
        | inr e ↦ subst (λ (i : ℕ). Contains (passing ++ key ∷ []) i) e (Contains-push passing key)
      ]

  pub passing_no : (ids passing : List ℕ) (key : ℕ) → ArePassing test ns ids passing → test (term_of ns key) ≡ false → ArePassing test ns (ids ++ key ∷ []) passing
  passing_no ids passing key h fails j = (to, from)
    where
      to : Contains passing j → Contains (ids ++ key ∷ []) j × IsTrue (test (term_of ns j))
      to c = let p = (h j).0 c in (Contains-append_left ids (key ∷ []) j p.0, p.1)

      from : Contains (ids ++ key ∷ []) j × IsTrue (test (term_of ns j)) → Contains passing j
      from p = elim (Contains-push_cases ids key j p.0) [
        | inl d ↦ (h j).1 (d, p.1)
        | inr e ↦ absurd (true≢false (sym p.1 ∙ ap (λ (i : ℕ). test (term_of ns i)) (sym e) ∙ fails))
      ]

  one_more : (all : List ℕ) (k key : ℕ) → k < length all → key ≡ get_or all k key → take (k + 1) all ≡ take k all ++ key ∷ []
  one_more all k key low is = take_more all k key low ∙ ap (λ (x : ℕ). take k all ++ x ∷ []) (sym is)

  pub next_yes : (all : List ℕ) (k key : ℕ) (passing next : List ℕ) (r : Bool) → k < length all → key ≡ get_or all k key → ArePassing test ns (take k all) passing →
      r ≡ test (term_of ns key) → r ≡ true → next ≡ passing ++ key ∷ [] → ArePassing test ns (take (k + 1) all) next
  next_yes all k key passing next r low is h e passes push =
      subst (λ (l : List ℕ). ArePassing test ns l next) (sym (one_more all k key low is))
      (subst (λ (l : List ℕ). ArePassing test ns (take k all ++ key ∷ []) l) (sym push) (passing_yes (take k all) passing key h (sym e ∙ passes)))

  pub next_no : (all : List ℕ) (k key : ℕ) (passing next : List ℕ) (r : Bool) → k < length all → key ≡ get_or all k key → ArePassing test ns (take k all) passing →
      r ≡ test (term_of ns key) → r ≡ false → next ≡ passing → ArePassing test ns (take (k + 1) all) next
  next_no all k key passing next r low is h e fails same =
      subst (λ (l : List ℕ). ArePassing test ns l next) (sym (one_more all k key low is))
      (subst (λ (l : List ℕ). ArePassing test ns (take k all ++ key ∷ []) l) (sym same) (passing_no (take k all) passing key h (sym e ∙ fails)))
