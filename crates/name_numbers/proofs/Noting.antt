-- The table with one name more.
use Rattle.std.proofs.Common.{◌≡◌, ℕ, List, ◌∷◌, ◌++◌, [], Option, Some, cond, length, map, sym, ◌∙◌, ap, refl, inl, inr}
use Rattle.std.specs.Prelude.{nat_eq}
use Rattle.std.proofs.lemmas.List.{length-map, map-append}
use Rattle.std.proofs.lemmas.Bool.{eq-eqb, eqb-true, cases_Bool}
use Rattle.hash_places.specs.Slots.{place_of}
use Rattle.name_numbers.specs.Chains.{IsChained}
use Rattle.name_numbers.specs.Table.{Told, told, told_hash, Finds, LacksName}
use Rattle.name_numbers.specs.declared.table.NameTable.{NameTable}
use Rattle.name_numbers.specs.declared.table.Entry.{Entry}
use Rattle.name_numbers.proofs.Chaining.{IsChained-push}

cond_other : (h q : ℕ) (x y : Option ℕ) → (q ≡ h → ⊥) → cond (nat_eq h q) x y ≡ y
cond_other h q x y n = elim (cases_Bool (nat_eq h q)) [
  | inl e ↦ absurd (n (sym (eqb-true h q e)))
  | inr e ↦ ap (λ b. cond b x y) e
]

module _ (old new : NameTable) (heap : List ℕ) (e : Entry) (ok : Finds old heap)
    (lacks : LacksName old.entries heap (told heap e.key))
    (entries : new.entries ≡ old.entries ++ e ∷ [])
    (next : e.next ≡ place_of old.newest (told_hash (told heap e.key)))
    (newest : (q : ℕ) → place_of new.newest q ≡ cond (nat_eq (told_hash (told heap e.key)) q) (Some (length old.entries)) (place_of old.newest q)) where
  abbrev name : Entry → Told
  name x = told heap x.key

  noted_chained : IsChained told_hash (place_of new.newest) (map name old.entries ++ name e ∷ []) (map (λ (x : Entry). x.next) old.entries ++ e.next ∷ [])
  noted_chained =
      let h = told_hash (name e) in
      rw next (IsChained-push told_hash (place_of old.newest) (place_of new.newest) (map name old.entries) (map (λ (x : Entry). x.next) old.entries) (name e)
      ok.chained lacks
      (newest h ∙ ap (λ b. cond b (Some (length old.entries)) (place_of old.newest h)) (eq-eqb h h refl) ∙ ap Some (sym (length-map old.entries name)))
      (λ q n. newest q ∙ cond_other h q _ _ n))

  pub Finds-note : Finds new heap
  Finds-note = record {
    chained = rw (entries, map-append name old.entries (e ∷ []), map-append (λ (x : Entry). x.next) old.entries (e ∷ [])) noted_chained;
  }
