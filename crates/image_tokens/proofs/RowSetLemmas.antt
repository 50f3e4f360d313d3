-- The rows of a set while a row is added.
use Rattle.std.proofs.Common.{◌≡◌, ap, refl, sym, ◌∙◌, ℕ, ◌-◌, ◌<◌, ◌^◌, cond, List, [], ◌∷◌, ◌++◌, map, take, length, Option, Some, nat_eq, arith}
use Rattle.std.proofs.lemmas.Bool.{eq-eqb}
use Rattle.std.proofs.lemmas.List.{take_at, length-append, length-map}
use Rattle.image_tokens.specs.Chains.{IsChained}
use Rattle.image_tokens.specs.Rows.{Lacks, cells_hash}
use Rattle.image_tokens.specs.declared.row_set.Cells.{Cells}
use Rattle.image_tokens.specs.declared.row_set.Linked.{Linked}
use Rattle.image_tokens.proofs.ChainLemmas.{IsChained-push}
use Rattle.image_tokens.proofs.FoundLemmas.{cond_other, map_end}

abbrev pub all_cells : List Linked → List Cells
all_cells rows = map (λ e. e.cells) rows

abbrev pub all_nexts : List Linked → List (Option ℕ)
all_nexts rows = map (λ e. e.next) rows

module _ (newest later : ℕ → Option ℕ) (rows all : List Linked) (e : Linked) (place : ℕ) (at : place ≡ length rows) (is : all ≡ rows ++ e ∷ [])
    (ok : IsChained cells_hash newest (all_cells rows) (all_nexts rows)) where
  pub rows_push : length (all_cells rows) < 2 ^ 24 - 1 → Lacks (all_cells rows) e.cells → e.next ≡ newest (cells_hash e.cells)
      → ((q : ℕ) → later q ≡ cond (nat_eq (cells_hash e.cells) q) (Some place) (newest q))
      → (length all < 2 ^ 24) × IsChained cells_hash later (all_cells all) (all_nexts all)
  rows_push few absent link more =
      let h : ℕ = cells_hash e.cells in
      rw is (
        (let long = length-append rows (e ∷ []) in let same = length-map rows (λ (x : Linked). x.cells) in omega arith),
        rw (map_end (λ (x : Linked). x.cells) rows e, map_end (λ (x : Linked). x.next) rows e, link)
            (IsChained-push cells_hash newest later (all_cells rows) (all_nexts rows) e.cells ok absent
            (more h ∙ ap (λ b. cond b (Some place) (newest h)) (eq-eqb h h refl) ∙ ap Some (at ∙ sym (length-map rows (λ (x : Linked). x.cells))))
            (λ q n. more q ∙ cond_other h q _ _ n)),
      )

  pub rows_undo : length rows < 2 ^ 24 → ((q : ℕ) → later q ≡ newest q) → (length (take place all) < 2 ^ 24) × IsChained cells_hash later (all_cells (take place all)) (all_nexts (take place all))
  rows_undo few kept =
      let keeps : later ≡ newest = λ i q. kept q i in
      let back : take place all ≡ rows = rw is (take_at rows (e ∷ []) place (sym at)) in
      rw (keeps, back) (few, ok)
