-- Attributes among declarations.
use Rattle.std.proofs.Common.{◌≡◌, ℕ, ◌+◌, ◌≤◌, List, [], ◌∷◌, ◌++◌, Some, length, drop, map, refl, ap, sym, subst, ◌∙◌, append-nil}
use Rattle.std.specs.Prelude.{Bool, true, false, if◌then◌else◌, slice_get}
use Rattle.std.proofs.lemmas.List.{drop_all}
use Rattle.ilasm_grammar.specs.declared.tree.TreeNode.{TreeNode}
use Rattle.source_model.specs.Forest.{Part}
use Rattle.source_model.specs.Items.{customs_outside}
use Rattle.source_nodes.specs.Pieces.{ArePieces, piece_of, written}
use Rattle.source_nodes.specs.declared.pieces.Piece.{Piece}
use Rattle.source_syntax.proofs.MethodLemmas.{drop_at}
use Rattle.lower_manifest.specs.Runs.{begins_run, is_custom}

-- ---- the attributes outside of runs

abbrev pub outside : Bool → List Piece → List Piece
outside in_run [] = []
outside in_run (x ∷ xs) = if is_custom x.production then (if in_run then [] else x ∷ []) ++ outside in_run xs else outside (begins_run x.production) xs

module _ (nodes : List TreeNode) where
  -- the first of what was found is the first of the parts
  first_part : (x : Piece) (xs : List Piece) (p : Part) (ps : List Part) → ArePieces nodes (x ∷ xs) (p ∷ ps) → (x.production ≡ p.production) × (piece_of nodes x ≡ written p) × ArePieces nodes xs ps
  first_part x xs p ps e =
      let first : piece_of nodes x ≡ written p = cc in
      let rest : ArePieces nodes xs ps = cc in
      (ap (λ (w : ℕ × List TreeNode). w.0) first, first, rest)

  pub outside_is : (in_run : Bool) (xs : List Piece) (ps : List Part) → ArePieces nodes xs ps → ArePieces nodes (outside in_run xs) (customs_outside in_run ps)
  outside_is in_run [] [] e = refl
  outside_is in_run [] (p ∷ ps) e = absurd cc
  outside_is in_run (x ∷ xs) [] e = absurd cc
  outside_is in_run (x ∷ xs) (p ∷ ps) e =
      let f = first_part x xs p ps e in
      subst (λ q. ArePieces nodes (outside in_run (x ∷ xs)) (if is_custom q then (if in_run then [] else p ∷ []) ++ customs_outside in_run ps else customs_outside (begins_run q) ps)) f.0
      (go (is_custom x.production) in_run f.1 (outside_is in_run xs ps f.2) (outside_is (begins_run x.production) xs ps f.2))
    where
      go : (c d : Bool) → piece_of nodes x ≡ written p → ArePieces nodes (outside in_run xs) (customs_outside in_run ps)
          → ArePieces nodes (outside (begins_run x.production) xs) (customs_outside (begins_run x.production) ps)
          → ArePieces nodes (if c then (if d then [] else x ∷ []) ++ outside in_run xs else outside (begins_run x.production) xs)
          (if c then (if d then [] else p ∷ []) ++ customs_outside in_run ps else customs_outside (begins_run x.production) ps)
      go true true same own other = own
      go true false same own other = ap (λ w. w ∷ map (piece_of nodes) (outside in_run xs)) same ∙ ap (λ ws. written p ∷ ws) own
      go false d same own other = other

-- one more was looked at
pub taken_next : (found : List Piece) (i : ℕ) (x : Piece) (own : List Piece) (in_run : Bool) (c : Bool) → slice_get found i ≡ Some x → is_custom x.production ≡ c
    → own ++ outside in_run (drop i found) ≡ outside false found
    → own ++ (if c then (if in_run then [] else x ∷ []) ++ outside in_run (drop (i + 1) found) else outside (begins_run x.production) (drop (i + 1) found)) ≡ outside false found
taken_next found i x own in_run c at is e =
    ap (λ (b : Bool). own ++ (if b then (if in_run then [] else x ∷ []) ++ outside in_run (drop (i + 1) found) else outside (begins_run x.production) (drop (i + 1) found))) (sym is)
    ∙ ap (λ xs. own ++ outside in_run xs) (sym (drop_at found i x at)) ∙ e

pub all_taken : (found : List Piece) (i : ℕ) (own : List Piece) (in_run : Bool) → length found ≤ i → own ++ outside in_run (drop i found) ≡ outside false found
    → own ≡ outside false found
all_taken found i own in_run over e =
    sym (ap (λ xs. own ++ outside in_run xs) (drop_all i found over) ∙ append-nil own) ∙ e
