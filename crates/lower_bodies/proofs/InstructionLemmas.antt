-- The instructions of a method whose numbers are in their ranges.
use Rattle.std.proofs.Common.{◌≡◌, ℕ, zero, suc, List, [], ◌∷◌, Some, cond, map, slice_get, refl, ap, sym, ◌∙◌}
use Rattle.std.specs.Prelude.{Bool, true, false, ◌==◌, ◌||◌, filter}
use Rattle.std.specs.List.{flat_map, list_any}
use Rattle.std.proofs.lemmas.Bool.Decides.{Decides-eqb}
use Rattle.std.proofs.lemmas.Option.{same_Some}
use Rattle.ilasm_grammar.specs.declared.productions.TheConstants.{INSTRUCTION_OP_REAL, INSTRUCTION_OP_VAR}
use Rattle.source_model.specs.Bodies.{code}
use Rattle.source_model.specs.BodyNumbers.{real_out_of_range, variable_out_of_range}
use Rattle.source_model.specs.Forest.{Forest, Part}
use Rattle.source_model.specs.Instructions.{instruction_forms, instructions_of}
use Rattle.source_model.specs.Nodes.{Around}
use Rattle.source_model.specs.Operands.{instruction}
use Rattle.source_model.specs.Source.{Source}
use Rattle.ilasm_grammar.specs.declared.tree.TreeNode.{TreeNode}
use Rattle.source_nodes.specs.Pieces.{ArePieces, piece_of, written}
use Rattle.source_nodes.specs.declared.pieces.Piece.{Piece}
use Rattle.source_nodes.proofs.Empties.{nothing_in}
use Rattle.source_flags.specs.InRange.{IsInRange}
use Rattle.source_flags.proofs.Gathered.{IsSought, all_at, of_parts}
use Rattle.lower_bodies.specs.MethodsInRange.{IsInstructionInRange, IsMethodInRange}

-- what those of one form give nothing of, each of them gives nothing of
nothing_of : (g : Part → List ℕ) (form : ℕ) (ps : List Part) (i : ℕ) (p : Part) → flat_map g (filter (λ q. q.production == form) ps) ≡ [] → slice_get ps i ≡ Some p
    → p.production ≡ form → g p ≡ []
nothing_of g form [] i p e at is = absurd cc
nothing_of g form (q ∷ ps) i p e at is = go (q.production == form) refl i at (λ k none here. nothing_of g form ps k p none here is)
  where
    others : List Part
    others = filter (λ r. r.production == form) ps

    more : (c : Bool) → (q.production == form) ≡ c → flat_map g (cond c (q ∷ others) others) ≡ []
    more c own = sym (ap (λ (c : Bool). flat_map g (cond c (q ∷ others) others)) own) ∙ e

    go : (c : Bool) → (q.production == form) ≡ c → (k : ℕ) → slice_get (q ∷ ps) k ≡ Some p
        → ((k : ℕ) → flat_map g others ≡ [] → slice_get ps k ≡ Some p → g p ≡ []) → g p ≡ []
    go true own (suc k) here rest = rest k (nothing_in (g q) (flat_map g others) (more true own)).1 here
    go false other (suc k) here rest = rest k (more false other) here
    go true own zero here rest = ap g (sym (same_Some q p here)) ∙ (nothing_in (g q) (flat_map g others) (more true own)).0
    go false other zero here rest =
        let same : (q.production == form) ≡ true = (Decides-eqb q.production form).1 (ap (λ (r : Part). r.production) (same_Some q p here) ∙ is) in
        absurd cc

-- where one is of a form, some are
one_takes : (form : ℕ) (ps : List Part) (i : ℕ) (p : Part) → slice_get ps i ≡ Some p → p.production ≡ form → list_any (λ q. q.production == form) ps ≡ true
one_takes form [] i p at is = absurd cc
one_takes form (q ∷ ps) i p at is = go (q.production == form) refl i at (λ k here. one_takes form ps k p here is)
  where
    go : (c : Bool) → (q.production == form) ≡ c → (k : ℕ) → slice_get (q ∷ ps) k ≡ Some p
        → ((k : ℕ) → slice_get ps k ≡ Some p → list_any (λ r. r.production == form) ps ≡ true) → (c || list_any (λ r. r.production == form) ps) ≡ true
    go true own k here rest = refl
    go false other (suc k) here rest = rest k here
    go false other zero here rest =
        let same : (q.production == form) ≡ true = (Decides-eqb q.production form).1 (ap (λ (r : Part). r.production) (same_Some q p here) ∙ is) in
        absurd cc

-- whether some are of a form, from where they were found
pub some_take : (nodes : List TreeNode) (form : ℕ) (found : List Piece) (ps : List Part) → ArePieces nodes found ps
    → list_any (λ (x : Piece). x.production == form) found ≡ list_any (λ (p : Part). p.production == form) ps
some_take nodes form found ps are = any_first (λ k. k == form) (piece_of nodes) found ∙ ap (list_any (λ w. w.0 == form)) are ∙ sym (any_written (λ k. k == form) ps)
  where
    any_first : (t : ℕ → Bool) (g : Piece → ℕ × List TreeNode) (xs : List Piece) → list_any (λ (x : Piece). t x.production) xs ≡ list_any (λ w. t w.0) (map (piece_of nodes) xs)
    any_first t g [] = refl
    any_first t g (x ∷ xs) = ap (λ b. t x.production || b) (any_first t g xs)

    any_written : (t : ℕ → Bool) (qs : List Part) → list_any (λ (p : Part). t p.production) qs ≡ list_any (λ w. t w.0) (map written qs)
    any_written t [] = refl
    any_written t (q ∷ qs) = ap (λ b. t q.production || b) (any_written t qs)

module _ (s : Source) (f : Forest) (h : IsMethodInRange s f) where
  pub one_in_range : (i : ℕ) (p : Part) → slice_get (instructions_of f) i ≡ Some p → IsInstructionInRange s f p
  one_in_range i p at =
      let own = all_at (IsSought (IsInRange s) instruction_forms) (instructions_of f) i p (of_parts (IsInRange s) instruction_forms f h.each) at in
      record {
        own = own.1;
        each = own.2;
        real = λ is. nothing_of (real_out_of_range s) INSTRUCTION_OP_REAL (instructions_of f) i p h.reals at is;
        variable = λ is. nothing_of (variable_out_of_range s f) INSTRUCTION_OP_VAR (instructions_of f) i p h.variables at is;
        takes = λ is. one_takes INSTRUCTION_OP_VAR (instructions_of f) i p at is;
      }

pub code_is : (s : Source) (a : Around) (f : Forest) → map (instruction s a f) (instructions_of f) ≡ code s a f
unfolding code
code_is s a f = refl
