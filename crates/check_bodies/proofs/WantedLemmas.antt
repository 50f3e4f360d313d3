-- Where no instruction has a form, none of the parts that they are has it.
use Rattle.std.proofs.Common.{◌≡◌, ℕ, zero, suc, List, [], ◌∷◌, ◌++◌, map, cond, ap, sym, ◌∙◌, refl, slice_get}
use Rattle.std.specs.Prelude.{Bool, true, false, ◌==◌, ◌||◌, if◌then◌else◌, Some, filter}
use Rattle.std.specs.List.{flat_map, list_any}
use Rattle.std.proofs.lemmas.Bool.Decides.{Decides-eqb}
use Rattle.ilasm_grammar.specs.declared.tree.TreeNode.{TreeNode}
use Rattle.ilasm_grammar.specs.declared.productions.TheConstants.{INSTRUCTION_OP_NUM, INSTRUCTION_OP_REAL, INSTRUCTION_OP_VAR}
use Rattle.source_model.specs.BodyNumbers.{number_out_of_range, real_out_of_range, variable_out_of_range}
use Rattle.source_model.specs.Forest.{Forest, Part}
use Rattle.source_model.specs.Source.{Source}
use Rattle.source_nodes.specs.Pieces.{ArePieces, piece_of, written}
use Rattle.source_nodes.specs.declared.pieces.Piece.{Piece}
use Rattle.check_bodies.specs.OperandRanges.{is_ranged, operand_at_fault, real_at_fault, variable_at_fault}

any_mapped : {X Y : Type 0} (t : Y → Bool) (g : X → Y) (xs : List X) → list_any t (map g xs) ≡ list_any (λ x. t (g x)) xs
any_mapped t g [] = refl
any_mapped t g (x ∷ xs) = ap (λ b. t (g x) || b) (any_mapped t g xs)

neither : (a b : Bool) → (a || b) ≡ false → (a ≡ false) × (b ≡ false)
neither false b e = (refl, e)
neither true b e = absurd cc

no_part : (form : ℕ) (ps : List Part) (k : ℕ) (p : Part) → list_any (λ (q : Part). q.production == form) ps ≡ false → slice_get ps k ≡ Some p
    → p.production ≡ form → ⊥
no_part form [] k p none at is = absurd cc
no_part form (q ∷ ps) zero p none at is =
    let same : q ≡ p = cc in
    let here = (neither (q.production == form) (list_any (λ (r : Part). r.production == form) ps) none).0 in
    let own : (q.production == form) ≡ true = (Decides-eqb q.production form).1 (ap (λ (r : Part). r.production) same ∙ is) in
    let bad : true ≡ false = sym own ∙ here in absurd cc
no_part form (q ∷ ps) (suc k) p none at is =
    no_part form ps k p (neither (q.production == form) (list_any (λ (r : Part). r.production == form) ps) none).1 at is

pub none_of_form : (nodes : List TreeNode) (found : List Piece) (ps : List Part) (form k : ℕ) (p : Part) → ArePieces nodes found ps
    → list_any (λ (x : Piece). x.production == form) found ≡ false → slice_get ps k ≡ Some p → p.production ≡ form → ⊥
none_of_form nodes found ps form k p are none at is =
    let t : ℕ × List TreeNode → Bool = λ w. w.0 == form in
    no_part form ps k p (sym (sym (any_mapped t (piece_of nodes) found) ∙ ap (list_any t) are ∙ any_mapped t written ps) ∙ none) at is

-- what some productions are, the parts are
same_any : (t : ℕ → Bool) (nodes : List TreeNode) (found : List Piece) (ps : List Part) → ArePieces nodes found ps
    → list_any (λ (x : Piece). t x.production) found ≡ list_any (λ (p : Part). t p.production) ps
same_any t nodes found ps are =
    let own : ℕ × List TreeNode → Bool = λ w. t w.0 in
    sym (any_mapped own (piece_of nodes) found) ∙ ap (list_any own) are ∙ any_mapped own written ps

none_filtered : (form : ℕ) (ps : List Part) → list_any (λ (p : Part). p.production == form) ps ≡ false → filter (λ (p : Part). p.production == form) ps ≡ []
none_filtered form [] e = refl
none_filtered form (p ∷ ps) e =
    let both = neither (p.production == form) (list_any (λ (q : Part). q.production == form) ps) e in
    let rest = filter (λ (q : Part). q.production == form) ps in
    ap (λ (c : Bool). cond c (p ∷ rest) rest) both.0 ∙ none_filtered form ps both.1

pub none_asked : (g : Part → List ℕ) (form : ℕ) (nodes : List TreeNode) (found : List Piece) (ps : List Part) → ArePieces nodes found ps
    → list_any (λ (x : Piece). x.production == form) found ≡ false → flat_map g (filter (λ (p : Part). p.production == form) ps) ≡ []
none_asked g form nodes found ps are none =
    ap (flat_map g) (none_filtered form ps (sym (same_any (λ p. p == form) nodes found ps are) ∙ none))

-- an instruction of another form has no number that can be at fault
unranged : (s : Source) (f : Forest) (p : Part) → is_ranged p.production ≡ false → operand_at_fault s f p ≡ []
unranged s f p e =
    let first = neither (p.production == INSTRUCTION_OP_NUM) (p.production == INSTRUCTION_OP_REAL || p.production == INSTRUCTION_OP_VAR) e in
    let second = neither (p.production == INSTRUCTION_OP_REAL) (p.production == INSTRUCTION_OP_VAR) first.1 in
    ap (λ (c : Bool). (if c then number_out_of_range s p else []) ++ (real_at_fault s p ++ variable_at_fault s f p)) first.0
    ∙ ap (λ (c : Bool). (if c then real_out_of_range s p else []) ++ variable_at_fault s f p) second.0
    ∙ ap (λ (c : Bool). if c then variable_out_of_range s f p else []) second.1

none_ranged_in : (s : Source) (f : Forest) (ps : List Part) → list_any (λ (p : Part). is_ranged p.production) ps ≡ false → flat_map (operand_at_fault s f) ps ≡ []
none_ranged_in s f [] e = refl
none_ranged_in s f (p ∷ ps) e =
    let both = neither (is_ranged p.production) (list_any (λ (q : Part). is_ranged q.production) ps) e in
    ap (λ ks. ks ++ flat_map (operand_at_fault s f) ps) (unranged s f p both.0) ∙ none_ranged_in s f ps both.1

pub none_ranged : (s : Source) (f : Forest) (nodes : List TreeNode) (found : List Piece) (ps : List Part) → ArePieces nodes found ps
    → list_any (λ (x : Piece). is_ranged x.production) found ≡ false → flat_map (operand_at_fault s f) ps ≡ []
none_ranged s f nodes found ps are none = none_ranged_in s f ps (sym (same_any is_ranged nodes found ps are) ∙ none)

-- where no number can be at fault, no instruction is one of variables
pub none_of_variables : (found : List Piece) → list_any (λ (x : Piece). is_ranged x.production) found ≡ false
    → list_any (λ (x : Piece). x.production == INSTRUCTION_OP_VAR) found ≡ false
none_of_variables [] e = refl
none_of_variables (x ∷ found) e =
    let both = neither (is_ranged x.production) (list_any (λ (y : Piece). is_ranged y.production) found) e in
    let first = neither (x.production == INSTRUCTION_OP_NUM) (x.production == INSTRUCTION_OP_REAL || x.production == INSTRUCTION_OP_VAR) both.0 in
    let second = neither (x.production == INSTRUCTION_OP_REAL) (x.production == INSTRUCTION_OP_VAR) first.1 in
    ap (λ b. b || list_any (λ (y : Piece). y.production == INSTRUCTION_OP_VAR) found) second.1 ∙ none_of_variables found both.1
