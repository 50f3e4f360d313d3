-- The rows of parameters, from the lines that speak of them.
use Rattle.std.proofs.Common.{◌≡◌, ℕ, zero, suc, ◌+◌, ◌<◌, inl, inr, List, [], ◌∷◌, ◌++◌, Option, None, Some, length, take, refl, ap, sym, subst, ◌∙◌, arith, append_assoc, append-nil}
use Rattle.std.specs.Prelude.{Bool, true, false, ◌==◌, ◌||◌, not, nat_lt, filter, fold, if◌then◌else◌, slice_get, slice_index_or}
use Rattle.std.specs.List.{AllByRecursion, enumerate_from, flat_map}
use Rattle.assembly_tree.specs.declared.members.Attribute.{Attribute}
use Rattle.assembly_tree.specs.declared.members.Constant.{Constant}
use Rattle.assembly_tree.specs.declared.members.Param.{Param}
use Rattle.ilasm_grammar.specs.declared.productions.TheConstants.{NAME_OPT_SOME}
use Rattle.ilasm_grammar.specs.declared.tree.TreeNode.{TreeNode}
use Rattle.source_model.specs.Flags.{flags_of, parameter_flags_in, parameter_words, without_bits}
use Rattle.source_model.specs.Forest as tree
use Rattle.source_model.specs.Forest.{Forest, Part, below_each, child, has, is_among, is_any_part, part, parts}
use Rattle.source_model.specs.Items.{Run, items_and_ends, plain_items, runs}
use Rattle.source_model.specs.Manifests.{attributes}
use Rattle.source_model.specs.Nodes.{Around}
use Rattle.source_model.specs.Parameters.{attributes_of, has_row, line_constant, parameter_name, parameters, row, rows_of, speaks_of_parameter, with_line_flags}
use Rattle.source_model.specs.Source.{Source}
use Rattle.ilasm_grammar.specs.declared.productions.TheConstants.{BLOCK, ITEM_TRY}
use Rattle.std.proofs.lemmas.Bool.Decides.{Decides-eqb}
use Rattle.source_flags.specs.InRange.{AllInRange}
use Rattle.source_flags.proofs.Gathered.{all_append, all_follow}
use Rattle.source_nodes.proofs.PieceLemmas.{take_next}
use Rattle.std.proofs.lemmas.Bool.{lt-ltb}
use Rattle.lower_members.proofs.ParamFlags.{not_zero}
use Rattle.lower_members.specs.NumberedLines.{AreLines, AreRuns, IsLine, IsRun}
use Rattle.lower_members.specs.Parameters.{row_with}
use Rattle.lower_members.specs.Ranged.{IsBodyItem, IsEnd, IsRangedItem}
use Rattle.lower_members.specs.declared.numbered_lines.NumberedLine.{NumberedLine}

-- ---- the items of a body

pub body_ranged : (s : Source) (ps : List Part) → AllByRecursion (IsBodyItem s) ps → AllByRecursion (IsRangedItem s) ps
body_ranged s ps h = all_follow (IsBodyItem s) (IsRangedItem s) ps one h
  where
    one : (p : Part) → IsBodyItem s p → IsRangedItem s p
    one p (inl e) = inl e
    one p (inr r) = inr r.1

pub below_ranged : (s : Source) (p : Part) → IsBodyItem s p → AllInRange s p.below
below_ranged s p (inl (inl e)) = subst (λ (q : Part). AllInRange s q.below) (sym e) tt
below_ranged s p (inl (inr e)) = subst (λ (q : Part). AllInRange s q.below) (sym e) tt
below_ranged s p (inr r) = r.1.1

is_end : (p : ℕ) → (p == ITEM_TRY || p == BLOCK) ≡ true → IsEnd (part p tree.none)
is_end p e = go (p == ITEM_TRY) refl
  where
    go : (c : Bool) → (p == ITEM_TRY) ≡ c → IsEnd (part p tree.none)
    go true is = inl (ap (λ q. part q tree.none) ((Decides-eqb p ITEM_TRY).0 is))
    go false is =
        let block : (p == BLOCK) ≡ true = sym (ap (λ (c : Bool). c || p == BLOCK) is) ∙ e in
        inr (ap (λ q. part q tree.none) ((Decides-eqb p BLOCK).0 block))

pub body_items : (s : Source) (f : Forest) → AllInRange s f → AllByRecursion (IsBodyItem s) (items_and_ends f)
body_items s tree.none h = tt
body_items s (tree.leaf k a) h = body_items s a h
body_items s (tree.branch p b a) h =
    all_append (IsBodyItem s) own (items_and_ends a) (go (is_among plain_items p) (p == ITEM_TRY || p == BLOCK) refl refl (body_items s b h.1)) (body_items s a h.2)
  where
    own : List Part
    own =
        if is_among plain_items p then part p b ∷ []
        else if p == ITEM_TRY || p == BLOCK then (part p tree.none ∷ items_and_ends b) ++ part p tree.none ∷ []
        else items_and_ends b

    go : (c d : Bool) → is_among plain_items p ≡ c → (p == ITEM_TRY || p == BLOCK) ≡ d → AllByRecursion (IsBodyItem s) (items_and_ends b)
        → AllByRecursion (IsBodyItem s)
        (if c then part p b ∷ [] else if d then (part p tree.none ∷ items_and_ends b) ++ part p tree.none ∷ [] else items_and_ends b)
    go true d plain is below = (inr (plain, (h.0, h.1)), tt)
    go false true plain is below =
        let one = is_end p is in
        all_append (IsBodyItem s) (part p tree.none ∷ items_and_ends b) (part p tree.none ∷ []) (inl one, below) (inl one, tt)
    go false false plain is below = below

-- ---- what the lines of a parameter say, one after the other

module _ (s : Source) (nodes : List TreeNode) where
  pub record RunAt (x : NumberedLine) (rs : List Run) (i : ℕ) : Type 0 where
    pub run : Run
    pub at : slice_get rs i ≡ Some run
    pub is : IsRun s nodes x run

  pub run_read : (xs : List NumberedLine) (rs : List Run) (i : ℕ) (d : NumberedLine) → AreRuns s nodes xs rs → i < length xs → RunAt (slice_index_or xs i d) rs i
  run_read [] rs i d h low = absurd (omega (arith, low))
  run_read (x ∷ xs) [] i d h low = absurd h
  run_read (x ∷ xs) (r ∷ rs) zero d h low = record { run = r; at = refl; is = h.0 }
  run_read (x ∷ xs) (r ∷ rs) (suc i) d h low = let rest = run_read xs rs i d h.1 (omega (arith, low)) in record { run = rest.run; at = rest.at; is = rest.is }

  pub as_many_runs : (xs : List NumberedLine) (rs : List Run) → AreRuns s nodes xs rs → length xs ≡ length rs
  as_many_runs [] [] h = refl
  as_many_runs [] (r ∷ rs) h = absurd h
  as_many_runs (x ∷ xs) [] h = absurd h
  as_many_runs (x ∷ xs) (r ∷ rs) h = let rest = as_many_runs xs rs h.1 in omega (arith, rest)

  pub is_any_line : (xs : List NumberedLine) (rs : List Run) → AreRuns s nodes xs rs → not (length xs == 0) ≡ nat_lt 0 (length rs)
  is_any_line [] [] h = refl
  is_any_line [] (r ∷ rs) h = absurd h
  is_any_line (x ∷ xs) [] h = absurd h
  is_any_line (x ∷ xs) (r ∷ rs) h = not_zero (length xs) ∙ sym (lt-ltb 0 (suc (length rs)) (omega arith))

pub line_read : (nodes : List TreeNode) (xs : List NumberedLine) (i : ℕ) (d : NumberedLine) → AreLines nodes xs → i < length xs → IsLine nodes (slice_index_or xs i d)
line_read nodes [] i d h low = absurd (omega (arith, low))
line_read nodes (x ∷ xs) zero d h low = h.0
line_read nodes (x ∷ xs) (suc i) d h low = line_read nodes xs i d h.1 (omega (arith, low))

fold_more : {X : Type 0} (step : X → Run → X) (z : X) (rs : List Run) (r : Run) → fold step z (rs ++ r ∷ []) ≡ step (fold step z rs) r
fold_more step z [] r = refl
fold_more step z (q ∷ rs) r = fold_more step (step z q) rs r

pub fold_next : {X : Type 0} (step : X → Run → X) (z now : X) (rs : List Run) (i : ℕ) (r : Run) → slice_get rs i ≡ Some r → now ≡ fold step z (take i rs)
    → step now r ≡ fold step z (take (i + 1) rs)
fold_next step z now rs i r at e = ap (λ x. step x r) e ∙ sym (fold_more step z (take i rs) r) ∙ ap (fold step z) (sym (take_next rs i r at))

abbrev pub with_customs : Source → Around → List Attribute → Run → List Attribute
with_customs s a all r = all ++ attributes s a r.customs

pub all_customs : (s : Source) (a : Around) (rs : List Run) (all : List Attribute) → fold (with_customs s a) all rs ≡ all ++ attributes_of s a rs
all_customs s a [] all = sym (append-nil all)
all_customs s a (r ∷ rs) all = all_customs s a rs (all ++ attributes s a r.customs) ∙ append_assoc all (attributes s a r.customs) (attributes_of s a rs)

-- ---- one row

abbrev made : ℕ → ℕ → List ℕ → Option Constant → List Attribute → Param
made number flags name constant attributes = record { number = number; flags = flags; name = name; constant = constant; attributes = attributes }

pub same_row : (s : Source) (a : Around) (f : Forest) (rs : List Run) (number flags : ℕ) (name : List ℕ) (constant : Option Constant) (customs : List Attribute)
    → flags ≡ fold (with_line_flags s) (flags_of s parameter_words (parameter_flags_in f)) rs → name ≡ parameter_name s f → constant ≡ fold (line_constant s) None rs
    → customs ≡ attributes_of s a rs → made number (without_bits 0x1000 flags) name constant customs ≡ row s a number f rs
same_row s a f rs number flags name constant customs e1 e2 e3 e4 =
    ap (λ x. made number (without_bits 0x1000 x) name constant customs) e1
    ∙ ap (λ x. made number (without_bits 0x1000 (fold (with_line_flags s) (flags_of s parameter_words (parameter_flags_in f)) rs)) x constant customs) e2
    ∙ ap (λ x. made number (without_bits 0x1000 (fold (with_line_flags s) (flags_of s parameter_words (parameter_flags_in f)) rs)) (parameter_name s f) x customs) e3
    ∙ ap (λ x. made number (without_bits 0x1000 (fold (with_line_flags s) (flags_of s parameter_words (parameter_flags_in f)) rs)) (parameter_name s f) (fold (line_constant s) None rs) x) e4

pub same_test : (rs : List Run) (f : Forest) (a b c : Bool) → a ≡ has NAME_OPT_SOME f → b ≡ is_any_part (parameter_flags_in f) → c ≡ nat_lt 0 (length rs) → (a || b || c) ≡ has_row rs f
same_test rs f a b c e1 e2 e3 =
    ap (λ x. x || b || c) e1 ∙ ap (λ x. has NAME_OPT_SOME f || x || c) e2 ∙ ap (λ x. has NAME_OPT_SOME f || is_any_part (parameter_flags_in f) || x) e3

pub with_row : (s : Source) (a : Around) (number : ℕ) (f : Forest) (rs : List Run) (all : List Param) → has_row rs f ≡ true → all ++ row s a number f rs ∷ [] ≡ all ++ row_with s a number f rs
with_row s a number f rs all e = ap (λ (c : Bool). all ++ (if c then row s a number f rs ∷ [] else [])) (sym e)

pub without_row : (s : Source) (a : Around) (number : ℕ) (f : Forest) (rs : List Run) (all : List Param) → has_row rs f ≡ false → all ≡ all ++ row_with s a number f rs
without_row s a number f rs all e = sym (append-nil all) ∙ ap (λ (c : Bool). all ++ (if c then row s a number f rs ∷ [] else [])) (sym e)

-- ---- how many rows were read

abbrev pub the_rows : Source → Around → Forest → ℕ × Forest → List Param
the_rows s a f = rows_of s a (filter speaks_of_parameter (runs (items_and_ends f)))

pub record RowsRead (s : Source) (a : Around) (f : Forest) (number i : ℕ) (all : List Param) : Type 0 where
  pub number-is : number ≡ i
  pub same : all ≡ the_rows s a f (0, tree.none) ++ flat_map (the_rows s a f) (take i (enumerate_from 1 (parameters f)))

-- the same where no line speaks of any
pub record BareRead (s : Source) (a : Around) (f : Forest) (number i : ℕ) (all : List Param) : Type 0 where
  pub number-is : number ≡ i
  pub same : all ≡ flat_map (rows_of s a []) (take i (enumerate_from 1 (parameters f)))

-- within a list, what stands for nothing doesn't count
pub within : (bs : List (List NumberedLine)) (k : ℕ) (d : List NumberedLine) → k < length bs → slice_index_or bs k d ≡ slice_index_or bs k []
within [] k d low = absurd (omega (arith, low))
within (b ∷ bs) zero d low = refl
within (b ∷ bs) (suc k) d low = within bs k d (omega (arith, low))
