-- The lines of `.param [n]` by their numbers.
use Rattle.std.proofs.Common.{◌≡◌, ℕ, zero, suc, ◌-◌, ◌≤◌, ◌<◌, List, [], ◌∷◌, ◌++◌, cond, length, min, refl, ap, sym, subst, ◌∙◌, arith, append_assoc, append-nil, inl, inr}
use Rattle.std.specs.Prelude.{Bool, true, false, ◌==◌, if◌then◌else◌, filter, nat_lt, slice_index_or, slice_set}
use Rattle.std.specs.List.{AllByRecursion}
use Rattle.std.proofs.lemmas.Bool.{lt-ltb, ltb-false, ltb-true}
use Rattle.std.proofs.lemmas.Bool.Decides.{Decides-eqb}
use Rattle.std.proofs.lemmas.List.{get_or-set_other, get_or-set_same, length-set}
use Rattle.ilasm_grammar.specs.Ilasm.{has_bit}
use Rattle.ilasm_grammar.specs.declared.productions.TheConstants.{ITEM_INSTRUCTION, PARAM_OF_BRACKET}
use Rattle.ilasm_grammar.proofs.TableCheck.{ilasm_tables}
use Rattle.ilasm_grammar.specs.declared.tree.TreeNode.{TreeNode}
use Rattle.source_model.specs.Forest as tree
use Rattle.source_model.specs.Forest.{Forest, Part, has, is_any_part, parts}
use Rattle.source_model.specs.Items.{Run, runs}
use Rattle.source_model.specs.Parameters.{parameter_number, speaks_of_parameter}
use Rattle.source_model.specs.Source.{Source}
use Rattle.source_nodes.specs.Pieces.{ArePieces, piece_of, written}
use Rattle.source_nodes.specs.declared.pieces.Piece.{Piece}
use Rattle.source_flags.specs.declared.outside.Shut.TheVariants.{Instructions}
use Rattle.source_flags.proofs.Apart.{is_past, mask_of, same_outside}
use Rattle.source_flags.proofs.Gathered.{all_append, has_bodies}
use Rattle.source_nodes.specs.Derived.{FitsBody, HasBodies}
use Rattle.lower_members.specs.FieldContexts.{run_at}
use Rattle.lower_members.specs.NumberedLines.{AllLines, AreLines, AreNumbered, AreRuns, IsLine, IsRun, appended, no_lines, own_lines, with_line}
use Rattle.lower_members.specs.Ranged.{IsBodyItem}
use Rattle.lower_members.specs.declared.numbered_lines.NumberedLine.{NumberedLine}
use Rattle.lower_members.proofs.FieldLemmas.{first_piece}

abbrev Buckets : Type 0
Buckets = List (List NumberedLine)

-- ---- lists without lines

pub none_at : (n k : ℕ) → slice_index_or (no_lines n) k [] ≡ []
none_at zero k = refl
none_at (suc n) zero = refl
none_at (suc n) (suc k) = none_at n k

pub none_many : (n : ℕ) → length (no_lines n) ≡ n
none_many zero = refl
none_many (suc n) = let e = none_many n in omega (arith, e)

pub none_next : (lists longer : Buckets) (item : List NumberedLine) (n : ℕ) → longer ≡ lists ++ item ∷ [] → item ≡ [] → 0 < n
    → longer ++ no_lines (n - 1) ≡ lists ++ no_lines n
none_next lists longer item zero e h low = absurd (omega (arith, low))
none_next lists longer item (suc n) e h low =
    let same : suc n - 1 ≡ n = omega arith in
    ap (λ xs. xs ++ no_lines (suc n - 1)) e ∙ ap (λ k. (lists ++ item ∷ []) ++ no_lines k) same ∙ ap (λ x. (lists ++ x ∷ []) ++ no_lines n) h
    ∙ append_assoc lists ([] ∷ []) (no_lines n)

pub none_lines : (nodes : List TreeNode) (n : ℕ) (bs : Buckets) → bs ≡ no_lines n → AllLines nodes n bs
none_lines nodes n bs e = record {
  many = ap length e ∙ none_many n;
  each = λ k. subst (AreLines nodes) (sym (ap (λ xs. slice_index_or xs k []) e ∙ none_at n k)) tt;
}

-- ---- one more line

module _ (bs : Buckets) (j : ℕ) (x : NumberedLine) where
  pub appended_many : length (appended bs j x) ≡ length bs
  appended_many = go (nat_lt j (length bs))
    where
      go : (d : Bool) → length (if d then slice_set bs j (slice_index_or bs j [] ++ x ∷ []) else bs) ≡ length bs
      go true = length-set bs j (slice_index_or bs j [] ++ x ∷ [])
      go false = refl

  -- the list of a number after the line
  pub grown : (k : ℕ) → k < length bs → (c : Bool) → (j == k) ≡ c → slice_index_or (appended bs j x) k [] ≡ slice_index_or bs k [] ++ (if c then x ∷ [] else [])
  grown k low true is =
      let same : j ≡ k = (Decides-eqb j k).0 is in
      let within : nat_lt j (length bs) ≡ true = lt-ltb j (length bs) (omega (arith, same, low)) in
      ap (λ (d : Bool). slice_index_or (if d then slice_set bs j (slice_index_or bs j [] ++ x ∷ []) else bs) k []) within
      ∙ ap (λ i. slice_index_or (slice_set bs i (slice_index_or bs i [] ++ x ∷ [])) k []) same
      ∙ get_or-set_same bs k (slice_index_or bs k [] ++ x ∷ []) [] low
  grown k low false is = go (nat_lt j (length bs)) ∙ sym (append-nil (slice_index_or bs k []))
    where
      differs : j ≡ k → ⊥
      differs e = let also = (Decides-eqb j k).1 e in absurd cc

      go : (d : Bool) → slice_index_or (if d then slice_set bs j (slice_index_or bs j [] ++ x ∷ []) else bs) k [] ≡ slice_index_or bs k []
      go true = get_or-set_other bs j k (slice_index_or bs j [] ++ x ∷ []) [] (λ same. differs (sym same))
      go false = refl

pub beyond : (bs : Buckets) (k : ℕ) → length bs ≤ k → slice_index_or bs k [] ≡ []
beyond [] k far = refl
beyond (b ∷ bs) zero far = absurd (omega (arith, far))
beyond (b ∷ bs) (suc k) far = beyond bs k (omega (arith, far))

pub appended_lines : (nodes : List TreeNode) (n : ℕ) (bs : Buckets) (j : ℕ) (x : NumberedLine) → IsLine nodes x → AllLines nodes n bs → AllLines nodes n (appended bs j x)
appended_lines nodes n bs j x one all = record {
  many = appended_many bs j x ∙ all.many;
  each = λ k. go k (nat_lt k (length bs)) refl;
}
  where
    more : (k : ℕ) (c : Bool) → AreLines nodes (slice_index_or bs k [] ++ (if c then x ∷ [] else []))
    more k true = all_append (IsLine nodes) (slice_index_or bs k []) (x ∷ []) (all.each k) (one, tt)
    more k false = all_append (IsLine nodes) (slice_index_or bs k []) [] (all.each k) tt

    go : (k : ℕ) (c : Bool) → nat_lt k (length bs) ≡ c → AreLines nodes (slice_index_or (appended bs j x) k [])
    go k true is = subst (AreLines nodes) (sym (grown bs j x k (ltb-true k (length bs) is) (j == k) refl)) (more k (j == k))
    go k false is =
        let far = ltb-false k (length bs) is in
        let many = appended_many bs j x in
        subst (AreLines nodes) (sym (beyond (appended bs j x) k (omega (arith, far, many)))) tt

pub capped_same : (bs : Buckets) (j m : ℕ) (x : NumberedLine) → length bs < 0x100000000 → m ≡ min j 0x100000000 → appended bs m x ≡ appended bs j x
capped_same bs j m x few e = go (nat_lt m (length bs)) (nat_lt j (length bs)) refl refl
  where
    by : Bool → ℕ → Buckets
    by c k = if c then slice_set bs k (slice_index_or bs k [] ++ x ∷ []) else bs

    go : (c d : Bool) → nat_lt m (length bs) ≡ c → nat_lt j (length bs) ≡ d → appended bs m x ≡ appended bs j x
    go true true is also =
        let low = ltb-true m (length bs) is in
        let same : m ≡ j = omega (arith, e, low, few) in
        ap (λ k. appended bs k x) same
    go false false is also = ap (λ c. by c m) is ∙ sym (ap (λ c. by c j) also)
    go true false is also =
        let low = ltb-true m (length bs) is in
        let high = ltb-false j (length bs) also in
        absurd (omega (arith, e, low, high, few))
    go false true is also =
        let low = ltb-true j (length bs) also in
        let high = ltb-false m (length bs) is in
        absurd (omega (arith, e, low, high, few))

-- ---- runs

module _ (s : Source) (nodes : List TreeNode) where
  pub runs_more : (xs : List NumberedLine) (rs : List Run) (x : NumberedLine) (r : Run) → AreRuns s nodes xs rs → IsRun s nodes x r → AreRuns s nodes (xs ++ x ∷ []) (rs ++ r ∷ [])
  runs_more [] [] x r h one = (one, tt)
  runs_more [] (q ∷ rs) x r h one = absurd h
  runs_more (y ∷ xs) [] x r h one = absurd h
  runs_more (y ∷ xs) (q ∷ rs) x r h one = (h.0, runs_more xs rs x r h.1 one)

  runs_same : (xs : List NumberedLine) (rs : List Run) → AreRuns s nodes xs rs → AreRuns s nodes (xs ++ []) (rs ++ [])
  runs_same xs rs h = subst (λ ys. AreRuns s nodes ys (rs ++ [])) (sym (append-nil xs)) (subst (AreRuns s nodes xs) (sym (append-nil rs)) h)

  other_line : (k : ℕ) (p : Part) (ps : List Part) → has PARAM_OF_BRACKET p.below ≡ false → own_lines s k (runs (p ∷ ps)) ≡ own_lines s k (runs ps)
  other_line k p ps e =
      ap (λ (c : Bool). filter (λ r. parameter_number s r.head.below == k) (cond c (run_at p ps ∷ filter speaks_of_parameter (runs ps)) (filter speaks_of_parameter (runs ps)))) e

  line : (k : ℕ) (p : Part) (ps : List Part) (c : Bool) → has PARAM_OF_BRACKET p.below ≡ true → (parameter_number s p.below == k) ≡ c
      → own_lines s k (runs (p ∷ ps)) ≡ (if c then run_at p ps ∷ [] else []) ++ own_lines s k (runs ps)
  line k p ps c e is =
      ap (λ (d : Bool). filter (λ r. parameter_number s r.head.below == k) (cond d (run_at p ps ∷ filter speaks_of_parameter (runs ps)) (filter speaks_of_parameter (runs ps)))) e
      ∙ ap (λ (d : Bool). cond d (run_at p ps ∷ own) own) is ∙ go c
    where
      own : List Run
      own = own_lines s k (runs ps)

      go : (d : Bool) → cond d (run_at p ps ∷ own) own ≡ (if d then run_at p ps ∷ [] else []) ++ own
      go true = refl
      go false = refl

  -- the lines of a number that were read
  pub record Numbered (k : ℕ) (xs : List NumberedLine) (left ps : List Part) : Type 0 where
    pub read : List Run
    pub are : AreRuns s nodes xs read
    pub same : read ++ own_lines s k (runs left) ≡ own_lines s k (runs ps)

  -- how far the lines were read
  pub record NumbersLeft (n : ℕ) (rest : List Piece) (bs : Buckets) (ps : List Part) : Type 0 where
    pub left : List Part
    pub are : ArePieces nodes rest left
    pub each : AllByRecursion (IsBodyItem s) left
    pub many : length bs ≡ n
    pub at : (k : ℕ) → k < n → Numbered k (slice_index_or bs k []) left ps

  pub numbers_start : (n : ℕ) (found : List Piece) (bs : Buckets) (ps : List Part) → ArePieces nodes found ps → AllByRecursion (IsBodyItem s) ps
      → bs ≡ no_lines n → NumbersLeft n found bs ps
  numbers_start n found bs ps are each e = record {
    left = ps;
    are = are;
    each = each;
    many = ap length e ∙ none_many n;
    at = λ k low. record { read = []; are = subst (λ xs. AreRuns s nodes xs []) (sym (ap (λ xs. slice_index_or xs k []) e ∙ none_at n k)) tt; same = refl };
  }

  pub numbers_end : (n : ℕ) (rest : List Piece) (bs : Buckets) (ps : List Part) → rest ≡ [] → NumbersLeft n rest bs ps → AreNumbered s nodes n ps bs
  numbers_end n rest bs ps e l = record { each = λ k low. go l.left (subst (λ xs. ArePieces nodes xs l.left) e l.are) k (l.at k low) }
    where
      go : (qs : List Part) → ArePieces nodes [] qs → (k : ℕ) → Numbered k (slice_index_or bs k []) qs ps → AreRuns s nodes (slice_index_or bs k []) (own_lines s k (runs ps))
      go [] are k h = subst (AreRuns s nodes (slice_index_or bs k [])) (sym (append-nil h.read) ∙ h.same) h.are
      go (q ∷ qs) are k h = absurd cc

  module _ (x : NumberedLine) (p : Part) (qs ps : List Part) (bs : Buckets) (head : piece_of nodes x.head ≡ written p) (are : ArePieces nodes x.more.now qs)
      (own : IsBodyItem s p) (each : AllByRecursion (IsBodyItem s) qs) where
    the_run : has PARAM_OF_BRACKET p.below ≡ true → IsRun s nodes x (run_at p qs)
    the_run e = record { head = head; behind = qs; are = are; customs = refl; own = own; each = each; speaks = e }

    step_line : (k : ℕ) → k < length bs → (c : Bool) → has PARAM_OF_BRACKET p.below ≡ true → (parameter_number s p.below == k) ≡ c → Numbered k (slice_index_or bs k []) (p ∷ qs) ps
        → Numbered k (slice_index_or (appended bs (parameter_number s p.below) x) k []) qs ps
    step_line k low true e is h = record {
      read = h.read ++ run_at p qs ∷ [];
      are = subst (λ xs. AreRuns s nodes xs (h.read ++ run_at p qs ∷ [])) (sym (grown bs (parameter_number s p.below) x k low true is))
          (runs_more (slice_index_or bs k []) h.read x (run_at p qs) h.are (the_run e));
      same = append_assoc h.read (run_at p qs ∷ []) (own_lines s k (runs qs)) ∙ ap (λ xs. h.read ++ xs) (sym (line k p qs true e is)) ∙ h.same;
    }
    step_line k low false e is h = record {
      read = h.read;
      are = subst (λ xs. AreRuns s nodes xs h.read) (sym (grown bs (parameter_number s p.below) x k low false is ∙ append-nil (slice_index_or bs k []))) h.are;
      same = ap (λ xs. h.read ++ xs) (sym (line k p qs false e is)) ∙ h.same;
    }

    step_at : (k : ℕ) → k < length bs → (c : Bool) → has PARAM_OF_BRACKET p.below ≡ c → Numbered k (slice_index_or bs k []) (p ∷ qs) ps
        → Numbered k (slice_index_or (if c then appended bs (parameter_number s p.below) x else bs) k []) qs ps
    step_at k low true e h = step_line k low (parameter_number s p.below == k) e refl h
    step_at k low false e h = record { read = h.read; are = h.are; same = ap (λ xs. h.read ++ xs) (sym (other_line k p qs e)) ∙ h.same }

    step_many : (c : Bool) → length (if c then appended bs (parameter_number s p.below) x else bs) ≡ length bs
    step_many true = appended_many bs (parameter_number s p.below) x
    step_many false = refl

  -- the first of what is left
  pub record FirstLine (n : ℕ) (x : Piece) (xs : List Piece) (bs : Buckets) (ps : List Part) : Type 0 where
    pub first : Part
    pub is : piece_of nodes x ≡ written first
    pub own : IsBodyItem s first
    pub next : (y : NumberedLine) → y.head ≡ x → y.more.now ≡ xs → (cs : Buckets) → cs ≡ with_line s first y bs → NumbersLeft n xs cs ps

  pub numbers_begin : (n : ℕ) (x : Piece) (xs : List Piece) (bs : Buckets) (ps : List Part) → NumbersLeft n (x ∷ xs) bs ps → FirstLine n x xs bs ps
  numbers_begin n x xs bs ps l = go l.left l.are l.each l.at
    where
      go : (qs : List Part) → ArePieces nodes (x ∷ xs) qs → AllByRecursion (IsBodyItem s) qs → ((k : ℕ) → k < n → Numbered k (slice_index_or bs k []) qs ps) → FirstLine n x xs bs ps
      go [] e h at = absurd cc
      go (q ∷ qs) e h at =
          let f = first_piece nodes x xs q qs e in
          record {
            first = q;
            is = f.0;
            own = h.0;
            next = λ y head more cs same.
                let own : piece_of nodes y.head ≡ written q = ap (piece_of nodes) head ∙ f.0 in
                let rest : ArePieces nodes y.more.now qs = subst (λ zs. ArePieces nodes zs qs) (sym more) f.1 in
                subst (λ zs. NumbersLeft n xs zs ps) (sym same) (record {
                  left = qs;
                  are = f.1;
                  each = h.1;
                  many = step_many y q qs ps bs own rest h.0 h.1 (has PARAM_OF_BRACKET q.below) ∙ l.many;
                  at = λ k low.
                      let many = l.many in
                      step_at y q qs ps bs own rest h.0 h.1 k (omega (arith, low, many)) (has PARAM_OF_BRACKET q.below) refl (at k low);
                });
          }

-- the lists after an item, by what is there
pub with_own : (s : Source) (p : Part) (x : NumberedLine) (bs cs : Buckets) (m : ℕ) → has PARAM_OF_BRACKET p.below ≡ true → length bs < 0x100000000
    → m ≡ min (parameter_number s p.below) 0x100000000 → cs ≡ appended bs m x → cs ≡ with_line s p x bs
with_own s p x bs cs m some few e is =
    is ∙ capped_same bs (parameter_number s p.below) m x few e ∙ ap (λ (c : Bool). if c then appended bs (parameter_number s p.below) x else bs) (sym some)

pub with_other : (s : Source) (p : Part) (x : NumberedLine) (bs : Buckets) → has PARAM_OF_BRACKET p.below ≡ false → bs ≡ with_line s p x bs
with_other s p x bs empty = sym (ap (λ (c : Bool). if c then appended bs (parameter_number s p.below) x else bs) empty)

-- ---- an instruction speaks of no parameter

bracket_past : is_past Instructions (PARAM_OF_BRACKET ∷ []) ≡ true
unfolding is_past mask_of ilasm_tables has_bit
bracket_past = refl

none_below : (s : Source) (b : Forest) → FitsBody s ITEM_INSTRUCTION b → HasBodies s b → has PARAM_OF_BRACKET b ≡ false
none_below s b fits h =
    ap is_any_part
    (sym (append-nil (parts (PARAM_OF_BRACKET ∷ []) b))
    ∙ sym (same_outside Instructions (PARAM_OF_BRACKET ∷ []) bracket_past s (tree.branch ITEM_INSTRUCTION b tree.none) (fits, h, tt)))

pub instruction_numbers : (s : Source) (p : Part) → p.production ≡ ITEM_INSTRUCTION → IsBodyItem s p → has PARAM_OF_BRACKET p.below ≡ false
instruction_numbers s p own (inl (inl e)) = ap (λ (q : Part). has PARAM_OF_BRACKET q.below) e
instruction_numbers s p own (inl (inr e)) = ap (λ (q : Part). has PARAM_OF_BRACKET q.below) e
instruction_numbers s p own (inr h) = none_below s p.below (subst (λ q. FitsBody s q p.below) own h.1.0.fits) (has_bodies s p.below h.1.1)
