-- What lines of `.param type` give each generic parameter.
use Rattle.std.proofs.Common.{◌≡◌, ℕ, zero, suc, ◌-◌, ◌<◌, ◌^◌, List, [], ◌∷◌, ◌++◌, cond, length, min, refl, ap, sym, subst, ◌∙◌, arith, append_assoc, append-nil}
use Rattle.std.specs.Prelude.{Bool, true, false, ◌==◌, if◌then◌else◌, filter, nat_lt, slice_index_or, slice_set}
use Rattle.std.specs.List.{AllByRecursion}
use Rattle.std.proofs.lemmas.Bool.{lt-ltb, ltb-false, ltb-true}
use Rattle.std.proofs.lemmas.Bool.Decides.{Decides-eqb}
use Rattle.std.proofs.lemmas.List.{get_or-set_other, get_or-set_same, length-set}
use Rattle.assembly_tree.specs.declared.members.Attribute.{Attribute}
use Rattle.ilasm_grammar.specs.declared.tree.TreeNode.{TreeNode}
use Rattle.source_model.specs.Forest.{Part}
use Rattle.source_model.specs.Items.{Run, runs}
use Rattle.source_model.specs.Manifests.{attributes}
use Rattle.source_model.specs.Nodes.{Around}
use Rattle.source_model.specs.Parameters as params
use Rattle.source_model.specs.Parameters.{is_typar_line}
use Rattle.source_model.specs.Source.{Source}
use Rattle.source_nodes.specs.Pieces.{ArePieces, piece_of, written}
use Rattle.source_nodes.specs.declared.pieces.Piece.{Piece}
use Rattle.lower_members.specs.FieldContexts.{run_at}
use Rattle.lower_members.specs.GivenAttributes.{AreGiven, none_given, with_line}
use Rattle.lower_members.specs.ParamLines.{appended, given}
use Rattle.lower_members.specs.Ranged.{IsRangedItem}
use Rattle.lower_members.proofs.FieldLemmas.{first_piece}

-- ---- lists without attributes

pub none_at : (n k : ℕ) → slice_index_or (none_given n) k [] ≡ []
none_at zero k = refl
none_at (suc n) zero = refl
none_at (suc n) (suc k) = none_at n k

pub none_many : (n : ℕ) → length (none_given n) ≡ n
none_many zero = refl
none_many (suc n) = let e = none_many n in omega (arith, e)

pub one_none : (lists : List (List Attribute)) (n : ℕ) → (lists ++ [] ∷ []) ++ none_given n ≡ lists ++ none_given (suc n)
one_none lists n = append_assoc lists ([] ∷ []) (none_given n)

-- ---- numbers counted up to 2^32 - 1

pub capped_same : (bs : List (List Attribute)) (j m : ℕ) (more : List Attribute) → length bs < 2 ^ 32 → m ≡ min j 0xFFFFFFFF → appended bs m more ≡ appended bs j more
capped_same bs j m more few e = go (nat_lt m (length bs)) (nat_lt j (length bs)) refl refl
  where
    by : Bool → ℕ → List (List Attribute)
    by c k = if c then slice_set bs (length bs - 1 - k) (slice_index_or bs (length bs - 1 - k) [] ++ more) else bs

    go : (c d : Bool) → nat_lt m (length bs) ≡ c → nat_lt j (length bs) ≡ d → appended bs m more ≡ appended bs j more
    go true true is also =
        let low = ltb-true m (length bs) is in
        let same : m ≡ j = omega (arith, e, low, few) in
        ap (λ k. appended bs k more) same
    go false false is also = ap (λ x. by x m) is ∙ sym (ap (λ x. by x j) also)
    go true false is also =
        let low = ltb-true m (length bs) is in
        let high = ltb-false j (length bs) also in
        absurd (omega (arith, e, low, high, few))
    go false true is also =
        let low = ltb-true j (length bs) also in
        let high = ltb-false m (length bs) is in
        absurd (omega (arith, e, low, high, few))

-- ---- one more line

module _ (s : Source) (a : Around) (names : List (List ℕ)) where
  other_line : (k : ℕ) (p : Part) (ps : List Part) → is_typar_line p ≡ false → given s a names k (runs (p ∷ ps)) ≡ given s a names k (runs ps)
  other_line k p ps e =
      ap (λ (c : Bool). params.attributes_of s a
      (filter (λ r. params.typar_number s names r.head.below == k) (cond c (run_at p ps ∷ filter params.speaks_of_typar (runs ps)) (filter params.speaks_of_typar (runs ps))))) e

  line : (k : ℕ) (p : Part) (ps : List Part) (c : Bool) → is_typar_line p ≡ true → (params.typar_number s names p.below == k) ≡ c
      → given s a names k (runs (p ∷ ps)) ≡ (if c then attributes s a (run_at p ps).customs else []) ++ given s a names k (runs ps)
  line k p ps c e is =
      ap (λ (d : Bool). params.attributes_of s a
      (filter (λ r. params.typar_number s names r.head.below == k) (cond d (run_at p ps ∷ filter params.speaks_of_typar (runs ps)) (filter params.speaks_of_typar (runs ps))))) e
      ∙ ap (λ (d : Bool). params.attributes_of s a (cond d (run_at p ps ∷ own) own)) is
      ∙ go c
    where
      own : List Run
      own = filter (λ r. params.typar_number s names r.head.below == k) (filter params.speaks_of_typar (runs ps))

      go : (d : Bool) → params.attributes_of s a (cond d (run_at p ps ∷ own) own) ≡ (if d then attributes s a (run_at p ps).customs else []) ++ params.attributes_of s a own
      go true = refl
      go false = refl

  -- how far the lines were read
  pub record LinesLeft (nodes : List TreeNode) (rest : List Piece) (bs : List (List Attribute)) (ps : List Part) : Type 0 where
    pub left : List Part
    pub are : ArePieces nodes rest left
    pub each : AllByRecursion (IsRangedItem s) left
    pub many : length bs ≡ length names
    pub at : (k : ℕ) → k < length names → slice_index_or bs (length names - 1 - k) [] ++ given s a names k (runs left) ≡ given s a names k (runs ps)

  pub lines_start : (nodes : List TreeNode) (found : List Piece) (bs : List (List Attribute)) (ps : List Part) → ArePieces nodes found ps → AllByRecursion (IsRangedItem s) ps
      → bs ≡ none_given (length names) → LinesLeft nodes found bs ps
  lines_start nodes found bs ps are each e = record {
    left = ps;
    are = are;
    each = each;
    many = ap length e ∙ none_many (length names);
    at = λ k low. ap (λ xs. slice_index_or xs (length names - 1 - k) [] ++ given s a names k (runs ps)) e
        ∙ ap (λ xs. xs ++ given s a names k (runs ps)) (none_at (length names) (length names - 1 - k));
  }

  pub lines_end : (nodes : List TreeNode) (rest : List Piece) (bs : List (List Attribute)) (ps : List Part) → rest ≡ [] → LinesLeft nodes rest bs ps → AreGiven s a names ps bs
  lines_end nodes rest bs ps e l = record { many = l.many; each = λ k low. go l.left (subst (λ xs. ArePieces nodes xs l.left) e l.are) k (l.at k low) }
    where
      go : (qs : List Part) → ArePieces nodes [] qs → (k : ℕ) → slice_index_or bs (length names - 1 - k) [] ++ given s a names k (runs qs) ≡ given s a names k (runs ps)
          → slice_index_or bs (length names - 1 - k) [] ≡ given s a names k (runs ps)
      go [] are k same = sym (append-nil (slice_index_or bs (length names - 1 - k) [])) ∙ same
      go (q ∷ qs) are k same = absurd cc

  module _ (p : Part) (ps : List Part) (bs : List (List Attribute)) (many : length bs ≡ length names) where
    abbrev j : ℕ
    j = params.typar_number s names p.below

    abbrev more : List Attribute
    more = attributes s a (run_at p ps).customs

    with_many : length (with_line s a names p ps bs) ≡ length names
    with_many = go (is_typar_line p) (nat_lt j (length bs)) ∙ many
      where
        go : (c d : Bool) → length (if c then (if d then slice_set bs (length bs - 1 - j) (slice_index_or bs (length bs - 1 - j) [] ++ more) else bs) else bs) ≡ length bs
        go true true = length-set bs (length bs - 1 - j) (slice_index_or bs (length bs - 1 - j) [] ++ more)
        go true false = refl
        go false d = refl

    -- the list of a number after the line
    grown : (k : ℕ) → k < length names → (c : Bool) → (j == k) ≡ c → slice_index_or (appended bs j more) (length names - 1 - k) [] ≡ slice_index_or bs (length names - 1 - k) [] ++ (if c then more else [])
    grown k low true is =
        let same : j ≡ k = (Decides-eqb j k).0 is in
        let within : nat_lt j (length bs) ≡ true = lt-ltb j (length bs) (omega (arith, same, low, many)) in
        let place : length bs - 1 - j ≡ length names - 1 - k = omega (arith, same, many) in
        ap (λ (d : Bool). slice_index_or (if d then slice_set bs (length bs - 1 - j) (slice_index_or bs (length bs - 1 - j) [] ++ more) else bs) (length names - 1 - k) []) within
        ∙ ap (λ i. slice_index_or (slice_set bs i (slice_index_or bs i [] ++ more)) (length names - 1 - k) []) place
        ∙ get_or-set_same bs (length names - 1 - k) (slice_index_or bs (length names - 1 - k) [] ++ more) [] (omega (arith, low, many))
    grown k low false is = go (nat_lt j (length bs)) refl ∙ sym (append-nil (slice_index_or bs (length names - 1 - k) []))
      where
        differs : j ≡ k → ⊥
        differs e = let also = (Decides-eqb j k).1 e in absurd cc

        go : (d : Bool) → nat_lt j (length bs) ≡ d
            → slice_index_or (if nat_lt j (length bs) then slice_set bs (length bs - 1 - j) (slice_index_or bs (length bs - 1 - j) [] ++ more) else bs) (length names - 1 - k) []
            ≡ slice_index_or bs (length names - 1 - k) []
        go true e =
            let low_j = ltb-true j (length bs) e in
            ap (λ (d : Bool). slice_index_or (if d then slice_set bs (length bs - 1 - j) (slice_index_or bs (length bs - 1 - j) [] ++ more) else bs) (length names - 1 - k) []) e
            ∙ get_or-set_other bs (length bs - 1 - j) (length names - 1 - k) (slice_index_or bs (length bs - 1 - j) [] ++ more) []
            (λ same. differs (omega (arith, same, low_j, low, many)))
        go false e = ap (λ (d : Bool). slice_index_or (if d then slice_set bs (length bs - 1 - j) (slice_index_or bs (length bs - 1 - j) [] ++ more) else bs) (length names - 1 - k) []) e

    step_at : (k : ℕ) → k < length names → slice_index_or (with_line s a names p ps bs) (length names - 1 - k) [] ++ given s a names k (runs ps)
        ≡ slice_index_or bs (length names - 1 - k) [] ++ given s a names k (runs (p ∷ ps))
    step_at k low = go (is_typar_line p) refl
      where
        go : (c : Bool) → is_typar_line p ≡ c → slice_index_or (if is_typar_line p then appended bs j more else bs) (length names - 1 - k) [] ++ given s a names k (runs ps)
            ≡ slice_index_or bs (length names - 1 - k) [] ++ given s a names k (runs (p ∷ ps))
        go true is =
            ap (λ (c : Bool). slice_index_or (if c then appended bs j more else bs) (length names - 1 - k) [] ++ given s a names k (runs ps)) is
            ∙ ap (λ xs. xs ++ given s a names k (runs ps)) (grown k low (j == k) refl)
            ∙ append_assoc (slice_index_or bs (length names - 1 - k) []) (if j == k then more else []) (given s a names k (runs ps))
            ∙ ap (λ xs. slice_index_or bs (length names - 1 - k) [] ++ xs) (sym (line k p ps (j == k) is refl))
        go false is =
            ap (λ (c : Bool). slice_index_or (if c then appended bs j more else bs) (length names - 1 - k) [] ++ given s a names k (runs ps)) is
            ∙ ap (λ xs. slice_index_or bs (length names - 1 - k) [] ++ xs) (sym (other_line k p ps is))

  -- the first of what is left
  pub record Line (nodes : List TreeNode) (x : Piece) (xs : List Piece) (bs : List (List Attribute)) (ps : List Part) : Type 0 where
    pub first : Part
    pub more : List Part
    pub is : piece_of nodes x ≡ written first
    pub are : ArePieces nodes xs more
    pub own : IsRangedItem s first
    pub each : AllByRecursion (IsRangedItem s) more
    pub next : (cs : List (List Attribute)) → cs ≡ with_line s a names first more bs → LinesLeft nodes xs cs ps

  pub begins : (nodes : List TreeNode) (x : Piece) (xs : List Piece) (bs : List (List Attribute)) (ps : List Part) → LinesLeft nodes (x ∷ xs) bs ps → Line nodes x xs bs ps
  begins nodes x xs bs ps l = go l.left l.are l.each l.at
    where
      go : (qs : List Part) → ArePieces nodes (x ∷ xs) qs → AllByRecursion (IsRangedItem s) qs
          → ((k : ℕ) → k < length names → slice_index_or bs (length names - 1 - k) [] ++ given s a names k (runs qs) ≡ given s a names k (runs ps)) → Line nodes x xs bs ps
      go [] e h at = absurd cc
      go (q ∷ qs) e h at =
          let f = first_piece nodes x xs q qs e in
          record {
            first = q;
            more = qs;
            is = f.0;
            are = f.1;
            own = h.0;
            each = h.1;
            next = λ cs same. subst (λ zs. LinesLeft nodes xs zs ps) (sym same) (record {
              left = qs;
              are = f.1;
              each = h.1;
              many = with_many q qs bs l.many;
              at = λ k low. step_at q qs bs l.many k low ∙ at k low;
            });
          }

-- one more list without attributes
pub none_next : (lists longer : List (List Attribute)) (item : List Attribute) (n : ℕ) → longer ≡ lists ++ item ∷ [] → item ≡ [] → 0 < n
    → longer ++ none_given (n - 1) ≡ lists ++ none_given n
none_next lists longer item zero e h low = absurd (omega (arith, low))
none_next lists longer item (suc n) e h low =
    let same : suc n - 1 ≡ n = omega arith in
    ap (λ xs. xs ++ none_given (suc n - 1)) e ∙ ap (λ k. (lists ++ item ∷ []) ++ none_given k) same ∙ ap (λ x. (lists ++ x ∷ []) ++ none_given n) h ∙ one_none lists n
