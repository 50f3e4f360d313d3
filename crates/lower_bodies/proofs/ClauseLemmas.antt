-- The clauses of a method, one by one in the order of their last tokens.
use Rattle.std.proofs.Common.{◌≡◌, ℕ, List, [], ◌∷◌, ◌++◌, map, refl, ap, sym, subst, ◌∙◌, append_assoc, append-nil}
use Rattle.std.specs.Prelude.{Bool, true, false, ◌==◌, if◌then◌else◌}
use Rattle.std.proofs.lemmas.Bool.Decides.{Decides-eqb}
use Rattle.std.proofs.lemmas.List.{map-append}
use Rattle.assembly_tree.specs.declared.body.Clause.{Clause}
use Rattle.assembly_tree.specs.declared.body.ClauseKind.{ClauseKind}
use Rattle.assembly_tree.specs.declared.body.ClauseKind.TheVariants as handles
use Rattle.ilasm_grammar.specs.declared.productions.TheConstants.{CLAUSE_CATCH, CLAUSE_FILTER, CLAUSE_FINALLY, ITEM_INSTRUCTION, ITEM_TRY}
use Rattle.ilasm_grammar.specs.declared.tree.TreeNode.{TreeNode}
use Rattle.ilasm_grammar.specs.declared.tree.TreeNode.TheVariants.{Branch}
use Rattle.source_model.specs.Clauses.{Guarded, clause, clause_forms, clause_from, clause_kind, filter_start, guarded_in, handler_range, try_range}
use Rattle.source_model.specs.Forest as tree
use Rattle.source_model.specs.Forest.{Forest, is_among, joined, part, parts, preorder}
use Rattle.source_model.specs.Nodes.{Around}
use Rattle.source_model.specs.Source.{Source}
use Rattle.source_model.specs.Types.{the_owner}
use Rattle.source_nodes.specs.Derived.{FitsBody, HasBodies, OfEach}
use Rattle.source_nodes.specs.Walk.{Opens, is_of}
use Rattle.source_nodes.specs.declared.walk.Opened.{Opened}
use Rattle.source_nodes.proofs.Collecting.{SoFar, ends, goes_in, starts}
use Rattle.source_flags.specs.InRange.{AllInRange, IsInRange}
use Rattle.source_flags.specs.declared.outside.Shut.TheVariants.{Instructions}
use Rattle.source_flags.proofs.Apart.{same_outside}
use Rattle.source_flags.proofs.Gathered.{has_bodies}
use Rattle.lower_bodies.specs.ClauseNodes.{IsNoClause}
use Rattle.lower_bodies.specs.Ranges.{range_of}
use Rattle.lower_bodies.specs.declared.clause_ranges.CodeRange.{CodeRange}
use Rattle.lower_bodies.proofs.PastLemmas.{clauses_past}

-- ---- a walk past a production that gives something

module _ {X : Type 0} (P : ℕ → Forest → Type 0) (value : Forest → List X) (whole : List X) (gives : Forest → List X) where
  goes_on : (left : List TreeNode) (x : Opened) (found longer : List X) (p count : ℕ) → Opens left x → x.node ≡ Branch p count
      → ((b : Forest) → preorder b ≡ x.below.now → P p b → OfEach P b → longer ≡ found ++ gives b) → ((b a : Forest) → value (tree.branch p b a) ≡ gives b ++ value a)
      → SoFar P value whole left found → SoFar P value whole x.after.now longer
  goes_on left x found longer p count o is adds takes sf =
      let b = o.branch sf.rest p count sf.is is in
      let h : OfEach P (tree.branch p b.inner b.rest) = subst (OfEach P) b.is sf.each in
      record {
        rest = b.rest;
        is = b.rest-is;
        each = h.2;
        same = ap (λ xs. xs ++ value b.rest) (adds b.inner b.inner-is h.0 h.1) ∙ append_assoc found (gives b.inner) (value b.rest)
            ∙ ap (λ xs. found ++ xs) (sym (takes b.inner b.rest) ∙ ap value (sym b.is)) ∙ sf.same;
      }

-- ---- which clauses there are

nothing_of : {X : Type 0} (xs ys : List X) → xs ++ ys ≡ [] → (xs ≡ []) × (ys ≡ [])
nothing_of [] ys e = (refl, e)
nothing_of (x ∷ xs) ys e = absurd cc

guarded_joined : (t b a : Forest) → guarded_in t (joined b a) ≡ guarded_in t b ++ guarded_in t a
guarded_joined t tree.none a = refl
guarded_joined t (tree.leaf k f) a = guarded_joined t f a
guarded_joined t (tree.branch p b f) a =
    let here : List Guarded =
    guarded_in (if p == ITEM_TRY then b else t) b ++ (if is_among clause_forms p then record { tried = t; clause = part p b } ∷ [] else []) in
    ap (λ gs. here ++ gs) (guarded_joined t f a) ∙ sym (append_assoc here (guarded_in t f) (guarded_in t a))

abbrev pub guarded_by : Forest → ℕ → Forest → Guarded
guarded_by t p b = record { tried = t; clause = part p b }

module _ (t : Forest) (p : ℕ) (b a : Forest) where
  abbrev at_branch : Bool → Bool → List Guarded
  at_branch tries clauses = (guarded_in (if tries then b else t) b ++ (if clauses then guarded_by t p b ∷ [] else [])) ++ guarded_in t a

  guarded_clause : is_among clause_forms p ≡ true → guarded_in t (tree.branch p b a) ≡ (guarded_in t b ++ guarded_by t p b ∷ []) ++ guarded_in t a
  guarded_clause is = go (p == ITEM_TRY) refl
    where
      go : (c : Bool) → (p == ITEM_TRY) ≡ c → guarded_in t (tree.branch p b a) ≡ (guarded_in t b ++ guarded_by t p b ∷ []) ++ guarded_in t a
      go true own = let none : true ≡ false = sym is ∙ ap (is_among clause_forms) ((Decides-eqb p ITEM_TRY).0 own) in absurd cc
      go false other = ap (λ c. at_branch c (is_among clause_forms p)) other ∙ ap (at_branch false) is

  guarded_other : (p == ITEM_TRY) ≡ false → is_among clause_forms p ≡ false → guarded_in t (tree.branch p b a) ≡ guarded_in t (joined b a)
  guarded_other other none =
      ap (λ c. at_branch c (is_among clause_forms p)) other ∙ ap (at_branch false) none
      ∙ ap (λ gs. gs ++ guarded_in t a) (append-nil (guarded_in t b)) ∙ sym (guarded_joined t b a)

guarded_try : (t b a : Forest) → guarded_in t (tree.branch ITEM_TRY b a) ≡ guarded_in b b ++ guarded_in t a
guarded_try t b a = ap (λ gs. gs ++ guarded_in t a) (append-nil (guarded_in b b))

-- without a clause nothing is guarded
pub nothing_guarded : (t b : Forest) → parts clause_forms b ≡ [] → guarded_in t b ≡ []
nothing_guarded t tree.none e = refl
nothing_guarded t (tree.leaf k a) e = nothing_guarded t a e
nothing_guarded t (tree.branch p b a) e =
    go (is_among clause_forms p) refl e (λ u h. nothing_guarded u b h) (λ h. nothing_guarded t a h)
  where
    go : (c : Bool) → is_among clause_forms p ≡ c → (if c then part p b ∷ [] else parts clause_forms b) ++ parts clause_forms a ≡ []
        → ((u : Forest) → parts clause_forms b ≡ [] → guarded_in u b ≡ []) → (parts clause_forms a ≡ [] → guarded_in t a ≡ [])
        → guarded_in t (tree.branch p b a) ≡ []
    go true is h below after = absurd cc
    go false is h below after =
        let none = nothing_of (parts clause_forms b) (parts clause_forms a) h in
        ap (at_branch t p b a (p == ITEM_TRY)) is
        ∙ ap (λ gs. (gs ++ []) ++ guarded_in t a) (below (if p == ITEM_TRY then b else t) none.0)
        ∙ after none.1

-- no clause stands in an instruction
instruction_guards : (s : Source) (t b : Forest) → FitsBody s ITEM_INSTRUCTION b → HasBodies s b → guarded_in t b ≡ []
instruction_guards s t b fits h =
    nothing_guarded t b
    (sym (append-nil (parts clause_forms b)) ∙ sym (same_outside Instructions clause_forms clauses_past s (tree.branch ITEM_INSTRUCTION b tree.none) (fits, h, tt)))

-- ---- the walk for them

module _ (s : Source) (a : Around) (f t g : Forest) (before : List Clause) where
  abbrev pub clauses_in : Forest → Forest → List Clause
  clauses_in u h = map (clause s a f) (guarded_in u h)

  abbrev pub Pushed : List TreeNode → List Clause → Type 0
  Pushed left found = SoFar (IsInRange s) (clauses_in t) (before ++ clauses_in t g) left found

  pub pushed_start : (nodes : List TreeNode) → preorder g ≡ nodes → AllInRange s g → Pushed nodes before
  pushed_start nodes e h = starts (IsInRange s) (clauses_in t) (before ++ clauses_in t g) g nodes before e h refl

  pub pushed_end : (left : List TreeNode) (found : List Clause) → left ≡ [] → Pushed left found → found ≡ before ++ clauses_in t g
  pushed_end left found e sf = ends (IsInRange s) (clauses_in t) (before ++ clauses_in t g) left found e refl sf

  pub pushed_try : (left : List TreeNode) (x : Opened) (found longer : List Clause) (count : ℕ) → Opens left x → x.node ≡ Branch ITEM_TRY count
      → ((b : Forest) → preorder b ≡ x.below.now → AllInRange s b → longer ≡ found ++ clauses_in b b) → Pushed left found → Pushed x.after.now longer
  pushed_try left x found longer count o is adds =
      goes_on (IsInRange s) (clauses_in t) (before ++ clauses_in t g) (λ b. clauses_in b b) left x found longer ITEM_TRY count o is (λ b e _ h. adds b e h)
      (λ b r. ap (map (clause s a f)) (guarded_try t b r) ∙ map-append (clause s a f) (guarded_in b b) (guarded_in t r))

  pub pushed_past : (left : List TreeNode) (x : Opened) (found : List Clause) (count : ℕ) → Opens left x → x.node ≡ Branch ITEM_INSTRUCTION count
      → Pushed left found → Pushed x.after.now found
  pushed_past left x found count o is sf =
      let b = o.branch sf.rest ITEM_INSTRUCTION count sf.is is in
      let h : AllInRange s (tree.branch ITEM_INSTRUCTION b.inner b.rest) = subst (AllInRange s) b.is sf.each in
      let none : guarded_in t b.inner ≡ [] = instruction_guards s t b.inner h.0.fits (has_bodies s b.inner h.1) in
      let here : clauses_in t (tree.branch ITEM_INSTRUCTION b.inner b.rest) ≡ clauses_in t b.rest =
      ap (λ gs. map (clause s a f) ((gs ++ []) ++ guarded_in t b.rest)) none in
      record { rest = b.rest; is = b.rest-is; each = h.2; same = ap (λ cs. found ++ cs) (sym here ∙ ap (clauses_in t) (sym b.is)) ∙ sf.same }

  pub pushed_clause : (left : List TreeNode) (x : Opened) (found longer : List Clause) (p count : ℕ) → Opens left x → x.node ≡ Branch p count
      → is_among clause_forms p ≡ true
      → ((b : Forest) → preorder b ≡ x.below.now → AllInRange s b → longer ≡ found ++ (clauses_in t b ++ clause s a f (guarded_by t p b) ∷ []))
      → Pushed left found → Pushed x.after.now longer
  pushed_clause left x found longer p count o is among adds =
      goes_on (IsInRange s) (clauses_in t) (before ++ clauses_in t g) (λ b. clauses_in t b ++ clause s a f (guarded_by t p b) ∷ []) left x found longer p count o is
      (λ b e _ h. adds b e h)
      (λ b r.
      ap (map (clause s a f)) (guarded_clause t p b r among)
      ∙ map-append (clause s a f) (guarded_in t b ++ guarded_by t p b ∷ []) (guarded_in t r)
      ∙ ap (λ cs. cs ++ clauses_in t r) (map-append (clause s a f) (guarded_in t b) (guarded_by t p b ∷ [])))

  pub pushed_other : (left : List TreeNode) (x : Opened) (found : List Clause) → Opens left x → is_of ITEM_TRY x.node ≡ false → IsNoClause x.node
      → Pushed left found → Pushed x.behind.now found
  pushed_other left x found o other none =
      goes_in (IsInRange s) (clauses_in t) (before ++ clauses_in t g) left x found o (λ k r. refl)
      (λ q count b r is. ap (map (clause s a f)) (guarded_other t q b r (apart q count is) (none q count is)))
    where
      apart : (q count : ℕ) → x.node ≡ Branch q count → (q == ITEM_TRY) ≡ false
      apart q count is = go (q == ITEM_TRY) refl
        where
          go : (c : Bool) → (q == ITEM_TRY) ≡ c → c ≡ false
          go false e = refl
          go true e =
              let turned : (ITEM_TRY == q) ≡ true = (Decides-eqb ITEM_TRY q).1 (sym ((Decides-eqb q ITEM_TRY).0 e)) in
              let no : (ITEM_TRY == q) ≡ false = ap (is_of ITEM_TRY) (sym is) ∙ other in
              absurd cc

-- ---- a clause from its parts

module _ (s : Source) (a : Around) (f : Forest) where
  pub same_clause : (t b : Forest) (p : ℕ) (x y : CodeRange) (k : ClauseKind) → range_of x ≡ try_range s f t → range_of y ≡ handler_range s f b
      → k ≡ clause_kind s a f (part p b) → clause_from s a f (range_of x) (range_of y) k ≡ clause s a f (guarded_by t p b)
  same_clause t b p x y k tried handler kind =
      ap (λ r. clause_from s a f r (range_of y) k) tried ∙ ap (λ r. clause_from s a f (try_range s f t) r k) handler
      ∙ ap (clause_from s a f (try_range s f t) (handler_range s f b)) kind

  abbrev kind_at : Forest → ℕ → ClauseKind
  kind_at b q =
      if q == CLAUSE_CATCH then handles.Catch (the_owner s a b) else if q == CLAUSE_FILTER then handles.Filter (filter_start s f b)
      else if q == CLAUSE_FINALLY then handles.Finally else handles.Fault

  pub is_kind_at : (b : Forest) (q p : ℕ) → q ≡ p → kind_at b q ≡ clause_kind s a f (part p b)
  is_kind_at b q p e = ap (kind_at b) e
