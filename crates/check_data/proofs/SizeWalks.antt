-- The class sizes of the classes of a forest, piece by piece.
use Rattle.std.proofs.Common.{◌≡◌, ℕ, zero, suc, List, [], ◌∷◌, ◌++◌, Option, Some, None, take, drop, refl, ap, sym, subst, ◌∙◌, append_assoc, append-nil}
use Rattle.std.specs.Prelude.{Bool, true, false, ◌==◌, if◌then◌else◌, slice_get, slice_set}
use Rattle.std.proofs.lemmas.Option.{same_Some}
use Rattle.std.proofs.lemmas.List.{take-append-drop}
use Rattle.type_terms.specs.declared.name.TypeId.{TypeId}
use Rattle.assembly_tree.specs.DataSize.{is_id}
use Rattle.ilasm_grammar.specs.declared.productions.TheConstants.{CLASS}
use Rattle.ilasm_grammar.specs.declared.tree.TreeNode.{TreeNode}
use Rattle.ilasm_grammar.specs.declared.tree.TreeNode.TheVariants.{Branch, Leaf}
use Rattle.source_model.specs.Forest as tree
use Rattle.source_model.specs.Forest.{Forest, joined, preorder}
use Rattle.source_model.specs.Laws.{ForestOpens, ForestsJoin}
use Rattle.source_model.specs.Names.{is_path}
use Rattle.source_model.specs.OutOfRange.{asked_class_size}
use Rattle.source_model.specs.Source.{Source}
use Rattle.source_syntax.specs.ClassNumbers.{class_in, class_numbered, id_of, outer_of}
use Rattle.source_nodes.specs.Derived.{FitsBody, HasBodies}
use Rattle.source_syntax.specs.Nested.{IsNested, onward}
use Rattle.source_syntax.specs.declared.class_paths.ClassName.{ClassName}
use Rattle.source_syntax.proofs.ClassLemmas.{id_itself, id_same, path_itself, path_same}
use Rattle.source_nodes.proofs.Collecting.{of_joined}
use Rattle.source_syntax.proofs.NestedLemmas.{to_append}
use Rattle.check_names.specs.DeclaredClasses.{inner_path}
use Rattle.check_data.specs.DeclaredSizes.{AreFilled, AreKnown, ClassSize, filled, first_size, is_unknown, size_list}

-- ---- lists of classes

abbrev pub size_of : Source → List TypeId → Forest → ClassSize
size_of s path below = record { path = inner_path s path below; size = asked_class_size s below }

pub sizes_joined : (s : Source) (path : List TypeId) (f g : Forest) → size_list s path (joined f g) ≡ size_list s path f ++ size_list s path g
sizes_joined s path tree.none g = refl
sizes_joined s path (tree.leaf k a) g = sizes_joined s path a g
sizes_joined s path (tree.branch p b a) g =
    let own = if p == CLASS then size_of s path b ∷ size_list s (inner_path s path b) b else size_list s path b in
    ap (λ cs. own ++ cs) (sizes_joined s path a g) ∙ sym (append_assoc own (size_list s path a) (size_list s path g))

pub sizes_class : (s : Source) (path : List TypeId) (p : ℕ) (b a : Forest) → (p == CLASS) ≡ true
    → size_list s path (tree.branch p b a) ≡ (size_of s path b ∷ size_list s (inner_path s path b) b) ++ size_list s path a
sizes_class s path p b a e =
    ap (λ (c : Bool). (if c then size_of s path b ∷ size_list s (inner_path s path b) b else size_list s path b) ++ size_list s path a) e

pub sizes_other : (s : Source) (path : List TypeId) (p : ℕ) (b a : Forest) → (p == CLASS) ≡ false
    → size_list s path (tree.branch p b a) ≡ size_list s path (joined b a)
sizes_other s path p b a e =
    ap (λ (c : Bool). (if c then size_of s path b ∷ size_list s (inner_path s path b) b else size_list s path b) ++ size_list s path a) e
    ∙ sym (sizes_joined s path b a)

pub known_split : (cs : List ClassName) (xs ys : List ClassSize) → AreKnown cs (xs ++ ys) → AreKnown cs xs × AreKnown cs ys
known_split cs [] ys h = (tt, h)
known_split cs (x ∷ xs) ys h = let more = known_split cs xs ys h.1 in ((h.0, more.0), more.1)

-- ---- one more size

set_same : {X : Type 0} (xs : List X) (n : ℕ) (x y : X) → slice_get xs n ≡ Some y → slice_get (slice_set xs n x) n ≡ Some x
set_same [] n x y h = absurd cc
set_same (z ∷ zs) zero x y h = refl
set_same (z ∷ zs) (suc n) x y h = set_same zs n x y h

set_other : {X : Type 0} (xs : List X) (m n : ℕ) (x : X) → (n ≡ m → ⊥) → slice_get (slice_set xs n x) m ≡ slice_get xs m
set_other [] m n x apart = refl
set_other (z ∷ zs) zero zero x apart = absurd (apart refl)
set_other (z ∷ zs) zero (suc n) x apart = refl
set_other (z ∷ zs) (suc m) zero x apart = refl
set_other (z ∷ zs) (suc m) (suc n) x apart = set_other zs m n x (λ e. apart (ap suc e))

module _ (path : List TypeId) (c : ClassSize) where
  -- with one more class a path has the size that it had, or that of the class
  first_kept : (seen : List ClassSize) (o : Option ℕ) → first_size path seen ≡ Some o → first_size path (seen ++ c ∷ []) ≡ Some o
  first_kept [] o e = absurd cc
  first_kept (d ∷ seen) o e = go (is_path d.path path) (first_kept seen o) e
    where
      go : (b : Bool) → (first_size path seen ≡ Some o → first_size path (seen ++ c ∷ []) ≡ Some o)
          → (if b then Some d.size else first_size path seen) ≡ Some o → (if b then Some d.size else first_size path (seen ++ c ∷ [])) ≡ Some o
      go true more e = e
      go false more e = more e

  first_new : (seen : List ClassSize) → first_size path seen ≡ None → is_path c.path path ≡ true → first_size path (seen ++ c ∷ []) ≡ Some c.size
  first_new [] e own = ap (λ (b : Bool). if b then Some c.size else None) own
  first_new (d ∷ seen) e own = go (is_path d.path path) (λ h. first_new seen h own) e
    where
      go : (b : Bool) → (first_size path seen ≡ None → first_size path (seen ++ c ∷ []) ≡ Some c.size)
          → (if b then Some d.size else first_size path seen) ≡ None → (if b then Some d.size else first_size path (seen ++ c ∷ [])) ≡ Some c.size
      go true more e = absurd cc
      go false more e = more e

  first_other : (seen : List ClassSize) → is_path c.path path ≡ false → first_size path (seen ++ c ∷ []) ≡ first_size path seen
  first_other [] other = ap (λ (b : Bool). if b then Some c.size else None) other
  first_other (d ∷ seen) other = ap (λ o. if is_path d.path path then Some d.size else o) (first_other seen other)

module _ (cs : List ClassName) (sizes : List (Option (Option ℕ))) (seen : List ClassSize) (c : ClassSize) (n : ℕ)
    (nested : IsNested outer_of id_of is_id cs) (at : class_numbered cs c.path ≡ Some n) (all : AreFilled cs sizes seen) where
  at_itself : (path : List TypeId) (o : Option (Option ℕ)) → is_path c.path path ≡ true → first_size path seen ≡ o → slice_get sizes n ≡ Some o
      → slice_get (filled sizes n c.size) n ≡ Some (first_size path (seen ++ c ∷ []))
  at_itself path None own first here =
      ap (λ x. slice_get (if is_unknown x then slice_set sizes n (Some c.size) else sizes) n) here
      ∙ set_same sizes n (Some c.size) None here ∙ ap Some (sym (first_new path c seen first own))
  at_itself path (Some o) own first here =
      ap (λ x. slice_get (if is_unknown x then slice_set sizes n (Some c.size) else sizes) n) here
      ∙ here ∙ ap Some (sym (first_kept path c seen o first))

  elsewhere : (m : ℕ) → (n ≡ m → ⊥) → slice_get (filled sizes n c.size) m ≡ slice_get sizes m
  elsewhere m apart = go (is_unknown (slice_get sizes n))
    where
      go : (b : Bool) → slice_get (if b then slice_set sizes n (Some c.size) else sizes) m ≡ slice_get sizes m
      go true = set_other sizes m n (Some c.size) apart
      go false = refl

  pub one_filled : AreFilled cs (filled sizes n c.size) (seen ++ c ∷ [])
  one_filled path m led = go (is_path c.path path) refl
    where
      go : (b : Bool) → is_path c.path path ≡ b → slice_get (filled sizes n c.size) m ≡ Some (first_size path (seen ++ c ∷ []))
      go true own =
          let same : n ≡ m = same_Some n m (sym at ∙ ap (class_numbered cs) (path_same c.path path own) ∙ led) in
          ap (slice_get (filled sizes n c.size)) (sym same) ∙ at_itself path (first_size path seen) own refl (ap (slice_get sizes) same ∙ all path m led)
      go false other =
          elsewhere m
          (λ same.
          let one : c.path ≡ path = nested.one c.path path n at (led ∙ ap Some (sym same)) in
          let own : is_path c.path path ≡ true = ap (is_path c.path) (sym one) ∙ path_itself c.path in
          absurd cc)
          ∙ all path m led ∙ ap Some (sym (first_other path c seen other))

-- ---- the walk

-- the sizes of the classes that are done were entered, and those of the rest are to come
pub record Filling (cs : List ClassName) (s : Source) (path : List TypeId) (f : Forest) (seen : List ClassSize) (left : List TreeNode)
    (sizes : List (Option (Option ℕ))) : Type 0 where
  pub rest : Forest
  pub is : preorder rest ≡ left
  pub bodies : HasBodies s rest
  pub known : AreKnown cs (size_list s path rest)
  pub done : List ClassSize
  pub whole : done ++ size_list s path rest ≡ size_list s path f
  pub filled : AreFilled cs sizes (seen ++ done)

module _ (opens : ForestOpens) (joins : ForestsJoin) (cs : List ClassName) (s : Source) (path : List TypeId) (f : Forest) (seen : List ClassSize) where
  pub filling_start : (nodes : List TreeNode) (sizes : List (Option (Option ℕ))) → preorder f ≡ nodes → HasBodies s f → AreKnown cs (size_list s path f)
      → AreFilled cs sizes seen → Filling cs s path f seen nodes sizes
  filling_start nodes sizes e bodies known all = record {
    rest = f;
    is = e;
    bodies = bodies;
    known = known;
    done = [];
    whole = refl;
    filled = subst (AreFilled cs sizes) (sym (append-nil seen)) all;
  }

  pub filling_leaf : (token : ℕ) (left rest : List TreeNode) (sizes : List (Option (Option ℕ))) → left ≡ Leaf token ∷ rest → Filling cs s path f seen left sizes
      → Filling cs s path f seen rest sizes
  filling_leaf token left rest sizes e x =
      let b = opens.leaf x.rest token rest (x.is ∙ e) in
      record {
        rest = b.after;
        is = b.rest;
        bodies = subst (HasBodies s) b.is x.bodies;
        known = subst (λ g. AreKnown cs (size_list s path g)) b.is x.known;
        done = x.done;
        whole = ap (λ g. x.done ++ size_list s path g) (sym b.is) ∙ x.whole;
        filled = x.filled;
      }

  pub filling_other : (p count : ℕ) (left rest : List TreeNode) (sizes : List (Option (Option ℕ))) → left ≡ Branch p count ∷ rest → (p == CLASS) ≡ false
      → Filling cs s path f seen left sizes → Filling cs s path f seen rest sizes
  filling_other p count left rest sizes e other x =
      let b = opens.branch x.rest p count rest (x.is ∙ e) in
      let h = subst (HasBodies s) b.is x.bodies in
      let same : size_list s path (joined b.below b.after) ≡ size_list s path x.rest = sym (sizes_other s path p b.below b.after other) ∙ ap (size_list s path) (sym b.is) in
      record {
        rest = joined b.below b.after;
        is = joins.nodes b.below b.after ∙ ap (λ ns. ns ++ preorder b.after) b.inner ∙ ap (λ ns. take count rest ++ ns) b.rest ∙ take-append-drop count rest;
        bodies = of_joined (FitsBody s) b.below b.after h.1 h.2;
        known = subst (AreKnown cs) (sym same) x.known;
        done = x.done;
        whole = ap (λ cs. x.done ++ cs) same ∙ x.whole;
        filled = x.filled;
      }

  -- a class whose size was entered, with those in it
  pub filling_class : (p count : ℕ) (left rest : List TreeNode) (sizes after : List (Option (Option ℕ))) → left ≡ Branch p count ∷ rest → (p == CLASS) ≡ true
      → ((before : List ClassSize) (b : Forest) → AreFilled cs sizes before → preorder b ≡ take count rest → FitsBody s p b → HasBodies s b
      → AreKnown cs (size_of s path b ∷ size_list s (inner_path s path b) b) → AreFilled cs after (before ++ (size_of s path b ∷ size_list s (inner_path s path b) b)))
      → Filling cs s path f seen left sizes → Filling cs s path f seen (drop count rest) after
  filling_class p count left rest sizes after is own entering x =
      let b = opens.branch x.rest p count rest (x.is ∙ is) in
      let h = subst (HasBodies s) b.is x.bodies in
      let here = size_of s path b.below ∷ size_list s (inner_path s path b.below) b.below in
      let more = size_list s path b.after in
      let split : size_list s path x.rest ≡ here ++ more = ap (size_list s path) b.is ∙ sizes_class s path p b.below b.after own in
      let known = known_split cs here more (subst (AreKnown cs) split x.known) in
      record {
        rest = b.after;
        is = b.rest;
        bodies = h.2;
        known = known.1;
        done = x.done ++ here;
        whole = append_assoc x.done here more ∙ ap (λ cs. x.done ++ cs) (sym split) ∙ x.whole;
        filled = subst (AreFilled cs after) (append_assoc seen x.done here) (entering (seen ++ x.done) b.below x.filled b.inner h.0 h.1 known.0);
      }

  -- each class of the forest has a number
  pub first_known : (p count : ℕ) (left rest : List TreeNode) (sizes : List (Option (Option ℕ))) → left ≡ Branch p count ∷ rest → (p == CLASS) ≡ true
      → Filling cs s path f seen left sizes
      → (b : Forest) × (preorder b ≡ take count rest) × FitsBody s p b × (n : ℕ) × (class_numbered cs (inner_path s path b) ≡ Some n)
  first_known p count left rest sizes is own x =
      let b = opens.branch x.rest p count rest (x.is ∙ is) in
      let h = subst (HasBodies s) b.is x.bodies in
      let split = ap (size_list s path) b.is ∙ sizes_class s path p b.below b.after own in
      let known = subst (AreKnown cs) split x.known in
      (b.below, b.inner, h.0, known.0.0, known.0.1)

  pub filling_end : (left : List TreeNode) (sizes : List (Option (Option ℕ))) → left ≡ [] → Filling cs s path f seen left sizes → AreFilled cs sizes (seen ++ size_list s path f)
  filling_end left sizes e x =
      let n = opens.none x.rest (x.is ∙ e) in
      let all : x.done ≡ size_list s path f = sym (append-nil x.done) ∙ ap (λ g. x.done ++ size_list s path g) (sym n) ∙ x.whole in
      subst (λ ds. AreFilled cs sizes (seen ++ ds)) all x.filled

-- ---- one class

-- the number of a class in a class with a number
pub inner_number : (cs : List ClassName) (path : List TypeId) (outer : ℕ) (id : TypeId) → class_numbered cs path ≡ Some outer
    → class_numbered cs (path ++ id ∷ []) ≡ onward (λ k. Some k) (class_in cs id outer)
inner_number cs path outer id at =
    to_append outer_of id_of is_id id_same id_itself cs path (id ∷ []) 0 ∙ ap (onward (λ n. onward (λ k. Some k) (class_in cs id n))) at
