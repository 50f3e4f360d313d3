-- The sizes of classes that are known.
use Rattle.std.proofs.Common.{◌≡◌, ℕ, zero, suc, List, [], ◌∷◌, ◌++◌, Option, None, Some, map, refl, ap, sym, subst, ◌∙◌, cond}
use Rattle.std.specs.Prelude.{Bool, true, false, ◌==◌, if◌then◌else◌, filter, fold, IfSome}
use Rattle.std.specs.List.{AllByRecursion, find}
use Rattle.std.proofs.lemmas.Bool.Decides.{Decides-eqb}
use Rattle.type_terms.specs.declared.name.TypeId.{TypeId}
use Rattle.assembly_tree.specs.DataSize.{layout_size}
use Rattle.ilasm_grammar.specs.declared.productions.TheConstants.{CLASS, MEMBER_SIZE}
use Rattle.source_model.specs.Data.{class_layout, layout}
use Rattle.source_model.specs.Forest as tree
use Rattle.source_model.specs.Forest.{Forest, Part, is_among, leaf_at}
use Rattle.source_model.specs.Items.{members}
use Rattle.source_model.specs.Names.{class_at, is_path}
use Rattle.source_model.specs.Nodes.{Around, Node, entered, nodes, nodes_in, nodes_of, nothing_around}
use Rattle.source_model.specs.OutOfRange.{asked_size_at, is_32_bits, is_size_in_range}
use Rattle.source_model.specs.Source.{Source}
use Rattle.source_model.specs.Values.{int_at}
use Rattle.source_syntax.specs.ClassNumbers.{class_numbered}
use Rattle.source_syntax.specs.declared.class_paths.ClassName.{ClassName}
use Rattle.source_flags.specs.InRange.{AllInRange, IsInRange}
use Rattle.source_flags.proofs.Bits.{passes_at}
use Rattle.source_flags.proofs.Gathered.{all_append}
use Rattle.lower_members.specs.ClassSizes as word
use Rattle.param_lines.specs.Ranged.{IsRanged}
use Rattle.check_data.specs.DeclaredSizes as asked
use Rattle.elaborate.specs.KnownSizes.{known_size}
use Rattle.elaborate.proofs.ClassLemmas.{members_ranged}

-- ---- those that are known

known_at : (sizes : List (Option (Option ℕ))) (n : ℕ) → word.size_at (map known_size sizes) n ≡ asked.size_numbered sizes (Some n)
known_at [] n = refl
known_at (None ∷ sizes) zero = refl
known_at (Some size ∷ sizes) zero = refl
known_at (size ∷ sizes) (suc n) = known_at sizes n

known_numbered : (sizes : List (Option (Option ℕ))) (o : Option ℕ) → word.size_numbered (map known_size sizes) o ≡ asked.size_numbered sizes o
known_numbered sizes None = refl
known_numbered sizes (Some n) = known_at sizes n

-- ---- class sizes are in their range

size_ranged : (s : Source) (p : Part) → p.production ≡ MEMBER_SIZE → IsInRange s p.production p.below → is_32_bits (int_at s (leaf_at 1 p.below)) ≡ true
size_ranged s p is h =
    let own = subst (λ q. IsInRange s q p.below) is h in
    passes_at is_32_bits s (leaf_at 1 p.below) own.layouts

abbrev ranged_after : Source → Bool → Part → Bool
ranged_after s before p = is_32_bits (int_at s (leaf_at 1 p.below))

last_ranged : (s : Source) (ps : List Part) (before : Bool) → AllByRecursion (IsRanged s) ps → before ≡ true
    → fold (ranged_after s) before (filter (λ p. p.production == MEMBER_SIZE) ps) ≡ true
last_ranged s [] before h so = so
last_ranged s (p ∷ ps) before h so =
    go (p.production == MEMBER_SIZE) refl (λ first. last_ranged s ps (ranged_after s before p) h.1 first) (last_ranged s ps before h.1 so)
  where
    go : (c : Bool) → (p.production == MEMBER_SIZE) ≡ c
        → (ranged_after s before p ≡ true → fold (ranged_after s) (ranged_after s before p) (filter (λ q. q.production == MEMBER_SIZE) ps) ≡ true)
        → fold (ranged_after s) before (filter (λ q. q.production == MEMBER_SIZE) ps) ≡ true
        → fold (ranged_after s) before (cond c (p ∷ filter (λ q. q.production == MEMBER_SIZE) ps) (filter (λ q. q.production == MEMBER_SIZE) ps)) ≡ true
    go true is own other = own (size_ranged s p ((Decides-eqb p.production MEMBER_SIZE).0 is) h.0.0)
    go false is own other = other

size_in_range : (s : Source) (f : Forest) → AllInRange s f → is_size_in_range s f ≡ true
size_in_range s f h = last_ranged s (members f) true (members_ranged s f h) refl

-- ---- the class of a path is in range

all_nodes : (s : Source) (a : Around) (f : Forest) → AllInRange s f → AllByRecursion (λ (n : Node). AllInRange s n.below) (nodes_in s a f)
all_nodes s a tree.none h = tt
all_nodes s a (tree.leaf k f) h = all_nodes s a f h
all_nodes s a (tree.branch p b f) h =
    let inner = entered s a p b in
    all_append (λ (n : Node). AllInRange s n.below) (record { production = p; below = b; around = inner } ∷ nodes_in s inner b) (nodes_in s a f)
    (h.1, all_nodes s inner b h.1) (all_nodes s a f h.2)

pub all_chosen : {X : Type 0} (P : X → Type 0) (test : X → Bool) (xs : List X) → AllByRecursion P xs → AllByRecursion P (filter test xs)
all_chosen P test [] h = tt
all_chosen P test (x ∷ xs) h = go (test x) (all_chosen P test xs h.1)
  where
    go : (c : Bool) → AllByRecursion P (filter test xs) → AllByRecursion P (cond c (x ∷ filter test xs) (filter test xs))
    go true more = (h.0, more)
    go false more = more

found_holds : {X : Type 0} (P : X → Type 0) (test : X → Bool) (xs : List X) → AllByRecursion P xs → IfSome (find test xs) P
found_holds P test [] h = tt
found_holds P test (x ∷ xs) h = go (test x) (found_holds P test xs h.1)
  where
    go : (c : Bool) → IfSome (find test xs) P → IfSome (cond c (Some x) (find test xs)) P
    go true more = h.0
    go false more = more

class_in_range : (s : Source) (path : List TypeId) → AllInRange s s.tree → IfSome (class_at s path) (λ n. AllInRange s n.below)
unfolding nodes
class_in_range s path h =
    found_holds (λ (n : Node). AllInRange s n.below) (λ n. is_path n.around.path path) (nodes_of (CLASS ∷ []) (nodes_in s nothing_around s.tree))
    (all_chosen (λ (n : Node). AllInRange s n.below) (λ n. is_among (CLASS ∷ []) n.production) (nodes_in s nothing_around s.tree) (all_nodes s nothing_around s.tree h))

asked_is : (s : Source) (o : Option Node) → IfSome o (λ n. AllInRange s n.below) → asked_size_at s o ≡ layout_size (class_layout s o)
asked_is s None h = refl
asked_is s (Some n) h = ap (λ (c : Bool). if c then layout_size (layout s n.below) else Some 0) (size_in_range s n.below h)

pub sizes_are : (s : Source) (cs : List ClassName) (sizes : List (Option (Option ℕ))) → AllInRange s s.tree → asked.AreSizes s cs sizes → (path : List TypeId)
    → word.size_numbered (map known_size sizes) (class_numbered cs path) ≡ layout_size (class_layout s (class_at s path))
sizes_are s cs sizes h are path =
    known_numbered sizes (class_numbered cs path) ∙ are path ∙ asked_is s (class_at s path) (class_in_range s path h)
