-- What the walk for the lines of a method says of a plain method.
use Rattle.std.proofs.Common.{◌≡◌, ℕ, List, [], ◌∷◌, ◌++◌, map, ap, sym, ◌∙◌, refl}
use Rattle.std.specs.Prelude.{Bool, true, false, not, ◌||◌, ◌&&◌, if◌then◌else◌}
use Rattle.std.specs.List.{flat_map}
use Rattle.std.proofs.lemmas.Bool.{and_parts, false≢true}
use Rattle.std.proofs.lemmas.Grind.{flat_map-append}
use Rattle.ilasm_grammar.specs.Ilasm.{body_at, has_bit}
use Rattle.ilasm_grammar.specs.declared.tree.TreeNode.{TreeNode}
use Rattle.ilasm_grammar.proofs.TableCheck.{ilasm_tables}
use Rattle.ilasm_grammar.proofs.Tables.{all_below}
use Rattle.source_model.specs.BodyFaults.{label_names_in}
use Rattle.source_model.specs.Forest as tree
use Rattle.source_model.specs.Forest.{Forest, Part, part, parts, parts_outside, preorder, is_among}
use Rattle.source_model.specs.Instructions.{instruction_forms, targets}
use Rattle.source_model.specs.Source.{Source}
use Rattle.source_nodes.specs.Derived.{HasBodies}
use Rattle.source_nodes.specs.Pieces.{written}
use Rattle.source_flags.proofs.Apart.{all_outside, are_apart, stays}
use Rattle.check_bodies.specs.CodeLines.{IsPlain, others}
use Rattle.check_bodies.specs.PlainBodies.{is_other, is_plain, lines}
use Rattle.check_bodies.proofs.NamingLemmas.{naming, names_are, no_targets}
use Rattle.check_bodies.proofs.PastLemmas.{all_of, others_past, passed_forms}

-- ---- what names labels stands in no instruction

-- the nonterminals that stand somewhere below an instruction
abbrev below_forms : ℕ
below_forms = 0x1ffff800000000003fffffffffffe3820

forms_closed : all_below (stays below_forms instruction_forms) ilasm_tables.productions ≡ true
unfolding ilasm_tables body_at has_bit
forms_closed = refl

naming_apart : are_apart below_forms naming ≡ true
unfolding ilasm_tables has_bit
naming_apart = refl

naming_past : (s : Source) (f : Forest) → HasBodies s f → parts_outside instruction_forms naming f ≡ parts naming f
naming_past s f h = all_outside below_forms instruction_forms naming forms_closed naming_apart s f h

-- ---- a method without the others

neither : (xs ys : List Part) → xs ++ ys ≡ [] → (xs ≡ []) × (ys ≡ [])
neither [] ys e = (refl, e)
neither (x ∷ xs) ys e = absurd cc

record Lacks (q : ℕ) (b a : Forest) : Type 0 where
  other : is_among others q ≡ false
  below : parts others b ≡ []
  after : parts others a ≡ []

lacks : (q : ℕ) (b a : Forest) → parts others (tree.branch q b a) ≡ [] → Lacks q b a
lacks q b a e = go (is_among others q) refl
  where
    at : (c : Bool) → is_among others q ≡ c → (if c then part q b ∷ [] else parts others b) ++ parts others a ≡ []
    at c is = sym (ap (λ (x : Bool). (if x then part q b ∷ [] else parts others b) ++ parts others a) is) ∙ e

    go : (c : Bool) → is_among others q ≡ c → Lacks q b a
    go true is = let full = at true is in absurd cc
    go false is = let none = neither (parts others b) (parts others a) (at false is) in record { other = is; below = none.0; after = none.1 }

no_line : (q : ℕ) → is_among others q ≡ false → not (is_among lines q) ≡ true
no_line q e = go (is_among lines q) refl
  where
    go : (c : Bool) → is_among lines q ≡ c → not c ≡ true
    go false is = refl
    go true is = absurd (false≢true (sym e ∙ all_of (is_among others) lines refl q is))

all_joined : (xs ys : List TreeNode) → is_plain xs ≡ true → is_plain ys ≡ true → is_plain (xs ++ ys) ≡ true
all_joined [] ys e g = g
all_joined (x ∷ xs) ys e g =
    let both = and_parts (is_other x) (is_plain xs) e in
    ap (λ (b : Bool). b && is_plain (xs ++ ys)) both.0 ∙ all_joined xs ys both.1 g

plain_without : (f : Forest) → parts others f ≡ [] → is_plain (preorder f) ≡ true
plain_without tree.none e = refl
plain_without (tree.leaf k a) e = plain_without a e
plain_without (tree.branch q b a) e =
    let none = lacks q b a e in
    ap (λ (c : Bool). c && is_plain (preorder b ++ preorder a)) (no_line q none.other)
    ∙ all_joined (preorder b) (preorder a) (plain_without b none.below) (plain_without a none.after)

outside_at : (q : ℕ) (b a : Forest) (c d : Bool) → is_among naming q ≡ c → is_among instruction_forms q ≡ d
    → parts_outside instruction_forms naming (tree.branch q b a)
    ≡ (if c then part q b ∷ [] else if d then [] else parts_outside instruction_forms naming b) ++ parts_outside instruction_forms naming a
outside_at q b a c d e g =
    ap (λ (x : Bool). (if x then part q b ∷ [] else if is_among instruction_forms q then [] else parts_outside instruction_forms naming b) ++ parts_outside instruction_forms naming a) e
    ∙ ap (λ (x : Bool). (if c then part q b ∷ [] else if x then [] else parts_outside instruction_forms naming b) ++ parts_outside instruction_forms naming a) g

code_at : (q : ℕ) (b a : Forest) (d : Bool) → is_among instruction_forms q ≡ d
    → parts instruction_forms (tree.branch q b a) ≡ (if d then part q b ∷ [] else parts instruction_forms b) ++ parts instruction_forms a
code_at q b a d e = ap (λ (x : Bool). (if x then part q b ∷ [] else parts instruction_forms b) ++ parts instruction_forms a) e

-- what names labels is an instruction or one of the others
named_by : (q : ℕ) → is_among naming q ≡ true → (is_among instruction_forms q || is_among others q) ≡ true
named_by q e = all_of (λ p. is_among instruction_forms p || is_among others p) naming refl q e

names_without : (f : Forest) → parts others f ≡ []
    → flat_map label_names_in (parts_outside instruction_forms naming f) ≡ flat_map targets (parts instruction_forms f)
names_without tree.none e = refl
names_without (tree.leaf k a) e = names_without a e
names_without (tree.branch q b a) e =
    let none = lacks q b a e in
    go none.other (is_among instruction_forms q) (is_among naming q) refl refl (names_without b none.below) (names_without a none.after)
  where
    go : is_among others q ≡ false → (d c : Bool) → is_among instruction_forms q ≡ d → is_among naming q ≡ c
        → flat_map label_names_in (parts_outside instruction_forms naming b) ≡ flat_map targets (parts instruction_forms b)
        → flat_map label_names_in (parts_outside instruction_forms naming a) ≡ flat_map targets (parts instruction_forms a)
        → flat_map label_names_in (parts_outside instruction_forms naming (tree.branch q b a)) ≡ flat_map targets (parts instruction_forms (tree.branch q b a))
    go differs true true own named below after =
        ap (flat_map label_names_in) (outside_at q b a true true named own)
        ∙ ap (λ ks. ks ++ flat_map label_names_in (parts_outside instruction_forms naming a)) (names_are q b own)
        ∙ ap (λ ks. targets (part q b) ++ ks) after
        ∙ sym (ap (flat_map targets) (code_at q b a true own))
    go differs true false own unnamed below after =
        ap (flat_map label_names_in) (outside_at q b a false true unnamed own)
        ∙ after
        ∙ sym (ap (flat_map targets) (code_at q b a true own) ∙ ap (λ ks. ks ++ flat_map targets (parts instruction_forms a)) (no_targets q b unnamed))
    go differs false true other named below after =
        absurd (false≢true (sym differs ∙ sym (ap (λ (c : Bool). c || is_among others q) other) ∙ named_by q named))
    go differs false false other unnamed below after =
        ap (flat_map label_names_in) (outside_at q b a false false unnamed other)
        ∙ flat_map-append label_names_in (parts_outside instruction_forms naming b) (parts_outside instruction_forms naming a)
        ∙ ap (λ ks. ks ++ flat_map label_names_in (parts_outside instruction_forms naming a)) below
        ∙ ap (λ ks. flat_map targets (parts instruction_forms b) ++ ks) after
        ∙ sym (ap (flat_map targets) (code_at q b a false other) ∙ flat_map-append targets (parts instruction_forms b) (parts instruction_forms a))

-- nothing is written only where nothing stands
unwritten : (ps : List Part) → [] ≡ map written ps → ps ≡ []
unwritten [] e = refl
unwritten (p ∷ ps) e = absurd cc

pub plain_lines : (s : Source) (nodes : List TreeNode) (f : Forest) → preorder f ≡ nodes → HasBodies s f → [] ≡ map written (parts_outside passed_forms others f)
    → IsPlain nodes f
plain_lines s nodes f e bodies none =
    let nothing : parts others f ≡ [] = sym (others_past s f bodies) ∙ unwritten (parts_outside passed_forms others f) none in
    record {
      plain = sym (ap is_plain e) ∙ plain_without f nothing;
      named = ap (flat_map label_names_in) (sym (naming_past s f bodies)) ∙ names_without f nothing;
    }
