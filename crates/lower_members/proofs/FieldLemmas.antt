-- Fields among declarations, and the attributes that follow them.
use Rattle.std.proofs.Common.{◌≡◌, ℕ, List, [], ◌∷◌, ◌++◌, Option, Some, cond, map, refl, ap, sym, subst, ◌∙◌, append_assoc, append-nil}
use Rattle.std.specs.Prelude.{Bool, true, false, ◌==◌, ◌||◌, if◌then◌else◌, filter, slice_get, take_while}
use Rattle.std.specs.List.{AllByRecursion}
use Rattle.std.proofs.lemmas.Bool.Decides.{Decides-eqb}
use Rattle.std.proofs.lemmas.List.Sums.{take_while-cons}
use Rattle.type_terms.specs.declared.term.SigType.{SigType}
use Rattle.assembly_tree.specs.declared.members.Attribute.{Attribute}
use Rattle.assembly_tree.specs.declared.members.Constant.{Constant}
use Rattle.assembly_tree.specs.declared.members.Field.{Field}
use Rattle.ilasm_grammar.specs.Grammar.{rule_of}
use Rattle.ilasm_grammar.specs.Ilasm.{ilasm, rule_by}
use Rattle.ilasm_grammar.specs.declared.nonterminals.TheConstants as n
use Rattle.ilasm_grammar.specs.declared.productions.TheConstants.{DECL_FIELD, FIELD, MEMBER_FIELD, TYPE}
use Rattle.ilasm_grammar.specs.declared.symbol.Symbol.{Symbol}
use Rattle.ilasm_grammar.specs.declared.symbol.Symbol.TheVariants.{Nonterminal}
use Rattle.ilasm_grammar.specs.declared.terminals.TheConstants as t
use Rattle.ilasm_grammar.specs.declared.tree.TreeNode.{TreeNode}
use Rattle.source_model.specs.Constants.{constant_of}
use Rattle.source_model.specs.Data.{content}
use Rattle.source_model.specs.Flags.{field_flags}
use Rattle.source_model.specs.Forest.{Forest, Part, child, has, preorder, the}
use Rattle.source_model.specs.Items.{is_custom, runs as runs_of}
use Rattle.source_model.specs.Manifests.{attributes}
use Rattle.source_model.specs.Members.{field, field_from, field_offset, field_token, fields}
use Rattle.source_model.specs.Nodes.{Around}
use Rattle.source_model.specs.Source.{Source}
use Rattle.source_model.specs.Types.{type_of}
use Rattle.source_model.specs.Values.{name_text}
use Rattle.source_nodes.specs.Derived.{FitsBody, head_of}
use Rattle.source_nodes.specs.Pieces.{ArePieces, nodes_of, piece_of, written}
use Rattle.source_nodes.specs.declared.pieces.Piece.{Piece}
use Rattle.source_syntax.proofs.BodyLemmas.{fits_has}
use Rattle.source_syntax.proofs.NameTokens.{terminals_of_rule}
use Rattle.source_syntax.proofs.ReferenceLemmas.{sound_part}
use Rattle.source_nodes.proofs.WrittenNames.{fits_rule, one_in}
use Rattle.source_flags.specs.InRange.{AllInRange, IsInRange}
use Rattle.lower_manifest.specs.Customs.{IsCustom}
use Rattle.lower_manifest.specs.Runs as runs
use Rattle.lower_manifest.proofs.CustomParts.{outside_hold}
use Rattle.lower_members.specs.FieldContexts.{is_field, run_at}
use Rattle.param_lines.specs.Ranged.{IsRanged}

-- ---- what a field's declaration holds

abbrev field_body : List Symbol
field_body = Nonterminal n.FIELD ∷ []

rule_declared : ilasm DECL_FIELD ≡ Some (rule_of n.DECL field_body)
unfolding ilasm rule_by
rule_declared = refl

rule_member : ilasm MEMBER_FIELD ≡ Some (rule_of n.MEMBER field_body)
unfolding ilasm rule_by
rule_member = refl

one_field : (p : ℕ) → head_of p ≡ Some n.FIELD → p ≡ FIELD
unfolding ilasm
one_field p e = one_in _ _ _ n.FIELD FIELD p e refl

pub field_is_name : slice_get (terminals_of_rule (ilasm FIELD)) 1 ≡ Some t.NAME
unfolding ilasm rule_by
field_is_name = refl

either : (a b : Bool) → (a || b) ≡ true → a ≡ false → b ≡ true
either true b e h = absurd cc
either false b e h = e

has_field : (s : Source) (p : Part) → is_field p.production ≡ true → IsRanged s p → has FIELD p.below ≡ true
has_field s p e h = go (p.production == DECL_FIELD) refl
  where
    fit : (q : ℕ) → (p.production == q) ≡ true → FitsBody s q p.below
    fit q same = subst (λ r. FitsBody s r p.below) ((Decides-eqb p.production q).0 same) h.0.fits

    go : (c : Bool) → (p.production == DECL_FIELD) ≡ c → has FIELD p.below ≡ true
    go true is = fits_has s field_body p.below n.FIELD FIELD (fits_rule s DECL_FIELD n.DECL field_body p.below rule_declared (fit DECL_FIELD is)) refl one_field
    go false is =
        fits_has s field_body p.below n.FIELD FIELD
        (fits_rule s MEMBER_FIELD n.MEMBER field_body p.below rule_member (fit MEMBER_FIELD (either (p.production == DECL_FIELD) (p.production == MEMBER_FIELD) e is))) refl one_field

pub field_in : (s : Source) (p : Part) → is_field p.production ≡ true → IsRanged s p → IsInRange s FIELD (the FIELD p.below) × AllInRange s (the FIELD p.below)
field_in s p e h = sound_part (IsInRange s) FIELD p.below h.1 (has_field s p e h)

-- ---- a field, from its parts

abbrev made : List ℕ → ℕ → SigType → Option Constant → Option ℕ → Option (List ℕ) → List Attribute → Field
made name flags of constant offset content attributes =
    record { name = name; flags = flags; of = of; constant = constant; offset = offset; content = content; attributes = attributes }

module _ (s : Source) (a : Around) (f : Forest) (ps : List Part) where
  pub same_field : (name : List ℕ) (flags : ℕ) (of : SigType) (constant : Option Constant) (offset : Option ℕ) (bytes : Option (List ℕ)) (customs : List Attribute)
      → name ≡ name_text s (field_token f) → flags ≡ field_flags s f → of ≡ type_of s a (child (TYPE ∷ []) f) → constant ≡ constant_of s f
      → offset ≡ field_offset s f → bytes ≡ content s of f → customs ≡ attributes s a ps
      → made name flags of constant offset bytes customs ≡ field_from s a f ps
  same_field name flags of constant offset bytes customs e1 e2 e3 e4 e5 e6 e7 =
      ap (λ x. made x flags of constant offset bytes customs) e1
      ∙ ap (λ x. made (name_text s (field_token f)) x of constant offset bytes customs) e2
      ∙ ap (λ x. made (name_text s (field_token f)) (field_flags s f) of constant offset x customs) e6
      ∙ ap (λ x. made (name_text s (field_token f)) (field_flags s f) x constant offset (content s x f) customs) e3
      ∙ ap (λ x. made (name_text s (field_token f)) (field_flags s f) (type_of s a (child (TYPE ∷ []) f)) x offset (content s (type_of s a (child (TYPE ∷ []) f)) f) customs) e4
      ∙ ap (λ x. made (name_text s (field_token f)) (field_flags s f) (type_of s a (child (TYPE ∷ []) f)) (constant_of s f) x (content s (type_of s a (child (TYPE ∷ []) f)) f) customs) e5
      ∙ ap (λ x. made (name_text s (field_token f)) (field_flags s f) (type_of s a (child (TYPE ∷ []) f)) (constant_of s f) (field_offset s f) (content s (type_of s a (child (TYPE ∷ []) f)) f) x) e7

-- ---- the attributes that directly follow

custom_one : (s : Source) (p : Part) → is_custom p ≡ true → IsRanged s p → IsCustom s p
custom_one s p e h = (subst (λ c. AllByRecursion (IsCustom s) (if c then p ∷ [] else [])) e (outside_hold s false (p ∷ []) (h, tt))).0

pub run_customs : (s : Source) (ps : List Part) → AllByRecursion (IsRanged s) ps → AllByRecursion (IsCustom s) (take_while is_custom ps)
run_customs s [] h = tt
run_customs s (p ∷ ps) h =
    subst (AllByRecursion (IsCustom s)) (sym (take_while-cons is_custom p ps)) (go (is_custom p) refl (run_customs s ps h.1))
  where
    go : (c : Bool) → is_custom p ≡ c → AllByRecursion (IsCustom s) (take_while is_custom ps) → AllByRecursion (IsCustom s) (cond c (p ∷ take_while is_custom ps) [])
    go true is rest = (custom_one s p is h.0, rest)
    go false is rest = tt

pub first_piece : (nodes : List TreeNode) (x : Piece) (xs : List Piece) (p : Part) (ps : List Part) → ArePieces nodes (x ∷ xs) (p ∷ ps) → (piece_of nodes x ≡ written p) × ArePieces nodes xs ps
first_piece nodes x xs p ps e =
    let first : piece_of nodes x ≡ written p = cc in
    let rest : ArePieces nodes xs ps = cc in
    (first, rest)

pub run_pieces : (nodes : List TreeNode) (xs : List Piece) (ps : List Part) → ArePieces nodes xs ps
    → ArePieces nodes (take_while (λ x. runs.is_custom x.production) xs) (take_while is_custom ps)
run_pieces nodes [] [] e = refl
run_pieces nodes [] (p ∷ ps) e = absurd cc
run_pieces nodes (x ∷ xs) [] e = absurd cc
run_pieces nodes (x ∷ xs) (p ∷ ps) e =
    let f = first_piece nodes x xs p ps e in
    let made : x.production ≡ p.production = ap (λ (w : ℕ × List TreeNode). w.0) f.0 in
    subst (λ ys. ArePieces nodes ys (take_while is_custom (p ∷ ps))) (sym (take_while-cons (λ y. runs.is_custom y.production) x xs))
    (subst (ArePieces nodes (cond (runs.is_custom x.production) (x ∷ take_while (λ y. runs.is_custom y.production) xs) [])) (sym (take_while-cons is_custom p ps))
    (subst (λ q. ArePieces nodes (cond (runs.is_custom x.production) (x ∷ take_while (λ y. runs.is_custom y.production) xs) []) (cond (runs.is_custom q) (p ∷ take_while is_custom ps) [])) made
    (go (runs.is_custom x.production) f.0 (run_pieces nodes xs ps f.1))))
  where
    go : (c : Bool) → piece_of nodes x ≡ written p → ArePieces nodes (take_while (λ y. runs.is_custom y.production) xs) (take_while is_custom ps)
        → ArePieces nodes (cond c (x ∷ take_while (λ y. runs.is_custom y.production) xs) []) (cond c (p ∷ take_while is_custom ps) [])
    go true same rest = ap (λ w. w ∷ map (piece_of nodes) (take_while (λ y. runs.is_custom y.production) xs)) same ∙ ap (λ ws. written p ∷ ws) rest
    go false same rest = refl

-- ---- how far the fields were read

pub record Left (s : Source) (a : Around) (nodes : List TreeNode) (rest : List Piece) (all whole : List Field) : Type 0 where
  pub left : List Part
  pub are : ArePieces nodes rest left
  pub each : AllByRecursion (IsRanged s) left
  pub same : all ++ fields s a left ≡ whole

-- what is left begins with the first that wasn't read
pub record Begins (s : Source) (a : Around) (nodes : List TreeNode) (x : Piece) (xs : List Piece) (all whole : List Field) : Type 0 where
  pub first : Part
  pub more : List Part
  pub is : piece_of nodes x ≡ written first
  pub are : ArePieces nodes xs more
  pub own : IsRanged s first
  pub each : AllByRecursion (IsRanged s) more
  pub same : (all ++ (if is_field first.production then field s a (run_at first more) ∷ [] else [])) ++ fields s a more ≡ whole

module _ (s : Source) (a : Around) (nodes : List TreeNode) where
  one_more : (all : List Field) (p : Part) (ps : List Part) → (all ++ (if is_field p.production then field s a (run_at p ps) ∷ [] else [])) ++ fields s a ps ≡ all ++ fields s a (p ∷ ps)
  one_more all p ps = append_assoc all (if is_field p.production then field s a (run_at p ps) ∷ [] else []) (fields s a ps) ∙ ap (λ xs. all ++ xs) (go (is_field p.production))
    where
      go : (c : Bool) → (if c then field s a (run_at p ps) ∷ [] else []) ++ fields s a ps ≡ map (field s a) (cond c (run_at p ps ∷ filter (λ r. is_field r.head.production) (runs_of ps)) (filter (λ r. is_field r.head.production) (runs_of ps)))
      go true = refl
      go false = refl

  pub begins : (x : Piece) (xs : List Piece) (all whole : List Field) → Left s a nodes (x ∷ xs) all whole → Begins s a nodes x xs all whole
  begins x xs all whole l = go l.left l.are l.each l.same
    where
      go : (ps : List Part) → ArePieces nodes (x ∷ xs) ps → AllByRecursion (IsRanged s) ps → all ++ fields s a ps ≡ whole → Begins s a nodes x xs all whole
      go [] e h same = absurd cc
      go (p ∷ ps) e h same =
          let f = first_piece nodes x xs p ps e in
          record { first = p; more = ps; is = f.0; are = f.1; own = h.0; each = h.1; same = one_more all p ps ∙ same }

  pub nothing_left : (all whole : List Field) (rest : List Piece) → rest ≡ [] → Left s a nodes rest all whole → all ≡ whole
  nothing_left all whole rest e l = go l.left (subst (λ xs. ArePieces nodes xs l.left) e l.are) l.same
    where
      go : (ps : List Part) → ArePieces nodes [] ps → all ++ fields s a ps ≡ whole → all ≡ whole
      go [] are same = sym (append-nil all) ∙ same
      go (p ∷ ps) are same = absurd cc

pub parts_begin : (nodes : List TreeNode) (x : Piece) (xs : List Piece) → (ps : List Part) × ArePieces nodes (x ∷ xs) ps
    → ((f : Forest) × (preorder f ≡ nodes_of nodes x)) × ((ps : List Part) × ArePieces nodes xs ps)
parts_begin nodes x xs h = go h.0 h.1
  where
    go : (ps : List Part) → ArePieces nodes (x ∷ xs) ps → ((f : Forest) × (preorder f ≡ nodes_of nodes x)) × ((qs : List Part) × ArePieces nodes xs qs)
    go [] e = absurd cc
    go (p ∷ ps) e = let f = first_piece nodes x xs p ps e in ((p.below, ap (λ (w : ℕ × List TreeNode). w.1) (sym f.0)), (ps, f.1))

pub nothing_added : (s : Source) (a : Around) (all : List Field) (p : Part) (ps : List Part) → is_field p.production ≡ false
    → all ≡ all ++ (if is_field p.production then field s a (run_at p ps) ∷ [] else [])
nothing_added s a all p ps e = sym (ap (λ (c : Bool). all ++ (if c then field s a (run_at p ps) ∷ [] else [])) e ∙ append-nil all)
