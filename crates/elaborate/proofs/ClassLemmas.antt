-- Classes, from their parts.
use Rattle.std.proofs.Common.{◌≡◌, ℕ, suc, ◌<◌, ◌≤◌, ◌^◌, List, [], ◌∷◌, ◌++◌, Some, length, map, refl, ap, sym, subst, ◌∙◌, arith}
use Rattle.std.specs.Prelude.{Bool, true, false, ◌==◌, ◌||◌, filter, slice_get, if◌then◌else◌}
use Rattle.std.specs.List.{AllByRecursion, list_any}
use Rattle.std.proofs.lemmas.List.{length-map}
use Rattle.assembly_tree.specs.declared.typedef.TypeDef.{TypeDef}
use Rattle.assembly_tree.specs.declared.typedef.TypeDef.TheViews.{roll-TypeDef}
use Rattle.ilasm_grammar.specs.Ilasm.{ilasm, rule_by}
use Rattle.ilasm_grammar.specs.declared.productions.TheConstants.{CLASS, EVENT, MEMBER_EVENT, MEMBER_PROPERTY, METHOD, PROPERTY, TYPARS_OPT_SOME, TYPAR}
use Rattle.ilasm_grammar.specs.declared.tree.TreeNode.{TreeNode}
use Rattle.ilasm_grammar.specs.declared.terminals.TheConstants as t
use Rattle.type_terms.specs.declared.name.TypeId.{TypeId}
use Rattle.source_model.specs.Classes.{class_from}
use Rattle.source_model.specs.Forest.{Forest, Part, child, preorder}
use Rattle.source_model.specs.Items.{begins_run, customs_outside, is_custom, members}
use Rattle.source_model.specs.Members.{events_in, is_method_part, method, method_forests, properties_in}
use Rattle.source_model.specs.Nodes.{Around, typar_names, typars}
use Rattle.source_model.specs.Source.{Source}
use Rattle.source_model.specs.Values.{name_text}
use Rattle.source_model.specs.Forest as tree
use Rattle.source_nodes.specs.Pieces.{ArePieces, piece_of, written}
use Rattle.source_syntax.specs.Places.{IsAt}
use Rattle.source_nodes.specs.declared.pieces.Piece.{Piece}
use Rattle.source_nodes.specs.Readers.{Reads}
use Rattle.source_syntax.specs.declared.place.Place.{Place}
use Rattle.source_syntax.proofs.NameTokens.{terminals_of_rule}
use Rattle.source_nodes.proofs.ShapeLemmas.{few_parts}
use Rattle.source_syntax.proofs.SizeLemmas.{child_smaller, few_each}
use Rattle.source_flags.specs.InRange.{AllInRange, IsInRange}
use Rattle.source_flags.specs.Lines.{productions_of}
use Rattle.source_flags.specs.declared.gathering.Kind.TheVariants.{Members}
use Rattle.source_flags.proofs.Gathered.{IsSought, all_follow, of_parts}
use Rattle.param_lines.specs.Ranged.{IsRanged}
use Rattle.lower_members.specs.SignedMethods.{declared, signed}
use Rattle.elaborate.specs.Bases.{is_outside}
use Rattle.elaborate.specs.ClassParts.{AreMembers, IsHead, IsKnown, inner, is_accessed}
use Rattle.elaborate.specs.declared.classes.Known.{Known}
use Rattle.elaborate.specs.WholeParts.{AllWhole, IsWhole, IsWholePart}
use Rattle.elaborate.specs.declared.class_heads.Head.{Head}
use Rattle.elaborate.specs.declared.class_members.Members as own

pub class_is_named : slice_get (terminals_of_rule (ilasm CLASS)) 1 ≡ Some t.NAME
unfolding ilasm rule_by
class_is_named = refl

-- ---- its methods

pub signed_methods : (s : Source) (a : Around) (ms : List Forest) → map signed (map (method s a) ms) ≡ map (declared s a) ms
signed_methods s a [] = refl
signed_methods s a (m ∷ ms) = ap (λ xs. declared s a m ∷ xs) (signed_methods s a ms)

few_filtered : {X : Type 0} (test : X → Bool) (xs : List X) → length (filter test xs) ≤ length xs
few_filtered test [] = omega arith
few_filtered test (x ∷ xs) = go (test x) (few_filtered test xs)
  where
    go : (c : Bool) → length (filter test xs) ≤ length xs → length (if c then x ∷ filter test xs else filter test xs) ≤ suc (length xs)
    go true h = omega (arith, h)
    go false h = omega (arith, h)

pub few_methods : (f : Forest) (n : ℕ) → length (preorder f) ≡ n → n < 2 ^ 32 → length (method_forests (members f)) < 2 ^ 32
few_methods f n e few =
    omega (arith, length-map (filter is_method_part (members f)) (λ (p : Part). tree.the METHOD p.below), few_filtered is_method_part (members f), few_parts (productions_of Members) f, e, few)

pub members_ranged : (s : Source) (f : Forest) → AllInRange s f → AllByRecursion (IsRanged s) (members f)
members_ranged s f each =
    all_follow (IsSought (IsInRange s) (productions_of Members)) (IsRanged s) (members f) (λ p g. (g.1, g.2)) (of_parts (IsInRange s) (productions_of Members) f each)

pub all_ranged : (s : Source) (f : Forest) → AllWhole s f → AllInRange s f
all_ranged s tree.none h = tt
all_ranged s (tree.leaf k a) h = all_ranged s a h
all_ranged s (tree.branch p b a) h = (h.0.0, all_ranged s b h.1, all_ranged s a h.2)

pub members_whole : (s : Source) (f : Forest) → AllWhole s f → AllByRecursion (IsWholePart s) (members f)
members_whole s f each =
    all_follow (IsSought (IsWhole s) (productions_of Members)) (IsWholePart s) (members f) (λ p g. (g.1, g.2)) (of_parts (IsWhole s) (productions_of Members) f each)

-- ---- its properties and events

pub neither : (a b : Bool) → (a || b) ≡ false → (a ≡ false) × (b ≡ false)
neither true b e = absurd cc
neither false b e = (refl, e)

-- whether some were found is whether there are some
pub same_any : (test : ℕ → Bool) (nodes : List TreeNode) (found : List Piece) (ps : List Part) → ArePieces nodes found ps
    → list_any (λ (x : Piece). test x.production) found ≡ list_any (λ (p : Part). test p.production) ps
same_any test nodes [] [] e = refl
same_any test nodes [] (p ∷ ps) e = absurd cc
same_any test nodes (x ∷ xs) [] e = absurd cc
same_any test nodes (x ∷ xs) (p ∷ ps) e =
    let first : piece_of nodes x ≡ written p = cc in
    let more : map (piece_of nodes) xs ≡ map written ps = cc in
    let made : x.production ≡ p.production = ap (λ (w : ℕ × List TreeNode). w.0) first in
    ap (λ q. test q || list_any (λ (y : Piece). test y.production) xs) made ∙ ap (λ b. test p.production || b) (same_any test nodes xs ps more)

-- where none was found there is none
pub none_accessed : (nodes : List TreeNode) (found : List Piece) (ps : List Part) → ArePieces nodes found ps → list_any (λ (x : Piece). is_accessed x.production) found ≡ false
    → (properties_in ps ≡ []) × (events_in ps ≡ [])
none_accessed nodes [] [] e h = (refl, refl)
none_accessed nodes [] (p ∷ ps) e h = absurd cc
none_accessed nodes (x ∷ xs) [] e h = absurd cc
none_accessed nodes (x ∷ xs) (p ∷ ps) e h =
    let first : piece_of nodes x ≡ written p = cc in
    let more : map (piece_of nodes) xs ≡ map written ps = cc in
    let made : x.production ≡ p.production = ap (λ (w : ℕ × List TreeNode). w.0) first in
    let own = neither (is_accessed x.production) (list_any (λ (y : Piece). is_accessed y.production) xs) h in
    let each = neither (x.production == MEMBER_PROPERTY) (x.production == MEMBER_EVENT) own.0 in
    let rest = none_accessed nodes xs ps more own.1 in (
      ap (λ (c : Bool). map (λ (q : Part). tree.the PROPERTY q.below) (if c then p ∷ filter (λ q. q.production == MEMBER_PROPERTY) ps else filter (λ q. q.production == MEMBER_PROPERTY) ps))
          (ap (λ k. k == MEMBER_PROPERTY) (sym made) ∙ each.0)
          ∙ rest.0,
      ap (λ (c : Bool). map (λ (q : Part). tree.the EVENT q.below) (if c then p ∷ filter (λ q. q.production == MEMBER_EVENT) ps else filter (λ q. q.production == MEMBER_EVENT) ps))
          (ap (λ k. k == MEMBER_EVENT) (sym made) ∙ each.1)
          ∙ rest.1,
    )

-- ---- its attributes

pub no_customs : (in_run : Bool) (ps : List Part) → list_any (λ (p : Part). is_custom p) ps ≡ false → customs_outside in_run ps ≡ []
no_customs in_run [] e = refl
no_customs in_run (p ∷ ps) e =
    let both = neither (is_custom p) (list_any (λ (q : Part). is_custom q) ps) e in
    ap (λ (c : Bool). if c then (if in_run then [] else p ∷ []) ++ customs_outside in_run ps else customs_outside (begins_run p) ps) both.0
    ∙ no_customs (begins_run p) ps both.1

-- ---- its generic parameters

pub few_typars : (s : Source) (f : Forest) (n : ℕ) → length (preorder f) ≡ n → n < 2 ^ 32 → length (typar_names s f) < 2 ^ 32
few_typars s f n e few =
    let named : length (typar_names s f) ≡ length (typars f) = length-map (typars f) (λ g. name_text s (tree.leaf_at 0 g)) in
    omega (arith, named, few_each TYPAR (child (TYPARS_OPT_SOME ∷ []) f), child_smaller (TYPARS_OPT_SOME ∷ []) f, e, few)

-- ---- the whole

pub put : (s : Source) (a : Around) (f : Forest) (h : Head) (m : own.Members) (nested : List TypeDef) → IsHead s a f h → AreMembers s a f m
    → roll-TypeDef (record {
      id = h.id;
      flags = h.flags;
      layout = h.layout;
      generics = m.generics;
      extends = h.extends;
      implements = h.implements;
      fields = m.fields;
      methods = m.methods;
      properties = m.accessed.properties;
      events = m.accessed.events;
      nested = nested;
      attributes = m.attributes;
    }) ≡ class_from s a f nested
put s a f h m nested i k = λ n. roll-TypeDef (record {
  id = i.id-is n;
  flags = i.flags-are n;
  layout = i.layout-is n;
  generics = k.generics-are n;
  extends = i.base-is n;
  implements = i.interfaces-are n;
  fields = k.fields-are n;
  methods = k.methods-are n;
  properties = k.accessed-are.properties-are n;
  events = k.accessed-are.events-are n;
  nested = nested;
  attributes = k.attributes-are n;
})

pub within_some : (path : List TypeId) (id : TypeId) → false ≡ is_outside (path ++ id ∷ [])
within_some [] id = refl
within_some (x ∷ xs) id = refl

-- a place in a class
pub at_class : (x : Place) (known : Known) (s : Source) (a : Around) (f : Forest) → IsKnown known s → x.reader ≡ known.reader → x.keys.now ≡ known.keys.now
    → x.class.now ≡ typar_names s f → x.method.now ≡ known.none.now → length (typar_names s f) < 2 ^ 32 → IsAt x s (inner s a f)
at_class x known s a f k reader keys class method few = record {
  reads = subst (λ r. Reads r s) (sym reader) k.reads;
  keys = keys ∙ k.keys-are;
  few = k.few;
  class = class;
  method = method ∙ k.none-is;
  few-class = few;
  few-method = omega arith;
}
