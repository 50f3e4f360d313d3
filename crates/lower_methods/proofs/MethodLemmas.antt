-- Methods, from their parts.
use Rattle.std.proofs.Common.{◌≡◌, ℕ, ◌+◌, ◌<◌, ◌^◌, List, [], ◌∷◌, ◌++◌, Option, Some, length, map, take, refl, ap, sym, subst, ◌∙◌, arith}
use Rattle.std.specs.Prelude.{Bool, true, filter, slice_get, if◌then◌else◌}
use Rattle.std.proofs.lemmas.List.{length-map, map-append}
use Rattle.std.proofs.lemmas.List.Elements.{filter-append}
use Rattle.type_terms.specs.declared.reference.MethodRef.{MethodRef}
use Rattle.type_terms.specs.declared.reference.MethodSig.{MethodSig}
use Rattle.assembly_tree.specs.declared.body.Body.{Body}
use Rattle.assembly_tree.specs.declared.members.Attribute.{Attribute}
use Rattle.assembly_tree.specs.declared.members.Generic.{Generic}
use Rattle.assembly_tree.specs.declared.members.Method.{Method}
use Rattle.assembly_tree.specs.declared.members.Param.{Param}
use Rattle.ilasm_grammar.specs.Ilasm.{has_bit}
use Rattle.ilasm_grammar.specs.declared.productions.TheConstants.{ITEM_ENTRYPOINT, METHOD, TYPAR, TYPARS_OPT_SOME}
use Rattle.ilasm_grammar.proofs.TableCheck.{ilasm_tables}
use Rattle.source_flags.specs.declared.outside.Shut.TheVariants.{Instructions}
use Rattle.source_flags.proofs.Apart.{is_past, mask_of}
use Rattle.source_model.specs.Forest.{Forest, Part, child, leaf_at, preorder, the}
use Rattle.source_model.specs.Members.{in_method, is_method_part, method}
use Rattle.source_model.specs.Nodes.{Around, typar_names, typars}
use Rattle.source_model.specs.Source.{Source}
use Rattle.source_model.specs.Values.{name_text}
use Rattle.source_syntax.specs.Places.{IsAt}
use Rattle.source_nodes.specs.Readers.{Reads}
use Rattle.source_syntax.specs.declared.place.Place.{Place}
use Rattle.source_nodes.proofs.PieceLemmas.{take_next}
use Rattle.source_syntax.proofs.SizeLemmas.{child_smaller, few_each}

-- what says that a method is the entry point stands in no instruction
pub entry_past : is_past Instructions (ITEM_ENTRYPOINT ∷ []) ≡ true
unfolding is_past mask_of ilasm_tables has_bit
entry_past = refl

-- ---- the place in a method

pub few_typars : (s : Source) (f : Forest) (n : ℕ) → length (preorder f) ≡ n → n < 2 ^ 32 → length (typar_names s f) < 2 ^ 32
few_typars s f n e few =
    let named : length (typar_names s f) ≡ length (typars f) = length-map (typars f) (λ g. name_text s (leaf_at 0 g)) in
    omega (arith, named, few_each TYPAR (child (TYPARS_OPT_SOME ∷ []) f), child_smaller (TYPARS_OPT_SOME ∷ []) f, e, few)

pub at_method : (x outer : Place) (s : Source) (a : Around) (f : Forest) → IsAt outer s a → x.reader ≡ outer.reader → x.keys.now ≡ outer.keys.now
    → x.class.now ≡ outer.class.now → x.method.now ≡ typar_names s f → length (typar_names s f) < 2 ^ 32 → IsAt x s (in_method a f)
at_method x outer s a f k reader keys class method few = record {
  reads = subst (λ r. Reads r s) (sym reader) k.reads;
  keys = keys ∙ k.keys;
  few = k.few;
  class = class ∙ k.class;
  method = method;
  few-class = k.few-class;
  few-method = few;
}

-- ---- records of equal parts

abbrev pub method_of : List ℕ → ℕ → ℕ → MethodSig → List Generic → List Param → List MethodRef → Bool → Option Body → List Attribute → Method
method_of a0 a1 a2 a3 a4 a5 a6 a7 a8 a9 = record {
  name = a0;
  flags = a1;
  impl_flags = a2;
  sig = a3;
  generics = a4;
  params = a5;
  overrides = a6;
  entry = a7;
  body = a8;
  attributes = a9;
}

pub same_method : (a0 b0 : List ℕ) (a1 b1 a2 b2 : ℕ) (a3 b3 : MethodSig) (a4 b4 : List Generic) (a5 b5 : List Param) (a6 b6 : List MethodRef) (a7 b7 : Bool)
    (a8 b8 : Option Body) (a9 b9 : List Attribute) → a0 ≡ b0 → a1 ≡ b1 → a2 ≡ b2 → a3 ≡ b3 → a4 ≡ b4 → a5 ≡ b5 → a6 ≡ b6 → a7 ≡ b7 → a8 ≡ b8 → a9 ≡ b9
    → method_of a0 a1 a2 a3 a4 a5 a6 a7 a8 a9 ≡ method_of b0 b1 b2 b3 b4 b5 b6 b7 b8 b9
same_method a0 b0 a1 b1 a2 b2 a3 b3 a4 b4 a5 b5 a6 b6 a7 b7 a8 b8 a9 b9 h0 h1 h2 h3 h4 h5 h6 h7 h8 h9 =
    λ i. method_of (h0 i) (h1 i) (h2 i) (h3 i) (h4 i) (h5 i) (h6 i) (h7 i) (h8 i) (h9 i)

-- ---- methods, one by one

module _ (s : Source) (a : Around) where
  abbrev pub picked : List Part → List Method
  picked ps = map (method s a) (map (λ p. the METHOD p.below) (filter is_method_part ps))

  pub picked_next : (ps : List Part) (i : ℕ) (p : Part) (ms : List Method) → slice_get ps i ≡ Some p → ms ≡ picked (take i ps) → ms ++ picked (p ∷ []) ≡ picked (take (i + 1) ps)
  picked_next ps i p ms at e =
      ap (λ ws. ws ++ picked (p ∷ [])) e
      ∙ sym (map-append (method s a) (map (λ q. the METHOD q.below) (filter is_method_part (take i ps))) (map (λ q. the METHOD q.below) (filter is_method_part (p ∷ []))))
      ∙ ap (map (method s a)) (sym (map-append (λ q. the METHOD q.below) (filter is_method_part (take i ps)) (filter is_method_part (p ∷ []))))
      ∙ ap (λ ws. map (method s a) (map (λ q. the METHOD q.below) ws)) (sym (filter-append is_method_part (take i ps) (p ∷ [])))
      ∙ ap picked (sym (take_next ps i p at))

  pub picked_one : (p : Part) → is_method_part p ≡ true → picked (p ∷ []) ≡ method s a (the METHOD p.below) ∷ []
  picked_one p e = ap (λ (c : Bool). map (method s a) (map (λ q. the METHOD q.below) (if c then p ∷ [] else []))) e
