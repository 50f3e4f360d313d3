-- Attributes break no rule.
use Rattle.std.proofs.Common.{◌≡◌, ℕ, suc, ◌+◌, Bool, true, false, cond, List, [], ◌∷◌, ◌++◌, map, Option, None, Some, refl, ap}
use Rattle.std.proofs.lemmas.Bool.{and_parts, false≢true}
use Rattle.std.specs.List.{list_all}
use Rattle.std.specs.Prelude.{is_none}
use Rattle.ilasm_grammar.specs.declared.productions.TheConstants as p
use Rattle.type_terms.specs.declared.reference.MethodRef.{MethodRef}
use Rattle.type_terms.specs.declared.term.SigType.{SigType}
use Rattle.assembly_tree.specs.WellFormedMembers.{is_attribute}
use Rattle.assembly_tree.specs.WellFormedTerms.{is_method_ref, is_plain_ref}
use Rattle.assembly_tree.specs.declared.assembly.Assembly.{Assembly}
use Rattle.assembly_tree.specs.declared.members.Attribute.{Attribute}
use Rattle.source_model.specs.Forest as f
use Rattle.source_model.specs.Nodes.{Around, nodes_in, entered}
use Rattle.source_model.specs.Signatures.{generic_arguments_token}
use Rattle.source_model.specs.Source.{Source}
use Rattle.faultless_nodes.specs.Laws.{EachBreaksNothing, asked, UnaskedBreakNothing}
use Rattle.listing_growth.specs.Held.{is_method_ref_held, is_attribute_held, are_attributes_held, are_bytes}
use Rattle.listing_model.specs.References.{method_ref}
use Rattle.listing_model.specs.Shown.{none, put, size}
use Rattle.listing_model.specs.Values.{custom, customs}
use Rattle.listing_reading.specs.Numbered.{numbered, Agrees}
use Rattle.listing_rows.specs.Segments.{ItemsAgree}
use Rattle.listing_denotes.specs.Quiet.{ItemsBreakNothing}
use Rattle.listing_denotes.specs.Values.{NumbersAlone}
use Rattle.listing_denotes.specs.References.{ReferencesBreakNothing, PlainReferencesHaveNone, AttributesBreakNothing}

-- ---- what holds no generic arguments has none in its parts

abbrev sought : List ℕ
sought = p.GEN_ARGS_TYPE ∷ []

abbrev AllEmpty : List f.Part → Type 0
AllEmpty [] = Unit {0}
AllEmpty (q ∷ qs) = (f.parts sought q.below ≡ []) × AllEmpty qs

empty_join : (xs ys : List f.Part) → AllEmpty xs → AllEmpty ys → AllEmpty (xs ++ ys)
empty_join [] ys h k = k
empty_join (q ∷ xs) ys h k = (h.0, empty_join xs ys h.1 k)

empty_front : (xs ys : List f.Part) → (xs ++ ys) ≡ [] → (xs ≡ []) × (ys ≡ [])
empty_front [] ys h = (refl, h)
empty_front (x ∷ xs) ys h = absurd cc

parts_empty : (g : f.Forest) → f.parts sought g ≡ [] → AllEmpty (f.parts (p.METHOD_GENERICS ∷ []) g)
parts_empty f.none h = tt
parts_empty (f.leaf k after) h = parts_empty after h
parts_empty (f.branch q b after) h =
    by (f.is_among sought q) h (f.is_among (p.METHOD_GENERICS ∷ []) q) (λ i. parts_empty b i) (λ i. parts_empty after i)
  where
    inside : (d : Bool) → f.parts sought b ≡ [] → (f.parts sought b ≡ [] → AllEmpty (f.parts (p.METHOD_GENERICS ∷ []) b)) → AllEmpty (cond d (f.part q b ∷ []) (f.parts (p.METHOD_GENERICS ∷ []) b))
    inside true e r = (e, tt)
    inside false e r = r e

    by : (c : Bool) → (cond c (f.part q b ∷ []) (f.parts sought b) ++ f.parts sought after) ≡ [] → (d : Bool) → (f.parts sought b ≡ [] → AllEmpty (f.parts (p.METHOD_GENERICS ∷ []) b)) →
        (f.parts sought after ≡ [] → AllEmpty (f.parts (p.METHOD_GENERICS ∷ []) after)) → AllEmpty (cond d (f.part q b ∷ []) (f.parts (p.METHOD_GENERICS ∷ []) b) ++ f.parts (p.METHOD_GENERICS ∷ []) after)
    by true i d r k = absurd cc
    by false i d r k =
        let es = empty_front (f.parts sought b) (f.parts sought after) i in
        empty_join (cond d (f.part q b ∷ []) (f.parts (p.METHOD_GENERICS ∷ []) b)) (f.parts (p.METHOD_GENERICS ∷ []) after) (inside d es.0 r) (k es.1)

first_empty : (ps : List f.Part) → AllEmpty ps → f.parts sought (f.first_or f.none (f.below_each ps)) ≡ []
first_empty [] h = refl
first_empty (q ∷ ps) h = h.0

-- so a reference has no token of generic arguments
pub no_token : (g : f.Forest) → f.parts sought g ≡ [] → generic_arguments_token g ≡ []
no_token g h =
    ap (λ (ps : List f.Part). map (λ (k : f.Forest). f.leaf_at 0 (f.the p.METHOD_GENERICS g)) (f.below_each ps))
    (first_empty (f.parts (p.METHOD_GENERICS ∷ []) g) (parts_empty g h))

none_of : (o : Option (List SigType)) → is_none o ≡ true → o ≡ None
none_of None h = refl
none_of (Some ts) h = absurd (false≢true h)

pub plain_of : (a : Assembly) (r : MethodRef) → is_plain_ref a r ≡ true → (r.args ≡ None) × (is_method_ref a r ≡ true)
unfolding is_plain_ref
plain_of a r h = let hs = and_parts (is_none r.args) (is_method_ref a r) h in (none_of r.args hs.0, hs.1)

module _ (unasked : UnaskedBreakNothing) (alone : NumbersAlone) (s : Source) (a : Assembly)
    (methods : (x : Around) (r : MethodRef) → is_method_ref a r ≡ true → is_method_ref_held r ≡ true → (at : ℕ) → Agrees s at (method_ref a.externs r).below → (after : f.Forest) → EachBreaksNothing s (nodes_in s x after) →
    EachBreaksNothing s (nodes_in s x (f.branch (method_ref a.externs r).production (numbered at (method_ref a.externs r).below) after)))
    (plain : (r : MethodRef) → is_method_ref a r ≡ true → is_method_ref_held r ≡ true → r.args ≡ None → (at : ℕ) → generic_arguments_token (numbered at (method_ref a.externs r).below) ≡ []) where
  custom_quiet : (x : Around) (c : Attribute) → is_attribute a c ≡ true → is_attribute_held c ≡ true → (at : ℕ) → Agrees s at (put (custom a.externs c) none) →
      EachBreaksNothing s (nodes_in s x (numbered at (put (custom a.externs c) none)))
  unfolding is_attribute is_attribute_held method_ref
  custom_quiet x c m h at ag =
      let good = plain_of a c.constructor m in
      let hs = and_parts (is_method_ref_held c.constructor) (are_bytes c.value) h in
      let ref_below = (method_ref a.externs c.constructor).below in
      let last = f.branch p.EQ_BYTES_OPT_SOME (f.leaf (suc at + size ref_below) f.none) f.none in
      let own = f.branch p.METHOD_REF (numbered (suc at) ref_below) last in
      let e : generic_arguments_token (numbered (suc at) ref_below) ≡ [] = plain c.constructor good.1 hs.0 good.0 (suc at) in
      unasked.branch s x p.CUSTOM (f.leaf at own) f.none (alone s _ refl (simp e))
      (methods x c.constructor good.1 hs.0 (suc at) ag.0.1.0 last (unasked.node s _ refl, tt)) tt

  customs_quiet : (x : Around) (cs : List Attribute) → list_all (is_attribute a) cs ≡ true → are_attributes_held cs ≡ true → (production : ℕ) → f.is_among asked production ≡ false → (at : ℕ) →
      ItemsAgree s at (customs a.externs production cs) → ItemsBreakNothing s x at (customs a.externs production cs)
  customs_quiet x [] m h production q at ag = tt
  customs_quiet x (c ∷ cs) m h production q at ag =
      let ms = and_parts (is_attribute a c) (list_all (is_attribute a) cs) m in
      let hs = and_parts (is_attribute_held c) (are_attributes_held cs) h in
      let below = numbered at (put (custom a.externs c) none) in
      let around = entered s x production below in (
        unasked.branch s x production below f.none (unasked.node s (record { production = production; below = below; around = around }) q) (custom_quiet around c ms.0 hs.0 at ag.0) tt,
        customs_quiet x cs ms.1 hs.1 production q (at + size (put (custom a.externs c) none)) ag.1,
      )

pub attributes_break_nothing : UnaskedBreakNothing → NumbersAlone → ReferencesBreakNothing → PlainReferencesHaveNone → AttributesBreakNothing
attributes_break_nothing unasked alone references plain s a listed x cs m h production q at ag =
    customs_quiet unasked alone s a (references.methods s a listed) (plain s a listed) x cs m h production q at ag
