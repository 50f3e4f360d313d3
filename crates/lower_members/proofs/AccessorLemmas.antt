-- The method that an accessor means.
use Rattle.std.proofs.Common.{◌≡◌, ℕ, List, Option, map, ap, ◌∙◌}
use Rattle.std.specs.Prelude.{position}
use Rattle.type_terms.specs.declared.reference.MethodRef.{MethodRef}
use Rattle.assembly_tree.specs.declared.members.Accessor.{Accessor}
use Rattle.ilasm_grammar.specs.declared.productions.TheConstants.{METHOD_REF}
use Rattle.source_model.specs.Forest.{Forest, Part, the}
use Rattle.source_model.specs.Members.{accessor, accessor_kind, is_meant, or_first}
use Rattle.source_model.specs.Nodes.{Around}
use Rattle.source_model.specs.References.{method_ref}
use Rattle.source_model.specs.Source.{Source}
use Rattle.lower_members.specs.SignedMethods.{Signed, declared, is_signed}
use Rattle.lower_members.proofs.FirstSigned.{position_map}

abbrev made : ℕ → ℕ → Accessor
made kind method = record { kind = kind; method = method }

module _ (s : Source) (a : Around) (ms : List Forest) where
  -- the first of the methods of a class that has the name and the signature of a reference
  pub meant : (reference : Forest) (read : MethodRef) (methods : List Signed) (found : Option ℕ) → read ≡ method_ref s a reference → methods ≡ map (declared s a) ms
      → found ≡ position (is_signed read.name read.sig) methods → found ≡ position (is_meant s a reference) ms
  meant reference read methods found r m e =
      e ∙ ap (λ (x : MethodRef). position (is_signed x.name x.sig) methods) r
      ∙ ap (position (is_signed (method_ref s a reference).name (method_ref s a reference).sig)) m
      ∙ position_map (is_signed (method_ref s a reference).name (method_ref s a reference).sig) (declared s a) ms

  pub same_accessor : (p : Part) (kind method : ℕ) (found : Option ℕ) → kind ≡ accessor_kind p.production → method ≡ or_first found
      → found ≡ position (is_meant s a (the METHOD_REF p.below)) ms → made kind method ≡ accessor s a ms p
  same_accessor p kind method found k m e =
      ap (λ x. made x method) k ∙ ap (made (accessor_kind p.production)) (m ∙ ap or_first e)
