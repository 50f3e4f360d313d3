-- Which types are known.
use Rattle.std.proofs.Common.{◌≡◌, ◌∙◌, refl, sym, ap, ◌⊎◌, inl, inr, ◌↔◌, ℕ, ◌<◌, List, length, Bool, true, false, ◌||◌, if◌then◌else◌, None, Some, IsTrue}
use Rattle.std.specs.List.{find}
use Rattle.type_terms.specs.declared.name.Scope.{Scope}
use Rattle.type_terms.specs.declared.name.TypeName.{TypeName}
use Rattle.type_terms.specs.declared.term.SigType.{SigType}
use Rattle.type_terms.specs.declared.term.SigType.TheVariants as type
use Rattle.assembly_tree.specs.declared.assembly.Assembly.{Assembly}
use Rattle.assembly_tree.specs.declared.typedef.TypeDef.{TypeDef}
use Rattle.sig_pool.specs.declared.node.Node.{Node}
use Rattle.sig_pool.specs.Pool.{Has}
use Rattle.sig_pool.specs.Terms.{term_of}
use Rattle.type_hierarchy.specs.Hierarchy.{Hierarchy, core_name, named, named_by, object}
use Rattle.type_hierarchy.specs.Names.{full_name, same_scope, primitives, the_value_type}
use Rattle.type_hierarchy.specs.Normal.{normal, has_class, name_or_primitive, named_type}
use Rattle.type_hierarchy.specs.Tables.{hierarchy_in}
use Rattle.type_hierarchy.specs.World.{Content, Stays, hierarchy, type_at}
use Rattle.type_order.specs.Keys.{reading_of}
use Rattle.class_model.specs.Classes.{declaration, IsKnown}
use Rattle.class_members.proofs.Normals.{class_is}
use Rattle.class_members.proofs.Worlds.{stays_on}
use Rattle.class_notes.specs.Cores.{IsCored}
use Rattle.class_notes.proofs.FillingLemmas.{iff_on}

no_primitive : (b : Bool) → (if b then find (has_class the_value_type) primitives else None) ≡ None
no_primitive true = refl
no_primitive false = refl

by_value : (n : TypeName) (b : Bool) → (if b then type.Value n else type.Class n) ≡ named_by b n
by_value n true = refl
by_value n false = refl

pub value_is : (w : Hierarchy) → IsCored w → normal (reading_of w) (type.Class (full_name w.core the_value_type)) ≡ named w (core_name w the_value_type)
value_is w c =
    class_is (reading_of w) (full_name w.core the_value_type) ∙ ap (λ (s : Scope). named_type (reading_of w) (full_name s the_value_type)) c
    ∙ ap (name_or_primitive (reading_of w) (core_name w the_value_type)) (no_primitive (same_scope w.core w.core))
    ∙ by_value (core_name w the_value_type) (w.is_value (core_name w the_value_type))

pub known_declared : (a : Assembly) (w : Hierarchy) (t : SigType) (d : TypeDef) → Some d ≡ declaration a w t → IsKnown a w t
known_declared a w t d e = inl (d, sym e)

pub known_otherwise : (a : Assembly) (w : Hierarchy) (t : SigType) (r : Bool) → None ≡ declaration a w t →
    (IsTrue r ↔ ((t ≡ object) ⊎ (t ≡ named w (core_name w the_value_type)))) → IsTrue r ↔ IsKnown a w t
known_otherwise a w t r e f = (λ h. inr (f.0 h), back)
  where
    back : IsKnown a w t → IsTrue r
    back (inl d) = let q : None ≡ Some d.0 = e ∙ d.1 in absurd cc
    back (inr c) = f.1 c

pub either_is : (a b : Bool) {A B : Type 0} → (IsTrue a ↔ A) → (IsTrue b ↔ B) → IsTrue (a || b) ↔ (A ⊎ B)
either_is true b f g = (λ h. inl (f.0 refl), λ x. refl)
either_is false b f g = (λ h. inr (g.0 h), λ x. elim x [ inl y ↦ absurd (let q : false ≡ true = f.1 y in cc) | inr z ↦ g.1 z ])

-- ---- Object and ValueType

either_same : {X : Type 0} {x y u v : X} → x ≡ u → y ≡ v → (x ≡ y) ↔ (u ≡ v)
either_same a b = (λ q. sym a ∙ q ∙ b, λ q. a ∙ q ∙ sym b)

module _ (w0 w1 w2 : Content) (s1 : Stays w0 w1) (s2 : Stays w1 w2) (cored : IsCored (hierarchy w0)) (key : ℕ) (low : key < length w0.nodes) where
  key_is : term_of w2.nodes key ≡ type_at w0 key
  key_is = (stays_on w0 w1 w2 s1 s2).nodes.terms key low

  pub is_object_when : (pool : List Node) (key_id of id : ℕ) (r : Bool) → pool ≡ w2.nodes → key_id ≡ key → id ≡ of → Has w1.nodes of object →
      (IsTrue r ↔ (term_of pool key_id ≡ term_of pool id)) → IsTrue r ↔ (type_at w0 key ≡ object)
  is_object_when pool key_id of id r p k i h f =
      iff_on f (either_same ((λ j. term_of (p j) (k j)) ∙ key_is) ((λ j. term_of (p j) (i j)) ∙ s2.nodes.terms of h.within ∙ h.term))

  pub is_value_when : (pool : List Node) (key_id of id : ℕ) (name : TypeName) (scope : Scope) (r : Bool) → pool ≡ w2.nodes → key_id ≡ key → id ≡ of → scope ≡ (hierarchy w0).core →
      name ≡ full_name scope the_value_type → Has w2.nodes of (normal (reading_of (hierarchy w1)) (type.Class name)) → (IsTrue r ↔ (term_of pool key_id ≡ term_of pool id)) →
      IsTrue r ↔ (type_at w0 key ≡ named (hierarchy w0) (core_name (hierarchy w0) the_value_type))
  is_value_when pool key_id of id name scope r p k i c n h f =
      let e : name ≡ full_name (hierarchy w0).core the_value_type = n ∙ ap (λ (s : Scope). full_name s the_value_type) c in
      iff_on f
      (either_same ((λ j. term_of (p j) (k j)) ∙ key_is)
      ((λ j. term_of (p j) (i j)) ∙ h.term ∙ (λ j. normal (reading_of (hierarchy_in (s1.tables j))) (type.Class (e j))) ∙ value_is (hierarchy w0) cored))
