-- The interfaces that a type's own interfaces lead to.
use Rattle.std.proofs.Common.{◌≡◌, ◌∙◌, sym, ap, subst, ◌⊎◌, inl, inr, ℕ, ◌+◌, ◌<◌, Bool, List, [], ◌∷◌, ◌++◌, length, get_or, take, Option, Result, IfOk, IsTrue, None}
use Rattle.std.specs.List.{Contains}
use Rattle.std.proofs.lemmas.List.{take_more}
use Rattle.std.proofs.lemmas.List.Elements.{Contains-append_left, Contains-append_cases}
use Rattle.type_terms.specs.declared.term.SigType.{SigType}
use Rattle.assembly_tree.specs.declared.assembly.Assembly.{Assembly}
use Rattle.sig_pool.specs.declared.node.Node.{Node}
use Rattle.sig_pool.specs.Pool.{HasAll}
use Rattle.sig_pool.specs.Terms.{term_of}
use Rattle.type_hierarchy.specs.Hierarchy.{Hierarchy, interfaces, Up}
use Rattle.type_hierarchy.specs.Queues.{HasType, UpFromSome}
use Rattle.type_hierarchy.specs.Tables.{hierarchy_in}
use Rattle.type_hierarchy.specs.World.{Content, Stays, hierarchy, type_at}
use Rattle.type_hierarchy.specs.declared.tables.Tables.{Tables}
use Rattle.type_hierarchy.proofs.QueueLemmas.{no_ids}
use Rattle.type_order.specs.Found.{IsLedTo}
use Rattle.class_faces.specs.Ids.{AreIds}
use Rattle.class_faces.specs.Marked.{is_face, is_overriding}
use Rattle.class_faces.specs.More.{IsOneMore, AreMore}
use Rattle.class_faces.specs.declared.faces.Faces.{Faces}
use Rattle.class_faces.proofs.Walking.{among, among_back}
use Rattle.class_model.proofs.Members.{nothing_in, first_in, first_or_later}
use Rattle.class_members.proofs.Lists.{in_right}
use Rattle.class_members.proofs.Worlds.{if_ok_more}
use Rattle.class_notes.specs.declared.note.Open.{Open}
use Rattle.class_notes.specs.Fresh.{AreFresh, AreLedFaces, IsPassed}

module _ (w : Hierarchy) (ns : List Node) (own : List ℕ) (t : SigType) (h : HasAll ns own (interfaces w t)) where
  to_led : (d : SigType) → UpFromSome w ns own d → IsLedTo w t d
  to_led d u = record { by = term_of ns u.id; listed = subst (λ (l : List SigType). Contains l (term_of ns u.id)) h.terms (among_back ns own u.id u.among); up = u.up }

  of_led : (d : SigType) → IsLedTo w t d → UpFromSome w ns own d
  of_led d l =
      let i : HasType ns own l.by = among ns own l.by (subst (λ (ts : List SigType). Contains ts l.by) (sym h.terms) l.listed) in
      record { id = i.id; among = i.among; up = subst (λ (s : SigType). Up w s d) (sym i.is) l.up }

  led_ids : (test : SigType → Bool) (ms : List Node) (ids : List ℕ) → AreIds ms (IsOneMore test w ns [] own) ids → AreIds ms (λ d. IsLedTo w t d × IsTrue (test d)) ids
  led_ids test ms ids a = record {
    within = a.within;
    are = λ id c. elim (a.are id c) [ inl n ↦ absurd (no_ids n.id n.among) | inr p ↦ (to_led (term_of ms id) p.0, p.1) ];
    all = λ d p. a.all d (inr (of_led d p.0, p.1));
  }

pub led_faces_are : (a : Assembly) (w0 w1 : Content) (ms : List Node) (key : ℕ) (own slice : List ℕ) {E : Type 0} (r : Result Faces E) → Stays w0 w1 →
    HasAll w1.nodes own (interfaces (hierarchy w0) (type_at w0 key)) → slice ≡ own → IfOk r (AreMore a (hierarchy w1) w1.nodes ms slice None) →
    IfOk r (AreLedFaces a (hierarchy w0) ms (type_at w0 key))
led_faces_are a w0 w1 ms key own slice r s h e m =
    if_ok_more r
    (λ f g. let k = subst (λ (l : Tables). AreMore a (hierarchy_in l) w1.nodes ms own None f) s.tables (subst (λ (l : List ℕ). AreMore a (hierarchy w1) w1.nodes ms l None f) e g) in
    record {
      all = led_ids (hierarchy w0) w1.nodes own (type_at w0 key) h (is_face a (hierarchy w0)) ms f.all k.all;
      overriding = led_ids (hierarchy w0) w1.nodes own (type_at w0 key) h (is_overriding a (hierarchy w0)) ms f.overriding k.overriding;
    })
    m

-- ---- those that the parent hasn't

pub fresh_none : (pairs : List (List ℕ)) (o : Option ℕ) (opens : List Open) (fresh : List ℕ) → fresh ≡ [] → AreFresh pairs o opens [] fresh
fresh_none pairs o opens fresh e = record { are = λ k c. absurd (nothing_in k (subst (λ (l : List ℕ). Contains l k) e c)); all = λ k c. absurd (nothing_in k c) }

module _ (pairs : List (List ℕ)) (o : Option ℕ) (opens : List Open) (faces : List ℕ) (i face : ℕ) (low : i < length faces) (is : face ≡ get_or faces i face) (fresh : List ℕ)
    (h : AreFresh pairs o opens (take i faces) fresh) where
  next_is : take i faces ++ face ∷ [] ≡ take (i + 1) faces
  next_is = ap (λ (x : ℕ). take i faces ++ x ∷ []) is ∙ sym (take_more faces i face low)

  on_last : (k : ℕ) → Contains (take i faces ++ face ∷ []) k → Contains (take i faces) k ⊎ (face ≡ k)
  on_last k c = elim (Contains-append_cases (take i faces) (face ∷ []) k c) [
    | inl d ↦ inl d
    | inr d ↦ elim (first_or_later face [] k d) [ inl e ↦ inr e | inr n ↦ absurd (nothing_in k n) ]
  ]

  pub fresh_left : IsPassed pairs o opens face → AreFresh pairs o opens (take (i + 1) faces) fresh
  fresh_left p = subst (λ (l : List ℕ). AreFresh pairs o opens l fresh) next_is (record { are = λ k c. Contains-append_left (take i faces) (face ∷ []) k (h.are k c); all = all })
    where
      all : (k : ℕ) → Contains (take i faces ++ face ∷ []) k → Contains fresh k ⊎ IsPassed pairs o opens k
      all k c = elim (on_last k c) [ inl d ↦ h.all k d | inr e ↦ inr (subst (IsPassed pairs o opens) e p) ]

  pub fresh_more : (new : List ℕ) → new ≡ fresh ++ face ∷ [] → AreFresh pairs o opens (take (i + 1) faces) new
  fresh_more new f = subst (AreFresh pairs o opens (take (i + 1) faces)) (sym f) (subst (λ (l : List ℕ). AreFresh pairs o opens l (fresh ++ face ∷ [])) next_is (record { are = are; all = all }))
    where
      are : (k : ℕ) → Contains (fresh ++ face ∷ []) k → Contains (take i faces ++ face ∷ []) k
      are k c = elim (Contains-append_cases fresh (face ∷ []) k c) [
        | inl d ↦ Contains-append_left (take i faces) (face ∷ []) k (h.are k d)
        | inr d ↦ in_right (take i faces) (face ∷ []) k d
      ]

      all : (k : ℕ) → Contains (take i faces ++ face ∷ []) k → Contains (fresh ++ face ∷ []) k ⊎ IsPassed pairs o opens k
      all k c = elim (on_last k c) [
        | inl d ↦ elim (h.all k d) [ inl g ↦ inl (Contains-append_left fresh (face ∷ []) k g) | inr p ↦ inr p ]
        | inr e ↦ inl (subst (Contains (fresh ++ face ∷ [])) e (in_right fresh (face ∷ []) face (first_in face [])))
      ]
