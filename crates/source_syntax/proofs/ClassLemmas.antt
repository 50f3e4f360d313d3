-- The classes of a source by their numbers: how one is found, and one more.
use Rattle.std.proofs.Common.{◌≡◌, ℕ, zero, suc, ◌+◌, ◌<◌, ◌≤◌, inl, inr, List, [], ◌∷◌, ◌++◌, Option, Some, None, length, cond, take, refl, ap, sym, subst, ◌∙◌, arith}
use Rattle.std.specs.Prelude.{Bool, true, false, not, ◌&&◌, ◌==◌, slice_get, get_or, nat_lt, nat_eq, option_map, position}
use Rattle.std.specs.List.{position_or_len}
use Rattle.std.proofs.lemmas.Bool.{cases_Bool, lt-ltb}
use Rattle.std.proofs.lemmas.Bool.Decides.{Decides-eqb}
use Rattle.std.proofs.lemmas.List.{take_at}
use Rattle.std.proofs.lemmas.Option.{get_or_from_slice_get, slice_get-get_or, slice_get_within, same_Some}
use Rattle.std.proofs.lemmas.Slice.Eq.{bytes_eq-Decides}
use Rattle.type_terms.specs.declared.name.TypeId.{TypeId}
use Rattle.assembly_tree.specs.DataSize.{is_id}
use Rattle.source_model.specs.Names.{is_path}
use Rattle.source_nodes.specs.Chains.{IsChained}
use Rattle.source_syntax.specs.ClassNumbers.{AreDistinct, AreFound, IsNumber, class_hash, class_in, class_of, id_of, is_class, outer_of}
use Rattle.source_syntax.specs.Nested.{IsNested}
use Rattle.source_syntax.specs.declared.class_paths.ClassName.{ClassName}
use Rattle.source_nodes.proofs.ChainLemmas.{IsChained-none, chain_push, chain_undo, snoc_cases}
use Rattle.source_nodes.proofs.FirstLemmas.{position_is, position_none}
use Rattle.source_syntax.proofs.NestedLemmas.{nested_more, none_nested}
use Rattle.source_nodes.proofs.WrittenNames.{both_true}

-- ---- equality

both : (a b : Bool) → a ≡ true → b ≡ true → (a && b) ≡ true
both true b h k = k
both false b h k = absurd cc

pub id_same : (i j : TypeId) → is_id i j ≡ true → i ≡ j
id_same i j e =
    let b = both_true _ _ e in
    let space = (bytes_eq-Decides i.space j.space).0 b.0 in
    let name = (bytes_eq-Decides i.name j.name).0 b.1 in
    λ k. record { space = space k; name = name k }

pub id_itself : (i : TypeId) → is_id i i ≡ true
id_itself i = both _ _ ((bytes_eq-Decides i.space i.space).1 refl) ((bytes_eq-Decides i.name i.name).1 refl)

pub path_same : (p q : List TypeId) → is_path p q ≡ true → p ≡ q
path_same [] [] e = refl
path_same [] (j ∷ q) e = absurd cc
path_same (i ∷ p) [] e = absurd cc
path_same (i ∷ p) (j ∷ q) e =
    let b = both_true (is_id i j) (is_path p q) e in
    ap (λ x. x ∷ p) (id_same i j b.0) ∙ ap (λ x. j ∷ x) (path_same p q b.1)

pub path_itself : (p : List TypeId) → is_path p p ≡ true
path_itself [] = refl
path_itself (i ∷ p) = both (is_id i i) (is_path p p) (id_itself i) (path_itself p)

class_same : (c : ClassName) (outer : ℕ) (id : TypeId) → is_class outer id c ≡ true → c ≡ class_of outer id
class_same c outer id e =
    let b = both_true (c.outer == outer) (is_id c.id id) e in
    let around = (Decides-eqb c.outer outer).0 b.0 in
    let own = id_same c.id id b.1 in
    λ k. record { outer = around k; id = own k }

is_itself : (outer : ℕ) (id : TypeId) → is_class outer id (class_of outer id) ≡ true
is_itself outer id = both (outer == outer) (is_id id id) ((Decides-eqb outer outer).1 refl) (id_itself id)

-- ---- where a class is found

pub place_is : (cs : List ClassName) (outer : ℕ) (id : TypeId) (m : ℕ) (c : ClassName) → AreDistinct cs → slice_get cs m ≡ Some c → is_class outer id c ≡ true
    → class_in cs id outer ≡ Some (suc m)
place_is cs outer id m c distinct at own =
    let within = slice_get_within cs m c at in
    ap (option_map suc) (position_is (is_class outer id) cs m c within (ap (is_class outer id) (get_or_from_slice_get cs m c c at) ∙ own) other)
  where
    other : (k : ℕ) → k < m → is_class outer id (get_or cs k c) ≡ false
    other k less = elim (cases_Bool (is_class outer id (get_or cs k c))) [
      | inr apart ↦ apart
      | inl same ↦
          let w = slice_get_within cs m c at in
          let here : slice_get cs k ≡ Some c =
          slice_get-get_or cs k c (omega (arith, w, less)) ∙ ap Some (class_same (get_or cs k c) outer id same ∙ sym (class_same c outer id own)) in
          let is = distinct k m c here at in
          absurd (omega (arith, is, less))
    ]

pub nowhere : (cs : List ClassName) (outer : ℕ) (id : TypeId) → ((k : ℕ) → slice_get cs k ≡ Some (class_of outer id) → ⊥) → class_in cs id outer ≡ None
nowhere cs outer id absent = ap (option_map suc) (position_none (is_class outer id) cs each)
  where
    each : (k : ℕ) (c : ClassName) → slice_get cs k ≡ Some c → is_class outer id c ≡ false
    each k c at = elim (cases_Bool (is_class outer id c)) [
      | inr apart ↦ apart
      | inl same ↦ absurd (absent k (at ∙ ap Some (class_same c outer id same)))
    ]

-- another class isn't the one that is sought
pub is_apart : (c : ClassName) (outer : ℕ) (id : TypeId) → is_class outer id c ≡ false → c ≡ class_of outer id → ⊥
is_apart c outer id e same = let own : is_class outer id c ≡ true = ap (is_class outer id) same ∙ is_itself outer id in absurd cc

-- ---- one more

none_passes : {X : Type 0} (p : X → Bool) (xs : List X) → position p xs ≡ None → (k : ℕ) (x : X) → slice_get xs k ≡ Some x → p x ≡ false
none_passes {X = X} p xs e k x at = elim (cases_Bool (p x)) [
  | inr apart ↦ apart
  | inl own ↦
      let less = reached xs k x at own in
      let some : Some (position_or_len p xs) ≡ None = sym (ap (λ b. cond b (Some (position_or_len p xs)) None) (lt-ltb (position_or_len p xs) (length xs) less)) ∙ e in
      absurd cc
]
  where
    reached : (ys : List X) (j : ℕ) (y : X) → slice_get ys j ≡ Some y → p y ≡ true → position_or_len p ys < length ys
    reached [] j y here own = absurd cc
    reached (z ∷ ys) zero y here own =
        let same : p z ≡ true = ap p (same_Some z y here) ∙ own in
        subst (λ b. cond (not b) (1 + position_or_len p ys) 0 < suc (length ys)) (sym same) (omega arith)
    reached (z ∷ ys) (suc j) y here own = either (p z) (reached ys j y here own)
      where
        either : (b : Bool) → position_or_len p ys < length ys → cond (not b) (1 + position_or_len p ys) 0 < suc (length ys)
        either true h = omega arith
        either false h = omega (arith, h)

distinct_more : (cs : List ClassName) (outer : ℕ) (id : TypeId) → AreDistinct cs → class_in cs id outer ≡ None → AreDistinct (cs ++ class_of outer id ∷ [])
distinct_more cs outer id distinct fresh j k c at also = elim (snoc_cases cs (class_of outer id) c j at) [
  | inl old ↦ elim (snoc_cases cs (class_of outer id) c k also) [
    | inl older ↦ distinct j k c old older
    | inr new ↦ absurd (other j c old new.1)
  ]
  | inr new ↦ elim (snoc_cases cs (class_of outer id) c k also) [
    | inl older ↦ absurd (other k c older new.1)
    | inr newer ↦ new.0 ∙ sym newer.0
  ]
]
  where
    absent : (o : Option ℕ) → option_map suc o ≡ None → o ≡ None
    absent None e = refl
    absent (Some m) e = absurd cc

    other : (m : ℕ) (d : ClassName) → slice_get cs m ≡ Some d → d ≡ class_of outer id → ⊥
    other m d here same =
        is_apart d outer id (none_passes (is_class outer id) cs (absent (position (is_class outer id) cs) fresh) m d here) same

pub found_none : (newest : ℕ → Option ℕ) → ((h : ℕ) → newest h ≡ None) → AreFound newest [] []
found_none newest none = record {
  chained = IsChained-none class_hash newest none;
  distinct = λ j k c at also. absurd cc;
  nested = none_nested outer_of id_of is_id id_same id_itself;
}

pub found_push : (newest later : ℕ → Option ℕ) (cs all : List ClassName) (nexts links : List (Option ℕ)) (outer place : ℕ) (id : TypeId) (next : Option ℕ)
    → AreFound newest cs nexts → IsNumber cs outer → class_in cs id outer ≡ None → place ≡ length cs → next ≡ newest (class_hash (class_of outer id))
    → ((q : ℕ) → later q ≡ cond (nat_eq (class_hash (class_of outer id)) q) (Some place) (newest q))
    → all ≡ cs ++ class_of outer id ∷ [] → links ≡ nexts ++ next ∷ [] → AreFound later all links
found_push newest later cs all nexts links outer place id next ok number fresh at is more e f =
    let c = class_of outer id in
    let chained : IsChained class_hash later (cs ++ c ∷ []) (nexts ++ next ∷ []) = chain_push class_hash newest later cs nexts c place next ok.chained at is more in
    rw (e, f) (record {
      chained = chained;
      distinct = distinct_more cs outer id ok.distinct fresh;
      nested = nested_more outer_of id_of is_id id_same id_itself cs c number.0 ok.nested number.1;
    })

pub found_undo : (newest later : ℕ → Option ℕ) (cs all : List ClassName) (nexts links : List (Option ℕ)) (c : ClassName) (next : Option ℕ) (place : ℕ)
    → AreFound newest cs nexts → ((q : ℕ) → later q ≡ newest q) → place ≡ length cs → all ≡ cs ++ c ∷ [] → links ≡ nexts ++ next ∷ []
    → AreFound later (take place all) (take place links)
found_undo newest later cs all nexts links c next place ok same at e f =
    let back : take place all ≡ cs = rw e (take_at cs (c ∷ []) place (sym at)) in
    record {
      chained = chain_undo class_hash newest later cs all nexts links c next place ok.chained same at e f;
      distinct = rw back ok.distinct;
      nested = rw back ok.nested;
    }
