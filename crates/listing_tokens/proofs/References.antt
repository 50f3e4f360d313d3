-- Signatures and references are sound.
use Rattle.std.proofs.Common.{◌≡◌, ℕ, zero, suc, ◌^◌, ◌<◌, ◌≤◌, nat_lt, Bool, true, false, cond, List, [], ◌∷◌, ◌++◌, map, take, drop, length, Option, None, Some, refl, sym, subst, ◌∙◌, append_assoc, arith}
use Rattle.std.proofs.lemmas.Bool.{and_parts, leb-true}
use Rattle.std.specs.List.{list_all}
use Rattle.std.specs.Prelude.{codes}
use Rattle.std.specs.Str.{bytes_eq}
use Rattle.il_lexer.specs.declared.word.TheConstants as word
use Rattle.ilasm_grammar.specs.declared.productions.TheConstants as p
use Rattle.type_terms.specs.Depth.{owner_depth_step, depth_step}
use Rattle.type_terms.specs.declared.name.Scope as scope
use Rattle.type_terms.specs.declared.name.TypeId.{TypeId}
use Rattle.type_terms.specs.declared.reference.FieldRef.{FieldRef}
use Rattle.type_terms.specs.declared.reference.MethodRef.{MethodRef}
use Rattle.type_terms.specs.declared.reference.MethodSig.{MethodSig}
use Rattle.type_terms.specs.declared.term.Owner.{Owner, fold-Owner, fold_out-Owner, map-Owner, out-Owner}
use Rattle.type_terms.specs.declared.term.Owner.TheOpen as layer
use Rattle.type_terms.specs.declared.term.SigType.{SigType, fold-SigType}
use Rattle.assembly_tree.specs.WellFormed.{is_extern}
use Rattle.assembly_tree.specs.WellFormedNames.{option_all, is_type_id, is_type_name, is_known_in, is_module}
use Rattle.assembly_tree.specs.WellFormedTerms as formed
use Rattle.assembly_tree.specs.declared.assembly.Assembly.{Assembly}
use Rattle.assembly_tree.proofs.FormedFacts.{method_refs_named, field_refs_named, signatures_named}
use Rattle.listing_growth.specs.Held.{owner_holds, type_holds, is_type_held, is_owner_held, is_signature_held, is_method_ref_held, is_field_ref_held}
use Rattle.listing_leaves.specs.Laws.{is_name}
use Rattle.listing_model.specs.Shown.{Leaf, Shown, none, leaves, Item, item, put, w, branch, optional, opt_below, star, behind_comma, commas}
use Rattle.listing_model.specs.Types.{name, type_id, shown_type, type_of, of_shown}
use Rattle.listing_model.specs.References.{instance, convention, method_name, no_param_flags, no_name, ellipsis, with_sentinel, sig_args, in_parentheses, argument, arguments, generic_count, in_angles, method_generics, generics_and_arguments, target_end, target_path, target_here, target_in, target_of, method_ref, field_path, field_here, field_in, field_target, field_ref}
use Rattle.listing_tokens.proofs.Sound.{opens, Sound, wf, tf, wider, SoundItem, EachSound, when_sound, commas_sound}
use Rattle.listing_tokens.proofs.Terms.{LeafLaws, TypeSound, of_sound, of_opens, scope_leaf, path_sound, type_sound, type_all}

-- ---- conventions and names

instance_sound : (r : ℕ) (explicit : Bool) (rest : List Leaf) → Sound r (instance explicit) rest
instance_sound r explicit rest = ((wf refl refl, (when_sound r explicit (w word.EXPLICIT none) _ (wf refl refl, tt), tt)), tt)

pub convention_sound : (r : ℕ) (s : MethodSig) (after : Shown) (rest : List Leaf) → Sound r after rest → Sound r (convention s after) rest
convention_sound r s after rest h = (
  (
    when_sound r s.has_this (instance s.explicit_this) _ (instance_sound r s.explicit_this _),
    (when_sound r s.vararg (branch p.CALL_KIND_VARARG (w word.VARARG none) none) _ ((wf refl refl, tt), tt), tt),
  ),
  h,
)

name_by : (laws : LeafLaws) (r : ℕ) (b c : Bool) (text : List ℕ) → is_name text ≡ true →
    SoundItem r (cond b (item p.METHOD_NAME_CTOR (w word.DOT_CTOR none)) (cond c (item p.METHOD_NAME_CCTOR (w word.DOT_CCTOR none)) (item p.METHOD_NAME_NAME (name text none))))
name_by laws r true c text h rest = (wf refl refl, tt)
name_by laws r false true text h rest = (wf refl refl, tt)
name_by laws r false false text h rest = (tf (laws.names.name text h) refl refl, tt)

pub method_name_sound : (laws : LeafLaws) (r : ℕ) (text : List ℕ) → is_name text ≡ true → SoundItem r (method_name text)
method_name_sound laws r text h = name_by laws r (bytes_eq text (codes ".ctor")) (bytes_eq text (codes ".cctor")) text h

-- ---- what stands behind `(`

-- it may, whatever stands behind it
abbrev pub Opens : Shown → Type 0
Opens g = (rest : List Leaf) → opens (leaves g ++ rest) ≡ true

pub opens_branch : (p : ℕ) (below after : Shown) → Opens below → Opens (branch p below after)
opens_branch p below after h rest = subst (λ ls. opens ls ≡ true) (sym (append_assoc (leaves below) (leaves after) rest)) (h (leaves after ++ rest))

-- an argument
pub record ArgSound (r : ℕ) (i : Item) : Type 0 where
  pub sound : SoundItem r i
  pub opens : Opens i.below

abbrev pub EachArg : ℕ → List Item → Type 0
EachArg r [] = Unit {0}
EachArg r (i ∷ is) = ArgSound r i × EachArg r is

pub args_each : (r : ℕ) (is : List Item) → EachArg r is → EachSound r is
args_each r [] h = tt
args_each r (i ∷ is) h = (h.0.sound, args_each r is h.1)

take_args : (r k : ℕ) (is : List Item) → EachArg r is → EachArg r (take k is)
take_args r zero is h = tt
take_args r (suc k) [] h = tt
take_args r (suc k) (i ∷ is) h = (h.0, take_args r k is h.1)

drop_args : (r k : ℕ) (is : List Item) → EachArg r is → EachArg r (drop k is)
drop_args r zero is h = h
drop_args r (suc k) [] h = tt
drop_args r (suc k) (i ∷ is) h = drop_args r k is h.1

args_append : (r : ℕ) (is js : List Item) → EachArg r is → EachArg r js → EachArg r (is ++ js)
args_append r [] js h k = k
args_append r (i ∷ is) js h k = (h.0, args_append r is js h.1 k)

pub args_wider : (r t : ℕ) → r ≤ t → (is : List Item) → EachArg r is → EachArg t is
args_wider r t le [] h = tt
args_wider r t le (i ∷ is) h =
    (record { sound = λ rest. wider r t le i.below rest (h.0.sound rest); opens = h.0.opens }, args_wider r t le is h.1)

ellipsis_sound : (r : ℕ) → ArgSound r ellipsis
ellipsis_sound r = record { sound = λ rest. (wf refl refl, tt); opens = λ rest. refl }

sentinel_sound : (r : ℕ) (s : Option ℕ) (is : List Item) → EachArg r is → EachArg r (with_sentinel s is)
sentinel_sound r None is h = h
sentinel_sound r (Some k) is h = args_append r (take k is) (ellipsis ∷ drop k is) (take_args r k is h) (ellipsis_sound r, drop_args r k is h)

parentheses_sound : (r : ℕ) (is : List Item) → EachArg r is → (after : Shown) (rest : List Leaf) → Sound (suc r) after rest → Sound (suc r) (in_parentheses is after) rest
parentheses_sound r [] h after rest k = ((wf refl refl, (tt, (wf refl refl, tt))), k)
parentheses_sound r (i ∷ is) h after rest k =
    let row = commas_sound r p.COMMA_SIG_ARG_STAR_MORE p.COMMA_SIG_ARG_STAR_END p.COMMA_SIG_ARG i is (args_each r (i ∷ is) h) none in
    ((wf (first _) refl, ((row _ tt, tt), (wf refl refl, tt))), k)
  where
    more : Shown
    more = star p.COMMA_SIG_ARG_STAR_MORE p.COMMA_SIG_ARG_STAR_END (map (behind_comma p.COMMA_SIG_ARG) is) none

    first : (rest : List Leaf) → opens (leaves (optional p.SIG_ARGS_OPT_SOME p.SIG_ARGS_OPT_NONE (sig_args (i ∷ is)) (w word.CLOSE_PAREN none)) ++ rest) ≡ true
    first rest =
        opens_branch p.SIG_ARGS_OPT_SOME (opt_below (sig_args (i ∷ is))) (w word.CLOSE_PAREN none)
        (opens_branch p.SIG_ARGS (put i more) none (opens_branch i.production i.below more h.0.opens)) rest

-- ---- references

module _ (laws : LeafLaws) (a : Assembly) (named_well : list_all is_extern a.externs ≡ true) (few : length a.externs < 2 ^ 128) where
  abbrev well : (t : SigType) → formed.is_type a t ≡ true → is_type_held t ≡ true → TypeSound 100 (shown_type a.externs t)
  well = type_sound laws a named_well few

  -- a type within a line, in more room
  pub type_in : (r : ℕ) → 100 ≤ r → (t : SigType) → TypeSound 100 (shown_type a.externs t) → SoundItem r (type_of a.externs t)
  type_in r le t h rest = wider 100 r le (of_shown (shown_type a.externs t)) rest (of_sound 100 (shown_type a.externs t) h rest)

  pub record SigSound (s : MethodSig) : Type 0 where
    pub ret : TypeSound 100 (shown_type a.externs s.ret)
    pub args : EachArg 100 (map (argument a.externs) s.params)
    pub few_generics : s.generic ≤ 65535

  argument_sound : (t : SigType) → TypeSound 100 (shown_type a.externs t) → ArgSound 100 (argument a.externs t)
  argument_sound t h = record {
    sound = λ rest. ((tt, (of_sound 100 (shown_type a.externs t) h _, (tt, tt))), tt);
    opens =
        opens_branch p.DEF_ARG (no_param_flags (put (type_of a.externs t) no_name)) none
        (opens_branch p.TYPE (of_shown (shown_type a.externs t)) no_name (of_opens 100 (shown_type a.externs t) h));
  }

  each_argument : (ts : List SigType) → list_all (formed.is_type a) ts ≡ true → list_all is_type_held ts ≡ true → EachArg 100 (map (argument a.externs) ts)
  each_argument [] m h = tt
  each_argument (t ∷ ts) m h =
      let ms = and_parts (formed.is_type a t) (list_all (formed.is_type a) ts) m in
      let hs = and_parts (is_type_held t) (list_all is_type_held ts) h in
      (argument_sound t (well t ms.0 hs.0), each_argument ts ms.1 hs.1)

  pub each_type : (ts : List SigType) → list_all (formed.is_type a) ts ≡ true → list_all is_type_held ts ≡ true → EachSound 100 (map (type_of a.externs) ts)
  each_type [] m h = tt
  each_type (t ∷ ts) m h =
      let ms = and_parts (formed.is_type a t) (list_all (formed.is_type a) ts) m in
      let hs = and_parts (is_type_held t) (list_all is_type_held ts) h in
      (type_in 100 (omega arith) t (well t ms.0 hs.0), each_type ts ms.1 hs.1)

  pub signature_sound : (s : MethodSig) → formed.is_signature a s ≡ true → is_signature_held s ≡ true → SigSound s
  signature_sound s m h =
      let f = (signatures_named a s).0 m in
      let hs = and_parts _ _ h in
      record { ret = well s.ret f.ret hs.0; args = each_argument s.params f.params hs.1; few_generics = leb-true _ 65535 f.generic }

  pub arguments_sound : (r : ℕ) → 100 ≤ r → (s : MethodSig) → SigSound s → (after : Shown) (rest : List Leaf) → Sound (suc r) after rest →
      Sound (suc r) (arguments a.externs s after) rest
  arguments_sound r le s h after rest k =
      parentheses_sound r (with_sentinel s.sentinel (map (argument a.externs) s.params))
      (args_wider 100 r le _ (sentinel_sound 100 s.sentinel (map (argument a.externs) s.params) h.args)) after rest k

  -- types in angles
  commas_by : (is : List Item) → EachSound 100 is → (rest : List Leaf) →
      Sound 100 (commas p.COMMA_TYPE_STAR_MORE p.COMMA_TYPE_STAR_END p.COMMA_TYPE is none) rest
  commas_by [] h rest = tt
  commas_by (i ∷ is) h rest = commas_sound 100 p.COMMA_TYPE_STAR_MORE p.COMMA_TYPE_STAR_END p.COMMA_TYPE i is h none rest tt

  generics_sound : (k : ℕ) (args : Option (List SigType)) → k ≤ 65535 → option_all (list_all (formed.is_type a)) args ≡ true →
      option_all (list_all is_type_held) args ≡ true → (rest : List Leaf) → Sound 101 (opt_below (method_generics a.externs k args)) rest
  generics_sound k (Some ts) few_k m h rest =
      ((wf refl refl, (commas_by (map (type_of a.externs) ts) (each_type ts m h) _, (wf refl refl, tt))), tt)
  generics_sound k None few_k m h rest =
      let small : k < 2 ^ 128 = omega arith in
      when_sound 101 (nat_lt 0 k) (in_angles a.externs (generic_count a.externs k)) rest
      ((wf refl refl, ((wf refl refl, (tf (laws.numbers.natural k small) refl refl, (wf refl refl, tt))), (wf refl refl, tt))), tt)

  -- what a reference to a method has but its owner
  pub record RefSound (r : MethodRef) : Type 0 where
    pub called : is_name r.name ≡ true
    pub sig : SigSound r.sig
    pub args : option_all (list_all (formed.is_type a)) r.args ≡ true
    pub args_held : option_all (list_all is_type_held) r.args ≡ true

  both_sound : (r : MethodRef) → RefSound r → (after : Shown) (rest : List Leaf) → Sound 101 after rest → Sound 101 (generics_and_arguments a.externs r after) rest
  both_sound r h after rest k =
      (generics_sound r.sig.generic r.args h.sig.few_generics h.args h.args_held _, arguments_sound 100 (omega arith) r.sig h.sig after rest k)

  end_sound : (r : MethodRef) → RefSound r → (rest : List Leaf) → Sound 101 (target_end a.externs r) rest
  end_sound r h rest = (wf refl refl, ((method_name_sound laws 101 r.name h.called _, both_sound r h none _ tt), tt))

  id_leaf : (id : TypeId) → is_type_id id ≡ true → (r : ℕ) (after : Shown) (rest : List Leaf) → Sound r after rest → Sound r (type_id id after) rest
  id_leaf id h r after rest k = let hs = and_parts _ _ h in (tf (laws.names.type_name id.space id.name hs.0 hs.1) refl refl, k)

  alone_sound : (r : MethodRef) → RefSound r → SoundItem 101 (item p.TARGET_NAME (name r.name (target_path a.externs [] r)))
  alone_sound r h rest = (tf (laws.names.name r.name h.called) refl refl, (both_sound r h none _ tt, tt))

  here_by : (b : Bool) (id : TypeId) → is_type_id id ≡ true → (r : MethodRef) → RefSound r →
      SoundItem 101 (cond b (item p.TARGET_NAME (name r.name (target_path a.externs [] r))) (item p.TARGET_NAME (type_id id (target_path a.externs (id ∷ []) r))))
  here_by true id i r h rest = alone_sound r h rest
  here_by false id i r h rest = id_leaf id i 101 (target_path a.externs (id ∷ []) r) rest (end_sound r h _, tt)

  here_sound : (ids : List TypeId) → list_all is_type_id ids ≡ true → (r : MethodRef) → RefSound r → SoundItem 101 (target_here a.externs ids r)
  here_sound [] i r h rest = alone_sound r h rest
  here_sound (id ∷ []) i r h rest = here_by (is_module id) id (and_parts _ _ i).0 r h rest
  here_sound (id ∷ next ∷ more) i r h rest =
      let is = and_parts (is_type_id id) _ i in
      id_leaf id is.0 101 (target_path a.externs (id ∷ next ∷ more) r) rest
      ((wf refl refl, (path_sound laws a named_well few 101 (next ∷ more) is.1 _, end_sound r h _)), tt)

  -- where the owner is
  abbrev pub scope_known : scope.Scope → Bool
  scope_known scope.TheVariants.Here = true
  scope_known (scope.TheVariants.Extern k) = nat_lt k (length a.externs)

  in_scope : (s : scope.Scope) (ids : List TypeId) → scope_known s ≡ true → list_all is_type_id ids ≡ true → (r : MethodRef) → RefSound r →
      SoundItem 101 (target_in a.externs s ids r)
  in_scope scope.TheVariants.Here ids k i r h rest = here_sound ids i r h rest
  in_scope (scope.TheVariants.Extern j) ids k i r h rest =
      (tf (scope_leaf laws a named_well few j k) refl refl, (path_sound laws a named_well few 101 ids i _, end_sound r h _))

  -- an owner that can be written
  abbrev pub OwnerKnown : layer.Owner-F Owner SigType → Type 0
  OwnerKnown (layer.Name t) = (scope_known t.scope ≡ true) × (list_all is_type_id t.path ≡ true)
  OwnerKnown (layer.Spec t) = TypeSound 100 (shown_type a.externs t)

  target_sound : (l : layer.Owner-F Owner SigType) → OwnerKnown l → (r : MethodRef) → RefSound r → SoundItem 101 (target_of a.externs l r)
  target_sound (layer.Name t) k r h rest = in_scope t.scope t.path k.0 k.1 r h rest
  target_sound (layer.Spec t) k r h rest = (type_in 101 (omega arith) t k _, end_sound r h _)

  pub method_sound : (r : MethodRef) → OwnerKnown (out-Owner r.owner) → RefSound r → SoundItem 101 (method_ref a.externs r)
  unfolding method_ref
  method_sound r k h rest =
      ((convention_sound 101 r.sig none _ tt).0, (type_in 101 (omega arith) r.sig.ret h.sig.ret _, (target_sound (out-Owner r.owner) k r h _, tt)))

  known_scope : (s : scope.Scope) (ids : List TypeId) → is_known_in a s ids ≡ true → scope_known s ≡ true
  known_scope scope.TheVariants.Here ids h = refl
  known_scope (scope.TheVariants.Extern k) ids h = h

  owner_by : (l : layer.Owner-F Owner SigType) →
      formed.owner_step a (map-Owner Owner SigType Bool Bool (fold-Owner Bool Bool (formed.owner_step a) (formed.type_step a)) (fold-SigType Bool Bool (formed.owner_step a) (formed.type_step a)) l) ≡ true →
      owner_holds (map-Owner Owner SigType Bool Bool (fold-Owner Bool Bool owner_holds type_holds) (fold-SigType Bool Bool owner_holds type_holds) l) ≡ true →
      owner_depth_step (map-Owner Owner SigType ℕ ℕ (fold-Owner ℕ ℕ owner_depth_step depth_step) (fold-SigType ℕ ℕ owner_depth_step depth_step) l) ≤ 100 →
      OwnerKnown l
  unfolding shown_type is_type_name
  owner_by (layer.Name t) m h d =
      let hs = and_parts _ _ m in (known_scope t.scope t.path hs.1, (and_parts _ _ hs.0).1)
  owner_by (layer.Spec t) m h d = type_all laws a named_well few t 100 m h d

  pub owner_known : (o : Owner) → formed.is_owner a o ≡ true → is_owner_held o ≡ true → OwnerKnown (out-Owner o)
  unfolding formed.is_owner is_owner_held
  owner_known o m h =
      let ms = and_parts _ _ m in
      owner_by (out-Owner o) (sym (fold_out-Owner Bool Bool (formed.owner_step a) (formed.type_step a) o) ∙ ms.1)
      (sym (fold_out-Owner Bool Bool owner_holds type_holds o) ∙ h)
      (subst (λ n. n ≤ 100) (fold_out-Owner ℕ ℕ owner_depth_step depth_step o) (leb-true _ 100 ms.0))

  pub method_ref_sound : (r : MethodRef) → formed.is_method_ref a r ≡ true → is_method_ref_held r ≡ true → SoundItem 101 (method_ref a.externs r)
  unfolding is_method_ref_held
  method_ref_sound r m h =
      let f = (method_refs_named a r).0 m in
      let hs = and_parts _ _ h in
      let ks = and_parts _ _ hs.0 in
      method_sound r (owner_known r.owner f.owner ks.0) (record { called = f.name; sig = signature_sound r.sig f.sig ks.1; args = f.args; args_held = hs.1 })

  pub plain_ref_sound : (r : MethodRef) → formed.is_plain_ref a r ≡ true → is_method_ref_held r ≡ true → SoundItem 101 (method_ref a.externs r)
  unfolding formed.is_plain_ref
  plain_ref_sound r m h = method_ref_sound r (and_parts _ _ m).1 h

  -- ---- fields

  field_by : (b : Bool) (id : TypeId) → is_type_id id ≡ true → (r : FieldRef) → is_name r.name ≡ true →
      SoundItem 101 (cond b (item p.FIELD_TARGET_NAME (name r.name (field_path a.externs [] r))) (item p.FIELD_TARGET_NAME (type_id id (field_path a.externs (id ∷ []) r))))
  field_by true id i r h rest = (tf (laws.names.name r.name h) refl refl, (tt, tt))
  field_by false id i r h rest = id_leaf id i 101 (field_path a.externs (id ∷ []) r) rest ((wf refl refl, (tf (laws.names.name r.name h) refl refl, tt)), tt)

  field_here_sound : (ids : List TypeId) → list_all is_type_id ids ≡ true → (r : FieldRef) → is_name r.name ≡ true → SoundItem 101 (field_here a.externs ids r)
  field_here_sound [] i r h rest = (tf (laws.names.name r.name h) refl refl, (tt, tt))
  field_here_sound (id ∷ []) i r h rest = field_by (is_module id) id (and_parts _ _ i).0 r h rest
  field_here_sound (id ∷ next ∷ more) i r h rest =
      let is = and_parts (is_type_id id) _ i in
      id_leaf id is.0 101 (field_path a.externs (id ∷ next ∷ more) r) rest
      ((wf refl refl, (path_sound laws a named_well few 101 (next ∷ more) is.1 _, (wf refl refl, (tf (laws.names.name r.name h) refl refl, tt)))), tt)

  field_scope : (s : scope.Scope) (ids : List TypeId) → scope_known s ≡ true → list_all is_type_id ids ≡ true → (r : FieldRef) → is_name r.name ≡ true →
      SoundItem 101 (field_in a.externs s ids r)
  field_scope scope.TheVariants.Here ids k i r h rest = field_here_sound ids i r h rest
  field_scope (scope.TheVariants.Extern j) ids k i r h rest =
      (tf (scope_leaf laws a named_well few j k) refl refl, (path_sound laws a named_well few 101 ids i _, (wf refl refl, (tf (laws.names.name r.name h) refl refl, tt))))

  field_target_sound : (l : layer.Owner-F Owner SigType) → OwnerKnown l → (r : FieldRef) → is_name r.name ≡ true → SoundItem 101 (field_target a.externs l r)
  field_target_sound (layer.Name t) k r h rest = field_scope t.scope t.path k.0 k.1 r h rest
  field_target_sound (layer.Spec t) k r h rest = (type_in 101 (omega arith) t k _, (wf refl refl, (tf (laws.names.name r.name h) refl refl, tt)))

  pub field_ref_sound : (r : FieldRef) → formed.is_field_ref a r ≡ true → is_field_ref_held r ≡ true → SoundItem 101 (field_ref a.externs r)
  unfolding field_ref is_field_ref_held
  field_ref_sound r m h rest =
      let f = (field_refs_named a r).0 m in
      let hs = and_parts _ _ h in
      (type_in 101 (omega arith) r.of (well r.of f.of hs.1) _, (field_target_sound (out-Owner r.owner) (owner_known r.owner f.owner hs.0) r f.name _, tt))
