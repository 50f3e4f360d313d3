-- Members that are declared twice: those of each kind, of a class, and of all classes.
use Rattle.std.proofs.Common.{◌≡◌, ℕ, List, [], ◌∷◌, ◌++◌, Option, None, Some, map, refl, ap, sym, ◌∙◌, arith}
use Rattle.std.specs.Prelude.{Bool, true, false, ◌==◌, ◌||◌, ◌&&◌, if◌then◌else◌, bytes_eq, filter}
use Rattle.std.specs.List.{flat_map, list_any}
use Rattle.std.proofs.lemmas.Grind.{flat_map-append}
use Rattle.std.proofs.lemmas.List.{map-append}
use Rattle.std.specs.Cmp.{IsTotalOrder}
use Rattle.type_terms.specs.Order.{term_order}
use Rattle.type_terms.specs.Same.{is_same_signature, is_same_type}
use Rattle.type_terms.proofs.SameLaws.{signature_itself}
use Rattle.ilasm_grammar.specs.declared.productions.TheConstants.{CLASS, METHOD, TYPE}
use Rattle.source_model.specs.DeclaredTwice.{events_twice, fields_twice, is_same_event, is_same_field, is_same_method, is_same_property, members_twice, members_twice_in, methods_twice, properties_twice, repeats_after}
use Rattle.source_model.specs.Forest as tree
use Rattle.source_model.specs.Forest.{Forest, Part, child}
use Rattle.source_model.specs.Items.{declarations, members}
use Rattle.source_model.specs.Names.{classes}
use Rattle.source_model.specs.Nodes.{Around, Node, class_token, entered, nodes, nodes_in, nothing_around, type_id}
use Rattle.source_model.specs.Source.{Source}
use Rattle.source_model.specs.Types.{type_of}
use Rattle.source_nodes.specs.Least.{least, sooner}
use Rattle.source_syntax.proofs.LeastLemmas.{least_append, sooner_assoc}
use Rattle.type_terms.specs.declared.term.SigType.{SigType}
use Rattle.check_names.specs.DeclaredClasses.{inner_path}
use Rattle.check_members.specs.MemberKinds.{again_after, again_in, again_with, class_around, forests_of, is_unbroken_of, member_of, no_signature, of_type, token_of, twice_within, with_member}
use Rattle.check_members.specs.SameMembers.{is_member, is_same_member}
use Rattle.check_members.specs.declared.member_kinds.Kind.{Kind}
use Rattle.check_members.specs.declared.member_kinds.Kind.TheVariants.{Field, Method, Property, Event}
use Rattle.check_names.proofs.MissingLemmas.{flat_filtered}

-- ---- one kind

module _ (s : Source) (a : Around) (kind : Kind) (same : Forest → Forest → Bool)
    (is : (f g : Forest) → same f g ≡ is_same_member (member_of s a kind f) (member_of s a kind g)) where
  any_is : (f : Forest) (gs : List Forest) → list_any (same f) gs ≡ is_member (map (member_of s a kind) gs) (member_of s a kind f)
  any_is f [] = refl
  any_is f (g ∷ gs) =
      ap (λ b. b || list_any (same f) gs) (is f g) ∙ ap (λ b. is_same_member (member_of s a kind f) (member_of s a kind g) || b) (any_is f gs)

  token_if : (f : Forest) (b : Bool) → map (token_of kind) (if b then f ∷ [] else []) ≡ (if b then token_of kind f ∷ [] else [])
  token_if f true = refl
  token_if f false = refl

  repeats_are : (before fs : List Forest)
      → map (token_of kind) (repeats_after same before (filter (is_unbroken_of s a kind) fs)) ≡ again_after s a kind (map (member_of s a kind) before) fs
  repeats_are before [] = refl
  repeats_are before (f ∷ fs) = go (is_unbroken_of s a kind f) (repeats_are before fs) (repeats_are (before ++ f ∷ []) fs)
    where
      go : (b : Bool)
          → map (token_of kind) (repeats_after same before (filter (is_unbroken_of s a kind) fs)) ≡ again_after s a kind (map (member_of s a kind) before) fs
          → map (token_of kind) (repeats_after same (before ++ f ∷ []) (filter (is_unbroken_of s a kind) fs))
          ≡ again_after s a kind (map (member_of s a kind) (before ++ f ∷ [])) fs
          → map (token_of kind) (repeats_after same before (if b then f ∷ filter (is_unbroken_of s a kind) fs else filter (is_unbroken_of s a kind) fs))
          ≡ again_with (token_of kind f) (if b then Some (member_of s a kind f) else None) (map (member_of s a kind) before)
          ++ again_after s a kind (with_member (if b then Some (member_of s a kind f) else None) (map (member_of s a kind) before)) fs
      go false without with = without
      go true without with =
          let kept = filter (is_unbroken_of s a kind) fs in
          map-append (token_of kind) (if list_any (same f) before then f ∷ [] else []) (repeats_after same (before ++ f ∷ []) kept)
          ∙ ap (λ ks. ks ++ map (token_of kind) (repeats_after same (before ++ f ∷ []) kept))
          (token_if f (list_any (same f) before) ∙ ap (λ (b : Bool). if b then token_of kind f ∷ [] else []) (any_is f before))
          ∙ ap (λ ks. (if is_member (map (member_of s a kind) before) (member_of s a kind f) then token_of kind f ∷ [] else []) ++ ks)
          (with ∙ ap (λ ms. again_after s a kind ms fs) (map-append (member_of s a kind) before (f ∷ [])))

-- ---- each kind

and_true : (b : Bool) → (b && true) ≡ b
and_true true = refl
and_true false = refl

type_alone : (t u : SigType) → is_same_signature (of_type t) (of_type u) ≡ is_same_type t u
unfolding is_same_signature
type_alone t u = and_true (is_same_type t u)

all_kept : (fs : List Forest) → filter (λ (f : Forest). true) fs ≡ fs
all_kept [] = refl
all_kept (f ∷ fs) = ap (λ gs. f ∷ gs) (all_kept fs)

four : (f m p e : List ℕ) → sooner (least f) (sooner (least m) (sooner (least p) (least e))) ≡ least (f ++ m ++ p ++ e)
four f m p e =
    sym (least_append (f ++ m ++ p) e
    ∙ ap (λ o. sooner o (least e)) (least_append (f ++ m) p ∙ ap (λ o. sooner o (least p)) (least_append f m))
    ∙ sooner_assoc (sooner (least f) (least m)) (least p) (least e)
    ∙ sooner_assoc (least f) (least m) (sooner (least p) (least e)))

module _ (s : Source) (a : Around) (ps : List Part) where
  fields_are : fields_twice s a ps ≡ again_in s a Field ps
  fields_are =
      repeats_are s a Field (is_same_field s a)
      (λ f g. ap (λ b. bytes_eq (member_of s a Field f).name (member_of s a Field g).name && b)
      (sym (type_alone (type_of s a (child (TYPE ∷ []) f)) (type_of s a (child (TYPE ∷ []) g))))) [] (forests_of Field ps)

  methods_are : methods_twice s a ps ≡ again_in s a Method ps
  methods_are = repeats_are s a Method (is_same_method s a) (λ f g. refl) [] (forests_of Method ps)

  properties_are : properties_twice s a ps ≡ again_in s a Property ps
  properties_are = repeats_are s a Property (is_same_property s a) (λ f g. refl) [] (forests_of Property ps)

  events_are : IsTotalOrder term_order → events_twice s ps ≡ again_in s a Event ps
  events_are total =
      ap (λ fs. map (token_of Event) (repeats_after (is_same_event s) [] fs)) (sym (all_kept (forests_of Event ps)))
      ∙ repeats_are s a Event (is_same_event s)
      (λ f g. sym (and_true (is_same_event s f g))
      ∙ ap (λ b. is_same_event s f g && b) (sym (signature_itself no_signature))) [] (forests_of Event ps)

  pub twice_is : IsTotalOrder term_order → (field method property event : Option ℕ) → field ≡ least (again_in s a Field ps) → method ≡ least (again_in s a Method ps)
      → property ≡ least (again_in s a Property ps) → event ≡ least (again_in s a Event ps)
      → sooner field (sooner method (sooner property event)) ≡ least (members_twice_in s a ps)
  twice_is total field method property event f m p e =
      ap (λ o. sooner o (sooner method (sooner property event))) (f ∙ ap least (sym fields_are))
      ∙ ap (λ o. sooner (least (fields_twice s a ps)) (sooner o (sooner property event))) (m ∙ ap least (sym methods_are))
      ∙ ap (λ o. sooner (least (fields_twice s a ps)) (sooner (least (methods_twice s a ps)) (sooner o event))) (p ∙ ap least (sym properties_are))
      ∙ ap (λ o. sooner (least (fields_twice s a ps)) (sooner (least (methods_twice s a ps)) (sooner (least (properties_twice s a ps)) o))) (e ∙ ap least (sym (events_are total)))
      ∙ four (fields_twice s a ps) (methods_twice s a ps) (properties_twice s a ps) (events_twice s ps)

-- ---- all classes

module _ (s : Source) where
  abbrev twice_in_class : Node → List ℕ
  twice_in_class n = members_twice_in s n.around (members n.below)

  abbrev twice_at : Node → List ℕ
  twice_at n = if (CLASS == n.production) || false then twice_in_class n else []

  turned : (p : ℕ) → ((CLASS == p) || false) ≡ (p == CLASS)
  turned p = grind arith

  class_is : (a : Around) (p : ℕ) (b : Forest) → (p == CLASS) ≡ true → entered s a p b ≡ class_around s a.path b
  class_is a p b e =
      ap (λ (c : Bool). if c then record { path = a.path ++ type_id s (class_token b) ∷ []; class = b; method = tree.none }
      else if p == METHOD then record { path = a.path; class = a.class; method = b }
      else a) e

  other_is : (a : Around) (p : ℕ) (b : Forest) → (p == CLASS) ≡ false → (entered s a p b).path ≡ a.path
  other_is a p b e =
      ap (λ (c : Bool). (if c then record { path = a.path ++ type_id s (class_token b) ∷ []; class = b; method = tree.none }
      else if p == METHOD then record { path = a.path; class = a.class; method = b }
      else a).path) e ∙ go (p == METHOD)
    where
      go : (m : Bool) → (if m then record { path = a.path; class = a.class; method = b } else a).path ≡ a.path
      go true = refl
      go false = refl

  within_is : (a : Around) (f : Forest) → flat_map twice_at (nodes_in s a f) ≡ twice_within s a.path f
  within_is a tree.none = refl
  within_is a (tree.leaf k after) = within_is a after
  within_is a (tree.branch p b after) =
      let n : Node = record { production = p; below = b; around = entered s a p b } in
      let inner = nodes_in s (entered s a p b) b in
      flat_map-append twice_at (n ∷ inner) (nodes_in s a after)
      ∙ ap (λ ks. (twice_at n ++ ks) ++ flat_map twice_at (nodes_in s a after)) (within_is (entered s a p b) b)
      ∙ ap (λ ks. (twice_at n ++ twice_within s (entered s a p b).path b) ++ ks) (within_is a after)
      ∙ ap (λ ks. ks ++ twice_within s a.path after) (go (p == CLASS) refl)
    where
      go : (c : Bool) → (p == CLASS) ≡ c
          → twice_at (record { production = p; below = b; around = entered s a p b }) ++ twice_within s (entered s a p b).path b
          ≡ (if c then members_twice_in s (class_around s a.path b) (members b) ++ twice_within s (inner_path s a.path b) b else twice_within s a.path b)
      go true e =
          ap (λ (c : Bool). (if c then twice_in_class (record { production = p; below = b; around = entered s a p b }) else []) ++ twice_within s (entered s a p b).path b) (turned p ∙ e)
          ∙ ap (λ (x : Around). members_twice_in s x (members b) ++ twice_within s x.path b) (class_is a p b e)
      go false e =
          ap (λ (c : Bool). (if c then twice_in_class (record { production = p; below = b; around = entered s a p b }) else []) ++ twice_within s (entered s a p b).path b) (turned p ∙ e)
          ∙ ap (λ path. twice_within s path b) (other_is a p b e)

  pub all_twice : (here within : Option ℕ) → here ≡ least (members_twice_in s nothing_around (declarations s.tree)) → within ≡ least (twice_within s [] s.tree)
      → sooner here within ≡ least (members_twice s)
  unfolding nodes
  all_twice here within h w =
      ap (λ o. sooner o within) h ∙ ap (sooner (least (members_twice_in s nothing_around (declarations s.tree))))
      (w ∙ ap least (sym (flat_filtered (λ (n : Node). (CLASS == n.production) || false) twice_in_class (nodes s) ∙ within_is nothing_around s.tree)))
      ∙ sym (least_append (members_twice_in s nothing_around (declarations s.tree)) (flat_map twice_in_class (classes s)))
