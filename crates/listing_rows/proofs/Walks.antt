-- What is collected from a forest, past the trees that hold none of it.
use Rattle.std.proofs.Common.{◌≡◌, ℕ, zero, suc, ◌+◌, ◌&&◌, ◌||◌, nat_eq, Bool, true, false, cond, if◌then◌else◌, List, [], ◌∷◌, ◌++◌, map, take, refl, ap, ◌∙◌, arith}
use Rattle.std.proofs.lemmas.Bool.{and_parts}
use Rattle.ilasm_grammar.specs.declared.productions.TheConstants as p
use Rattle.ilasm_grammar.specs.declared.symbol.Symbol.{Symbol}
use Rattle.ilasm_grammar.specs.declared.symbol.Symbol.TheVariants.{Terminal, Nonterminal}
use Rattle.type_terms.specs.declared.term.Owner.{Name, Spec}
use Rattle.source_model.specs.Classes.{classes_in, class_from}
use Rattle.source_model.specs.Clauses.{clause_forms, guarded_in}
use Rattle.source_model.specs.Forest as f
use Rattle.source_model.specs.Items.{plain_items, items_and_ends}
use Rattle.source_model.specs.Names.{type_name}
use Rattle.source_model.specs.Nodes.{Around, entered}
use Rattle.source_model.specs.Source.{Source}
use Rattle.source_model.specs.Types.{types_in, type_of, owners_in}
use Rattle.listing_model.specs.Grown.{Grows}
use Rattle.listing_model.specs.Shown.{Shown, size}
use Rattle.listing_model.specs.Shown.{Shown as s}
use Rattle.listing_reading.specs.Below.{below, are_apart_from, cant_stand}
use Rattle.listing_reading.specs.Laws.{SearchesPass}
use Rattle.listing_reading.specs.Numbered.{numbered, rest, place}
use Rattle.listing_rows.specs.Laws.{type_parts, owner_parts, item_parts, class_parts, WalksPass}

-- ---- what holds no part holds none in its trees

empty_front : {X : Type 0} (xs ys : List X) → (xs ++ ys) ≡ [] → (xs ≡ []) × (ys ≡ [])
empty_front [] ys h = (refl, h)
empty_front (x ∷ xs) ys h = absurd cc

pub record Without (sought : List ℕ) (q : ℕ) (b a : f.Forest) : Type 0 where
  pub own : f.is_among sought q ≡ false
  pub inside : f.parts sought b ≡ []
  pub behind : f.parts sought a ≡ []

without : (sought : List ℕ) (q : ℕ) (b a : f.Forest) → f.parts sought (f.branch q b a) ≡ [] → Without sought q b a
without sought q b a h = by (f.is_among sought q) refl h
  where
    by : (c : Bool) → f.is_among sought q ≡ c → (cond c (f.part q b ∷ []) (f.parts sought b) ++ f.parts sought a) ≡ [] → Without sought q b a
    by true e g = absurd cc
    by false e g = let es = empty_front (f.parts sought b) (f.parts sought a) g in record { own = e; inside = es.0; behind = es.1 }

-- it is no other of them either, whichever way it is asked
other_way : (j k : ℕ) → nat_eq j k ≡ false → nat_eq k j ≡ false
other_way j k h = grind (arith, h)

among_parts : (q : ℕ) (qs : List ℕ) (x : ℕ) → f.is_among (q ∷ qs) x ≡ false → (nat_eq x q ≡ false) × (f.is_among qs x ≡ false)
among_parts q qs x h = by (nat_eq q x) refl h
  where
    by : (c : Bool) → nat_eq q x ≡ c → (c || f.is_among qs x) ≡ false → (nat_eq x q ≡ false) × (f.is_among qs x ≡ false)
    by true e g = absurd cc
    by false e g = (other_way q x e, g)

-- ---- past the first trees, whatever is collected

module _ {X : Type 0} (searches : SearchesPass) (walk : f.Forest → List X) (sought : List ℕ) (leafs : (k : ℕ) (a : f.Forest) → walk (f.leaf k a) ≡ walk a) (branches : (q : ℕ) (b a : f.Forest) → f.is_among sought q ≡ false → f.parts sought b ≡ [] → walk (f.branch q b a) ≡ walk a) where
  past : (k : ℕ) (symbols : List Symbol) → cant_stand sought (take k symbols) ≡ true → (g : Shown) → Grows symbols g → (at : ℕ) →
      walk (numbered at g) ≡ walk (numbered (place k at g) (rest k g))
  past zero symbols c g h at = refl
  past (suc k) symbols c s.none h at = refl
  past (suc k) [] c (s.leaf l a) h at = absurd h
  past (suc k) [] c (s.branch q b a) h at = absurd h
  past (suc k) (Terminal t ∷ more) c (s.leaf l a) h at = leafs at (numbered (suc at) a) ∙ past k more c a h.1 (suc at)
  past (suc k) (Terminal t ∷ more) c (s.branch q b a) h at = absurd h
  past (suc k) (Nonterminal n ∷ more) c (s.leaf l a) h at = absurd h
  past (suc k) (Nonterminal n ∷ more) c (s.branch q b a) h at =
      let cs = and_parts (are_apart_from (below n) sought) (cant_stand sought (take k more)) c in
      let alone = searches.nothing sought (Nonterminal n ∷ []) (both (are_apart_from (below n) sought) true cs.0 refl) (s.branch q b s.none) (h.0, h.1, tt) at in
      let w = without sought q (numbered at b) f.none alone in
      branches q (numbered at b) (numbered (at + size b) a) w.own w.inside ∙ past k more cs.1 a h.2 (at + size b)
    where
      both : (x y : Bool) → x ≡ true → y ≡ true → (x && y) ≡ true
      both true y g i = i
      both false y g i = g

-- ---- types

module _ (src : Source) (a : Around) where
  types_branch : (q : ℕ) (b after : f.Forest) → f.is_among type_parts q ≡ false → types_in src a b ≡ [] → types_in src a (f.branch q b after) ≡ types_in src a after
  unfolding types_in
  types_branch q b after e h =
      ap (λ c. (if c then type_of src a b ∷ [] else types_in src a b) ++ types_in src a after) (among_parts p.TYPE [] q e).0
      ∙ ap (λ ts. ts ++ types_in src a after) h

  no_types : (g : f.Forest) → f.parts type_parts g ≡ [] → types_in src a g ≡ []
  unfolding types_in
  no_types f.none h = refl
  no_types (f.leaf k after) h = no_types after h
  no_types (f.branch q b after) h =
      let w = without type_parts q b after h in types_branch q b after w.own (no_types b w.inside) ∙ no_types after w.behind

  -- ---- owners

  owners_branch : (q : ℕ) (b after : f.Forest) → f.is_among owner_parts q ≡ false → owners_in src a b ≡ [] → owners_in src a (f.branch q b after) ≡ owners_in src a after
  unfolding types_in
  owners_branch q b after e h =
      let es = among_parts p.SPEC_TYPE_NAME (p.SPEC_TYPE ∷ []) q e in
      ap (λ c. (if c then Name (type_name src b) ∷ [] else if nat_eq q p.SPEC_TYPE then map Spec (types_in src a b) else owners_in src a b) ++ owners_in src a after) es.0
      ∙ (ap (λ c. (if c then map Spec (types_in src a b) else owners_in src a b) ++ owners_in src a after) (among_parts p.SPEC_TYPE [] q es.1).0
      ∙ ap (λ os. os ++ owners_in src a after) h)

  no_owners : (g : f.Forest) → f.parts owner_parts g ≡ [] → owners_in src a g ≡ []
  unfolding types_in
  no_owners f.none h = refl
  no_owners (f.leaf k after) h = no_owners after h
  no_owners (f.branch q b after) h =
      let w = without owner_parts q b after h in owners_branch q b after w.own (no_owners b w.inside) ∙ no_owners after w.behind

-- ---- items

items_branch : (q : ℕ) (b after : f.Forest) → f.is_among item_parts q ≡ false → items_and_ends b ≡ [] → items_and_ends (f.branch q b after) ≡ items_and_ends after
items_branch q b after e h =
    let es = among_parts p.ITEM_TRY (p.BLOCK ∷ plain_items) q e in
    let bs = among_parts p.BLOCK plain_items q es.1 in
    ap (λ c. (if c then f.part q b ∷ [] else if nat_eq q p.ITEM_TRY || nat_eq q p.BLOCK then (f.part q f.none ∷ items_and_ends b) ++ f.part q f.none ∷ [] else items_and_ends b) ++ items_and_ends after) bs.1
    ∙ (ap (λ c. (if c || nat_eq q p.BLOCK then (f.part q f.none ∷ items_and_ends b) ++ f.part q f.none ∷ [] else items_and_ends b) ++ items_and_ends after) es.0
    ∙ (ap (λ c. (if c then (f.part q f.none ∷ items_and_ends b) ++ f.part q f.none ∷ [] else items_and_ends b) ++ items_and_ends after) bs.0
    ∙ ap (λ ps. ps ++ items_and_ends after) h))

no_items : (g : f.Forest) → f.parts item_parts g ≡ [] → items_and_ends g ≡ []
no_items f.none h = refl
no_items (f.leaf k after) h = no_items after h
no_items (f.branch q b after) h =
    let w = without item_parts q b after h in items_branch q b after w.own (no_items b w.inside) ∙ no_items after w.behind

-- ---- clauses

guarded_branch : (tried : f.Forest) (q : ℕ) (b after : f.Forest) → f.is_among clause_forms q ≡ false → ((t : f.Forest) → guarded_in t b ≡ []) →
    guarded_in tried (f.branch q b after) ≡ guarded_in tried after
guarded_branch tried q b after e h =
    let within = if nat_eq q p.ITEM_TRY then b else tried in
    ap (λ c. (guarded_in within b ++ (if c then record { tried = tried; clause = f.part q b } ∷ [] else [])) ++ guarded_in tried after) e
    ∙ ap (λ gs. (gs ++ []) ++ guarded_in tried after) (h within)

no_clauses : (g : f.Forest) → f.parts clause_forms g ≡ [] → (tried : f.Forest) → guarded_in tried g ≡ []
no_clauses f.none h tried = refl
no_clauses (f.leaf k after) h tried = no_clauses after h tried
no_clauses (f.branch q b after) h tried =
    let w = without clause_forms q b after h in guarded_branch tried q b after w.own (no_clauses b w.inside) ∙ no_clauses after w.behind tried

-- ---- classes

classes_branch : (src : Source) (a : Around) (q : ℕ) (b after : f.Forest) → f.is_among class_parts q ≡ false → classes_in src a b ≡ [] →
    classes_in src a (f.branch q b after) ≡ classes_in src a after
unfolding classes_in
classes_branch src a q b after e h =
    ap (λ c. (if c then class_from src (entered src a q b) b (classes_in src (entered src a q b) b) ∷ [] else classes_in src a b) ++ classes_in src a after) (among_parts p.CLASS [] q e).0
    ∙ ap (λ ts. ts ++ classes_in src a after) h

no_classes : (src : Source) (a : Around) (g : f.Forest) → f.parts class_parts g ≡ [] → classes_in src a g ≡ []
unfolding classes_in
no_classes src a f.none h = refl
no_classes src a (f.leaf k after) h = no_classes src a after h
no_classes src a (f.branch q b after) h =
    let w = without class_parts q b after h in classes_branch src a q b after w.own (no_classes src a b w.inside) ∙ no_classes src a after w.behind

types_leaf : (src : Source) (a : Around) (k : ℕ) (g : f.Forest) → types_in src a (f.leaf k g) ≡ types_in src a g
unfolding types_in
types_leaf src a k g = refl

owners_leaf : (src : Source) (a : Around) (k : ℕ) (g : f.Forest) → owners_in src a (f.leaf k g) ≡ owners_in src a g
unfolding types_in
owners_leaf src a k g = refl

classes_leaf : (src : Source) (a : Around) (k : ℕ) (g : f.Forest) → classes_in src a (f.leaf k g) ≡ classes_in src a g
unfolding classes_in
classes_leaf src a k g = refl

pub walks_pass : SearchesPass → WalksPass
walks_pass searches = record {
  types = λ src a. past searches (types_in src a) type_parts (types_leaf src a) (λ q b after e h. types_branch src a q b after e (no_types src a b h));
  owners = λ src a. past searches (owners_in src a) owner_parts (owners_leaf src a) (λ q b after e h. owners_branch src a q b after e (no_owners src a b h));
  items = past searches items_and_ends item_parts (λ k g. refl) (λ q b after e h. items_branch q b after e (no_items b h));
  clauses = λ tried. past searches (guarded_in tried) clause_forms (λ k g. refl) (λ q b after e h. guarded_branch tried q b after e (no_clauses b h));
  classes = λ src a. past searches (classes_in src a) class_parts (classes_leaf src a) (λ q b after e h. classes_branch src a q b after e (no_classes src a b h));
  no_owners = no_owners;
  no_items = no_items;
  no_clauses = λ tried g h. no_clauses g h tried;
  no_classes = no_classes;
}
