-- The numbers of the nodes tell names of types and references.
use Rattle.std.proofs.Common.{◌≡◌, ℕ, ◌+◌, ◌-◌, ◌<◌, ◌≤◌, inl, inr, Bool, true, false, List, [], ◌∷◌, Option, Some, length, refl, sym, ◌∙◌, ap, subst, arith}
use Rattle.std.specs.Prelude.{◌↔◌}
use Rattle.std.proofs.lemmas.Bool.{cases_lt, cases_Bool, false≢true}
use Rattle.std.proofs.lemmas.List.{length-append}
use Rattle.std.proofs.lemmas.Option.{same_Some}
use Rattle.type_terms.specs.declared.name.Scope.{Scope}
use Rattle.type_terms.specs.declared.name.Scope.TheVariants.{Here, Extern}
use Rattle.type_terms.specs.declared.name.TypeId.{TypeId}
use Rattle.image_model.specs.Streams.{strings_of}
use Rattle.image_model.specs.Rows.{count_of, HasRow, enclosing}
use Rattle.image_model.specs.Naming.{HasId, HasRefId, HasPath, HasRefPath}
use Rattle.name_numbers.specs.Names.{name_by, parent_at, id_at, is_root, AreNumbers, number_at, root_at, depth_at}
use Rattle.name_numbers.specs.declared.numbering.Named.{Named}
use Rattle.name_numbers.specs.declared.numbering.Node.{Node}
use Rattle.name_numbers.proofs.Naming.{full, at_root, enough, short}
use Rattle.name_numbers.proofs.Roots.{root_first, root_behind}
use Rattle.type_names.specs.Forest.{AreForest, HaveScopes, ref_node, middle_of, last_of}
use Rattle.type_names.specs.Numbers.{NodeNames, IsNode, NameOne, TellNames}
use Rattle.type_names.proofs.Paths.{scope_root, path_named, named_path, ref_path_named, named_ref_path}

root_not : {b c : Bool} → b ≡ true → c ≡ b → c ≡ false → ⊥
root_not e f g = false≢true (sym g ∙ f ∙ e)

one_scope : (image : List ℕ) (a b : Scope) → scope_root image a ≡ scope_root image b → a ≡ b
one_scope image Here Here e = refl
one_scope image Here (Extern k) e = absurd (omega arith)
one_scope image (Extern j) Here e = absurd (omega arith)
one_scope image (Extern j) (Extern k) e = let same : j ≡ k = omega arith in ap Extern same

path_texts : {image : List ℕ} {row : ℕ} {path : List TypeId} → HasPath image row path → length path ≡ 0 → ⊥
path_texts (HasPath.top e h) z = absurd (omega arith)
path_texts (HasPath.nested {id = x} {before = b} e some h i s) z = let l = ap length s ∙ length-append b (x ∷ []) in absurd (omega arith)

ref_path_texts : {image : List ℕ} {row : ℕ} {scope : Scope} {path : List TypeId} → HasRefPath image row scope path → length path ≡ 0 → ⊥
ref_path_texts (HasRefPath.in_module e h) z = absurd (omega arith)
ref_path_texts (HasRefPath.in_assembly e g h) z = absurd (omega arith)
ref_path_texts (HasRefPath.in_type {id = x} {before = b} e h i s) z = let l = ap length s ∙ length-append b (x ∷ []) in absurd (omega arith)

has_texts : {image : List ℕ} {k : ℕ} {scope : Scope} {path : List TypeId} → NodeNames image k scope path → length path ≡ 0 → ⊥
has_texts (NodeNames.type there h) z = path_texts h z
has_texts (NodeNames.reference there e h) z = ref_path_texts h z

pub type_names : {image : List ℕ} {k : ℕ} {scope : Scope} {path : List TypeId} → NodeNames image k scope path → k ≤ count_of image 0x02 → (scope ≡ Here) × HasPath image k path
type_names (NodeNames.type there h) low = (refl, h)
type_names (NodeNames.reference there e h) low = let t = there.0 in absurd (omega arith)

pub reference_names : {image : List ℕ} {k : ℕ} {scope : Scope} {path : List TypeId} → NodeNames image k scope path → (row : ℕ) → 0 < row → k ≡ ref_node image row → HasRefPath image row scope path
reference_names (NodeNames.type there h) row some e = let t = there.1 in absurd (omega arith)
reference_names {image = image} {scope = scope} {path = path} (NodeNames.reference {row = r} there f h) row some e =
    let same : r ≡ row = omega arith in subst (λ z. HasRefPath image z scope path) same h

module _ (image : List ℕ) (nodes : List Node) (forest : AreForest image nodes)
    (outer_there : (row : ℕ) → HasRow image 0x02 row → 0 < enclosing image row → HasRow image 0x02 (enclosing image row))
    (scopes : HaveScopes image) (type_ids : (row : ℕ) → HasRow image 0x02 row → (x : TypeId) × HasId image row x)
    (ref_ids : (row : ℕ) → HasRow image 0x01 row → (x : TypeId) × HasRefId image row x)
    (no_modules : (row : ℕ) → HasRow image 0x1A row → ⊥)
    (named : List Named) (numbers : AreNumbers (strings_of image) nodes (middle_of image) (last_of image) named) where
  abbrev N : ℕ → ℕ → Option (ℕ × List TypeId)
  N most k = name_by (parent_at nodes) (id_at (strings_of image) nodes) (is_root (last_of image)) most k

  names_type : {row : ℕ} {path : List TypeId} → HasPath image row path → HasRow image 0x02 row → (most : ℕ) → length path ≤ most → N most row ≡ full 0 path
  names_type h there most few = path_named image nodes forest outer_there scopes type_ids ref_ids no_modules h there most few

  names_ref : {row : ℕ} {scope : Scope} {path : List TypeId} → HasRefPath image row scope path → HasRow image 0x01 row → (most : ℕ) → length path ≤ most
      → N most (ref_node image row) ≡ full (scope_root image scope) path
  names_ref h there most few = ref_path_named image nodes forest outer_there scopes type_ids ref_ids no_modules h there most few

  -- what a node names is its name
  name_told : {k : ℕ} {scope : Scope} {path : List TypeId} → NodeNames image k scope path → (most : ℕ) → length path ≤ most → N most k ≡ full (scope_root image scope) path
  name_told (NodeNames.type there h) most few = names_type h there most few
  name_told {scope = scope} {path = path} (NodeNames.reference {row = r} there e h) most few =
      subst (λ z. N most z ≡ full (scope_root image scope) path) (sym e) (names_ref h there most few)

  -- a node's name is what it names
  abbrev Told : ℕ → ℕ × List TypeId → Type 0
  Told k n = (scope : Scope) × (n.0 ≡ scope_root image scope) × NodeNames image k scope n.1

  told_name : (most k : ℕ) (n : ℕ × List TypeId) → IsNode image k → N most k ≡ Some n → Told k n
  told_name most k n node h = elim (cases_lt (count_of image 0x02) k) [
    | inr low ↦
        let there : HasRow image 0x02 k = (node.0, low) in
        let p = named_path image nodes forest outer_there scopes type_ids ref_ids no_modules most k n there h in
        (Here, p.0, NodeNames.type there p.1)
    | inl high ↦
        let row : ℕ = k - count_of image 0x02 in
        let at : k ≡ ref_node image row = omega arith in
        let there : HasRow image 0x01 row = (omega arith, let l = node.1 in omega arith) in
        let p = named_ref_path image nodes forest outer_there scopes type_ids ref_ids no_modules most row n there (ap (N most) (sym at) ∙ h) in
        (p.0, p.1, NodeNames.reference there at p.2)
  ]

  one_name : (a b k : ℕ) (m n : ℕ × List TypeId) → N a k ≡ Some m → N b k ≡ Some n → m ≡ n
  one_name a b k m n h g =
      let up = parent_at nodes in
      let id = id_at (strings_of image) nodes in
      let root = is_root (last_of image) in
      let s = short up id root a k m h in
      let t = short up id root b k n g in
      same_Some m n (sym (enough up id root a k m h (a + b) (omega arith)) ∙ enough up id root b k n g (a + b) (omega arith))

  within : (k : ℕ) → IsNode image k → k < length nodes
  within k node = let l = forest.long in let h = node.1 in omega arith

  abbrev Has : ℕ → Type 0
  Has k = (path : List TypeId) × (N 100 k ≡ full (root_at named k) path) × (depth_at named k ≡ length path + 1)

  has_name : (k : ℕ) → IsNode image k → 0 < depth_at named k → Has k
  has_name k node some = numbers.has k (within k node) some

  -- the name of a node with a number, by what it names
  is_name : (k : ℕ) (scope : Scope) (path : List TypeId) → IsNode image k → 0 < depth_at named k → NodeNames image k scope path
      → (root_at named k ≡ scope_root image scope) × (depth_at named k ≡ length path + 1) × (N 100 k ≡ full (scope_root image scope) path)
  is_name k scope path node some h =
      let p = has_name k node some in
      let told = name_told h (length path) (omega arith) in
      let same = one_name 100 (length path) k (root_at named k, p.0) (scope_root image scope, path) p.1 told in
      let root : root_at named k ≡ scope_root image scope = ap (λ (z : ℕ × List TypeId). z.0) same in
      let long : length p.0 ≡ length path = ap (λ (z : ℕ × List TypeId). length z.1) same in
      (root, let d = p.2 in omega arith, p.1 ∙ ap Some same)

  abbrev HasShortPath : ℕ → Type 0
  HasShortPath k = (scope : Scope) × (path : List TypeId) × NodeNames image k scope path × (length path ≤ 100)

  tells_has : (k : ℕ) → IsNode image k → (0 < depth_at named k) ↔ HasShortPath k
  tells_has k node = (
    λ some.
        let p = has_name k node some in
        let t = told_name 100 k (root_at named k, p.0) node p.1 in
        (t.0, p.0, t.2, short (parent_at nodes) (id_at (strings_of image) nodes) (is_root (last_of image)) 100 k (root_at named k, p.0) p.1),
    λ told. numbers.all k (scope_root image told.0, told.1) (within k node) (name_told told.2 100 told.3),
  )

  tells_root : (k : ℕ) (scope : Scope) (path : List TypeId) → IsNode image k → 0 < depth_at named k → NodeNames image k scope path → (root_at named k ≡ 0) ↔ (scope ≡ Here)
  tells_root k scope path node some h =
      let i = is_name k scope path node some h in
      (λ z. one_scope image scope Here (sym i.0 ∙ z), λ e. i.0 ∙ ap (scope_root image) e)

  tells_same : (j k : ℕ) → IsNode image j → IsNode image k → 0 < depth_at named j → 0 < depth_at named k → (number_at named j ≡ number_at named k) ↔ NameOne image j k
  tells_same j k node_j node_k some_j some_k =
      let s = numbers.same j k (within j node_j) (within k node_k) some_j some_k in (
        λ e.
            let names = s.0 e in
            let p = has_name j node_j some_j in
            let n : ℕ × List TypeId = (root_at named j, p.0) in
            let a = told_name 100 j n node_j p.1 in
            let b = told_name 100 k n node_k (sym names ∙ p.1) in
            let same = one_scope image b.0 a.0 (sym b.1 ∙ a.1) in
            (a.0, p.0, a.2, subst (λ z. NodeNames image k z p.0) same b.2),
        λ one.
            let a = is_name j one.0 one.1 node_j some_j one.2 in
            let b = is_name k one.0 one.1 node_k some_k one.3 in
            s.1 (a.2 ∙ sym b.2),
      )

  -- a name with a text is no root's
  no_root_named : (k m : ℕ) → IsNode image k → 0 < depth_at named k → N 100 m ≡ N 100 k → is_root (last_of image) m ≡ true → ⊥
  no_root_named k m node some same e =
      let t = (tells_has k node).0 some in
      let i = is_name k t.0 t.1 node some t.2 in
      let n = same_Some _ _ (sym (at_root (parent_at nodes) (id_at (strings_of image) nodes) (is_root (last_of image)) 100 m e) ∙ same ∙ i.2) in
      let l : 0 ≡ length t.1 = ap (λ (z : ℕ × List TypeId). length z.1) n in
      has_texts t.2 (sym l)

  node_of : (m : ℕ) → is_root (last_of image) m ≡ false → IsNode image m
  node_of m e = (
    elim (cases_lt 0 m) [ inl some ↦ some | inr none ↦ let z : m ≡ 0 = omega arith in absurd (root_not (root_first (last_of image)) (ap (is_root (last_of image)) z) e) ],
    elim (cases_lt m (last_of image)) [ inl less ↦ omega arith | inr past ↦ absurd (root_not (root_behind (last_of image) m past) refl e) ],
  )

  tells_there : (k : ℕ) → IsNode image k → 0 < depth_at named k
      → IsNode image (number_at named k) × (0 < depth_at named (number_at named k)) × (number_at named (number_at named k) ≡ number_at named k)
  tells_there k node some =
      let t = numbers.there k (within k node) some in
      let m : ℕ = number_at named k in
      let same : N 100 m ≡ N 100 k = (numbers.same m k t.0 (within k node) t.1 some).0 t.2 in
      let inner : is_root (last_of image) m ≡ false = elim (cases_Bool (is_root (last_of image) m)) [ inl e ↦ absurd (no_root_named k m node some same e) | inr e ↦ e ] in
      (node_of m inner, t.1, t.2)

  tells_early : (k : ℕ) → HasRow image 0x02 k → 0 < depth_at named k → HasRow image 0x02 (number_at named k)
  tells_early k there some =
      let node : IsNode image k = (there.0, let h = there.1 in omega arith) in
      let t = tells_there k node some in
      let e = numbers.early k (let h = there.1 in omega arith) some in
      (t.0.0, omega arith)

  pub tells : TellNames image named
  tells = record {
    long = numbers.long ∙ forest.long;
    has = tells_has;
    depth = λ k scope path node some h. (is_name k scope path node some h).1;
    root = tells_root;
    same = tells_same;
    there = tells_there;
    early = tells_early;
  }
