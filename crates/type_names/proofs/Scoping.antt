-- What is asked of scopes and of nesting, by the numbers of names.
use Rattle.std.proofs.Common.{◌≡◌, ℕ, ◌-◌, ◌<◌, ◌≤◌, inl, inr, List, [], ◌∷◌, map, length, refl, sym, subst, arith}
use Rattle.std.specs.Prelude.{◌↔◌}
use Rattle.type_terms.specs.declared.name.Scope.{Scope}
use Rattle.type_terms.specs.declared.name.Scope.TheVariants.{Here, Extern}
use Rattle.type_terms.specs.declared.name.TypeId.{TypeId}
use Rattle.image_model.specs.Columns.{nested_class, enclosing_class}
use Rattle.image_model.specs.Rows.{count_of, HasRow}
use Rattle.image_model.specs.Naming.{HasPath, HasRefPath}
use Rattle.image_model.specs.Structure.{HasScope, IsNested, HasScopes, IsFirstWith, IsSorted}
use Rattle.image_model.specs.Streams.{tables_of}
use Rattle.metadata_tables.specs.Order.{sort_columns, IsNotAfter}
use Rattle.metadata_tables.specs.Stream.{cell}
use Rattle.row_groups.specs.Ranges.{Ascends}
use Rattle.row_groups.proofs.Ranges.{rises_to}
use Rattle.name_numbers.specs.Names.{named_at, number_at, root_at, depth_at}
use Rattle.name_numbers.specs.declared.numbering.Named.{Named}
use Rattle.type_names.specs.Forest.{ref_node}
use Rattle.type_names.specs.Numbers.{NodeNames, IsNode, TellNames, LeadsBy}
use Rattle.type_names.proofs.Telling.{type_names, reference_names}

not_here : (k : ℕ) → Extern k ≡ Here → ⊥
not_here k e = cc

above : (n : ℕ) → (n ≡ 0 → ⊥) → 0 < n
above n some = omega arith

module _ (image : List ℕ) (named : List Named) (tell : TellNames image named) where
  ref_is_node : (row : ℕ) → HasRow image 0x01 row → IsNode image (ref_node image row)
  ref_is_node row there = let a = there.0 in let b = there.1 in (omega arith, omega arith)

  type_is_node : (row : ℕ) → HasRow image 0x02 row → IsNode image row
  type_is_node row there = let b = there.1 in (there.0, omega arith)

  -- a reference leads out of the module, or to a type of it
  abbrev Leads : ℕ → Type 0
  Leads k = LeadsBy (count_of image 0x02) (named_at named k)

  module _ (row : ℕ) (there : HasRow image 0x01 row) where
    abbrev k : ℕ
    k = ref_node image row

    node : IsNode image k
    node = ref_is_node row there

    leads_out : 0 < depth_at named k → 0 < root_at named k → HasScope image row
    leads_out some out =
        let h = (tell.has k node).0 some in
        record {
          scope = h.0;
          path = h.1;
          leads = reference_names h.2 row there.0 refl;
          short = h.3;
          declared = λ e. let z = (tell.root k h.0 h.1 node some h.2).1 e in absurd (omega arith);
        }

    leads_in : 0 < depth_at named k → number_at named k ≤ count_of image 0x02 → HasScope image row
    leads_in some low =
        let m : ℕ = number_at named k in
        let t = tell.there k node some in
        let one = (tell.same k m node t.0 some t.1).0 (sym t.2) in
        let type = type_names one.3 low in
        let h = (tell.has k node).0 some in
        let d = tell.depth k h.0 h.1 node some h.2 in
        let e = tell.depth k one.0 one.1 node some one.2 in
        let short : length one.1 ≤ 100 = let s = h.3 in omega arith in
        record {
          scope = one.0;
          path = one.1;
          leads = reference_names one.2 row there.0 refl;
          short = short;
          declared = λ here. (m, (t.0.0, low), type.1);
        }

    here_low : (path : List TypeId) → HasRefPath image row Here path → length path ≤ 100 → ((type : ℕ) × HasRow image 0x02 type × HasPath image type path) → number_at named k ≤ count_of image 0x02
    here_low path leads short (type, type_there, type_path) =
        let a : NodeNames image k Here path = NodeNames.reference there refl leads in
        let b : NodeNames image type Here path = NodeNames.type type_there type_path in
        let some_k = (tell.has k node).1 (Here, path, a, short) in
        let node_t = type_is_node type type_there in
        let some_t = (tell.has type node_t).1 (Here, path, b, short) in
        let same = (tell.same k type node node_t some_k some_t).1 (Here, path, a, b) in
        let e = tell.early type type_there some_t in
        let low = e.1 in
        omega arith

    leads_by : (scope : Scope) (path : List TypeId) → HasRefPath image row scope path → length path ≤ 100
        → (scope ≡ Here → (type : ℕ) × HasRow image 0x02 type × HasPath image type path) → Leads k
    leads_by Here path leads short declared =
        ((tell.has k node).1 (Here, path, NodeNames.reference there refl leads, short), inr (here_low path leads short (declared refl)))
    leads_by (Extern j) path leads short declared =
        let a : NodeNames image k (Extern j) path = NodeNames.reference there refl leads in
        let some = (tell.has k node).1 (Extern j, path, a, short) in
        (some, inl (above (root_at named k) (λ z. not_here j ((tell.root k (Extern j) path node some a).0 z))))

    pub scope_told : Leads k ↔ HasScope image row
    scope_told = (
      λ l. elim l.1 [ inl out ↦ leads_out l.0 out | inr low ↦ leads_in l.0 low ],
      λ h. leads_by h.scope h.path h.leads h.short h.declared,
    )

  -- the type of a row of NestedClass has a path
  pub nested_told : (row : ℕ) → HasRow image 0x02 (nested_class image row) → IsFirstWith (nested_class image) row → enclosing_class image row < nested_class image row
      → (0 < depth_at named (nested_class image row)) ↔ IsNested image row
  nested_told row there once before =
      let n = type_is_node (nested_class image row) there in (
        λ some.
            let h = (tell.has (nested_class image row) n).0 some in
            let p = type_names h.2 there.1 in
            record { once = once; before = before; path = h.1; leads = p.1; short = h.3 },
        λ nested. (tell.has (nested_class image row) n).1 (Here, nested.path, NodeNames.type there nested.leads, nested.short),
      )

pub scopes_of_references : (image : List ℕ) (row : ℕ) → HasRow image 0x01 row → HasScope image row ↔ HasScopes image 0x01 row
scopes_of_references image row there = (
  λ h. record { reference = λ e t. h; nesting = λ e t. absurd (omega arith) },
  λ s. s.reference refl there,
)

pub scopes_of_nesting : (image : List ℕ) (row : ℕ) → HasRow image 0x29 row → IsNested image row ↔ HasScopes image 0x29 row
scopes_of_nesting image row there = (
  λ h. record { reference = λ e t. absurd (omega arith); nesting = λ e t. h },
  λ s. s.nesting refl there,
)

pub scopes_of_others : (image : List ℕ) (table row : ℕ) → (table ≡ 0x01 → ⊥) → (table ≡ 0x29 → ⊥) → HasScopes image table row
scopes_of_others image table row a b = record { reference = λ e t. absurd (a e); nesting = λ e t. absurd (b e) }

pub scopes_of_none : (image : List ℕ) (table row : ℕ) → (HasRow image table row → ⊥) → HasScopes image table row
scopes_of_none image table row none =
    record {
      reference = λ e t. absurd (none (subst (λ z. HasRow image z row) (sym e) t));
      nesting = λ e t. absurd (none (subst (λ z. HasRow image z row) (sym e) t));
    }

-- ---- the first row of NestedClass with a type

nesting_columns : sort_columns 0x29 ≡ 0 ∷ []
unfolding sort_columns
nesting_columns = refl

not_less : (x y : ℕ) (xs ys : List ℕ) → IsNotAfter (x ∷ xs) (y ∷ ys) → x ≤ y
not_less x y xs ys (inl less) = omega arith
not_less x y xs ys (inr same) = let e = same.0 in omega arith

nesting_ascends : (image : List ℕ) → ((table row : ℕ) → IsSorted image table row) → Ascends image 0x29 0
nesting_ascends image order row more within =
    not_less (nested_class image (row - 1)) (nested_class image row) [] []
    (subst (λ columns. IsNotAfter (map (cell (tables_of image) 0x29 (row - 1)) columns) (map (cell (tables_of image) 0x29 row) columns)) nesting_columns (order 0x29 row more (omega arith, within)))

pub first_told : (image : List ℕ) (row : ℕ) → ((table row : ℕ) → IsSorted image table row) → HasRow image 0x29 row → 1 < row
    → (nested_class image (row - 1) ≡ nested_class image row → ⊥) ↔ IsFirstWith (nested_class image) row
first_told image row order there more =
    let rise = nesting_ascends image order in (
      λ n earlier some less e.
          let a = rises_to image 0x29 0 rise earlier (row - 1) some (omega arith) (let w = there.1 in omega arith) in
          let b = rise row more there.1 in
          n (omega arith),
      λ once e. once (row - 1) (omega arith) (omega arith) e,
    )
