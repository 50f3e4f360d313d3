-- Types and owners break no rule.
use Rattle.std.proofs.Common.{◌≡◌, ◌&&◌, ℕ, zero, suc, ◌+◌, ◌<◌, ◌≤◌, ◌^◌, max, nat_lt, nat_le, Bool, true, false, if◌then◌else◌, ℤ, pos, List, [], ◌∷◌, map, length, Option, None, Some, refl, ap, sym, subst, drop, ◌∙◌, arith}
use Rattle.std.proofs.lemmas.Bool.{and_parts, false≢true, leb-true, ltb-true, le-leb}
use Rattle.std.specs.List.{list_all}
use Rattle.il_lexer.specs.declared.word.TheConstants as word
use Rattle.ilasm_grammar.specs.declared.productions.TheConstants as p
use Rattle.type_terms.specs.Depth.{owner_depth_step, depth_step, depth, owner_depth, largest}
use Rattle.type_terms.specs.declared.name.TypeName.{TypeName}
use Rattle.type_terms.specs.declared.term.Primitive as prim
use Rattle.type_terms.specs.declared.term.Owner.{Owner, fold-Owner, fold-roll-Owner, map-Owner, roll-Owner}
use Rattle.type_terms.specs.declared.term.Owner.TheOpen as layer
use Rattle.type_terms.specs.declared.term.SigType.{SigType, fold-SigType, fold-roll-SigType, map-SigType, roll-SigType}
use Rattle.type_terms.proofs.Layers.{OwnerWith, TypeWith, owner_values, type_values, by_layers, owner_by_layers}
use Rattle.assembly_tree.specs.WellFormedNames.{is_type_name}
use Rattle.assembly_tree.specs.WellFormedTerms as formed
use Rattle.assembly_tree.specs.WellFormedTerms.{is_type, is_owner, is_shape, is_variable}
use Rattle.assembly_tree.specs.declared.assembly.Assembly.{Assembly}
use Rattle.source_model.specs.Forest as f
use Rattle.source_model.specs.Nodes.{Around, Node, nodes_in}
use Rattle.source_model.specs.Source.{Source}
use Rattle.source_model.specs.TypeRules.{is_within, unless}
use Rattle.source_model.specs.Types as read
use Rattle.source_model.specs.Values.{int_at, integer}
use Rattle.faultless_nodes.specs.Laws.{BreaksNothing, EachBreaksNothing, asked, UnaskedBreakNothing}
use Rattle.listing_declarations.specs.Laws.{IsListingOf}
use Rattle.listing_formed.specs.Laws.{Knows, FormedAreReadable, FormedAreRead}
use Rattle.listing_growth.specs.Held.{owner_holds, type_holds, is_type_held, is_owner_held}
use Rattle.listing_growth.specs.Standing.{has_name}
use Rattle.listing_keys.specs.Laws.{KeysAreKnown}
use Rattle.listing_model.specs.Shown.{Shown, none, branch, Item, item, put, w, optional, size, star_production, star_below, behind_comma}
use Rattle.listing_model.specs.Types.{TypeShown, based, with_suffix, of_shown, type_item, type_args, brackets, modifier, primitive, variable, bound, bound_opt, comma_bound, more_bounds, first, dimensions, shape, named, owner_step, type_step, shown_type, owner, type_name, type_of, type_below}
use Rattle.listing_reading.specs.Numbered.{numbered, Agrees}
use Rattle.listing_rows.specs.Laws.{SegmentsAreRead}
use Rattle.listing_rows.specs.Segments.{end_of, ItemsAgree}
use Rattle.listing_terms.specs.Laws.{PathsAreRead}
use Rattle.listing_values.specs.Laws.{NamesAreRead, NumbersAreRead}
use Rattle.listing_denotes.specs.Quiet.{ItemsBreakNothing, RowsBreakNothing}
use Rattle.listing_denotes.specs.Values.{NumbersAlone}
use Rattle.listing_denotes.specs.Terms.{PathsAreDeclared, TermsBreakNothing}
use Rattle.listing_denotes.proofs.TermsNames.{name_quiet}
use Rattle.listing_denotes.proofs.TermsShapes.{below_of, shape_quiet}

both : (x y : Bool) → x ≡ true → y ≡ true → (x && y) ≡ true
both true y i j = j
both false y i j = i

abbrev node_at : Around → ℕ → f.Forest → Node
node_at x q b = record { production = q; below = b; around = x }

-- ---- numbers

unless_none : (test : ℤ → Bool) (s : Source) (k : ℕ) (z : ℤ) → int_at s k ≡ z → test z ≡ true → unless test s k ≡ []
unless_none test s k z e t = ap (λ (c : Bool). if c then [] else k ∷ []) (ap test e ∙ t)

small_variable : (n : ℕ) → is_variable n ≡ true → n < 2 ^ 128
small_variable n h = let low = ltb-true n 65536 h in omega arith

variable_within : (n : ℕ) → is_variable n ≡ true → is_within (pos 0) (pos 65535) (pos n) ≡ true
variable_within n h = grind (arith, h)

not_deeper : (n : ℕ) → n ≤ 100 → nat_lt 100 n ≡ false
not_deeper n h = grind (arith, h)

-- ---- depths of parts

shallow : (ds : List ℕ) (d : ℕ) → largest (d ∷ ds) + 1 ≤ 100 → (d ≤ 100) × (largest ds + 1 ≤ 100)
shallow ds d h = (omega arith, omega arith)

less : (n : ℕ) → n + 1 ≤ 100 → n ≤ 100
less n h = omega arith

first_less : (m n : ℕ) → max m n + 1 ≤ 100 → m ≤ 100
first_less m n h = omega arith

last_less : (m n : ℕ) → max m n + 1 ≤ 100 → n ≤ 100
last_less m n h = omega arith

module _ (unasked : UnaskedBreakNothing) (alone : NumbersAlone) (rows : RowsBreakNothing) (segments : SegmentsAreRead) (laws : NumbersAreRead) (read_back : FormedAreRead)
    (s : Source) (a : Assembly) (knows : Knows s a) (x : Around)
    (name_ok : (t : TypeName) → is_type_name a t ≡ true → has_name t ≡ true → (at : ℕ) → Agrees s at (type_name a.externs t).below → (after : f.Forest) → EachBreaksNothing s (nodes_in s x after) →
    EachBreaksNothing s (nodes_in s x (f.branch (type_name a.externs t).production (numbered at (type_name a.externs t).below) after))) where
  -- what has this production, with anything behind it that breaks none
  abbrev Quiet : Item → Type 0
  Quiet i = (at : ℕ) → Agrees s at i.below → (after : f.Forest) → EachBreaksNothing s (nodes_in s x after) → EachBreaksNothing s (nodes_in s x (f.branch i.production (numbered at i.below) after))

  record QuietType (g : TypeShown) : Type 0 where
    base : Quiet g.base
    suffixes : (at : ℕ) → ItemsAgree s at g.suffixes → ItemsBreakNothing s x at g.suffixes

  below_quiet : (g : TypeShown) → QuietType g → (at : ℕ) → Agrees s at (of_shown g) → EachBreaksNothing s (nodes_in s x (numbered at (of_shown g)))
  below_quiet g q at ag =
      let next = at + size g.base.below in
      q.base at ag.0 (f.branch (star_production p.TYPE_SUFFIX_STAR_MORE p.TYPE_SUFFIX_STAR_END g.suffixes) (numbered next (star_below p.TYPE_SUFFIX_STAR_MORE p.TYPE_SUFFIX_STAR_END g.suffixes)) f.none)
      (rows.row s x p.TYPE_SUFFIX_STAR_MORE p.TYPE_SUFFIX_STAR_END refl refl g.suffixes next f.none
      (q.suffixes next (segments.row s p.TYPE_SUFFIX_STAR_MORE p.TYPE_SUFFIX_STAR_END g.suffixes next ag.1.0)) tt)

  based_quiet : (i : Item) → Quiet i → QuietType (based i)
  based_quiet i q = record { base = q; suffixes = λ at ag. tt }

  suffix_quiet : (g : TypeShown) → QuietType g → (i : Item) → ((at : ℕ) → Agrees s at i.below → EachBreaksNothing s (nodes_in s x (f.branch i.production (numbered at i.below) f.none))) →
      QuietType (with_suffix g i)
  suffix_quiet g q i h = record {
    base = q.base;
    suffixes = λ at ag.
        let parts = segments.agree s at g.suffixes (i ∷ []) ag in
        rows.joined s x at g.suffixes (i ∷ []) (q.suffixes at parts.0) (h (end_of at g.suffixes) parts.1.0, tt);
  }

  -- ---- layers

  abbrev types : SigType → TypeShown
  types = fold-SigType Item TypeShown (owner_step a.externs) (type_step a.externs)

  abbrev owners : Owner → Item
  owners = fold-Owner Item TypeShown (owner_step a.externs) (type_step a.externs)

  abbrev made : SigType → Bool
  made = fold-SigType Bool Bool (formed.owner_step a) (formed.type_step a)

  abbrev owner_made : Owner → Bool
  owner_made = fold-Owner Bool Bool (formed.owner_step a) (formed.type_step a)

  abbrev held : SigType → Bool
  held = fold-SigType Bool Bool owner_holds type_holds

  abbrev owner_held : Owner → Bool
  owner_held = fold-Owner Bool Bool owner_holds type_holds

  abbrev Q : SigType → Type 0
  Q t = made t ≡ true → held t ≡ true → depth t ≤ 100 → QuietType (types t)

  abbrev P : Owner → Type 0
  P o = owner_made o ≡ true → owner_held o ≡ true → owner_depth o ≤ 100 → Quiet (owners o)

  abbrev values : List (TypeWith P Q) → List SigType
  values args = map (λ (y : TypeWith P Q). y.0) args

  -- a type's own production
  type_node : (t : SigType) → made t ≡ true → held t ≡ true → depth t ≤ 100 → (at : ℕ) → Agrees s at (of_shown (types t)) → BreaksNothing s (node_at x p.TYPE (numbered at (of_shown (types t))))
  unfolding is_type is_type_held shown_type
  type_node t m h d at ag =
      let formed_is : is_type a t ≡ true = both (nat_le (depth t) 100) (made t) (le-leb (depth t) 100 d) m in
      let is : read.type_of s x (numbered at (of_shown (types t))) ≡ t = read_back.types s x a knows t formed_is h at ag in
      record {
        types = refl;
        scopes = refl;
        typars = refl;
        param_types = refl;
        numbers = refl;
        depth = ap (λ (b : Bool). if b then f.first_token (numbered at (of_shown (types t))) ∷ [] else []) (ap (λ (u : SigType). nat_lt 100 (depth u)) is ∙ not_deeper (depth t) d);
        nesting = refl;
        paths = refl;
        class = λ i. absurd (false≢true i);
        field = λ i. absurd (false≢true i);
        label = λ i. absurd (false≢true i);
        accessors = λ i. absurd (false≢true i);
        method = λ i. absurd (false≢true i);
      }

  whole_quiet : (t : SigType) → Q t → made t ≡ true → held t ≡ true → depth t ≤ 100 → Quiet (type_item (types t))
  whole_quiet t q m h d at ag after r =
      unasked.branch s x p.TYPE (numbered at (of_shown (types t))) after (type_node t m h d at ag) (below_quiet (types t) (q m h d) at ag) r

  -- ---- bases

  primitive_quiet : (y : prim.Primitive) → Quiet (primitive y)
  primitive_quiet prim.TheVariants.Void at ag after r = (unasked.node s _ refl, r)
  primitive_quiet prim.TheVariants.Bool at ag after r = (unasked.node s _ refl, r)
  primitive_quiet prim.TheVariants.Char at ag after r = (unasked.node s _ refl, r)
  primitive_quiet prim.TheVariants.I1 at ag after r = (unasked.node s _ refl, (unasked.node s _ refl, r))
  primitive_quiet prim.TheVariants.U1 at ag after r = (unasked.node s _ refl, (unasked.node s _ refl, r))
  primitive_quiet prim.TheVariants.I2 at ag after r = (unasked.node s _ refl, (unasked.node s _ refl, r))
  primitive_quiet prim.TheVariants.U2 at ag after r = (unasked.node s _ refl, (unasked.node s _ refl, r))
  primitive_quiet prim.TheVariants.I4 at ag after r = (unasked.node s _ refl, (unasked.node s _ refl, r))
  primitive_quiet prim.TheVariants.U4 at ag after r = (unasked.node s _ refl, (unasked.node s _ refl, r))
  primitive_quiet prim.TheVariants.I8 at ag after r = (unasked.node s _ refl, (unasked.node s _ refl, r))
  primitive_quiet prim.TheVariants.U8 at ag after r = (unasked.node s _ refl, (unasked.node s _ refl, r))
  primitive_quiet prim.TheVariants.R4 at ag after r = (unasked.node s _ refl, r)
  primitive_quiet prim.TheVariants.R8 at ag after r = (unasked.node s _ refl, r)
  primitive_quiet prim.TheVariants.Str at ag after r = (unasked.node s _ refl, r)
  primitive_quiet prim.TheVariants.Object at ag after r = (unasked.node s _ refl, r)
  primitive_quiet prim.TheVariants.TypedRef at ag after r = (unasked.node s _ refl, r)
  primitive_quiet prim.TheVariants.NInt at ag after r = (unasked.node s _ refl, (unasked.node s _ refl, r))
  primitive_quiet prim.TheVariants.NUint at ag after r = (unasked.node s _ refl, (unasked.node s _ refl, r))

  var_quiet : (n : ℕ) → is_variable n ≡ true → Quiet (variable p.TYPE_BASE_BANG word.BANG n)
  var_quiet n h at ag after r =
      let e = unless_none (is_within (pos 0) (pos 65535)) s (suc at) (pos n) (ap integer ag.1.0.0.text ∙ laws.natural n (small_variable n h)) (variable_within n h) in (
        record {
          types = refl;
          scopes = refl;
          typars = refl;
          param_types = refl;
          numbers = simp e;
          depth = refl;
          nesting = refl;
          paths = refl;
          class = λ i. absurd (false≢true i);
          field = λ i. absurd (false≢true i);
          label = λ i. absurd (false≢true i);
          accessors = λ i. absurd (false≢true i);
          method = λ i. absurd (false≢true i);
        },
        (unasked.node s _ refl, r),
      )

  mvar_quiet : (n : ℕ) → is_variable n ≡ true → Quiet (variable p.TYPE_BASE_DOUBLE_BANG word.DOUBLE_BANG n)
  mvar_quiet n h at ag after r =
      let e = unless_none (is_within (pos 0) (pos 65535)) s (suc at) (pos n) (ap integer ag.1.0.0.text ∙ laws.natural n (small_variable n h)) (variable_within n h) in (
        record {
          types = refl;
          scopes = refl;
          typars = refl;
          param_types = refl;
          numbers = simp e;
          depth = refl;
          nesting = refl;
          paths = refl;
          class = λ i. absurd (false≢true i);
          field = λ i. absurd (false≢true i);
          label = λ i. absurd (false≢true i);
          accessors = λ i. absurd (false≢true i);
          method = λ i. absurd (false≢true i);
        },
        (unasked.node s _ refl, r),
      )

  -- a class or a value type, whose arguments break none
  named_quiet : (v : Bool) (t : TypeName) (args : Option Shown) → is_type_name a t ≡ true → has_name t ≡ true →
      ((at : ℕ) → Agrees s at (optional p.TYPE_ARGS_OPT_SOME p.TYPE_ARGS_OPT_NONE args none) → EachBreaksNothing s (nodes_in s x (numbered at (optional p.TYPE_ARGS_OPT_SOME p.TYPE_ARGS_OPT_NONE args none)))) →
      Quiet (named a.externs v t args)
  named_quiet true t args m h k at ag after r =
      let rest = optional p.TYPE_ARGS_OPT_SOME p.TYPE_ARGS_OPT_NONE args none in
      let next = suc at + size (type_name a.externs t).below in
      let own = f.branch (type_name a.externs t).production (numbered (suc at) (type_name a.externs t).below) (numbered next rest) in
      unasked.branch s x p.TYPE_BASE_VALUETYPE (f.leaf at own) after (unasked.node s _ refl) (name_ok t m h (suc at) ag.1.0 (numbered next rest) (k next ag.1.1)) r
  named_quiet false t args m h k at ag after r =
      let rest = optional p.TYPE_ARGS_OPT_SOME p.TYPE_ARGS_OPT_NONE args none in
      let next = suc at + size (type_name a.externs t).below in
      let own = f.branch (type_name a.externs t).production (numbered (suc at) (type_name a.externs t).below) (numbered next rest) in
      unasked.branch s x p.TYPE_BASE_CLASS (f.leaf at own) after (unasked.node s _ refl) (name_ok t m h (suc at) ag.1.0 (numbered next rest) (k next ag.1.1)) r

  no_args : (at : ℕ) → Agrees s at (optional p.TYPE_ARGS_OPT_SOME p.TYPE_ARGS_OPT_NONE None none) →
      EachBreaksNothing s (nodes_in s x (numbered at (optional p.TYPE_ARGS_OPT_SOME p.TYPE_ARGS_OPT_NONE None none)))
  no_args at ag = (unasked.node s _ refl, tt)

  -- the arguments behind the first
  args_row : (args : List (TypeWith P Q)) → list_all (λ ok. ok) (map made (values args)) ≡ true → list_all (λ ok. ok) (map held (values args)) ≡ true → largest (map depth (values args)) + 1 ≤ 100 →
      (at : ℕ) → ItemsAgree s at (map (behind_comma p.COMMA_TYPE) (map type_item (map types (values args)))) →
      ItemsBreakNothing s x at (map (behind_comma p.COMMA_TYPE) (map type_item (map types (values args))))
  args_row [] m h d at ag = tt
  args_row (y ∷ ys) m h d at ag =
      let ms = and_parts _ _ m in
      let hs = and_parts _ _ h in
      let ds = shallow (map depth (values ys)) (depth y.0) d in
      let inner = whole_quiet y.0 y.1 ms.0 hs.0 ds.0 (suc at) ag.0.1.0 f.none tt in
      let own = f.branch p.TYPE (numbered (suc at) (of_shown (types y.0))) f.none in (
        unasked.branch s x p.COMMA_TYPE (f.leaf at own) f.none (unasked.node s _ refl) inner tt,
        args_row ys ms.1 hs.1 ds.1 (at + size (behind_comma p.COMMA_TYPE (type_item (types y.0))).below) ag.1,
      )

  args_quiet : (args : List (TypeWith P Q)) → nat_lt 0 (length (map made (values args))) ≡ true → list_all (λ ok. ok) (map made (values args)) ≡ true → list_all (λ ok. ok) (map held (values args)) ≡ true →
      largest (map depth (values args)) + 1 ≤ 100 → (at : ℕ) → Agrees s at (optional p.TYPE_ARGS_OPT_SOME p.TYPE_ARGS_OPT_NONE (Some (type_args (map types (values args)))) none) →
      EachBreaksNothing s (nodes_in s x (numbered at (optional p.TYPE_ARGS_OPT_SOME p.TYPE_ARGS_OPT_NONE (Some (type_args (map types (values args)))) none)))
  args_quiet [] l m h d at ag = absurd (false≢true l)
  args_quiet (y ∷ ys) l m h d at ag =
      let ms = and_parts _ _ m in
      let hs = and_parts _ _ h in
      let ds = shallow (map depth (values ys)) (depth y.0) d in
      let items = map (behind_comma p.COMMA_TYPE) (map type_item (map types (values ys))) in
      let from = suc at + size (of_shown (types y.0)) in
      let last = from + size (star_below p.COMMA_TYPE_STAR_MORE p.COMMA_TYPE_STAR_END items) in
      let row = f.branch (star_production p.COMMA_TYPE_STAR_MORE p.COMMA_TYPE_STAR_END items) (numbered from (star_below p.COMMA_TYPE_STAR_MORE p.COMMA_TYPE_STAR_END items)) (f.leaf last f.none) in
      let behind = rows.row s x p.COMMA_TYPE_STAR_MORE p.COMMA_TYPE_STAR_END refl refl items from (f.leaf last f.none)
      (args_row ys ms.1 hs.1 ds.1 from (segments.row s p.COMMA_TYPE_STAR_MORE p.COMMA_TYPE_STAR_END items from ag.0.0.1.1.0)) tt in
      let inner = whole_quiet y.0 y.1 ms.0 hs.0 ds.0 (suc at) ag.0.0.1.0 row behind in
      let first = f.branch p.TYPE (numbered (suc at) (of_shown (types y.0))) row in
      unasked.branch s x p.TYPE_ARGS_OPT_SOME (f.branch p.TYPE_ARGS (f.leaf at first) f.none) f.none (unasked.node s _ refl)
      (unasked.branch s x p.TYPE_ARGS (f.leaf at first) f.none (unasked.node s _ refl) inner tt) tt

  -- ---- suffixes

  vector_quiet : (at : ℕ) → EachBreaksNothing s (nodes_in s x (f.branch p.TYPE_SUFFIX_BRACKET (numbered at (brackets (item p.SHAPE_CLOSE (w word.CLOSE_BRACKET none))).below) f.none))
  vector_quiet at = (alone s _ refl refl, (unasked.node s _ refl, tt))

  one_bound : (size_of : Option ℕ) (l : Option ℤ) (at : ℕ) → EachBreaksNothing s (nodes_in s x (numbered at (bound_opt (bound size_of l) none)))
  one_bound None None at = unasked.forest s x (numbered at (bound_opt (bound None None) none)) refl
  one_bound (Some n) None at = unasked.forest s x (numbered at (bound_opt (bound (Some n) None) none)) refl
  one_bound None (Some l) at = unasked.forest s x (numbered at (bound_opt (bound None (Some l)) none)) refl
  one_bound (Some n) (Some l) at = unasked.forest s x (numbered at (bound_opt (bound (Some n) (Some l)) none)) refl

  bounds_quiet : (rank : ℕ) (sizes : List ℕ) (lower : List ℤ) (at : ℕ) → ItemsBreakNothing s x at (map comma_bound (dimensions rank sizes lower))
  bounds_quiet zero sizes lower at = tt
  bounds_quiet (suc rank) sizes lower at =
      let d = bound (first sizes) (first lower) in (
        unasked.branch s x p.COMMA_BOUND (f.leaf at (numbered (suc at) (bound_opt d none))) f.none (unasked.node s _ refl) (one_bound (first sizes) (first lower) (suc at)) tt,
        bounds_quiet rank (drop 1 sizes) (drop 1 lower) (at + size (comma_bound d).below),
      )

  more_quiet : (rank : ℕ) (sizes : List ℕ) (lower : List ℤ) (at : ℕ) → EachBreaksNothing s (nodes_in s x (numbered at (more_bounds (dimensions rank sizes lower))))
  more_quiet rank sizes lower at =
      let items = map comma_bound (dimensions rank sizes lower) in
      rows.row s x p.COMMA_BOUND_STAR_MORE p.COMMA_BOUND_STAR_END refl refl items at
      (f.leaf (at + size (star_below p.COMMA_BOUND_STAR_MORE p.COMMA_BOUND_STAR_END items)) f.none) (bounds_quiet rank sizes lower at) tt

  bounded_quiet : (below : Shown) (rank : ℕ) (sizes : List ℕ) (lower : List ℤ) (at : ℕ) → f.parts asked (numbered at below) ≡ [] →
      EachBreaksNothing s (nodes_in s x (numbered at (put (shape (Some (item p.BOUND_INT below) ∷ dimensions rank sizes lower)) none)))
  bounded_quiet below rank sizes lower at e =
      let next = at + size below in
      let more = numbered next (more_bounds (dimensions rank sizes lower)) in
      unasked.branch s x p.SHAPE_BOUND (f.branch p.BOUND_INT (numbered at below) more) f.none (unasked.node s _ refl)
      (unasked.branch s x p.BOUND_INT (numbered at below) more (unasked.node s _ refl) (unasked.forest s x (numbered at below) e) (more_quiet rank sizes lower next)) tt

  shape_row : (rank : ℕ) (sizes : List ℕ) (lower : List ℤ) (at : ℕ) → EachBreaksNothing s (nodes_in s x (numbered at (put (shape (dimensions rank sizes lower)) none)))
  shape_row zero sizes lower at = (unasked.node s _ refl, tt)
  shape_row (suc zero) [] [] at = unasked.forest s x (numbered at (put (shape (dimensions 1 [] [])) none)) refl
  shape_row (suc (suc r)) [] [] at =
      let more = numbered (suc at + 0) (more_bounds (dimensions r [] [])) in
      unasked.branch s x p.SHAPE_COMMA (f.leaf at (f.branch p.BOUND_OPT_NONE f.none more)) f.none (unasked.node s _ refl)
      (unasked.node s _ refl, more_quiet r [] [] (suc at + 0)) tt
  shape_row (suc r) (n ∷ ns) [] at = bounded_quiet (below_of (bound (Some n) None)) r ns [] at refl
  shape_row (suc r) [] (l ∷ ls) at = bounded_quiet (below_of (bound None (Some l))) r [] ls at refl
  shape_row (suc r) (n ∷ ns) (l ∷ ls) at = bounded_quiet (below_of (bound (Some n) (Some l))) r ns ls at refl

  array_quiet : (rank : ℕ) (sizes : List ℕ) (lower : List ℤ) → is_shape rank sizes lower ≡ true → (at : ℕ) → Agrees s at (brackets (shape (dimensions rank sizes lower))).below →
      EachBreaksNothing s (nodes_in s x (f.branch p.TYPE_SUFFIX_BRACKET (numbered at (brackets (shape (dimensions rank sizes lower))).below) f.none))
  array_quiet rank sizes lower h at ag =
      let e = shape_quiet laws s rank sizes lower h at ag in
      unasked.branch s x p.TYPE_SUFFIX_BRACKET (numbered at (brackets (shape (dimensions rank sizes lower))).below) f.none (alone s _ refl (simp e)) (shape_row rank sizes lower (suc at)) tt

  required_quiet : (i : Item) → Quiet i → (at : ℕ) → Agrees s at (modifier p.TYPE_SUFFIX_MODREQ word.MODREQ i).below →
      EachBreaksNothing s (nodes_in s x (f.branch p.TYPE_SUFFIX_MODREQ (numbered at (modifier p.TYPE_SUFFIX_MODREQ word.MODREQ i).below) f.none))
  required_quiet i q at ag =
      let last = f.leaf (suc (suc at) + size i.below) f.none in
      unasked.branch s x p.TYPE_SUFFIX_MODREQ (f.leaf at (f.leaf (suc at) (f.branch i.production (numbered (suc (suc at)) i.below) last))) f.none (unasked.node s _ refl)
      (q (suc (suc at)) ag.1.1.0 last tt) tt

  optional_quiet : (i : Item) → Quiet i → (at : ℕ) → Agrees s at (modifier p.TYPE_SUFFIX_MODOPT word.MODOPT i).below →
      EachBreaksNothing s (nodes_in s x (f.branch p.TYPE_SUFFIX_MODOPT (numbered at (modifier p.TYPE_SUFFIX_MODOPT word.MODOPT i).below) f.none))
  optional_quiet i q at ag =
      let last = f.leaf (suc (suc at) + size i.below) f.none in
      unasked.branch s x p.TYPE_SUFFIX_MODOPT (f.leaf at (f.leaf (suc at) (f.branch i.production (numbered (suc (suc at)) i.below) last))) f.none (unasked.node s _ refl)
      (q (suc (suc at)) ag.1.1.0 last tt) tt

  -- ---- layers, one for each variant

  type_layer : (l : layer.SigType-F (OwnerWith P Q) (TypeWith P Q)) →
      formed.type_step a (map-SigType Owner SigType Bool Bool owner_made made (type_values P Q l)) ≡ true →
      type_holds (map-SigType Owner SigType Bool Bool owner_held held (type_values P Q l)) ≡ true →
      depth_step (map-SigType Owner SigType ℕ ℕ owner_depth depth (type_values P Q l)) ≤ 100 →
      QuietType (type_step a.externs (map-SigType Owner SigType Item TypeShown owners types (type_values P Q l)))
  type_layer (layer.Prim y) m h d = based_quiet (primitive y) (primitive_quiet y)
  type_layer (layer.Class t) m h d = based_quiet (named a.externs false t None) (named_quiet false t None m h no_args)
  type_layer (layer.Value t) m h d = based_quiet (named a.externs true t None) (named_quiet true t None m h no_args)
  type_layer (layer.Inst v t args) m h d =
      let ms = and_parts _ _ m in
      let ns = and_parts _ _ ms.0 in
      let hs = and_parts _ _ h in
      based_quiet (named a.externs v t (Some (type_args (map types (values args))))) (named_quiet v t (Some (type_args (map types (values args)))) ns.0 hs.0 (args_quiet args ns.1 ms.1 hs.1 d))
  type_layer (layer.Var k) m h d = based_quiet (variable p.TYPE_BASE_BANG word.BANG k) (var_quiet k m)
  type_layer (layer.MVar k) m h d = based_quiet (variable p.TYPE_BASE_DOUBLE_BANG word.DOUBLE_BANG k) (mvar_quiet k m)
  type_layer (layer.SzArray t) m h d = suffix_quiet (types t.0) (t.1 m h (less (depth t.0) d)) (brackets (item p.SHAPE_CLOSE (w word.CLOSE_BRACKET none))) (λ at ag. vector_quiet at)
  type_layer (layer.Array t rank sizes lower) m h d =
      let ms = and_parts _ _ m in
      suffix_quiet (types t.0) (t.1 ms.1 h (less (depth t.0) d)) (brackets (shape (dimensions rank sizes lower))) (array_quiet rank sizes lower ms.0)
  type_layer (layer.ByRef t) m h d = suffix_quiet (types t.0) (t.1 m h (less (depth t.0) d)) (item p.TYPE_SUFFIX_AMPERSAND (w word.AMPERSAND none)) (λ at ag. (unasked.node s _ refl, tt))
  type_layer (layer.Pointer t) m h d = suffix_quiet (types t.0) (t.1 m h (less (depth t.0) d)) (item p.TYPE_SUFFIX_STAR (w word.STAR none)) (λ at ag. (unasked.node s _ refl, tt))
  type_layer (layer.Mod true o t) m h d =
      let ms = and_parts _ _ m in
      let hs = and_parts _ _ h in
      suffix_quiet (types t.0) (t.1 ms.1 hs.1 (last_less (owner_depth o.0) (depth t.0) d)) (modifier p.TYPE_SUFFIX_MODREQ word.MODREQ (owners o.0))
      (required_quiet (owners o.0) (o.1 ms.0 hs.0 (first_less (owner_depth o.0) (depth t.0) d)))
  type_layer (layer.Mod false o t) m h d =
      let ms = and_parts _ _ m in
      let hs = and_parts _ _ h in
      suffix_quiet (types t.0) (t.1 ms.1 hs.1 (last_less (owner_depth o.0) (depth t.0) d)) (modifier p.TYPE_SUFFIX_MODOPT word.MODOPT (owners o.0))
      (optional_quiet (owners o.0) (o.1 ms.0 hs.0 (first_less (owner_depth o.0) (depth t.0) d)))
  type_layer (layer.Pinned t) m h d = suffix_quiet (types t.0) (t.1 m h (less (depth t.0) d)) (item p.TYPE_SUFFIX_PINNED (w word.PINNED none)) (λ at ag. (unasked.node s _ refl, tt))

  owner_layer : (l : layer.Owner-F (OwnerWith P Q) (TypeWith P Q)) →
      formed.owner_step a (map-Owner Owner SigType Bool Bool owner_made made (owner_values P Q l)) ≡ true →
      owner_holds (map-Owner Owner SigType Bool Bool owner_held held (owner_values P Q l)) ≡ true →
      owner_depth_step (map-Owner Owner SigType ℕ ℕ owner_depth depth (owner_values P Q l)) ≤ 100 →
      Quiet (owner_step a.externs (map-Owner Owner SigType Item TypeShown owners types (owner_values P Q l)))
  owner_layer (layer.Name t) m h d at ag after r =
      unasked.branch s x p.SPEC_TYPE_NAME (numbered at (put (type_name a.externs t) none)) after (unasked.node s _ refl) (name_ok t m h at ag.0 f.none tt) r
  owner_layer (layer.Spec t) m h d at ag after r =
      unasked.branch s x p.SPEC_TYPE (numbered at (branch p.TYPE (of_shown (types t.0)) none)) after (unasked.node s _ refl) (whole_quiet t.0 t.1 m h d at ag.0 f.none tt) r

  owner_rolled : (l : layer.Owner-F (OwnerWith P Q) (TypeWith P Q)) → P (roll-Owner (owner_values P Q l))
  owner_rolled l m h d =
      subst Quiet (sym (fold-roll-Owner Item TypeShown (owner_step a.externs) (type_step a.externs) (owner_values P Q l)))
      (owner_layer l (sym (fold-roll-Owner Bool Bool (formed.owner_step a) (formed.type_step a) (owner_values P Q l)) ∙ m)
      (sym (fold-roll-Owner Bool Bool owner_holds type_holds (owner_values P Q l)) ∙ h)
      (subst (λ (n : ℕ). n ≤ 100) (fold-roll-Owner ℕ ℕ owner_depth_step depth_step (owner_values P Q l)) d))

  type_rolled : (l : layer.SigType-F (OwnerWith P Q) (TypeWith P Q)) → Q (roll-SigType (type_values P Q l))
  type_rolled l m h d =
      subst QuietType (sym (fold-roll-SigType Item TypeShown (owner_step a.externs) (type_step a.externs) (type_values P Q l)))
      (type_layer l (sym (fold-roll-SigType Bool Bool (formed.owner_step a) (formed.type_step a) (type_values P Q l)) ∙ m)
      (sym (fold-roll-SigType Bool Bool owner_holds type_holds (type_values P Q l)) ∙ h)
      (subst (λ (n : ℕ). n ≤ 100) (fold-roll-SigType ℕ ℕ owner_depth_step depth_step (type_values P Q l)) d))

  type_all : (t : SigType) → Q t
  type_all = by_layers P Q owner_rolled type_rolled

  owner_all : (o : Owner) → P o
  owner_all = owner_by_layers P Q owner_rolled type_rolled

  -- ---- types and owners

  type_ok : (t : SigType) → is_type a t ≡ true → is_type_held t ≡ true → Quiet (type_of a.externs t)
  unfolding is_type is_type_held shown_type
  type_ok t m h =
      let ms = and_parts (nat_le (depth t) 100) (made t) m in
      whole_quiet t (type_all t) ms.1 h (leb-true (depth t) 100 ms.0)

  owner_ok : (o : Owner) → is_owner a o ≡ true → is_owner_held o ≡ true → Quiet (owner a.externs o)
  unfolding is_owner is_owner_held owner
  owner_ok o m h =
      let ms = and_parts (nat_le (owner_depth o) 100) (owner_made o) m in
      owner_all o ms.1 h (leb-true (owner_depth o) 100 ms.0)

module _ (unasked : UnaskedBreakNothing) (alone : NumbersAlone) (rows : RowsBreakNothing) (segments : SegmentsAreRead) (names : NamesAreRead) (laws : NumbersAreRead) (paths : PathsAreRead)
    (readable : FormedAreReadable) (read_back : FormedAreRead) (keys : KeysAreKnown) (declared : PathsAreDeclared) (s : Source) (a : Assembly) (listed : IsListingOf s a) (x : Around) where
  names_quiet : (t : TypeName) → is_type_name a t ≡ true → has_name t ≡ true → (at : ℕ) → Agrees s at (type_name a.externs t).below → (after : f.Forest) → EachBreaksNothing s (nodes_in s x after) →
      EachBreaksNothing s (nodes_in s x (f.branch (type_name a.externs t).production (numbered at (type_name a.externs t).below) after))
  names_quiet = name_quiet unasked rows names paths s a (keys.knows s a listed) (declared s a listed) readable x

  types_quiet : (t : SigType) → is_type a t ≡ true → is_type_held t ≡ true → (at : ℕ) → Agrees s at (type_below a.externs t) → (after : f.Forest) → EachBreaksNothing s (nodes_in s x after) →
      EachBreaksNothing s (nodes_in s x (f.branch (type_of a.externs t).production (numbered at (type_of a.externs t).below) after))
  types_quiet = type_ok unasked alone rows segments laws read_back s a (keys.knows s a listed) x names_quiet

  owners_quiet : (o : Owner) → is_owner a o ≡ true → is_owner_held o ≡ true → (at : ℕ) → Agrees s at (owner a.externs o).below → (after : f.Forest) → EachBreaksNothing s (nodes_in s x after) →
      EachBreaksNothing s (nodes_in s x (f.branch (owner a.externs o).production (numbered at (owner a.externs o).below) after))
  owners_quiet = owner_ok unasked alone rows segments laws read_back s a (keys.knows s a listed) x names_quiet

pub terms_break_nothing : UnaskedBreakNothing → NumbersAlone → RowsBreakNothing → SegmentsAreRead → NamesAreRead → NumbersAreRead → PathsAreRead → FormedAreReadable → FormedAreRead →
    KeysAreKnown → PathsAreDeclared → TermsBreakNothing
terms_break_nothing unasked alone rows segments names laws paths readable read_back keys declared = record {
  names = names_quiet unasked alone rows segments names laws paths readable read_back keys declared;
  types = types_quiet unasked alone rows segments names laws paths readable read_back keys declared;
  owners = owners_quiet unasked alone rows segments names laws paths readable read_back keys declared;
}
