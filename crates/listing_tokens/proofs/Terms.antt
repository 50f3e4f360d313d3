-- Names, types and owners are sound.
use Rattle.std.proofs.Common.{◌≡◌, inl, inr, ℕ, zero, suc, ◌^◌, ◌<◌, ◌≤◌, ◌&&◌, nat_lt, Bool, true, false, cond, ℤ, pos, ◌+ℤ◌, ◌-ℤ◌, List, [], ◌∷◌, ◌++◌, map, drop, length, slice_get, Option, None, Some, refl, ap, sym, subst, ◌∙◌, append_assoc, arith}
use Rattle.std.proofs.lemmas.Bool.{and_parts, ltb-true, leb-true, false≢true}
use Rattle.std.specs.List.{list_all}
use Rattle.std.specs.Prelude.{option_map}
use lib.Signed.{mag}
use Rattle.il_lexer.specs.Spelled.{Each, EachOf, IsSpelling}
use Rattle.il_lexer.specs.declared.types.TokenKind.TheVariants as kind
use Rattle.il_lexer.specs.declared.word.TheConstants as word
use Rattle.il_lexer.specs.Classes.{is_digit, is_hex}
use Rattle.ilasm_grammar.specs.declared.productions.TheConstants as p
use Rattle.type_terms.specs.Depth.{largest, owner_depth_step, depth_step}
use Rattle.type_terms.specs.declared.name.Scope as scope
use Rattle.type_terms.specs.declared.name.TypeId.{TypeId}
use Rattle.type_terms.specs.declared.name.TypeName.{TypeName}
use Rattle.type_terms.specs.declared.term.Primitive as prim
use Rattle.type_terms.specs.declared.term.Owner.{Owner, fold-Owner, fold-roll-Owner, map-Owner, roll-Owner}
use Rattle.type_terms.specs.declared.term.Owner.TheOpen as layer
use Rattle.type_terms.specs.declared.term.SigType.{SigType, fold-SigType, fold-roll-SigType, map-SigType, roll-SigType}
use Rattle.type_terms.proofs.Layers.{OwnerWith, TypeWith, owner_values, type_values, by_layers, owner_by_layers}
use Rattle.assembly_tree.specs.WellFormed.{is_extern}
use Rattle.assembly_tree.specs.WellFormedNames.{option_all, is_type_id, is_type_name, is_known_in}
use Rattle.assembly_tree.specs.WellFormedTerms as formed
use Rattle.assembly_tree.specs.declared.assembly.Assembly.{Assembly}
use Rattle.assembly_tree.specs.declared.assembly.ExternAssembly.{ExternAssembly}
use Rattle.listing_growth.specs.Held.{owner_holds, type_holds, is_type_held, is_owner_held}
use Rattle.listing_leaves.specs.Laws.{IsLeaf, NumbersAreLeaves, BytesAreLeaves, TextsAreLeaves, NamesAreLeaves, has_no_zero, is_name}
use Rattle.listing_leaves.specs.Names as names
use Rattle.listing_leaves.specs.Numbers.{natural}
use Rattle.listing_model.specs.Shown.{Leaf, Shown, none, leaves, Item, put, w, branch, opt_below, star_below, word_text}
use Rattle.listing_model.specs.Types.{path_below, slash_name, has_alias, alias, key_in, extern_key, int_type, primitive, variable, bound, comma_bound, more_bounds, dimensions, shape, first, TypeShown, based, with_suffix, of_shown, type_item, type_args, brackets, modifier, name_in, named, owner_step, type_step, shown_type, owner}
use Rattle.listing_tokens.proofs.Sound.{closes_name, opens, next_passes, is_bound, room_behind, IsFine, Sound, wf, tf, SoundItem, EachSound, sounds_append, star_sound, OptionSound, opt_sound, commas_sound}

-- what the laws on leaves say
pub record LeafLaws : Type 0 where
  pub numbers : NumbersAreLeaves
  pub bytes : BytesAreLeaves
  pub texts : TextsAreLeaves
  pub names : NamesAreLeaves

pub both : (x y : Bool) → x ≡ true → y ≡ true → (x && y) ≡ true
both true y f g = g
both false y f g = f

-- a text with a byte isn't empty
pub some_length : (n : ℕ) → nat_lt 0 (suc n) ≡ true
some_length n = grind arith

-- ---- digits have no zero byte

digits_clear : (w : List ℕ) → Each is_digit w → has_no_zero w ≡ true
digits_clear [] h = refl
digits_clear (b ∷ bs) h = both (nat_lt 0 b) (has_no_zero bs) (grind (arith, h.0)) (digits_clear bs h.1)

hex_clear : (w : List ℕ) → Each is_hex w → has_no_zero w ≡ true
hex_clear [] h = refl
hex_clear (b ∷ bs) h = both (nat_lt 0 b) (has_no_zero bs) (grind (arith, h.0)) (hex_clear bs h.1)

some_each : (t : ℕ → Bool) (w : List ℕ) → EachOf t w → Each t w
some_each t [] h = absurd h
some_each t (b ∷ bs) h = h

int_clear : (w : List ℕ) → IsSpelling kind.Int w → has_no_zero w ≡ true
int_clear w (inl (inl h)) = digits_clear w (some_each is_digit w h)
int_clear w (inl (inr (ds, h, e))) = subst (λ x. has_no_zero x ≡ true) (sym e) (digits_clear ds (some_each is_digit ds h))
int_clear w (inr (inl (ds, h, e))) = subst (λ x. has_no_zero x ≡ true) (sym e) (hex_clear ds (some_each is_hex ds h))
int_clear w (inr (inr (v, (ds, h, e), f))) =
    subst (λ x. has_no_zero x ≡ true) (sym (f ∙ ap (λ x. 45 ∷ x) e)) (hex_clear ds (some_each is_hex ds h))

-- ---- bases

pub int_sound : (r : ℕ) (x : prim.Primitive) → SoundItem r (int_type x)
int_sound r prim.TheVariants.I1 rest = (wf refl refl, tt)
int_sound r prim.TheVariants.I2 rest = (wf refl refl, tt)
int_sound r prim.TheVariants.I4 rest = (wf refl refl, tt)
int_sound r prim.TheVariants.I8 rest = (wf refl refl, tt)
int_sound r prim.TheVariants.U1 rest = (wf refl refl, tt)
int_sound r prim.TheVariants.U2 rest = (wf refl refl, tt)
int_sound r prim.TheVariants.U4 rest = (wf refl refl, tt)
int_sound r _ rest = (wf refl refl, tt)

base_sound : (r : ℕ) (x : prim.Primitive) → SoundItem r (primitive x)
base_sound r prim.TheVariants.Void rest = (wf refl refl, tt)
base_sound r prim.TheVariants.Bool rest = (wf refl refl, tt)
base_sound r prim.TheVariants.Char rest = (wf refl refl, tt)
base_sound r prim.TheVariants.Str rest = (wf refl refl, tt)
base_sound r prim.TheVariants.Object rest = (wf refl refl, tt)
base_sound r prim.TheVariants.TypedRef rest = (wf refl refl, tt)
base_sound r prim.TheVariants.R4 rest = (wf refl refl, tt)
base_sound r prim.TheVariants.R8 rest = (wf refl refl, tt)
base_sound r prim.TheVariants.NInt rest = (wf refl refl, ((wf refl refl, tt), tt))
base_sound r prim.TheVariants.NUint rest = (wf refl refl, ((wf refl refl, tt), tt))
base_sound r x rest = ((wf refl refl, tt), tt)

base_opens : (x : prim.Primitive) (rest : List Leaf) → opens (leaves (primitive x).below ++ rest) ≡ true
base_opens prim.TheVariants.Void rest = refl
base_opens x rest = refl

-- ---- types

pub record TypeSound (r : ℕ) (t : TypeShown) : Type 0 where
  pub base : SoundItem r t.base
  pub suffixes : EachSound r t.suffixes
  pub opens : (rest : List Leaf) → opens (leaves t.base.below ++ rest) ≡ true

pub record OwnerSound (r : ℕ) (i : Item) : Type 0 where
  pub sound : SoundItem r i
  pub opens : (rest : List Leaf) → closes_name rest ≡ true → opens (leaves i.below ++ rest) ≡ true

based_sound : (r : ℕ) (i : Item) → SoundItem r i → ((rest : List Leaf) → opens (leaves i.below ++ rest) ≡ true) → TypeSound r (based i)
based_sound r i h o = record { base = h; suffixes = tt; opens = o }

suffix_sound : (r : ℕ) (t : TypeShown) (i : Item) → TypeSound r t → SoundItem r i → TypeSound r (with_suffix t i)
suffix_sound r t i h k = record { base = h.base; suffixes = sounds_append r t.suffixes (i ∷ []) h.suffixes (k, tt); opens = h.opens }

pub of_sound : (r : ℕ) (t : TypeShown) → TypeSound r t → SoundItem r (type_item t)
of_sound r t h rest = (h.base _, (star_sound r p.TYPE_SUFFIX_STAR_MORE p.TYPE_SUFFIX_STAR_END t.suffixes h.suffixes _, tt))

pub of_opens : (r : ℕ) (t : TypeShown) → TypeSound r t → (rest : List Leaf) → opens (leaves (of_shown t) ++ rest) ≡ true
of_opens r t h rest =
    let more = leaves (star_below p.TYPE_SUFFIX_STAR_MORE p.TYPE_SUFFIX_STAR_END t.suffixes) ++ [] in
    subst (λ ls. opens ls ≡ true) (sym (append_assoc (leaves t.base.below) more rest)) (h.opens (more ++ rest))

variable_sound : (laws : LeafLaws) (r k : ℕ) → k < 2 ^ 128 → SoundItem r (variable p.TYPE_BASE_BANG word.BANG k)
variable_sound laws r k h rest = (wf refl refl, ((tf (laws.numbers.natural k h) refl refl, tt), tt))

method_variable_sound : (laws : LeafLaws) (r k : ℕ) → k < 2 ^ 128 → SoundItem r (variable p.TYPE_BASE_DOUBLE_BANG word.DOUBLE_BANG k)
method_variable_sound laws r k h rest = (wf refl refl, ((tf (laws.numbers.natural k h) refl refl, tt), tt))

-- ---- shapes

small_variable : (k : ℕ) → formed.is_variable k ≡ true → k < 2 ^ 128
small_variable k h = let low = ltb-true k 65536 h in omega arith

small_size : (k : ℕ) → formed.is_size k ≡ true → k < 2 ^ 128
small_size k h = let low = ltb-true k 0x20000000 h in omega arith

small_bound : (l : ℤ) → formed.is_lower_bound l ≡ true → mag l < 2 ^ 127
small_bound l h = grind (arith, h)

small_upper : (l : ℤ) (k : ℕ) → formed.is_lower_bound l ≡ true → formed.is_size k ≡ true → mag ((l +ℤ pos k) -ℤ pos 1) < 2 ^ 127
small_upper l k h s = grind (arith, h, s)

-- a dimension that has a bound, with what stands behind it
abbrev BoundSound : ℕ → Option Item → Type 0
BoundSound r None = Unit {0}
BoundSound r (Some i) = SoundItem r i × ((rest : List Leaf) → next_passes is_bound (leaves i.below ++ rest) ≡ true)

abbrev AllBounds : ℕ → List (Option Item) → Type 0
AllBounds r [] = Unit {0}
AllBounds r (b ∷ bs) = BoundSound r b × AllBounds r bs

module _ (laws : LeafLaws) (r : ℕ) where
  lower_sound : (l : ℤ) (size : Option ℕ) → formed.is_lower_bound l ≡ true → option_all formed.is_size size ≡ true → BoundSound r (bound size (Some l))
  lower_sound l None h s =
      ((λ rest. (tf (laws.numbers.integer l (small_bound l h)) refl refl, (((wf refl refl, (tt, tt)), tt), tt))), (λ rest. refl))
  lower_sound l (Some k) h s = (
    (λ rest. (
      tf (laws.numbers.integer l (small_bound l h)) refl refl,
      (((wf refl refl, ((tf (laws.numbers.integer ((l +ℤ pos k) -ℤ pos 1) (small_upper l k h s)) refl refl, tt), tt)), tt), tt),
    )),
    (λ rest. refl),
  )

  bound_sound : (size : Option ℕ) (lower : Option ℤ) → option_all formed.is_size size ≡ true → option_all formed.is_lower_bound lower ≡ true → BoundSound r (bound size lower)
  bound_sound None None s h = tt
  bound_sound (Some k) None s h = ((λ rest. (tf (laws.numbers.natural k (small_size k s)) refl refl, (tt, tt))), (λ rest. refl))
  bound_sound None (Some l) s h = lower_sound l None h s
  bound_sound (Some k) (Some l) s h = lower_sound l (Some k) h s

  first_passes : {X : Type 0} (t : X → Bool) (xs : List X) → list_all t xs ≡ true → option_all t (first xs) ≡ true
  first_passes t [] h = refl
  first_passes t (x ∷ xs) h = (and_parts (t x) (list_all t xs) h).0

  others_pass : {X : Type 0} (t : X → Bool) (xs : List X) → list_all t xs ≡ true → list_all t (drop 1 xs) ≡ true
  others_pass t [] h = refl
  others_pass t (x ∷ xs) h = (and_parts (t x) (list_all t xs) h).1

  all_bounds : (rank : ℕ) (sizes : List ℕ) (lower : List ℤ) → list_all formed.is_size sizes ≡ true → list_all formed.is_lower_bound lower ≡ true →
      AllBounds r (dimensions rank sizes lower)
  all_bounds zero sizes lower s h = tt
  all_bounds (suc rank) sizes lower s h = (
    bound_sound (first sizes) (first lower) (first_passes formed.is_size sizes s) (first_passes formed.is_lower_bound lower h),
    all_bounds rank (drop 1 sizes) (drop 1 lower) (others_pass formed.is_size sizes s) (others_pass formed.is_lower_bound lower h),
  )

  opt_bound : (b : Option Item) → BoundSound r b → (rest : List Leaf) → Sound r (opt_below (option_map (λ i. put i none) b)) rest
  opt_bound None h rest = tt
  opt_bound (Some i) h rest = (h.0 rest, tt)

  commas_bounds : (bs : List (Option Item)) → AllBounds r bs → EachSound r (map comma_bound bs)
  commas_bounds [] h = tt
  commas_bounds (b ∷ bs) h = ((λ rest. (wf refl refl, (opt_bound b h.0 _, tt))), commas_bounds bs h.1)

  more_sound : (bs : List (Option Item)) → AllBounds r bs → (rest : List Leaf) → Sound r (more_bounds bs) rest
  more_sound bs h rest = (star_sound r p.COMMA_BOUND_STAR_MORE p.COMMA_BOUND_STAR_END (map comma_bound bs) (commas_bounds bs h) _, (wf refl refl, tt))

  shape_sound : (ds : List (Option Item)) → AllBounds r ds → SoundItem r (shape ds)
  shape_sound [] h rest = (wf refl refl, tt)
  shape_sound (None ∷ []) h rest = ((wf refl refl, tt), more_sound [] tt rest)
  shape_sound (None ∷ d ∷ ds) h rest = (wf refl refl, (opt_bound d h.1.0 _, more_sound ds h.1.1 rest))
  shape_sound (Some b ∷ ds) h rest = (h.0.0 _, more_sound ds h.1 rest)

  shape_begins : (ds : List (Option Item)) → AllBounds r ds → (rest : List Leaf) → next_passes is_bound (leaves (shape ds).below ++ rest) ≡ true
  shape_begins [] h rest = refl
  shape_begins (None ∷ []) h rest = refl
  shape_begins (None ∷ d ∷ ds) h rest = refl
  shape_begins (Some b ∷ ds) h rest =
      subst (λ ls. next_passes is_bound ls ≡ true) (sym (append_assoc (leaves b.below) (leaves (more_bounds ds)) rest)) (h.0.1 (leaves (more_bounds ds) ++ rest))

brackets_sound : (r : ℕ) (s : Item) → SoundItem r s → ((rest : List Leaf) → next_passes is_bound (leaves s.below ++ rest) ≡ true) → SoundItem (suc r) (brackets s)
brackets_sound r s h o rest = (wf (opened rest) refl, (h _, tt))
  where
    opened : (rest : List Leaf) → next_passes is_bound ((leaves s.below ++ []) ++ rest) ≡ true
    opened rest = subst (λ ls. next_passes is_bound ls ≡ true) (sym (append_assoc (leaves s.below) [] rest)) (o rest)

pub get_passes : {X : Type 0} (t : X → Bool) (xs : List X) (k : ℕ) → list_all t xs ≡ true → option_all t (slice_get xs k) ≡ true
get_passes t [] k h = refl
get_passes t (x ∷ xs) zero h = (and_parts (t x) (list_all t xs) h).0
get_passes t (x ∷ xs) (suc k) h = get_passes t xs k (and_parts (t x) (list_all t xs) h).1

modifier_sound : (r production k : ℕ) (by : Item) (first : (ls : List Leaf) → IsFine (suc r) (record { starts = false; apart = false; kind = kind.Word k; text = word_text k }) ls) →
    room_behind (kind.Word k) (suc r) ≡ suc r → OwnerSound r by → SoundItem (suc r) (modifier production k by)
modifier_sound r production k by first same h rest = (
  first _,
  subst (λ t. Sound t (w word.OPEN_PAREN (branch by.production by.below (w word.CLOSE_PAREN none))) rest) (sym same)
      (wf (opened rest) refl, (h.sound _, (wf refl refl, tt))),
)
  where
    opened : (rest : List Leaf) → opens ((leaves by.below ++ leaves (w word.CLOSE_PAREN none)) ++ rest) ≡ true
    opened rest = subst (λ ls. opens ls ≡ true) (sym (append_assoc (leaves by.below) (leaves (w word.CLOSE_PAREN none)) rest)) (h.opens (leaves (w word.CLOSE_PAREN none) ++ rest) refl)

-- an assembly that names assemblies well, and not too many
module _ (laws : LeafLaws) (a : Assembly) (named_well : list_all is_extern a.externs ≡ true) (few : length a.externs < 2 ^ 128) where
  -- ---- names

  pub alias_named : (k : ℕ) → k < 2 ^ 128 → is_name (alias k) ≡ true
  alias_named k h =
      both _ _ (some_length (length (natural k))) (int_clear (natural k) (laws.numbers.natural k h).spelled)

  key_by : (b : Bool) (k : ℕ) (e : ExternAssembly) → k < 2 ^ 128 → is_name e.name ≡ true → is_name (cond b (alias k) e.name) ≡ true
  key_by true k e h n = alias_named k h
  key_by false k e h n = n

  key_named : (k : ℕ) (e : Option ExternAssembly) → k < 2 ^ 128 → option_all is_extern e ≡ true → is_name (key_in a.externs k e) ≡ true
  unfolding is_extern
  key_named k None h n = alias_named k h
  key_named k (Some e) h n = key_by (has_alias a.externs e) k e h (and_parts (is_name e.name) _ n).0

  pub scope_leaf : (k : ℕ) → nat_lt k (length a.externs) ≡ true → IsLeaf kind.Scope (names.scope (extern_key a.externs k))
  scope_leaf k h =
      let low = ltb-true k (length a.externs) h in
      let small : k < 2 ^ 128 = omega arith in
      laws.names.scope (extern_key a.externs k) (key_named k (slice_get a.externs k) small (get_passes is_extern a.externs k named_well))

  id_leaf : (id : TypeId) → is_type_id id ≡ true → IsLeaf kind.Name (names.type_name id.space id.name)
  id_leaf id h = let hs = and_parts _ _ h in laws.names.type_name id.space id.name hs.0 hs.1

  slashes_sound : (r : ℕ) (ids : List TypeId) → list_all is_type_id ids ≡ true → EachSound r (map slash_name ids)
  slashes_sound r [] h = tt
  slashes_sound r (id ∷ ids) h =
      let hs = and_parts (is_type_id id) (list_all is_type_id ids) h in
      ((λ rest. (wf refl refl, (tf (id_leaf id hs.0) refl refl, tt))), slashes_sound r ids hs.1)

  pub path_sound : (r : ℕ) (ids : List TypeId) → list_all is_type_id ids ≡ true → (rest : List Leaf) → Sound r (path_below ids) rest
  path_sound r [] h rest = tt
  path_sound r (id ∷ ids) h rest =
      let hs = and_parts (is_type_id id) (list_all is_type_id ids) h in
      (tf (id_leaf id hs.0) refl refl, (star_sound r p.SLASH_NAME_STAR_MORE p.SLASH_NAME_STAR_END (map slash_name ids) (slashes_sound r ids hs.1) _, tt))

  name_sound : (r : ℕ) (s : scope.Scope) (ids : List TypeId) → list_all is_type_id ids ≡ true → is_known_in a s ids ≡ true → SoundItem r (name_in a.externs s ids)
  name_sound r scope.TheVariants.Here ids h k rest = (path_sound r ids h _, tt)
  name_sound r (scope.TheVariants.Extern j) ids h k rest = (tf (scope_leaf j k) refl refl, (path_sound r ids h _, tt))

  pub type_name_sound : (r : ℕ) (t : TypeName) → is_type_name a t ≡ true → SoundItem r (name_in a.externs t.scope t.path)
  unfolding is_type_name
  type_name_sound r t h rest =
      let hs = and_parts _ _ h in
      let ks = and_parts _ _ hs.0 in
      name_sound r t.scope t.path ks.1 hs.1 rest

  name_opens : (s : scope.Scope) (ids : List TypeId) → nat_lt 0 (length ids) ≡ true → (rest : List Leaf) → closes_name rest ≡ true →
      opens (leaves (put (name_in a.externs s ids) none) ++ rest) ≡ true
  name_opens scope.TheVariants.Here [] o rest c = absurd (false≢true o)
  name_opens scope.TheVariants.Here (id ∷ []) o rest c = c
  name_opens scope.TheVariants.Here (id ∷ next ∷ more) o rest c = refl
  name_opens (scope.TheVariants.Extern k) ids o rest c = refl

  named_sound : (r : ℕ) (value : Bool) (t : TypeName) (args : Option Shown) → is_type_name a t ≡ true → ((rest : List Leaf) → OptionSound r args rest) →
      TypeSound r (based (named a.externs value t args))
  named_sound r true t args h k = based_sound r _ (λ rest. (wf refl refl, (type_name_sound r t h _, (opt_sound r args _ (k _), tt)))) (λ rest. refl)
  named_sound r false t args h k = based_sound r _ (λ rest. (wf refl refl, (type_name_sound r t h _, (opt_sound r args _ (k _), tt)))) (λ rest. refl)

  -- ---- layers

  abbrev types : SigType → TypeShown
  types = fold-SigType Item TypeShown (owner_step a.externs) (type_step a.externs)

  abbrev owners : Owner → Item
  owners = fold-Owner Item TypeShown (owner_step a.externs) (type_step a.externs)

  abbrev made : SigType → Bool
  made = fold-SigType Bool Bool (formed.owner_step a) (formed.type_step a)

  abbrev owner_made : Owner → Bool
  owner_made = fold-Owner Bool Bool (formed.owner_step a) (formed.type_step a)

  abbrev held : SigType → Bool
  held = fold-SigType Bool Bool owner_holds type_holds

  abbrev owner_held : Owner → Bool
  owner_held = fold-Owner Bool Bool owner_holds type_holds

  abbrev deep : SigType → ℕ
  deep = fold-SigType ℕ ℕ owner_depth_step depth_step

  abbrev owner_deep : Owner → ℕ
  owner_deep = fold-Owner ℕ ℕ owner_depth_step depth_step

  abbrev Q : SigType → Type 0
  Q t = (r : ℕ) → made t ≡ true → held t ≡ true → deep t ≤ r → TypeSound r (types t)

  abbrev P : Owner → Type 0
  P o = (r : ℕ) → owner_made o ≡ true → owner_held o ≡ true → owner_deep o ≤ r → OwnerSound r (owners o)

  args_sound : (r : ℕ) (args : List (TypeWith P Q)) → list_all (λ ok. ok) (map made (map (λ (x : TypeWith P Q). x.0) args)) ≡ true →
      list_all (λ ok. ok) (map held (map (λ (x : TypeWith P Q). x.0) args)) ≡ true →
      largest (map deep (map (λ (x : TypeWith P Q). x.0) args)) ≤ r → EachSound r (map type_item (map types (map (λ (x : TypeWith P Q). x.0) args)))
  args_sound r [] m h d = tt
  args_sound r (x ∷ xs) m h d =
      let ms = and_parts _ _ m in
      let hs = and_parts _ _ h in
      let here : deep x.0 ≤ r = omega arith in
      let more : largest (map deep (map (λ (y : TypeWith P Q). y.0) xs)) ≤ r = omega arith in
      (of_sound r (types x.0) (x.1 r ms.0 hs.0 here), args_sound r xs ms.1 hs.1 more)

  angles_sound : (r : ℕ) (args : List (TypeWith P Q)) → nat_lt 0 (length (map made (map (λ (x : TypeWith P Q). x.0) args))) ≡ true →
      list_all (λ ok. ok) (map made (map (λ (x : TypeWith P Q). x.0) args)) ≡ true →
      list_all (λ ok. ok) (map held (map (λ (x : TypeWith P Q). x.0) args)) ≡ true →
      largest (map deep (map (λ (x : TypeWith P Q). x.0) args)) ≤ r → (rest : List Leaf) →
      Sound (suc r) (type_args (map types (map (λ (x : TypeWith P Q). x.0) args))) rest
  angles_sound r [] n m h d rest = absurd (false≢true n)
  angles_sound r (x ∷ xs) n m h d rest = (
    (
      wf refl refl,
      commas_sound r p.COMMA_TYPE_STAR_MORE p.COMMA_TYPE_STAR_END p.COMMA_TYPE (type_item (types x.0)) (map type_item (map types (map (λ (y : TypeWith P Q). y.0) xs)))
          (args_sound r (x ∷ xs) m h d) (w word.GREATER none) _ (wf refl refl, tt),
    ),
    tt,
  )

  type_layer : (l : layer.SigType-F (OwnerWith P Q) (TypeWith P Q)) (r : ℕ) →
      formed.type_step a (map-SigType Owner SigType Bool Bool owner_made made (type_values P Q l)) ≡ true →
      type_holds (map-SigType Owner SigType Bool Bool owner_held held (type_values P Q l)) ≡ true →
      depth_step (map-SigType Owner SigType ℕ ℕ owner_deep deep (type_values P Q l)) ≤ r →
      TypeSound r (type_step a.externs (map-SigType Owner SigType Item TypeShown owners types (type_values P Q l)))
  type_layer (layer.Prim x) r m h d = based_sound r (primitive x) (base_sound r x) (base_opens x)
  type_layer (layer.Class t) r m h d = named_sound r false t None m (λ rest. tt)
  type_layer (layer.Value t) r m h d = named_sound r true t None m (λ rest. tt)
  type_layer (layer.Inst v t args) zero m h d = absurd (omega arith)
  type_layer (layer.Inst v t args) (suc r) m h d =
      let ms = and_parts _ _ m in
      let ns = and_parts _ _ ms.0 in
      let less : largest (map deep (map (λ (x : TypeWith P Q). x.0) args)) ≤ r = omega arith in
      named_sound (suc r) v t (Some (type_args (map types (map (λ (x : TypeWith P Q). x.0) args)))) ns.0
      (λ rest. angles_sound r args ns.1 ms.1 (and_parts _ _ h).1 less rest)
  type_layer (layer.Var k) r m h d = based_sound r _ (variable_sound laws r k (small_variable k m)) (λ rest. refl)
  type_layer (layer.MVar k) r m h d = based_sound r _ (method_variable_sound laws r k (small_variable k m)) (λ rest. refl)
  type_layer (layer.SzArray t) zero m h d = absurd (omega arith)
  type_layer (layer.SzArray t) (suc r) m h d =
      suffix_sound (suc r) (types t.0) _ (t.1 (suc r) m h (omega arith)) (λ rest. (wf refl refl, ((wf refl refl, tt), tt)))
  type_layer (layer.Array t rank sizes lower) zero m h d = absurd (omega arith)
  type_layer (layer.Array t rank sizes lower) (suc r) m h d =
      let ms = and_parts _ _ m in
      let f = and_parts _ _ ms.0 in
      let g = and_parts _ _ f.0 in
      let bounds = all_bounds laws r rank sizes lower g.1 f.1 in
      suffix_sound (suc r) (types t.0) _ (t.1 (suc r) ms.1 h (omega arith))
      (brackets_sound r (shape (dimensions rank sizes lower)) (shape_sound laws r (dimensions rank sizes lower) bounds) (shape_begins laws r (dimensions rank sizes lower) bounds))
  type_layer (layer.ByRef t) r m h d = suffix_sound r (types t.0) _ (t.1 r m h (omega arith)) (λ rest. (wf refl refl, tt))
  type_layer (layer.Pointer t) r m h d = suffix_sound r (types t.0) _ (t.1 r m h (omega arith)) (λ rest. (wf refl refl, tt))
  type_layer (layer.Mod required o t) zero m h d = absurd (omega arith)
  type_layer (layer.Mod true o t) (suc r) m h d =
      let ms = and_parts _ _ m in
      let hs = and_parts _ _ h in
      let low : owner_deep o.0 ≤ r = omega arith in
      suffix_sound (suc r) (types t.0) _ (t.1 (suc r) ms.1 hs.1 (omega arith))
      (modifier_sound r p.TYPE_SUFFIX_MODREQ word.MODREQ (owners o.0) (λ ls. wf refl refl) refl (o.1 r ms.0 hs.0 low))
  type_layer (layer.Mod false o t) (suc r) m h d =
      let ms = and_parts _ _ m in
      let hs = and_parts _ _ h in
      let low : owner_deep o.0 ≤ r = omega arith in
      suffix_sound (suc r) (types t.0) _ (t.1 (suc r) ms.1 hs.1 (omega arith))
      (modifier_sound r p.TYPE_SUFFIX_MODOPT word.MODOPT (owners o.0) (λ ls. wf refl refl) refl (o.1 r ms.0 hs.0 low))
  type_layer (layer.Pinned t) r m h d = suffix_sound r (types t.0) _ (t.1 r m h (omega arith)) (λ rest. (wf refl refl, tt))

  owner_layer : (l : layer.Owner-F (OwnerWith P Q) (TypeWith P Q)) (r : ℕ) →
      formed.owner_step a (map-Owner Owner SigType Bool Bool owner_made made (owner_values P Q l)) ≡ true →
      owner_holds (map-Owner Owner SigType Bool Bool owner_held held (owner_values P Q l)) ≡ true →
      owner_depth_step (map-Owner Owner SigType ℕ ℕ owner_deep deep (owner_values P Q l)) ≤ r →
      OwnerSound r (owner_step a.externs (map-Owner Owner SigType Item TypeShown owners types (owner_values P Q l)))
  owner_layer (layer.Name t) r m h d =
      record { sound = λ rest. (type_name_sound r t m _, tt); opens = name_opens t.scope t.path h }
  owner_layer (layer.Spec t) r m h d =
      let s = t.1 r m h d in
      record {
        sound = λ rest. (of_sound r (types t.0) s _, tt);
        opens = λ rest c.
            subst (λ ls. opens ls ≡ true) (sym (append_assoc (leaves (of_shown (types t.0))) [] rest)) (of_opens r (types t.0) s rest);
      }

  type_made : (l : layer.SigType-F (OwnerWith P Q) (TypeWith P Q)) → Q (roll-SigType (type_values P Q l))
  type_made l r m h d =
      subst (TypeSound r) (sym (fold-roll-SigType Item TypeShown (owner_step a.externs) (type_step a.externs) (type_values P Q l)))
      (type_layer l r (sym (fold-roll-SigType Bool Bool (formed.owner_step a) (formed.type_step a) (type_values P Q l)) ∙ m)
      (sym (fold-roll-SigType Bool Bool owner_holds type_holds (type_values P Q l)) ∙ h)
      (subst (λ n. n ≤ r) (fold-roll-SigType ℕ ℕ owner_depth_step depth_step (type_values P Q l)) d))

  owner_built : (l : layer.Owner-F (OwnerWith P Q) (TypeWith P Q)) → P (roll-Owner (owner_values P Q l))
  owner_built l r m h d =
      subst (OwnerSound r) (sym (fold-roll-Owner Item TypeShown (owner_step a.externs) (type_step a.externs) (owner_values P Q l)))
      (owner_layer l r (sym (fold-roll-Owner Bool Bool (formed.owner_step a) (formed.type_step a) (owner_values P Q l)) ∙ m)
      (sym (fold-roll-Owner Bool Bool owner_holds type_holds (owner_values P Q l)) ∙ h)
      (subst (λ n. n ≤ r) (fold-roll-Owner ℕ ℕ owner_depth_step depth_step (owner_values P Q l)) d))

  pub type_all : (t : SigType) → Q t
  type_all = by_layers P Q owner_built type_made

  owner_all : (o : Owner) → P o
  owner_all = owner_by_layers P Q owner_built type_made

  -- ---- types and owners

  pub type_sound : (t : SigType) → formed.is_type a t ≡ true → is_type_held t ≡ true → TypeSound 100 (shown_type a.externs t)
  unfolding formed.is_type is_type_held shown_type
  type_sound t m h = let ms = and_parts _ _ m in type_all t 100 ms.1 h (leb-true _ 100 ms.0)

  pub owner_sound : (o : Owner) → formed.is_owner a o ≡ true → is_owner_held o ≡ true → OwnerSound 100 (owner a.externs o)
  unfolding formed.is_owner is_owner_held owner
  owner_sound o m h = let ms = and_parts _ _ m in owner_all o 100 ms.1 h (leb-true _ 100 ms.0)
