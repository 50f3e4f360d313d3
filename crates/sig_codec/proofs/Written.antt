-- What an encoder adds spells the value, each number in its shortest form.
use Rattle.std.proofs.Common.{drop_of_length-le, ◌≡◌, ℕ, zero, suc, ◌+◌, ◌^◌, ◌<◌, ◌≤◌, inl, inr, Bool, ℤ, List, [], ◌∷◌, ◌++◌, length, map, take, drop, Option, Some, Result, Ok, Err, refl, sym, ap, subst, ◌∙◌, append_assoc, arith}
use Rattle.std.specs.Prelude.{OnOk}
use Rattle.std.specs.List.{AllByRecursion}
use Rattle.std.proofs.lemmas.Grind.{common_steps}
use Rattle.std.proofs.lemmas.List.{append-nil}
use Rattle.il_base.specs.Numbers.{Packed, IsShortest}
use Rattle.type_terms.specs.declared.name.TypeName.{TypeName}
use Rattle.type_terms.specs.declared.term.Owner.{Owner, Name}
use Rattle.type_terms.specs.declared.term.Owner.TheOpen as layer
use Rattle.type_terms.specs.declared.term.SigType.{SigType, out-SigType}
use Rattle.type_terms.specs.declared.term.SigType.TheVariants as type
use Rattle.type_terms.specs.Depth.{depth, largest}
use Rattle.sig_codec.specs.Tokens.{token_of_coded, coded_of_token, IsTypeToken, IsDeclared}
use Rattle.sig_codec.specs.Spelling.{Layer, Notation, writing, prim_byte, kind_byte, modifier_byte, SpellsOwner, SpellsName, SpellsEachBy, SpellsCounted, SpellsShape, SpellsType, SpellsLayer, SpellsEach}
use Rattle.sig_codec.specs.Spelling as spelling
use Rattle.sig_codec.specs.Spellable.{HasToken, HasDeclaredToken, CanBePacked, IsShape, HasSpelling, HasParts, HaveSpellings, made, class, value, inst, var, mvar, sz_array, array, by_ref, pointer, modified, pinned, none, more}
use Rattle.sig_codec.specs.Writing.{Appends}

-- ---- what was added in parts

-- added behind what was added before
pub then_more : {T E : Type 0} (r : Result T E) (old mid new front : List ℕ) (P Q : List ℕ → Type 0) → mid ≡ old ++ front → ((a : List ℕ) → Q a → P (front ++ a))
    → OnOk r (Appends mid new Q) → OnOk r (Appends old new P)
then_more (Ok x) old mid new front P Q e f h = (front ++ h.0, h.1 ∙ ap (λ (m : List ℕ). m ++ h.0) e ∙ append_assoc old front h.0, f h.0 h.2)
then_more (Err x) old mid new front P Q e f h = tt

-- a known addition
pub then_bytes : {T E : Type 0} (r : Result T E) (old mid new front last : List ℕ) (P : List ℕ → Type 0) → mid ≡ old ++ front → P (front ++ last)
    → OnOk r (new ≡ mid ++ last) → OnOk r (Appends old new P)
then_bytes (Ok x) old mid new front last P e h is = (front ++ last, is ∙ ap (λ (m : List ℕ). m ++ last) e ∙ append_assoc old front last, h)
then_bytes (Err x) old mid new front last P e h is = tt

-- two additions are one
pub two_added : (old mid new a b : List ℕ) → mid ≡ old ++ a → new ≡ mid ++ b → new ≡ old ++ (a ++ b)
two_added old mid new a b e f = f ∙ ap (λ (m : List ℕ). m ++ b) e ∙ append_assoc old a b

-- from nothing
pub begun : (o0 o1 : List ℕ) (k : ℕ) → o0 ≡ [] → o1 ≡ o0 ++ (k ∷ []) → o1 ≡ k ∷ []
begun o0 o1 k e f = f ∙ ap (λ (x : List ℕ). x ++ (k ∷ [])) e

pub chain_1 : (o1 o2 : List ℕ) (k : ℕ) (a : List ℕ) → o1 ≡ k ∷ [] → o2 ≡ o1 ++ a → o2 ≡ k ∷ a
chain_1 o1 o2 k a e f = f ∙ ap (λ (x : List ℕ). x ++ a) e

pub chain_2 : (o1 o2 o3 : List ℕ) (k : ℕ) (a b : List ℕ) → o1 ≡ k ∷ [] → o2 ≡ o1 ++ a → o3 ≡ o2 ++ b → o3 ≡ k ∷ (a ++ b)
chain_2 o1 o2 o3 k a b e f g = chain_1 o1 o3 k (a ++ b) e (two_added o1 o2 o3 a b f g)

pub chain_3 : (o1 o2 o3 o4 : List ℕ) (k : ℕ) (a b c : List ℕ) → o1 ≡ k ∷ [] → o2 ≡ o1 ++ a → o3 ≡ o2 ++ b → o4 ≡ o3 ++ c → o4 ≡ k ∷ (a ++ (b ++ c))
chain_3 o1 o2 o3 o4 k a b c e f g h = chain_2 o1 o2 o4 k a (b ++ c) e f (two_added o2 o3 o4 b c g h)

pub chain_4 : (o1 o2 o3 o4 o5 : List ℕ) (k : ℕ) (a b c d : List ℕ) → o1 ≡ k ∷ [] → o2 ≡ o1 ++ a → o3 ≡ o2 ++ b → o4 ≡ o3 ++ c → o5 ≡ o4 ++ d → o5 ≡ k ∷ (a ++ (b ++ (c ++ d)))
chain_4 o1 o2 o3 o4 o5 k a b c d e f g h i = chain_3 o1 o2 o3 o5 k a b (c ++ d) e f g (two_added o3 o4 o5 c d h i)

-- four additions are one
pub four_added : (old m1 m2 m3 m4 : List ℕ) (k : ℕ) (a b : List ℕ) → m1 ≡ old ++ (0x15 ∷ []) → m2 ≡ m1 ++ (k ∷ []) → m3 ≡ m2 ++ a → m4 ≡ m3 ++ b → m4 ≡ old ++ (0x15 ∷ k ∷ (a ++ b))
four_added old m1 m2 m3 m4 k a b e1 e2 e3 e4 =
    two_added old m2 m4 (0x15 ∷ k ∷ []) (a ++ b) (two_added old m1 m2 (0x15 ∷ []) (k ∷ []) e1 e2) (two_added m2 m3 m4 a b e3 e4)

-- the parts of an array as they are lent
pub shape_of : (r : ℕ) (s s' : List ℕ) (l l' : List ℤ) → s' ≡ s → l' ≡ l → IsShape r s l → IsShape r s' l'
shape_of r s s' l l' e f h = subst (λ (x : List ℤ). IsShape r s' x) (sym f) (subst (λ (x : List ℕ). IsShape r x l) (sym e) h)

pub array_is : (of of' : SigType) (r : ℕ) (s s' : List ℕ) (l l' : List ℤ) → of' ≡ of → s' ≡ s → l' ≡ l → type.Array of r s l ≡ type.Array of' r s' l'
array_is of of' r s s' l l' e f h =
    ap (λ (x : SigType). type.Array x r s l) (sym e) ∙ ap (λ (x : List ℕ). type.Array of' r x l) (sym f) ∙ ap (λ (x : List ℤ). type.Array of' r s' x) (sym h)

-- no type of a list is deeper than the deepest
pub item_depth : (ts : List SigType) (i : ℕ) (t : SigType) (later : List SigType) → drop i ts ≡ t ∷ later → depth t ≤ largest (map depth ts)
item_depth [] zero t later e = absurd cc
item_depth [] (suc i) t later e = absurd cc
item_depth (x ∷ ts) zero t later e = (let is : x ≡ t = cc in omega (arith, ap depth is))
item_depth (x ∷ ts) (suc i) t later e = omega (arith, item_depth ts i t later e)

-- ---- tokens

pub coded_again : (token : ℕ) → IsTypeToken token → token_of_coded (coded_of_token token) ≡ Some token
coded_again token (inl e) = grind (arith, common_steps)
coded_again token (inr (inl e)) = grind (arith, common_steps)
coded_again token (inr (inr e)) = grind (arith, common_steps)

pub coded_is_small : (token : ℕ) → IsTypeToken token → coded_of_token token < 2 ^ 29
coded_is_small token (inl e) = grind (arith, common_steps)
coded_is_small token (inr (inl e)) = grind (arith, common_steps)
coded_is_small token (inr (inr e)) = grind (arith, common_steps)

pub some_token : (x y : ℕ) → Some x ≡ Some y → x ≡ y
some_token x y e = cc

module _ (tokens : Owner → Option ℕ) where
  abbrev w : Notation
  w = writing tokens

  -- the token that was found
  pub found_token : (o : Owner) (token : ℕ) → HasToken tokens o → tokens o ≡ Some token → IsTypeToken token
  found_token o token h e = subst IsTypeToken (some_token h.0 token (sym h.1 ∙ e)) h.2

  pub found_declared : (n : TypeName) (token : ℕ) → HasDeclaredToken tokens n → tokens (Name n) ≡ Some token → IsTypeToken token × IsDeclared token
  found_declared n token h e =
      let same = some_token h.0 token (sym h.1 ∙ e) in
      (subst IsTypeToken same h.2, subst IsDeclared same h.3)

  pub owner_written : (o : Owner) (token : ℕ) (bytes : List ℕ) → IsTypeToken token → tokens o ≡ Some token → Packed bytes (coded_of_token token) → IsShortest Packed bytes (coded_of_token token) → SpellsOwner w o bytes
  owner_written o token bytes is e p s = record { token = token; coded = coded_of_token token; number = (p, s); decoded = coded_again token is; named = e }

  pub name_written : (n : TypeName) (token : ℕ) (bytes : List ℕ) → IsTypeToken token → IsDeclared token → tokens (Name n) ≡ Some token → Packed bytes (coded_of_token token) → IsShortest Packed bytes (coded_of_token token) → SpellsName w n bytes
  unfolding owner_written
  name_written n token bytes is d e p s = record { owner = owner_written (Name n) token bytes is e p s; declared = d }

  -- ---- from the layer to the type

  pub written : (l : Layer) (t : SigType) (bytes : List ℕ) → out-SigType t ≡ l → SpellsLayer w l bytes → SpellsType w t bytes
  written l t bytes e h = spelling.made (subst (λ (m : Layer). SpellsLayer w m bytes) (sym e) h)

  -- ---- from the type to its parts

  parts : (t : SigType) → HasSpelling tokens t → HasParts tokens (out-SigType t)
  parts t (made h) = h

  pub parts_at : (t u : SigType) (l : Layer) → t ≡ u → out-SigType u ≡ l → HasSpelling tokens t → HasParts tokens l
  parts_at t u l e f h = subst (HasParts tokens) f (subst (λ (x : SigType). HasParts tokens (out-SigType x)) e (parts t h))

  pub of_class : (n : TypeName) → HasParts tokens (layer.Class n) → HasDeclaredToken tokens n
  of_class n (class h) = h

  pub of_value : (n : TypeName) → HasParts tokens (layer.Value n) → HasDeclaredToken tokens n
  of_value n (value h) = h

  pub of_var : (k : ℕ) → HasParts tokens (layer.Var k) → k < 2 ^ 16
  of_var k (var h) = h

  pub of_mvar : (k : ℕ) → HasParts tokens (layer.MVar k) → k < 2 ^ 16
  of_mvar k (mvar h) = h

  pub of_sz_array : (of : SigType) → HasParts tokens (layer.SzArray of) → HasSpelling tokens of
  of_sz_array of (sz_array h) = h

  pub of_by_ref : (of : SigType) → HasParts tokens (layer.ByRef of) → HasSpelling tokens of
  of_by_ref of (by_ref h) = h

  pub of_pointer : (of : SigType) → HasParts tokens (layer.Pointer of) → HasSpelling tokens of
  of_pointer of (pointer h) = h

  pub of_pinned : (of : SigType) → HasParts tokens (layer.Pinned of) → HasSpelling tokens of
  of_pinned of (pinned h) = h

  pub of_array : (of : SigType) (r : ℕ) (s : List ℕ) (l : List ℤ) → HasParts tokens (layer.Array of r s l) → HasSpelling tokens of × IsShape r s l
  of_array of r s l (array h k) = (h, k)

  pub of_modified : (r : Bool) (by : Owner) (of : SigType) → HasParts tokens (layer.Mod r by of) → HasToken tokens by × HasSpelling tokens of
  of_modified r by of (modified h k) = (h, k)

  pub of_inst : (v : Bool) (n : TypeName) (args : List SigType) → HasParts tokens (layer.Inst v n args) → HasToken tokens (Name n) × (0 < length args) × CanBePacked (length args) × HaveSpellings tokens args
  of_inst v n args (inst h s c k) = (h, s, c, k)

  pub first_of_each : (t : SigType) (ts : List SigType) → HaveSpellings tokens (t ∷ ts) → HasSpelling tokens t × HaveSpellings tokens ts
  first_of_each t ts (more h k) = (h, k)

  pub each_is_nil : (bytes : List ℕ) → SpellsEach w [] bytes → bytes ≡ []
  each_is_nil bytes spelling.none = refl

  -- the type at a place, and those behind it
  pub type_at_place : (ts : List SigType) (i : ℕ) (t : SigType) → drop i ts ≡ t ∷ drop (i + 1) ts → HaveSpellings tokens (drop i ts) → HasSpelling tokens t × HaveSpellings tokens (drop (i + 1) ts)
  type_at_place ts i t e h = first_of_each t (drop (i + 1) ts) (subst (λ (x : List SigType). HaveSpellings tokens x) e h)

  -- one more type was added
  pub each_at_place : (ts : List SigType) (i : ℕ) (t : SigType) (first mid new : List ℕ) → drop i ts ≡ t ∷ drop (i + 1) ts → Appends mid new (SpellsType w t)
      → ((b : List ℕ) → SpellsEach w (drop i ts) b → (a : List ℕ) × (first ++ a ≡ mid ++ b) × SpellsEach w ts a)
      → (b : List ℕ) → SpellsEach w (drop (i + 1) ts) b → (a : List ℕ) × (first ++ a ≡ new ++ b) × SpellsEach w ts a
  each_at_place ts i t first mid new e h so_far b k =
      let r = so_far (h.0 ++ b) (subst (λ (x : List SigType). SpellsEach w x (h.0 ++ b)) (sym e) (spelling.more refl h.2 k)) in
      (r.0, r.1 ∙ sym (append_assoc mid h.0 b) ∙ ap (λ (x : List ℕ). x ++ b) (sym h.1), r.2)

  pub inst_written : (v : Bool) (n : TypeName) (args : List SigType) (k : ℕ) (a b c : List ℕ) (count : ℕ) → k ≡ kind_byte v → SpellsOwner w (Name n) a → count ≡ length args
      → w.number b count → 0 < length args → SpellsEach w args c → SpellsType w (type.Inst v n args) ((0x15 ∷ k ∷ (a ++ b)) ++ c)
  inst_written v n args k a b c count e o counted number some each =
      let whole : (0x15 ∷ k ∷ (a ++ b)) ++ c ≡ 0x15 ∷ kind_byte v ∷ (a ++ (b ++ c)) =
      ap (λ (x : List ℕ). 0x15 ∷ k ∷ x) (append_assoc a b c) ∙ ap (λ (x : ℕ). 0x15 ∷ x ∷ (a ++ (b ++ c))) e in
      written (layer.Inst v n args) (type.Inst v n args) ((0x15 ∷ k ∷ (a ++ b)) ++ c) (type.outs-Inst v n args) (spelling.inst whole o (subst (λ (x : ℕ). w.number b x) counted number) some each)

  -- all types were added
  pub each_done : (ts : List SigType) (i : ℕ) (first now : List ℕ) → length ts ≤ i
      → ((b : List ℕ) → SpellsEach w (drop i ts) b → (a : List ℕ) × (first ++ a ≡ now ++ b) × SpellsEach w ts a) → Appends first now (SpellsEach w ts)
  each_done ts i first now le so_far =
      let none_left : drop i ts ≡ [] = drop_of_length-le ts {i = i} le in
      let r = so_far [] (subst (λ (x : List SigType). SpellsEach w x []) (sym none_left) spelling.none) in
      (r.0, sym (append-nil now) ∙ sym r.1, r.2)

  -- fewer types
  pub take_spellings : (k : ℕ) (ts : List SigType) → HaveSpellings tokens ts → HaveSpellings tokens (take k ts)
  take_spellings zero ts h = none
  take_spellings (suc k) [] h = none
  take_spellings (suc k) (t ∷ ts) h = let f = first_of_each t ts h in more f.0 (take_spellings k ts f.1)

  pub drop_spellings : (k : ℕ) (ts : List SigType) → HaveSpellings tokens ts → HaveSpellings tokens (drop k ts)
  drop_spellings zero ts h = h
  drop_spellings (suc k) [] h = none
  drop_spellings (suc k) (t ∷ ts) h = drop_spellings k ts (first_of_each t ts h).1

  -- the shape of an array, in the pieces that were added
  pub shape_written : (rank : ℕ) (sizes : List ℕ) (lower : List ℤ) (r s ss l ls : List ℕ) → IsShape rank sizes lower → w.number r rank → w.number s (length sizes) → SpellsEachBy w.number sizes ss
      → w.number l (length lower) → SpellsEachBy w.signed lower ls → SpellsShape w rank sizes lower ((r ++ (s ++ (ss ++ l))) ++ ls)
  shape_written rank sizes lower r s ss l ls is hr hs hss hl hls = record {
    a = r;
    b = s ++ ss;
    c = l ++ ls;
    whole = simp append_assoc;
    ranked = hr;
    some = is.some;
    sized = record { count = s; each = ss; whole = refl; counted = hs; spelled_each = hss };
    few_sizes = is.few_sizes;
    bounded = record { count = l; each = ls; whole = refl; counted = hl; spelled_each = hls };
    few_bounds = is.few_bounds;
  }

-- ---- numbers, one after the other

module _ {X : Type 0} (Spells : List ℕ → X → Type 0) (P : X → Type 0) where
  -- one more was added
  pub number_at_place : (xs : List X) (i : ℕ) (x : X) (first mid new last : List ℕ) → drop i xs ≡ x ∷ drop (i + 1) xs → new ≡ mid ++ last → Spells last x
      → ((b : List ℕ) → SpellsEachBy Spells (drop i xs) b → (a : List ℕ) × (first ++ a ≡ mid ++ b) × SpellsEachBy Spells xs a)
      → (b : List ℕ) → SpellsEachBy Spells (drop (i + 1) xs) b → (a : List ℕ) × (first ++ a ≡ new ++ b) × SpellsEachBy Spells xs a
  number_at_place xs i x first mid new last e n h so_far b k =
      let r = so_far (last ++ b) (subst (λ (y : List X). SpellsEachBy Spells y (last ++ b)) (sym e) (last, b, refl, h, k)) in
      (r.0, r.1 ∙ sym (append_assoc mid last b) ∙ ap (λ (y : List ℕ). y ++ b) (sym n), r.2)

  pub all_at_place : (xs : List X) (i : ℕ) (x : X) → drop i xs ≡ x ∷ drop (i + 1) xs → AllByRecursion P (drop i xs) → P x × AllByRecursion P (drop (i + 1) xs)
  all_at_place xs i x e h = subst (λ (y : List X). AllByRecursion P y) e h

  -- all numbers were added
  pub numbers_done : (xs : List X) (i : ℕ) (first now : List ℕ) → length xs ≤ i
      → ((b : List ℕ) → SpellsEachBy Spells (drop i xs) b → (a : List ℕ) × (first ++ a ≡ now ++ b) × SpellsEachBy Spells xs a) → Appends first now (SpellsEachBy Spells xs)
  numbers_done xs i first now le so_far =
      let none_left : drop i xs ≡ [] = drop_of_length-le xs {i = i} le in
      let r = so_far [] (subst (λ (y : List X). SpellsEachBy Spells y []) (sym none_left) refl) in
      (r.0, sym (append-nil now) ∙ sym r.1, r.2)
