-- Rows of declared members, some after others.
use Rattle.std.proofs.Common.{◌≡◌, ap, refl, sym, ◌∙◌, subst, ℕ, suc, ◌+◌, ◌-◌, ◌<◌, ◌≤◌, ◌^◌, List, [], ◌∷◌, ◌++◌, map, length, arith}
use Rattle.std.specs.Prelude.{sum_by}
use Rattle.std.specs.List.{AllByRecursion, AllZip}
use Rattle.std.proofs.lemmas.List.{append-nil, append_assoc, length-append}
use Rattle.std.proofs.lemmas.List.Sums.{sum_by-cons, sum_by-append}
use Rattle.assembly_tree.specs.Weight.{type_weight, signature_weight}
use Rattle.assembly_tree.specs.declared.assembly.Assembly.{Assembly}
use Rattle.assembly_tree.specs.declared.members.Field.{Field}
use Rattle.assembly_tree.specs.declared.members.Method.{Method}
use Rattle.sig_codec.specs.Spelling.{Notation}
use Rattle.sig_codec.specs.Signature.{SpellsField, SpellsMethod}
use Rattle.image_members.specs.DeclaredMembers.{owned, IsOwnRow, IsFieldOf, IsMethodOf, DeclaresMembers, field_bytes, method_bytes, IsFieldDeclarable, IsMethodDeclarable, DeclaresFields, DeclaresMethods, class_fields, class_methods, with_members, HasMembers, AreDeclarable}
use Rattle.image_tokens.specs.Members.{Leaves, IsTextAt}
use Rattle.image_tokens.specs.Noted.{IsSigned}
use Rattle.image_tokens.specs.References.{size, Grows, Widens, AreKnown}
use Rattle.image_members.specs.declared.classes.Class.{Class}
use Rattle.image_tokens.specs.declared.references.Declared.{Declared}
use Rattle.image_tokens.specs.declared.references.References.{References}
use Rattle.image_tokens.specs.declared.row_set.Cells.{Cells}
use Rattle.image_tokens.proofs.BodyLemmas.{signature_can}
use Rattle.image_tokens.proofs.GrowthLemmas.{grows_refl, grows_trans, widened, widens_trans}
use Rattle.image_tokens.proofs.NameLemmas.{all_weaker}
use Rattle.image_tokens.proofs.PathLemmas.{text_kept}
use Rattle.image_tokens.proofs.WidenedLemmas.{wide_signature, same_rows, wide_known}
use Rattle.image_tokens.proofs.WritableLemmas.{still_writable}
use Rattle.image_members.proofs.ZipLemmas.{zip_both, zip_long, zip_later}

-- members weigh the same whatever the row of their type
pub sum_owned : {X : Type 0} (weigh : X → ℕ) (row : ℕ) (xs : List X) → sum_by (λ (m : ℕ × X). weigh m.1) (map (λ (x : X). (row, x)) xs) ≡ sum_by weigh xs
sum_owned weigh row [] = refl
sum_owned {X} weigh row (x ∷ xs) =
    let rest = sum_owned weigh row xs in
    let all = sum_by-cons (λ (m : ℕ × X). weigh m.1) (row, x) (map (λ (y : X). (row, y)) xs) in
    let other = sum_by-cons weigh x xs in
    omega arith

-- those of all types together
owned_sum : {X : Type 0} (weigh : X → ℕ) (of : Class → List X) (row : ℕ) (cs : List Class) → sum_by (λ (m : ℕ × X). weigh m.1) (owned row (map of cs)) ≡ sum_by (λ c. sum_by weigh (of c)) cs
owned_sum weigh of row [] = refl
owned_sum {X} weigh of row (c ∷ cs) =
    let rest = owned_sum weigh of (row + 1) cs in
    let its = sum_owned weigh row (of c) in
    let both = sum_by-append (λ (m : ℕ × X). weigh m.1) (map (λ (x : X). (row, x)) (of c)) (owned (row + 1) (map of cs)) in
    let all = sum_by-cons (λ (d : Class). sum_by weigh (of d)) c cs in
    omega arith

pub sum_all : {X : Type 0} (weigh : X → ℕ) (of : Class → List X) (xs : List X) (cs : List Class)
    → sum_by (λ (m : ℕ × X). weigh m.1) (owned 1 (xs ∷ map of cs)) ≡ sum_by weigh xs + sum_by (λ c. sum_by weigh (of c)) cs
sum_all {X} weigh of xs cs =
    let rest = owned_sum weigh of 2 cs in
    let its = sum_owned weigh 1 xs in
    let both = sum_by-append (λ (m : ℕ × X). weigh m.1) (map (λ (x : X). (1, x)) xs) (owned 2 (map of cs)) in
    omega arith

owned_long : {X : Type 0} (row : ℕ) (xs : List X) → length (map {B = ℕ × X} (λ x. (row, x)) xs) ≡ length xs
owned_long row [] = refl
owned_long row (x ∷ xs) = ap suc (owned_long row xs)

module _ {X : Type 0} (IsRow : References → Cells → ℕ × X → Type 0) (weigh : X → ℕ)
    (kept : (a b : References) → Grows a b → (cells : Cells) (m : ℕ × X) → IsRow a cells m → IsRow b cells m) where
  abbrev Adds : List (ℕ × X) → References → References → List Cells → List Cells → Type 0
  Adds = DeclaresMembers IsRow weigh

  abbrev owned_by : ℕ → List X → List (ℕ × X)
  owned_by row xs = map (λ x. (row, x)) xs

  pub members_none : (a : References) (r : List Cells) → AreKnown a → Adds [] a a r r
  members_none a r known = record { grows = grows_refl a; known = known; room = omega arith; rows = []; are = sym (append-nil r); each = tt }

  pub members_both : (xs ys : List (ℕ × X)) (a b c : References) (r0 r1 r2 : List Cells) → Adds xs a b r0 r1 → Adds ys b c r1 r2 → Adds (xs ++ ys) a c r0 r2
  members_both xs ys a b c r0 r1 r2 p q = record {
    grows = grows_trans a b c p.grows q.grows;
    known = q.known;
    room = (let first = p.room in let then = q.room in let both = sum_by-append (λ (m : ℕ × X). weigh m.1) xs ys in omega arith);
    rows = p.rows ++ q.rows;
    are = q.are ∙ ap (λ r. r ++ q.rows) p.are ∙ append_assoc r0 p.rows q.rows;
    each = zip_both (IsRow c) p.rows q.rows xs ys (zip_later (IsRow b) (IsRow c) p.rows xs (λ cells m h. kept b c q.grows cells m h) p.each) q.each;
  }

  -- how many rows came
  pub members_count : (xs : List (ℕ × X)) (a b : References) (r0 r1 : List Cells) → Adds xs a b r0 r1 → length r1 ≡ length r0 + length xs
  members_count xs a b r0 r1 p =
      let long = ap (length {A = Cells}) p.are ∙ length-append r0 p.rows in
      let each = zip_long (IsRow b) p.rows xs p.each in
      omega arith

  -- as many as there are members of a type
  pub owned_count : (row : ℕ) (xs : List X) (a b : References) (r0 r1 : List Cells) → Adds (owned_by row xs) a b r0 r1 → length r1 ≡ length r0 + length xs
  owned_count row xs a b r0 r1 p = members_count (owned_by row xs) a b r0 r1 p ∙ ap (λ n. length r0 + n) (owned_long row xs)

  module _ (Can : References → X → Type 0) (can_kept : (a b : References) → Grows a b → (x : X) → Can a x → Can b x) where
    -- the members of a type before `rest` are declared
    pub record OwnedTo (row : ℕ) (a b : References) (r0 r1 : List Cells) (xs rest : List X) : Type 0 where
      pub on : (c : References) (r2 : List Cells) → Adds (owned_by row rest) b c r1 r2 → Adds (owned_by row xs) a c r0 r2
      pub known : AreKnown b
      pub can : AllByRecursion (Can b) rest
      pub few : length r1 + length rest < 2 ^ 24
      pub room : size b + sum_by weigh rest ≤ 2 ^ 26

    pub owned_begin : (row : ℕ) (a : References) (r0 : List Cells) (xs : List X) → AreKnown a → AllByRecursion (Can a) xs → length r0 + length xs < 2 ^ 24
        → size a + sum_by weigh xs ≤ 2 ^ 26 → OwnedTo row a a r0 r0 xs xs
    owned_begin row a r0 xs known can few room = record { on = λ c r2 h. h; known = known; can = can; few = few; room = room }

    pub owned_can : (row : ℕ) (a b : References) (r0 r1 : List Cells) (xs rest more : List X) (x : X) → rest ≡ x ∷ more → OwnedTo row a b r0 r1 xs rest → Can b x
    owned_can row a b r0 r1 xs rest more x e d = (subst (λ ys. AllByRecursion (Can b) ys) e d.can).0

    pub owned_few : (row : ℕ) (a b : References) (r0 r1 : List Cells) (xs rest more : List X) (x : X) → rest ≡ x ∷ more → OwnedTo row a b r0 r1 xs rest → length r1 < 2 ^ 24 - 1
    owned_few row a b r0 r1 xs rest more x e d = let few = d.few in let long = ap (length {A = X}) e in omega arith

    pub owned_room : (row : ℕ) (a b : References) (r0 r1 : List Cells) (xs rest more : List X) (x : X) → rest ≡ x ∷ more → OwnedTo row a b r0 r1 xs rest → size b + weigh x ≤ 2 ^ 26
    owned_room row a b r0 r1 xs rest more x e d =
        let room = d.room in
        let heavy = ap (sum_by weigh) e ∙ sum_by-cons weigh x more in
        omega arith

    pub owned_on : (row : ℕ) (a b c : References) (r0 r1 r2 : List Cells) (xs rest more : List X) (x : X) → rest ≡ x ∷ more → OwnedTo row a b r0 r1 xs rest → Adds ((row, x) ∷ []) b c r1 r2 → OwnedTo row a c r0 r2 xs more
    owned_on row a b c r0 r1 r2 xs rest more x e d one =
        let heavy = ap (sum_by weigh) e ∙ sum_by-cons weigh x more in
        let single = sum_owned weigh row (x ∷ []) in
        let alone = sum_by-cons weigh x [] in
        let long = ap (length {A = X}) e in
        let count = members_count ((row, x) ∷ []) b c r1 r2 one in
        record {
          on = λ later r3 h. d.on later r3 (subst (λ ys. Adds (owned_by row ys) b later r1 r3) (sym e) (members_both ((row, x) ∷ []) (owned_by row more) b c later r1 r2 r3 one h));
          known = one.known;
          can = all_weaker (Can b) (Can c) more (λ y h. can_kept b c one.grows y h) (subst (λ ys. AllByRecursion (Can b) ys) e d.can).1;
          few = (let few = d.few in omega arith);
          room = (let room = d.room in let step = one.room in omega arith);
        }

    pub owned_end : (row : ℕ) (a b : References) (r0 r1 : List Cells) (xs rest : List X) → rest ≡ [] → OwnedTo row a b r0 r1 xs rest → Adds (owned_by row xs) a b r0 r1
    owned_end row a b r0 r1 xs rest e d = d.on b r1 (subst (λ ys. Adds (owned_by row ys) b b r1 r1) (sym e) (members_none b r1 d.known))

    module _ (of : Class → List X) where
      abbrev Each : References → List Class → Type 0
      Each r cs = AllByRecursion (λ c. AllByRecursion (Can r) (of c)) cs

      abbrev count_in : Class → ℕ
      count_in c = length (of c)

      abbrev weight_in : Class → ℕ
      weight_in c = sum_by weigh (of c)

      -- the members of the types before `rest` are declared, and the next type has this row
      pub record ClassesTo (row : ℕ) (a b : References) (r0 r1 : List Cells) (cs rest : List Class) : Type 0 where
        pub on : (c : References) (r2 : List Cells) → Adds (owned row (map of rest)) b c r1 r2 → Adds (owned 2 (map of cs)) a c r0 r2
        pub known : AreKnown b
        pub can : Each b rest
        pub few : length r1 + sum_by count_in rest < 2 ^ 24
        pub room : size b + sum_by weight_in rest ≤ 2 ^ 26
        pub next : row + length rest < 2 ^ 24

      pub classes_begin : (a : References) (r0 : List Cells) (cs : List Class) → AreKnown a → Each a cs → length r0 + sum_by count_in cs < 2 ^ 24
          → size a + sum_by weight_in cs ≤ 2 ^ 26 → length cs < 2 ^ 24 - 2 → ClassesTo 2 a a r0 r0 cs cs
      classes_begin a r0 cs known can few room count = record { on = λ c r2 h. h; known = known; can = can; few = few; room = room; next = omega arith }

      pub classes_can : (row : ℕ) (a b : References) (r0 r1 : List Cells) (cs rest more : List Class) (c : Class) → rest ≡ c ∷ more → ClassesTo row a b r0 r1 cs rest → AllByRecursion (Can b) (of c)
      classes_can row a b r0 r1 cs rest more c e d = (subst (λ ys. Each b ys) e d.can).0

      pub classes_few : (row : ℕ) (a b : References) (r0 r1 : List Cells) (cs rest more : List Class) (c : Class) → rest ≡ c ∷ more → ClassesTo row a b r0 r1 cs rest
          → length r1 + length (of c) < 2 ^ 24
      classes_few row a b r0 r1 cs rest more c e d =
          let few = d.few in
          let all = ap (sum_by count_in) e ∙ sum_by-cons count_in c more in
          omega arith

      pub classes_room : (row : ℕ) (a b : References) (r0 r1 : List Cells) (cs rest more : List Class) (c : Class) → rest ≡ c ∷ more → ClassesTo row a b r0 r1 cs rest
          → size b + sum_by weigh (of c) ≤ 2 ^ 26
      classes_room row a b r0 r1 cs rest more c e d =
          let room = d.room in
          let all = ap (sum_by weight_in) e ∙ sum_by-cons weight_in c more in
          omega arith

      pub classes_next : (row : ℕ) (a b : References) (r0 r1 : List Cells) (cs rest : List Class) → ClassesTo row a b r0 r1 cs rest → row < 2 ^ 24
      classes_next row a b r0 r1 cs rest d = let next = d.next in omega arith

      pub classes_on : (row : ℕ) (a b d : References) (r0 r1 r2 : List Cells) (cs rest more : List Class) (c : Class) → rest ≡ c ∷ more → ClassesTo row a b r0 r1 cs rest
          → Adds (owned_by row (of c)) b d r1 r2 → ClassesTo (row + 1) a d r0 r2 cs more
      classes_on row a b d r0 r1 r2 cs rest more c e done one =
          let heavy = ap (sum_by weight_in) e ∙ sum_by-cons weight_in c more in
          let counts = ap (sum_by count_in) e ∙ sum_by-cons count_in c more in
          let its = sum_owned weigh row (of c) in
          let long = ap (length {A = Class}) e in
          let count = owned_count row (of c) b d r1 r2 one in
          record {
            on = λ later r3 h. done.on later r3 (subst (λ ys. Adds (owned row (map of ys)) b later r1 r3) (sym e) (members_both (owned_by row (of c)) (owned (row + 1) (map of more)) b d later r1 r2 r3 one h));
            known = one.known;
            can = all_weaker (λ y. AllByRecursion (Can b) (of y)) (λ y. AllByRecursion (Can d) (of y)) more
                (λ y h. all_weaker (Can b) (Can d) (of y) (λ x k. can_kept b d one.grows x k) h) (subst (λ ys. Each b ys) e done.can).1;
            few = (let few = done.few in omega arith);
            room = (let room = done.room in let step = one.room in omega arith);
            next = (let next = done.next in omega arith);
          }

      pub classes_end : (row : ℕ) (a b : References) (r0 r1 : List Cells) (cs rest : List Class) → rest ≡ [] → ClassesTo row a b r0 r1 cs rest → Adds (owned 2 (map of cs)) a b r0 r1
      classes_end row a b r0 r1 cs rest e d = d.on b r1 (subst (λ ys. Adds (owned row (map of ys)) b b r1 r1) (sym e) (members_none b r1 d.known))

-- ---- one row

module _ {X Y : Type 0} (Spells : Notation → Y → List ℕ → Type 0) (name : X → List ℕ) (sig : X → Y) where
  pub wide_row : (a b : References) → Widens a b → (cells : Cells) (m : ℕ × X) → IsOwnRow Spells name sig a cells m → IsOwnRow Spells name sig b cells m
  wide_row a b g cells m h = record {
    type_is = h.type_is;
    name_is = text_kept a.heaps.strings b.heaps.strings (name m.1) cells.second g.strings h.name_is;
    signature = wide_signature Spells a b (sig m.1) cells.third g h.signature;
  }

  pub own_row_kept : (a b : References) → Grows a b → (cells : Cells) (m : ℕ × X) → IsOwnRow Spells name sig a cells m → IsOwnRow Spells name sig b cells m
  own_row_kept a b g = wide_row a b (widened a b g)

  pub own_row_added : (weigh : X → ℕ) (a b c : References) (row index blob n : ℕ) (x : X) (r0 r1 : List Cells) → Leaves (IsTextAt (name x)) a b (length (name x) + 1) index
      → IsSigned Spells b c (sig x) n blob → weigh x ≡ length (name x) + 1 + n → r1 ≡ r0 ++ record { first = row; second = index; third = blob } ∷ []
      → DeclaresMembers (IsOwnRow Spells name sig) weigh ((row, x) ∷ []) a c r0 r1
  own_row_added weigh a b c row index blob n x r0 r1 t s w e =
      let one = sum_by-cons (λ (m : ℕ × X). weigh m.1) (row, x) [] in
      record {
        grows = grows_trans a b c t.grows s.grows;
        known = s.known;
        room = (let first = t.room in let then = s.room in omega arith);
        rows = record { first = row; second = index; third = blob } ∷ [];
        are = e;
        each = (record { type_is = refl; name_is = text_kept b.heaps.strings c.heaps.strings (name x) index s.grows.strings t.is; signature = s.signature }, tt);
      }

-- what can be declared can be later on
pub all_still : {X : Type 0} (Can : References → X → Type 0) → ((a b : References) → Grows a b → (x : X) → Can a x → Can b x) → (a b : References) → Grows a b
    → (xs : List X) → AllByRecursion (Can a) xs → AllByRecursion (Can b) xs
all_still Can still a b g xs all = all_weaker (Can a) (Can b) xs (λ x k. still a b g x k) all

pub each_still : {X : Type 0} (Can : References → X → Type 0) → ((a b : References) → Grows a b → (x : X) → Can a x → Can b x) → (of : Class → List X) (a b : References) → Grows a b
    → (cs : List Class) → AllByRecursion (λ c. AllByRecursion (Can a) (of c)) cs → AllByRecursion (λ c. AllByRecursion (Can b) (of c)) cs
each_still Can still of a b g cs all =
    all_weaker (λ c. AllByRecursion (Can a) (of c)) (λ c. AllByRecursion (Can b) (of c)) cs (λ c h. all_weaker (Can a) (Can b) (of c) (λ x k. still a b g x k) h) all

-- ---- fields and methods

pub field_kept : (a b : References) → Grows a b → (cells : Cells) (m : ℕ × Field) → IsFieldOf a cells m → IsFieldOf b cells m
field_kept = own_row_kept SpellsField (λ (f : Field). f.name) (λ (f : Field). f.of)

pub method_kept : (a b : References) → Grows a b → (cells : Cells) (m : ℕ × Method) → IsMethodOf a cells m → IsMethodOf b cells m
method_kept = own_row_kept SpellsMethod (λ (m : Method). m.name) (λ (m : Method). m.sig)

pub wide_field : (a b : References) → Widens a b → (cells : Cells) (m : ℕ × Field) → IsFieldOf a cells m → IsFieldOf b cells m
wide_field = wide_row SpellsField (λ (f : Field). f.name) (λ (f : Field). f.of)

pub wide_method_row : (a b : References) → Widens a b → (cells : Cells) (m : ℕ × Method) → IsMethodOf a cells m → IsMethodOf b cells m
wide_method_row = wide_row SpellsMethod (λ (m : Method). m.name) (λ (m : Method). m.sig)

pub field_still : (a b : References) → Grows a b → (f : Field) → IsFieldDeclarable a f → IsFieldDeclarable b f
field_still a b g f h = record { name = h.name; of = still_writable a b g f.of h.of }

pub method_still : (a b : References) → Grows a b → (m : Method) → IsMethodDeclarable a m → IsMethodDeclarable b m
method_still a b g m h = record { name = h.name; sig = signature_can a b g m.sig h.sig }

pub field_bytes_are : (f : Field) → field_bytes f ≡ length f.name + 1 + type_weight f.of
unfolding field_bytes
field_bytes_are f = refl

pub method_bytes_are : (m : Method) → method_bytes m ≡ length m.name + 1 + (signature_weight m.sig + 8)
unfolding method_bytes
method_bytes_are m = refl

-- ---- all of them

-- rows are put in where there were none
pub put_in : (r : References) (fields methods : List Cells) → r.declared.fields ≡ [] → r.declared.methods ≡ [] → Widens r (with_members r fields methods)
put_in r fields methods no_fields no_methods = let g = grows_refl r in record {
  strings = g.strings;
  blobs = g.blobs;
  user = g.user;
  types = refl;
  externs = refl;
  fields = record { more = fields; is = ap (λ rows. rows ++ fields) (sym no_fields) };
  methods = record { more = methods; is = ap (λ rows. rows ++ methods) (sym no_methods) };
  names = g.names;
  specs = g.specs;
  members = g.members;
  instances = g.instances;
  locals = g.locals;
  known_names = g.known_names;
  known_specs = g.known_specs;
  known_methods = g.known_methods;
  known_fields = g.known_fields;
  known_locals = g.known_locals;
  known_texts = g.known_texts;
}

same_size : (r : References) (fields methods : List Cells) → size (with_members r fields methods) ≡ size r
unfolding size
same_size r fields methods = refl

pub has_members : (x : Assembly) (classes : List Class) (a b c d : References) (fields methods : List Cells) → AreDeclarable a x classes
    → DeclaresFields (owned 1 (x.fields ∷ map class_fields classes)) a b [] fields → DeclaresMethods (owned 1 (x.methods ∷ map class_methods classes)) b c [] methods
    → d ≡ with_members c fields methods → HasMembers x classes a d
has_members x classes a b c d fields methods can p q e =
    let grows = grows_trans a b c p.grows q.grows in
    let same = grows.declared in
    let put = put_in c fields methods (ap (λ (s : Declared). s.fields) same ∙ can.no_fields) (ap (λ (s : Declared). s.methods) same ∙ can.no_methods) in
    let end = with_members c fields methods in
    let first = p.room in
    let then = q.room in
    let unchanged = same_size c fields methods in
    let own = sum_all field_bytes class_fields x.fields classes in
    let also = sum_all method_bytes class_methods x.methods classes in
    subst (HasMembers x classes a) (sym e) (record {
      widens = widens_trans a c end (widened a c grows) put;
      known = wide_known c end put q.known refl (same_rows c end put q.known.rows refl);
      room = omega arith;
      fields = subst (λ rows. AllZip (IsFieldOf end) rows (owned 1 (x.fields ∷ map class_fields classes))) (sym p.are)
          (zip_later (IsFieldOf b) (IsFieldOf end) p.rows (owned 1 (x.fields ∷ map class_fields classes)) (λ cells m h. wide_field c end put cells m (field_kept b c q.grows cells m h)) p.each);
      methods = subst (λ rows. AllZip (IsMethodOf end) rows (owned 1 (x.methods ∷ map class_methods classes))) (sym q.are)
          (zip_later (IsMethodOf c) (IsMethodOf end) q.rows (owned 1 (x.methods ∷ map class_methods classes)) (λ cells m h. wide_method_row c end put cells m h) q.each);
    })
