-- Steps that give a number to something, one after another; a text more, rows more, and tokens that have been given.
use Rattle.std.proofs.Common.{◌≡◌, ◌⊎◌, ap, refl, sym, ◌∙◌, subst, ℕ, ◌+◌, ◌^◌, ◌<◌, ◌≤◌, ◌-◌, List, [], ◌∷◌, ◌++◌, length, Result, Ok, Err, inl, inr, arith}
use Rattle.std.specs.Prelude.{IfOk}
use Rattle.std.specs.List.{AllByRecursion}
use Rattle.std.proofs.lemmas.List.{append-nil}
use Rattle.assembly_tree.specs.Weight.{owner_weight}
use Rattle.heaps.specs.Heap.{Heap}
use Rattle.type_terms.specs.declared.term.Owner.{Owner}
use Rattle.image_tokens.specs.Members.{Leaves, IsTextAt, IsPlaced}
use Rattle.image_tokens.specs.NameTokens.{Learns}
use Rattle.image_tokens.specs.Noted.{IsOwned}
use Rattle.image_tokens.specs.References.{size, Grows, AreKnown}
use Rattle.image_tokens.specs.Texts.{HoldsText, KeepsTexts}
use Rattle.image_tokens.specs.declared.references.References.{References}
use Rattle.image_tokens.specs.declared.row_set.Cells.{Cells}
use Rattle.image_tokens.proofs.GrowthLemmas.{grows_refl, grows_trans, still_known, learns_one, all_and, tokens_kept}

-- ---- parts of the size

-- more texts
pub strings_grown : (a b : References) (n : ℕ) → length b.heaps.strings.bytes ≤ length a.heaps.strings.bytes + n → b.heaps.blobs ≡ a.heaps.blobs
    → b.heaps.user ≡ a.heaps.user → b.referred ≡ a.referred → size b ≤ size a + n
unfolding size
strings_grown a b n s p q e =
    omega (
      arith,
      ap (λ h. length h.bytes) p,
      ap (λ h. length h.bytes) q,
      ap (λ r. length r.names) e,
      ap (λ r. length r.specs) e,
      ap (λ r. length r.members) e,
      ap (λ r. length r.instances) e,
      ap (λ r. length r.locals) e,
    )

-- a row of MemberRef
pub members_grown : (a b : References) → length b.referred.members ≤ length a.referred.members + 1 → b.heaps ≡ a.heaps → b.referred.names ≡ a.referred.names
    → b.referred.specs ≡ a.referred.specs → b.referred.instances ≡ a.referred.instances → b.referred.locals ≡ a.referred.locals → size b ≤ size a + 12
unfolding size
members_grown a b s h c d e f =
    omega (
      arith,
      ap (λ x. length x.strings.bytes) h,
      ap (λ x. length x.blobs.bytes) h,
      ap (λ x. length x.user.bytes) h,
      ap (length {A = Cells}) c,
      ap (length {A = Cells}) d,
      ap (length {A = Cells}) e,
      ap (length {A = Cells}) f,
    )

-- a row of MethodSpec
pub instances_grown : (a b : References) → length b.referred.instances ≤ length a.referred.instances + 1 → b.heaps ≡ a.heaps → b.referred.names ≡ a.referred.names
    → b.referred.specs ≡ a.referred.specs → b.referred.members ≡ a.referred.members → b.referred.locals ≡ a.referred.locals → size b ≤ size a + 8
unfolding size
instances_grown a b s h c d e f =
    omega (
      arith,
      ap (λ x. length x.strings.bytes) h,
      ap (λ x. length x.blobs.bytes) h,
      ap (λ x. length x.user.bytes) h,
      ap (length {A = Cells}) c,
      ap (length {A = Cells}) d,
      ap (length {A = Cells}) e,
      ap (length {A = Cells}) f,
    )

-- a row of StandAloneSig
pub locals_grown : (a b : References) → length b.referred.locals ≤ length a.referred.locals + 1 → b.heaps ≡ a.heaps → b.referred.names ≡ a.referred.names
    → b.referred.specs ≡ a.referred.specs → b.referred.members ≡ a.referred.members → b.referred.instances ≡ a.referred.instances → size b ≤ size a + 4
unfolding size
locals_grown a b s h c d e f =
    omega (
      arith,
      ap (λ x. length x.strings.bytes) h,
      ap (λ x. length x.blobs.bytes) h,
      ap (λ x. length x.user.bytes) h,
      ap (length {A = Cells}) c,
      ap (length {A = Cells}) d,
      ap (length {A = Cells}) e,
      ap (length {A = Cells}) f,
    )

pub few_members : (r : References) → size r + 12 ≤ 2 ^ 26 → length r.referred.members < 2 ^ 24 - 1
unfolding size
few_members r h = omega arith

pub few_instances : (r : References) → size r + 8 ≤ 2 ^ 26 → length r.referred.instances < 2 ^ 24 - 1
unfolding size
few_instances r h = omega arith

pub few_locals : (r : References) → size r + 8 ≤ 2 ^ 26 → length r.referred.locals < 2 ^ 24 - 1
unfolding size
few_locals r h = omega arith

-- ---- one step after another

pub leaves_after : (Is : References → ℕ → Type 0) (a b c : References) (first then whole n : ℕ) → Grows a b → size b ≤ size a + first → first + then ≤ whole → Leaves Is b c then n
    → Leaves Is a c whole n
leaves_after Is a b c first then whole n g le fits h = record {
  grows = grows_trans a b c g h.grows;
  known = h.known;
  room = (let room = h.room in omega arith);
  is = h.is;
}

-- what is there already
pub leaves_there : (Is : References → ℕ → Type 0) (a : References) (weight n : ℕ) → AreKnown a → Is a n → Leaves Is a a weight n
leaves_there Is a weight n known h = record { grows = grows_refl a; known = known; room = omega arith; is = h }

pub placed : (a b c : References) (o : Owner) (name : List ℕ) (token index w : ℕ) → IsOwned a b o token → Leaves (IsTextAt name) b c (length name + 1) index
    → owner_weight o + length name + 1 ≤ w → IsPlaced a c o name w token index
placed a b c o name token index w h t le = record {
  grows = grows_trans a b c h.grows t.grows;
  known = t.known;
  room = (let first = h.room in let then = t.room in omega arith);
  owner = tokens_kept b c t.grows o token h.token_is;
  name_is = t.is;
}

-- ---- entries that have been given

pub learns_either : {T : Type 0} (old new : List (T × ℕ)) (x : T) (t : ℕ) → (new ≡ old) ⊎ (new ≡ old ++ (x, t) ∷ []) → Learns old new
learns_either old new x t (inl e) = record { more = []; is = e ∙ sym (append-nil old) }
learns_either old new x t (inr e) = learns_one old new x t e

pub all_given : {X : Type 0} (P : X → Type 0) (old new : List X) (x : X) → AllByRecursion P old → P x → (new ≡ old) ⊎ (new ≡ old ++ x ∷ []) → AllByRecursion P new
all_given P old new x all p (inl e) = subst (λ xs. AllByRecursion P xs) (sym e) all
all_given P old new x all p (inr e) = all_and P old new x all p e

-- ---- texts

abbrev pub with_strings : References → Heap → References
with_strings a strings = record {
  heaps = record { strings = strings; blobs = a.heaps.blobs; user = a.heaps.user };
  declared = a.declared;
  referred = a.referred;
  known = a.known;
}

strings_grow : (a : References) (strings : Heap) → KeepsTexts a.heaps.strings strings → Grows a (with_strings a strings)
strings_grow a strings k = let g = grows_refl a in record {
  strings = k;
  blobs = g.blobs;
  user = g.user;
  declared = refl;
  names = g.names;
  specs = g.specs;
  members = g.members;
  instances = g.instances;
  locals = g.locals;
  known_names = g.known_names;
  known_specs = g.known_specs;
  known_methods = g.known_methods;
  known_fields = g.known_fields;
  known_locals = g.known_locals;
  known_texts = g.known_texts;
}

pub text_leaves : {E : Type 0} (a : References) (strings : Heap) (text : List ℕ) (r : Result ℕ E) → AreKnown a → IfOk r (HoldsText strings text) → KeepsTexts a.heaps.strings strings
    → length strings.bytes ≤ length a.heaps.strings.bytes + length text + 1 → IfOk r (Leaves (IsTextAt text) a (with_strings a strings) (length text + 1))
text_leaves a strings text (Err e) known h k le = tt
text_leaves a strings text (Ok index) known h k le = record {
  grows = strings_grow a strings k;
  known = still_known a (with_strings a strings) (strings_grow a strings k) known refl refl;
  room = strings_grown a (with_strings a strings) (length text + 1) (omega arith) refl refl refl;
  is = h;
}
