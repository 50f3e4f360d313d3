-- How much a step adds to the size of all references.
use Rattle.std.proofs.Common.{◌≡◌, ap, ℕ, ◌+◌, ◌*◌, ◌/◌, ◌%◌, ◌^◌, ◌<◌, ◌≤◌, ◌-◌, List, [], ◌∷◌, length, inl, inr, arith}
use Rattle.std.specs.Prelude.{sum_by}
use Rattle.std.proofs.lemmas.List.Sums.{sum_by-cons}
use Rattle.heaps.specs.Heap.{Heap}
use Rattle.type_terms.specs.declared.name.TypeId.{TypeId}
use Rattle.type_terms.specs.declared.name.TypeName.{TypeName}
use Rattle.assembly_tree.specs.Weight.{id_weight, name_weight}
use Rattle.sig_codec.specs.Tokens.{IsTypeToken, IsDeclared}
use Rattle.image_tokens.specs.Indexes.{IsToken}
use Rattle.image_tokens.specs.NameTokens.{HasNameToken, of_declared, of_referred}
use Rattle.image_tokens.specs.References.{size}
use Rattle.image_tokens.specs.Texts.{id_size}
use Rattle.image_tokens.specs.TypePaths.{path_size}
use Rattle.image_tokens.specs.declared.references.References.{References}
use Rattle.image_tokens.specs.declared.row_set.Cells.{Cells}

-- ---- parts of the size

-- more texts and rows of TypeRef
pub names_grown : (a b : References) (texts rows : ℕ) → length b.heaps.strings.bytes ≤ length a.heaps.strings.bytes + texts
    → length b.referred.names ≤ length a.referred.names + rows → b.heaps.blobs ≡ a.heaps.blobs → b.heaps.user ≡ a.heaps.user
    → b.referred.specs ≡ a.referred.specs → b.referred.members ≡ a.referred.members → b.referred.instances ≡ a.referred.instances
    → b.referred.locals ≡ a.referred.locals → size b ≤ size a + (texts + 12 * rows)
unfolding size
names_grown a b texts rows s n p q c d e f =
    omega (arith, ap (λ h. length h.bytes) p, ap (λ h. length h.bytes) q, ap (length {A = Cells}) c, ap (length {A = Cells}) d, ap (length {A = Cells}) e, ap (length {A = Cells}) f)

-- more blobs
pub blobs_grown : (a b : References) (bytes : ℕ) → length b.heaps.blobs.bytes ≤ length a.heaps.blobs.bytes + bytes → b.heaps.strings ≡ a.heaps.strings
    → b.heaps.user ≡ a.heaps.user → b.referred ≡ a.referred → size b ≤ size a + bytes
unfolding size
blobs_grown a b bytes s p q e =
    omega (
      arith,
      ap (λ h. length h.bytes) p,
      ap (λ h. length h.bytes) q,
      ap (λ r. length r.names) e,
      ap (λ r. length r.specs) e,
      ap (λ r. length r.members) e,
      ap (λ r. length r.instances) e,
      ap (λ r. length r.locals) e,
    )

-- a row of TypeSpec
pub specs_grown : (a b : References) → length b.referred.specs ≤ length a.referred.specs + 1 → b.heaps ≡ a.heaps → b.referred.names ≡ a.referred.names
    → b.referred.members ≡ a.referred.members → b.referred.instances ≡ a.referred.instances → b.referred.locals ≡ a.referred.locals → size b ≤ size a + 4
unfolding size
specs_grown a b s h c d e f =
    omega (
      arith,
      ap (λ x. length x.strings.bytes) h,
      ap (λ x. length x.blobs.bytes) h,
      ap (λ x. length x.user.bytes) h,
      ap (length {A = Cells}) c,
      ap (length {A = Cells}) d,
      ap (length {A = Cells}) e,
      ap (length {A = Cells}) f,
    )

-- ---- room by the size

pub room_for_texts : (r : References) (n : ℕ) → size r + n ≤ 2 ^ 26 → length r.heaps.strings.bytes + n + 8 < 2 ^ 29
unfolding size
room_for_texts r n h = omega arith

pub room_for_blobs : (r : References) (n : ℕ) → size r + n ≤ 2 ^ 26 → length r.heaps.blobs.bytes + n + 8 < 2 ^ 29
unfolding size
room_for_blobs r n h = omega arith

pub few_names : (r : References) (n : ℕ) → size r + n ≤ 2 ^ 26 → length r.referred.names + n < 2 ^ 24 + n
unfolding size
few_names r n h = omega arith

-- ---- what a name weighs

pub path_weight : (path : List TypeId) → path_size path + 12 * length path ≤ sum_by id_weight path
unfolding id_weight
path_weight [] = omega arith
path_weight (id ∷ ids) =
    let rest = path_weight ids in
    let a = sum_by-cons id_size id ids in
    let b = sum_by-cons id_weight id ids in
    omega (arith, rest, a, b)

pub name_weight_is : (name : TypeName) → path_size name.path + 12 * length name.path ≤ name_weight name
unfolding name_weight
name_weight_is name = path_weight name.path

-- ---- tokens of rows

-- the highest byte of a token is its table
pub table_is : (token table row : ℕ) → IsToken token table row → token / 2 ^ 24 ≡ table
table_is token table row t = let is = t.is in let fits = t.fits in omega arith

-- and the other three are its row
pub row_is : (token table row : ℕ) → IsToken token table row → token % 2 ^ 24 ≡ row
row_is token table row t = let is = t.is in let fits = t.fits in omega arith

pub declared_kind : (strings : Heap) (declared referred : List Cells) (name : TypeName) (token : ℕ) → HasNameToken strings declared referred name token → IsDeclared token
declared_kind strings declared referred name token (of_declared {row = row} here f is) = inr (table_is token 0x02 row is)
declared_kind strings declared referred name token (of_referred {row = row} there f is) = inl (table_is token 0x01 row is)

pub spec_kind : (token row : ℕ) → IsToken token 0x1B row → IsTypeToken token
spec_kind token row is = inr (inr (table_is token 0x1B row is))

-- ---- room for a name

pub room_for_names : (r : References) (name : TypeName) → size r + name_weight name ≤ 2 ^ 26 → length r.heaps.strings.bytes + path_size name.path + 8 < 2 ^ 29
unfolding size
room_for_names r name h = let weighs = name_weight_is name in omega arith

pub room_for_rows : (r : References) (name : TypeName) → size r + name_weight name ≤ 2 ^ 26 → length r.referred.names + length name.path < 2 ^ 24
unfolding size
room_for_rows r name h = let weighs = name_weight_is name in omega arith

pub few_specs_now : (r : References) → size r + 8 ≤ 2 ^ 26 → length r.referred.specs < 2 ^ 24 - 1
unfolding size
few_specs_now r h = omega arith
