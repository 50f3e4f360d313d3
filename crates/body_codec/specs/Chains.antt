-- Code as far as it is written, in one pass (III.1.7.2). A displacement to an instruction that isn't written yet is left open:
-- its place is a site. The sites that wait for one instruction hang together: the latest is known by the instruction's number,
-- and each knows the one before it.
use Rattle.std.specs.Prelude.{◌≡◌, ℕ, ◌+◌, ◌<◌, ◌≤◌, ◌⊎◌, ℤ, List, [], ◌∷◌, ◌++◌, length, slice_index, slice_index_or, Option, None, Some}
use Rattle.std.specs.List.{HoldsAt}
use Rattle.opcode_table.specs.declared.kind.OperandKind.TheVariants as kinds
use Rattle.assembly_tree.specs.declared.body.Ins.{Ins}
use Rattle.assembly_tree.specs.declared.body.Operand as operand
use Rattle.body_codec.specs.declared.encoding.draft.Draft.{Draft}
use Rattle.body_codec.specs.declared.encoding.site.Site.{Site}
use Rattle.body_codec.specs.Instruction.{kind, operand_size}
use Rattle.body_codec.specs.Encoding.{FitsBytes, IsFar, distance, ins_size, offset}
use Rattle.body_codec.specs.Written.{far_from, signed_bytes}

-- ---- where instructions begin

abbrev pub offsets_from : ℕ → List Ins → List ℕ
offsets_from at [] = at ∷ []
offsets_from at (ins ∷ rest) = at ∷ offsets_from (at + ins_size ins) rest

-- where each instruction begins, and at last where the code ends
unfoldable pub offsets_of : List Ins → List ℕ
offsets_of code = offsets_from 0 code

-- ---- sites

abbrev pub site_size : Site → ℕ
site_size s = operand_size s.kind []

-- the displacement that belongs at a site
abbrev pub site_bytes : List ℕ → Site → List ℕ
site_bytes offsets s = signed_bytes (operand_size s.kind []) (far_from offsets s.end s.to)

-- a byte is one of the site's
pub record Covers (s : Site) (q : ℕ) : Type 0 where
  pub first : s.place ≤ q
  pub last : q < s.place + operand_size s.kind []

-- instruction `k` is a short branch to instruction `t`, and the next one begins at `end`
pub record IsShort (code : List Ins) (k t end : ℕ) : Type 0 where
  pub inside : k < length code
  pub kind_is : (d : Ins) → kind (slice_index_or code k d).op ≡ kinds.Branch8
  pub branch : (d : Ins) → (slice_index_or code k d).operand ≡ operand.TheVariants.Target t
  pub end_is : end ≡ offset code (k + 1)

-- a site is a place in the wanted bytes where the displacement to an instruction stands
pub record IsSite (code : List Ins) (want : List ℕ) (s : Site) : Type 0 where
  pub to_inside : s.to < length code
  pub inside : s.place + operand_size s.kind [] ≤ length want
  pub holds : (i : ℕ) → i < operand_size s.kind [] → slice_index want (s.place + i) ≡ slice_index (site_bytes (offsets_of code) s) i
  pub short : s.kind ≡ kinds.Branch8 → IsShort code s.at s.to s.end

-- how many sites there are up to one
abbrev pub count_to : Option ℕ → ℕ
count_to None = 0
count_to (Some m) = m + 1

-- the last of the first `n` sites that waits for instruction `t`
pub record IsLatest (sites : List Site) (t n : ℕ) (o : Option ℕ) : Type 0 where
  pub within : count_to o ≤ n
  pub it : (m : ℕ) (d : Site) → o ≡ Some m → (slice_index_or sites m d).to ≡ t
  pub later : (i : ℕ) (d : Site) → count_to o ≤ i → i < n → (slice_index_or sites i d).to ≡ t → ⊥

-- which sites are open: those of instructions from one on
abbrev pub from_on : ℕ → ℕ → Site → Type 0
from_on known i s = known ≤ s.to

-- and of that one only the first so many sites
pub record FirstOf (known m i : ℕ) (s : Site) : Type 0 where
  pub from : known ≤ s.to
  pub first : s.to ≡ known → i < m

-- ---- the draft

-- the sites lie in the first `size` bytes, and those that wait for an instruction from `known` on hang together as they should
pub record AreLinked (size known : ℕ) (sites : List Site) (newest : List (Option ℕ)) : Type 0 where
  pub few : length sites ≤ size
  pub inside : (i : ℕ) (s : Site) → i < length sites → (slice_index_or sites i s).place + operand_size (slice_index_or sites i s).kind [] ≤ size
  pub before : (i : ℕ) (s : Site) → i < length sites → IsLatest sites (slice_index_or sites i s).to i (slice_index_or sites i s).before
  pub latest : (t : ℕ) (o : Option ℕ) → known ≤ t → t < length newest → IsLatest sites t (length sites) (slice_index_or newest t o)

abbrev pub IsLinked : Draft → Type 0
IsLinked d = AreLinked (length d.bytes) (length d.offsets) d.sites d.latest

-- some bytes are written over those from a place on
pub record IsPut (old : List ℕ) (place : ℕ) (bytes new : List ℕ) : Type 0 where
  pub count : length new ≡ length old
  pub put : (i : ℕ) → i < length bytes → slice_index new (place + i) ≡ slice_index bytes i
  pub front : (q : ℕ) → q < place → slice_index new q ≡ slice_index old q
  pub back : (q : ℕ) → place + length bytes ≤ q → slice_index new q ≡ slice_index old q

-- the next instruction begins at the end of the bytes
pub record IsBegun (old new : Draft) : Type 0 where
  pub offsets : new.offsets ≡ old.offsets ++ length old.bytes ∷ []
  pub latest : new.latest ≡ old.latest
  pub sites : new.sites ≡ old.sites
  pub count : length new.bytes ≡ length old.bytes

-- no more instructions are known
pub record IsKept (old new : Draft) : Type 0 where
  pub offsets : new.offsets ≡ old.offsets
  pub latest : length new.latest ≡ length old.latest

-- the bytes are the wanted ones save at the open sites
pub record Agrees (Open : ℕ → Site → Type 0) (sites : List Site) (want bytes : List ℕ) : Type 0 where
  pub count : length bytes ≡ length want
  pub same : (q : ℕ) → q < length want
      → ((i : ℕ) (s : Site) → i < length sites → Open i (slice_index_or sites i s) → Covers (slice_index_or sites i s) q → ⊥)
      → slice_index bytes q ≡ slice_index want q

-- a short branch up to this one doesn't reach
abbrev pub IsFarTo : Option ℕ → ℕ → Type 0
IsFarTo None k = ⊥
IsFarTo (Some f) k = f ≤ k

-- the first short branch that is known not to reach, with one more
pub record IsFirstWith (first : Option ℕ) (s : Site) (gap : ℤ) (with : Option ℕ) : Type 0 where
  pub is : (with ≡ first) ⊎ ((with ≡ Some s.at) × (s.kind ≡ kinds.Branch8) × (FitsBytes 1 gap → ⊥))
  pub keeps : (k : ℕ) → IsFarTo first k → IsFarTo with k
  pub here : s.kind ≡ kinds.Branch8 → FitsBytes 1 gap ⊎ IsFarTo with s.at

-- a short branch waits at an open site
pub record Waits (Open : ℕ → Site → Type 0) (sites : List Site) (k t : ℕ) : Type 0 where
  pub number : ℕ
  pub within : number < length sites
  pub site : (s : Site) → Open number (slice_index_or sites number s) × ((slice_index_or sites number s).kind ≡ kinds.Branch8)
      × ((slice_index_or sites number s).at ≡ k) × ((slice_index_or sites number s).to ≡ t)

-- a short branch reaches, or it doesn't and that is known, or it waits
abbrev pub IsWatched : (Open : ℕ → Site → Type 0) → List Ins → List Site → Option ℕ → ℕ → ℕ → Type 0
IsWatched Open code sites far k t = FitsBytes 1 (distance code k t) ⊎ (IsFarTo far k ⊎ Waits Open sites k t)

abbrev pub AreFar : List Ins → Option ℕ → Type 0
AreFar code None = Unit {0}
AreFar code (Some f) = (f < length code) × HoldsAt (IsFar code f) code f

-- The draft is that of these bytes. Of the short branches among the first `done` instructions none is forgotten.
pub record Drafts (Open : ℕ → Site → Type 0) (code : List Ins) (done : ℕ) (want bytes : List ℕ) (sites : List Site) (offsets : List ℕ) (far : Option ℕ) (count : ℕ) : Type 0 where
  pub count_is : count ≡ length code
  pub bytes_are : Agrees Open sites want bytes
  pub sites_are : (i : ℕ) (s : Site) → i < length sites → IsSite code want (slice_index_or sites i s)
  pub offsets_are : (k : ℕ) → k < length offsets → slice_index offsets k ≡ offset code k
  pub far_are : AreFar code far
  pub watched : (k t end : ℕ) → k < done → IsShort code k t end → IsWatched Open code sites far k t

abbrev pub IsDraft : (Open : ℕ → Site → Type 0) → List Ins → ℕ → List ℕ → Draft → Type 0
IsDraft Open code done want d = Drafts Open code done want d.bytes d.sites d.offsets d.far (length d.latest)
