-- Signatures as blobs: what has a spelling once its types are noted, how much room the blob takes, and what it leaves.
use Rattle.std.proofs.Common.{◌≡◌, ap, subst, ℕ, ◌+◌, ◌^◌, ◌≤◌, List, length, Result, Ok, Err, arith}
use Rattle.std.specs.Prelude.{sum_by, IfOk}
use Rattle.assembly_tree.specs.Weight.{type_weight, signature_weight}
use Rattle.type_terms.specs.declared.reference.MethodSig.{MethodSig}
use Rattle.type_terms.specs.declared.term.SigType.{SigType}
use Rattle.sig_codec.specs.Spellable.{HaveSpellings, MethodHasSpelling, PropertyHasSpelling}
use Rattle.sig_codec.specs.Spelling.{Notation, writing}
use Rattle.image_tokens.specs.Blobs.{HoldsBlob}
use Rattle.image_tokens.specs.Noted.{longest, IsNoted, AreNoted, IsSigned}
use Rattle.image_tokens.specs.References.{tokens_of, size, Grows, Goes}
use Rattle.image_tokens.specs.Writable.{IsMethodWritable, IsPropertyWritable}
use Rattle.image_tokens.specs.declared.references.References.{References}
use Rattle.image_tokens.proofs.AddedLemmas.{written_blob}
use Rattle.image_tokens.proofs.GrowthLemmas.{grows_trans}
use Rattle.image_tokens.proofs.WritableLemmas.{still_spelled}

-- the blob of a spelling
pub signed : {X E : Type 0} (Spells : Notation → X → List ℕ → Type 0) (a b c : References) (x : X) (bytes lent : List ℕ) (weight : ℕ) (r : Result ℕ E)
    → Grows a b → Spells (writing (tokens_of b)) x bytes → lent ≡ bytes → IfOk r (λ index. Goes b c (length lent + 4)) → IfOk r (HoldsBlob c.heaps.blobs lent)
    → size b + (length bytes + 4) ≤ size a + weight → IfOk r (IsSigned Spells a c x weight)
signed Spells a b c x bytes lent weight (Err e) g s same goes holds room = tt
signed Spells a b c x bytes lent weight (Ok blob) g s same goes holds room = record {
  grows = grows_trans a b c g goes.grows;
  known = goes.known;
  room = (let more = goes.size in let long = ap (length {A = ℕ}) same in omega arith);
  signature = written_blob Spells b c x bytes blob goes.grows (subst (λ (l : List ℕ). HoldsBlob c.heaps.blobs l blob) same holds) s;
}

-- ---- a result and parameters

pub two_grow : (a b c : References) (t : SigType) (ts : List SigType) → IsNoted a b t → AreNoted b c ts → Grows a c
two_grow a b c t ts h k = grows_trans a b c h.grows k.grows

pub two_fit : (a b c : References) (s : MethodSig) (lent : List SigType) (n : ℕ) → lent ≡ s.params → IsNoted a b s.ret → AreNoted b c lent
    → n ≤ 10 + longest s.ret + sum_by longest s.params → size c + (n + 4) ≤ size a + (signature_weight s + 8)
unfolding signature_weight
two_fit a b c s lent n same h k le =
    let first = h.room in
    let rest = k.room in
    let i = ap (sum_by longest) same in
    let j = ap (sum_by type_weight) same in
    omega arith

pub method_spelled : (a b c : References) (s : MethodSig) (lent : List SigType) → lent ≡ s.params → IsMethodWritable a s → IsNoted a b s.ret → AreNoted b c lent
    → MethodHasSpelling (tokens_of c) s
method_spelled a b c s lent same w h k = record {
  explicit = w.explicit;
  generic = w.generic;
  count = w.count;
  ret = still_spelled b c k.grows s.ret h.spells;
  params = subst (λ (x : List SigType). HaveSpellings (tokens_of c) x) same k.spells;
  sentinel = w.sentinel;
}

pub property_spelled : (a b c : References) (s : MethodSig) (lent : List SigType) → lent ≡ s.params → IsPropertyWritable a s → IsNoted a b s.ret → AreNoted b c lent
    → PropertyHasSpelling (tokens_of c) s
property_spelled a b c s lent same w h k = record {
  no_explicit = w.no_explicit;
  no_vararg = w.no_vararg;
  no_generic = w.no_generic;
  no_sentinel = w.no_sentinel;
  count = w.count;
  ret = still_spelled b c k.grows s.ret h.spells;
  params = subst (λ (x : List SigType). HaveSpellings (tokens_of c) x) same k.spells;
}

-- the room that is left for the parameters
pub params_fit : (a b : References) (s : MethodSig) (lent : List SigType) → lent ≡ s.params → size a + (signature_weight s + 8) ≤ 2 ^ 26 → IsNoted a b s.ret
    → size b + sum_by type_weight lent ≤ 2 ^ 26
unfolding signature_weight
params_fit a b s lent same room h = let first = h.room in let j = ap (sum_by type_weight) same in omega arith

pub ret_fits : (a : References) (s : MethodSig) → size a + (signature_weight s + 8) ≤ 2 ^ 26 → size a + type_weight s.ret ≤ 2 ^ 26
unfolding signature_weight
ret_fits a s room = omega arith

-- ---- types alone

pub types_fit : (a b : References) (ts lent : List SigType) (n : ℕ) → lent ≡ ts → AreNoted a b lent → n ≤ 5 + sum_by longest ts
    → size b + (n + 4) ≤ size a + (sum_by type_weight ts + 9)
types_fit a b ts lent n same k le =
    let rest = k.room in
    let i = ap (sum_by longest) same in
    let j = ap (sum_by type_weight) same in
    omega arith

pub lent_fit : (a : References) (ts lent : List SigType) → lent ≡ ts → size a + (sum_by type_weight ts + 9) ≤ 2 ^ 26 → size a + sum_by type_weight lent ≤ 2 ^ 26
lent_fit a ts lent same room = let j = ap (sum_by type_weight) same in omega arith
