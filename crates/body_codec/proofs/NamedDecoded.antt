-- The tokens that a body names are told by its bytes, and so is a fault where every token is known.
use Rattle.std.proofs.Common.{◌≡◌, ◌≢◌, ◌∙◌, sym, ap, refl, ℕ, ◌⊎◌, inl, inr, List, ◌++◌, Result, Ok, Err, IfOk, IfErr}
use Rattle.std.specs.List.{filter_map}
use Rattle.body_codec.specs.declared.fault.BodyFault.{BodyFault}
use Rattle.body_codec.specs.declared.fault.BodyFault.TheVariants as faults
use Rattle.body_codec.specs.Header.{locals_token, code_of}
use Rattle.body_codec.specs.Sections.{clause_rows}
use Rattle.body_codec.specs.Faults.{IsFaultOfAll, Answers}
use Rattle.body_codec.specs.NamedTokens.{AreNamed, token_in, caught_in, locals_in}
use Rattle.body_codec.proofs.Outcomes.{stop_tells, stop_cut, cut_same}
use Rattle.body_codec.proofs.Decoded.{unknown_cutoff, target_code, target_target, range_outline, range_range}

pub tokens_tell : (bytes : List ℕ) (ts us : List ℕ) → AreNamed bytes ts → AreNamed bytes us → ts ≡ us
tokens_tell bytes ts us a b =
    let same = cut_same (code_of bytes) a.pieces b.pieces a.outline.code.cut b.outline.code.cut in
    a.all ∙ (ap (λ ps. locals_in (locals_token bytes) ++ (filter_map token_in ps ++ filter_map caught_in (clause_rows bytes))) same ∙ sym b.all)

named_excluded : (bytes : List ℕ) (ts : List ℕ) (f : BodyFault) → AreNamed bytes ts → IsFaultOfAll bytes f → f ≡ faults.NoMemory
named_excluded bytes ts faults.Header a h = absurd (h a.header)
named_excluded bytes ts (faults.Opcode o) a h = absurd (stop_cut (code_of bytes) o h.1.rest a.pieces h.1.stops a.outline.code.cut)
named_excluded bytes ts (faults.Cut o) a h = absurd (stop_cut (code_of bytes) o h.1.rest a.pieces h.1.stops a.outline.code.cut)
named_excluded bytes ts (faults.Target o) a h = absurd (target_code bytes h.1.0 a.pieces o h.1.1 h.1.2 a.outline.code)
named_excluded bytes ts (faults.Range o) a h = absurd (range_outline bytes h.1.0 a.pieces o h.1.1 h.1.2 a.outline)
named_excluded bytes ts (faults.Token o) a h = absurd h
named_excluded bytes ts (faults.Far o) a h = absurd h
named_excluded bytes ts faults.NoMemory a h = refl

all_tells : (bytes : List ℕ) (f g : BodyFault) → IsFaultOfAll bytes f → IsFaultOfAll bytes g → (f ≡ g) ⊎ ((f ≡ faults.NoMemory) ⊎ (g ≡ faults.NoMemory))
all_tells bytes faults.Header faults.Header h k = inl refl
all_tells bytes faults.Header (faults.Opcode p) h k = absurd (h k.0)
all_tells bytes faults.Header (faults.Cut p) h k = absurd (h k.0)
all_tells bytes faults.Header (faults.Target p) h k = absurd (h k.0)
all_tells bytes faults.Header (faults.Range p) h k = absurd (h k.0)
all_tells bytes faults.Header (faults.Token p) h k = absurd k
all_tells bytes faults.Header (faults.Far p) h k = absurd k
all_tells bytes faults.Header faults.NoMemory h k = inr (inr refl)
all_tells bytes (faults.Opcode o) faults.Header h k = absurd (k h.0)
all_tells bytes (faults.Opcode o) (faults.Opcode p) h k = inl (ap faults.Opcode (stop_tells (code_of bytes) o p h.1.rest k.1.rest h.1.stops k.1.stops).0)
all_tells bytes (faults.Opcode o) (faults.Cut p) h k = absurd (unknown_cutoff (code_of bytes) o p h.1 k.1)
all_tells bytes (faults.Opcode o) (faults.Target p) h k = absurd (stop_cut (code_of bytes) o h.1.rest (k.1.0) h.1.stops k.1.1)
all_tells bytes (faults.Opcode o) (faults.Range p) h k = absurd (stop_cut (code_of bytes) o h.1.rest (k.1.0) h.1.stops k.1.1.cut)
all_tells bytes (faults.Opcode o) (faults.Token p) h k = absurd k
all_tells bytes (faults.Opcode o) (faults.Far p) h k = absurd k
all_tells bytes (faults.Opcode o) faults.NoMemory h k = inr (inr refl)
all_tells bytes (faults.Cut o) faults.Header h k = absurd (k h.0)
all_tells bytes (faults.Cut o) (faults.Opcode p) h k = absurd (unknown_cutoff (code_of bytes) p o k.1 h.1)
all_tells bytes (faults.Cut o) (faults.Cut p) h k = inl (ap faults.Cut (stop_tells (code_of bytes) o p h.1.rest k.1.rest h.1.stops k.1.stops).0)
all_tells bytes (faults.Cut o) (faults.Target p) h k = absurd (stop_cut (code_of bytes) o h.1.rest (k.1.0) h.1.stops k.1.1)
all_tells bytes (faults.Cut o) (faults.Range p) h k = absurd (stop_cut (code_of bytes) o h.1.rest (k.1.0) h.1.stops k.1.1.cut)
all_tells bytes (faults.Cut o) (faults.Token p) h k = absurd k
all_tells bytes (faults.Cut o) (faults.Far p) h k = absurd k
all_tells bytes (faults.Cut o) faults.NoMemory h k = inr (inr refl)
all_tells bytes (faults.Target o) faults.Header h k = absurd (k h.0)
all_tells bytes (faults.Target o) (faults.Opcode p) h k = absurd (stop_cut (code_of bytes) p k.1.rest (h.1.0) k.1.stops h.1.1)
all_tells bytes (faults.Target o) (faults.Cut p) h k = absurd (stop_cut (code_of bytes) p k.1.rest (h.1.0) k.1.stops h.1.1)
all_tells bytes (faults.Target o) (faults.Target p) h k = inl (ap faults.Target (target_target bytes h.1.0 k.1.0 o p h.1.1 h.1.2 k.1.1 k.1.2))
all_tells bytes (faults.Target o) (faults.Range p) h k = absurd (target_code bytes h.1.0 (k.1.0) o h.1.1 h.1.2 (k.1.1))
all_tells bytes (faults.Target o) (faults.Token p) h k = absurd k
all_tells bytes (faults.Target o) (faults.Far p) h k = absurd k
all_tells bytes (faults.Target o) faults.NoMemory h k = inr (inr refl)
all_tells bytes (faults.Range o) faults.Header h k = absurd (k h.0)
all_tells bytes (faults.Range o) (faults.Opcode p) h k = absurd (stop_cut (code_of bytes) p k.1.rest (h.1.0) k.1.stops h.1.1.cut)
all_tells bytes (faults.Range o) (faults.Cut p) h k = absurd (stop_cut (code_of bytes) p k.1.rest (h.1.0) k.1.stops h.1.1.cut)
all_tells bytes (faults.Range o) (faults.Target p) h k = absurd (target_code bytes k.1.0 (h.1.0) p k.1.1 k.1.2 (h.1.1))
all_tells bytes (faults.Range o) (faults.Range p) h k = inl (ap faults.Range (range_range bytes h.1.0 k.1.0 o p h.1.1 h.1.2 k.1.1 k.1.2))
all_tells bytes (faults.Range o) (faults.Token p) h k = absurd k
all_tells bytes (faults.Range o) (faults.Far p) h k = absurd k
all_tells bytes (faults.Range o) faults.NoMemory h k = inr (inr refl)
all_tells bytes (faults.Token o) g h k = absurd h
all_tells bytes (faults.Far o) g h k = absurd h
all_tells bytes faults.NoMemory g h k = inr (inl refl)

pub only_tokens : (bytes : List ℕ) (r : Result (List ℕ) BodyFault) → IfOk r (AreNamed bytes) → IfErr r (IsFaultOfAll bytes) → (ts : List ℕ) → AreNamed bytes ts → Answers r (Ok ts)
only_tokens bytes (Ok x) h g ts a = inl (ap Ok (tokens_tell bytes x ts h a))
only_tokens bytes (Err f) h g ts a = inr (ap Err (named_excluded bytes ts f a g))

pub only_fault_of_all : (bytes : List ℕ) (r : Result (List ℕ) BodyFault) → IfOk r (AreNamed bytes) → IfErr r (IsFaultOfAll bytes) → (f : BodyFault) → f ≢ faults.NoMemory → IsFaultOfAll bytes f
    → Answers r (Err f)
only_fault_of_all bytes (Ok x) h g f ne k = absurd (ne (named_excluded bytes x f h k))
only_fault_of_all bytes (Err e) h g f ne k =
    elim (all_tells bytes e f g k) [
      | inl same ↦ inl (ap Err same)
      | inr u ↦ elim u [ inl m ↦ inr (ap Err m) | inr m ↦ absurd (ne m) ]
    ]
