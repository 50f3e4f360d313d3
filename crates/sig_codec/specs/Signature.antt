-- How signatures are spelled (ECMA-335 II.23.2.1 to II.23.2.6, II.23.2.15), and which of them are within bounds.
use Rattle.std.specs.Prelude.{◌≡◌, ℕ, zero, suc, ◌+◌, ◌<◌, ◌≤◌, ◌==◌, Bool, true, false, if◌then◌else◌, List, [], ◌∷◌, ◌++◌, length, map, take, drop, Option, Some, None}
use Rattle.type_terms.specs.declared.reference.MethodSig.{MethodSig}
use Rattle.type_terms.specs.declared.term.Owner.{Owner}
use Rattle.type_terms.specs.declared.term.SigType.{SigType}
use Rattle.type_terms.specs.Depth.{depth, largest, sig_depth}
use Rattle.type_terms.specs.Nodes.{nodes, list_nodes, sig_nodes}
use Rattle.sig_codec.specs.Spelling.{Notation, reading, SpellsType, SpellsEach}

-- The first byte of a method: how it is called, and whether it is generic (II.23.2.1, II.23.2.2).
abbrev pub method_byte : MethodSig → ℕ
method_byte s = (if s.vararg then 0x05 else 0x00) + (if s.has_this then 0x20 else 0x00) + (if s.explicit_this then 0x40 else 0x00) + (if s.generic == 0 then 0x00 else 0x10)

-- the number of generic parameters, where there are any
abbrev pub SpellsGeneric : Notation → ℕ → List ℕ → Type 0
SpellsGeneric w zero bytes = bytes ≡ []
SpellsGeneric w (suc n) bytes = w.number bytes (suc n)

-- The parameters, with SENTINEL before the first one after the fixed ones (II.23.2.2).
abbrev pub SpellsParams : Notation → Option ℕ → List SigType → List ℕ → Type 0
SpellsParams w None params bytes = SpellsEach w params bytes
SpellsParams w (Some fixed) params bytes =
    (a b : List ℕ) × (bytes ≡ a ++ (0x41 ∷ b)) × (fixed < length params) × SpellsEach w (take fixed params) a × SpellsEach w (drop fixed params) b

-- a method (II.23.2.1, II.23.2.2)
pub record SpellsMethod (w : Notation) (s : MethodSig) (bytes : List ℕ) : Type 0 where
  pub a : List ℕ
  pub b : List ℕ
  pub c : List ℕ
  pub d : List ℕ
  pub whole : bytes ≡ method_byte s ∷ (a ++ (b ++ (c ++ d)))
  pub explicit : s.explicit_this ≡ true → s.has_this ≡ true
  pub generic : SpellsGeneric w s.generic a
  pub counted : w.number b (length s.params)
  pub ret : SpellsType w s.ret c
  pub params : SpellsParams w s.sentinel s.params d

-- a field (II.23.2.4)
abbrev pub SpellsField : Notation → SigType → List ℕ → Type 0
SpellsField w t bytes = (a : List ℕ) × (bytes ≡ 0x06 ∷ a) × SpellsType w t a

-- the first byte of a property
abbrev pub property_byte : Bool → ℕ
property_byte has_this = if has_this then 0x28 else 0x08

-- a property (II.23.2.5)
pub record SpellsProperty (w : Notation) (s : MethodSig) (bytes : List ℕ) : Type 0 where
  pub a : List ℕ
  pub b : List ℕ
  pub c : List ℕ
  pub whole : bytes ≡ property_byte s.has_this ∷ (a ++ (b ++ c))
  pub no_explicit : s.explicit_this ≡ false
  pub no_vararg : s.vararg ≡ false
  pub no_generic : s.generic ≡ 0
  pub no_sentinel : s.sentinel ≡ None
  pub counted : w.number a (length s.params)
  pub ret : SpellsType w s.ret b
  pub params : SpellsEach w s.params c

-- locals (II.23.2.6)
pub record SpellsLocals (w : Notation) (ts : List SigType) (bytes : List ℕ) : Type 0 where
  pub a : List ℕ
  pub b : List ℕ
  pub whole : bytes ≡ 0x07 ∷ (a ++ b)
  pub counted : w.number a (length ts)
  pub each : SpellsEach w ts b

-- the arguments of a generic method (II.23.2.15)
pub record SpellsInstantiation (w : Notation) (ts : List SigType) (bytes : List ℕ) : Type 0 where
  pub a : List ℕ
  pub b : List ℕ
  pub whole : bytes ≡ 0x0A ∷ (a ++ b)
  pub some : 0 < length ts
  pub counted : w.number a (length ts)
  pub each : SpellsEach w ts b

-- ---- what is read

-- the depth that each type of a signature may have, and the nodes that it may have in all
abbrev pub max_depth : ℕ
max_depth = 100

abbrev pub max_nodes : ℕ
max_nodes = 2097152

abbrev pub IsType : (ℕ → Option Owner) → List ℕ → SigType → Type 0
IsType owners bytes t = SpellsType (reading owners) t bytes × (depth t ≤ max_depth) × (nodes t ≤ max_nodes)

abbrev pub IsMethod : (ℕ → Option Owner) → List ℕ → MethodSig → Type 0
IsMethod owners bytes s = SpellsMethod (reading owners) s bytes × (sig_depth s ≤ max_depth) × (sig_nodes s ≤ max_nodes)

abbrev pub IsField : (ℕ → Option Owner) → List ℕ → SigType → Type 0
IsField owners bytes t = SpellsField (reading owners) t bytes × (depth t ≤ max_depth) × (nodes t ≤ max_nodes)

abbrev pub IsProperty : (ℕ → Option Owner) → List ℕ → MethodSig → Type 0
IsProperty owners bytes s = SpellsProperty (reading owners) s bytes × (sig_depth s ≤ max_depth) × (sig_nodes s ≤ max_nodes)

abbrev pub AreLocals : (ℕ → Option Owner) → List ℕ → List SigType → Type 0
AreLocals owners bytes ts = SpellsLocals (reading owners) ts bytes × (largest (map depth ts) ≤ max_depth) × (list_nodes ts ≤ max_nodes)

abbrev pub IsInstantiation : (ℕ → Option Owner) → List ℕ → List SigType → Type 0
IsInstantiation owners bytes ts = SpellsInstantiation (reading owners) ts bytes × (largest (map depth ts) ≤ max_depth) × (list_nodes ts ≤ max_nodes)
