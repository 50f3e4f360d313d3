-- The numbers that a source sets: the productions of their lines, where the number stands, and what holds without a line.
use Rattle.std.specs.Prelude.{ℕ, List, [], ◌∷◌, Bool, true, false}
use Rattle.ilasm_grammar.specs.declared.productions.TheConstants.{ASSEMBLY_ITEM_HASH, DECL_CORFLAGS, DECL_FILE, DECL_IMAGEBASE, DECL_STACKRESERVE, DECL_SUBSYSTEM, EXTERN_ITEM_HASH}
use Rattle.source_model.specs.Forest.{Forest, leaf_at, parts}
use Rattle.source_model.specs.Manifests.{last_said, number_said}
use Rattle.source_model.specs.Source.{Source}
use Rattle.source_model.specs.Values.{equals_bytes}
use Rattle.lower_manifest.specs.declared.settings.Setting.{Setting}
use Rattle.lower_manifest.specs.declared.settings.Setting.TheVariants.{CorFlags, FileAlignment, HashAlgorithm, ImageBase, StackReserve, Subsystem}

abbrev pub production_of : Setting → ℕ
production_of HashAlgorithm = ASSEMBLY_ITEM_HASH
production_of ImageBase = DECL_IMAGEBASE
production_of FileAlignment = DECL_FILE
production_of StackReserve = DECL_STACKRESERVE
production_of Subsystem = DECL_SUBSYSTEM
production_of CorFlags = DECL_CORFLAGS

-- whether its line is a declaration outside of any class
abbrev pub is_declared : Setting → Bool
is_declared HashAlgorithm = false
is_declared ImageBase = true
is_declared FileAlignment = true
is_declared StackReserve = true
is_declared Subsystem = true
is_declared CorFlags = true

abbrev pub place_of : Setting → ℕ
place_of HashAlgorithm = 2
place_of ImageBase = 1
place_of FileAlignment = 2
place_of StackReserve = 1
place_of Subsystem = 1
place_of CorFlags = 1

abbrev pub default_of : Setting → ℕ
default_of HashAlgorithm = 0x8004
default_of ImageBase = 0x400000
default_of FileAlignment = 0x200
default_of StackReserve = 0x100000
default_of Subsystem = 3
default_of CorFlags = 1

-- what the last line says
abbrev pub setting_said : Source → Setting → Forest → ℕ
setting_said s setting f = number_said s (production_of setting) (place_of setting) (default_of setting) f

-- the bytes of the hash of another assembly; empty where none is said
abbrev pub hash_said : Source → Forest → List ℕ
hash_said s f = last_said (λ p. equals_bytes s (leaf_at 1 p.below)) [] (parts (EXTERN_ITEM_HASH ∷ []) f)
