-- What a program and a library have of their own.
use Rattle.std.specs.Prelude.{ℕ, List, codes}
use Rattle.pe_layout.specs.declared.parts.Kind.{Kind}
use Rattle.pe_layout.specs.declared.parts.Kind.TheVariants.{Exe, Dll}

-- II.25.2.2.1: an executable of 32 bits, and a library too
abbrev pub characteristics_for : Kind → ℕ
characteristics_for Exe = 0x0102
characteristics_for Dll = 0x2102

-- II.25.3.1: the function by which the loader enters the runtime
abbrev pub function_for : Kind → List ℕ
function_for Exe = codes "_CorExeMain"
function_for Dll = codes "_CorDllMain"
