-- Methods by what references name them by: their names and signatures (ECMA-335 II.22.26, II.22.28).
use Rattle.std.specs.Prelude.{ℕ, ◌&&◌, Bool, List, bytes_eq}
use Rattle.type_terms.specs.declared.reference.MethodSig.{MethodSig}
use Rattle.type_terms.specs.Same.{is_same_signature}
use Rattle.assembly_tree.specs.declared.members.Method.{Method}
use Rattle.source_model.specs.Forest.{Forest}
use Rattle.source_model.specs.Members.{in_method}
use Rattle.source_model.specs.Nodes.{Around}
use Rattle.source_model.specs.References.{method_name, method_signature}
use Rattle.source_model.specs.Source.{Source}

pub record Signed : Type 0 where
  pub name : List ℕ
  pub sig : MethodSig

abbrev pub signed : Method → Signed
signed m = record { name = m.name; sig = m.sig }

-- a declared method, from what stands below its production
abbrev pub declared : Source → Around → Forest → Signed
declared s a m = record { name = method_name s m; sig = method_signature s (in_method a m) m }

-- a method has this name and this signature
abbrev pub is_signed : List ℕ → MethodSig → Signed → Bool
is_signed name sig m = bytes_eq m.name name && is_same_signature m.sig sig
