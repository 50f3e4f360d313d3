-- The entry point (ECMA-335 II.15.4.1.2, II.25.3.3.2).
use Rattle.std.specs.Prelude.{◌≡◌, ℕ, ◌↔◌, true, List, Some, slice_get}
use Rattle.assembly_tree.specs.declared.members.Method.{Method}
use Rattle.image_rows.specs.Filled.{entry_from}
use Rattle.image_model.specs.Rows.{token_of}
use Rattle.laws_image_parts.specs.AtRows.{AtEach}

-- no two methods are the entry point
abbrev pub HaveOneEntry : List Method → Type 0
HaveOneEntry methods = (j k : ℕ) (m n : Method) → slice_get methods j ≡ Some m → slice_get methods k ≡ Some n → m.entry ≡ true → n.entry ≡ true → j ≡ k

-- a method is the entry point exactly where the header's token is that of its row
abbrev pub EntryIsRead : Type 0
EntryIsRead = (methods : List Method) → HaveOneEntry methods → AtEach (λ row (m : Method). (m.entry ≡ true) ↔ (entry_from 1 methods ≡ token_of 0x06 row)) 1 methods
