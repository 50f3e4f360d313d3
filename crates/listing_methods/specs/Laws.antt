-- What the methods of a listing are read as (ECMA-335 II.15, II.22.26, II.22.33).
use Rattle.std.specs.Prelude.{ℕ, ◌≡◌, ◌<◌, ◌^◌, true, length, Option, None, Some, ⊤}
use Rattle.ilasm_grammar.specs.declared.productions.TheConstants as p
use Rattle.assembly_tree.specs.WellFormedBodies.{offset_of}
use Rattle.assembly_tree.specs.WellFormedMembers.{is_method}
use Rattle.assembly_tree.specs.declared.assembly.Assembly.{Assembly}
use Rattle.assembly_tree.specs.declared.body.Body.{Body}
use Rattle.assembly_tree.specs.declared.members.Method.{Method}
use Rattle.source_model.specs.Members as read
use Rattle.source_model.specs.Nodes.{Around}
use Rattle.source_model.specs.Source.{Source}
use Rattle.listing_formed.specs.Laws.{Knows}
use Rattle.listing_growth.specs.Held.{is_method_held}
use Rattle.listing_model.specs.Grown.{body_of, Grows}
use Rattle.listing_model.specs.Methods as written
use Rattle.listing_reading.specs.Numbered.{numbered, Agrees}

-- the code of a method isn't too long
abbrev pub is_short_code : Option Body → Type 0
is_short_code None = ⊤
is_short_code (Some b) = offset_of b.code (length b.code) < 2 ^ 128

-- a method
abbrev pub MethodsAreRead : Type 0
MethodsAreRead =
    (s : Source) (around : Around) (a : Assembly) → Knows s a → (m : Method) → is_method a m ≡ true → is_method_held m ≡ true → is_short_code m.body →
    Grows (body_of p.METHOD) (written.method a.externs m).below → (at : ℕ) → Agrees s at (written.method a.externs m).below →
    read.method s around (numbered at (written.method a.externs m).below) ≡ m
