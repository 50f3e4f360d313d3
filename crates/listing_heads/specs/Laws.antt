-- What the heads of methods of a listing are read as (ECMA-335 II.15.3, II.15.4, II.22.26).
use Rattle.std.specs.Prelude.{ℕ, ◌≡◌, true, [], ◌∷◌}
use Rattle.ilasm_grammar.specs.declared.nonterminals.TheConstants as n
use Rattle.ilasm_grammar.specs.declared.productions.TheConstants as p
use Rattle.assembly_tree.specs.WellFormedMembers.{is_method}
use Rattle.assembly_tree.specs.declared.assembly.Assembly.{Assembly}
use Rattle.assembly_tree.specs.declared.members.Method.{Method}
use Rattle.source_model.specs.Flags.{method_flags, implementation_flags}
use Rattle.source_model.specs.Forest as f
use Rattle.source_model.specs.Nodes.{Around}
use Rattle.source_model.specs.References.{method_name, method_signature}
use Rattle.source_model.specs.Source.{Source}
use Rattle.listing_formed.specs.Laws.{Knows}
use Rattle.listing_growth.specs.Held.{is_method_held}
use Rattle.listing_model.specs.Grown.{body_of, Grows}
use Rattle.listing_model.specs.Members.{typars}
use Rattle.listing_model.specs.Methods as written
use Rattle.listing_model.specs.Methods.{method}
use Rattle.listing_model.specs.Shown.{opt_below}
use Rattle.listing_reading.specs.Numbered.{numbered, Agrees, place}
use Rattle.listing_rows.specs.Segments.{CommasAgree, comma_parts, EachGrown}

-- where generic parameters and parameters stand in a method
abbrev pub typars_place : Assembly → Method → ℕ → ℕ
typars_place a m at = place 5 at (method a.externs m).below

abbrev pub args_place : Assembly → Method → ℕ → ℕ
args_place a m at = place 7 at (method a.externs m).below

-- The name, the flags and the signature of a method, whatever else it has; and where its generic parameters and its parameters stand, in a
-- source that has it.
pub record HeadsAreRead : Type 0 where
  pub names : (s : Source) (a : Assembly) (m : Method) → is_method a m ≡ true → Grows (body_of p.METHOD) (method a.externs m).below → (at : ℕ) →
      Agrees s at (method a.externs m).below → method_name s (numbered at (method a.externs m).below) ≡ m.name
  pub flags : (s : Source) (a : Assembly) (m : Method) → is_method a m ≡ true → is_method_held m ≡ true → Grows (body_of p.METHOD) (method a.externs m).below → (at : ℕ) →
      Agrees s at (method a.externs m).below → method_flags s (numbered at (method a.externs m).below) ≡ m.flags
  pub implementations : (s : Source) (a : Assembly) (m : Method) → is_method a m ≡ true → is_method_held m ≡ true → Grows (body_of p.METHOD) (method a.externs m).below → (at : ℕ) →
      Agrees s at (method a.externs m).below → implementation_flags s (numbered at (method a.externs m).below) ≡ m.impl_flags
  pub signatures : (s : Source) (around : Around) (a : Assembly) → Knows s a → (m : Method) → is_method a m ≡ true → is_method_held m ≡ true →
      Grows (body_of p.METHOD) (method a.externs m).below → (at : ℕ) → Agrees s at (method a.externs m).below →
      method_signature s around (numbered at (method a.externs m).below) ≡ m.sig
  pub typars : (s : Source) (a : Assembly) (m : Method) → is_method a m ≡ true → Grows (body_of p.METHOD) (method a.externs m).below → (at : ℕ) → Agrees s at (method a.externs m).below →
      (f.child (p.TYPARS_OPT_SOME ∷ []) (numbered at (method a.externs m).below) ≡ numbered (typars_place a m at) (opt_below (typars a.externs m.generics)))
      × Agrees s (typars_place a m at) (opt_below (typars a.externs m.generics))
  pub parameters : (s : Source) (a : Assembly) (m : Method) → is_method a m ≡ true → Grows (body_of p.METHOD) (method a.externs m).below → (at : ℕ) → Agrees s at (method a.externs m).below →
      (f.each p.DEF_ARG (f.child (p.DEF_ARGS_OPT_SOME ∷ []) (numbered at (method a.externs m).below)) ≡ f.below_each (comma_parts (args_place a m at) (written.parameters a.externs m.params 1 m.sig.params)))
      × EachGrown n.DEF_ARG (written.parameters a.externs m.params 1 m.sig.params) × CommasAgree s (args_place a m at) (written.parameters a.externs m.params 1 m.sig.params)
