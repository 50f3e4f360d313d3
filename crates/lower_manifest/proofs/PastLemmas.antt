-- What is a declaration, and what stands in no instruction.
use Rattle.std.proofs.Common.{◌≡◌, [], ◌∷◌, refl}
use Rattle.std.specs.Prelude.{true}
use Rattle.ilasm_grammar.specs.Ilasm.{has_bit}
use Rattle.ilasm_grammar.specs.declared.productions.TheConstants.{DECL_MODULE, ITEM_MAXSTACK}
use Rattle.ilasm_grammar.proofs.TableCheck.{ilasm_tables}
use Rattle.source_flags.specs.Lines.{productions_of}
use Rattle.source_flags.specs.declared.gathering.Kind.TheVariants.{Overrides}
use Rattle.source_flags.specs.declared.outside.Shut.TheVariants.{Instructions}
use Rattle.lower_manifest.proofs.Among.{below_declarations, is_declaration}
use Rattle.source_flags.proofs.Apart.{is_past, mask_of}

pub module_declaration : is_declaration DECL_MODULE ≡ true
unfolding is_declaration below_declarations ilasm_tables has_bit
module_declaration = refl

pub bound_past : is_past Instructions (ITEM_MAXSTACK ∷ []) ≡ true
unfolding is_past mask_of ilasm_tables has_bit
bound_past = refl

pub overrides_past : is_past Instructions (productions_of Overrides) ≡ true
unfolding is_past mask_of ilasm_tables has_bit
overrides_past = refl
