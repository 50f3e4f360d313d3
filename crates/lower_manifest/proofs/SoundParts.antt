-- What is in range can be read: types and signatures.
use Rattle.std.proofs.Common.{inl, inr, [], ◌∷◌}
use Rattle.ilasm_grammar.specs.declared.productions.TheConstants.{DEF_ARGS_OPT_SOME, SIGNATURE, TYPE}
use Rattle.source_model.specs.Forest.{Forest, child}
use Rattle.source_model.specs.Source.{Source}
use Rattle.source_syntax.specs.Sound.{HasSoundMethod, HasSoundProperty, HasSoundType}
use Rattle.source_syntax.proofs.ReferenceLemmas.{of_child}
use Rattle.source_flags.specs.InRange.{AllInRange, IsInRange}
use Rattle.source_flags.proofs.FlagBounds.{child_or_none}
use Rattle.source_flags.proofs.Gathered.{readable}

module _ (s : Source) (f : Forest) (each : AllInRange s f) where
  pub sound_type : HasSoundType s f
  sound_type = elim (child_or_none (IsInRange s) TYPE f each) [
    | inl e ↦ record { fits = inl e; each = readable s (child (TYPE ∷ []) f) (of_child (IsInRange s) (TYPE ∷ []) f each) }
    | inr h ↦ record { fits = inr h.0.fits; each = readable s (child (TYPE ∷ []) f) h.1 }
  ]

  pub sound_method : HasSoundMethod s f
  sound_method = record {
    ret = sound_type;
    parameters = readable s (child (DEF_ARGS_OPT_SOME ∷ []) f) (of_child (IsInRange s) (DEF_ARGS_OPT_SOME ∷ []) f each);
  }

  pub sound_property : HasSoundProperty s f
  sound_property = record {
    ret = sound_type;
    parameters = readable s (child (SIGNATURE ∷ []) f) (of_child (IsInRange s) (SIGNATURE ∷ []) f each);
  }
