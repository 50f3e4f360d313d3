use Rattle.std.proofs.Common.{◌≡◌, ℕ, [], ◌∷◌, ap, sym, ◌∙◌}
use Rattle.ilasm_grammar.specs.declared.productions.TheConstants.{KEY_PUBLICKEY, KEY_PUBLICKEYTOKEN}
use Rattle.source_model.specs.Flags.{assembly_flags_in, assembly_words, flags_of}
use Rattle.source_model.specs.Manifests.{keys, last_said, with_key}
use Rattle.source_flags.specs.InRange.{IsInRange}
use Rattle.source_flags.specs.declared.flag_rows.Row.TheVariants.{Assembly}
use Rattle.source_flags.proofs.FlagBounds.{low_is_all, row_fits}
use Rattle.source_flags.proofs.Gathered.{nothing_said, said, said_last}
use Rattle.lower_manifest.proofs.keys.flags_with_key.Goals as goal

pub returns-in-Some : goal.returns-in-Some
returns-in-Some c s f r e h =
    let l = said (IsInRange s) (KEY_PUBLICKEY ∷ KEY_PUBLICKEYTOKEN ∷ []) f c.in_ok-said.said c.in-Some.line h c.in-Some.is (c.in_ok-said.ensures f e) in
    let flags : ℕ = flags_of s assembly_words (assembly_flags_in f) in
    let low : c.assembly_flags-flags.result ≡ flags = low_is_all flags 32 c.assembly_flags-flags.result (row_fits s Assembly f h) (c.assembly_flags-flags.ensures.low s f r e) in
    c.with_key.ensures l.of l.production ∙ ap (λ m. with_key m l.of) low ∙ sym (said_last (with_key flags) flags (keys f) l.of l.last)

pub returns-in-None : goal.returns-in-None
returns-in-None c s f r e h =
    let flags : ℕ = flags_of s assembly_words (assembly_flags_in f) in
    let low : c.assembly_flags-flags.result ≡ flags = low_is_all flags 32 c.assembly_flags-flags.result (row_fits s Assembly f h) (c.assembly_flags-flags.ensures.low s f r e) in
    low ∙ ap (last_said (with_key flags) flags) (sym (nothing_said (keys f) c.in_ok-said.said c.in-None.is (c.in_ok-said.ensures f e)))
