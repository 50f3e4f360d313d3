use Rattle.std.proofs.Common.{◌≡◌, ap, sym, ◌∙◌, Some, None}
use Rattle.std.specs.Prelude.{position, bytes_eq}
use Rattle.source_model.specs.Names.{externs, extern_key}
use Rattle.source_syntax.proofs.ScopeLemmas.{key_position, found_scope, own_scope}
use Rattle.source_syntax.proofs.place.Place.scope_named.Goals as goal

pub returns-in-Some : goal.returns-in-Some
returns-in-Some c s a x =
    found_scope s c.args.key.now c.in-Some.k c.word_of.result
    (sym (key_position s c.args.key.now) ∙ ap (position (bytes_eq c.args.key.now)) (sym x.keys) ∙ sym c.find.ensures ∙ c.in-Some.is) c.word_of.ensures x.few

pub returns-in-None : goal.returns-in-None
returns-in-None c s a x =
    own_scope s c.args.key.now
    (sym (key_position s c.args.key.now) ∙ ap (position (bytes_eq c.args.key.now)) (sym x.keys) ∙ sym c.find.ensures ∙ c.in-None.is)
