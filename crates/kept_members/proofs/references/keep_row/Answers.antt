use Rattle.std.proofs.Common.{IfNone, subst}
use Rattle.sig_codec.specs.Signature.{IsMethod}
use Rattle.type_terms.specs.declared.reference.MethodSig.{MethodSig}
use Rattle.kept_members.specs.Members.{owners_of, BlobIs}
use Rattle.kept_members.proofs.Adding.{on_ok}
use Rattle.kept_members.proofs.Naming.{used_there}
use Rattle.kept_members.proofs.references.keep_row.Goals as goal

pub method_in-requires-clause-there : goal.method_in-requires-clause-there
method_in-requires-clause-there c = used_there c.requires.used

pub returns-in-None-clause-methods : goal.returns-in-None-clause-methods
returns-in-None-clause-methods c =
    let none = subst (λ o. IfNone o ((sig : MethodSig) → BlobIs c.args.image.now (IsMethod (owners_of c.args.known.now)) 0x0A c.args.row 2 sig → ⊥)) c.in-None.is c.in_ok-sig.ensures.none in
    on_ok c.keep_field.result c.keep_field.ensures.has (λ has m. absurd (none m.1 m.2))
