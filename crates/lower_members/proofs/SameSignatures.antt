-- Signatures that are the same are equal.
use Rattle.std.proofs.Common.{◌≡◌, ℕ, List, refl, ap, ◌∙◌}
use Rattle.std.specs.Prelude.{Bool, true, false, ◌&&◌, bytes_eq}
use Rattle.std.specs.Cmp.{IsTotalOrder}
use Rattle.std.proofs.lemmas.Slice.Eq.{bytes_eq-Decides}
use Rattle.type_terms.specs.Order.{term_order}
use Rattle.type_terms.specs.Same.{is_same_signature}
use Rattle.type_terms.specs.declared.reference.MethodSig.{MethodSig}
use Rattle.type_terms.proofs.SameLaws.{signature_itself, signature_same}
use Rattle.source_nodes.proofs.WrittenNames.{both_true}
use Rattle.lower_members.specs.SignedMethods.{Signed, is_signed}

both : (a b : Bool) → a ≡ true → b ≡ true → (a && b) ≡ true
both true b h k = k
both false b h k = absurd cc

pub signed_same : (name : List ℕ) (sig : MethodSig) (m : Signed) → is_signed name sig m ≡ true → m ≡ record { name = name; sig = sig }
signed_same name sig m e =
    let b = both_true (bytes_eq m.name name) (is_same_signature m.sig sig) e in
    let names = (bytes_eq-Decides m.name name).0 b.0 in
    let sigs = signature_same m.sig sig b.1 in
    λ k. record { name = names k; sig = sigs k }

pub signed_itself : IsTotalOrder term_order → (m : Signed) → is_signed m.name m.sig m ≡ true
signed_itself total m = both (bytes_eq m.name m.name) (is_same_signature m.sig m.sig) ((bytes_eq-Decides m.name m.name).1 refl) (signature_itself m.sig)

pub other_signed : IsTotalOrder term_order → (name : List ℕ) (sig : MethodSig) (m : Signed) → is_signed name sig m ≡ false → m ≡ record { name = name; sig = sig } → ⊥
other_signed total name sig m e same =
    let own : is_signed name sig m ≡ true = ap (is_signed name sig) same ∙ signed_itself total (record { name = name; sig = sig }) in absurd cc
