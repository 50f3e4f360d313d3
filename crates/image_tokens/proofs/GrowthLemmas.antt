-- What has been given stays as more comes.
use Rattle.std.proofs.Common.{◌≡◌, ap, refl, sym, ◌∙◌, subst, ℕ, List, [], ◌∷◌, ◌++◌, Some}
use Rattle.std.specs.List.{AllByRecursion}
use Rattle.std.proofs.lemmas.List.{append-nil, append_assoc}
use Rattle.sig_codec.specs.Spelling.{Notation}
use Rattle.type_terms.specs.declared.reference.MethodRef.{MethodRef}
use Rattle.type_terms.specs.declared.term.Owner.{Owner}
use Rattle.image_tokens.specs.NameTokens.{Learns}
use Rattle.image_tokens.specs.References.{tokens_of, HasSignature, HasGenericToken, IsMethodToken, AreKnown, Grows, Widens}
use Rattle.image_tokens.specs.TypePaths.{GoesOn}
use Rattle.image_tokens.specs.declared.references.References.{References}
use Rattle.image_tokens.specs.declared.row_set.Cells.{Cells}
use Rattle.image_tokens.proofs.NameLemmas.{all_more}
use Rattle.image_tokens.proofs.PathLemmas.{keeps_trans, goes_on_trans}
use Rattle.image_tokens.proofs.WidenedLemmas.{AreStill, wide_tokens, wide_signature, wide_generic, wide_method, wide_still, same_rows, wide_known}
pub use Rattle.image_tokens.proofs.WidenedLemmas.{token_kept}

learns_nothing : {T : Type 0} (es : List (T × ℕ)) → Learns es es
learns_nothing es = record { more = []; is = sym (append-nil es) }

learns_trans : {T : Type 0} (a b c : List (T × ℕ)) → Learns a b → Learns b c → Learns a c
learns_trans a b c p q = record { more = p.more ++ q.more; is = q.is ∙ ap (λ es. es ++ q.more) p.is ∙ append_assoc a p.more q.more }

pub learns_one : {T : Type 0} (old new : List (T × ℕ)) (x : T) (t : ℕ) → new ≡ old ++ (x, t) ∷ [] → Learns old new
learns_one old new x t e = record { more = (x, t) ∷ []; is = e }

goes_nowhere : (rows : List Cells) → GoesOn rows rows
goes_nowhere rows = record { more = []; is = sym (append-nil rows) }

pub grows_refl : (r : References) → Grows r r
grows_refl r = record {
  strings = record { texts = λ i t h. h; used = λ i h. h };
  blobs = record { blobs = λ i b h. h; used = λ i h. h };
  user = record { units = λ i u h. h; used = λ i h. h };
  declared = refl;
  names = goes_nowhere r.referred.names;
  specs = goes_nowhere r.referred.specs;
  members = goes_nowhere r.referred.members;
  instances = goes_nowhere r.referred.instances;
  locals = goes_nowhere r.referred.locals;
  known_names = learns_nothing r.known.names;
  known_specs = learns_nothing r.known.specs;
  known_methods = learns_nothing r.known.methods;
  known_fields = learns_nothing r.known.fields;
  known_locals = learns_nothing r.known.locals;
  known_texts = learns_nothing r.known.texts;
}

pub grows_trans : (a b c : References) → Grows a b → Grows b c → Grows a c
grows_trans a b c p q = record {
  strings = keeps_trans a.heaps.strings b.heaps.strings c.heaps.strings p.strings q.strings;
  blobs = record { blobs = λ i t h. q.blobs.blobs i t (p.blobs.blobs i t h); used = λ i h. q.blobs.used i (p.blobs.used i h) };
  user = record { units = λ i t h. q.user.units i t (p.user.units i t h); used = λ i h. q.user.used i (p.user.used i h) };
  declared = q.declared ∙ p.declared;
  names = goes_on_trans a.referred.names b.referred.names c.referred.names p.names q.names;
  specs = goes_on_trans a.referred.specs b.referred.specs c.referred.specs p.specs q.specs;
  members = goes_on_trans a.referred.members b.referred.members c.referred.members p.members q.members;
  instances = goes_on_trans a.referred.instances b.referred.instances c.referred.instances p.instances q.instances;
  locals = goes_on_trans a.referred.locals b.referred.locals c.referred.locals p.locals q.locals;
  known_names = learns_trans a.known.names b.known.names c.known.names p.known_names q.known_names;
  known_specs = learns_trans a.known.specs b.known.specs c.known.specs p.known_specs q.known_specs;
  known_methods = learns_trans a.known.methods b.known.methods c.known.methods p.known_methods q.known_methods;
  known_fields = learns_trans a.known.fields b.known.fields c.known.fields p.known_fields q.known_fields;
  known_locals = learns_trans a.known.locals b.known.locals c.known.locals p.known_locals q.known_locals;
  known_texts = learns_trans a.known.texts b.known.texts c.known.texts p.known_texts q.known_texts;
}

-- nothing more is declared
widened_rows : (old new : List Cells) → new ≡ old → GoesOn old new
widened_rows old new e = record { more = []; is = e ∙ sym (append-nil old) }

pub widened : (a b : References) → Grows a b → Widens a b
widened a b g = record {
  strings = g.strings;
  blobs = g.blobs;
  user = g.user;
  types = ap (λ d. d.types) g.declared;
  externs = ap (λ d. d.externs) g.declared;
  fields = widened_rows a.declared.fields b.declared.fields (ap (λ d. d.fields) g.declared);
  methods = widened_rows a.declared.methods b.declared.methods (ap (λ d. d.methods) g.declared);
  names = g.names;
  specs = g.specs;
  members = g.members;
  instances = g.instances;
  locals = g.locals;
  known_names = g.known_names;
  known_specs = g.known_specs;
  known_methods = g.known_methods;
  known_fields = g.known_fields;
  known_locals = g.known_locals;
  known_texts = g.known_texts;
}

pub widens_trans : (a b c : References) → Widens a b → Widens b c → Widens a c
widens_trans a b c p q = record {
  strings = keeps_trans a.heaps.strings b.heaps.strings c.heaps.strings p.strings q.strings;
  blobs = record { blobs = λ i t h. q.blobs.blobs i t (p.blobs.blobs i t h); used = λ i h. q.blobs.used i (p.blobs.used i h) };
  user = record { units = λ i t h. q.user.units i t (p.user.units i t h); used = λ i h. q.user.used i (p.user.used i h) };
  types = q.types ∙ p.types;
  externs = q.externs ∙ p.externs;
  fields = goes_on_trans a.declared.fields b.declared.fields c.declared.fields p.fields q.fields;
  methods = goes_on_trans a.declared.methods b.declared.methods c.declared.methods p.methods q.methods;
  names = goes_on_trans a.referred.names b.referred.names c.referred.names p.names q.names;
  specs = goes_on_trans a.referred.specs b.referred.specs c.referred.specs p.specs q.specs;
  members = goes_on_trans a.referred.members b.referred.members c.referred.members p.members q.members;
  instances = goes_on_trans a.referred.instances b.referred.instances c.referred.instances p.instances q.instances;
  locals = goes_on_trans a.referred.locals b.referred.locals c.referred.locals p.locals q.locals;
  known_names = learns_trans a.known.names b.known.names c.known.names p.known_names q.known_names;
  known_specs = learns_trans a.known.specs b.known.specs c.known.specs p.known_specs q.known_specs;
  known_methods = learns_trans a.known.methods b.known.methods c.known.methods p.known_methods q.known_methods;
  known_fields = learns_trans a.known.fields b.known.fields c.known.fields p.known_fields q.known_fields;
  known_locals = learns_trans a.known.locals b.known.locals c.known.locals p.known_locals q.known_locals;
  known_texts = learns_trans a.known.texts b.known.texts c.known.texts p.known_texts q.known_texts;
}

pub tokens_kept : (a b : References) → Grows a b → (o : Owner) (t : ℕ) → tokens_of a o ≡ Some t → tokens_of b o ≡ Some t
tokens_kept a b g o t at = wide_tokens a b (widened a b g) o t at

pub signature_kept : {X : Type 0} (Spells : Notation → X → List ℕ → Type 0) (a b : References) (x : X) (blob : ℕ) → Grows a b → HasSignature Spells a x blob
    → HasSignature Spells b x blob
signature_kept Spells a b x blob g s = wide_signature Spells a b x blob (widened a b g) s

pub generic_kept : (a b : References) (m : MethodRef) (token : ℕ) → Grows a b → HasGenericToken a m token → HasGenericToken b m token
generic_kept a b m token g h = wide_generic a b m token (widened a b g) h

pub method_kept : (a b : References) (m : MethodRef) (token : ℕ) → Grows a b → IsMethodToken a m token → IsMethodToken b m token
method_kept a b m token g h = wide_method a b m token (widened a b g) h

pub still : (a b : References) → Grows a b → AreKnown a → AreStill b a
still a b g k = wide_still a b (widened a b g) k

pub still_known : (a b : References) → Grows a b → AreKnown a → b.known ≡ a.known → b.referred ≡ a.referred → AreKnown b
still_known a b g k same rows = wide_known a b (widened a b g) k same (same_rows a b (widened a b g) k.rows rows)

-- all of a list and one more
pub all_and : {X : Type 0} (P : X → Type 0) (old new : List X) (x : X) → AllByRecursion P old → P x → new ≡ old ++ x ∷ [] → AllByRecursion P new
all_and P old new x all p e = subst (λ xs. AllByRecursion P xs) (sym e) (all_more P old x all p)
