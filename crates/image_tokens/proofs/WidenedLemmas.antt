-- What has been given stays as more comes, and as more is declared.
use base.Stored.{Coded}
use Rattle.std.proofs.Common.{◌≡◌, ap, sym, ◌∙◌, subst, ℕ, ◌<◌, ◌^◌, cond, List, [], ◌∷◌, ◌++◌, length, Some, inl, inr}
use Rattle.std.specs.List.{AllByRecursion}
use Rattle.std.proofs.lemmas.Bool.{cases_Bool}
use Rattle.std.proofs.lemmas.List.{append-nil}
use Rattle.sig_codec.specs.Spelling.{Notation}
use Rattle.sig_codec.specs.Signature.{SpellsMethod, SpellsField, SpellsLocals, SpellsInstantiation}
use Rattle.sig_codec.specs.Spelling.{SpellsType}
use Rattle.heaps.specs.Heap.{Heap}
use Rattle.type_terms.specs.declared.name.Scope.{Scope}
use Rattle.type_terms.specs.declared.name.Scope.TheVariants.{Here, Extern}
use Rattle.type_terms.specs.declared.name.TypeId.{TypeId}
use Rattle.type_terms.specs.declared.name.TypeName.{TypeName}
use Rattle.type_terms.specs.declared.reference.FieldRef.{FieldRef}
use Rattle.type_terms.specs.declared.reference.MethodRef.{MethodRef}
use Rattle.type_terms.specs.declared.term.Owner.{Owner, out-Owner}
use Rattle.type_terms.specs.declared.term.Owner.TheOpen.{Owner-F, Name, Spec}
use Rattle.type_terms.specs.declared.term.SigType.{SigType}
use Rattle.image_tokens.specs.Found.{same_term, token_in}
use Rattle.image_tokens.specs.KnownTokens.{layer_token, names_apart, types_apart}
use Rattle.image_tokens.specs.NameTokens.{NameableIn, IsScopeAmong, AreNames, Learns}
use Rattle.image_tokens.specs.References.{tokens_of, HasSignature, IsSpecToken, IsMemberRow, HasMemberToken, HasGenericToken, of_declared, of_referred, IsMethodToken, plain, instance, IsFieldToken, IsLocalsToken, IsTextToken, IsNameRow, IsSpecRow, IsLocalsRow, IsMemberSignature, IsMemberInBounds, IsReferredMember, IsInstanceRow, AreReferred, AreKnown, Widens}
use Rattle.image_tokens.specs.Rows.{EachRow}
use Rattle.image_tokens.specs.Texts.{KeepsTexts}
use Rattle.image_tokens.specs.TypePaths.{GoesOn, in_declared}
use Rattle.image_tokens.specs.Writable.{CanBeNamed}
use Rattle.image_tokens.specs.declared.references.Referred.{Referred}
use Rattle.image_tokens.specs.declared.references.References.{References}
use Rattle.image_tokens.specs.declared.row_set.Cells.{Cells}
use Rattle.image_tokens.proofs.NameLemmas.{all_weaker, names_kept}
use Rattle.image_tokens.proofs.EachRowLemmas.{each_weaker, name_lies_kept}
use Rattle.image_tokens.proofs.PathLemmas.{row_kept, text_kept, follows_kept}

-- ---- tokens

found_before : {T : Type 0} (coded : Coded T) (es more : List (T × ℕ)) (x : T) (t : ℕ) → token_in coded es x ≡ Some t → token_in coded (es ++ more) x ≡ Some t
found_before coded [] more x t at = absurd cc
found_before coded (e ∷ es) more x t at = elim (cases_Bool (same_term coded e.0 x)) [
  | inl is_so ↦
      ap (λ b. cond b (Some e.1) (token_in coded (es ++ more) x)) is_so ∙ sym (ap (λ b. cond b (Some e.1) (token_in coded es x)) is_so) ∙ at
  | inr not_so ↦
      ap (λ b. cond b (Some e.1) (token_in coded (es ++ more) x)) not_so
      ∙ found_before coded es more x t (sym (ap (λ b. cond b (Some e.1) (token_in coded es x)) not_so) ∙ at)
]

pub token_kept : {T : Type 0} (coded : Coded T) (old new : List (T × ℕ)) (x : T) (t : ℕ) → Learns old new → token_in coded old x ≡ Some t → token_in coded new x ≡ Some t
token_kept coded old new x t l at = ap (λ es. token_in coded es x) l.is ∙ found_before coded old l.more x t at

layer_kept : (n0 n1 : List (TypeName × ℕ)) (s0 s1 : List (SigType × ℕ)) (o : Owner-F Owner SigType) (t : ℕ) → Learns n0 n1 → Learns s0 s1
    → layer_token n0 s0 o ≡ Some t → layer_token n1 s1 o ≡ Some t
layer_kept n0 n1 s0 s1 (Name name) t p q at = token_kept names_apart n0 n1 name t p at
layer_kept n0 n1 s0 s1 (Spec of) t p q at = token_kept types_apart s0 s1 of t q at

pub wide_tokens : (a b : References) → Widens a b → (o : Owner) (t : ℕ) → tokens_of a o ≡ Some t → tokens_of b o ≡ Some t
wide_tokens a b g o t at = layer_kept a.known.names b.known.names a.known.specs b.known.specs (out-Owner o) t g.known_names g.known_specs at

-- ---- names that can be written

nameable_kept : (old new : Heap) (rows more : List Cells) (path : List TypeId) (scope : Scope) → KeepsTexts old new → more ≡ rows
    → NameableIn old rows path scope → NameableIn new more path scope
nameable_kept old new rows more path Here k same h =
    (h.0, follows_kept old new rows more in_declared 0 h.0 path k (record { more = []; is = same ∙ sym (append-nil rows) }) h.1)
nameable_kept old new rows more path (Extern number) k same h = h

pub wide_name : (a b : References) → Widens a b → (name : TypeName) → CanBeNamed a name → CanBeNamed b name
wide_name a b g name h = record {
  plain = h.plain;
  nameable = nameable_kept a.heaps.strings b.heaps.strings a.declared.types b.declared.types name.path name.scope g.strings g.types h.nameable;
  scope = subst (λ n. IsScopeAmong n name.scope) (sym g.externs) h.scope;
  in_bounds = h.in_bounds;
}

-- ---- what a token stands for

pub wide_signature : {X : Type 0} (Spells : Notation → X → List ℕ → Type 0) (a b : References) (x : X) (blob : ℕ) → Widens a b → HasSignature Spells a x blob
    → HasSignature Spells b x blob
wide_signature Spells a b x blob g s = record {
  bytes = s.bytes;
  holds = record { there = g.blobs.blobs blob s.bytes s.holds.there; used = g.blobs.used blob s.holds.used };
  earlier = s.earlier;
  within = λ o t e. wide_tokens a b g o t (s.within o t e);
  spells = s.spells;
}

spec_kept : (a b : References) (t : SigType) (token : ℕ) → Widens a b → IsSpecToken a t token → IsSpecToken b t token
spec_kept a b t token g h = record {
  row = h.row;
  blob = h.blob;
  at = row_kept a.referred.specs b.referred.specs _ h.row g.specs h.at;
  signature = wide_signature SpellsType a b t h.blob g h.signature;
  is = h.is;
}

member_row_kept : {X : Type 0} (Spells : Notation → X → List ℕ → Type 0) (a b : References) (rows more : List Cells) (parent : ℕ) (name : List ℕ) (x : X) (row : ℕ)
    → Widens a b → GoesOn rows more → IsMemberRow Spells a rows parent name x row → IsMemberRow Spells b more parent name x row
member_row_kept Spells a b rows more parent name x row g on h = record {
  cells = h.cells;
  at = row_kept rows more h.cells row on h.at;
  parent_is = h.parent_is;
  name_is = text_kept a.heaps.strings b.heaps.strings name h.cells.second g.strings h.name_is;
  signature = wide_signature Spells a b x h.cells.third g h.signature;
}

member_kept : {X : Type 0} (Spells : Notation → X → List ℕ → Type 0) (a b : References) (table : ℕ) (rows more : List Cells) (owner : Owner) (name : List ℕ) (x : X) (token : ℕ)
    → Widens a b → GoesOn rows more → HasMemberToken Spells a table rows owner name x token → HasMemberToken Spells b table more owner name x token
member_kept Spells a b table rows more owner name x token g on (of_declared {type = type} {row = row} o t m is) =
    of_declared (wide_tokens a b g owner type o) t (member_row_kept Spells a b rows more _ name x row g on m) is
member_kept Spells a b table rows more owner name x token g on (of_referred {type = type} {row = row} o m is) =
    of_referred (wide_tokens a b g owner type o) (member_row_kept Spells a b a.referred.members b.referred.members _ name x row g g.members m) is

pub wide_generic : (a b : References) (m : MethodRef) (token : ℕ) → Widens a b → HasGenericToken a m token → HasGenericToken b m token
wide_generic a b m token g h = member_kept SpellsMethod a b 0x06 a.declared.methods b.declared.methods m.owner m.name m.sig token g g.methods h

pub wide_method : (a b : References) (m : MethodRef) (token : ℕ) → Widens a b → IsMethodToken a m token → IsMethodToken b m token
wide_method a b m token g (plain none h) =
    plain none (member_kept SpellsMethod a b 0x06 a.declared.methods b.declared.methods m.owner m.name m.sig token g g.methods h)
wide_method a b m token g (instance {args = args} {generic = generic} {blob = blob} {row = row} some h at signature is) =
    instance some (member_kept SpellsMethod a b 0x06 a.declared.methods b.declared.methods m.owner m.name m.sig generic g g.methods h)
    (row_kept a.referred.instances b.referred.instances _ row g.instances at) (wide_signature SpellsInstantiation a b args blob g signature) is

field_kept : (a b : References) (f : FieldRef) (token : ℕ) → Widens a b → IsFieldToken a f token → IsFieldToken b f token
field_kept a b f token g h = member_kept SpellsField a b 0x04 a.declared.fields b.declared.fields f.owner f.name f.of token g g.fields h

locals_kept : (a b : References) (ts : List SigType) (token : ℕ) → Widens a b → IsLocalsToken a ts token → IsLocalsToken b ts token
locals_kept a b ts token g h = record {
  row = h.row;
  blob = h.blob;
  at = row_kept a.referred.locals b.referred.locals _ h.row g.locals h.at;
  signature = wide_signature SpellsLocals a b ts h.blob g h.signature;
  is = h.is;
}

units_kept : (a b : References) (units : List ℕ) (token : ℕ) → Widens a b → IsTextToken a units token → IsTextToken b units token
units_kept a b units token g h = record {
  index = h.index;
  holds = record { there = g.user.units h.index _ h.holds.there; used = g.user.used h.index h.holds.used };
  is = h.is;
  are_units = h.are_units;
}

-- ---- the rows of references

name_row_kept : (a b : References) (c : Cells) → Widens a b → IsNameRow a c → IsNameRow b c
name_row_kept a b c g h = record {
  name = h.name;
  can = wide_name a b g h.name h.can;
  lies = name_lies_kept a.heaps.strings b.heaps.strings a.referred.names b.referred.names h.name c g.strings g.names h.lies;
}

spec_row_kept : (a b : References) (c : Cells) → Widens a b → IsSpecRow a c → IsSpecRow b c
spec_row_kept a b c g h = record { of = h.of; blob = h.blob; are = h.are; signature = wide_signature SpellsType a b h.of h.blob g h.signature; in_bounds = h.in_bounds }

locals_row_kept : (a b : References) (c : Cells) → Widens a b → IsLocalsRow a c → IsLocalsRow b c
locals_row_kept a b c g h = record { locals = h.locals; blob = h.blob; are = h.are; signature = wide_signature SpellsLocals a b h.locals h.blob g h.signature; in_bounds = h.in_bounds }

member_signature_kept : (a b : References) (blob : ℕ) → Widens a b → IsMemberSignature a blob → IsMemberSignature b blob
member_signature_kept a b blob g (inl h) = inl (h.0, wide_signature SpellsMethod a b h.0 blob g h.1)
member_signature_kept a b blob g (inr h) = inr (h.0, wide_signature SpellsField a b h.0 blob g h.1)

member_bounds_kept : (a b : References) (blob : ℕ) (g : Widens a b) (s : IsMemberSignature a blob) → IsMemberInBounds a blob s → IsMemberInBounds b blob (member_signature_kept a b blob g s)
unfolding member_signature_kept
member_bounds_kept a b blob g (inl h) k = k
member_bounds_kept a b blob g (inr h) k = k

referred_kept : (a b : References) (c : Cells) → Widens a b → IsReferredMember a c → IsReferredMember b c
referred_kept a b c g h = record {
  owner = h.owner;
  token = h.token;
  name = h.name;
  owner_is = wide_tokens a b g h.owner h.token h.owner_is;
  parent_is = h.parent_is;
  name_is = text_kept a.heaps.strings b.heaps.strings h.name c.second g.strings h.name_is;
  signature = member_signature_kept a b c.third g h.signature;
  named = h.named;
  in_bounds = member_bounds_kept a b c.third g h.signature h.in_bounds;
}

instance_kept : (a b : References) (c : Cells) → Widens a b → IsInstanceRow a c → IsInstanceRow b c
instance_kept a b c g h = record {
  method = h.method;
  generic = h.generic;
  arguments = h.arguments;
  generic_is = wide_generic a b h.method h.generic g h.generic_is;
  first_is = h.first_is;
  signature = wide_signature SpellsInstantiation a b h.arguments c.second g h.signature;
  third_is = h.third_is;
  in_bounds = h.in_bounds;
  count = h.count;
}

-- what a later state has for the rows that there were
pub record RowsStill (b a : References) : Type 0 where
  pub names : EachRow (IsNameRow b) a.referred.names
  pub specs : EachRow (IsSpecRow b) a.referred.specs
  pub members : EachRow (IsReferredMember b) a.referred.members
  pub instances : EachRow (IsInstanceRow b) a.referred.instances
  pub locals : EachRow (IsLocalsRow b) a.referred.locals

pub rows_still : (a b : References) → Widens a b → AreReferred a → RowsStill b a
rows_still a b g h = record {
  names = each_weaker (IsNameRow a) (IsNameRow b) a.referred.names (λ c x. name_row_kept a b c g x) h.names;
  specs = each_weaker (IsSpecRow a) (IsSpecRow b) a.referred.specs (λ c x. spec_row_kept a b c g x) h.specs;
  members = each_weaker (IsReferredMember a) (IsReferredMember b) a.referred.members (λ c x. referred_kept a b c g x) h.members;
  instances = each_weaker (IsInstanceRow a) (IsInstanceRow b) a.referred.instances (λ c x. instance_kept a b c g x) h.instances;
  locals = each_weaker (IsLocalsRow a) (IsLocalsRow b) a.referred.locals (λ c x. locals_row_kept a b c g x) h.locals;
}

-- no rows have come
pub same_rows : (a b : References) → Widens a b → AreReferred a → b.referred ≡ a.referred → AreReferred b
same_rows a b g h e =
    let s = rows_still a b g h in
    record {
      names = subst (λ (r : Referred). EachRow (IsNameRow b) r.names) (sym e) s.names;
      specs = subst (λ (r : Referred). EachRow (IsSpecRow b) r.specs) (sym e) s.specs;
      members = subst (λ (r : Referred). EachRow (IsReferredMember b) r.members) (sym e) s.members;
      instances = subst (λ (r : Referred). EachRow (IsInstanceRow b) r.instances) (sym e) s.instances;
      locals = subst (λ (r : Referred). EachRow (IsLocalsRow b) r.locals) (sym e) s.locals;
    }

-- ---- all that has been given

-- what a later state has for what was known before
pub record AreStill (b a : References) : Type 0 where
  pub few : length b.declared.types < 2 ^ 24
  pub names : AreNames b.heaps.strings b.declared.types b.referred.names a.known.names
  pub specs : AllByRecursion (λ e. IsSpecToken b e.0 e.1) a.known.specs
  pub methods : AllByRecursion (λ e. IsMethodToken b e.0 e.1) a.known.methods
  pub fields : AllByRecursion (λ e. IsFieldToken b e.0 e.1) a.known.fields
  pub locals : AllByRecursion (λ e. IsLocalsToken b e.0 e.1) a.known.locals
  pub texts : AllByRecursion (λ e. IsTextToken b e.0 e.1) a.known.texts
  pub rows : RowsStill b a

pub wide_still : (a b : References) → Widens a b → AreKnown a → AreStill b a
wide_still a b g k =
    let types : b.declared.types ≡ a.declared.types = g.types in
    record {
      few = subst (λ (rows : List Cells). length rows < 2 ^ 24) (sym types) k.few;
      names = subst (λ (rows : List Cells). AreNames b.heaps.strings rows b.referred.names a.known.names) (sym types)
          (names_kept a.heaps.strings b.heaps.strings a.declared.types a.referred.names b.referred.names a.known.names g.strings g.names k.names);
      specs = all_weaker (λ e. IsSpecToken a e.0 e.1) (λ e. IsSpecToken b e.0 e.1) a.known.specs (λ e h. spec_kept a b e.0 e.1 g h) k.specs;
      methods = all_weaker (λ e. IsMethodToken a e.0 e.1) (λ e. IsMethodToken b e.0 e.1) a.known.methods (λ e h. wide_method a b e.0 e.1 g h) k.methods;
      fields = all_weaker (λ e. IsFieldToken a e.0 e.1) (λ e. IsFieldToken b e.0 e.1) a.known.fields (λ e h. field_kept a b e.0 e.1 g h) k.fields;
      locals = all_weaker (λ e. IsLocalsToken a e.0 e.1) (λ e. IsLocalsToken b e.0 e.1) a.known.locals (λ e h. locals_kept a b e.0 e.1 g h) k.locals;
      texts = all_weaker (λ e. IsTextToken a e.0 e.1) (λ e. IsTextToken b e.0 e.1) a.known.texts (λ e h. units_kept a b e.0 e.1 g h) k.texts;
      rows = rows_still a b g k.rows;
    }

-- nothing more is known
pub wide_known : (a b : References) → Widens a b → AreKnown a → b.known ≡ a.known → AreReferred b → AreKnown b
wide_known a b g k same rows =
    let s = wide_still a b g k in
    record {
      few = s.few;
      names = subst (λ es. AreNames b.heaps.strings b.declared.types b.referred.names es) (sym (ap (λ x. x.names) same)) s.names;
      specs = subst (λ es. AllByRecursion (λ e. IsSpecToken b e.0 e.1) es) (sym (ap (λ x. x.specs) same)) s.specs;
      methods = subst (λ es. AllByRecursion (λ e. IsMethodToken b e.0 e.1) es) (sym (ap (λ x. x.methods) same)) s.methods;
      fields = subst (λ es. AllByRecursion (λ e. IsFieldToken b e.0 e.1) es) (sym (ap (λ x. x.fields) same)) s.fields;
      locals = subst (λ es. AllByRecursion (λ e. IsLocalsToken b e.0 e.1) es) (sym (ap (λ x. x.locals) same)) s.locals;
      texts = subst (λ es. AllByRecursion (λ e. IsTextToken b e.0 e.1) es) (sym (ap (λ x. x.texts) same)) s.texts;
      rows = rows;
    }
