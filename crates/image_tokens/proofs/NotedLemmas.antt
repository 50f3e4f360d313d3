-- A type is noted once its parts are.
use Rattle.std.proofs.Common.{◌≡◌, ap, sym, ◌∙◌, subst, ℕ, ◌+◌, ◌<◌, ◌≤◌, Bool, List, [], ◌∷◌, length, Option, Some, inl, inr, arith}
use Rattle.std.specs.Prelude.{sum_by}
use Rattle.std.proofs.lemmas.List.Sums.{sum_by-cons}
use Rattle.type_terms.specs.declared.name.TypeName.{TypeName}
use Rattle.type_terms.specs.declared.term.Owner.{Owner, fold_out-Owner, map-Owner}
use Rattle.type_terms.specs.declared.term.Owner.TheVariants as owners
use Rattle.type_terms.specs.declared.term.Owner.TheOpen as layer
use Rattle.type_terms.specs.declared.term.SigType.{SigType, out-SigType}
use Rattle.type_terms.specs.declared.term.SigType.TheVariants as type
use Rattle.assembly_tree.specs.Weight as weight
use Rattle.assembly_tree.specs.Weight.{type_weight, owner_weight, name_weight}
use Rattle.sig_codec.specs.Spellable.{HasToken, HasDeclaredToken, CanBePacked, IsShape, HasSpelling, HasParts, HaveSpellings}
use Rattle.sig_codec.specs.Spellable as spellable
use Rattle.sig_codec.specs.Spelling.{Layer}
use Rattle.sig_codec.specs.Tokens.{IsTypeToken, IsDeclared}
use Rattle.image_tokens.specs.Noted.{longest, IsNamed, IsOwned, IsSpecified, IsNoted, AreNoted}
use Rattle.image_tokens.specs.References.{tokens_of, size, Grows, AreKnown}
use Rattle.image_tokens.specs.Writable.{AreWritable}
use Rattle.image_tokens.specs.declared.references.References.{References}
use Rattle.image_tokens.proofs.GrowthLemmas.{grows_refl, grows_trans, tokens_kept}
use Rattle.image_tokens.proofs.SpellingSizes.{layer_longest, layer_weight, longest_at, weight_at, longest-args, weight-args}
use Rattle.image_tokens.proofs.WritableLemmas.{still_spelled, still_writable_each, of_more}

pub kind_of : (token : ℕ) → IsDeclared token → IsTypeToken token
kind_of token (inl e) = inl e
kind_of token (inr e) = inr (inl e)

-- ---- owners

pub name_owner_weight : (o : Owner) (n : TypeName) → o ≡ owners.Name n → owner_weight o ≡ name_weight n
name_owner_weight o n e = ap owner_weight e ∙ fold_out-Owner ℕ ℕ weight.owner_step weight.type_step (owners.Name n)
    ∙ ap (λ l. weight.owner_step (map-Owner Owner SigType ℕ ℕ owner_weight type_weight l)) (owners.outs-Name n)

pub spec_owner_weight : (o : Owner) (t : SigType) → o ≡ owners.Spec t → owner_weight o ≡ type_weight t
spec_owner_weight o t e = ap owner_weight e ∙ fold_out-Owner ℕ ℕ weight.owner_step weight.type_step (owners.Spec t)
    ∙ ap (λ l. weight.owner_step (map-Owner Owner SigType ℕ ℕ owner_weight type_weight l)) (owners.outs-Spec t)

pub owned_name : (a b : References) (o : Owner) (n : TypeName) (token : ℕ) → o ≡ owners.Name n → IsNamed a b n token → IsOwned a b o token
owned_name a b o n token e h = record {
  grows = h.grows;
  known = h.known;
  room = (let weight = name_owner_weight o n e in let room = h.room in omega arith);
  token_is = subst (λ (x : Owner). tokens_of b x ≡ Some token) (sym e) h.token_is;
  kind = kind_of token h.declared;
}

pub owned_type : (a b c : References) (o : Owner) (t : SigType) (token : ℕ) → o ≡ owners.Spec t → IsNoted a b t → IsSpecified b c t (longest t + 12) token → IsOwned a c o token
owned_type a b c o t token e n h = record {
  grows = grows_trans a b c n.grows h.grows;
  known = h.known;
  room = (let weight = spec_owner_weight o t e in let room = n.room in let more = h.room in omega arith);
  token_is = subst (λ (x : Owner). tokens_of c x ≡ Some token) (sym e) h.token_is;
  kind = h.kind;
}

-- ---- types

pub spelled : (tokens : Owner → Option ℕ) (t u : SigType) (l : Layer) → t ≡ u → out-SigType u ≡ l → HasParts tokens l → HasSpelling tokens t
spelled tokens t u l e f h = spellable.made (subst (HasParts tokens) (sym (ap out-SigType e ∙ f)) h)

-- a type without names
pub noted_leaf : (a : References) (t u : SigType) (l : Layer) → t ≡ u → out-SigType u ≡ l → AreKnown a → HasParts (tokens_of a) l → layer_longest l + 12 ≤ layer_weight l → IsNoted a a t
noted_leaf a t u l e f known h le = record {
  grows = grows_refl a;
  known = known;
  room = (let long = longest_at t u l e f in let heavy = weight_at t u l e f in omega arith);
  spells = spelled (tokens_of a) t u l e f h;
}

-- a name
pub noted_name : (a b : References) (t u : SigType) (l : Layer) (n : TypeName) (token : ℕ) → t ≡ u → out-SigType u ≡ l → IsNamed a b n token
    → (HasDeclaredToken (tokens_of b) n → HasParts (tokens_of b) l) → layer_longest l + 12 + name_weight n ≤ layer_weight l → IsNoted a b t
noted_name a b t u l n token e f h parts le = record {
  grows = h.grows;
  known = h.known;
  room = (let long = longest_at t u l e f in let heavy = weight_at t u l e f in let room = h.room in omega arith);
  spells = spelled (tokens_of b) t u l e f (parts (token, h.token_is, kind_of token h.declared, h.declared));
}

-- a type round another
pub noted_round : (a b : References) (t u of of' : SigType) (l : Layer) → t ≡ u → out-SigType u ≡ l → of' ≡ of → IsNoted a b of'
    → (HasSpelling (tokens_of b) of → HasParts (tokens_of b) l) → layer_longest l + type_weight of ≤ layer_weight l + longest of → IsNoted a b t
noted_round a b t u of of' l e f same h parts le = record {
  grows = h.grows;
  known = h.known;
  room = (let long = longest_at t u l e f in let heavy = weight_at t u l e f in let room = h.room in let p = ap longest same in let q = ap type_weight same in omega arith);
  spells = spelled (tokens_of b) t u l e f (parts (subst (λ (x : SigType). HasSpelling (tokens_of b) x) same h.spells));
}

-- an instantiation
pub noted_inst : (a b c : References) (t : SigType) (v : Bool) (n : TypeName) (args args' : List SigType) (token : ℕ) → t ≡ type.Inst v n args → args' ≡ args
    → IsNamed a b n token → 0 < length args → CanBePacked (length args) → AreNoted b c args' → IsNoted a c t
noted_inst a b c t v n args args' token e same h some few each =
    let l : Layer = layer.Inst v n args in
    record {
      grows = grows_trans a b c h.grows each.grows;
      known = each.known;
      room =
          let long = longest_at t (type.Inst v n args) l e (type.outs-Inst v n args) in
          let heavy = weight_at t (type.Inst v n args) l e (type.outs-Inst v n args) in
          let p = longest-args args in
          let q = weight-args args in
          let first = h.room in
          let rest = each.room in
          let i = ap (sum_by longest) same in
          let j = ap (sum_by type_weight) same in
          omega arith;
      spells = spelled (tokens_of c) t (type.Inst v n args) l e (type.outs-Inst v n args)
          (spellable.inst (token, tokens_kept b c each.grows (owners.Name n) token h.token_is, kind_of token h.declared) some few
          (subst (λ (x : List SigType). HaveSpellings (tokens_of c) x) same each.spells));
    }

-- a modified type
pub noted_modified : (a b c : References) (t : SigType) (q : Bool) (by by' : Owner) (of of' : SigType) (token : ℕ) → t ≡ type.Mod q by of → by' ≡ by → of' ≡ of
    → IsOwned a b by' token → IsNoted b c of' → IsNoted a c t
noted_modified a b c t q by by' of of' token e same_by same_of o h =
    let l : Layer = layer.Mod q by of in
    record {
      grows = grows_trans a b c o.grows h.grows;
      known = h.known;
      room =
          let long = longest_at t (type.Mod q by of) l e (type.outs-Mod q by of) in
          let heavy = weight_at t (type.Mod q by of) l e (type.outs-Mod q by of) in
          let first = o.room in
          let rest = h.room in
          let i = ap owner_weight same_by in
          let j = ap type_weight same_of in
          let k = ap longest same_of in
          omega arith;
      spells = spelled (tokens_of c) t (type.Mod q by of) l e (type.outs-Mod q by of)
          (spellable.modified (token, tokens_kept b c h.grows by token (subst (λ (x : Owner). tokens_of b x ≡ Some token) same_by o.token_is), o.kind)
          (subst (λ (x : SigType). HasSpelling (tokens_of c) x) same_of h.spells));
    }

-- ---- several types, in order

-- those before `rest` are noted
pub record AreNotedTo (old new : References) (ts rest : List SigType) : Type 0 where
  pub grows : Grows old new
  pub known : AreKnown new
  pub room : size new + sum_by type_weight rest + sum_by longest ts ≤ size old + sum_by type_weight ts + sum_by longest rest
  pub shorter : sum_by longest rest ≤ sum_by longest ts
  pub writable : AreWritable new rest
  pub spells : (later : References) → Grows new later → HaveSpellings (tokens_of later) rest → HaveSpellings (tokens_of later) ts

pub to_begin : (a : References) (ts : List SigType) → AreKnown a → AreWritable a ts → AreNotedTo a a ts ts
to_begin a ts known h = record {
  grows = grows_refl a;
  known = known;
  room = omega arith;
  shorter = omega arith;
  writable = h;
  spells = λ later g s. s;
}

pub to_go_on : (a b c : References) (ts rest more : List SigType) (t : SigType) → rest ≡ t ∷ more → AreNotedTo a b ts rest → IsNoted b c t → AreNotedTo a c ts more
to_go_on a b c ts rest more t e so_far h =
    let long = ap (sum_by longest) e ∙ sum_by-cons longest t more in
    let heavy = ap (sum_by type_weight) e ∙ sum_by-cons type_weight t more in
    record {
      grows = grows_trans a b c so_far.grows h.grows;
      known = h.known;
      room = (let room = so_far.room in let one = h.room in omega arith);
      shorter = (let shorter = so_far.shorter in omega arith);
      writable = still_writable_each b c h.grows more (of_more b t more (subst (λ (x : List SigType). AreWritable b x) e so_far.writable)).1;
      spells = λ later g s. so_far.spells later (grows_trans b c later h.grows g)
          (subst (λ (x : List SigType). HaveSpellings (tokens_of later) x) (sym e) (spellable.more (still_spelled c later g t h.spells) s));
    }

pub to_end : (a b : References) (ts rest : List SigType) → rest ≡ [] → AreNotedTo a b ts rest → AreNoted a b ts
to_end a b ts rest e h =
    let long = ap (sum_by longest) e in
    let heavy = ap (sum_by type_weight) e in
    record {
      grows = h.grows;
      known = h.known;
      room = (let room = h.room in omega arith);
      spells = h.spells b (grows_refl b) (subst (λ (x : List SigType). HaveSpellings (tokens_of b) x) (sym e) spellable.none);
    }
