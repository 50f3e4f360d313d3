-- Methods and types that are shrunk one after the other, from those that are left, whose last one is the next.
use Rattle.std.proofs.Common.{◌≡◌, ◌∙◌, refl, sym, ap, subst, List, [], ◌∷◌, ◌++◌, reverse}
use Rattle.std.proofs.lemmas.List.{reverse-reverse, append-nil}
use Rattle.assembly_tree.specs.declared.members.Method.{Method}
use Rattle.assembly_tree.specs.declared.typedef.TypeDef.{TypeDef}
use Rattle.assembly_tree.specs.declared.typedef.TypeDef.TheOpen.{TypeDef-F}
use Rattle.assembly_tree.specs.declared.typedef.TypeDef.TheViews.{out-TypeDef, roll-TypeDef, out-roll-TypeDef}
use Rattle.il_shrink.specs.ShrunkAll.{IsShrunkMethod, AreShrunkMethods, IsShrunkOwn, AreShrunkTypes, none, more, IsShrunkWith}
use Rattle.il_shrink.proofs.Turning.{split_next}

module _ {A : Type 0} (Are : List A → List A → Type 0) where
  -- those before the ones that are left have been shrunk
  pub record AreBegun (all rest made : List A) : Type 0 where
    pub front : List A
    pub split : all ≡ front ++ reverse rest
    pub shrunk : Are front made

  pub begun : (all rest made : List A) → Are [] [] → rest ≡ reverse all → made ≡ [] → AreBegun all rest made
  begun all rest made base e f = record {
    front = [];
    split = sym (reverse-reverse all) ∙ ap reverse (sym e);
    shrunk = subst (Are []) (sym f) base;
  }

  pub begun_next : (all rest less made next : List A) (m n : A) → ((ms ns : List A) → Are ms ns → Are (ms ++ m ∷ []) (ns ++ n ∷ [])) →
      AreBegun all rest made → rest ≡ less ++ m ∷ [] → next ≡ made ++ n ∷ [] → AreBegun all less next
  begun_next all rest less made next m n end h e f = record {
    front = h.front ++ m ∷ [];
    split = split_next all h.front rest less m h.split e;
    shrunk = subst (Are (h.front ++ m ∷ [])) (sym f) (end h.front made h.shrunk);
  }

  pub begun_all : (all rest made : List A) → AreBegun all rest made → rest ≡ [] → Are all made
  begun_all all rest made h e =
      let is : all ≡ h.front = h.split ∙ ap (λ l. h.front ++ reverse l) e ∙ append-nil h.front in
      subst (λ l. Are l made) (sym is) h.shrunk

pub methods_end : (ms ns : List Method) (m n : Method) → IsShrunkMethod m n → AreShrunkMethods ms ns → AreShrunkMethods (ms ++ m ∷ []) (ns ++ n ∷ [])
methods_end [] [] m n one h = (one, tt)
methods_end [] (y ∷ ns) m n one h = absurd h
methods_end (x ∷ ms) [] m n one h = absurd h
methods_end (x ∷ ms) (y ∷ ns) m n one h = (h.0, methods_end ms ns m n one h.1)

pub types_end : {ts us : List TypeDef} (t u : TypeDef) → IsShrunkOwn (out-TypeDef t) (out-TypeDef u) →
    AreShrunkTypes (out-TypeDef t).nested (out-TypeDef u).nested → AreShrunkTypes ts us → AreShrunkTypes (ts ++ t ∷ []) (us ++ u ∷ [])
types_end t u own nested none = more own nested none
types_end t u own nested (more o n rest) = more o n (types_end t u own nested rest)

-- a type with its methods changed
pub methods_with : (t : TypeDef) (ms : List Method) → AreShrunkMethods (out-TypeDef t).methods ms →
    IsShrunkWith t (roll-TypeDef (record (out-TypeDef t) { methods = ms })) (out-TypeDef t).nested
methods_with t ms h =
    let o : out-TypeDef (roll-TypeDef (record (out-TypeDef t) { methods = ms })) ≡ record (out-TypeDef t) { methods = ms } = out-roll-TypeDef _ in
    rw o (record { same = refl; methods = h }, refl)

-- one whose nested types were changed before
pub type_with : (t u : TypeDef) (inner : List TypeDef) →
    IsShrunkWith (roll-TypeDef (record (out-TypeDef t) { nested = inner })) u (out-TypeDef (roll-TypeDef (record (out-TypeDef t) { nested = inner }))).nested →
    IsShrunkWith t u inner
type_with t u inner h =
    let x : TypeDef-F TypeDef = record (out-TypeDef t) { nested = inner } in
    let o : out-TypeDef (roll-TypeDef x) ≡ x = out-roll-TypeDef x in
    let v : TypeDef-F TypeDef = out-TypeDef u in
    let first : v ≡ record (out-TypeDef (roll-TypeDef x)) { methods = v.methods; nested = v.nested } = h.0.same in
    let then : record (out-TypeDef (roll-TypeDef x)) { methods = v.methods; nested = v.nested } ≡ record x { methods = v.methods; nested = v.nested } =
    ap (λ (y : TypeDef-F TypeDef). record y { methods = v.methods; nested = v.nested }) o in
    let methods : AreShrunkMethods (out-TypeDef t).methods v.methods = subst (λ (y : TypeDef-F TypeDef). AreShrunkMethods y.methods v.methods) o h.0.methods in
    (record { same = first ∙ then; methods = methods }, h.1 ∙ ap (λ (y : TypeDef-F TypeDef). y.nested) o)

pub types_next : {ts us : List TypeDef} (t u : TypeDef) (inner : List TypeDef) → IsShrunkWith t u inner → AreShrunkTypes (out-TypeDef t).nested inner →
    AreShrunkTypes ts us → AreShrunkTypes (ts ++ t ∷ []) (us ++ u ∷ [])
types_next t u inner own nested h = types_end t u own.0 (subst (λ (l : List TypeDef). AreShrunkTypes (out-TypeDef t).nested l) (sym own.1) nested) h
