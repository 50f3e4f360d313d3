-- The texts of a method, of a type by its layer, and of an assembly; the heap without texts.
use Rattle.std.proofs.Common.{◌≡◌, ◌∙◌, ap, refl, sym, subst, ℕ, ◌+◌, ◌<◌, List, [], ◌∷◌, ◌++◌, map, length, Option, Some, None, arith}
use Rattle.std.specs.Prelude.{Contains}
use Rattle.std.specs.List.{flat_map}
use Rattle.assembly_tree.specs.Room.{Units, instruction_texts, body_texts, method_texts, typedef_texts_step, typedef_texts, texts}
use Rattle.assembly_tree.specs.declared.assembly.Assembly.{Assembly}
use Rattle.assembly_tree.specs.declared.body.Body.{Body}
use Rattle.assembly_tree.specs.declared.members.Method.{Method}
use Rattle.assembly_tree.specs.declared.typedef.TypeDef.{TypeDef}
use Rattle.assembly_tree.specs.declared.typedef.TypeDef.TheViews.{out-TypeDef}
use Rattle.assembly_tree.specs.declared.typedef.TypeDef.TheFolds.{fold_out-TypeDef}
use Rattle.heaps.specs.Heap.{Heap}
use Rattle.image_tokens.specs.Loaded.{AreLoaded}

pub flat_mapped : (ts : List TypeDef) → flat_map (λ xs. xs) (map typedef_texts ts) ≡ flat_map typedef_texts ts
flat_mapped [] = refl
flat_mapped (t ∷ ts) = ap (λ xs. typedef_texts t ++ xs) (flat_mapped ts)

-- a type's texts are those of its methods and those of the types that it nests
pub typedef_texts_out : (t : TypeDef) → typedef_texts t ≡ flat_map method_texts (out-TypeDef t).methods ++ flat_map typedef_texts (out-TypeDef t).nested
typedef_texts_out t =
    fold_out-TypeDef (List Units) typedef_texts_step t ∙ ap (λ xs. flat_map method_texts (out-TypeDef t).methods ++ xs) (flat_mapped (out-TypeDef t).nested)

pub without_body : (m : Method) → m.body ≡ None → method_texts m ≡ []
unfolding method_texts body_texts
without_body m none = ap body_texts none

pub with_body : (m : Method) (b : Body) → m.body ≡ Some b → method_texts m ≡ flat_map instruction_texts b.code
unfolding method_texts body_texts
with_body m b some = ap body_texts some

pub whole_texts : (a : Assembly) → texts a ≡ flat_map method_texts a.methods ++ flat_map typedef_texts a.types
unfolding texts
whole_texts a = refl

nothing : (index : ℕ) → Contains [] index → ⊥
nothing index (k, less, is) = omega (arith, less)

pub none_loaded : (user : Heap) → user ≡ record { bytes = 0 ∷ []; used = [] } → AreLoaded user []
none_loaded user is = subst (λ (h : Heap). AreLoaded h []) (sym is) (record { units = tt; each = tt; only = λ index there. absurd (nothing index there); size = refl })
