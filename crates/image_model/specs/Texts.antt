-- What is said of an image that fails a demand.
use Rattle.std.specs.Prelude.{ℕ, ◌-◌, List, [], ◌∷◌, codes, slice_index_or}

-- the texts of the demands I1 to I24, in order
unfoldable pub demand_texts : List (List ℕ)
demand_texts =
    codes "the headers aren't a PE file's"
    ∷ codes "the machine or header isn't in the profile"
    ∷ codes "there is no CLI header"
    ∷ codes "the CLI header isn't in the profile"
    ∷ codes "the metadata root is damaged"
    ∷ codes "a table isn't in the profile"
    ∷ codes "a row is cut"
    ∷ codes "an index is out of its range"
    ∷ codes "a heap entry is damaged"
    ∷ codes "the module or assembly row is wrong"
    ∷ codes "a run is wrong"
    ∷ codes "a table isn't sorted"
    ∷ codes "nesting or a scope is wrong"
    ∷ codes "a signature is damaged"
    ∷ codes "a type or member stands twice"
    ∷ codes "a value is wrong"
    ∷ codes "a body's header is wrong"
    ∷ codes "an instruction is wrong"
    ∷ codes "a clause is wrong"
    ∷ codes "a token in a body is wrong"
    ∷ codes "an attribute is wrong"
    ∷ codes "a base is wrong"
    ∷ codes "an accessor is wrong"
    ∷ codes "the assembly is too large"
    ∷ []

-- the text of a demand
abbrev pub demand_text_of : ℕ → List ℕ
demand_text_of rule = slice_index_or demand_texts (rule - 1) []
