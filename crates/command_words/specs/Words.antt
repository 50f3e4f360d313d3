-- What the words of a command line ask for. A table says how often each kind of word stands behind a command, at least and at
-- most; options stand before or behind FILE.
use Rattle.std.specs.Prelude.{ℕ, suc, ◌-◌, ◌==◌, ◌||◌, ◌&&◌, Bool, true, false, if◌then◌else◌, List, [], ◌∷◌, ◌++◌, Option, None, Some, nat_lt, length, take, drop, codes, slice_index, find, count_by}
use Rattle.std.specs.Option.{option_map_or}
use Rattle.std.specs.Str.{bytes_eq}
use Rattle.pe_layout.specs.declared.parts.Kind.{Kind}
use Rattle.pe_layout.specs.declared.parts.Kind.TheVariants.{Exe, Dll}
use Rattle.command_words.specs.declared.command.Command.{Command}
use Rattle.command_words.specs.declared.command.Command.TheVariants as command
use Rattle.command_words.specs.declared.shape.Shape.{Shape}
use Rattle.command_words.specs.declared.shape.Shape.TheVariants.{Ilasm}
use Rattle.command_words.specs.declared.slot.Slot.{Slot}
use Rattle.command_words.specs.declared.slot.Slot.TheVariants as slot

-- ---- words by themselves

-- a word that doesn't begin with `-` is a file; `-dll` and `-exe` say the kind; `-output=NAME`, where NAME isn't empty, the output;
-- `-optimize` asks for short branches
unfoldable pub slot_of : List ℕ → Option Slot
slot_of word =
    if slice_index word 0 == 45 then
    if bytes_eq word (codes "-dll") || bytes_eq word (codes "-exe") then Some slot.Kind
    else if bytes_eq word (codes "-optimize") then Some slot.Optimize
    else if bytes_eq (take 8 word) (codes "-output=") && nat_lt 8 (length word) then Some slot.Output else None
    else Some slot.File

abbrev pub same_slot : Slot → Slot → Bool
same_slot slot.File slot.File = true
same_slot slot.Kind slot.Kind = true
same_slot slot.Output slot.Output = true
same_slot slot.Optimize slot.Optimize = true
same_slot _ _ = false

abbrev pub is_slot : Slot → List ℕ → Bool
is_slot slot word = option_map_or (λ found. same_slot found slot) (slot_of word) false

-- ---- the table

-- the command that the first word names
abbrev pub shape_of : List ℕ → Option Shape
shape_of word = if bytes_eq word (codes "ilasm") then Some Ilasm else None

-- how often words of a kind stand behind a command at least
abbrev pub least : Shape → Slot → ℕ
least Ilasm slot.File = 1
least Ilasm slot.Kind = 0
least Ilasm slot.Output = 0
least Ilasm slot.Optimize = 0

-- and at most
abbrev pub most : Shape → Slot → ℕ
most Ilasm slot.File = 1
most Ilasm slot.Kind = 1
most Ilasm slot.Output = 1
most Ilasm slot.Optimize = 1

-- ---- words behind a command

-- how many of the words are of this kind
abbrev pub count : Slot → List (List ℕ) → ℕ
count slot words = count_by (λ word. is_slot slot word) words

-- a word fits behind others: it is of a kind of which fewer stand there than may
abbrev pub fits_behind : Shape → List (List ℕ) → List ℕ → Bool
fits_behind shape before word = option_map_or (λ slot. nat_lt (count slot before) (most shape slot)) (slot_of word) false

-- a word is missing
abbrev pub lacks : Shape → List (List ℕ) → Bool
lacks shape words =
    nat_lt (count slot.File words) (least shape slot.File) || nat_lt (count slot.Kind words) (least shape slot.Kind)
    || nat_lt (count slot.Output words) (least shape slot.Output) || nat_lt (count slot.Optimize words) (least shape slot.Optimize)

-- The number of the first word that doesn't fit behind those before it; the words count from n. Where all fit and one is missing,
-- the number behind the last.
abbrev pub misfit_behind : Shape → ℕ → List (List ℕ) → List (List ℕ) → Option ℕ
misfit_behind shape n before [] = if lacks shape before then Some n else None
misfit_behind shape n before (word ∷ more) = if fits_behind shape before word then misfit_behind shape (suc n) (before ++ word ∷ []) more else Some n

-- the first word that doesn't fit; the command is word 1
unfoldable pub usage_fault : List (List ℕ) → Option ℕ
usage_fault [] = Some 1
usage_fault (word ∷ more) = option_map_or (λ shape. misfit_behind shape 2 [] more) (shape_of word) (Some 1)

-- ---- what is asked for

-- the first of the words that is of a kind
abbrev pub first_of : Slot → List (List ℕ) → Option (List ℕ)
first_of slot words = find (λ word. is_slot slot word) words

abbrev pub file_among : List (List ℕ) → List ℕ
file_among words = option_map_or (λ word. word) (first_of slot.File words) []

-- the kind that a word says
abbrev pub kind_said : List ℕ → Kind
kind_said word = if bytes_eq word (codes "-dll") then Dll else Exe

abbrev pub kind_among : List (List ℕ) → Kind
kind_among words = option_map_or kind_said (first_of slot.Kind words) Exe

-- whether short branches are asked for
abbrev pub optimize_among : List (List ℕ) → Bool
optimize_among words = option_map_or (λ word. true) (first_of slot.Optimize words) false

-- a name without its last `.il`
abbrev pub stem_of : List ℕ → List ℕ
stem_of name = if bytes_eq (drop (length name - 3) name) (codes ".il") then take (length name - 3) name else name

abbrev pub extension_of : Kind → List ℕ
extension_of Exe = codes ".exe"
extension_of Dll = codes ".dll"

-- NAME of the output that is asked for; else FILE without a last `.il`, and with an extension for the kind
abbrev pub output_among : List (List ℕ) → List ℕ
output_among words =
    option_map_or (λ word. drop 8 word) (first_of slot.Output words) (stem_of (file_among words) ++ extension_of (kind_among words))

-- what words behind a command ask for, where they fit
abbrev pub command_by : Shape → List (List ℕ) → Command
command_by Ilasm words = command.Ilasm (file_among words) (kind_among words) (optimize_among words) (output_among words)

-- what the words of a line ask for, where they fit (where the first names no command, what stands here is of no account)
unfoldable pub command_of : List (List ℕ) → Command
command_of [] = command_by Ilasm []
command_of (word ∷ more) = command_by (option_map_or (λ shape. shape) (shape_of word) Ilasm) more
