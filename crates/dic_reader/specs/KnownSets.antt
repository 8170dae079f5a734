-- Flag texts that were read, and entries that have their flags.
use Rattle.std.specs.Prelude.{◌≡◌, ℕ, ◌<◌, List, [], length, slice_get, Some, Ok}
use Rattle.std.specs.Borrow.{Bor}
use Rattle.std.specs.Option.{option_map_or}
use Rattle.std.specs.Str.{bytes_eq, chars}
use Rattle.std.specs.String.{string_bytes}
use Rattle.indexmap.specs.IndexMap.{IndexMap, get}
use Rattle.spell_types.specs.declared.Affixes.{Affixes}
use Rattle.spell_types.specs.declared.Entry.{Entry}
use Rattle.spell_types.specs.declared.flags.Flag.{Flag}
use Rattle.spell_types.specs.Flags.{AreOrdinary}
use Rattle.spell_types.specs.Sanity.{HasOrdinaryFlags}
use Rattle.flag_sets.specs.FlagTexts.{flag_field}
use Rattle.dic_reader.specs.declared.known_sets.Flags.{Flags}
use Rattle.dic_reader.specs.declared.known_sets.Flags.TheVariants.{Like, New}
use Rattle.dic_reader.specs.declared.known_sets.FoundEntry.{FoundEntry}
use Rattle.dic_reader.specs.declared.words.Word.{Word}
use Rattle.dic_reader.specs.declared.words.Word.TheVariants.{Written, Made}

-- the text is a flag field, and this is its set
pub record IsSetOf (affixes : Affixes) (text : List ℕ) (set : List Flag) : Type 0 where
  pub field : flag_field affixes.kind affixes.aliases text ≡ Ok set
  pub ordinary : HasOrdinaryFlags affixes → AreOrdinary set

-- the entry with a place has the flags of a text
pub record HasFlagsOf (affixes : Affixes) (entries : List Entry) (text : List ℕ)
    (place : ℕ) : Type 0 where
  pub entry : Entry
  pub at : slice_get entries place ≡ Some entry
  pub set : IsSetOf affixes text entry.flags

-- each text is kept with the place of an entry that has its flags
abbrev pub AreKnown : {S : Type 0} → Affixes → List Entry → IndexMap (Bor (List ℕ)) ℕ S → Type 0
AreKnown affixes entries known = (text : Bor (List ℕ)) (place : ℕ)
    → get (λ key other. bytes_eq key.now other.now) known text ≡ Some place
    → HasFlagsOf affixes entries text.now place

-- these are the flags of a text
abbrev pub AreFlagsOf : Affixes → List Entry → List ℕ → Flags → Type 0
AreFlagsOf affixes entries text (Like place) = HasFlagsOf affixes entries text place
AreFlagsOf affixes entries text (New own set) = (own.now ≡ text) × IsSetOf affixes text set

-- an entry that others are like is there
abbrev pub IsLikePlaced : List Entry → Flags → Type 0
IsLikePlaced entries (Like place) = place < length entries
IsLikePlaced entries (New own set) = Unit {0}

-- the flags that an entry was read with
abbrev pub flags_in : List Entry → Flags → List Flag
flags_in entries (Like place) = option_map_or (λ entry. entry.flags) (slice_get entries place) []
flags_in entries (New own set) = set

-- the bytes of a word
abbrev pub bytes_of : Word → List ℕ
bytes_of (Written word) = word.now
bytes_of (Made word) = string_bytes word

-- the entry that was read behind these
abbrev pub entry_of_found : List Entry → FoundEntry → Entry
entry_of_found entries found =
    record { word = chars (bytes_of found.word); flags = flags_in entries found.flags }
