-- The dictionary that is made is found in memory under its names.
use Rattle.std.proofs.Common.{◌≡◌, ap, refl, Option, None, Some, ℕ, [], ◌∷◌, String, Vec, Global}
use Rattle.std.proofs.Common.{true, false, codes}
use Rattle.std.specs.Str.{bytes_eq}
use Rattle.std.specs.String.{string_bytes}
use Rattle.outside.specs.Files.{Folder}
use Rattle.outside.specs.Memory.{file_of}
use Rattle.work_maker.specs.Made.{aff_bytes, dic_bytes}
use Rattle.report_forms.specs.Due.{HasMade}
use Rattle.file_loading.specs.Due.{IsOwnThere, OwnFiles}
use Rattle.file_loading.specs.Operands.{DictionaryNamed}

-- two files with these names and bytes are those of the dictionary
pub made-found : (size : ℕ) (first second : String Global) (aff dic : Vec ℕ Global)
    → string_bytes first ≡ codes "made.aff" → string_bytes second ≡ codes "made.dic"
    → aff.items ≡ aff_bytes → dic.items ≡ dic_bytes size
    → HasMade size (Some (file_of ((first, aff) ∷ (second, dic) ∷ [])))
made-found size first second aff dic is_first is_second is_aff is_dic =
    (rw first_is (ap Some is_aff), rw first_is_not (rw second_is (ap Some is_dic)))
  where
    first_is : bytes_eq (string_bytes first) (codes "made.aff") ≡ true
    first_is = ap (λ name. bytes_eq name (codes "made.aff")) is_first

    first_is_not : bytes_eq (string_bytes first) (codes "made.dic") ≡ false
    first_is_not = ap (λ name. bytes_eq name (codes "made.dic")) is_first

    second_is : bytes_eq (string_bytes second) (codes "made.dic") ≡ true
    second_is = ap (λ name. bytes_eq name (codes "made.dic")) is_second

-- the names of a dictionary that is made
abbrev pub made_names : DictionaryNamed
made_names = record { aff = codes "made.aff"; dic = codes "made.dic"; own = None }

-- what there is of the files that are made is the dictionary that is made, without personal words
pub made-there : (size : ℕ) (told : Option Folder) {there : OwnFiles} → HasMade size told
    → IsOwnThere told made_names there
    → there ≡ record {
      dictionary = record { aff = Some aff_bytes; dic = Some (dic_bytes size) };
      own = None;
    }
made-there size None has is = absurd has
made-there size (Some folder) has is = rw (is, has.0, has.1) refl
