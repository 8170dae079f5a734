-- What files in memory tell.
use Rattle.std.specs.Prelude.{ℕ, List, find, option_map}
use Rattle.std.specs.Prelude.{bytes_eq, string_bytes, String, Vec}
use Rattle.std.specs.declared.alloc.Global.{Global}
use Rattle.outside.specs.Files.{Folder}

-- the bytes of the first file of a name, where there is one
abbrev pub file_of : List (String Global × Vec ℕ Global) → Folder
file_of files name =
    option_map (λ file. file.1.items) (find (λ file. bytes_eq (string_bytes file.0) name) files)
