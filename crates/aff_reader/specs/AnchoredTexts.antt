-- Texts that are anchored at the front or at the end of a word.
use Rattle.std.specs.Prelude.{ℕ, ◌-◌, Bool, ◌&&◌, List, length, take, drop, codes, nat_eq, nat_lt}
use Rattle.std.specs.Prelude.{if◌then◌else◌}
use Rattle.std.specs.List.{starts_with, ends_with}
use Rattle.spell_types.specs.declared.breaks.Anchored.{Anchored}

-- whether a `^` stands at the front of a text with more behind it; alone it is literal
abbrev pub has_front : List ℕ → Bool
has_front text = nat_lt 1 (length text) && starts_with nat_eq text (codes "^")

abbrev pub without_front : List ℕ → List ℕ
without_front text = if has_front text then drop 1 text else text

-- whether a `$` stands at the end of a text with more before it; alone it is literal
abbrev pub has_back : List ℕ → Bool
has_back text = nat_lt 1 (length text) && ends_with nat_eq text (codes "$")

abbrev pub without_back : List ℕ → List ℕ
without_back text = if has_back text then take (length text - 1) text else text

-- what a text stands for: the anchor at its front is looked for first, and that at its end in what
-- is left
abbrev pub anchored_text_of : List ℕ → Anchored
anchored_text_of text =
    let rest = without_front text in
    record { text = without_back rest; front = has_front text; back = has_back rest }
