-- Marks as C is told them.
use Rattle.std.specs.Prelude.{ℕ, List, Option, Some, None, nat_eq, if◌then◌else◌}
use Rattle.mark_types.specs.declared.Mark.{Mark}
use Rattle.positions.specs.Walks.{offset_at}
use Rattle.positions.specs.declared.Encoding.{Encoding}
use Rattle.positions.specs.declared.Encoding.TheVariants.{Utf8, Utf16, Utf32}
use Rattle.affedit_c.specs.declared.marking.MarkSpan.{MarkSpan}

-- where a marked word stands
abbrev pub span_of_mark : Mark → MarkSpan
span_of_mark mark = record { from = mark.from; to = mark.to }

-- where it stands in a text whose places are counted in these units
abbrev pub span_in : Encoding → List ℕ → Mark → MarkSpan
span_in encoding text mark =
    record { from = offset_at encoding text mark.from; to = offset_at encoding text mark.to }

-- the units of places that a number of C's names
abbrev pub encoding_of : ℕ → Option Encoding
encoding_of number =
    if nat_eq number 0 then Some Utf8
    else if nat_eq number 1 then Some Utf16
    else if nat_eq number 2 then Some Utf32 else None
