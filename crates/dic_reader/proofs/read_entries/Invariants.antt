-- So far the entries are those of the lines that are gone, and none of them has a fault.
use Rattle.std.proofs.Common.{◌≡◌, ℕ, ◌+◌, ◌<◌, ◌≤◌, List, All, length, map, take, drop}
use denote.Shadow.{shadow}
use denote.Text.{Utf8}
use Rattle.text_lines.specs.declared.found.Line.{Line}
use Rattle.text_lines.specs.Lines.{text_of}
use Rattle.text_lines.specs.Texts.{texts_in}
use Rattle.spell_types.specs.declared.Entry.{Entry}
use Rattle.spell_types.specs.Sanity.{HasOrdinaryFlags, HaveOrdinaryFlags}
use Rattle.dic_reader.specs.Entries.{listed, AreLinesOf}
use Rattle.dic_reader.specs.KnownSets.{AreKnown}
use Rattle.dic_reader.proofs.TurnLemmas.{AreRead}
use Rattle.dic_reader.proofs.read_entries.Given as goal

abbrev pub invariant-loop-rest : goal.invariant-loop-rest
invariant-loop-rest l = record {
  lines : (bytes : List ℕ) (lines : List Line) → AreLinesOf bytes 2 lines l.text
      → (texts_in l.rest ≡ drop l.gone (map (text_of bytes) lines))
      × AreRead l.affixes l.limit (listed bytes (take l.gone lines)) l.entries;
  few : length l.entries ≤ l.limit;
  words : All (λ (entry : Entry). 0 < length entry.word) l.entries;
  known : AreKnown l.affixes l.entries l.known;
  ordinary : HasOrdinaryFlags l.affixes → HaveOrdinaryFlags l.entries;
  utf8 : shadow (Utf8 l.rest);
  left : l.gone + length l.rest ≤ length l.text;
}

abbrev pub decreases-loop-rest : goal.decreases-loop-rest
decreases-loop-rest l = length l.rest
