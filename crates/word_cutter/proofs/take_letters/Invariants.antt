-- The letters up to here are those that were put.
use Rattle.std.proofs.Common.{◌≡◌, take, true}
use Rattle.std.specs.Char.{is_ascii_alphabetic}
use Rattle.std.specs.List.{AllByRecursion}
use Rattle.word_cutter.proofs.take_letters.Given as goal

abbrev pub invariant-loop-byte : goal.invariant-loop-byte
invariant-loop-byte l = record {
  put : l.word.items ≡ take l.byte-index l.text;
  letters : AllByRecursion (λ c. is_ascii_alphabetic c ≡ true) l.word.items;
}
