-- Nothing but spaces was left out, and a space stands first there.
use Rattle.std.proofs.Common.{◌≡◌, ◌+◌, ◌<◌, ◌≤◌, length, take, slice_index}
use Rattle.std.specs.List.{suffix_len}
use Rattle.personal_words.specs.Items.{is_space}
use Rattle.personal_words.proofs.cutting.end_of_text.Given as goal

abbrev pub invariant-loop-end : goal.invariant-loop-end
invariant-loop-end l = record {
  within : l.end ≤ length l.text;
  spaces : l.end + suffix_len is_space l.text ≡ length l.text + suffix_len is_space
      (take l.end l.text);
  begins : l.end < length l.text → slice_index l.text l.end ≡ 32;
}

abbrev pub decreases-loop-end : goal.decreases-loop-end
decreases-loop-end l = l.end
