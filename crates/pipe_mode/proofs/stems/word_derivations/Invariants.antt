-- What is found are the derivations of the spellings before the loop's place.
use Rattle.std.proofs.Common.{◌≡◌, take}
use Rattle.std.specs.List.{flat_map}
use Rattle.pipe_mode.specs.Stems.{derivations_as}
use Rattle.pipe_mode.proofs.stems.word_derivations.Given as goal

abbrev pub invariant-loop-spelling : goal.invariant-loop-spelling
invariant-loop-spelling l =
    l.found.items
    ≡ flat_map (derivations_as l.stems l.word) (take l.spelling-index l.spelling-items)
