-- The bytes of an entry's word are those of its characters.
use Rattle.std.proofs.Common.{◌∙◌, ap, sym, [], encode_utf8_all}
use Rattle.std.specs.Option.{option_map_or}
use Rattle.std.proofs.lemmas.Str.{encodes-chars}
use Rattle.pipe_mode.proofs.words.stem_of.Goals as goal

pub returns-in-Some : goal.returns-in-Some
returns-in-Some c =
    sym (encodes-chars c.word.result.now c.word.utf8) ∙ ap encode_utf8_all c.word.ensures
    ∙ ap (λ found. option_map_or (λ entry. encode_utf8_all entry.word) found [])
    (sym (sym c.get.ensures ∙ c.in-Some.is))
