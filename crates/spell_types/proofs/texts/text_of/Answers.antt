-- One character more is written.
use Rattle.std.proofs.Common.{◌≡◌, ◌∙◌, ap, subst, []}
use Rattle.std.specs.Str.{IsUtf8, chars, encode_utf8_all}
use Rattle.std.specs.String.{string_bytes}
use Rattle.std.proofs.lemmas.List.{take_all}
use Rattle.std.proofs.lemmas.Str.{IsUtf8-string_bytes}
use Rattle.spell_types.proofs.TextLemmas.{written-more, read}
use Rattle.spell_types.proofs.texts.text_of.Goals as goal

pub loop-c-preserved : goal.loop-c-preserved
loop-c-preserved c =
    written-more [] (string_bytes c.loop-c.text) (string_bytes c.push.new.self)
    c.args.characters.now c.loop-c.c-index c.c-item.result c.loop-c-test.true c.c-item.is
    c.loop-c.invariant c.in_ok-push.ensures.bytes

pub returns : goal.returns
returns c =
    let all : string_bytes c.loop-c.text ≡ encode_utf8_all c.args.characters.now =
    c.loop-c.invariant
    ∙ ap encode_utf8_all (take_all c.loop-c.c-index c.args.characters.now c.loop-c-test.false) in
    ap chars all
    ∙ read c.args.characters.now (subst IsUtf8 all (IsUtf8-string_bytes c.loop-c.text))
