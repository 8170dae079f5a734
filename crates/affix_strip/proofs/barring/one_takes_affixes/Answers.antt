-- The entry passes, or one more does not.
use Rattle.std.proofs.Common.{◌≡◌, ◌∙◌, sym, ap, ◌&&◌, false}
use Rattle.std.proofs.lemmas.Bool.{and_from, and_right}
use Rattle.spell_types.specs.lists.Laws.{any-at}
use Rattle.spell_types.specs.Flags.{has, has_flag_of}
use Rattle.affix_strip.specs.Tables.{takes_affixes}
use Rattle.affix_strip.proofs.TurnLemmas.{any-past, told-at}
use Rattle.affix_strip.proofs.barring.one_takes_affixes.Goals.{else-has-via-then-has+else-index}
use Rattle.affix_strip.proofs.barring.one_takes_affixes.Goals.{else-has-via-else-has}
use Rattle.affix_strip.proofs.barring.one_takes_affixes.Goals as goal

pub returns-then-index : goal.returns-then-index
returns-then-index c =
    let lexicon = c.args.lexicon.now in
    let classes = c.args.classes.now in
    let forbidden = lexicon.affixes.signs.forbidden in
    let entry = c.at.result in
    sym (any-at (takes_affixes lexicon classes) lexicon.entries c.loop-place.place entry
    c.at.ensures
    (and_from (has entry.flags forbidden) (has_flag_of classes entry.flags)
    (sym (ap (λ flags. has flags forbidden) c.flags.ensures) ∙ sym c.has.ensures ∙ c.if-has.true)
    (sym (told-at (λ e. has_flag_of classes e.flags) lexicon.entries c.in_ok-having.having.items
    c.loop-place.place entry c.index.result.now c.in_ok-having.ensures c.at.ensures)
    ∙ sym c.index.ensures ∙ c.if-index.true)))

pub loop-place-preserved : goal.loop-place-preserved
loop-place-preserved c =
    let lexicon = c.args.lexicon.now in
    let classes = c.args.classes.now in
    let forbidden = lexicon.affixes.signs.forbidden in
    let entry = c.at.result in
    let fails : takes_affixes lexicon classes entry ≡ false =
    elim c.else-has.branch [
      | else-has-via-then-has+else-index w ↦
          and_right (has entry.flags forbidden) (has_flag_of classes entry.flags)
          (sym (told-at (λ e. has_flag_of classes e.flags) lexicon.entries
          c.in_ok-having.having.items c.loop-place.place entry w.index.result.now
          c.in_ok-having.ensures c.at.ensures)
          ∙ sym w.index.ensures ∙ w.if-index.false)
      | else-has-via-else-has w ↦
          ap (λ flags. has flags forbidden && has_flag_of classes entry.flags)
          (sym c.flags.ensures)
          ∙ ap (λ b. b && has_flag_of classes entry.flags) (sym c.has.ensures ∙ w.if-has.false)
    ] in
    any-past (takes_affixes lexicon classes) lexicon.entries c.loop-place.place entry c.at.ensures
    fails c.loop-place.invariant
