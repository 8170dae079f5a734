-- The entry passes, or one more does not.
use Rattle.std.proofs.Common.{◌≡◌, ◌∙◌, ◌||◌, false, not, Option, List, [], ◌∷◌, None, Some, refl}
use Rattle.std.proofs.Common.{sym}
use Rattle.std.proofs.Common.{ap}
use Rattle.std.specs.Option.{is_some}
use Rattle.spell_types.specs.declared.flags.Flag.{Flag}
use Rattle.std.specs.List.{list_any}
use Rattle.spell_types.specs.declared.Entry.{Entry}
use Rattle.spell_types.specs.declared.Lexicon.{Lexicon}
use Rattle.spell_types.specs.lists.Laws.{any-at}
use Rattle.spell_types.specs.Flags.{has}
use Rattle.affix_strip.specs.Tables.{is_forbidden_entry}
use Rattle.affix_strip.proofs.TurnLemmas.{any-past}
use Rattle.affix_strip.proofs.barring.one_is_forbidden.Goals as goal

none : (lexicon : Lexicon) (entries : List Entry) → lexicon.affixes.signs.forbidden ≡ None
    → false ≡ list_any (is_forbidden_entry lexicon) entries
none lexicon [] lacks = refl
none lexicon (entry ∷ entries) lacks =
    none lexicon entries lacks
    ∙ ap (λ flag. has entry.flags flag || list_any (is_forbidden_entry lexicon) entries) (sym lacks)

lacking : (found : Option Flag) → is_some found ≡ false → found ≡ None
lacking None isnt = refl
lacking (Some flag) isnt = absurd (cc isnt)

pub returns-then-is_none : goal.returns-then-is_none
returns-then-is_none c =
    none c.args.lexicon.now c.args.lexicon.now.entries
    (lacking c.args.lexicon.now.affixes.signs.forbidden
    (c.is_none.ensures ∙ ap not c.if-is_none.true))

pub returns-then-has : goal.returns-then-has
returns-then-has c =
    let lexicon = c.args.lexicon.now in
    sym (any-at (is_forbidden_entry lexicon) lexicon.entries c.loop-place.place c.at.result
    c.at.ensures
    (sym (ap (λ flags. has flags lexicon.affixes.signs.forbidden) c.flags.ensures)
    ∙ sym c.has.ensures ∙ c.if-has.true))

pub loop-place-preserved : goal.loop-place-preserved
loop-place-preserved c =
    let lexicon = c.args.lexicon.now in
    any-past (is_forbidden_entry lexicon) lexicon.entries c.loop-place.place c.at.result
    c.at.ensures
    (sym (ap (λ flags. has flags lexicon.affixes.signs.forbidden) c.flags.ensures)
    ∙ sym c.has.ensures ∙ c.if-has.false)
    c.loop-place.invariant
