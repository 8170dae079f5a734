-- What stays of the derivations of a spelling is added, where the spelling is not forbidden.
use Rattle.std.proofs.Common.{rules, ◌≡◌, filter, arith}
use Rattle.std.proofs.lemmas.Fn.{filter_same}
use Rattle.std.proofs.lemmas.Grind.{common_steps}
use Rattle.spell_types.specs.Bases.{case_of, is_alone_in_case}
use Rattle.pipe_mode.proofs.stems.add_derivations.Goals as goal

pub returns : goal.returns
returns c =
    let lexicon = c.args.stems.now in
    let case =
    case_of lexicon.affixes.options.sharps c.args.word.now c.args.spelling.now in
    let kept : c.retain.new.self.items
    ≡ filter (is_alone_in_case case lexicon) c.in_ok-standing.standing.items =
    filter_same _ (is_alone_in_case case lexicon) _ (λ d b f called. search rules) _ _
    c.retain.ensures.filtered in
    grind (arith, common_steps, kept)
