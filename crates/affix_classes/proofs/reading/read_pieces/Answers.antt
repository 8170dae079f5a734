-- Each piece that is read moves on, and at the end all is read.
use Rattle.std.proofs.Common.{◌≡◌, ◌∙◌, ◌≢◌, ◌+◌, None, Some, length, length-drop, ap}
use Rattle.std.proofs.Common.{arith, rules, subst, sym}
use Rattle.spell_types.specs.lists.Laws.{take-rest}
use Rattle.affix_classes.specs.declared.reading.ConditionFault.TheVariants.{NoMemory}
use Rattle.affix_classes.specs.ConditionTexts.{pieces_of}
use Rattle.affix_classes.proofs.PieceLemmas.{piece_read, none_read, all_read}
use Rattle.affix_classes.proofs.reading.read_pieces.Goals as goal

pub returns-in_err-piece-clause-fault : goal.returns-in_err-piece-clause-fault
returns-in_err-piece-clause-fault c =
    let l = c.loop-place in
    let none : (c.in_err-piece.field-0.0 ≢ NoMemory → pieces_of c.args.text.now ≡ None) =
    λ other. none_read c.args.text.now l.made.items l.place c.index-text-place.result
    c.loop-place-test.true c.index-text-place.is (c.in_err-piece.ensures.fault other)
    l.invariant.whole in
    search (rules, none)

pub loop-place-preserved : goal.loop-place-preserved
loop-place-preserved c =
    let l = c.loop-place in record {
      within = omega (
        arith,
        c.in_ok-piece.ensures.within,
        ap length (take-rest (l.place + 1) c.args.text.now),
        length-drop (l.place + 1) c.args.text.now,
      );
      whole = piece_read c.args.text.now l.made.items c.push.new.self.items l.place
          c.index-text-place.result c.in_ok-piece.piece c.in_ok-piece.more c.loop-place-test.true c.index-text-place.is
          c.in_ok-piece.ensures.piece (search rules) l.invariant.whole;
    }

pub returns-clause-condition : goal.returns-clause-condition
returns-clause-condition c =
    subst (λ made. pieces_of c.args.text.now ≡ Some made)
    (sym (c.from_vec.ensures ∙ c.shrink_to_fit.ensures.items))
    (all_read c.args.text.now c.loop-place.made.items c.loop-place.place c.loop-place-test.false
    c.loop-place.invariant.whole)
