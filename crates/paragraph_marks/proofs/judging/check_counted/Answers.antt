-- All words are judged, and the marks among them are the paragraph's.
use Rattle.std.specs.Str.{chars}
use Rattle.paragraph_marks.proofs.MarkLemmas.{AreAllOf, all-of}
use Rattle.paragraph_marks.proofs.judging.check_counted.Given.{Over}
use Rattle.paragraph_marks.proofs.judging.check_counted.Goals as goal

all : (g : Over) (c : goal.After-from_vec g)
    → AreAllOf (g.K.Asker.lexicon c.args.asker.now) c.args.text.now c.in_ok-passed.passed.words
    c.from_vec.result
all g c =
    let lexicon = g.K.Asker.lexicon c.args.asker.now in
    let judged = c.in_ok-passed.ensures in
    all-of lexicon c.args.text.now 4294967295 c.in_ok-passed.passed.words c.of.result
    c.in_ok-passed.passed.left c.new-marks.result.items c.judge_words.new.marks.items
    c.from_vec.result (c.of.ensures.words lexicon.affixes.wordchars) c.of.ensures.text
    c.of.ensures.at c.requires.small
    judged.left judged.count judged.few judged.behind c.new-marks.ensures.items judged.marks
    c.from_vec.ensures
    (c.words_stand_in_their_text.ensures lexicon.affixes.wordchars (chars c.args.text.now))
    (c.marks_are_local.ensures.alone lexicon.affixes.wordchars (chars c.args.text.now))

pub returns-clause-marks : goal.returns-clause-marks
returns-clause-marks g c = (all g c).marks

pub returns-clause-words : goal.returns-clause-words
returns-clause-words g c = (all g c).words

pub returns-clause-fewer : goal.returns-clause-fewer
returns-clause-fewer g c = (all g c).fewer
