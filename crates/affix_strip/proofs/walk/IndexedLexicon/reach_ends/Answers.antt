-- The tables are those of the dictionary.
use Rattle.affix_strip.proofs.walk.IndexedLexicon.reach_ends.Goals as goal

pub returns : goal.returns
returns c = c.reach_ends.ensures c.args.self.now.lexicon c.requires.ready.inside
